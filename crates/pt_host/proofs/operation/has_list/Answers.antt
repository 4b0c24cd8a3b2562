use Rattle.std.proofs.Common.{◌∙◌, ap, sym}
use Rattle.std.specs.Prelude.{is_some}
use Rattle.pt_host.proofs.ListedEnds.{some_mapped}
use Rattle.pt_host.proofs.operation.has_list.Goals as goal

pub returns : goal.returns
returns c = c.is_some.ensures ∙ sym (some_mapped (λ list. list.now.value) c.list.result) ∙ ap is_some c.list.ensures

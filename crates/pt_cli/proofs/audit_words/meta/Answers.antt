use Rattle.pt_cli.specs.Options.{audit_meta}
use Rattle.pt_cli.proofs.audit_words.meta.Goals as goal

pub returns : goal.returns
unfolding audit_meta
returns c = c.meta_of.ensures

use Rattle.std.proofs.Common.{ℕ, List, refl}
use Rattle.pt_host.proofs.ListedEnds.{ends_with_list}
use Rattle.pt_host.proofs.ToldUnmet.{told_list}
use Rattle.pt_host.specs.HostCall.{Tell}
use Rattle.pt_host.proofs.guarded.make_told.Goals as goal

pub returns : goal.returns
returns g c =
    let tells : List ℕ → g.row.H.Denot → g.row.H.Denot → Type 0 = λ text old new. g.H.Host.does old (Tell text) new in
    let list = g.O.Operation.list_of c.args.operation in
    let has = c.has_list-has_list.ensures in
    let ended = c.end_with_list-status.ensures in (
      c.make-made.result,
      c.make-made.new.host,
      c.tell_end.new.host,
      c.make-made.ensures,
      c.tell_end.ensures,
      told_list tells list c.has_list-has_list.result c.make-made.result c.tell_end.new.host c.end_with_list-status.new.host has ended.untold ended.told,
      ends_with_list list c.has_list-has_list.result c.make-made.result.unmet c.make-made.result.status _ has ended.none ended.some,
      refl,
    )

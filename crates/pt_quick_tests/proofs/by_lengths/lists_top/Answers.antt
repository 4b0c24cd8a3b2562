use Rattle.std.proofs.Common.{subst, sym}
use Rattle.pt_compare.proofs.Reading.{can_list_top}
use Rattle.pt_tree.specs.Path.{Path}
use Rattle.pt_tree.specs.Source.{CanList}
use Rattle.pt_quick_tests.proofs.by_lengths.lists_top.Goals as goal

pub list-requires : goal.list-requires
list-requires g c = subst (λ (p : Path). CanList (g.S.Source.told c.args.source.now) p) (sym c.new.ensures) (can_list_top (g.S.Source.told c.args.source.now))

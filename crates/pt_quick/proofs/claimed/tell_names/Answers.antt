use Rattle.std.proofs.Common.{sym, subst}
use Rattle.std.proofs.lemmas.List.{take_all}
use Rattle.std.proofs.lemmas.List.Elements.{All-map, All-more, All-same}
use Rattle.pt_object.specs.declared.rows.Row.{Row}
use Rattle.pt_tree.specs.Name.{AreNames}
use Rattle.pt_quick.proofs.claimed.tell_names.Goals as goal

pub loop-row-preserved : goal.loop-row-preserved
loop-row-preserved c =
    All-more (λ (row : Row). AreNames row.path) c.args.rows.now c.loop-row.row-index c.row-item.result c.loop-row-test.true c.loop-row.invariant
    (subst (λ (row : Row). AreNames row.path) c.row-item.is (subst AreNames c.names.ensures c.tell_path.ensures))

pub returns : goal.returns
returns c = All-map AreNames (λ (row : Row). row.path) c.args.rows.now
    (All-same (λ (row : Row). AreNames row.path) _ _ (sym (take_all _ _ c.loop-row-test.false)) c.loop-row.invariant)

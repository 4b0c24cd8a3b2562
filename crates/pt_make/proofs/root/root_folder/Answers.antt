use Rattle.std.proofs.Common.{arith, refl}
use Rattle.pt_make.proofs.RootTurns.{folder_item}
use Rattle.pt_make.proofs.root.root_folder.Goals as goal

pub returns-then-item-eq0 : goal.returns-then-item-eq0
returns-then-item-eq0 c = let at = c.if-item-eq0.true in λ tuples. folder_item tuples _ 0 _ _ (omega (arith, at)) refl c.of_known.ensures

pub returns-then-item-eq1 : goal.returns-then-item-eq1
returns-then-item-eq1 c = let at = c.if-item-eq1.true in λ tuples. folder_item tuples _ 1 _ _ (omega (arith, at)) refl c.of_known-then-item-eq1.ensures

pub returns-else-item-eq1 : goal.returns-else-item-eq1
returns-else-item-eq1 c =
    let few = c.requires in
    let some = c.if-item-eq0.false in
    let more = c.if-item-eq1.false in
    λ tuples. folder_item tuples _ 2 _ _ (omega (arith, few, some, more)) refl c.of_known-else-item-eq1.ensures

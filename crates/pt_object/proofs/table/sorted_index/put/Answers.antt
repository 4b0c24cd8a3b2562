use Rattle.std.proofs.Common.{arith, refl}
use Rattle.pt_object.proofs.Rowed.{passed_none, passed_more, passed_last, rows_last}
use Rattle.pt_object.proofs.table.sorted_index.put.Goals as goal

pub loop-i-init : goal.loop-i-init
loop-i-init c = passed_none _ _ _ c.requires.rows c.requires.room c.requires.within

pub loop-i-preserved : goal.loop-i-preserved
loop-i-preserved c = passed_more _ _ _ _ _ _ _ _ _ c.index-rows-i.result c.requires.rows c.loop-i.invariant (omega arith) c.pass-passed.ensures.items

pub returns-clause-items : goal.returns-clause-items
returns-clause-items c = passed_last _ _ _ _ _ _ _ _ _ c.index-rows-last.result c.loop-i.invariant (omega (arith, c.loop-i.invariant.within)) c.insert.ensures

pub returns-clause-rows : goal.returns-clause-rows
returns-clause-rows c =
    rows_last _ _ _ _ _ _ _ _ _ c.index-rows-last.result c.requires.rows c.requires.room c.loop-i.invariant (omega (arith, c.loop-i.invariant.within)) refl
    c.insert.ensures

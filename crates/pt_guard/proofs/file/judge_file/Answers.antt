use Rattle.std.proofs.Common.{inr}
use Rattle.pt_guard.proofs.file.judge_file.Goals as goal

pub returns-in-Apart : goal.returns-in-Apart
returns-in-Apart g c = rw c.in-Apart.is at c.in_ok-nesting_of_file.ensures.ok

pub returns-in-Inside : goal.returns-in-Inside
returns-in-Inside g c = rw c.in-Inside.is at c.in_ok-nesting_of_file.ensures.ok

pub returns-in-Unknown : goal.returns-in-Unknown
returns-in-Unknown g c = rw c.in-Unknown.is at c.in_ok-nesting_of_file.ensures.ok

pub returns-in-Wanting : goal.returns-in-Wanting
returns-in-Wanting g c = inr (rw c.in-Wanting.is at c.in_ok-nesting_of_file.ensures.ok)

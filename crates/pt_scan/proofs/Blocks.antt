-- The block that is held after a turn that read it.
use Rattle.std.specs.Prelude.{◌≡◌, Bool, true, false, IfOk, List, ℕ, Option, Ok, Err}
use Rattle.std.specs.Bool.{OnTrue}
use Rattle.pt_plan.specs.Answer.{Answer}
use Rattle.pt_plan.specs.Turn.{Did}
use Rattle.pt_plan.specs.DeviceStates.{Answers, Reads, DeviceStates, asks}
use Rattle.pt_scan.specs.Blocks.{IsNextBlock, KeepsBlock, is_reading}
use Rattle.pt_tree.specs.Source.{IsRead, Reading}

pub read_by : (block : List ℕ) (before after : DeviceStates) → Did (asks (Reads block)) before after → IsRead before.source block
unfolding Did Answers
read_by block before after did = did.0.source.0

pub next_block : (told : Option Reading) (old new : List ℕ) (answer : Answer) → IsRead told old → IfOk answer (KeepsBlock old new)
    → IfOk answer (IsNextBlock told new)
next_block told old new (Err why) read keeps = tt
next_block told old new (Ok next) read keeps = by (is_reading next) keeps
  where
    by : (b : Bool) → OnTrue b (new ≡ old) → OnTrue b (IsRead told new)
    by true same = rw same read
    by false keeps = tt

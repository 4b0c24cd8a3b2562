-- The block that a turn reads of a file.
use Rattle.std.specs.Prelude.{◌≡◌, ℕ, Bool, true, false, IfOk, List, Option}
use Rattle.std.specs.Bool.{OnTrue}
use Rattle.pt_plan.specs.Answer.{Answer}
use Rattle.pt_plan.specs.declared.phase.Phase.{Phase}
use Rattle.pt_plan.specs.declared.phase.Phase.TheVariants as phase
use Rattle.pt_plan.specs.declared.phase.Stage.TheVariants as stage
use Rattle.pt_tree.specs.Source.{IsRead, Reading}

-- a file is read on
abbrev pub is_reading : Phase → Bool
is_reading (phase.Carrying object (stage.Read bytes)) = true
is_reading _ = false

-- where the file is read on, the block that is held is the one that was read of a source that told this
abbrev pub IsNextBlock : Option Reading → List ℕ → Phase → Type 0
IsNextBlock told block next = OnTrue (is_reading next) (IsRead told block)

-- and is still the one that was held
abbrev pub KeepsBlock : List ℕ → List ℕ → Phase → Type 0
KeepsBlock old new next = OnTrue (is_reading next) (new ≡ old)

-- so it is after a turn at a phase where a file was read
abbrev pub ReadsNext : Phase → Option Reading → List ℕ → Answer → Type 0
ReadsNext here told block answer = OnTrue (is_reading here) (IfOk answer (IsNextBlock told block))

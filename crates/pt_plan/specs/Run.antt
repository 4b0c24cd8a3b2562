-- What a run holds between two turns, as plain data.
use Rattle.std.specs.Prelude.{ℕ, ◌+◌, List, []}
use Rattle.pt_object.specs.declared.table.contents.Content.{Content}
use Rattle.pt_object.specs.declared.rows.Row.{Row}
use Rattle.pt_plan.specs.declared.phase.Phase.{Phase}
use Rattle.pt_plan.specs.declared.phase.Opening.TheVariants as opening
use Rattle.pt_plan.specs.declared.phase.Phase.TheVariants as phase
use Rattle.pt_walk.specs.declared.frame.Frame.{Frame}

-- what it holds of the source: the listings on the way, the files of the object that it is at, which of them are stored, and what its hasher has been
-- fed: what it has read of the open file since it opened it, or an inventory's text until its sidecar is made
pub record Held : Type 0 where
  pub trail : List Frame
  pub rows : List Row
  pub contents : List Content
  pub fed : List ℕ

-- the lines of each kind that it put, and the turns that it made
pub record Counts : Type 0 where
  pub done : ℕ
  pub present : ℕ
  pub skipped : ℕ
  pub turns : ℕ

-- what a run keeps beside its phase: the prefix that it read, what it holds, and its counts
pub record Kept : Type 0 where
  pub prefix : List ℕ
  pub held : Held
  pub counts : Counts

-- all of it: where it stands, and what it keeps
pub record Run : Type 0 where
  pub phase : Phase
  pub kept : Kept

-- nothing is held
abbrev pub nothing_held : Held
nothing_held = record { trail = []; rows = []; contents = []; fed = [] }

-- nothing is counted
abbrev pub no_counts : Counts
no_counts = record { done = 0; present = 0; skipped = 0; turns = 0 }

-- a run that is to begin
abbrev pub new_run : Run
new_run = record
    { phase = (phase.Opening opening.Begin); kept = record { prefix = []; held = nothing_held; counts = no_counts } }

-- with another trail
abbrev pub with_trail : Held → List Frame → Held
with_trail held trail = record held { trail = trail }

-- with other bytes fed to the hasher
abbrev pub with_fed : Held → List ℕ → Held
with_fed held fed = record held { fed = fed }

-- the turn is counted as it begins, a faulty one too
abbrev pub turning : Kept → Kept
turning kept = record kept { counts = record kept.counts { turns = kept.counts.turns + 1 } }

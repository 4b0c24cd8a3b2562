-- What a run holds between two turns, as the definitions of a run see it.
use Rattle.std.specs.Prelude.{◌≡◌, ℕ, List, []}
use Rattle.std.specs.String.{string_bytes}
use Rattle.pt_object.specs.declared.table.contents.Content.{Content}
use Rattle.pt_object.specs.declared.rows.Row.{Row}
use Rattle.pt_walk.specs.Trail.{sought}
use Rattle.pt_walk.specs.declared.frame.Frame.{Frame}
use Rattle.pt_plan.specs.Job.{Job}
use Rattle.pt_plan.specs.Met.{unmet_after}
use Rattle.pt_plan.specs.Run.{Counts, Held, Kept}
use Rattle.pt_plan.specs.declared.phase.Phase.{Phase}
use Rattle.pt_state.specs.declared.job.Job as own
use Rattle.pt_state.specs.declared.job.Report.{Report}
use Rattle.pt_state.specs.declared.state.State.{State}

-- what it was asked for
abbrev pub job_of : own.Job → Job
job_of job = record {
  meta = job.meta;
  tuples = job.layout;
  algorithm = job.algorithm;
  limits = job.limits;
  gather = job.gather;
  share = job.share;
}

-- its counts
abbrev pub counts_of : Report → Counts
counts_of counts =
    record { done = counts.done; present = counts.present; skipped = counts.skipped; turns = counts.turns }

-- what it holds of the source, where the hasher was fed this
abbrev pub held_of : State → List ℕ → Held
held_of s fed = record { trail = s.trail; rows = s.rows; contents = s.contents; fed = fed }

-- all that it keeps beside its phase
abbrev pub kept_of : State → List ℕ → Kept
kept_of s fed = record { prefix = string_bytes s.prefix; held = held_of s fed; counts = counts_of s.counts }

-- after a turn from this phase those of the list are unmet that the definitions have
abbrev pub IsUnmetAfter : Phase → State → State → Type 0
IsUnmetAfter here s s' =
    s'.unmet ≡ unmet_after (job_of s.job) here (string_bytes s.prefix) s.trail s.unmet

-- all but the block, the hasher and what is unmet is as it was
pub record KeepsAll (s s' : State) : Type 0 where
  pub job : s'.job ≡ s.job
  pub prefix : string_bytes s'.prefix ≡ string_bytes s.prefix
  pub trail : s'.trail ≡ s.trail
  pub rows : s'.rows ≡ s.rows
  pub contents : s'.contents ≡ s.contents
  pub counts : s'.counts ≡ s.counts

-- the trail is at the start of its site again, and nothing of an object is held
pub record IsBack (before after : List Frame) (rows : List Row) (contents : List Content) : Type 0 where
  pub trail : after ≡ sought 0 before
  pub no_rows : rows ≡ []
  pub no_contents : contents ≡ []

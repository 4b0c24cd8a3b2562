-- Numbers that always hold of a run, whatever its devices answer.
use Rattle.std.specs.Prelude.{◌≡◌, ◌≤◌, ◌<◌, ◌+◌, ◌*◌, ℕ, length, ⊤}
use Rattle.pt_make.specs.Root.{looks_at_file}
use Rattle.pt_plan.specs.Job.{Job}
use Rattle.pt_plan.specs.Run.{Counts, Held, Kept}
use Rattle.pt_plan.specs.TurnPlace.{bytes_in_rows}
use Rattle.pt_plan.specs.declared.phase.Phase.{Phase}
use Rattle.pt_plan.specs.declared.phase.Opening.TheVariants as opening
use Rattle.pt_plan.specs.declared.phase.Phase.TheVariants as phase
use Rattle.pt_plan.specs.declared.phase.Stage.TheVariants as stage

-- how many lines were put
abbrev pub lines_put : Counts → ℕ
lines_put counts = counts.done + counts.present + counts.skipped

-- after so many turns: the first two turns are those of their phases; each directory without entries that was met in the object took one of them, a
-- file is read within its limit, and there is room for its row
abbrev pub IsWithin : Job → Phase → Held → ℕ → Type 0
IsWithin job (phase.Opening opening.Begin) held turns = turns ≡ 0
IsWithin job (phase.Opening (opening.Prefix here)) held turns = turns ≡ 1
IsWithin job (phase.Carrying object stage.Open) held turns = object.empty ≤ turns
IsWithin job (phase.Carrying object stage.Scan) held turns = object.empty ≤ turns
IsWithin job (phase.Carrying object (stage.Read bytes)) held turns = (object.empty ≤ turns)
    × (bytes ≤ job.limits.file_bytes) × (length held.rows < job.limits.files)
IsWithin job _ held turns = ⊤

-- the rows are no more than the limits allow, and together no longer
pub record AreFew (job : Job) (held : Held) : Type 0 where
  pub rows : length held.rows ≤ job.limits.files
  pub lengths : bytes_in_rows held.rows ≤ length held.rows * job.limits.file_bytes

-- each line took a turn, and the turns are within their limit; so are the rows, and what the phase counts; and the prefix is one that a store may
-- have (Pairtree 0.1)
pub record IsBounded (job : Job) (here : Phase) (kept : Kept) : Type 0 where
  pub lines : lines_put kept.counts ≤ kept.counts.turns
  pub turns : kept.counts.turns ≤ job.limits.turns
  pub few : AreFew job kept.held
  pub within : IsWithin job here kept.held kept.counts.turns
  pub prefix : length kept.prefix ≤ 1024

-- how often a turn of this phase calls the source at most
abbrev pub most_calls : Phase → ℕ
most_calls (phase.Opening opening.Begin) = 3
most_calls (phase.Opening (opening.Prefix here)) = 2
most_calls _ = 1

-- how often it asks the destination at most what stands
abbrev pub most_looks : Phase → ℕ
most_looks (phase.Opening opening.Staging) = 1
most_looks (phase.Opening opening.Root) = 1
most_looks (phase.Opening (opening.RootCheck file)) = looks_at_file file
most_looks phase.Judge = 1
most_looks (phase.Carrying object (stage.Tuples number)) = 1
most_looks _ = 0

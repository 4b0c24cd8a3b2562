-- A rehearsal tells what the run tells.
use Rattle.std.proofs.Common.{◌≡◌, ◌∙◌, ◌++◌, ◌+◌, ◌==◌, ℕ, true, List, refl, ap, sym}
use Rattle.std.specs.Prelude.{if◌then◌else◌, Option, None, Some, is_some, Ok}
use Rattle.pt_move.specs.Migrates.{Migrates}
use Rattle.pt_move.specs.Outcome.{EndsWhole, IsWhole}
use Rattle.pt_plan.specs.Lines.{End, Line, all_lines, end_line}
use Rattle.pt_plan.specs.Roots.{root_in}
use Rattle.pt_plan.specs.DeviceStates.{DeviceStates, dest_tree}
use Rattle.pt_tree.specs.Source.{tree_in}
use Rattle.pt_state.specs.States.{counts_of, job_of}
use Rattle.pt_state.specs.declared.job.Job.{Job}
use Rattle.pt_state.specs.declared.job.Report.{Report}
use Rattle.pt_tree.specs.Dest.{Writing}
use Rattle.pt_tree.specs.Forest.{Forest}
use Rattle.pt_tree.specs.Tree.{Tree}
use Rattle.pt_host.specs.Ends.{counted_unless, run_status}
use Rattle.pt_host.specs.RehearsalLaw.{RehearsalTellsTheRun}
use Rattle.pt_host.specs.declared.options.AllowedLines.{AllowedLines}

-- what a run that ended well told
whole : (job : Job) (s : Forest) (t : Tree) (now : Writing) (old new : DeviceStates) (report : Report) (first last : List ℕ) → Migrates job old new (Ok report)
    → tree_in old.source ≡ Some s → dest_tree old.dest ≡ Some t → new.dest ≡ Some now → old.log ≡ Some first → new.log ≡ Some last
    → IsWhole (job_of job) s t now first last (counts_of report)
unfolding EndsWhole
whole job s t now old new report first last m source dest plays began ended = m.ends s t now first last source dest plays began ended

same_end : (allowed : AllowedLines) (line : Line) (r r' : Report) → End r.done r.present r.skipped ≡ line → End r'.done r'.present r'.skipped ≡ line
    → run_status allowed (Ok r) ≡ run_status allowed (Ok r')
same_end allowed line r r' is is' = λ i. if counted_unless allowed.present (present i) + counted_unless allowed.skips (skipped i) == 0 then 0 else 1
  where
    both : End r.done r.present r.skipped ≡ End r'.done r'.present r'.skipped
    both = is ∙ sym is'

    present : r.present ≡ r'.present
    present = cc

    skipped : r.skipped ≡ r'.skipped
    skipped = cc

pub rehearsal_told : RehearsalTellsTheRun
rehearsal_told job allowed s t was old new old' new' report report' now first last first' last' rehearsed run source source' dest played began ended began'
    ended' = by rehearsed.plays refl
  where
    by : (o : Option Writing) → rehearsed.plays ≡ o → ((told : List ℕ) × (last ≡ first ++ told) × (last' ≡ first' ++ told))
        × (run_status allowed (Ok report) ≡ run_status allowed (Ok report'))
    by None none = absurd (let tells = rehearsed.tells in let some : is_some {T = Writing} None ≡ true = ap is_some (sym none) ∙ tells in cc)
    by (Some plays) some =
        let here = whole job s t plays (record old { dest = Some (record { tree = t; writing = None }) }) (record new { dest = rehearsed.plays }) report first
        last rehearsed.promises source refl some began ended in
        let there = whole job s t now old' new' report' first' last' run.promises source' dest played began' ended' in
        let same = here.0.2.log ∙ sym there.0.2.log in (
          (here.0.0, here.0.1, there.0.1 ∙ ap (λ (l : List ℕ). first' ++ l) (sym same)),
          same_end allowed (end_line (all_lines (job_of job) s (root_in t))) report report' here.1 there.1,
        )

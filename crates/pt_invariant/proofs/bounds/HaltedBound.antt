-- What a halted run holds is within the source's bound, with the row that a turn may have added.
use Rattle.std.proofs.Common.{◌≤◌, ℕ, ◌+◌, Bool, true, false, List, [], ◌∷◌, ◌++◌, refl, ap, sym, subst, arith, cond, length, inl, inr}
use Rattle.std.specs.Prelude.{Option, Some}
use Rattle.std.proofs.lemmas.List.{length-append}
use Rattle.pt_object.specs.Algorithm.{digest_of}
use Rattle.pt_object.specs.Contents.{content_of, is_noted, noted}
use Rattle.pt_object.specs.declared.table.contents.Content.{Content}
use Rattle.pt_object.specs.declared.rows.Row.{Row}
use Rattle.pt_tree.specs.Forest.{Forest}
use Rattle.pt_tree.specs.Path.{Path}
use Rattle.pt_tree.specs.Source.{Reading, after_next}
use Rattle.pt_walk.specs.Trail.{entries_held}
use Rattle.pt_plan.specs.Answer.{Answer}
use Rattle.pt_plan.specs.Bound.{bound}
use Rattle.pt_plan.specs.Job.{Job}
use Rattle.pt_plan.specs.Run.{Counts, Held, Kept}
use Rattle.pt_plan.specs.Turn.{FailsAtFirst, FailsLater, Next, IsHalted, IsRefused, Make, Place, Scan, Walk}
use Rattle.pt_plan.specs.TurnMake.{MakesStaging}
use Rattle.pt_plan.specs.TurnPlace.{TellsDone}
use Rattle.pt_plan.specs.TurnScan.{EndsFile, IsTooDeep, IsTooLong, MeetsDeep, MeetsLimit, MeetsOther, logical_path, with_file}
use Rattle.pt_plan.specs.TurnWalk.{OpensRoot}
use Rattle.pt_plan.specs.DeviceStates.{Answers, Calls, Reads, asks}
use Rattle.pt_plan.specs.declared.object.Object.{Object}
use Rattle.pt_plan.specs.declared.phase.Phase.{Phase}
use Rattle.pt_plan.specs.declared.phase.Phase.TheVariants as phase
use Rattle.pt_plan.specs.declared.phase.Stage.TheVariants as stage
use Rattle.pt_invariant.specs.RunInvariant.{RunInvariant}
use Rattle.pt_invariant.specs.HeldInvariant.{HeldAt}
use Rattle.pt_invariant.specs.SourceInvariant.{IsWithinBound, SourcePart}
use Rattle.pt_invariant.specs.BoundLaws.{HaltedIsWithinBound}
use Rattle.pt_invariant.specs.History.{History, history_after}
use Rattle.pt_invariant.proofs.bounds.Rooms.{entries_advanced}
use Rattle.pt_invariant.proofs.held.ScansHold.{scans_hold}
use Rattle.pt_invariant.proofs.source.ScansSource.{scans_source}
use Rattle.pt_invariant.proofs.bounds.WithinBound.{within}

-- what is held, but these rows in place of its own, is within the bound
abbrev AreFew : Job → Forest → Held → List Row → Type 0
AreFew job source held rows = entries_held held.trail + length rows + length held.contents ≤ bound job source

-- ---- the rows that a turn leaves

few_none : (job : Job) (source : Forest) (held : Held) → IsWithinBound job source held → AreFew job source held []
few_none job source held few = omega (arith, few)

-- a content that is noted isn't one fewer
no_fewer : (contents : List Content) (digest : List ℕ) (path : Path) → length contents ≤ length (noted contents digest path)
no_fewer contents digest path = by (is_noted contents digest)
  where
    by : (b : Bool) → length contents ≤ length (cond b contents (contents ++ content_of digest path ∷ []))
    by true = omega arith
    by false = let more = length-append contents (content_of digest path ∷ []) in omega (arith, more)

-- the row of a file that was read to its end
few_with_file : {job : Job} {past : History} {prefix : List ℕ} {held : Held} {object : Object} {bytes : ℕ} {s : Reading} (new : Option Reading)
    → HeldAt job past (phase.Carrying object (stage.Read bytes)) held → SourcePart job past (phase.Carrying object (stage.Read bytes)) prefix held s
    → Answers (Reads []) (Some s) new → AreFew job s.tree held (with_file job object held bytes).rows
unfolding Answers
few_with_file {job} {past} {prefix} {held} {object} {bytes} {s} new at known answers =
    let here = phase.Carrying object (stage.Read bytes) in
    let next = phase.Carrying object stage.Scan in
    let after = with_file job object held bytes in
    let calls = asks (Reads []) in
    let v = after_next s in
    let said : Answers (Reads []) (Some s) (Some v) = (answers.0, refl) in
    let later = history_after here next held past in
    let at_next = scans_hold job past (Some s) (Some v) here next held after calls (EndsFile held object bytes) said at in
    let known_next = scans_source job past s v prefix here next held after calls (EndsFile held object bytes) said at known in
    let few = within job later next prefix after v at_next known_next refl in
    let same = entries_advanced held.trail in
    let fewer = no_fewer held.contents (digest_of job.algorithm held.fed) (logical_path object held.trail) in
    omega (arith, few, same, fewer)

-- ---- a turn that halts

follows_few : {job : Job} {past : History} {counts : Counts} {here : Phase} {prefix : List ℕ} {held : Held} {read : List ℕ} {new : Held} {calls : Calls}
    {answer : Answer} {s : Reading} (now : Option Reading) → Next job counts here prefix held read new calls answer
    → HeldAt job past here held → SourcePart job past here prefix held s → Answers calls.asked (Some s) now → IsWithinBound job s.tree held
    → AreFew job s.tree held new.rows
follows_few {s} _ (Walk (OpensRoot _ _)) _ _ _ few = few
follows_few {job} {s} _ (Scan (IsTooDeep was _ _ _)) _ _ _ few = few_none job s.tree was few
follows_few {job} {s} _ (Scan (MeetsDeep was _ _ _ _ _)) _ _ _ few = few_none job s.tree was few
follows_few {job} {s} _ (Scan (MeetsLimit was _ _ _ _)) _ _ _ few = few_none job s.tree was few
follows_few {job} {s} _ (Scan (MeetsOther was _ _ _)) _ _ _ few = few_none job s.tree was few
follows_few {job} {s} _ (Scan (IsTooLong was _ _ _ _ _)) _ _ _ few = few_none job s.tree was few
follows_few now (Scan (EndsFile _ _ _)) at known answers _ = few_with_file now at known answers
follows_few _ (Make (MakesStaging _ _)) _ _ _ few = few
follows_few {job} {s} _ (Place (TellsDone was _)) _ _ _ few = few_none job s.tree was few
follows_few _ _ _ _ _ few = few

halted_few : (job : Job) (source : Forest) {rows : List Row} {before after : Kept} → IsHalted rows before after → AreFew job source before.held rows
    → IsWithinBound job source after.held
halted_few job source halted few =
    let trail = ap entries_held halted.trail in
    let same = ap length halted.rows_are in
    let contents = ap length halted.contents in
    omega (arith, few, trail, same, contents)

pub halted_is_within_bound : HaltedIsWithinBound
unfolding RunInvariant
halted_is_within_bound job _ _ _ run _ _ s (past, is) not (IsRefused _ _ _ _ _ _ halted) told =
    halted_few job s.tree halted (within job past run.phase run.kept.prefix run.kept.held s is.held (is.source s told) not)
halted_is_within_bound job _ _ _ run _ _ s (past, is) not (FailsAtFirst _ _ halted) told =
    halted_few job s.tree halted (within job past run.phase run.kept.prefix run.kept.held s is.held (is.source s told) not)
halted_is_within_bound job _ _ new run _ _ s (past, is) not (FailsLater _ _ calls _ _ _ turn _ which halted) told =
    halted_few job s.tree halted
    (elim which [
      | inl same ↦ subst (AreFew job s.tree run.kept.held) (sym same) few
      | inr more ↦ subst (AreFew job s.tree run.kept.held) (sym more.0)
          (follows_few new.source turn is.held (is.source s told) (rw told at more.1) few)
    ])
  where
    few : IsWithinBound job s.tree run.kept.held
    few = within job past run.phase run.kept.prefix run.kept.held s is.held (is.source s told) not

-- A turn that goes on leaves the run in progress.
use Rattle.std.proofs.Common.{◌≡◌, ℕ, List, refl, sym, ◌∙◌, subst}
use Rattle.std.specs.Prelude.{Option, None, Some, Ok}
use Rattle.std.specs.Option.{ForSome}
use Rattle.pt_name.specs.Tuples.{IsLayout}
use Rattle.pt_tree.specs.Dest.{Writing, after_append, after_create, after_finish, after_mkdir, after_rename}
use Rattle.pt_tree.specs.Forest.{Forest}
use Rattle.pt_tree.specs.Source.{Reading}
use Rattle.pt_tree.specs.Tree.{Tree}
use Rattle.pt_plan.specs.Job.{Job}
use Rattle.pt_plan.specs.Lines.{Line}
use Rattle.pt_plan.specs.Roots.{root_in}
use Rattle.pt_plan.specs.Run.{Counts, Held, Kept, Run, turning}
use Rattle.pt_plan.specs.Turn.{Did, Next, Happens, Start as a_start, Walk, Scan, Make, Place, GoesOn, counted}
use Rattle.pt_plan.specs.DeviceStates.{
  Adds,
  Answers,
  Asked,
  AsksNothing,
  Calls,
  Change,
  Changes,
  ChangesNothing,
  Creates,
  Finds,
  FindsNoneAndMakes,
  Finishes,
  Lists,
  Looks,
  LooksAndLists,
  Makes,
  Opens,
  OpensAndReads,
  Peeks,
  Puts,
  Reads,
  Renames,
  DeviceStates,
  after_make,
}
use Rattle.pt_plan.specs.declared.phase.Phase.{Phase}
use Rattle.pt_invariant.specs.RunInvariant.{RunInvariant, HasTold, IsHistory, IsQuiet, ItemsPart, FaultStateAt, Start, TellsAsBefore, TellsStill}
use Rattle.pt_invariant.specs.DestInvariant.{DestPart}
use Rattle.pt_invariant.specs.HeldInvariant.{HeldAt}
use Rattle.pt_invariant.specs.InvariantLaws.{TurnKeepsInvariant}
use Rattle.pt_invariant.specs.SourceInvariant.{SourcePart}
use Rattle.pt_invariant.specs.FaultState.{FaultStateAndLog}
use Rattle.pt_invariant.specs.ItemLaws.{KeepsItems, KeepsLog, KnowsItems}
use Rattle.pt_invariant.specs.History.{History, history_after}
use Rattle.pt_invariant.proofs.dest.DestKeeps.{scans_dest, walks_dest}
use Rattle.pt_invariant.proofs.ends.EndLeft.{end_left, left_unless}
use Rattle.pt_invariant.proofs.ends.Ending.{ended}
use Rattle.pt_invariant.proofs.held.HeldKeeps.{places_hold, starts_hold, walks_hold}
use Rattle.pt_invariant.proofs.source.InPairtree.{some_same}
use Rattle.pt_invariant.proofs.items.ItemsKeep.{makes_items, places_items, scans_items, starts_items, walks_items}
use Rattle.pt_invariant.proofs.dest.MakesDest.{makes_dest}
use Rattle.pt_invariant.proofs.held.MakesHold.{makes_hold}
use Rattle.pt_invariant.proofs.dest.PlacesDest.{places_dest}
use Rattle.pt_invariant.proofs.items.QuietStart.{follows_quietly, quiet_if, quiet_is}
use Rattle.pt_invariant.proofs.held.ScansHold.{scans_hold}
use Rattle.pt_invariant.proofs.source.ScansSource.{scans_source}
use Rattle.pt_invariant.proofs.source.SourceKeeps.{makes_source, places_source, starts_source, tree_kept, walks_source}
use Rattle.pt_invariant.proofs.dest.StartsDest.{starts_dest}
use Rattle.pt_invariant.proofs.items.Telling.{both_tell, log_tells, none_put}

-- ---- which devices tell

-- a source that tells told before
pub told_source : (asked : Asked) (old : Option Reading) (new : Reading) → Answers asked old (Some new) → (s : Reading) × (old ≡ Some s)
unfolding Answers
told_source AsksNothing None new answers = absurd (cc)
told_source (Looks seen) None new answers = absurd (let none = answers.1 in cc)
told_source (Lists path entries) None new answers = absurd (let none = answers.2 in cc)
told_source (LooksAndLists seen path entries) None new answers = absurd (let none = answers.3 in cc)
told_source (Opens path) None new answers = absurd (cc)
told_source (Reads block) None new answers = absurd (let none = answers.1 in cc)
told_source (OpensAndReads path block) None new answers = absurd (let none = answers.1 in cc)
told_source _ (Some s) _ _ = (s, refl)

-- a destination tells exactly where it told before
data SameTold (old new : Option Writing) : Type 0 where
  Neither : old ≡ None → new ≡ None → SameTold old new
  Both : (w v : Writing) → old ≡ Some w → new ≡ Some v → SameTold old new

told_dest : (change : Change) (old : Option Writing) {new : Option Writing} → Changes change old new → SameTold old new
unfolding Changes
told_dest ChangesNothing None change = Neither refl change
told_dest (Finds _ _) None change = Neither refl change.1
told_dest (Peeks _ _) None change = Neither refl change.2
told_dest (FindsNoneAndMakes _) None change = Neither refl change.1
told_dest (Makes _) None change = Neither refl change
told_dest (Creates _) None change = Neither refl change
told_dest (Adds _) None change = Neither refl change
told_dest Finishes None change = Neither refl change
told_dest (Renames _ _) None change = Neither refl change
told_dest ChangesNothing (Some w) change = Both w w refl change
told_dest (Finds _ _) (Some w) change = Both w w refl change.1
told_dest (Peeks _ _) (Some w) change = Both w w refl change.2
told_dest (FindsNoneAndMakes path) (Some w) change = Both w (after_mkdir path w) refl change.1
told_dest (Makes item) (Some w) change = Both w (after_make item w) refl change
told_dest (Creates path) (Some w) change = Both w (after_create path w) refl change
told_dest (Adds piece) (Some w) change = Both w (after_append piece w) refl change
told_dest Finishes (Some w) change = Both w (after_finish w) refl change
told_dest (Renames from to) (Some w) change = Both w (after_rename from to w) refl change

-- a log that tells goes on telling
pub told_log : (line : Option Line) (old : List ℕ) (new : Option (List ℕ)) → Puts line (Some old) new → (now : List ℕ) × (new ≡ Some now)
unfolding Puts
told_log None old _ puts = (old, puts)
told_log (Some _) _ None puts = absurd (puts)
told_log (Some _) _ (Some now) _ = (now, refl)

-- ---- the laws of the groups, together

module _ (job : Job) (past : History) where
  follows_held : {counts : Counts} {here : Phase} {prefix : List ℕ} {held : Held} {read : List ℕ} {after : Held} {calls : Calls} {next : Phase}
      (old new : Option Reading) → Next job counts here prefix held read after calls (Ok next)
      → Answers calls.asked old new → HeldAt job past here held → HeldAt job (history_after here next held past) next after
  follows_held {here} {prefix} {held} {read} {calls} {next} _ _ (a_start turn) _ at = starts_hold job past prefix read here next held calls turn at
  follows_held {here} {prefix} {held} {after} {calls} {next} old new (Walk turn) answers at = walks_hold job past old new prefix here next held after calls turn
      answers at
  follows_held {here} {held} {after} {calls} {next} old new (Scan turn) answers at = scans_hold job past old new here next held after calls turn answers at
  follows_held {here} {held} {after} {calls} {next} _ _ (Make turn) _ at = makes_hold job past here held after calls next turn at
  follows_held {counts} {here} {held} {after} {calls} {next} _ _ (Place turn) _ at = places_hold job counts past here next held after calls turn at

  follows_source : {counts : Counts} {here : Phase} {prefix : List ℕ} {held : Held} {read : List ℕ} {after : Held} {calls : Calls} {next : Phase} {s : Reading}
      {new : Reading} → Next job counts here prefix held read after calls (Ok next)
      → Answers calls.asked (Some s) (Some new) → HeldAt job past here held → SourcePart job past here prefix held s
      → SourcePart job (history_after here next held past) next read after new
  follows_source {here} {prefix} {held} {read} {calls} {next} {s} {new} (a_start turn) answers at known = starts_source job past s new prefix read here next
      held calls turn answers at known
  follows_source {here} {prefix} {held} {after} {calls} {next} {s} {new} (Walk turn) answers at known = walks_source job past s new prefix here next held after
      calls turn answers at known
  follows_source {here} {prefix} {held} {after} {calls} {next} {s} {new} (Scan turn) answers at known = scans_source job past s new prefix here next held after
      calls turn answers at known
  follows_source {here} {prefix} {held} {after} {calls} {next} {s} {new} (Make turn) answers at known = makes_source job past s new prefix here held after calls
      next turn answers at known
  follows_source {counts} {here} {prefix} {held} {after} {calls} {next} {s} {new} (Place turn) answers at known = places_source job counts past s new prefix
      here next held after calls turn answers at known

  follows_dest : {counts : Counts} {here : Phase} {prefix : List ℕ} {held : Held} {read : List ℕ} {after : Held} {calls : Calls} {next : Phase} {start : Tree}
      {w v : Writing} → IsLayout job.tuples → Next job counts here prefix held read after calls (Ok next)
      → Changes calls.change (Some w) (Some v) → HeldAt job past here held → DestPart job past here held start w
      → DestPart job (history_after here next held past) next after start v
  follows_dest {here} {prefix} {held} {read} {calls} {next} {start} {w} {v} layout (a_start turn) change at known = starts_dest job past start w v prefix read
      here next held calls layout turn change at known
  follows_dest {here} {prefix} {held} {after} {calls} {next} {start} {w} {v} _ (Walk turn) change at known = walks_dest job past start w v prefix here next held
      after calls turn change at known
  follows_dest {here} {held} {after} {calls} {next} {start} {w} {v} _ (Scan turn) change at known = scans_dest job past start w v here next held after calls
      turn change at known
  follows_dest {here} {held} {after} {calls} {next} {start} {w} {v} _ (Make turn) change at known = makes_dest job past start w v here held after calls next
      turn change at known
  follows_dest {counts} {here} {held} {after} {calls} {next} {start} {w} {v} _ (Place turn) change at known = places_dest job counts past start w v here next
      held after calls turn change at known

  follows_items : {counts : Counts} {here : Phase} {prefix : List ℕ} {held : Held} {read : List ℕ} {after : Held} {calls : Calls} {next : Phase} {start : Tree}
      {s : Reading} (new : Reading) {w : Writing} (v : Writing) → Next job counts here prefix held read after calls (Ok next)
      → Answers calls.asked (Some s) (Some new) → Changes calls.change (Some w) (Some v) → KnowsItems job past here prefix held counts s start w
      → KeepsItems job past here held counts s start calls next × KeepsLog job past here held s start calls next
  follows_items {counts} {here} {prefix} {held} {read} {calls} {next} {start} {s} _ {w} _ (a_start turn) _ _ known = starts_items job past s prefix read start w
      here next held counts calls turn known
  follows_items {counts} {here} {prefix} {held} {after} {calls} {next} {start} {s} _ {w} v (Walk turn) _ change known = walks_items job past s prefix start w v
      here next held after counts calls turn change known
  follows_items {counts} {here} {prefix} {held} {after} {calls} {next} {start} {s} new {w} _ (Scan turn) answers _ known = scans_items job past s new prefix
      start w here next held after counts calls turn answers known
  follows_items {counts} {here} {prefix} {held} {after} {calls} {next} {start} {s} _ {w} _ (Make turn) _ _ known = makes_items job past s prefix start w here
      held after counts calls next turn known
  follows_items {counts} {here} {prefix} {held} {after} {calls} {next} {start} {s} _ {w} _ (Place turn) _ _ known = places_items job past s prefix start w here
      next held after counts calls turn known

-- ---- all parts

-- the turn is counted, which no part speaks of
pub still_counts : {job : Job} {past : History} {here : Phase} (kept : Kept) {source : Forest} {root : Tree} → ItemsPart job past here kept.counts source root
    → ItemsPart job past here (turning kept).counts source root
still_counts _ it = record {
  places = it.places;
  lines_are = record {
    done = it.lines_are.done;
    present = it.lines_are.present;
    skipped = it.lines_are.skipped;
  };
}

module _ (job : Job) (past : History) (start : Start) (old new : DeviceStates) (run : Run) (after : Kept) (next : Phase) (calls : Calls) where
  abbrev before : Kept
  before = turning run.kept

  abbrev later : History
  later = history_after run.phase next run.kept.held past

  abbrev DestHere : Tree → Writing → Type 0
  DestHere = DestPart job past run.phase run.kept.held

  abbrev Turned : Type 0
  Turned = Next job before.counts run.phase run.kept.prefix run.kept.held after.prefix after.held calls (Ok next)

  -- the source told before, and answered
  answered : {v : Reading} → Happens calls old new → new.source ≡ Some v → (s : Reading) × (old.source ≡ Some s) × Answers calls.asked (Some s) (Some v)
  answered {v} did same =
      let answers = subst (Answers calls.asked old.source) same did.source in
      let told = told_source calls.asked old.source v answers in
      (told.0, told.1, subst (λ o. Answers calls.asked o (Some v)) told.1 answers)

  keeps_source : Turned → Happens calls old new → IsHistory job start old run past → ForSome new.source (SourcePart job later next after.prefix after.held)
  keeps_source turn did is _ same =
      let told = answered did same in
      follows_source job past turn told.2 is.held (is.source told.0 told.1)

  keeps_dest : Turned → Happens calls old new → IsHistory job start old run past → TellsAsBefore start.dest new.dest (DestPart job later next after.held)
  keeps_dest turn did is = by start.dest refl (told_dest calls.change old.dest did.dest)
    where
      by : (o : Option Tree) → start.dest ≡ o → SameTold old.dest new.dest → TellsAsBefore o new.dest (DestPart job later next after.held)
      by None none (Neither a b) = subst (λ o. TellsAsBefore None o (DestPart job later next after.held)) (sym b) tt
      by None none (Both w v a b) = absurd (subst (λ o. TellsAsBefore None o DestHere) a (subst (λ o. TellsAsBefore o old.dest DestHere) none is.dest))
      by (Some t) some (Neither a b) = absurd (subst (λ o. TellsAsBefore (Some t) o DestHere) a (subst (λ o. TellsAsBefore o old.dest DestHere) some is.dest))
      by (Some t) some (Both w v a b) =
          let known = subst (λ o. TellsAsBefore (Some t) o DestHere) a (subst (λ o. TellsAsBefore o old.dest DestHere) some is.dest) in
          let change = subst (λ o. Changes calls.change o (Some v)) a (subst (Changes calls.change old.dest) b did.dest) in
          subst (λ o. TellsAsBefore (Some t) o (DestPart job later next after.held)) (sym b)
          (follows_dest job past is.layout turn change is.held known)

  keeps_items : Turned → Happens calls old new → IsHistory job start old run past → {v : Reading} → new.source ≡ Some v → {t : Tree} → start.dest ≡ Some t
      → (s : Reading) × (v.tree ≡ s.tree) × (old.source ≡ Some s) × KeepsItems job past run.phase run.kept.held before.counts s t calls next
      × KeepsLog job past run.phase run.kept.held s t calls next
  keeps_items turn did is {v} same {t} some =
      let told = answered did same in
      let s = told.0 in
      let dest = both_tell DestHere start.dest old.dest some is.dest in
      let after_it = told_again dest.0 dest.1 (told_dest calls.change old.dest did.dest) in
      let change = subst (λ o. Changes calls.change o (Some after_it.0)) dest.1 (subst (Changes calls.change old.dest) after_it.1 did.dest) in
      let known : KnowsItems job past run.phase run.kept.prefix run.kept.held before.counts s t dest.0 = record {
        held_at = is.held;
        source = is.source s told.1;
        dest = dest.2;
        items = still_counts run.kept (is.items s told.1 t some);
      } in
      let kept = follows_items job past v after_it.0 turn told.2 change known in
      (s, tree_kept calls.asked s v told.2, told.1, kept.0, kept.1)
    where
      told_again : (w : Writing) → old.dest ≡ Some w → SameTold old.dest new.dest → (v : Writing) × (new.dest ≡ Some v)
      told_again w is_some (Neither a b) = absurd (let no : None ≡ Some w = sym a ∙ is_some in cc)
      told_again w is_some (Both x v a b) = (v, b)

  -- the turn that ends it leaves what is left then
  keeps_left : Turned → Happens calls old new → after.counts ≡ counted calls.line before.counts → IsHistory job start old run past → (v : Reading)
      → new.source ≡ Some v → (t : Tree) → start.dest ≡ Some t → (now : Writing) → new.dest ≡ Some now → (first : List ℕ) → start.log ≡ Some first
      → (last : List ℕ) → new.log ≡ Some last → FaultStateAt next job v.tree t now.tree first last
  keeps_left turn did counts is v same t some now dest first is_first last is_last =
      left_unless next
      (λ at_end.
      let told = answered did same in
      let s = told.0 in
      let kept = tree_kept calls.asked s v told.2 in
      let turn_is = subst (λ (p : Phase). Next job before.counts run.phase run.kept.prefix run.kept.held after.prefix after.held calls (Ok p)) at_end turn in
      let all = ended job past start old new run after s t now first last calls is turn_is did counts told.1 some dest is_first is_last in
      subst (λ (f : Forest). FaultStateAndLog job f t now.tree first last) (sym kept) (end_left all.0.1 all.0.2))

  pub turned : Turned → Happens calls old new → after.counts ≡ counted calls.line before.counts → IsHistory job start old run past
      → IsHistory job start new (record { phase = next; kept = after }) later
  turned turn did counts is = record {
    layout = is.layout;
    held = follows_held job past old.source new.source turn did.source is.held;
    source = keeps_source turn did is;
    dest = keeps_dest turn did is;
    items = λ v same t some.
        let kept = keeps_items turn did is same some in
        subst (λ c. ItemsPart job later next c v.tree (root_in t)) (sym counts)
        (subst (λ (f : Forest). ItemsPart job later next (counted calls.line before.counts) f (root_in t)) (sym kept.1) kept.3);
    log = λ v same t some. log_at v same t some start.log refl;
    quiet = quiet_at start.log refl;
    left = keeps_left turn did counts is;
  }
    where
      quiet_at : (o : Option (List ℕ)) → start.log ≡ o → TellsStill o new.log (IsQuiet next)
      quiet_at None none = tt
      quiet_at (Some first) is_first =
          let had = log_tells (IsQuiet run.phase) start.log old.log is_first is.quiet in
          let puts = subst (λ o. Puts calls.line o new.log) had.1 did.log in
          let now = told_log calls.line had.0 new.log puts in
          subst (λ o. TellsStill (Some first) o (IsQuiet next)) (sym now.1)
          (quiet_if next
          (λ starts.
          let quietly = follows_quietly turn starts in
          some_same now.0 had.0 (sym now.1 ∙ none_put calls.line quietly.line puts) ∙ quiet_is run.phase quietly.start had.2))

      log_at : (v : Reading) → new.source ≡ Some v → (t : Tree) → start.dest ≡ Some t → (o : Option (List ℕ)) → start.log ≡ o
          → TellsStill o new.log (HasTold job v.tree (root_in t) later next)
      log_at v same t some None none = tt
      log_at v same t some (Some first) is_first =
          let kept = keeps_items turn did is same some in
          let s = kept.0 in
          let had = log_tells (HasTold job s.tree (root_in t) past run.phase) start.log old.log is_first (is.log s kept.2 t some) in
          let puts = subst (λ o. Puts calls.line o new.log) had.1 did.log in
          let now = told_log calls.line had.0 new.log puts in
          subst (λ o. TellsStill (Some first) o (HasTold job v.tree (root_in t) later next)) (sym now.1)
          (subst (λ (f : Forest). HasTold job f (root_in t) later next first now.0) (sym kept.1)
          (kept.4 first had.0 now.0 had.2 (subst (Puts calls.line (Some had.0)) now.1 puts)))

pub turn_keeps_invariant : TurnKeepsInvariant
unfolding RunInvariant Did
turn_keeps_invariant job start old new run after next (past, is) (GoesOn calls _ turn did counts) =
    (history_after run.phase next run.kept.held past, turned job past start old new run after next calls turn did.0 counts is)

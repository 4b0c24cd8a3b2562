-- Each turn that goes on keeps what holds of the items that are done.
use Rattle.std.proofs.Common.{◌≡◌, ◌==◌, ℕ, ◌+◌, Bool, true, false, List, [], ◌∷◌, ◌++◌, refl, ap, sym, ◌∙◌, cond}
use Rattle.std.specs.Prelude.{Some, Ok, nat_lt}
use Rattle.pt_object.specs.Scripts.{staging}
use Rattle.pt_tree.specs.Dest.{IsKindAt}
use Rattle.pt_tree.specs.Forest.{Forest}
use Rattle.pt_tree.specs.Source.{Reading}
use Rattle.pt_tree.specs.Tree.{Tree}
use Rattle.pt_tree.specs.declared.kind.Kind.TheVariants as kind
use Rattle.pt_plan.proofs.MovedIn.{roots_have_no_gaps}
use Rattle.pt_plan.specs.Carried.{Carried, carried_among}
use Rattle.pt_plan.specs.Job.{Job}
use Rattle.pt_plan.specs.Lines.{text}
use Rattle.pt_plan.specs.Roots.{root_in, storage_root}
use Rattle.pt_plan.specs.Run.{Counts, Held}
use Rattle.pt_plan.specs.TurnMake.{MakesSidecar, sidecar_file}
use Rattle.pt_plan.specs.TurnPlace.{MakesTuple, FindsTuple, RenamesObject, TellsDone, TellsEnd, tuple_folder}
use Rattle.pt_plan.specs.TurnScan.{ScanStep, StartsInSite, IsTooDeep, MeetsDeep, MeetsLimit, MeetsOther, IsTooLong}
use Rattle.pt_plan.specs.TurnStart.{MakesRoot, RenamesRoot, IsSame}
use Rattle.pt_plan.specs.TurnWalk.{IsNew}
use Rattle.pt_plan.specs.DeviceStates.{Calls, Change, Changes, Finds, FindsNoneAndMakes, Makes, Peeks, does}
use Rattle.pt_plan.specs.declared.object.Object.{Object}
use Rattle.pt_plan.specs.declared.phase.Part.TheVariants as part
use Rattle.pt_plan.specs.declared.phase.Phase.{Phase}
use Rattle.pt_plan.specs.declared.phase.Opening.TheVariants as opening
use Rattle.pt_plan.specs.declared.phase.Phase.TheVariants as phase
use Rattle.pt_plan.specs.declared.phase.Stage.TheVariants as stage
use Rattle.pt_invariant.specs.RunInvariant.{HasTold, IsFreeAt, ItemsPart, PlacesItems}
use Rattle.pt_invariant.specs.ItemLaws.{KeepsItems, KeepsLog, MakingKeepsItems, PlacingKeepsItems, ScanningKeepsItems, StartingKeepsItems, WalkingKeepsItems}
use Rattle.pt_invariant.specs.History.{History, done_after, object_held, history_after}
use Rattle.pt_invariant.proofs.items.ItemLines.{Last, Nothing, Tells, counts_kept, log_kept, placed_kept}
use Rattle.pt_invariant.proofs.items.PlacesTell.{held_is_carried, places_tell}
use Rattle.pt_invariant.proofs.items.ScansTell.{scans_tell}
use Rattle.pt_invariant.proofs.items.WalksTell.{new_is_free, walks_tell}

-- a run that hasn't ended has told the lines of the items done
abbrev ToldBefore : Job → Forest → Tree → History → Phase → Type 0
ToldBefore job source root past here = (log old : List ℕ) → HasTold job source root past here log old → old ≡ log ++ text job source root past.count

-- what a turn tells keeps the counts and the log
kept : {job : Job} {past : History} (s : Reading) (start : Tree) {here next : Phase} (held : Held) {counts : Counts} (calls : Calls) {gained : List Carried}
    → Tells job s.tree (root_in start) past.count next calls.line (done_after here held.trail next past.count) gained
    → ToldBefore job s.tree (root_in start) past here → ItemsPart job past here counts s.tree (root_in start)
    → PlacesItems job s.tree (root_in start) (history_after here next held past) next
    → KeepsItems job past here held counts s start calls next × KeepsLog job past here held s start calls next
kept {past} _ _ {here} {next} held _ tells told items places = (
  record { places = places; lines_are = counts_kept tells items.lines_are },
  λ log old new had puts. log_kept past (history_after here next held past) log new refl tells (told log old had) puts,
)

-- ---- the start

makes_root : {job : Job} {past : History} (s : Reading) (start : Tree) (held : Held) {counts : Counts} {number : ℕ} (change : Change) (last : Bool)
    → ItemsPart job past (phase.Opening (opening.RootMake number)) counts s.tree (root_in start)
    → KeepsItems job past (phase.Opening (opening.RootMake number)) held counts s start (does change)
    (cond last (phase.Opening opening.RootRename) (phase.Opening (opening.RootMake (number + 1))))
    × KeepsLog job past (phase.Opening (opening.RootMake number)) held s start (does change)
    (cond last (phase.Opening opening.RootRename) (phase.Opening (opening.RootMake (number + 1))))
makes_root {job} {past} s start held {counts} {number} change true items =
    kept s start held (does change) Nothing (λ log old had. had) items (record { placed = items.places.placed; next = tt })
makes_root {job} {past} s start held {counts} {number} change false items =
    kept s start held (does change) Nothing (λ log old had. had) items (record { placed = items.places.placed; next = tt })

-- none is placed before the pairtree is opened
none_placed : (job : Job) (source : Forest) (root : Tree) {count : ℕ} → count ≡ 0 → [] ≡ carried_among job source root count
none_placed job source root first = sym (ap (carried_among job source root) first)

checks_root : {job : Job} {past : History} (s : Reading) (start : Tree) (held : Held) {counts : Counts} {number : ℕ} (change : Change) (last : Bool)
    → past.count ≡ 0 → ItemsPart job past (phase.Opening (opening.RootCheck number)) counts s.tree (root_in start)
    → KeepsItems job past (phase.Opening (opening.RootCheck number)) held counts s start (does change)
    (cond last (phase.Opening opening.OpenRoot) (phase.Opening (opening.RootCheck (number + 1))))
    × KeepsLog job past (phase.Opening (opening.RootCheck number)) held s start (does change)
    (cond last (phase.Opening opening.OpenRoot) (phase.Opening (opening.RootCheck (number + 1))))
checks_root {job} {past} s start held {counts} {number} change true first items =
    kept s start held (does change) Nothing (λ log old had. had) items (record { placed = none_placed job s.tree (root_in start) first; next = tt })
checks_root {job} {past} s start held {counts} {number} change false _ items =
    kept s start held (does change) Nothing (λ log old had. had) items (record { placed = items.places.placed; next = tt })

pub starts_items : StartingKeepsItems
starts_items _ _ s _ _ start _ _ _ held _ _ (MakesRoot _ number item _) known =
    makes_root s start held (Makes item) (number == 5) known.items
starts_items job _ s _ _ start _ _ next held _ calls (RenamesRoot _) known =
    kept s start held calls Nothing (λ log old had. had) known.items (record { placed = none_placed job s.tree (root_in start) known.source.at.1; next = tt })
starts_items _ _ s _ _ start _ _ _ held _ _ (IsSame _ number path bytes _) known =
    checks_root s start held (Peeks (storage_root ++ path) bytes) (number == 2) known.source.at.1 known.items
starts_items _ _ s _ _ start _ _ next held _ calls _ known =
    kept s start held calls Nothing (λ log old had. had) known.items (record { placed = known.items.places.placed; next = tt })

-- ---- the walk

pub walks_items : WalkingKeepsItems
unfolding Changes IsKindAt
walks_items _ _ s _ start now new _ next held _ _ calls (IsNew was index id is) change known =
    let tells = walks_tell start now new (IsNew was index id is) known.held_at.trail.is_one known.source (roots_have_no_gaps start known.dest.started).1
    known.items.places.placed known.dest.at change in
    kept s start held calls tells (λ log old had. had) known.items
    (record {
      placed = placed_kept refl tells known.items.places.placed;
      next = new_is_free known.source is (roots_have_no_gaps start known.dest.started).1
          known.items.places.placed known.dest.at (change.0 now refl);
    })
walks_items _ _ s _ start now new _ next held _ _ calls turn change known =
    let tells = walks_tell start now new turn known.held_at.trail.is_one known.source (roots_have_no_gaps start known.dest.started).1 known.items.places.placed
    known.dest.at change in
    kept s start held calls tells (λ log old had. had) known.items
    (record { placed = placed_kept refl tells known.items.places.placed; next = tt })

-- ---- the scan

-- the place is free while the object is scanned, and nothing is said of it where it is given up
scans_free : {job : Job} (source : Forest) (root : Tree) (count : ℕ) {here next : Phase} {held after : Held} {calls : Calls}
    → ScanStep job here held after calls (Ok next) → IsFreeAt here job source root count → IsFreeAt next job source root count
scans_free _ _ _ (IsTooDeep _ _ _ _) _ = tt
scans_free _ _ _ (MeetsDeep _ _ _ _ _ _) _ = tt
scans_free _ _ _ (MeetsLimit _ _ _ _ _) _ = tt
scans_free _ _ _ (MeetsOther _ _ _ _) _ = tt
scans_free _ _ _ (IsTooLong _ _ _ _ _ _) _ = tt
scans_free _ _ _ _ free = free

pub scans_items : ScanningKeepsItems
scans_items _ _ s new _ start _ _ _ held _ _ calls (StartsInSite was object gathered) answers known =
    let tells = scans_tell (StartsInSite was object gathered) known.held_at.trail.is_one known.source known.items.places.next new answers in
    kept s start held calls tells (λ log old had. had) known.items (record
    { placed = placed_kept refl tells known.items.places.placed; next = known.items.places.next })
scans_items job past s new _ start _ _ _ held _ _ calls turn answers known =
    let tells = scans_tell turn known.held_at.trail.is_one known.source known.items.places.next new answers in
    kept s start held calls tells (λ log old had. had) known.items
    (record { placed = placed_kept refl tells known.items.places.placed; next = scans_free s.tree (root_in start) past.count turn known.items.places.next })

-- ---- an object is made

after_sidecar : {job : Job} {past : History} (s : Reading) (start : Tree) {object : Object} (held : Held) {counts : Counts} (change : Change) (flat : Bool)
    → ItemsPart job past (phase.Carrying object (stage.Make part.Sidecar)) counts s.tree (root_in start)
    → KeepsItems job past (phase.Carrying object (stage.Make part.Sidecar)) held counts s start (does change)
    (cond flat (phase.Carrying object stage.Rename) (phase.Carrying object (stage.Tuples 0)))
    × KeepsLog job past (phase.Carrying object (stage.Make part.Sidecar)) held s start (does change)
    (cond flat (phase.Carrying object stage.Rename) (phase.Carrying object (stage.Tuples 0)))
after_sidecar s start held change true items =
    kept s start held (does change) Nothing (λ log old had. had) items (record { placed = items.places.placed; next = items.places.next })
after_sidecar s start held change false items =
    kept s start held (does change) Nothing (λ log old had. had) items (record { placed = items.places.placed; next = items.places.next })

pub makes_items : MakingKeepsItems
makes_items job _ s _ start _ _ _ _ _ _ _ (MakesSidecar was object) known =
    after_sidecar s start was (Makes (sidecar_file job object was.rows staging)) (job.tuples.count == 0) known.items
makes_items _ _ s _ start _ _ held _ _ calls next _ known =
    kept s start held calls Nothing (λ log old had. had) known.items (record { placed = known.items.places.placed; next = known.items.places.next })

-- ---- an object at its place

after_a_tuple : {job : Job} {past : History} (s : Reading) (start : Tree) {object : Object} (held : Held) {counts : Counts} {number : ℕ} (change : Change)
    (more : Bool) → ItemsPart job past (phase.Carrying object (stage.Tuples number)) counts s.tree (root_in start)
    → KeepsItems job past (phase.Carrying object (stage.Tuples number)) held counts s start (does change)
    (cond more (phase.Carrying object (stage.Tuples (number + 1))) (phase.Carrying object stage.Rename))
    × KeepsLog job past (phase.Carrying object (stage.Tuples number)) held s start (does change)
    (cond more (phase.Carrying object (stage.Tuples (number + 1))) (phase.Carrying object stage.Rename))
after_a_tuple s start held change true items =
    kept s start held (does change) Nothing (λ log old had. had) items (record { placed = items.places.placed; next = items.places.next })
after_a_tuple s start held change false items =
    kept s start held (does change) Nothing (λ log old had. had) items (record { placed = items.places.placed; next = items.places.next })

pub places_items : PlacingKeepsItems
places_items job _ s _ start _ _ _ _ _ _ _ (MakesTuple was object number) known = after_a_tuple s start was (FindsNoneAndMakes (tuple_folder object number))
    (nat_lt (number + 1) job.tuples.count) known.items
places_items job _ s _ start _ _ _ _ _ _ _ (FindsTuple was object number) known = after_a_tuple s start was (Finds (tuple_folder object number) (Some kind.Dir))
    (nat_lt (number + 1) job.tuples.count) known.items
places_items _ past s _ start _ _ next held _ _ calls (RenamesObject was object) known =
    kept s start held calls Nothing (λ log old had. had) known.items
    (record {
      placed =
          ap (λ (l : List Carried). l ++ object_held object was.rows past.bytes ∷ []) known.items.places.placed
          ∙ sym (held_is_carried past s (root_in start) known.source.proper known.source.at.0 known.source.at.1 known.source.bytes known.items.places.next);
      next = known.items.places.next;
    })
places_items _ _ s _ start _ _ next held _ counts calls (TellsDone was object) known =
    let tells = places_tell {counts = counts} (TellsDone was object) known.held_at known.source known.items.places.next in
    kept s start held calls tells.1 (λ log old had. had) known.items (record { placed = known.items.places.placed; next = tt })
places_items _ _ s _ start _ _ next held _ counts calls (TellsEnd _) known =
    kept s start held calls (Last counts.done counts.present counts.skipped) (λ log old had. had) known.items (record { placed = tt; next = tt })

-- Each turn that goes on keeps the trail one.
use Rattle.std.proofs.Common.{◌≡◌, ◌≤◌, ℕ, zero, suc, ◌+◌, ◌-◌, true, false, List, [], ◌∷◌, refl, ap, sym, ◌∙◌, subst, length, arith, drop}
use Rattle.std.specs.Prelude.{Option, None, Some, Ok, is_none}
use Rattle.std.proofs.lemmas.Bool.{and_from, and_parts, le-leb}
use Rattle.std.proofs.lemmas.Option.{slice_get_within}
use Rattle.pt_tree.specs.Listing.{Item, names_rise}
use Rattle.pt_tree.specs.Source.{Reading}
use Rattle.pt_tree.specs.declared.kind.Kind.TheVariants as kind
use Rattle.pt_walk.proofs.Findings.{candidate}
use Rattle.pt_walk.specs.Sites.{at_of}
use Rattle.pt_walk.specs.Trail.{advanced, are_outer, current_entry, entered, entry_at, is_dir_entry, is_frame, is_trail, names_to, parent, sought}
use Rattle.pt_walk.specs.declared.frame.Frame.{Frame}
use Rattle.pt_invariant.proofs.source.NewObject.{named_found}
use Rattle.pt_invariant.specs.HeldInvariant.{TrailAt}
use Rattle.pt_invariant.proofs.held.EitherPhase.{after_root_file, after_root_item, after_sidecar, after_tuple_folder}
use Rattle.pt_plan.specs.Job.{Job, form_of}
use Rattle.pt_plan.specs.Run.{Counts, Held}
use Rattle.pt_plan.specs.TurnMake.{MakeStep, MakesSidecar}
use Rattle.pt_plan.specs.TurnPlace.{PlaceStep, after_tuple, MakesTuple, FindsTuple, TellsDone}
use Rattle.pt_plan.specs.TurnScan.{
  ScanStep,
  StartsInSite,
  EntersObject,
  IsTooDeep,
  PassesShorty,
  EntersDirectory,
  MeetsDeep,
  OpensFile,
  MeetsLimit,
  MeetsOther,
  EndsSite,
  EndsObject,
  LeavesDirectory,
  ReadsOn,
  IsTooLong,
  EndsFile,
  to_site,
}
use Rattle.pt_plan.specs.TurnStart.{StartStep, MakesRoot, IsSame}
use Rattle.pt_plan.specs.TurnWalk.{
  WalkStep,
  OpensRoot,
  IsNew,
  IsPast,
  IsDeep,
  PassesElsewhere,
  EntersSite,
  PassesEntry,
  LeavesSite,
  at_object,
  found_at,
  has_object,
}
use Rattle.pt_plan.specs.DeviceStates.{Answers, Calls}
use Rattle.pt_plan.specs.declared.object.Object.{Object}
use Rattle.pt_plan.specs.declared.phase.Phase.{Phase}
use Rattle.pt_plan.specs.declared.phase.Phase.TheVariants as phase
use Rattle.pt_plan.specs.declared.phase.Stage.TheVariants as stage

-- ---- trails

outer_is_trail : (trail : List Frame) → are_outer trail ≡ true → is_trail trail ≡ true
outer_is_trail [] outer = refl
outer_is_trail (frame ∷ frames) outer =
    let parts = and_parts (is_frame frame) _ outer in
    and_from _ (are_outer frames) parts.0 (and_parts _ _ parts.1).1

first_frame : (items : List Item) → names_rise items ≡ true → is_frame (record { listing = items; place = 0 }) ≡ true
first_frame items rise = and_from _ _ rise (le-leb 0 (length items) (omega arith))

-- a listing is entered
trail_entered : (items : List Item) (trail : List Frame) → names_rise items ≡ true → are_outer trail ≡ true → is_trail (entered items trail) ≡ true
trail_entered items trail rise outer = and_from _ _ (first_frame items rise) outer

-- from a directory
outer_at : (trail : List Frame) → is_trail trail ≡ true → is_dir_entry (current_entry trail) ≡ true → are_outer trail ≡ true
outer_at [] is_one there = refl
outer_at (frame ∷ frames) is_one there =
    let parts = and_parts _ _ is_one in
    and_from _ _ parts.0 (and_from _ _ there parts.1)

-- the place moves to the next entry
trail_advanced : (trail : List Frame) (item : Item) → is_trail trail ≡ true → current_entry trail ≡ Some item → is_trail (advanced trail) ≡ true
trail_advanced [] item is_one e = absurd (cc)
trail_advanced (frame ∷ frames) item is_one e =
    let parts = and_parts _ _ is_one in
    let rise = (and_parts _ _ parts.0).0 in
    let within = slice_get_within frame.listing frame.place item e in
    and_from _ _
    (and_from _ _ rise (le-leb (frame.place + 1) (length frame.listing) (omega (arith, within)))) parts.1

-- or to any other
trail_sought : (place : ℕ) (trail : List Frame) → is_trail trail ≡ true
    → ((frame : Frame) (frames : List Frame) → trail ≡ frame ∷ frames → place ≤ length frame.listing) → is_trail (sought place trail) ≡ true
trail_sought place [] is_one within = refl
trail_sought place (frame ∷ frames) is_one within =
    let parts = and_parts _ _ is_one in
    let rise = (and_parts _ _ parts.0).0 in
    and_from _ _
    (and_from _ _ rise (le-leb place _ (within frame frames refl))) parts.1

trail_first : (trail : List Frame) → is_trail trail ≡ true → is_trail (sought 0 trail) ≡ true
trail_first trail is_one = trail_sought 0 trail is_one (λ frame frames e. omega arith)

-- the innermost listing is left
trail_parent : (trail : List Frame) → is_trail trail ≡ true → is_trail (parent trail) ≡ true
trail_parent [] is_one = refl
trail_parent (frame ∷ frames) is_one = outer_is_trail frames (and_parts _ _ is_one).1

-- and the place behind it is moved to
trail_behind : (trail : List Frame) → is_trail trail ≡ true → is_trail (advanced (parent trail)) ≡ true
trail_behind [] is_one = refl
trail_behind (frame ∷ []) is_one = refl
trail_behind (frame ∷ outer ∷ frames) is_one =
    let rest = (and_parts _ _ is_one).1 in
    let parts = and_parts _ _ rest in
    let entry = some_entry (entry_at outer) (and_parts _ _ parts.1).0 in
    trail_advanced (outer ∷ frames) entry.0 (outer_is_trail (outer ∷ frames) rest) entry.1
  where
    some_entry : (o : Option Item) → is_dir_entry o ≡ true → (item : Item) × (o ≡ Some item)
    some_entry None there = absurd (cc)
    some_entry (Some item) there = (item, refl)

trail_dropped : (n : ℕ) (trail : List Frame) → is_trail trail ≡ true → is_trail (drop n trail) ≡ true
trail_dropped zero trail is_one = is_one
trail_dropped (suc n) [] is_one = refl
trail_dropped (suc n) (frame ∷ frames) is_one = trail_dropped n frames (trail_parent (frame ∷ frames) is_one)

back : (object : Object) (trail : List Frame) → is_trail trail ≡ true → is_trail (sought 0 (to_site object trail)) ≡ true
back object trail is_one = trail_first (to_site object trail) (trail_dropped (length trail - object.site) trail is_one)

-- ---- the start

pub starts_keep : {job : Job} {prefix read : List ℕ} {here next : Phase} {held : Held} {calls : Calls} → StartStep job here prefix read calls (Ok next)
    → TrailAt here held → TrailAt next held
starts_keep {held} (MakesRoot was number item is) at =
    after_root_item (λ p. TrailAt p held) number
    (λ last. record { is_one = at.is_one; none = at.none; entry = tt }) (λ more. record { is_one = at.is_one; none = at.none; entry = tt })
starts_keep {held} (IsSame was number path bytes is) at =
    after_root_file (λ p. TrailAt p held) number
    (λ last. record { is_one = at.is_one; none = at.none; entry = tt }) (λ more. record { is_one = at.is_one; none = at.none; entry = tt })
starts_keep turn at = record { is_one = at.is_one; none = at.none; entry = tt }

-- ---- the walk

-- the entry that encapsulates an object is a directory
candidate_there : (job : Job) (trail : List Frame) (i : ℕ) → found_at (form_of job) trail ≡ has_object (Some i)
    → is_dir_entry (current_entry (sought i trail)) ≡ true
candidate_there job [] i is = absurd (cc)
candidate_there job (frame ∷ frames) i is = ap is_dir_entry (candidate frame.listing (at_of (names_to frames)) (form_of job) i is).1

candidate_place : (job : Job) (frame : Frame) (frames : List Frame) (i : ℕ) → found_at (form_of job) (frame ∷ frames) ≡ has_object (Some i)
    → i ≤ length frame.listing
candidate_place job frame frames i is =
    let entry = candidate frame.listing (at_of (names_to frames)) (form_of job) i is in
    let within = slice_get_within frame.listing i (entry.0, kind.Dir) entry.1 in
    omega (arith, within)

at_candidate : (job : Job) (trail : List Frame) (i : ℕ) → is_trail trail ≡ true → found_at (form_of job) trail ≡ has_object (Some i)
    → is_trail (sought i trail) ≡ true
at_candidate job [] i is_one is = refl
at_candidate job (frame ∷ frames) i is_one is =
    trail_sought i (frame ∷ frames) is_one (λ f fs e. subst (λ (t : List Frame). i ≤ length (top_of t)) e (candidate_place job frame frames i is))
  where
    top_of : List Frame → List Item
    top_of [] = []
    top_of (f ∷ fs) = f.listing

new_object : (job : Job) (held : Held) (object : Object) (index : Option ℕ) → object.gathered ≡ is_none index → is_trail held.trail ≡ true
    → found_at (form_of job) held.trail ≡ has_object index
    → TrailAt (phase.Carrying object stage.Open) (record held { trail = at_object index held.trail })
new_object job held object None gathered is_one is = record {
  is_one = is_one;
  none = tt;
  entry = λ apart. absurd (let no : true ≡ false = sym gathered
      ∙ apart in cc);
}
new_object job held object (Some i) gathered is_one is = record {
  is_one = at_candidate job held.trail i is_one is;
  none = tt;
  entry = λ apart. candidate_there
      job held.trail i is;
}

pub walks_keep : {job : Job} (old new : Option Reading) {prefix : List ℕ} {here next : Phase} {held after : Held} {calls : Calls}
    → WalkStep job prefix here held after calls (Ok next)
    → Answers calls.asked old new → TrailAt here held → TrailAt next after
unfolding Answers
walks_keep old new (OpensRoot was items) answers at =
    record { is_one = trail_entered items was.trail answers.1 (rw at.none refl); none = tt; entry = tt }
walks_keep {job} old new {prefix} (IsNew was index id is) answers at = new_object job was _ index refl at.is_one (named_found job prefix was.trail index id is)
walks_keep old new (IsPast was name e short last) answers at = record { is_one = trail_advanced was.trail _ at.is_one e; none = tt; entry = tt }
walks_keep old new (IsDeep was name e short last deep) answers at = record { is_one = trail_advanced was.trail _ at.is_one e; none = tt; entry = tt }
walks_keep old new (PassesElsewhere was name e short last deep apart) answers at =
    record { is_one = trail_advanced was.trail _ at.is_one e; none = tt; entry = tt }
walks_keep old new (EntersSite was name items e short last deep own) answers at =
    record { is_one = trail_entered items was.trail answers.1 (outer_at was.trail at.is_one (ap is_dir_entry e)); none = tt; entry = tt }
walks_keep old new (PassesEntry was item e apart) answers at = record { is_one = trail_advanced was.trail item at.is_one e; none = tt; entry = tt }
walks_keep old new (LeavesSite was e long) answers at = record { is_one = trail_behind was.trail at.is_one; none = tt; entry = tt }
walks_keep old new turn answers at = record { is_one = at.is_one; none = tt; entry = tt }

-- ---- the scan

pub scans_keep : {job : Job} (old new : Option Reading) {here next : Phase} {held after : Held} {calls : Calls} → ScanStep job here held after calls (Ok next)
    → Answers calls.asked old new → TrailAt here held → TrailAt next after
unfolding Answers
scans_keep old new (StartsInSite was object gathered) answers at = record { is_one = trail_first was.trail at.is_one; none = tt; entry = tt }
scans_keep old new (EntersObject was object items apart shallow) answers at =
    record { is_one = trail_entered items was.trail answers.1 (outer_at was.trail at.is_one (at.entry apart)); none = tt; entry = tt }
scans_keep old new (IsTooDeep was object apart deep) answers at = record { is_one = back object was.trail at.is_one; none = tt; entry = tt }
scans_keep old new (PassesShorty was object item e passed) answers at = record { is_one = trail_advanced was.trail item at.is_one e; none = tt; entry = tt }
scans_keep old new (EntersDirectory was object name items e apart shallow) answers at =
    record { is_one = trail_entered items was.trail answers.1 (outer_at was.trail at.is_one (ap is_dir_entry e)); none = tt; entry = tt }
scans_keep old new (MeetsDeep was object name e apart deep) answers at = record { is_one = back object was.trail at.is_one; none = tt; entry = tt }
scans_keep old new (OpensFile was object name e room) answers at = record { is_one = at.is_one; none = tt; entry = ((name, kind.File), e) }
scans_keep old new (MeetsLimit was object name e room) answers at = record { is_one = back object was.trail at.is_one; none = tt; entry = tt }
scans_keep old new (MeetsOther was object name e) answers at = record { is_one = back object was.trail at.is_one; none = tt; entry = tt }
scans_keep old new (EndsSite was object e there) answers at = record { is_one = at.is_one; none = tt; entry = tt }
scans_keep old new (EndsObject was object e apart own) answers at = record { is_one = trail_parent was.trail at.is_one; none = tt; entry = tt }
scans_keep old new (LeavesDirectory was object e apart outside) answers at = record { is_one = trail_behind was.trail at.is_one; none = tt; entry = tt }
scans_keep old new (ReadsOn was object bytes byte block short) answers at = record { is_one = at.is_one; none = tt; entry = at.entry }
scans_keep old new (IsTooLong was object bytes byte block long) answers at = record { is_one = back object was.trail at.is_one; none = tt; entry = tt }
scans_keep old new (EndsFile was object bytes) answers at = record { is_one = trail_advanced was.trail at.entry.0 at.is_one at.entry.1; none = tt; entry = tt }

-- ---- making and placing

pub makes_keep : {job : Job} {here : Phase} {held after : Held} {calls : Calls} {next : Phase} → MakeStep job here held after calls (Ok next)
    → TrailAt here held → TrailAt next after
makes_keep {job} {after} (MakesSidecar was object) at =
    after_sidecar (λ p. TrailAt p after) job object
    (λ flat. record { is_one = at.is_one; none = tt; entry = tt }) (λ some. record { is_one = at.is_one; none = tt; entry = tt })
makes_keep turn at = record { is_one = at.is_one; none = tt; entry = tt }

after_a_tuple : (job : Job) {held : Held} (object : Object) (number : ℕ) → is_trail held.trail ≡ true → TrailAt (after_tuple job object number) held
after_a_tuple job {held} object number is_one =
    after_tuple_folder (λ p. TrailAt p held) job object number
    (λ more. record { is_one = is_one; none = tt; entry = tt }) (λ last. record { is_one = is_one; none = tt; entry = tt })

pub places_keep : {job : Job} {counts : Counts} {here next : Phase} {held after : Held} {calls : Calls} → PlaceStep job counts here held after calls (Ok next)
    → TrailAt here held → TrailAt next after
places_keep {job} (MakesTuple was object number) at = after_a_tuple job object number at.is_one
places_keep {job} (FindsTuple was object number) at = after_a_tuple job object number at.is_one
places_keep (TellsDone was object) at = record { is_one = trail_first was.trail at.is_one; none = tt; entry = tt }
places_keep turn at = record { is_one = at.is_one; none = tt; entry = tt }

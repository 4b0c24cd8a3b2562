-- What the turns of the walk tell is the line of the item that they end.
use Rattle.std.proofs.Common.{◌≡◌, ℕ, suc, true, List, [], ◌∷◌, refl, ap, sym, ◌∙◌, arith, length, take, ◌<◌}
use Rattle.std.specs.Prelude.{Option, None, Some, Ok, is_some, slice_get}
use Rattle.std.specs.Option.{option_map}
use Rattle.pt_name.specs.Place.{place_of}
use Rattle.pt_name.specs.Share.{tells_at}
use Rattle.pt_tree.specs.Dest.{Writing, IsKindAt}
use Rattle.pt_tree.specs.Forest.{Forest, is_proper}
use Rattle.pt_tree.specs.Source.{Reading}
use Rattle.pt_tree.specs.Tree.{Entry, Tree, kind_of_entry}
use Rattle.pt_tree.specs.declared.kind.Kind.{Kind}
use Rattle.pt_tree.specs.declared.kind.Kind.TheVariants as kind
use Rattle.pt_walk.specs.Left.{Fits, inside_at}
use Rattle.pt_walk.specs.Sites.{Listed}
use Rattle.pt_walk.specs.Site.{is_short}
use Rattle.pt_walk.specs.Trail.{names_to, current_entry, is_trail, trail_path}
use Rattle.pt_walk.specs.declared.cause.Cause.TheVariants as cause
use Rattle.pt_walk.specs.declared.frame.Frame.{Frame}
use Rattle.pt_plan.specs.Carried.{Carried, carried_among, is_taken}
use Rattle.pt_plan.specs.Items.{Item, Named, PairtreeObject, Verdict, VerdictOn, item_of, items, verdict_of}
use Rattle.pt_plan.specs.Job.{Job, reach_of}
use Rattle.pt_plan.specs.Lines.{Line}
use Rattle.pt_plan.specs.PlaceLaws.{IsRooted}
use Rattle.pt_plan.specs.Roots.{root_in}
use Rattle.pt_plan.specs.Run.{Held}
use Rattle.pt_plan.specs.Store.{pairtree_of, prefix_of, sites_of}
use Rattle.pt_plan.specs.TurnMake.{path_of_source}
use Rattle.pt_plan.specs.TurnWalk.{
  WalkStep,
  LeadsOn,
  IsSkipped,
  IsPresent,
  IsPast,
  IsDeep,
  PassesElsewhere,
  PassesEntry,
  LeavesSite,
  at_object,
  in_root,
  judged_at,
  new_object,
  path_of_object,
}
use Rattle.pt_plan.specs.DeviceStates.{Calls, Changes}
use Rattle.pt_plan.specs.declared.phase.Phase.{Phase}
use Rattle.pt_plan.specs.declared.phase.Phase.TheVariants as phase
use Rattle.pt_invariant.specs.RunInvariant.{IsNextFree, items_through}
use Rattle.pt_invariant.specs.DestInvariant.{DestAt, IsBetweenObjects, root_now}
use Rattle.pt_invariant.specs.SourceInvariant.{HasStarted, IsToJudge, SourcePart, object_at}
use Rattle.pt_invariant.specs.History.{History, done_after}
use Rattle.pt_invariant.proofs.held.DistinctRows.{get_map}
use Rattle.pt_invariant.proofs.source.InPairtree.{pairtree_proper}
use Rattle.pt_invariant.proofs.items.ItemLines.{Nothing, OneItem, Tells, interior_item, mark_of, mark_where_stands, passed_item, present_item, skipped_item}
use Rattle.pt_invariant.proofs.source.NewObject.{judged_there, verdict_there}
use Rattle.pt_invariant.proofs.source.WalksKeep.{deep_next, done_at_shorty, elsewhere_next, none_at_end, none_at_entry, past_next}

-- ---- the item of a site

-- the item of the site that is judged
abbrev pub item_judged : Job → Forest → List Frame → Item
item_judged job source t = item_of job (prefix_of source) (trail_path t, Listed (inside_at (pairtree_of source) (trail_path t)))

pub judged_next : {job : Job} {source : Forest} {t : List Frame} {count : ℕ} → IsToJudge job source t count
    → slice_get (items job source) count ≡ Some (item_judged job source t)
judged_next {job} {source} {t} {count} it = get_map (item_of job (prefix_of source)) (sites_of (reach_of job) source) count _ it.here.site

-- by what the site is judged to be
pub judged_verdict : (job : Job) (source : Forest) (prefix : List ℕ) (t : List Frame) {what : VerdictOn (Option ℕ)} → is_proper (pairtree_of source) ≡ true
    → 0 < length t → Fits (pairtree_of source) t → judged_at job prefix t ≡ what
    → verdict_of job prefix (trail_path t) (Listed (inside_at (pairtree_of source) (trail_path t))) ≡ verdict_there job source t what
judged_verdict job source prefix [] proper some fits is = absurd (omega (arith, some))
judged_verdict job source prefix (frame ∷ frames) proper _ fits is = judged_there job source prefix frame frames proper fits
    ∙ ap (verdict_there job source (frame ∷ frames)) is

path_at : (job : Job) (id : List ℕ) (index : Option ℕ) (t : List Frame)
    → path_of_source (new_object job id index t) (at_object index t) ≡ path_of_object index t
path_at _ _ None _ = refl
path_at _ _ (Some _) _ = refl

-- its verdict with the prefix that was read
pub with_prefix : (job : Job) {source : Forest} {prefix : List ℕ} (t : List Frame) {verdict : Verdict} → HasStarted source prefix
    → verdict_of job prefix (trail_path t) (Listed (inside_at (pairtree_of source) (trail_path t))) ≡ verdict → (item_judged job source t).verdict ≡ verdict
with_prefix job {source} t started is = ap (λ (p : List ℕ). verdict_of job p (trail_path t) (Listed (inside_at (pairtree_of source) (trail_path t))))
    (sym started.read) ∙ is

-- ---- whether its place is taken

some_kind : (here : Option Entry) (what : Option Kind) → option_map kind_of_entry here ≡ what → is_some here ≡ is_some what
some_kind None None _ = refl
some_kind None (Some kind) is = absurd (cc)
some_kind (Some entry) None is = absurd (cc)
some_kind (Some _) (Some _) _ = refl

-- what the destination answers says it
taken_as_found : {job : Job} (source : Forest) {start : Tree} (past : History) {w : Writing} (t : List Frame) {id : List ℕ} {object : PairtreeObject}
    {what : Option Kind} → IsRooted (root_in start) → slice_get (items job source) past.count ≡ Some (item_judged job source t)
    → (item_judged job source t).verdict ≡ Named id object → past.placed ≡ carried_among job source (root_in start) past.count
    → IsBetweenObjects job start past.placed w → option_map kind_of_entry (w.tree (in_root (place_of job.tuples id))) ≡ what
    → is_taken job (root_in start) (take past.count (items job source)) (item_judged job source t).verdict ≡ is_some what
taken_as_found {job} source {start} past {w} _ {id} {object} {what} rooted is named placed between found =
    mark_where_stands job source past.count rooted is named
    ∙ ap (λ (l : List Carried). is_some (root_now job start l (place_of job.tuples id))) (sym placed)
    ∙ ap is_some (sym (ap (λ (r : Tree). r (in_root (place_of job.tuples id))) between.tree))
    ∙ some_kind (w.tree (in_root (place_of job.tuples id))) what found

-- ---- each turn

-- a shorty that is passed ends an item
at_shorty : {job : Job} {source : Forest} {root : Tree} {count : ℕ} (trail : List Frame) {name : List ℕ} {line : Option Line}
    → current_entry trail ≡ Some (name, kind.Dir) → is_short name ≡ true → Tells job source root count phase.Walk line (suc count) []
    → Tells job source root count phase.Walk line (done_after phase.Walk trail phase.Walk count) []
at_shorty {job} {source} {root} {count} trail {name} {line} e short tells = rw (done_at_shorty trail name count e short) tells

pub walks_tell : {job : Job} {past : History} {s : Reading} {prefix : List ℕ} (start : Tree) (w new : Writing) {here next : Phase} {held after : Held}
    {calls : Calls} → WalkStep job prefix here held after calls (Ok next) → is_trail held.trail ≡ true → SourcePart job past here prefix held s
    → IsRooted (root_in start) → past.placed ≡ carried_among job s.tree (root_in start) (items_through here past.count) → DestAt job start past here held w
    → Changes calls.change (Some w) (Some new)
    → Tells job s.tree (root_in start) past.count next calls.line (done_after here held.trail next past.count) []
unfolding Changes IsKindAt
walks_tell {job} {past} {s} {prefix} start _ _ (LeadsOn was is) _ part _ _ _ _ = OneItem
    (interior_item (root_in start) (judged_next part.at.2) (with_prefix job was.trail part.at.1
    (judged_verdict job s.tree prefix was.trail (pairtree_proper s.tree part.at.1.store part.proper) part.at.2.way.entered part.at.2.way.fits is)))
walks_tell {job} {past} {s} {prefix} start _ _ (IsSkipped was _ is) _ part _ _ _ _ = OneItem
    (skipped_item (root_in start) (judged_next part.at.2) (with_prefix job was.trail part.at.1
    (judged_verdict job s.tree prefix was.trail (pairtree_proper s.tree part.at.1.store part.proper) part.at.2.way.entered part.at.2.way.fits is)))
walks_tell {job} {past} {s} {prefix} start w _ (IsPresent was index id _ is) _ part rooted placed dest change =
    let object = object_at s.tree (new_object job id index was.trail) (at_object index was.trail) in
    let named = (with_prefix job was.trail part.at.1 (judged_verdict job s.tree prefix was.trail (pairtree_proper s.tree part.at.1.store part.proper)
    part.at.2.way.entered part.at.2.way.fits is)) in
    let item = judged_next part.at.2 in
    let taken = taken_as_found s.tree past was.trail rooted item named placed dest (change.0 w refl) in
    rw (← (path_at job id index was.trail))
    (OneItem (present_item item named taken))
walks_tell {job} {past} {s} start _ _ (IsPast was name e short last) _ part _ _ _ _ =
    at_shorty was.trail e short
    (OneItem (passed_item (tells_at job.share (names_to was.trail)) (root_in start) cause.Past
    (get_map (item_of job (prefix_of s.tree)) (sites_of (reach_of job) s.tree) past.count _
    (past_next job s.tree was.trail name past.count (pairtree_proper s.tree part.at.1.store part.proper) e short last part.at.2)) refl))
walks_tell {job} {past} {s} start _ _ (IsDeep was name e short last deep) is_one part _ _ _ _ =
    at_shorty was.trail e short
    (OneItem (passed_item (tells_at job.share (names_to was.trail)) (root_in start) cause.Limit
    (get_map (item_of job (prefix_of s.tree)) (sites_of (reach_of job) s.tree) past.count _
    (deep_next job s.tree was.trail name past.count (pairtree_proper s.tree part.at.1.store part.proper) is_one e short last deep part.at.2)) refl))
walks_tell {job} {past} {s} start _ _ (PassesElsewhere was name e short last deep apart) is_one part _ _ _ _ =
    at_shorty was.trail e short
    (OneItem (interior_item (root_in start)
    (get_map (item_of job (prefix_of s.tree)) (sites_of (reach_of job) s.tree) past.count _
    (elsewhere_next job s.tree was.trail name past.count (pairtree_proper s.tree part.at.1.store part.proper) is_one e short last deep apart part.at.2)) refl))
walks_tell {job} {past} {s} start _ _ (PassesEntry was item e apart) _ _ _ _ _ _ =
    rw (none_at_entry was.trail item past.count e apart) Nothing
walks_tell {job} {past} {s} start _ _ (LeavesSite was e _) _ _ _ _ _ _ =
    rw (none_at_end was.trail past.count e) Nothing
walks_tell _ _ _ _ _ _ _ _ _ _ = Nothing

-- the place of a new object isn't taken
pub new_is_free : {job : Job} {past : History} {s : Reading} {prefix : List ℕ} {start : Tree} {w : Writing} {held : Held} {index : Option ℕ} {id : List ℕ}
    → SourcePart job past phase.Judge prefix held s
    → judged_at job prefix held.trail ≡ Named id index → IsRooted (root_in start) → past.placed ≡ carried_among job s.tree (root_in start) past.count
    → IsBetweenObjects job start past.placed w
    → option_map kind_of_entry (w.tree (in_root (place_of job.tuples id))) ≡ None → IsNextFree job s.tree (root_in start) past.count
new_is_free {job} {past} {s} {prefix} {start} {held} {index} {id} part is rooted placed dest found =
    let t = held.trail in
    let object = object_at s.tree (new_object job id index t) (at_object index t) in
    let named = with_prefix job t part.at.1 (judged_verdict job s.tree prefix t (pairtree_proper s.tree part.at.1.store part.proper) part.at.2.way.entered
    part.at.2.way.fits is) in
    let item = judged_next part.at.2 in
    let taken = taken_as_found s.tree past t rooted item named placed dest found in
    (item_judged job s.tree t, mark_of job s.tree (root_in start) past.count item ∙ ap (λ b. Some (item_judged job s.tree t, b)) taken)

-- The object that is placed is the one that is carried of the next item, and what is told of it is the item's line.
use Rattle.std.proofs.Common.{◌≡◌, ◌+◌, ℕ, zero, suc, Bool, true, false, List, [], ◌∷◌, ◌++◌, refl, ap, sym, ◌∙◌, subst, append-nil, arith, cond, length}
use Rattle.std.specs.Prelude.{All, None, Some, Ok, fold, nat_lt, slice_get, unwrap_or}
use Rattle.std.specs.Option.{option_map}
use Rattle.std.proofs.lemmas.List.{length-map}
use Rattle.pt_object.specs.FilePaths.{File}
use Rattle.pt_object.specs.Object.{row_of_file, rows_of}
use Rattle.pt_object.specs.declared.rows.Row.{Row}
use Rattle.pt_tree.specs.Forest.{Forest, is_proper}
use Rattle.pt_tree.specs.Path.{Path}
use Rattle.pt_tree.specs.Source.{Reading}
use Rattle.pt_tree.specs.Tree.{Tree}
use Rattle.pt_name.specs.Place.{place_of}
use Rattle.pt_walk.specs.Left.{bytes_at, inside_at}
use Rattle.pt_walk.specs.Object.{Entry, emptiness, empties, empties_of, entries, files, first_bad}
use Rattle.pt_walk.specs.Trail.{names_to, trail_path}
use Rattle.pt_walk.specs.declared.cause.Cause.{Cause}
use Rattle.pt_walk.specs.declared.cause.Cause.TheVariants as cause
use Rattle.pt_walk.specs.declared.frame.Frame.{Frame}
use Rattle.pt_plan.proofs.Growing.{carried_grows}
use Rattle.pt_plan.specs.Carried.{Carried, carried_among}
use Rattle.pt_plan.specs.Items.{Holds, PairtreeObject, bad_entry, outcome, outcome_by}
use Rattle.pt_plan.specs.Job.{Job}
use Rattle.pt_plan.specs.Lines.{Done, bytes_in_all, line_by_outcome}
use Rattle.pt_plan.specs.Run.{Counts, Held}
use Rattle.pt_plan.specs.Store.{pairtree_of}
use Rattle.pt_plan.specs.TurnMake.{path_of_source}
use Rattle.pt_plan.specs.TurnPlace.{PlaceStep, MakesTuple, FindsTuple, RenamesObject, TellsDone, TellsEnd, bytes_in_rows, done_line}
use Rattle.pt_plan.specs.TurnScan.{to_site}
use Rattle.pt_plan.specs.DeviceStates.{Calls}
use Rattle.pt_plan.specs.declared.object.Object.{Object}
use Rattle.pt_plan.specs.declared.phase.Phase.{Phase}
use Rattle.pt_plan.specs.declared.phase.Phase.TheVariants as phase
use Rattle.pt_plan.specs.declared.phase.Stage.TheVariants as stage
use Rattle.pt_invariant.specs.RunInvariant.{IsFreeAt, IsNextFree}
use Rattle.pt_invariant.specs.HeldInvariant.{HeldAt}
use Rattle.pt_invariant.specs.SourceInvariant.{AreHeldThere, HasScanned, HasStarted, IsScanned, SourcePart, object_at}
use Rattle.pt_invariant.specs.History.{History, done_after, files_held, object_held}
use Rattle.pt_invariant.proofs.held.DistinctRows.{get_map}
use Rattle.pt_invariant.proofs.source.EntriesThere.{AreThere}
use Rattle.pt_invariant.proofs.source.InObject.{site_itself}
use Rattle.pt_invariant.proofs.source.InPairtree.{pairtree_proper}
use Rattle.pt_invariant.proofs.items.ItemLines.{EndsItem, Last, Nothing, OneItem, Tells, free_item}
use Rattle.pt_invariant.proofs.source.ScannedFiles.{entries_there, file_in}
use Rattle.pt_invariant.proofs.items.ScansTell.{free_mark, named_so}

-- ---- the files

pub all_at : {X : Type 0} → (P : X → Type 0) (xs : List X) (k : ℕ) {x : X} → All P xs → slice_get xs k ≡ Some x → P x
all_at P [] k all is = absurd (cc)
all_at P (y ∷ xs) zero {x} all is = subst P (let same : y ≡ x = cc in same) (all 0 y (omega arith))
all_at P (y ∷ xs) (suc k) all is = all_at P xs k (λ j d h. all (suc j) d (omega (arith, h))) is

same_files : (job : Job) (bytes : Path → List ℕ) (some : List File) → ((k : ℕ) (f : File) → slice_get some k ≡ Some f → bytes f.0 ≡ f.1)
    → files_held (rows_of job.algorithm some) bytes ≡ some
same_files _ _ [] _ = refl
same_files job bytes ((path, held) ∷ some) each = λ i. (path, each 0 (path, held) refl i) ∷ same_files job bytes some (λ k f is. each (suc k) f is) i

-- what is held of the files is what they are
pub files_are : {job : Job} (source : Forest) (object : Object) (site : List Frame) {rows : List Row} {empty : ℕ} (bytes : Path → List ℕ)
    → is_proper (pairtree_of source) ≡ true → HasScanned job (object_at source object site) rows empty []
    → AreHeldThere source object site bytes rows → files_held rows bytes ≡ files (entries (object_at source object site).inside)
files_are {job} source object site {rows} bytes proper it there =
    let top = pairtree_of source in
    let at = path_of_source object site in
    let some = files it.front in
    let stood = subst (AreThere (inside_at top at) []) it.all (entries_there object.gathered top (trail_path site) (names_to site) proper) in
    ap (λ (l : List Row). files_held l bytes) it.rows_are
    ∙ same_files job bytes some
    (λ k f is.
    all_at (λ row. bytes row.path ≡ bytes_at top (at ++ row.path)) rows k there (ap (λ (l : List Row). slice_get l k) it.rows_are
    ∙ get_map (row_of_file job.algorithm) some k f is)
    ∙ ap (λ o. unwrap_or o []) (file_in top at _ refl it.front [] k f.0 f.1 stood is))
    ∙ ap files (sym (it.all ∙ append-nil it.front))

-- ---- the object

pub comes_whole : {job : Job} {object : PairtreeObject} {rows : List Row} {empty : ℕ} → HasScanned job object rows empty []
    → outcome job.limits object ≡ Holds (files (entries object.inside))
comes_whole {job} {object} it =
    let none : bad_entry job.limits object ≡ None = ap (first_bad job.limits (length object.at) 0) (it.all ∙ append-nil it.front) ∙ it.good in
    ap (outcome_by (files (entries object.inside))) (ap (λ b. cond b (Some cause.Limit)
    (option_map (λ (bad : Entry × Cause). bad.1) (bad_entry job.limits object))) it.shallow ∙ ap (option_map (λ (bad : Entry × Cause). bad.1)) none)

-- its item, with the line and the object
pub ends_with : {job : Job} {source : Forest} {root : Tree} {prefix : List ℕ} {object : Object} {held : Held} {count : ℕ} → HasStarted source prefix
    → IsScanned job source prefix object held count → IsNextFree job source root count
    → EndsItem job source root count (Some (line_by_outcome (trail_path (to_site object held.trail)) object.id
    (object_at source object (to_site object held.trail)) (place_of job.tuples object.id)
    (Holds (files (entries (object_at source object (to_site object held.trail)).inside)))))
    (record { id = object.id; files = files (entries (object_at source object (to_site object held.trail)).inside) } ∷ [])
ends_with {job} {source} {root} {object} {held} {count} started it free =
    let site = to_site object held.trail in
    let what = object_at source object site in
    free_item (free_mark root it.stands.site free) (named_so started it.stands.site)
    (comes_whole it.scanned)

-- the object that is held is the one that is carried
pub held_is_carried : {job : Job} (past : History) (s : Reading) (root : Tree) {prefix : List ℕ} {object : Object} {held : Held} {count : ℕ}
    → is_proper s.tree ≡ true → HasStarted s.tree prefix → IsScanned job s.tree prefix object held count
    → AreHeldThere s.tree object (to_site object held.trail) past.bytes held.rows → IsNextFree job s.tree root count
    → carried_among job s.tree root (suc count) ≡ carried_among job s.tree root count ++ object_held object held.rows past.bytes ∷ []
held_is_carried {job} past s root {object} {held} {count} proper started it there free =
    let ends = ends_with {root = root} started it free in
    let same = files_are s.tree object (to_site object held.trail) past.bytes (pairtree_proper s.tree started.store proper) it.scanned there in
    carried_grows job s.tree root count ends.m ends.is ∙ ap (λ (l : List Carried). carried_among job s.tree root count ++ l) (ends.gained
    ∙ sym (ap (λ (l : List File). record { id = object.id; files = l } ∷ []) same))

-- ---- its line

long_from : (job : Job) (start : ℕ) (some : List File) → fold (λ (a : ℕ) (row : Row). a + row.length) start (rows_of job.algorithm some)
    ≡ fold (λ (a : ℕ) (file : File). a + length file.1) start some
long_from _ _ [] = refl
long_from job start (file ∷ some) = long_from job (start + length file.1) some

-- it tells the numbers of the rows
pub done_told : {job : Job} {past : History} (source : Forest) {object : Object} {held : Held} → HeldAt job past (phase.Carrying object stage.Line) held
    → HasScanned job (object_at source object (to_site object held.trail)) held.rows object.empty []
    → line_by_outcome (trail_path (to_site object held.trail)) object.id (object_at source object (to_site object held.trail)) (place_of job.tuples object.id)
    (Holds (files (entries (object_at source object (to_site object held.trail)).inside))) ≡ done_line object held
done_told {job} source {object} {held} at it =
    let what = object_at source object (to_site object held.trail) in
    let all : entries what.inside ≡ it.front = it.all ∙ append-nil it.front in
    let path : what.at ≡ path_of_source object held.trail = ap (path_of_source object) (site_itself object held.trail at.ends.1) in
    let bytes : bytes_in_all (files (entries what.inside)) ≡ bytes_in_rows held.rows = ap (λ (l : List Entry). bytes_in_all (files l)) all
    ∙ sym (ap bytes_in_rows it.rows_are ∙ long_from job 0 (files it.front)) in
    let empty : empties_of what.inside ≡ object.empty = ap (λ (l : List Entry). emptiness what.inside + empties l) all ∙ sym it.empty_is in
    let many : length (files (entries what.inside)) ≡ length held.rows = ap (λ (l : List Entry). length (files l)) all
    ∙ sym (ap length it.rows_are ∙ length-map (files it.front) (row_of_file job.algorithm)) in
    let place : place_of job.tuples object.id ≡ object.place = sym at.ends.0.place in
    λ i. Done (path i) (bytes i) (empty i) (many i) object.id (place i)

-- ---- each turn

after_a_tuple : (job : Job) (source : Forest) (root : Tree) (count number : ℕ) (object : Object) (more : Bool)
    → Tells job source root count (cond more (phase.Carrying object (stage.Tuples (number + 1))) (phase.Carrying object stage.Rename)) None
    (done_after (phase.Carrying object (stage.Tuples number)) [] (cond more (phase.Carrying object (stage.Tuples (number + 1)))
    (phase.Carrying object stage.Rename)) count) []
after_a_tuple _ _ _ _ _ _ true = Nothing
after_a_tuple _ _ _ _ _ _ false = Nothing

pub places_tell : {job : Job} {counts : Counts} {past : History} {s : Reading} {prefix : List ℕ} {root : Tree} {here next : Phase} {held after : Held}
    {calls : Calls} → PlaceStep job counts here held after calls (Ok next) → HeldAt job past here held → SourcePart job past here prefix held s
    → IsFreeAt here job s.tree root past.count → (gained : List Carried)
    × Tells job s.tree root past.count next calls.line (done_after here held.trail next past.count) gained
places_tell {job} {past} {s} {root} (MakesTuple _ object number) _ _ _ = (
  [],
  after_a_tuple job s.tree root past.count number object
      (nat_lt (number + 1) job.tuples.count),
)
places_tell {job} {past} {s} {root} (FindsTuple _ object number) _ _ _ = (
  [],
  after_a_tuple job s.tree root past.count number object
      (nat_lt (number + 1) job.tuples.count),
)
places_tell (RenamesObject _ _) _ _ _ = ([], Nothing)
places_tell {job} {past} {s} {root} (TellsDone was object) at part free =
    let site = to_site object was.trail in
    let whole = files (entries (object_at s.tree object site).inside) in
    let gained : List Carried = record { id = object.id; files = whole } ∷ [] in (
      gained,
      rw (← (done_told s.tree at part.at.1.scanned))
          (OneItem
          (ends_with part.at.0 part.at.1 free)),
    )
places_tell {counts} (TellsEnd _) _ _ _ = ([], Last counts.done counts.present counts.skipped)

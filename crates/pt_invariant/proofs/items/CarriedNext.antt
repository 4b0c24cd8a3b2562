-- The object under way is the one that the next item is carried as, and what is made of it is what a fault may leave of it.
use Rattle.std.proofs.Common.{inr, ◌≡◌, ◌≤◌, ℕ, true, List, [], ◌∷◌, ◌++◌, ap, sym, ◌∙◌, append_assoc, arith, drop, length, take}
use Rattle.std.specs.Prelude.{Some, slice_get}
use Rattle.std.proofs.lemmas.List.{take-append-drop}
use Rattle.std.proofs.Math.Seq.{take-append_seam}
use Rattle.pt_object.specs.FilePaths.{File}
use Rattle.pt_object.specs.Root.{base}
use Rattle.pt_object.specs.Script.{Item, MakeFile, StandsAtPrefix, done, made}
use Rattle.pt_object.specs.declared.rows.Row.{Row}
use Rattle.pt_tree.specs.Forest.{Forest, is_proper}
use Rattle.pt_tree.specs.Path.{Path}
use Rattle.pt_tree.specs.Source.{Reading}
use Rattle.pt_tree.specs.Tree.{IsTree, Tree}
use Rattle.pt_walk.specs.Left.{bytes_at}
use Rattle.pt_walk.specs.declared.frame.Frame.{Frame}
use Rattle.pt_plan.specs.Carried.{Carried, carried_among, with_objects}
use Rattle.pt_plan.specs.Faults.{BeginsWith, Carrying, IsCarriedAs, FaultState, on_the_way_to}
use Rattle.pt_plan.specs.Job.{Job}
use Rattle.pt_plan.specs.Lines.{text}
use Rattle.pt_plan.specs.Roots.{root_in, tuple_folders, with_folders, with_root}
use Rattle.pt_plan.specs.Run.{Held}
use Rattle.pt_plan.specs.Store.{pairtree_of}
use Rattle.pt_plan.specs.TurnMake.{path_of_source}
use Rattle.pt_plan.specs.TurnScan.{to_site}
use Rattle.pt_plan.specs.declared.object.Object.{Object}
use Rattle.pt_invariant.specs.RunInvariant.{IsNextFree}
use Rattle.pt_invariant.specs.DestInvariant.{IsRootOfStart, root_on_way}
use Rattle.pt_invariant.specs.HeldInvariant.{AreRows, IsObject}
use Rattle.pt_invariant.specs.SourceInvariant.{AreHeldThere, HasStarted, IsScanned}
use Rattle.pt_invariant.specs.PartsMade.{script_of_object}
use Rattle.pt_invariant.specs.History.{History, object_held}
use Rattle.pt_invariant.proofs.source.InObject.{site_itself}
use Rattle.pt_invariant.proofs.source.InPairtree.{pairtree_proper}
use Rattle.pt_invariant.proofs.faults.KeptNow.{on_way, own_script, stands_cut}
use Rattle.pt_invariant.proofs.faults.LogsLeft.{marked_within, told_so_far}
use Rattle.pt_invariant.proofs.items.PlacesTell.{all_at, ends_with, files_are}
use Rattle.pt_invariant.proofs.dest.ScriptParts.{IsNext}

-- ---- it is carried so

pub carried_next : {job : Job} (past : History) (s : Reading) (root : Tree) {prefix : List ℕ} {object : Object} {held : Held} {count : ℕ}
    → is_proper s.tree ≡ true → HasStarted s.tree prefix → IsScanned job s.tree prefix object held count
    → AreHeldThere s.tree object (to_site object held.trail) past.bytes held.rows → IsNextFree job s.tree root count
    → IsCarriedAs job s.tree root count (object_held object held.rows past.bytes)
carried_next past s root {object} {held} proper started it there free =
    let ends = ends_with {root = root} started it free in
    let same = files_are s.tree object (to_site object held.trail) past.bytes (pairtree_proper s.tree started.store proper) it.scanned there in
    (ends.m, ends.is, ends.gained ∙ sym (ap (λ (l : List File). record { id = object.id; files = l } ∷ []) same))

-- ---- what is made of it

module _ (job : Job) (past : History) (s : Reading) (start : Tree) (object : Object) (held : Held) where
  abbrev next : Carried
  next = object_held object held.rows past.bytes

  -- with so many folders on the way to its place
  abbrev root_here : ℕ → Tree
  root_here n = with_root start (root_on_way job start past.placed object.place n)

  way_is : {n : ℕ} → IsTree start → IsRootOfStart job start → IsObject job object → n ≤ job.tuples.count
      → past.placed ≡ carried_among job s.tree (root_in start) past.count
      → root_here n ≡ with_root start (on_the_way_to job s.tree (root_in start) past.count next n)
  way_is {n} tree root it few placed =
      on_way job past start object held tree root it few
      ∙ ap (λ (l : List Carried). with_root start (with_folders (take n (tuple_folders job next)) (with_objects job l (base job.tuples (root_in start)))))
      placed

  -- a front of its script, whose last file may be there in part
  pub carrying_left : {n : ℕ} {now : Tree} → IsTree start → IsRootOfStart job start → IsObject job object → AreRows job past.bytes held → n ≤ job.tuples.count
      → past.placed ≡ carried_among job s.tree (root_in start) past.count
      → IsCarriedAs job s.tree (root_in start) past.count next → StandsAtPrefix (script_of_object job object held.rows past.bytes) (root_here n) now
      → FaultState job s.tree start now (text job s.tree (root_in start) past.count)
  carrying_left {n} {now} tree root it rows few placed is at =
      let within = marked_within job s.tree (root_in start) is.1 in
      inr (
        root.free,
        Carrying past.count n next now (text job s.tree (root_in start) past.count) is
            (told_so_far job s.tree (root_in start) past.count (omega (arith, within)))
            (rw (way_is tree root it few placed) at
            (rw (own_script job past start object held rows) at at)),
      )

-- ---- a content in part

-- a file that holds the first of its bytes
pub content_stands : {script front : List Item} {path : Path} {bytes fed : List ℕ} {start : Tree} {now : Tree} → IsNext script front (MakeFile path bytes)
    → BeginsWith fed bytes → now ≡ done (MakeFile path fed) (made front start) → StandsAtPrefix script start now
content_stands {front} {path} {fed} {start} next begins is =
    stands_cut (length fed) next
    (is ∙ ap (λ (b : List ℕ). done (MakeFile path b) (made front start)) (sym (ap (take (length fed)) begins.1 ∙ take-append_seam fed begins.0)))

-- what was read of it is
pub begins_taken : (n : ℕ) {bytes : List ℕ} {fed : List ℕ} → fed ≡ take n bytes → BeginsWith fed bytes
begins_taken n {bytes} is = (drop n bytes, sym (take-append-drop n bytes) ∙ ap (λ l. l ++ drop n bytes) (sym is))

-- and a part of that
pub begins_cut : (n : ℕ) (fed piece : List ℕ) {bytes : List ℕ} → BeginsWith (fed ++ piece) bytes → BeginsWith (fed ++ take n piece) bytes
begins_cut n fed piece begins = (
  drop n piece ++ begins.0,
  begins.1
      ∙ ap (λ l. (fed ++ l) ++ begins.0) (sym (take-append-drop n piece))
      ∙ ap (λ l. l ++ begins.0) (sym (append_assoc fed (take n piece) (drop n piece)))
      ∙ append_assoc (fed ++ take n piece) (drop n piece) begins.0,
)

-- the bytes of a row are those of its file
pub row_bytes : (source : Forest) (object : Object) (trail : List Frame) (bytes : Path → List ℕ) (rows : List Row) (n : ℕ) {row : Row}
    → length trail ≡ object.site → AreHeldThere source object (to_site object trail) bytes rows → slice_get rows n ≡ Some row
    → bytes row.path ≡ bytes_at (pairtree_of source) (path_of_source object trail ++ row.path)
row_bytes source object trail bytes rows n {row} same there is =
    all_at (λ (r : Row). bytes r.path ≡ bytes_at (pairtree_of source) (path_of_source object (to_site object trail) ++ r.path)) rows n there is
    ∙ ap (λ (t : List Frame). bytes_at (pairtree_of source) (path_of_source object t ++ row.path)) (site_itself object trail same)

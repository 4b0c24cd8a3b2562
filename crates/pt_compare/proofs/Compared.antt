-- From all of an object that is met to what is found.
use Rattle.std.proofs.Common.{◌≡◌, ◌∙◌, inl, inr, ℕ, List, [], ◌∷◌, ◌++◌, Bool, true, false, refl, sym, ap, subst, cond, append-nil}
use Rattle.std.specs.Prelude.{All, IsErrAnd, Option, None, Some, Ok, Err, String, map}
use Rattle.std.specs.List.{list_all, list_any}
use Rattle.std.specs.Option.{ForSome}
use Rattle.std.specs.Global.{Global}
use Rattle.std.specs.String.{string_bytes}
use Rattle.std.proofs.lemmas.Bool.{and_from, and_parts}
use Rattle.std.proofs.lemmas.List.Elements.{All-cons, All-head, All-map, All-nil, All-tail}
use Rattle.pt_compare.specs.Found.{IsFirst, IsFound, LeavesExtra, IsWrong, MeetsInventories, MeetsObject, Sought, inventory_items, version_inventory}
use Rattle.pt_compare.specs.Marks.{Marks, all_met, at_first, inside, kind_in, no_marks, with_mark}
use Rattle.pt_compare.specs.Meeting.{IsWrongInventory, Meets, MeetsFrom, MeetsIn, MeetsText, MeetsTextIn, NotedStand, StandsSo}
use Rattle.pt_compare.specs.Parts.{content_items, early_items, files_of, first_items, last_items}
use Rattle.pt_tree.specs.Source.{IsSeen}
use Rattle.pt_compare.specs.declared.difference.Difference.{Difference}
use Rattle.pt_compare.specs.declared.difference.Comparison.{Comparison}
use Rattle.pt_compare.specs.declared.difference.Comparison.TheVariants as finding
use Rattle.pt_compare.specs.declared.stop.Stop.{Stop}
use Rattle.pt_compare.specs.declared.stop.Stop.TheVariants as stop
use Rattle.pt_compare.proofs.Entering.{kind_same}
use Rattle.pt_compare.proofs.Findings.{
  are_items,
  first_between,
  first_early,
  first_late,
  inside_above,
  is_all,
  is_extra,
  stopped_between,
  stopped_early,
  stopped_late,
}
use Rattle.pt_compare.proofs.Going.{Answer, all_both, all_met-append, err_of, stops_first, stops_later}
use Rattle.pt_compare.proofs.Steps.{all_met_noted}
use Rattle.pt_folder.specs.Calls.{change_of}
use Rattle.pt_object.proofs.ObjectScripts.{in_order_apart}
use Rattle.pt_object.proofs.Ways.{is_same}
use Rattle.pt_object.specs.Distinct.{content_of_row, distinct, distinct_after, row_has_digest}
use Rattle.pt_object.specs.FilePaths.{File, are_apart, paths_of, row_paths}
use Rattle.pt_tree.specs.PathOrder.{part_in_order, parts_before}
use Rattle.pt_object.specs.MetaParts.{MetaParts}
use Rattle.pt_object.specs.Object.{stored_files}
use Rattle.pt_object.specs.Script.{Item, MakeFile}
use Rattle.pt_object.specs.declared.algorithm.Algorithm.{Algorithm}
use Rattle.pt_object.specs.declared.table.contents.Content.{Content}
use Rattle.pt_object.specs.declared.rows.Row.{Row}
use Rattle.pt_tree.specs.Forest.{Dir, Forest, kind_at, node_at}
use Rattle.pt_tree.specs.Path.{Path, same_path}
use Rattle.pt_tree.specs.Tree.{Bytes, Tree}
use Rattle.pt_tree.specs.declared.kind.Kind.{Kind}
use Rattle.pt_walk.specs.Left.{bytes_at}

-- ---- the place itself

seen_kind : (f : Forest) (place : Path) (here : Option Kind) → kind_at f place ≡ here → kind_in (inside f place) [] ≡ here
seen_kind f place here is = kind_same (node_at (Dir f) (place ++ [])) ∙ ap (kind_at f) (append-nil place) ∙ is

pub first_noted_is : (f : Forest) (place p : Path) (k : Kind) (marks : Marks) → kind_at f place ≡ Some k → p ≡ [] → marks ≡ with_mark p k no_marks
    → marks ≡ at_first (inside f place)
first_noted_is f place p k marks seen top is = is ∙ (λ i q. cond (same_path q (top i)) (sym (seen_kind f place (Some k) seen) i) None)

pub first_stands : (tree next : Option Forest) (place p : Path) (k : Kind) (marks : Marks) → next ≡ tree → IsSeen tree place (Some k) → p ≡ []
    → marks ≡ with_mark p k no_marks → NotedStand next place marks
unfolding NotedStand
first_stands tree next place p k marks same seen top is = λ f told q l some.
    on f (seen f (sym same ∙ told)) q l (same_path q []) refl (sym (ap (λ (m : Marks). m q) is ∙ ap (λ (r : Path). cond (same_path q r) (Some k) None) top)
    ∙ some)
  where
    on : (f : Forest) → kind_at f place ≡ Some k → (q : Path) (l : Kind) (b : Bool) → same_path q [] ≡ b → cond b (Some k) None ≡ Some l
        → kind_in (inside f place) q ≡ Some l
    on f seen q l true at some = ap (kind_in (inside f place)) (is_same q [] at) ∙ seen_kind f place (Some k) seen ∙ some
    on f seen q l false at some = absurd (cc)

-- ---- rows, contents and files

pub files_are : (s : Forest) (from : Path) (rows : List Row) (contents : List Content) → contents ≡ map content_of_row (distinct rows)
    → files_of s from contents ≡ stored_files rows (λ path. bytes_at s (from ++ path))
files_are s from rows contents is = ap (files_of s from) is ∙ each (distinct rows)
  where
    each : (rows : List Row) → files_of s from (map content_of_row rows) ≡ map (λ row. (row.path, bytes_at s (from ++ row.path))) rows
    each [] = refl
    each (row ∷ rows) = ap (λ (l : List File). (row.path, bytes_at s (from ++ row.path)) ∷ l) (each rows)

stored_paths : (held : Path → List ℕ) (rows : List Row) → paths_of (map (λ row. (row.path, held row.path)) rows) ≡ row_paths rows
stored_paths held [] = refl
stored_paths held (row ∷ rows) = ap (λ (l : List Path). row.path ∷ l) (stored_paths held rows)

all_distinct : (test : Path → Bool) (earlier rows : List Row) → list_all test (row_paths rows) ≡ true
    → list_all test (row_paths (distinct_after earlier rows)) ≡ true
all_distinct test earlier [] h = refl
all_distinct test earlier (row ∷ rows) h =
    let parts = and_parts _ _ h in
    by (list_any (row_has_digest row.digest) earlier) (all_distinct test (earlier ++ row ∷ []) rows parts.1)
  where
    by : (t : Bool) → list_all test (row_paths (distinct_after (earlier ++ row ∷ []) rows)) ≡ true
        → list_all test (row_paths (cond t (distinct_after (earlier ++ row ∷ []) rows) (row ∷ distinct_after (earlier ++ row ∷ []) rows))) ≡ true
    by true later = later
    by false later = and_from _ _ (and_parts _ _ h).0 later

order_distinct : (earlier rows : List Row) → part_in_order (row_paths rows) ≡ true → part_in_order (row_paths (distinct_after earlier rows)) ≡ true
order_distinct earlier [] h = refl
order_distinct earlier (row ∷ rows) h =
    let parts = and_parts _ _ h in
    by (list_any (row_has_digest row.digest) earlier) (order_distinct _ rows parts.1) (all_distinct _ _ rows parts.0)
  where
    by : (t : Bool) → part_in_order (row_paths (distinct_after (earlier ++ row ∷ []) rows)) ≡ true
        → list_all (parts_before row.path) (row_paths (distinct_after (earlier ++ row ∷ []) rows)) ≡ true
        → part_in_order (row_paths (cond t (distinct_after (earlier ++ row ∷ []) rows) (row ∷ distinct_after (earlier ++ row ∷ []) rows))) ≡ true
    by true later first = later
    by false later first = and_from _ _ first later

pub stored_order : (held : Path → List ℕ) (rows : List Row) → part_in_order (row_paths rows) ≡ true → part_in_order (paths_of (stored_files rows held)) ≡ true
stored_order held rows h = ap part_in_order (stored_paths held (distinct rows)) ∙ order_distinct [] rows h

-- what holds of all rows holds of all contents
pub all_contents : (P : Path → Type 0) (rows : List Row) (contents : List Content) → contents ≡ map content_of_row (distinct rows)
    → All (λ row. P row.path) rows → All (λ content. P content.path) contents
all_contents P rows contents is all = subst (All (λ content. P content.path)) (sym is)
    (All-map (λ content. P content.path) content_of_row (distinct rows) (each [] rows all))
  where
    each : (earlier rows : List Row) → All (λ row. P row.path) rows → All (λ row. P row.path) (distinct_after earlier rows)
    each earlier [] all = All-nil (λ (row : Row). P row.path)
    each earlier (row ∷ rows) all = by (list_any (row_has_digest row.digest) earlier)
        (each (earlier ++ row ∷ []) rows (All-tail (λ (row : Row). P row.path) row rows all))
      where
        by : (t : Bool) → All (λ row. P row.path) (distinct_after (earlier ++ row ∷ []) rows)
            → All (λ row. P row.path) (cond t (distinct_after (earlier ++ row ∷ []) rows) (row ∷ distinct_after (earlier ++ row ∷ []) rows))
        by true later = later
        by false later = All-cons (λ (row : Row). P row.path) row (distinct_after (earlier ++ row ∷ []) rows)
            (All-head (λ (row : Row). P row.path) row rows all) later

-- ---- parts of an object

-- the items before the inventories stand
record Early (sought : Sought) (t : Tree) (old now : Marks) : Type 0 where
  stand : All (StandsSo t) (early_items sought.stored)
  noted : now ≡ all_met t (early_items sought.stored) old

by_inventories : (sought : Sought) (t : Tree) (old now new : Marks) (r : Answer) → Early sought t old now
    → MeetsInventories sought.algorithm sought.text_with t now new r → MeetsObject sought t old new r
by_inventories sought t old now new (Ok x) early met = (
  met.0,
  met.1,
  all_both (StandsSo t) (early_items sought.stored) (inventory_items sought.algorithm met.0) early.stand met.2,
  met.3 ∙ ap (all_met t (inventory_items sought.algorithm met.0)) early.noted
      ∙ sym (all_met-append t (early_items sought.stored) (inventory_items sought.algorithm met.0) old),
)
by_inventories sought t old now new (Err (stop.Differs d)) early (inl between) = inr
    (inl (between.0, early.stand, subst (λ (m : Marks). IsWrongInventory t m version_inventory sought.text_with d.why) early.noted between.1))
by_inventories sought t old now new (Err (stop.Differs d)) early (inr late) = inr
    (inr (
      late.0,
      (late.2, late.1),
      stops_later t old now (early_items sought.stored) (inventory_items sought.algorithm late.0) d.path d.why early.stand
          early.noted late.3,
    ))
by_inventories sought t old now new (Err (stop.Fault why)) early met = tt

early_of : (sought : Sought) (t : Tree) (old mid now : Marks) → All (StandsSo t) first_items × (mid ≡ all_met t first_items old)
    → All (StandsSo t) (content_items None sought.stored) × (now ≡ all_met t (content_items None sought.stored) mid) → Early sought t old now
early_of sought t old mid now first contents = record {
  stand = all_both (StandsSo t) first_items (content_items None sought.stored) first.0 contents.0;
  noted = contents.1 ∙ ap (all_met t (content_items None sought.stored)) first.1 ∙ sym (all_met-append t first_items (content_items None sought.stored) old);
}

stops_object : (sought : Sought) (t : Tree) (old mid new : Marks) (e : Stop) (answer : Answer) → answer ≡ Err e
    → Meets {T = Unit {0}} t (early_items sought.stored) old mid (Err e) → MeetsObject sought t old new answer
stops_object sought t old mid new e answer is met = subst (MeetsObject sought t old new) (sym is) (by e met)
  where
    by : (e : Stop) → Meets {T = Unit {0}} t (early_items sought.stored) old mid (Err e) → MeetsObject sought t old new (Err e)
    by (stop.Differs d) stops = inl stops
    by (stop.Fault why) stops = tt

meets_first_stop : (t : Tree) (a b : List Item) (old new : Marks) (e : Stop) → Meets {T = Unit {0}} t a old new (Err e)
    → Meets {T = Unit {0}} t (a ++ b) old new (Err e)
meets_first_stop t a b old new (stop.Differs d) stops = stops_first t old a b d.path d.why stops
meets_first_stop t a b old new (stop.Fault why) stops = tt

meets_later_stop : (t : Tree) (a b : List Item) (old mid new : Marks) (e : Stop) → All (StandsSo t) a → mid ≡ all_met t a old
    → Meets {T = Unit {0}} t b mid new (Err e) → Meets {T = Unit {0}} t (a ++ b) old new (Err e)
meets_later_stop t a b old mid new (stop.Differs d) stand is stops = stops_later t old mid a b d.path d.why stand is stops
meets_later_stop t a b old mid new (stop.Fault why) stand is stops = tt

-- where the source and the root tell, as the parts of an object are met in turn
module _ (src tree : Option Forest) (place : Path) (sought : Forest → Sought) (old : Marks) where
  abbrev pub MeetsAll : Marks → Answer → Type 0
  MeetsAll new r = ForSome src (λ s. ForSome tree (λ f. MeetsObject (sought s) (inside f place) old new r))

  pub first_stops : (mid new : Marks) (e : Stop) (answer : Answer) → IsErrAnd answer (λ f. f ≡ e)
      → MeetsIn {T = Unit {0}} tree place first_items old mid (Err e) → MeetsAll new answer
  unfolding MeetsIn
  first_stops mid new e answer is met = λ s read f told.
      stops_object (sought s) (inside f place) old mid new e answer (err_of answer e is)
      (meets_first_stop (inside f place) first_items (content_items None (sought s).stored) old mid e (met f told))

  module _ (next : Option Forest) (files : Forest → List File) (are : (s : Forest) → files s ≡ (sought s).stored) (mid now : Marks) (u : Unit {0}) (same : next
      ≡ tree) (first : MeetsIn tree place first_items old mid (Ok u)) where
    pub contents_stop : (new : Marks) (e : Stop) (answer : Answer) → IsErrAnd answer (λ f. f ≡ e)
        → MeetsFrom {T = Unit {0}} src next place (λ s. content_items None (files s)) (change_of mid now) (Err e) → MeetsAll new answer
    unfolding MeetsIn MeetsFrom
    contents_stop new e answer is met = λ s read f told.
        let here = first f told in
        let later = subst (λ (l : List File). Meets {T = Unit {0}} (inside f place) (content_items None l) mid now (Err e)) (are s) (met s read f (same ∙ told))
        in
        stops_object (sought s) (inside f place) old now new e answer (err_of answer e is)
        (meets_later_stop (inside f place) first_items (content_items None (sought s).stored) old mid now e here.0 here.1 later)

    pub inventories_last : (last : Option Forest) (v : Unit {0}) (new : Marks) (r : Answer) → last ≡ next
        → MeetsFrom src next place (λ s. content_items None (files s)) (change_of mid now) (Ok v)
        → ((s : Forest) → ForSome last (λ f. MeetsInventories (sought s).algorithm (sought s).text_with (inside f place) now new r)) → MeetsAll new r
    unfolding MeetsIn MeetsFrom
    inventories_last last v new r follows contents inventories = λ s read f told.
        let here = first f told in
        let later = subst (λ (l : List File). Meets {T = Unit {0}} (inside f place) (content_items None l) mid now (Ok v)) (are s)
        (contents s read f (same ∙ told)) in
        by_inventories (sought s) (inside f place) old now new r (early_of (sought s) (inside f place) old mid now here later)
        (inventories s f (follows ∙ same ∙ told))

-- ---- what is found

module _ (sought : Sought) (order : part_in_order (paths_of sought.stored) ≡ true) (apart : are_apart (paths_of sought.stored) ≡ true) (f : Forest)
    (place : Path) where
  pub differs_is : (d : Difference) (old new : Marks) → old ≡ at_first (inside f place) → MeetsObject sought (inside f place) old new (Err (stop.Differs d))
      → IsFound sought (inside f place) (finding.Differs d)
  differs_is d old new first met = by (subst (λ (m : Marks). MeetsObject sought (inside f place) m new (Err (stop.Differs d))) first met)
    where
      by : MeetsObject sought (inside f place) (at_first (inside f place)) new (Err (stop.Differs d)) → IsFound sought (inside f place) (finding.Differs d)
      by (inl early) = (
        stopped_early sought order apart (inside f place) d.path d.why early,
        first_early sought order apart (inside f place) d.path d.why
            early,
      )
      by (inr (inl between)) = (
        stopped_between sought order apart (inside f place) d.path d.why between.0 between.2,
        first_between sought order apart
            (inside f place) d.path d.why between.0 between.1 between.2,
      )
      by (inr (inr late)) = (
        stopped_late sought order apart (inside f place) late.0 d.path d.why late.1 late.2,
        first_late sought order apart (inside f place)
            late.0 d.path d.why late.2,
      )

  pub left_is : (old marks : Marks) (found : Comparison) (u : Unit {0}) → old ≡ at_first (inside f place) → MeetsObject sought (inside f place) old marks (Ok u)
      → LeavesExtra marks found → IsFound sought (inside f place) found
  left_is old marks found u first met left = by found (subst (λ (m : Marks). MeetsObject sought (inside f place) m marks (Ok u)) first met) left
    where
      by : (found : Comparison) → MeetsObject sought (inside f place) (at_first (inside f place)) marks (Ok u) → LeavesExtra marks found
          → IsFound sought (inside f place) found
      by finding.Absent met left = absurd left
      by finding.Same met left = (met.0, met.1, is_all sought order apart (inside f place) met.0 marks met.3 met.2 (inside_above f place) left)
      by (finding.Differs d) met left = (
        subst (IsWrong sought (inside f place) d.path) (sym left.0) (is_extra sought order apart (inside f place) met.0 marks met.3 d.path left.1),
        subst (IsFirst sought (inside f place) d.path) (sym left.0) (
          met.0,
          met.1,
          subst (All (StandsSo (inside f place)))
              (sym (are_items sought order apart (inside f place) met.0)) met.2,
        ),
      )

-- ---- the inventories

file_first : (t : Tree) (p : Path) (bytes : List ℕ) → t p ≡ Some (Bytes bytes) → All (StandsSo t) (MakeFile p bytes ∷ [])
file_first t p bytes is = All-cons (StandsSo t) (MakeFile p bytes) [] is (All-nil (StandsSo t))

pub inventory_stops : (tree : Option Forest) (place p : Path) (algorithm : Algorithm) (text_with : MetaParts
    → List ℕ) (old mid new : Marks) (e : Stop) (answer : Answer) → IsErrAnd answer (λ f. f ≡ e) → p ≡ version_inventory
    → MeetsTextIn tree place p text_with (change_of old mid) (Err e) → ForSome tree (λ f. MeetsInventories algorithm text_with (inside f place) old new answer)
unfolding MeetsTextIn
inventory_stops tree place p algorithm text_with old mid new e answer is at met = λ f told.
    let here = subst (λ (q : Path). MeetsText (inside f place) q text_with old mid (Err e)) at (met f told) in
    subst (MeetsInventories algorithm text_with (inside f place) old new) (sym (err_of answer e is)) (by f e here)
  where
    by : (f : Forest) (e : Stop) → MeetsText (inside f place) version_inventory text_with old mid (Err e)
        → MeetsInventories algorithm text_with (inside f place) old new (Err e)
    by f (stop.Differs d) here = inl here
    by f (stop.Fault why) here = tt

pub inventory_noted : (tree next : Option Forest) (place p : Path) (text_with : MetaParts → List ℕ) (old new : Marks) (text : String Global) → next ≡ tree
    → NotedStand tree place old → MeetsTextIn tree place p text_with (change_of old new) (Ok text) → NotedStand next place new
unfolding NotedStand MeetsTextIn
inventory_noted tree next place p text_with old new text is noted met = λ f told q k some.
    let there = sym is ∙ told in
    all_met_noted (inside f place) (MakeFile p (string_bytes text) ∷ []) old (noted f there) q k (ap (λ (m : Marks). m q) (sym (met f there).2) ∙ some)

pub inventory_then : (tree next : Option Forest) (place p : Path) (algorithm : Algorithm) (text_with : MetaParts
    → List ℕ) (now : List ℕ) (old mid new : Marks) (stands : String Global) (r : Answer) → next ≡ tree → p ≡ version_inventory → now ≡ string_bytes stands
    → MeetsTextIn tree place p text_with (change_of old mid) (Ok stands)
    → MeetsIn next place (last_items algorithm now) mid new r → ForSome tree (λ f. MeetsInventories algorithm text_with (inside f place) old new r)
unfolding MeetsTextIn MeetsIn
inventory_then tree next place p algorithm text_with now old mid new stands r same at is_now met copies = λ f told.
    let here = subst (λ (q : Path). MeetsText (inside f place) q text_with old mid (Ok stands)) at (met f told) in
    by f r here (subst (λ (l : List ℕ). Meets {T = Unit {0}} (inside f place) (last_items algorithm l) mid new r) is_now (copies f (same ∙ told)))
  where
    by : (f : Forest) (r : Answer) → MeetsText (inside f place) version_inventory text_with old mid (Ok stands)
        → Meets {T = Unit {0}} (inside f place) (last_items algorithm (string_bytes stands)) mid new r
        → MeetsInventories algorithm text_with (inside f place) old new r
    by f (Ok x) here copies = (
      string_bytes stands,
      here.1,
      all_both (StandsSo (inside f place)) (MakeFile version_inventory (string_bytes stands) ∷ []) (last_items algorithm (string_bytes stands))
          (file_first (inside f place) version_inventory (string_bytes stands) here.0) copies.0,
      copies.1 ∙ ap (all_met (inside f place) (last_items algorithm (string_bytes stands))) here.2,
    )
    by f (Err (stop.Differs d)) here copies = inr (
      string_bytes stands,
      here.1,
      here.0,
      stops_later (inside f place) old mid
          (MakeFile version_inventory (string_bytes stands) ∷ []) (last_items algorithm (string_bytes stands)) d.path d.why
          (file_first (inside f place) version_inventory (string_bytes stands) here.0) here.2 copies,
    )
    by f (Err (stop.Fault why)) here copies = tt

module _ (src tree next : Option Forest) (place top : Path) (sought : Forest → Sought) (order : (s : Forest)
    → part_in_order (paths_of (sought s).stored) ≡ true) (k : Kind) (old : Marks) (same : next ≡ tree) (seen : IsSeen tree place (Some k)) (at : top ≡ [])
    (is : old ≡ with_mark top k no_marks) where
  pub found_differs : (d : Difference) (new : Marks)
      → ForSome src (λ s. ForSome next (λ f. MeetsObject (sought s) (inside f place) old new (Err (stop.Differs d))))
      → ForSome src (λ s. ForSome tree (λ f. IsFound (sought s) (inside f place) (finding.Differs d)))
  found_differs d new met = λ s read f told.
      differs_is (sought s) (order s) (in_order_apart (paths_of (sought s).stored) (order s)) f place d old new
      (first_noted_is f place top k old (seen f told) at is) (met s read f (same ∙ told))

  pub found_left : (new : Marks) (found : Comparison) (u : Unit {0}) → ForSome src
      (λ s. ForSome next (λ f. MeetsObject (sought s) (inside f place) old new (Ok u))) → LeavesExtra new found
      → ForSome src (λ s. ForSome tree (λ f. IsFound (sought s) (inside f place) found))
  found_left new found u met left = λ s read f told.
      left_is (sought s) (order s) (in_order_apart (paths_of (sought s).stored) (order s)) f place old new found u
      (first_noted_is f place top k old (seen f told) at is) (met s read f (same ∙ told)) left

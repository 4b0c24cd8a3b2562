-- Where a run stands in the contents of an object, from row to row.
use Rattle.std.proofs.Common.{
  ◌≡◌,
  ◌+◌,
  ℕ,
  suc,
  ◌&&◌,
  Bool,
  true,
  false,
  List,
  [],
  ◌∷◌,
  ◌++◌,
  refl,
  ap,
  sym,
  ◌∙◌,
  append_assoc,
  arith,
  cond,
  drop,
  length,
  map,
  take,
}
use Rattle.std.specs.List.{list_all}
use Rattle.std.specs.Prelude.{Option, None, Some, codes, is_some, nat_lt, not, slice_get, ◌||◌}
use Rattle.std.specs.Str.{bytes_eq}
use Rattle.std.proofs.lemmas.Bool.{and_from, and_parts, false≢true, ltb-true, true≢false}
use Rattle.std.proofs.lemmas.List.{append-nil, length-append, map-append, take-append-drop}
use Rattle.pt_object.proofs.Moved.{last_file_tells_folders}
use Rattle.pt_object.proofs.Ways.{bytes_eq-sym, leads, name_itself}
use Rattle.pt_object.specs.Distinct.{content_of_row, distinct, distinct_after}
use Rattle.pt_object.specs.FilePaths.{File, paths_of, row_paths}
use Rattle.pt_tree.specs.PathOrder.{part_in_order, parts_before}
use Rattle.pt_object.specs.Holding.{leads_to}
use Rattle.pt_object.specs.Script.{folders_above}
use Rattle.pt_object.specs.declared.table.contents.Content.{Content}
use Rattle.pt_object.specs.declared.rows.Row.{Row}
use Rattle.pt_tree.specs.Listing.{is_before}
use Rattle.pt_tree.specs.Path.{Path, parent, rest_below}
use Rattle.pt_plan.specs.TurnMake.{behind, behind_stored, is_stored, common_names, standing, with_folder}
use Rattle.pt_plan.specs.declared.phase.Position.{Position}
use Rattle.pt_invariant.specs.PartsMade.{AreNewFrom, IsAtRow, content_paths, is_above_one}
use Rattle.pt_invariant.proofs.held.DistinctRows.{
  distinct_around,
  distinct_more,
  get_behind,
  get_map,
  get_map_none,
  is_known,
  order_distinct,
  stored_where_new,
  unless_known,
}
use Rattle.pt_invariant.proofs.dest.Ordering.{order_behind, order_front}
use Rattle.pt_invariant.proofs.Tests.{all_both, all_drop, all_drop_more, all_map, all_then, all_true, drop_map, drop_nil, take_map, take_one}

-- ---- the folders above a path

above_lead : (path : Path) → list_all (λ folder. leads folder path) (folders_above path) ≡ true
above_lead [] = refl
above_lead (name ∷ []) = refl
above_lead (name ∷ next ∷ path) =
    ap (λ t. is_some (cond t (rest_below [] (next ∷ path)) None) && list_all (λ folder. leads folder (name ∷ next ∷ path))
    (map (λ folder. name ∷ folder) (folders_above (next ∷ path)))) (name_same name)
    ∙ all_map (λ folder. name ∷ folder) (λ folder. leads folder (name ∷ next ∷ path)) (folders_above (next ∷ path))
    ∙ all_then (λ folder. leads folder (next ∷ path)) (λ folder. leads (name ∷ folder) (name ∷ next ∷ path))
    (λ folder h. ap (λ t. is_some (cond t (rest_below folder (next ∷ path)) None)) (name_same name) ∙ h) (folders_above (next ∷ path))
    (above_lead (next ∷ path))
  where
    name_same : (x : List ℕ) → bytes_eq x x ≡ true
    name_same = name_itself

-- below a name that differs from the path's first one no folder leads to the path
other_way : (a b : List ℕ) (path : Path) (folders : List Path) → bytes_eq b a ≡ false → list_all (λ folder. not (leads (b ∷ folder) (a ∷ path))) folders ≡ true
other_way a b path folders differ = all_true (λ folder. not (leads (b ∷ folder) (a ∷ path)))
    (λ folder. ap (λ t. not (is_some (cond t (rest_below folder path) None))) differ) folders

-- of the folders above the second path those beyond what it shares with the first one don't lead to the first
beyond_shared : (p q : Path) → parts_before p q ≡ true → list_all (λ folder. not (leads folder p)) (drop (common_names (parent p) (parent q)) (folders_above q))
    ≡ true
beyond_shared [] q h = absurd (false≢true h)
beyond_shared (a ∷ p) [] h = absurd (false≢true h)
beyond_shared (a ∷ p) (b ∷ []) h = ap (list_all (λ folder. not (leads folder (a ∷ p)))) (drop_nil (common_names (parent (a ∷ p)) []))
beyond_shared (a ∷ []) (b ∷ next ∷ q) h = by (bytes_eq a b) refl h
  where
    by : (t : Bool) → bytes_eq a b ≡ t → cond t (parts_before [] (next ∷ q)) (is_before a b) ≡ true
        → list_all (λ folder. not (leads folder (a ∷ []))) (folders_above (b ∷ next ∷ q)) ≡ true
    by true same h = absurd (false≢true h)
    by false differ h =
        let back = bytes_eq-sym a b false differ in
        and_from _ _
        (ap (λ t. not (is_some (cond t (rest_below [] []) None))) back)
        (all_map (λ folder. b ∷ folder) (λ folder. not (leads folder (a ∷ []))) (folders_above (next ∷ q)) ∙ other_way a b [] _ back)
beyond_shared (a ∷ more ∷ p) (b ∷ next ∷ q) h = by (bytes_eq a b) refl (λ g. beyond_shared (more ∷ p) (next ∷ q) g) h
  where
    below : Path
    below = more ∷ p

    by : (t : Bool) → bytes_eq a b ≡ t → (parts_before (more ∷ p) (next ∷ q) ≡ true
        → list_all (λ folder. not (leads folder (more ∷ p))) (drop (common_names (parent (more ∷ p)) (parent (next ∷ q))) (folders_above (next ∷ q))) ≡ true)
        → cond t (parts_before (more ∷ p) (next ∷ q)) (is_before a b) ≡ true
        → list_all (λ folder. not (leads folder (a ∷ more ∷ p))) (drop (cond t (suc (common_names (parent (more ∷ p)) (parent (next ∷ q)))) 0)
        (folders_above (b ∷ next ∷ q))) ≡ true
    by true same later h =
        let k = common_names (parent (more ∷ p)) (parent (next ∷ q)) in
        ap (list_all (λ folder. not (leads folder (a ∷ more ∷ p)))) (drop_map (λ folder. b ∷ folder) k (folders_above (next ∷ q)))
        ∙ all_map (λ folder. b ∷ folder) (λ folder. not (leads folder (a ∷ more ∷ p))) (drop k (folders_above (next ∷ q)))
        ∙ all_then (λ folder. not (leads folder (more ∷ p))) (λ folder. not (leads (b ∷ folder) (a ∷ more ∷ p)))
        (λ folder g. ap (λ t. not (is_some (cond t (rest_below folder (more ∷ p)) None))) (bytes_eq-sym a b true same) ∙ g) (drop k (folders_above (next ∷ q)))
        (later h)
    by false differ later h =
        let back = bytes_eq-sym a b false differ in
        and_from _ _
        (ap (λ t. not (is_some (cond t (rest_below [] (more ∷ p)) None))) back)
        (all_map (λ folder. b ∷ folder) (λ folder. not (leads folder (a ∷ more ∷ p))) (folders_above (next ∷ q)) ∙ other_way a b (more ∷ p) _ back)

-- those within what it shares with the first one do
pub within_shared : (p q : Path) → list_all (λ folder. leads folder p) (take (common_names (parent p) (parent q)) (folders_above q)) ≡ true
within_shared [] q = refl
within_shared (a ∷ []) q = refl
within_shared (a ∷ more ∷ p) [] = refl
within_shared (a ∷ more ∷ p) (b ∷ []) = refl
within_shared (a ∷ more ∷ p) (b ∷ next ∷ q) = by (bytes_eq a b) refl (within_shared (more ∷ p) (next ∷ q))
  where
    by : (t : Bool) → bytes_eq a b ≡ t → list_all (λ folder. leads folder (more ∷ p))
        (take (common_names (parent (more ∷ p)) (parent (next ∷ q))) (folders_above (next ∷ q))) ≡ true
        → list_all (λ folder. leads folder (a ∷ more ∷ p)) (take (cond t (suc (common_names (parent (more ∷ p)) (parent (next ∷ q)))) 0)
        (folders_above (b ∷ next ∷ q))) ≡ true
    by true same later =
        let k = common_names (parent (more ∷ p)) (parent (next ∷ q)) in
        let back = bytes_eq-sym a b true same in
        and_from _ _
        (ap (λ t. is_some (cond t (rest_below [] (more ∷ p)) None)) back)
        (ap (list_all (λ folder. leads folder (a ∷ more ∷ p))) (take_map (λ folder. b ∷ folder) k (folders_above (next ∷ q)))
        ∙ all_map (λ folder. b ∷ folder) (λ folder. leads folder (a ∷ more ∷ p)) (take k (folders_above (next ∷ q)))
        ∙ all_then (λ folder. leads folder (more ∷ p)) (λ folder. leads (b ∷ folder) (a ∷ more ∷ p))
        (λ folder g. ap (λ t. is_some (cond t (rest_below folder (more ∷ p)) None)) back ∙ g) (take k (folders_above (next ∷ q))) later)
    by false differ later = refl

-- ---- the folders that stand

abbrev as_file : Path → File
as_file path = (path, [])

above_as_leads : (paths : List Path) (folder : Path) → is_above_one paths folder ≡ leads_to (map as_file paths) folder
above_as_leads [] folder = refl
above_as_leads (path ∷ paths) folder = ap (λ b. leads folder path || b) (above_as_leads paths folder)

paths_back : (paths : List Path) → paths_of (map as_file paths) ≡ paths
paths_back [] = refl
paths_back (path ∷ paths) = ap (λ l. path ∷ l) (paths_back paths)

-- of paths in order the last one tells which folders above the next one stand
last_tells : (earlier : List Path) (last next folder : Path) → part_in_order (earlier ++ last ∷ next ∷ []) ≡ true → leads folder next ≡ true
    → is_above_one (earlier ++ last ∷ []) folder ≡ leads folder last
last_tells earlier last next folder order on =
    let files = map as_file earlier in
    let same : paths_of (files ++ (last, []) ∷ (next, []) ∷ []) ≡ earlier ++ last ∷ next ∷ [] =
    ap paths_of (sym (map-append as_file earlier (last ∷ next ∷ []))) ∙ paths_back (earlier ++ last ∷ next ∷ []) in
    above_as_leads _ folder
    ∙ ap (λ (l : List File). leads_to l folder) (map-append as_file earlier (last ∷ []))
    ∙ last_file_tells_folders files (last, []) (next, []) folder (ap part_in_order same ∙ order) on

-- so the folders beyond what the last path shares with the next one are new
beyond_last : (earlier : List Path) (last next : Path) → part_in_order (earlier ++ last ∷ next ∷ []) ≡ true → parts_before last next ≡ true
    → list_all (λ folder. not (is_above_one (earlier ++ last ∷ []) folder)) (drop (common_names (parent last) (parent next)) (folders_above next)) ≡ true
beyond_last earlier last next order parts =
    let k = common_names (parent last) (parent next) in
    all_both (λ folder. not (leads folder last)) (λ folder. leads folder next) (λ folder. not (is_above_one (earlier ++ last ∷ []) folder))
    (λ folder one two. ap not (last_tells earlier last next folder order two) ∙ one) (drop k (folders_above next))
    (beyond_shared last next parts) (all_drop (λ folder. leads folder next) k (folders_above next) (above_lead next))

-- ---- the contents

abbrev pub stored_at : Row → Path
stored_at row = codes "content" ∷ row.path

pub contents_in_order : (rows : List Row) → part_in_order (row_paths rows) ≡ true → part_in_order (map stored_at rows) ≡ true
contents_in_order [] order = refl
contents_in_order (row ∷ rows) order =
    let parts = and_parts _ _ order in
    and_from _ _ (each rows parts.0) (contents_in_order rows parts.1)
  where
    each : (others : List Row) → list_all (parts_before row.path) (row_paths others) ≡ true
        → list_all (parts_before (stored_at row)) (map stored_at others) ≡ true
    each [] h = refl
    each (other ∷ others) h =
        let parts = and_parts _ _ h in
        and_from _ _ parts.0 (each others parts.1)

pub shared_in_content : (p q : Path) → parts_before p q ≡ true → common_names (parent (codes "content" ∷ p)) (parent (codes "content" ∷ q))
    ≡ suc (common_names (parent p) (parent q))
shared_in_content [] q parts = absurd (false≢true parts)
shared_in_content (a ∷ p) [] parts = absurd (false≢true parts)
shared_in_content (a ∷ p) (b ∷ q) parts = refl

-- after a content the folders of the next one that don't stand yet are new
new_after : (rows : List Row) (stored : ℕ) (row : Row) → part_in_order (row_paths rows) ≡ true → slice_get rows stored ≡ Some row → (next : Option Row)
    → slice_get rows (suc stored) ≡ next
    → AreNewFrom (take (suc stored) (map stored_at rows)) (standing row.path (slice_get (map content_of_row rows) (suc stored)))
    (slice_get (map stored_at rows) (suc stored))
new_after rows stored row order is None end =
    rw (get_map_none stored_at rows (suc stored) end) tt
new_after rows stored row order is (Some next) there =
    let paths = map stored_at rows in
    let here : slice_get paths stored ≡ Some (stored_at row) = get_map stored_at rows stored row is in
    let later : slice_get paths (suc stored) ≡ Some (stored_at next) = get_map stored_at rows (suc stored) next there in
    let front : take (suc stored) paths ≡ take stored paths ++ stored_at row ∷ [] = take_one stored paths (stored_at row) here in
    let two : take (suc (suc stored)) paths ≡ take stored paths ++ stored_at row ∷ stored_at next ∷ [] =
    take_one (suc stored) paths (stored_at next) later ∙ ap (λ (l : List Path). l ++ stored_at next ∷ []) front
    ∙ append_assoc (take stored paths) (stored_at row ∷ []) (stored_at next ∷ []) in
    let in_order : part_in_order (take stored paths ++ stored_at row ∷ stored_at next ∷ []) ≡ true =
    ap part_in_order (sym two) ∙ order_front (take (suc (suc stored)) paths) (drop (suc (suc stored)) paths)
    (ap part_in_order (take-append-drop (suc (suc stored)) paths) ∙ contents_in_order rows order) in
    let parts : parts_before row.path next.path ≡ true = (and_parts _ _ (order_behind (take stored paths) (stored_at row) _ in_order)).0 in
    rw later
    (rw (get_map content_of_row rows (suc stored) next there)
    (rw front
    (rw (shared_in_content row.path next.path parts) at
    (beyond_last (take stored paths) (stored_at row) (stored_at next) in_order parts))))

-- ---- the row at a position

-- a row whose content is the next has a digest of its own
pub is_new : (rows : List Row) (contents : List Content) (position : Position) (row : Row) → contents ≡ map content_of_row (distinct rows)
    → part_in_order (row_paths rows) ≡ true → slice_get rows position.row ≡ Some row
    → is_stored contents position.stored row.path ≡ true → IsAtRow rows position → is_known (take position.row rows) row ≡ false
is_new rows contents position row contents_are order is stored at = by (is_known (take position.row rows) row) refl
  where
    by : (known : Bool) → is_known (take position.row rows) row ≡ known → is_known (take position.row rows) row ≡ false
    by true known = absurd (true≢false (sym stored ∙ stored_where_new rows contents position.row position.stored row contents_are at.stored order is true
        known))
    by false known = known

-- it is the distinct row of the position
pub its_content : {rows : List Row} {contents : List Content} {position : Position} (row : Row) → contents ≡ map content_of_row (distinct rows)
    → part_in_order (row_paths rows) ≡ true → slice_get rows position.row ≡ Some row
    → is_stored contents position.stored row.path ≡ true → IsAtRow rows position → slice_get (distinct rows) position.stored ≡ Some row
its_content {rows} {contents} {position} row contents_are order is stored at =
    let front = distinct (take position.row rows) in
    ap (λ (l : List Row). slice_get l position.stored) (distinct_around rows position.row row is
    ∙ ap (λ t. front ++ (unless_known t row ++ distinct_after (take position.row rows ++ row ∷ []) (drop (suc position.row) rows)))
    (is_new _ _ _ _ contents_are order is stored at))
    ∙ ap (slice_get (front ++ row ∷ distinct_after (take position.row rows ++ row ∷ []) (drop (suc position.row) rows))) at.stored
    ∙ get_behind front (row ∷ distinct_after (take position.row rows ++ row ∷ []) (drop (suc position.row) rows))

-- ---- from position to position

pub at_first : (rows : List Row) → nat_lt 0 (length rows) ≡ true → IsAtRow rows (record { row = 0; stored = 0; directories = 0 })
at_first rows some = record {
  within = ltb-true 0 (length rows) some;
  stored = refl;
  new = all_new (slice_get (content_paths rows) 0);
}
  where
    all_new : (next : Option Path) → AreNewFrom [] 0 next
    all_new None = tt
    all_new (Some path) = all_true (λ folder. not (is_above_one [] folder)) (λ folder. refl) (folders_above path)

more_folders : (earlier : List Path) (number : ℕ) (next : Option Path) → AreNewFrom earlier number next → AreNewFrom earlier (number + 1) next
more_folders earlier number None new = tt
more_folders earlier number (Some path) new =
    let more : number + 1 ≡ suc number = omega arith in
    ap (λ n. list_all (λ folder. not (is_above_one earlier folder)) (drop n (folders_above path))) more
    ∙ all_drop_more (λ folder. not (is_above_one earlier folder)) number _ new

-- one folder more stands
pub at_folder : {rows : List Row} (position : Position) → IsAtRow rows position → IsAtRow rows (with_folder position)
at_folder position at = record {
  within = at.within;
  stored = at.stored;
  new = more_folders _ position.directories _ at.new;
}

module _ (rows : List Row) (contents : List Content) (position : Position) (row : Row) where
  -- so many contents are stored behind a row whose content is stored already
  pub stored_passed : contents ≡ map content_of_row (distinct rows) → part_in_order (row_paths rows) ≡ true → slice_get rows position.row ≡ Some row
      → is_stored contents position.stored row.path ≡ false → IsAtRow rows position → position.stored ≡ length (distinct (take (position.row + 1) rows))
  stored_passed contents_are order is passed at = at.stored ∙ by (is_known (take position.row rows) row) refl
    where
      next : position.row + 1 ≡ suc position.row
      next = omega arith

      by : (known : Bool) → is_known (take position.row rows) row ≡ known
          → length (distinct (take position.row rows)) ≡ length (distinct (take (position.row + 1) rows))
      by true known =
          sym (ap (λ n. length (distinct (take n rows))) next ∙ ap length (distinct_more rows position.row row is
          ∙ ap (λ t. distinct (take position.row rows) ++ unless_known t row) known ∙ append-nil (distinct (take position.row rows))))
      by false new = absurd (true≢false (sym (stored_where_new rows contents position.row position.stored row contents_are at.stored order is false new)
          ∙ passed))

  -- that row is passed
  pub at_passed : contents ≡ map content_of_row (distinct rows) → part_in_order (row_paths rows) ≡ true → slice_get rows position.row ≡ Some row
      → is_stored contents position.stored row.path ≡ false → nat_lt (position.row + 1) (length rows) ≡ true → IsAtRow rows position
      → IsAtRow rows (behind position)
  at_passed contents_are order is passed more at = record {
    within = ltb-true (position.row + 1) (length rows) more;
    stored = stored_passed contents_are order is passed at;
    new = at.new;
  }

  -- and one more behind any other
  pub stored_more : contents ≡ map content_of_row (distinct rows) → part_in_order (row_paths rows) ≡ true → slice_get rows position.row ≡ Some row
      → is_stored contents position.stored row.path ≡ true → IsAtRow rows position → position.stored + 1 ≡ length (distinct (take (position.row + 1) rows))
  stored_more contents_are order is stored at =
      let next : position.row + 1 ≡ suc position.row = omega arith in
      ap (λ n. n + 1) at.stored
      ∙ sym (ap (λ n. length (distinct (take n rows))) next
      ∙ ap length (distinct_more rows position.row row is ∙ ap (λ t. distinct (take position.row rows) ++ unless_known t row)
      (is_new _ _ _ _ contents_are order is stored at))
      ∙ length-append (distinct (take position.row rows)) (row ∷ []))

  -- of the others the content has just been stored
  pub at_stored : contents ≡ map content_of_row (distinct rows) → part_in_order (row_paths rows) ≡ true → slice_get rows position.row ≡ Some row
      → is_stored contents position.stored row.path ≡ true → nat_lt (position.row + 1) (length rows) ≡ true → IsAtRow rows position
      → IsAtRow rows (behind_stored contents position row.path)
  at_stored contents_are order is stored more at = record {
    within = ltb-true (position.row + 1) (length rows) more;
    stored = stored_more contents_are order is stored at;
    new = rw (add_one position.stored)
        (rw contents_are
        (new_after (distinct rows) position.stored row (order_distinct [] rows order) (its_content _ contents_are order is stored at) _ refl));
  }
    where
      add_one : (n : ℕ) → n + 1 ≡ suc n
      add_one n = omega arith

-- The scripts of rows and of files.
use Rattle.std.proofs.Common.{◌≡◌, ℕ, List, [], ◌∷◌, ◌++◌, Bool, true, false, refl, ◌∙◌, ap}
use Rattle.std.specs.Prelude.{cond, ◌&&◌, map, None, is_none}
use Rattle.std.specs.List.{list_all, list_any}
use Rattle.std.specs.Str.{bytes_eq}
use Rattle.std.proofs.lemmas.Bool.{false≢true, and_parts, and_from}
use Rattle.pt_tree.specs.Listing.{is_before}
use Rattle.pt_tree.specs.Path.{Path, rest_below}
use Rattle.pt_tree.specs.Tree.{Tree}
use Rattle.pt_object.specs.Distinct.{distinct_after, row_has_digest}
use Rattle.pt_object.specs.FilePaths.{File, are_apart, is_apart, paths_of, row_paths}
use Rattle.pt_tree.specs.PathOrder.{part_in_order, parts_before}
use Rattle.pt_object.specs.Holding.{placed}
use Rattle.pt_object.specs.Inventory.{inventory_text}
use Rattle.pt_object.specs.MetaParts.{MetaParts}
use Rattle.pt_object.specs.Object.{bytes_in, object_of_rows, rows_of, stored_files}
use Rattle.pt_object.specs.ObjectLaws.{ScriptOfRowsCanBeMade, ScriptOfRowsMakesTheObject, ScriptCanBeMade, ScriptMakesTheObject, PathsInOrderAreApart}
use Rattle.pt_object.specs.Scripts.{IsFresh, script_of_rows, staging}
use Rattle.pt_object.specs.declared.algorithm.Algorithm.{Algorithm}
use Rattle.pt_object.specs.declared.rows.Row.{Row}
use Rattle.pt_object.proofs.Ways.{bytes_eq-sym}
use Rattle.pt_object.proofs.Making.{Carries, in_turn}
use Rattle.pt_object.proofs.MakingObjects.{object_carries}
use Rattle.pt_object.proofs.Staged.{staged_first}

-- the distinct rows are among the rows
stored_all : (p : Path) (held : Path → List ℕ) (earlier rows : List Row) → list_all (is_apart p) (row_paths rows) ≡ true
    → list_all (is_apart p) (paths_of (map (λ row. (row.path, held row.path)) (distinct_after earlier rows))) ≡ true
stored_all p held earlier [] h = refl
stored_all p held earlier (row ∷ rows) h =
    let parts = and_parts _ _ h in
    by (list_any (row_has_digest row.digest) earlier) parts.0 (stored_all p held (earlier ++ row ∷ []) rows parts.1)
  where
    by : (t : Bool) → is_apart p row.path ≡ true → list_all (is_apart p)
        (paths_of (map (λ row. (row.path, held row.path)) (distinct_after (earlier ++ row ∷ []) rows))) ≡ true
        → list_all (is_apart p) (paths_of (map (λ row. (row.path, held row.path))
        (cond t (distinct_after (earlier ++ row ∷ []) rows) (row ∷ distinct_after (earlier ++ row ∷ []) rows)))) ≡ true
    by true here later = later
    by false here later = and_from _ _ here later

stored_apart_after : (held : Path → List ℕ) (earlier rows : List Row) → are_apart (row_paths rows) ≡ true
    → are_apart (paths_of (map (λ row. (row.path, held row.path)) (distinct_after earlier rows))) ≡ true
stored_apart_after held earlier [] h = refl
stored_apart_after held earlier (row ∷ rows) h =
    let parts = and_parts _ _ h in
    by (list_any (row_has_digest row.digest) earlier) (stored_all row.path held (earlier ++ row ∷ []) rows parts.0)
    (stored_apart_after held (earlier ++ row ∷ []) rows parts.1)
  where
    by : (t : Bool) → list_all (is_apart row.path) (paths_of (map (λ row. (row.path, held row.path)) (distinct_after (earlier ++ row ∷ []) rows))) ≡ true
        → are_apart (paths_of (map (λ row. (row.path, held row.path)) (distinct_after (earlier ++ row ∷ []) rows))) ≡ true
        → are_apart (paths_of (map (λ row. (row.path, held row.path)) (cond t (distinct_after (earlier ++ row ∷ []) rows)
        (row ∷ distinct_after (earlier ++ row ∷ []) rows)))) ≡ true
    by true here later = later
    by false here later = and_from _ _ here later

pub stored_apart : (rows : List Row) (held : Path → List ℕ) → are_apart (row_paths rows) ≡ true → are_apart (paths_of (stored_files rows held)) ≡ true
stored_apart rows held = stored_apart_after held [] rows

pub rows_carry : (id : List ℕ) (rows : List Row) (held : Path → List ℕ) (meta : MetaParts) (algorithm : Algorithm) (start : Tree)
    → are_apart (row_paths rows) ≡ true → IsFresh start
    → Carries (script_of_rows id rows held meta algorithm) start (placed start staging (object_of_rows id rows held meta algorithm))
rows_carry id rows held meta algorithm start apart fresh =
    let text : List ℕ = inventory_text id rows meta algorithm in
    staged_first start _ fresh.top fresh.free _ _ (object_carries algorithm text (stored_files rows held) (stored_apart rows held apart))

pub script_of_rows_can_be_made : ScriptOfRowsCanBeMade
script_of_rows_can_be_made id rows held meta algorithm start apart fresh = in_turn _ start (rows_carry id rows held meta algorithm start apart fresh).can

pub script_of_rows_makes_the_object : ScriptOfRowsMakesTheObject
script_of_rows_makes_the_object id rows held meta algorithm start apart fresh = (rows_carry id rows held meta algorithm start apart fresh).leaves

-- paths that part lead nowhere
parts_apart : (p q : Path) → parts_before p q ≡ true → is_apart p q ≡ true
parts_apart [] q h = absurd (false≢true h)
parts_apart (a ∷ p) [] h = absurd (false≢true h)
parts_apart (a ∷ p) (b ∷ q) h = by (λ g. parts_apart p q g) (bytes_eq a b) refl h
  where
    by : (parts_before p q ≡ true → is_apart p q ≡ true) → (t : Bool) → bytes_eq a b ≡ t → cond t (parts_before p q) (is_before a b) ≡ true
        → (is_none (cond t (rest_below p q) None) && is_none (cond (bytes_eq b a) (rest_below q p) None)) ≡ true
    by later true same h = ap (λ t. is_none (rest_below p q) && is_none (cond t (rest_below q p) None)) (bytes_eq-sym a b true same) ∙ later h
    by later false other h = ap (λ t. is_none (cond t (rest_below q p) None)) (bytes_eq-sym a b false other)

all_apart : (p : Path) (paths : List Path) → list_all (parts_before p) paths ≡ true → list_all (is_apart p) paths ≡ true
all_apart p [] h = refl
all_apart p (q ∷ paths) h = let parts = and_parts _ _ h in and_from _ _ (parts_apart p q parts.0) (all_apart p paths parts.1)

pub in_order_apart : PathsInOrderAreApart
in_order_apart [] h = refl
in_order_apart (p ∷ paths) h = let parts = and_parts _ _ h in and_from _ _ (all_apart p paths parts.0) (in_order_apart paths parts.1)

pub paths_of_rows : (algorithm : Algorithm) (files : List File) → row_paths (rows_of algorithm files) ≡ paths_of files
paths_of_rows algorithm [] = refl
paths_of_rows algorithm (f ∷ files) = ap (λ (l : List Path). f.0 ∷ l) (paths_of_rows algorithm files)

pub files_apart : (algorithm : Algorithm) (files : List File) → part_in_order (paths_of files) ≡ true → are_apart (row_paths (rows_of algorithm files)) ≡ true
files_apart algorithm files h = ap are_apart (paths_of_rows algorithm files) ∙ in_order_apart (paths_of files) h

pub script_can_be_made : ScriptCanBeMade
script_can_be_made id files meta algorithm start order fresh = script_of_rows_can_be_made id (rows_of algorithm files) (bytes_in files) meta algorithm start
    (files_apart algorithm files order) fresh

pub script_makes_the_object : ScriptMakesTheObject
script_makes_the_object id files meta algorithm start order fresh = script_of_rows_makes_the_object id (rows_of algorithm files) (bytes_in files) meta algorithm
    start (files_apart algorithm files order) fresh

-- The object of rows is that of files with the rows' paths, each with what is held there.
use Rattle.std.proofs.Common.{◌≡◌, ℕ, suc, Bool, true, false, List, [], ◌∷◌, ◌++◌, refl, ap, sym, ◌∙◌, append_assoc, arith, cond, map}
use Rattle.std.specs.Prelude.{All, unwrap_or}
use Rattle.pt_object.proofs.RowFiles.{bare, held_of_row, holds_at, same_stored, same_text}
use Rattle.pt_object.specs.Algorithm.{digest_of}
use Rattle.pt_object.specs.Distinct.{distinct_after}
use Rattle.pt_object.specs.FilePaths.{File, are_apart, paths_of, row_paths}
use Rattle.pt_object.specs.Holding.{holding}
use Rattle.pt_object.specs.Inventory.{inventory_text}
use Rattle.pt_object.specs.MetaParts.{MetaParts}
use Rattle.pt_object.specs.Object.{bytes_in, object_files, object_of, object_of_rows, rows_of, stored_files}
use Rattle.pt_object.specs.Rows.{row_of}
use Rattle.pt_object.specs.Script.{item_in}
use Rattle.pt_object.specs.Scripts.{object_items, script_of, script_of_rows, staging}
use Rattle.pt_object.specs.declared.algorithm.Algorithm.{Algorithm}
use Rattle.pt_object.specs.declared.rows.Row.{Row}
use Rattle.pt_tree.specs.Path.{Path}
use Rattle.pt_invariant.specs.History.{files_held}
use Rattle.pt_invariant.proofs.held.DistinctRows.{is_known}

pub paths_held : (rows : List Row) (bytes : Path → List ℕ) → paths_of (files_held rows bytes) ≡ row_paths rows
paths_held [] bytes = refl
paths_held (row ∷ rows) bytes = ap (λ l. row.path ∷ l) (paths_held rows bytes)

-- but for their lengths they are the rows of these files
same_bare : (algorithm : Algorithm) (bytes : Path → List ℕ) (rows : List Row) → All (λ row. digest_of algorithm (bytes row.path) ≡ row.digest) rows
    → map bare rows ≡ map bare (rows_of algorithm (files_held rows bytes))
same_bare algorithm bytes [] digests = refl
same_bare algorithm bytes (row ∷ rows) digests =
    let later = same_bare algorithm bytes rows (λ k d h. digests (suc k) d (omega (arith, h))) in
    let here = digests 0 row (omega arith) in
    λ i. row_of row.path (sym here i) 0 ∷ later i

-- the files hold at each row's path what is held there
held_so : (bytes : Path → List ℕ) (earlier rows : List Row) (row : Row) → are_apart (row_paths (earlier ++ row ∷ rows)) ≡ true
    → bytes row.path ≡ bytes_in (files_held (earlier ++ row ∷ rows) bytes) row.path
held_so bytes earlier rows row apart = sym (ap (λ o. unwrap_or o []) (held_of_row (λ r. bytes r.path) earlier rows row apart))

stored_so : (bytes : Path → List ℕ) {all : List Row} (earlier rows : List Row) → earlier ++ rows ≡ all → are_apart (row_paths all) ≡ true
    → map (holds_at bytes) (distinct_after earlier rows) ≡ map (holds_at (bytes_in (files_held all bytes))) (distinct_after earlier rows)
stored_so bytes earlier [] is apart = refl
stored_so bytes {all} earlier (row ∷ rows) is apart =
    by (is_known earlier row) (stored_so bytes _ rows (append_assoc earlier (row ∷ []) rows ∙ is) apart)
  where
    here : bytes row.path ≡ bytes_in (files_held all bytes) row.path
    here = held_so bytes earlier rows row (ap (λ (l : List Row). are_apart (row_paths l)) is ∙ apart)
        ∙ ap (λ (l : List Row). bytes_in (files_held l bytes) row.path) is

    by : (t : Bool) → map (holds_at bytes) (distinct_after (earlier ++ row ∷ []) rows)
        ≡ map (holds_at (bytes_in (files_held all bytes))) (distinct_after (earlier ++ row ∷ []) rows)
        → map (holds_at bytes) (cond t (distinct_after (earlier ++ row ∷ []) rows) (row ∷ distinct_after (earlier ++ row ∷ []) rows))
        ≡ map (holds_at (bytes_in (files_held all bytes))) (cond t (distinct_after (earlier ++ row ∷ []) rows)
        (row ∷ distinct_after (earlier ++ row ∷ []) rows))
    by true later = later
    by false later = λ i. (row.path, here i) ∷ later i

-- so what is stored of the rows is what is stored of their files
pub own_stored : (rows : List Row) (bytes : Path → List ℕ) → are_apart (row_paths rows) ≡ true
    → stored_files rows bytes ≡ stored_files rows (bytes_in (files_held rows bytes))
own_stored rows bytes apart = stored_so bytes [] rows refl apart

-- the object is theirs, and so is its script
pub own_files : (id : List ℕ) (rows : List Row) (bytes : Path → List ℕ) (meta : MetaParts) (algorithm : Algorithm) → are_apart (row_paths rows) ≡ true
    → All (λ row. digest_of algorithm (bytes row.path) ≡ row.digest) rows
    → (object_of_rows id rows bytes meta algorithm ≡ object_of id (files_held rows bytes) meta algorithm)
    × (script_of_rows id rows bytes meta algorithm ≡ script_of id (files_held rows bytes) meta algorithm)
own_files id rows bytes meta algorithm apart digests =
    let files : List File = files_held rows bytes in
    let one = same_bare algorithm bytes rows digests in
    let text : inventory_text id rows meta algorithm ≡ inventory_text id (rows_of algorithm files) meta algorithm = same_text id rows (rows_of algorithm files)
    meta algorithm one in
    let stored : stored_files rows bytes ≡ stored_files (rows_of algorithm files) (bytes_in files) = own_stored rows bytes apart
    ∙ same_stored (bytes_in files) rows _ one in (
      λ i. holding (object_files algorithm (text i) (stored i)),
      λ i. map (item_in staging) (object_items algorithm (text i) (stored i)),
    )

-- The files of an object at hand hold at each of their paths what its source has there, and its rows have the digests of that.
use Rattle.std.proofs.Common.{◌≡◌, ℕ, true, List, [], ◌∷◌, ◌++◌, refl, ap, sym, ◌∙◌, subst, append_assoc}
use Rattle.std.specs.Prelude.{All, unwrap_or}
use Rattle.std.proofs.lemmas.List.Elements.{All-cons, All-nil}
use Rattle.pt_invariant.proofs.held.OwnFiles.{paths_held}
use Rattle.pt_invariant.specs.History.{files_held}
use Rattle.pt_object.proofs.RowFiles.{held_of_row}
use Rattle.pt_object.specs.Algorithm.{digest_of}
use Rattle.pt_object.specs.FilePaths.{File, are_apart, paths_of, row_paths}
use Rattle.pt_object.specs.Object.{bytes_in, rows_of}
use Rattle.pt_object.specs.declared.algorithm.Algorithm.{Algorithm}
use Rattle.pt_object.specs.declared.rows.Row.{Row}
use Rattle.pt_tree.specs.Path.{Path}

-- each row's path holds what is held there
rows_hold : (bytes : Path → List ℕ) {all : List Row} (earlier rows : List Row) → earlier ++ rows ≡ all → are_apart (row_paths all) ≡ true
    → All (λ path. bytes path ≡ bytes_in (files_held all bytes) path) (row_paths rows)
rows_hold bytes {all} earlier [] is apart = All-nil (λ path. bytes path ≡ bytes_in (files_held all bytes) path)
rows_hold bytes {all} earlier (row ∷ rows) is apart =
    All-cons (λ path. bytes path ≡ bytes_in (files_held all bytes) path) row.path (row_paths rows) here
    (rows_hold bytes (earlier ++ row ∷ []) rows (append_assoc earlier (row ∷ []) rows ∙ is) apart)
  where
    here : bytes row.path ≡ bytes_in (files_held all bytes) row.path
    here = sym (ap (λ o. unwrap_or o []) (held_of_row (λ r. bytes r.path) earlier rows row (ap (λ (l : List Row). are_apart (row_paths l)) is ∙ apart)))
        ∙ ap (λ (l : List Row). bytes_in (files_held l bytes) row.path) is

-- and so does each path of the files, if these are those of the rows
pub files_hold : (rows : List Row) (bytes : Path → List ℕ) (files : List File) → files_held rows bytes ≡ files → are_apart (row_paths rows) ≡ true
    → All (λ path. bytes path ≡ bytes_in files path) (paths_of files)
files_hold rows bytes files is apart =
    subst (λ (l : List File). All (λ path. bytes path ≡ bytes_in l path) (paths_of l)) is
    (subst (λ (l : List Path). All (λ path. bytes path ≡ bytes_in (files_held rows bytes) path) l) (sym (paths_held rows bytes))
    (rows_hold bytes [] rows refl apart))

-- rows that are those of these files have the digests of what is held there
pub rows_read : (algorithm : Algorithm) (bytes : Path → List ℕ) (rows : List Row) → rows ≡ rows_of algorithm (files_held rows bytes)
    → All (λ row. row.digest ≡ digest_of algorithm (bytes row.path)) rows
rows_read algorithm bytes [] is = All-nil (λ row. row.digest ≡ digest_of algorithm (bytes row.path))
rows_read algorithm bytes (row ∷ rows) is =
    All-cons (λ row. row.digest ≡ digest_of algorithm (bytes row.path)) row rows
    (ap (λ (r : Row). r.digest) (head_same is)) (rows_read algorithm bytes rows (tail_same is))
  where
    head_same : {a b : Row} {xs ys : List Row} → a ∷ xs ≡ b ∷ ys → a ≡ b
    head_same same = cc

    tail_same : {a b : Row} {xs ys : List Row} → a ∷ xs ≡ b ∷ ys → xs ≡ ys
    tail_same same = cc

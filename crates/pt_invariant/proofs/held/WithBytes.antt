-- What is said of rows and of the bytes that are held at their paths, when one more file was read.
use Rattle.std.proofs.Common.{◌≡◌, ℕ, suc, true, List, [], ◌∷◌, ◌++◌, refl, ap, sym, ◌∙◌, subst, arith, cond, drop, take}
use Rattle.std.specs.List.{list_all}
use Rattle.std.specs.Prelude.{All, Some, slice_get}
use Rattle.std.proofs.lemmas.Bool.{and_parts}
use Rattle.std.proofs.lemmas.List.Elements.{All-cons, All-push}
use Rattle.pt_object.proofs.Ways.{path_itself}
use Rattle.pt_object.specs.FilePaths.{row_paths}
use Rattle.pt_tree.specs.PathOrder.{part_in_order, parts_before}
use Rattle.pt_object.specs.declared.rows.Row.{Row}
use Rattle.pt_tree.specs.Path.{Path}
use Rattle.pt_plan.proofs.Levels.{same_path-sym}
use Rattle.pt_invariant.specs.History.{with_bytes, with_bytes_of}
use Rattle.pt_invariant.proofs.dest.Ordering.{parts_differ}
use Rattle.pt_invariant.proofs.Tests.{split_at}

-- of each row and the bytes at its path this is said
abbrev pub EachRow : (List ℕ → Row → Type 0) → (Path → List ℕ) → List Row → Type 0
EachRow P bytes rows = All (λ row. P (bytes row.path) row) rows

-- what is held at a path is as it was, where the path isn't the new one
pub earlier_held : (path : Path) (read : List ℕ) (bytes : Path → List ℕ) (earlier : Path) → parts_before earlier path ≡ true
    → bytes earlier ≡ with_bytes path read bytes earlier
earlier_held path read bytes earlier parts = sym (ap (λ t. cond t read (bytes earlier)) (parts_differ earlier path _ refl parts))

later_held : (path : Path) (read : List ℕ) (bytes : Path → List ℕ) (later : Path) → parts_before path later ≡ true
    → bytes later ≡ with_bytes path read bytes later
later_held path read bytes later parts =
    sym (ap (λ t. cond t read (bytes later)) (same_path-sym later path ∙ parts_differ path later _ refl parts))

pub now_held : (path : Path) {read : List ℕ} (bytes : Path → List ℕ) → read ≡ with_bytes path read bytes path
now_held path {read} bytes = sym (ap (λ t. cond t read (bytes path)) (path_itself path))

rest_of : (P : Row → Type 0) (row : Row) (rows : List Row) → All P (row ∷ rows) → All P rows
rest_of P row rows all = λ k d h. all (suc k) d (omega (arith, h))

module _ (P : List ℕ → Row → Type 0) (bytes : Path → List ℕ) (path : Path) (read : List ℕ) where
  -- it still is of rows that come before the path of the file
  all_still : (rows : List Row) → list_all (λ earlier. parts_before earlier path) (row_paths rows) ≡ true
      → EachRow P bytes rows → EachRow P (with_bytes path read bytes) rows
  all_still [] behind all = λ k d h. absurd (omega (arith, h))
  all_still (row ∷ rows) behind all =
      let parts = and_parts _ _ behind in
      All-cons (λ r. P (with_bytes path read bytes r.path) r) row rows
      (rw (earlier_held path read bytes row.path parts.0) at (all 0 row (omega arith)))
      (all_still rows parts.1 (rest_of (λ r. P (bytes r.path) r) row rows all))

  -- and of those that come behind it
  all_later : (rows : List Row) → list_all (parts_before path) (row_paths rows) ≡ true → EachRow P bytes rows → EachRow P (with_bytes path read bytes) rows
  all_later [] after all = λ k d h. absurd (omega (arith, h))
  all_later (row ∷ rows) after all =
      let parts = and_parts _ _ after in
      All-cons (λ r. P (with_bytes path read bytes r.path) r) row rows
      (rw (later_held path read bytes row.path parts.0) at (all 0 row (omega arith)))
      (all_later rows parts.1 (rest_of (λ r. P (bytes r.path) r) row rows all))

-- one row more, with what was read of its file
pub rows_push : (P : List ℕ → Row → Type 0) (bytes : Path → List ℕ) {path : Path} (read : List ℕ) (row : Row) → row.path ≡ path → P read row → (rows : List Row)
    → list_all (λ earlier. parts_before earlier path) (row_paths rows) ≡ true
    → EachRow P bytes rows → EachRow P (with_bytes path read bytes) (rows ++ row ∷ [])
rows_push P bytes {path} read row is new rows behind all =
    All-push (λ r. P (with_bytes path read bytes r.path) r) rows row (all_still P bytes path read rows behind all)
    (subst (λ p. P (with_bytes path read bytes p) row) (sym is) (rw (← (now_held path bytes)) new))

comes_before : (path : Path) (front : List Row) (row : Row) (others : List Row) → list_all (parts_before path) (row_paths (front ++ row ∷ others)) ≡ true
    → parts_before path row.path ≡ true
comes_before path [] row others h = (and_parts _ _ h).0
comes_before path (r ∷ front) row others h = comes_before path front row others (and_parts _ _ h).1

-- it is of all rows around one whose file was read anew
all_around : (P : List ℕ → Row → Type 0) (bytes : Path → List ℕ) (read : List ℕ) (front : List Row) (row : Row) (others : List Row)
    → part_in_order (row_paths (front ++ row ∷ others)) ≡ true → P read row
    → EachRow P bytes (front ++ row ∷ others) → EachRow P (with_bytes row.path read bytes) (front ++ row ∷ others)
all_around P bytes read [] row others order new all =
    All-cons (λ r. P (with_bytes row.path read bytes r.path) r) row others (rw (← (now_held row.path bytes)) new)
    (all_later P bytes row.path read others (and_parts _ _ order).0 (rest_of (λ r. P (bytes r.path) r) row others all))
all_around P bytes read (first ∷ front) row others order new all =
    let parts = and_parts _ _ order in
    All-cons (λ r. P (with_bytes row.path read bytes r.path) r) first _
    (rw (← (earlier_held row.path read bytes first.path (comes_before first.path front row others parts.0))) (all 0 first (omega arith)))
    (all_around P bytes read front row others parts.1 new (rest_of (λ r. P (bytes r.path) r) first _ all))

-- so where the row is one of them
pub rows_again : (P : List ℕ → Row → Type 0) (bytes : Path → List ℕ) (read : List ℕ) (rows : List Row) (n : ℕ) (row : Row) → slice_get rows n ≡ Some row
    → part_in_order (row_paths rows) ≡ true → P read row
    → EachRow P bytes rows → EachRow P (with_bytes_of (slice_get rows n) read bytes) rows
rows_again P bytes read rows n row is order new all =
    let split = split_at n rows row is in
    rw is
    (rw split
    (all_around P bytes read (take n rows) row (drop (suc n) rows) (sym (ap (λ (l : List Row). part_in_order (row_paths l)) split) ∙ order) new
    (rw split at all)))

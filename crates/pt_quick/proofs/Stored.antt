-- The path at which the content of a row is stored is that of one of the rows.
use Rattle.std.proofs.Common.{◌≡◌, ℕ, List, [], ◌∷◌, ◌++◌, Bool, true, false, refl, sym, ◌∙◌, ap, subst}
use Rattle.std.specs.Prelude.{◌||◌, All, cond, map, Option, Some, None, is_some, slice_index_or}
use Rattle.std.specs.List.{find}
use Rattle.std.specs.Option.{option_map, unwrap_or}
use Rattle.std.specs.Str.{bytes_eq}
use Rattle.std.proofs.lemmas.Bool.{true≢false}
use Rattle.std.proofs.lemmas.List.Elements.{All-cons, All-head, All-nil, All-tail, All-weaker}
use Rattle.pt_tree.specs.Path.{Path, same_path}
use Rattle.pt_tree.proofs.AtPaths.{path_itself, same_from}
use Rattle.pt_tree.proofs.Names.{name_itself, same_name}
use Rattle.pt_object.specs.Distinct.{distinct, distinct_after, row_has_digest}
use Rattle.pt_object.specs.FilePaths.{File, row_paths}
use Rattle.pt_object.specs.Holding.{held_at}
use Rattle.pt_object.specs.Object.{stored_files, stored_path}
use Rattle.pt_object.specs.declared.rows.Row.{Row}
use Rattle.pt_object.proofs.Manifests.{has, has-push}

-- of two facts on each
pub both : {X : Type 0} (P Q R : X → Type 0) (xs : List X) → ((x : X) → P x → Q x → R x) → All P xs → All Q xs → All R xs
both P Q R xs f p q = λ k d within. f (slice_index_or xs k d) (p k d within) (q k d within)

-- a fact on each row, from one on each path
pub on_rows : (P : Path → Type 0) (rows : List Row) → All P (row_paths rows) → All (λ row. P row.path) rows
on_rows P [] all = All-nil (λ row. P row.path)
on_rows P (row ∷ rows) all =
    All-cons (λ row. P row.path) row rows (All-head P row.path (row_paths rows) all) (on_rows P rows (All-tail P row.path (row_paths rows) all))

-- what holds of each row holds of one that is found
found_holds : (P : Row → Type 0) (test : Row → Bool) (rows : List Row) (first : Row) → All P rows → find test rows ≡ Some first → P first
found_holds P test [] first all is = absurd (cc)
found_holds P test (row ∷ rows) first all is =
    by (test row) is (found_holds P test rows first (All-tail P row rows all)) (All-head P row rows all)
  where
    by : (t : Bool) → cond t (Some row) (find test rows) ≡ Some first → (find test rows ≡ Some first → P first) → P row → P first
    by true is later here = let it : row ≡ first = cc in subst P it here
    by false is later here = later is

-- what holds of each row's path holds of that at which its content is stored
pub stored_holds : (P : Path → Type 0) (rows : List Row) → All (λ row. P row.path) rows → All (λ row. P (stored_path rows row)) rows
stored_holds P rows all =
    All-weaker (λ row. P row.path) (λ row. P (stored_path rows row))
    (λ row here. by row here (find (row_has_digest row.digest) rows) refl) rows all
  where
    by : (row : Row) → P row.path → (o : Option Row) → find (row_has_digest row.digest) rows ≡ o
        → P (unwrap_or (option_map (λ first. first.path) o) row.path)
    by row here None is = here
    by row here (Some first) is = found_holds (λ row. P row.path) (row_has_digest row.digest) rows first all is

-- what holds of each row holds of the distinct ones
pub distinct_holds : (P : Row → Type 0) (earlier rows : List Row) → All P rows → All P (distinct_after earlier rows)
distinct_holds P earlier [] all = All-nil P
distinct_holds P earlier (row ∷ rows) all =
    by (has row.digest earlier) (distinct_holds P (earlier ++ row ∷ []) rows (All-tail P row rows all)) (All-head P row rows all)
  where
    by : (t : Bool) → All P (distinct_after (earlier ++ row ∷ []) rows) → P row
        → All P (cond t (distinct_after (earlier ++ row ∷ []) rows) (row ∷ distinct_after (earlier ++ row ∷ []) rows))
    by true later here = later
    by false later here = All-cons P row (distinct_after (earlier ++ row ∷ []) rows) here later

-- ---- what is stored

-- of a digest that the earlier rows don't have the first row is a distinct one
first_distinct : (digest : List ℕ) (earlier rows : List Row) → has digest earlier ≡ false
    → find (row_has_digest digest) (distinct_after earlier rows) ≡ find (row_has_digest digest) rows
first_distinct digest earlier [] new = refl
first_distinct digest earlier (row ∷ rows) new =
    by (bytes_eq row.digest digest) refl (has row.digest earlier) refl
    (λ apart. first_distinct digest (earlier ++ row ∷ []) rows (has-push digest earlier row ∙ (λ i. new i || apart i)))
  where
    by : (t : Bool) → bytes_eq row.digest digest ≡ t → (u : Bool) → has row.digest earlier ≡ u
        → (bytes_eq row.digest digest ≡ false
        → find (row_has_digest digest) (distinct_after (earlier ++ row ∷ []) rows) ≡ find (row_has_digest digest) rows)
        → find (row_has_digest digest) (cond u (distinct_after (earlier ++ row ∷ []) rows) (row ∷ distinct_after (earlier ++ row ∷ []) rows))
        ≡ cond t (Some row) (find (row_has_digest digest) rows)
    by true same true had later =
        absurd (true≢false (sym had ∙ ap (λ (d : List ℕ). has d earlier) (same_name row.digest digest same) ∙ new))
    by true same false had later = ap (λ t. cond t (Some row) (find (row_has_digest digest) (distinct_after (earlier ++ row ∷ []) rows))) same
    by false apart true had later = later apart
    by false apart false had later =
        ap (λ t. cond t (Some row) (find (row_has_digest digest) (distinct_after (earlier ++ row ∷ []) rows))) apart ∙ later apart

-- at the path of a row what it holds is held
held_by : (held : Path → List ℕ) (test : Row → Bool) (rows : List Row) (first : Row) → find test rows ≡ Some first
    → held_at (map (λ row. (row.path, held row.path)) rows) first.path ≡ Some (held first.path)
held_by held test [] first is = absurd (cc)
held_by held test (row ∷ rows) first is = by (test row) is (held_by held test rows first)
  where
    on : (t : Bool) → same_path first.path row.path ≡ t
        → held_at (map (λ row. (row.path, held row.path)) rows) first.path ≡ Some (held first.path)
        → cond t (Some (held row.path)) (held_at (map {B = File} (λ row. (row.path, held row.path)) rows) first.path) ≡ Some (held first.path)
    on true same later = ap (λ (p : Path). Some (held p)) (sym (same_from first.path row.path same))
    on false apart later = later

    by : (t : Bool) → cond t (Some row) (find test rows) ≡ Some first
        → (find test rows ≡ Some first → held_at (map (λ row. (row.path, held row.path)) rows) first.path ≡ Some (held first.path))
        → cond (same_path first.path row.path) (Some (held row.path)) (held_at (map {B = File} (λ row. (row.path, held row.path)) rows) first.path)
        ≡ Some (held first.path)
    by true is later =
        let it : row ≡ first = cc in
        ap (λ (r : Row). cond (same_path first.path r.path) (Some (held r.path))
        (held_at (map {B = File} (λ row. (row.path, held row.path)) rows) first.path)) it
        ∙ ap (λ t. cond t (Some (held first.path)) (held_at (map {B = File} (λ row. (row.path, held row.path)) rows) first.path)) (path_itself first.path)
    by false is later = on (same_path first.path row.path) refl (later is)

-- a row with each row's digest is found
is_found : (rows : List Row) → All (λ row. is_some (find (row_has_digest row.digest) rows) ≡ true) rows
is_found [] = All-nil (λ row. is_some (find (row_has_digest row.digest) []) ≡ true)
is_found (x ∷ rows) =
    All-cons (λ row. is_some (find (row_has_digest row.digest) (x ∷ rows)) ≡ true) x rows
    (ap (λ t. is_some (cond t (Some x) (find (row_has_digest x.digest) rows))) (name_itself x.digest))
    (All-weaker (λ row. is_some (find (row_has_digest row.digest) rows) ≡ true) (λ row. is_some (find (row_has_digest row.digest) (x ∷ rows)) ≡ true)
    (λ row is. by row (row_has_digest row.digest x) is) rows (is_found rows))
  where
    by : (row : Row) (t : Bool) → is_some (find (row_has_digest row.digest) rows) ≡ true
        → is_some (cond t (Some x) (find (row_has_digest row.digest) rows)) ≡ true
    by row true is = refl
    by row false is = is

-- so the content of each row is held where it is stored
pub stored_are_held : (held : Path → List ℕ) (rows : List Row)
    → All (λ row. held_at (stored_files rows held) (stored_path rows row) ≡ Some (held (stored_path rows row))) rows
stored_are_held held rows =
    All-weaker (λ row. is_some (find (row_has_digest row.digest) rows) ≡ true)
    (λ row. held_at (stored_files rows held) (stored_path rows row) ≡ Some (held (stored_path rows row)))
    (λ row is. by row (find (row_has_digest row.digest) rows) refl is) rows (is_found rows)
  where
    by : (row : Row) (o : Option Row) → find (row_has_digest row.digest) rows ≡ o → is_some o ≡ true
        → held_at (stored_files rows held) (unwrap_or (option_map (λ first. first.path) o) row.path)
        ≡ Some (held (unwrap_or (option_map (λ first. first.path) o) row.path))
    by row None found is = absurd (true≢false (sym is))
    by row (Some first) found is =
        held_by held (row_has_digest row.digest) (distinct rows) first (first_distinct row.digest [] rows refl ∙ found)

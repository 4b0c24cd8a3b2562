-- The digest of the next content tells whether it is a row's, as its path does.
use Rattle.std.proofs.Common.{◌≡◌, ℕ, suc, Bool, true, false, List, [], ◌∷◌, ◌++◌, refl, ap, sym, ◌∙◌, cond, drop, length, map, take}
use Rattle.std.specs.List.{list_any}
use Rattle.std.specs.Option.{option_map_or}
use Rattle.std.specs.Prelude.{Some, slice_get, ◌||◌}
use Rattle.std.specs.Str.{bytes_eq}
use Rattle.std.proofs.lemmas.Bool.{true≢false}
use Rattle.std.proofs.lemmas.List.Folds.{list_any-append}
use Rattle.pt_object.proofs.Ways.{bytes_eq-sym, name_itself}
use Rattle.pt_object.specs.Contents.{has_digest}
use Rattle.pt_object.specs.Distinct.{content_of_row, distinct, distinct_after, row_has_digest}
use Rattle.pt_object.specs.FilePaths.{row_paths}
use Rattle.pt_tree.specs.PathOrder.{part_in_order}
use Rattle.pt_object.specs.declared.table.contents.Content.{Content}
use Rattle.pt_object.specs.declared.rows.Row.{Row}
use Rattle.pt_plan.specs.TurnMake.{is_stored}
use Rattle.pt_invariant.proofs.held.DistinctRows.{distinct_around, is_known, stored_where_new, unless_known}

-- the content of this number has this digest
abbrev at_number : List ℕ → List Content → ℕ → Bool
at_number digest contents number = option_map_or (has_digest digest) (slice_get contents number) false

-- one of these rows has the digest, whichever list of bytes it is
abbrev Has : List ℕ → List Row → Type 0
Has digest rows = (same : List ℕ) → bytes_eq digest same ≡ true → list_any (row_has_digest same) rows ≡ true

or_left : (a b : Bool) → a ≡ true → (a || b) ≡ true
or_left a b is = ap (λ t. t || b) is

or_right : (a b : Bool) → b ≡ true → (a || b) ≡ true
or_right true b is = refl
or_right false b is = is

has_more : (digest : List ℕ) (rows : List Row) (row : Row) → Has digest rows → Has digest (rows ++ row ∷ [])
has_more digest rows row has same is = list_any-append (row_has_digest same) rows (row ∷ []) ∙ or_left _ _ (has same is)

has_last : (rows : List Row) (row : Row) → Has row.digest (rows ++ row ∷ [])
has_last rows row same is = list_any-append (row_has_digest same) rows (row ∷ []) ∙ or_right (list_any (row_has_digest same) rows) _ (or_left _ _ is)

-- what is distinct behind a row has another digest
others_differ : (digest : List ℕ) (earlier rows : List Row) → Has digest earlier → at_number digest (map content_of_row (distinct_after earlier rows)) 0 ≡ false
others_differ digest earlier [] has = refl
others_differ digest earlier (row ∷ rows) has =
    by (is_known earlier row) (others_differ digest (earlier ++ row ∷ []) rows (has_more digest earlier row has)) refl
  where
    differs : (t : Bool) → bytes_eq row.digest digest ≡ t → is_known earlier row ≡ false → t ≡ false
    differs true same new = absurd (true≢false (sym (has row.digest (bytes_eq-sym row.digest digest true same)) ∙ new))
    differs false same new = refl

    by : (t : Bool) → at_number digest (map content_of_row (distinct_after (earlier ++ row ∷ []) rows)) 0 ≡ false → is_known earlier row ≡ t
        → at_number digest (map content_of_row (cond t (distinct_after (earlier ++ row ∷ []) rows) (row ∷ distinct_after (earlier ++ row ∷ []) rows))) 0 ≡ false
    by true later known = later
    by false later new = differs (bytes_eq row.digest digest) refl new

-- the next content has the row's digest exactly where that isn't known
told_where_new : (rows : List Row) (contents : List Content) (n stored : ℕ) (row : Row) → contents ≡ map content_of_row (distinct rows)
    → stored ≡ length (distinct (take n rows)) → slice_get rows n ≡ Some row
    → (known : Bool) → is_known (take n rows) row ≡ known → at_number row.digest contents stored ≡ cond known false true
told_where_new rows contents n stored row contents_are stored_is is known is_it =
    ap (λ (l : List Content). at_number row.digest l stored) contents_are
    ∙ ap (λ (k : ℕ). at_number row.digest (map content_of_row (distinct rows)) k) stored_is
    ∙ ap (λ (l : List Row). at_number row.digest (map content_of_row l) (length (distinct (take n rows)))) (distinct_around rows n row is
    ∙ ap (λ t. distinct (take n rows) ++ (unless_known t row ++ later)) is_it)
    ∙ by known
  where
    later : List Row
    later = distinct_after (take n rows ++ row ∷ []) (drop (suc n) rows)

    at_end : (front others : List Row) → at_number row.digest (map content_of_row (front ++ others)) (length front)
        ≡ at_number row.digest (map content_of_row others) 0
    at_end [] others = refl
    at_end (r ∷ front) others = at_end front others

    by : (t : Bool) → at_number row.digest (map content_of_row (distinct (take n rows) ++ (unless_known t row ++ later))) (length (distinct (take n rows)))
        ≡ cond t false true
    by true = at_end (distinct (take n rows)) later ∙ others_differ row.digest (take n rows ++ row ∷ []) (drop (suc n) rows) (has_last (take n rows) row)
    by false = at_end (distinct (take n rows)) (row ∷ later) ∙ name_itself row.digest

-- so it tells what the path does
pub digest_tells : (rows : List Row) (contents : List Content) (n stored : ℕ) (row : Row) → contents ≡ map content_of_row (distinct rows)
    → stored ≡ length (distinct (take n rows)) → part_in_order (row_paths rows) ≡ true → slice_get rows n ≡ Some row
    → option_map_or (has_digest row.digest) (slice_get contents stored) false ≡ is_stored contents stored row.path
digest_tells rows contents n stored row contents_are stored_is order is =
    told_where_new rows contents n stored row contents_are stored_is is (is_known (take n rows) row) refl
    ∙ sym (stored_where_new rows contents n stored row contents_are stored_is order is (is_known (take n rows) row) refl)

-- Where a row stands among the distinct ones.
use Rattle.std.proofs.Common.{
  ◌≡◌,
  ℕ,
  zero,
  suc,
  Bool,
  true,
  false,
  List,
  [],
  ◌∷◌,
  ◌++◌,
  refl,
  ap,
  sym,
  ◌∙◌,
  append-nil,
  append_assoc,
  cond,
  drop,
  length,
  map,
  take,
}
use Rattle.std.specs.List.{list_all, list_any}
use Rattle.std.specs.Prelude.{None, Some, slice_get}
use Rattle.std.proofs.lemmas.Bool.{and_from, and_parts}
use Rattle.std.proofs.lemmas.List.{map-append}
use Rattle.pt_object.proofs.Ways.{path_itself}
use Rattle.pt_object.specs.Distinct.{content_of_row, distinct, distinct_after, row_has_digest}
use Rattle.pt_object.specs.FilePaths.{row_paths}
use Rattle.pt_tree.specs.PathOrder.{part_in_order, parts_before}
use Rattle.pt_object.specs.declared.table.contents.Content.{Content}
use Rattle.pt_object.specs.declared.rows.Row.{Row}
use Rattle.pt_tree.specs.Path.{Path, same_path}
use Rattle.pt_plan.proofs.Levels.{same_path-sym}
use Rattle.pt_plan.specs.TurnMake.{is_stored}
use Rattle.pt_invariant.proofs.dest.Ordering.{order_behind, parts_differ}
use Rattle.pt_invariant.proofs.Tests.{split_at, take_one}

-- a row with its digest is among these
abbrev pub is_known : List Row → Row → Bool
is_known earlier row = list_any (row_has_digest row.digest) earlier

-- the row, unless its digest is known
abbrev pub unless_known : Bool → Row → List Row
unless_known known row = cond known [] (row ∷ [])

unless_then : (known : Bool) (row : Row) (rows : List Row) → cond known rows (row ∷ rows) ≡ unless_known known row ++ rows
unless_then true row rows = refl
unless_then false row rows = refl

-- the distinct ones of some rows and then of others
pub distinct_in_turn : (earlier front rows : List Row) → distinct_after earlier (front ++ rows)
    ≡ distinct_after earlier front ++ distinct_after (earlier ++ front) rows
distinct_in_turn earlier [] rows = ap (λ (l : List Row). distinct_after l rows) (sym (append-nil earlier))
distinct_in_turn earlier (row ∷ front) rows =
    by (is_known earlier row) (distinct_in_turn _ front rows ∙ ap (λ (l : List Row). distinct_after (earlier ++ row ∷ []) front ++ distinct_after l rows)
    (append_assoc earlier (row ∷ []) front))
  where
    by : (t : Bool) → distinct_after (earlier ++ row ∷ []) (front ++ rows) ≡ distinct_after (earlier ++ row ∷ []) front
        ++ distinct_after (earlier ++ row ∷ front) rows
        → cond t (distinct_after (earlier ++ row ∷ []) (front ++ rows)) (row ∷ distinct_after (earlier ++ row ∷ []) (front ++ rows))
        ≡ cond t (distinct_after (earlier ++ row ∷ []) front) (row ∷ distinct_after (earlier ++ row ∷ []) front) ++ distinct_after (earlier ++ row ∷ front) rows
    by true later = later
    by false later = ap (λ l. row ∷ l) later

-- one row more
pub distinct_push : (rows : List Row) (row : Row) → distinct (rows ++ row ∷ []) ≡ distinct rows ++ unless_known (is_known rows row) row
distinct_push rows row = distinct_in_turn [] rows (row ∷ []) ∙ ap (λ l. distinct rows ++ l) (unless_then (is_known rows row) row []
    ∙ append-nil (unless_known (is_known rows row) row))

pub distinct_more : (rows : List Row) (n : ℕ) (row : Row) → slice_get rows n ≡ Some row
    → distinct (take (suc n) rows) ≡ distinct (take n rows) ++ unless_known (is_known (take n rows) row) row
distinct_more rows n row is = ap distinct (take_one n rows row is) ∙ distinct_push (take n rows) row

-- all of them, seen from a row
pub distinct_around : (rows : List Row) (n : ℕ) (row : Row) → slice_get rows n ≡ Some row
    → distinct rows ≡ distinct (take n rows) ++ (unless_known (is_known (take n rows) row) row ++ distinct_after (take n rows ++ row ∷ []) (drop (suc n) rows))
distinct_around rows n row is =
    ap distinct (split_at n rows row is)
    ∙ distinct_in_turn [] (take n rows) (row ∷ drop (suc n) rows)
    ∙ ap (λ l. distinct (take n rows) ++ l) (unless_then _ row (distinct_after (take n rows ++ row ∷ []) (drop (suc n) rows)))

-- what holds of rows holds of the distinct ones
pub all_distinct : (test : Path → Bool) (earlier rows : List Row) → list_all test (row_paths rows) ≡ true
    → list_all test (row_paths (distinct_after earlier rows)) ≡ true
all_distinct test earlier [] h = refl
all_distinct test earlier (row ∷ rows) h =
    let parts = and_parts _ _ h in
    by (is_known earlier row) (all_distinct test (earlier ++ row ∷ []) rows parts.1)
  where
    by : (t : Bool) → list_all test (row_paths (distinct_after (earlier ++ row ∷ []) rows)) ≡ true
        → list_all test (row_paths (cond t (distinct_after (earlier ++ row ∷ []) rows) (row ∷ distinct_after (earlier ++ row ∷ []) rows))) ≡ true
    by true later = later
    by false later = and_from _ _ (and_parts _ _ h).0 later

pub order_distinct : (earlier rows : List Row) → part_in_order (row_paths rows) ≡ true → part_in_order (row_paths (distinct_after earlier rows)) ≡ true
order_distinct earlier [] h = refl
order_distinct earlier (row ∷ rows) h =
    let parts = and_parts _ _ h in
    by (is_known earlier row) (order_distinct _ rows parts.1) (all_distinct _ _ rows parts.0)
  where
    by : (t : Bool) → part_in_order (row_paths (distinct_after (earlier ++ row ∷ []) rows)) ≡ true
        → list_all (parts_before row.path) (row_paths (distinct_after (earlier ++ row ∷ []) rows)) ≡ true
        → part_in_order (row_paths (cond t (distinct_after (earlier ++ row ∷ []) rows) (row ∷ distinct_after (earlier ++ row ∷ []) rows))) ≡ true
    by true later first = later
    by false later first = and_from _ _ first later

-- the first of the others
pub get_behind : {X : Type 0} → (front others : List X) → slice_get (front ++ others) (length front) ≡ slice_get others 0
get_behind [] others = refl
get_behind (x ∷ front) others = get_behind front others

pub get_map : {X Y : Type 0} → (f : X → Y) (xs : List X) (n : ℕ) (x : X) → slice_get xs n ≡ Some x → slice_get (map f xs) n ≡ Some (f x)
get_map f [] n x is = absurd (cc)
get_map f (y ∷ xs) zero x is =
    let same : y ≡ x = cc in
    ap (λ z. Some (f z)) same
get_map f (y ∷ xs) (suc n) x is = get_map f xs n x is

pub get_map_none : {X Y : Type 0} → (f : X → Y) (xs : List X) (n : ℕ) → slice_get xs n ≡ None → slice_get (map f xs) n ≡ None
get_map_none f [] n is = refl
get_map_none f (y ∷ xs) zero is = absurd (cc)
get_map_none f (y ∷ xs) (suc n) is = get_map_none f xs n is

-- the paths of rows behind a row, which come behind its own
paths_behind : (rows : List Row) (n : ℕ) (row : Row) → slice_get rows n ≡ Some row → part_in_order (row_paths rows) ≡ true
    → list_all (parts_before row.path) (row_paths (drop (suc n) rows)) ≡ true
paths_behind rows n row is order =
    order_behind (row_paths (take n rows)) row.path _
    (sym (ap part_in_order (ap row_paths (split_at n rows row is) ∙ map-append (λ (r : Row). r.path) (take n rows) (row ∷ drop (suc n) rows))) ∙ order)

-- the next content is the row's exactly where its digest isn't known
pub stored_where_new : (rows : List Row) (contents : List Content) (n stored : ℕ) (row : Row) → contents ≡ map content_of_row (distinct rows)
    → stored ≡ length (distinct (take n rows)) → part_in_order (row_paths rows) ≡ true → slice_get rows n ≡ Some row
    → (known : Bool) → is_known (take n rows) row ≡ known → is_stored contents stored row.path ≡ cond known false true
stored_where_new rows contents n stored row contents_are stored_is order is known is_it =
    ap (λ (l : List Content). is_stored l stored row.path) contents_are ∙ ap (λ (k : ℕ). is_stored (map content_of_row (distinct rows)) k row.path) stored_is
    ∙ ap (λ (l : List Row). is_stored (map content_of_row l) (length (distinct (take n rows))) row.path) (distinct_around rows n row is
    ∙ ap (λ t. distinct (take n rows) ++ (unless_known t row ++ later)) is_it)
    ∙ by known
  where
    later : List Row
    later = distinct_after (take n rows ++ row ∷ []) (drop (suc n) rows)

    at_end : (front others : List Row) → is_stored (map content_of_row (front ++ others)) (length front) row.path
        ≡ is_stored (map content_of_row others) 0 row.path
    at_end [] others = refl
    at_end (r ∷ front) others = at_end front others

    none_is : (others : List Row) → list_all (parts_before row.path) (row_paths others) ≡ true → is_stored (map content_of_row others) 0 row.path ≡ false
    none_is [] behind = refl
    none_is (other ∷ others) behind =
        differs _ refl (and_parts _ _ behind).0
      where
        differs : (t : Bool) → same_path other.path row.path ≡ t → parts_before row.path other.path ≡ true → t ≡ false
        differs t same h = parts_differ row.path other.path t (swapped row.path other.path ∙ same) h
          where
            swapped : (p q : Path) → same_path p q ≡ same_path q p
            swapped = same_path-sym

    by : (t : Bool) → is_stored (map content_of_row (distinct (take n rows) ++ (unless_known t row ++ later))) (length (distinct (take n rows))) row.path
        ≡ cond t false true
    by true = at_end (distinct (take n rows)) later ∙ none_is later (all_distinct _ _ (drop (suc n) rows) (paths_behind rows n row is order))
    by false = at_end (distinct (take n rows)) (row ∷ later) ∙ path_itself row.path

-- Contents to which all rows of a list are noted.
use Rattle.std.proofs.Common.{
  ◌≡◌,
  ℕ,
  Bool,
  List,
  [],
  ◌∷◌,
  ◌++◌,
  refl,
  sym,
  ◌∙◌,
  ap,
  cond,
  true,
  false,
  inl,
  inr,
  append_assoc,
  append-nil,
  ◌⊎◌,
  ◌+◌,
  ◌<◌,
  ◌≤◌,
  length,
  get_or,
  take,
}
use Rattle.std.specs.Prelude.{find, map, ◌||◌, Option, Some, None, is_some}
use Rattle.std.specs.List.{list_any}
use Rattle.std.specs.Option.{option_map, option_or}
use Rattle.std.specs.Str.{bytes_eq}
use Rattle.std.specs.Cmp.Lexicographic.{bytes_decides}
use Rattle.std.proofs.lemmas.Bool.{cases_Bool}
use Rattle.std.proofs.Math.Bool.{or-false, or-true}
use Rattle.std.proofs.lemmas.List.{take_more, take_all}
use Rattle.std.proofs.lemmas.List.Sums.{fold_push}
use Rattle.std.proofs.lemmas.List.Folds.{list_any-append}
use Rattle.pt_tree.specs.Path.{Path}
use Rattle.pt_object.specs.Contents.{content_of, first_path, has_digest, is_noted, noted}
use Rattle.pt_object.specs.Distinct.{content_of_row, distinct, distinct_after, noted_all, row_has_digest, NotingGivesDistinct, NotingKeepsFirst}
use Rattle.pt_object.specs.declared.table.contents.Content.{Content}
use Rattle.pt_object.specs.declared.rows.Row.{Row}

-- the items have just the digests of the rows
abbrev Agree : List Row → List Content → Type 0
Agree earlier items = (d : List ℕ) → is_noted items d ≡ list_any (row_has_digest d) earlier

-- one more row of a digest that is there
agree_known : (earlier : List Row) (items : List Content) (row : Row) → Agree earlier items → is_noted items row.digest ≡ true
    → Agree (earlier ++ row ∷ []) items
agree_known earlier items row agree known d =
    sym (list_any-append (row_has_digest d) earlier (row ∷ []) ∙ by_cases (cases_Bool (bytes_eq row.digest d)))
  where
    by_cases : (bytes_eq row.digest d ≡ true) ⊎ (bytes_eq row.digest d ≡ false) → (list_any (row_has_digest d) earlier || (bytes_eq row.digest d || false))
        ≡ is_noted items d
    by_cases (inl same) =
        let at : row.digest ≡ d = (bytes_decides row.digest d).0 same in
        ap (λ (b : Bool). list_any (row_has_digest d) earlier || (b || false)) same ∙ or-true _ ∙ sym (ap (is_noted items) (sym at) ∙ known)
    by_cases (inr other) =
        ap (λ (b : Bool). list_any (row_has_digest d) earlier || (b || false)) other ∙ or-false _ ∙ sym (agree d)

-- one more row of a new digest
agree_new : (earlier : List Row) (items : List Content) (row : Row) → Agree earlier items → Agree (earlier ++ row ∷ []) (items ++ content_of_row row ∷ [])
agree_new earlier items row agree d =
    list_any-append (has_digest d) items (content_of_row row ∷ [])
    ∙ ap (λ (b : Bool). b || (bytes_eq row.digest d || false)) (agree d)
    ∙ sym (list_any-append (row_has_digest d) earlier (row ∷ []))

noted_all-distinct : (earlier : List Row) (items : List Content) (rows : List Row) → Agree earlier items
    → noted_all items rows ≡ items ++ map content_of_row (distinct_after earlier rows)
noted_all-distinct earlier items [] agree = sym (append-nil items)
noted_all-distinct earlier items (row ∷ rows) agree = elim (cases_Bool (is_noted items row.digest)) [
  | inl known ↦
      let earlier_known = sym (agree row.digest) ∙ known in
      rw (known, earlier_known) (noted_all-distinct (earlier ++ row ∷ []) items rows (agree_known earlier items row agree known))
  | inr new ↦
      let earlier_new = sym (agree row.digest) ∙ new in
      rw (new, earlier_new) (noted_all-distinct (earlier ++ row ∷ []) (items ++ content_of_row row ∷ []) rows (agree_new earlier items row agree)
      ∙ append_assoc items (content_of_row row ∷ []) _)
]

pub noting_gives_distinct : NotingGivesDistinct
noting_gives_distinct rows = noted_all-distinct [] [] rows (λ d. refl)

-- what is noted has a path
first_path-known : (items : List Content) (d : List ℕ) → is_noted items d ≡ is_some (first_path items d)
first_path-known [] d = refl
first_path-known (x ∷ items) d = elim (cases_Bool (bytes_eq x.digest d)) [
  | inl here ↦ rw here refl
  | inr other ↦ rw other (first_path-known items d)
]

or_kept : {A : Type 0} (o p : Option A) → is_some o ≡ true → o ≡ option_or o p
or_kept None p h = absurd (cc)
or_kept (Some x) p h = refl

or_none : {A : Type 0} (o : Option A) → option_or o None ≡ o
or_none None = refl
or_none (Some x) = refl

or_assoc : {A : Type 0} (o p q : Option A) → option_or (option_or o p) q ≡ option_or o (option_or p q)
or_assoc None p q = refl
or_assoc (Some x) p q = refl

abbrev path_if : Bool → Path → Option Path
path_if b path = cond b (Some path) None

first_path-push : (items : List Content) (e d : List ℕ) (path : Path) → first_path (items ++ content_of e path ∷ []) d
    ≡ option_or (first_path items d) (path_if (bytes_eq e d) path)
first_path-push [] e d path = elim (cases_Bool (bytes_eq e d)) [ inl h ↦ rw h refl | inr h ↦ rw h refl ]
first_path-push (x ∷ items) e d path = elim (cases_Bool (bytes_eq x.digest d)) [
  | inl here ↦ rw here refl
  | inr other ↦ rw other (first_path-push items e d path)
]

-- noting a file gives its path to its digest, where there was none
first_path-noted : (items : List Content) (e d : List ℕ) (path : Path)
    → first_path (noted items e path) d ≡ option_or (first_path items d) (path_if (bytes_eq e d) path)
first_path-noted items e d path = elim (cases_Bool (is_noted items e)) [
  | inl known ↦ elim (cases_Bool (bytes_eq e d)) [
    | inl same ↦
        let at : e ≡ d = (bytes_decides e d).0 same in
        let has : is_some (first_path items d) ≡ true = sym (first_path-known items d) ∙ ap (is_noted items) (sym at) ∙ known in
        rw known (or_kept (first_path items d) (path_if (bytes_eq e d) path) has)
    | inr other ↦ rw (known, other) (sym (or_none (first_path items d)))
  ]
  | inr new ↦ rw new (first_path-push items e d path)
]

abbrev first_row_path : List Row → List ℕ → Option Path
first_row_path rows d = option_map (λ (row : Row). row.path) (find (row_has_digest d) rows)

first_row_path-cons : (row : Row) (rows : List Row) (d : List ℕ) → option_or (path_if (bytes_eq row.digest d) row.path) (first_row_path rows d)
    ≡ first_row_path (row ∷ rows) d
first_row_path-cons row rows d = elim (cases_Bool (bytes_eq row.digest d)) [ inl h ↦ rw h refl | inr h ↦ rw h refl ]

noted_all-first : (items : List Content) (rows : List Row) (d : List ℕ)
    → first_path (noted_all items rows) d ≡ option_or (first_path items d) (first_row_path rows d)
noted_all-first items [] d = sym (or_none (first_path items d))
noted_all-first items (row ∷ rows) d =
    noted_all-first (noted items row.digest row.path) rows d
    ∙ ap (λ (o : Option Path). option_or o (first_row_path rows d)) (first_path-noted items row.digest d row.path)
    ∙ or_assoc (first_path items d) (path_if (bytes_eq row.digest d) row.path) (first_row_path rows d)
    ∙ ap (option_or (first_path items d)) (first_row_path-cons row rows d)

pub noting_keeps_first : NotingKeepsFirst
noting_keeps_first rows d = noted_all-first [] rows d

-- one more row noted
pub noted_more : (rows : List Row) (i : ℕ) (row : Row) (items new : List Content) → i < length rows → row ≡ get_or rows i row
    → items ≡ noted_all [] (take i rows)
    → new ≡ noted items row.digest row.path → new ≡ noted_all [] (take (i + 1) rows)
noted_more rows i row items new within is so_far last =
    last
    ∙ ap (λ (l : List Content). noted l row.digest row.path) so_far
    ∙ sym (fold_push (λ (l : List Content) (r : Row). noted l r.digest r.path) [] (take i rows) row)
    ∙ sym (ap (noted_all []) (take_more rows i row within ∙ ap (λ (r : Row). take i rows ++ r ∷ []) (sym is)))

-- all rows noted
pub noted_whole : (rows : List Row) (i : ℕ) (items : List Content) → items ≡ noted_all [] (take i rows) → length rows ≤ i
    → items ≡ map content_of_row (distinct rows)
noted_whole rows i items so_far whole = so_far ∙ ap (noted_all []) (take_all i rows whole) ∙ noting_gives_distinct rows

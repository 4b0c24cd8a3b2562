-- Where a parser accepts, each option that is required or has a default has a value.
use Rattle.std.proofs.Common.{
  inl,
  inr,
  ◌≡◌,
  ◌∙◌,
  ◌<◌,
  ◌&&◌,
  ◌||◌,
  Bool,
  true,
  false,
  cond,
  not,
  List,
  [],
  ◌∷◌,
  ◌++◌,
  length,
  Some,
  None,
  refl,
  sym,
  ap,
  subst,
  arith,
  true≢false,
}
use Rattle.std.specs.Prelude.{◌⊎◌, IfSome, option_and_then, slice_get}
use Rattle.std.specs.List.{find, fold, list_any}
use Rattle.std.specs.Option.{option_map}
use Rattle.std.specs.Str.{bytes_eq}
use Rattle.std.proofs.Math.Bool.{or-true}
use Rattle.std.proofs.lemmas.Slice.Eq.{bytes_eq-Decides}
use Rattle.clap.specs.Words.{Kinds, Row, Rule, Text, one_of, first_of, read_as}
use Rattle.clap.specs.Kinds.{check_kinds, value_kinds}
use Rattle.clap.specs.Values.{refused_kind}
use Rattle.clap.specs.declared.builder.value_parser.ValueParser.{ValueParser}
use Rattle.clap.proofs.WalkLemmas.{both}
use Rattle.std.proofs.lemmas.Bool.{not-true}
use Rattle.clap.specs.Facts.{parser_of_value}
use Rattle.clap.specs.ValueTests.{accepts}
use Rattle.clap.specs.Simple.{Shape}
use Rattle.clap.specs.Takes.{is_given}
use Rattle.clap.specs.Walk.{
  Names,
  arg_by_id,
  default_rows,
  has_row,
  is_empty,
  more_values,
  nothing_held,
  reading_by,
  row_text,
  rows_after,
  settled,
  walk_from,
  walked,
  with_default,
}
use Rattle.clap.specs.Faults.{check_fault, defaults_fault, level_fault, settle_fault, values_fault, walk_fault}
use Rattle.clap.specs.declared.parser.matches.ValueSource.TheVariants.{DefaultValue}
use Rattle.pt_cli.proofs.Passing.{AllGood, Every, Fits, Suits, absent, both_empty, defaults_good, neither, settled_good, walk_good}

any_both : (id : Text) (xs ys : List Row) → has_row id (xs ++ ys) ≡ (has_row id xs || has_row id ys)
any_both id [] ys = refl
any_both id (x ∷ xs) ys = go (bytes_eq x.id id) (any_both id xs ys)
  where
    go : (b : Bool) → has_row id (xs ++ ys) ≡ (has_row id xs || has_row id ys) → (b || has_row id (xs ++ ys)) ≡ ((b || has_row id xs) || has_row id ys)
    go true e = refl
    go false e = e

same_id : (id : Text) → bytes_eq id id ≡ true
same_id id = (bytes_eq-Decides id id).1 refl

default_adds : (a : Rule) (id : Text) (rows : List Row) → (has_row id rows ≡ true) ⊎ ((bytes_eq a.id id ≡ true) × (is_empty a.defaults ≡ false))
    → has_row id (with_default rows a) ≡ true
default_adds a id rows h = go (has_row a.id rows) refl
  where
    new : List Text → Row
    new values = record { id = a.id; values = values; count = None; source = Some DefaultValue; reading = reading_by a }

    some : (values : List Text) → a.defaults ≡ values → has_row a.id rows ≡ false → has_row id (default_rows a.id (reading_by a) values rows) ≡ true
    some [] is none = elim h [
      | inl there ↦ there
      | inr more ↦ absurd (true≢false (sym (ap is_empty is) ∙ more.1))
    ]
    some (v ∷ vs) is none =
        let joined = ap (has_row id) (absent a.id (more_values DefaultValue (v ∷ vs)) (new (v ∷ vs) ∷ []) rows none) ∙ any_both id rows (new (v ∷ vs) ∷ []) in
        elim h [
          | inl there ↦ joined ∙ rw there refl
          | inr more ↦ joined ∙ rw more.0 (or-true (has_row id rows))
        ]

    go : (b : Bool) → has_row a.id rows ≡ b → has_row id (cond b rows (default_rows a.id (reading_by a) a.defaults rows)) ≡ true
    go true is = elim h [
      | inl there ↦ there
      | inr more ↦ let same : a.id ≡ id = (bytes_eq-Decides a.id id).0 more.0 in subst (λ i. has_row i rows ≡ true) same is
    ]
    go false is = some a.defaults refl is

defaults_keep : (id : Text) (rules : List Rule) (rows : List Row) → has_row id rows ≡ true → has_row id (fold with_default rows rules) ≡ true
defaults_keep id [] rows there = there
defaults_keep id (a ∷ rest) rows there = defaults_keep id rest (with_default rows a) (default_adds a id rows (inl there))

-- a rule of the id has a default
abbrev pub has_default : Text → List Rule → Bool
has_default id = list_any (λ a. bytes_eq a.id id && not (is_empty a.defaults))

default_there : (id : Text) (rules : List Rule) (rows : List Row) → has_default id rules ≡ true → has_row id (fold with_default rows rules) ≡ true
default_there id [] rows e = absurd (cc)
default_there id (a ∷ rest) rows e = go (bytes_eq a.id id && not (is_empty a.defaults)) refl (default_there id rest (with_default rows a))
  where
    go : (b : Bool) → (bytes_eq a.id id && not (is_empty a.defaults)) ≡ b
        → (has_default id rest ≡ true → has_row id (fold with_default (with_default rows a) rest) ≡ true)
        → has_row id (fold with_default (with_default rows a) rest) ≡ true
    go true is more =
        let parts = both _ _ is in
        defaults_keep id rest (with_default rows a) (default_adds a id rows (inr (parts.0, not-true _ parts.1)))
    go false is more = more (rw is at e)

-- a rule of the id is required
abbrev pub is_required : Text → List Rule → Bool
is_required id = list_any (λ a. bytes_eq a.id id && a.required)

required_given : (id : Text) (rows : List Row) (rules : List Rule) → list_any (λ a. a.required && not (is_given a.id rows)) rules ≡ false
    → is_required id rules ≡ true
    → is_given id rows ≡ true
required_given id rows [] none e = absurd (cc)
required_given id rows (a ∷ rest) none e = go (bytes_eq a.id id && a.required) refl (required_given id rows rest parts.1)
  where
    parts : ((a.required && not (is_given a.id rows)) ≡ false) × (list_any (λ a. a.required && not (is_given a.id rows)) rest ≡ false)
    parts = neither _ _ none

    given : (b : Bool) → is_given a.id rows ≡ b → a.required ≡ true → is_given a.id rows ≡ true
    given true is wanted = is
    given false is wanted =
        let bad : true ≡ false = rw (wanted, is) at parts.0 in
        absurd (true≢false bad)

    go : (b : Bool) → (bytes_eq a.id id && a.required) ≡ b → (is_required id rest ≡ true → is_given id rows ≡ true) → is_given id rows ≡ true
    go true is more =
        let both_are = both _ _ is in
        let same : a.id ≡ id = (bytes_eq-Decides a.id id).0 both_are.0 in
        subst (λ i. is_given i rows ≡ true) same (given (is_given a.id rows) refl both_are.1)
    go false is more = more (rw is at e)

given_there : (id : Text) (rows : List Row) → is_given id rows ≡ true → has_row id rows ≡ true
given_there id [] e = e
given_there id (r ∷ rs) e = go (bytes_eq r.id id) refl (given_there id rs)
  where
    go : (b : Bool) → bytes_eq r.id id ≡ b → (is_given id rs ≡ true → has_row id rs ≡ true) → (bytes_eq r.id id || has_row id rs) ≡ true
    go true is more = rw is refl
    go false is more =
        let later : is_given id rs ≡ true = rw is at e in
        rw is (more later)

-- ---- values that are there

-- the option has a value, which passed its parser
abbrev pub Value : Text → Rule → List Row → Type 0
Value id a rows =
    (v : Text) × (first_of id rows ≡ Some v) × (one_of id rows ≡ Some (read_as (reading_by a) v)) × (accepts a.ignore_case (parser_of_value a.parser) v ≡ true)

module _ (c : List Rule) (id : Text) (a : Rule) (is_rule : arg_by_id c id ≡ Some a) where
  row_there : (rows : List Row) → AllGood c rows → has_row id rows ≡ true → (r : Row) × (find (λ r. bytes_eq r.id id) rows ≡ Some r) × Suits a r
  row_there [] good e = absurd (cc)
  row_there (x ∷ xs) good e = go (bytes_eq x.id id) refl (row_there xs good.1)
    where
      go : (b : Bool) → bytes_eq x.id id ≡ b → (has_row id xs ≡ true → (r : Row) × (find (λ r. bytes_eq r.id id) xs ≡ Some r) × Suits a r)
          → (r : Row) × (cond (bytes_eq x.id id) (Some x) (find (λ r. bytes_eq r.id id) xs) ≡ Some r) × Suits a r
      go true is more =
          let same : x.id ≡ id = (bytes_eq-Decides x.id id).0 is in
          let suits : IfSome (Some a) (λ b. Suits b x) = subst (λ o. IfSome o (λ b. Suits b x)) (ap (arg_by_id c) same ∙ is_rule) good.0 in
          (x, rw is refl, suits)
      go false is more =
          let later : has_row id xs ≡ true = rw is at e in
          let rest = more later in
          (rest.0, rw is rest.1, rest.2)

  accepted : (ignore_case : Bool) (p : ValueParser) (v : Text) → value_kinds ignore_case p v ≡ [] → accepts ignore_case p v ≡ true
  accepted ignore_case p v e = go (accepts ignore_case p v) refl
    where
      go : (b : Bool) → accepts ignore_case p v ≡ b → accepts ignore_case p v ≡ true
      go true is = is
      go false is =
          let bad : refused_kind p ∷ [] ≡ [] = rw is at e in
          absurd (cc)

  value_of_row : (r : Row) (values : List Text) → r.values ≡ values → Suits a r
      → (v : Text) × (slice_get r.values 0 ≡ Some v) × (r.reading ≡ reading_by a) × (accepts a.ignore_case (parser_of_value a.parser) v ≡ true)
  value_of_row r [] is suits =
      let bad : 0 < 0 = subst (λ (vs : List Text). 0 < length vs) is suits.1 in
      absurd (omega arith)
  value_of_row r (v ∷ vs) is suits =
      let pass : values_fault a (v ∷ vs) ≡ [] = subst (λ (xs : List Text). values_fault a xs ≡ []) is suits.2 in
      let first : slice_get r.values 0 ≡ Some v = ap (λ (xs : List Text). slice_get xs 0) is in
      (v, first, suits.0, accepted a.ignore_case (parser_of_value a.parser) v (both_empty _ _ pass).0)

  value_there : (rows : List Row) → AllGood c rows → has_row id rows ≡ true → Value id a rows
  value_there rows good e =
      let row = row_there rows good e in
      let value = value_of_row row.0 row.0.values refl row.2 in
      let one : one_of id rows ≡ Some (read_as (reading_by a) value.0) =
      ap (option_and_then row_text) row.1 ∙ ap (option_map (read_as row.0.reading)) value.1 ∙ ap (λ how. Some (read_as how value.0)) value.2 in
      (value.0, ap (option_and_then (λ (r : Row). slice_get r.values 0)) row.1 ∙ value.1, one, value.3)

-- ---- a level of which nothing fails

no_argument : (help command argument : Bool) → check_kinds help command argument ≡ [] → argument ≡ false
no_argument true command argument e = absurd (cc)
no_argument false true argument e = absurd (cc)
no_argument false false true e = absurd (cc)
no_argument false false false e = refl

module _ (s : Shape) (once : s.args_override_self ≡ false) (fit : Every (Fits s.rules) s.rules) (names : Names) (words : List Text) (has_subcommand : Bool)
    (below : Kinds)
    (passes : level_fault s names nothing_held words has_subcommand below ≡ []) where
  pub walk_passed : (walk_fault s names (walk_from nothing_held) words ≡ []) × (below ≡ [])
  walk_passed =
      let walks = both_empty _ _ passes in
      (walks.0, (both_empty _ _ walks.1).0)

  pub check_passed : check_fault s (rows_after s.rules names words) has_subcommand ≡ []
  check_passed =
      let end = (fold (walked s.rules names) (walk_from nothing_held) words).held in
      let walks = both_empty (walk_fault s names (walk_from nothing_held) words) _ passes in
      let goes = both_empty below _ walks.1 in
      let settles = both_empty (settle_fault s.rules s.args_override_self end) _ goes.1 in
      (both_empty (defaults_fault (settled s.rules end).rows s.rules) _ settles.1).1

  level_good : AllGood s.rules (rows_after s.rules names words)
  level_good =
      let walks = both_empty _ _ passes in
      let goes = both_empty _ _ walks.1 in
      let settles = both_empty _ _ goes.1 in
      let end = (fold (walked s.rules names) (walk_from nothing_held) words).held in
      defaults_good s.rules s.rules (settled s.rules end).rows fit
      (settled_good s.rules s.args_override_self once fit end (walk_good s once fit names (walk_from nothing_held) words tt walks.0) settles.0)
      (both_empty _ _ settles.1).0

  -- an option with a default has a value
  pub default_value : (id : Text) (a : Rule) → arg_by_id s.rules id ≡ Some a → has_default id s.rules ≡ true → Value id a (rows_after s.rules names words)
  default_value id a is_rule has =
      let end = (fold (walked s.rules names) (walk_from nothing_held) words).held in
      value_there s.rules id a is_rule _ level_good (default_there id s.rules (settled s.rules end).rows has)

  -- and one that is required
  pub required_value : (id : Text) (a : Rule) → arg_by_id s.rules id ≡ Some a → is_required id s.rules ≡ true
      → (s.subcommand_negates_reqs && has_subcommand) ≡ false
      → Value id a (rows_after s.rules names words)
  required_value id a is_rule is wants =
      let none = no_argument _ _ _ check_passed in
      let all : list_any (λ a. a.required && not (is_given a.id (rows_after s.rules names words))) s.rules ≡ false = rw wants at none in
      value_there s.rules id a is_rule _ level_good (given_there id _ (required_given id _ s.rules all is))

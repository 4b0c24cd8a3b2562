-- The rows that a parser makes of words that it accepts: each value passed its option's parser.
use Rattle.std.proofs.Common.{
  ◌≡◌,
  ◌∙◌,
  ◌<◌,
  ◌&&◌,
  ◌||◌,
  ℕ,
  zero,
  suc,
  Bool,
  true,
  false,
  cond,
  not,
  nat_lt,
  List,
  [],
  ◌∷◌,
  ◌++◌,
  length,
  Option,
  Some,
  None,
  refl,
  sym,
  ap,
  subst,
  arith,
  ne_eqb,
  append-nil,
}
use Rattle.std.specs.Prelude.{⊤, IfSome, drop, encode_utf8, is_some, slice_get}
use Rattle.std.specs.List.{find, fold}
use Rattle.std.specs.Option.{option_map_or}
use Rattle.std.specs.Str.{bytes_eq, chars}
use Rattle.clap.specs.Lexer.{long_of, short_of}
use Rattle.clap.specs.Words.{Kinds, Row, Rule, Text}
use Rattle.clap.specs.Kinds.{or_else, range_kinds, request_kinds, value_kinds, values_kinds}
use Rattle.clap.specs.Values.{is_request}
use Rattle.clap.specs.Facts.{parser_of_value, unwrap_or_range}
use Rattle.clap.specs.Simple.{Shape}
use Rattle.clap.specs.Walk.{
  Held,
  Names,
  Outcome,
  Step,
  Waiting,
  Walk,
  action_of,
  after_flag,
  after_step,
  arg_by_id,
  arg_by_index,
  arg_by_long,
  arg_by_short,
  at_row,
  attached_value,
  bundle,
  bundle_met,
  bundle_step,
  default_rows,
  done,
  flag_met,
  has_row,
  idle,
  is_empty,
  is_pending,
  long_met,
  long_or_other,
  more_values,
  most_values,
  next,
  option,
  option_met,
  option_word,
  plain,
  plain_word,
  positional,
  reacted,
  reading_by,
  refused,
  settled,
  settled_rows,
  short_met,
  short_or_plain,
  stronger,
  subcommand,
  subcommand_met,
  subcommand_or_other,
  takes_several,
  takes_values,
  to_positional,
  trailing,
  used,
  used_as,
  used_by_id,
  value,
  values_or_missing,
  waits,
  walked,
  walked_from,
  with_default,
  with_values,
  without,
  word_met,
}
use Rattle.clap.specs.Faults.{
  action_fault,
  bundle_fault,
  bundle_step_fault,
  default_fault,
  defaults_fault,
  flag_word_fault,
  flags_fault,
  given_default_fault,
  long_fault,
  option_fault,
  other_fault,
  positional_fault,
  react_fault,
  repeat_fault,
  set_fault,
  stray_fault,
  settle_fault,
  short_fault,
  step_fault,
  turn_fault,
  use_fault,
  values_fault,
  walk_fault,
  word_fault,
}
use Rattle.clap.specs.declared.builder.action.ArgAction.{ArgAction}
use Rattle.clap.specs.declared.builder.action.ArgAction.TheVariants as action
use Rattle.clap.specs.declared.error.kind.ErrorKind.TheVariants as kind
use Rattle.std.proofs.lemmas.Slice.Eq.{bytes_eq-Decides}
use Rattle.clap.specs.declared.builder.value_parser.ValueParser.{ValueParser}
use Rattle.clap.specs.declared.parser.matches.ValueSource.{ValueSource}
use Rattle.clap.specs.declared.parser.matches.ValueSource.TheVariants.{DefaultValue, CommandLine}

pub both_empty : (a b : Kinds) → or_else a b ≡ [] → (a ≡ []) × (b ≡ [])
both_empty [] b e = (refl, e)
both_empty (k ∷ ks) b e = absurd (cc)

pub neither : (a b : Bool) → (a || b) ≡ false → (a ≡ false) × (b ≡ false)
neither false b e = (refl, e)
neither true b e = absurd (cc)

-- P of each element
abbrev pub Every : {X : Type 0} → (X → Type 0) → List X → Type 0
Every P [] = ⊤
Every P (x ∷ xs) = P x × Every P xs

every_both : {X : Type 0} (P : X → Type 0) (xs ys : List X) → Every P xs → Every P ys → Every P (xs ++ ys)
every_both P [] ys h k = k
every_both P (x ∷ xs) ys h k = (h.0, every_both P xs ys h.1 k)

pub find_if : {X : Type 0} (Q : X → Type 0) (p : X → Bool) (xs : List X) → Every Q xs → IfSome (find p xs) Q
find_if Q p [] all = tt
find_if Q p (x ∷ xs) all = go (p x) (find_if Q p xs all.1)
  where
    go : (b : Bool) → IfSome (find p xs) Q → IfSome (cond b (Some x) (find p xs)) Q
    go true rest = all.0
    go false rest = rest

-- the row has a value, each of its values passed the argument's parser, and they are read as that says
abbrev pub Suits : Rule → Row → Type 0
Suits a r = (r.reading ≡ reading_by a) × (0 < length r.values) × (values_fault a r.values ≡ [])

abbrev pub IsGood : List Rule → Row → Type 0
IsGood c r = IfSome (arg_by_id c r.id) (λ a. Suits a r)

-- a use of the argument adds its values to one row at most
abbrev pub is_single : ArgAction → Bool
is_single action.Count = false
is_single _ = true

abbrev leaves_value : Rule → Bool
leaves_value a = nat_lt 0 (unwrap_or_range a.range).start_inclusive || not (is_empty a.missing)

-- the argument is the only one of its id, and a use of it leaves one row with a value, or asks for help
abbrev pub Fits : List Rule → Rule → Type 0
Fits c a = (arg_by_id c a.id ≡ Some a) × (is_single (action_of a) ≡ true) × ((is_request (action_of a) || leaves_value a) ≡ true)

pub absent : (id : Text) (change : Row → List Row) (missing rows : List Row) → has_row id rows ≡ false → at_row id change missing rows ≡ rows ++ missing
absent id change missing [] e = refl
absent id change missing (r ∷ rs) e =
    let parts = neither (bytes_eq r.id id) (has_row id rs) e in
    rw parts.0 (ap (λ xs. r ∷ xs) (absent id change missing rs parts.1))

not_empty : {X : Type 0} (x : X) (xs : List X) → is_empty (x ∷ xs) ≡ false
not_empty x xs = ne_eqb _ _ (λ e. omega arith)

some_text : (texts : List Text) → not (is_empty texts) ≡ true → 0 < length texts
some_text [] e = absurd (cc)
some_text (t ∷ ts) e = omega arith

some_missing : (least most : ℕ) (missing : List Text) → (nat_lt 0 least || not (is_empty missing)) ≡ true → range_kinds least most 0 ≡ [] → 0 < length missing
some_missing least most missing leaves e = go (nat_lt 0 least) refl
  where
    go : (b : Bool) → nat_lt 0 least ≡ b → 0 < length missing
    go true is =
        let bad : kind.InvalidValue ∷ [] ≡ [] = rw is at e in
        absurd (cc)
    go false is = some_text missing (rw is at leaves)

longer : (xs ys : List Text) → 0 < length xs → 0 < length (xs ++ ys)
longer [] ys h = absurd (omega arith)
longer (x ∷ xs) ys h = omega arith

-- values behind others pass where both do
values_joined : (ignore_case : Bool) (p : ValueParser) (xs ys : List Text) → values_kinds ignore_case p xs ≡ [] → values_kinds ignore_case p ys ≡ []
    → values_kinds ignore_case p (xs ++ ys) ≡ []
values_joined ignore_case p [] ys first later = later
values_joined ignore_case p (x ∷ xs) ys first later =
    let parts = both_empty (value_kinds ignore_case p x) (values_kinds ignore_case p xs) first in
    rw parts.0 (values_joined ignore_case p xs ys parts.1 later)

module _ (c : List Rule) where
  abbrev pub AllGood : List Row → Type 0
  AllGood = Every (IsGood c)

  added : (a : Rule) (s : ValueSource) (values : List Text) (rows : List Row) → Fits c a → AllGood rows → has_row a.id rows ≡ false → 0 < length values
      → values_fault a values ≡ [] → AllGood (with_values a.id (reading_by a) s values rows)
  added a s values rows fits good none some pass =
      let new : Row = record { id = a.id; values = values; count = None; source = Some s; reading = reading_by a } in
      let suits : Suits a new = (refl, some, pass) in
      let new_good : IsGood c new = subst (λ o. IfSome o (λ b. Suits b new)) (sym fits.0) suits in
      subst AllGood (sym (absent a.id (more_values s values) (new ∷ []) rows none)) (every_both (IsGood c) rows (new ∷ []) good (new_good, tt))

  -- the same where a row of the argument may be there, which then has the values behind its own
  joined : (a : Rule) (s : ValueSource) (values : List Text) (rows : List Row) → Fits c a → AllGood rows → 0 < length values
      → values_fault a values ≡ [] → AllGood (with_values a.id (reading_by a) s values rows)
  joined a s values [] fits good some pass = added a s values [] fits good refl some pass
  joined a s values (r ∷ rows) fits good some pass = go (bytes_eq r.id a.id) refl (joined a s values rows fits good.1 some pass)
    where
      more : Row
      more = record r { values = r.values ++ values; source = Some (stronger r.source s) }

      new : Row
      new = record { id = a.id; values = values; count = None; source = Some s; reading = reading_by a }

      go : (b : Bool) → bytes_eq r.id a.id ≡ b → AllGood (at_row a.id (more_values s values) (new ∷ []) rows)
          → AllGood (cond b (more_values s values r ++ rows) (r ∷ at_row a.id (more_values s values) (new ∷ []) rows))
      go true is later =
          let same : r.id ≡ a.id = (bytes_eq-Decides r.id a.id).0 is in
          let found : arg_by_id c r.id ≡ Some a = ap (arg_by_id c) same ∙ fits.0 in
          let old : Suits a r = subst (λ o. IfSome o (λ b. Suits b r)) found good.0 in
          let suits : Suits a more = (old.0, longer r.values values old.1, values_joined a.ignore_case (parser_of_value a.parser) r.values values old.2 pass) in
          (subst (λ o. IfSome o (λ b. Suits b more)) (sym found) suits, good.1)
      go false is later = (good.0, later)

  some_value : (a : Rule) (values : List Text) → leaves_value a ≡ true → range_kinds (unwrap_or_range a.range).start_inclusive (most_values a) (length values)
      ≡ []
      → 0 < length (values_or_missing a values)
  some_value a (v ∷ vs) leaves e = omega arith
  some_value a [] leaves e = some_missing (unwrap_or_range a.range).start_inclusive (most_values a) a.missing leaves e

  module _ (again : Bool) (once : again ≡ false) (fit : Every (Fits c) c) where
    -- no row of the argument comes before one that is set
    none_before : (id : Text) (rows : List Row) → repeat_fault again id rows ≡ [] → has_row id rows ≡ false
    none_before id rows e = go (has_row id rows) refl
      where
        go : (b : Bool) → has_row id rows ≡ b → has_row id rows ≡ false
        go false is = is
        go true is =
            let bad : kind.ArgumentConflict ∷ [] ≡ [] = rw (is, once) at e in
            absurd (cc)

    set_good : (a : Rule) (values : List Text) (rows : List Row) → Fits c a → AllGood rows → 0 < length values
        → set_fault again a values rows ≡ [] → AllGood (with_values a.id (reading_by a) CommandLine values (without a.id rows))
    set_good a values rows fits good some e =
        let parts = both_empty _ _ e in
        let none = none_before a.id rows parts.0 in
        let same : without a.id rows ≡ rows = absent a.id (λ _. []) [] rows none ∙ append-nil rows in
        subst (λ rs. AllGood (with_values a.id (reading_by a) CommandLine values rs)) (sym same) (added a CommandLine values rows fits good none some parts.1)

    used_as_good : (a : Rule) (x : ArgAction) (values : List Text) (rows : List Row) → is_single x ≡ true → Fits c a → AllGood rows
        → (is_request x ≡ false → 0 < length values) → action_fault x again a values rows ≡ [] → AllGood (used_as x a.id (reading_by a) values rows)
    used_as_good a action.Set values rows single fits good some e = set_good a values rows fits good (some refl) e
    used_as_good a action.SetTrue values rows single fits good some e = set_good a values rows fits good (some refl) e
    used_as_good a action.SetFalse values rows single fits good some e = set_good a values rows fits good (some refl) e
    used_as_good a action.Append values rows single fits good some e = joined a CommandLine values rows fits good (some refl) e
    used_as_good a action.Count values rows single fits good some e = absurd (cc)
    used_as_good a action.Help values rows single fits good some e = good
    used_as_good a action.HelpShort values rows single fits good some e = good
    used_as_good a action.HelpLong values rows single fits good some e = good
    used_as_good a action.Version values rows single fits good some e = good

    used_good : (a : Rule) (values : List Text) (rows : List Row) → Fits c a → AllGood rows → use_fault again a values rows ≡ [] → AllGood (used a values rows)
    used_good a values rows fits good e =
        let parts = both_empty _ _ e in
        let leaves : (is_request (action_of a) ≡ false) → leaves_value a ≡ true = λ other. sym (ap (λ b. b || leaves_value a) other) ∙ fits.2 in
        used_as_good a (action_of a) (values_or_missing a values) rows fits.1 fits good (λ other. some_value a values (leaves other) parts.0) parts.1

    pub settled_good : (h : Held) → AllGood h.rows → settle_fault c again h ≡ [] → AllGood (settled c h).rows
    settled_good h good e = go h.pending e
      where
        by_id : (o : Option Rule) (values : List Text) → IfSome o (Fits c) → option_map_or (λ a. use_fault again a values h.rows) o [] ≡ []
            → AllGood (used_by_id o values h.rows)
        by_id None values fits k = good
        by_id (Some a) values fits k = used_good a values h.rows fits good k

        go : (p : Option (Text × List Text)) → option_map_or (λ p. option_map_or (λ a. use_fault again a p.1 h.rows) (arg_by_id c p.0) []) p [] ≡ []
            → AllGood (settled_rows c p h.rows)
        go None k = good
        go (Some p) k = by_id (arg_by_id c p.0) p.1 (find_if (Fits c) _ c fit) k

    reacted_good : (a : Rule) (values : List Text) (h : Held) → Fits c a → AllGood h.rows → react_fault c again a values h ≡ []
        → AllGood (reacted c a values h).rows
    reacted_good a values h fits good e =
        let parts = both_empty _ _ e in
        used_good a values (settled c h).rows fits (settled_good h good parts.0) parts.1

    option_good : (a : Rule) (v : Option Text) (h : Held) → Fits c a → AllGood h.rows → option_fault c again a v h ≡ [] → AllGood (option_met c a v h).0.rows
    option_good a (Some v) h fits good e = reacted_good a (v ∷ []) h fits good e
    option_good a None h fits good e = settled_good h good e

    flag_good : (a : Rule) (v : Option Text) (h : Held) → Fits c a → AllGood h.rows → cond (is_some v) (kind.TooManyValues ∷ []) (react_fault c again a [] h)
        ≡ []
        → AllGood (flag_met c a v h).0.rows
    flag_good a (Some v) h fits good e = good
    flag_good a None h fits good e = reacted_good a [] h fits good e

    long_good : (o : Option Rule) (v : Option Text) (h : Held) → IfSome o (Fits c) → AllGood h.rows → long_fault c again o v h ≡ []
        → AllGood (long_met c o v h).0.rows
    long_good None v h fits good e = good
    long_good (Some a) v h fits good e = go (takes_values a) e
      where
        go : (b : Bool) → cond b (option_fault c again a v h) (cond (is_some v) (kind.TooManyValues ∷ []) (react_fault c again a [] h)) ≡ []
            → AllGood (cond b (option_met c a v h) (flag_met c a v h)).0.rows
        go true k = option_good a v h fits good k
        go false k = flag_good a v h fits good k

    short_good : (o : Option Rule) (rest : Text) (h : Held) (go_on : Held → Held × Outcome) (fails : Held → Kinds)
        → ((k : Held) → AllGood k.rows → fails k ≡ [] → AllGood (go_on k).0.rows) → IfSome o (Fits c) → AllGood h.rows → short_fault c again o rest h fails ≡ []
        → AllGood (short_met c o rest h go_on).0.rows
    short_good None rest h go_on fails then fits good e = good
    short_good (Some a) rest h go_on fails then fits good e = go (takes_values a) e
      where
        go : (b : Bool) → cond b (option_fault c again a (attached_value rest) h) (or_else (react_fault c again a [] h) (fails (reacted c a [] h))) ≡ []
            → AllGood (cond b (option_met c a (attached_value rest) h) (go_on (reacted c a [] h))).0.rows
        go true k = option_good a (attached_value rest) h fits good k
        go false k =
            let parts = both_empty _ _ k in
            then (reacted c a [] h) (reacted_good a [] h fits good parts.0) parts.1

    -- what is shown of a bundle of k characters
    abbrev BundleGood : ℕ → Type 0
    BundleGood k = (flags : Text) (skip : ℕ) (so_far : Outcome) (h : Held) → AllGood h.rows → flags_fault c again k flags skip h ≡ []
        → AllGood (bundle_met c k flags skip so_far h).0.rows

    character_good : (k : ℕ) → BundleGood k → (o : Option ℕ) (flags : Text) (skip : ℕ) (so_far : Outcome) (h : Held) → AllGood h.rows
        → bundle_step_fault c again o flags skip h (flags_fault c again k) ≡ [] → AllGood (bundle_step c o flags skip so_far h (bundle_met c k)).0.rows
    character_good k more None flags skip so_far h good e = good
    character_good k more (Some x) flags zero so_far h good e =
        let rest = drop (length (encode_utf8 x)) flags in
        short_good (arg_by_short c x) rest h (bundle_met c k rest 0 done) (flags_fault c again k rest 0) (λ j. more rest 0 done j) (find_if (Fits c) _ c fit)
        good e
    character_good k more (Some x) flags (suc skip) so_far h good e = more (drop (length (encode_utf8 x)) flags) skip so_far h good e

    bundle_good : (k : ℕ) → BundleGood k
    unfolding bundle_met flags_fault
    bundle_good zero flags skip so_far h good e = good
    bundle_good (suc k) flags skip so_far h good e = character_good k (bundle_good k) (slice_get (chars flags) 0) flags skip so_far h good e

    plain_rows : (waiting : Waiting) (word : Text) (h : Held) → (plain_word c waiting word h).0.rows ≡ h.rows
    plain_rows (option id) word h = go (arg_by_id c id)
      where
        go : (o : Option Rule) → (option_word o id word h).0.rows ≡ h.rows
        go None = refl
        go (Some a) = refl
    plain_rows idle word h = refl
    plain_rows positional word h = refl

    flag_rows : (waiting : Waiting) (word : Text) (h : Held) (o : Outcome) → (after_flag c waiting word h o).0.rows ≡ h.rows
    flag_rows waiting word h done = refl
    flag_rows waiting word h (waits id) = refl
    flag_rows waiting word h plain = plain_rows waiting word h
    flag_rows waiting word h refused = plain_rows waiting word h

    flag_word_good : (o : Option (Text × Option Text)) (waiting : Waiting) (word : Text) (h : Held) → AllGood h.rows → flag_word_fault c again o word h ≡ []
        → AllGood (long_or_other c waiting word o h).0.rows
    flag_word_good (Some p) waiting word h good e =
        let met = long_met c (arg_by_long c p.0) p.1 h in
        subst AllGood (sym (flag_rows waiting word met.0 met.1)) (long_good (arg_by_long c p.0) p.1 h (find_if (Fits c) _ c fit) good e)
    flag_word_good None waiting word h good e = go (short_of word) e
      where
        go : (o : Option Text) → option_map_or (λ flags. bundle_fault c again flags h) o [] ≡ [] → AllGood (short_or_plain c waiting word o h).0.rows
        go None k = subst AllGood (sym (plain_rows waiting word h)) good
        go (Some flags) k =
            let met = bundle c flags h in
            subst AllGood (sym (flag_rows waiting word met.0 met.1)) (bundle_good (length flags) flags h.skip plain (record h { skip = 0 }) good k)

    positional_good : (o : Option Rule) (word : Text) (w : Walk) (h : Held) (stray : Kinds) → AllGood h.rows
        → option_map_or (λ a. positional_fault c again a h) o stray ≡ [] → AllGood (to_positional c o word w h).held.rows
    positional_good None word w h stray good e = good
    positional_good (Some a) word w h stray good e = go (is_pending a h.pending && takes_several a) e
      where
        go : (b : Bool) → cond b [] (settle_fault c again h) ≡ [] → AllGood (cond b h (settled c h)).rows
        go true k = good
        go false k = settled_good h good k

-- ---- a level of the words

module _ (s : Shape) (once : s.args_override_self ≡ false) (fit : Every (Fits s.rules) s.rules) (names : Names) where
  word_good : (is_trailing : Bool) (waiting : Waiting) (position : ℕ) (word : Text) (h : Held) → AllGood s.rules h.rows
      → word_fault s names is_trailing waiting word h ≡ []
      → AllGood s.rules (word_met s.rules names is_trailing waiting position word h).0.rows
  word_good true waiting position word h good e = good
  word_good false waiting position word h good e = go (subcommand_met names waiting word) e
    where
      no_dashes : (b : Bool) → cond b [] (flag_word_fault s.rules s.args_override_self (long_of word) word h) ≡ []
          → AllGood s.rules (cond b (h, trailing position) (long_or_other s.rules waiting word (long_of word) h)).0.rows
      no_dashes true k = good
      no_dashes false k = flag_word_good s.rules s.args_override_self once fit (long_of word) waiting word h good k

      go : (o : Option Text) → other_fault s o word h ≡ [] → AllGood s.rules (subcommand_or_other s.rules o waiting position word h).0.rows
      go (Some name) k = good
      go None k = no_dashes (bytes_eq word (45 ∷ 45 ∷ [])) k

  after_good : (word : Text) (w : Walk) (h : Held) (step : Step) → AllGood s.rules h.rows → step_fault s w.position h step ≡ []
      → AllGood s.rules (after_step s.rules word w h step).held.rows
  after_good word w h (next waiting) good e = good
  after_good word w h (trailing position) good e = good
  after_good word w h (subcommand name) good e = good
  after_good word w h value good e =
      positional_good s.rules s.args_override_self once fit (arg_by_index s.rules w.position) word w h (stray_fault s) good e

  turn_good : (w : Walk) (word : Text) → AllGood s.rules w.held.rows → turn_fault s names w word ≡ [] → AllGood s.rules (walked s.rules names w word).held.rows
  unfolding walked
  turn_good w word good e = go w.stopped e
    where
      met : Held × Step
      met = word_met s.rules names w.is_trailing w.waiting w.position word w.held

      go : (o : Option (Text × List Text))
          → cond (is_some o) [] (or_else (word_fault s names w.is_trailing w.waiting word w.held) (step_fault s w.position met.0 met.1)) ≡ []
          → AllGood s.rules (walked_from s.rules names o w word).held.rows
      go (Some p) k = good
      go None k =
          let parts = both_empty _ _ k in
          after_good word w met.0 met.1 (word_good w.is_trailing w.waiting w.position word w.held good parts.0) parts.1

  pub walk_good : (w : Walk) (words : List Text) → AllGood s.rules w.held.rows → walk_fault s names w words ≡ []
      → AllGood s.rules (fold (walked s.rules names) w words).held.rows
  unfolding walk_fault
  walk_good w [] good e = good
  walk_good w (word ∷ rest) good e =
      let parts = both_empty _ _ e in
      walk_good (walked s.rules names w word) rest (turn_good w word good parts.0) parts.1

-- ---- defaults

module _ (c : List Rule) where
  default_good : (a : Rule) (values : List Text) (rows : List Row) → Fits c a → AllGood c rows → has_row a.id rows ≡ false
      → cond (is_empty values) [] (given_default_fault a values) ≡ [] → AllGood c (default_rows a.id (reading_by a) values rows)
  default_good a [] rows fits good none e = good
  default_good a (v ∷ vs) rows fits good none e =
      let given : given_default_fault a (v ∷ vs) ≡ [] = rw (not_empty v vs) at e in
      let parts = both_empty (request_kinds (action_of a)) (values_fault a (v ∷ vs)) given in
      added c a DefaultValue (v ∷ vs) rows fits good none (omega arith) parts.1

  with_default_good : (a : Rule) (rows : List Row) → Fits c a → AllGood c rows → default_fault rows a ≡ [] → AllGood c (with_default rows a)
  with_default_good a rows fits good e = go (has_row a.id rows) refl
    where
      go : (b : Bool) → has_row a.id rows ≡ b → AllGood c (cond b rows (default_rows a.id (reading_by a) a.defaults rows))
      go true is = good
      go false is = default_good a a.defaults rows fits good is (rw is at e)

  pub defaults_good : (rules : List Rule) (rows : List Row) → Every (Fits c) rules → AllGood c rows → defaults_fault rows rules ≡ []
      → AllGood c (fold with_default rows rules)
  unfolding defaults_fault
  defaults_good [] rows fits good e = good
  defaults_good (a ∷ rest) rows fits good e =
      let parts = both_empty _ _ e in
      defaults_good rest (with_default rows a) fits.1 (with_default_good a rows fits.0 good parts.0) parts.1

-- What the parser's texts are read as.
use Rattle.std.proofs.Common.{
  ◌≡◌,
  ℕ,
  ◌^◌,
  ◌&&◌,
  nat_lt,
  Bool,
  true,
  false,
  [],
  ◌∷◌,
  length,
  Option,
  Some,
  None,
  Result,
  Ok,
  Err,
  cond,
  refl,
  sym,
  ap,
  ◌∙◌,
  true≢false,
  lt-ltb,
  ltb-true,
}
use Rattle.std.specs.Prelude.{⊤, option_and_then}
use Rattle.std.specs.List.{list_all}
use Rattle.std.specs.Result.{result_ok}
use Rattle.std.specs.Char.{digit_value}
use Rattle.std.specs.Str.Parse.{AllDigits, ParsesUnsigned, digits_value, without_leading_plus}
use Rattle.clap.specs.Words.{ReadsOne, Text}
use Rattle.clap.specs.ValueTests.{is_numeral}
use Rattle.clap.proofs.WalkLemmas.{both}
use Rattle.pt_cli.specs.Arguments.{number_of}

digits_pass : (ds : Text) → AllDigits 10 ds → list_all (λ d. nat_lt (digit_value d) 10) ds ≡ true
digits_pass [] h = refl
digits_pass (d ∷ ds) h = rw (lt-ltb (digit_value d) 10 h.0) (digits_pass ds h.1)

digits_from : (ds : Text) → list_all (λ d. nat_lt (digit_value d) 10) ds ≡ true → AllDigits 10 ds
digits_from [] e = tt
digits_from (d ∷ ds) e =
    let parts = both _ _ e in
    (ltb-true _ _ parts.0, digits_from ds parts.1)

abbrev is_u32 : Text → Bool
is_u32 digits = is_numeral digits && nat_lt (digits_value 10 digits) (2 ^ 32)

-- a text that is read as a number of `u32`
number_read : {E : Type 0} (G : Text → Result ℕ E → Type 0) → ((u : Text) (x : Result ℕ E) → G u x → ParsesUnsigned 32 10 u x) → (text : Text) (r : Option ℕ)
    → ReadsOne G text r → r ≡ number_of text
number_read G only text (Some v) h =
    let ds = without_leading_plus text in
    let parsed = only text (Ok v) h in
    rw (lt-ltb 0 (length ds) parsed.0.0.0, digits_pass ds parsed.0.0.1, lt-ltb (digits_value 10 ds) (2 ^ 32) parsed.0.1) (ap Some parsed.1)
number_read G only text None h = go (is_u32 (without_leading_plus text)) refl
  where
    go : (b : Bool) → is_u32 (without_leading_plus text) ≡ b → None ≡ number_of text
    go false t = rw t refl
    go true t =
        let outer = both _ _ t in
        let inner = both _ _ outer.0 in
        absurd (only text (Err h.0) h.1 ((ltb-true _ _ inner.0, digits_from (without_leading_plus text) inner.1), ltb-true _ _ outer.1))

-- the same, where there may be no text
pub reads_one : (E : Type 0) (G : Text → Result ℕ E → Type 0) → ((u : Text) (x : Result ℕ E) → G u x → ParsesUnsigned 32 10 u x)
    → (o : Option Text) (r : Option ℕ)
    → (o ≡ None → r ≡ None) → ((t : Text) → o ≡ Some t → ReadsOne G t r) → r ≡ option_and_then number_of o
reads_one E G only None r none some = none refl
reads_one E G only (Some text) r none some = number_read G only text r (some text refl)

-- the number of a text is read from it
pub number_read_back : (text : Text) → ReadsOne {T = ℕ} {E = ⊤} (λ u x. ParsesUnsigned 32 10 u x) text (number_of text)
number_read_back text = go (is_u32 (without_leading_plus text)) refl
  where
    go : (b : Bool) → is_u32 (without_leading_plus text) ≡ b
        → ReadsOne {T = ℕ} {E = ⊤} (λ u x. ParsesUnsigned 32 10 u x) text (cond b (Some (digits_value 10 (without_leading_plus text))) None)
    go true t =
        let outer = both _ _ t in
        let inner = both _ _ outer.0 in
        (((ltb-true _ _ inner.0, digits_from (without_leading_plus text) inner.1), ltb-true _ _ outer.1), refl)
    go false t = (
      tt,
      λ h.
          let ds = without_leading_plus text in
          let yes : is_u32 ds ≡ true = rw (lt-ltb 0 (length ds) h.0.0, digits_pass ds h.0.1, lt-ltb (digits_value 10 ds) (2 ^ 32) h.1) refl in
          absurd (true≢false (sym yes ∙ t)),
    )

-- what `parse` gives of a text
pub number_parsed : {E : Type 0} (text : Text) (r : Result ℕ E) → ParsesUnsigned 32 10 text r → result_ok r ≡ number_of text
number_parsed text (Ok v) parsed =
    let ds = without_leading_plus text in
    rw (lt-ltb 0 (length ds) parsed.0.0.0, digits_pass ds parsed.0.0.1, lt-ltb (digits_value 10 ds) (2 ^ 32) parsed.0.1) (ap Some parsed.1)
number_parsed text (Err e) refused = go (is_u32 (without_leading_plus text)) refl
  where
    go : (b : Bool) → is_u32 (without_leading_plus text) ≡ b → None ≡ number_of text
    go false t = rw t refl
    go true t =
        let outer = both _ _ t in
        let inner = both _ _ outer.0 in
        absurd (refused ((ltb-true _ _ inner.0, digits_from (without_leading_plus text) inner.1), ltb-true _ _ outer.1))

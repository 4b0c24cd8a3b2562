-- A text that is spelled as a string of JSON where it stands, from its last byte on.
use Rattle.std.proofs.Common.{
  ◌≡◌,
  ◌+◌,
  ◌<◌,
  ◌≤◌,
  ◌++◌,
  ◌∙◌,
  ℕ,
  Bool,
  true,
  false,
  List,
  [],
  ◌∷◌,
  ap,
  sym,
  refl,
  append_assoc,
  append-nil,
  arith,
  cond,
  drop,
  get_or,
  length,
  nat_lt,
  take,
}
use Rattle.std.proofs.Math.Numerals.{suc-eq-add-one}
use Rattle.std.proofs.Math.Seq.{take-suc, drop-cons}
use Rattle.std.proofs.lemmas.Grind.{flat_map-append}
use Rattle.std.specs.Option.{IfNone}
use Rattle.std.specs.Prelude.{Option, None, Some}
use Rattle.std.proofs.lemmas.List.Folds.{length-flat_map-take}
use Rattle.std.proofs.lemmas.List.{get_or-take, length-append, length-take-le, take-append-drop, take-take, take_all, take_at}
use Rattle.json.specs.Print.{escape, escape_byte, escape_letter}

spelled_so : (letter short : Bool) (a b : List ℕ) (c : ℕ) → 1 ≤ length a → 1 ≤ length b → 1 ≤ length (cond letter a (cond short b (c ∷ [])))
spelled_so true short a b c h k = h
spelled_so false true a b c h k = k
spelled_so false false a b c h k = omega arith

-- a byte is spelled by one at least
pub some_spelled : (byte : ℕ) → 1 ≤ length (escape_byte byte)
unfolding escape_byte
some_spelled byte = spelled_so (nat_lt 0 (escape_letter byte)) (nat_lt byte 32) _ _ byte (omega arith) (omega arith)

-- so a text is spelled by no fewer than it has
pub no_shorter : (text : List ℕ) → length text ≤ length (escape text)
no_shorter [] = omega arith
no_shorter (byte ∷ text) = omega (arith, length-append (escape_byte byte) (escape text), some_spelled byte, no_shorter text)

-- a text and one byte more
last : (text : List ℕ) (k : ℕ) → k < length text → escape (take (k + 1) text) ≡ escape (take k text) ++ escape_byte (get_or text k 0)
last text k h =
    ap (λ (n : ℕ). escape (take n text)) (sym (suc-eq-add-one k)) ∙ ap escape (take-suc text k 0 h)
    ∙ flat_map-append escape_byte (take k text) (get_or text k 0 ∷ [])
    ∙ ap (λ (l : List ℕ). escape (take k text) ++ l) (append-nil (escape_byte (get_or text k 0)))

first : (text : List ℕ) (k n : ℕ) → k < n → n ≤ length text
    → escape (drop k (take n text)) ≡ escape_byte (get_or text k 0) ++ escape (drop (k + 1) (take n text))
first text k n h long =
    let fits : k < length (take n text) = omega (arith, length-take-le n text long) in
    ap escape (drop-cons (take n text) k 0 fits)
    ∙ ap (λ (m : ℕ). escape_byte (get_or (take n text) k 0) ++ escape (drop m (take n text))) (suc-eq-add-one k)
    ∙ ap (λ (b : ℕ). escape_byte b ++ escape (drop (k + 1) (take n text))) (get_or-take n text k 0 h)

-- the byte that is spelled next is the text's own
pub byte_there : (text now : List ℕ) (k : ℕ) → take (k + 1) now ≡ take (k + 1) text → get_or now k 0 ≡ get_or text k 0
byte_there text now k kept =
    sym (get_or-take (k + 1) now k 0 (omega arith)) ∙ ap (λ (l : List ℕ). get_or l k 0) kept ∙ get_or-take (k + 1) text k 0 (omega arith)

-- it has room before what was spelled
pub has_room : (text : List ℕ) (k at from : ℕ) → k < length text → at ≡ from + length (escape (take (k + 1) text))
    → length (escape_byte (get_or text k 0)) ≤ at
has_room text k at from h is = omega (arith, is, ap length (last text k h), length-append (escape (take k text)) (escape_byte (get_or text k 0)))

-- where it begins then
pub begins_at : (text : List ℕ) (k at from start : ℕ) → k < length text → at ≡ from + length (escape (take (k + 1) text))
    → start + length (escape_byte (get_or text k 0)) ≡ at → start ≡ from + length (escape (take k text))
begins_at text k at from start h is begins =
    omega (arith, is, begins, ap length (last text k h), length-append (escape (take k text)) (escape_byte (get_or text k 0)))

-- what is spelled then
pub spelled_more : (text now next : List ℕ) (k n at start : ℕ) → k < n → n ≤ length text
    → drop at now ≡ escape (drop (k + 1) (take n text))
    → drop start next ≡ escape_byte (get_or text k 0) ++ drop at now
    → drop start next ≡ escape (drop k (take n text))
spelled_more text now next k n at start h long behind written =
    written ∙ ap (λ (l : List ℕ). escape_byte (get_or text k 0) ++ l) behind ∙ sym (first text k n h long)

-- and it lies within them
pub within_text : (text : List ℕ) (k n at from : ℕ) → k ≤ n → n ≤ length text → length text ≡ from + length (escape (take n text))
    → at ≡ from + length (escape (take k text)) → at ≤ length text
within_text text k n at from h long room is =
    let cut : take n text ≡ take k text ++ drop k (take n text) =
    sym (take-append-drop k (take n text)) ∙ ap (λ (l : List ℕ). l ++ drop k (take n text)) (take-take k n text h) in
    omega (
      arith,
      room,
      is,
      ap (λ (l : List ℕ). length (escape l)) cut,
      ap length (flat_map-append escape_byte (take k text) (drop k (take n text))),
      length-append (escape (take k text)) (escape (drop k (take n text))),
    )

-- what is still to be spelled stays
pub kept_before : (text now next : List ℕ) (k start : ℕ) → k ≤ start → take (k + 1) now ≡ take (k + 1) text → take start next ≡ take start now
    → take k next ≡ take k text
kept_before text now next k start h kept front =
    sym (take-take k start next h) ∙ ap (take k) front ∙ take-take k start now h
    ∙ sym (take-take k (k + 1) now (omega arith)) ∙ ap (take k) kept ∙ take-take k (k + 1) text (omega arith)

-- a text that got room behind it
pub widened : (text more : List ℕ) (end : ℕ) → length text ≤ end → take (length text) (take end text ++ more) ≡ text
widened text more end h = ap (λ (l : List ℕ). take (length text) (l ++ more)) (take_all end text h) ∙ take_at text more (length text) refl

-- what is spelled, with one text before it and one behind it
pub framed : (head spelled tail bytes line whole : List ℕ) → drop (length head) bytes ≡ spelled → line ≡ head ++ drop (length head) bytes
    → whole ≡ line ++ tail → whole ≡ head ++ (spelled ++ tail)
framed head spelled tail bytes line whole there is more =
    more ∙ ap (λ (l : List ℕ). l ++ tail) (is ∙ ap (λ (l : List ℕ). head ++ l) there) ∙ append_assoc head spelled tail

-- of a text that has no place in so many as its front takes none has place
pub no_place : (o : Option ℕ) (text : List ℕ) (i end from most : ℕ) → i < length text → end ≡ from + length (escape (take i text))
    → most ≤ end + length (escape_byte (get_or text i 0)) → IfNone o (most ≤ from + length (escape text))
no_place None text i end from most h is over = omega (arith, is, over, length-flat_map-take escape_byte text i 0 h)
no_place (Some x) text i end from most h is over = tt

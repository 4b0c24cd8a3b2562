-- What of a text was found to come next in the open file of a root.
use Rattle.std.proofs.Common.{
  suc,
  ◌≡◌,
  ◌≢◌,
  ◌+◌,
  ◌*◌,
  ◌<◌,
  ◌≤◌,
  ℕ,
  List,
  [],
  ◌∷◌,
  ◌++◌,
  true,
  false,
  refl,
  sym,
  ap,
  ◌∙◌,
  take,
  drop,
  length,
  inl,
  inr,
  ◌⊎◌,
  min,
  arith,
  not,
  Bool,
  ◌==◌,
}
use Rattle.std.specs.Prelude.{Option, None, Some}
use Rattle.std.specs.Cmp.Lexicographic.{other_text, same_text}
use Rattle.std.specs.Str.{bytes_eq}
use Rattle.std.specs.Global.{Vec}
use Rattle.std.specs.Option.{option_map, ForSome}
use Rattle.std.proofs.lemmas.Bool.{cases_order, false_from_ne_true, true≢false}
use Rattle.std.proofs.lemmas.Bool.Decides.{Decides-eqb}
use Rattle.std.proofs.lemmas.List.{
  append-nil,
  append_assoc,
  append_cancel_left,
  drop_all,
  length-append,
  length-take-le,
  take-append-drop,
  take-append-le,
  take_all,
}
use Rattle.pt_tree.specs.Source.{IsRead, Reading, after_next}
use Rattle.pt_compare.specs.Bytes.{CameNext, EndsBlock, IsAllLeft, IsNotNext, TellsEnd, TellsRest, left_in}

-- so much of a text has passed, before what is left of it, and of the file before what is left of that
pub record Passed (bytes rest left : List ℕ) (now : Option (List ℕ)) : Type 0 where
  pub front : List ℕ
  pub behind : List ℕ
  pub bytes_are : bytes ≡ front ++ rest
  pub left_is : left ≡ front ++ behind
  pub now_is : now ≡ Some behind
  pub ends : (rest ≡ []) ⊎ ((blocks : ℕ) × (length front ≡ blocks * 8192))

unfoldable pub HasPassed : List ℕ → List ℕ → Option Reading → Option Reading → Type 0
HasPassed bytes rest old now = ForSome (left_in old) (λ left. Passed bytes rest left (left_in now))

pub none_passed : (bytes : List ℕ) (told : Option Reading) → HasPassed bytes bytes told told
unfolding HasPassed
none_passed bytes told = λ left is. record { front = []; behind = left; bytes_are = refl; left_is = refl; now_is = is; ends = inr (0, refl) }

pub all_passed : (bytes rest : List ℕ) (old now : Option Reading) → HasPassed bytes rest old now → length rest ≡ 0 → CameNext bytes old now
unfolding HasPassed CameNext
all_passed bytes (x ∷ rest) old now has none = absurd (cc)
all_passed bytes [] old now has none = λ left is. let p = has left is in (
  p.behind,
  p.now_is,
  p.left_is
      ∙ ap (λ f. f ++ p.behind) (sym (p.bytes_are ∙ append-nil p.front)),
)

pub block_is : (now : Option Reading) (left block : List ℕ) → IsRead now block → left_in now ≡ Some left → take 8192 left ≡ block
unfolding IsRead
block_is None left block read is = absurd (cc)
block_is (Some s) left block read is = let there : option_map (take 8192) (Some left) ≡ Some block = ap (option_map (take 8192)) (sym is) ∙ read s refl in cc

pub left_next : (told : Option Reading) → left_in (option_map after_next told) ≡ option_map (drop 8192) (left_in told)
left_next None = refl
left_next (Some s) = refl

-- a piece of a text: all that is left of it, or a block
record IsPiece (n : ℕ) (rest piece : List ℕ) : Type 0 where
  size : n ≡ min (length rest) 8192
  value : piece ≡ take n rest

ends_on : (n : ℕ) (rest piece behind front : List ℕ) → IsPiece n rest piece → behind ≡ drop n rest
    → (rest ≡ []) ⊎ ((blocks : ℕ) × (length front ≡ blocks * 8192)) → (behind ≡ []) ⊎ ((blocks : ℕ) × (length (front ++ piece) ≡ blocks * 8192))
ends_on n rest piece behind front is back (inl none) = inl (back ∙ ap (drop n) none ∙ drop_all n [] (omega arith))
ends_on n rest piece behind front is back (inr (blocks, e)) = by (cases_order (length rest) 8192)
  where
    whole : 8192 ≤ length rest → length (front ++ piece) ≡ (blocks + 1) * 8192
    whole long =
        let taken : length piece ≡ n = ap length is.value ∙ length-take-le n rest (omega (arith, is.size, long)) in
        let both : length (front ++ piece) ≡ length front + length piece = length-append front piece in
        omega (arith, taken, both, e, is.size, long)

    by : (length rest ≡ 8192) ⊎ ((length rest < 8192) ⊎ (8192 < length rest)) → (behind ≡ []) ⊎ ((blocks : ℕ) × (length (front ++ piece) ≡ blocks * 8192))
    by (inl same) = inr (blocks + 1, whole (omega (arith, same)))
    by (inr (inl short)) = inl (back ∙ drop_all n rest (omega (arith, short, is.size)))
    by (inr (inr long)) = inr (blocks + 1, whole (omega (arith, long)))

pub one_passed : (n : ℕ) (bytes rest piece behind block : List ℕ) (old now new : Option Reading) → HasPassed bytes rest old now → IsRead now block
    → new ≡ option_map after_next now
    → n ≡ min (length rest) 8192 → piece ≡ take n rest → behind ≡ drop n rest → block ≡ piece → HasPassed bytes behind old new
unfolding HasPassed
one_passed n bytes rest piece behind block old now new has read moved size value back same = λ left is.
    let p = has left is in
    let rest_is : rest ≡ piece ++ behind = sym (take-append-drop n rest) ∙ cc in
    let left_is : p.behind ≡ piece ++ drop 8192 p.behind = sym (take-append-drop 8192 p.behind)
    ∙ ap (λ x. x ++ drop 8192 p.behind) (block_is now p.behind block read p.now_is ∙ same) in
    record {
      front = p.front ++ piece;
      behind = drop 8192 p.behind;
      bytes_are = p.bytes_are ∙ ap (λ x. p.front ++ x) rest_is ∙ sym (append_assoc p.front piece behind);
      left_is = p.left_is ∙ ap (λ x. p.front ++ x) left_is ∙ sym (append_assoc p.front piece (drop 8192 p.behind));
      now_is = ap left_in moved ∙ left_next now ∙ ap (option_map (drop 8192)) p.now_is;
      ends = ends_on n rest piece behind p.front (record { size = size; value = value }) back p.ends;
    }

-- a text that fills blocks, or ends the file, has nothing behind it where less than a block of it is left
none_behind : (bytes rest front more : List ℕ) → bytes ≡ front ++ rest → 0 < length rest → length rest < 8192
    → (rest ≡ []) ⊎ ((blocks : ℕ) × (length front ≡ blocks * 8192)) → EndsBlock bytes more → more ≡ []
none_behind bytes rest front more is some short ends (inl none) = none
none_behind bytes rest front more is some short (inl none) (inr (j, e)) = absurd (omega (arith, some, ap length none))
none_behind bytes rest front more is some short (inr (k, f)) (inr (j, e)) =
    let both : length bytes ≡ length front + length rest = ap length is ∙ length-append front rest in
    absurd (omega (arith, both, e, f, some, short))

taken_whole : (n : ℕ) (rest more : List ℕ) → n ≡ min (length rest) 8192 → (length rest < 8192 → more ≡ []) → take 8192 (rest ++ more) ≡ take n rest
taken_whole n rest more size none = by (cases_order (length rest) 8192)
  where
    whole : 8192 ≤ length rest → take 8192 (rest ++ more) ≡ take n rest
    whole long = let block : 8192 ≡ n = omega (arith, size, long) in take-append-le 8192 rest more long ∙ ap (λ k. take k rest) block

    by : (length rest ≡ 8192) ⊎ ((length rest < 8192) ⊎ (8192 < length rest)) → take 8192 (rest ++ more) ≡ take n rest
    by (inl same) = whole (omega (arith, same))
    by (inr (inl short)) = ap (λ m. take 8192 (rest ++ m)) (none short) ∙ ap (take 8192) (append-nil rest) ∙ take_all 8192 rest (omega (arith, short))
        ∙ sym (take_all n rest (omega (arith, short, size)))
    by (inr (inr long)) = whole (omega (arith, long))

pub other_next : (n : ℕ) (bytes rest piece block : List ℕ) (old now : Option Reading) → HasPassed bytes rest old now → 0 < length rest → IsRead now block
    → n ≡ min (length rest) 8192 → piece ≡ take n rest → block ≢ piece → IsNotNext bytes old
unfolding HasPassed IsNotNext
other_next n bytes rest piece block old now has some read size value other = λ left is more ends same.
    let p = has left is in
    let behind_is : p.behind ≡ rest ++ more = append_cancel_left p.front p.behind (rest ++ more) (sym p.left_is ∙ same ∙ ap (λ b. b ++ more) p.bytes_are
    ∙ append_assoc p.front rest more) in
    let none = λ (short : length rest < 8192). none_behind bytes rest p.front more p.bytes_are some short p.ends ends in
    other (sym (block_is now p.behind block read p.now_is) ∙ ap (take 8192) behind_is ∙ taken_whole n rest more size none ∙ sym value)

pub some_left : (xs : List ℕ) → false ≡ (length xs == 0) → 0 < length xs
some_left [] test = absurd (cc)
some_left (x ∷ xs) test = omega arith

pub not_zero : (n : ℕ) → (suc n == 0) ≡ false
not_zero n = false_from_ne_true (suc n == 0) (λ is. omega (arith, (Decides-eqb (suc n) 0).0 is))

pub ends_as : (block left : List ℕ) → take 8192 left ≡ block → (length block == 0) ≡ (length left == 0)
ends_as block [] is = ap (λ b. length b == 0) (sym is)
ends_as block (x ∷ left) is = ap (λ b. length b == 0) (sym is) ∙ not_zero (length (take 8191 left)) ∙ sym (not_zero (length left))

pub end_told : (old : Option Reading) (block : List ℕ) (ended : Bool) → IsRead old block → ended ≡ (length block == 0) → TellsEnd old ended
unfolding TellsEnd
end_told old block ended read is = λ left here. is ∙ ends_as block left (block_is old left block read here)

pub no_rest : (bytes : List ℕ) (old : Option Reading) → IsNotNext bytes old → TellsRest bytes old false
unfolding IsNotNext TellsRest
no_rest bytes old not_next = λ left here. on left (bytes_eq left bytes) refl (not_next left here [] (inl refl))
  where
    on : (left : List ℕ) (b : Bool) → bytes_eq left bytes ≡ b → left ≢ bytes ++ [] → false ≡ b
    on left false e other = refl
    on left true e other = absurd (other (same_text left bytes (sym e) ∙ sym (append-nil bytes)))

rest_as : (bytes rest : List ℕ) → (length rest == 0) ≡ bytes_eq (bytes ++ rest) bytes
rest_as bytes rest = on rest (bytes_eq (bytes ++ rest) bytes) refl
  where
    on : (rest : List ℕ) (b : Bool) → bytes_eq (bytes ++ rest) bytes ≡ b → (length rest == 0) ≡ b
    on [] true e = refl
    on (x ∷ rest) false e = not_zero (length rest)
    on [] false e = absurd (other_text (bytes ++ []) bytes (sym e) (append-nil bytes))
    on (x ∷ rest) true e = absurd (let both : length (bytes ++ x ∷ rest)
        ≡ length bytes + length (x ∷ rest) = length-append bytes (x ∷ rest) in omega (arith, both, ap length (same_text (bytes ++ x ∷ rest) bytes (sym e))))

pub rest_told : (bytes : List ℕ) (old mid : Option Reading) (ended : Bool) → CameNext bytes old mid → TellsEnd mid ended → TellsRest bytes old ended
unfolding CameNext TellsEnd TellsRest
rest_told bytes old mid ended came ends = λ left here.
    let next = came left here in
    ends next.0 next.1 ∙ rest_as bytes next.0 ∙ ap (λ l. bytes_eq l bytes) (sym next.2)

-- ---- all that is left, block by block

pub none_came : (told : Option Reading) → CameNext [] told told
unfolding CameNext
none_came told = λ left is. (left, is, refl)

pub more_came : (bytes block longer : List ℕ) (old now new : Option Reading) → CameNext bytes old now → IsRead now block → new ≡ option_map after_next now
    → longer ≡ bytes ++ block → CameNext longer old new
unfolding CameNext
more_came bytes block longer old now new came read moved is = λ left here.
    let (behind, now_is, left_is) = came left here in
    let took = block_is now behind block read now_is in
    let behind_is : behind ≡ block ++ drop 8192 behind = sym (take-append-drop 8192 behind) ∙ ap (λ x. x ++ drop 8192 behind) took in (
      drop 8192 behind,
      ap left_in moved ∙ left_next now ∙ ap (option_map (drop 8192)) now_is,
      left_is ∙ ap (λ x. bytes ++ x) behind_is ∙ sym (append_assoc bytes block (drop 8192 behind)) ∙ ap (λ x. x ++ drop 8192 behind) (sym is),
    )

pub all_came : (bytes : Vec ℕ) (block : List ℕ) (old now : Option Reading) → CameNext bytes.items old now → IsRead now block → true ≡ (length block == 0)
    → IsAllLeft old bytes
unfolding CameNext IsAllLeft
all_came bytes block old now came read test = λ left here.
    let (behind, now_is, left_is) = came left here in
    sym (left_is ∙ ap (λ x. bytes.items ++ x) (none_left behind (test ∙ ends_as block behind (block_is now behind block read now_is))) ∙ append-nil bytes.items)
  where
    none_left : (l : List ℕ) → true ≡ (length l == 0) → l ≡ []
    none_left [] test = refl
    none_left (x ∷ l) test = absurd (true≢false (test ∙ not_zero (length l)))

-- what the test of two texts has told
pub told_other : (x block piece : List ℕ) → true ≡ not (bytes_eq x piece) → x ≡ block → block ≢ piece
told_other x block piece test is = on (bytes_eq x piece) refl test
  where
    on : (b : Bool) → bytes_eq x piece ≡ b → true ≡ not b → block ≢ piece
    on true e t = absurd (cc)
    on false e t = λ same. other_text x piece (sym e) (is ∙ same)

pub told_same : (x block piece : List ℕ) → false ≡ not (bytes_eq x piece) → x ≡ block → block ≡ piece
told_same x block piece test is = on (bytes_eq x piece) refl test
  where
    on : (b : Bool) → bytes_eq x piece ≡ b → false ≡ not b → block ≡ piece
    on false e t = absurd (cc)
    on true e t = sym is ∙ same_text x piece (sym e)

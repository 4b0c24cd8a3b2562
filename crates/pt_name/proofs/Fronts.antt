-- The front of an identifier that is enough for its last name.
use Rattle.std.proofs.Common.{
  ◌≡◌,
  ℕ,
  ◌+◌,
  ◌<◌,
  ◌≤◌,
  min,
  Bool,
  true,
  false,
  List,
  [],
  ◌∷◌,
  ◌++◌,
  length,
  take,
  drop,
  refl,
  arith,
  ap,
  sym,
  ◌∙◌,
  nat_le,
  length-append,
}
use Rattle.std.proofs.lemmas.Bool.{leb-true, leb-false, lt-leb}
use Rattle.std.proofs.lemmas.Grind.{flat_map-append}
use Rattle.std.proofs.lemmas.List.{length-take-le, take-append-drop, take-append-le, take_all}
use Rattle.pt_name.specs.Place.{encoded_of, encoded_spelling, shortened}
use Rattle.pt_name.proofs.PlaceNames.{some_spelled}

-- no byte is spelled by none
as_long_spelled : (id : List ℕ) → length id ≤ length (encoded_of id)
as_long_spelled [] = omega arith
as_long_spelled (b ∷ id) = let s = some_spelled b in let more = as_long_spelled id in simp length-append (omega arith)

-- an encoding that begins with a longer one than is kept is shortened to the same
longer_shortened : (front more digits : List ℕ) → 100 < length front → shortened front digits ≡ shortened (front ++ more) digits
longer_shortened front more digits long =
    let l : length (front ++ more) ≡ length front + length more = length-append front more in
    let a : nat_le (length front) 100 ≡ false = lt-leb (length front) 100 long in
    let b : nat_le (length (front ++ more)) 100 ≡ false = lt-leb (length (front ++ more)) 100 (omega arith) in
    let kept : take 100 (front ++ more) ≡ take 100 front = take-append-le 100 front more (omega arith) in
    rw (a, b, kept) refl

-- what the first 101 bytes spell is shortened to what the whole identifier is shortened to
pub front_enough : (id digits : List ℕ) → shortened (encoded_of (take 101 id)) digits ≡ shortened (encoded_of id) digits
front_enough id digits = go (nat_le (length id) 101) refl
  where
    go : (t : Bool) → nat_le (length id) 101 ≡ t → shortened (encoded_of (take 101 id)) digits ≡ shortened (encoded_of id) digits
    go true e = ap (λ (xs : List ℕ). shortened (encoded_of xs) digits) (take_all 101 id (leb-true (length id) 101 e))
    go false e =
        let more : 101 < length id = leb-false (length id) 101 e in
        let front : length (take 101 id) ≡ 101 = length-take-le 101 id (omega arith) in
        let spelled : length (take 101 id) ≤ length (encoded_of (take 101 id)) = as_long_spelled (take 101 id) in
        let whole : encoded_of id ≡ encoded_of (take 101 id) ++ encoded_of (drop 101 id) =
        ap encoded_of (sym (take-append-drop 101 id)) ∙ flat_map-append encoded_spelling (take 101 id) (drop 101 id) in
        longer_shortened (encoded_of (take 101 id)) (encoded_of (drop 101 id)) digits (omega arith)
        ∙ ap (λ (xs : List ℕ). shortened xs digits) (sym whole)

-- as many elements of a list as it has, but at most 101, are its first 101
pub take_least : (xs : List ℕ) (n : ℕ) → n ≡ min (length xs) 101 → take n xs ≡ take 101 xs
take_least xs n least = go (nat_le (length xs) 101) refl
  where
    go : (t : Bool) → nat_le (length xs) 101 ≡ t → take n xs ≡ take 101 xs
    go true e = let short = leb-true (length xs) 101 e in take_all n xs (omega arith) ∙ sym (take_all 101 xs short)
    go false e = let long = leb-false (length xs) 101 e in let same : n ≡ 101 = omega arith in ap (λ (k : ℕ). take k xs) same

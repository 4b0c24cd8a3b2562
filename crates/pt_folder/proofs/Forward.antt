-- Blocks read from the open file, by what its reads and goings give.
use Rattle.std.proofs.Common.{
  ◌≡◌,
  ℕ,
  ◌+◌,
  ◌<◌,
  ◌≤◌,
  ◌==◌,
  List,
  [],
  true,
  false,
  refl,
  sym,
  ap,
  subst,
  ◌∙◌,
  arith,
  length,
  take,
  drop,
  length-drop,
  length-take,
  length-take-le,
  le_refl,
  inl,
  inr,
}
use Rattle.std.specs.Prelude.{◌⊎◌, Bool, nat_lt, Option, None, Some, IfSome, not}
use Rattle.std.specs.Option.{option_map, ForSome}
use Rattle.std.proofs.lemmas.List.{drop-drop, drop_all, take_all}
use Rattle.std.proofs.lemmas.Bool.{cases_Bool}
use Rattle.pt_folder.specs.declared.reading.FileInReading.{FileInReading}
use Rattle.pt_folder.specs.Bytes.{TakesBlock}
use Rattle.pt_folder.specs.Reading.{IsNext, Stands, unread_of}

full_or_all : (ys : List ℕ) → (8192 ≤ length ys) ⊎ (length ys < 8192)
full_or_all ys = elim (cases_Bool (nat_lt (length ys) 8192)) [
  | inl short ↦ inr (small (length ys) short)
  | inr long ↦ inl (large (length ys) long)
]
  where
    small : (n : ℕ) → nat_lt n 8192 ≡ true → n < 8192
    small n h = grind (arith, h)

    large : (n : ℕ) → nat_lt n 8192 ≡ false → 8192 ≤ n
    large n h = grind (arith, h)

-- what is left behind a block
behind_block : (ys : List ℕ) → drop (length (take 8192 ys)) ys ≡ drop 8192 ys
behind_block ys = elim (full_or_all ys) [
  | inl full ↦ ap (λ n. drop n ys) (length-take-le 8192 ys full)
  | inr all ↦
      let few : length ys ≤ 8192 = omega (arith, all) in
      ap (λ (zs : List ℕ). drop (length zs) ys) (take_all 8192 ys few) ∙ drop_all (length ys) ys (le_refl (length ys)) ∙ sym (drop_all 8192 ys few)
]

-- a block that isn't full is the last
last_block : (ys : List ℕ) → (length (take 8192 ys) == 8192) ≡ false → drop 8192 ys ≡ []
last_block ys part = elim (full_or_all ys) [
  | inl full ↦ absurd (differs (length (take 8192 ys)) part (length-take-le 8192 ys full))
  | inr all ↦ drop_all 8192 ys (omega (arith, all))
]
  where
    differs : (n : ℕ) → (n == 8192) ≡ false → n ≡ 8192 → ⊥
    differs n other same = grind (arith, other, same)

-- a block ends where the bytes do, or before
behind : (place : ℕ) (xs block : List ℕ) → block ≡ take 8192 (drop place xs) → place ≤ length xs → place + length block ≤ length xs
behind place xs block is within =
    omega (arith, within, ap (λ (b : List ℕ). length b) is, length-take 8192 (drop place xs), length-drop place xs)

module _ {F : Type 0} (bytes left : F → Option (List ℕ)) (r : FileInReading F) (file : F) (block : List ℕ) (stands : Stands bytes left r) (there : r.lost
    ≡ false)
    (same : bytes file ≡ bytes r.file) (took : TakesBlock (left r.file) (left file) block) where
  took_at : (xs : List ℕ) → bytes r.file ≡ Some xs → (block ≡ take 8192 (drop r.place xs)) × (left file ≡ Some (drop 8192 (drop r.place xs)))
  took_at xs is = subst (λ (o : Option (List ℕ)). IfSome o (λ b. (block ≡ take 8192 b) × (left file ≡ Some (drop 8192 b)))) (stands.at_place there xs is) took

  place_at : (xs : List ℕ) → bytes r.file ≡ Some xs → drop (r.place + length block) xs ≡ drop 8192 (drop r.place xs)
  place_at xs is =
      sym (drop-drop (length block) r.place xs) ∙ ap (λ (b : List ℕ). drop (length b) (drop r.place xs)) (took_at xs is).0 ∙ behind_block (drop r.place xs)

  pub read_stands : (full : Bool) → full ≡ (length block == 8192) → (place : ℕ) → place ≡ r.place + length block → (lost : Bool)
      → Stands bytes left (record { file = file; place = place; ended = not full; lost = lost })
  read_stands full is_full place is_place lost = record {
    at_place = λ known xs is. (took_at xs (sym same ∙ is)).1 ∙ ap Some (sym (place_at xs (sym same ∙ is)) ∙ ap (λ n. drop n xs) (sym is_place));
    at_end = λ ends xs is.
        let part : (length (take 8192 (drop r.place xs)) == 8192) ≡ false = ap (λ (b : List ℕ). length b == 8192) (sym (took_at xs (sym same ∙ is)).0)
        ∙ sym is_full ∙ turned full ends in
        ap (λ n. drop n xs) is_place ∙ place_at xs (sym same ∙ is) ∙ last_block (drop r.place xs) part;
    within = λ xs is. subst (λ n. n ≤ length xs) (sym is_place)
        (behind r.place xs block (took_at xs (sym same ∙ is)).0 (stands.within xs (sym same ∙ is)));
  }
    where
      turned : (b : Bool) → not b ≡ true → b ≡ false
      turned true h = absurd (cc)
      turned false h = refl

  pub read_next : IsNext (unread_of bytes r) block
  read_next = by (bytes r.file) refl
    where
      by : (o : Option (List ℕ)) → bytes r.file ≡ o → ForSome (option_map (drop r.place) o) (λ xs. block ≡ take 8192 xs)
      by None is = λ ys at. absurd (cc)
      by (Some xs) is = λ ys at. let here : drop r.place xs ≡ ys = cc in (took_at xs is).0 ∙ ap (take 8192) here

  pub read_moved : (full : Bool) (place : ℕ) → place ≡ r.place + length block → (lost : Bool)
      → unread_of bytes (record { file = file; place = place; ended = full; lost = lost }) ≡ option_map (drop 8192) (unread_of bytes r)
  read_moved full place is_place lost = ap (λ n. option_map (drop n) (bytes file)) is_place ∙ ap (option_map (drop (r.place + length block))) same
      ∙ by (bytes r.file) refl
    where
      by : (o : Option (List ℕ)) → bytes r.file ≡ o → option_map (drop (r.place + length block)) o ≡ option_map (drop 8192) (option_map (drop r.place) o)
      by None is = refl
      by (Some xs) is = ap Some (place_at xs is)

-- what isn't read stays where only the open file changes, and of it no bytes
pub unread_same : {F : Type 0} (bytes : F → Option (List ℕ)) (old new : FileInReading F) → new ≡ record old { file = new.file; lost = new.lost }
    → bytes new.file ≡ bytes old.file → unread_of bytes new ≡ unread_of bytes old
unread_same bytes old new still same = λ i. option_map (drop (still i).place) (same i)

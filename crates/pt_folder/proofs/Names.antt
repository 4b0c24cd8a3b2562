-- Names that a directory gives, one after another.
use Rattle.std.proofs.Common.{
  ◌≡◌,
  ℕ,
  true,
  false,
  List,
  [],
  ◌∷◌,
  ◌++◌,
  ◌+◌,
  ◌<◌,
  ◌≤◌,
  ◌==◌,
  length,
  take,
  drop,
  get_or,
  refl,
  arith,
  sym,
  ap,
  ◌∙◌,
  append_assoc,
  append-nil,
  cond,
  subst,
  inl,
  inr,
}
use Rattle.std.specs.Prelude.{Option, Some, None, nat_lt, Result, Ok, Err, IfErr}
use Rattle.std.specs.Result.{IsErrAnd}
use Rattle.std.specs.List.{filter, position, position_or_len}
use Rattle.std.specs.Io.KnownBytes.{Consumes}
use Rattle.std.proofs.KnownBytes.{Consumes-trans}
use Rattle.std.proofs.lemmas.List.Elements.{All-append, All-cons, All-nil, filter-append}
use Rattle.std.proofs.lemmas.List.Quantifiers.{position-Some}
use Rattle.std.proofs.lemmas.List.{length-take, get_or-take, drop_more, take-append-drop}
use Rattle.std.proofs.lemmas.Grind.{flat_map-append}
use Rattle.std.proofs.lemmas.List.Sums.{fails_before_first}
use Rattle.pt_tree.specs.declared.faults.TreeFault.{TreeFault}
use Rattle.pt_tree.specs.declared.faults.TreeFault.TheVariants.{Device, Memory}
use Rattle.pt_folder.specs.Calls.{IsDueTo}
use Rattle.pt_folder.specs.Names.{is_entry, LacksNul, ended, GivesNames, AddsNames, RefusesBytes}

-- one piece behind another
pub gives_both : (a b : List ℕ) (xs ys : List (List ℕ)) → GivesNames a xs → GivesNames b ys → GivesNames (a ++ b) (xs ++ ys)
gives_both a b xs ys f g = record {
  given = f.given ++ g.given;
  cut = cc (flat_map-append ended f.given g.given);
  whole = All-append LacksNul f.given g.given f.whole g.whole;
  kept = cc (filter-append is_entry f.given g.given);
}

-- a name with its NUL
gives_one : (name : List ℕ) → LacksNul name → GivesNames (ended name) (filter is_entry (name ∷ []))
gives_one name lacks = record {
  given = name ∷ [];
  cut = sym (append-nil (ended name));
  whole = All-cons LacksNul name [] lacks (All-nil LacksNul);
  kept = refl;
}

lacks_nul : (rest : List ℕ) (end : ℕ) → position (λ b. b == 0) rest ≡ Some end → LacksNul (take end rest)
lacks_nul rest end found k d within =
    let facts = position-Some (λ b. b == 0) rest end d found in
    let short : k < end = omega (arith, length-take end rest) in
    let here : get_or (take end rest) k d ≡ get_or rest k d = get_or-take end rest k d short in
    let other : (get_or rest k d == 0) ≡ false = facts.2 k short in
    λ zero_here. absurd (differs (get_or rest k d) other (sym here ∙ zero_here))
  where
    differs : (b : ℕ) → (b == 0) ≡ false → b ≡ 0 → ⊥
    differs b other same = grind (arith, other, same)

splits : (rest : List ℕ) (end : ℕ) → position (λ b. b == 0) rest ≡ Some end → rest ≡ ended (take end rest) ++ drop (end + 1) rest
splits rest end found =
    let facts = position-Some (λ b. b == 0) rest end 0 found in
    let nul : get_or rest end 0 ≡ 0 = is_nul (get_or rest end 0) facts.1 in
    let more = drop_more rest end 0 facts.0 in
    sym (take-append-drop end rest) ∙ ap (λ l. take end rest ++ l) (more ∙ ap (λ b. b ∷ drop (end + 1) rest) nul)
    ∙ sym (append_assoc (take end rest) (0 ∷ []) (drop (end + 1) rest))
  where
    is_nul : (b : ℕ) → (b == 0) ≡ true → b ≡ 0
    is_nul b same = grind (arith, same)

added_one : (name : List ℕ) (now new : List (List ℕ)) → new ≡ cond (is_entry name) (now ++ name ∷ []) now → new ≡ now ++ filter is_entry (name ∷ [])
added_one name now new is = is ∙ elim (is_entry name) as (λ b. cond b (now ++ name ∷ []) now ≡ now ++ cond b (name ∷ []) []) [
  | true ↦ refl
  | false ↦ sym (append-nil now)
]

-- the next name of a piece
pub adds_one : (piece rest name left : List ℕ) (old now new : List (List ℕ)) (end : ℕ) → ((front : List ℕ) × (piece ≡ front ++ rest) × AddsNames front old now)
    → position (λ b. b == 0) rest ≡ Some end → name ≡ take end rest → left ≡ drop (end + 1) rest → new ≡ cond (is_entry name) (now ++ name ∷ []) now
    → (front : List ℕ) × (piece ≡ front ++ left) × AddsNames front old new
adds_one piece rest name left old now new end (done, is, adds) found name_is left_is more =
    let one : GivesNames (ended name) (filter is_entry (name ∷ [])) = gives_one name (rw name_is (lacks_nul rest end found)) in
    let last = filter is_entry (name ∷ []) in
    let cut : rest ≡ ended name ++ left = rw (name_is, left_is) (splits rest end found) in (
      done ++ ended name,
      is ∙ ap (λ l. done ++ l) cut ∙ sym (append_assoc done (ended name) left),
      record {
        more = adds.more ++ last;
        added = added_one name now new more ∙ ap (λ l. l ++ last) adds.added ∙ append_assoc old adds.more last;
        given = gives_both done (ended name) adds.more last adds.given one;
      },
    )

-- one more piece is read
pub reads_one : (old mid new : Option (List ℕ)) (now after : List (List ℕ)) (piece part : List ℕ)
    → ((read : List ℕ) × Consumes old mid read × GivesNames read now)
    → Consumes mid new part → piece ≡ part → AddsNames piece now after → (read : List ℕ) × Consumes old new read × GivesNames read after
reads_one old mid new now after piece part (read, taken, gives) next same adds = (
  read ++ part,
  Consumes-trans old mid new read part taken next,
  subst (λ names. GivesNames (read ++ part) names) (sym adds.added) (gives_both read part now adds.more gives
      (subst (λ bytes. GivesNames bytes adds.more) same adds.given)),
)

-- what was read of a piece so far, and what it gave
abbrev pub Done : List ℕ → List ℕ → List (List ℕ) → List (List ℕ) → Type 0
Done piece rest old now = (front : List ℕ) × (piece ≡ front ++ rest) × AddsNames front old now

-- the next name isn't added
pub refuses_one : (refuses : List (List ℕ) → List ℕ → Type 0) (piece rest name : List ℕ) (old now : List (List ℕ)) (end : ℕ) (fault : TreeFault)
    → Done piece rest old now
    → position (λ b. b == 0) rest ≡ Some end → name ≡ take end rest → IsDueTo fault (refuses now name) → IsDueTo fault (RefusesBytes refuses old piece)
refuses_one refuses piece rest name old now end Memory done found name_is cause = tt
refuses_one refuses piece rest name old now end Device (front, is, added) found name_is cause = record {
  front = front;
  rest = rest;
  names = now;
  cut = is;
  added = added;
  refused = inr (take end rest, drop (end + 1) rest, splits rest end found, lacks_nul rest end found, subst (refuses now) name_is cause);
}

-- bytes are left, and no NUL behind them
pub refuses_rest : (refuses : List (List ℕ) → List ℕ → Type 0) (piece rest : List ℕ) (old now : List (List ℕ)) → Done piece rest old now
    → position (λ b. b == 0) rest ≡ None → (length rest == 0) ≡ false → RefusesBytes refuses old piece
refuses_rest refuses piece rest old now (front, is, added) none some = record {
  front = front;
  rest = rest;
  names = now;
  cut = is;
  added = added;
  refused = inl (positive (length rest) some, no_nul rest none);
}
  where
    positive : (n : ℕ) → (n == 0) ≡ false → 0 < n
    positive n some = grind (arith, some)

    no_nul : (rest : List ℕ) → position (λ b. b == 0) rest ≡ None → LacksNul rest
    no_nul rest none k d within =
        let far : length rest ≤ position_or_len (λ b. b == 0) rest = past (position_or_len (λ b. b == 0) rest) (length rest) none in
        let other : (get_or rest k d == 0) ≡ false = fails_before_first (λ b. b == 0) rest k d (omega (arith, far, within)) in
        λ same. differs (get_or rest k d) other same
      where
        past : (i n : ℕ) → cond (nat_lt i n) (Some i) None ≡ None → n ≤ i
        past i n same = grind (arith, same)

        differs : (b : ℕ) → (b == 0) ≡ false → b ≡ 0 → ⊥
        differs b other same = grind (arith, other, same)

-- an error that is handed on has its cause
pub err_due : {T : Type 0} (r : Result T TreeFault) (fault : TreeFault) (cause : Type 0) → IsErrAnd r (λ y. y ≡ fault) → IsDueTo fault cause
    → IfErr r (λ f. IsDueTo f cause)
err_due (Ok x) fault cause is due = absurd is
err_due (Err y) fault cause is due = subst (λ f. IsDueTo f cause) (sym is) due

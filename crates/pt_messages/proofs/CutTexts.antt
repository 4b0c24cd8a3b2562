-- Where a piece is found a text is cut.
use Rattle.std.proofs.Common.{◌≡◌, ◌∙◌, ◌++◌, ◌-◌, ◌<◌, ◌≤◌, Bool, Bor, List, [], ◌∷◌, ℕ, ap, arith, cond, drop, false, length, refl, suc, sym, take, true, zero}
use Rattle.std.proofs.lemmas.Bool.Decides.{Decides-eqb}
use Rattle.std.proofs.lemmas.Slice.Eq.{ends_is, starts_is}
use Rattle.std.specs.List.{ends_with, starts_with}
use Rattle.std.specs.Option.{option_map, option_or}
use Rattle.std.specs.Prelude.{MatchOption, None, Option, Some, nat_eq}
use Rattle.std.specs.Str.Pattern.{FindsText, FindsTextSuffix, LacksTextAt, RFindsText, SplitsAroundMatch, StripsSuffix}
use Rattle.pt_messages.specs.Cuts.{Parts, cut_first, cut_here, cut_last, with_byte, without_end}

-- a text that begins with a piece, by whether it does
abbrev cut_if : List ℕ → List ℕ → Bool → Option Parts
cut_if piece text begins = cond begins (Some ([], drop (length piece) text)) None

here_none : (piece text : List ℕ) → LacksTextAt piece text 0 → cut_here piece text ≡ None
here_none piece text lacks = by_test (starts_with nat_eq text piece) refl where
  by_test : (b : Bool) → starts_with nat_eq text piece ≡ b → cut_if piece text b ≡ None
  by_test true is = absurd (lacks (drop (length piece) text) ((starts_is Decides-eqb text piece (starts_with nat_eq text piece) refl).0 is))
  by_test false is = refl

behind : (piece rest : List ℕ) → drop (length piece) (piece ++ rest) ≡ rest
behind [] rest = refl
behind (byte ∷ piece) rest = behind piece rest

here_some : (piece text rest : List ℕ) → text ≡ piece ++ rest → cut_here piece text ≡ Some ([], rest)
here_some piece text rest is =
    ap (cut_if piece text) ((starts_is Decides-eqb text piece (starts_with nat_eq text piece) refl).1 rest is)
    ∙ ap (λ (left : List ℕ). let it : Option Parts = Some ([], left) in it) (ap (drop (length piece)) is ∙ behind piece rest)

first_none : (piece text : List ℕ) → ((i : ℕ) → i ≤ length text → LacksTextAt piece text i) → cut_first piece text ≡ None
first_none piece [] lacks = here_none piece [] (lacks 0 (omega arith))
first_none piece (byte ∷ text) lacks =
    ap (λ it. option_or it (option_map (with_byte byte) (cut_first piece text))) (here_none piece (byte ∷ text) (lacks 0 (omega arith)))
    ∙ ap (option_map (with_byte byte)) (first_none piece text (λ i within. lacks (suc i) (omega (arith, within))))

first_some : (piece text rest : List ℕ) (i : ℕ) → i ≤ length text → ((k : ℕ) → k < i → LacksTextAt piece text k) → drop i text ≡ piece ++ rest
    → cut_first piece text ≡ Some (take i text, rest)
first_some piece [] rest zero within lacks is = here_some piece [] rest is
first_some piece (byte ∷ text) rest zero within lacks is =
    ap (λ it. option_or it (option_map (with_byte byte) (cut_first piece text))) (here_some piece (byte ∷ text) rest is)
first_some piece [] rest (suc i) within lacks is = absurd (omega (arith, within))
first_some piece (byte ∷ text) rest (suc i) within lacks is =
    ap (λ it. option_or it (option_map (with_byte byte) (cut_first piece text))) (here_none piece (byte ∷ text) (lacks 0 (omega arith)))
    ∙ ap (option_map (with_byte byte)) (first_some piece text rest i (omega (arith, within)) (λ k below. lacks (suc k) (omega (arith, below))) is)

last_none : (piece text : List ℕ) → ((i : ℕ) → i ≤ length text → LacksTextAt piece text i) → cut_last piece text ≡ None
last_none piece [] lacks = here_none piece [] (lacks 0 (omega arith))
last_none piece (byte ∷ text) lacks =
    ap (λ it. option_or (option_map (with_byte byte) it) (cut_here piece (byte ∷ text))) (last_none piece text (λ i within. lacks (suc i) (omega (arith, within))))
    ∙ here_none piece (byte ∷ text) (lacks 0 (omega arith))

last_some : (piece text rest : List ℕ) (i : ℕ) → i ≤ length text → ((k : ℕ) → i < k → k ≤ length text → LacksTextAt piece text k)
    → drop i text ≡ piece ++ rest → cut_last piece text ≡ Some (take i text, rest)
last_some piece [] rest zero within lacks is = here_some piece [] rest is
last_some piece (byte ∷ text) rest zero within lacks is =
    ap (λ it. option_or (option_map (with_byte byte) it) (cut_here piece (byte ∷ text)))
    (last_none piece text (λ i below. lacks (suc i) (omega arith) (omega (arith, below))))
    ∙ here_some piece (byte ∷ text) rest is
last_some piece [] rest (suc i) within lacks is = absurd (omega (arith, within))
last_some piece (byte ∷ text) rest (suc i) within lacks is =
    ap (λ it. option_or (option_map (with_byte byte) it) (cut_here piece (byte ∷ text)))
    (last_some piece text rest i (omega (arith, within)) (λ k above below. lacks (suc k) (omega (arith, above)) (omega (arith, below))) is)

-- the parts that a call gives
abbrev pub parts_of : Option (Bor (List ℕ) × Bor (List ℕ)) → Option Parts
parts_of found = option_map (λ (parts : Bor (List ℕ) × Bor (List ℕ)). (parts.0.now, parts.1.now)) found

-- what `split_once` gives at a text
pub splits_first : (piece text : List ℕ) (found : Option (Bor (List ℕ) × Bor (List ℕ)))
    → MatchOption found (FindsText piece text None) (λ parts. SplitsAroundMatch (FindsText piece) text parts.0.now parts.1.now)
    → parts_of found ≡ cut_first piece text
splits_first piece text None lacks = sym (first_none piece text lacks)
splits_first piece text (Some parts) (i, j, (lacks, is), front, back, order, long, longer) =
    ap Some (λ k. (front k, back k))
    ∙ sym (first_some piece text (drop j text) i (omega (arith, order, longer)) lacks is.split)

-- what `rsplit_once` does
pub splits_last : (piece text : List ℕ) (found : Option (Bor (List ℕ) × Bor (List ℕ)))
    → MatchOption found (RFindsText piece text None) (λ parts. SplitsAroundMatch (RFindsText piece) text parts.0.now parts.1.now)
    → parts_of found ≡ cut_last piece text
splits_last piece text None lacks = sym (last_none piece text lacks)
splits_last piece text (Some parts) (i, j, (lacks, is), front, back, order, long, longer) =
    ap Some (λ k. (front k, back k))
    ∙ sym (last_some piece text (drop j text) i (omega (arith, order, longer)) lacks is.split)

-- and `strip_suffix`
pub strips_end : (end text : List ℕ) (found : Option (Bor (List ℕ)))
    → MatchOption found (FindsTextSuffix end text None) (λ left. StripsSuffix (FindsTextSuffix end) text left.now)
    → option_map (λ (left : Bor (List ℕ)). left.now) found ≡ without_end end text
strips_end end text None lacks = by_test (ends_with nat_eq text end) refl where
  by_test : (b : Bool) → ends_with nat_eq text end ≡ b → None ≡ cond b (Some (take (length text - length end) text)) None
  by_test true is = absurd (lacks (take (length text - length end) text) ((ends_is Decides-eqb text end (ends_with nat_eq text end) refl).0 is))
  by_test false is = refl
strips_end end text (Some left) (n, (long, whole, boundary), is, longer) =
    ap Some (is ∙ ap (λ (m : ℕ). take (length text - m) text) long)
    ∙ sym (ap (λ (b : Bool). cond b (Some (take (length text - length end) text)) None)
    ((ends_is Decides-eqb text end (ends_with nat_eq text end) refl).1 (take (length text - n) text) whole))

-- Lines that are put one behind another.
use Rattle.std.proofs.Common.{◌≡◌, ◌+◌, ℕ, List, [], ◌∷◌, ◌++◌, refl, sym, ap, ◌∙◌, subst, append-nil, append_assoc, drop, length, take}
use Rattle.std.proofs.Math.Seq.{take-append-add, take-append_seam}
use Rattle.std.proofs.lemmas.List.{take-append-drop}
use Rattle.std.specs.Io.KnownBytes.{Appends}
use Rattle.std.specs.Prelude.{Option, None, Some}
use Rattle.pt_extra.specs.Counting.{with_finding, with_findings}
use Rattle.pt_extra.specs.Lines.{ExtraFinding, line_text, texts}
use Rattle.pt_extra.specs.Walk.{Puts, WalkState}
use Rattle.pt_extra.specs.declared.numbers.ExtraNumbers.{ExtraNumbers}
use Rattle.pt_tree.specs.Log.{AppendsFront}

appends_none : (told : Option (List ℕ)) → Appends told told []
appends_none None = tt
appends_none (Some xs) = sym (append-nil xs)

pub appends_on : (a b c : Option (List ℕ)) (p q : List ℕ) → Appends a b p → Appends b c q → Appends a c (p ++ q)
appends_on None b c p q first second = tt
appends_on (Some xs) None c p q first second = absurd first
appends_on (Some xs) (Some ys) None p q first second = absurd second
appends_on (Some xs) (Some ys) (Some zs) p q first second = second ∙ ap (λ (l : List ℕ). l ++ q) first ∙ append_assoc xs p q

pub texts_on : (fs gs : List ExtraFinding) → texts (fs ++ gs) ≡ texts fs ++ texts gs
texts_on [] gs = refl
texts_on (f ∷ fs) gs = ap (λ (l : List ℕ). line_text f ++ l) (texts_on fs gs) ∙ sym (append_assoc (line_text f) (texts fs) (texts gs))

counts_on : (fs gs : List ExtraFinding) (n : ExtraNumbers) → with_findings (fs ++ gs) n ≡ with_findings gs (with_findings fs n)
counts_on [] gs n = refl
counts_on (f ∷ fs) gs n = counts_on fs gs (with_finding f n)

-- nothing is a front of any text
pub front_none : (told : Option (List ℕ)) (p : List ℕ) → AppendsFront told told p
front_none told p = (0, appends_none told)

-- a front of what comes behind what was put is a front of both
pub front_on : (a b c : Option (List ℕ)) (p q : List ℕ) → Appends a b p → AppendsFront b c q → AppendsFront a c (p ++ q)
front_on a b c p q puts (n, part) = (length p + n, subst (Appends a c) (sym (take-append-add p q n)) (appends_on a b c p (take n q) puts part))

-- and a front of what comes before
pub front_more : (a b : Option (List ℕ)) (p q : List ℕ) → AppendsFront a b p → AppendsFront a b (p ++ q)
front_more a b p q (n, part) = (length (take n p), subst (Appends a b) (sym same) part)
  where
    same : take (length (take n p)) (p ++ q) ≡ take n p
    same = ap (λ (l : List ℕ). take (length (take n p)) (l ++ q)) (sym (take-append-drop n p))
        ∙ ap (take (length (take n p))) (append_assoc (take n p) (drop n p) q)
        ∙ take-append_seam (take n p) (drop n p ++ q)

-- nothing is put
pub puts_none : (a : WalkState) → Puts [] a a
puts_none a = record { held = appends_none a.held; numbers = refl }

-- what is put twice
pub puts_on : (fs gs : List ExtraFinding) (a b c : WalkState) → Puts fs a b → Puts gs b c → Puts (fs ++ gs) a c
puts_on fs gs a b c first second = record {
  held = subst (Appends a.held c.held) (sym (texts_on fs gs)) (appends_on a.held b.held c.held (texts fs) (texts gs) first.held second.held);
  numbers = second.numbers ∙ ap (with_findings gs) first.numbers ∙ sym (counts_on fs gs a.numbers);
}

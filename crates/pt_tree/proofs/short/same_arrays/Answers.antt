use Rattle.std.proofs.Common.{rules, arith, ltb-true, ◌≡◌, ◌≢◌, ◌<◌, ◌≤◌, ◌∙◌, ℕ, List, Bool, true, false, length, sym, refl}
use Rattle.std.specs.Prelude.{MatchBool, ◌&&◌, nat_lt, slice_index}
use Rattle.std.specs.Str.{bytes_eq}
use Rattle.std.proofs.lemmas.Bool.{false_from_ne_true, ltb-false}
use Rattle.std.proofs.lemmas.Grind.{same_number_lists}
use Rattle.std.proofs.lemmas.Slice.Eq.{bytes_eq-Decides}
use Rattle.pt_tree.specs.Agree.{AgreeIn}
use Rattle.pt_tree.proofs.short.same_arrays.Goals as goal

-- three words that reach over a whole array tell whether two arrays are the same
both : (p q r : Bool) (xs ys : List ℕ) → length xs ≡ 22 → length ys ≡ 22 → MatchBool p (AgreeIn xs ys 0 8) (xs ≢ ys)
    → MatchBool q (AgreeIn xs ys 8 16) (xs ≢ ys) → MatchBool r (AgreeIn xs ys 14 22) (xs ≢ ys) → (p && q) && r ≡ bytes_eq xs ys
both false q r xs ys m n first middle last = sym (false_from_ne_true _ (λ is. first ((bytes_eq-Decides xs ys).0 is)))
both true false r xs ys m n first middle last = sym (false_from_ne_true _ (λ is. middle ((bytes_eq-Decides xs ys).0 is)))
both true true false xs ys m n first middle last = sym (false_from_ne_true _ (λ is. last ((bytes_eq-Decides xs ys).0 is)))
both true true true xs ys m n first middle last = sym ((bytes_eq-Decides xs ys).1 (same_number_lists xs ys (m ∙ sym n) at))
  where
    behind : (k : ℕ) → 8 ≤ k → k < length xs → (early : Bool) → nat_lt k 16 ≡ early → slice_index xs k ≡ slice_index ys k
    behind k from within true is = middle k from (ltb-true k 16 is)
    behind k from within false is =
        let late : 16 ≤ k = ltb-false k 16 is in
        last k (omega arith) (omega arith)

    by_word : (k : ℕ) → k < length xs → (early : Bool) → nat_lt k 8 ≡ early → slice_index xs k ≡ slice_index ys k
    by_word k within true is = first k (omega arith) (ltb-true k 8 is)
    by_word k within false is = behind k (ltb-false k 8 is) within (nat_lt k 16) refl

    at : (k : ℕ) → k < length xs → slice_index xs k ≡ slice_index ys k
    at k within = by_word k within (nat_lt k 8) refl

pub returns : goal.returns
returns c = both c.same_words.result c.same_words-2.result c.same_words-3.result c.args.a.now c.args.b.now (search rules) (search rules) c.same_words.ensures
    c.same_words-2.ensures c.same_words-3.ensures

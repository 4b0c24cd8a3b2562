-- What the texts that are held claim once one is added, and what is held of digests.
use Rattle.std.proofs.Common.{◌≡◌, ◌∙◌, ℕ, List, Bool, true, false, refl, sym, ap}
use Rattle.std.specs.Prelude.{Some, cond}
use Rattle.std.specs.Global.{Vec}
use Rattle.std.specs.Map.{KeepsOthers, IsKeyTest, AreApart, lookup}
use Rattle.std.specs.Ordering.{eq_by_cmp, is_eq, nat_cmp}
use Rattle.std.specs.Cmp.Lexicographic.{slice_cmp}
use Rattle.std.specs.Str.{bytes_eq}
use Rattle.std.proofs.lemmas.Bool.{true≢false}
use Rattle.std.proofs.lemmas.Map.Text.{is_eq-slice_cmp}
use Rattle.pt_tree.proofs.Names.{name_itself, same_name}
use Rattle.pt_quick.specs.Claimed.{Held, HeldDigests, claimed_at, read_at, with_text}
use Rattle.std.specs.declared.cmp.Ordering.{Ordering}

abbrev text_cmp : Vec ℕ → Vec ℕ → Ordering
text_cmp a b = slice_cmp nat_cmp a.items b.items

abbrev text_test : List ℕ → Vec ℕ → Bool
text_test text k = is_eq (slice_cmp nat_cmp text k.items)

module _ (digest text : List ℕ) (old new : Held) (at : lookup (text_test text) new ≡ Some digest)
    (others : KeepsOthers (eq_by_cmp text_cmp) (text_test text) old new) where
  is_of : (q : List ℕ) (k : Vec ℕ) → text_test q k ≡ true → q ≡ k.items
  is_of q k passes = same_name q k.items (sym (is_eq-slice_cmp q k.items) ∙ passes)

  key_test : (q : List ℕ) → IsKeyTest (eq_by_cmp text_cmp) (text_test q)
  key_test q x y passes = ap (λ (t : List ℕ). is_eq (slice_cmp nat_cmp t y.items)) (is_of q x passes)

  apart : (q : List ℕ) → bytes_eq text q ≡ false → AreApart (text_test text) (text_test q)
  apart q differs k passes = on (text_test q k) refl
    where
      on : (b : Bool) → text_test q k ≡ b → b ≡ false
      on false is = refl
      on true is =
          let same : q ≡ text = is_of q k is ∙ sym (is_of text k passes) in
          absurd (true≢false (sym (ap (bytes_eq text) same ∙ name_itself text) ∙ differs))

  pub text_added : claimed_at new ≡ with_text digest (Some text) (claimed_at old)
  unfolding KeepsOthers
  text_added = λ i q. at_text q (bytes_eq text q) refl i
    where
      at_text : (q : List ℕ) (b : Bool) → bytes_eq text q ≡ b → claimed_at new q ≡ cond b (Some digest) (claimed_at old q)
      at_text q true same = ap (λ (t : List ℕ). lookup (text_test t) new) (sym (same_name text q same)) ∙ at
      at_text q false other = others (text_test q) (key_test q) (apart q other)

abbrev digest_test : List ℕ → List ℕ → Bool
digest_test claimed k = is_eq (slice_cmp nat_cmp claimed k)

module _ (read claimed : List ℕ) (old new : HeldDigests) (at : lookup (digest_test claimed) new ≡ Some read)
    (others : KeepsOthers (eq_by_cmp (slice_cmp nat_cmp)) (digest_test claimed) old new) where
  is_digest : (q k : List ℕ) → digest_test q k ≡ true → q ≡ k
  is_digest q k passes = same_name q k (sym (is_eq-slice_cmp q k) ∙ passes)

  key_of : (q : List ℕ) → IsKeyTest (eq_by_cmp (slice_cmp nat_cmp)) (digest_test q)
  key_of q x y passes = ap (λ (t : List ℕ). is_eq (slice_cmp nat_cmp t y)) (is_digest q x passes)

  other : (q : List ℕ) → bytes_eq claimed q ≡ false → AreApart (digest_test claimed) (digest_test q)
  other q differs k passes = on (digest_test q k) refl
    where
      on : (b : Bool) → digest_test q k ≡ b → b ≡ false
      on false is = refl
      on true is =
          let same : q ≡ claimed = is_digest q k is ∙ sym (is_digest claimed k passes) in
          absurd (true≢false (sym (ap (bytes_eq claimed) same ∙ name_itself claimed) ∙ differs))

  pub reading_added : read_at new ≡ with_text read (Some claimed) (read_at old)
  unfolding KeepsOthers
  reading_added = λ i q. at_digest q (bytes_eq claimed q) refl i
    where
      at_digest : (q : List ℕ) (b : Bool) → bytes_eq claimed q ≡ b → read_at new q ≡ cond b (Some read) (read_at old q)
      at_digest q true same = ap (λ (t : List ℕ). lookup (digest_test t) new) (sym (same_name claimed q same)) ∙ at
      at_digest q false differs = others (digest_test q) (key_of q) (other q differs)

-- A directory's entries, listed one by one from the first.
use Rattle.std.proofs.Common.{◌≡◌, ℕ, List, [], ◌∷◌, ◌++◌, true, ◌∙◌, ap, append_assoc, sym}
use Rattle.std.specs.Prelude.{cond, Option, None, Some, Ok}
use Rattle.pt_tree.specs.declared.kind.Kind.{Kind}
use Rattle.pt_tree.specs.declared.kind.Kind.TheVariants as kind
use Rattle.pt_tree.specs.Forest.{Forest, none, file, other, dir, listing_of, is_proper}
use Rattle.pt_tree.specs.Listing.{Item, can_follow, listing_refusal, names_rise}
use Rattle.pt_tree.specs.Refusal.{Answers}
use Rattle.pt_tree.specs.declared.listing.ListingFault.{ListingFault}
use Rattle.pt_tree.specs.declared.listing.ListingFault.TheVariants.{NotRising}
use Rattle.pt_tree.proofs.Rising.{can_follow-rises, names_rise-proper}
use Rattle.pt_memory.specs.Entries.{first_item}

first_listing : (f after : Forest) (name : List ℕ) (k : Kind) → Some (name, k, after) ≡ first_item f → listing_of f ≡ (name, k) ∷ listing_of after
first_listing none after name k is = absurd (cc)
first_listing (file n b f) after name k is = let same : (name, k, after)
    ≡ (n, kind.File, f) = cc in ap (λ (x : List ℕ × Kind × Forest). (x.0, x.1) ∷ listing_of x.2) (sym same)
first_listing (other n f) after name k is = let same : (name, k, after)
    ≡ (n, kind.Other, f) = cc in ap (λ (x : List ℕ × Kind × Forest). (x.0, x.1) ∷ listing_of x.2) (sym same)
first_listing (dir n e f) after name k is = let same : (name, k, after)
    ≡ (n, kind.Dir, f) = cc in ap (λ (x : List ℕ × Kind × Forest). (x.0, x.1) ∷ listing_of x.2) (sym same)

-- so a proper directory's listing takes each entry in turn
pub can_follow-first : (all f after : Forest) (items : List Item) (name : List ℕ) (k : Kind) → is_proper all ≡ true → items ++ listing_of f ≡ listing_of all
    → Some (name, k, after) ≡ first_item f → can_follow items name ≡ true
can_follow-first all f after items name k proper so_far is =
    can_follow-rises items (name, k) (listing_of after) (ap names_rise (ap (λ (l : List Item). items ++ l) (sym (first_listing f after name k is)) ∙ so_far)
    ∙ names_rise-proper all proper)

-- what is answered where nothing is refused
taken : {T E : Type 0} (refusal : Option E) (memory : E) (x : T) (P : T → Type 0) → refusal ≡ None → Answers refusal memory (Ok x) P → P x
taken None memory x P is answers = answers
taken (Some why) memory x P is answers = absurd (cc)

-- an entry more is listed, and the rest behind it
pub goes_on : (all f after : Forest) (items new : List Item) (name copy : List ℕ) (k : Kind) {T : Type 0} (memory : ListingFault) (x : T) → copy ≡ name
    → can_follow items name ≡ true
    → items ++ listing_of f ≡ listing_of all → Some (name, k, after) ≡ first_item f
    → Answers (listing_refusal items copy) memory (Ok x) (λ _. new ≡ items ++ (copy, k) ∷ []) → new ++ listing_of after ≡ listing_of all
goes_on all f after items new name copy k memory x same follows so_far is answer =
    let free : listing_refusal items copy ≡ None = ap (listing_refusal items) same ∙ ap (λ b. cond b None (Some NotRising)) follows in
    let added : new ≡ items ++ (copy, k) ∷ [] = taken (listing_refusal items copy) memory x (λ _. new ≡ items ++ (copy, k) ∷ []) free answer in
    ap (λ (l : List Item). l ++ listing_of after) (added ∙ ap (λ (n : List ℕ). items ++ (n, k) ∷ []) same)
    ∙ append_assoc items ((name, k) ∷ []) (listing_of after)
    ∙ ap (λ (l : List Item). items ++ l) (sym (first_listing f after name k is)) ∙ so_far

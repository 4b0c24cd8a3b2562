-- A listing that gains an entry at its end.
use Rattle.std.proofs.Common.{◌≡◌, ℕ, List, [], ◌∷◌, ◌++◌, ◌-◌, length, true, false, refl, arith, ◌∙◌, ap, suc, sym, subst}
use Rattle.std.specs.Prelude.{Bool, cond, None, Some, Err, slice_get}
use Rattle.std.proofs.lemmas.Bool.{and_parts, and_from}
use Rattle.pt_tree.specs.declared.kind.Kind.{Kind}
use Rattle.pt_tree.specs.declared.kind.Kind.TheVariants as kind
use Rattle.pt_tree.specs.declared.listing.ListingFault.{ListingFault}
use Rattle.pt_tree.specs.declared.listing.ListingFault.TheVariants as fault
use Rattle.pt_tree.specs.Refusal.{Answers}
use Rattle.pt_tree.specs.Listing.{Item, is_before, names_rise, can_follow, listing_refusal}
use Rattle.pt_tree.specs.Forest.{Forest, none, file, other, dir, listing_of, comes_before, is_proper}

-- it goes by the last entry
pub can_follow-last : (items : List Item) (name : List ℕ) (last : Item) → slice_get items (length items - 1) ≡ Some last
    → can_follow items name ≡ is_before last.0 name
can_follow-last [] name last e = absurd (cc)
can_follow-last (x ∷ []) name last e = let same : x ≡ last = cc in ap (λ (y : Item). is_before y.0 name) same
can_follow-last (x ∷ y ∷ items) name last e =
    let at : suc (suc (length items)) - 1 ≡ suc (suc (length items) - 1) = omega arith in
    can_follow-last (y ∷ items) name last (sym (ap (λ k. slice_get (x ∷ y ∷ items) k) at) ∙ e)

pub names_rise-push : (items : List Item) (name : List ℕ) (kind : Kind) → names_rise items ≡ true → can_follow items name ≡ true
    → names_rise (items ++ (name, kind) ∷ []) ≡ true
names_rise-push [] name kind rise follows = refl
names_rise-push (x ∷ []) name kind rise follows = and_from _ _ follows refl
names_rise-push (x ∷ y ∷ items) name kind rise follows =
    let parts = and_parts (is_before x.0 y.0) (names_rise (y ∷ items)) rise in
    and_from _ _ parts.0 (names_rise-push (y ∷ items) name kind parts.1 follows)

-- what rises may be added entry by entry
pub can_follow-rises : (items : List Item) (x : Item) (rest : List Item) → names_rise (items ++ x ∷ rest) ≡ true → can_follow items x.0 ≡ true
can_follow-rises [] x rest rise = refl
can_follow-rises (y ∷ []) x rest rise = (and_parts (is_before y.0 x.0) (names_rise (x ∷ rest)) rise).0
can_follow-rises (y ∷ z ∷ items) x rest rise = can_follow-rises (z ∷ items) x rest (and_parts (is_before y.0 z.0) (names_rise (z ∷ items ++ x ∷ rest)) rise).1

follows_first : (name : List ℕ) (f : Forest) → comes_before name f ≡ true → (k : Kind) → names_rise (listing_of f) ≡ true
    → names_rise ((name, k) ∷ listing_of f) ≡ true
follows_first name none before k rise = refl
follows_first name (file n b f) before k rise = and_from _ _ before rise
follows_first name (other n f) before k rise = and_from _ _ before rise
follows_first name (dir n e f) before k rise = and_from _ _ before rise

-- a proper directory's names rise
pub names_rise-proper : (f : Forest) → is_proper f ≡ true → names_rise (listing_of f) ≡ true
names_rise-proper none proper = refl
names_rise-proper (file n b f) proper =
    let p = and_parts _ _ (and_parts _ _ proper).1 in follows_first n f p.0 kind.File (names_rise-proper f p.1)
names_rise-proper (other n f) proper =
    let p = and_parts _ _ (and_parts _ _ proper).1 in follows_first n f p.0 kind.Other (names_rise-proper f p.1)
names_rise-proper (dir n e f) proper =
    let p = and_parts _ _ (and_parts _ _ proper).1 in
    follows_first n f p.0 kind.Dir (names_rise-proper f (and_parts _ _ p.1).1)

pub refused_late : (items : List Item) (name : List ℕ) (e : ListingFault) (P : Unit {0} → Type 0) → can_follow items name ≡ true → e ≡ fault.NotRising
    → Answers (listing_refusal items name) fault.Memory (Err e) P → ⊥
refused_late items name e P follows is answer =
    let Q : Bool → Type 0 = λ b. Answers (cond b None (Some fault.NotRising)) fault.Memory (Err e) P in
    let memory : e ≡ fault.Memory = subst Q follows answer in
    cc

pub is_before-empty : (name : List ℕ) → is_before name [] ≡ false
is_before-empty [] = refl
is_before-empty (x ∷ name) = refl

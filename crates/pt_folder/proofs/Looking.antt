-- Entries looked at one after another.
use Rattle.std.proofs.Common.{◌≡◌, ℕ, List, [], ◌∷◌, ◌++◌, map, refl, sym, ap, ◌∙◌, subst, inl, inr, false, ◌+◌, ◌<◌, length, take, drop, get_or}
use Rattle.std.proofs.lemmas.List.{take-append-drop, drop_more}
use Rattle.std.specs.List.{FoldsTo}
use Rattle.std.specs.Prelude.{Option, Some, None, IfSome, Result, Ok, Err}
use Rattle.std.specs.Result.{IsErrAnd}
use Rattle.std.specs.declared.io.Error.{Error}
use Rattle.pt_tree.specs.declared.kind.Kind.{Kind}
use Rattle.pt_tree.specs.Listing.{Item, can_follow}
use Rattle.pt_tree.specs.declared.faults.TreeFault.{TreeFault}
use Rattle.pt_tree.specs.declared.faults.TreeFault.TheVariants.{Device, Memory}
use Rattle.pt_folder.specs.Calls.{IsDueTo}
use Rattle.pt_folder.specs.Failure.{FailsLook, IsOfCall, IsOfEntry, OnDevice}
use Rattle.pt_folder.specs.declared.failure.Failure.{Failure}
use Rattle.pt_folder.specs.Listing.{FailsToLook, LeadsToOwnKind, LooksAt, LooksIn}

-- a look at the path of an entry, and its answer handed on
pub looks_in : {S : Type 0} (looks : S → List ℕ → Result Kind Error → S
    → Type 0) (front : List ℕ) (old new : S) (name text : List ℕ) (result : Result Kind TreeFault) → text ≡ front ++ name
    → ((reply : Result Kind Error) × looks old text reply new × LeadsToOwnKind reply result) → LooksIn looks front name old new result
looks_in looks front old new name text result is (reply, asked, leads) = inr (reply, subst (λ t. looks old t reply new) is asked, leads)

pub looks_err : {S : Type 0} (looks : S → List ℕ → Result Kind Error → S → Type 0) (front : List ℕ) (old new : S) (name : List ℕ) (r : Result Kind TreeFault)
    (fault : TreeFault) → IsErrAnd r (λ y. y ≡ fault)
    → LooksIn looks front name old new (Err fault) → LooksIn looks front name old new r
looks_err looks front old new name (Ok x) fault bad asked = absurd bad
looks_err looks front old new name (Err y) fault same asked = subst (λ f. LooksIn looks front name old new (Err f)) (sym same) asked

-- a look that gave a kind
pub looked_one : {S : Type 0} (looks : S → List ℕ → Result Kind Error → S → Type 0) (front : List ℕ) (old new : S) (name : List ℕ) (kind : Kind)
    → LooksIn looks front name old new (Ok kind) → LooksAt looks front old (name, kind) new
looked_one looks front old new name kind (inl none) = let other = none.1 in absurd (cc)
looked_one looks front old new name kind (inr (Ok m, asked, leads)) =
    let own : m ≡ kind = cc in
    subst (λ k. looks old (front ++ name) (Ok k) new) own asked
looked_one looks front old new name kind (inr (Err e, asked, leads)) = absurd leads

-- a look that failed is kept as one at an entry
pub kept_entry : {S T : Type 0} (looks : S → List ℕ → Result Kind Error → S → Type 0) (front name text : List ℕ) (r : Result T TreeFault) (fault : TreeFault)
    (last : Option Failure)
    → IsErrAnd r (λ y. y ≡ fault) → text ≡ front ++ name → OnDevice {T = Kind} (Err fault) (IfSome last (IsOfCall text (FailsLook looks text)))
    → OnDevice r (IfSome last (IsOfEntry looks front))
kept_entry looks front name text (Ok x) fault last bad is kept = tt
kept_entry looks front name text (Err Memory) fault last same is kept = tt
kept_entry looks front name text (Err Device) fault last same is kept = go last
    (subst (λ f. OnDevice {T = Kind} (Err f) (IfSome last (IsOfCall text (FailsLook looks text)))) (sym same) kept)
  where
    go : (o : Option Failure) → IfSome o (IsOfCall text (FailsLook looks text)) → IfSome o (IsOfEntry looks front)
    go None k = tt
    go (Some f) k = inl (name, subst (λ t. IsOfCall t (FailsLook looks t) f) is k)

-- the names of a listing with one more entry
pub names_more : (listing new : List Item) (yielded : List (List ℕ)) (name : List ℕ) (kind : Kind) → map (λ (item : Item). item.0) listing ≡ yielded
    → new ≡ listing ++ (name, kind) ∷ []
    → map (λ (item : Item). item.0) new ≡ yielded ++ name ∷ []
names_more listing new yielded name kind same is = ap (map (λ (item : Item). item.0)) is ∙ mapped listing ∙ ap (λ (l : List (List ℕ)). l ++ name ∷ []) same
  where
    mapped : (items : List Item) → map (λ (item : Item). item.0) (items ++ (name, kind) ∷ []) ≡ map (λ (item : Item). item.0) items ++ name ∷ []
    mapped [] = refl
    mapped (x ∷ items) = ap (λ (l : List (List ℕ)). x.0 ∷ l) (mapped items)

-- the entry that comes next
pub item_here : (names yielded : List (List ℕ)) (name : List ℕ) → map (λ (x : List ℕ). x) yielded ≡ take (length yielded) names
    → (length yielded < length names) × (name ≡ get_or names (length yielded) name) → names ≡ yielded ++ name ∷ drop (length yielded + 1) names
item_here names yielded name so_far (within, is) =
    let n = length yielded in
    let rest = drop (n + 1) names in
    sym (take-append-drop n names) ∙ ap (λ (l : List (List ℕ)). take n names ++ l) (drop_more names n name within ∙ ap (λ (x : List ℕ). x ∷ rest) (sym is))
    ∙ ap (λ (l : List (List ℕ)). l ++ name ∷ rest) (sym so_far ∙ same yielded)
  where
    same : (xs : List (List ℕ)) → map (λ (x : List ℕ). x) xs ≡ xs
    same [] = refl
    same (x ∷ xs) = ap (λ (l : List (List ℕ)). x ∷ l) (same xs)

module _ {S : Type 0} (looks : S → List ℕ → Result Kind Error → S → Type 0) (front : List ℕ) (names : List (List ℕ)) (old mid new : S) (listing : List Item)
    (yielded rest : List (List ℕ)) (name : List ℕ) (same : map (λ (item : Item). item.0) listing ≡ yielded) (here : names ≡ yielded ++ name ∷ rest)
    (looked : FoldsTo (LooksAt looks front) old listing mid) where
  next_is : names ≡ map (λ (item : Item). item.0) listing ++ name ∷ rest
  next_is = here ∙ ap (λ (l : List (List ℕ)). l ++ name ∷ rest) (sym same)

  -- looking at the next entry fails
  pub looks_fail : (fault : TreeFault) → LooksIn looks front name mid new (Err fault) → IsDueTo fault (FailsToLook looks front names old new)
  looks_fail Memory asked = tt
  looks_fail Device (inl none) = let other = none.1 in absurd (cc)
  looks_fail Device (inr (Ok m, asked, leads)) = absurd (cc)
  looks_fail Device (inr (Err e, asked, leads)) = record {
    listing = listing;
    name = name;
    rest = rest;
    mid = mid;
    here = next_is;
    looked = looked;
    failed = inl (e, asked, sym leads);
  }

  -- its name doesn't come after the last
  pub rises_not : (kind : Kind) (fault : TreeFault) → LooksAt looks front mid (name, kind) new → IsDueTo fault (can_follow listing name ≡ false)
      → IsDueTo fault (FailsToLook looks front names old new)
  rises_not kind Memory one unsynced = tt
  rises_not kind Device one unsynced = record {
    listing = listing;
    name = name;
    rest = rest;
    mid = mid;
    here = next_is;
    looked = looked;
    failed = inr (kind, one, unsynced);
  }

-- What a source tells of a directory that is listed, by the laws of its system.
use Rattle.std.proofs.Common.{◌≡◌, ◌⊎◌, ℕ, ◌==◌, List, [], ◌∷◌, ◌++◌, map, true, false, refl, sym, ap, ◌∙◌, subst, length, inl, inr, suc, arith}
use Rattle.std.specs.Prelude.{Bool, Option, None, Some, IsSome, IsPermutation, IsTrue, Result, Ok, Err, IfOk, IfSome, OnErr, MatchResult}
use Rattle.std.specs.Option.{option_map, ForSome}
use Rattle.std.specs.declared.io.Error.{Error}
use Rattle.pt_tree.specs.declared.faults.TreeFault.{TreeFault}
use Rattle.pt_tree.specs.Forest.{Forest, dir_at, is_proper, listing_at, listing_of}
use Rattle.pt_tree.specs.Listing.{Item, names_rise}
use Rattle.pt_tree.specs.Path.{Path}
use Rattle.pt_tree.proofs.AtPaths.{proper_dir_at}
use Rattle.pt_folder.specs.Calls.{fault_of}
use Rattle.pt_folder.specs.Folder.{entry_text}
use Rattle.pt_folder.specs.Laws.{IsPath}
use Rattle.pt_folder.specs.SourceLaws.{GivesAll, Listed, NamesLaw, names_of}
use Rattle.pt_folder.specs.Names.{GivesNames}
use Rattle.pt_folder.specs.Listing.{dir_front}
use Rattle.pt_folder.specs.Seeing.{SeesAt}
use Rattle.pt_folder.specs.Taking.{GetsAll}
use Rattle.pt_folder.specs.declared.system.Input.{Ghosts as OfInput}
use Rattle.pt_folder.proofs.Orders.{listing_is}

-- the text that an entry's path begins with
pub front_is : (folder : List ℕ) (p : Path) (text front : List ℕ) (empty : Bool) → empty ≡ (length p == 0) → text ≡ entry_text folder p
    → ((empty ≡ false) × (front ≡ text ++ 47 ∷ [])) ⊎ ((empty ≡ true) × (front ≡ text))
    → front ≡ dir_front folder p
front_is folder [] text front empty at is (inl (more, ends)) = let one : empty ≡ true = at in absurd (cc)
front_is folder [] text front empty at is (inr (top, same)) = same ∙ is
front_is folder (x ∷ p) text front empty at is (inl (more, ends)) = ends ∙ ap (λ (l : List ℕ). l ++ 47 ∷ []) is
front_is folder (x ∷ p) text front empty at is (inr (top, same)) = absurd (some (length p) (sym at ∙ top))
  where
    some : (n : ℕ) → (suc n == 0) ≡ true → ⊥
    some n h = grind (arith, h)

module _ {S D : Type 0} (kept : S → List ℕ → Option Forest) (input : OfInput D) (opens : S → List ℕ → Result D Error → S
    → Type 0) (law : NamesLaw kept input.left opens)
    (folder : List ℕ) (p : Path) (old mid : S) (text : List ℕ) (path : IsPath p) (is : text ≡ entry_text folder p)
    (can : ForSome (kept old folder) (λ f. IsSome (dir_at f p))) where
  opened : (reply : Result D Error) → opens old text reply mid → Listed input.left (kept old folder) (kept mid folder) p reply
  opened reply asked = law old mid folder p reply path can (subst (λ t. opens old t reply mid) is asked)

  pub names_same : (Q : Result D Error → Type 0) → ((reply : Result D Error) × opens old text reply mid × Q reply) → kept mid folder ≡ kept old folder
  names_same Q asked = (opened asked.0 asked.1).same

  -- what it gives are the names in it
  pub names_given : {A : Type 0} (has : A → List (List ℕ) → Type 0) (taken : A) (done : Unit {0})
      → ((reply : Result D Error) × opens old text reply mid × MatchResult reply (λ dir. (after : D) × GetsAll input has dir taken after)
      (λ e. let r : Result (Unit {0}) TreeFault = Ok done in r ≡ Err (fault_of e)))
      → ForSome (kept old folder) (λ f. (d : Forest) → dir_at f p ≡ Some d → (all : List (List ℕ)) × has taken all × IsPermutation all (names_of d))
  names_given has taken done (Err e, asked, gives) = absurd (cc)
  names_given has taken done (Ok dir, asked, gives) = λ f known d at. (
    gives.1.all,
    gives.1.had,
    by d (input.left dir) gives.1.given
        (subst (GivesAll (input.left dir)) at ((opened (Ok dir) asked).given f known)),
  )
    where
      by : (d : Forest) (o : Option (List ℕ)) → IfSome o (λ bytes. GivesNames bytes gives.1.all) → GivesAll o (Some d) → IsPermutation gives.1.all (names_of d)
      by d None gives all = absurd all
      by d (Some bytes) gives all = all _ gives

module _ {S : Type 0} (kept : S → List ℕ → Option Forest) (folder : List ℕ) (p : Path) (old mid new : S) (front : List ℕ) (path : IsPath p) (begins : front
    ≡ dir_front folder p) (same : kept mid folder ≡ kept old folder) (can : ForSome (kept old folder) (λ f. IsSome (dir_at f p))) where
  can_mid : ForSome (kept mid folder) (λ f. IsSome (dir_at f p))
  can_mid = λ f known. can f (sym same ∙ known)

  pub list_same : (result : Result (List Item) TreeFault) → IfOk result (SeesAt kept front mid new) → OnErr result (SeesAt kept front mid new [])
      → kept new folder ≡ kept old folder
  list_same (Ok items) seen failed = (seen folder p path begins can_mid).same ∙ same
  list_same (Err e) seen failed = (failed folder p path begins can_mid).same ∙ same

  pub list_told : (names order : List (List ℕ)) (result : Result (List Item) TreeFault) → ((f : Forest) → kept old folder ≡ Some f → is_proper f ≡ true)
      → ForSome (kept old folder) (λ f. (d : Forest) → dir_at f p ≡ Some d → IsPermutation names (names_of d)) → IsPermutation names order
      → IfOk result (λ items. map (λ (item : Item). item.0) items ≡ order) → IfOk result (SeesAt kept front mid new)
      → IfOk result (λ items. IsTrue (names_rise items))
      → IfOk result (λ items. ForSome (kept old folder) (λ f. listing_at f p ≡ Some items))
  list_told names order (Err e) proper given ordered listed seen rise = tt
  list_told names order (Ok items) proper given ordered listed seen rise = λ f known. by f known (dir_at f p) refl
    where
      by : (f : Forest) → kept old folder ≡ Some f → (o : Option Forest) → dir_at f p ≡ o → option_map listing_of o ≡ Some items
      by f known None at = let none : IsSome (dir_at f p) = can f known in absurd (nothing (dir_at f p) at none)
        where
          nothing : (o : Option Forest) → o ≡ None → IsSome o → ⊥
          nothing None e h = cc
          nothing (Some d) e h = cc
      by f known (Some d) at = ap Some (listing_is f d p names order items (proper_dir_at f p d (proper f known) at) at (given f known d at) ordered listed rise
          ((seen folder p path begins can_mid).seen f (same ∙ known)))

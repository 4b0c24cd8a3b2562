-- What is asked of a system to list a directory, in one piece, and why it is not listed.
use Rattle.std.proofs.Common.{◌≡◌, ◌∙◌, ◌≤◌, List, map, length, ap, sym, subst, inl, inr}
use Rattle.std.specs.Prelude.{ℕ, IsPermutation, Result, Ok, Err, IfOk, IfErr, MatchResult, Vec}
use Rattle.std.specs.Global.{Global}
use Rattle.std.proofs.lemmas.List.{length-map}
use Rattle.std.proofs.lemmas.List.Sorted.{length_permutation}
use Rattle.std.specs.Cmp.Lexicographic.{slice_cmp}
use Rattle.std.specs.Ordering.{nat_cmp}
use Rattle.std.specs.List.{FoldsTo}
use Rattle.std.specs.List.Sorted.{IsSorted}
use Rattle.std.specs.declared.io.Error.{Error}
use Rattle.pt_tree.specs.declared.faults.TreeFault.{TreeFault}
use Rattle.pt_tree.specs.declared.faults.TreeFault.TheVariants.{Device, Memory}
use Rattle.pt_tree.specs.Listing.{Item}
use Rattle.pt_tree.specs.Path.{Path}
use Rattle.pt_folder.specs.Calls.{IsDueTo, change_of, fault_of}
use Rattle.pt_folder.specs.Folder.{entry_in, entry_text}
use Rattle.pt_folder.specs.declared.system.Input.{Ghosts as OfInput}
use Rattle.pt_folder.specs.declared.system.System.{Ghosts as OfSystem}
use Rattle.pt_folder.specs.Listing.{AreAll, FailsToGet, FailsToLook, LooksAt, dir_front, most_entries}
use Rattle.pt_folder.specs.WholeListing.{FailsToList, FailsToReadDir, IsListedBy}
use Rattle.pt_folder.specs.Names.{IsRefusedName}
use Rattle.pt_folder.specs.Taking.{GetsAll}

module _ {S F D : Type 0} (sys : OfSystem S F D) (input : OfInput D) (folder : List ℕ) (p : Path) (old mid : S) (text : List ℕ) (is : text
    ≡ entry_text folder p) where
  -- the directory was opened, and all that it gives was taken, or that failed
  abbrev pub Asks : {A : Type 0} → (A → List (List ℕ) → Type 0) → (List (List ℕ) → List ℕ → Type 0) → A → Result (Unit {0}) TreeFault → Type 0
  Asks has refuses taken result =
      (reply : Result D Error) × sys.opens_dir old text reply mid × MatchResult reply (λ dir. (after : D)
      × MatchResult result (λ done. GetsAll input has dir taken after) (λ fault. IsDueTo fault (FailsToGet input.reads refuses dir after)))
      (λ e. result ≡ Err (fault_of e))

  opened : (reply : Result D Error) → sys.opens_dir old text reply mid → sys.opens_dir old (entry_text folder p) reply mid
  opened reply asked = subst (λ t. sys.opens_dir old t reply mid) is asked

  -- it isn't read to its end
  pub read_fails : {A : Type 0} (has : A → List (List ℕ) → Type 0) (refuses : List (List ℕ) → List ℕ → Type 0) (taken : A) → Asks has refuses taken (Err Device)
      → FailsToReadDir sys input refuses (entry_in folder p) (change_of old mid)
  read_fails has refuses taken (Ok dir, asked, gives) = inr (inr (dir, gives.0, opened (Ok dir) asked, gives.1))
  read_fails has refuses taken (Err e, asked, gives) = let device : fault_of e ≡ Device = cc in inr (inl (e, opened (Err e) asked, device))

  -- or it is
  pub read_whole : {A : Type 0} (has : A → List (List ℕ) → Type 0) (refuses : List (List ℕ) → List ℕ → Type 0) (taken : A) (done : Unit {0})
      → Asks has refuses taken (Ok done)
      → (dir : D) × (after : D) × sys.opens_dir old (entry_text folder p) (Ok dir) mid × GetsAll input has dir taken after
  read_whole has refuses taken done (Ok dir, asked, gives) = (dir, gives.0, opened (Ok dir) asked, gives.1)
  read_whole has refuses taken done (Err e, asked, gives) = absurd (cc)

  -- its names aren't had
  pub names_fail : (names : Vec (List ℕ) Global) (fault : TreeFault) → Asks AreAll (IsRefusedName most_entries) names (Err fault)
      → IsDueTo fault (FailsToList sys input (entry_in folder p) (change_of old mid))
  names_fail names Memory asked = tt
  names_fail names Device asked = inl (read_fails AreAll (IsRefusedName most_entries) names asked)

  module _ (names : Vec (List ℕ) Global) (done : Unit {0}) (asked : Asks AreAll (IsRefusedName most_entries) names (Ok done)) where
    whole : (dir : D) × (after : D) × sys.opens_dir old (entry_text folder p) (Ok dir) mid × GetsAll input AreAll dir names after
    whole = read_whole AreAll (IsRefusedName most_entries) names done asked

    -- they are as many as a directory may have
    pub few_names : length names.items ≤ most_entries
    few_names = subst (λ (l : List (List ℕ)). length l ≤ most_entries) (sym whole.3.had.same) whole.3.had.few

    module _ (order : List (List ℕ)) (ordered : IsPermutation names.items order) (front : List ℕ) (begins : front ≡ dir_front folder p) (new : S) where
      -- it is listed
      pub listed_by : (result : Result (List Item) TreeFault) → IfOk result (λ listing. map (λ (item : Item). item.0) listing ≡ order)
          → IfOk result (λ listing. FoldsTo (LooksAt sys.looks front) mid listing new)
          → IfOk result (λ listing. IsListedBy sys input (entry_in folder p) (change_of old new) listing)
      listed_by (Err f) named looked = tt
      listed_by (Ok listing) named looked = record {
        dir = whole.0;
        after = whole.1;
        mid = mid;
        names = whole.3.all;
        opened = whole.2;
        read = whole.3.read;
        given = whole.3.given;
        ordered = subst (λ l. IsPermutation l (map (λ (item : Item). item.0) listing)) whole.3.had.same (subst (IsPermutation names.items) (sym named) ordered);
        looked = subst (λ front. FoldsTo (LooksAt sys.looks front) mid listing new) begins looked;
      }

      -- one of its entries isn't had
      pub entry_fails : {U : Type 0} (result : Result U TreeFault) → IsSorted (slice_cmp nat_cmp) order
          → IfErr result (λ fault. IsDueTo fault (FailsToLook sys.looks front order mid new))
          → IfErr result (λ fault. IsDueTo fault (FailsToList sys input (entry_in folder p) (change_of old new)))
      entry_fails (Ok x) sorted failed = tt
      entry_fails (Err Memory) sorted failed = tt
      entry_fails (Err Device) sorted failed = inr (record {
        dir = whole.0;
        after = whole.1;
        mid = mid;
        names = whole.3.all;
        order = order;
        opened = whole.2;
        read = whole.3.read;
        ordered = subst (λ l. IsPermutation l order) whole.3.had.same ordered;
        sorted = sorted;
        looked = subst (λ front. FailsToLook sys.looks front order mid new) begins failed;
      })

-- there are as many entries as names
pub few_listed : (names order : List (List ℕ)) → length names ≤ most_entries → IsPermutation names order → (result : Result (List Item) TreeFault)
    → IfOk result (λ listing. map (λ (item : Item). item.0) listing ≡ order)
    → IfOk result (λ listing. length listing ≤ most_entries)
few_listed names order few ordered (Err f) named = tt
few_listed names order few ordered (Ok listing) named =
    subst (λ n. n ≤ most_entries) (sym (length_permutation names order ordered) ∙ sym (ap length named) ∙ length-map listing (λ (item : Item). item.0)) few

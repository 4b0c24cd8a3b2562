-- What a source tells of a directory that is listed past what is no name, by the laws of its system.
use Rattle.std.proofs.Common.{◌≡◌, ℕ, List, [], ◌∷◌, map, true, false, refl, sym, ap, ◌∙◌, subst, cond, length, inl, inr, ◌≤◌}
use Rattle.std.specs.Prelude.{Bool, Option, Some, IsSome, IsPermutation, Result, Ok, Err, IfErr, IfOk, MatchResult, Vec}
use Rattle.std.specs.Global.{Global}
use Rattle.std.specs.Option.{ForSome}
use Rattle.std.specs.List.{All, FoldsTo, filter}
use Rattle.std.specs.List.Sorted.{IsSorted}
use Rattle.std.specs.Cmp.Lexicographic.{slice_cmp}
use Rattle.std.specs.Ordering.{nat_cmp}
use Rattle.std.specs.declared.io.Error.{Error}
use Rattle.std.proofs.lemmas.Bool.{and_parts}
use Rattle.std.proofs.lemmas.List.Elements.{All-cons, All-head, All-nil, All-tail}
use Rattle.std.proofs.lemmas.List.Sorted.{All-permutation, IsPermutation-sym, length_permutation}
use Rattle.pt_tree.specs.declared.faults.TreeFault.{TreeFault}
use Rattle.pt_tree.specs.declared.faults.TreeFault.TheVariants.{Device, Memory}
use Rattle.pt_tree.specs.Forest.{Forest, none, file, other, dir, comes_before, dir_at, is_proper}
use Rattle.pt_tree.specs.Listing.{Item}
use Rattle.pt_tree.specs.Name.{is_name}
use Rattle.pt_tree.specs.Path.{Path}
use Rattle.pt_tree.proofs.AtPaths.{proper_dir_at}
use Rattle.pt_tree.proofs.Finding.{proper_file, proper_other}
use Rattle.pt_folder.specs.Calls.{IsDueTo, change_of, fault_of}
use Rattle.pt_folder.specs.Folder.{entry_in, entry_text}
use Rattle.pt_folder.specs.Laws.{IsPath}
use Rattle.pt_folder.specs.Listing.{FailsToLook, LooksAt, dir_front, most_entries}
use Rattle.pt_folder.specs.Parting.{FailsToListPast, GivesApart, HasParts, IsListedPast, IsOneTooMany}
use Rattle.pt_folder.specs.Taking.{GetsAll}
use Rattle.pt_folder.specs.SourceLaws.{NamesLaw, names_of}
use Rattle.pt_folder.specs.declared.parting.Partition.{Partition}
use Rattle.pt_folder.specs.declared.system.Input.{Ghosts as OfInput}
use Rattle.pt_folder.specs.declared.system.System.{Ghosts as OfSystem}
use Rattle.pt_folder.proofs.Listed.{Asks, read_fails, read_whole}
use Rattle.pt_folder.proofs.Listings.{names_given}

abbrev AreNames : List (List ℕ) → Type 0
AreNames names = All (λ n. is_name n ≡ true) names

-- each entry of a tree that is proper has a name
names_proper : (d : Forest) → is_proper d ≡ true → AreNames (names_of d)
names_proper none proper = All-nil (λ n. is_name n ≡ true)
names_proper (file name bytes after) proper =
    All-cons (λ n. is_name n ≡ true) name (names_of after) (and_parts (is_name name) _ proper).0 (names_proper after (proper_file name bytes after proper).2)
names_proper (other name after) proper =
    All-cons (λ n. is_name n ≡ true) name (names_of after) (and_parts (is_name name) _ proper).0 (names_proper after (proper_other name after proper).2)
names_proper (dir name inside after) proper =
    All-cons (λ n. is_name n ≡ true) name (names_of after) (and_parts (is_name name) _ proper).0
    (names_proper after (and_parts (is_proper inside) _ (and_parts (comes_before name after) _ (and_parts (is_name name) _ proper).1).1).1)

-- so all of them are names
all_pass : (names : List (List ℕ)) → AreNames names → filter is_name names ≡ names
all_pass [] are = refl
all_pass (x ∷ xs) are =
    let P : List ℕ → Type 0 = λ n. is_name n ≡ true in
    by (is_name x) (All-head P x xs are) ∙ ap (λ l. x ∷ l) (all_pass xs (All-tail P x xs are))
  where
    by : (b : Bool) → b ≡ true → cond b (x ∷ filter is_name xs) (filter is_name xs) ≡ x ∷ filter is_name xs
    by true is = refl
    by false is = absurd (cc)

module _ {S D : Type 0} (kept : S → List ℕ → Option Forest) (input : OfInput D) (opens : S → List ℕ → Result D Error → S
    → Type 0) (law : NamesLaw kept input.left opens)
    (folder : List ℕ) (p : Path) (old mid : S) (text : List ℕ) (path : IsPath p) (is : text ≡ entry_text folder p)
    (can : ForSome (kept old folder) (λ f. IsSome (dir_at f p))) where
  -- the names among what it gives are those of the directory
  pub parted_given : (parted : Partition) (done : Unit {0}) → ((f : Forest) → kept old folder ≡ Some f → is_proper f ≡ true)
      → ((reply : Result D Error) × opens old text reply mid × MatchResult reply (λ d. (after : D) × GetsAll input HasParts d parted after)
      (λ e. let r : Result (Unit {0}) TreeFault = Ok done in r ≡ Err (fault_of e)))
      → ForSome (kept old folder) (λ f. (d : Forest) → dir_at f p ≡ Some d → IsPermutation parted.names.items (names_of d))
  parted_given parted done proper asked = λ f known d at.
      let these = names_given kept input opens law folder p old mid text path is can HasParts parted done asked f known d at in
      let all = these.0 in
      let whole = names_proper d (proper_dir_at f p d (proper f known) at) in
      let same : filter is_name all ≡ all = all_pass all (All-permutation (λ n. is_name n ≡ true) (names_of d) all (IsPermutation-sym all (names_of d) these.2)
      whole) in
      subst (λ l. IsPermutation l (names_of d)) (sym (these.1.named ∙ same)) these.2

module _ {S F D : Type 0} (sys : OfSystem S F D) (input : OfInput D) (folder : List ℕ) (p : Path) (old mid new : S) (text : List ℕ) (is : text
    ≡ entry_text folder p) where
  -- it was read so
  abbrev AsksParted : Partition → Result (Unit {0}) TreeFault → Type 0
  AsksParted parted result = Asks sys input folder p old mid text is HasParts IsOneTooMany parted result

  -- it isn't read to its end
  pub parted_fails : (parted : Partition) (refused : List (Vec ℕ Global)) (fault : TreeFault) → AsksParted parted (Err fault)
      → FailsToListPast sys input (entry_in folder p) (change_of old mid) (change_of refused refused) fault
  parted_fails parted refused Memory asked = inl refl
  parted_fails parted refused Device asked = inl (refl, read_fails sys input folder p old mid text is HasParts IsOneTooMany parted asked)

  module _ (parted : Partition) (done : Unit {0}) (asked : AsksParted parted (Ok done)) (refused : List (Vec ℕ Global))
      (others : IsPermutation parted.refused.items refused) (order_is : IsSorted (λ x y. slice_cmp nat_cmp x.items y.items) refused) where
    whole : (dir : D) × (after : D) × sys.opens_dir old (entry_text folder p) (Ok dir) mid × GetsAll input HasParts dir parted after
    whole = read_whole sys input folder p old mid text is HasParts IsOneTooMany parted done asked

    -- what is given apart
    pub gives_apart : GivesApart sys input (entry_in folder p) (change_of old mid) parted refused
    gives_apart = record {
      dir = whole.0;
      after = whole.1;
      opened = whole.2;
      read = whole.3;
      others = others;
      order = order_is;
      few = subst (λ n. n ≤ most_entries) (sym (length_permutation parted.refused.items refused others)) whole.3.had.few.refused;
    }

    -- the names are as many as a directory may have
    pub few_parts : length parted.names.items ≤ most_entries
    few_parts = whole.3.had.few.named

    module _ (order : List (List ℕ)) (front : List ℕ) (begins : front ≡ dir_front folder p) (ordered : IsPermutation parted.names.items order) where
      -- it is listed past what is no name
      pub listed_past : (result : Result (List Item) TreeFault) → IfOk result (λ listing. map (λ (item : Item). item.0) listing ≡ order)
          → IfOk result (λ listing. FoldsTo (LooksAt sys.looks front) mid listing new)
          → IfOk result (IsListedPast sys input (entry_in folder p) (change_of old new) refused)
      listed_past (Err f) named looked = tt
      listed_past (Ok listing) named looked = record {
        mid = mid;
        parted = parted;
        apart = gives_apart;
        named = subst (IsPermutation parted.names.items) (sym named) ordered;
        looked = subst (λ front. FoldsTo (LooksAt sys.looks front) mid listing new) begins looked;
      }

      -- one of its entries isn't had
      pub fails_past : {U : Type 0} (before : List (Vec ℕ Global)) (result : Result U TreeFault) → IsSorted (slice_cmp nat_cmp) order
          → IfErr result (λ fault. IsDueTo fault (FailsToLook sys.looks front order mid new))
          → IfErr result (FailsToListPast sys input (entry_in folder p) (change_of old new) (change_of before refused))
      fails_past before (Ok x) sorted failed = tt
      fails_past before (Err Memory) sorted failed = inr (mid, parted, gives_apart)
      fails_past before (Err Device) sorted failed = inr (record {
        mid = mid;
        parted = parted;
        order = order;
        apart = gives_apart;
        named = ordered;
        sorted = sorted;
        looked = subst (λ front. FailsToLook sys.looks front order mid new) begins failed;
      })

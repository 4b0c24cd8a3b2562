-- What a destination gives of a file, by the law of its system.
use Rattle.std.proofs.Common.{◌≡◌, ℕ, List, refl, sym, ap, subst, inl, inr, take}
use Rattle.std.specs.Prelude.{Option, None, Some, IsSome, Result, Ok, Err, OnOk, IfOk}
use Rattle.std.specs.Option.{option_map, ForSome}
use Rattle.std.specs.declared.io.Error.{Error}
use Rattle.pt_tree.specs.declared.faults.TreeFault.{TreeFault}
use Rattle.pt_tree.specs.Path.{Path}
use Rattle.pt_tree.specs.Tree.{Tree, bytes_of}
use Rattle.pt_tree.specs.Dest.{Writing, CanPeek, IsPeeked}
use Rattle.pt_folder.specs.declared.writing.FileInWriting.{FileInWriting as Open}
use Rattle.pt_folder.specs.Bytes.{TakesBlock}
use Rattle.pt_folder.specs.Calls.{AsksOnce, change_of}
use Rattle.pt_folder.specs.Folder.{entry_in}
use Rattle.pt_folder.specs.DestLaws.{Kept, PeekLaw}
use Rattle.pt_folder.specs.DestHeld.{told_of}
use Rattle.pt_folder.specs.Runs.{PeeksAt}
use Rattle.pt_folder.proofs.DestTold.{told_at}

block_is : (l after : Option (List ℕ)) (block : List ℕ) → IsSome l → TakesBlock l after block → option_map (take 8192) l ≡ Some block
block_is None after block some is = absurd (cc)
block_is (Some b) after block some is = ap Some (sym is.0)

peeked : {F : Type 0} (w : Option (Open F)) (o : Option Tree) (p : Path) (block : List ℕ) → CanPeek (option_map (told_at w) o) p
    → ForSome o (λ t. IsSome (bytes_of (t p)) → option_map (take 8192) (bytes_of (t p)) ≡ Some block) → IsPeeked (option_map (told_at w) o) p block
unfolding CanPeek IsPeeked
peeked w None p block can h = λ s is. absurd (cc)
peeked w (Some t) p block can h = λ s is. let same : told_at w t ≡ s = cc in subst (λ (s : Writing). option_map (take 8192) (bytes_of (s.tree p)) ≡ Some block)
    same (h t refl (can (told_at w t) refl))

module _ {S F R : Type 0} (kept : S → List ℕ → Kept F) (folder : List ℕ) (left : R → Option (List ℕ)) (reads : R → List ℕ → Result ℕ Error → R
    → Type 0) (opens : S → List ℕ → Result R Error → S → Type 0) (law : PeekLaw kept left opens)
    (old new : S) (p : Path) (block : List ℕ) where
  pub peek_keeps : (result : Result (Unit {0}) TreeFault) → AsksOnce opens (PeeksAt left reads block) (entry_in folder p) (change_of old new) result
      → kept new folder ≡ kept old folder
  peek_keeps result (inl none) = ap (λ s. kept s folder) none.0
  peek_keeps result (inr asked) = (law old new folder p asked.reply asked.named asked.made).same

  pub peek_tells : (w : Option (Open F)) → CanPeek (told_of (kept old folder) w) p → (result : Result (Unit {0}) TreeFault)
      → AsksOnce opens (PeeksAt left reads block) (entry_in folder p) (change_of old new) result → OnOk result (IsPeeked (told_of (kept old folder) w) p block)
  peek_tells w can (Err e) asked = tt
  peek_tells w can (Ok x) (inl none) = absurd none.1
  peek_tells w can (Ok x) (inr asked) = by asked.reply asked.gives (law old new folder p asked.reply asked.named asked.made).bytes
    where
      by : (reply : Result R Error) → PeeksAt left reads block reply (Ok x)
          → ForSome (kept old folder).tree (λ t. IsSome (bytes_of (t p)) → IfOk reply (λ r. left r ≡ bytes_of (t p)))
          → IsPeeked (told_of (kept old folder) w) p block
      by (Ok file) gives is = peeked w (kept old folder).tree p block can
          (λ t told some. block_is (bytes_of (t p)) (left gives.0) block some
          (subst (λ (l : Option (List ℕ)). TakesBlock l (left gives.0) block) (is t told some) gives.1))
      by (Err e) gives is = absurd (cc)

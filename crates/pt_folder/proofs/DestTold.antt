-- What a destination tells after a call, by the laws of its system.
use Rattle.std.proofs.Common.{◌≡◌, ℕ, List, refl, sym, ap, subst, ◌∙◌, inl, inr}
use Rattle.std.specs.Prelude.{Option, None, Some, Result, Ok, Err, IfOk, OnOk, OnErr, MatchResult}
use Rattle.std.specs.Option.{option_map, ForSome}
use Rattle.std.specs.declared.io.Error.{Error}
use Rattle.pt_tree.specs.declared.kind.Kind.{Kind}
use Rattle.pt_tree.specs.declared.faults.TreeFault.{TreeFault}
use Rattle.pt_tree.specs.Path.{Path}
use Rattle.pt_tree.specs.Tree.{Tree, Folder, kind_of_entry, put, CanMake, CanMove}
use Rattle.pt_tree.specs.Dest.{Writing, IsKindAt, MayMake, MayMove, after_mkdir}
use Rattle.pt_folder.specs.declared.writing.FileInWriting.{FileInWriting as Open}
use Rattle.pt_folder.specs.Calls.{AsksOnce, IsAnswer, LeadsToKind, MakesOnce, change_of}
use Rattle.pt_folder.specs.Folder.{entry_in}
use Rattle.pt_folder.specs.DestLaws.{Becomes, DirLaw, Kept, KindLaw, MakesDir}
use Rattle.pt_folder.proofs.Shown.{right_kind_here}
use Rattle.pt_folder.specs.DestHeld.{told_of, IsPlaced}

-- what is told of a tree
abbrev pub told_at : {F : Type 0} → Option (Open F) → Tree → Writing
told_at w t = record { tree = t; writing = option_map (λ w. w.path) w }

-- a condition on what is told, on the tree that is kept
pub may_make : {F : Type 0} (w : Option (Open F)) (o : Option Tree) (p : Path) → MayMake (option_map (told_at w) o) p → ForSome o (λ t. CanMake t p)
unfolding MayMake
may_make w o p h = λ t is. h (told_at w t) (ap (option_map (told_at w)) is)

pub may_move : {F : Type 0} (w : Option (Open F)) (o : Option Tree) (from to : Path) → MayMove (option_map (told_at w) o) from to
    → ForSome o (λ t. CanMove t from to)
unfolding MayMove
may_move w o from to h = λ t is. h (told_at w t) (ap (option_map (told_at w)) is)

-- the tree becomes another
pub told_becomes : {F : Type 0} (w : Option (Open F)) (o : Option Tree) (change : Tree → Tree) (after : Writing → Writing)
    → ((t : Tree) → told_at w (change t) ≡ after (told_at w t))
    → option_map (told_at w) (option_map change o) ≡ option_map after (option_map (told_at w) o)
told_becomes w None change after h = refl
told_becomes w (Some t) change after h = ap Some (h t)

pub placed_becomes : {F : Type 0} (w : Option (Open F)) (o : Option Tree) (change : Tree → Tree) (place : F → Option Path)
    → ForSome o (λ _. ForSome w (λ w. place w.file ≡ Some w.path)) → ForSome (option_map change o) (λ _. ForSome w (λ w. place w.file ≡ Some w.path))
placed_becomes w None change place is = λ t e. absurd (cc)
placed_becomes w (Some t) change place is = λ s e. is t refl

kind_is : {F : Type 0} (w : Option (Open F)) (o : Option Tree) (p : Path) (k : Option Kind) → ForSome o (λ t. option_map kind_of_entry (t p) ≡ k)
    → IsKindAt (option_map (told_at w) o) p k
unfolding IsKindAt
kind_is w None p k h = λ s is. absurd (cc)
kind_is w (Some t) p k h = λ s is. let same : told_at w t ≡ s = cc in subst (λ (s : Writing). option_map kind_of_entry (s.tree p) ≡ k) same (h t refl)

module _ {S F : Type 0} (kept : S → List ℕ → Kept F) (folder : List ℕ) where
  -- a look at an entry
  pub kind_keeps : {T : Type 0} (looks : S → List ℕ → Result Kind Error → S → Type 0) → KindLaw kept looks
      → (leads : Result Kind Error → Result T TreeFault → Type 0) (old new : S) (p : Path) (result : Result T TreeFault)
      → AsksOnce looks leads (entry_in folder p) (change_of old new) result → kept new folder ≡ kept old folder
  kind_keeps looks law leads old new p result (inl none) = ap (λ s. kept s folder) none.0
  kind_keeps looks law leads old new p result (inr asked) = (law old new folder p asked.reply asked.named asked.made).same

  pub kind_tells : (looks : S → List ℕ → Result Kind Error → S → Type 0) → KindLaw kept looks
      → (old new : S) (p : Path) (result : Result (Option Kind) TreeFault) (w : Option (Open F))
      → AsksOnce looks LeadsToKind (entry_in folder p) (change_of old new) result → IfOk result (λ k. IsKindAt (told_of (kept old folder) w) p k)
  kind_tells looks law old new p (Err e) w asked = tt
  kind_tells looks law old new p (Ok k) w (inl none) = absurd none.1
  kind_tells looks law old new p (Ok k) w (inr asked) =
      kind_is w (kept old folder).tree p k (λ t is. right_kind_here (option_map kind_of_entry (t p)) asked.reply k
      ((law old new folder p asked.reply asked.named asked.made).shown t is) asked.gives)

  -- a directory is made, or nothing is changed
  pub mkdir_gives : (makes : S → List ℕ → Result (Unit {0}) Error → S → Type 0) → DirLaw kept makes
      → (old new : S) (p : Path) (longest : ℕ) (result : Result (Unit {0}) TreeFault)
      → ForSome (kept old folder).tree (λ t. CanMake t p) → MakesOnce longest makes IsAnswer (entry_in folder p) (change_of old new) result
      → MatchResult result (λ _. Becomes (λ t. put t p Folder) (kept old folder) (kept new folder)) (λ _. kept new folder ≡ kept old folder)
  mkdir_gives makes law old new p longest (Ok x) can (inl none) = absurd none.1
  mkdir_gives makes law old new p longest (Err e) can (inl none) = ap (λ s. kept s folder) none.0
  mkdir_gives makes law old new p longest result can (inr asked) = by asked.reply result asked.gives
      (law old new folder p asked.reply asked.named can asked.made)
    where
      by : (reply : Result (Unit {0}) Error) (result : Result (Unit {0}) TreeFault) → IsAnswer reply result
          → MakesDir (kept old folder) (kept new folder) p reply
          → MatchResult result (λ _. Becomes (λ t. put t p Folder) (kept old folder) (kept new folder)) (λ _. kept new folder ≡ kept old folder)
      by (Ok x) (Ok y) gives is = is
      by (Ok x) (Err f) gives is = absurd (cc)
      by (Err e) (Ok y) gives is = absurd (cc)
      by (Err e) (Err f) gives is = is

  module _ (w : Option (Open F)) (old new : S) where
    pub mkdir_made : (p : Path) (result : Result (Unit {0}) TreeFault)
        → MatchResult result (λ _. Becomes (λ t. put t p Folder) (kept old folder) (kept new folder)) (λ _. kept new folder ≡ kept old folder)
        → OnOk result (told_of (kept new folder) w ≡ option_map (after_mkdir p) (told_of (kept old folder) w))
    mkdir_made p (Err e) is = tt
    mkdir_made p (Ok x) is = ap (λ k. told_of k w) is ∙ told_becomes w (kept old folder).tree (λ t. put t p Folder) (after_mkdir p) (λ t. refl)

    pub mkdir_same : (p : Path) (result : Result (Unit {0}) TreeFault)
        → MatchResult result (λ _. Becomes (λ t. put t p Folder) (kept old folder) (kept new folder)) (λ _. kept new folder ≡ kept old folder)
        → OnErr result (told_of (kept new folder) w ≡ told_of (kept old folder) w)
    mkdir_same p (Ok x) is = tt
    mkdir_same p (Err e) is = ap (λ k. told_of k w) is

    pub mkdir_placed : (p : Path) (result : Result (Unit {0}) TreeFault)
        → MatchResult result (λ _. Becomes (λ t. put t p Folder) (kept old folder) (kept new folder)) (λ _. kept new folder ≡ kept old folder)
        → IsPlaced (kept old folder) w → IsPlaced (kept new folder) w
    mkdir_placed p (Ok x) is at = subst (λ k. IsPlaced k w) (sym is) (placed_becomes w (kept old folder).tree (λ t. put t p Folder) (kept old folder).place at)
    mkdir_placed p (Err e) is at = subst (λ k. IsPlaced k w) (sym is) at

-- What a look at an entry of a source tells, by the law of its system.
use Rattle.std.proofs.Common.{◌≡◌, List, ℕ, ap, inl, inr}
use Rattle.std.specs.Prelude.{Option, IsSome, IfOk, Result, Ok, Err}
use Rattle.std.specs.Option.{ForSome}
use Rattle.std.specs.declared.io.Error.{Error}
use Rattle.pt_tree.specs.Forest.{Forest, dir_at, kind_at}
use Rattle.pt_tree.specs.Path.{Path, parent}
use Rattle.pt_tree.specs.declared.faults.TreeFault.{TreeFault}
use Rattle.pt_tree.specs.declared.kind.Kind.{Kind}
use Rattle.pt_folder.specs.Calls.{AsksOnce, LeadsToKind, change_of}
use Rattle.pt_folder.specs.Folder.{entry_in}
use Rattle.pt_folder.specs.SourceLaws.{LookLaw}
use Rattle.pt_folder.proofs.Shown.{right_kind_here}

module _ {S : Type 0} (kept : S → List ℕ → Option Forest) (looks : S → List ℕ → Result Kind Error → S
    → Type 0) (law : LookLaw kept looks) (folder : List ℕ) (old new : S) (p : Path) where
  pub look_same : (result : Result (Option Kind) TreeFault) → ForSome (kept old folder) (λ f. IsSome (dir_at f (parent p)))
      → AsksOnce looks LeadsToKind (entry_in folder p) (change_of old new) result → kept new folder ≡ kept old folder
  look_same result above (inl none) = ap (λ s. kept s folder) none.0
  look_same result above (inr asked) = (law old new folder p asked.reply asked.named above asked.made).same

  pub look_tells : (result : Result (Option Kind) TreeFault) → ForSome (kept old folder) (λ f. IsSome (dir_at f (parent p)))
      → AsksOnce looks LeadsToKind (entry_in folder p) (change_of old new) result
      → IfOk result (λ here. ForSome (kept old folder) (λ f. kind_at f p ≡ here))
  look_tells (Err e) above asked = tt
  look_tells (Ok here) above (inl none) = absurd none.1
  look_tells (Ok here) above (inr asked) = let look = law old new folder p asked.reply asked.named above asked.made in
      λ f is. right_kind_here (kind_at f p) asked.reply here (look.shown f is) asked.gives

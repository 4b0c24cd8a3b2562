-- Over a folder that tells nothing, each call of a rehearsal may be made.
use Rattle.std.specs.Prelude.{◌≡◌, List, Option, None, Some, refl}
use Rattle.pt_rehearsal.specs.Steps.{Step}
use Rattle.pt_tree.specs.Dest.{CanPeek, CanWrite, MayMake, MayMove}
use Rattle.pt_tree.specs.Path.{Path}
use Rattle.pt_folder.specs.DestHeld.{told_with}
use Rattle.pt_folder.specs.Untold.{no_kept}
use Rattle.pt_folder.specs.declared.unsynced_change.UnsyncedChange.{UnsyncedChange}
use Rattle.pt_folder.specs.declared.unsynced_change.UnsyncedChange.TheVariants as unsynced
use Rattle.pt_folder.specs.declared.writing.FileInWriting.{FileInWriting as Open}
use Rattle.pt_rehearsal.specs.Fitting.{told_over}

module _ {F : Type 0} (w : Option (Open F)) (steps : List Step) where
  untold : (s : Option UnsyncedChange) → told_over (told_with (no_kept {F = F}) s w) steps ≡ None
  untold None = refl
  untold (Some (unsynced.Closed p)) = refl
  untold (Some (unsynced.Moved from to)) = refl

  pub untold_may_make : (s : Option UnsyncedChange) (p : Path)
      → MayMake (told_over (told_with (no_kept {F = F}) s w) steps) p
  unfolding MayMake
  untold_may_make s p = λ state is. let none = untold s in absurd (cc)

  pub untold_may_move : (s : Option UnsyncedChange) (from to : Path)
      → MayMove (told_over (told_with (no_kept {F = F}) s w) steps) from to
  unfolding MayMove
  untold_may_move s from to = λ state is. let none = untold s in absurd (cc)

  pub untold_can_write : (s : Option UnsyncedChange)
      → CanWrite (told_over (told_with (no_kept {F = F}) s w) steps)
  unfolding CanWrite
  untold_can_write s = λ state is. let none = untold s in absurd (cc)

  pub untold_can_peek : (s : Option UnsyncedChange) (p : Path)
      → CanPeek (told_over (told_with (no_kept {F = F}) s w) steps) p
  unfolding CanPeek
  untold_can_peek s p = λ state is. let none = untold s in absurd (cc)

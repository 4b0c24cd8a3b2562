-- What a destination tells where nothing is unsynced, and where a call is refused since something is.
use Rattle.std.proofs.Common.{◌≡◌, ◌∙◌, ℕ, Bool, List, [], true, false, refl, ap, sym, subst, arith, inl, inr}
use Rattle.std.specs.Prelude.{◌≤◌, ◌⊎◌, Option, None, Some, is_some, Result, Ok, Err, OnOk, OnErr}
use Rattle.std.specs.Option.{ForSome, option_map}
use Rattle.std.specs.declared.io.Error.{Error}
use Rattle.pt_tree.specs.Dest.{CanPeek, IsPeeked, LeavesPart, MayMake, MayMove, Writing, added_to, after_append}
use Rattle.pt_tree.specs.Failures.{HasRisen, IsCounted}
use Rattle.pt_tree.specs.Path.{Path}
use Rattle.pt_tree.specs.Tree.{CanMake, CanMove, Tree}
use Rattle.pt_tree.specs.declared.faults.TreeFault.{TreeFault}
use Rattle.pt_tree.specs.declared.faults.TreeFault.TheVariants.{Device, Memory}
use Rattle.pt_folder.specs.DestHeld.{IsBack, told_with}
use Rattle.pt_folder.specs.DestLaws.{Kept, PeekLaw}
use Rattle.pt_folder.specs.Failure.{OnDevice}
use Rattle.pt_folder.specs.HostDest.{Peeks, told}
use Rattle.pt_folder.specs.UnsyncedChange.{unsynced_by_close}
use Rattle.pt_folder.specs.Writing.{ClosesBy}
use Rattle.pt_folder.specs.declared.dest.HostDest.{HostDest}
use Rattle.pt_folder.specs.declared.unsynced_change.UnsyncedChange.{UnsyncedChange}
use Rattle.pt_folder.specs.declared.system.Handle.{Ghosts as OfHandle}
use Rattle.pt_folder.specs.declared.system.Input.{Ghosts as OfInput}
use Rattle.pt_folder.specs.declared.system.System.{Ghosts as OfSystem}
use Rattle.pt_folder.specs.declared.writing.FileInWriting.{FileInWriting as Open}
use Rattle.pt_folder.proofs.DestTold.{may_make, may_move}
use Rattle.pt_folder.proofs.PeekTold.{peek_tells}
use Rattle.pt_tree.proofs.AtPaths.{added-nil}

-- ---- nothing is unsynced

pub none_unsynced : (o : Option UnsyncedChange) → is_some o ≡ false → o ≡ None
none_unsynced None is = refl
none_unsynced (Some s) is = absurd (cc)

pub none_back : {F : Type 0} (kept : Kept F) (o : Option UnsyncedChange) → o ≡ None → ForSome o (IsBack kept)
none_back kept o none = λ s is. absurd (cc)

pub kept_free : {T : Type 0} (r : Result T TreeFault) (o : Option UnsyncedChange) (P Q : Type 0) → o ≡ None → OnDevice r Q → OnDevice r (P ⊎ ((o ≡ None) × Q))
kept_free (Ok x) o P Q none kept = tt
kept_free (Err Memory) o P Q none kept = tt
kept_free (Err Device) o P Q none kept = inr (none, kept)

-- ---- something is unsynced only where the device failed

pub none_risen : (n : ℕ) (o : Option UnsyncedChange) → o ≡ None → ForSome o (λ _. 1 ≤ n)
none_risen n o none = λ s is. absurd (cc)

pub device_risen : (before after : ℕ) (o : Option UnsyncedChange) (result : Result (Unit {0}) TreeFault) → IsCounted before after result
    → ForSome o (λ _. result ≡ Err Device) → ForSome o (λ _. 1 ≤ after)
device_risen before after o result counted device = λ s is.
    let risen : HasRisen before after = subst (IsCounted before after) (device s is) counted in
    omega (arith, risen)

module _ {F : Type 0} (kept : Kept F) (s : Option UnsyncedChange) (w : Option (Open F)) (none : s ≡ None) where
  pub may_make_free : (p : Path) → MayMake (told_with kept s w) p → ForSome kept.tree (λ t. CanMake t p)
  may_make_free p can = may_make w kept.tree p (subst (λ s. MayMake (told_with kept s w) p) none can)

  pub may_move_free : (from to : Path) → MayMove (told_with kept s w) from to → ForSome kept.tree (λ t. CanMove t from to)
  may_move_free from to can = may_move w kept.tree from to (subst (λ s. MayMove (told_with kept s w) from to) none can)

-- where nothing is to be put onto the disk, nothing is unsynced after a file is closed
module _ {F : Type 0} (syncs : F → Result (Unit {0}) Error → F → Type 0) where
  closed_wanted : (synced : Bool) (w : Option (Open F)) (result : Result (Unit {0}) TreeFault) → ClosesBy syncs synced w result
      → ForSome (unsynced_by_close None w result) (λ _. synced ≡ true)
  closed_wanted true w result closed = λ s at. refl
  closed_wanted false None result closed = λ s at. absurd (cc)
  closed_wanted false (Some w) (Ok x) closed = λ s at. absurd (cc)
  closed_wanted false (Some w) (Err e) closed = absurd (cc)

  pub finish_wanted : (synced : Bool) (w : Option (Open F)) (result : Result (Unit {0}) TreeFault) (before after : Option UnsyncedChange) → before ≡ None
      → after ≡ unsynced_by_close before w result → ClosesBy syncs synced w result
      → ForSome after (λ _. synced ≡ true)
  finish_wanted synced w result before after none is closed =
      subst (λ o. ForSome o (λ _. synced ≡ true)) (sym (is ∙ ap (λ s. unsynced_by_close s w result) none)) (closed_wanted synced w result closed)

-- ---- something may be

-- a call that did nothing leaves a part of its piece: none of it
part_of_nothing : (o : Option Writing) (piece : List ℕ) → LeavesPart o o piece
part_of_nothing o piece = record { count = 0; left = by o }
  where
    same : (t : Tree) (p : Option Path) → let s : Writing = record { tree = t; writing = p } in s ≡ record { tree = added_to t p []; writing = p }
    same t None = refl
    same t (Some p) = ap (λ u. record { tree = u; writing = Some p }) (sym (added-nil t p))

    by : (o : Option Writing) → o ≡ option_map (after_append []) o
    by None = refl
    by (Some s) = ap Some (same s.tree s.writing)

module _ {S F D : Type 0} {sys : OfSystem S F D} {handle : OfHandle F} {file : OfInput F} {dir : OfInput D} (old new : HostDest S F D sys handle file dir) where
  pub told_same : new.folder ≡ old.folder → new.syscalls.system ≡ old.syscalls.system → new.writing ≡ old.writing → new.unsynced ≡ old.unsynced
      → told new ≡ told old
  told_same folder system writing unsynced = λ i. told_with (sys.kept (system i) (folder i).path.now) (unsynced i) (writing i)

  pub part_refused : (piece : List ℕ) (result : Result (Unit {0}) TreeFault) → told new ≡ told old → OnErr result (LeavesPart (told old) (told new) piece)
  part_refused piece (Ok x) same = tt
  part_refused piece (Err e) same = subst (λ o. LeavesPart (told old) o piece) (sym same) (part_of_nothing (told old) piece)

  pub block_peeked : PeekLaw sys.kept file.left sys.opens → (p : Path) (block : List ℕ) (result : Result (Unit {0}) TreeFault) → CanPeek (told old) p
      → Peeks old new p block result → OnOk result (IsPeeked (told old) p block)
  block_peeked law p block result can (inl refused) = subst (λ r. OnOk r (IsPeeked (told old) p block)) (sym refused.4) tt
  block_peeked law p block result can (inr (none, asked)) =
      let kept = sys.kept old.syscalls.system old.folder.path.now in
      subst (λ s. OnOk result (IsPeeked (told_with kept s old.writing) p block)) (sym none)
      (peek_tells sys.kept old.folder.path.now file.left file.reads sys.opens law old.syscalls.system new.syscalls.system p block old.writing
      (subst (λ s. CanPeek (told_with kept s old.writing) p) none can) result asked)

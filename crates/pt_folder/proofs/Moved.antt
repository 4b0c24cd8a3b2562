-- What is asked for a move that is ready, and what is kept of it.
use Rattle.std.proofs.Common.{◌≡◌, ◌∙◌, ℕ, List, ap, sym, subst, inl, inr}
use Rattle.std.specs.Prelude.{Bool, true, false, Option, Some, None, IsSomeAnd, Result, Ok, Err, MatchOption, MatchResult, string_bytes}
use Rattle.std.specs.Result.{IsErrAnd}
use Rattle.std.specs.declared.io.Error.{Error}
use Rattle.pt_tree.specs.Path.{Path}
use Rattle.pt_tree.specs.declared.faults.TreeFault.{TreeFault}
use Rattle.pt_tree.specs.declared.faults.TreeFault.TheVariants.{Device, Memory}
use Rattle.pt_folder.specs.Calls.{change_of, fault_of}
use Rattle.pt_folder.specs.Failure.{IsOfCall, OnDevice}
use Rattle.pt_folder.specs.Folder.{entry_text}
use Rattle.pt_folder.specs.Moving.{AfterMove, FailsToSync, FolderMove, IsGone, IsOfGoing, IsOfMove, IsReady, IsSynced, MovesOnce}
use Rattle.pt_folder.specs.UnsyncedChange.{move_to_sync, unsynced_after, unless_done}
use Rattle.pt_folder.specs.declared.failure.Failure.{Failure}
use Rattle.pt_folder.specs.declared.moving.ReadyMove.{ReadyMove}
use Rattle.pt_folder.specs.declared.system.System.{Ghosts as OfSystem}
use Rattle.pt_folder.specs.declared.unsynced_change.UnsyncedChange.{UnsyncedChange}
use Rattle.pt_folder.specs.declared.unsynced_change.UnsyncedChange.TheVariants as unsynced

module _ {S F D : Type 0} (sys : OfSystem S F D) (syncs : F → Result (Unit {0}) Error → F → Type 0) (ready : ReadyMove) (old new : S) where
  -- a directory that could not be put onto the disk is kept as a part of the move
  pub kept_sync : (mid : S) (text : List ℕ) (r : Result (Unit {0}) TreeFault) (fault : TreeFault) (last : Option Failure) → IsErrAnd r (λ y. y ≡ fault)
      → text ≡ string_bytes ready.holder
      → OnDevice {T = Unit {0}} (Err fault) (IsSomeAnd last (IsOfCall text (FailsToSync sys.opens syncs text mid new)))
      → OnDevice r (IsSomeAnd last (IsOfGoing sys syncs ready (change_of old new)))
  kept_sync mid text (Ok x) fault last bad is kept = tt
  kept_sync mid text (Err Memory) fault last same is kept = tt
  kept_sync mid text (Err Device) fault last same is kept =
      go last (subst (λ f. OnDevice {T = Unit {0}} (Err f) (IsSomeAnd last (IsOfCall text (FailsToSync sys.opens syncs text mid new)))) (sym same) kept)
    where
      go : (o : Option Failure) → IsSomeAnd o (IsOfCall text (FailsToSync sys.opens syncs text mid new))
          → IsSomeAnd o (IsOfGoing sys syncs ready (change_of old new))
      go None k = absurd k
      go (Some f) k = inr (mid, subst (λ t. IsOfCall t (FailsToSync sys.opens syncs t mid new) f) is k)

  module _ (synced : Bool) (folder : List ℕ) (p q : Path) (is : IsReady synced folder p q ready) where
    abbrev moved : FolderMove
    moved = record { folder = folder; from = p; to = q; synced = synced }

    pub kept_move : (result : Result (Unit {0}) TreeFault) (last : Option Failure)
        → OnDevice result (IsSomeAnd last (IsOfGoing sys syncs ready (change_of old new)))
        → OnDevice result (IsSomeAnd last (IsOfMove sys syncs moved (change_of old new)))
    kept_move (Ok x) last kept = tt
    kept_move (Err Memory) last kept = tt
    kept_move (Err Device) None kept = absurd kept
    kept_move (Err Device) (Some f) (inl call) =
        let asked = subst (λ a. IsOfCall (string_bytes ready.to) (λ e. sys.renames old a (string_bytes ready.to) (Err e) new) f) is.from call in
        inl (inr (subst (λ b. IsOfCall b (λ e. sys.renames old (entry_text folder p) b (Err e) new) f) is.to asked))
    kept_move (Err Device) (Some f) (inr (mid, call)) = inr (mid, subst (λ t. IsOfCall t (FailsToSync sys.opens syncs t mid new) f) is.holder call)

    -- what came after it, by what it is while its directory isn't put onto the disk
    abbrev Done : S → Option UnsyncedChange → Result (Unit {0}) TreeFault → Option UnsyncedChange → Type 0
    Done mid after result left =
        MatchOption left ((new ≡ mid) × (result ≡ Ok tt) × (after ≡ None)) (λ s. IsSynced sys.opens syncs (string_bytes ready.holder) mid new result
        × (after ≡ unless_done s result))

    done : (mid : S) (after : Option UnsyncedChange) (result : Result (Unit {0}) TreeFault) (synced : Bool) → Done mid after result (move_to_sync synced p q)
        → AfterMove sys.opens syncs synced (entry_text folder q) mid new result × (after ≡ unless_done (unsynced.Moved p q) result)
    done mid after result true gives = (subst (λ t. IsSynced sys.opens syncs t mid new result) is.holder gives.0, gives.1)
    done mid after result false gives = ((gives.0, gives.1), gives.2 ∙ sym (ap (unless_done (unsynced.Moved p q)) gives.1))

    pub move_gone : (before after : Option UnsyncedChange) (result : Result (Unit {0}) TreeFault) → before ≡ None
        → IsGone sys syncs ready (change_of old new) (change_of before after) result → MovesOnce sys syncs moved (change_of old new) after result
    move_gone before after result none gone = inr (record {
      reply = gone.reply;
      mid = gone.mid;
      filled = is.filled;
      named = is.named;
      made = subst (λ b. sys.renames old (entry_text folder p) b gone.reply gone.mid) is.to
          (subst (λ a. sys.renames old a (string_bytes ready.to) gone.reply gone.mid) is.from gone.made);
      gives = (by gone.reply gone.gives).0;
      left_unsynced = (by gone.reply gone.gives).1;
    })
      where
        by : (reply : Result (Unit {0}) Error) → MatchResult reply (λ _. Done gone.mid after result ready.left) (λ e. (new ≡ gone.mid)
            × (result ≡ Err (fault_of e)) × (after ≡ before))
            → MatchResult reply (λ _. AfterMove sys.opens syncs synced (entry_text folder q) gone.mid new result) (λ e. (new ≡ gone.mid)
            × (result ≡ Err (fault_of e))) × (after ≡ unsynced_after reply (unsynced.Moved p q) result)
        by (Ok x) gives = done gone.mid after result synced (subst (Done gone.mid after result) is.left gives)
        by (Err e) gives = ((gives.0, gives.1), gives.2 ∙ none)

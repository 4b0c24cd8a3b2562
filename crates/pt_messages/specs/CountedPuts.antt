-- What a log is given piece by piece, and how its lines are counted since.
use Rattle.std.specs.Io.KnownBytes.{Appends}
use Rattle.std.specs.Prelude.{◌≡◌, ℕ, List, [], ◌∷◌, Option, OnErr, OnOk, Result, Ok, Err, if◌then◌else◌}
use Rattle.std.specs.Str.{is_utf8}
use Rattle.pt_messages.specs.LineCounts.{with_line}
use Rattle.pt_messages.specs.declared.counted.CountedLog.{CountedLog}
use Rattle.pt_messages.specs.declared.counted.LineCounts.{LineCounts}
use Rattle.pt_tree.specs.Failures.{IsCounted}
use Rattle.pt_tree.specs.Log.{AppendsFront}
use Rattle.pt_tree.specs.declared.faults.TreeFault.{TreeFault}

-- a piece that a log was asked to put, and the answer
abbrev pub Put : Type 0
Put = List ℕ × Result (Unit {0}) TreeFault

-- the counts after a piece: with one more line, where that is a text
abbrev pub with_piece : List ℕ → LineCounts → LineCounts
with_piece piece counts = if is_utf8 piece then with_line piece counts else counts

-- and after a call: with the piece, where that was put
abbrev pub after_put : Put → LineCounts → LineCounts
after_put (piece, Ok _) counts = with_piece piece counts
after_put (piece, Err _) counts = counts

-- and after these calls, one after the other
abbrev pub counts_after : List Put → LineCounts → LineCounts
counts_after [] counts = counts
counts_after (put ∷ more) counts = counts_after more (after_put put counts)

module _ {L : Type 0} (told : L → Option (List ℕ)) (failed : L → ℕ) (keeps : L → L → Type 0) where
  -- a log took a piece, or didn't, as each does (`Log` of pt_tree)
  pub record TakesPiece (put : Put) (old new : L) : Type 0 where
    pub ok : OnOk put.1 (Appends (told old) (told new) put.0)
    pub part : OnErr put.1 (AppendsFront (told old) (told new) put.0)
    pub failures : IsCounted (failed old) (failed new) put.1
    pub stays : keeps old new

  -- and these, one after the other
  abbrev pub TakesPieces : List Put → L → L → Type 0
  TakesPieces [] old new = new ≡ old
  TakesPieces (put ∷ more) old new = (mid : L) × TakesPiece put old mid × TakesPieces more mid new

  -- a log took pieces, and just of these the lines were counted, where they are
  abbrev pub CountsPieces : CountedLog L → CountedLog L → Type 0
  CountsPieces old new = (puts : List Put) × TakesPieces puts old.log new.log × (new.counting ≡ old.counting)
      × (new.counts ≡ (if old.counting then counts_after puts old.counts else old.counts))

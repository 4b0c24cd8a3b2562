-- The input of a machine, and what is read beside it.
use Rattle.std.specs.Prelude.{ℕ, List, Option}
use Rattle.clap.specs.Words.{Text}
use Rattle.pt_messages.specs.Reading.{FileWords}

-- what a machine's input may be as it is asked for, and how that leaves the machine; and the bytes that it has left, where it tells them
pub record InputWords (H : Type 0) : Type 1 where
  pub Input : Type 0
  pub gives : H → Input → H → Type 0
  pub remaining : Input → Option (List ℕ)

-- what is asked for beside what a machine lends: a log whose lines are expected, a list's file, and its input
pub record Beside (H : Type 0) : Type 1 where
  pub asks : Option Text → Type 0
  pub files : FileWords
  pub input : InputWords H

-- these three as one
abbrev pub beside : {H : Type 0} → (Option Text → Type 0) → FileWords → InputWords H → Beside H
beside asks files input = record { asks = asks; files = files; input = input }

use Rattle.std.proofs.Common.{◌≡◌, ◌+◌, ℕ, List, ◌++◌, length, string_bytes}
use Rattle.std.proofs.Math.Utf8.{encodes}
use Rattle.std.specs.Str.{chars}
use Rattle.pt_messages.specs.Escaped.{escaped, escaped_from}
use Rattle.pt_messages.proofs.shown.escape.Given as goal

-- what is shown so far, with what the characters that are left come to, is the whole; they stand at this byte
abbrev pub invariant-loop-c : goal.invariant-loop-c
invariant-loop-c l = (rest : List ℕ) → l.yielded ++ rest ≡ chars l.fn.text
    → (string_bytes l.shown ++ escaped_from l.begin l.end l.at rest ≡ escaped l.fn.text) × (l.at + length (encodes rest) ≡ length l.fn.text)

use Rattle.std.proofs.Common.{◌≡◌, ℕ, List, ◌++◌, string_bytes, take}
use Rattle.std.proofs.Math.Utf8.{encodes}
use Rattle.std.specs.Str.{chars}
use Rattle.pt_messages.proofs.progress.first_of.Given as goal

-- what is written so far, with as many more of the characters that are left as may come, is the whole
abbrev pub invariant-loop-c : goal.invariant-loop-c
invariant-loop-c l = (rest : List ℕ) → l.yielded ++ rest ≡ chars l.fn.line
    → string_bytes l.text ++ encodes (take l.left rest) ≡ encodes (take l.fn.most (chars l.fn.line))

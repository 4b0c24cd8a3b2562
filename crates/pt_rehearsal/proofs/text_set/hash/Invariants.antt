use Rattle.std.proofs.Common.{◌≡◌, take}
use Rattle.std.specs.List.{fold}
use Rattle.pt_rehearsal.specs.Buckets.{hash_step}
use Rattle.pt_rehearsal.proofs.text_set.hash.Given as goal

-- the hash of the bytes so far
abbrev pub invariant-loop-byte : goal.invariant-loop-byte
invariant-loop-byte l = l.hash ≡ fold hash_step 14695981039346656037 (take l.byte-index l.text)

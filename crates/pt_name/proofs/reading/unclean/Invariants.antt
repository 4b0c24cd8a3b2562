use Rattle.std.proofs.Common.{◌≡◌, ◌++◌, length, option_map}
use Rattle.pt_name.specs.Reading.{reading_of}
use Rattle.pt_name.proofs.reading.unclean.Given as goal

-- the bytes so far, before what the rest reads, are what the text reads
abbrev pub invariant-loop-rest : goal.invariant-loop-rest
invariant-loop-rest l = option_map (λ bytes. l.bytes.items ++ bytes) (reading_of l.rest) ≡ reading_of l.text

abbrev pub decreases-loop-rest : goal.decreases-loop-rest
decreases-loop-rest l = length l.rest

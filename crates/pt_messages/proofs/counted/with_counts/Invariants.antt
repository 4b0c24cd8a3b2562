use Rattle.std.proofs.Common.{◌≡◌, length, take}
use Rattle.pt_messages.specs.Counts.{put_counts}
use Rattle.pt_messages.specs.Members.{members_of}
use Rattle.pt_messages.proofs.PutCounts.{pairs}
use Rattle.pt_messages.proofs.counted.with_counts.Given as goal

-- the pairs so far were put
abbrev pub invariant-loop-word : goal.invariant-loop-word
invariant-loop-word l = members_of l.members ≡ put_counts (take (length l.yielded) (pairs l.words l.counts)) (members_of l.fn.members)

use Rattle.std.proofs.Common.{length, ◌-◌, ◌≡◌, ◌≤◌, ◌+◌, drop}
use Rattle.std.specs.List.{prefix_len}
use Rattle.pt_extra.specs.Tokens.{is_inner}
use Rattle.pt_extra.proofs.words.word_len.Given as goal

abbrev pub invariant-bytes : goal.invariant-bytes
invariant-bytes l = (prefix_len is_inner l.text ≡ l.len + prefix_len is_inner (drop l.len l.text)) × (l.len ≤ length l.text)

abbrev pub decreases-bytes : goal.decreases-bytes
decreases-bytes l = length l.text - l.len

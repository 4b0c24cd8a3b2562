use Rattle.std.proofs.Common.{length, ◌-◌, ◌≡◌, ◌≤◌, ◌+◌, drop}
use Rattle.std.specs.Char.{is_ascii_digit}
use Rattle.std.specs.List.{prefix_len}
use Rattle.pt_extra.proofs.words.digits_len.Given as goal

abbrev pub invariant-digits : goal.invariant-digits
invariant-digits l = (prefix_len is_ascii_digit l.text ≡ l.len + prefix_len is_ascii_digit (drop l.len l.text)) × (l.len ≤ length l.text)

abbrev pub decreases-digits : goal.decreases-digits
decreases-digits l = length l.text - l.len

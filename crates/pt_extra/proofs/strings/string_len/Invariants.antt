use Rattle.std.proofs.Common.{◌≡◌, ◌-◌, ◌≤◌, drop, length}
use Rattle.std.specs.Prelude.{is_some}
use Rattle.json.specs.Lex.{in_string, lex}
use Rattle.json.specs.Text.{content, plain}
use Rattle.pt_extra.proofs.strings.string_len.Given as goal

abbrev pub invariant-parts : goal.invariant-parts
invariant-parts l =
    (is_some (content plain l.text) ≡ is_some (content plain (drop l.at l.text))) × (lex in_string l.text ≡ lex in_string (drop l.at l.text))
    × (l.at ≤ length l.text)

abbrev pub decreases-parts : goal.decreases-parts
decreases-parts l = length l.text - l.at

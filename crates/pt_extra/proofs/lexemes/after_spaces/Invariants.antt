use Rattle.std.proofs.Common.{◌≡◌, ◌-◌, ◌≤◌, drop, length}
use Rattle.json.specs.Lex.{between, lex}
use Rattle.pt_extra.proofs.lexemes.after_spaces.Given as goal

abbrev pub invariant-spaces : goal.invariant-spaces
invariant-spaces l = (lex between l.text ≡ lex between (drop l.at l.text)) × (l.at ≤ length l.text)

abbrev pub decreases-spaces : goal.decreases-spaces
decreases-spaces l = length l.text - l.at

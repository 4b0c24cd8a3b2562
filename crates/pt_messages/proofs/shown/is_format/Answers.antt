use Rattle.std.proofs.Common.{◌∙◌, arith, sym, ℕ}
use Rattle.std.specs.Int.{is_in_range}
use Rattle.pt_messages.proofs.Escaping.{past_one}
use Rattle.pt_messages.proofs.shown.is_format.Goals as goal
use Rattle.pt_messages.specs.Escaped.{formats}

pub loop-range-preserved : goal.loop-range-preserved
loop-range-preserved c =
    past_one (λ (range : ℕ × ℕ). is_in_range range.0 range.1 c.args.c) formats c.loop-range.range-index _ (omega arith)
    (sym (rw c.from.ensures at c.if-is_between.ensures)) ∙ c.loop-range.invariant

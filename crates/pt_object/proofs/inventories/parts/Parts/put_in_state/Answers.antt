use Rattle.std.proofs.Common.{arith}
use Rattle.std.proofs.lemmas.List.{length-drop}
use Rattle.pt_object.proofs.Puts.{state_ended, state_on}
use Rattle.pt_object.proofs.inventories.parts.Parts.put_in_state.Goals as goal

pub returns-then-count-left : goal.returns-then-count-left
returns-then-count-left c =
    state_on c.args.self.now c.args.here c.in-State.place c.min-count.result _ _ c.in-State.is c.requires.ordered.as_long
    (omega (arith, c.if-count-left.true, c.saturating_sub-left.ensures, length-drop c.in-State.place c.args.self.now.items.now))
    (omega (arith, c.if-count-left.true, c.min-count.ensures)) c.in_ok-put_grouped.ensures

pub returns : goal.returns
returns c =
    state_ended c.args.self.now c.args.here c.in-State.place c.min-count.result _ _ _ c.in-State.is c.requires.ordered.as_long
    (omega (arith, c.if-count-left.false, c.saturating_sub-left.ensures, length-drop c.in-State.place c.args.self.now.items.now)) c.in_ok-put_grouped.ensures
    c.in_ok-put_back.ensures

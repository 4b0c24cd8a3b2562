use Rattle.std.proofs.Common.{sym, ap, ◌∙◌}
use Rattle.std.specs.Prelude.{not}
use Rattle.pt_memory.specs.MemDest.{dest_state}
use Rattle.pt_memory.proofs.Conditions.{may_move, nothing_moves, stays_apart}
use Rattle.pt_memory.proofs.Planted.{none_there}
use Rattle.pt_memory.proofs.mem_dest.MemDest.may_move.Goals as goal

pub returns : goal.returns
returns c =
    may_move (dest_state c.args.self.now).told c.args.from.now c.args.to.now c.kind_in.result c.refusal.result _ c.is_none-2.ensures c.refusal.ensures
    c.kind_in.ensures
    (c.is_none.ensures ∙ ap not c.if-is_none.false) (none_there _ (sym c.is_within.ensures ∙ c.if-is_within.false))

pub returns-then-is_within : goal.returns-then-is_within
returns-then-is_within c = stays_apart (dest_state c.args.self.now).told c.args.from.now c.args.to.now (sym c.is_within.ensures ∙ c.if-is_within.true)

pub returns-then-is_none : goal.returns-then-is_none
returns-then-is_none c =
    nothing_moves (dest_state c.args.self.now).told c.args.from.now c.args.to.now c.kind_in.result c.kind_in.ensures (c.is_none.ensures
    ∙ ap not c.if-is_none.true)

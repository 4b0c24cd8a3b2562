use Rattle.std.proofs.Common.{arith}
use Rattle.pt_extra.proofs.Spelled.{no_shorter}
use Rattle.pt_extra.proofs.spelling.spell_between.Goals as goal

pub widen-requires : goal.widen-requires
widen-requires c = omega (arith, no_shorter c.deref.result.now, c.in-Some.ensures.end)

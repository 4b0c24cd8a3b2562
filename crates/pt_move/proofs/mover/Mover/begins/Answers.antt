use Rattle.pt_move.proofs.Answering.{begun_seen}
use Rattle.pt_move.proofs.mover.Mover.begins.Goals as goal

pub returns : goal.returns
returns g c = begun_seen c.args.self.now _ _ c.self.view_is c.requires c.self.invariant c.count.ensures.layout
    (record { source = g.met.O.Io.proper c.args.out.now; dest = g.met.O.Io.is_tree c.args.out.now })

use Rattle.std.proofs.Common.{arith, rules}
use Rattle.pt_make.proofs.RootTurns.{no_configuration}
use Rattle.pt_make.proofs.root.check_configuration.Goals as goal

pub returns-then-not-branch : goal.returns-then-not-branch
returns-then-not-branch g c = record {
  turn = record {
    turn = no_configuration c.args.state.now _ _ c.args.path.now c.args.bytes.now c.requires.here.is (c.in_ok-has_folders.ensures.lacks (search rules))
        c.in_ok-has_folders.ensures.stays;
    few = g.met.O.Io.most _ _ 0 0 2 4 c.has_folders.ensures.few (omega arith) (omega arith);
    unmet = tt;
  };
}

pub returns : goal.returns
returns g c = record {
  turn = record {
    turn = rw c.in_ok-has_folders.ensures.stays at c.compare.ensures.turn.turn;
    few = g.met.O.Io.more _ _ _ 0 0 2 2 c.has_folders.ensures.few c.compare.ensures.turn.few;
    unmet = c.compare.ensures.turn.unmet;
  };
}

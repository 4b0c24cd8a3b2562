use Rattle.std.proofs.Common.{rules, refl}
use Rattle.pt_state.proofs.Together.{looked_then}
use Rattle.pt_state.proofs.Turns.{stayed}
use Rattle.pt_make.proofs.RootTurns.{starting}
use Rattle.pt_make.proofs.root.compare.Goals as goal

pub returns-in_err-peek : goal.returns-in_err-peek
returns-in_err-peek g c = record {
  turn = record {
    turn = stayed _ _ _ _ _ c.in_err-peek.field-0.0 _ (search rules) (looked_then _ _ _ _ _ _ c.in_ok-here.ensures.did c.in_err-peek.ensures.failed)
        (search (rules, starting));
    few = g.met.O.Io.more _ _ _ 0 0 1 1 c.kind.ensures.few c.peek.ensures.few;
    unmet = search rules;
  };
}

pub returns-then-ne : goal.returns-then-ne
returns-then-ne g c = record {
  turn = record {
    turn = search (rules, starting);
    few = g.met.O.Io.more _ _ _ 0 0 1 1 c.kind.ensures.few c.peek.ensures.few;
    unmet = tt;
  };
}

pub returns : goal.returns
returns g c = record {
  turn = record {
    turn = search (rules, starting);
    few = g.met.O.Io.more _ _ _ 0 0 1 1 c.kind.ensures.few c.peek.ensures.few;
    unmet = refl;
  };
}

use Rattle.std.proofs.Common.{rules, refl}
use Rattle.pt_state.proofs.Together.{looked_then}
use Rattle.pt_state.proofs.Turns.{keeps_same, stayed, turns}
use Rattle.pt_make.proofs.Places.{placing}
use Rattle.pt_make.proofs.placing.enter_tuple.Goals as goal

pub returns-in_err-mkdir-in-None : goal.returns-in_err-mkdir-in-None
returns-in_err-mkdir-in-None g c = record {
  turn = record {
    turn = stayed _ _ _ _ _ c.in_err-mkdir-in-None.field-0.0 _ (search rules)
        (looked_then _ _ _ _ _ _ c.in_ok-kind.ensures.did c.in_err-mkdir-in-None.ensures.failed) keeps_same;
    few = g.met.O.Io.still _ _ _ _ _ c.kind.ensures.few c.mkdir.ensures.few;
    unmet = search rules;
  };
}

pub returns-in_ok-mkdir-in-None : goal.returns-in_ok-mkdir-in-None
returns-in_ok-mkdir-in-None g c = record {
  turn = record {
    turn = search (rules, placing, turns);
    few = g.met.O.Io.still _ _ _ _ _ c.kind.ensures.few c.mkdir.ensures.few;
    unmet = refl;
  };
}

use Rattle.pt_name.proofs.Identified.{on_ok}
use Rattle.pt_state.proofs.Turns.{turned_unmet}
use Rattle.pt_scan.proofs.store.begin.Goals as goal

pub returns : goal.returns
returns g c = record {
  turn = record {
    turn = turned_unmet _ _ _ c.in_ok-state.field-0 _ _ _ (c.look_at_store.ensures.turn _);
    few = c.look_at_store.ensures.few;
    unmet = on_ok c.look_at_store.result c.in_ok-state.ensures;
  };
}

use Rattle.std.proofs.Common.{◌≡◌, arith, le_refl, rules}
use Rattle.pt_move.proofs.Answering.{goes_on_halted, making_turn, stepping}
use Rattle.pt_move.proofs.Keeping.{answered, keeps_after, outcomes}
use Rattle.pt_move.specs.Stepping.{StepLeaves}
use Rattle.pt_move.proofs.mover.Mover.advance.Goals as goal

-- where the turn halted the run: `keeps` by Keeping.antt (`keeps_halted`, after `keeps_after`), `goes_on`, `steps` and `stays` by Answering.antt
-- (`goes_on_halted`, and `err_answer`, `err_blames`, `leaves_halted`, `turned_halted` and `err_stays` of its list `stepping`), `calls` by what the turn
-- promises
pub returns-in_err-next : goal.returns-in_err-next
returns-in_err-next g c = record {
  step = record {
    keeps = search (rules, stepping, answered, outcomes);
    goes_on = goes_on_halted _ _ _ _ _ _ c.in_err-next.field-0.0 (search rules) (search rules)
        (keeps_after _ _ _ _ _ _ (search (rules, making_turn)) c.in_err-next.ensures.turn.turn);
    steps = record {
      answer = search (rules, stepping, making_turn);
      blames = search (rules, stepping, making_turn);
      leaves = search (rules, stepping, making_turn, outcomes);
      turn = search (rules, stepping);
      unmet = search rules;
    };
  };
  calls = let same : c.replace.result ≡ c.args.self.now.phase = search rules in
      g.met.O.Io.most _ _ _ _ _ _ c.in_err-next.ensures.turn.few (search (rules, making_turn)) (rw same (le_refl _));
  stays = search (rules, stepping);
}

-- where there is more to do: `keeps` by Keeping.antt (`keeps_more`), `goes_on` and `steps` by Answering.antt (`goes_on_after`, and `ok_blames`,
-- `leaves_more` and `turned_more` of its list), `calls` by what the turn promises
pub returns-in_default-2 : goal.returns-in_default-2
unfolding StepLeaves
returns-in_default-2 g c = record {
  step = record {
    keeps = search (rules, stepping, answered, outcomes);
    goes_on = search (rules, stepping, outcomes);
    steps = record {
      answer = search (rules, stepping);
      blames = search (rules, stepping, making_turn);
      leaves = search (rules, stepping, making_turn, outcomes);
      turn = search (rules, stepping);
      unmet = search rules;
    };
  };
  calls = let same : c.replace.result ≡ c.args.self.now.phase = search rules in
      g.met.O.Io.most _ _ _ _ _ _ c.turn.ensures.turn.few (search (rules, making_turn)) (rw same (le_refl _));
  stays = search (rules, stepping);
}

-- where it was the last turn: `keeps` by Keeping.antt (`keeps_finished`), the others as where there is more to do
pub returns-in-Ended-2 : goal.returns-in-Ended-2
unfolding StepLeaves
returns-in-Ended-2 g c = record {
  step = record {
    keeps = search (rules, stepping, answered, outcomes);
    goes_on = search (rules, stepping, outcomes);
    steps = record {
      answer = search (rules, stepping);
      blames = search (rules, stepping, making_turn);
      leaves = search (rules, stepping, making_turn, outcomes);
      turn = search (rules, stepping);
      unmet = search rules;
    };
  };
  calls = let same : c.replace.result ≡ c.args.self.now.phase = search rules in
      g.met.O.Io.most _ _ _ _ _ _ c.turn.ensures.turn.few (search (rules, making_turn)) (rw same (le_refl _));
  stays = search (rules, stepping);
}

-- at the limit nothing is called
pub returns-then-self-turns-clause-calls : goal.returns-then-self-turns-clause-calls
returns-then-self-turns-clause-calls g c = g.met.O.Io.most _ _ _ _ _ _ (g.met.O.Io.none _) (omega arith) (omega arith)

use Rattle.std.proofs.Common.{rules}
use Rattle.pt_state.proofs.Turns.{turns}
use Rattle.pt_scan.proofs.Judged.{judging}
use Rattle.pt_scan.proofs.judging.find_place.Goals as goal

pub returns-in_err-put_present-in-Some : goal.returns-in_err-put_present-in-Some
returns-in_err-put_present-in-Some g c = record {
  turn = record {
    turn = λ here at. rw at (search (rules, judging, turns));
    few = g.met.O.Io.still _ _ _ _ _ c.kind_at.ensures.few c.put_present.ensures.few;
    unmet = search rules;
  };
}

pub returns-in_ok-put_present-in-Some : goal.returns-in_ok-put_present-in-Some
returns-in_ok-put_present-in-Some g c = record {
  turn = record {
    turn = λ here at. rw at (search (rules, judging, turns));
    few = g.met.O.Io.still _ _ _ _ _ c.kind_at.ensures.few c.put_present.ensures.few;
    unmet = search rules;
  };
}

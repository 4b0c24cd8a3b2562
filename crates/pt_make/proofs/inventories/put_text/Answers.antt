use Rattle.std.proofs.Common.{rules}
use Rattle.std.proofs.lemmas.Result.{IfErr-weaker, on_ok_weaker}
use Rattle.pt_make.proofs.Pieces.{all_put, answers_with, can_write_on, none_taken, one_more_piece, stopped, stopped_short, stopped_within, taken}
use Rattle.pt_make.proofs.inventories.put_text.Goals as goal

pub append-requires : goal.append-requires
append-requires g c = can_write_on _ _ _ _ _ _ _ c.loop-text.invariant.put

pub finish-requires : goal.finish-requires
finish-requires g c = can_write_on _ _ _ _ _ _ _ c.loop-text.invariant.put

pub loop-text-preserved : goal.loop-text-preserved
loop-text-preserved g c = record {
  put = one_more_piece _ _ _ _ _ _ _ _ _ _ _ c.loop-text.invariant.put (taken _ _ _ c.if-branch.true c.in_ok-next.ensures)
      (rw c.piece-piece.ensures at c.in_ok-append.ensures.did) (rw c.piece-piece.ensures at c.feed.ensures);
  few = g.met.O.Io.still _ _ _ _ _ c.loop-text.invariant.few c.append.ensures.few;
}

pub returns-in_err-next-clause-wrote : goal.returns-in_err-next-clause-wrote
returns-in_err-next-clause-wrote g c = record {
  did = search rules;
  left = answers_with _ _ _ c.from_residual-in_err-next.ensures.1 (stopped_short _ _ _ _ _ _ _ c.loop-text.invariant.put);
  few = c.loop-text.invariant.few;
}

pub returns-in_err-append-clause-wrote : goal.returns-in_err-append-clause-wrote
returns-in_err-append-clause-wrote g c = record {
  did = search rules;
  left =
      let next = taken _ _ _ c.if-branch.true c.in_ok-next.ensures in
      answers_with _ _ _ c.from_residual-in_err-append.ensures.1 (stopped_within _ _ _ _ _ _ _ _ _ _ _ c.loop-text.invariant.put next
      (rw c.piece-piece.ensures at c.in_err-append.ensures.left));
  few = g.met.O.Io.still _ _ _ _ _ c.loop-text.invariant.few c.append.ensures.few;
}

pub returns-clause-wrote : goal.returns-clause-wrote
returns-clause-wrote g c = record {
  did = on_ok_weaker _ (all_put _ _ _ _ _ _ _ _ c.loop-text.invariant.put (none_taken _ _ _ c.if-branch.false c.in_ok-next.ensures)) c.finish.ensures.did;
  left = IfErr-weaker _ _ _ (λ f. stopped _ _ _ _ _ _ _ _ f c.loop-text.invariant.put) c.finish.ensures.failed;
  few = g.met.O.Io.still _ _ _ _ _ c.loop-text.invariant.few c.finish.ensures.few;
}

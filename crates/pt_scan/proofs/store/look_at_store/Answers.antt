use Rattle.std.proofs.Common.{arith, rules}
use Rattle.pt_state.proofs.Together.{asked_then}
use Rattle.pt_state.proofs.Turns.{keeps_same, stayed}
use Rattle.pt_scan.proofs.StoreTurns.{is_store, list_top, no_pairtree, no_version}
use Rattle.pt_scan.proofs.store.look_at_store.Goals as goal

pub list-requires-clause-listed : goal.list-requires-clause-listed
list-requires-clause-listed g c = list_top _ _ c.new.ensures

pub returns-in_err-list : goal.returns-in_err-list
returns-in_err-list g c = record {
  turn = λ s. stayed _ _ _ _ _ c.in_err-list.field-0.0 _ (search rules) (asked_then _ _ _ _ _ c.in_ok-version.ensures.did c.in_err-list.ensures.failed)
      keeps_same;
  few = g.met.O.Io.most _ _ 2 3 0 0 (g.met.O.Io.more _ _ _ 1 1 0 0 c.look_at_top.ensures.few c.list-then-not-is_file.ensures.few) (omega arith)
      (omega arith);
}

pub returns-then-not-is_file : goal.returns-then-not-is_file
returns-then-not-is_file g c = record {
  turn = λ s. no_version _ _ _ _ c.in_ok-version.version c.new.result c.in_ok-list.field-0 c.new.ensures c.in_ok-version.ensures.did c.in_ok-list.ensures.did
      (search rules);
  few = g.met.O.Io.most _ _ 2 3 0 0 (g.met.O.Io.more _ _ _ 1 1 0 0 c.look_at_top.ensures.few c.list-then-not-is_file.ensures.few) (omega arith)
      (omega arith);
}

pub returns-in_err-pairtree : goal.returns-in_err-pairtree
returns-in_err-pairtree g c = record {
  turn = λ s. stayed _ _ _ _ _ c.in_err-pairtree.field-0.0 _ (search rules)
      (asked_then _ _ _ _ _ c.in_ok-version.ensures.did c.in_err-pairtree.ensures.failed) keeps_same;
  few = g.met.O.Io.most _ _ 2 3 0 0 (g.met.O.Io.more _ _ _ 1 1 0 0 c.look_at_top.ensures.few c.look_at_top-2.ensures.few) (omega arith)
      (omega arith);
}

pub returns-then-not-is_dir : goal.returns-then-not-is_dir
returns-then-not-is_dir g c = record {
  turn = λ s. no_pairtree _ _ _ _ c.in_ok-version.version c.in_ok-pairtree.pairtree (search rules) c.in_ok-version.ensures.did c.in_ok-pairtree.ensures.did
      (search rules);
  few = g.met.O.Io.most _ _ 2 3 0 0 (g.met.O.Io.more _ _ _ 1 1 0 0 c.look_at_top.ensures.few c.look_at_top-2.ensures.few) (omega arith)
      (omega arith);
}

pub returns-in_err-prefix : goal.returns-in_err-prefix
returns-in_err-prefix g c = record {
  turn = λ s. stayed _ _ _ _ _ c.in_err-prefix.field-0.0 _ (search rules) (asked_then _ _ _ _ _ c.in_ok-version.ensures.did (asked_then _ _ _ _ _
      c.in_ok-pairtree.ensures.did c.in_err-prefix.ensures.failed)) keeps_same;
  few = g.met.O.Io.more _ _ _ 2 1 0 0 (g.met.O.Io.more _ _ _ 1 1 0 0 c.look_at_top.ensures.few c.look_at_top-2.ensures.few)
      c.look_at_top-3.ensures.few;
}

pub returns : goal.returns
returns g c = record {
  turn = λ s. is_store _ _ _ _ _ c.in_ok-version.version c.in_ok-pairtree.pairtree c.in_ok-prefix.prefix (search rules) (search rules)
      c.in_ok-version.ensures.did c.in_ok-pairtree.ensures.did c.in_ok-prefix.ensures.did;
  few = g.met.O.Io.more _ _ _ 2 1 0 0 (g.met.O.Io.more _ _ _ 1 1 0 0 c.look_at_top.ensures.few c.look_at_top-2.ensures.few)
      c.look_at_top-3.ensures.few;
}

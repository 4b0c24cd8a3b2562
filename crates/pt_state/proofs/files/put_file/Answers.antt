use Rattle.std.proofs.Common.{rules}
use Rattle.pt_state.proofs.Together.{together}
use Rattle.pt_state.proofs.files.put_file.Goals as goal

pub returns-in_err-append : goal.returns-in_err-append
returns-in_err-append g c = record {
  did = search rules;
  left = search (rules, together);
  few = g.met.O.Io.still _ _ _ _ _ c.create.ensures.few c.append.ensures.few;
}

pub returns : goal.returns
returns g c = record {
  did = search (rules, together);
  left = search (rules, together);
  few = g.met.O.Io.still _ _ _ _ _ (g.met.O.Io.still _ _ _ _ _ c.create.ensures.few c.append.ensures.few) c.finish.ensures.few;
}

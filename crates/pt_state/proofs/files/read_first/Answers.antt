use Rattle.std.proofs.Common.{rules}
use Rattle.pt_state.proofs.Together.{together}
use Rattle.pt_state.proofs.files.read_first.Goals as goal

pub returns : goal.returns
returns g c = record {
  did = search (rules, together);
  failed = search (rules, together);
  few = g.met.O.Io.more _ _ _ 1 1 0 0 c.open.ensures.few c.next.ensures.few;
}

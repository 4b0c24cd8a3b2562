use Rattle.std.proofs.Common.{rules}
use Rattle.pt_scan.proofs.ScanTurns.{meets_other}
use Rattle.pt_scan.proofs.scanning.scan.Goals as goal

pub returns-in-Other : goal.returns-in-Other
returns-in-Other g c = record {
  turn = record {
    turn = c.pass_object.ensures.turn.turn _ (meets_other _ c.args.object c.in-Some.name.now c.in-Some.kind c.in-Some.ensures c.in-Other.is);
    few = search (rules, g.met.O.Io.most);
    unmet = c.pass_object.ensures.turn.unmet;
  };
}

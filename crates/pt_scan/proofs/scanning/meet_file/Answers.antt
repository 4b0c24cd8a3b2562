use Rattle.std.proofs.Common.{rules}
use Rattle.pt_scan.proofs.ScanTurns.{may_open_entry, path_too_long}
use Rattle.pt_scan.proofs.scanning.meet_file.Goals as goal

pub open-requires-clause-opened : goal.open-requires-clause-opened
open-requires-clause-opened g c = may_open_entry _ _ _ c.requires.may c.requires.file c.in_ok-path.ensures

pub returns-then-is_longer : goal.returns-then-is_longer
returns-then-is_longer g c = record {
  turn = record {
    turn = c.pass_object-then-is_longer.ensures.turn.turn _ (path_too_long _ _ _ _ _ c.is_longer.ensures c.path_bytes.ensures.value
        c.logical_names-logical.ensures c.requires.file c.if-is_longer.true);
    few = search (rules, g.met.O.Io.most);
    unmet = c.pass_object-then-is_longer.ensures.turn.unmet;
  };
}

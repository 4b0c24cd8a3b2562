-- What the functions of the crate are proved by.
use Rattle.pt_scan.proofs.FileTurns.{reading}
use Rattle.pt_scan.proofs.Judged.{judging}
use Rattle.pt_scan.proofs.Leaving.{leaving}
use Rattle.pt_scan.proofs.ObjectPaths.{paths}
use Rattle.pt_scan.proofs.ScanTurns.{scanning}
use Rattle.pt_scan.proofs.SiteTurns.{walking}
use Rattle.pt_state.proofs.Turns.{turns}

pub ruleset scan_rules = (judging, turns, reading, paths, scanning, leaving, walking)

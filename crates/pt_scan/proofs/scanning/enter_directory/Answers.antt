use Rattle.std.proofs.Common.{arith}
use Rattle.pt_scan.proofs.ScanTurns.{entered_next}
use Rattle.pt_scan.proofs.scanning.enter_directory.Goals as goal

pub returns : goal.returns
returns g c =
    let listings = c.len.ensures.len in
    let depth = c.depth.ensures.value in
    let shallow = c.if-len-depth.false in
    record {
      turn = record {
        turn = λ here meets. entered_next here c.args.object _ _ _ _ _ _ (meets.shallow (omega (arith, listings, depth, shallow))) c.in_ok-is_empty.ensures.did
            c.with_directory.ensures;
        few = c.in_ok-is_empty.ensures.few;
        unmet = c.in_ok-is_empty.ensures.did.moved.unmet;
      };
    }

use Rattle.pt_folder.specs.HostDest.{told as told_by}
use Rattle.pt_rehearsal.specs.Seeing.{view}
use Rattle.pt_rehearsal.proofs.Staying.{dest_tree, fits_anew}
use Rattle.pt_rehearsal.proofs.rehearsal.Rehearsal.new.Goals as goal

pub invariant_of-result : goal.invariant_of-result
invariant_of-result g c =
    let dest = c.with_sync.result in
    record {
      fits = fits_anew (told_by dest) (view c.new.result) c.new-2.result.steps c.new.ensures c.new-2.ensures
          (dest_tree dest (g.met.S.System.tree_law dest.syscalls.system dest.folder.path.now));
    }

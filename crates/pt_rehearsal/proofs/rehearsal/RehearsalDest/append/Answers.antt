use Rattle.pt_folder.specs.HostDest.{told as told_by}
use Rattle.pt_rehearsal.specs.Seeing.{view}
use Rattle.pt_rehearsal.proofs.Staying.{fits_piece_added}
use Rattle.pt_rehearsal.proofs.rehearsal.RehearsalDest.append.Goals as goal

pub invariant_of-self : goal.invariant_of-self
invariant_of-self g c =
    let old = c.args.self.now in
    record {
      fits = fits_piece_added (told_by old.dest) (view old.remembered) old.played.steps c.then-self.result.steps c.args.piece.now c.then-self.ensures
          old.fits;
    }

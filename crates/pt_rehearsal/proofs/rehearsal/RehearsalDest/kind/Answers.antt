use Rattle.std.proofs.Common.{◌∙◌, refl, sym}
use Rattle.pt_folder.specs.HostDest.{told as told_by}
use Rattle.pt_rehearsal.specs.Seeing.{view}
use Rattle.pt_rehearsal.proofs.Staying.{fits_still, kind_of_folder, kinds_still, told_still, unasked}
use Rattle.pt_rehearsal.proofs.rehearsal.RehearsalDest.kind.Goals as goal

pub invariant_of-self : goal.invariant_of-self
invariant_of-self g c =
    let old = c.args.self.now in
    let told = c.refuse.ensures in
    let same = told_still old.dest c.refuse.new.self (unasked old.dest c.refuse.new.self told.call.keeps told.call.writing told.call.unsynced told.system) in
    record { fits = fits_still (told_by old.dest) (told_by c.refuse.new.self) (view old.remembered) (view old.remembered) old.played.steps same refl old.fits }

pub invariant_of-self-in-Standing : goal.invariant_of-self-in-Standing
invariant_of-self-in-Standing g c =
    let old = c.args.self.now in
    record {
      fits = fits_still (told_by old.dest) (told_by c.kind.new.self) (view old.remembered) (view old.remembered) old.played.steps c.kind.ensures.same
          refl old.fits;
    }

pub returns-in-Folder-clause-kind : goal.returns-in-Folder-clause-kind
returns-in-Folder-clause-kind g c =
    let old = c.args.self.now in
    kind_of_folder (told_by old.dest) (view old.remembered) old.played.steps c.args.path.now c.in_ok-look_up.ensures.named old.fits
    (sym c.in_ok-look_up.ensures.seen ∙ c.in-Folder.is)

pub returns-in-Standing-clause-kind : goal.returns-in-Standing-clause-kind
returns-in-Standing-clause-kind g c =
    let old = c.args.self.now in
    kinds_still (told_by old.dest) (view old.remembered) old.played.steps c.args.path.now c.in_ok-look_up.ensures.named old.fits
    (sym c.in_ok-look_up.ensures.seen ∙ c.in-Standing.is)
    c.kind.result c.kind.ensures.kind

use Rattle.std.proofs.Common.{refl, sym, subst}
use Rattle.pt_folder.specs.HostDest.{told as told_by}
use Rattle.pt_rehearsal.specs.Seeing.{Remembers, made_file, view}
use Rattle.pt_rehearsal.proofs.Staying.{becomes_next, becomes_same, fits_file_made, fits_still, stays_on, told_still, unasked}
use Rattle.pt_rehearsal.proofs.rehearsal.RehearsalDest.create.Goals as goal

pub invariant_of-self : goal.invariant_of-self
invariant_of-self g c =
    let old = c.args.self.now in
    let mid = c.may_make.new.self in
    let told = c.may_make.ensures in
    record {
      fits = fits_still (told_by old.dest) (told_by mid) (view old.remembered) (view old.remembered) old.played.steps
          (told_still old.dest mid (unasked old.dest mid told.call.keeps told.call.writing told.call.unsynced told.system)) refl old.fits;
    }

pub invariant_of-self-in-Break-branch-2 : goal.invariant_of-self-in-Break-branch-2
invariant_of-self-in-Break-branch-2 g c =
    let old = c.args.self.now in
    let mid = c.may_make.new.self in
    let told = c.may_make.ensures in
    record {
      fits = fits_still (told_by old.dest) (told_by mid) (view old.remembered) (view c.create_new.new.self) old.played.steps
          (told_still old.dest mid (unasked old.dest mid told.call.keeps told.call.writing told.call.unsynced told.system)) c.in_err-create_new.ensures.err
          old.fits;
    }

pub invariant_of-self-then-not-branch : goal.invariant_of-self-then-not-branch
invariant_of-self-then-not-branch g c =
    let old = c.args.self.now in
    let mid = c.may_make.new.self in
    let new = c.refuse.new.self in
    let first = c.may_make.ensures in
    let told = c.refuse.ensures in
    let stays = stays_on old.dest mid new (unasked old.dest mid first.call.keeps first.call.writing first.call.unsynced first.system)
    (unasked mid new told.call.keeps told.call.writing told.call.unsynced told.system) in
    let same = becomes_same (made_file (view old.remembered) c.args.path.now) c.in_ok-create_new.field-0 (view old.remembered) (view c.create_new.new.self)
    c.if-not-branch.true c.in_ok-create_new.ensures.ok in
    record {
      fits = fits_still (told_by old.dest) (told_by new) (view old.remembered) (view c.create_new.new.self) old.played.steps
          (told_still old.dest new stays) same.1 old.fits;
    }

pub returns-then-not-branch-clause-remembered : goal.returns-then-not-branch-clause-remembered
returns-then-not-branch-clause-remembered g c =
    let old = view c.args.self.now.remembered in
    let new = view c.create_new.new.self in
    let same = becomes_same (made_file old c.args.path.now) c.in_ok-create_new.field-0 old new c.if-not-branch.true c.in_ok-create_new.ensures.ok in
    subst (λ r. Remembers (made_file old c.args.path.now) r old new) (sym c.refuse.ensures.refused) same.1

pub invariant_of-self-2 : goal.invariant_of-self-2
invariant_of-self-2 g c =
    let old = c.args.self.now in
    let mid = c.may_make.new.self in
    let told = c.may_make.ensures in
    let next = becomes_next (made_file (view old.remembered) c.args.path.now) c.in_ok-create_new.field-0 (view old.remembered) (view c.create_new.new.self)
    c.if-not-branch.false c.in_ok-create_new.ensures.ok in
    record {
      fits =
          fits_file_made (told_by old.dest) (told_by mid) (view old.remembered) (view c.create_new.new.self) old.played.steps c.then-self.result.steps
          (told_still old.dest mid (unasked old.dest mid told.call.keeps told.call.writing told.call.unsynced told.system))
          c.args.path.now c.requires next c.then-self.ensures old.fits;
    }

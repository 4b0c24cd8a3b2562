use Rattle.std.proofs.Common.{refl, subst, sym}
use Rattle.pt_folder.specs.HostDest.{told as told_by}
use Rattle.pt_rehearsal.specs.Seeing.{moved_to, view, Remembers}
use Rattle.pt_rehearsal.proofs.Staying.{becomes_next, becomes_same, fits_move_made, fits_still, told_still, unasked}
use Rattle.pt_rehearsal.proofs.rehearsal.RehearsalDest.rename.Goals as goal

pub invariant_of-self : goal.invariant_of-self
invariant_of-self g c =
    let old = c.args.self.now in
    record {
      fits = fits_still (told_by old.dest) (told_by old.dest) (view old.remembered) (view c.rename.new.self) old.played.steps refl
          c.in_err-rename.ensures.err old.fits;
    }

pub invariant_of-self-then-not-branch : goal.invariant_of-self-then-not-branch
invariant_of-self-then-not-branch g c =
    let old = c.args.self.now in
    let new = c.refuse.new.self in
    let told = c.refuse.ensures in
    let same = becomes_same (moved_to (view old.remembered) c.args.from.now c.args.to.now) c.in_ok-rename.field-0 (view old.remembered) (view c.rename.new.self)
    c.if-not-branch.true c.in_ok-rename.ensures.ok in
    record {
      fits = fits_still (told_by old.dest) (told_by new) (view old.remembered) (view c.rename.new.self) old.played.steps
          (told_still old.dest new (unasked old.dest new told.call.keeps told.call.writing told.call.unsynced told.system)) same.1 old.fits;
    }

pub invariant_of-self-2 : goal.invariant_of-self-2
invariant_of-self-2 g c =
    let old = c.args.self.now in
    let next = becomes_next (moved_to (view old.remembered) c.args.from.now c.args.to.now) c.in_ok-rename.field-0 (view old.remembered) (view c.rename.new.self)
    c.if-not-branch.false c.in_ok-rename.ensures.ok in
    record {
      fits =
          fits_move_made (told_by old.dest) (told_by old.dest) (view old.remembered) (view c.rename.new.self) old.played.steps c.then-self.result.steps refl
          c.args.from.now c.args.to.now (c.in_ok-rename.ensures.named c.if-not-branch.false) c.requires next c.then-self.ensures old.fits;
    }

pub returns-then-not-branch-clause-remembered : goal.returns-then-not-branch-clause-remembered
returns-then-not-branch-clause-remembered g c =
    let old = view c.args.self.now.remembered in
    let new = view c.rename.new.self in
    let same = becomes_same (moved_to old c.args.from.now c.args.to.now) c.in_ok-rename.field-0 old new c.if-not-branch.true c.in_ok-rename.ensures.ok in
    subst (λ r. Remembers (moved_to old c.args.from.now c.args.to.now) r old new) (sym c.refuse.ensures.refused) same.1

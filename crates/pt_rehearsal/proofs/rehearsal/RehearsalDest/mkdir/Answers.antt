use Rattle.std.proofs.Common.{inr, refl, subst, sym}
use Rattle.std.specs.Prelude.{Err, Ok, Result}
use Rattle.pt_folder.specs.Failure.{OnDevice}
use Rattle.pt_folder.specs.HostDest.{told as told_by}
use Rattle.pt_rehearsal.specs.Seeing.{made_dir, view, Remembers}
use Rattle.pt_rehearsal.proofs.Staying.{becomes_next, becomes_same, fits_dir_made, fits_still, stays_on, told_still, unasked}
use Rattle.pt_tree.specs.declared.faults.TreeFault.{TreeFault}
use Rattle.pt_tree.specs.declared.faults.TreeFault.TheVariants.{Device, Memory}
use Rattle.pt_rehearsal.proofs.rehearsal.RehearsalDest.mkdir.Goals as goal

-- a reason holds however it was answered
on_device : {T : Type 0} (result : Result T TreeFault) (P : Type 0) → P → OnDevice result P
on_device (Ok x) P it = tt
on_device (Err Device) P it = it
on_device (Err Memory) P it = tt

pub invariant_of-self : goal.invariant_of-self
invariant_of-self g c =
    let old = c.args.self.now in
    let mid = c.may_make_dir.new.dest in
    record {
      fits = fits_still (told_by old.dest) (told_by mid) (view old.remembered) (view old.remembered) old.played.steps
          (told_still old.dest mid c.may_make_dir.ensures.stays) refl old.fits;
    }

pub invariant_of-self-in-Break-branch-2 : goal.invariant_of-self-in-Break-branch-2
invariant_of-self-in-Break-branch-2 g c =
    let old = c.args.self.now in
    let mid = c.may_make_dir.new.dest in
    record {
      fits = fits_still (told_by old.dest) (told_by mid) (view old.remembered) (view c.make_dir.new.self) old.played.steps
          (told_still old.dest mid c.may_make_dir.ensures.stays) c.in_err-make_dir.ensures.err old.fits;
    }

pub invariant_of-self-then-not-branch : goal.invariant_of-self-then-not-branch
invariant_of-self-then-not-branch g c =
    let old = c.args.self.now in
    let mid = c.may_make_dir.new.dest in
    let new = c.refuse.new.self in
    let told = c.refuse.ensures in
    let stays = stays_on old.dest mid new c.may_make_dir.ensures.stays (unasked mid new told.call.keeps told.call.writing told.call.unsynced told.system) in
    let same = becomes_same (made_dir (view old.remembered) c.args.path.now) c.in_ok-make_dir.field-0 (view old.remembered) (view c.make_dir.new.self)
    c.if-not-branch.true c.in_ok-make_dir.ensures.ok in
    record {
      fits = fits_still (told_by old.dest) (told_by new) (view old.remembered) (view c.make_dir.new.self) old.played.steps
          (told_still old.dest new stays) same.1 old.fits;
    }

pub invariant_of-self-2 : goal.invariant_of-self-2
invariant_of-self-2 g c =
    let old = c.args.self.now in
    let mid = c.may_make_dir.new.dest in
    let next = becomes_next (made_dir (view old.remembered) c.args.path.now) c.in_ok-make_dir.field-0 (view old.remembered) (view c.make_dir.new.self)
    c.if-not-branch.false c.in_ok-make_dir.ensures.ok in
    record {
      fits =
          fits_dir_made (told_by old.dest) (told_by mid) (view old.remembered) (view c.make_dir.new.self) old.played.steps c.then-self.result.steps
          (told_still old.dest mid c.may_make_dir.ensures.stays)
          c.args.path.now c.in_ok-make_dir.ensures.named c.requires next c.then-self.ensures old.fits;
    }

pub returns-clause-remembered : goal.returns-clause-remembered
returns-clause-remembered g c =
    let old = view c.args.self.now.remembered in
    becomes_next (made_dir old c.args.path.now) c.in_ok-make_dir.field-0 old (view c.make_dir.new.self) c.if-not-branch.false c.in_ok-make_dir.ensures.ok

pub returns-then-not-branch-clause-remembered : goal.returns-then-not-branch-clause-remembered
returns-then-not-branch-clause-remembered g c =
    let old = view c.args.self.now.remembered in
    let new = view c.make_dir.new.self in
    let same = becomes_same (made_dir old c.args.path.now) c.in_ok-make_dir.field-0 old new c.if-not-branch.true c.in_ok-make_dir.ensures.ok in
    subst (λ r. Remembers (made_dir old c.args.path.now) r old new) (sym c.refuse.ensures.refused) same.1

pub returns-then-not-branch-clause-refused : goal.returns-then-not-branch-clause-refused
returns-then-not-branch-clause-refused g c =
    let old = view c.args.self.now.remembered in
    let same = becomes_same (made_dir old c.args.path.now) c.in_ok-make_dir.field-0 old (view c.make_dir.new.self) c.if-not-branch.true
    c.in_ok-make_dir.ensures.ok in
    on_device c.refuse.result _ (inr (inr same.0))

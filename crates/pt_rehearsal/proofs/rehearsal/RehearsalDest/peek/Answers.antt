use Rattle.std.proofs.Common.{◌≡◌, ◌⊎◌, inl, inr, ◌∙◌, ap, refl, rules, sym, subst}
use Rattle.pt_tree.specs.declared.faults.TreeFault.TheVariants.{Device}
use Rattle.std.specs.Prelude.{Err}
use Rattle.pt_folder.specs.HostDest.{told as told_by}
use Rattle.pt_rehearsal.specs.Fitting.{told_over}
use Rattle.pt_rehearsal.specs.Rehearsal.{IsNotPeeked}
use Rattle.pt_rehearsal.specs.Seeing.{view}
use Rattle.pt_rehearsal.specs.declared.remembered.Recall.{Recall}
use Rattle.pt_rehearsal.specs.declared.remembered.Recall.TheVariants as recall
use Rattle.pt_rehearsal.proofs.Staying.{can_peek_still, fits_still, peeked_still, told_still, unasked}
use Rattle.pt_rehearsal.proofs.rehearsal.RehearsalDest.peek.Goals as goal

pub invariant_of-self : goal.invariant_of-self
invariant_of-self g c =
    let old = c.args.self.now in
    let told = c.refuse.ensures in
    let same = told_still old.dest c.refuse.new.self (unasked old.dest c.refuse.new.self told.call.keeps told.call.writing told.call.unsynced told.system) in
    record { fits = fits_still (told_by old.dest) (told_by c.refuse.new.self) (view old.remembered) (view old.remembered) old.played.steps same refl old.fits }

pub peek-requires : goal.peek-requires
peek-requires g c =
    let old = c.args.self.now in
    can_peek_still (told_by old.dest) (view old.remembered) old.played.steps c.args.path.now c.in_ok-look_up.ensures.named old.fits
    (sym c.in_ok-look_up.ensures.seen ∙ c.in-Standing.is) c.requires

pub invariant_of-self-in-Standing : goal.invariant_of-self-in-Standing
invariant_of-self-in-Standing g c =
    let old = c.args.self.now in
    record {
      fits = fits_still (told_by old.dest) (told_by c.peek.new.self) (view old.remembered) (view old.remembered) old.played.steps c.peek.ensures.same
          refl old.fits;
    }

refused : (s said : Recall) → said ≡ s → (said ≡ recall.Folder) ⊎ (said ≡ recall.Hidden) → IsNotPeeked s (Err Device)
refused recall.Folder said is how = tt
refused recall.Hidden said is how = tt
refused recall.Standing said is (inl folder) = absurd (cc)
refused recall.Standing said is (inr hidden) = absurd (cc)

pub returns-in-Folder : goal.returns-in-Folder
returns-in-Folder g c =
    let old = c.args.self.now in
    let told = c.refuse.ensures in
    let stays = unasked old.dest c.refuse.new.self told.call.keeps told.call.writing told.call.unsynced told.system in
    record {
      block = search rules;
      empty = search rules;
      same = ap (λ o. told_over o old.played.steps) (told_still old.dest c.refuse.new.self stays);
      asked = inl (told.system, subst (IsNotPeeked _) (sym told.refused) (refused _ c.in_ok-look_up.field-0 c.in_ok-look_up.ensures.seen c.in-Folder.is));
      remembered = refl;
      call = record { keeps = stays; failures = told.call.failures };
    }

pub returns-in-Standing-clause-block : goal.returns-in-Standing-clause-block
returns-in-Standing-clause-block g c =
    let old = c.args.self.now in
    peeked_still (told_by old.dest) (view old.remembered) old.played.steps c.args.path.now c.in_ok-look_up.ensures.named old.fits
    (sym c.in_ok-look_up.ensures.seen ∙ c.in-Standing.is)
    c.peek.new.block.items c.peek.result c.peek.ensures.block

pub returns-in-Standing-clause-asked : goal.returns-in-Standing-clause-asked
returns-in-Standing-clause-asked g c = inr (sym c.in_ok-look_up.ensures.seen ∙ c.in-Standing.is, c.peek.ensures.asked)

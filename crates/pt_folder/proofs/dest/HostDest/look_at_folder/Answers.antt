use Rattle.std.proofs.Common.{◌∙◌, inr, subst, sym}
use Rattle.std.specs.Prelude.{Err}
use Rattle.pt_folder.specs.Calls.{AsksOnce, IsThere, change_of}
use Rattle.pt_folder.specs.DestHeld.{IsPlaced}
use Rattle.pt_folder.specs.Failure.{KeepsCall, OnDevice}
use Rattle.pt_folder.specs.Folder.{entry_in, entry_text}
use Rattle.pt_folder.proofs.DestTold.{kind_keeps}
use Rattle.pt_folder.proofs.UnsyncedTold.{kept_free, none_back, none_risen, none_unsynced}
use Rattle.pt_folder.proofs.dest.HostDest.look_at_folder.Goals as goal

pub invariant_of-self : goal.invariant_of-self
invariant_of-self g c =
    let self = c.args.self.now in
    let kept = g.S.System.kept in
    let folder = self.folder.path.now in
    let none = none_unsynced self.unsynced (sym c.is_some.ensures ∙ c.if-is_some.false) in
    let there = c.is_there-there in
    let same = kind_keeps kept folder g.S.System.looks g.met.S.System.kind_law IsThere self.syscalls.system there.new.self.system c.new-top.result there.result
    there.ensures.asked in
    record {
      placed = λ free. subst (λ k. IsPlaced k self.writing) (sym same) (self.placed none);
      wanted = self.wanted;
      back = ∣ none_back (kept there.new.self.system folder) self.unsynced none ∣₁;
      risen = none_risen c.count_failure.new.failures self.unsynced none;
    }

pub returns-clause-asked : goal.returns-clause-asked
returns-clause-asked g c =
    let self = c.args.self.now in
    let there = c.is_there-there in
    let none = none_unsynced self.unsynced (sym c.is_some.ensures ∙ c.if-is_some.false) in
    rw c.count_failure.ensures.same (inr (
      none,
      subst (λ p. AsksOnce g.S.System.looks IsThere (entry_in self.folder.path.now p)
          (change_of self.syscalls.system there.new.self.system) there.result) c.new-top.ensures there.ensures.asked,
    ))

pub returns-clause-kept : goal.returns-clause-kept
returns-clause-kept g c =
    let self = c.args.self.now in
    let there = c.is_there-there in
    let folder = self.folder.path.now in
    let last = there.new.self.last.failure in
    let none = none_unsynced self.unsynced (sym c.is_some.ensures ∙ c.if-is_some.false) in
    rw c.count_failure.ensures.same
    (kept_free there.result self.unsynced _ _ none
    (subst (λ p. OnDevice there.result (KeepsCall folder p (λ e. g.S.System.looks self.syscalls.system (entry_text folder p) (Err e) there.new.self.system)
    last)) c.new-top.ensures there.ensures.kept))

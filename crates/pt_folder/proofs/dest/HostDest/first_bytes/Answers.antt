use Rattle.std.proofs.Common.{◌∙◌, inr, subst, sym}
use Rattle.pt_folder.specs.DestHeld.{IsPlaced}
use Rattle.pt_folder.proofs.PeekTold.{peek_keeps}
use Rattle.pt_folder.proofs.UnsyncedTold.{kept_free, none_back, none_risen, none_unsynced}
use Rattle.pt_folder.proofs.dest.HostDest.first_bytes.Goals as goal

pub invariant_of-self : goal.invariant_of-self
invariant_of-self g c =
    let self = c.args.self.now in
    let kept = g.S.System.kept in
    let folder = self.folder.path.now in
    let none = none_unsynced self.unsynced (sym c.is_some.ensures ∙ c.if-is_some.false) in
    let peeked = c.peek-peeked in
    let same = peek_keeps kept folder g.S.File.Input.left g.S.File.Input.reads g.S.System.opens g.met.S.System.peek_law self.syscalls.system
    peeked.new.self.system c.args.path.now peeked.new.block.items peeked.result peeked.ensures.asked in
    record {
      placed = λ free. subst (λ k. IsPlaced k self.writing) (sym same) (self.placed none);
      wanted = self.wanted;
      back = ∣ none_back (kept peeked.new.self.system folder) self.unsynced none ∣₁;
      risen = none_risen c.count_failure.new.failures self.unsynced none;
    }

pub returns-clause-asked : goal.returns-clause-asked
returns-clause-asked g c =
    let none = none_unsynced c.args.self.now.unsynced (sym c.is_some.ensures ∙ c.if-is_some.false) in
    rw c.count_failure.ensures.same (inr (none, c.peek-peeked.ensures.asked))

pub returns-clause-kept : goal.returns-clause-kept
returns-clause-kept g c =
    let self = c.args.self.now in
    let none = none_unsynced self.unsynced (sym c.is_some.ensures ∙ c.if-is_some.false) in
    rw c.count_failure.ensures.same (kept_free c.peek-peeked.result self.unsynced _ _ none c.peek-peeked.ensures.kept)

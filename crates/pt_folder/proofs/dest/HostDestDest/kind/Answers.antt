use Rattle.std.proofs.Common.{◌∙◌, ap, inr, subst, sym}
use Rattle.pt_folder.specs.Calls.{LeadsToKind}
use Rattle.pt_folder.specs.DestHeld.{IsPlaced, told_with}
use Rattle.pt_folder.proofs.DestTold.{kind_keeps, kind_tells}
use Rattle.pt_folder.proofs.UnsyncedTold.{kept_free, none_back, none_risen, none_unsynced}
use Rattle.pt_folder.proofs.dest.HostDestDest.kind.Goals as goal

pub invariant_of-self : goal.invariant_of-self
invariant_of-self g c =
    let self = c.args.self.now in
    let kept = g.S.System.kept in
    let folder = self.folder.path.now in
    let none = none_unsynced self.unsynced (sym c.is_some.ensures ∙ c.if-is_some.false) in
    let kind = c.kind_at-kind in
    let same = kind_keeps kept folder g.S.System.looks g.met.S.System.kind_law LeadsToKind self.syscalls.system kind.new.self.system c.args.path.now kind.result
    kind.ensures.asked in
    record {
      placed = λ free. subst (λ k. IsPlaced k self.writing) (sym same) (self.placed none);
      wanted = self.wanted;
      back = ∣ none_back (kept kind.new.self.system folder) self.unsynced none ∣₁;
      risen = none_risen c.count_failure.new.failures self.unsynced none;
    }

pub returns-clause-kind : goal.returns-clause-kind
returns-clause-kind g c =
    let self = c.args.self.now in
    let kept = g.S.System.kept in
    let folder = self.folder.path.now in
    let none = none_unsynced self.unsynced (sym c.is_some.ensures ∙ c.if-is_some.false) in
    rw (c.count_failure.ensures.same, none) (kind_tells kept folder g.S.System.looks g.met.S.System.kind_law self.syscalls.system c.kind_at-kind.new.self.system
    c.args.path.now c.kind_at-kind.result self.writing c.kind_at-kind.ensures.asked)

pub returns-clause-same : goal.returns-clause-same
returns-clause-same g c =
    let self = c.args.self.now in
    let kept = g.S.System.kept in
    let folder = self.folder.path.now in
    let kind = c.kind_at-kind in
    ap (λ k. told_with k self.unsynced self.writing) (kind_keeps kept folder g.S.System.looks g.met.S.System.kind_law LeadsToKind self.syscalls.system
    kind.new.self.system c.args.path.now kind.result kind.ensures.asked)

pub returns-clause-asked : goal.returns-clause-asked
returns-clause-asked g c =
    let none = none_unsynced c.args.self.now.unsynced (sym c.is_some.ensures ∙ c.if-is_some.false) in
    rw c.count_failure.ensures.same (inr (none, c.kind_at-kind.ensures.asked))

pub returns-clause-kept : goal.returns-clause-kept
returns-clause-kept g c =
    let self = c.args.self.now in
    let none = none_unsynced self.unsynced (sym c.is_some.ensures ∙ c.if-is_some.false) in
    rw c.count_failure.ensures.same (kept_free c.kind_at-kind.result self.unsynced _ _ none c.kind_at-kind.ensures.kept)

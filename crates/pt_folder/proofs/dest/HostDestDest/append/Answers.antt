use Rattle.std.proofs.Common.{◌∙◌, inr, sym}
use Rattle.pt_folder.proofs.UnsyncedTold.{kept_free, none_back, none_risen, none_unsynced, part_refused, told_same}
use Rattle.pt_folder.proofs.WriteTold.{append_placed, append_tells, at_err, at_ok}
use Rattle.pt_folder.proofs.dest.HostDestDest.append.Goals as goal

pub returns-then-is_some-clause-part : goal.returns-then-is_some-clause-part
returns-then-is_some-clause-part g c =
    let old = c.args.self.now in
    let new = c.refuse.new.self in
    let refused = c.refuse.ensures in
    part_refused old new c.args.piece.now c.refuse.result (told_same old new refused.call.keeps.0 refused.system refused.call.writing refused.call.unsynced)

pub invariant_of-self : goal.invariant_of-self
invariant_of-self g c =
    let self = c.args.self.now in
    let kept = g.S.System.kept in
    let folder = self.folder.path.now in
    let none = none_unsynced self.unsynced (sym c.is_some.ensures ∙ c.if-is_some.false) in
    let added = c.add-added in
    record {
      placed = λ free. append_placed kept folder g.S.System.writes g.met.S.System.write_law self.syscalls.system added.new.syscalls.system c.args.piece.now
          self.writing added.new.writing added.result added.ensures.writes (self.placed none);
      wanted = self.wanted;
      back = ∣ none_back (kept added.new.syscalls.system folder) self.unsynced none ∣₁;
      risen = none_risen c.count_failure.new.failures self.unsynced none;
    }

pub returns-clause-added : goal.returns-clause-added
returns-clause-added g c =
    let self = c.args.self.now in
    let kept = g.S.System.kept in
    let folder = self.folder.path.now in
    let none = none_unsynced self.unsynced (sym c.is_some.ensures ∙ c.if-is_some.false) in
    let added = c.add-added in
    rw (c.count_failure.ensures.same, none) (at_ok added.result _ _ (append_tells kept folder g.S.System.writes g.met.S.System.write_law self.syscalls.system
    added.new.syscalls.system c.args.piece.now self.writing added.new.writing added.result added.ensures.writes (self.placed none)))

pub returns-clause-part : goal.returns-clause-part
returns-clause-part g c =
    let self = c.args.self.now in
    let kept = g.S.System.kept in
    let folder = self.folder.path.now in
    let none = none_unsynced self.unsynced (sym c.is_some.ensures ∙ c.if-is_some.false) in
    let added = c.add-added in
    rw (c.count_failure.ensures.same, none) (at_err added.result _ _ (append_tells kept folder g.S.System.writes g.met.S.System.write_law self.syscalls.system
    added.new.syscalls.system c.args.piece.now self.writing added.new.writing added.result added.ensures.writes (self.placed none)))

pub returns-clause-closed : goal.returns-clause-closed
returns-clause-closed g c = rw c.count_failure.ensures.same c.add-added.ensures.closed

pub returns-clause-writes : goal.returns-clause-writes
returns-clause-writes g c =
    let none = none_unsynced c.args.self.now.unsynced (sym c.is_some.ensures ∙ c.if-is_some.false) in
    rw c.count_failure.ensures.same (inr (none, c.add-added.ensures.writes))

pub returns-clause-kept : goal.returns-clause-kept
returns-clause-kept g c =
    let self = c.args.self.now in
    let none = none_unsynced self.unsynced (sym c.is_some.ensures ∙ c.if-is_some.false) in
    rw c.count_failure.ensures.same (kept_free c.add-added.result self.unsynced _ _ none c.add-added.ensures.kept)

use Rattle.std.proofs.Common.{◌∙◌, inr, sym, refl}
use Rattle.pt_folder.proofs.MoveTold.{rename_back, rename_device, rename_gives, rename_moved, rename_placed, rename_same, rename_wanted}
use Rattle.pt_folder.proofs.UnsyncedTold.{device_risen, kept_free, may_move_free, none_unsynced}
use Rattle.pt_folder.proofs.dest.HostDestDest.rename.Goals as goal

pub invariant_of-self : goal.invariant_of-self
invariant_of-self g c =
    let self = c.args.self.now in
    let kept = g.S.System.kept in
    let folder = self.folder.path.now in
    let none = none_unsynced self.unsynced (sym c.is_some.ensures ∙ c.if-is_some.false) in
    let moved = c.move_entry-moved in
    let closed = c.close_moved in
    let can = may_move_free (kept self.syscalls.system folder) self.unsynced self.writing none c.args.from.now c.args.to.now c.requires in
    let law = g.met.S.System.tree_law self.syscalls.system folder in
    let gives = rename_gives kept folder self.syscalls.system moved.new.syscalls.system c.args.from.now c.args.to.now self.synced g.S.System
    g.S.File.Handle.syncs g.met.S.System.move_law g.met.S.System.still_law moved.new.unsynced moved.result can moved.ensures.asked in
    record {
      placed = rename_placed kept folder self.syscalls.system moved.new.syscalls.system c.args.from.now c.args.to.now self.writing closed.new.writing
          moved.new.unsynced moved.result gives closed.ensures.left closed.ensures.same (self.placed none);
      wanted = rename_wanted kept folder self.syscalls.system moved.new.syscalls.system c.args.from.now c.args.to.now g.S.System g.S.File.Handle.syncs
          self.synced moved.new.unsynced moved.result moved.ensures.asked;
      back = ∣ rename_back kept folder self.syscalls.system moved.new.syscalls.system c.args.from.now c.args.to.now self.writing closed.new.writing
          moved.new.unsynced law can moved.result gives ∣₁;
      risen = device_risen self.failures c.count_failure.new.failures moved.new.unsynced moved.result c.count_failure.ensures.counted
          (rename_device kept folder self.syscalls.system moved.new.syscalls.system c.args.from.now c.args.to.now g.S.System g.S.File.Handle.syncs self.synced
          moved.new.unsynced moved.result moved.ensures.asked);
    }

pub returns-clause-moved : goal.returns-clause-moved
returns-clause-moved g c =
    let self = c.args.self.now in
    let kept = g.S.System.kept in
    let folder = self.folder.path.now in
    let none = none_unsynced self.unsynced (sym c.is_some.ensures ∙ c.if-is_some.false) in
    let moved = c.move_entry-moved in
    let closed = c.close_moved in
    let can = may_move_free (kept self.syscalls.system folder) self.unsynced self.writing none c.args.from.now c.args.to.now c.requires in
    let law = g.met.S.System.tree_law self.syscalls.system folder in
    let gives = rename_gives kept folder self.syscalls.system moved.new.syscalls.system c.args.from.now c.args.to.now self.synced g.S.System
    g.S.File.Handle.syncs g.met.S.System.move_law g.met.S.System.still_law moved.new.unsynced moved.result can moved.ensures.asked in
    rw (c.count_failure.ensures.same, none) (rename_moved kept folder self.syscalls.system moved.new.syscalls.system c.args.from.now c.args.to.now self.writing
    closed.new.writing moved.new.unsynced moved.result gives closed.ensures.left)

pub returns-clause-same : goal.returns-clause-same
returns-clause-same g c =
    let self = c.args.self.now in
    let kept = g.S.System.kept in
    let folder = self.folder.path.now in
    let none = none_unsynced self.unsynced (sym c.is_some.ensures ∙ c.if-is_some.false) in
    let moved = c.move_entry-moved in
    let closed = c.close_moved in
    let can = may_move_free (kept self.syscalls.system folder) self.unsynced self.writing none c.args.from.now c.args.to.now c.requires in
    let law = g.met.S.System.tree_law self.syscalls.system folder in
    let gives = rename_gives kept folder self.syscalls.system moved.new.syscalls.system c.args.from.now c.args.to.now self.synced g.S.System
    g.S.File.Handle.syncs g.met.S.System.move_law g.met.S.System.still_law moved.new.unsynced moved.result can moved.ensures.asked in
    rw (c.count_failure.ensures.same, none) (rename_same kept folder self.syscalls.system moved.new.syscalls.system c.args.from.now c.args.to.now self.writing
    closed.new.writing moved.new.unsynced law can moved.result gives closed.ensures.same)

pub returns-clause-asked : goal.returns-clause-asked
returns-clause-asked g c =
    let none = none_unsynced c.args.self.now.unsynced (sym c.is_some.ensures ∙ c.if-is_some.false) in
    rw c.count_failure.ensures.same (inr (none, c.move_entry-moved.ensures.asked))

pub returns-clause-kept : goal.returns-clause-kept
returns-clause-kept g c =
    let self = c.args.self.now in
    let none = none_unsynced self.unsynced (sym c.is_some.ensures ∙ c.if-is_some.false) in
    rw c.count_failure.ensures.same (kept_free c.move_entry-moved.result self.unsynced _ _ none c.move_entry-moved.ensures.kept)

pub returns-clause-call : goal.returns-clause-call
returns-clause-call g c = record {
  keeps = (refl, (refl, refl));
  failures = rw c.count_failure.ensures.same c.count_failure.ensures.counted;
  unsynced = refl;
  at = refl;
}

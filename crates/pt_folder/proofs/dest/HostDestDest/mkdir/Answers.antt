use Rattle.std.proofs.Common.{◌∙◌, inr, sym}
use Rattle.pt_folder.proofs.DestTold.{mkdir_gives, mkdir_made, mkdir_placed, mkdir_same}
use Rattle.pt_folder.proofs.UnsyncedTold.{kept_free, may_make_free, none_back, none_risen, none_unsynced}
use Rattle.pt_folder.proofs.dest.HostDestDest.mkdir.Goals as goal

pub invariant_of-self : goal.invariant_of-self
invariant_of-self g c =
    let self = c.args.self.now in
    let kept = g.S.System.kept in
    let folder = self.folder.path.now in
    let none = none_unsynced self.unsynced (sym c.is_some.ensures ∙ c.if-is_some.false) in
    let made = c.make_dir-made in
    let can = may_make_free (kept self.syscalls.system folder) self.unsynced self.writing none c.args.path.now c.requires in
    let gives = mkdir_gives kept folder g.S.System.makes_dir g.met.S.System.dir_law self.syscalls.system made.new.self.system c.args.path.now self.longest
    made.result can made.ensures.asked in
    record {
      placed = λ free. mkdir_placed kept folder self.writing self.syscalls.system made.new.self.system c.args.path.now made.result gives (self.placed none);
      wanted = self.wanted;
      back = ∣ none_back (kept made.new.self.system folder) self.unsynced none ∣₁;
      risen = none_risen c.count_failure.new.failures self.unsynced none;
    }

pub returns-clause-made : goal.returns-clause-made
returns-clause-made g c =
    let self = c.args.self.now in
    let kept = g.S.System.kept in
    let folder = self.folder.path.now in
    let none = none_unsynced self.unsynced (sym c.is_some.ensures ∙ c.if-is_some.false) in
    let made = c.make_dir-made in
    let can = may_make_free (kept self.syscalls.system folder) self.unsynced self.writing none c.args.path.now c.requires in
    let gives = mkdir_gives kept folder g.S.System.makes_dir g.met.S.System.dir_law self.syscalls.system made.new.self.system c.args.path.now self.longest
    made.result can made.ensures.asked in
    rw (c.count_failure.ensures.same, none) (mkdir_made kept folder self.writing self.syscalls.system made.new.self.system c.args.path.now made.result gives)

pub returns-clause-same : goal.returns-clause-same
returns-clause-same g c =
    let self = c.args.self.now in
    let kept = g.S.System.kept in
    let folder = self.folder.path.now in
    let none = none_unsynced self.unsynced (sym c.is_some.ensures ∙ c.if-is_some.false) in
    let made = c.make_dir-made in
    let can = may_make_free (kept self.syscalls.system folder) self.unsynced self.writing none c.args.path.now c.requires in
    let gives = mkdir_gives kept folder g.S.System.makes_dir g.met.S.System.dir_law self.syscalls.system made.new.self.system c.args.path.now self.longest
    made.result can made.ensures.asked in
    rw (c.count_failure.ensures.same, none) (mkdir_same kept folder self.writing self.syscalls.system made.new.self.system c.args.path.now made.result gives)

pub returns-clause-asked : goal.returns-clause-asked
returns-clause-asked g c =
    let none = none_unsynced c.args.self.now.unsynced (sym c.is_some.ensures ∙ c.if-is_some.false) in
    rw c.count_failure.ensures.same (inr (none, c.make_dir-made.ensures.asked))

pub returns-clause-kept : goal.returns-clause-kept
returns-clause-kept g c =
    let self = c.args.self.now in
    let none = none_unsynced self.unsynced (sym c.is_some.ensures ∙ c.if-is_some.false) in
    rw c.count_failure.ensures.same (kept_free c.make_dir-made.result self.unsynced _ _ none c.make_dir-made.ensures.kept)

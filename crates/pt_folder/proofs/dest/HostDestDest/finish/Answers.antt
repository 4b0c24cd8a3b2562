use Rattle.std.proofs.Common.{◌∙◌, inr, sym}
use Rattle.pt_folder.proofs.UnsyncedTold.{finish_wanted, kept_free, none_unsynced}
use Rattle.pt_folder.proofs.dest.HostDestDest.finish.Goals as goal

pub invariant_of-self-clause-wanted : goal.invariant_of-self-clause-wanted
invariant_of-self-clause-wanted g c =
    let self = c.args.self.now in
    let none = none_unsynced self.unsynced (sym c.is_some.ensures ∙ c.if-is_some.false) in
    let closed = c.close-closed in
    finish_wanted g.S.File.Handle.syncs self.synced self.writing closed.result self.unsynced closed.new.unsynced none closed.ensures.unsynced
    closed.ensures.closed

pub returns-clause-closed : goal.returns-clause-closed
returns-clause-closed g c =
    let none = none_unsynced c.args.self.now.unsynced (sym c.is_some.ensures ∙ c.if-is_some.false) in
    rw c.count_failure.ensures.same (inr (none, c.close-closed.ensures.closed))

pub returns-clause-kept : goal.returns-clause-kept
returns-clause-kept g c =
    let self = c.args.self.now in
    let none = none_unsynced self.unsynced (sym c.is_some.ensures ∙ c.if-is_some.false) in
    rw c.count_failure.ensures.same (kept_free c.close-closed.result self.unsynced _ _ none c.close-closed.ensures.kept)

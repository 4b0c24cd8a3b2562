use Rattle.pt_folder.specs.Reading.{unread_open}
use Rattle.pt_folder.proofs.SourceTold.{can_open, open_told, open_same, open_stands}
use Rattle.pt_folder.proofs.source.HostSourceSource.open.Goals as goal

pub invariant_of-self : goal.invariant_of-self
invariant_of-self g c =
    let self = c.args.self.now in
    let call = c.open-opened in
    let bytes = g.S.File.Input.bytes in
    let can = can_open (unread_open bytes self.reading) (g.S.System.forest self.syscalls.system self.folder.path.now) c.args.path.now c.requires in
    record {
      stands = open_stands g.S.System.forest bytes g.S.File.Input.left g.S.System g.met.S.System.look_law g.met.S.System.open_law self.folder.path.now
          self.syscalls.system call.new.syscalls.system c.args.path.now self.reading call.new.opened call.result can call.ensures.asked call.ensures.same
          self.stands;
    }

pub returns-clause-opened : goal.returns-clause-opened
returns-clause-opened g c =
    let self = c.args.self.now in
    let call = c.open-opened in
    let bytes = g.S.File.Input.bytes in
    let can = can_open (unread_open bytes self.reading) (g.S.System.forest self.syscalls.system self.folder.path.now) c.args.path.now c.requires in
    rw c.count_failure.ensures.same (open_told g.S.System.forest bytes g.S.File.Input.left g.S.System g.met.S.System.look_law g.met.S.System.open_law
    self.folder.path.now self.syscalls.system call.new.syscalls.system c.args.path.now self.reading call.new.opened call.result can call.ensures.asked
    call.ensures.same)

pub returns-clause-same : goal.returns-clause-same
returns-clause-same g c =
    let self = c.args.self.now in
    let call = c.open-opened in
    let bytes = g.S.File.Input.bytes in
    let can = can_open (unread_open bytes self.reading) (g.S.System.forest self.syscalls.system self.folder.path.now) c.args.path.now c.requires in
    rw c.count_failure.ensures.same (open_same g.S.System.forest bytes g.S.File.Input.left g.S.System g.met.S.System.look_law g.met.S.System.open_law
    self.folder.path.now self.syscalls.system call.new.syscalls.system c.args.path.now self.reading call.new.opened call.result can call.ensures.asked
    call.ensures.same)

pub returns-clause-asked : goal.returns-clause-asked
returns-clause-asked g c = rw c.count_failure.ensures.same c.open-opened.ensures.asked

pub returns-clause-at : goal.returns-clause-at
returns-clause-at g c = rw c.count_failure.ensures.same c.open-opened.ensures.at

pub returns-clause-kept : goal.returns-clause-kept
returns-clause-kept g c = rw c.count_failure.ensures.same c.open-opened.ensures.kept

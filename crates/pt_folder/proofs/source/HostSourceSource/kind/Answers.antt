use Rattle.std.proofs.Common.{ap}
use Rattle.pt_folder.specs.Reading.{unread_open}
use Rattle.pt_folder.specs.SourceHeld.{told_of}
use Rattle.pt_folder.proofs.LookTold.{look_same, look_tells}
use Rattle.pt_folder.proofs.SourceTold.{can_look, is_seen}
use Rattle.pt_folder.proofs.source.HostSourceSource.kind.Goals as goal

pub returns-clause-kind : goal.returns-clause-kind
returns-clause-kind g c =
    let self = c.args.self.now in
    let unread = unread_open g.S.File.Input.bytes self.reading in
    let kept = g.S.System.forest self.syscalls.system self.folder.path.now in
    let call = c.kind_at-kind in
    rw c.count_failure.ensures.same (is_seen unread kept c.args.path.now call.result
    (look_tells g.S.System.forest g.S.System.looks g.met.S.System.look_law self.folder.path.now self.syscalls.system call.new.self.system c.args.path.now
    call.result (can_look unread kept c.args.path.now c.requires) call.ensures.asked))

pub returns-clause-same : goal.returns-clause-same
returns-clause-same g c =
    let self = c.args.self.now in
    let unread = unread_open g.S.File.Input.bytes self.reading in
    let kept = g.S.System.forest self.syscalls.system self.folder.path.now in
    let call = c.kind_at-kind in
    ap (λ kept. told_of kept unread) (look_same g.S.System.forest g.S.System.looks g.met.S.System.look_law self.folder.path.now self.syscalls.system
    call.new.self.system c.args.path.now call.result (can_look unread kept c.args.path.now c.requires) call.ensures.asked)

use Rattle.std.proofs.lemmas.Result.{on_ok_weaker}
use Rattle.pt_folder.specs.Reading.{unread_open}
use Rattle.pt_folder.proofs.SourceTold.{is_read, next_told}
use Rattle.pt_folder.proofs.source.HostSourceSource.next.Goals as goal

pub returns-clause-block : goal.returns-clause-block
returns-clause-block g c =
    let self = c.args.self.now in
    let unread = unread_open g.S.File.Input.bytes self.reading in
    rw c.count_failure.ensures.same (on_ok_weaker c.read_on-read.result
    (is_read unread (g.S.System.forest self.syscalls.system self.folder.path.now) c.read_on-read.new.block.items c.requires) c.read_on-read.ensures.block)

pub returns-clause-moved : goal.returns-clause-moved
returns-clause-moved g c =
    let self = c.args.self.now in
    rw c.count_failure.ensures.same (on_ok_weaker c.read_on-read.result
    (next_told (g.S.System.forest self.syscalls.system self.folder.path.now) (unread_open g.S.File.Input.bytes self.reading)
    (unread_open g.S.File.Input.bytes c.read_on-read.new.reading)) c.read_on-read.ensures.moved)

use Rattle.pt_folder.proofs.Moved.{kept_move, move_gone}
use Rattle.pt_folder.proofs.moving.move_entry.Goals as goal

pub returns-clause-asked : goal.returns-clause-asked
returns-clause-asked g c =
    let asked = c.args.asked.now in
    move_gone g.S.System g.S.File.Handle.syncs c.in_ok-ready.ready c.args.syscalls.now.system c.go.new.syscalls.system asked.synced c.args.folder.now.path.now
    asked.from.now asked.to.now c.in_ok-ready.ensures.ready c.args.unsynced.now c.go.new.unsynced c.go.result c.requires.free c.go.ensures.gone

pub returns-clause-kept : goal.returns-clause-kept
returns-clause-kept g c =
    let asked = c.args.asked.now in
    kept_move g.S.System g.S.File.Handle.syncs c.in_ok-ready.ready c.args.syscalls.now.system c.go.new.syscalls.system asked.synced c.args.folder.now.path.now
    asked.from.now asked.to.now c.in_ok-ready.ensures.ready c.go.result c.go.new.syscalls.last.failure c.go.ensures.kept

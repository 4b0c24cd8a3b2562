use Rattle.std.proofs.Common.{ℕ, List}
use Rattle.pt_messages.specs.Expected.{AsksEnd}
use Rattle.pt_messages.specs.Reading.{FileWords}
use Rattle.pt_host.proofs.Recorded.{recorded, unbegun}
use Rattle.pt_host.specs.Events.{EventHead, event_head}
use Rattle.pt_host.specs.Machine.{MachineWords, host_io_words}
use Rattle.pt_host.specs.Operation.{Makes}
use Rattle.pt_host.specs.ReadSteps.{FailsBetween}
use Rattle.pt_host.specs.SeenByLengths.{FailsSeen}
use Rattle.pt_host.specs.Served.{Serves}
use Rattle.pt_host.specs.declared.operation.Conclusion.{Conclusion}
use Rattle.pt_host.proofs.guarded.make_recorded.Goals as goal

pub returns-in-Ok : goal.returns-in-Ok
returns-in-Ok g c =
    let words : MachineWords g.row.H.Denot = record {
      Lock = g.row.H-Lock.Denot;
      Store = g.row.H-Store.Denot;
      Dest = g.row.H-Folder.Denot;
      DestFile = g.row.H-Folder-File.Denot;
      Output = g.row.H-Output.Denot;
      OutputFile = g.row.H-File.Denot;
      places = g.H.Places.does;
      host = g.H.Host.does;
      syncs = g.H.File.Syncs.syncs;
      writes = g.H.Output.Writes.writes;
      puts = g.H.File.SyncsOutput.puts;
      written = host_io_words g.H.Store.System.forest g.H.Store.System.failing g.H.Folder.System.kept g.H.Output.Write.contents;
      read = host_io_words g.H.Store.System.forest g.H.Store.System.failing g.H.Folder.System.forest g.H.Output.Write.contents;
      serves = Serves g.H.Folder.System g.H.Folder.File.Handle g.H.Folder.File.Input g.H.Folder.Dir.Input;
      fails = FailsBetween g.H.Folder.System g.H.Folder.File.Handle g.H.Folder.File.Input g.H.Folder.Dir.Input;
      fails_seen = FailsSeen g.H.Folder.System g.H.Folder.File.Handle g.H.Folder.File.Input g.H.Folder.Dir.Input;
    } in
    let reading : FileWords = record {
      File = g.row.R-Opened.Denot;
      lengths = g.R.Reads.lengths c.args.rt.now;
      opens = g.R.Reads.opens c.args.rt.now;
      goes = g.R.Opened.Handle.goes;
      reads = g.R.Opened.Input.reads;
    } in
    let at : List ℕ × List ℕ = (c.args.folders.store.now, c.args.folders.folder.now) in
    let makes : g.row.H.Denot → g.row.H.Denot → Conclusion → Type 0 =
    λ old new. Makes words (AsksEnd reading) g.O.Operation (at, c.args.operation) (old, new) in
    let head : EventHead = event_head (g.O.Operation.word_of c.args.operation) at g.O.Operation.with_dest
    (g.O.Operation.options_of c.args.operation) in
    recorded words head makes (g.O.Operation.feedback_of c.args.operation).event c.in-Ok.event c.args.host.now c.begin_event.new.host
    c.make_told-made.new.host c.end_event.new.host c.make_told-made.result c.end_event.result c.in-Ok.ensures c.make_told-made.ensures
    c.end_event.ensures

pub returns-in-Err : goal.returns-in-Err
returns-in-Err g c =
    let words : MachineWords g.row.H.Denot = record {
      Lock = g.row.H-Lock.Denot;
      Store = g.row.H-Store.Denot;
      Dest = g.row.H-Folder.Denot;
      DestFile = g.row.H-Folder-File.Denot;
      Output = g.row.H-Output.Denot;
      OutputFile = g.row.H-File.Denot;
      places = g.H.Places.does;
      host = g.H.Host.does;
      syncs = g.H.File.Syncs.syncs;
      writes = g.H.Output.Writes.writes;
      puts = g.H.File.SyncsOutput.puts;
      written = host_io_words g.H.Store.System.forest g.H.Store.System.failing g.H.Folder.System.kept g.H.Output.Write.contents;
      read = host_io_words g.H.Store.System.forest g.H.Store.System.failing g.H.Folder.System.forest g.H.Output.Write.contents;
      serves = Serves g.H.Folder.System g.H.Folder.File.Handle g.H.Folder.File.Input g.H.Folder.Dir.Input;
      fails = FailsBetween g.H.Folder.System g.H.Folder.File.Handle g.H.Folder.File.Input g.H.Folder.Dir.Input;
      fails_seen = FailsSeen g.H.Folder.System g.H.Folder.File.Handle g.H.Folder.File.Input g.H.Folder.Dir.Input;
    } in
    let reading : FileWords = record {
      File = g.row.R-Opened.Denot;
      lengths = g.R.Reads.lengths c.args.rt.now;
      opens = g.R.Reads.opens c.args.rt.now;
      goes = g.R.Opened.Handle.goes;
      reads = g.R.Opened.Input.reads;
    } in
    let at : List ℕ × List ℕ = (c.args.folders.store.now, c.args.folders.folder.now) in
    let makes : g.row.H.Denot → g.row.H.Denot → Conclusion → Type 0 =
    λ old new. Makes words (AsksEnd reading) g.O.Operation (at, c.args.operation) (old, new) in
    let head : EventHead = event_head (g.O.Operation.word_of c.args.operation) at g.O.Operation.with_dest
    (g.O.Operation.options_of c.args.operation) in
    unbegun words head makes (g.O.Operation.feedback_of c.args.operation).event c.in-Err.fault c.args.host.now c.begin_event.new.host c.end_unbegun.new.host
    c.end_unbegun.result c.in-Err.ensures c.end_unbegun.ensures.status c.end_unbegun.ensures.told

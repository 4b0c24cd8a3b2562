use Rattle.std.proofs.Common.{ℕ, List, Ok, rules}
use Rattle.pt_messages.specs.Expected.{AsksEnd}
use Rattle.pt_messages.specs.Reading.{FileWords}
use Rattle.pt_host.proofs.Released.{released, unreleased}
use Rattle.pt_host.specs.Events.{EventHead, IsRecorded, event_head}
use Rattle.pt_host.specs.Machine.{MachineWords, host_io_words}
use Rattle.pt_host.specs.Operation.{Makes}
use Rattle.pt_host.specs.ReadSteps.{FailsBetween}
use Rattle.pt_host.specs.SeenByLengths.{FailsSeen}
use Rattle.pt_host.specs.Served.{Serves}
use Rattle.pt_host.specs.declared.operation.Conclusion.{Conclusion}
use Rattle.pt_host.proofs.guarded.make_guarded.Goals as goal

pub returns-in-Held : goal.returns-in-Held
returns-in-Held g c =
    let words : MachineWords g.row.H.Denot = record {
      Lock = g.row.H-Lock.Denot;
      Store = g.row.H-Store.Denot;
      Dest = g.row.H-Folder.Denot;
      DestFile = g.row.H-Folder-File.Denot;
      Output = g.row.H-Output.Denot;
      OutputFile = g.row.H-File.Denot;
      places = g.H.Places.does;
      host = g.H.Host.does;
      syncs = g.H.File.Syncs.syncs;
      writes = g.H.Output.Writes.writes;
      puts = g.H.File.SyncsOutput.puts;
      written = host_io_words g.H.Store.System.forest g.H.Store.System.failing g.H.Folder.System.kept g.H.Output.Write.contents;
      read = host_io_words g.H.Store.System.forest g.H.Store.System.failing g.H.Folder.System.forest g.H.Output.Write.contents;
      serves = Serves g.H.Folder.System g.H.Folder.File.Handle g.H.Folder.File.Input g.H.Folder.Dir.Input;
      fails = FailsBetween g.H.Folder.System g.H.Folder.File.Handle g.H.Folder.File.Input g.H.Folder.Dir.Input;
      fails_seen = FailsSeen g.H.Folder.System g.H.Folder.File.Handle g.H.Folder.File.Input g.H.Folder.Dir.Input;
    } in
    let reading : FileWords = record {
      File = g.row.R-Opened.Denot;
      lengths = g.R.Reads.lengths c.args.rt.now;
      opens = g.R.Reads.opens c.args.rt.now;
      goes = g.R.Opened.Handle.goes;
      reads = g.R.Opened.Input.reads;
    } in
    let at : List ℕ × List ℕ = (c.args.folders.store.now, c.args.folders.folder.now) in
    let makes : g.row.H.Denot → g.row.H.Denot → Conclusion → Type 0 =
    λ old new. Makes words (AsksEnd reading) g.O.Operation (at, c.args.operation) (old, new) in
    let head : EventHead = event_head (g.O.Operation.word_of c.args.operation) at g.O.Operation.with_dest
    (g.O.Operation.options_of c.args.operation) in
    let recorded : g.row.H.Denot → g.row.H.Denot → ℕ → Type 0 =
    IsRecorded words head (g.O.Operation.feedback_of c.args.operation).event makes in
    let mid = c.check_guard.new.host in
    let after = c.make_recorded-status.new.host in
    let status = c.make_recorded-status.result in (
      Ok c.in-Ok.lock,
      mid,
      c.in-Ok.ensures,
      released words recorded c.in-Ok.lock mid after c.release.new.self status c.in-Held.lock c.in-Held.is
          c.make_recorded-status.ensures c.release.ensures,
    )

pub returns-in-Unheld : goal.returns-in-Unheld
returns-in-Unheld g c =
    let words : MachineWords g.row.H.Denot = record {
      Lock = g.row.H-Lock.Denot;
      Store = g.row.H-Store.Denot;
      Dest = g.row.H-Folder.Denot;
      DestFile = g.row.H-Folder-File.Denot;
      Output = g.row.H-Output.Denot;
      OutputFile = g.row.H-File.Denot;
      places = g.H.Places.does;
      host = g.H.Host.does;
      syncs = g.H.File.Syncs.syncs;
      writes = g.H.Output.Writes.writes;
      puts = g.H.File.SyncsOutput.puts;
      written = host_io_words g.H.Store.System.forest g.H.Store.System.failing g.H.Folder.System.kept g.H.Output.Write.contents;
      read = host_io_words g.H.Store.System.forest g.H.Store.System.failing g.H.Folder.System.forest g.H.Output.Write.contents;
      serves = Serves g.H.Folder.System g.H.Folder.File.Handle g.H.Folder.File.Input g.H.Folder.Dir.Input;
      fails = FailsBetween g.H.Folder.System g.H.Folder.File.Handle g.H.Folder.File.Input g.H.Folder.Dir.Input;
      fails_seen = FailsSeen g.H.Folder.System g.H.Folder.File.Handle g.H.Folder.File.Input g.H.Folder.Dir.Input;
    } in
    let reading : FileWords = record {
      File = g.row.R-Opened.Denot;
      lengths = g.R.Reads.lengths c.args.rt.now;
      opens = g.R.Reads.opens c.args.rt.now;
      goes = g.R.Opened.Handle.goes;
      reads = g.R.Opened.Input.reads;
    } in
    let at : List ℕ × List ℕ = (c.args.folders.store.now, c.args.folders.folder.now) in
    let makes : g.row.H.Denot → g.row.H.Denot → Conclusion → Type 0 =
    λ old new. Makes words (AsksEnd reading) g.O.Operation (at, c.args.operation) (old, new) in
    let head : EventHead = event_head (g.O.Operation.word_of c.args.operation) at g.O.Operation.with_dest
    (g.O.Operation.options_of c.args.operation) in
    let recorded : g.row.H.Denot → g.row.H.Denot → ℕ → Type 0 =
    IsRecorded words head (g.O.Operation.feedback_of c.args.operation).event makes in
    let mid = c.check_guard.new.host in
    let after = c.make_recorded-status.new.host in
    let status = c.make_recorded-status.result in (
      Ok c.in-Ok.lock,
      mid,
      c.in-Ok.ensures,
      unreleased words recorded c.in-Ok.lock mid after status c.in-Unheld.field-0 c.in-Unheld.is c.make_recorded-status.ensures,
    )

pub returns-in-Err : goal.returns-in-Err
returns-in-Err g c = search rules

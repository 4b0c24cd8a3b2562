use Rattle.std.proofs.Common.{Err, Ok, refl}
use Rattle.pt_messages.specs.EventMembers.{event_members}
use Rattle.pt_host.proofs.Recorded.{ends_so}
use Rattle.pt_host.specs.Events.{IsEndText}
use Rattle.pt_host.specs.Machine.{MachineWords, host_io_words}
use Rattle.pt_host.specs.ReadSteps.{FailsBetween}
use Rattle.pt_host.specs.SeenByLengths.{FailsSeen}
use Rattle.pt_host.specs.Served.{Serves}
use Rattle.pt_host.proofs.event.end_event.Goals as goal

pub returns-in-Ok : goal.returns-in-Ok
returns-in-Ok g c =
    let words : MachineWords g.row.H.Denot = record {
      Lock = g.row.H-Lock.Denot;
      Store = g.row.H-Store.Denot;
      Dest = g.row.H-Folder.Denot;
      DestFile = g.row.H-Folder-File.Denot;
      Output = g.row.H-Output.Denot;
      OutputFile = g.row.H-File.Denot;
      places = g.H.Places.does;
      host = g.H.Host.does;
      syncs = g.H.File.Syncs.syncs;
      writes = g.H.Output.Writes.writes;
      puts = g.H.File.SyncsOutput.puts;
      written = host_io_words g.H.Store.System.forest g.H.Store.System.failing g.H.Folder.System.kept g.H.Output.Write.contents;
      read = host_io_words g.H.Store.System.forest g.H.Store.System.failing g.H.Folder.System.forest g.H.Output.Write.contents;
      serves = Serves g.H.Folder.System g.H.Folder.File.Handle g.H.Folder.File.Input g.H.Folder.Dir.Input;
      fails = FailsBetween g.H.Folder.System g.H.Folder.File.Handle g.H.Folder.File.Input g.H.Folder.Dir.Input;
      fails_seen = FailsSeen g.H.Folder.System g.H.Folder.File.Handle g.H.Folder.File.Input g.H.Folder.Dir.Input;
    } in
    let file = c.in-Some.file in rw c.in-Some.is (
      Ok c.in-Ok.field-0,
      c.finish.new.host,
      ends_so words (file.path, file.part) (c.as_str.result.now, c.as_str-2.result.now) (IsEndText (event_members file.event) c.args.made.now)
          c.end_text.result c.args.host.now c.finish.new.host (Ok c.in-Ok.field-0) (λ i. (c.as_str.ensures i, c.as_str-2.ensures i))
          c.end_text.ensures c.in-Ok.ensures,
      refl,
      refl,
    )

pub returns : goal.returns
returns g c =
    let words : MachineWords g.row.H.Denot = record {
      Lock = g.row.H-Lock.Denot;
      Store = g.row.H-Store.Denot;
      Dest = g.row.H-Folder.Denot;
      DestFile = g.row.H-Folder-File.Denot;
      Output = g.row.H-Output.Denot;
      OutputFile = g.row.H-File.Denot;
      places = g.H.Places.does;
      host = g.H.Host.does;
      syncs = g.H.File.Syncs.syncs;
      writes = g.H.Output.Writes.writes;
      puts = g.H.File.SyncsOutput.puts;
      written = host_io_words g.H.Store.System.forest g.H.Store.System.failing g.H.Folder.System.kept g.H.Output.Write.contents;
      read = host_io_words g.H.Store.System.forest g.H.Store.System.failing g.H.Folder.System.forest g.H.Output.Write.contents;
      serves = Serves g.H.Folder.System g.H.Folder.File.Handle g.H.Folder.File.Input g.H.Folder.Dir.Input;
      fails = FailsBetween g.H.Folder.System g.H.Folder.File.Handle g.H.Folder.File.Input g.H.Folder.Dir.Input;
      fails_seen = FailsSeen g.H.Folder.System g.H.Folder.File.Handle g.H.Folder.File.Input g.H.Folder.Dir.Input;
    } in
    let file = c.in-Some.file in rw c.in-Some.is (
      Err c.in-Err.fault,
      c.finish.new.host,
      ends_so words (file.path, file.part) (c.as_str.result.now, c.as_str-2.result.now) (IsEndText (event_members file.event) c.args.made.now)
          c.end_text.result c.args.host.now c.finish.new.host (Err c.in-Err.fault) (λ i. (c.as_str.ensures i, c.as_str-2.ensures i))
          c.end_text.ensures c.in-Err.ensures,
      c.tell.ensures,
      refl,
    )

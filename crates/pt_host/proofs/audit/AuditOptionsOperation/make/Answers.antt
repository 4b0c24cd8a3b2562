use Rattle.std.proofs.Common.{subst}
use Rattle.pt_messages.specs.Expected.{AsksEnd}
use Rattle.pt_messages.specs.Reading.{FileWords}
use Rattle.pt_host.proofs.AskedAudits.{by_bytes, by_lengths}
use Rattle.pt_host.specs.Audits.{audit_call}
use Rattle.pt_host.specs.Machine.{MachineWords, host_io_words}
use Rattle.pt_host.specs.ReadSteps.{FailsBetween}
use Rattle.pt_host.specs.SeenByLengths.{FailsSeen}
use Rattle.pt_host.specs.Served.{Serves}
use Rattle.pt_host.proofs.audit.AuditOptionsOperation.make.Goals as goal

pub returns : goal.returns
returns g c =
    let words : MachineWords g.row.H.Denot = record {
      Lock = g.row.H-Lock.Denot;
      Store = g.row.H-Store.Denot;
      Dest = g.row.H-Folder.Denot;
      DestFile = g.row.H-Folder-File.Denot;
      Output = g.row.H-Output.Denot;
      OutputFile = g.row.H-File.Denot;
      places = g.H.Places.does;
      host = g.H.Host.does;
      syncs = g.H.File.Syncs.syncs;
      writes = g.H.Output.Writes.writes;
      puts = g.H.File.SyncsOutput.puts;
      written = host_io_words g.H.Store.System.forest g.H.Store.System.failing g.H.Folder.System.kept g.H.Output.Write.contents;
      read = host_io_words g.H.Store.System.forest g.H.Store.System.failing g.H.Folder.System.forest g.H.Output.Write.contents;
      serves = Serves g.H.Folder.System g.H.Folder.File.Handle g.H.Folder.File.Input g.H.Folder.Dir.Input;
      fails = FailsBetween g.H.Folder.System g.H.Folder.File.Handle g.H.Folder.File.Input g.H.Folder.Dir.Input;
      fails_seen = FailsSeen g.H.Folder.System g.H.Folder.File.Handle g.H.Folder.File.Input g.H.Folder.Dir.Input;
    } in
    let call = audit_call c.args.self c.args.folders.store.now c.args.folders.folder.now in
    let reading : FileWords = record {
      File = g.row.R-Opened.Denot;
      lengths = g.R.Reads.lengths c.args.rt.now;
      opens = g.R.Reads.opens c.args.rt.now;
      goes = g.R.Opened.Handle.goes;
      reads = g.R.Opened.Input.reads;
    } in (
      subst (AsksEnd reading) c.expected_log.ensures c.lines_expected.ensures.asks,
      c.lend-host_io.result,
      c.lend-host_io.new.self,
      c.lend-host_io.ensures,
      c.audit_over-host_io.result.0,
      by_bytes words (AsksEnd reading) call _ _ _ _ c.if-self.false c.audit_over-host_io.ensures,
      c.take_back-2.ensures,
    )

pub returns-then-self : goal.returns-then-self
returns-then-self g c =
    let words : MachineWords g.row.H.Denot = record {
      Lock = g.row.H-Lock.Denot;
      Store = g.row.H-Store.Denot;
      Dest = g.row.H-Folder.Denot;
      DestFile = g.row.H-Folder-File.Denot;
      Output = g.row.H-Output.Denot;
      OutputFile = g.row.H-File.Denot;
      places = g.H.Places.does;
      host = g.H.Host.does;
      syncs = g.H.File.Syncs.syncs;
      writes = g.H.Output.Writes.writes;
      puts = g.H.File.SyncsOutput.puts;
      written = host_io_words g.H.Store.System.forest g.H.Store.System.failing g.H.Folder.System.kept g.H.Output.Write.contents;
      read = host_io_words g.H.Store.System.forest g.H.Store.System.failing g.H.Folder.System.forest g.H.Output.Write.contents;
      serves = Serves g.H.Folder.System g.H.Folder.File.Handle g.H.Folder.File.Input g.H.Folder.Dir.Input;
      fails = FailsBetween g.H.Folder.System g.H.Folder.File.Handle g.H.Folder.File.Input g.H.Folder.Dir.Input;
      fails_seen = FailsSeen g.H.Folder.System g.H.Folder.File.Handle g.H.Folder.File.Input g.H.Folder.Dir.Input;
    } in
    let call = audit_call c.args.self c.args.folders.store.now c.args.folders.folder.now in
    let reading : FileWords = record {
      File = g.row.R-Opened.Denot;
      lengths = g.R.Reads.lengths c.args.rt.now;
      opens = g.R.Reads.opens c.args.rt.now;
      goes = g.R.Opened.Handle.goes;
      reads = g.R.Opened.Input.reads;
    } in (
      subst (AsksEnd reading) c.expected_log.ensures c.lines_expected.ensures.asks,
      c.lend-host_io.result,
      c.lend-host_io.new.self,
      c.lend-host_io.ensures,
      c.audit_by_lengths-host_io.result.0,
      by_lengths words (AsksEnd reading) call _ _ _ _ c.if-self.true c.audit_by_lengths-host_io.ensures,
      c.take_back.ensures,
    )

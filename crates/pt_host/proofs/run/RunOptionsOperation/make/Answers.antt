use Rattle.std.proofs.Common.{Ok, subst}
use Rattle.pt_messages.specs.Expected.{AsksEnd}
use Rattle.pt_messages.specs.Reading.{FileWords}
use Rattle.pt_host.proofs.Begun.{begun}
use Rattle.pt_host.specs.Machine.{host_io_words}
use Rattle.pt_host.specs.Made.{run_call}
use Rattle.pt_host.proofs.run.RunOptionsOperation.make.Goals as goal

pub returns : goal.returns
returns g c =
    let reading : FileWords = record {
      File = g.row.R-Opened.Denot;
      lengths = g.R.Reads.lengths c.args.rt.now;
      opens = g.R.Reads.opens c.args.rt.now;
      goes = g.R.Opened.Handle.goes;
      reads = g.R.Opened.Input.reads;
    } in
    let made = c.open_devices-devices.ensures in
    let words = host_io_words g.H.Store.System.forest g.H.Store.System.failing g.H.Folder.System.kept g.H.Output.Write.contents in
    let call = run_call c.args.self c.args.folders.store.now c.args.folders.folder.now in (
      Ok c.in-Ok.file,
      c.synced_output.new.host,
      c.in-Ok.ensures,
      (
        subst (AsksEnd reading) c.expected_log.ensures c.lines_expected.ensures.asks,
        c.lend-host_io.result,
        c.lend-host_io.new.self,
        c.lend-host_io.ensures,
        c.run_over-host_io.result.0,
        begun words g.H.Store.File.Input.bytes g.H.Store.File.Handle.fails call c.lend-host_io.result _ _ _ _ _ _ _ _ _ _ _ _
            made.store made.unread made.folder made.unwritten made.synced made.log _ _
            (λ failed served. (
              c.open_devices-devices.result.dest,
              record {
                over = made.folder;
                begun = (made.unwritten.0, made.synced.1);
                unfailed = made.unwritten.1;
                synced = made.synced.0;
                longest = made.longest;
              },
              served,
            ))
            c.run_over-host_io.result.0 c.run_over-host_io.result.1 c.run_over-host_io.ensures.runs,
        rw (made.log_synced, made.log.0) at (c.run_over-host_io.ensures.logged made.log.1),
        rw (made.log_synced, made.log.0) at (c.run_over-host_io.ensures.log_fails made.log.1),
        c.take_back.ensures,
      ),
    )

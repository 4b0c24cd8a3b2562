use Rattle.std.proofs.Common.{subst}
use Rattle.pt_messages.specs.Expected.{AsksEnd}
use Rattle.pt_messages.specs.Reading.{FileWords}
use Rattle.pt_host.proofs.checking.CheckOptionsOperation.make.Goals as goal

pub returns : goal.returns
returns g c =
    let reading : FileWords = record {
      File = g.row.R-Opened.Denot;
      lengths = g.R.Reads.lengths c.args.rt.now;
      opens = g.R.Reads.opens c.args.rt.now;
      goes = g.R.Opened.Handle.goes;
      reads = g.R.Opened.Input.reads;
    } in (
      subst (AsksEnd reading) c.expected_log.ensures c.entries_expected.ensures.asks,
      c.lend-host_io.result,
      c.lend-host_io.new.self,
      c.lend-host_io.ensures,
      c.check_over-host_io.result.0,
      c.check_over-host_io.ensures,
      c.take_back.ensures,
    )

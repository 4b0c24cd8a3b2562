use Rattle.std.proofs.Common.{◌∙◌, ℕ, List, subst}
use Rattle.pt_cli.specs.Calls.{WritesText}
use Rattle.pt_cli.proofs.program.tell.Goals as goal

pub returns : goal.returns
returns g c =
    let before = g.H.Output.Write.contents c.lend-host_io.result.output in
    let after = g.H.Output.Write.contents c.write_out-written.new.out in
    let done = c.write_out-written.ensures in (
      c.lend-host_io.result,
      c.lend-host_io.new.self,
      c.lend-host_io.ensures,
      c.write_out-written.new.out,
      c.write_out-written.result,
      subst (λ (t : List ℕ). WritesText t before after c.write_out-written.result) (c.as_bytes.ensures.value ∙ c.as_str.ensures)
          (record { ok = done.ok; err = done.part }),
      c.take_back.new.self,
      c.take_back.ensures,
      c.report_text.ensures,
    )

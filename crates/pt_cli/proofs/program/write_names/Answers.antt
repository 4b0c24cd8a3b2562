use Rattle.std.proofs.Common.{ℕ, List, subst}
use Rattle.pt_cli.specs.Calls.{WritesNames}
use Rattle.pt_cli.proofs.program.write_names.Goals as goal

pub returns : goal.returns
returns g c =
    let asked = c.args.asked.now in
    let prefix = c.as_str-prefix.result.now in
    let before = g.H.Output.Write.contents c.lend-host_io.result.output in
    let after = g.H.Output.Write.contents c.names_to-written.new.out in
    let written = c.names_to-written.result in
    let done = c.names_to-written.ensures in (
      c.lend-host_io.result,
      c.lend-host_io.new.self,
      c.lend-host_io.ensures,
      c.names_to-written.new.out,
      written,
      subst (λ (p : List ℕ). WritesNames asked.layout p asked.id before after written) c.as_str-prefix.ensures
          (subst (λ (i : List ℕ). WritesNames asked.layout prefix i before after written) c.as_str-id.ensures
          (record { empty = done.empty; ok = done.ok; err = done.err })),
      c.take_back.new.self,
      c.take_back.ensures,
      c.report_names.ensures.told,
      c.report_names.ensures.status,
    )

use Rattle.pt_cli.proofs.names_of_input.write_names_of_input.Goals as goal

pub returns : goal.returns
returns g c = (
  c.input-input.result,
  c.input-input.new.self,
  c.input-input.ensures,
  c.lend-host_io.result,
  c.lend-host_io.new.self,
  c.lend-host_io.ensures,
  c.list_names-listed.new.input,
  c.list_names-listed.new.out,
  c.list_names-listed.result,
  c.list_names-listed.ensures,
  c.take_back.new.self,
  c.take_back.ensures,
  c.report_list.ensures.told,
  c.report_list.ensures.status,
)

use Rattle.pt_tree.proofs.Growing.{grows_on}
use Rattle.pt_extra.proofs.BothWays.{begun, stops_rest, tells_rest}
use Rattle.pt_extra.proofs.auditing.tell_rest.Goals as goal

pub returns-in-Ok-clause-told : goal.returns-in-Ok-clause-told
returns-in-Ok-clause-told g c =
    rw c.into_devices-devices.ensures.1
    (tells_rest g.S.Source g.R.Source g.L.Log c.new-walk.result c.run-found.new.self c.args.devices c.args.audited
    (begun c.new-walk.ensures.devices c.new-walk.ensures.against c.new-walk.ensures.numbers)
    c.in-Ok.numbers _ c.tell_end_of_both-ran.result c.in-Ok.ensures.told c.in-Ok.ensures.numbers
    (rw c.into_devices-devices.ensures.2 at c.tell_end_of_both-ran.ensures.told) (rw c.into_devices-devices.ensures.2 at c.tell_end_of_both-ran.ensures.part))

pub returns-in-Ok-clause-log : goal.returns-in-Ok-clause-log
returns-in-Ok-clause-log g c =
    let walked = rw c.new-walk.ensures.devices.2 at c.run-found.ensures.keeps.log_grows in
    let ended = rw c.into_devices-devices.ensures.2 at c.tell_end_of_both-ran.ensures.log in (
      g.met.L.Log.keeps_on _ _ _ walked.0 ended.0,
      grows_on _ _ _ walked.1 ended.1,
    )

pub returns-in-Err-clause-told : goal.returns-in-Err-clause-told
returns-in-Err-clause-told g c =
    rw c.into_devices-devices.ensures.1
    (rw c.into_devices-devices.ensures.2
    (stops_rest g.S.Source g.R.Source g.L.Log c.new-walk.result c.run-found.new.self c.args.devices c.args.audited
    (begun c.new-walk.ensures.devices c.new-walk.ensures.against c.new-walk.ensures.numbers) c.in-Err.fault c.in-Err.ensures.stops))

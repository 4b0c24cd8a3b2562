use Rattle.std.proofs.Common.{[]}
use Rattle.pt_folder.specs.Calls.{IsThere}
use Rattle.pt_rehearsal.proofs.Staying.{looked, stays_on, unasked}
use Rattle.pt_rehearsal.proofs.rehearsal.may_make_dir.Goals as goal

pub returns-in_err-look_at_folder-clause-stays : goal.returns-in_err-look_at_folder-clause-stays
returns-in_err-look_at_folder-clause-stays g c =
    let may = c.may_make in
    let look = c.look_at_folder in
    stays_on c.args.dest.now may.new.self look.new.self
    (unasked c.args.dest.now may.new.self may.ensures.call.keeps may.ensures.call.writing may.ensures.call.unsynced may.ensures.system)
    (looked may.new.self look.new.self look.ensures.call.keeps look.ensures.call.writing look.ensures.call.unsynced g.met.S.System.kind_law IsThere []
    look.result look.ensures.asked)

pub returns-in_ok-look_at_folder-clause-stays : goal.returns-in_ok-look_at_folder-clause-stays
returns-in_ok-look_at_folder-clause-stays g c =
    let may = c.may_make in
    let look = c.look_at_folder in
    stays_on c.args.dest.now may.new.self look.new.self
    (unasked c.args.dest.now may.new.self may.ensures.call.keeps may.ensures.call.writing may.ensures.call.unsynced may.ensures.system)
    (looked may.new.self look.new.self look.ensures.call.keeps look.ensures.call.writing look.ensures.call.unsynced g.met.S.System.kind_law IsThere []
    look.result look.ensures.asked)

-- Each call of a source, and where it fails.
use Rattle.std.proofs.Common.{ap, ◌∙◌}
use Rattle.std.proofs.lemmas.Result.{IfOk-weaker, on_err_weaker}
use Rattle.pt_tree.proofs.Told.{by_result}
use Rattle.pt_folder.specs.Reading.{unread_open}
use Rattle.pt_folder.proofs.FailsOn.{reads_as}
use Rattle.pt_folder.proofs.FailsTold.{lists_as, looks_as, opens_as}
use Rattle.pt_folder.proofs.SourceTold.{can_list, can_look, can_open}
use Rattle.pt_folder.proofs.source.HostSourceSource.TheImpl.Goals as goal

pub list-tells : goal.list-tells
list-tells g c =
    let own = c.ensures in
    let sys = g.S.System in
    let laws = g.met.S.System in
    let old = c.args.self.now in
    let new = c.new.self.now in
    let folder = old.folder.path.now in
    let p = c.args.path.now in
    let can = can_list (unread_open g.S.File.Input.bytes old.reading) (sys.forest old.syscalls.system folder) p c.requires in
    record {
      listing = own.listing;
      same = own.same;
      fails = lists_as sys.forest sys.failing g.S.File.Handle.fails laws.fails_told_law old.syscalls.system folder sys g.S.Dir.Input laws.list_fails_law
          new.syscalls.system p can c.result old.reading new.reading (sys.failing new.syscalls.system new.folder.path.now) (ap (λ o. o.0) own.reading)
          own.call.fails (IfOk-weaker c.result _ _ (λ listing h. h.1) own.listed) own.fault;
      failures = own.call.failures;
      calls = own.call.calls;
      keeps = record { folder = own.call.folder; fails = own.call.fails };
    }

pub kind-tells : goal.kind-tells
kind-tells g c =
    let own = c.ensures in
    let sys = g.S.System in
    let laws = g.met.S.System in
    let old = c.args.self.now in
    let new = c.new.self.now in
    let folder = old.folder.path.now in
    let p = c.args.path.now in
    let can = can_look (unread_open g.S.File.Input.bytes old.reading) (sys.forest old.syscalls.system folder) p c.requires in
    record {
      kind = own.kind;
      same = own.same;
      fails = looks_as sys.forest sys.failing g.S.File.Handle.fails laws.fails_told_law old.syscalls.system folder sys.looks laws.look_fails_law
          new.syscalls.system p c.result old.reading new.reading (sys.failing new.syscalls.system new.folder.path.now) (ap (λ o. o.0) own.reading)
          own.call.fails can own.asked;
      failures = own.call.failures;
      calls = own.call.calls;
      keeps = record { folder = own.call.folder; fails = own.call.fails };
    }

pub open-tells : goal.open-tells
open-tells g c =
    let own = c.ensures in
    let sys = g.S.System in
    let laws = g.met.S.System in
    let old = c.args.self.now in
    let new = c.new.self.now in
    let folder = old.folder.path.now in
    let p = c.args.path.now in
    let can = can_open (unread_open g.S.File.Input.bytes old.reading) (sys.forest old.syscalls.system folder) p c.requires in
    record {
      opened = own.opened;
      same = own.same;
      fails = opens_as sys.forest sys.failing g.S.File.Handle.fails laws.fails_told_law old.syscalls.system folder sys laws.fails_still_law laws.look_law
          laws.look_fails_law laws.open_fails_law new.syscalls.system p old.reading new.reading can c.result
          (sys.failing new.syscalls.system new.folder.path.now) own.call.fails (on_err_weaker c.result (ap (λ o. o.0)) own.reading) own.asked;
      failures = own.call.failures;
      calls = own.call.calls;
      keeps = record { folder = own.call.folder; fails = own.call.fails };
    }

pub next-tells : goal.next-tells
next-tells g c =
    let own = c.ensures in
    let sys = g.S.System in
    let laws = g.met.S.System in
    let old = c.args.self.now in
    let new = c.new.self.now in
    let fails = ap (λ s. sys.failing s new.folder.path.now) own.call.system ∙ ap (λ f. sys.failing old.syscalls.system f.path.now) own.call.folder in
    record {
      block = by_result c.result _ _ own.block own.empty;
      moved = own.moved;
      same = own.same;
      fails = reads_as sys.forest sys.failing g.S.File.Handle.fails laws.fails_told_law g.S.File.Input.bytes g.S.File.Input.left g.S.File.Input.reads
          g.S.File.Handle.goes g.met.S.File.Handle.fails_law old.syscalls.system old.folder.path.now
          (sys.failing new.syscalls.system new.folder.path.now) old.reading new.reading c.new.block.now.items c.result fails c.requires old.stands own.reads;
      failures = own.call.failures;
      calls = own.call.calls;
      keeps = record { folder = own.call.folder; fails = fails };
    }

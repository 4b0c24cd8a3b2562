use Rattle.std.proofs.lemmas.Result.{IfOk-weaker}
use Rattle.pt_folder.specs.Reading.{unread_open}
use Rattle.pt_folder.proofs.SourceTold.{can_list, is_listed}
use Rattle.pt_folder.proofs.source.HostSourceListsNamed.list_named.Goals as goal

pub list_named-listing-requires : goal.list_named-listing-requires
list_named-listing-requires g c =
    let self = c.args.self.now in
    can_list (unread_open g.S.File.Input.bytes self.reading) (g.S.System.forest self.syscalls.system self.folder.path.now) c.args.path.now c.requires

pub returns-clause-listing : goal.returns-clause-listing
returns-clause-listing g c =
    let self = c.args.self.now in
    rw c.count_failure.ensures.same (IfOk-weaker c.list_named-listing.result _ _
    (λ items h. is_listed (unread_open g.S.File.Input.bytes self.reading) (g.S.System.forest self.syscalls.system self.folder.path.now) c.args.path.now
    items h) c.list_named-listing.ensures.told)

use Rattle.pt_folder.proofs.source.HostSourceListsNamed.TheImpl.Goals as goal

pub list_named-tells : goal.list_named-tells
list_named-tells g c =
    let own = c.ensures in record {
      listing = own.listing;
      same = own.same;
      failures = own.call.failures;
      calls = own.call.calls;
      keeps = record { folder = own.call.folder; fails = own.call.fails };
    }

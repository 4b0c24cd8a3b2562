use Rattle.pt_folder.proofs.Parts.{parts_refused, parts_taken}
use Rattle.pt_folder.proofs.parting.PartitionTakes.TheImpl.Goals as goal

pub take-tells : goal.take-tells
take-tells c =
    let own = c.ensures in
    let name = c.args.bytes.now in
    let old = c.args.self.now in record {
      taken = parts_taken c.result name old c.new.self.now own.named own.refused own.most;
      fault = parts_refused c.result name old own.fault;
      kept = own.kept;
    }

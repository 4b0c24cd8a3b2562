use Rattle.pt_folder.specs.UnsyncedChange.{unsynced_by_close}
use Rattle.pt_tree.specs.declared.faults.TreeFault.TheVariants.{Device}
use Rattle.std.specs.Prelude.{Err}
use Rattle.std.proofs.Common.{◌∙◌, ap, sym}
use Rattle.pt_folder.proofs.writing.close.Goals as goal

pub returns-in-Err-clause-unsynced : goal.returns-in-Err-clause-unsynced
returns-in-Err-clause-unsynced g c = ap (λ w. unsynced_by_close c.args.unsynced.now w (Err Device)) (sym c.in-Some.is ∙ c.take.ensures.value)

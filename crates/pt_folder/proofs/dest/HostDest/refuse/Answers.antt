use Rattle.pt_tree.specs.Failures.{HasRisen}
use Rattle.std.proofs.Common.{arith, refl}
use Rattle.pt_folder.proofs.dest.HostDest.refuse.Goals as goal

pub invariant_of-self : goal.invariant_of-self
invariant_of-self g c =
    let self = c.args.self.now in
    let risen : HasRisen self.failures c.count_failure.new.failures = c.count_failure.ensures.counted in
    record {
      placed = self.placed;
      wanted = self.wanted;
      back = self.back;
      risen = λ s is. omega (arith, risen);
    }

pub returns-clause-call : goal.returns-clause-call
returns-clause-call g c = record {
  keeps = (refl, (refl, refl));
  failures = rw c.count_failure.ensures.same c.count_failure.ensures.counted;
  unsynced = refl;
  writing = refl;
  at = refl;
}

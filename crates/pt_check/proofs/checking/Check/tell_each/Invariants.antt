use Rattle.std.proofs.Common.{◌≡◌, map, string_bytes, take}
use Rattle.pt_check.specs.Visits.{Keeps, TellsEach, check_state}
use Rattle.pt_check.proofs.checking.Check.tell_each.Given as goal

-- the reasons so far were told
abbrev pub invariant-loop-reason : goal.invariant-loop-reason
invariant-loop-reason g l = record {
  keeps : Keeps g.S.Source g.L.Log l.fn.self l.self;
  source : l.self.source ≡ l.fn.self.source;
  unfailed : g.L.Log.failed l.self.log ≡ g.L.Log.failed l.fn.self.log;
  told : TellsEach l.path (map (λ reason. string_bytes reason) (take l.reason-index l.reasons))
      (check_state g.S.Source g.L.Log l.fn.self) (check_state g.S.Source g.L.Log l.self);
}

use Rattle.std.proofs.Common.{◌≡◌, map, string_bytes, take}
use Rattle.std.specs.Option.{ForSome}
use Rattle.pt_audit.specs.Failing.{failures}
use Rattle.pt_tree.specs.Source.{tree_in}
use Rattle.pt_extra.specs.Unlisted.{of_unlisted}
use Rattle.pt_extra.specs.Walk.{Keeps, Puts, walk_state}
use Rattle.pt_extra.proofs.walking.Extras.tell_each.Given as goal

-- the reasons so far were told
abbrev pub invariant-loop-reason : goal.invariant-loop-reason
invariant-loop-reason g l = record {
  keeps : Keeps g.S.Source g.R.Source g.L.Log l.fn.self l.self;
  failed : failures (g.S.Source.failed l.self.store) (g.R.Source.failed l.self.root) (g.L.Log.failed l.self.log)
      ≡ failures (g.S.Source.failed l.fn.self.store) (g.R.Source.failed l.fn.self.root) (g.L.Log.failed l.fn.self.log);
  told : ForSome (tree_in (g.S.Source.told l.fn.self.store)) (λ s. ForSome (tree_in (g.R.Source.told l.fn.self.root))
      (λ r. Puts (of_unlisted l.path (map (λ reason. string_bytes reason) (take l.reason-index l.reasons)))
      (walk_state g.L.Log l.fn.self) (walk_state g.L.Log l.self)));
}

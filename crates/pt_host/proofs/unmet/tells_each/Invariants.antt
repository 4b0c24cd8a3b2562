use Rattle.std.proofs.Common.{◌≡◌, take}
use Rattle.std.specs.List.{list_all}
use Rattle.std.specs.Prelude.{is_none, not}
use Rattle.pt_host.specs.HostCall.{Tell}
use Rattle.pt_host.specs.Told.{TellsUnmet}
use Rattle.pt_host.proofs.unmet.tells_each.Given as goal

-- each that is unmet of the positions so far was told, and whether one was
abbrev pub invariant-loop-position : goal.invariant-loop-position
invariant-loop-position g l = record {
  some : l.some ≡ not (list_all is_none (take l.position l.unmet));
  told : TellsUnmet (λ text old new. g.H.Host.does old (Tell text) new) (take l.position l.unmet) l.initial.host l.host;
}

use Rattle.std.proofs.Common.{◌≡◌, ◌++◌, ◌-◌, ◌*◌, ◌≤◌, length}
use Rattle.std.specs.Prelude.{All}
use Rattle.pt_name.specs.Place.{IsPlaceByte, tuples_from}
use Rattle.pt_name.proofs.layout.push_tuples.Given as goal

-- the path, with the tuples still to be added, is the whole; there are digits for them
abbrev pub invariant-loop : goal.invariant-loop
invariant-loop l = record {
  path : l.path ++ tuples_from l.size (l.count - l.counter) l.rest ≡ l.fn.path ++ tuples_from l.size l.count l.digits;
  enough : l.size * (l.count - l.counter) ≤ length l.rest;
  safe : All IsPlaceByte l.rest;
}

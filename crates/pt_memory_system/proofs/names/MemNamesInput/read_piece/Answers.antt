use Rattle.std.proofs.Common.{◌≡◌, ◌++◌, arith, drop, subst, take}
use Rattle.pt_memory_system.proofs.names.MemNamesInput.read_piece.Goals as goal

pub returns-clause-given : goal.returns-clause-given
returns-clause-given c =
    let place = c.args.self.now.place in (
      subst (λ l. drop place l ≡ take c.in-Some.count c.take_next.new.buffer ++ drop c.take_next.new.place l) c.as_slice.ensures.value
          c.take_next.ensures.taken,
      λ none some. absurd (omega (arith, none, c.in-Some.ensures.some)),
    )

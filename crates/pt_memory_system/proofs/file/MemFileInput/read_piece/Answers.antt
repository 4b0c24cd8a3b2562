use Rattle.std.proofs.Common.{◌≡◌, ◌<◌, ◌++◌, arith, drop, subst, take}
use Rattle.pt_memory_system.proofs.file.MemFileInput.read_piece.Goals as goal

pub returns-clause-given : goal.returns-clause-given
returns-clause-given c =
    let place = c.args.self.now.place in
    let next = c.take_next.ensures in (
      subst (λ l. drop place l ≡ take c.share-count.result c.take_next.new.buffer ++ drop c.take_next.new.place l) c.as_slice.ensures.value next.taken,
      λ none some.
          let room : 0 < c.min.result = omega (arith, c.min.ensures, c.if-self-len.false, next.room, some) in
          absurd (omega (arith, none, c.share-count.ensures.some room)),
    )

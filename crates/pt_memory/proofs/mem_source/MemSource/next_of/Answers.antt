use Rattle.std.proofs.Common.{◌≡◌, ◌∙◌, ap, sym}
use Rattle.pt_memory.specs.MemSource.{source_state}
use Rattle.pt_memory.proofs.Calls.{passed, next_gives}
use Rattle.pt_memory.proofs.mem_source.MemSource.next_of.Goals as goal

pub returns-then-read_on-clause-gives : goal.returns-then-read_on-clause-gives
returns-then-read_on-clause-gives c =
    let old = source_state c.args.self.now in
    let mid = source_state c.count_call.new.self in
    let called = c.in_ok-count_call.ensures.state in
    let tree : mid.tree ≡ old.tree = ap (λ s. s.tree) called in
    let reading : mid.reading ≡ old.reading = ap (λ s. s.reading) called in
    let read = c.read_on.ensures in
    next_gives old mid _ c.count_call.new.self.entries c.read_on.new.block.items c.clear.new.self.items (passed old.fuse c.in_ok-count_call.ensures.answer)
    called
    c.count_call.new.self.proper tree reading (sym c.if-read_on.true ∙ read.opened) read.block
    (λ i. record { tree = read.forest i; reading = read.moved i; fuse = mid.fuse; calls = mid.calls })

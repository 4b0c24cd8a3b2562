use Rattle.pt_memory.specs.Entries.{forest_of}
use Rattle.pt_memory.proofs.DestCalls.{file_told, peek_told}
use Rattle.pt_memory.proofs.mem_dest.MemDestDest.peek.Goals as goal

pub unreachable-requires : goal.unreachable-requires
unreachable-requires c = file_told (forest_of c.args.self.now.entries) c.args.self.now.writing c.args.path.now c.requires c.in_default.ensures

pub returns-clause-block : goal.returns-clause-block
returns-clause-block c =
    peek_told (forest_of c.args.self.now.entries) c.args.self.now.writing c.args.path.now c.in-Some.bytes.now c.fill.new.block.items c.in-Some.ensures
    c.fill.ensures

use Rattle.pt_memory.specs.Entries.{forest_of}
use Rattle.pt_tree.specs.Tree.{tree_of}
use Rattle.pt_memory.proofs.DestCalls.{leaves_nothing}
use Rattle.pt_memory.proofs.mem_dest.MemDestDest.append.Goals as goal

pub returns-in-Err-clause-part : goal.returns-in-Err-clause-part
returns-in-Err-clause-part c =
    leaves_nothing (tree_of (forest_of c.args.self.now.entries)) (tree_of (forest_of c.add.new.entries)) c.args.self.now.writing c.args.piece.now
    c.in-Err.ensures.err

pub returns-in-Err-add-clause-part : goal.returns-in-Err-add-clause-part
returns-in-Err-add-clause-part c =
    leaves_nothing (tree_of (forest_of c.args.self.now.entries)) (tree_of (forest_of c.add-2.new.entries)) c.args.self.now.writing c.args.piece.now
    c.in-Err-add.ensures.err

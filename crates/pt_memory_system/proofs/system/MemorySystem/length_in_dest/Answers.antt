use Rattle.std.proofs.Common.{subst}
use Rattle.pt_folder.specs.SourceLaws.{IsLengthOf}
use Rattle.pt_tree.specs.Tree.{bytes_of}
use Rattle.pt_memory.specs.MemDest.{dest_tree}
use Rattle.pt_memory_system.proofs.Looks.{measures_file}
use Rattle.pt_memory_system.proofs.system.MemorySystem.length_in_dest.Goals as goal

pub returns-in-Ok : goal.returns-in-Ok
returns-in-Ok c =
    measures_file c.args.self.now.written.now c.args.text.now (λ p. bytes_of (dest_tree c.args.self.now.dest p)) c.in-Ok.path c.answer_length.result
    c.in-Ok.ensures.path
    (subst (λ o. IsLengthOf o c.answer_length.result) c.file.ensures c.answer_length.ensures)

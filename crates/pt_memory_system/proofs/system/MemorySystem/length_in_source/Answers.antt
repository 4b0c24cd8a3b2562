use Rattle.std.proofs.Common.{subst}
use Rattle.pt_folder.specs.SourceLaws.{IsLengthOf}
use Rattle.pt_tree.specs.Forest.{file_at}
use Rattle.pt_memory.specs.MemSource.{source_tree}
use Rattle.pt_memory_system.proofs.Looks.{measures_file}
use Rattle.pt_memory_system.proofs.system.MemorySystem.length_in_source.Goals as goal

pub returns-in-Ok : goal.returns-in-Ok
returns-in-Ok c =
    measures_file c.args.self.now.read.now c.args.text.now (file_at (source_tree c.args.self.now.source)) c.in-Ok.path c.answer_length.result
    c.in-Ok.ensures.path
    (subst (λ o. IsLengthOf o c.answer_length.result) c.file.ensures c.answer_length.ensures)

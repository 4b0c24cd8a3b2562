use Rattle.std.proofs.Common.{subst}
use Rattle.std.specs.Option.{option_map}
use Rattle.pt_tree.specs.Forest.{Dir, kind_of, node_at}
use Rattle.pt_memory.specs.MemSource.{source_tree}
use Rattle.pt_folder.specs.Laws.{LooksRight}
use Rattle.pt_memory_system.proofs.Looks.{look_fails, look_shows}
use Rattle.pt_memory_system.proofs.system.MemorySystem.look_in_source.Goals as goal

pub returns-in-Ok : goal.returns-in-Ok
returns-in-Ok c =
    look_shows c.args.self.now.read.now c.args.text.now (λ p. option_map kind_of (node_at (Dir (source_tree c.args.self.now.source)) p)) c.in-Ok.path
    c.answer_look.result c.in-Ok.ensures.path
    (subst (λ k. LooksRight k c.answer_look.result) c.kind_at.ensures c.answer_look.ensures)

pub returns-in-Err : goal.returns-in-Err
returns-in-Err c = look_fails c.args.self.now.read.now c.args.text.now (λ p. option_map kind_of (node_at (Dir (source_tree c.args.self.now.source)) p))
    c.in-Err.error c.in-Err.ensures.none

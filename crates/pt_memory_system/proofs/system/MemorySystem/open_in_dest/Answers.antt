use Rattle.std.proofs.Common.{◌≡◌, subst}
use Rattle.std.specs.Prelude.{IfOk}
use Rattle.pt_tree.specs.Tree.{bytes_of}
use Rattle.pt_memory.specs.MemDest.{dest_tree}
use Rattle.pt_memory_system.specs.System.{bytes_in}
use Rattle.pt_memory_system.proofs.Looks.{opens_file}
use Rattle.pt_memory_system.proofs.system.MemorySystem.open_in_dest.Goals as goal

pub returns-in-Ok-clause-bytes : goal.returns-in-Ok-clause-bytes
returns-in-Ok-clause-bytes c =
    opens_file c.args.self.now.written.now c.args.text.now (λ p. bytes_of (dest_tree c.args.self.now.dest p)) c.in-Ok.path c.open_mem_file.result
    c.in-Ok.ensures.path
    (subst (λ o. IfOk c.open_mem_file.result (λ f. bytes_in f ≡ o)) c.file.ensures c.open_mem_file.ensures.bytes)

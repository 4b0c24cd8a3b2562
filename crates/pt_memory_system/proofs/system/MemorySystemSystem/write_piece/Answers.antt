use Rattle.std.proofs.Common.{ap, refl}
use Rattle.pt_memory.specs.MemDest.{DestState}
use Rattle.pt_memory_system.proofs.Changes.{as_before, nothing_added}
use Rattle.pt_memory_system.proofs.system.MemorySystemSystem.write_piece.Goals as goal

pub returns-then-not-has_file-clause-written : goal.returns-then-not-has_file-clause-written
returns-then-not-has_file-clause-written c = nothing_added c.args.self.now c.args.self.now (as_before c.args.self.now) c.args.file.now c.args.file.now
    c.args.piece.now c.from.result refl refl

pub returns-in-Err-clause-written : goal.returns-in-Err-clause-written
returns-in-Err-clause-written c = nothing_added c.args.self.now _ (record { read = refl; source = refl; written = refl }) c.args.file.now c.args.file.now
    c.args.piece.now c.call_error-in-Err.result refl (ap (λ (s : DestState). s.told.tree) c.in-Err.ensures.err)

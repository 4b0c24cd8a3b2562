use Rattle.std.proofs.Common.{refl}
use Rattle.pt_memory_system.proofs.Places.{begins, not_both}
use Rattle.pt_memory_system.proofs.system.MemorySystemSystem.lstat_length.Goals as goal

pub returns-then-fails : goal.returns-then-fails
returns-then-fails c = record { same = refl; source = λ p named is. tt; dest = λ p named is. tt }

pub returns-then-is_below : goal.returns-then-is_below
returns-then-is_below c = record {
  same = refl;
  source = c.length_in_source.ensures;
  dest = λ p named is. absurd (not_both c.args.self.now.read.now c.args.self.now.written.now c.args.path.now p c.args.self.now.apart
      (c.is_below.ensures.0 c.if-is_below.true) is);
}

pub returns-else-is_below : goal.returns-else-is_below
returns-else-is_below c = record {
  same = refl;
  source = λ p named is. let here = c.is_below.ensures.1 (begins c.args.self.now.read.now c.args.path.now p is) in let not = c.if-is_below.false in absurd (cc);
  dest = c.length_in_dest.ensures;
}

use Rattle.std.proofs.Common.{sym, ◌∙◌}
use Rattle.pt_memory.specs.MemSource.{source_tree}
use Rattle.pt_memory_system.proofs.Ended.{names_given}
use Rattle.pt_memory_system.proofs.system.MemorySystem.names_in_source.Goals as goal

pub returns-in-Ok-Some : goal.returns-in-Ok-Some
returns-in-Ok-Some c =
    names_given (source_tree c.args.self.now.source) c.args.self.now.read.now c.args.text.now c.in-Ok.path c.in-Ok-Some.listing c.of.result
    c.args.self.now.source.proper c.in-Ok.ensures.path (sym c.in-Ok-Some.field-0-is ∙ c.in-Ok-Some.ensures) c.of.ensures.place c.of.ensures.bytes

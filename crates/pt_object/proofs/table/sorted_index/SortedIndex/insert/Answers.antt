use Rattle.std.proofs.Common.{length, ap, ◌∙◌, arith}
use Rattle.std.specs.List.{concat}
use Rattle.pt_object.proofs.table.sorted_index.SortedIndex.insert.Goals as goal

pub put-requires-clause-within : goal.put-requires-clause-within
put-requires-clause-within c = omega (arith, c.requires, ap length (ap concat c.deref_mut.ensures.value ∙ c.in_ok-make_room.ensures.same ∙ c.self.view_is))

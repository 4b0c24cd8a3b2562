use Rattle.std.proofs.Common.{rules}
use Rattle.pt_name.proofs.layout.Layout.of.Goals as goal

pub returns-then-size-count : goal.returns-then-size-count
returns-then-size-count c = search rules

pub invariant_of-result : goal.invariant_of-result
invariant_of-result c = search rules

pub returns : goal.returns
returns c = search rules

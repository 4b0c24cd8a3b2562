use Rattle.std.proofs.Common.{map, take}
use Rattle.pt_cli.specs.ArgSpec.{TakesToo, rule_of_spec}
use Rattle.pt_cli.proofs.grammar.with_args.Given as goal

abbrev pub invariant-loop-spec : goal.invariant-loop-spec
invariant-loop-spec l = TakesToo (map rule_of_spec (take l.spec-index l.fn.specs)) l.fn.parser l.grown

use Rattle.std.proofs.Common.{arith, rules}
use Rattle.pt_audit.proofs.Following.{closed_paced, end_paced}
use Rattle.pt_audit.proofs.root_reader.RootReader.end.Goals as goal

pub returns-then-stored_count-self-clause-paced : goal.returns-then-stored_count-self-clause-paced
returns-then-stored_count-self-clause-paced g c = λ source behind.
    end_paced source _ _ c.args.self.now _ c.args.survey.now c.requires.saw (search rules) c.has_ended.ensures.tree (search rules)
    (omega (arith, c.stored_count.ensures, c.if-stored_count-self.true)) behind

pub returns-else-ended-clause-paced : goal.returns-else-ended-clause-paced
returns-else-ended-clause-paced g c = λ source behind.
    closed_paced source _ _ c.args.self.now _ c.args.survey.now c.requires.saw c.has_ended.ensures.tree behind

use Rattle.std.proofs.Common.{rules, ◌∙◌}
use Rattle.pt_audit.proofs.Following.{opened_at, opened_paced, unopened_paced}
use Rattle.pt_audit.proofs.root_reader.RootReader.open.Goals as goal

pub returns-then-self-stored_count-clause-paced : goal.returns-then-self-stored_count-clause-paced
returns-then-self-stored_count-clause-paced g c = λ source behind.
    unopened_paced source _ c.args.self.now c.begin.new.self c.args.survey.now _ _ c.min-self.result c.requires.saw c.in_ok-begin.ensures (c.min-self.ensures
    ∙ search rules) behind

pub returns-clause-paced : goal.returns-clause-paced
returns-clause-paced g c = λ source behind.
    let there = opened_at c.args.survey.now c.in_ok-file.file c.requires.saw c.in_ok-file.ensures in
    opened_paced source _ _ c.args.self.now c.begin.new.self c.args.survey.now _ _ _ c.in_ok-path.path c.min-self.result c.in_ok-file.file.before c.min.result _
    c.in_ok-self.field-0 c.requires.saw there.places c.in_ok-begin.ensures (search rules) (search rules)
    (record { many = search rules; front = search rules; back = search rules }) c.in_ok-path.ensures c.open_standing.ensures.tree (search rules) behind

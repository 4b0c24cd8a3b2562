use Rattle.std.proofs.Common.{ap, ◌∙◌}
use Rattle.pt_tree.specs.Pieces.{names_in}
use Rattle.pt_compare.proofs.Noted.{first_marked, first_noted}
use Rattle.pt_compare.proofs.entries.Entries.first.Goals as goal

pub returns-in_ok-path_of-in-Some-clause-first : goal.returns-in_ok-path_of-in-Some-clause-first
returns-in_ok-path_of-in-Some-clause-first c = first_noted (c.in-Some.text.now, c.in-Some.field-0-1.now) c.in_ok-path_of-in-Some.field-0
    c.self.inside.by_text.entries c.args.self.now c.in-Some.ensures.first (c.in_ok-path_of-in-Some.ensures ∙ ap names_in c.as_slice.ensures.value)
    c.self.view_is

pub returns-in_ok-path_of-in-Some-clause-noted : goal.returns-in_ok-path_of-in-Some-clause-noted
returns-in_ok-path_of-in-Some-clause-noted c = first_marked (c.in-Some.text.now, c.in-Some.field-0-1.now) c.in_ok-path_of-in-Some.field-0
    c.self.inside.by_text.entries c.args.self.now c.in-Some.ensures.first (c.in_ok-path_of-in-Some.ensures ∙ ap names_in c.as_slice.ensures.value)
    c.self.view_is

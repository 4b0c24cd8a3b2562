use Rattle.std.proofs.Common.{ap, ◌∙◌}
use Rattle.std.specs.Prelude.{Some}
use Rattle.pt_compare.specs.Entries.{noted_of, with_entry}
use Rattle.pt_tree.specs.Pieces.{names_in}
use Rattle.pt_compare.specs.Marks.{marks_of, with_mark}
use Rattle.pt_tree.proofs.Cut.{names_back}
use Rattle.pt_compare.proofs.Noted.{added_noted, marks_changed}
use Rattle.pt_compare.proofs.entries.Entries.add.Goals as goal

pub returns-clause-noted : goal.returns-clause-noted
returns-clause-noted c =
    let names = ap names_in c.in_ok-text.ensures.names ∙ names_back c.args.path.now c.in_ok-text.ensures.named in (
      c.in_ok-text.text,
      c.in_ok-text.ensures.names,
      ap noted_of c.in-Ok.ensures.entries ∙ added_noted c.in_ok-text.text c.args.path.now c.args.kind c.self.inside.by_text.entries names
          ∙ ap (with_entry c.in_ok-text.text (c.args.path.now, c.args.kind)) c.self.view_is,
    )

pub returns-clause-marks : goal.returns-clause-marks
returns-clause-marks c =
    marks_changed c.args.path.now c.in_ok-text.ensures.named (Some c.args.kind) c.in_ok-text.text.items c.in_ok-text.ensures.names c.self.inside.by_text.entries
    _ c.in-Ok.ensures.updates.1 c.in-Ok.ensures.updates.3
    ∙ ap (λ es. with_mark c.args.path.now c.args.kind (marks_of es)) c.self.view_is

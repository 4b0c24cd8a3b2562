use Rattle.std.proofs.Common.{ap, sym, ◌∙◌, List, ℕ}
use Rattle.std.specs.Cmp.Lexicographic.{slice_cmp}
use Rattle.std.specs.Map.{lookup, remove_entry}
use Rattle.std.specs.Ordering.{is_eq, nat_cmp}
use Rattle.pt_compare.specs.Entries.{kind_noted, noted_of, without}
use Rattle.std.specs.Prelude.{None}
use Rattle.pt_compare.specs.Marks.{marks_of, without_mark}
use Rattle.pt_compare.proofs.Noted.{found_noted, marks_changed, removed_noted}
use Rattle.pt_compare.proofs.entries.Entries.take.Goals as goal

pub returns-clause-kind : goal.returns-clause-kind
returns-clause-kind c =
    c.remove.ensures.value ∙ ap (λ (t : List ℕ). lookup (λ k. is_eq (slice_cmp nat_cmp t k.items)) c.self.inside.by_text.entries) (c.as_slice.ensures.value
    ∙ c.in_ok-text.ensures.names)
    ∙ sym (found_noted c.args.path.now c.in_ok-text.ensures.named c.self.inside.by_text.entries) ∙ ap (kind_noted c.args.path.now) c.self.view_is

pub returns-clause-left : goal.returns-clause-left
returns-clause-left c =
    ap noted_of c.remove.ensures.entries ∙ removed_noted (λ k. is_eq (slice_cmp nat_cmp c.as_slice.result.now k.items)) c.self.inside.by_text.entries
    ∙ ap (λ (t : List ℕ). remove_entry (λ k. is_eq (slice_cmp nat_cmp t k.items)) (noted_of c.self.inside.by_text.entries)) (c.as_slice.ensures.value
    ∙ c.in_ok-text.ensures.names) ∙ ap (without c.args.path.now) c.self.view_is

pub returns-clause-marks : goal.returns-clause-marks
returns-clause-marks c =
    marks_changed c.args.path.now c.in_ok-text.ensures.named None c.as_slice.result.now (c.as_slice.ensures.value ∙ c.in_ok-text.ensures.names)
    c.self.inside.by_text.entries _ c.remove.ensures.updates.1 c.remove.ensures.updates.3
    ∙ ap (λ es. without_mark c.args.path.now (marks_of es)) c.self.view_is

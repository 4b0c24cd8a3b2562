use Rattle.std.proofs.Common.{◌<◌, ℕ, List, length, get_or, ◌/◌, ◌%◌, arith, ap, sym, ◌∙◌}
use Rattle.std.specs.Prelude.{slice_index}
use Rattle.std.specs.List.{concat}
use Rattle.pt_object.specs.SortedIndex.{row_length}
use Rattle.pt_object.proofs.Rowed.{lies, length_at, get_or-concat}
use Rattle.pt_object.proofs.table.sorted_index.SortedIndex.get.Goals as goal

pub index-requires : goal.index-requires
index-requires c =
    let inside : c.args.i < length (concat c.self.inside.rows.items) = rw c.self.view_is c.requires in
    omega (arith, (lies _ _ c.self.invariant inside).within)

pub get-requires : goal.get-requires
get-requires c =
    let inside : c.args.i < length (concat c.self.inside.rows.items) = rw c.self.view_is c.requires in
    let at = lies _ _ c.self.invariant inside in
    omega (arith, at.inside, length_at c.self.inside.rows.items _ c.index.result.now at.within, ap length c.index.ensures)

pub returns : goal.returns
returns c =
    let inside : c.args.i < length (concat c.self.inside.rows.items) = rw c.self.view_is c.requires in
    let at = lies _ _ c.self.invariant inside in
    let fits : c.args.i % row_length < length (get_or c.self.inside.rows.items (c.args.i / row_length) c.index.result.now) =
    omega (arith, at.inside, length_at c.self.inside.rows.items _ c.index.result.now at.within) in
    c.get.ensures
    ∙ ap (λ (l : List ℕ). slice_index l (c.args.i % row_length)) c.index.ensures
    ∙ sym (get_or-concat c.self.inside.rows.items (c.args.i / row_length) (c.args.i % row_length) 0 c.index.result.now at.within fits)
    ∙ ap (slice_index (concat c.self.inside.rows.items)) at.sum
    ∙ ap (λ (l : List ℕ). slice_index l c.args.i) c.self.view_is

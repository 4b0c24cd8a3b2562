use Rattle.std.proofs.Common.{◌≡◌, [], ◌∷◌, ◌++◌, length, ℕ, List, arith, ap, ◌∙◌}
use Rattle.std.specs.List.{concat}
use Rattle.pt_object.specs.SortedIndex.{row_length}
use Rattle.pt_object.proofs.Rowed.{concat_room, rows_more, last_some, last_none}
use Rattle.pt_object.proofs.table.sorted_index.make_room.Goals as goal
use Rattle.pt_object.proofs.table.sorted_index.make_room.Goals.{in-Some, in-None}

pub returns-in_ok-push-clause-same : goal.returns-in_ok-push-clause-same
returns-in_ok-push-clause-same c =
    ap concat (c.in_ok-push.ensures.items ∙ ap (λ (r : List ℕ). c.args.rows.now.items ++ r ∷ []) c.in_ok-new.ensures) ∙ concat_room c.args.rows.now.items

pub returns-in_ok-push-clause-rows : goal.returns-in_ok-push-clause-rows
returns-in_ok-push-clause-rows c =
    rw (c.in_ok-push.ensures.items, c.in_ok-new.ensures) (rows_more c.args.rows.now.items c.requires (λ some. elim c.match-last.branch [
      | in-Some w ↦
          let long : length w.in-Some.row.now ≡ row_length = omega arith in
          let is = rw c.deref.ensures.value at w.in-Some.ensures.value in
          last_some c.args.rows.now.items w.in-Some.row.now row_length is long some
      | in-None w ↦
          let is = rw c.deref.ensures.value at w.in-None.ensures.value in
          absurd (last_none c.args.rows.now.items is some)
    ]))

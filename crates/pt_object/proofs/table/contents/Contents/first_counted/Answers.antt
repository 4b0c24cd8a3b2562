use Rattle.std.proofs.Common.{sym, ◌∙◌, ap}
use Rattle.std.specs.Option.{option_copied}
use Rattle.pt_object.proofs.Indexed.{first_path-at, first_path-none}
use Rattle.pt_object.proofs.table.contents.Contents.first_counted.Goals as goal
use Rattle.pt_object.proofs.table.contents.Contents.first_counted.Goals.{in-Ok, in-Err}

pub returns-clause-path : goal.returns-clause-path
returns-clause-path c =
    rw (← c.self.view_is) (elim c.match-searched.branch [
      | in-Ok w ↦
          let at = rw (w.in-Ok.is, c.deref.ensures.value) at c.search-searched.ensures.found in
          ap option_copied w.path-is ∙ sym (first_path-at _ _ _ _ _ c.self.invariant.ordered at w.index.ensures)
      | in-Err w ↦
          let place = rw (w.in-Err.is, c.deref.ensures.value) at c.search-searched.ensures.found in
          ap option_copied w.path-is ∙ sym (first_path-none _ _ _ _ c.self.invariant.ordered place)
    ])

use Rattle.std.proofs.Common.{rules, ◌≡◌, [], ◌∷◌}
use Rattle.std.specs.Prelude.{None}
use Rattle.std.specs.Option.{option_map}
use Rattle.pt_rehearsal.specs.Seeing.{inner_of, renamed_to, view}
use Rattle.pt_rehearsal.proofs.Moved.{moved_top, not_some, single}
use Rattle.pt_rehearsal.proofs.remembered.Remembered.move_known.Goals as goal

pub returns-in_ok-note-in-len1-clause-ok : goal.returns-in_ok-note-in-len1-clause-ok
returns-in_ok-note-in-len1-clause-ok c =
    let name = c.in_ok-name-in-len1.name in
    let one : c.args.to.now ≡ name ∷ [] = single c.args.to.now c.names.result.now c.name-item.result name c.names.ensures c.in-len1.len_at_least
    c.in-len1.len_below c.name-item.is c.in_ok-name-in-len1.ensures.bytes in
    let none : option_map inner_of c.args.self.now.filled ≡ None = not_some inner_of c.args.self.now.filled _ c.is_some.ensures c.if-is_some.false in
    let named : option_map inner_of c.rename_inner.result ≡ renamed_to name (option_map inner_of c.args.self.now.filling) = search rules in
    rw (c.take.ensures.after) (moved_top (view c.args.self.now) (view c.note.new.self) c.args.to.now name _ one none c.in_ok-note-in-len1.ensures.ok named)

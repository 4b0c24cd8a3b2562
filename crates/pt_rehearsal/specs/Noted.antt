-- What a note adds to the steps.
use Rattle.std.specs.Prelude.{List, ◌∷◌}
use Rattle.pt_rehearsal.specs.Steps.{Step, Added, Closed, MadeDir, MadeFile, Moved}
use Rattle.pt_rehearsal.specs.declared.played.Note.{Note}
use Rattle.pt_rehearsal.specs.declared.played.Note.TheVariants as note

-- the step that a note tells
abbrev pub step_of : Note → Step
step_of (note.MadeDir path) = MadeDir path.now
step_of (note.MadeFile path) = MadeFile path.now
step_of (note.Added piece) = Added piece.now
step_of note.Closed = Closed
step_of (note.Moved from to) = Moved from.now to.now

-- the steps with that of a note, the last one first
abbrev pub noted : List Step → Note → List Step
noted steps note = step_of note ∷ steps

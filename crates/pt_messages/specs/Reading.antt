-- What is read of files beside a run.
use Rattle.std.specs.Prelude.{◌≡◌, ◌-◌, ℕ, List, Option, None, Some, Result, Ok, Err, length}
use Rattle.std.specs.declared.io.Error.{Error}

-- what may be answered of the file at a path: how long it is, none where it is no file; what it is opened as; and of what is open, going to a place
-- in it, and a read of it, with what is left in the room for that
pub record FileWords : Type 1 where
  pub File : Type 0
  pub lengths : List ℕ → Result (Option ℕ) Error → Type 0
  pub opens : List ℕ → Result File Error → Type 0
  pub goes : File → ℕ → Result ℕ Error → File → Type 0
  pub reads : File → List ℕ → Result ℕ Error → File → Type 0

module _ (words : FileWords) (end : List ℕ) (result : Result ℕ Error) where
  -- it is gone to the place, and read once
  abbrev pub EndsAt : Result ℕ Error → words.File → Type 0
  EndsAt (Ok _) file = (after : words.File) × words.reads file end result after
  EndsAt (Err error) file = result ≡ Err error

  -- it is opened, and gone to where the room begins before its end
  abbrev pub EndsOf : ℕ → Result words.File Error → Type 0
  EndsOf long (Ok file) = (there : Result ℕ Error) × (gone : words.File)
      × words.goes file (long - length end) there gone × EndsAt there gone
  EndsOf long (Err error) = result ≡ Err error

  -- of what is a file, and of this length, and of nothing else
  abbrev pub EndsFrom : List ℕ → Result (Option ℕ) Error → Type 0
  EndsFrom path (Ok (Some long)) = (opened : Result words.File Error) × words.opens path opened × EndsOf long opened
  EndsFrom path (Ok None) = (error : Error) × (result ≡ Err error)
  EndsFrom path (Err error) = result ≡ Err error

  -- the last bytes of the file at this path are read so: its length is asked for first
  abbrev pub EndsSo : List ℕ → Type 0
  EndsSo path = (long : Result (Option ℕ) Error) × words.lengths path long × EndsFrom path long

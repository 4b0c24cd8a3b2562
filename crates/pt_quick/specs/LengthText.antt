-- The text of a length, as it is read.
use Rattle.std.specs.Prelude.{◌≡◌, ℕ, List, drop, length, min, Result, Ok}
use Rattle.std.specs.declared.io.Error.{Error}
use Rattle.pt_quick.specs.Measured.{text_of_length}
use Rattle.pt_quick.specs.declared.length_text.LengthText.{LengthText}

-- the whole text
abbrev pub text_in : LengthText → List ℕ
text_in t = t.text.items

-- what of it is left to read
abbrev pub rest_in : LengthText → List ℕ
rest_in t = drop t.place t.text.items

-- it is the text of this length, at its start
pub record IsTextOf (longest count : ℕ) (t : LengthText) : Type 0 where
  pub text : text_in t ≡ text_of_length longest count
  pub start : rest_in t ≡ text_in t

-- so many bytes are read: as many as are left and there is room for
pub record ReadsText (old : LengthText) (room : List ℕ) (reply : Result ℕ Error) (new : LengthText) : Type 0 where
  pub count : reply ≡ Ok (min (length (rest_in old)) (length room))
  pub text : text_in new ≡ text_in old

-- it stands behind so many of its bytes
pub record GoesInText (old : LengthText) (place : ℕ) (answer : Result ℕ Error)
    (new : LengthText) : Type 0 where
  pub reply : answer ≡ Ok place
  pub rest : rest_in new ≡ drop place (text_in old)
  pub text : text_in new ≡ text_in old

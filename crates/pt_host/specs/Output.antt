-- How the file of a machine's output is opened once more.
use Rattle.std.specs.Prelude.{◌≡◌, ◌⊎◌, Bool, true, false, Option, None, Some, Result, Ok, Err}
use Rattle.std.specs.declared.io.Error.{Error}

module _ {F : Type 0} (judges : Result Bool Error → Type 0) (appends reads : Result F Error → Type 0) (result : Result (Option F) Error) where
  -- what was opened to read is given
  abbrev pub IsOpened : Result F Error → Type 0
  IsOpened (Ok file) = result ≡ Ok (Some file)
  IsOpened (Err error) = result ≡ Err error

  -- what was opened to append is given; where that failed it is opened to read
  abbrev pub IsAppendable : Result F Error → Type 0
  IsAppendable (Ok file) = result ≡ Ok (Some file)
  IsAppendable (Err _) = (opened : Result F Error) × reads opened × IsOpened opened

  -- what is a file is opened, and what isn't is nothing
  abbrev pub IsJudged : Result Bool Error → Type 0
  IsJudged (Ok true) = (opened : Result F Error) × appends opened × IsAppendable opened
  IsJudged (Ok false) = result ≡ Ok None
  IsJudged (Err error) = result ≡ Err error

  -- a terminal is nothing, and else it is asked whether the output is a file
  abbrev pub OpensOutput : Type 0
  OpensOutput = (result ≡ Ok None) ⊎ ((is_file : Result Bool Error) × judges is_file × IsJudged is_file)

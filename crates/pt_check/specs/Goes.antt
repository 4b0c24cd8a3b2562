-- That a source doesn't fail, if it tells where it does.
use Rattle.std.specs.Prelude.{◌≡◌, Bool, false, Option}
use Rattle.std.specs.Option.{ForSome}
use Rattle.pt_tree.specs.Failing.{Failing}
use Rattle.pt_tree.specs.Path.{Path}

-- it doesn't at this path, where it fails at those
abbrev pub GoesBy : Option (Path → Bool) → Path → Type 0
GoesBy failing path = ForSome failing (λ at. at path ≡ false)

-- nor at the open file
abbrev pub GoesOn : Option Failing → Type 0
GoesOn failing = ForSome failing (λ f. f.reading ≡ false)

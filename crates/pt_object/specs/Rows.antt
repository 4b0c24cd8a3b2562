-- The rows of an object's files.
use Rattle.std.specs.Prelude.{ℕ, List}
use Rattle.pt_tree.specs.Path.{Path}
use Rattle.pt_object.specs.declared.rows.Row.{Row}

-- the row of a file with this path, digest and length
abbrev pub row_of : Path → List ℕ → ℕ → Row
row_of path digest length = record { path = path; digest = digest; length = length }

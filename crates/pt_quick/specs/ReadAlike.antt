-- Which rows are read alike: those with one digest.
use Rattle.std.specs.Prelude.{◌≡◌, ℕ, All, List}
use Rattle.pt_object.specs.Object.{stored_path}
use Rattle.pt_object.specs.declared.rows.Row.{Row}
use Rattle.pt_tree.specs.Path.{Path}

-- by these digests of what is read at each path, rows with one digest are read as one: as the first of them, which is stored
abbrev pub ReadAlike : (Path → List ℕ) → List Row → Type 0
ReadAlike read rows = All (λ row. read (stored_path rows row) ≡ read row.path) rows

-- the row has the digest of what is read
abbrev pub HasRead : (Path → List ℕ) → Row → Type 0
HasRead read row = row.digest ≡ read row.path

-- The distinct files of a list of rows, and the contents that come of noting them all.
use Rattle.std.specs.Prelude.{◌≡◌, ℕ, Bool, cond, List, [], ◌∷◌, ◌++◌, fold, find, map}
use Rattle.std.specs.List.{list_any}
use Rattle.std.specs.Option.{option_map}
use Rattle.std.specs.Str.{bytes_eq}
use Rattle.pt_object.specs.Contents.{content_of, first_path, noted}
use Rattle.pt_object.specs.declared.table.contents.Content.{Content}
use Rattle.pt_object.specs.declared.rows.Row.{Row}

-- the row has this digest
abbrev pub row_has_digest : List ℕ → Row → Bool
row_has_digest digest row = bytes_eq row.digest digest

-- those of the rows with whose digest there is no earlier row, where these rows came before them
abbrev pub distinct_after : List Row → List Row → List Row
distinct_after earlier [] = []
distinct_after earlier (row ∷ rows) =
    cond (list_any (row_has_digest row.digest) earlier)
    (distinct_after (earlier ++ row ∷ []) rows)
    (row ∷ distinct_after (earlier ++ row ∷ []) rows)

-- the distinct files: the rows with whose digest there is no earlier row
abbrev pub distinct : List Row → List Row
distinct = distinct_after []

-- the row's digest with its path
abbrev pub content_of_row : Row → Content
content_of_row row = content_of row.digest row.path

-- the contents after these rows were noted in order, from some contents on
abbrev pub noted_all : List Content → List Row → List Content
noted_all = fold (λ items row. noted items row.digest row.path)

-- noting all rows in order gives the distinct files
abbrev pub NotingGivesDistinct : Type 0
NotingGivesDistinct = (rows : List Row) → noted_all [] rows ≡ map content_of_row (distinct rows)

-- of all rows noted in order, the path that is found is the first one with the digest
abbrev pub NotingKeepsFirst : Type 0
NotingKeepsFirst = (rows : List Row) (digest : List ℕ)
    → first_path (noted_all [] rows) digest
    ≡ option_map (λ row. row.path) (find (row_has_digest digest) rows)

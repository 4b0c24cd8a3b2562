-- What the tables of an object are made of, field by field.
-- No clause sees these fields: a further one, which might hold content or text, would have to stand here.
use Rattle.std.specs.Prelude.{ℕ, List}
use Rattle.std.specs.Global.{Vec}
use Rattle.pt_object.specs.declared.table.contents.Content.{Content}
use Rattle.pt_object.specs.declared.table.contents.Contents.TheInside as contents
use Rattle.pt_object.specs.declared.table.sorted_index.SortedIndex.TheInside as positions
use Rattle.pt_object.specs.declared.rows.Row.{Row}
use Rattle.pt_object.specs.declared.rows.Rows.TheInside as rows

-- rows, and nothing else
abbrev pub rows_of_all : Vec Row → rows.Inside
rows_of_all all = record { rows = all }

-- contents, the keys of their digests and their index, and nothing else: two numbers a content
abbrev pub contents_of_all : Vec Content → Vec ℕ → List ℕ → contents.Inside
contents_of_all items keys index = record { items = items; keys = keys; index = index }

-- an index is positions in rows, and nothing else
abbrev pub positions_of_all : Vec (List ℕ) → positions.Inside
positions_of_all all = record { rows = all }

-- What the scripts of a root and of an object make.
use Rattle.std.specs.Prelude.{◌≡◌, All, ℕ, List, [], ◌∷◌, ◌++◌, true, is_some}
use Rattle.pt_name.specs.Tuples.{Tuples}
use Rattle.pt_tree.specs.Path.{Path, rest_below}
use Rattle.pt_tree.specs.Tree.{Tree, added, moved}
use Rattle.pt_object.specs.Algorithm.{digest_of}
use Rattle.pt_object.specs.FilePaths.{File, are_apart, paths_of, row_paths}
use Rattle.pt_tree.specs.PathOrder.{part_in_order}
use Rattle.pt_object.specs.Holding.{IsFree, leads_to, placed}
use Rattle.pt_object.specs.MetaParts.{MetaParts}
use Rattle.pt_object.specs.Object.{files_of_rows, object_of, object_of_rows, stored_path}
use Rattle.pt_object.specs.Root.{root_of}
use Rattle.pt_object.specs.Script.{CanBeMadeInTurn, MakeFile, done, made}
use Rattle.pt_object.specs.Scripts.{IsFresh, root_script, script_of, script_of_rows, staging}
use Rattle.pt_object.specs.declared.algorithm.Algorithm.{Algorithm}
use Rattle.pt_object.specs.declared.rows.Row.{Row}

-- where no path of the rows is another or leads to it, each item of their script may be made after those before it
abbrev pub ScriptOfRowsCanBeMade : Type 0
ScriptOfRowsCanBeMade =
    (id : List ℕ) (rows : List Row) (held : Path
    → List ℕ) (meta : MetaParts) (algorithm : Algorithm) (start : Tree)
    → are_apart (row_paths rows) ≡ true → IsFresh start
    → CanBeMadeInTurn (script_of_rows id rows held meta algorithm) start

-- and the whole script makes the object below staging, and changes nothing else
abbrev pub ScriptOfRowsMakesTheObject : Type 0
ScriptOfRowsMakesTheObject =
    (id : List ℕ) (rows : List Row) (held : Path
    → List ℕ) (meta : MetaParts) (algorithm : Algorithm) (start : Tree)
    → are_apart (row_paths rows) ≡ true → IsFresh start
    → made (script_of_rows id rows held meta algorithm) start
    ≡ placed start staging (object_of_rows id rows held meta algorithm)

-- so it is with files whose paths come in order, none leading to another
abbrev pub ScriptCanBeMade : Type 0
ScriptCanBeMade =
    (id : List ℕ) (files : List File) (meta : MetaParts) (algorithm : Algorithm) (start : Tree)
    → part_in_order (paths_of files) ≡ true → IsFresh start
    → CanBeMadeInTurn (script_of id files meta algorithm) start

-- carried out to its end a script makes the object in `staging`, and changes nothing else
abbrev pub ScriptMakesTheObject : Type 0
ScriptMakesTheObject =
    (id : List ℕ) (files : List File) (meta : MetaParts) (algorithm : Algorithm) (start : Tree)
    → part_in_order (paths_of files) ≡ true → IsFresh start
    → made (script_of id files meta algorithm) start
    ≡ placed start staging (object_of id files meta algorithm)

-- each item of a root's script may be made after those before it
abbrev pub RootScriptCanBeMade : Type 0
RootScriptCanBeMade = (tuples : Tuples) (start : Tree) → IsFresh start
    → CanBeMadeInTurn (root_script tuples) start

-- and the whole script makes the root below staging, and changes nothing else
abbrev pub RootScriptMakesTheRoot : Type 0
RootScriptMakesTheRoot = (tuples : Tuples) (start : Tree) → IsFresh start
    → made (root_script tuples) start ≡ placed start staging (root_of tuples)

-- paths that come in order, none leading to another, are apart
abbrev pub PathsInOrderAreApart : Type 0
PathsInOrderAreApart = (paths : List Path) → part_in_order paths ≡ true → are_apart paths ≡ true

-- what was put at a path of a tree where nothing stood, and is then moved, stands as if it had been put at the other path
abbrev pub MovedStandsThere : Type 0
MovedStandsThere = (t inside : Tree) (from to : Path) → IsFree t from
    → moved (placed t from inside) from to ≡ placed t to inside

-- of files in order, the last one tells which folders above the next one stand
abbrev pub LastFileTellsFolders : Type 0
LastFileTellsFolders =
    (earlier : List File) (last next : File) (folder : Path)
    → part_in_order (paths_of (earlier ++ last ∷ next ∷ [])) ≡ true
    → is_some (rest_below folder next.0) ≡ true
    → leads_to (earlier ++ last ∷ []) folder ≡ is_some (rest_below folder last.0)

-- What is held at the path where the content of a row is stored has the row's digest, for each row. Then the object of the rows is that of the files
-- that have these bytes at the rows' paths.
abbrev pub RowsAreFiles : Type 0
RowsAreFiles =
    (id : List ℕ) (rows : List Row) (held : Path → List ℕ) (meta : MetaParts) (algorithm : Algorithm)
    → are_apart (row_paths rows) ≡ true
    → All (λ row. digest_of algorithm (held (stored_path rows row)) ≡ row.digest) rows
    → (object_of_rows id rows held meta algorithm ≡ object_of id (files_of_rows rows held) meta algorithm)
    × (script_of_rows id rows held meta algorithm ≡ script_of id (files_of_rows rows held) meta algorithm)

-- a piece added to a file that was made with some bytes makes the file with both
abbrev pub PieceMakesMore : Type 0
PieceMakesMore = (t : Tree) (path : Path) (bytes piece : List ℕ)
    → added (done (MakeFile path bytes) t) path piece ≡ done (MakeFile path (bytes ++ piece)) t

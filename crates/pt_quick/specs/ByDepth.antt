-- A tree in which the text of each file deeper than so many names is its length.
use Rattle.std.specs.Prelude.{ℕ, Bool, zero, suc, cond, length, nat_lt}
use Rattle.std.specs.Option.{option_map}
use Rattle.pt_tree.specs.Forest.{Forest, none, file, other, dir}
use Rattle.pt_tree.specs.Path.{Path}
use Rattle.pt_tree.specs.Tree.{Entry, Bytes, Folder, Special, Tree}
use Rattle.pt_quick.specs.Measured.{lengths_of, text_of_file}

-- with the text of each file's length in the place of its bytes, where its path has more names
abbrev pub measured : ℕ → ℕ → Forest → Forest
measured longest zero forest = lengths_of longest forest
measured longest (suc depth) none = none
measured longest (suc depth) (file name bytes after) =
    file name bytes (measured longest (suc depth) after)
measured longest (suc depth) (other name after) = other name (measured longest (suc depth) after)
measured longest (suc depth) (dir name inside after) =
    dir name (measured longest depth inside) (measured longest (suc depth) after)

-- a path has more names than this
abbrev pub is_deep : ℕ → Path → Bool
is_deep depth p = nat_lt depth (length p)

-- what stands at a deep path: of a file the text of its length
abbrev pub entry_measured : ℕ → Entry → Entry
entry_measured longest (Bytes bytes) = Bytes (text_of_file longest bytes)
entry_measured longest Folder = Folder
entry_measured longest Special = Special

-- what stands at each path of a tree that is seen so
abbrev pub tree_measured : ℕ → ℕ → Tree → Tree
tree_measured longest depth t =
    λ p. cond (is_deep depth p) (option_map (entry_measured longest) (t p)) (t p)

-- The top directory of a source: what makes it a Pairtree store of version 0.1.
use Rattle.std.specs.Prelude.{ℕ, Bool, true, false, ◌&&◌, cond, List, [], ◌∷◌, codes, Option, None, Some, is_some, is_none, unwrap_or}
use Rattle.pt_name.specs.Prefix.{prefix_refusal, without_line_ends}
use Rattle.pt_tree.specs.Forest.{Forest, Node, File, Dir, Other, none, dir_at, file_at, find}
use Rattle.pt_walk.specs.Sites.{Reach, Site, sites}

-- the file that declares the version (Pairtree 0.1)
abbrev pub version_file : List ℕ
version_file = codes "pairtree_version0_1"

-- the directory of the pairtree (Pairtree 0.1)
abbrev pub pairtree_root : List ℕ
pairtree_root = codes "pairtree_root"

-- the file that holds the prefix (Pairtree 0.1)
abbrev pub prefix_file : List ℕ
prefix_file = codes "pairtree_prefix"

-- the version file and the directory of the pairtree stand at the top; what they hold isn't asked
abbrev pub is_store : Forest → Bool
is_store source = is_some (file_at source (version_file ∷ [])) && is_some (dir_at source (pairtree_root ∷ []))

-- what stands at the prefix file's name, if anything, is a file whose bytes are a prefix
abbrev pub is_prefix : Option Node → Bool
is_prefix None = true
is_prefix (Some (File bytes)) = is_none (prefix_refusal bytes)
is_prefix (Some (Dir inside)) = false
is_prefix (Some Other) = false

-- the prefix of the store is good: nothing stands at `pairtree_prefix`, or a file whose bytes are a prefix
abbrev pub has_prefix : Forest → Bool
has_prefix source = is_prefix (find source prefix_file)

-- the prefix of what stands at the prefix file's name: empty, unless it is a file whose bytes are a prefix
abbrev pub prefix_in : Option Node → List ℕ
prefix_in None = []
prefix_in (Some (File bytes)) = cond (is_none (prefix_refusal bytes)) (without_line_ends bytes) []
prefix_in (Some (Dir inside)) = []
prefix_in (Some Other) = []

-- what each identifier of the store begins with; empty where there is no prefix, or a bad one, with which no run gets that far
abbrev pub prefix_of : Forest → List ℕ
prefix_of source = prefix_in (find source prefix_file)

-- what stands below `pairtree_root`
abbrev pub pairtree_of : Forest → Forest
pairtree_of source = unwrap_or (dir_at source (pairtree_root ∷ [])) none

-- the sites of a pairtree, if there is one, as far as a walk goes
abbrev pub sites_in_root : Reach → Option Forest → List Site
sites_in_root reach None = []
sites_in_root reach (Some top) = sites reach top

-- the directories on the way in a store, in the order of the walk
abbrev pub sites_of : Reach → Forest → List Site
sites_of reach source = sites_in_root reach (dir_at source (pairtree_root ∷ []))

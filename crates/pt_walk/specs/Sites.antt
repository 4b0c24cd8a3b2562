-- The sites of a tree, in the order in which they are walked. A path leads from below the top directory.
use Rattle.std.specs.Prelude.{ℕ, ◌+◌, ◌==◌, Bool, true, false, cond, nat_lt, List, [], ◌∷◌, ◌++◌, length}
use Rattle.pt_tree.specs.Forest.{Forest, none, file, other, dir}
use Rattle.pt_tree.specs.Path.{Path}
use Rattle.pt_walk.specs.declared.site.At.{At}
use Rattle.pt_walk.specs.declared.site.At.TheVariants as at
use Rattle.pt_walk.specs.Site.{is_short}

-- how far a walk goes: how deep are the directories that are listed, and which of those that shorties lead to are walked into
pub record Reach : Type 0 where
  pub depth : ℕ
  pub walks : Path → Bool

-- how a directory that shorties lead to is met: it is listed, or stands below a name of one byte, or too deep, or where the walk doesn't go
pub data Visit : Type 0 where
  Listed : (inside : Forest) → Visit
  Past : Visit
  Deep : Visit
  Elsewhere : Visit

-- where it stands, and how it is met
abbrev pub Site : Type 0
Site = Path × Visit

-- by its last name
abbrev pub at_of : Path → At
at_of [] = at.Root
at_of (name ∷ []) = cond (length name == 1) at.Last at.Pair
at_of (name ∷ next ∷ path) = at_of (next ∷ path)

-- its name has one byte, so that no site is below it
abbrev pub is_last : At → Bool
is_last at.Root = false
is_last at.Pair = false
is_last at.Last = true

-- how the shorty of this name, in the directory at this path, is met
abbrev pub visit_of : Reach → Path → List ℕ → Forest → Visit
visit_of reach path name inside =
    cond (is_last (at_of path)) Past
    (cond (nat_lt reach.depth (length path + 1)) Deep
    (cond (reach.walks (path ++ name ∷ [])) (Listed inside) Elsewhere))

-- the shorty is listed, and walked
abbrev pub is_listed : Visit → Bool
is_listed (Listed inside) = true
is_listed Past = false
is_listed Deep = false
is_listed Elsewhere = false

-- what is walked below it
abbrev pub walked : Visit → List Site → List Site
walked (Listed inside) sites = sites
walked Past sites = []
walked Deep sites = []
walked Elsewhere sites = []

-- what the shorties among these entries of the directory at this path lead to
abbrev pub sites_in : Reach → Path → Forest → List Site
sites_in reach path none = []
sites_in reach path (file name bytes after) = sites_in reach path after
sites_in reach path (other name after) = sites_in reach path after
sites_in reach path (dir name inside after) =
    cond (is_short name)
    ((path ++ name ∷ [], visit_of reach path name inside)
    ∷ walked (visit_of reach path name inside) (sites_in reach (path ++ name ∷ []) inside)) []
    ++ sites_in reach path after

-- the top directory, and what its shorties lead to
abbrev pub sites : Reach → Forest → List Site
sites reach top = ([], Listed top) ∷ sites_in reach [] top

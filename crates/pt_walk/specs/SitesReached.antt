-- Which directories of a tree are sites that are listed.
use Rattle.std.specs.Prelude.{◌≡◌, ◌≤◌, ◌⊎◌, ◌==◌, ◌&&◌, Bool, true, List, [], ◌∷◌, ◌++◌, length, Some}
use Rattle.pt_tree.specs.Forest.{Forest, Dir, is_proper, node_at}
use Rattle.pt_tree.specs.Path.{Path}
use Rattle.pt_walk.specs.Site.{is_short}
use Rattle.pt_walk.specs.Sites.{Listed, Reach, Site, sites}

-- the site is one of these
abbrev pub IsAmongSites : Site → List Site → Type 0
IsAmongSites site [] = ⊥
IsAmongSites site (first ∷ others) = (first ≡ site) ⊎ IsAmongSites site others

-- shorties lead down the path, none of them below a name of one byte
abbrev pub is_way : Path → Bool
is_way [] = true
is_way (name ∷ []) = is_short name
is_way (name ∷ next ∷ path) = (length name == 2) && is_way (next ∷ path)

-- each directory below this one on the way down the path is walked into
abbrev pub is_walked : (Path → Bool) → Path → Path → Bool
is_walked walks above [] = true
is_walked walks above (name ∷ path) =
    walks (above ++ name ∷ []) && is_walked walks (above ++ name ∷ []) path

-- what it takes to be a site that is listed: it is the top directory, or stands at the end of such a path that isn't too long, all of which is walked
pub record IsReached (reach : Reach) (top : Forest) (path : Path) (inside : Forest) : Type 0 where
  pub there : node_at (Dir top) path ≡ Some (Dir inside)
  pub way : is_way path ≡ true
  pub depth : (path ≡ []) ⊎ (length path ≤ reach.depth)
  pub walked : is_walked reach.walks [] path ≡ true

-- each site that is listed is such a directory
abbrev pub ListedSitesAreReached : Type 0
ListedSitesAreReached = (reach : Reach) (top : Forest) (path : Path) (inside : Forest)
    → is_proper top ≡ true → IsAmongSites (path, Listed inside) (sites reach top)
    → IsReached reach top path inside

-- and each such directory is a site that is listed
abbrev pub ReachedSitesAreListed : Type 0
ReachedSitesAreListed = (reach : Reach) (top : Forest) (path : Path) (inside : Forest)
    → IsReached reach top path inside → IsAmongSites (path, Listed inside) (sites reach top)

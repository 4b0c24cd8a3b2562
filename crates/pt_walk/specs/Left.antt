-- What of a walk is still to come, at a trail through a tree.
use Rattle.std.specs.Prelude.{◌≡◌, ℕ, ◌+◌, ◌&&◌, suc, zero, Bool, false, cond, List, [], ◌∷◌, ◌++◌, length, Some, unwrap_or, take}
use Rattle.std.specs.Option.{option_map}
use Rattle.pt_tree.specs.Forest.{Forest, none, file, other, dir, Node, File, Dir, Other, dir_at, file_at, find, listing_at, listing_of}
use Rattle.pt_tree.specs.Listing.{Item}
use Rattle.pt_tree.specs.Path.{Path}
use Rattle.pt_walk.specs.declared.frame.Frame.{Frame}
use Rattle.pt_walk.specs.Object.{Entry, entries_in, without_shorties}
use Rattle.pt_walk.specs.Site.{is_shorty}
use Rattle.pt_walk.specs.Sites.{Reach, Site, sites_in}
use Rattle.pt_walk.specs.Trail.{names_to}

-- what the directory at this path holds
abbrev pub inside_at : Forest → Path → Forest
inside_at top path = unwrap_or (dir_at top path) none

-- the bytes of the file at this path
abbrev pub bytes_at : Forest → Path → List ℕ
bytes_at top path = unwrap_or (file_at top path) []

-- the entries of a directory from this index on
abbrev pub entries_from : ℕ → Forest → Forest
entries_from zero entries = entries
entries_from (suc i) none = none
entries_from (suc i) (file name bytes after) = entries_from i after
entries_from (suc i) (other name after) = entries_from i after
entries_from (suc i) (dir name inside after) = entries_from i after

-- each listing of the trail is that of the directory at its path
abbrev pub Fits : Forest → List Frame → Type 0
Fits top [] = Unit {0}
Fits top (frame ∷ frames) = (listing_at top (names_to frames) ≡ Some frame.listing) × Fits top frames

-- the sites after those entries at which the frames stand
abbrev pub sites_after : Reach → Forest → List Frame → List Site
sites_after reach top [] = []
sites_after reach top (frame ∷ frames) =
    sites_in reach (names_to frames)
    (entries_from (frame.place + 1) (inside_at top (names_to frames)))
    ++ sites_after reach top frames

-- the sites that are still to come: the entry at the innermost place is the next
abbrev pub sites_left : Reach → Forest → List Frame → List Site
sites_left reach top [] = []
sites_left reach top (frame ∷ frames) =
    sites_in reach (names_to frames) (entries_from frame.place (inside_at top (names_to frames)))
    ++ sites_after reach top frames

-- what belongs to the object, of a directory this many names inside it
abbrev pub of_object : Bool → ℕ → Forest → Forest
of_object gathered zero entries = cond gathered (without_shorties entries) entries
of_object gathered (suc k) entries = entries

-- the entry is a shorty of the site whose other entries are the object
abbrev pub is_passed : Bool → ℕ → Item → Bool
is_passed gathered zero item = gathered && is_shorty item
is_passed gathered (suc k) item = false

-- the entries of the object after those at which its frames stand, the first so many
abbrev pub entries_after : Bool → Forest → ℕ → List Frame → List Entry
entries_after gathered top zero frames = []
entries_after gathered top (suc k) [] = []
entries_after gathered top (suc k) (frame ∷ frames) =
    entries_in (names_to (take k frames))
    (of_object gathered k (entries_from (frame.place + 1) (inside_at top (names_to frames))))
    ++ entries_after gathered top k frames

-- the entries of the object that are still to come, where the first so many frames are its own: the entry at the innermost place is the next
abbrev pub entries_left : Bool → Forest → ℕ → List Frame → List Entry
entries_left gathered top zero frames = []
entries_left gathered top (suc k) [] = []
entries_left gathered top (suc k) (frame ∷ frames) =
    entries_in (names_to (take k frames))
    (of_object gathered k (entries_from frame.place (inside_at top (names_to frames))))
    ++ entries_after gathered top k frames

-- how many entries the directories on the way down this path list, from the node on
abbrev pub listed_from : Node → Path → ℕ
listed_from (File bytes) path = 0
listed_from Other path = 0
listed_from (Dir inside) [] = length (listing_of inside)
listed_from (Dir inside) (name ∷ path) =
    length (listing_of inside)
    + unwrap_or (option_map (λ node. listed_from node path) (find inside name)) 0

-- how many entries the directories from the top to the one at this path list, both included
abbrev pub listed : Forest → Path → ℕ
listed top path = listed_from (Dir top) path

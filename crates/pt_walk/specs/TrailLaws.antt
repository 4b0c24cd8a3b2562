-- What holds of every trail through a tree.
use Rattle.std.specs.Prelude.{◌≡◌, ℕ, true, List, [], ◌∷◌, ◌++◌, Some, drop, take, length}
use Rattle.pt_tree.specs.declared.kind.Kind.TheVariants as kind
use Rattle.pt_tree.specs.Forest.{Forest, Dir, dir_at, node_at, file_at, is_proper, listing_at, listing_of}
use Rattle.pt_tree.specs.Listing.{Item}
use Rattle.pt_tree.specs.Path.{Path}
use Rattle.pt_walk.specs.declared.frame.Frame.{Frame}
use Rattle.pt_walk.specs.Left.{Fits, bytes_at, inside_at, listed}
use Rattle.pt_walk.specs.Trail.{advanced, entered, entries_held, entry_at, is_trail, names_to, parent, sought}

-- a trail fits a tree as long as each listing that is entered is that of the directory at the innermost place
abbrev pub FitsWhenEntered : Type 0
FitsWhenEntered = (top : Forest) (frames : List Frame) (items : List Item) → Fits top frames
    → listing_at top (names_to frames) ≡ Some items → Fits top (entered items frames)

-- a trail through a tree is one still when it seeks, advances or leaves
abbrev pub FitsWhenMoved : Type 0
FitsWhenMoved = (top : Forest) (frames : List Frame) (place : ℕ) → Fits top frames
    → Fits top (sought place frames) × Fits top (advanced frames) × Fits top (parent frames)

-- a directory that is listed at the innermost place is there
abbrev pub DirectoryIsThere : Type 0
DirectoryIsThere =
    (top : Forest) (frame : Frame) (frames : List Frame) (name : List ℕ) → is_proper top ≡ true
    → Fits top (frame ∷ frames) → entry_at frame ≡ Some (name, kind.Dir)
    → dir_at top (names_to frames ++ name ∷ []) ≡ Some (inside_at top (names_to frames ++ name ∷ []))

-- a file that is listed at the innermost place is there
abbrev pub FileIsThere : Type 0
FileIsThere =
    (top : Forest) (frame : Frame) (frames : List Frame) (name : List ℕ) → is_proper top ≡ true
    → Fits top (frame ∷ frames) → entry_at frame ≡ Some (name, kind.File)
    → file_at top (names_to frames ++ name ∷ []) ≡ Some (bytes_at top (names_to frames ++ name ∷ []))

-- the innermost listing is that of the directory at its path, which is proper in a proper tree
abbrev pub ListingIsThere : Type 0
ListingIsThere =
    (top : Forest) (frame : Frame) (frames : List Frame) → is_proper top ≡ true → Fits top (frame ∷ frames)
    → (dir_at top (names_to frames) ≡ Some (inside_at top (names_to frames)))
    × (listing_of (inside_at top (names_to frames)) ≡ frame.listing)
    × (is_proper (inside_at top (names_to frames)) ≡ true)

-- the path of a listing that is entered has the name of the entry more
abbrev pub PathGrows : Type 0
PathGrows = (frame : Frame) (frames : List Frame) (item : Item) → entry_at frame ≡ Some item
    → names_to (frame ∷ frames) ≡ names_to frames ++ item.0 ∷ []

-- a trail through a tree holds what the directories down to the innermost list
abbrev pub HoldsWhatIsListed : Type 0
HoldsWhatIsListed =
    (top : Forest) (frame : Frame) (frames : List Frame) → is_trail (frame ∷ frames) ≡ true
    → Fits top (frame ∷ frames) → entries_held (frame ∷ frames) ≡ listed top (names_to frames)

-- the path of the innermost listing is that of any listing around it, and the names from there on
abbrev pub PathSplits : Type 0
PathSplits = (k : ℕ) (frames : List Frame)
    → names_to frames ≡ names_to (drop k frames) ++ names_to (take k frames)

-- it has as many names as there are listings around the innermost
abbrev pub PathHasANameForEach : Type 0
PathHasANameForEach = (frame : Frame) (frames : List Frame) → is_trail (frame ∷ frames) ≡ true
    → length (names_to frames) ≡ length frames

-- what stands below a directory of a tree is what stands in it, and a directory of a proper tree is proper
abbrev pub ReadsBelowADirectory : Type 0
ReadsBelowADirectory =
    (tree inside : Forest) (path below : Path) → dir_at tree path ≡ Some inside
    → (node_at (Dir tree) (path ++ below) ≡ node_at (Dir inside) below)
    × (is_proper tree ≡ true → is_proper inside ≡ true)

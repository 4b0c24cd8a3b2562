-- What of a walk through an object is still to come, when the trail changes.
-- So many frames are the object's own; where it is gathered, the outermost of them is the site, whose shorties are passed.
use Rattle.std.specs.Prelude.{◌≡◌, ℕ, suc, Bool, true, false, List, [], ◌∷◌, ◌++◌, None, Some, take}
use Rattle.pt_tree.specs.declared.kind.Kind.TheVariants as kind
use Rattle.pt_tree.specs.Forest.{Forest, File, Dir, Other, is_proper, listing_of}
use Rattle.pt_tree.specs.Listing.{Item}
use Rattle.pt_walk.specs.declared.frame.Frame.{Frame}
use Rattle.pt_walk.specs.Left.{Fits, bytes_at, entries_left, inside_at, is_passed}
use Rattle.pt_walk.specs.Object.{entries, without_shorties}
use Rattle.pt_walk.specs.Trail.{advanced, entered, entry_at, names_to, sought}

-- at first, in the directory of an object: all its entries
abbrev pub StartsWithTheObject : Type 0
StartsWithTheObject =
    (top : Forest) (frame : Frame) (frames : List Frame) (name : List ℕ) (inside : Forest)
    → entry_at frame ≡ Some (name, kind.Dir) → inside ≡ inside_at top (names_to frames ++ name ∷ [])
    → entries_left false top 1 (entered (listing_of inside) (frame ∷ frames)) ≡ entries inside

-- at first, in a site that is gathered: all its entries but its shorties
abbrev pub StartsWithTheGathered : Type 0
StartsWithTheGathered =
    (top : Forest) (frame : Frame) (frames : List Frame)
    → entries_left true top 1 (sought 0 (frame ∷ frames))
    ≡ entries (without_shorties (inside_at top (names_to frames)))

-- a file is the next entry, and the others are left behind it
abbrev pub ReadsTheNextFile : Type 0
ReadsTheNextFile =
    (gathered : Bool) (top : Forest) (k : ℕ) (frame : Frame) (frames : List Frame) (name : List ℕ)
    → is_proper top ≡ true → Fits top (frame ∷ frames) → entry_at frame ≡ Some (name, kind.File)
    → entries_left gathered top (suc k) (frame ∷ frames)
    ≡ (names_to (take k frames) ++ name ∷ [], File (bytes_at top (names_to frames ++ name ∷ [])))
    ∷ entries_left gathered top (suc k) (advanced (frame ∷ frames))

-- what is neither a file nor a directory is the next entry
abbrev pub MeetsTheNextOther : Type 0
MeetsTheNextOther =
    (gathered : Bool) (top : Forest) (k : ℕ) (frame : Frame) (frames : List Frame) (name : List ℕ)
    → is_proper top ≡ true → Fits top (frame ∷ frames) → entry_at frame ≡ Some (name, kind.Other)
    → entries_left gathered top (suc k) (frame ∷ frames)
    ≡ (names_to (take k frames) ++ name ∷ [], Other)
    ∷ entries_left gathered top (suc k) (advanced (frame ∷ frames))

-- where a directory is entered, it is the next entry, and the others are left
abbrev pub EntersTheNextDirectory : Type 0
EntersTheNextDirectory =
    (gathered : Bool) (top : Forest) (k : ℕ) (frame : Frame) (frames : List Frame) (name : List ℕ)
    (inside : Forest) → is_proper top ≡ true → Fits top (frame ∷ frames)
    → entry_at frame ≡ Some (name, kind.Dir) → is_passed gathered k (name, kind.Dir) ≡ false
    → inside ≡ inside_at top (names_to frames ++ name ∷ [])
    → entries_left gathered top (suc k) (frame ∷ frames)
    ≡ (names_to (take k frames) ++ name ∷ [], Dir inside)
    ∷ entries_left gathered top (suc (suc k)) (entered (listing_of inside) (frame ∷ frames))

-- a shorty of a gathered site isn't of the object
abbrev pub PassesTheNextShorty : Type 0
PassesTheNextShorty =
    (gathered : Bool) (top : Forest) (k : ℕ) (frame : Frame) (frames : List Frame) (item : Item)
    → is_proper top ≡ true → Fits top (frame ∷ frames) → entry_at frame ≡ Some item
    → is_passed gathered k item ≡ true
    → entries_left gathered top (suc k) (frame ∷ frames)
    ≡ entries_left gathered top (suc k) (advanced (frame ∷ frames))

-- at the end of a listing the entries are those left at the next one of the listing around it
abbrev pub LeavesTheDirectory : Type 0
LeavesTheDirectory =
    (gathered : Bool) (top : Forest) (k : ℕ) (frame outer : Frame) (frames : List Frame)
    → Fits top (frame ∷ outer ∷ frames) → entry_at frame ≡ None
    → entries_left gathered top (suc (suc k)) (frame ∷ outer ∷ frames)
    ≡ entries_left gathered top (suc k) (advanced (outer ∷ frames))

-- at the end of the object's own listing there are none
abbrev pub EndsWithTheObject : Type 0
EndsWithTheObject =
    (gathered : Bool) (top : Forest) (frame : Frame) (frames : List Frame)
    → Fits top (frame ∷ frames) → entry_at frame ≡ None
    → entries_left gathered top 1 (frame ∷ frames) ≡ []

-- What of a walk through the sites is still to come, when the trail changes.
use Rattle.std.specs.Prelude.{◌≡◌, ℕ, true, false, List, [], ◌∷◌, ◌++◌, None, Some}
use Rattle.pt_tree.specs.declared.kind.Kind.TheVariants as kind
use Rattle.pt_tree.specs.Forest.{Forest, is_proper, listing_of}
use Rattle.pt_tree.specs.Listing.{Item}
use Rattle.pt_walk.specs.declared.frame.Frame.{Frame}
use Rattle.pt_walk.specs.Left.{Fits, inside_at, sites_left}
use Rattle.pt_walk.specs.Site.{is_short, is_shorty}
use Rattle.pt_walk.specs.Sites.{Listed, Reach, is_listed, sites, visit_of}
use Rattle.pt_walk.specs.Trail.{advanced, entered, entry_at, names_to}

-- at first: all sites but the top directory, which is listed
abbrev pub StartsWithTheTop : Type 0
StartsWithTheTop = (reach : Reach) (top : Forest)
    → sites reach top ≡ ([], Listed top) ∷ sites_left reach top (entered (listing_of top) [])

-- where a shorty is entered, it is the next site, and the others are left
abbrev pub EntersTheNextSite : Type 0
EntersTheNextSite =
    (reach : Reach) (top : Forest) (frame : Frame) (frames : List Frame) (name : List ℕ)
    (path : List (List ℕ)) (inside : Forest) → is_proper top ≡ true → Fits top (frame ∷ frames)
    → entry_at frame ≡ Some (name, kind.Dir) → is_short name ≡ true
    → path ≡ names_to frames ++ name ∷ [] → inside ≡ inside_at top path
    → visit_of reach (names_to frames) name inside ≡ Listed inside
    → sites_left reach top (frame ∷ frames)
    ≡ (path, Listed inside) ∷ sites_left reach top (entered (listing_of inside) (frame ∷ frames))

-- where a shorty isn't listed, it is the next site, and the others are left at the next entry
abbrev pub PassesTheNextSite : Type 0
PassesTheNextSite =
    (reach : Reach) (top : Forest) (frame : Frame) (frames : List Frame) (name : List ℕ)
    (path : List (List ℕ)) (inside : Forest) → is_proper top ≡ true → Fits top (frame ∷ frames)
    → entry_at frame ≡ Some (name, kind.Dir) → is_short name ≡ true
    → path ≡ names_to frames ++ name ∷ [] → inside ≡ inside_at top path
    → is_listed (visit_of reach (names_to frames) name inside) ≡ false
    → sites_left reach top (frame ∷ frames)
    ≡ (path, visit_of reach (names_to frames) name inside)
    ∷ sites_left reach top (advanced (frame ∷ frames))

-- any other entry is no site
abbrev pub PassesNonShorties : Type 0
PassesNonShorties =
    (reach : Reach) (top : Forest) (frame : Frame) (frames : List Frame) (item : Item)
    → is_proper top ≡ true → Fits top (frame ∷ frames) → entry_at frame ≡ Some item
    → is_shorty item ≡ false
    → sites_left reach top (frame ∷ frames) ≡ sites_left reach top (advanced (frame ∷ frames))

-- at the end of a listing the sites are those left at the next entry of the one around it
abbrev pub LeavesTheSite : Type 0
LeavesTheSite =
    (reach : Reach) (top : Forest) (frame outer : Frame) (frames : List Frame)
    → Fits top (frame ∷ outer ∷ frames) → entry_at frame ≡ None
    → sites_left reach top (frame ∷ outer ∷ frames) ≡ sites_left reach top (advanced (outer ∷ frames))

-- at the end of the top directory there are none
abbrev pub EndsWithTheTop : Type 0
EndsWithTheTop = (reach : Reach) (top : Forest) (frame : Frame) → Fits top (frame ∷ [])
    → entry_at frame ≡ None → sites_left reach top (frame ∷ []) ≡ []

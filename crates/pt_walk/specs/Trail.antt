-- The listings on the way to where a walk stands, the innermost first, each with the place reached in it.
use Rattle.std.specs.Prelude.{ℕ, Bool, true, false, ◌+◌, ◌&&◌, nat_le, List, [], ◌∷◌, ◌++◌, length, Option, None, Some, slice_get, option_to_list}
use Rattle.std.specs.Option.{option_map}
use Rattle.pt_tree.specs.Listing.{Item, names_rise}
use Rattle.pt_tree.specs.Path.{Path}
use Rattle.pt_walk.specs.declared.frame.Frame.{Frame}
use Rattle.pt_walk.specs.Site.{is_dir}

-- the entry that the place is at, if the place isn't the end
abbrev pub entry_at : Frame → Option Item
entry_at frame = slice_get frame.listing frame.place

-- there is an entry, and it is a directory
abbrev pub is_dir_entry : Option Item → Bool
is_dir_entry None = false
is_dir_entry (Some item) = is_dir item.1

-- the names rise, and the place is one of the listing or its end
abbrev pub is_frame : Frame → Bool
is_frame frame = names_rise frame.listing && nat_le frame.place (length frame.listing)

-- each of these was left for a directory of it
abbrev pub are_outer : List Frame → Bool
are_outer [] = true
are_outer (frame ∷ frames) = is_frame frame && (is_dir_entry (entry_at frame) && are_outer frames)

-- all but the innermost were left for a directory
abbrev pub is_trail : List Frame → Bool
is_trail [] = true
is_trail (frame ∷ frames) = is_frame frame && are_outer frames

-- a listing may be entered: there is none yet, or the innermost place is at a directory
abbrev pub can_enter : List Frame → Bool
can_enter [] = true
can_enter (frame ∷ frames) = is_dir_entry (entry_at frame)

-- with this listing entered
abbrev pub entered : List Item → List Frame → List Frame
entered items frames = record { listing = items; place = 0 } ∷ frames

-- there is an innermost listing that has this place, or ends there
abbrev pub has_place : ℕ → List Frame → Bool
has_place place [] = false
has_place place (frame ∷ frames) = nat_le place (length frame.listing)

-- with the innermost place there
abbrev pub sought : ℕ → List Frame → List Frame
sought place [] = []
sought place (frame ∷ frames) = record { listing = frame.listing; place = place } ∷ frames

-- with the innermost place at the next entry
abbrev pub advanced : List Frame → List Frame
advanced [] = []
advanced (frame ∷ frames) = record { listing = frame.listing; place = frame.place + 1 } ∷ frames

-- without the innermost listing
abbrev pub parent : List Frame → List Frame
parent [] = []
parent (frame ∷ frames) = frames

-- the entry at the innermost place
abbrev pub current_entry : List Frame → Option Item
current_entry [] = None
current_entry (frame ∷ frames) = entry_at frame

-- the innermost listing
abbrev pub innermost_listing : List Frame → Option (List Item)
innermost_listing [] = None
innermost_listing (frame ∷ frames) = Some frame.listing

-- the name of the entry that the place is at
abbrev pub name_at : Frame → Path
name_at frame = option_to_list (option_map (λ (item : Item). item.0) (entry_at frame))

-- the names at the places
abbrev pub names_to : List Frame → Path
names_to [] = []
names_to (frame ∷ frames) = names_to frames ++ name_at frame

-- the path of the innermost listing: the names at the places of all but it
abbrev pub trail_path : List Frame → Path
trail_path frames = names_to (parent frames)

-- how many entries the listings have together
abbrev pub entries_held : List Frame → ℕ
entries_held [] = 0
entries_held (frame ∷ frames) = length frame.listing + entries_held frames

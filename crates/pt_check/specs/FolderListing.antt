-- What of a folder could be listed.
use Rattle.std.specs.Prelude.{Bool, true, false, List, Option, None, Some, ⊤}
use Rattle.pt_check.specs.declared.folder_listing.FolderListing.{FolderListing}
use Rattle.pt_check.specs.declared.folder_listing.FolderListing.TheVariants as listing
use Rattle.pt_check.specs.declared.folder_listing.ListedEntries.{ListedEntries}
use Rattle.pt_tree.specs.Listing.{Item}

-- these are all entries of it
abbrev pub whole_listing : List Item → FolderListing
whole_listing items = listing.Entries (record { listing = items; is_whole = true })

-- it couldn't be listed whole; these are its entries that have names, if those could be
abbrev pub in_part : Option (List Item) → FolderListing
in_part (Some items) = listing.Entries (record { listing = items; is_whole = false })
in_part None = listing.Nothing

-- this holds where nothing could be listed, and that of the entries that could
abbrev pub MatchListing : FolderListing → Type 0 → (ListedEntries → Type 0) → Type 0
MatchListing (listing.Entries entries) P Q = Q entries
MatchListing listing.Nothing P Q = P

-- this holds of the entries that could be listed, if any could
abbrev pub IfEntries : FolderListing → (ListedEntries → Type 0) → Type 0
IfEntries (listing.Entries entries) Q = Q entries
IfEntries listing.Nothing Q = ⊤

-- entries could be listed, though it may be none
abbrev pub has_entries : FolderListing → Bool
has_entries (listing.Entries entries) = true
has_entries listing.Nothing = false

-- A folder that couldn't be listed is told so, and what of it could be listed is found.
use Rattle.std.proofs.Common.{◌≡◌, Bool, false, Result, Ok, Err, subst, sym}
use Rattle.std.specs.Prelude.{IfOk}
use Rattle.pt_check.specs.FolderListing.{IfEntries, MatchListing, has_entries}
use Rattle.pt_check.specs.Visits.{CheckState, Finds, Says, TellsReasons, TellsUnlisted, noted_by}
use Rattle.pt_check.specs.declared.folder_listing.FolderListing.{FolderListing}
use Rattle.pt_check.specs.declared.folder_listing.FolderListing.TheVariants as listing
use Rattle.pt_check.specs.declared.folder_listing.ListedEntries.{ListedEntries}
use Rattle.pt_plan.specs.declared.fault.Fault.{Fault}
use Rattle.pt_tree.specs.Failures.{HasRisen}
use Rattle.pt_tree.specs.Path.{Path}

-- after a call that failed nothing else is other than it was
abbrev pub OnlyFailed : CheckState → CheckState → Type 0
OnlyFailed a m = (m.failing ≡ a.failing) × HasRisen a.failed m.failed × (m.held ≡ a.held) × (noted_by m ≡ noted_by a)

unlisted : (says : Says) (path : Path) (part : Bool) (a m b : CheckState) → OnlyFailed a m → TellsReasons says path part m b
    → TellsUnlisted says path part a b
unlisted says path part a m b (failing, rose, held, numbers) tells = (m, failing, rose, held, numbers, tells)

-- nothing of it could be listed, or these entries
pub part_listed : (says : Says) (path : Path) (ran : Result FolderListing Fault) (P : ListedEntries → Type 0) (a m b : CheckState) → OnlyFailed a m
    → IfOk ran (λ found. TellsReasons says path (has_entries found) m b) → IfOk ran (λ found. IfEntries found P)
    → IfOk ran (λ found. MatchListing found (TellsUnlisted says path false a b) P)
part_listed says path (Ok (listing.Entries entries)) P a m b failed tells are = are
part_listed says path (Ok listing.Nothing) P a m b failed tells are = unlisted says path false a m b failed tells
part_listed says path (Err why) P a m b failed tells are = tt

-- they aren't all
pub part_found : (says : Says) (path : Path) (ran : Result FolderListing Fault) (a m b : CheckState) → OnlyFailed a m
    → IfOk ran (λ found. TellsReasons says path (has_entries found) m b) → IfOk ran (λ found. IfEntries found (λ e. e.is_whole ≡ false))
    → IfOk ran (λ found. IfEntries found (λ e. Finds says path e.is_whole a b))
part_found says path (Ok (listing.Entries entries)) a m b failed tells part =
    subst (λ (whole : Bool). Finds says path whole a b) (sym part) (unlisted says path _ a m b failed tells)
part_found says path (Ok listing.Nothing) a m b failed tells part = tt
part_found says path (Err why) a m b failed tells part = tt

-- What of a store is told by a check of a share, and what that walks. A path leads from the store's folder on.
use Rattle.std.specs.Prelude.{ℕ, ◌==◌, ◌&&◌, ◌||◌, Bool, true, false, cond, drop, is_some, length, not, List, [], ◌∷◌, Option}
use Rattle.pt_check.specs.declared.within.Within.{Within}
use Rattle.pt_check.specs.declared.within.Within.TheVariants as within
use Rattle.pt_name.specs.Identifying.{identification_of, identifier_read}
use Rattle.pt_name.specs.Share.{Portion, tells_at, walks}
use Rattle.pt_name.specs.Tuples.{Tuples}
use Rattle.pt_name.specs.Unmet.{without_any}
use Rattle.pt_name.specs.declared.identifying.Identification.{Identification}
use Rattle.pt_name.specs.declared.identifying.Identification.TheVariants as answer
use Rattle.pt_tree.specs.Listing.{Item}
use Rattle.pt_tree.specs.Path.{Path}
use Rattle.pt_walk.specs.Site.{is_shorty}
use Rattle.pt_walk.specs.declared.site.Finding.{Finding}
use Rattle.pt_walk.specs.declared.site.Finding.TheVariants as finding

-- there is no other share, and nothing is chosen of it
abbrev pub is_all : Portion → Bool
is_all share = share.count == 1 && (length share.only == 0 && not (is_some share.list))

-- what is told at this path before an identifier is known is the share's own
abbrev pub is_own_way : Portion → Path → Bool
is_own_way share path = is_all share || tells_at share (drop 1 path)

-- the object of a site, of which this is said, is the share's own; where no run carries it, what is told at the site
abbrev pub is_own_by : Portion → Path → Identification → Bool
is_own_by share site (answer.Refused why) = tells_at share site
is_own_by share site answer.OtherShare = false
is_own_by share site (answer.Candidate it) = true

-- by the names of its site, which read its identifier behind a prefix
abbrev pub is_own_object : Tuples → Portion → List ℕ → Path → Bool
is_own_object tuples share prefix [] = tells_at share []
is_own_object tuples share prefix (name ∷ names) =
    is_own_by share (name ∷ names) (identification_of tuples share prefix (name ∷ names))

-- what lies in a folder that is found to be this, and is the share's own or not, as far as that isn't the object's of a site
abbrev pub is_own_by_finding : Tuples → Portion → Path × List ℕ → Finding → Bool → Bool
is_own_by_finding tuples share at finding.Interior own = own
is_own_by_finding tuples share at (finding.Skip why) own = own
is_own_by_finding tuples share at (finding.Candidate i) own = is_own_object tuples share at.1 (drop 1 at.0)
is_own_by_finding tuples share at finding.Gathered own = is_own_object tuples share at.1 (drop 1 at.0)

-- what lies in a folder at a path in a store of this prefix, which are a pair, is the share's own
abbrev pub is_own_in : Tuples → Portion → Path × List ℕ → Finding → Bool → Bool
is_own_in tuples share at what own = cond (is_all share) own (is_own_by_finding tuples share at what own)

-- a folder that is this is a site
abbrev pub is_site : Within → Bool
is_site (within.Site at) = true
is_site within.Past = false
is_site (within.Object before) = false
is_site within.Beside = false

-- an entry at this path is the share's own, in a folder that is this, where what lies in that is its own or not: a shorty of a site is by its way
abbrev pub is_own_entry : Portion → Path → Within → Item → Bool → Bool
is_own_entry share path here item own =
    cond (is_all share) own (cond (is_shorty item && is_site here) (tells_at share (drop 1 path)) own)

-- a folder that is this, and is the share's own or not, is walked: a site, where the share walks that, and what isn't one where it is its own
abbrev pub is_walked : Portion → Path → Within → Bool → Bool
is_walked share path here own = cond (is_all share) own (cond (is_site here) (walks share (drop 1 path)) own)

-- ---- a list

-- of these identifiers those of which no object is met, once the names of a site read one behind a prefix
abbrev pub unmet_at : List ℕ → Path → List (Option (List ℕ)) → List (Option (List ℕ))
unmet_at prefix [] unmet = unmet
unmet_at prefix (name ∷ names) unmet = without_any (identifier_read prefix (name ∷ names)) unmet

-- the same by what the folder at a path in a store of this prefix, which are a pair, is found to be; of all there is no list
abbrev pub unmet_behind : Portion → Path × List ℕ → Finding → List (Option (List ℕ)) → List (Option (List ℕ))
unmet_behind share at finding.Interior unmet = unmet
unmet_behind share at (finding.Skip why) unmet = unmet
unmet_behind share at (finding.Candidate i) unmet = cond (is_all share) unmet (unmet_at at.1 (drop 1 at.0) unmet)
unmet_behind share at finding.Gathered unmet = cond (is_all share) unmet (unmet_at at.1 (drop 1 at.0) unmet)

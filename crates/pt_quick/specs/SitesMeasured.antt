-- What a walk meets in a store that is seen by lengths.
use Rattle.std.specs.Prelude.{◌≡◌, ◌<◌, ◌^◌, ℕ, List, length, map}
use Rattle.std.specs.List.{All}
use Rattle.pt_object.specs.FilePaths.{File}
use Rattle.pt_plan.specs.Items.{Fails, Holds, Interior, Item, Named, Outcome, PairtreeObject, Skip, Verdict, items, outcome}
use Rattle.pt_plan.specs.Job.{Job}
use Rattle.pt_plan.specs.Store.{has_prefix, is_store, prefix_of, sites_of}
use Rattle.pt_tree.specs.Forest.{Forest}
use Rattle.pt_walk.specs.Limits.{Bounds}
use Rattle.pt_walk.specs.Object.{entries, files}
use Rattle.pt_walk.specs.Sites.{Deep, Elsewhere, Listed, Past, Reach, Site, Visit}
use Rattle.pt_quick.specs.ByDepth.{measured}
use Rattle.pt_quick.specs.Measured.{lengths_of, text_of_file}

-- a store of which all files but those at its top are seen by lengths
abbrev pub store_seen : ℕ → Forest → Forest
store_seen longest store = measured longest 1 store

-- how a directory on the way is met there
abbrev pub visit_seen : ℕ → Visit → Visit
visit_seen longest (Listed inside) = Listed (lengths_of longest inside)
visit_seen longest Past = Past
visit_seen longest Deep = Deep
visit_seen longest Elsewhere = Elsewhere

-- at the same place
abbrev pub site_seen : ℕ → Site → Site
site_seen longest site = (site.0, visit_seen longest site.1)

-- an object with the lengths of its files
abbrev pub object_seen : ℕ → PairtreeObject → PairtreeObject
object_seen longest object = record object { inside = lengths_of longest object.inside }

-- a verdict on it is the same
abbrev pub verdict_seen : ℕ → Verdict → Verdict
verdict_seen longest Interior = Interior
verdict_seen longest (Skip why) = Skip why
verdict_seen longest (Named id object) = Named id (object_seen longest object)

-- an item with the lengths of its object's files
abbrev pub item_seen : ℕ → Item → Item
item_seen longest item = record {
  path = item.path;
  visit = visit_seen longest item.visit;
  verdict = verdict_seen longest item.verdict;
}

-- a file with the text of its length
abbrev pub file_seen : ℕ → File → File
file_seen longest file = (file.0, text_of_file longest file.1)

-- what comes of an object is the same, with the lengths of its files
abbrev pub outcome_seen : ℕ → Outcome → Outcome
outcome_seen longest (Fails why) = Fails why
outcome_seen longest (Holds files) = Holds (map (file_seen longest) files)

-- the limits of a walk by lengths: of a file that is carried the text has at most twenty bytes
abbrev pub limits_seen : Bounds → Bounds
limits_seen limits = record limits { file_bytes = 20 }

-- each file has fewer than 2^64 bytes
abbrev pub AreShort : List File → Type 0
AreShort files = All (λ (file : File). length file.1 < 2 ^ 64) files

-- ---- laws

-- what stands at the top, and is read there, is the same
pub record StoreStays : Type 0 where
  pub store : (longest : ℕ) (store : Forest) → is_store (store_seen longest store) ≡ is_store store
  pub good : (longest : ℕ) (store : Forest) → has_prefix (store_seen longest store) ≡ has_prefix store
  pub prefix : (longest : ℕ) (store : Forest) → prefix_of (store_seen longest store) ≡ prefix_of store

-- the walk comes to the same directories
abbrev pub SitesAreSeen : Type 0
SitesAreSeen = (longest : ℕ) (reach : Reach) (store : Forest)
    → sites_of reach (store_seen longest store) ≡ map (site_seen longest) (sites_of reach store)

-- with the same identifiers and causes
abbrev pub ItemsAreSeen : Type 0
ItemsAreSeen = (longest : ℕ) (job : Job) (store : Forest)
    → items job (store_seen longest store) ≡ map (item_seen longest) (items job store)

-- and the same comes of each object
abbrev pub OutcomesAreSeen : Type 0
OutcomesAreSeen = (limits : Bounds) (object : PairtreeObject) → AreShort (files (entries object.inside))
    → outcome (limits_seen limits) (object_seen limits.file_bytes object)
    ≡ outcome_seen limits.file_bytes (outcome limits object)

-- What is told of a root of which a folder can't be listed.
use Rattle.std.specs.Prelude.{◌≡◌, ◌+◌, ◌-◌, ℕ, cond, List, [], ◌∷◌, ◌++◌, map}
use Rattle.pt_extra.specs.Findings.{Against, is_passed, of_folder, of_folder_by, of_leaf}
use Rattle.pt_extra.specs.Lines.{ExtraFinding, Unlisted}
use Rattle.pt_object.specs.WellKnown.{known_text}
use Rattle.pt_object.specs.declared.well_known.WellKnownName.TheVariants as known
use Rattle.pt_plan.specs.Roots.{storage_root}
use Rattle.pt_plan.specs.TurnStart.{is_dir_kind, kind_in}
use Rattle.pt_tree.specs.Forest.{Forest, none, file, other, dir, listing_of}
use Rattle.pt_tree.specs.Path.{Path}
use Rattle.pt_tree.specs.declared.kind.Kind.TheVariants as kind
use Rattle.pt_walk.specs.Left.{inside_at}

-- that a folder couldn't be listed whole, for each of these reasons. Each share tells it, as what is missed below may be of any
abbrev pub of_unlisted : Path → List (List ℕ) → List ExtraFinding
of_unlisted path reasons = map (λ reason. Unlisted reason path) reasons

-- what is told of a folder, by what is told of its entries: just what is found; or, only where the root failed, that it couldn't be listed whole,
-- for a reason or more, and behind that what is found of those of its entries that have names, by which a bare one isn't stray once more; or
-- nothing else, where nothing of it could be listed
pub data IsOfFolder (failed : Type 0) (c : Against) (path : Path) (left : ℕ) (inside : Forest) (entries told : List ExtraFinding) : Type 0 where
  Listed : told ≡ of_folder c path left inside entries → IsOfFolder failed c path left inside entries told
  InPart : failed → (reason : List ℕ) → (further : List (List ℕ))
      → told ≡ of_unlisted path (reason ∷ further) ++ of_folder_by c path left inside [] entries → IsOfFolder failed c path left inside entries told
  NotAtAll : failed → (reason : List ℕ) → (further : List (List ℕ)) → told ≡ of_unlisted path (reason ∷ further)
      → IsOfFolder failed c path left inside entries told

-- what is told of the entries of a folder at this path, below which so many names lead to an object, and of all that stands in them: what is found,
-- but for folders in them that couldn't be listed
abbrev pub IsOfEntries : Type 0 → Against → Path → ℕ → Forest → List ExtraFinding → Type 0
IsOfEntries failed c path left none told = told ≡ []
IsOfEntries failed c path left (file name bytes after) told =
    (rest : List ExtraFinding) × IsOfEntries failed c path left after rest × (told ≡ of_leaf c path name kind.File ++ rest)
IsOfEntries failed c path left (other name after) told =
    (rest : List ExtraFinding) × IsOfEntries failed c path left after rest × (told ≡ of_leaf c path name kind.Other ++ rest)
IsOfEntries failed c path left (dir name inside after) told =
    let it = path ++ name ∷ [] in
    (here : List ExtraFinding) × (rest : List ExtraFinding)
    × ((entries : List ExtraFinding) × IsOfEntries failed c it (left - 1) inside entries × IsOfFolder failed c it (left - 1) inside entries here)
    × IsOfEntries failed c path left after rest
    × (told ≡ cond (is_passed c.job.share path name kind.Dir) [] here ++ rest)

-- of a folder, and of all that stands in it
abbrev pub IsToldAt : Type 0 → Against → Path → ℕ → Forest → List ExtraFinding → Type 0
IsToldAt failed c path left inside told =
    (entries : List ExtraFinding) × IsOfEntries failed c path left inside entries × IsOfFolder failed c path left inside entries told

-- of a destination: of its storage root, if it has one
abbrev pub IsToldIn : Type 0 → Against → Forest → List ExtraFinding → Type 0
IsToldIn failed c standing told = cond (is_dir_kind (kind_in (listing_of standing) (known_text known.StorageRoot)))
    (IsToldAt failed c [] (c.job.tuples.count + 1) (inside_at standing storage_root) told) (told ≡ [])

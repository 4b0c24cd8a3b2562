-- What a root has and its store lacks.
use Rattle.std.specs.Prelude.{
  ℕ,
  ◌-◌,
  ◌==◌,
  ◌&&◌,
  ◌||◌,
  Bool,
  true,
  false,
  not,
  cond,
  codes,
  List,
  [],
  ◌∷◌,
  ◌++◌,
  drop,
  length,
  take,
  Option,
  None,
  Some,
}
use Rattle.std.specs.Str.{bytes_eq}
use Rattle.pt_audit.specs.Twin.{object_stands, proper_site}
use Rattle.pt_extra.specs.Inventories.{id_of}
use Rattle.pt_extra.specs.Lines.{ExtraFinding, Extra, Stray}
use Rattle.pt_name.specs.Place.{place_of}
use Rattle.pt_name.specs.Share.{Portion, begins_with, by_division, is_on_own_way, takes, tells_at}
use Rattle.pt_object.specs.WellKnown.{known_text}
use Rattle.pt_object.specs.declared.well_known.WellKnownName.TheVariants as known
use Rattle.pt_plan.specs.Job.{Job}
use Rattle.pt_plan.specs.TurnStart.{is_file_kind, kind_in}
use Rattle.pt_tree.specs.Forest.{Forest, none, file, other, dir, listing_of}
use Rattle.pt_tree.specs.Listing.{Item}
use Rattle.pt_tree.specs.Path.{Path, same_path}
use Rattle.pt_tree.specs.declared.kind.Kind.{Kind}
use Rattle.pt_tree.specs.declared.kind.Kind.TheVariants as kind

-- against what a root is held: what a run has to do, what each identifier of the store begins with, and the store
pub record Against : Type 0 where
  pub job : Job
  pub prefix : List ℕ
  pub store : Forest

-- ---- whose it is

-- the entry of the root at or below which a path lies, none for the top. Where the store is divided by its folders, its name gives the share of all that
-- stands there, as the first folder on the way to a site does
abbrev pub entry_of : Path → Path
entry_of path = take 1 path

-- what stands at this path of the root is looked at: of its entries a share looks at its own alone, where the store is divided by its folders, and so
-- no share but one comes to what is below
abbrev pub looks_at : Portion → Path → Bool
looks_at share path =
    not (length path == 1) || by_division share.division true (is_on_own_way share path)

-- ---- an object

-- an object stands in the store where this identifier belongs, as a run judges the site
abbrev pub is_held : Against → List ℕ → Bool
is_held c id =
    begins_with c.prefix id && object_stands c.job c.store (proper_site (drop (length c.prefix) id))

-- what has no identifier is stray, and is told by the first share alone, or by the one whose entry it is: the shares together tell it once
abbrev pub of_unnamed : Against → Path → List ExtraFinding
of_unnamed c path = cond (tells_at c.job.share (entry_of path)) (Stray path ∷ []) []

-- of an object at its place: nothing where the store has it
abbrev pub of_placed : Against → Path → List ℕ → List ExtraFinding
of_placed c path id = cond (is_held c id) [] (Extra id path ∷ [])

-- of an object at this path with this identifier, if one could be read: nothing where that isn't chosen, or the object is another share's
abbrev pub of_object : Against → Path → Option (List ℕ) → List ExtraFinding
of_object c path None = of_unnamed c path
of_object c path (Some id) =
    cond (takes c.job.share (entry_of path) id)
    (cond (same_path path (place_of c.job.tuples id)) (of_placed c path id) (Stray path ∷ [])) []

-- a folder that lists these is an object's root: it has a declaration (OCFL 1.1 and 1.0, "Object Structure")
abbrev pub is_object : List Item → Bool
is_object items = is_file_kind (kind_in items (known_text known.Declaration))
    || is_file_kind (kind_in items (codes "0=ocfl_object_1.0"))

-- ---- the root

-- a file of this name is a copy of a specification: OCFL's (OCFL 1.1, "Root Structure"), or that of its extensions
abbrev pub is_copy : List ℕ → Bool
is_copy name = bytes_eq (take 9 name) (codes "ocfl_1.1.") || bytes_eq name (codes "ocfl_extensions_1.0.md")

-- a file of this name says what a root is: its layout, or a specification
abbrev pub is_text : List ℕ → Bool
is_text name = bytes_eq name (known_text known.LayoutFile) || is_copy name

-- an entry of the top is the root's own: its declaration, a file that says what it is, or the extensions
abbrev pub is_own : List ℕ → Kind → Bool
is_own name kind.File = bytes_eq name (known_text known.RootDeclaration) || is_text name
is_own name kind.Dir = bytes_eq name (known_text known.Extensions)
is_own name kind.Other = false

-- so is an entry of the folder at this path
abbrev pub is_part : Path → List ℕ → Kind → Bool
is_part [] name here = is_own name here
is_part (n ∷ path) name here = false

-- it is passed: it is the root's own, or another share looks at it
abbrev pub is_passed : Portion → Path → List ℕ → Kind → Bool
is_passed share path name here = is_part path name here || not (looks_at share (path ++ name ∷ []))

-- what is found of an entry that is no folder
abbrev pub of_leaf : Against → Path → List ℕ → Kind → List ExtraFinding
of_leaf c path name here =
    cond (is_passed c.job.share path name here) [] (of_unnamed c (path ++ name ∷ []))

-- what is found of a folder, by what is found of it where it is bare, and what of its entries: it is an object, or is bare where it is empty, or
-- lies as deep as objects do
abbrev pub of_folder_by : Against → Path → ℕ → Forest → List ExtraFinding → List ExtraFinding → List ExtraFinding
of_folder_by c path left inside bare entries = cond (is_object (listing_of inside)) (of_object c path (id_of inside))
    (cond (left == 0 || length (listing_of inside) == 0) bare entries)

-- the same, where a bare one is stray
abbrev pub of_folder : Against → Path → ℕ → Forest → List ExtraFinding → List ExtraFinding
of_folder c path left inside entries = of_folder_by c path left inside (of_unnamed c path) entries

-- what is found of the entries of a folder at this path, below which so many names lead to an object, and of all that stands in them
abbrev pub of_entries : Against → Path → ℕ → Forest → List ExtraFinding
of_entries c path left none = []
of_entries c path left (file name bytes after) = of_leaf c path name kind.File ++ of_entries c path left after
of_entries c path left (other name after) = of_leaf c path name kind.Other ++ of_entries c path left after
of_entries c path left (dir name inside after) =
    let it = path ++ name ∷ [] in
    cond (is_passed c.job.share path name kind.Dir) []
    (of_folder c it (left - 1) inside (of_entries c it (left - 1) inside))
    ++ of_entries c path left after

-- of a folder, and of all that stands in it
abbrev pub found_at : Against → Path → ℕ → Forest → List ExtraFinding
found_at c path left inside = of_folder c path left inside (of_entries c path left inside)

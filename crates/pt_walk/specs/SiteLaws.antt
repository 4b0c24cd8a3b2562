-- What holds of every finding.
use Rattle.std.specs.Prelude.{◌≡◌, ◌≢◌, ◌==◌, ℕ, true, false, cond, List, [], ◌∷◌, ◌++◌, length, Some, slice_get}
use Rattle.pt_tree.specs.declared.kind.Kind.TheVariants as kind
use Rattle.pt_tree.specs.Listing.{Item}
use Rattle.pt_tree.specs.Path.{Path}
use Rattle.pt_walk.specs.declared.site.At.{At}
use Rattle.pt_walk.specs.declared.site.At.TheVariants as at
use Rattle.pt_walk.specs.declared.site.Finding.TheVariants as finding
use Rattle.pt_walk.specs.declared.site.Form.{Form}
use Rattle.pt_walk.specs.Site.{found, is_short, is_shorty}
use Rattle.pt_walk.specs.Sites.{at_of}

-- a site whose own name has two bytes, and one whose own name has one, are found to be the same
abbrev pub PairFindsAsLast : Type 0
PairFindsAsLast = (items : List Item) (form : Form) → found items at.Pair form ≡ found items at.Last form

-- each entry but the i-th is a shorty
abbrev pub OthersAreShorties : List Item → ℕ → Type 0
OthersAreShorties items i = (j : ℕ) (item : Item) → slice_get items j ≡ Some item → j ≢ i
    → is_shorty item ≡ true

-- a candidate is a directory with a longer name, and every other entry of its site is a shorty
abbrev pub CandidateIsTheOnlyNonShorty : Type 0
CandidateIsTheOnlyNonShorty =
    (items : List Item) (where_it_stands : At) (form : Form) (i : ℕ)
    → found items where_it_stands form ≡ finding.Candidate i
    → (name : List ℕ) × (slice_get items i ≡ Some (name, kind.Dir)) × (is_short name ≡ false)
    × OthersAreShorties items i

-- a site that only leads on holds shorties alone
abbrev pub InteriorHoldsShorties : Type 0
InteriorHoldsShorties =
    (items : List Item) (where_it_stands : At) (form : Form)
    → found items where_it_stands form ≡ finding.Interior → (j : ℕ) (item : Item)
    → slice_get items j ≡ Some item → is_shorty item ≡ true

-- where a site stands goes by the last name of its path
abbrev pub LastNameSaysWhere : Type 0
LastNameSaysWhere = (path : Path) (name : List ℕ)
    → at_of (path ++ name ∷ []) ≡ cond (length name == 1) at.Last at.Pair

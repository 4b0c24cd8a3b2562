-- A destination in which nothing stands, and a log that tells nothing.
use Rattle.std.specs.Prelude.{◌≡◌, ℕ, List, [], ◌∷◌, ◌++◌, Option, None, Some, IsSome, refl}
use Rattle.std.proofs.Common.{subst}
use Rattle.pt_tree.specs.Dest.{Writing}
use Rattle.pt_tree.specs.Path.{Path}
use Rattle.pt_tree.specs.Tree.{Entry, Folder, IsTree}

-- the top alone
abbrev pub top_alone : Path → Option Entry
top_alone [] = Some Folder
top_alone (name ∷ path) = None

-- nothing stands but the top
abbrev pub bare : Writing
bare = record { tree = top_alone; writing = None }

-- that is a tree
pub bare_tree : IsTree top_alone
bare_tree = record { top = refl; above = λ p n is. above p n is }
  where
    above : (p : Path) (n : List ℕ) → IsSome (top_alone (p ++ n ∷ [])) → top_alone p ≡ Some Folder
    above [] n is = absurd (cc)
    above (m ∷ p) n is = absurd (cc)

-- so what is told is a tree
pub bare_is_tree : {D : Type 0} (d : D) (state : Writing) → Some bare ≡ Some state → IsTree state.tree
bare_is_tree d state is = subst (λ (w : Writing). IsTree w.tree) (let same : bare ≡ state = cc in same) bare_tree

-- nothing is told
abbrev pub no_log : {L : Type 0} → L → Option (List ℕ)
no_log log = None

-- What a destination over a system that tells holds.
use Rattle.std.specs.Prelude.{◌≡◌, Option, Some, None, ⊤, refl}
use Rattle.std.proofs.Common.{subst}
use Rattle.std.proofs.Math.Logic.{∥∥₁_elim}
use Rattle.pt_tree.specs.Tree.{Tree, IsTree, moved}
use Rattle.std.specs.Option.{option_map, ForSome}
use Rattle.pt_tree.specs.Dest.{CanPeek, CanWrite, MayMake, MayMove, Writing}
use Rattle.pt_tree.specs.Path.{Path}
use Rattle.pt_folder.specs.declared.unsynced_change.UnsyncedChange.{UnsyncedChange}
use Rattle.pt_folder.specs.declared.unsynced_change.UnsyncedChange.TheVariants as unsynced
use Rattle.pt_folder.specs.declared.writing.FileInWriting.{FileInWriting as Open}
use Rattle.pt_folder.specs.DestLaws.{Kept}
use Rattle.pt_folder.specs.EntryCodes.{tree_once}
use Rattle.pt_folder.specs.Untold.{no_kept}

-- the tree that the system keeps, and the path of the open file
abbrev pub told_of : {F : Type 0} → Kept F → Option (Open F) → Option Writing
told_of kept writing =
    option_map (λ t. record { tree = t; writing = option_map (λ w. w.path) writing }) kept.tree

-- with all at and below `to` back at `from`
abbrev pub moved_back : {F : Type 0} → Path → Path → Kept F → Kept F
moved_back from to kept = record { tree = option_map (λ t. moved t to from) kept.tree; place = kept.place }

-- what is told: where something is unsynced, what was told before the call that left it
abbrev pub told_with : {F : Type 0} → Kept F → Option UnsyncedChange → Option (Open F) → Option Writing
told_with kept None writing = told_of kept writing
told_with kept (Some (unsynced.Closed p)) writing =
    option_map (λ t. record { tree = t; writing = Some p }) kept.tree
told_with kept (Some (unsynced.Moved from to)) writing = told_of (moved_back from to kept) writing

-- where the system tells, the open file stands at the path that is remembered of it
abbrev pub IsPlaced : {F : Type 0} → Kept F → Option (Open F) → Type 0
IsPlaced kept writing = ForSome kept.tree (λ _. ForSome writing (λ w. kept.place w.file ≡ Some w.path))

-- what was moved and is unsynced leaves a tree where it is moved back
abbrev pub IsBack : {F : Type 0} → Kept F → UnsyncedChange → Type 0
IsBack kept (unsynced.Closed p) = ⊤
IsBack kept (unsynced.Moved from to) = ForSome kept.tree (λ t. IsTree (moved t to from))

-- it is a tree where the system's is
tree_of_kept : (o : Option Tree) (open_at : Option Path) (state : Writing)
    → ((t : Tree) → o ≡ Some t → IsTree t)
    → option_map (λ t. record { tree = t; writing = open_at }) o ≡ Some state → IsTree state.tree
tree_of_kept None open_at state law is = absurd (cc)
tree_of_kept (Some t) open_at state law is =
    let told : Writing = record { tree = t; writing = open_at } in
    let same : told ≡ state = cc in
    subst (λ (s : Writing). IsTree s.tree) same (law t refl)

-- what is told is a tree, where what stood with its move taken back is one
tree_back : (o : Option Tree) (from to : Path) → ForSome o (λ t. IsTree (moved t to from)) → (t : Tree)
    → option_map (λ t. moved t to from) o ≡ Some t → IsTree t
tree_back None from to held t is = absurd (cc)
tree_back (Some s) from to held t is =
    let same : moved s to from ≡ t = cc in subst IsTree same (held s refl)

-- what is told is a tree, also where something is unsynced
pub tree_with : {F : Type 0} (kept : Kept F) (s : Option UnsyncedChange) (w : Option (Open F)) (state : Writing)
    → ((t : Tree) → kept.tree ≡ Some t → IsTree t) → ∥ ForSome s (IsBack kept) ∥₁
    → told_with kept s w ≡ Some state → IsTree state.tree
tree_with {F} kept s w state law back is = ∥∥₁_elim back (tree_once state.tree) (λ b. by s b is)
  where
    open_at : Option Path
    open_at = option_map (λ (w : Open F). w.path) w

    by : (s : Option UnsyncedChange) → ForSome s (IsBack kept) → told_with kept s w ≡ Some state
        → IsTree state.tree
    by None b is = tree_of_kept kept.tree open_at state law is
    by (Some (unsynced.Closed p)) b is = tree_of_kept kept.tree (Some p) state law is
    by (Some (unsynced.Moved from to)) b is =
        tree_of_kept (option_map (λ t. moved t to from) kept.tree) open_at state
        (tree_back kept.tree from to (b (unsynced.Moved from to) refl)) is

-- where the system keeps nothing, each call may be made
untold : {F : Type 0} (s : Option UnsyncedChange) (w : Option (Open F)) → told_with no_kept s w ≡ None
untold None w = refl
untold (Some (unsynced.Closed p)) w = refl
untold (Some (unsynced.Moved from to)) w = refl

-- where nothing is told anything may be made
pub untold_may_make : {F : Type 0} (s : Option UnsyncedChange) (w : Option (Open F)) (p : Path)
    → MayMake (told_with no_kept s w) p
unfolding MayMake
untold_may_make s w p = λ state is. let none = untold s w in absurd (cc)

-- where nothing is told anything may be moved
pub untold_may_move : {F : Type 0} (s : Option UnsyncedChange) (w : Option (Open F)) (from to : Path)
    → MayMove (told_with no_kept s w) from to
unfolding MayMove
untold_may_move s w from to = λ state is. let none = untold s w in absurd (cc)

-- where nothing is told it may be written to
pub untold_can_write : {F : Type 0} (s : Option UnsyncedChange) (w : Option (Open F))
    → CanWrite (told_with no_kept s w)
unfolding CanWrite
untold_can_write s w = λ state is. let none = untold s w in absurd (cc)

-- where nothing is told any file may be looked into
pub untold_can_peek : {F : Type 0} (s : Option UnsyncedChange) (w : Option (Open F)) (p : Path)
    → CanPeek (told_with no_kept s w) p
unfolding CanPeek
untold_can_peek s w p = λ state is. let none = untold s w in absurd (cc)

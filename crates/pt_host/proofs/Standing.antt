-- A call of a source fails only where the source says that it does, at something that stands in it.
use Rattle.std.proofs.Common.{◌≡◌, ◌∙◌, ℕ, List, [], ap, inl, inr, refl, subst, true}
use Rattle.std.specs.Option.{ForSome, option_map}
use Rattle.std.specs.Prelude.{◌⊎◌, IsSome, None, OnErr, OnOk, Option, Result, Ok, Err, Some}
use Rattle.pt_plan.specs.SourceFailures.{FailsAtOpen, SourceView, StandsAt}
use Rattle.pt_tree.specs.Failing.{Failing, GoesAs, ListsAs, LooksAs, LooksWith, OpensAs, OpensWith, ReadsAs, ReadsWith}
use Rattle.pt_tree.specs.Failures.{IsCounted}
use Rattle.pt_tree.specs.Forest.{Forest, dir_at, file_at}
use Rattle.pt_tree.specs.Path.{Path, parent}
use Rattle.pt_tree.specs.Source.{CanList, CanLook, CanOpen, Reading, after_next, after_open, tree_in}
use Rattle.pt_tree.specs.declared.faults.TreeFault.{TreeFault}
use Rattle.pt_tree.specs.declared.faults.TreeFault.TheVariants as tree
use Rattle.pt_host.specs.StoreFailures.{FailsOnlyWhereStands, FailsWhereStands}

abbrev source : Option Reading → Option Failing → ℕ → SourceView
source told failing failed = record { told = told; failing = failing; failed = failed }

-- it fails at the open file, or in the store
abbrev Fails : Option Reading → Option Failing → Type 0
Fails told failing = FailsAtOpen (source told failing 0) ⊎ FailsWhereStands (source told failing 0)

-- what is opened or read on is of the same tree
opened : (p : Path) (r : Option Reading) → tree_in (option_map (after_open p) r) ≡ tree_in r
opened p None = refl
opened p (Some s) = refl

read_on : (r : Option Reading) → tree_in (option_map after_next r) ≡ tree_in r
read_on None = refl
read_on (Some s) = refl

-- what may be listed or opened stands there, where the source tells
dir_stands : (r : Option Reading) (p : Path) → CanList r p → ForSome (tree_in r) (λ tree. StandsAt tree p)
unfolding CanList
dir_stands None p can tree is = absurd (cc)
dir_stands (Some s) p can tree is = let same : s.tree ≡ tree = cc in inl (subst (λ (t : Forest). IsSome (dir_at t p)) same (can s refl))

above_stands : (tree : Option Forest) (p : Path) → CanLook tree p → ForSome tree (λ tree. StandsAt tree (parent p))
unfolding CanLook
above_stands tree p can t is = inl (can t is)

file_stands : (r : Option Reading) (p : Path) → CanOpen r p → ForSome (tree_in r) (λ tree. StandsAt tree p)
unfolding CanOpen
file_stands None p can tree is = absurd (cc)
file_stands (Some s) p can tree is = let same : s.tree ≡ tree = cc in inr (subst (λ (t : Forest). IsSome (file_at t p)) same (can s refl))

-- of what one value is, so is the other
held : (g h : Failing) (P : Failing → Type 0) → Some g ≡ Some h → P g → P h
held g h P is holds = let same : g ≡ h = cc in subst P same holds

-- where nothing is told of it, it may fail anywhere
untold : (r : Option Reading) → Fails r None
untold r = inl (λ g is. absurd (cc))

module _ (r r' : Option Reading) (n n' : ℕ) (p : Path) where
  -- it fails where it failed, as long as the tree is the same
  still : (f f' : Option Failing) → tree_in r' ≡ tree_in r → f' ≡ f → Fails r' f' → Fails r f
  still f f' tree is (inl fails) = inl (subst (λ (o : Option Failing). ForSome o (λ g. g.reading ≡ true)) is fails)
  still f f' tree is (inr (q, stands, fails)) =
      inr (q, subst (λ (o : Option Forest). ForSome o (λ t. StandsAt t q)) tree stands, subst (λ (o : Option Failing). ForSome o (λ g. g.at q ≡ true)) is fails)

  fails_at : (g : Failing) → ForSome (tree_in r) (λ tree. StandsAt tree p) → g.at p ≡ true → Fails r (Some g)
  fails_at g stands fails = inr (p, stands, λ h is. held g h (λ k. k.at p ≡ true) is fails)

  -- a directory is listed
  pub stands_list : {T : Type 0} (f f' : Option Failing) (result : Result T TreeFault) → CanList r p → ListsAs f f' p result → r' ≡ r
      → IsCounted n n' result → FailsOnlyWhereStands (source r f n) (source r' f' n')
  unfolding ListsAs
  stands_list None f' result can lists same count = record { failed = inr (untold r); still = λ fails. untold r }
  stands_list {T} (Some g) f' result can lists same count = record {
    failed = by result (lists g refl).1 count;
    still = still (Some g) f' (ap tree_in same) (lists g refl).0;
  }
    where
      by : (result : Result T TreeFault) → GoesAs (g.at p) result → IsCounted n n' result → (n' ≡ n) ⊎ Fails r (Some g)
      by (Ok x) goes count = inl count
      by (Err tree.Device) goes count = inr (fails_at g (dir_stands r p can) goes)
      by (Err tree.Memory) goes count = inl count

  -- a file is opened
  pub stands_open : {T : Type 0} (f f' : Option Failing) (result : Result T TreeFault) → CanOpen r p → OpensAs f f' p result
      → OnOk result (r' ≡ option_map (after_open p) r) → OnErr result (r' ≡ r) → IsCounted n n' result → FailsOnlyWhereStands (source r f n) (source r' f' n')
  unfolding OpensAs
  stands_open None f' result can opens ok same count = record { failed = inr (untold r); still = λ fails. untold r }
  stands_open {T} (Some g) f' result can opens ok same count = by result (opens g refl) ok same count
    where
      later : f' ≡ Some (record g { reading = g.at p }) → tree_in r' ≡ tree_in r → Fails r' f' → Fails r (Some g)
      later is tree (inl fails) = fails_at g (file_stands r p can) (fails (record g { reading = g.at p }) is)
      later is tree (inr (q, stands, fails)) = inr (
        q,
        subst (λ (o : Option Forest). ForSome o (λ t. StandsAt t q)) tree stands,
        λ h same. held g h (λ k. k.at q ≡ true) same (fails (record g { reading = g.at p }) is),
      )

      by : (result : Result T TreeFault) → OpensWith g f' p result → OnOk result (r' ≡ option_map (after_open p) r) → OnErr result (r' ≡ r)
          → IsCounted n n' result
          → FailsOnlyWhereStands (source r (Some g) n) (source r' f' n')
      by (Ok x) opens ok same count = record { failed = inl count; still = later opens (ap tree_in ok ∙ opened p r) }
      by (Err tree.Device) opens ok same count =
          record { failed = inr (fails_at g (file_stands r p can) opens.1); still = still (Some g) f' (ap tree_in same) opens.0 }
      by (Err tree.Memory) opens ok same count = record { failed = inl count; still = still (Some g) f' (ap tree_in same) opens }

-- a path is looked at
pub stands_look : {T : Type 0} (r r' : Option Reading) (n n' : ℕ) (p : Path) (f f' : Option Failing) (result : Result T TreeFault) → CanLook (tree_in r) p
    → LooksAs f f' p result → r' ≡ r → IsCounted n n' result → FailsOnlyWhereStands (source r f n) (source r' f' n')
unfolding LooksAs
stands_look r r' n n' p None f' result can looks same count = record { failed = inr (untold r); still = λ fails. untold r }
stands_look {T} r r' n n' p (Some g) f' result can looks same count = record {
  failed = by result (looks g refl).1 count;
  still = still r r' n n' (parent p) (Some g) f' (ap tree_in same) (looks g refl).0;
}
  where
    by : (result : Result T TreeFault) → LooksWith (g.at (parent p)) result → IsCounted n n' result → (n' ≡ n) ⊎ Fails r (Some g)
    by (Ok x) goes count = inl count
    by (Err tree.Device) goes count = inr (fails_at r r' n n' (parent p) g (above_stands (tree_in r) p can) goes)
    by (Err tree.Memory) goes count = inl count

-- a block of the open file is read
pub stands_next : {T : Type 0} (r r' : Option Reading) (n n' : ℕ) (f f' : Option Failing) (block : List ℕ) (result : Result T TreeFault)
    → ReadsAs f f' block result → OnOk result (r' ≡ option_map after_next r) → OnErr result (r' ≡ r) → IsCounted n n' result
    → FailsOnlyWhereStands (source r f n) (source r' f' n')
unfolding ReadsAs
stands_next r r' n n' None f' block result reads ok same count = record { failed = inr (untold r); still = λ fails. untold r }
stands_next {T} r r' n n' (Some g) f' block result reads ok same count = by result (reads g refl) ok same count
  where
    by : (result : Result T TreeFault) → (f' ≡ Some g) × ReadsWith g block result → OnOk result (r' ≡ option_map after_next r) → OnErr result (r' ≡ r)
        → IsCounted n n' result
        → FailsOnlyWhereStands (source r (Some g) n) (source r' f' n')
    by (Ok x) goes ok same count = record { failed = inl count; still = still r r' n n' [] (Some g) f' (ap tree_in ok ∙ read_on r) goes.0 }
    by (Err tree.Device) goes ok same count =
        record { failed = inr (inl (λ h is. held g h (λ k. k.reading ≡ true) is goes.1)); still = still r r' n n' [] (Some g) f' (ap tree_in same) goes.0 }
    by (Err tree.Memory) goes ok same count = record { failed = inl count; still = still r r' n n' [] (Some g) f' (ap tree_in same) goes.0 }

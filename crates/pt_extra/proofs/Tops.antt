-- What the top of a tree lists.
use Rattle.std.proofs.Common.{◌≡◌, ℕ, true, false, List, [], ◌∷◌, refl, sym, ap, ◌∙◌}
use Rattle.std.specs.Option.{ForSome, option_and_then, option_map, option_map_or}
use Rattle.std.specs.Prelude.{IsSome, is_some, Option, None, Some}
use Rattle.pt_plan.proofs.FoundKinds.{kind_listed}
use Rattle.pt_compare.specs.Root.{Stands, same_kind}
use Rattle.pt_plan.specs.TurnStart.{is_dir_kind, kind_in}
use Rattle.pt_tree.specs.Forest.{Dir, File, Forest, Node, Other, as_dir, dir_at, find, kind_at, kind_of, listing_of, node_at}
use Rattle.pt_tree.specs.Path.{Path}
use Rattle.pt_tree.specs.Source.{CanLook}
use Rattle.pt_tree.specs.declared.kind.Kind.TheVariants as kind

-- what is seen at a name of the top is what the top lists
pub top_kind : (tree : Forest) (name : List ℕ) → kind_at tree (name ∷ []) ≡ kind_in (listing_of tree) name
top_kind tree name = only (find tree name) ∙ sym (kind_listed tree name)
  where
    only : (o : Option Node) → option_map kind_of (option_and_then (λ n. node_at n []) o) ≡ option_map kind_of o
    only None = refl
    only (Some x) = refl

-- each name of the top may be looked at
pub look_top : (tree : Option Forest) (name : List ℕ) → CanLook tree (name ∷ [])
unfolding CanLook
look_top tree name = λ f is. refl

-- a folder that is listed stands there
pub dir_top : (tree : Forest) (name : List ℕ) → is_dir_kind (kind_in (listing_of tree) name) ≡ true → IsSome (dir_at tree (name ∷ []))
dir_top tree name is = by (find tree name) (ap is_dir_kind (sym (kind_listed tree name)) ∙ is)
  where
    by : (o : Option Node) → is_dir_kind (option_map kind_of o) ≡ true → is_some (option_and_then as_dir (option_and_then (λ n. node_at n []) o)) ≡ true
    by None is = absurd (cc)
    by (Some (File bytes)) is = absurd (cc)
    by (Some (Dir inside)) is = refl
    by (Some Other) is = absurd (cc)

-- as a directory
pub stands_top : (tree : Option Forest) (name : List ℕ) → ForSome tree (λ t. true ≡ is_dir_kind (kind_in (listing_of t) name))
    → Stands tree (name ∷ [], kind.Dir)
stands_top None name is = refl
stands_top (Some t) name is = by (find t name) (ap is_dir_kind (sym (kind_listed t name)) ∙ sym (is t refl))
  where
    by : (o : Option Node) → is_dir_kind (option_map kind_of o) ≡ true
        → option_map_or (same_kind kind.Dir) (option_map kind_of (option_and_then (λ n. node_at n []) o)) false ≡ true
    by None is = absurd (cc)
    by (Some (File bytes)) is = absurd (cc)
    by (Some (Dir inside)) is = refl
    by (Some Other) is = absurd (cc)

-- and below one that isn't nothing does
pub lacks_top : (tree : Forest) (name : List ℕ) (path : Path) → false ≡ is_dir_kind (kind_in (listing_of tree) name)
    → false ≡ is_dir_kind (kind_at tree (name ∷ path))
lacks_top tree name path lacks = sym (by (find tree name) path (ap is_dir_kind (sym (kind_listed tree name)) ∙ sym lacks))
  where
    by : (o : Option Node) (path : Path) → is_dir_kind (option_map kind_of o) ≡ false
        → is_dir_kind (option_map kind_of (option_and_then (λ n. node_at n path) o)) ≡ false
    by None path is = refl
    by (Some (File bytes)) [] is = refl
    by (Some (File bytes)) (n ∷ path) is = refl
    by (Some (Dir inside)) path is = absurd (cc)
    by (Some Other) [] is = refl
    by (Some Other) (n ∷ path) is = refl

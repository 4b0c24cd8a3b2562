-- The kind that is listed of a name, or seen at it, is that of what stands there.
use Rattle.std.proofs.Common.{◌≡◌, ℕ, Bool, List, [], ◌∷◌, cond, false, refl, true}
use Rattle.std.specs.Prelude.{Option, None, Some}
use Rattle.std.specs.Option.{option_and_then, option_map}
use Rattle.std.specs.Str.{bytes_eq}
use Rattle.pt_plan.specs.TurnStart.{kind_in}
use Rattle.pt_tree.specs.Forest.{Forest, Node, File, Dir, Other, none, file, other, dir, find, kind_at, kind_of, listing_of, node_at}
use Rattle.pt_tree.specs.Source.{CanLook}
use Rattle.pt_tree.specs.declared.kind.Kind.{Kind}

either_kind : (b : Bool) (node : Node) {l : Option Kind} (o : Option Node) → l ≡ option_map kind_of o
    → cond b (Some (kind_of node)) l ≡ option_map kind_of (cond b (Some node) o)
either_kind true node o e = refl
either_kind false node o e = e

pub kind_listed : (f : Forest) (name : List ℕ) → kind_in (listing_of f) name ≡ option_map kind_of (find f name)
kind_listed none name = refl
kind_listed (file n bytes after) name = either_kind (bytes_eq n name) (File bytes) (find after name) (kind_listed after name)
kind_listed (other n after) name = either_kind (bytes_eq n name) Other (find after name) (kind_listed after name)
kind_listed (dir n inside after) name = either_kind (bytes_eq n name) (Dir inside) (find after name) (kind_listed after name)

-- at a name of the top that is seen
pub kind_seen : (f : Forest) (name : List ℕ) → kind_at f (name ∷ []) ≡ option_map kind_of (find f name)
kind_seen f name = by (find f name)
  where
    by : (o : Option Node) → option_map kind_of (option_and_then (λ node. node_at node []) o) ≡ option_map kind_of o
    by None = refl
    by (Some node) = refl

-- each name of the top may be looked at
pub look_top : (tree : Option Forest) (name : List ℕ) → CanLook tree (name ∷ [])
unfolding CanLook
look_top tree name = λ f is. refl

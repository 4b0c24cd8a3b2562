-- What a directory lists stands in it.
use Rattle.std.proofs.Common.{◌≡◌, ℕ, zero, suc, List, [], ◌∷◌, ◌++◌, true, refl, ap, subst, ◌∙◌, cond}
use Rattle.std.specs.Prelude.{Option, None, Some, slice_get}
use Rattle.std.specs.Option.{option_and_then}
use Rattle.std.specs.Str.{bytes_eq}
use Rattle.pt_tree.specs.Forest.{Forest, Node, File, Dir, Other, none, file, other, dir, as_dir, find, is_proper, kind_of, listing_of, node_at}
use Rattle.pt_tree.specs.Listing.{Item}
use Rattle.pt_tree.specs.Path.{Path}
use Rattle.pt_tree.specs.declared.kind.Kind.{Kind}
use Rattle.pt_tree.specs.declared.kind.Kind.TheVariants as kind
use Rattle.pt_tree.proofs.Finding.{proper_dir, proper_file, proper_other}
use Rattle.pt_tree.proofs.Names.{name_itself}
use Rattle.pt_tree.proofs.Proper.{behind}
use Rattle.pt_compare.specs.Root.{same_kind}

pub record Found (d : Forest) (item : Item) : Type 0 where
  pub node : Node
  pub there : find d item.0 ≡ Some node
  pub kind_is : kind_of node ≡ item.1

found_first : (n : List ℕ) (node : Node) (later : Option Node) → cond (bytes_eq n n) (Some node) later ≡ Some node
found_first n node later = ap (λ t. cond t (Some node) later) (name_itself n)

found_later : (n : List ℕ) (node : Node) (f : Forest) (m : List ℕ) (x : Node) → Rattle.pt_tree.specs.Forest.comes_before n f ≡ true → is_proper f ≡ true
    → find f m ≡ Some x → cond (bytes_eq n m) (Some node) (find f m) ≡ Some x
found_later n node f m x before proper is = ap (λ t. cond t (Some node) (find f m))
    (behind n f m [] x before proper (ap (option_and_then (λ y. node_at y [])) is)) ∙ is

pub found : (d : Forest) (i : ℕ) (item : Item) → is_proper d ≡ true → slice_get (listing_of d) i ≡ Some item → Found d item
found none i item proper e = absurd (cc)
found (file n b f) zero item proper e =
    let same : (n, kind.File) ≡ item = cc in
    subst (Found (file n b f)) same (record { node = File b; there = found_first n (File b) (find f n); kind_is = refl })
found (other n f) zero item proper e =
    let same : (n, kind.Other) ≡ item = cc in
    subst (Found (other n f)) same (record { node = Other; there = found_first n Other (find f n); kind_is = refl })
found (dir n d f) zero item proper e =
    let same : (n, kind.Dir) ≡ item = cc in
    subst (Found (dir n d f)) same (record { node = Dir d; there = found_first n (Dir d) (find f n); kind_is = refl })
found (file n b f) (suc i) item proper e =
    let parts = proper_file n b f proper in
    let at = found f i item parts.2 e in
    record { node = at.node; there = found_later n (File b) f item.0 at.node parts.1 parts.2 at.there; kind_is = at.kind_is }
found (other n f) (suc i) item proper e =
    let parts = proper_other n f proper in
    let at = found f i item parts.2 e in
    record { node = at.node; there = found_later n Other f item.0 at.node parts.1 parts.2 at.there; kind_is = at.kind_is }
found (dir n d f) (suc i) item proper e =
    let parts = proper_dir n d f proper in
    let at = found f i item parts.2 e in
    record { node = at.node; there = found_later n (Dir d) f item.0 at.node parts.1 parts.2 at.there; kind_is = at.kind_is }

pub node_in : (x : Node) (p : Path) (n : List ℕ) (d : Forest) → option_and_then as_dir (node_at x p) ≡ Some d
    → node_at x (p ++ n ∷ []) ≡ option_and_then (λ y. node_at y []) (find d n)
node_in (File b) [] n d e = absurd (cc)
node_in Other [] n d e = absurd (cc)
node_in (Dir g) [] n d e = let same : g ≡ d = cc in ap (λ d. option_and_then (λ y. node_at y []) (find d n)) same
node_in (File b) (m ∷ p) n d e = absurd (cc)
node_in Other (m ∷ p) n d e = absurd (cc)
node_in (Dir g) (m ∷ p) n d e = by (find g m) (λ x. node_in x p n d) e
  where
    by : (o : Option Node) → ((x : Node) → option_and_then as_dir (node_at x p) ≡ Some d
        → node_at x (p ++ n ∷ []) ≡ option_and_then (λ y. node_at y []) (find d n))
        → option_and_then as_dir (option_and_then (λ x. node_at x p) o) ≡ Some d
        → option_and_then (λ x. node_at x (p ++ n ∷ [])) o ≡ option_and_then (λ y. node_at y []) (find d n)
    by None later e = absurd (cc)
    by (Some x) later e = later x e

pub itself : (k : Kind) → same_kind k k ≡ true
itself kind.File = refl
itself kind.Dir = refl
itself kind.Other = refl

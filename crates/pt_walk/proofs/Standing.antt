-- What stands at a place of a proper directory.
use Rattle.std.proofs.Common.{◌≡◌, ℕ, List, [], ◌∷◌, true, ◌∙◌, ap, sym, subst, suc, zero}
use Rattle.std.specs.Prelude.{cond, Option, Some, slice_get}
use Rattle.std.specs.Str.{bytes_eq}
use Rattle.std.proofs.lemmas.Bool.{and_parts}
use Rattle.pt_tree.specs.declared.kind.Kind.{Kind}
use Rattle.pt_tree.specs.declared.kind.Kind.TheVariants as kind
use Rattle.pt_tree.specs.Listing.{Item, is_before, names_rise}
use Rattle.pt_tree.specs.Forest.{Forest, none, file, other, dir, Node, File, Dir, Other, find, is_proper, kind_of, listing_of}
use Rattle.pt_tree.proofs.Finding.{proper_dir}
use Rattle.pt_tree.proofs.Names.{before_differs, before-trans, name_itself}
use Rattle.pt_tree.proofs.Rising.{names_rise-proper}
use Rattle.pt_walk.specs.Left.{entries_from}

-- each name comes before all later ones
before_later : (name : List ℕ) (k : Kind) (items : List Item) (i : ℕ) (item : Item) → names_rise ((name, k) ∷ items) ≡ true → slice_get items i ≡ Some item
    → is_before name item.0 ≡ true
before_later name k [] i item rise e = absurd (cc)
before_later name k (x ∷ items) zero item rise e =
    let same : x ≡ item = cc in
    subst (λ (y : Item). is_before name y.0 ≡ true) same (and_parts (is_before name x.0) (names_rise (x ∷ items)) rise).0
before_later name k (x ∷ items) (suc i) item rise e =
    let parts = and_parts (is_before name x.0) (names_rise (x ∷ items)) rise in
    before-trans name x.0 item.0 parts.0 (before_later x.0 x.1 items i item parts.1 e)

-- the entry with this name and node, and those after it
abbrev pub with_entry : List ℕ → Node → Forest → Forest
with_entry name (File bytes) after = file name bytes after
with_entry name (Dir inside) after = dir name inside after
with_entry name Other after = other name after

-- what is known of the entry at a place: its node, with which the rest of the directory begins, and by which its name is found
pub record Standing (directory : Forest) (place : ℕ) (item : Item) : Type 0 where
  pub node : Node
  pub kind_is : kind_of node ≡ item.1
  pub rest_is : entries_from place directory ≡ with_entry item.0 node (entries_from (suc place) directory)
  pub found_is : find directory item.0 ≡ Some node

first_found : (name found : List ℕ) (node : Node) (later : Option Node) → name ≡ found → cond (bytes_eq name found) (Some node) later ≡ Some node
first_found name found node later same =
    let itself : bytes_eq name found ≡ true = ap (λ n. bytes_eq name n) (sym same) ∙ name_itself name in
    ap (λ b. cond b (Some node) later) itself

later_found : (name : List ℕ) (k : Kind) (items : List Item) (i : ℕ) (item : Item) (node sought : Node) (later : Option Node)
    → names_rise ((name, k) ∷ items) ≡ true → slice_get items i ≡ Some item → later ≡ Some sought
    → cond (bytes_eq name item.0) (Some node) later ≡ Some sought
later_found name k items i item node sought later rise e found =
    let apart = before_differs name item.0 (before_later name k items i item rise e) in
    ap (λ b. cond b (Some node) later) apart ∙ found

pub standing : (f : Forest) (i : ℕ) (item : Item) → is_proper f ≡ true → slice_get (listing_of f) i ≡ Some item → Standing f i item
standing none i item proper e = absurd (cc)
standing (file n b f) zero item proper e =
    let same : (n, kind.File) ≡ item = cc in
    record {
      node = File b;
      kind_is = ap (λ (x : Item). x.1) same;
      rest_is = ap (λ (x : Item). file x.0 b f) same;
      found_is = first_found n item.0 (File b) _ (ap (λ (x : Item). x.0) same);
    }
standing (other n f) zero item proper e =
    let same : (n, kind.Other) ≡ item = cc in
    record {
      node = Other;
      kind_is = ap (λ (x : Item). x.1) same;
      rest_is = ap (λ (x : Item). other x.0 f) same;
      found_is = first_found n item.0 Other _ (ap (λ (x : Item). x.0) same);
    }
standing (dir n inside f) zero item proper e =
    let same : (n, kind.Dir) ≡ item = cc in
    record {
      node = Dir inside;
      kind_is = ap (λ (x : Item). x.1) same;
      rest_is = ap (λ (x : Item). dir x.0 inside f) same;
      found_is = first_found n item.0 (Dir inside) _ (ap (λ (x : Item). x.0) same);
    }
standing (file n b f) (suc i) item proper e =
    let at = standing f i item (and_parts _ _ (and_parts _ _ proper).1).1 e in
    record {
      node = at.node;
      kind_is = at.kind_is;
      rest_is = at.rest_is;
      found_is = later_found n kind.File (listing_of f) i item (File b) at.node _ (names_rise-proper (file n b f) proper) e at.found_is;
    }
standing (other n f) (suc i) item proper e =
    let at = standing f i item (and_parts _ _ (and_parts _ _ proper).1).1 e in
    record {
      node = at.node;
      kind_is = at.kind_is;
      rest_is = at.rest_is;
      found_is = later_found n kind.Other (listing_of f) i item Other at.node _ (names_rise-proper (other n f) proper) e at.found_is;
    }
standing (dir n inside f) (suc i) item proper e =
    let at = standing f i item (proper_dir n inside f proper).2 e in
    record {
      node = at.node;
      kind_is = at.kind_is;
      rest_is = at.rest_is;
      found_is = later_found n kind.Dir (listing_of f) i item (Dir inside) at.node _ (names_rise-proper (dir n inside f) proper) e at.found_is;
    }

-- What stands on the way to a path of a root that tells.
use Rattle.std.proofs.Common.{◌≡◌, ◌<◌, ◌+◌, ℕ, List, [], ◌∷◌, ◌++◌, true, false, drop, get_or, length, refl, sym, ap, subst, take, ◌∙◌}
use Rattle.std.proofs.lemmas.List.{drop_more, take-append-drop, take_more}
use Rattle.std.specs.Prelude.{Option, None, Some, IsSome}
use Rattle.std.specs.Option.{option_map, option_map_or, option_and_then, ForSome}
use Rattle.pt_tree.specs.Forest.{Dir, File, Forest, Node, Other, as_dir, as_file, dir_at, file_at, find, kind_at, kind_of, node_at}
use Rattle.pt_tree.specs.Path.{Path, parent}
use Rattle.pt_tree.specs.declared.kind.Kind.{Kind}
use Rattle.pt_tree.specs.declared.kind.Kind.TheVariants as kind
use Rattle.pt_compare.specs.Root.{Lacks, Stands, same_kind}
use Rattle.pt_tree.specs.Source.{CanLook, IsSeen}
use Rattle.pt_plan.specs.TurnStart.{is_dir_kind, is_file_kind}
use Rattle.pt_compare.proofs.Listed.{itself}
use Rattle.pt_tree.proofs.Paths.{parent-push}

-- what is seen stands
pub seen_stands : (tree : Option Forest) (p : Path) (k : Kind) → IsSeen tree p (Some k) → Stands tree (p, k)
seen_stands None p k seen = refl
seen_stands (Some f) p k seen = ap (λ o. option_map_or (same_kind k) o false) (seen f refl) ∙ itself k

pub seen_kind : (tree : Option Forest) (p : Path) (here : Option Kind) (k : Kind) → IsSeen tree p here → here ≡ Some k → Stands tree (p, k)
seen_kind tree p here k seen is = seen_stands tree p k (subst (IsSeen tree p) is seen)

pub below : (x : Node) (p : Path) (n : List ℕ) (q : Path) → is_dir_kind (option_map kind_of (node_at x p)) ≡ false → node_at x (p ++ n ∷ q) ≡ None
below (File b) [] n q other = refl
below Other [] n q other = refl
below (Dir d) [] n q other = absurd (cc)
below (File b) (m ∷ p) n q other = refl
below Other (m ∷ p) n q other = refl
below (Dir d) (m ∷ p) n q other = on (find d m) (λ x. below x p n q) other
  where
    on : (o : Option Node) → ((x : Node) → is_dir_kind (option_map kind_of (node_at x p)) ≡ false → node_at x (p ++ n ∷ q) ≡ None)
        → is_dir_kind (option_map kind_of (option_and_then (λ x. node_at x p) o)) ≡ false → option_and_then (λ x. node_at x (p ++ n ∷ q)) o ≡ None
    on None deeper other = refl
    on (Some x) deeper other = deeper x other

-- a way has one more of the names
pub way_more : (way longer path : Path) (n d : List ℕ) (i : ℕ) → way ≡ take i path → i < length path → n ≡ get_or path i d → longer ≡ way ++ n ∷ []
    → longer ≡ take (i + 1) path
way_more way longer path n d i is within item long = long ∙ ap (λ (p : Path). p ++ n ∷ []) is ∙ ap (λ (x : List ℕ). take i path ++ x ∷ []) item
    ∙ sym (take_more path i d within)

-- below what is no directory nothing stands
pub none_below : (tree : Option Forest) (path way : Path) (i : ℕ) (n d : List ℕ) (here : Option Kind) → i < length path → n ≡ get_or path i d
    → way ≡ take i path
    → IsSeen tree way here → is_dir_kind here ≡ false → IsSeen tree path None
none_below tree path way i n d here within is way_is seen other =
    let whole : way ++ n ∷ drop (i + 1) path ≡ path = ap (λ (p : Path). p ++ n ∷ drop (i + 1) path) way_is
    ∙ ap (λ (p : Path). take i path ++ p) (ap (λ (x : List ℕ). x ∷ drop (i + 1) path) is ∙ sym (drop_more path i d within)) ∙ take-append-drop i path in
    λ f told. ap (λ (p : Path). kind_at f p) (sym whole) ∙ ap (option_map kind_of)
    (below (Dir f) way n (drop (i + 1) path) (ap is_dir_kind (seen f told) ∙ other))

-- what is a directory is of that kind, and only that
pub same_dir : (here : Option Kind) → option_map_or (same_kind kind.Dir) here false ≡ is_dir_kind here
same_dir None = refl
same_dir (Some kind.File) = refl
same_dir (Some kind.Dir) = refl
same_dir (Some kind.Other) = refl

pub one_dir : (here : Option Kind) → is_dir_kind here ≡ true → option_map_or (same_kind kind.Dir) here false ≡ true
one_dir here is = same_dir here ∙ is

-- so none stands where another kind is seen, or nothing
pub no_dir_seen : (tree : Option Forest) (p : Path) (here : Option Kind) → IsSeen tree p here → is_dir_kind here ≡ false → Lacks tree (p, kind.Dir)
no_dir_seen tree p here seen is = λ f told. same_dir (kind_at f p) ∙ ap is_dir_kind (seen f told) ∙ is

-- below a directory that is seen one may look
pub seen_dir : (tree : Option Forest) (p : Path) (here : Option Kind) → IsSeen tree p here → is_dir_kind here ≡ true → Stands tree (p, kind.Dir)
seen_dir None p here seen is = refl
seen_dir (Some f) p here seen is = one_dir (kind_at f p) (ap is_dir_kind (seen f refl) ∙ is)

-- what is seen as a file stands as one
pub file_seen : (tree : Option Forest) (p : Path) (here : Option Kind) → IsSeen tree p here → is_file_kind here ≡ true → Stands tree (p, kind.File)
file_seen tree p None seen is = absurd (cc)
file_seen tree p (Some kind.File) seen is = seen_stands tree p kind.File seen
file_seen tree p (Some kind.Dir) seen is = absurd (cc)
file_seen tree p (Some kind.Other) seen is = absurd (cc)

-- and what stands as a directory is seen
pub dir_seen : (tree : Option Forest) (p : Path) → Stands tree (p, kind.Dir) → IsSeen tree p (Some kind.Dir)
dir_seen None p stands = λ f is. absurd (cc)
dir_seen (Some g) p stands = λ f is. let same : g ≡ f = cc in subst (λ f. kind_at f p ≡ Some kind.Dir) same (by (kind_at g p) stands)
  where
    by : (o : Option Kind) → option_map_or (same_kind kind.Dir) o false ≡ true → o ≡ Some kind.Dir
    by None is = absurd (cc)
    by (Some kind.Dir) is = refl
    by (Some kind.File) is = absurd (cc)
    by (Some kind.Other) is = absurd (cc)

-- the top stands as a directory
pub top_stands : (tree : Option Forest) → Stands tree ([], kind.Dir)
top_stands None = refl
top_stands (Some f) = refl

pub dir_of : (o : Option Node) → option_map_or (same_kind kind.Dir) (option_map kind_of o) false ≡ true → IsSome (option_and_then as_dir o)
dir_of None e = absurd (cc)
dir_of (Some (File b)) e = absurd (cc)
dir_of (Some (Dir d)) e = refl
dir_of (Some Other) e = absurd (cc)

pub file_of : (o : Option Node) → option_map_or (same_kind kind.File) (option_map kind_of o) false ≡ true → IsSome (option_and_then as_file o)
file_of None e = absurd (cc)
file_of (Some (File b)) e = refl
file_of (Some (Dir d)) e = absurd (cc)
file_of (Some Other) e = absurd (cc)

pub stands_dir : (tree : Option Forest) (p : Path) → Stands tree (p, kind.Dir) → ForSome tree (λ f. IsSome (dir_at f p))
stands_dir None p stands = λ f is. absurd (cc)
stands_dir (Some g) p stands = λ f is. let same : g ≡ f = cc in subst (λ f. IsSome (dir_at f p)) same (dir_of (node_at (Dir g) p) stands)

pub stands_file : (tree : Option Forest) (p : Path) → Stands tree (p, kind.File) → ForSome tree (λ f. IsSome (file_at f p))
stands_file None p stands = λ f is. absurd (cc)
stands_file (Some g) p stands = λ f is. let same : g ≡ f = cc in subst (λ f. IsSome (file_at f p)) same (file_of (node_at (Dir g) p) stands)

-- below a directory one may look
pub can_look : (tree : Option Forest) (p : Path) (n : List ℕ) → Stands tree (p, kind.Dir) → CanLook tree (p ++ n ∷ [])
unfolding CanLook
can_look tree p n stands = λ f is. subst (λ q. IsSome (dir_at f q)) (sym (parent-push p n)) (stands_dir tree p stands f is)

pub look_below : (tree : Option Forest) (p : Path) (n : List ℕ) (here : Option Kind) → IsSeen tree p here → is_dir_kind here ≡ true → CanLook tree (p ++ n ∷ [])
look_below tree p n here seen is = can_look tree p n (seen_dir tree p here seen is)

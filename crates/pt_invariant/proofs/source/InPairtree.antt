-- The pairtree of a store, as the source tells it.
use Rattle.std.proofs.Common.{◌≡◌, ℕ, zero, suc, true, List, [], ◌∷◌, refl, ap, sym, subst, drop}
use Rattle.std.specs.Prelude.{Option, None, Some, is_some, slice_get, unwrap_or}
use Rattle.std.specs.Option.{option_and_then, option_map}
use Rattle.std.proofs.lemmas.Bool.{and_parts}
use Rattle.pt_tree.specs.Forest.{Forest, Node, none, as_dir, as_file, dir_at, file_at, is_proper, listing_at, listing_of}
use Rattle.pt_tree.specs.Path.{Path}
use Rattle.pt_tree.specs.Source.{Reading}
use Rattle.pt_walk.proofs.Paths.{reads_below}
use Rattle.pt_walk.specs.Sites.{Reach, sites}
use Rattle.pt_plan.specs.Store.{is_store, pairtree_of, pairtree_root, sites_in_root, sites_of}

some_of : (o : Option Forest) → is_some o ≡ true → o ≡ Some (unwrap_or o none)
some_of None h = absurd (cc)
some_of (Some f) h = refl

pub some_same : {X : Type 0} → (x y : X) → Some x ≡ Some y → x ≡ y
some_same x y e = cc

-- the directory of the pairtree stands at the top
pub pairtree_there : (source : Forest) → is_store source ≡ true → dir_at source (pairtree_root ∷ []) ≡ Some (pairtree_of source)
pairtree_there source store =
    some_of _ (and_parts _ _ store).1

pub sites_there : (reach : Reach) (source : Forest) → is_store source ≡ true → sites_of reach source ≡ sites reach (pairtree_of source)
sites_there reach source store = ap (sites_in_root reach) (pairtree_there source store)

pub pairtree_proper : (source : Forest) → is_store source ≡ true → is_proper source ≡ true → is_proper (pairtree_of source) ≡ true
pairtree_proper source store proper = (reads_below source (pairtree_of source) (pairtree_root ∷ []) [] (pairtree_there source store)).1 proper

pub listing_in : (source : Forest) (path : Path) → is_store source ≡ true → listing_at source (pairtree_root ∷ path) ≡ listing_at (pairtree_of source) path
listing_in source path store =
    ap (λ (o : Option Node). option_map listing_of (option_and_then as_dir o))
    (reads_below source (pairtree_of source) (pairtree_root ∷ []) path (pairtree_there source store)).0

pub file_in_pairtree : (source : Forest) (path : Path) → is_store source ≡ true → file_at source (pairtree_root ∷ path) ≡ file_at (pairtree_of source) path
file_in_pairtree source path store =
    ap (λ (o : Option Node). option_and_then as_file o) (reads_below source (pairtree_of source) (pairtree_root ∷ []) path (pairtree_there source store)).0

-- the first of what is left, and what is left behind it
pub split_left : {X : Type 0} → (k : ℕ) (xs : List X) (x : X) (rest : List X) → x ∷ rest ≡ drop k xs → (slice_get xs k ≡ Some x) × (rest ≡ drop (suc k) xs)
split_left zero [] x rest e = absurd (cc)
split_left zero (y ∷ xs) x rest e = (ap (λ (l : List _). slice_get l 0) (sym e), head_of y xs x rest e)
  where
    head_of : {A : Type 0} → (b : A) (l : List A) (a : A) (m : List A) → a ∷ m ≡ b ∷ l → m ≡ l
    head_of b l a m h = cc
split_left (suc k) [] x rest e = absurd (cc)
split_left (suc k) (y ∷ xs) x rest e = split_left k xs x rest e

-- what holds of the source holds of it after a turn that left it so
pub stays : {s new : Reading} (P : Reading → Type 0) → Some new ≡ Some s → P s → P new
stays {s} {new} P same it = subst P (sym (some_same new s same)) it

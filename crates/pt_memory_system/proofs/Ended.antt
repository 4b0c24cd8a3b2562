-- Names with a NUL behind each are cut in one way.
use Rattle.std.proofs.Common.{
  ◌≡◌,
  ◌++◌,
  ◌∙◌,
  ◌==◌,
  ℕ,
  Bool,
  List,
  [],
  ◌∷◌,
  ap,
  append_assoc,
  arith,
  cond,
  false,
  get_or,
  map,
  refl,
  subst,
  sym,
  take,
  drop,
  true,
  zero,
  suc,
  ◌+◌,
  add-one,
  append-nil,
}
use Rattle.std.proofs.lemmas.List.Sorted.{IsPermutation-refl}
use Rattle.std.proofs.lemmas.List.Elements.{All-head, All-tail}
use Rattle.std.specs.Prelude.{◌||◌, slice_get, IfSome, IsPermutation, None, Option, Some, Result, Ok, Err, IfOk}
use Rattle.std.specs.Option.{option_map}
use Rattle.std.specs.declared.io.Error.{Error}
use Rattle.pt_folder.specs.Folder.{entry_text}
use Rattle.pt_folder.specs.Laws.{IsPath}
use Rattle.pt_memory_system.specs.System.{OfEntry, names_left}
use Rattle.pt_memory_system.specs.declared.names.MemNames.{MemNames}
use Rattle.pt_tree.specs.Listing.{Item}
use Rattle.std.specs.List.{All, filter, flat_map, list_any}
use Rattle.pt_folder.specs.Names.{LacksNul, ended, is_entry}
use Rattle.pt_folder.specs.SourceLaws.{GivesAll, names_of}
use Rattle.pt_tree.proofs.AtPaths.{proper_dir_at}
use Rattle.pt_tree.proofs.Finding.{proper_dir, proper_file, proper_other}
use Rattle.pt_tree.specs.Forest.{Forest, dir, dir_at, file, is_proper, listing_at, listing_of, none, other}
use Rattle.pt_tree.specs.Name.{AreNames, is_name}
use Rattle.pt_tree.specs.Path.{Path}

-- the first name, and what is behind its NUL
first_cut : (x y r s : List ℕ) → LacksNul x → LacksNul y → x ++ 0 ∷ r ≡ y ++ 0 ∷ s → (x ≡ y) × (r ≡ s)
first_cut [] [] r s lx ly is = (refl, cc)
first_cut [] (b ∷ y) r s lx ly is = absurd (All-head (λ b. b ≡ 0 → ⊥) b y ly (let same : 0 ≡ b = cc in sym same))
first_cut (a ∷ x) [] r s lx ly is = absurd (All-head (λ b. b ≡ 0 → ⊥) a x lx (let same : a ≡ 0 = cc in same))
first_cut (a ∷ x) (b ∷ y) r s lx ly is =
    let same : a ≡ b = cc in
    let rest = first_cut x y r s (All-tail (λ b. b ≡ 0 → ⊥) a x lx) (All-tail (λ b. b ≡ 0 → ⊥) b y ly) cc in
    ((λ i. same i ∷ rest.0 i), rest.1)

pub cut_once : (xs ys : List (List ℕ)) → All LacksNul xs → All LacksNul ys → flat_map ended xs ≡ flat_map ended ys → xs ≡ ys
cut_once [] [] lx ly is = refl
cut_once [] (y ∷ ys) lx ly is = absurd (none y (flat_map ended ys) is)
  where
    none : (y r : List ℕ) → [] ≡ (y ++ 0 ∷ []) ++ r → ⊥
    none [] r is = absurd (cc)
    none (b ∷ y) r is = absurd (cc)
cut_once (x ∷ xs) [] lx ly is = absurd (none x (flat_map ended xs) (sym is))
  where
    none : (y r : List ℕ) → [] ≡ (y ++ 0 ∷ []) ++ r → ⊥
    none [] r is = absurd (cc)
    none (b ∷ y) r is = absurd (cc)
cut_once (x ∷ xs) (y ∷ ys) lx ly is =
    let one = first_cut x y (flat_map ended xs) (flat_map ended ys) (All-head LacksNul x xs lx) (All-head LacksNul y ys ly)
    (sym (append_assoc x (0 ∷ []) (flat_map ended xs)) ∙ is ∙ append_assoc y (0 ∷ []) (flat_map ended ys)) in
    let rest = cut_once xs ys (All-tail LacksNul x xs lx) (All-tail LacksNul y ys ly) one.1 in
    λ i. one.0 i ∷ rest i

-- a name that an entry may have holds no NUL, and is neither `.` nor `..`
no_nul : (x : List ℕ) → is_name x ≡ true → list_any (λ b. b == 0) x ≡ false
no_nul x h = by (list_any (λ b. b == 0) x) refl
  where
    by : (t : Bool) → list_any (λ b. b == 0) x ≡ t → t ≡ false
    by false is = refl
    by true is = absurd (grind (arith, is, h))

lacks : (x : List ℕ) → list_any (λ b. b == 0) x ≡ false → LacksNul x
lacks [] h k d within = absurd (omega (arith, within))
lacks (b ∷ x) h zero d within = λ is. let here : (0 == 0 || list_any (λ b. b == 0) x)
    ≡ false = subst (λ c. (c == 0 || list_any (λ b. b == 0) x) ≡ false) is h in absurd (cc)
lacks (b ∷ x) h (suc k) d within = lacks x (behind (b == 0) (list_any (λ b. b == 0) x) h) k d (omega (arith, within))
  where
    behind : (s t : Bool) → (s || t) ≡ false → t ≡ false
    behind true t is = absurd (cc)
    behind false t is = is

an_entry : (x : List ℕ) → is_name x ≡ true → is_entry x ≡ true
an_entry x h = by (is_entry x) refl
  where
    by : (t : Bool) → is_entry x ≡ t → t ≡ true
    by true is = refl
    by false is = absurd (grind (arith, is, h))

all_lack : (names : List (List ℕ)) → AreNames names → All LacksNul names
all_lack names all = λ k d within. lacks (get_or names k d) (no_nul (get_or names k d) (all k d within))

all_kept : (names : List (List ℕ)) → AreNames names → filter is_entry names ≡ names
all_kept [] all = refl
all_kept (x ∷ names) all =
    by (is_entry x) (an_entry x (All-head (λ n. is_name n ≡ true) x names all)) (all_kept names (All-tail (λ n. is_name n ≡ true) x names all))
  where
    by : (t : Bool) → t ≡ true → filter is_entry names ≡ names → cond t (x ∷ filter is_entry names) (filter is_entry names) ≡ x ∷ names
    by true is rest = ap (λ (l : List (List ℕ)). x ∷ l) rest
    by false is rest = absurd (cc)

-- the names in a proper tree's directory are names that entries may have
are_names : (f : Forest) → is_proper f ≡ true → AreNames (names_of f)
are_names none h k d within = absurd (omega (arith, within))
are_names (file n b f) h zero d within = (proper_file n b f h).0
are_names (file n b f) h (suc k) d within = are_names f (proper_file n b f h).2 k d (omega (arith, within))
are_names (other n f) h zero d within = (proper_other n f h).0
are_names (other n f) h (suc k) d within = are_names f (proper_other n f h).2 k d (omega (arith, within))
are_names (dir n i f) h zero d within = (proper_dir n i f h).0
are_names (dir n i f) h (suc k) d within = are_names f (proper_dir n i f h).2 k d (omega (arith, within))

-- these bytes give the names of a directory, and no others
pub gives_names : (f : Forest) (p : Path) (bytes : List ℕ) → is_proper f ≡ true
    → IfSome (dir_at f p) (λ d. bytes ≡ flat_map ended (names_of d)) → GivesAll (Some bytes) (dir_at f p)
gives_names f p bytes proper is = by (dir_at f p) refl is
  where
    by : (o : Option Forest) → dir_at f p ≡ o → IfSome o (λ d. bytes ≡ flat_map ended (names_of d)) → GivesAll (Some bytes) o
    by None at is = tt
    by (Some d) at is = λ names gives.
        let all = are_names d (proper_dir_at f p d proper at) in
        let same : gives.given ≡ names_of d = cut_once gives.given (names_of d) gives.whole (all_lack (names_of d) all) (sym gives.cut ∙ is) in
        let kept : names ≡ names_of d = gives.kept ∙ ap (filter is_entry) same ∙ all_kept (names_of d) all in
        subst (λ l. IsPermutation l (names_of d)) (sym kept) (IsPermutation-refl (names_of d))

-- the next entry's name behind those before
pub ended_more : (items : List Item) (i : ℕ) (x : Item) → Some x ≡ slice_get items i
    → flat_map ended (map (λ (item : Item). item.0) (take (i + 1) items)) ≡ flat_map ended (map (λ (item : Item). item.0) (take i items)) ++ ended x.0
ended_more items i x is = ap (λ (n : ℕ). flat_map ended (map (λ (item : Item). item.0) (take n items))) (add-one i) ∙ by items i is
  where
    by : (items : List Item) (i : ℕ) → Some x ≡ slice_get items i
        → flat_map ended (map (λ (item : Item). item.0) (take (suc i) items)) ≡ flat_map ended (map (λ (item : Item). item.0) (take i items)) ++ ended x.0
    by [] i is = absurd (cc)
    by (y ∷ items) zero is = let same : y ≡ x = cc in append-nil (ended y.0) ∙ ap (λ (z : Item). ended z.0) same
    by (y ∷ items) (suc i) is =
        ap (λ l. ended y.0 ++ l) (by items i is) ∙ sym (append_assoc (ended y.0) (flat_map ended (map (λ (item : Item). item.0) (take i items))) (ended x.0))

-- the names of the directory that a text leads to
pub names_given : (f : Forest) (folder text : List ℕ) (path : Path) (items : List Item) (reply : Result MemNames Error) → is_proper f ≡ true
    → ((p : Path) → IsPath p → text ≡ entry_text folder p → path ≡ p) → Some items ≡ listing_at f path → IfOk reply (λ d. d.place ≡ 0)
    → IfOk reply (λ d. d.bytes.items ≡ flat_map ended (map (λ (item : Item). item.0) items))
    → OfEntry folder text (λ p. IfOk reply (λ d. GivesAll (names_left d) (dir_at f p)))
names_given f folder text path items (Err e) proper leads listed start bytes = λ p named is. tt
names_given f folder text path items (Ok d) proper leads listed start bytes = λ p named is.
    let all : drop d.place d.bytes.items ≡ flat_map ended (map (λ (item : Item). item.0) items) = ap (λ n. drop n d.bytes.items) start ∙ bytes in
    subst (λ q. GivesAll (names_left d) (dir_at f q)) (leads p named is)
    (gives_names f path (drop d.place d.bytes.items) proper (of_dir (dir_at f path) listed all))
  where
    of_dir : (o : Option Forest) → Some items ≡ option_map listing_of o → drop d.place d.bytes.items ≡ flat_map ended (map (λ (item : Item). item.0) items)
        → IfSome o (λ d'. drop d.place d.bytes.items ≡ flat_map ended (names_of d'))
    of_dir None listed all = tt
    of_dir (Some g) listed all = let same : items ≡ listing_of g = cc in all ∙ ap (λ l. flat_map ended (map (λ (item : Item). item.0) l)) same

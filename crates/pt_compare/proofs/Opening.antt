-- Folders that are known to stand, and what is opened below them.
use Rattle.std.proofs.Common.{
  ◌≡◌,
  ◌<◌,
  ◌≤◌,
  ◌+◌,
  ℕ,
  suc,
  List,
  [],
  ◌∷◌,
  ◌++◌,
  Bool,
  true,
  false,
  refl,
  sym,
  ap,
  ◌∙◌,
  subst,
  drop,
  take,
  length,
  append-nil,
  append_assoc,
  get_or,
}
use Rattle.std.specs.Prelude.{Option, None, Some, cond}
use Rattle.std.specs.Option.{option_map, option_map_or}
use Rattle.std.specs.Cmp.Lexicographic.{same_text}
use Rattle.std.specs.Str.{bytes_eq}
use Rattle.std.proofs.lemmas.Bool.{true≢false}
use Rattle.std.proofs.lemmas.List.{drop_all, drop_more, take-append-drop}
use Rattle.pt_compare.specs.Root.{Lacks, Stands, is_standing, same_kind}
use Rattle.pt_tree.specs.Source.{CanLook}
use Rattle.pt_plan.specs.TurnMake.{common_names}
use Rattle.pt_plan.specs.TurnStart.{is_dir_kind}
use Rattle.pt_compare.proofs.Roots.{below, one_dir, same_dir, stands_dir}
use Rattle.pt_tree.proofs.AtPaths.{parent-last}
use Rattle.pt_tree.proofs.Paths.{split_parts}
use Rattle.pt_tree.specs.Forest.{Dir, Forest, kind_at, kind_of}
use Rattle.pt_tree.specs.Path.{Path, parent, split_path}
use Rattle.pt_tree.specs.declared.kind.Kind.TheVariants as kind

-- above a directory stands a directory
pub dir_above : (tree : Option Forest) (p q : Path) → Stands tree (p ++ q, kind.Dir) → Stands tree (p, kind.Dir)
dir_above None p q stands = refl
dir_above (Some f) p [] stands = subst (λ (x : Path). Stands (Some f) (x, kind.Dir)) (append-nil p) stands
dir_above (Some f) p (n ∷ q) stands = by (is_dir_kind (kind_at f p)) refl
  where
    by : (b : Bool) → is_dir_kind (kind_at f p) ≡ b → Stands (Some f) (p, kind.Dir)
    by true is = one_dir (kind_at f p) is
    by false is = absurd (let none = below (Dir f) p n q is in true≢false (sym stands
        ∙ ap (λ o. option_map_or (same_kind kind.Dir) (option_map kind_of o) false) none))

-- so below what is no directory is none
pub no_dir_on : (tree : Option Forest) (p q : Path) → Lacks tree (p, kind.Dir) → Lacks tree (p ++ q, kind.Dir)
no_dir_on tree p q lacks = λ f told. by f told (is_standing (Some f) (p ++ q, kind.Dir)) refl
  where
    by : (f : Forest) → tree ≡ Some f → (b : Bool) → is_standing (Some f) (p ++ q, kind.Dir) ≡ b → b ≡ false
    by f told true is = absurd (true≢false (sym (dir_above (Some f) p q is) ∙ lacks f told))
    by f told false is = refl

-- the names that two paths begin with alike are the same
pub take_alike : (p q : Path) → take (common_names p q) p ≡ take (common_names p q) q
take_alike [] q = by q
  where
    by : (q : Path) → [] ≡ take 0 q
    by q = refl
take_alike (n ∷ p) [] = refl
take_alike (n ∷ p) (m ∷ q) = by (bytes_eq n m) refl (take_alike p q)
  where
    by : (b : Bool) → bytes_eq n m ≡ b → take (common_names p q) p ≡ take (common_names p q) q
        → take (cond b (suc (common_names p q)) 0) (n ∷ p) ≡ take (cond b (suc (common_names p q)) 0) (m ∷ q)
    by true is rest = ap (λ (x : List ℕ). x ∷ take (common_names p q) p) (same_text n m (sym is)) ∙ ap (λ (x : Path). m ∷ x) rest
    by false is rest = refl

-- so the folder of those that a path has in common with one that stands stands
pub dir_alike : (tree : Option Forest) (p folder first : Path) (n : ℕ) → Stands tree (folder, kind.Dir) → n ≡ common_names p folder → first ≡ take n p
    → Stands tree (first, kind.Dir)
dir_alike tree p folder first n stands is begin =
    let front : first ≡ take n folder = begin ∙ (rw is (take_alike p folder)) in
    subst (λ (x : Path). Stands tree (x, kind.Dir)) (sym front) (dir_above tree (take n folder) (drop n folder)
    (subst (λ (x : Path). Stands tree (x, kind.Dir)) (sym (take-append-drop n folder)) stands))

-- and where the path has no more names, it stands itself
pub dir_whole : (tree : Option Forest) (p folder first : Path) (n : ℕ) {rest : Path} → first ≡ take n p → rest ≡ drop n p → length rest ≡ 0
    → n ≡ common_names p folder → Stands tree (folder, kind.Dir) → Stands tree (p, kind.Dir)
dir_whole tree p folder first n {rest = []} begin back none is stands =
    let whole : first ≡ p = begin ∙ sym (append-nil (take n p)) ∙ ap (λ (q : Path). take n p ++ q) back ∙ take-append-drop n p in
    subst (λ (x : Path). Stands tree (x, kind.Dir)) whole (dir_alike tree p folder first n stands is begin)
dir_whole tree p folder first n {rest = m ∷ rest} begin back none is stands = absurd (cc)

-- a way goes on by the next name
pub way_on : (way longer rest above : Path) (n d : List ℕ) (i : ℕ) → way ++ drop i rest ≡ above → i < length rest → n ≡ get_or rest i d → longer ≡ way ++ n ∷ []
    → longer ++ drop (i + 1) rest ≡ above
way_on way longer rest above n d i whole within is long =
    ap (λ (p : Path). p ++ drop (i + 1) rest) long ∙ append_assoc way (n ∷ []) (drop (i + 1) rest)
    ∙ ap (λ (p : Path). way ++ p) (ap (λ (x : List ℕ). x ∷ drop (i + 1) rest) is ∙ sym (drop_more rest i d within)) ∙ whole

-- a way begins with the first names
pub way_start : (way start first rest above : Path) (n : ℕ) → way ≡ start ++ first → start ≡ [] → first ≡ take n above → rest ≡ drop n above
    → way ++ rest ≡ above
way_start way start first rest above n is none front back = ap (λ (p : Path). p ++ rest) (is ∙ ap (λ (p : Path). p ++ first) none ∙ front)
    ∙ ap (λ (p : Path). take n above ++ p) back ∙ take-append-drop n above

-- and has all after the last
pub way_whole : (way rest above : Path) (i : ℕ) → way ++ drop i rest ≡ above → length rest ≤ i → way ≡ above
way_whole way rest above i whole past = sym (append-nil way) ∙ ap (λ (p : Path). way ++ p) (sym (drop_all i rest past)) ∙ whole

-- the folder of a path may be looked into where it stands
pub look_in : (tree : Option Forest) (above path : Path) (name : List ℕ) → Stands tree (above, kind.Dir) → Some (above, name) ≡ split_path path
    → CanLook tree path
unfolding CanLook
look_in tree above [] name stands is = absurd (cc)
look_in tree above (n ∷ p) name stands is = λ f told.
    let same : above ≡ parent (n ∷ p) = ap (λ o. option_map_or (λ (s : Path × List ℕ). s.0) o []) is in
    stands_dir tree (parent (n ∷ p)) (rw same at stands) f told

-- and where it doesn't stand, no file stands at the path
pub no_file_in : (tree : Option Forest) (above path : Path) (name : List ℕ) → Lacks tree (above, kind.Dir) → Some (above, name) ≡ split_path path
    → Lacks tree (path, kind.File)
no_file_in tree above [] name lacks is = absurd (cc)
no_file_in tree above (n ∷ p) name lacks is = λ f told.
    let parts = split_parts (n ∷ p) above name is in
    let whole : above ++ name ∷ [] ≡ n ∷ p = ap (λ (q : Path). q ++ name ∷ []) parts.0 ∙ ap (λ (x : List ℕ). parent (n ∷ p) ++ x ∷ []) parts.1
    ∙ parent-last n p in
    ap (λ o. option_map_or (same_kind kind.File) o false) (ap (kind_at f) (sym whole)
    ∙ ap (option_map kind_of) (below (Dir f) above name [] (sym (same_dir (kind_at f above)) ∙ lacks f told)))

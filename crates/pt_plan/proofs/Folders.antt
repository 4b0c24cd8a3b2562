-- The folders above a path: shorter paths that lead to it.
use Rattle.std.proofs.Common.{◌≡◌, ℕ, zero, suc, ◌<◌, List, [], ◌∷◌, Bool, true, false, length, refl, sym, ◌∙◌, ap, arith, inl, inr, map, take}
use Rattle.std.specs.Prelude.{cond, ◌&&◌, ◌||◌, not, None, Some, is_some}
use Rattle.std.specs.List.{list_all, list_any}
use Rattle.std.specs.Str.{bytes_eq}
use Rattle.std.proofs.lemmas.Bool.{and_from, and_parts, cases_lt, false≢true, true≢false, not-true, or_right}
use Rattle.pt_object.proofs.Ways.{bytes_eq-sym, is_same, leads, path_itself}
use Rattle.pt_object.specs.Script.{folders_above}
use Rattle.pt_tree.specs.Path.{Path, rest_below, same_path}
use Rattle.pt_plan.proofs.Levels.{level, longer}

-- a path is one of these
abbrev pub is_one : Path → List Path → Bool
is_one path paths = list_any (same_path path) paths

top_below : (name : List ℕ) (paths : List Path) → is_one [] (map (λ (folder : Path). name ∷ folder) paths) ≡ false
top_below _ [] = refl
top_below name (_ ∷ paths) = top_below name paths

pub top_is_none : (p : Path) → is_one [] (folders_above p) ≡ false
top_is_none [] = refl
top_is_none (name ∷ []) = refl
top_is_none (name ∷ next ∷ path) = top_below name (folders_above (next ∷ path))

one_below : (m name : List ℕ) (q : Path) (paths : List Path) → is_one (m ∷ q) (map (λ (folder : Path). name ∷ folder) paths)
    ≡ (bytes_eq m name && is_one q paths)
one_below m name _ [] = by (bytes_eq m name)
  where
    by : (t : Bool) → false ≡ (t && false)
    by true = refl
    by false = refl
one_below m name q (path ∷ paths) = ap (λ b. (bytes_eq m name && same_path q path) || b) (one_below m name q paths) ∙ by (bytes_eq m name)
  where
    by : (t : Bool) → ((t && same_path q path) || (t && is_one q paths)) ≡ (t && (same_path q path || is_one q paths))
    by true = refl
    by false = refl

-- but for the top, a path is one of the folders above another exactly where it leads there and isn't it
pub above : (m : List ℕ) (q p : Path) → is_one (m ∷ q) (folders_above p) ≡ (leads (m ∷ q) p && not (leads p (m ∷ q)))
above _ _ [] = refl
above m q (name ∷ []) = by (bytes_eq m name) (bytes_eq name m) refl (λ b e. bytes_eq-sym m name b e) q
  where
    by : (s t : Bool) → bytes_eq m name ≡ s → ((b : Bool) → bytes_eq m name ≡ b → bytes_eq name m ≡ b) → (q : Path)
        → false ≡ (is_some (cond s (rest_below q []) None) && not (is_some (cond (bytes_eq name m) (Some q) None)))
    by true t e turned [] = sym (ap (λ b. not (is_some {T = Path} (cond b (Some []) None))) (turned true e))
    by true t e turned (x ∷ q) = refl
    by false t e turned q = refl
above m q (name ∷ next ∷ path) =
    ap (λ b. (bytes_eq m name && same_path q []) || b) (one_below m name q (folders_above (next ∷ path)))
    ∙ by (bytes_eq m name) refl q (λ x r. above x r (next ∷ path))
  where
    by : (s : Bool) → bytes_eq m name ≡ s → (q : Path) → ((x : List ℕ) (r : Path)
        → is_one (x ∷ r) (folders_above (next ∷ path)) ≡ (leads (x ∷ r) (next ∷ path) && not (leads (next ∷ path) (x ∷ r))))
        → ((s && same_path q []) || (s && is_one q (folders_above (next ∷ path))))
        ≡ (is_some (cond s (rest_below q (next ∷ path)) None) && not (is_some (cond (bytes_eq name m) (rest_below (next ∷ path) q) None)))
    by false e q later = refl
    by true e [] later = sym (inner (bytes_eq name m))
      where
        inner : (t : Bool) → not (is_some (cond t (rest_below (next ∷ path) []) None)) ≡ true
        inner true = refl
        inner false = refl
    by true e (x ∷ q) later = later x q ∙ sym (ap (λ b. leads (x ∷ q) (next ∷ path) && not (is_some (cond b (rest_below (next ∷ path) (x ∷ q)) None)))
        (bytes_eq-sym m name true e))

-- a path that leads to another and isn't led to by it is shorter
shorter : (q p : Path) → leads q p ≡ true → leads p q ≡ false → length q < length p
shorter q p on off = elim (cases_lt (length q) (length p)) [
  | inl less ↦ less
  | inr past ↦ elim (cases_lt (length p) (length q)) [
    | inl more ↦ absurd (true≢false (sym on ∙ longer q p more))
    | inr equal ↦ absurd (true≢false (sym itself ∙ ap (λ (r : Path). leads r q) (is_same q p (sym (level q p (omega arith)) ∙ on)) ∙ off))
  ]
]
  where
    itself : leads q q ≡ true
    itself = level q q refl ∙ path_itself q

-- a folder above a path
pub record IsAbove (q p : Path) : Type 0 where
  pub on : leads q p ≡ true
  pub short : length q < length p

pub is_above : (q p : Path) → is_one q (folders_above p) ≡ true → IsAbove q p
is_above [] p h = absurd (true≢false (sym h ∙ top_is_none p))
is_above (m ∷ q) p h =
    let parts = and_parts _ _ (sym (above m q p) ∙ h) in
    record { on = parts.0; short = shorter (m ∷ q) p parts.0 (not-true (leads p (m ∷ q)) parts.1) }

-- of the first of some paths
pub one_of_first : (q : Path) (n : ℕ) (paths : List Path) → is_one q (take n paths) ≡ true → is_one q paths ≡ true
one_of_first _ zero _ h = absurd (false≢true h)
one_of_first _ (suc _) [] h = absurd (false≢true h)
one_of_first q (suc n) (p ∷ paths) h = by (same_path q p) (λ k. one_of_first q n paths k) h
  where
    by : (t : Bool) → (is_one q (take n paths) ≡ true → is_one q paths ≡ true) → (t || is_one q (take n paths)) ≡ true → (t || is_one q paths) ≡ true
    by true later h = refl
    by false later h = later h

-- a test that each of some paths passes follows from another, where it does at each of them
pub each_one : {test other : Path → Bool} (paths : List Path) → ((q : Path) → is_one q paths ≡ true → test q ≡ true → other q ≡ true)
    → list_all test paths ≡ true → list_all other paths ≡ true
each_one [] _ _ = refl
each_one {test} {other} (p ∷ paths) from h =
    let parts = and_parts (test p) _ h in
    and_from (other p) _ (from p (ap (λ b. b || is_one p paths) (path_itself p)) parts.0)
    (each_one paths (λ q one is. from q (or_right _ _ one) is) parts.1)

-- two tests that say the same of each of some paths
pub each_same : (test other : Path → Bool) (paths : List Path) → ((q : Path) → is_one q paths ≡ true → test q ≡ other q)
    → list_all test paths ≡ list_all other paths
each_same _ _ [] _ = refl
each_same test other (p ∷ paths) same =
    ap (λ b. b && list_all test paths) (same p (ap (λ b. b || is_one p paths) (path_itself p)))
    ∙ ap (λ b. other p && b) (each_same test other paths (λ q one. same q (or_right _ _ one)))

-- The items of a share by folders are those of the whole whose way gives the share, but for folders that only lead on.
use Rattle.std.proofs.Common.{◌≡◌, ◌≤◌, ◌+◌, ◌==◌, ℕ, Bool, true, false, List, [], ◌∷◌, ◌++◌, arith, ap, sym, ◌∙◌, refl, cond, map, nat_lt, length}
use Rattle.std.specs.Prelude.{◌||◌, not, Option, None, Some, filter, flat_map, is_some}
use Rattle.std.specs.List.{list_any}
use Rattle.std.proofs.lemmas.Bool.{eqb-true}
use Rattle.std.proofs.lemmas.List.{length-append, map-append, take-append-le}
use Rattle.std.proofs.lemmas.List.Elements.{filter-append}
use Rattle.pt_name.specs.Place.{place_of}
use Rattle.pt_name.specs.Share.{Portion, is_on_own_way, share_number, walks}
use Rattle.pt_tree.specs.Forest.{Forest, none, file, other, dir, dir_at}
use Rattle.pt_tree.specs.Path.{Path, joined}
use Rattle.pt_tree.specs.Tree.{Tree}
use Rattle.pt_walk.specs.Site.{is_short}
use Rattle.pt_walk.specs.Sites.{Site, Visit, Listed, Past, Deep, Elsewhere, at_of, is_last, sites_in, visit_of, walked}
use Rattle.pt_plan.specs.Carried.{Marked, has_place, is_taken, marked_after}
use Rattle.pt_plan.specs.Items.{Interior, Item, Named, Skip, Verdict, item_of, items, ours, verdict_by_visit}
use Rattle.pt_plan.specs.Job.{Job, reach_of}
use Rattle.pt_plan.specs.ShareLaws.{by_folders, with_share}
use Rattle.pt_plan.specs.Store.{pairtree_root, prefix_of, sites_in_root, sites_of}
use Rattle.pt_plan.proofs.Growing.{append_nil}
use Rattle.pt_plan.proofs.SharedItems.{bare, bare_items, full_reach, visit_same}

-- ---- what has a line

-- it doesn't only lead on
abbrev pub is_told : Verdict → Bool
is_told Interior = false
is_told (Skip why) = true
is_told (Named id object) = true

abbrev pub has_line : Item → Bool
has_line item = is_told item.verdict

-- the item as it is in a share
abbrev pub in_share : Portion → Item → Item
in_share share item = record { path = item.path; visit = item.visit; verdict = ours share item.path item.verdict }

-- ---- a walk that leaves out what is another's

module _ (job : Job) (depth count index : ℕ) (prefix : List ℕ) where
  abbrev share : Portion
  share = by_folders depth count index

  abbrev shared : Site → Item
  shared site = in_share share (bare job prefix site)

  -- off the share's way nothing has a line
  off : (path : Path) (v : Verdict) → is_on_own_way share path depth ≡ false → is_told (ours share path v) ≡ false
  off path Interior no_way = refl
  off path (Skip why) no_way = ap (λ b. is_told (cond b (Skip why) Interior)) no_way
  off path (Named id object) no_way = ap (λ b. is_told (cond b (Named id object) Interior)) no_way

  -- below a folder so deep the way stays
  same_way : (path : Path) (name : List ℕ) → depth ≤ length path → is_on_own_way share path depth ≡ false
      → is_on_own_way share (path ++ name ∷ []) depth ≡ false
  same_way path name deep no_way =
      ap (λ (p : Path). share_number count (joined p) == index) (take-append-le depth path (name ∷ []) deep) ∙ no_way

  none_below : (path : Path) (f : Forest) → depth ≤ length path → is_on_own_way share path depth ≡ false
      → filter has_line (map shared (sites_in (full_reach job) path f)) ≡ []
  none_below path none deep no_way = refl
  none_below path (file name bytes after) deep no_way = none_below path after deep no_way
  none_below path (other name after) deep no_way = none_below path after deep no_way
  none_below path (dir name inside after) deep no_way =
      let q = path ++ name ∷ [] in
      let visit = visit_of (full_reach job) path name inside in
      let inner = sites_in (full_reach job) q inside in
      let front = cond (is_short name) ((q, visit) ∷ walked visit inner) [] in
      let longer = length-append path (name ∷ []) in
      let below = none_below q inside (omega (arith, deep, longer)) (same_way path name deep no_way) in
      ap (filter has_line) (map-append shared front (sites_in (full_reach job) path after))
      ∙ filter-append has_line (map shared front) (map shared (sites_in (full_reach job) path after))
      ∙ (λ i. here visit inner below (is_short name) i ++ none_below path after deep no_way i)
    where
      under : (visit : Visit) (inner : List Site) → filter has_line (map shared inner) ≡ [] → filter has_line (map shared (walked visit inner)) ≡ []
      under (Listed inside) inner below = below
      under Past inner below = refl
      under Deep inner below = refl
      under Elsewhere inner below = refl

      here : (visit : Visit) (inner : List Site) → filter has_line (map shared inner) ≡ [] → (b : Bool)
          → filter has_line (map shared (cond b ((path ++ name ∷ [], visit) ∷ walked visit inner) [])) ≡ []
      here visit inner below false = refl
      here visit inner below true =
          let q = path ++ name ∷ [] in
          ap (λ b. cond b (shared (q, visit) ∷ filter has_line (map shared (walked visit inner))) (filter has_line (map shared (walked visit inner))))
          (off q (verdict_by_visit job prefix q visit) (same_way path name deep no_way))
          ∙ under visit inner below

  -- a folder that isn't walked is so deep, and another's
  unwalked : (x y : Bool) → (not x || y) ≡ false → (x ≡ true) × (y ≡ false)
  unwalked true y h = (refl, h)
  unwalked false y h = absurd (cc)

  own_in : (path : Path) (f : Forest) → filter has_line (map (item_of (with_share job share) prefix) (sites_in (reach_of (with_share job share)) path f))
      ≡ filter has_line (map shared (sites_in (full_reach job) path f))
  own_in path none = refl
  own_in path (file name bytes after) = own_in path after
  own_in path (other name after) = own_in path after
  own_in path (dir name inside after) =
      let reach = reach_of (with_share job share) in
      let q = path ++ name ∷ [] in
      let visit = visit_of reach path name inside in
      let full = visit_of (full_reach job) path name inside in
      let mine = map (item_of (with_share job share) prefix) in
      let front = cond (is_short name) ((q, visit) ∷ walked visit (sites_in reach q inside)) [] in
      let whole = cond (is_short name) ((q, full) ∷ walked full (sites_in (full_reach job) q inside)) [] in
      ap (filter has_line) (map-append (item_of (with_share job share) prefix) front (sites_in reach path after))
      ∙ filter-append has_line (mine front) (mine (sites_in reach path after))
      ∙ (λ i. here (is_short name) (own_in q inside) i ++ own_in path after i)
      ∙ sym (ap (filter has_line) (map-append shared whole (sites_in (full_reach job) path after))
      ∙ filter-append has_line (map shared whole) (map shared (sites_in (full_reach job) path after)))
    where
      at : Path
      at = path ++ name ∷ []

      met : Bool → Bool → Bool → Visit
      met a b w = cond a Past (cond b Deep (cond w (Listed inside) Elsewhere))

      mine_of : List Site → List Item
      mine_of ways = filter has_line (map (item_of (with_share job share) prefix) ways)

      shared_of : List Site → List Item
      shared_of ways = filter has_line (map shared ways)

      inner : List Site
      inner = sites_in (reach_of (with_share job share)) at inside

      wholly : List Site
      wholly = sites_in (full_reach job) at inside

      one : item_of (with_share job share) prefix (at, Listed inside) ≡ shared (at, Listed inside)
      one = ap (λ (v : Verdict). record { path = at; visit = Listed inside; verdict = ours share at v }) (visit_same job share prefix at (Listed inside))

      by : (a b w : Bool) → walks share at ≡ w → mine_of inner ≡ shared_of wholly
          → mine_of ((at, met a b w) ∷ walked (met a b w) inner) ≡ shared_of ((at, met a b true) ∷ walked (met a b true) wholly)
      by true b w is below = refl
      by false true w is below = refl
      by false false true is below =
          ap (λ (x : Item). cond (has_line x) (x ∷ mine_of inner) (mine_of inner)) one
          ∙ ap (λ (l : List Item). cond (has_line (shared (at, Listed inside))) (shared (at, Listed inside) ∷ l) l) below
      by false false false is below =
          let (deep, no_way) = unwalked (length at == depth) (is_on_own_way share at depth) is in
          let long = eqb-true (length at) depth deep in
          sym (ap (λ b. cond b (shared (at, Listed inside) ∷ shared_of wholly) (shared_of wholly))
          (off at (verdict_by_visit job prefix at (Listed inside)) no_way)
          ∙ none_below at inside (omega (arith, long)) no_way)

      here : (b : Bool) → mine_of inner ≡ shared_of wholly
          → mine_of (cond b ((at, visit_of (reach_of (with_share job share)) path name inside)
          ∷ walked (visit_of (reach_of (with_share job share)) path name inside) inner) [])
          ≡ shared_of (cond b ((at, visit_of (full_reach job) path name inside) ∷ walked (visit_of (full_reach job) path name inside) wholly) [])
      here false below = refl
      here true below = by (is_last (at_of path)) (nat_lt job.limits.depth (length path + 1)) (walks share at) refl below

  own_in_root : (top : Option Forest) → filter has_line (map (item_of (with_share job share) prefix) (sites_in_root (reach_of (with_share job share)) top))
      ≡ filter has_line (map shared (sites_in_root (full_reach job) top))
  own_in_root None = refl
  own_in_root (Some top) =
      let mine = filter has_line (map (item_of (with_share job share) prefix) (sites_in (reach_of (with_share job share)) [] top)) in
      ap (λ (v : Verdict). filter has_line (record { path = []; visit = Listed top; verdict = ours share [] v }
      ∷ map (item_of (with_share job share) prefix) (sites_in (reach_of (with_share job share)) [] top))) (visit_same job share prefix [] (Listed top))
      ∙ ap (λ (l : List Item). cond (has_line (shared ([], Listed top))) (shared ([], Listed top) ∷ l) l) (own_in [] top)

in_turn : {A B C : Type 0} (f : B → C) (g : A → B) (xs : List A) → map (λ x. f (g x)) xs ≡ map f (map g xs)
in_turn f g [] = refl
in_turn f g (x ∷ xs) = ap (λ l. f (g x) ∷ l) (in_turn f g xs)

-- the items of the share with a line are those of the whole with one that are the share's
pub items_alike : (job : Job) (depth count index : ℕ) (source : Forest) → filter has_line (items (with_share job (by_folders depth count index)) source)
    ≡ filter has_line (map (in_share (by_folders depth count index)) (bare_items job source))
items_alike job depth count index source =
    own_in_root job depth count index (prefix_of source) (dir_at source (pairtree_root ∷ []))
    ∙ ap (filter has_line) (in_turn (in_share (by_folders depth count index)) (bare job (prefix_of source)) (sites_of (full_reach job) source))

-- ---- items without a line are as if they weren't there

any_told : (job : Job) (place : Path) (its : List Item) → list_any (λ (item : Item). has_place job place item.verdict) its
    ≡ list_any (λ (item : Item). has_place job place item.verdict) (filter has_line its)
any_told job place [] = refl
any_told job place (item ∷ its) = by item.verdict (any_told job place its)
  where
    by : (v : Verdict) → list_any (λ (item : Item). has_place job place item.verdict) its
        ≡ list_any (λ (item : Item). has_place job place item.verdict) (filter has_line its)
        → (has_place job place v || list_any (λ (item : Item). has_place job place item.verdict) its)
        ≡ list_any (λ (item : Item). has_place job place item.verdict)
        (cond (is_told v) (record { path = item.path; visit = item.visit; verdict = v } ∷ filter has_line its) (filter has_line its))
    by Interior later = later
    by (Skip why) later = later
    by (Named id object) later = ap (λ b. has_place job place (Named id object) || b) later

taken_told : (job : Job) (root : Tree) (earlier : List Item) (v : Verdict) → is_taken job root earlier v ≡ is_taken job root (filter has_line earlier) v
taken_told job root earlier Interior = refl
taken_told job root earlier (Skip why) = refl
taken_told job root earlier (Named id object) = ap (λ b. is_some (root (place_of job.tuples id)) || b) (any_told job (place_of job.tuples id) earlier)

-- what is made of items, and of one that only leads on nothing
pub told_marks : {X : Type 0} → (job : Job) (root : Tree) (f : Path → Bool → Verdict → List X) → ((path : Path) (taken : Bool) → f path taken Interior ≡ [])
    → (earlier others : List Item)
    → flat_map (λ (m : Marked). f m.0.path m.1 m.0.verdict) (marked_after job root earlier others)
    ≡ flat_map (λ (m : Marked). f m.0.path m.1 m.0.verdict) (marked_after job root (filter has_line earlier) (filter has_line others))
told_marks job root f nothing earlier [] = refl
told_marks {X} job root f nothing earlier (item ∷ others) = by item.verdict (told_marks job root f nothing (earlier ++ item ∷ []) others)
  where
    made : List Item → List Item → List X
    made before its = flat_map (λ (m : Marked). f m.0.path m.1 m.0.verdict) (marked_after job root before its)

    it : Verdict → Item
    it v = record { path = item.path; visit = item.visit; verdict = v }

    by : (v : Verdict) → made (earlier ++ it v ∷ []) others ≡ made (filter has_line (earlier ++ it v ∷ [])) (filter has_line others)
        → f item.path (is_taken job root earlier v) v ++ made (earlier ++ it v ∷ []) others
        ≡ made (filter has_line earlier) (cond (is_told v) (it v ∷ filter has_line others) (filter has_line others))
    by Interior later = (λ i. nothing item.path false i ++ later i)
        ∙ ap (λ (l : List Item). made l (filter has_line others)) (filter-append has_line earlier (it Interior ∷ [])
        ∙ append_nil (filter has_line earlier))
    by (Skip why) later = ap (λ (l : List X). f item.path false (Skip why) ++ l) (later
        ∙ ap (λ (l : List Item). made l (filter has_line others)) (filter-append has_line earlier (it (Skip why) ∷ [])))
    by (Named id object) later = (λ i. f item.path (taken_told job root earlier (Named id object) i) (Named id object) ++ later i)
        ∙ ap (λ (l : List Item). f item.path (is_taken job root (filter has_line earlier) (Named id object)) (Named id object)
        ++ made l (filter has_line others))
        (filter-append has_line earlier (it (Named id object) ∷ []))

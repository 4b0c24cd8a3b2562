-- What is made in `staging` leaves the storage root.
use Rattle.std.proofs.Common.{◌≡◌, ℕ, List, [], ◌∷◌, ◌++◌, Bool, true, false, refl, sym, ◌∙◌, ap, cond, map, take, ◌&&◌}
use Rattle.std.specs.Prelude.{None, Some, codes, is_some}
use Rattle.std.specs.List.{list_all}
use Rattle.std.specs.Str.{bytes_eq}
use Rattle.std.proofs.lemmas.Bool.{and_from, and_parts, false≢true}
use Rattle.pt_object.proofs.Ways.{same_name}
use Rattle.pt_object.specs.Script.{Item, MakeFile, MakeFolder, StandsAtPrefix, cut_last, done, item_entry, item_in, item_path, made}
use Rattle.pt_object.specs.Scripts.{staging}
use Rattle.pt_tree.specs.Path.{Path, rest_below, same_path}
use Rattle.pt_tree.specs.Tree.{Tree}
use Rattle.pt_plan.specs.RerunLaws.{RootStaysWithoutStaging}
use Rattle.pt_plan.specs.Roots.{root_in, storage_root}
use Rattle.pt_plan.proofs.CarriedFiles.{all_take}

-- what is made is in `staging`
abbrev pub in_staging : Item → Bool
in_staging item = is_some (rest_below staging (item_path item))

-- no path of the root is
other_path : (path p : Path) → is_some (rest_below staging p) ≡ true → same_path (storage_root ++ path) p ≡ false
other_path _ [] _ = refl
other_path path (x ∷ p) h = by (bytes_eq (codes "staging") x) refl h
  where
    by : (t : Bool) → bytes_eq (codes "staging") x ≡ t → is_some (cond t (rest_below [] p) None) ≡ true
        → (bytes_eq (codes "ocfl") x && same_path path p) ≡ false
    by true e h = ap (λ (y : List ℕ). bytes_eq (codes "ocfl") y && same_path path p) (sym (same_name (codes "staging") x e))
    by false e h = absurd (false≢true h)

made_keeps : (script : List Item) (t : Tree) → list_all in_staging script ≡ true → (path : Path)
    → made script t (storage_root ++ path) ≡ t (storage_root ++ path)
made_keeps [] _ _ _ = refl
made_keeps (item ∷ script) t h path =
    let parts = and_parts (in_staging item) (list_all in_staging script) h in
    made_keeps script (done item t) parts.1 path ∙ ap (λ b. cond b (Some (item_entry item)) (t (storage_root ++ path)))
    (other_path path (item_path item) parts.0)

pub items_in : (items : List Item) → list_all in_staging (map (item_in staging) items) ≡ true
items_in [] = refl
items_in (MakeFolder _ ∷ items) = items_in items
items_in (MakeFile _ _ ∷ items) = items_in items

pub cut_in : (count : ℕ) (script : List Item) → list_all in_staging script ≡ true → list_all in_staging (cut_last count script) ≡ true
cut_in _ [] _ = refl
cut_in _ (MakeFolder path ∷ []) h = h
cut_in _ (MakeFile path bytes ∷ []) h = h
cut_in count (item ∷ next ∷ script) h =
    let parts = and_parts _ _ h in
    and_from _ _ parts.0 (cut_in count (next ∷ script) parts.1)

pub root_at_prefix : (items : List Item) {start now : Tree} → StandsAtPrefix (map (item_in staging) items) start now → root_in now ≡ root_in start
root_at_prefix items {start} at =
    ap root_in at.stands
    ∙ λ i path. made_keeps (cut_last at.bytes (take at.items (map (item_in staging) items))) start
    (cut_in at.bytes (take at.items (map (item_in staging) items)) (all_take in_staging at.items (map (item_in staging) items) (items_in items))) path i

pub root_stays_without_staging : RootStaysWithoutStaging
root_stays_without_staging _ = refl

-- Places of one layout have as many names, and none is a root file or a folder above one.
use Rattle.std.proofs.Common.{
  ◌≡◌,
  ℕ,
  zero,
  suc,
  ◌/◌,
  ◌%◌,
  ◌==◌,
  ◌||◌,
  ◌&&◌,
  List,
  [],
  ◌∷◌,
  ◌++◌,
  Bool,
  true,
  false,
  cond,
  length,
  map,
  take,
  drop,
  refl,
  sym,
  ◌∙◌,
  ap,
  arith,
  inl,
  inr,
  nat_le,
}
use Rattle.std.specs.Prelude.{All, Option, None, Some, codes, is_some, not, slice_index}
use Rattle.std.specs.List.{list_all}
use Rattle.std.specs.Str.{bytes_eq}
use Rattle.std.proofs.lemmas.Bool.{and_from, and_parts, cases_lt, true≢false, false_from_ne_true}
use Rattle.std.proofs.lemmas.List.{get_or_past}
use Rattle.std.proofs.lemmas.List.Elements.{All-cons, All-get_or, All-nil}
use Rattle.std.proofs.lemmas.List.Folds.{list_all-append}
use Rattle.hex.specs.Hex.{encode_lower, encode_with, lower_digits}
use Rattle.sha2.specs.Sha256.{sha256}
use Rattle.pt_name.specs.Hex.{hex_pair}
use Rattle.pt_name.specs.Place.{digest_text, encoded_of, encoded_spelling, is_safe, last_name_of, place_of, tuples_from}
use Rattle.pt_name.specs.Tuples.{Tuples}
use Rattle.pt_object.proofs.Ways.{same_name}
use Rattle.pt_object.specs.Root.{base, base_where, root_of}
use Rattle.pt_object.specs.Script.{folders_above}
use Rattle.pt_tree.specs.Path.{Path, same_path}
use Rattle.pt_tree.specs.Tree.{Entry, Tree}
use Rattle.pt_plan.specs.Carried.{Carried, is_folder_or_free, is_way_free}
use Rattle.pt_plan.specs.Items.{is_reserved}
use Rattle.pt_plan.specs.Job.{Job}
use Rattle.pt_plan.specs.PlaceLaws.{IsRooted}
use Rattle.pt_plan.proofs.CarriedFiles.{all_take}
use Rattle.pt_plan.proofs.Growing.{append_nil}

-- ---- lengths

same_long : (size count : ℕ) (d e a b : List ℕ) → length (tuples_from size count d ++ a ∷ []) ≡ length (tuples_from size count e ++ b ∷ [])
same_long _ zero _ _ _ _ = refl
same_long size (suc count) d e a b = ap (λ n. suc n) (same_long size count (drop size d) (drop size e) a b)

pub as_long : (tuples : Tuples) (a b : List ℕ) → length (place_of tuples a) ≡ length (place_of tuples b)
as_long tuples a b = same_long tuples.size tuples.count (digest_text a) (digest_text b) (last_name_of a) (last_name_of b)

-- ---- bytes

-- what each digit passes, and 0
passed : (p : ℕ → Bool) (xs : List ℕ) → list_all p xs ≡ true → All (λ x. p x ≡ true) xs
passed p [] _ = All-nil (λ x. p x ≡ true)
passed p (x ∷ xs) h =
    let parts = and_parts (p x) _ h in
    All-cons (λ y. p y ≡ true) x xs parts.0 (passed p xs parts.1)

digit_passes : (p : ℕ → Bool) → list_all p lower_digits ≡ true → p 0 ≡ true → (d : ℕ) → p (slice_index lower_digits d) ≡ true
digit_passes p all none d = elim (cases_lt d 16) [
  | inl within ↦ All-get_or (λ x. p x ≡ true) lower_digits d 0 within (passed p lower_digits all)
  | inr past ↦ rw (get_or_past lower_digits d 0 past) none
]

digits_pass : (p : ℕ → Bool) → list_all p lower_digits ≡ true → p 0 ≡ true → (bytes : List ℕ) → list_all p (encode_lower bytes) ≡ true
unfolding encode_with
digits_pass _ _ _ [] = refl
digits_pass p all none (b ∷ bytes) =
    and_from _ _ (digit_passes p all none (b / 16))
    (and_from _ _ (digit_passes p all none (b % 16)) (digits_pass p all none bytes))

-- neither `.` nor `=`
abbrev is_plain : ℕ → Bool
is_plain b = not (b == 46 || b == 61)

-- nor `x`
abbrev is_digit_like : ℕ → Bool
is_digit_like b = not (b == 46 || (b == 61 || b == 120))

safe_plain : (b : ℕ) → is_safe b ≡ true → is_plain b ≡ true
safe_plain b h = grind (arith, h)

spelled_plain : (b : ℕ) → list_all is_plain (encoded_spelling b) ≡ true
spelled_plain b = by (is_safe b) refl
  where
    by : (t : Bool) → is_safe b ≡ t → list_all is_plain (cond t (b ∷ []) (37 ∷ hex_pair b)) ≡ true
    by true e = and_from _ true (safe_plain b e) refl
    by false e =
        and_from _ _ (digit_passes is_plain refl refl (b / 16))
        (and_from _ true (digit_passes is_plain refl refl (b % 16)) refl)

encoded_plain : (id : List ℕ) → list_all is_plain (encoded_of id) ≡ true
encoded_plain [] = refl
encoded_plain (b ∷ id) =
    list_all-append is_plain (encoded_spelling b) (encoded_of id)
    ∙ and_from _ _ (spelled_plain b) (encoded_plain id)

last_plain : (id : List ℕ) → list_all is_plain (last_name_of id) ≡ true
last_plain id = by (nat_le (length (encoded_of id)) 100)
  where
    by : (t : Bool) → list_all is_plain (cond t (encoded_of id) (take 100 (encoded_of id) ++ 45 ∷ digest_text id)) ≡ true
    by true = encoded_plain id
    by false =
        list_all-append is_plain (take 100 (encoded_of id)) (45 ∷ digest_text id)
        ∙ and_from _ _ (all_take is_plain 100 (encoded_of id) (encoded_plain id)) (digits_pass is_plain refl refl (sha256 id))

-- texts of which one passes a test and the other doesn't
differ : (p : ℕ → Bool) (a b : List ℕ) → list_all p a ≡ true → list_all p b ≡ false → bytes_eq a b ≡ false
differ p a b h k = false_from_ne_true (bytes_eq a b) (λ e. true≢false (sym h ∙ ap (list_all p) (same_name a b e) ∙ k))

-- ---- a new root

-- below a name that no entry of it has, nothing stands
nothing_below : (tuples : Tuples) (name : List ℕ) (more : Path) → bytes_eq name (codes "0=ocfl_1.1") ≡ false → bytes_eq name (codes "ocfl_layout.json") ≡ false
    → bytes_eq name (codes "extensions") ≡ false
    → root_of tuples (name ∷ more) ≡ None
nothing_below _ _ _ a b e = rw (a, b, e) refl

nothing_below_tuple : (tuples : Tuples) (name : List ℕ) (more : Path) → list_all is_digit_like name ≡ true → root_of tuples (name ∷ more) ≡ None
nothing_below_tuple tuples name more d =
    nothing_below tuples name more (differ is_digit_like name (codes "0=ocfl_1.1") d refl) (differ is_digit_like name (codes "ocfl_layout.json") d refl)
    (differ is_digit_like name (codes "extensions") d refl)

nothing_by : (tuples : Tuples) (size count : ℕ) (digits last : List ℕ) (rest : Path) → list_all is_digit_like digits ≡ true → list_all is_plain last ≡ true
    → (count == 0 && same_path (tuples_from size count digits ++ last ∷ []) (codes "extensions" ∷ [])) ≡ false
    → root_of tuples ((tuples_from size count digits ++ last ∷ []) ++ rest) ≡ None
nothing_by tuples _ zero _ last rest _ l reserved =
    nothing_below tuples last rest (differ is_plain last (codes "0=ocfl_1.1") l refl) (differ is_plain last (codes "ocfl_layout.json") l refl)
    (by (bytes_eq last (codes "extensions")) reserved)
  where
    by : (t : Bool) → (t && true) ≡ false → t ≡ false
    by true h = h
    by false h = refl
nothing_by tuples size (suc count) digits last rest d _ _ =
    nothing_below_tuple tuples (take size digits) ((tuples_from size count (drop size digits) ++ last ∷ []) ++ rest) (all_take is_digit_like size digits d)

-- nothing stands in a new root at a place or below it
pub nothing_below_place : (job : Job) (id : List ℕ) → is_reserved job id ≡ false → (rest : Path) → root_of job.tuples (place_of job.tuples id ++ rest) ≡ None
nothing_below_place job id reserved rest =
    nothing_by job.tuples job.tuples.size job.tuples.count _ _ rest (digits_pass is_digit_like refl refl (sha256 id)) (last_plain id) reserved

nothing_at_place : (job : Job) (id : List ℕ) → is_reserved job id ≡ false → root_of job.tuples (place_of job.tuples id) ≡ None
nothing_at_place job id reserved = ap (root_of job.tuples) (sym (append_nil (place_of job.tuples id))) ∙ nothing_below_place job id reserved []

-- at a place something stands in the base exactly where it stood in the root
pub base_at_place : (job : Job) {root : Tree} (id : List ℕ) → IsRooted root → is_reserved job id ≡ false
    → is_some (base job.tuples root (place_of job.tuples id)) ≡ is_some (root (place_of job.tuples id))
base_at_place job {root} id rooted reserved = by (root []) refl
  where
    by : (o : Option Entry) → root [] ≡ o → is_some (base_where job.tuples root o (place_of job.tuples id)) ≡ is_some (root (place_of job.tuples id))
    by None e = ap is_some (nothing_at_place job id reserved) ∙ sym (ap is_some (rooted e (place_of job.tuples id)))
    by (Some entry) e = refl

-- folders on the way to a place are none of the entries of a new root
ways_below : (tuples : Tuples) (name : List ℕ) (folders : List Path) → ((more : Path) → root_of tuples (name ∷ more) ≡ None)
    → list_all (λ folder. is_folder_or_free (root_of tuples folder)) (map (λ (folder : Path). name ∷ folder) folders) ≡ true
ways_below _ _ [] _ = refl
ways_below tuples name (folder ∷ folders) none =
    and_from _ _
    (ap is_folder_or_free (none folder)) (ways_below tuples name folders none)

ways_from : (tuples : Tuples) (name : List ℕ) (path : Path) → ((more : Path) → root_of tuples (name ∷ more) ≡ None)
    → list_all (λ folder. is_folder_or_free (root_of tuples folder)) (folders_above (name ∷ path)) ≡ true
ways_from _ _ [] _ = refl
ways_from tuples name (next ∷ path) none =
    and_from _ _
    (ap is_folder_or_free (none [])) (ways_below tuples name (folders_above (next ∷ path)) none)

ways_by : (tuples : Tuples) (size count : ℕ) (digits last : List ℕ) → list_all is_digit_like digits ≡ true
    → list_all (λ folder. is_folder_or_free (root_of tuples folder)) (folders_above (tuples_from size count digits ++ last ∷ [])) ≡ true
ways_by _ _ zero _ _ _ = refl
ways_by tuples size (suc count) digits last d =
    ways_from tuples (take size digits) (tuples_from size count (drop size digits) ++ last ∷ [])
    (λ more. nothing_below_tuple tuples (take size digits) more (all_take is_digit_like size digits d))

pub new_root_ways : (job : Job) (object : Carried) → is_way_free job (root_of job.tuples) object ≡ true
new_root_ways job object = ways_by job.tuples job.tuples.size job.tuples.count _ (last_name_of object.id)
    (digits_pass is_digit_like refl refl (sha256 object.id))

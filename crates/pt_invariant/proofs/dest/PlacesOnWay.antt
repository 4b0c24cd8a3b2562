-- The way to a place in the root, and a destination's root beside what is made in `staging`.
use Rattle.std.proofs.Common.{
  ◌≡◌,
  ◌<◌,
  ◌+◌,
  ◌&&◌,
  ℕ,
  zero,
  suc,
  Bool,
  true,
  false,
  List,
  [],
  ◌∷◌,
  ◌++◌,
  refl,
  ap,
  sym,
  ◌∙◌,
  arith,
  cond,
  drop,
  length,
  map,
  take,
}
use Rattle.std.specs.Prelude.{◌||◌, Option, None, Some, codes, is_some, not}
use Rattle.std.specs.Option.{option_map, option_or}
use Rattle.std.specs.Str.{bytes_eq}
use Rattle.std.proofs.lemmas.Bool.{false_from_ne_true, false≢true, or_parts, true≢false}
use Rattle.std.proofs.lemmas.List.{length-append}
use Rattle.pt_name.specs.Place.{digest_text, last_name_of, place_of, tuples_from}
use Rattle.pt_name.specs.Tuples.{Tuples}
use Rattle.pt_object.proofs.Ways.{is_same, same_name, leads, leads-itself, leads-longer, leads-on, leads-push}
use Rattle.pt_object.specs.FilePaths.{File}
use Rattle.pt_object.specs.Holding.{file_or_folder, held_at, holding, leads_to, placed as in_place, placed_at}
use Rattle.pt_object.specs.Root.{base, base_where}
use Rattle.pt_object.specs.RootFiles.{root_files_of}
use Rattle.pt_object.specs.Script.{folders_above}
use Rattle.pt_object.specs.Scripts.{staging}
use Rattle.pt_tree.specs.Path.{Path, rest_below, same_path}
use Rattle.pt_tree.specs.Tree.{Bytes, Entry, Folder, IsTree, Special, Tree, kind_of_entry, put}
use Rattle.pt_tree.specs.declared.kind.Kind.TheVariants as kind
use Rattle.pt_plan.proofs.Folders.{above, is_one}
use Rattle.pt_plan.proofs.Levels.{leads_through}
use Rattle.pt_plan.proofs.MovedIn.{root_is_made_in_place, roots_have_no_gaps}
use Rattle.pt_plan.specs.Carried.{Carried, folder_where}
use Rattle.pt_plan.specs.Job.{Job}
use Rattle.pt_plan.specs.Roots.{root_in, storage_root, with_folders, with_root}
use Rattle.pt_invariant.specs.DestInvariant.{root_now, root_on_way}
use Rattle.pt_invariant.proofs.Tests.{take_map}

-- ---- the names of a place

long_tuples : (size count : ℕ) (digits : List ℕ) → length (tuples_from size count digits) ≡ count
long_tuples size zero digits = refl
long_tuples size (suc count) digits = ap (λ n. suc n) (long_tuples size count (drop size digits))

pub long_place : (tuples : Tuples) (id : List ℕ) → length (place_of tuples id) ≡ tuples.count + 1
long_place tuples id = length-append (tuples_from tuples.size tuples.count (digest_text id)) (last_name_of id ∷ [])
    ∙ ap (λ n. n + 1) (long_tuples tuples.size tuples.count (digest_text id))

-- a name of it
pub name_of_place : (place : Path) (n : ℕ) → n < length place → (name : List ℕ) × (take (suc n) place ≡ take n place ++ name ∷ [])
name_of_place [] n less = absurd (omega (arith, less))
name_of_place (x ∷ place) zero less = (x, refl)
name_of_place (x ∷ place) (suc n) less = let later = name_of_place place n (omega (arith, less)) in (later.0, ap (λ l. x ∷ l) later.1)

-- ---- beside `staging`

not_both : (x : List ℕ) → bytes_eq x (codes "ocfl") ≡ true → bytes_eq (codes "staging") x ≡ true → ⊥
not_both x a b = false≢true (ap (λ (y : List ℕ). bytes_eq y (codes "ocfl")) (same_name (codes "staging") x b) ∙ a)

put_beside_at : (t inside : Tree) (p : Path) (e : Entry) (q : Path) → put (in_place t staging inside) (storage_root ++ p) e q
    ≡ in_place (put t (storage_root ++ p) e) staging inside q
put_beside_at t inside p e [] = refl
put_beside_at t inside p e (x ∷ q) = by (bytes_eq x (codes "ocfl")) (bytes_eq (codes "staging") x) refl refl
  where
    by : (a b : Bool) → bytes_eq x (codes "ocfl") ≡ a → bytes_eq (codes "staging") x ≡ b
        → cond (a && same_path q p) (Some e) (placed_at inside (cond b (Some q) None) (t (x ∷ q)))
        ≡ placed_at inside (cond b (Some q) None) (cond (a && same_path q p) (Some e) (t (x ∷ q)))
    by true true one two = absurd (not_both x one two)
    by true false one two = refl
    by false b one two = refl

-- what is made in the root is made there whatever is in `staging`
pub put_beside : (t inside root : Tree) (p : Path) (e : Entry) → put (in_place (with_root t root) staging inside) (storage_root ++ p) e
    ≡ in_place (with_root t (put root p e)) staging inside
put_beside t inside root p e = (λ i q. put_beside_at (with_root t root) inside p e q i)
    ∙ ap (λ (u : Tree). in_place u staging inside) (root_is_made_in_place t root p e)

-- ---- one folder more on the way

pub folder_kind : (o : Option Entry) → option_map kind_of_entry o ≡ Some kind.Dir → o ≡ Some Folder
folder_kind None is = absurd (cc)
folder_kind (Some (Bytes bytes)) is = absurd (cc)
folder_kind (Some Folder) is = refl
folder_kind (Some Special) is = absurd (cc)

pub or_none : (a b : Option Entry) → option_or a b ≡ None → a ≡ None
or_none None b h = refl
or_none (Some entry) b h = absurd (cc)

-- it is made where nothing stands
pub way_made : (job : Job) (start : Tree) (placed : List Carried) (place : Path) (n : ℕ) (name : List ℕ) → take (suc n) place ≡ take n place ++ name ∷ []
    → root_on_way job start placed place n (take (suc n) place) ≡ None
    → put (root_on_way job start placed place n) (take (suc n) place) Folder ≡ root_on_way job start placed place (suc n)
way_made job start placed place n name more none =
    λ i q. at q i
  where
    p : Path
    p = take (suc n) place

    root : Tree
    root = root_now job start placed

    grown : (q : Path) → leads q p ≡ (leads q (take n place) || same_path q p)
    grown q = ap (leads q) more ∙ leads-push q (take n place) name ∙ ap (λ (r : Path). leads q (take n place) || same_path q r) (sym more)

    at : (q : Path) → cond (same_path q p) (Some Folder) (option_or (root q) (folder_where (leads q (take n place))))
        ≡ option_or (root q) (folder_where (leads q p))
    at q = by (same_path q p) refl ∙ ap (λ b. option_or (root q) (folder_where b)) (sym (grown q))
      where
        or_true : (b : Bool) → (b || true) ≡ true
        or_true true = refl
        or_true false = refl

        or_false : (b : Bool) → (b || false) ≡ b
        or_false true = refl
        or_false false = refl

        by : (s : Bool) → same_path q p ≡ s → cond s (Some Folder) (option_or (root q) (folder_where (leads q (take n place))))
            ≡ option_or (root q) (folder_where (leads q (take n place) || s))
        by true same =
            let here : root q ≡ None = ap root (is_same q p same) ∙ or_none _ _ none in
            sym (ap (λ (o : Option Entry). option_or o (folder_where (leads q (take n place) || true))) here
            ∙ ap folder_where (or_true (leads q (take n place))))
        by false other = ap (λ b. option_or (root q) (folder_where b)) (sym (or_false (leads q (take n place))))

-- it is there where a folder stands
pub way_found : (job : Job) (start : Tree) (placed : List Carried) (place : Path) (n : ℕ) (name : List ℕ) → take (suc n) place ≡ take n place ++ name ∷ []
    → root_on_way job start placed place n (take (suc n) place) ≡ Some Folder
    → root_on_way job start placed place n ≡ root_on_way job start placed place (suc n)
way_found job start placed place n name more found = λ i q. at q i
  where
    p : Path
    p = take (suc n) place

    root : Tree
    root = root_now job start placed

    grown : (q : Path) → leads q p ≡ (leads q (take n place) || same_path q p)
    grown q = ap (leads q) more ∙ leads-push q (take n place) name ∙ ap (λ (r : Path). leads q (take n place) || same_path q r) (sym more)

    at : (q : Path) → option_or (root q) (folder_where (leads q (take n place))) ≡ option_or (root q) (folder_where (leads q p))
    at q = by (same_path q p) refl ∙ ap (λ b. option_or (root q) (folder_where b)) (sym (grown q))
      where
        or_false : (b : Bool) → (b || false) ≡ b
        or_false true = refl
        or_false false = refl

        folder_either : (here : Option Entry) (b : Bool) → option_or here (folder_where b) ≡ Some Folder
            → option_or here (folder_where b) ≡ option_or here (folder_where (b || true))
        folder_either here true h = refl
        folder_either None false h = absurd (cc)
        folder_either (Some entry) false h = refl

        by : (s : Bool) → same_path q p ≡ s → option_or (root q) (folder_where (leads q (take n place)))
            ≡ option_or (root q) (folder_where (leads q (take n place) || s))
        by true same = folder_either (root q) (leads q (take n place))
            (ap (λ (r : Path). option_or (root r) (folder_where (leads r (take n place)))) (is_same q p same) ∙ found)
        by false other = ap (λ b. option_or (root q) (folder_where b)) (sym (or_false (leads q (take n place))))

-- ---- the whole way

-- the folders above a path but for the top are those that lead to all but its last name
proper_prefix : (b : Path) (x : List ℕ) (q : Path) → leads q b ≡ (leads q (b ++ x ∷ []) && not (leads (b ++ x ∷ []) q))
proper_prefix b x q = by (leads q b) refl
  where
    and_true : (t : Bool) → (t && true) ≡ t
    and_true true = refl
    and_true false = refl

    by : (t : Bool) → leads q b ≡ t → t ≡ (leads q (b ++ x ∷ []) && not (leads (b ++ x ∷ []) q))
    by true on =
        let one : leads q (b ++ x ∷ []) ≡ true = leads-on q b (x ∷ []) on in
        let two : leads (b ++ x ∷ []) q ≡ false = false_from_ne_true _ (λ h. true≢false (sym (leads_through (b ++ x ∷ []) q b h on) ∙ leads-longer b [] x)) in
        sym (ap (λ t. t && not (leads (b ++ x ∷ []) q)) one ∙ ap not two)
    by false off = sym (ap (λ t. t && not (leads (b ++ x ∷ []) q)) (leads-push q b x ∙ ap (λ t. t || same_path q (b ++ x ∷ [])) off) ∙ last _ refl)
      where
        last : (s : Bool) → same_path q (b ++ x ∷ []) ≡ s → (s && not (leads (b ++ x ∷ []) q)) ≡ false
        last true same = ap (λ (r : Path). not (leads (b ++ x ∷ []) r)) (is_same q (b ++ x ∷ []) same) ∙ ap not (leads-itself (b ++ x ∷ []))
        last false other = refl

-- with all tuple directories the root has the folders above the place
pub whole_way : (job : Job) (start : Tree) (placed : List Carried) (b : Path) (x : List ℕ) (n : ℕ) → take n (b ++ x ∷ []) ≡ b
    → is_some (root_now job start placed []) ≡ true
    → root_on_way job start placed (b ++ x ∷ []) n ≡ with_folders (folders_above (b ++ x ∷ [])) (root_now job start placed)
whole_way job start placed b x n front top = λ i q. at q i
  where
    root : Tree
    root = root_now job start placed

    at : (q : Path) → option_or (root q) (folder_where (leads q (take n (b ++ x ∷ []))))
        ≡ option_or (root q) (folder_where (is_one q (folders_above (b ++ x ∷ []))))
    at [] = some_top (root []) top
      where
        some_top : (o : Option Entry) → is_some o ≡ true → option_or o (folder_where (leads [] (take n (b ++ x ∷ []))))
            ≡ option_or o (folder_where (is_one [] (folders_above (b ++ x ∷ []))))
        some_top None h = absurd (false≢true h)
        some_top (Some entry) h = refl
    at (m ∷ q) = ap (λ t. option_or (root (m ∷ q)) (folder_where t)) (ap (leads (m ∷ q)) front ∙ proper_prefix b x (m ∷ q) ∙ sym (above m q (b ++ x ∷ [])))

-- the first so many of the folders above a path lead to as many names of it
first_folders : (p : Path) (n : ℕ) (m : List ℕ) (q : Path) → n < length p → is_one (m ∷ q) (take n (folders_above p)) ≡ leads (m ∷ q) (take n p)
first_folders [] n m q less = absurd (omega (arith, less))
first_folders (x ∷ p) zero m q less = refl
first_folders (x ∷ []) (suc n) m q less = absurd (omega (arith, less))
first_folders (x ∷ y ∷ p) (suc n) m q less =
    ap (λ (l : List Path). (bytes_eq m x && same_path q []) || is_one (m ∷ q) l) (take_map (λ folder. x ∷ folder) n (folders_above (y ∷ p)))
    ∙ ap (λ b. (bytes_eq m x && same_path q []) || b) (one_under (take n (folders_above (y ∷ p))))
    ∙ by (bytes_eq m x) q (λ k r. first_folders (y ∷ p) n k r (omega (arith, less)))
  where
    one_under : (folders : List Path) → is_one (m ∷ q) (map (λ folder. x ∷ folder) folders) ≡ (bytes_eq m x && is_one q folders)
    one_under [] = sym (and_none (bytes_eq m x))
      where
        and_none : (b : Bool) → (b && false) ≡ false
        and_none true = refl
        and_none false = refl
    one_under (folder ∷ folders) = ap (λ b. (bytes_eq m x && same_path q folder) || b) (one_under folders) ∙ spread (bytes_eq m x) _ (is_one q folders)
      where
        spread : (a b d : Bool) → ((a && b) || (a && d)) ≡ (a && (b || d))
        spread true b d = refl
        spread false b d = refl

    by : (b : Bool) (r : Path) → ((k : List ℕ) (s : Path) → is_one (k ∷ s) (take n (folders_above (y ∷ p))) ≡ leads (k ∷ s) (take n (y ∷ p)))
        → ((b && same_path r []) || (b && is_one r (take n (folders_above (y ∷ p))))) ≡ is_some (cond b (rest_below r (take n (y ∷ p))) None)
    by false r later = refl
    by true [] later = refl
    by true (k ∷ r) later = later k r

-- so with the first so many folders
pub part_way : (job : Job) (start : Tree) (placed : List Carried) (place : Path) (n : ℕ) → n < length place → is_some (root_now job start placed []) ≡ true
    → root_on_way job start placed place n ≡ with_folders (take n (folders_above place)) (root_now job start placed)
part_way job start placed place n less top = λ i q. at q i
  where
    root : Tree
    root = root_now job start placed

    at : (q : Path) → option_or (root q) (folder_where (leads q (take n place))) ≡ option_or (root q) (folder_where (is_one q (take n (folders_above place))))
    at [] = some_top (root []) top
      where
        some_top : (o : Option Entry) → is_some o ≡ true → option_or o (folder_where (leads [] (take n place)))
            ≡ option_or o (folder_where (is_one [] (take n (folders_above place))))
        some_top None h = absurd (false≢true h)
        some_top (Some entry) h = refl
    at (m ∷ q) = ap (λ t. option_or (root (m ∷ q)) (folder_where t)) (sym (first_folders place n m q less))

-- ---- nothing below where nothing stands

nothing_held : (files : List File) (p rest : Path) → leads_to files p ≡ false → (held_at files (p ++ rest) ≡ None) × (leads_to files (p ++ rest) ≡ false)
nothing_held [] p rest off = (refl, refl)
nothing_held (file ∷ files) p rest off =
    let parts = or_parts _ _ off in
    let later = nothing_held files p rest parts.1 in
    let apart : leads (p ++ rest) file.0 ≡ false = false_from_ne_true _
    (λ h. true≢false (sym (leads_through p (p ++ rest) file.0 (leads-on p p rest (leads-itself p)) h) ∙ parts.0)) in
    let other : same_path (p ++ rest) file.0 ≡ false = false_from_ne_true _
    (λ h. true≢false (sym (ap (leads (p ++ rest)) (sym (is_same (p ++ rest) file.0 h)) ∙ leads-itself (p ++ rest)) ∙ apart)) in (
      ap (λ t. cond t (Some file.1) (held_at files (p ++ rest))) other ∙ later.0,
      ap (λ t. t || leads_to files (p ++ rest)) apart ∙ later.1,
    )

nothing_there : (files : List File) (p rest : Path) → holding files p ≡ None → holding files (p ++ rest) ≡ None
nothing_there files p rest none = by (held_at files p) (leads_to files p) refl refl none
  where
    by : (o : Option (List ℕ)) (t : Bool) → held_at files p ≡ o → leads_to files p ≡ t → file_or_folder o t ≡ None → holding files (p ++ rest) ≡ None
    by (Some bytes) t one two h = absurd (cc)
    by None true one two h = absurd (cc)
    by None false one two h = let nothing = nothing_held files p rest two in ap (λ (o : Option (List ℕ)). file_or_folder o (leads_to files (p ++ rest)))
        nothing.0 ∙ ap (file_or_folder None) nothing.1

pub base_gaps : (job : Job) (start : Tree) (path rest : Path) → IsTree start → base job.tuples (root_in start) path ≡ None
    → base job.tuples (root_in start) (path ++ rest) ≡ None
base_gaps job start path rest tree none = by (root_in start []) refl none
  where
    by : (o : Option Entry) → root_in start [] ≡ o → base_where job.tuples (root_in start) o path ≡ None
        → base_where job.tuples (root_in start) o (path ++ rest) ≡ None
    by None is none = nothing_there (root_files_of job.tuples) path rest none
    by (Some entry) is none = (roots_have_no_gaps start tree).0 path none rest

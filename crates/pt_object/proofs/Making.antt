-- Scripts carried out item by item: what may be made, and what it leaves.
use Rattle.std.proofs.Common.{◌≡◌, ℕ, zero, suc, List, [], ◌∷◌, ◌++◌, Bool, true, false, refl, sym, ◌∙◌, ap, subst}
use Rattle.std.specs.Prelude.{cond, ◌||◌, Option, None, Some}
use Rattle.std.specs.Option.{option_or}
use Rattle.std.proofs.lemmas.Bool.{or_right}
use Rattle.pt_tree.specs.Path.{Path, same_path}
use Rattle.pt_tree.specs.Tree.{Bytes, Folder, Tree, CanMake}
use Rattle.pt_object.specs.FilePaths.{File}
use Rattle.pt_object.specs.Holding.{held_at, leads_to, file_or_folder, holding}
use Rattle.pt_object.specs.Script.{Item, MakeFolder, MakeFile, item_path, done, made, CanBeMadeInTurn}
use Rattle.pt_object.proofs.Ways.{
  leads,
  is_same,
  leads-itself,
  leads-longer,
  leads-on,
  leads-push,
  parent-push,
  top_differs,
  bytes_if,
  held_at-push,
  leads_to-push,
  IsClear,
}

-- from t each item may be made, one after another
abbrev pub CanCarryOut : List Item → Tree → Type 0
CanCarryOut [] t = Unit {0}
CanCarryOut (item ∷ script) t = CanMake t (item_path item) × CanCarryOut script (done item t)

pub in_turn : (script : List Item) (t : Tree) → CanCarryOut script t → CanBeMadeInTurn script t
in_turn [] t can i item is = absurd (cc)
in_turn (x ∷ script) t can zero item is = let same : x ≡ item = cc in subst (λ (y : Item). CanMake t (item_path y)) same can.0
in_turn (x ∷ script) t can (suc i) item is = in_turn script (done x t) can.1 i item is

-- the script can be carried out from t, and leaves u
pub record Carries (script : List Item) (t u : Tree) : Type 0 where
  pub can : CanCarryOut script t
  pub leaves : made script t ≡ u

pub carries_none : (t : Tree) → Carries [] t t
carries_none t = record { can = tt; leaves = refl }

pub carries_item : (item : Item) (script : List Item) (t s u : Tree) → CanMake t (item_path item) → done item t ≡ s → Carries script s u
    → Carries (item ∷ script) t u
carries_item item script t s u can is later = record {
  can = (can, subst (CanCarryOut script) (sym is) later.can);
  leaves = ap (made script) is ∙ later.leaves;
}

pub carries_both : (first later : List Item) (t s u : Tree) → Carries first t s → Carries later s u → Carries (first ++ later) t u
carries_both [] later t s u a b = record { can = subst (CanCarryOut later) (sym a.leaves) b.can; leaves = ap (made later) a.leaves ∙ b.leaves }
carries_both (x ∷ first) later t s u a b =
    carries_item x (first ++ later) t (done x t) u a.can.0 refl (carries_both first later (done x t) s u (record { can = a.can.1; leaves = a.leaves }) b)

pub carries_from : (script : List Item) (t s u : Tree) → t ≡ s → Carries script s u → Carries script t u
carries_from script t s u is c = subst (λ (x : Tree). Carries script x u) (sym is) c

-- ---- the tree of some files, with the folders above one more path

abbrev pub on_way : List File → Path → Tree
on_way files way = λ q. cond (leads q way) (Some Folder) (holding files q)

-- what no file stands at or below may be made in the last of these folders
pub can_make : (E : List File) (b : Path) (x : List ℕ) → held_at E (b ++ x ∷ []) ≡ None → leads_to E (b ++ x ∷ []) ≡ false → CanMake (on_way E b) (b ++ x ∷ [])
can_make E b x held free = record {
  absent = ap (λ t. cond t (Some Folder) (holding E (b ++ x ∷ []))) (leads-longer b [] x) ∙ (λ i. file_or_folder (held i) (free i));
  in_folder = ap (on_way E b) (parent-push b x) ∙ ap (λ t. cond t (Some Folder) (holding E b)) (leads-itself b);
}

-- one more folder
pub after_folder : (E : List File) (b : Path) (x : List ℕ) → done (MakeFolder (b ++ x ∷ [])) (on_way E b) ≡ on_way E (b ++ x ∷ [])
after_folder E b x i q = (by (same_path q (b ++ x ∷ [])) (leads q b) ∙ ap (λ t. cond t (Some Folder) (holding E q)) (sym (leads-push q b x))) i
  where
    by : (s l : Bool) → cond s (Some Folder) (cond l (Some Folder) (holding E q)) ≡ cond (l || s) (Some Folder) (holding E q)
    by true true = refl
    by true false = refl
    by false true = refl
    by false false = refl

-- a folder that stands
pub folder_stands : (E : List File) (b : Path) (x : List ℕ) → held_at E (b ++ x ∷ []) ≡ None → leads_to E (b ++ x ∷ []) ≡ true
    → on_way E b ≡ on_way E (b ++ x ∷ [])
folder_stands E b x held needed i q = (by (same_path q (b ++ x ∷ [])) (leads q b) refl ∙ ap (λ t. cond t (Some Folder) (holding E q)) (sym (leads-push q b x)))
    i
  where
    by : (s l : Bool) → same_path q (b ++ x ∷ []) ≡ s → cond l (Some Folder) (holding E q) ≡ cond (l || s) (Some Folder) (holding E q)
    by s true is = refl
    by true false is = ap (holding E) (is_same q (b ++ x ∷ []) is) ∙ (λ i. file_or_folder (held i) (needed i))
    by false false is = refl

-- where all folders above a path stand, they change nothing
abbrev pub Stand : List File → Path → Type 0
Stand E b = (n : List ℕ) (q : Path) → leads (n ∷ q) b ≡ true → (held_at E (n ∷ q) ≡ None) × (leads_to E (n ∷ q) ≡ true)

all_stand_at : (E : List File) (b : Path) → Stand E b → (q : Path) → on_way E b q ≡ on_way E [] q
all_stand_at E b stand [] = refl
all_stand_at E b stand (n ∷ q) = by (leads (n ∷ q) b) refl
  where
    by : (t : Bool) → leads (n ∷ q) b ≡ t → cond t (Some Folder) (holding E (n ∷ q)) ≡ holding E (n ∷ q)
    by true is = let s = stand n q is in λ i. file_or_folder (sym s.0 i) (sym s.1 i)
    by false is = refl

pub all_stand : (E : List File) (b : Path) → Stand E b → on_way E b ≡ on_way E []
all_stand E b stand i q = all_stand_at E b stand q i

-- one more file
after_file_at : (E : List File) (b : Path) (x bytes : List ℕ) → IsClear E (b ++ x ∷ []) → (q : Path)
    → done (MakeFile (b ++ x ∷ []) bytes) (on_way E b) q ≡ on_way (E ++ (b ++ x ∷ [], bytes) ∷ []) [] q
after_file_at E b x bytes clear [] = ap (λ t. cond t (Some (Bytes bytes)) (Some Folder)) (top_differs b x)
after_file_at E b x bytes clear (n ∷ q) = by (same_path (n ∷ q) p) (leads (n ∷ q) b) refl refl ∙ sym grown
  where
    p : Path
    p = b ++ x ∷ []

    grown : holding (E ++ (p, bytes) ∷ []) (n ∷ q) ≡ file_or_folder (option_or (held_at E (n ∷ q)) (bytes_if (same_path (n ∷ q) p) bytes))
        (leads_to E (n ∷ q) || leads (n ∷ q) p)
    grown i = file_or_folder (held_at-push E (p, bytes) (n ∷ q) i) (leads_to-push E (p, bytes) (n ∷ q) i)

    by : (s l : Bool) → same_path (n ∷ q) p ≡ s → leads (n ∷ q) b ≡ l
        → cond s (Some (Bytes bytes)) (cond l (Some Folder) (holding E (n ∷ q)))
        ≡ file_or_folder (option_or (held_at E (n ∷ q)) (bytes_if s bytes)) (leads_to E (n ∷ q) || leads (n ∷ q) p)
    by true l same way =
        let none : held_at E (n ∷ q) ≡ None = ap (held_at E) (is_same (n ∷ q) p same) ∙ clear.way p (leads-itself p) in
        rw none refl
    by false true other way =
        let on : leads (n ∷ q) p ≡ true = leads-on (n ∷ q) b (x ∷ []) way in
        let none : held_at E (n ∷ q) ≡ None = clear.way (n ∷ q) on in
        λ i. file_or_folder (option_or (sym none i) None) ((sym (or_right (leads_to E (n ∷ q)) true refl) ∙ ap (λ t. leads_to E (n ∷ q) || t) (sym on)) i)
    by false false other way =
        let off : leads (n ∷ q) p ≡ false = leads-push (n ∷ q) b x ∙ (λ i. way i || other i) in
        λ i. file_or_folder (kept (held_at E (n ∷ q)) i) ((plain (leads_to E (n ∷ q)) ∙ ap (λ t. leads_to E (n ∷ q) || t) (sym off)) i)
      where
        kept : {A : Type 0} (o : Option A) → o ≡ option_or o None
        kept None = refl
        kept (Some a) = refl

        plain : (t : Bool) → t ≡ (t || false)
        plain true = refl
        plain false = refl

pub after_file : (E : List File) (b : Path) (x bytes : List ℕ) → IsClear E (b ++ x ∷ [])
    → done (MakeFile (b ++ x ∷ []) bytes) (on_way E b) ≡ on_way (E ++ (b ++ x ∷ [], bytes) ∷ []) []
after_file E b x bytes clear i q = after_file_at E b x bytes clear q i

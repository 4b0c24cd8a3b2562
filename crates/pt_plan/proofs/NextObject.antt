-- With one item more, its object stands at its place, and the rest of the root with its tuple directories stays.
use Rattle.std.proofs.Common.{◌≡◌, ℕ, suc, List, [], ◌∷◌, ◌++◌, Bool, true, false, refl, sym, ◌∙◌, ap}
use Rattle.std.specs.Prelude.{◌||◌, ◌&&◌, Option, None, Some, is_some, not}
use Rattle.std.specs.Option.{option_and_then, option_or}
use Rattle.std.proofs.lemmas.Bool.{false_from_ne_true, true≢false}
use Rattle.pt_object.proofs.Ways.{leads, leads-itself, leads-longer, leads-on}
use Rattle.pt_object.specs.Holding.{placed, placed_at}
use Rattle.pt_object.specs.Object.{object_of}
use Rattle.pt_object.specs.Root.{base, base_where}
use Rattle.pt_name.specs.Place.{place_of}
use Rattle.pt_tree.specs.Forest.{Forest}
use Rattle.pt_tree.specs.Path.{Path, rest_below}
use Rattle.pt_tree.specs.Tree.{Entry, Folder, Tree}
use Rattle.pt_tree.proofs.Below.{rest_of, whole_of}
use Rattle.pt_plan.specs.Carried.{
  Carried,
  after,
  carried_among,
  carried_by,
  carried_by_outcome,
  entry_of_object,
  entry_of_objects,
  folder_where,
  is_on_the_way,
  place_of_carried,
  with_objects,
}
use Rattle.pt_plan.specs.Faults.{IsCarriedAs}
use Rattle.pt_plan.specs.GrowthLaws.{AfterGrows, AfterStays, HasNoGaps}
use Rattle.pt_plan.specs.Items.{Fails, Holds, Interior, Named, Outcome, PairtreeObject, Skip, Verdict, is_reserved, outcome}
use Rattle.pt_plan.specs.Job.{Job}
use Rattle.pt_plan.specs.Roots.{tuple_folders, with_folders}
use Rattle.pt_plan.proofs.Folders.{above, is_one}
use Rattle.pt_plan.proofs.Growing.{append_nil, carried_grows}
use Rattle.pt_plan.proofs.Levels.{leads_through, one_way}
use Rattle.pt_plan.proofs.PlaceShapes.{as_long, nothing_below_place}
use Rattle.pt_plan.proofs.Reserved.{named_is_not_reserved}
use Rattle.pt_plan.proofs.TakenPlaces.{marked_item, next_place_stands_where_taken, or_false}
use Rattle.pt_plan.proofs.WithObjects.{base_top, entries-append, none_of_object, top_of_object, way-append}

pub after_stays : AfterStays
after_stays job source root k m is none =
    let same : carried_among job source root (suc k) ≡ carried_among job source root k =
    carried_grows job source root k m is ∙ ap (λ (l : List Carried). carried_among job source root k ++ l) none
    ∙ append_nil (carried_among job source root k) in
    ap (λ (l : List Carried). with_objects job l (base job.tuples root)) same

-- ---- what is known of the next object

-- the item whose object is carried is named, and its place isn't taken
record IsNextNamed (object : Carried) (taken : Bool) (verdict : Verdict) : Type 0 where
  from : PairtreeObject
  named : verdict ≡ Named object.id from
  free : taken ≡ false

next_named : (job : Job) {object : Carried} (taken : Bool) (verdict : Verdict) → carried_by job taken verdict ≡ object ∷ [] → IsNextNamed object taken verdict
next_named job taken Interior h = absurd (cc)
next_named job taken (Skip why) h = absurd (cc)
next_named job true (Named id from) h = absurd (cc)
next_named job {object} false (Named id from) h = by (outcome job.limits from) h
  where
    by : (o : Outcome) → carried_by_outcome id o ≡ object ∷ [] → IsNextNamed object false (Named id from)
    by (Fails why) h = absurd (cc)
    by (Holds files) h =
        let made : Carried = record { id = id; files = files } in
        let same : made ≡ object = cc in
        record { from = from; named = ap (λ (c : Carried). Named c.id from) same; free = refl }

none_where : (o : Option Entry) → is_some o ≡ false → o ≡ None
none_where None _ = refl
none_where (Some _) h = absurd (true≢false h)

-- nothing stands at its place before
pub place_is_free : (job : Job) (source : Forest) {root : Tree} (k : ℕ) {object : Carried} → HasNoGaps root → IsCarriedAs job source root k object
    → after job source root k (place_of_carried job object) ≡ None
place_is_free job source {root} k {object} gaps (m, at, is) =
    let next = next_named job m.1 m.0.verdict is in
    none_where _ (next_place_stands_where_taken job source root k m object.id next.from (gaps []) at next.named ∙ next.free)

-- so its place isn't reserved
place_is_open : (job : Job) (source : Forest) (root : Tree) (k : ℕ) {object : Carried} → IsCarriedAs job source root k object
    → is_reserved job object.id ≡ false
place_is_open job source root k {object} (m, at, is) =
    let next = next_named job m.1 m.0.verdict is in
    named_is_not_reserved job source k m.0 object.id next.from (marked_item job source root k m at).0 next.named

-- nor anything below it
base_below : (job : Job) {root : Tree} (id : List ℕ) → HasNoGaps root → is_reserved job id ≡ false → base job.tuples root (place_of job.tuples id) ≡ None
    → (rest : Path) → base job.tuples root (place_of job.tuples id ++ rest) ≡ None
base_below job {root} id gaps reserved none rest = by (root []) refl none
  where
    by : (o : Option Entry) → root [] ≡ o → base_where job.tuples root o (place_of job.tuples id) ≡ None
        → base_where job.tuples root o (place_of job.tuples id ++ rest) ≡ None
    by None e none = nothing_below_place job id reserved rest
    by (Some entry) e none = gaps (place_of job.tuples id) none rest

-- where nothing stands, neither the root has something nor an object, and it isn't on the way to one
record IsNothing (here inside : Option Entry) (way : Bool) : Type 0 where
  here_none : here ≡ None
  off_way : way ≡ false

nothing : (here inside : Option Entry) (way : Bool) → option_or here (option_or inside (folder_where way)) ≡ None → IsNothing here inside way
nothing (Some entry) inside way h = let k : Some entry ≡ None = h in absurd (cc)
nothing None (Some entry) way h = let k : Some entry ≡ None = h in absurd (cc)
nothing None None true h = let k : Some Folder ≡ None = h in absurd (cc)
nothing None None false _ = record { here_none = refl; off_way = refl }

or_parts : (a : Bool) {b : Bool} → (a || b) ≡ false → (a ≡ false) × (b ≡ false)
or_parts true h = absurd (true≢false h)
or_parts false h = (refl, h)

pub below_itself : (p rest : Path) → leads p (p ++ rest) ≡ true
below_itself p rest = leads-on p p rest (leads-itself p)

-- earlier objects have nothing at or below a place that they don't have, and no way goes there
no_entries : (job : Job) (id : List ℕ) (rest : Path) (objects : List Carried) → is_on_the_way job objects (place_of job.tuples id) ≡ false
    → entry_of_objects job objects (place_of job.tuples id ++ rest) ≡ None
no_entries _ _ _ [] _ = refl
no_entries job id rest (object ∷ objects) h =
    let parts = or_parts _ h in
    ap (λ (o : Option Entry). option_or o (entry_of_objects job objects (place_of job.tuples id ++ rest)))
    (none_of_object job object _ (false_from_ne_true (leads (place_of_carried job object) (place_of job.tuples id ++ rest)) (λ e. apart parts.0 e)))
    ∙ no_entries job id rest objects parts.1
  where
    apart : leads (place_of job.tuples id) (place_of_carried job object) ≡ false → leads (place_of_carried job object) (place_of job.tuples id ++ rest) ≡ true
        → ⊥
    apart off on =
        let same = one_way _ _ _ (as_long job.tuples object.id id) on (below_itself (place_of job.tuples id) rest) in
        true≢false (sym (leads-itself (place_of job.tuples id)) ∙ ap (λ (p : Path). leads (place_of job.tuples id) p) (sym same) ∙ off)

no_way : (job : Job) (id : List ℕ) (rest : Path) (objects : List Carried) → is_on_the_way job objects (place_of job.tuples id) ≡ false
    → is_on_the_way job objects (place_of job.tuples id ++ rest) ≡ false
no_way _ _ _ [] _ = refl
no_way job id rest (object ∷ objects) h =
    let parts = or_parts (leads (place_of job.tuples id) (place_of_carried job object)) h in
    ap (λ b. b || is_on_the_way job objects (place_of job.tuples id ++ rest))
    (false_from_ne_true (leads (place_of job.tuples id ++ rest) (place_of_carried job object))
    (λ e. true≢false (sym (leads_through (place_of job.tuples id) (place_of job.tuples id ++ rest) (place_of_carried job object)
    (below_itself (place_of job.tuples id) rest) e) ∙ parts.0)))
    ∙ no_way job id rest objects parts.1

-- ---- the root with it

-- at its place and below
at_place : (job : Job) (objects : List Carried) (object : Carried) (t : Tree) → with_objects job objects t (place_of_carried job object) ≡ None
    → ((rest : Path) → t (place_of_carried job object ++ rest) ≡ None) → (rest : Path)
    → with_objects job (objects ++ object ∷ []) t (place_of_carried job object ++ rest) ≡ object_of object.id object.files job.meta job.algorithm rest
at_place job objects object t free gaps rest =
    let p = place_of_carried job object in
    let off = nothing (t p) _ _ free in
    ap (λ (o : Option Entry). option_or o (option_or (entry_of_objects job (objects ++ object ∷ []) (p ++ rest))
    (folder_where (is_on_the_way job (objects ++ object ∷ []) (p ++ rest))))) (gaps rest)
    ∙ ap (λ (o : Option Entry). option_or o (folder_where (is_on_the_way job (objects ++ object ∷ []) (p ++ rest))))
    (entries-append job (p ++ rest) objects (object ∷ []) ∙ ap (λ (o : Option Entry). option_or o (option_or (entry_of_object job (p ++ rest) object) None))
    (no_entries job object.id rest objects off.off_way))
    ∙ ap (λ b. option_or (option_or (entry_of_object job (p ++ rest) object) None) (folder_where b))
    (way-append job (p ++ rest) objects (object ∷ []) ∙ ap (λ b. b || (leads (p ++ rest) p || false)) (no_way job object.id rest objects off.off_way))
    ∙ ap (λ (o : Option Path). option_or (option_or (option_and_then (object_of object.id object.files job.meta job.algorithm) o) None)
    (folder_where (leads (p ++ rest) p || false))) (rest_of p rest)
    ∙ by rest
  where
    nothing_more : (o : Option Entry) → option_or (option_or o None) None ≡ o
    nothing_more None = refl
    nothing_more (Some entry) = refl

    by : (rest : Path) → option_or (option_or (object_of object.id object.files job.meta job.algorithm rest) None)
        (folder_where (leads (place_of_carried job object ++ rest) (place_of_carried job object) || false))
        ≡ object_of object.id object.files job.meta job.algorithm rest
    by [] =
        ap (λ (o : Option Entry). option_or (option_or o None) (folder_where (leads (place_of_carried job object ++ []) (place_of_carried job object)
        || false))) (top_of_object job object) ∙ sym (top_of_object job object)
    by (name ∷ rest) =
        ap (λ b. option_or (option_or (object_of object.id object.files job.meta job.algorithm (name ∷ rest)) None) (folder_where (b || false)))
        (leads-longer (place_of_carried job object) rest name)
        ∙ nothing_more (object_of object.id object.files job.meta job.algorithm (name ∷ rest))

-- elsewhere
elsewhere : (job : Job) (objects : List Carried) (object : Carried) (t : Tree) → is_some (t []) ≡ true → (q : Path)
    → rest_below (place_of_carried job object) q ≡ None
    → with_objects job (objects ++ object ∷ []) t q ≡ with_folders (tuple_folders job object) (with_objects job objects t) q
elsewhere job objects object t top q off =
    let p = place_of_carried job object in
    ap (λ (o : Option Entry). option_or (t q) (option_or o (folder_where (is_on_the_way job (objects ++ object ∷ []) q))))
    (entries-append job q objects (object ∷ []) ∙ ap (λ (o : Option Path). option_or (entry_of_objects job objects q)
    (option_or (option_and_then (object_of object.id object.files job.meta job.algorithm) o) None)) off)
    ∙ ap (λ b. option_or (t q) (option_or (option_or (entry_of_objects job objects q) None) (folder_where b))) (way-append job q objects (object ∷ []))
    ∙ by (t q) (entry_of_objects job objects q) (is_on_the_way job objects q) (key q refl off)
  where
    and_true : (b : Bool) → (b && true) ≡ b
    and_true true = refl
    and_true false = refl

    key : (r : Path) → t q ≡ t r → rest_below (place_of_carried job object) r ≡ None → t r ≡ None
        → leads r (place_of_carried job object) ≡ is_one r (tuple_folders job object)
    key [] e off none = absurd (true≢false (sym top ∙ ap is_some none))
    key (m ∷ r) e off none = sym (above m r (place_of_carried job object)
        ∙ ap (λ (o : Option Path). leads (m ∷ r) (place_of_carried job object) && not (is_some o)) off ∙ and_true (leads (m ∷ r) (place_of_carried job object)))

    by : (here inside : Option Entry) (way : Bool) → (here ≡ None → leads q (place_of_carried job object) ≡ is_one q (tuple_folders job object))
        → option_or here (option_or (option_or inside None) (folder_where (way || (leads q (place_of_carried job object) || false))))
        ≡ option_or (option_or here (option_or inside (folder_where way))) (folder_where (is_one q (tuple_folders job object)))
    by (Some entry) inside way tells = refl
    by None (Some entry) way tells = refl
    by None None true tells = refl
    by None None false tells = ap folder_where (or_false (leads q (place_of_carried job object)) ∙ tells refl)

pub grown_at : (job : Job) (objects : List Carried) (object : Carried) (t : Tree) → is_some (t []) ≡ true
    → with_objects job objects t (place_of_carried job object) ≡ None
    → ((rest : Path) → t (place_of_carried job object ++ rest) ≡ None) → (q : Path)
    → with_objects job (objects ++ object ∷ []) t q ≡ placed (with_folders (tuple_folders job object) (with_objects job objects t))
    (place_of_carried job object) (object_of object.id object.files job.meta job.algorithm) q
grown_at job objects object t top free gaps q = by (rest_below (place_of_carried job object) q) refl
  where
    by : (o : Option Path) → rest_below (place_of_carried job object) q ≡ o
        → with_objects job (objects ++ object ∷ []) t q ≡ placed_at (object_of object.id object.files job.meta job.algorithm) o
        (with_folders (tuple_folders job object) (with_objects job objects t) q)
    by (Some rest) e = ap (with_objects job (objects ++ object ∷ []) t) (whole_of _ q rest e) ∙ at_place job objects object t free gaps rest
    by None e = elsewhere job objects object t top q e

pub after_grows : AfterGrows
after_grows job source root k object gaps (m, at, is) =
    let objects = carried_among job source root k in
    let start = base job.tuples root in
    let free = place_is_free job source k gaps (m, at, is) in
    let none : start (place_of_carried job object) ≡ None =
    (nothing (start (place_of_carried job object)) (entry_of_objects job objects (place_of_carried job object))
    (is_on_the_way job objects (place_of_carried job object)) free).here_none in
    ap (λ (l : List Carried). with_objects job l start) (carried_grows job source root k m at ∙ ap (λ (l : List Carried). objects ++ l) is)
    ∙ λ i q. grown_at job objects object start (base_top job root) free (base_below job object.id gaps (place_is_open job source root k (m, at, is)) none) q i

-- The objects that a share carries are those of the whole that it has, and what stands at a path is of one of them whose place leads there.
use Rattle.std.proofs.Common.{◌≡◌, ℕ, Bool, true, false, List, [], ◌∷◌, ◌++◌, ap, sym, ◌∙◌, refl, cond, length, take, append_assoc}
use Rattle.std.specs.Prelude.{◌||◌, Option, None, Some, filter, flat_map, is_some}
use Rattle.std.specs.List.{list_all}
use Rattle.std.specs.Option.{option_or}
use Rattle.std.specs.Str.{is_utf8}
use Rattle.std.proofs.lemmas.Bool.{and_from, and_parts, false≢true}
use Rattle.std.proofs.lemmas.List.{take_at}
use Rattle.std.proofs.lemmas.List.Elements.{filter-append}
use Rattle.std.proofs.lemmas.List.Folds.{list_all-append}
use Rattle.pt_name.specs.Place.{place_of}
use Rattle.pt_name.specs.Share.{Portion, holds, is_first, whole}
use Rattle.pt_object.proofs.Ways.{leads}
use Rattle.pt_tree.specs.Forest.{Forest}
use Rattle.pt_tree.specs.Path.{Path, rest_below}
use Rattle.pt_tree.specs.Tree.{Entry, Tree}
use Rattle.pt_tree.proofs.Below.{whole_of}
use Rattle.pt_plan.specs.Carried.{
  Carried,
  Marked,
  all_carried,
  carried_by,
  carried_by_outcome,
  entry_of_object,
  entry_of_objects,
  is_on_the_way,
  is_taken,
  marked_after,
  place_of_carried,
}
use Rattle.pt_plan.specs.Items.{Fails, Holds, Interior, Item, Named, Outcome, Skip, Verdict, outcome}
use Rattle.pt_plan.specs.Job.{Job}
use Rattle.pt_plan.specs.ShareLaws.{Divide, IsOneOf, is_known, of_whole, with_share}
use Rattle.pt_plan.proofs.Growing.{append_nil}
use Rattle.pt_plan.proofs.PlaceShapes.{as_long}
use Rattle.pt_plan.proofs.SharedItems.{MadeOfItems, TakesPlaces, bare_items, is_own, known_item, made_in, made_whole, texts_in, whole_places}
use Rattle.pt_plan.proofs.WithObjects.{none_of_object}

-- ---- the objects of a share are those of the whole that it has

unfoldable pub carried_made : (job : Job) (share : Portion) → MadeOfItems Carried job share
carried_made job share = record {
  mine = λ path taken v. carried_by (with_share job share) taken v;
  all = λ path taken v. carried_by job taken v;
  same = same;
  none = λ path taken. refl;
}
  where
    same : (path : Path) (taken : Bool) (v : Verdict) → carried_by (with_share job share) taken v ≡ carried_by job taken v
    same path taken Interior = refl
    same path taken (Skip why) = refl
    same path taken (Named id object) = refl

-- those that a share has
abbrev pub mine : Portion → List Carried → List Carried
mine share objects = filter (λ (o : Carried). holds share o.id) objects

one_of_share : (job : Job) (share : Portion) (taken : Bool) (v : Verdict)
    → cond (is_own share v) (carried_by job taken v) [] ≡ mine share (carried_by job taken v)
one_of_share _ _ _ Interior = refl
one_of_share _ share _ (Skip _) = by (is_first share)
  where
    by : (b : Bool) → ◌≡◌ {A = List Carried} (cond b [] []) []
    by true = refl
    by false = refl
one_of_share job share taken (Named id object) = by taken (outcome job.limits object)
  where
    nothing : (b : Bool) → ◌≡◌ {A = List Carried} (cond b [] []) []
    nothing true = refl
    nothing false = refl

    by : (t : Bool) (comes : Outcome) → cond (holds share id) (cond t [] (carried_by_outcome id comes)) []
        ≡ mine share (cond t [] (carried_by_outcome id comes))
    by true comes = nothing _
    by false (Fails why) = nothing _
    by false (Holds files) = refl

all_of_share : (job : Job) (share : Portion) (ms : List Marked) → flat_map
    (λ (m : Marked). cond (is_own share m.0.verdict) (carried_by job m.1 m.0.verdict) []) ms
    ≡ mine share (flat_map (λ (m : Marked). carried_by job m.1 m.0.verdict) ms)
all_of_share _ _ [] = refl
all_of_share job share (m ∷ ms) =
    (λ k. one_of_share job share m.1 m.0.verdict k ++ all_of_share job share ms k)
    ∙ sym (filter-append (λ (o : Carried). holds share o.id) (carried_by job m.1 m.0.verdict) (flat_map (λ (x : Marked). carried_by job x.1 x.0.verdict) ms))

-- the objects of the whole
abbrev pub whole_carried : Job → Forest → Tree → List Carried
whole_carried job source root = flat_map (λ (m : Marked). carried_by job m.1 m.0.verdict) (marked_after job root [] (bare_items job source))

pub of_share_are : (job : Job) {known : List ℕ → Bool} {share : Portion} (places : TakesPlaces job.tuples known share) (source : Forest) (root : Tree)
    → list_all (known_item known) (bare_items job source) ≡ true
    → all_carried (with_share job share) source root ≡ mine share (whole_carried job source root)
unfolding carried_made
of_share_are job {share = share} places source root t = made_in places (carried_made job share) source root t
    ∙ all_of_share job share (marked_after job root [] (bare_items job source))

pub of_whole_are : (job : Job) (source : Forest) (root : Tree) → all_carried (of_whole job) source root ≡ whole_carried job source root
unfolding carried_made
of_whole_are job source root = made_in (whole_places job.tuples is_utf8) (carried_made job whole) source root (texts_in job source)
    ∙ made_whole (λ (m : Marked). carried_by job m.1 m.0.verdict) (marked_after job root [] (bare_items job source))

-- their identifiers pass the test
abbrev pub known_id : (List ℕ → Bool) → Carried → Bool
known_id known object = known object.id

known_of_one : (known : List ℕ → Bool) (job : Job) (taken : Bool) (v : Verdict) → is_known known v ≡ true
    → list_all (known_id known) (carried_by job taken v) ≡ true
known_of_one known job taken (Named id object) h = by taken (outcome job.limits object)
  where
    by : (t : Bool) (comes : Outcome) → list_all (known_id known) (cond t [] (carried_by_outcome id comes)) ≡ true
    by true comes = refl
    by false (Fails why) = refl
    by false (Holds files) = and_from _ true h refl
known_of_one _ _ _ _ _ = refl

pub known_of : (known : List ℕ → Bool) (job : Job) (root : Tree) (earlier others : List Item) → list_all (known_item known) others ≡ true
    → list_all (known_id known) (flat_map (λ (m : Marked). carried_by job m.1 m.0.verdict) (marked_after job root earlier others)) ≡ true
known_of _ _ _ _ [] _ = refl
known_of known job root earlier (item ∷ others) h =
    let parts = and_parts _ _ h in
    let first = carried_by job (is_taken job root earlier item.verdict) item.verdict in
    let later = flat_map (λ (m : Marked). carried_by job m.1 m.0.verdict) (marked_after job root (earlier ++ item ∷ []) others) in
    list_all-append (known_id known) first later
    ∙ and_from _ _ (known_of_one known job (is_taken job root earlier item.verdict) item.verdict parts.0)
    (known_of known job root (earlier ++ item ∷ []) others parts.1)

-- ---- places

-- a choice has this identifier, which passes the test
pub record IsMine (known : List ℕ → Bool) (share : Portion) (id : List ℕ) : Type 0 where
  pub passes : known id ≡ true
  pub held : holds share id ≡ true

-- the rest behind a path that leads to another
below : (p : Path) {q : Path} → leads p q ≡ true → (rest : Path) × (q ≡ p ++ rest)
below p {q} h = by (rest_below p q) refl h
  where
    by : (o : Option Path) → rest_below p q ≡ o → is_some o ≡ true → (rest : Path) × (q ≡ p ++ rest)
    by None e k = absurd (false≢true k)
    by (Some rest) e k = (rest, whole_of p q rest e)

same_front : {p q : Path} (r s : Path) → length p ≡ length q → p ++ r ≡ q ++ s → p ≡ q
same_front {p} {q} r s long same = sym (take_at p r (length q) long) ∙ ap (take (length q)) same ∙ take_at q s (length q) refl

-- two places that lead to one path are one
pub one_place_there : (job : Job) (a b : List ℕ) (path : Path) → leads (place_of job.tuples a) path ≡ true → leads (place_of job.tuples b) path ≡ true
    → place_of job.tuples a ≡ place_of job.tuples b
one_place_there job a b _ u v =
    let first = below (place_of job.tuples a) u in
    let other = below (place_of job.tuples b) v in
    same_front first.0 other.0 (as_long job.tuples a b) (sym first.1 ∙ other.1)

-- so are one that leads to a path and one to which it leads
pub one_place_across : (job : Job) (a b : List ℕ) (path : Path) → leads (place_of job.tuples a) path ≡ true → leads path (place_of job.tuples b) ≡ true
    → place_of job.tuples a ≡ place_of job.tuples b
one_place_across job a b path u v =
    let (first, front) = below (place_of job.tuples a) u in
    let (other, behind) = below path v in
    let all : place_of job.tuples b ≡ (place_of job.tuples a ++ first) ++ other = behind ∙ ap (λ (p : Path). p ++ other) front in
    same_front _ [] (as_long job.tuples a b)
    (sym (append_assoc (place_of job.tuples a) first other) ∙ sym all ∙ sym (append_nil (place_of job.tuples b)))

-- ---- what objects have, and which way they are on

-- an object that has something at a path has its place above
has_place_above : (job : Job) (path : Path) (object : Carried) {entry : Entry} → entry_of_object job path object ≡ Some entry
    → leads (place_of_carried job object) path ≡ true
has_place_above job path object is = by (leads (place_of_carried job object) path) refl
  where
    by : (t : Bool) → leads (place_of_carried job object) path ≡ t → t ≡ true
    by true h = refl
    by false h = absurd (let none = sym (none_of_object job object path h) ∙ is in cc)

-- with one of them more or not
either : (b : Bool) (job : Job) (path : Path) (object : Carried) (objects : List Carried) → entry_of_object job path object ≡ None
    → entry_of_objects job (cond b (object ∷ objects) objects) path ≡ entry_of_objects job objects path
either true job path _ objects none = ap (λ (o : Option Entry). option_or o (entry_of_objects job objects path)) none
either false _ _ _ _ _ = refl

-- what is there is an object's of some choice
pub found_in_one : (job : Job) {known : List ℕ → Bool} {count : ℕ} {choices : ℕ → Portion} (divide : Divide job.tuples known count choices) (path : Path)
    {entry : Entry} (objects : List Carried) → list_all (known_id known) objects ≡ true → entry_of_objects job objects path ≡ Some entry
    → (index : ℕ) × IsOneOf count index × (entry_of_objects job (mine (choices index) objects) path ≡ Some entry)
found_in_one job divide path [] t is = absurd (cc)
found_in_one job {known} {count} {choices} divide path {entry} (object ∷ objects) t is = by (entry_of_object job path object) refl is
    (λ later. found_in_one job divide path objects (and_parts _ _ t).1 later) (divide.one object.id (and_parts _ _ t).0)
  where
    by : (o : Option Entry) → entry_of_object job path object ≡ o → option_or o (entry_of_objects job objects path) ≡ Some entry
        → (entry_of_objects job objects path ≡ Some entry → (index : ℕ) × IsOneOf count index
        × (entry_of_objects job (mine (choices index) objects) path ≡ Some entry))
        → ((index : ℕ) × IsOneOf count index × (holds (choices index) object.id ≡ true))
        → (index : ℕ) × IsOneOf count index × (entry_of_objects job (mine (choices index) (object ∷ objects)) path ≡ Some entry)
    by None e h later its = let (index, one, at) = later h in (
      index,
      one,
      either (holds (choices index) object.id) job path object
          (mine (choices index) objects) e ∙ at,
    )
    by (Some x) e h later (n, one, held) = (
      n,
      one,
      ap (λ b. entry_of_objects job (cond b (object ∷ mine (choices n) objects) (mine (choices n) objects)) path) held
          ∙ ap (λ (o : Option Entry). option_or o (entry_of_objects job (mine (choices n) objects) path)) e ∙ h,
    )

-- where they have nothing no share has
pub none_in_any : (job : Job) (share : Portion) (path : Path) (objects : List Carried) → entry_of_objects job objects path ≡ None
    → entry_of_objects job (mine share objects) path ≡ None
none_in_any _ _ _ [] _ = refl
none_in_any job share path (object ∷ objects) is = by (entry_of_object job path object) refl is (λ later. none_in_any job share path objects later)
  where
    by : (o : Option Entry) → entry_of_object job path object ≡ o → option_or o (entry_of_objects job objects path) ≡ None
        → (entry_of_objects job objects path ≡ None → entry_of_objects job (mine share objects) path ≡ None)
        → entry_of_objects job (mine share (object ∷ objects)) path ≡ None
    by None e h later = either (holds share object.id) job path object (mine share objects) e ∙ later h
    by (Some x) e h later = absurd (cc)

-- what a share's objects have is of one that it has
pub mine_above : (job : Job) {known : List ℕ → Bool} {share : Portion} (path : Path) {entry : Entry} (objects : List Carried)
    → list_all (known_id known) objects ≡ true → entry_of_objects job (mine share objects) path ≡ Some entry
    → (id : List ℕ) × IsMine known share id × (leads (place_of job.tuples id) path ≡ true)
mine_above job path [] t is = absurd (cc)
mine_above job {known} {share} path {entry} (object ∷ objects) t is = by (holds share object.id) refl is
    (λ later. mine_above job path objects (and_parts _ _ t).1 later)
  where
    there : (o : Option Entry) → entry_of_object job path object ≡ o → holds share object.id ≡ true
        → option_or o (entry_of_objects job (mine share objects) path) ≡ Some entry
        → (entry_of_objects job (mine share objects) path ≡ Some entry → (id : List ℕ) × IsMine known share id × (leads (place_of job.tuples id) path ≡ true))
        → (id : List ℕ) × IsMine known share id × (leads (place_of job.tuples id) path ≡ true)
    there None e h k later = later k
    there (Some x) e h k later = (object.id, record { passes = (and_parts _ _ t).0; held = h }, has_place_above job path object e)

    by : (b : Bool) → holds share object.id ≡ b → entry_of_objects job (cond b (object ∷ mine share objects) (mine share objects)) path ≡ Some entry
        → (entry_of_objects job (mine share objects) path ≡ Some entry → (id : List ℕ) × IsMine known share id × (leads (place_of job.tuples id) path ≡ true))
        → (id : List ℕ) × IsMine known share id × (leads (place_of job.tuples id) path ≡ true)
    by true h k later = there (entry_of_object job path object) refl h k later
    by false h k later = later k

-- and then the others have nothing there
pub same_in_share : (job : Job) {known : List ℕ → Bool} {share : Portion} (places : TakesPlaces job.tuples known share) (path : Path) {id : List ℕ}
    (objects : List Carried) → IsMine known share id → leads (place_of job.tuples id) path ≡ true → list_all (known_id known) objects ≡ true
    → entry_of_objects job (mine share objects) path ≡ entry_of_objects job objects path
same_in_share _ _ _ [] _ _ _ = refl
same_in_share job {known} {share} places path {id} (object ∷ objects) one above t =
    let parts = and_parts _ _ t in
    by (holds share object.id) refl parts.0 (same_in_share job places path objects one above parts.1)
  where
    nothing : (o : Option Entry) → entry_of_object job path object ≡ o → known object.id ≡ true → holds share object.id ≡ false → o ≡ None
    nothing None e u h = refl
    nothing (Some x) e u h =
        let same = one_place_there job object.id id path (has_place_above job path object e) above in
        absurd (false≢true (sym h ∙ places.too object.id id u one.passes same one.held))

    by : (b : Bool) → holds share object.id ≡ b → known object.id ≡ true
        → entry_of_objects job (mine share objects) path ≡ entry_of_objects job objects path
        → entry_of_objects job (cond b (object ∷ mine share objects) (mine share objects)) path
        ≡ option_or (entry_of_object job path object) (entry_of_objects job objects path)
    by true h u later = ap (option_or (entry_of_object job path object)) later
    by false h u later = later ∙ sym (ap (λ (o : Option Entry). option_or o (entry_of_objects job objects path)) (nothing _ refl u h))

-- ---- ways

pub way_in_one : (job : Job) {known : List ℕ → Bool} {count : ℕ} {choices : ℕ → Portion} (divide : Divide job.tuples known count choices) (path : Path)
    (objects : List Carried) → list_all (known_id known) objects ≡ true → is_on_the_way job objects path ≡ true
    → (index : ℕ) × IsOneOf count index × (is_on_the_way job (mine (choices index) objects) path ≡ true)
way_in_one _ _ _ [] _ is = absurd (false≢true is)
way_in_one job {known} {count} {choices} divide path (object ∷ objects) t is = by (leads path (place_of_carried job object)) refl is
    (λ later. way_in_one job divide path objects (and_parts _ _ t).1 later) (divide.one object.id (and_parts _ _ t).0)
  where
    more : (b : Bool) (rest : List Carried) → is_on_the_way job rest path ≡ true → is_on_the_way job (cond b (object ∷ rest) rest) path ≡ true
    more true rest h = either_way (leads path (place_of_carried job object)) (is_on_the_way job rest path) h
      where
        either_way : (x y : Bool) → y ≡ true → (x || y) ≡ true
        either_way true y h = refl
        either_way false y h = h
    more false rest h = h

    by : (l : Bool) → leads path (place_of_carried job object) ≡ l → (l || is_on_the_way job objects path) ≡ true
        → (is_on_the_way job objects path ≡ true → (index : ℕ) × IsOneOf count index × (is_on_the_way job (mine (choices index) objects) path ≡ true))
        → ((index : ℕ) × IsOneOf count index × (holds (choices index) object.id ≡ true))
        → (index : ℕ) × IsOneOf count index × (is_on_the_way job (mine (choices index) (object ∷ objects)) path ≡ true)
    by true e h later (n, one, held) = (
      n,
      one,
      ap (λ b. is_on_the_way job (cond b (object ∷ mine (choices n) objects) (mine (choices n) objects)) path) held
          ∙ ap (λ b. b || is_on_the_way job (mine (choices n) objects) path) e,
    )
    by false e h later its = let (index, one, at) = later h in (index, one, more (holds (choices index) object.id) (mine (choices index) objects) at)

pub mine_on_the_way : (job : Job) {known : List ℕ → Bool} {share : Portion} (path : Path) (objects : List Carried) → list_all (known_id known) objects ≡ true
    → is_on_the_way job (mine share objects) path ≡ true
    → (id : List ℕ) × IsMine known share id × (leads path (place_of job.tuples id) ≡ true) × (is_on_the_way job objects path ≡ true)
mine_on_the_way _ _ [] _ is = absurd (false≢true is)
mine_on_the_way job {known} {share} path (object ∷ objects) t is = by (leads path (place_of_carried job object)) (holds share object.id) refl refl is
    (λ later. mine_on_the_way job path objects (and_parts _ _ t).1 later)
  where
    or_later : (x y : Bool) → y ≡ true → (x || y) ≡ true
    or_later true y h = refl
    or_later false y h = h

    by : (l b : Bool) → leads path (place_of_carried job object) ≡ l → holds share object.id ≡ b
        → is_on_the_way job (cond b (object ∷ mine share objects) (mine share objects)) path ≡ true
        → (is_on_the_way job (mine share objects) path ≡ true → (id : List ℕ) × IsMine known share id × (leads path (place_of job.tuples id) ≡ true)
        × (is_on_the_way job objects path ≡ true))
        → (id : List ℕ) × IsMine known share id × (leads path (place_of job.tuples id) ≡ true)
        × ((leads path (place_of_carried job object) || is_on_the_way job objects path) ≡ true)
    by true true e h k later = (object.id, record { passes = (and_parts _ _ t).0; held = h }, e, ap (λ x. x || is_on_the_way job objects path) e)
    by false true e h k later =
        let (id, one, on, way) = later (sym (ap (λ x. x || is_on_the_way job (mine share objects) path) e) ∙ k) in
        (id, one, on, or_later (leads path (place_of_carried job object)) (is_on_the_way job objects path) way)
    by l false e h k later =
        let (id, one, on, way) = later k in
        (id, one, on, or_later (leads path (place_of_carried job object)) (is_on_the_way job objects path) way)

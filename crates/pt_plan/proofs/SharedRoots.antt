-- The roots that choices leave which divide a store, as its shares, are together the root that one run leaves.
use Rattle.std.proofs.Common.{◌≡◌, ◌≢◌, ◌≤◌, ℕ, Bool, true, false, List, [], ◌∷◌, arith, ap, sym, ◌∙◌, refl, eq-eqb, inl, inr}
use Rattle.std.specs.Prelude.{◌⊎◌, Option, None, Some}
use Rattle.std.specs.List.{list_all}
use Rattle.std.specs.Option.{option_or}
use Rattle.std.specs.Str.{is_utf8}
use Rattle.std.proofs.lemmas.Bool.{eqb-true}
use Rattle.pt_name.specs.Place.{place_of}
use Rattle.pt_name.specs.Share.{Portion, numbered, share_number, whole}
use Rattle.pt_name.specs.Tuples.{Tuples}
use Rattle.pt_object.specs.Root.{base}
use Rattle.pt_object.proofs.Ways.{leads}
use Rattle.pt_tree.specs.Forest.{Forest}
use Rattle.pt_tree.specs.Path.{Path}
use Rattle.pt_tree.specs.Tree.{Entry, Folder, Tree}
use Rattle.pt_plan.specs.Carried.{Carried, after_all, entry_of_object, entry_of_objects, folder_where, is_on_the_way, with_objects}
use Rattle.pt_plan.specs.Job.{Job}
use Rattle.pt_plan.specs.ShareLaws.{
  ChoicesLeaveTheWhole,
  ChoicesMeetInFolders,
  Divide,
  IsOneOf,
  KnowsAll,
  SharesLeaveTheWhole,
  SharesMeetInFolders,
  of_whole,
  with_share,
}
use Rattle.pt_plan.proofs.ShareNumbers.{number_within, one_share}
use Rattle.pt_plan.proofs.SharedItems.{TakesPlaces, bare_items, divided_places, known_in, known_item, texts_in, whole_items}
use Rattle.pt_plan.proofs.WithObjects.{folders_on_the_way}
use Rattle.pt_plan.proofs.SharedObjects.{
  IsMine,
  found_in_one,
  known_id,
  known_of,
  mine,
  mine_above,
  mine_on_the_way,
  none_in_any,
  of_share_are,
  of_whole_are,
  one_place_across,
  one_place_there,
  same_in_share,
  way_in_one,
  whole_carried,
}

-- ---- at a path

pub entries_same : (job : Job) (share : Portion) (objects : List Carried) (path : Path)
    → entry_of_objects (with_share job share) objects path ≡ entry_of_objects job objects path
entries_same _ _ [] _ = refl
entries_same job share (object ∷ objects) path = ap (option_or (entry_of_object job path object)) (entries_same job share objects path)

-- what stands there with these objects, where nothing stood before
abbrev with_these : Option Entry → Option Entry → Bool → Option Entry
with_these here inside way = option_or here (option_or inside (folder_where way))

share_at : (job : Job) {known : List ℕ → Bool} {share : Portion} (places : TakesPlaces job.tuples known share) (source : Forest) (root : Tree) (path : Path)
    → list_all (known_item known) (bare_items job source) ≡ true
    → after_all (with_share job share) source root path ≡ with_these (base job.tuples root path)
    (entry_of_objects job (mine share (whole_carried job source root)) path) (is_on_the_way job (mine share (whole_carried job source root)) path)
share_at job {share = share} places source root path t =
    ap (λ (l : List Carried). with_objects (with_share job share) l (base job.tuples root) path) (of_share_are job places source root t)
    ∙ ap (λ (o : Option Entry). with_these (base job.tuples root path) o (is_on_the_way job (mine share (whole_carried job source root)) path))
    (entries_same job share (mine share (whole_carried job source root)) path)

whole_at : (job : Job) (source : Forest) (root : Tree) (path : Path)
    → after_all (of_whole job) source root path ≡ with_these (base job.tuples root path) (entry_of_objects job (whole_carried job source root) path)
    (is_on_the_way job (whole_carried job source root) path)
whole_at job source root path =
    ap (λ (l : List Carried). with_objects (of_whole job) l (base job.tuples root) path) (of_whole_are job source root)
    ∙ ap (λ (o : Option Entry). with_these (base job.tuples root path) o (is_on_the_way job (whole_carried job source root) path))
    (entries_same job whole (whole_carried job source root) path)

-- a folder on the way
only_folder : (way : Bool) {entry : Entry} → folder_where way ≡ Some entry → (way ≡ true) × (entry ≡ Folder)
only_folder true is = (refl, cc)
only_folder false is = absurd (cc)

in_some_share : (job : Job) {known : List ℕ → Bool} {count : ℕ} {choices : ℕ → Portion} (divide : Divide job.tuples known count choices) (path : Path)
    {entry : Entry} (here : Option Entry) (objects : List Carried) → 1 ≤ count → list_all (known_id known) objects ≡ true
    → with_these here (entry_of_objects job objects path) (is_on_the_way job objects path) ≡ Some entry
    → (index : ℕ) × IsOneOf count index × (with_these here (entry_of_objects job (mine (choices index) objects) path)
    (is_on_the_way job (mine (choices index) objects) path) ≡ Some entry)
in_some_share job divide path (Some e) objects some t is = (1, record { first = omega arith; last = some }, is)
in_some_share job {known} {count} {choices} divide path {entry} None objects some t is = by (entry_of_objects job objects path) refl is
  where
    by : (o : Option Entry) → entry_of_objects job objects path ≡ o → option_or o (folder_where (is_on_the_way job objects path)) ≡ Some entry
        → (index : ℕ) × IsOneOf count index × (option_or (entry_of_objects job (mine (choices index) objects) path)
        (folder_where (is_on_the_way job (mine (choices index) objects) path)) ≡ Some entry)
    by (Some x) e h =
        let (index, one, at) = found_in_one job divide path objects t (e ∙ h) in
        (index, one, ap (λ (o : Option Entry). option_or o (folder_where (is_on_the_way job (mine (choices index) objects) path))) at)
    by None e h =
        let (way, folder) = only_folder _ h in
        let (index, one, on) = way_in_one job divide path objects t way in (
          index,
          one,
          ap (λ (o : Option Entry). option_or o (folder_where (is_on_the_way job (mine (choices index) objects) path)))
              (none_in_any job (choices index) path objects e)
              ∙ ap folder_where on ∙ ap (λ (x : Entry). Some x) (sym folder),
        )

in_the_whole : (job : Job) {known : List ℕ → Bool} {share : Portion} (places : TakesPlaces job.tuples known share) (path : Path) {entry : Entry}
    (here : Option Entry) (objects : List Carried) → list_all (known_id known) objects ≡ true
    → with_these here (entry_of_objects job (mine share objects) path) (is_on_the_way job (mine share objects) path) ≡ Some entry
    → with_these here (entry_of_objects job objects path) (is_on_the_way job objects path) ≡ Some entry
in_the_whole _ _ _ (Some _) _ _ is = is
in_the_whole job {known} {share} places path {entry} None objects t is = by (entry_of_objects job (mine share objects) path) refl is
  where
    by : (o : Option Entry) → entry_of_objects job (mine share objects) path ≡ o → option_or o (folder_where (is_on_the_way job (mine share objects) path))
        ≡ Some entry
        → option_or (entry_of_objects job objects path) (folder_where (is_on_the_way job objects path)) ≡ Some entry
    by (Some x) e h =
        let (id, one, above) = mine_above job {known = known} {share = share} path objects t e in
        ap (λ (o : Option Entry). option_or o (folder_where (is_on_the_way job objects path))) (sym (same_in_share job places path objects one above t) ∙ e) ∙ h
    by None e h =
        let (way, folder) = only_folder _ h in
        let (id, one, on, all) = mine_on_the_way job {known = known} {share = share} path objects t way in
        ap (λ b. option_or (entry_of_objects job objects path) (folder_where b)) all ∙ folders_on_the_way job path id objects on
        ∙ ap (λ (x : Entry). Some x) (sym folder)

pub choices_leave_the_whole : ChoicesLeaveTheWhole
choices_leave_the_whole job source root known count choices some all divide path entry =
    let there = known_in known job source all in
    let objects = known_of known job root [] (bare_items job source) there in (
      λ is. let (index, one, at) = in_some_share job divide path (base job.tuples root path) (whole_carried job source root) some objects
          (sym (whole_at job source root path) ∙ is) in
          (index, one, share_at job (divided_places divide index one) source root path there ∙ at),
      λ (index, one, is). whole_at job source root path
          ∙ in_the_whole job (divided_places divide index one) path (base job.tuples root path) (whole_carried job source root) objects
          (sym (share_at job (divided_places divide index one) source root path there) ∙ is),
    )

-- ---- two choices

meet_at : (job : Job) {known : List ℕ → Bool} {count : ℕ} {choices : ℕ → Portion} (divide : Divide job.tuples known count choices) {index other : ℕ}
    (path : Path) {entry there : Entry} (here : Option Entry) (objects : List Carried) → IsOneOf count index → IsOneOf count other → index ≢ other
    → list_all (known_id known) objects ≡ true
    → with_these here (entry_of_objects job (mine (choices index) objects) path) (is_on_the_way job (mine (choices index) objects) path) ≡ Some entry
    → with_these here (entry_of_objects job (mine (choices other) objects) path) (is_on_the_way job (mine (choices other) objects) path) ≡ Some there
    → (here ≡ Some entry) ⊎ (entry ≡ Folder)
meet_at _ _ _ (Some _) _ _ _ _ _ is _ = inl is
meet_at job {known} {count} {choices} divide {index} {other} path {entry} {there} None objects one its apart t is also = by
    (entry_of_objects job (mine (choices index) objects) path) refl is
  where
    apart_places : {a b : List ℕ} → IsMine known (choices index) a → IsMine known (choices other) b → place_of job.tuples a ≡ place_of job.tuples b → ⊥
    apart_places {a} {b} mine_is others same = apart (divide.apart index other a b one its mine_is.passes others.passes mine_is.held others.held same)

    across : (id : List ℕ) → IsMine known (choices index) id → leads (place_of job.tuples id) path ≡ true → (o : Option Entry)
        → entry_of_objects job (mine (choices other) objects) path ≡ o
        → option_or o (folder_where (is_on_the_way job (mine (choices other) objects) path)) ≡ Some there → ⊥
    across id mine_is above (Some y) e h =
        let (another, others, over) = mine_above job {known = known} {share = choices other} path objects t e in
        apart_places mine_is others (one_place_there job id another path above over)
    across id mine_is above None e h =
        let (way, folder) = only_folder _ h in
        let (another, others, on, all) = mine_on_the_way job {known = known} {share = choices other} path objects t way in
        apart_places mine_is others (one_place_across job id another path above on)

    by : (o : Option Entry) → entry_of_objects job (mine (choices index) objects) path ≡ o
        → option_or o (folder_where (is_on_the_way job (mine (choices index) objects) path)) ≡ Some entry
        → (None ≡ Some entry) ⊎ (entry ≡ Folder)
    by (Some x) e h =
        let (id, mine_is, above) = mine_above job {known = known} {share = choices index} path objects t e in
        absurd (across id mine_is above (entry_of_objects job (mine (choices other) objects) path) refl also)
    by None e h = inr (only_folder _ h).1

pub choices_meet_in_folders : ChoicesMeetInFolders
choices_meet_in_folders job source root known count choices all divide index other path entry there one its apart is also =
    let known_there = known_in known job source all in
    meet_at job divide path (base job.tuples root path) (whole_carried job source root) one its apart
    (known_of known job root [] (bare_items job source) known_there)
    (sym (share_at job (divided_places divide index one) source root path known_there) ∙ is)
    (sym (share_at job (divided_places divide other its) source root path known_there) ∙ also)

-- ---- shares

-- the shares are choices that divide all texts
shares_divide : (tuples : Tuples) (count : ℕ) → 1 ≤ count → Divide tuples is_utf8 count (λ index. numbered index count)
shares_divide tuples count some = record {
  identifiers = λ index one. refl;
  one = λ id t. (share_number count id, record { first = omega arith; last = number_within id some }, eq-eqb _ _ refl);
  apart = λ index other a b _ _ t u held its same.
      sym (eqb-true (share_number count a) index held) ∙ one_share tuples count a b t u same ∙ eqb-true (share_number count b) other its;
}

-- they pass the test of a text
all_texts : (job : Job) (source : Forest) → KnowsAll is_utf8 job source
all_texts job source = ap (list_all (known_item is_utf8)) (whole_items job source) ∙ texts_in job source

pub shares_leave_the_whole : SharesLeaveTheWhole
shares_leave_the_whole job source root count some path entry =
    choices_leave_the_whole job source root is_utf8 count (λ index. numbered index count) some (all_texts job source) (shares_divide job.tuples count some) path
    entry

pub shares_meet_in_folders : SharesMeetInFolders
shares_meet_in_folders job source root count index other path entry there one its apart is also =
    let first = one.first in
    let last = one.last in
    choices_meet_in_folders job source root is_utf8 count (λ index. numbered index count) (all_texts job source)
    (shares_divide job.tuples count (omega (arith, first, last))) index other path entry there one its apart is also

-- The roots that shares by folders leave are those that choices by lists leave, which divide a store in which no two have one place.
use Rattle.std.proofs.Common.{◌≡◌, ◌≤◌, ◌==◌, ◌&&◌, ℕ, zero, suc, Bool, true, false, List, [], ◌∷◌, ◌++◌, arith, ap, sym, ◌∙◌, refl, cond, eq-eqb}
use Rattle.std.specs.Prelude.{◌||◌, Option, Some, flat_map, slice_get}
use Rattle.std.specs.List.{list_all}
use Rattle.std.specs.Option.{option_or}
use Rattle.std.specs.Str.{bytes_eq}
use Rattle.std.proofs.lemmas.Bool.{and_from, eqb-true, false≢true}
use Rattle.std.proofs.lemmas.List.Elements.{filter-append}
use Rattle.std.proofs.lemmas.List.Folds.{list_any-append}
use Rattle.std.proofs.lemmas.Slice.Eq.{bytes_eq-Decides}
use Rattle.pt_name.proofs.Shares.{whole_number}
use Rattle.pt_name.specs.Share.{Portion, holds, is_listed, share_number, way_text, whole}
use Rattle.pt_object.specs.Root.{base}
use Rattle.pt_tree.proofs.Names.{name_itself}
use Rattle.pt_tree.specs.Forest.{Forest}
use Rattle.pt_tree.specs.Path.{Path}
use Rattle.pt_tree.specs.Tree.{Entry, Tree}
use Rattle.pt_plan.specs.Carried.{Carried, after_all, all_carried, carried_by, carried_by_outcome, folder_where, is_on_the_way, is_taken, with_objects}
use Rattle.pt_plan.specs.Items.{Fails, Holds, Interior, Item, Named, Outcome, PairtreeObject, Skip, Verdict, is_ours, outcome}
use Rattle.pt_plan.specs.Job.{Job}
use Rattle.pt_plan.specs.ShareLaws.{
  Divide,
  FolderSharesLeaveTheWhole,
  FolderSharesMeetInFolders,
  IsOneOf,
  KnowsAll,
  NoTwoHaveOnePlace,
  by_folders,
  is_known,
  of_folders,
  with_share,
}
use Rattle.pt_plan.proofs.OwnPlaces.{OwnIndexes, alone, made_of_share, own_indexes, own_places}
use Rattle.pt_plan.proofs.ShareNumbers.{number_within}
use Rattle.pt_plan.proofs.SharedItems.{bare_items, divided_places, known_in, whole_items}
use Rattle.pt_plan.proofs.SharedObjects.{carried_made, mine, of_share_are}
use Rattle.pt_plan.proofs.SharedRoots.{choices_leave_the_whole, choices_meet_in_folders, entries_same}

-- ---- the identifiers of some items

abbrev ids_of : Verdict → List (List ℕ)
ids_of Interior = []
ids_of (Skip why) = []
ids_of (Named id object) = id ∷ []

-- of those that pass a test
abbrev ids : (Item → Bool) → List Item → List (List ℕ)
ids own [] = []
ids own (item ∷ its) = cond (own item) (ids_of item.verdict) [] ++ ids own its

-- one of the items has this identifier, and passes the test
record Holder (own : Item → Bool) (its : List Item) (id : List ℕ) : Type 0 where
  place : ℕ
  item : Item
  object : PairtreeObject
  is : slice_get its place ≡ Some item
  named : item.verdict ≡ Named id object
  passes : own item ≡ true

later : {own : Item → Bool} {its : List Item} {id : List ℕ} (first : Item) → Holder own its id → Holder own (first ∷ its) id
later first it = record { place = suc it.place; item = it.item; object = it.object; is = it.is; named = it.named; passes = it.passes }

first_holds : (own : Item → Bool) (item : Item) (its : List Item) (id : List ℕ) → is_listed (cond (own item) (ids_of item.verdict) []) id ≡ true
    → Holder own (item ∷ its) id
first_holds own item its id listed = by (own item) item.verdict refl refl listed
  where
    alike : (b : Bool) (i : List ℕ) → bytes_eq i id ≡ b → (b || false) ≡ true → i ≡ id
    alike true i is h = (bytes_eq-Decides i id).0 is
    alike false i is h = absurd (cc)

    by : (b : Bool) (v : Verdict) → own item ≡ b → item.verdict ≡ v → is_listed (cond b (ids_of v) []) id ≡ true → Holder own (item ∷ its) id
    by false v passes is h = absurd (cc)
    by true Interior passes is h = absurd (cc)
    by true (Skip why) passes is h = absurd (cc)
    by true (Named i object) passes is h = record {
      place = 0;
      item = item;
      object = object;
      is = refl;
      named = is ∙ ap (λ (j : List ℕ). Named j object) (alike (bytes_eq i id) i refl h);
      passes = passes;
    }

find_holder : (own : Item → Bool) (its : List Item) (id : List ℕ) → is_listed (ids own its) id ≡ true → Holder own its id
find_holder own [] id listed = absurd (cc)
find_holder own (item ∷ its) id listed =
    by (is_listed (cond (own item) (ids_of item.verdict) []) id) refl
    (sym (list_any-append (λ listed. bytes_eq listed id) (cond (own item) (ids_of item.verdict) []) (ids own its)) ∙ listed)
    (λ listed_later. find_holder own its id listed_later)
  where
    by : (b : Bool) → is_listed (cond (own item) (ids_of item.verdict) []) id ≡ b → (b || is_listed (ids own its) id) ≡ true
        → (is_listed (ids own its) id ≡ true → Holder own its id) → Holder own (item ∷ its) id
    by true here h on = first_holds own item its id here
    by false here h on = later item (on h)

is_held : (own : Item → Bool) (its : List Item) (k : ℕ) (item : Item) (id : List ℕ) (object : PairtreeObject) → slice_get its k ≡ Some item
    → item.verdict ≡ Named id object → own item ≡ true → is_listed (ids own its) id ≡ true
is_held own [] k item id object is named passes = absurd (cc)
is_held own (first ∷ its) zero item id object is named passes =
    let same : first ≡ item = cc in
    list_any-append (λ listed. bytes_eq listed id) (cond (own first) (ids_of first.verdict) []) (ids own its)
    ∙ ap (λ b. is_listed (cond b (ids_of first.verdict) []) id || is_listed (ids own its) id) (ap own same ∙ passes)
    ∙ ap (λ (v : Verdict). is_listed (ids_of v) id || is_listed (ids own its) id) (ap (λ (i : Item). i.verdict) same ∙ named)
    ∙ ap (λ b. (b || false) || is_listed (ids own its) id) (name_itself id)
is_held own (first ∷ its) (suc k) item id object is named passes =
    list_any-append (λ listed. bytes_eq listed id) (cond (own first) (ids_of first.verdict) []) (ids own its)
    ∙ ap (λ b. is_listed (cond (own first) (ids_of first.verdict) []) id || b) (is_held own its k item id object is named passes)
    ∙ or_true (is_listed (cond (own first) (ids_of first.verdict) []) id)
  where
    or_true : (b : Bool) → (b || true) ≡ true
    or_true true = refl
    or_true false = refl

-- ---- a choice of these

abbrev listing : List (List ℕ) → Portion
listing all = record whole { list = Some all }

holds_listed : (all : List (List ℕ)) (id : List ℕ) → holds (listing all) id ≡ is_listed all id
holds_listed all id = ap (λ b. (is_listed all id || false) && b) (eq-eqb (share_number 1 id) 1 (whole_number id)) ∙ by (is_listed all id)
  where
    by : (b : Bool) → ((b || false) && true) ≡ b
    by true = refl
    by false = refl

same_item : (its : List Item) {k l : ℕ} {a b : Item} → slice_get its k ≡ Some a → slice_get its l ≡ Some b → k ≡ l → a ≡ b
same_item its {k} {l} {a} {b} is also same =
    let one : Some a ≡ Some b = sym is ∙ ap (slice_get its) same ∙ also in
    cc

-- it chooses just the items that pass the test
chooses : (job : Job) (its : List Item) (own : Item → Bool) → OwnIndexes job its → (k : ℕ) (item : Item) (id : List ℕ) (object : PairtreeObject)
    → slice_get its k ≡ Some item → item.verdict ≡ Named id object → holds (listing (ids own its)) id ≡ own item
unfolding OwnIndexes
chooses job its own indexes k item id object is named = holds_listed (ids own its) id ∙ by (own item) (is_listed (ids own its) id) refl refl
  where
    by : (b l : Bool) → own item ≡ b → is_listed (ids own its) id ≡ l → l ≡ b
    by true true passes listed = refl
    by false false passes listed = refl
    by true false passes listed = absurd (false≢true (sym listed ∙ is_held own its k item id object is named passes))
    by false true passes listed =
        let it = find_holder own its id listed in
        let one = indexes it.place k it.item item id id it.object object it.is is it.named named refl in
        absurd (false≢true (sym passes ∙ ap own (sym (same_item its it.is is one)) ∙ it.passes))

-- ---- what is carried

module _ (job : Job) (root : Tree) (choice : Portion) (own : Item → Bool) where
  abbrev carried_alone : Item → List Carried
  carried_alone item = carried_by job (is_taken job root [] item.verdict) item.verdict

  nothing : (b : Bool) → ◌≡◌ {A = List Carried} (cond b [] []) []
  nothing true = refl
  nothing false = refl

  one_chosen : (b taken : Bool) (v : Verdict) → ((id : List ℕ) (object : PairtreeObject) → v ≡ Named id object → holds choice id ≡ b)
      → cond b (carried_by job taken v) [] ≡ mine choice (carried_by job taken v)
  one_chosen b taken Interior agrees = nothing b
  one_chosen b taken (Skip why) agrees = nothing b
  one_chosen b taken (Named id object) agrees =
      ap (λ c. cond c (carried_by job taken (Named id object)) []) (sym (agrees id object refl)) ∙ by taken (outcome job.limits object)
    where
      by : (t : Bool) (comes : Outcome) → cond (holds choice id) (cond t [] (carried_by_outcome id comes)) []
          ≡ mine choice (cond t [] (carried_by_outcome id comes))
      by true comes = nothing (holds choice id)
      by false (Fails why) = nothing (holds choice id)
      by false (Holds files) = refl

  all_chosen : (its : List Item) → ((k : ℕ) (item : Item) (id : List ℕ) (object : PairtreeObject) → slice_get its k ≡ Some item
      → item.verdict ≡ Named id object → holds choice id ≡ own item)
      → flat_map (λ (item : Item). cond (own item) (carried_alone item) []) its ≡ mine choice (flat_map carried_alone its)
  all_chosen [] agrees = refl
  all_chosen (item ∷ its) agrees =
      (λ k. one_chosen (own item) (is_taken job root [] item.verdict) item.verdict (λ id object named. agrees 0 item id object refl named) k
      ++ all_chosen its (λ k other id object is named. agrees (suc k) other id object is named) k)
      ∙ sym (filter-append (λ (o : Carried). holds choice o.id) (carried_alone item) (flat_map carried_alone its))

-- ---- the choices

module _ (job : Job) (source : Forest) (depth count : ℕ) (none : NoTwoHaveOnePlace job source) where
  abbrev its : List Item
  its = bare_items job source

  abbrev own_of : ℕ → Item → Bool
  own_of index item = is_ours (by_folders depth count index) item.path item.verdict

  abbrev choice_of : ℕ → Portion
  choice_of index = listing (ids (own_of index) its)

  abbrev known : List ℕ → Bool
  known id = is_listed (ids (λ item. true) its) id

  abbrev number_at : Path → ℕ
  number_at path = share_number count (way_text depth path)

  own_number : (index : ℕ) (path : Path) (v : Verdict) (id : List ℕ) (object : PairtreeObject) → v ≡ Named id object
      → is_ours (by_folders depth count index) path v ≡ (number_at path == index)
  own_number index path v id object named = ap (is_ours (by_folders depth count index) path) named

  divide : 1 ≤ count → Divide job.tuples known count choice_of
  unfolding OwnIndexes
  divide some = record {
    identifiers = λ index one. refl;
    one = λ id passes.
        let it = find_holder (λ item. true) its id passes in
        let n = number_at it.item.path in (
          n,
          record { first = omega arith; last = number_within (way_text depth it.item.path) some },
          holds_listed (ids (own_of n) its) id ∙ is_held (own_of n) its it.place it.item id it.object it.is it.named
              (own_number n it.item.path it.item.verdict id it.object it.named ∙ eq-eqb n n refl),
        );
    apart = λ index other a b one its_one t u held also same.
        let it = find_holder (own_of index) its a (sym (holds_listed (ids (own_of index) its) a) ∙ held) in
        let theirs = find_holder (own_of other) its b (sym (holds_listed (ids (own_of other) its) b) ∙ also) in
        let at = own_indexes job source none it.place theirs.place it.item theirs.item a b it.object theirs.object it.is theirs.is it.named theirs.named same in
        let path = ap (λ (i : Item). i.path) (same_item its it.is theirs.is at) in
        sym (eqb-true (number_at it.item.path) index (sym (own_number index it.item.path it.item.verdict a it.object it.named) ∙ it.passes))
        ∙ ap number_at path
        ∙ eqb-true (number_at theirs.item.path) other (sym (own_number other theirs.item.path theirs.item.verdict b theirs.object theirs.named)
        ∙ theirs.passes);
  }

  all_by_index : (p : Item → Bool) (some : List Item) → ((k : ℕ) (item : Item) → slice_get some k ≡ Some item → p item ≡ true) → list_all p some ≡ true
  all_by_index p [] each = refl
  all_by_index p (item ∷ some) each = and_from _ _ (each 0 item refl) (all_by_index p some (λ k other is. each (suc k) other is))

  knows : KnowsAll known job source
  knows = ap (list_all (λ (item : Item). is_known known item.verdict)) (whole_items job source)
      ∙ all_by_index (λ (item : Item). is_known known item.verdict) its (λ k item is. by k item is item.verdict refl)
    where
      by : (k : ℕ) (item : Item) → slice_get its k ≡ Some item → (v : Verdict) → item.verdict ≡ v → is_known known v ≡ true
      by k item is Interior named = refl
      by k item is (Skip why) named = refl
      by k item is (Named id object) named = is_held (λ item. true) its k item id object is named refl

  -- a share by folders carries what the choice does
  carried_alike : (root : Tree) (index : ℕ) → 1 ≤ count → IsOneOf count index
      → all_carried (of_folders job depth count index) source root ≡ all_carried (with_share job (choice_of index)) source root
  unfolding carried_made
  carried_alike root index some one =
      let own = own_places job source none in
      made_of_share job depth count index root (carried_made job (by_folders depth count index)) source own
      ∙ all_chosen job root (choice_of index) (own_of index) its
      (λ k item id object is named. chooses job its (own_of index) (own_indexes job source none) k item
      id object is named)
      ∙ sym (of_share_are job (divided_places (divide some) index one) source root (known_in known job source knows)
      ∙ ap (mine (choice_of index)) (alone job root (λ path taken v. carried_by job taken v) [] its own))

  root_alike : (root : Tree) (index : ℕ) (path : Path) → 1 ≤ count → IsOneOf count index
      → after_all (of_folders job depth count index) source root path ≡ after_all (with_share job (choice_of index)) source root path
  root_alike root index path some one =
      let objects = all_carried (with_share job (choice_of index)) source root in
      ap (λ (l : List Carried). with_objects (of_folders job depth count index) l (base job.tuples root) path) (carried_alike root index some one)
      ∙ ap (λ (o : Option Entry). option_or (base job.tuples root path) (option_or o (folder_where (is_on_the_way job objects path))))
      (entries_same job (by_folders depth count index) objects path ∙ sym (entries_same job (choice_of index) objects path))

pub folder_shares_leave_the_whole : FolderSharesLeaveTheWhole
folder_shares_leave_the_whole job source root depth count some none path entry =
    let both = choices_leave_the_whole job source root (known job source depth count none) count (choice_of job source depth count none) some
    (knows job source depth count none) (divide job source depth count none some) path entry in (
      λ is. let (index, one, at) = both.0 is in (index, one, root_alike job source depth count none root index path some one ∙ at),
      λ (index, one, is). both.1 (index, one, sym (root_alike job source depth count none root index path some one) ∙ is),
    )

pub folder_shares_meet_in_folders : FolderSharesMeetInFolders
folder_shares_meet_in_folders job source root depth count index other path entry there none one its apart is also =
    let first = one.first in
    let last = one.last in
    let some : 1 ≤ count = omega (arith, first, last) in
    choices_meet_in_folders job source root (known job source depth count none) count (choice_of job source depth count none)
    (knows job source depth count none) (divide job source depth count none some) index other path entry there one its apart
    (sym (root_alike job source depth count none root index path some one) ∙ is)
    (sym (root_alike job source depth count none root other path some its) ∙ also)

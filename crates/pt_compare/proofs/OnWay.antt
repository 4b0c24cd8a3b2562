-- The folders on the way to a content, and the contents, one after another.
use Rattle.std.proofs.Common.{
  ◌≡◌,
  ◌∙◌,
  ◌+◌,
  ◌<◌,
  ◌≤◌,
  ℕ,
  zero,
  suc,
  List,
  [],
  ◌∷◌,
  ◌++◌,
  Bool,
  true,
  false,
  refl,
  sym,
  ap,
  subst,
  cond,
  not,
  arith,
  take,
  drop,
  length,
  add-one,
}
use Rattle.std.specs.Prelude.{All, IsErrAnd, IsSome, Option, None, Some, Ok, Err, filter, map, slice_get}
use Rattle.std.proofs.lemmas.List.{drop_all}
use Rattle.std.proofs.lemmas.List.Elements.{All-head, All-tail}
use Rattle.pt_compare.specs.Marks.{Marks}
use Rattle.pt_compare.specs.Meeting.{MeetsFrom, MeetsIn}
use Rattle.pt_folder.specs.Calls.{change_of}
use Rattle.pt_object.specs.Object.{in_content}
use Rattle.pt_compare.specs.Parts.{content_items, files_of, fronts, leads_to_last, way_items}
use Rattle.pt_compare.specs.declared.stop.Stop.{Stop}
use Rattle.pt_compare.proofs.Going.{Answer, GoesFrom, GoesOn, from_end, from_met, from_stop, goes_end, met_anyhow}
use Rattle.pt_compare.proofs.Steps.{goes_items, stop_items}
use Rattle.pt_object.specs.Script.{Item, MakeFolder, MakeFile}
use Rattle.pt_object.specs.declared.table.contents.Content.{Content}
use Rattle.pt_tree.specs.Forest.{Forest, file_at}
use Rattle.pt_tree.specs.Path.{Path}
use Rattle.pt_tree.specs.Source.{CanOpen, Reading, tree_in}
use Rattle.pt_walk.specs.Left.{bytes_at}

drop_map : {A B : Type 0} (f : A → B) (k : ℕ) (xs : List A) → drop k (map f xs) ≡ map f (drop k xs)
drop_map f zero xs = refl
drop_map f (suc k) [] = refl
drop_map f (suc k) (x ∷ xs) = drop_map f k xs

fronts_at : (p : Path) (k : ℕ) → k < length p → drop k (fronts p) ≡ take k p ∷ drop (suc k) (fronts p)
fronts_at [] k less = absurd (omega (arith, less))
fronts_at (n ∷ p) zero less = refl
fronts_at (n ∷ p) (suc k) less =
    drop_map (λ front. n ∷ front) k (fronts p) ∙ ap (map (λ front. n ∷ front)) (fronts_at p k (omega (arith, less)))
    ∙ ap (λ (l : List Path). (n ∷ take k p) ∷ l) (sym (drop_map (λ front. n ∷ front) (suc k) (fronts p)))

fronts_next : (p : Path) (k : ℕ) → k < length p → drop k (fronts p) ≡ take k p ∷ drop (k + 1) (fronts p)
fronts_next p k less = fronts_at p k less ∙ ap (λ n. take k p ∷ drop n (fronts p)) (sym (add-one k))

length_fronts : (p : Path) → length (fronts p) ≡ length p
length_fronts [] = refl
length_fronts (n ∷ p) = ap suc (length_map (fronts p) ∙ length_fronts p)
  where
    length_map : (xs : List Path) → length (map (λ front. n ∷ front) xs) ≡ length xs
    length_map [] = refl
    length_map (x ∷ xs) = ap suc (length_map xs)

way_next : (last : Option Path) (p : Path) (k : ℕ) → k < length p
    → way_items last (drop k (fronts p)) ≡ cond (not (leads_to_last last (in_content (take k p)))) (MakeFolder (in_content (take k p))
    ∷ way_items last (drop (k + 1) (fronts p))) (way_items last (drop (k + 1) (fronts p)))
way_next last p k less = ap (way_items last) (fronts_next p k less) ∙ on (leads_to_last last (in_content (take k p)))
  where
    on : (b : Bool) → map MakeFolder (cond (not b) (in_content (take k p) ∷ filter (λ folder. not (leads_to_last last folder))
        (map in_content (drop (k + 1) (fronts p)))) (filter (λ folder. not (leads_to_last last folder)) (map in_content (drop (k + 1) (fronts p)))))
        ≡ cond (not b) (MakeFolder (in_content (take k p)) ∷ way_items last (drop (k + 1) (fronts p))) (way_items last (drop (k + 1) (fronts p)))
    on true = refl
    on false = refl

module _ (tree : Option Forest) (place : Path) (last : Option Path) (p : Path) (k : ℕ) (less : k < length p) (old now : Marks)
    (goes : GoesOn tree place (way_items last (drop k (fronts p))) now (way_items last (fronts p)) old) where
  way : Bool → List Item
  way b = cond (not b) (MakeFolder (in_content (take k p)) ∷ way_items last (drop (k + 1) (fronts p))) (way_items last (drop (k + 1) (fronts p)))

  goes_to : (b : Bool) → b ≡ leads_to_last last (in_content (take k p))
      → GoesOn tree place (cond (not b) (MakeFolder (in_content (take k p)) ∷ way_items last (drop (k + 1) (fronts p)))
      (way_items last (drop (k + 1) (fronts p)))) now (way_items last (fronts p)) old
  goes_to b is = subst (λ (l : List Item). GoesOn tree place l now (way_items last (fronts p)) old)
      (way_next last p k less ∙ ap (λ b. cond (not b) (MakeFolder (in_content (take k p)) ∷ way_items last (drop (k + 1) (fronts p)))
      (way_items last (drop (k + 1) (fronts p)))) (sym is)) goes

  -- a folder that stands already is passed
  pub way_passed : true ≡ leads_to_last last (in_content (take k p)) → GoesOn tree place (way_items last (drop (k + 1) (fronts p))) now
      (way_items last (fronts p)) old
  way_passed is = goes_to true is

  module _ (folder : Path) (at : folder ≡ in_content (take k p)) (next : Option Forest) (same : next ≡ tree) (new_one : false ≡ leads_to_last last folder) where
    -- another is met
    pub way_met : (after : Marks) (u : Unit {0}) → MeetsIn next place (MakeFolder folder ∷ []) now after (Ok u)
        → GoesOn tree place (way_items last (drop (k + 1) (fronts p))) after (way_items last (fronts p)) old
    way_met after u met = goes_items tree next place (MakeFolder folder ∷ []) (MakeFolder (in_content (take k p)) ∷ [])
        (way_items last (drop (k + 1) (fronts p))) (way_items last (fronts p)) old now after u (λ i. MakeFolder (at i) ∷ []) same
        (goes_to false (new_one ∙ ap (leads_to_last last) at)) met

    -- or stops it
    pub way_stops : (after new : Marks) (e : Stop) (answer : Answer) → IsErrAnd answer (λ f. f ≡ e)
        → MeetsIn {T = Unit {0}} next place (MakeFolder folder ∷ []) now after (Err e) → MeetsIn tree place (way_items last (fronts p)) old new answer
    way_stops after new e answer is met = stop_items tree next place (MakeFolder folder ∷ []) (MakeFolder (in_content (take k p)) ∷ [])
        (way_items last (drop (k + 1) (fronts p))) (way_items last (fronts p)) old now after new e answer is (λ i. MakeFolder (at i) ∷ []) same
        (goes_to false (new_one ∙ ap (leads_to_last last) at)) met

-- all of them were met
pub way_ended : (tree : Option Forest) (place : Path) (last : Option Path) (p : Path) (k : ℕ) (old now : Marks) (r : Answer) → r ≡ Ok tt → length p ≤ k
    → GoesOn tree place (way_items last (drop k (fronts p))) now (way_items last (fronts p)) old → MeetsIn tree place (way_items last (fronts p)) old now r
way_ended tree place last p k old now r is past goes =
    let none : drop k (fronts p) ≡ [] = drop_all k (fronts p) (omega (arith, past, length_fronts p)) in
    goes_end tree place (way_items last (fronts p)) old now r is (subst (λ (l : List Path). GoesOn tree place (way_items last l) now (way_items last (fronts p))
    old) none goes)

-- ---- contents

contents_at : (i : ℕ) (contents : List Content) (content : Content) → slice_get contents i ≡ Some content → drop i contents ≡ content ∷ drop (suc i) contents
contents_at i [] content is = absurd (cc)
contents_at zero (x ∷ contents) content is = let same : x ≡ content = cc in ap (λ (c : Content). c ∷ contents) same
contents_at (suc i) (x ∷ contents) content is = contents_at i contents content is

contents_next : (i : ℕ) (contents : List Content) (content : Content) → slice_get contents i ≡ Some content → drop i contents ≡ content ∷ drop (i + 1) contents
contents_next i contents content is = contents_at i contents content is ∙ ap (λ n. content ∷ drop n contents) (sym (add-one i))

pub one_of_all : (P : Content → Type 0) (i : ℕ) (contents : List Content) (content : Content) → slice_get contents i ≡ Some content → All P contents → P content
one_of_all P i [] content is all = absurd (cc)
one_of_all P zero (x ∷ contents) content is all = let same : x ≡ content = cc in subst P same (All-head P x contents all)
one_of_all P (suc i) (x ∷ contents) content is all = one_of_all P i contents content is (All-tail P x contents all)

-- what may be opened may be opened still, where the tree is the same
pub can_still : (old new : Option Reading) (p : Path) → tree_in new ≡ tree_in old → CanOpen old p → CanOpen new p
unfolding CanOpen
can_still old None p same can = λ s is. absurd (cc)
can_still None (Some r) p same can = absurd (cc)
can_still (Some q) (Some r) p same can = λ s is.
    let one : q.tree ≡ r.tree = let e = same in cc in
    let two : r ≡ s = cc in
    subst (λ (g : Forest). IsSome (file_at g p)) (one ∙ ap (λ (s : Reading). s.tree) two) (can q refl)

abbrev pub items_from : Path → Option Path → List Content → Forest → List Item
items_from from last contents s = content_items last (files_of s from contents)

module _ (src tree : Option Forest) (place from : Path) (all : List Content) (i : ℕ) (content : Content) (is : slice_get all i ≡ Some content)
    (last : Option Path) (old now : Marks)
    (goes : GoesFrom src tree place (items_from from last (drop i all)) now (items_from from None all) old) where
  rest : Forest → List Item
  rest s = content_items (Some (in_content content.path)) (files_of s from (drop (i + 1) all))

  goes_here : GoesFrom src tree place (λ s. way_items last (fronts content.path) ++ MakeFile (in_content content.path) (bytes_at s (from ++ content.path))
      ∷ items_from from (Some (in_content content.path)) (drop (i + 1) all) s) now (items_from from None all) old
  goes_here = subst (λ (l : List Content). GoesFrom src tree place (items_from from last l) now (items_from from None all) old) (contents_next i all content is)
      goes

  -- something on the way to a content stops it
  pub content_way_stops : (next : Option Forest) (after new : Marks) (e : Stop) (answer : Answer) → next ≡ tree → IsErrAnd answer (λ f. f ≡ e)
      → MeetsIn {T = Unit {0}} next place (way_items last (fronts content.path)) now after (Err e)
      → MeetsFrom src tree place (items_from from None all) (change_of old new) answer
  content_way_stops next after new e answer same at met =
      from_stop src tree place (λ s. way_items last (fronts content.path)) (λ s. MakeFile (in_content content.path) (bytes_at s (from ++ content.path))
      ∷ items_from from (Some (in_content content.path)) (drop (i + 1) all) s) (items_from from None all) old now after new (Err e) e answer refl at
      goes_here
      (met_anyhow src tree place (way_items last (fronts content.path)) now after (Err e)
      (subst (λ (t : Option Forest). MeetsIn {T = Unit {0}} t place (way_items last (fronts content.path)) now after (Err e)) same met))

  module _ (next : Option Forest) (mid : Marks) (u : Unit {0}) (same : next ≡ tree)
      (way_is : MeetsIn next place (way_items last (fronts content.path)) now mid (Ok u)) where
    goes_file : GoesFrom src tree place (λ s. (MakeFile (in_content content.path) (bytes_at s (from ++ content.path)) ∷ [])
        ++ items_from from (Some (in_content content.path)) (drop (i + 1) all) s) mid (items_from from None all) old
    goes_file =
        from_met src tree place (λ s. way_items last (fronts content.path)) (λ s. MakeFile (in_content content.path) (bytes_at s (from ++ content.path))
        ∷ items_from from (Some (in_content content.path)) (drop (i + 1) all) s) (items_from from None all) old now mid (Ok u) u refl goes_here
        (met_anyhow src tree place (way_items last (fronts content.path)) now mid (Ok u)
        (subst (λ (t : Option Forest). MeetsIn {T = Unit {0}} t place (way_items last (fronts content.path)) now mid (Ok u)) same way_is))

    module _ (src_next tree_next : Option Forest) (path file : Path) (src_same : src_next ≡ src) (tree_same : tree_next ≡ tree) (path_is : path
        ≡ in_content content.path) (file_is : file ≡ from ++ content.path) (after : Marks) where
      moved : (r : Answer) → MeetsFrom src_next tree_next place (λ s. MakeFile path (bytes_at s file) ∷ []) (change_of mid after) r
          → MeetsFrom src tree place (λ s. MakeFile (in_content content.path) (bytes_at s (from ++ content.path)) ∷ []) (change_of mid after) r
      moved r met =
          subst (λ (t : Option Forest). MeetsFrom {T = Unit {0}} t tree place (λ s. MakeFile (in_content content.path) (bytes_at s (from ++ content.path)) ∷ [])
          (change_of mid after) r) src_same
          (subst (λ (t : Option Forest). MeetsFrom {T = Unit {0}} src_next t place (λ s. MakeFile (in_content content.path) (bytes_at s (from ++ content.path))
          ∷ []) (change_of mid after) r) tree_same
          (subst (λ (q : Path). MeetsFrom {T = Unit {0}} src_next tree_next place (λ s. MakeFile q (bytes_at s (from ++ content.path)) ∷ [])
          (change_of mid after) r) path_is
          (subst (λ (q : Path). MeetsFrom {T = Unit {0}} src_next tree_next place (λ s. MakeFile path (bytes_at s q) ∷ []) (change_of mid after) r) file_is
          met)))

      -- the content is met
      pub content_met : (v : Unit {0}) → MeetsFrom src_next tree_next place (λ s. MakeFile path (bytes_at s file) ∷ []) (change_of mid after) (Ok v)
          → GoesFrom src tree place (items_from from (Some path) (drop (i + 1) all)) after (items_from from None all) old
      content_met v met =
          subst (λ (q : Path). GoesFrom src tree place (items_from from (Some q) (drop (i + 1) all)) after (items_from from None all) old) (sym path_is)
          (from_met src tree place (λ s. MakeFile (in_content content.path) (bytes_at s (from ++ content.path)) ∷ [])
          (items_from from (Some (in_content content.path)) (drop (i + 1) all)) (items_from from None all) old mid after (Ok v) v refl goes_file
          (moved (Ok v) met))

      -- or stops it
      pub content_stops : (new : Marks) (e : Stop) (answer : Answer) → IsErrAnd answer (λ f. f ≡ e)
          → MeetsFrom {T = Unit {0}} src_next tree_next place (λ s. MakeFile path (bytes_at s file) ∷ []) (change_of mid after) (Err e)
          → MeetsFrom src tree place (items_from from None all) (change_of old new) answer
      content_stops new e answer at met =
          from_stop src tree place (λ s. MakeFile (in_content content.path) (bytes_at s (from ++ content.path)) ∷ [])
          (items_from from (Some (in_content content.path)) (drop (i + 1) all)) (items_from from None all) old mid after new (Err e) e answer refl at
          goes_file (moved (Err e) met)

pub contents_ended : (src tree : Option Forest) (place from : Path) (all : List Content) (i : ℕ) (last : Option Path) (old now : Marks) (r : Answer) → r ≡ Ok tt
    → drop i all ≡ [] → GoesFrom src tree place (items_from from last (drop i all)) now (items_from from None all) old
    → MeetsFrom src tree place (items_from from None all) (change_of old now) r
contents_ended src tree place from all i last old now r is none goes =
    from_end src tree place (items_from from None all) old now r is (subst
    (λ (l : List Content). GoesFrom src tree place (items_from from last l) now (items_from from None all) old) none goes)

pub ended_at : (i : ℕ) (all : List Content) → length all ≤ i → drop i all ≡ []
ended_at i all past = drop_all i all past

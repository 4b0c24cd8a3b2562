-- How what a run carries and tells grows, item by item.
use Rattle.std.proofs.Common.{◌≡◌, ℕ, zero, suc, List, [], ◌∷◌, ◌++◌, length, refl, ◌∙◌, ap, sym, append_assoc, take, Bool, true, false, inl, inr}
use Rattle.std.specs.Prelude.{◌⊎◌, None, Some, Option, Some, flat_map, slice_get}
use Rattle.std.specs.Option.{option_map, option_or}
use Rattle.std.proofs.lemmas.List.{take_all}
use Rattle.std.proofs.lemmas.Grind.{flat_map-append}
use Rattle.pt_object.specs.Root.{base}
use Rattle.pt_tree.specs.Tree.{Entry, Tree}
use Rattle.pt_plan.specs.Carried.{
  entry_of_objects,
  folder_where,
  is_on_the_way,
  Carried,
  Marked,
  all_carried,
  carried,
  carried_among,
  carried_by,
  carried_by_outcome,
  is_taken,
  marked,
  marked_after,
  with_objects,
}
use Rattle.pt_plan.specs.ItemLaws.{BeginsWithTheBase, WhatStandsStays, AllItemsAreAll, CarriedGrows, IsTakenAgainstEarlier, TextGrows}
use Rattle.pt_plan.specs.Items.{Fails, Holds, Interior, Item, Named, Outcome, Skip, Verdict, items, outcome}
use Rattle.pt_plan.specs.Job.{Job}
use Rattle.pt_plan.specs.Lines.{Line, all_lines, end_line, line_of, line_text, lines}

pub append_nil : {X : Type 0} → (xs : List X) → xs ++ [] ≡ xs
append_nil [] = refl
append_nil (x ∷ xs) = ap (λ ys. x ∷ ys) (append_nil xs)

abbrev mark : Job → Tree → List Item → Item → Marked
mark job root before item = (item, is_taken job root before item.verdict)

mark_at : (job : Job) (root : Tree) (earlier others : List Item) (k : ℕ)
    → slice_get (marked_after job root earlier others) k ≡ option_map (mark job root (earlier ++ take k others)) (slice_get others k)
mark_at _ _ _ [] _ = refl
mark_at job root earlier (item ∷ _) zero = ap (λ (before : List Item). Some (mark job root before item)) (sym (append_nil earlier))
mark_at job root earlier (item ∷ others) (suc k) =
    mark_at job root (earlier ++ item ∷ []) others k
    ∙ ap (λ (before : List Item). option_map (mark job root before) (slice_get others k)) (append_assoc earlier (item ∷ []) (take k others))

pub taken_against_earlier : IsTakenAgainstEarlier
taken_against_earlier job source root k = mark_at job root [] (items job source) k

-- of a list with one element more
one_more : {X Y : Type 0} → (f : X → List Y) (k : ℕ) (xs : List X) {x : X} → slice_get xs k ≡ Some x
    → flat_map f (take (suc k) xs) ≡ flat_map f (take k xs) ++ f x
one_more f k [] h = absurd (cc)
one_more f zero (y ∷ xs) {x} h = append_nil (f y) ∙ ap f (some_is y x h)
  where
    some_is : {A : Type 0} → (a b : A) → Some a ≡ Some b → a ≡ b
    some_is a b e = cc
one_more f (suc k) (y ∷ xs) {x} h = ap (λ l. f y ++ l) (one_more f k xs h) ∙ sym (append_assoc (f y) (flat_map f (take k xs)) (f x))

-- an item's object is carried, or none is
pub one_or_none : (job : Job) (taken : Bool) (verdict : Verdict) → (carried_by job taken verdict ≡ [])
    ⊎ ((object : Carried) × (carried_by job taken verdict ≡ object ∷ []))
one_or_none _ _ Interior = inl refl
one_or_none _ _ (Skip _) = inl refl
one_or_none _ true (Named _ _) = inl refl
one_or_none job false (Named id object) = by (outcome job.limits object)
  where
    by : (o : Outcome) → (carried_by_outcome id o ≡ []) ⊎ ((object : Carried) × (carried_by_outcome id o ≡ object ∷ []))
    by (Fails why) = inl refl
    by (Holds files) = inr (record { id = id; files = files }, refl)

-- behind the last element there is none more
pub none_more : {X : Type 0} → (xs : List X) (k : ℕ) → slice_get xs k ≡ None → take (suc k) xs ≡ take k xs
none_more [] zero _ = refl
none_more [] (suc _) _ = refl
none_more (x ∷ xs) zero none = absurd (cc)
none_more {X = X} (x ∷ xs) (suc k) none = ap (λ (l : List X). x ∷ l) (none_more xs k none)

pub carried_grows : CarriedGrows
carried_grows job source root k m h = one_more (λ (m : Marked). carried_by job m.1 m.0.verdict) k (marked job source root) h

pub text_grows : TextGrows
text_grows job source root k m h =
    let more : lines job source root (suc k) ≡ lines job source root k ++ line_of job m = one_more (line_of job) k (marked job source root) h in
    (more, ap (flat_map line_text) more ∙ flat_map-append line_text (lines job source root k) (line_of job m))

as_many : (job : Job) (root : Tree) (earlier others : List Item) → length (marked_after job root earlier others) ≡ length others
as_many _ _ _ [] = refl
as_many job root earlier (item ∷ others) = ap (λ n. suc n) (as_many job root (earlier ++ item ∷ []) others)

pub all_items_are_all : AllItemsAreAll
all_items_are_all job source root k h =
    let all : take k (marked job source root) ≡ marked job source root =
    take_all k (marked job source root) (rw (as_many job root [] (items job source)) h) in
    let objects : carried_among job source root k ≡ all_carried job source root = ap (carried job) all in
    let told : lines job source root k ≡ all_lines job source root = ap (flat_map (line_of job)) all in (
      objects,
      ap (λ (l : List Carried). with_objects job l (base job.tuples root)) objects,
      told,
      ap (λ (l : List Line). flat_map line_text l
          ++ line_text (end_line l)) (sym told),
    )

or_nothing : (here : Option Entry) → option_or here None ≡ here
or_nothing None = refl
or_nothing (Some _) = refl

pub begins_with_the_base : BeginsWithTheBase
begins_with_the_base job _ root = λ i path. or_nothing (base job.tuples root path) i

pub what_stands_stays : WhatStandsStays
what_stands_stays job source root k path _ h =
    ap (λ (here : Option Entry). option_or here (option_or (entry_of_objects job (carried_among job source root k) path)
    (folder_where (is_on_the_way job (carried_among job source root k) path)))) h

-- What a log may hold after some items: their lines, and some of what comes next.
use Rattle.std.proofs.Common.{
  inl,
  inr,
  ◌≡◌,
  ◌≤◌,
  ◌==◌,
  ℕ,
  zero,
  suc,
  Bool,
  true,
  false,
  List,
  [],
  ◌∷◌,
  ◌++◌,
  refl,
  ap,
  sym,
  ◌∙◌,
  append-nil,
  append_assoc,
  arith,
  cond,
  length,
}
use Rattle.std.specs.Prelude.{Option, None, Some, flat_map, is_some, slice_get, take}
use Rattle.std.specs.Option.{option_map}
use Rattle.std.proofs.lemmas.Bool.{and_parts, cases_lt, eq-eqb, eqb-true}
use Rattle.std.proofs.lemmas.List.{length-map}
use Rattle.pt_tree.specs.Forest.{Forest, dir_at, file_at}
use Rattle.pt_tree.specs.Tree.{Tree}
use Rattle.pt_walk.specs.Sites.{Reach, sites_in}
use Rattle.pt_plan.proofs.Growing.{all_items_are_all, taken_against_earlier, text_grows}
use Rattle.pt_plan.specs.Carried.{Marked, after, is_taken, marked}
use Rattle.pt_plan.specs.Faults.{BeginsWith, IsLogAfter, most_told}
use Rattle.pt_plan.specs.Items.{Item, item_of, items}
use Rattle.pt_plan.specs.Job.{Job, reach_of}
use Rattle.pt_plan.specs.Lines.{end_line, line_of, line_text, lines, log_of, text}
use Rattle.pt_plan.specs.Store.{is_store, pairtree_root, prefix_of, sites_in_root, sites_of, version_file}
use Rattle.pt_invariant.proofs.items.ItemLines.{mark_of}

-- ---- the items that there are

pub get_within : {X : Type 0} → (xs : List X) (k : ℕ) {x : X} → slice_get xs k ≡ Some x → suc k ≤ length xs
get_within [] k is = absurd (cc)
get_within (y ∷ xs) zero is = omega arith
get_within (y ∷ xs) (suc k) is = let later = get_within xs k is in omega (arith, later)

there_is : {X : Type 0} → (xs : List X) (k : ℕ) → suc k ≤ length xs → (x : X) × (slice_get xs k ≡ Some x)
there_is [] k within = absurd (omega (arith, within))
there_is (y ∷ _) zero _ = (y, refl)
there_is (y ∷ xs) (suc k) within = there_is xs k (omega (arith, within))

some_before : {X Y : Type 0} → (f : X → Y) (o : Option X) {y : Y} → option_map f o ≡ Some y → (x : X) × (o ≡ Some x)
some_before f None is = absurd (cc)
some_before _ (Some x) _ = (x, refl)

-- an item that is marked is one of the items
pub marked_within : (job : Job) (source : Forest) (root : Tree) {k : ℕ} {m : Marked} → slice_get (marked job source root) k ≡ Some m
    → suc k ≤ length (items job source)
marked_within job source root {k} is =
    let it = some_before (λ (item : Item). (item, is_taken job root (take k (items job source)) item.verdict)) (slice_get (items job source) k)
    (sym (taken_against_earlier job source root k) ∙ is) in
    get_within (items job source) k it.1

pub marked_at : (job : Job) (source : Forest) (root : Tree) {k : ℕ} → suc k ≤ length (items job source)
    → (m : Marked) × (slice_get (marked job source root) k ≡ Some m)
marked_at job source root {k} within =
    let it = there_is (items job source) k within in
    ((it.0, is_taken job root (take k (items job source)) it.0.verdict), mark_of job source root k it.1)

-- ---- the most that is told

most_begins : (job : Job) (source : Forest) (root : Tree) (k : ℕ) → BeginsWith (text job source root k) (most_told job source root k)
most_begins job source root k = by (length (items job source) == k) refl
  where
    by : (b : Bool) → (length (items job source) == k) ≡ b → BeginsWith (text job source root k) (cond b (log_of job source root) (text job source root k))
    by true is =
        let n = length (items job source) in
        (line_text (end_line (lines job source root k)), (all_items_are_all job source root k (let same = eqb-true n k is in omega (arith, same))).3)
    by false is = ([], sym (append-nil (text job source root k)))

all_told : (job : Job) (source : Forest) (root : Tree) {k : ℕ} → length (items job source) ≡ k → most_told job source root k ≡ log_of job source root
all_told job source root {k} is = ap (λ b. cond b (log_of job source root) (text job source root k)) (eq-eqb (length (items job source)) k is)

-- ---- after one item more

-- its line may be there in part
pub told_in_part : (job : Job) (source : Forest) (root : Tree) (k : ℕ) {m : Marked} (front rest : List ℕ) {log : List ℕ}
    → slice_get (marked job source root) k ≡ Some m → flat_map line_text (line_of job m) ≡ front ++ rest → log ≡ text job source root k ++ front
    → IsLogAfter job source root (suc k) log
told_in_part job source root k {m} front rest {log} is line told =
    let begins = most_begins job source root (suc k) in
    let grown : text job source root (suc k) ≡ log ++ rest =
    (text_grows job source root k m is).1 ∙ ap (λ l. text job source root k ++ l) line ∙ sym (append_assoc (text job source root k) front rest)
    ∙ ap (λ l. l ++ rest) (sym told) in
    ((front, told), (rest ++ begins.0, begins.1 ∙ ap (λ l. l ++ begins.0) grown ∙ append_assoc log rest begins.0))

-- before it is told
pub not_told : (job : Job) (source : Forest) (root : Tree) (k : ℕ) {m : Marked} {log : List ℕ} → slice_get (marked job source root) k ≡ Some m
    → log ≡ text job source root k → IsLogAfter job source root (suc k) log
not_told job source root k {m} is told = told_in_part job source root k [] (flat_map line_text (line_of job m)) is refl (told
    ∙ sym (append-nil (text job source root k)))

-- ---- between two items

pub told_so_far : (job : Job) (source : Forest) (root : Tree) (k : ℕ) → k ≤ length (items job source) → IsLogAfter job source root k (text job source root k)
told_so_far _ _ _ zero _ = refl
told_so_far job source root (suc k) within =
    let m = marked_at job source root within in
    told_in_part job source root k (flat_map line_text (line_of job m.0)) [] m.1 (sym (append-nil (flat_map line_text (line_of job m.0))))
    (text_grows job source root k m.0 m.1).1

-- so many items, or all if there are no more: the root after them and their lines are the same
pub record IsAsAfter (job : Job) (source : Forest) (root : Tree) (count : ℕ) : Type 0 where
  pub k : ℕ
  pub within : k ≤ length (items job source)
  pub root_is : after job source root k ≡ after job source root count
  pub text_is : text job source root k ≡ text job source root count

-- beyond the last item nothing is added
pub texts_alike : (job : Job) (source : Forest) (root : Tree) {a b : ℕ} → length (items job source) ≤ a → length (items job source) ≤ b
    → text job source root a ≡ text job source root b
texts_alike job source root {a} {b} above over =
    ap (flat_map line_text) ((all_items_are_all job source root a above).2 ∙ sym (all_items_are_all job source root b over).2)

pub as_after : (job : Job) (source : Forest) (root : Tree) (count : ℕ) → IsAsAfter job source root count
as_after job source root count = elim (cases_lt (length (items job source)) count) [
  | inl beyond ↦ (let over = beyond in
      record {
        k = length (items job source);
        within = omega arith;
        root_is = (all_items_are_all job source root (length (items job source)) (omega arith)).1
            ∙ sym (all_items_are_all job source root count (omega (arith, over))).1;
        text_is = texts_alike job source root (omega arith) (omega (arith, over));
      })
  | inr within ↦ record { k = count; within = within; root_is = refl; text_is = refl }
]

-- ---- a store has an item at least: its pairtree's directory

some_sites : (reach : Reach) (top : Option Forest) → is_some top ≡ true → (n : ℕ) × (length (sites_in_root reach top) ≡ suc n)
some_sites reach None is = absurd (cc)
some_sites reach (Some top) _ = (length (sites_in reach [] top), refl)

pub some_items : (job : Job) (source : Forest) → is_store source ≡ true → (n : ℕ) × (length (items job source) ≡ suc n)
some_items job source is =
    let top = dir_at source (pairtree_root ∷ []) in
    let it = some_sites (reach_of job) top (and_parts (is_some (file_at source (version_file ∷ []))) (is_some top) is).1 in
    (it.0, length-map (sites_of (reach_of job) source) (item_of job (prefix_of source)) ∙ it.1)

-- ---- at the end

-- where there is an item at all, the end line may be there in part
pub end_in_part : (job : Job) (source : Forest) (root : Tree) {k count : ℕ} (front rest : List ℕ) {log : List ℕ} → length (items job source) ≡ suc k
    → length (items job source) ≤ count
    → line_text (end_line (lines job source root count)) ≡ front ++ rest → log ≡ text job source root count ++ front → IsLogAfter job source root (suc k) log
end_in_part job source root {k} {count} front rest many all line told =
    let m = marked_at job source root {k = k} (omega (arith, many)) in
    let last = flat_map line_text (line_of job m.0) in
    let texts : text job source root count ≡ text job source root k ++ last = texts_alike job source root {a = count} {b = suc k} all (omega (arith, many))
    ∙ (text_grows job source root k m.0 m.1).1 in (
      (last ++ front, told ∙ ap (λ l. l ++ front) texts ∙ append_assoc (text job source root k) last front),
      (
        rest,
        all_told job source root many
            ∙ (all_items_are_all job source root count all).3
            ∙ ap (λ l. text job source root count ++ l) line
            ∙ sym (append_assoc (text job source root count) front rest)
            ∙ ap (λ l. l ++ rest) (sym told),
      ),
    )

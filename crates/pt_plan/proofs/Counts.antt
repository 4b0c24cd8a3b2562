-- The numbers of a run's lines are numbers of its items.
use Rattle.std.proofs.Common.{◌≡◌, ℕ, ◌+◌, List, [], ◌∷◌, ◌++◌, Bool, true, false, length, refl, sym, ◌∙◌, ap, arith, cond, take, length-append}
use Rattle.std.specs.Prelude.{◌||◌, Option, None, Some, count_by, flat_map, is_some, not}
use Rattle.std.specs.List.{list_all}
use Rattle.std.proofs.lemmas.Bool.{and_from, and_parts, false≢true}
use Rattle.std.proofs.lemmas.List.Sums.{sum_by-append}
use Rattle.pt_name.specs.Place.{place_of}
use Rattle.pt_tree.specs.Path.{Path}
use Rattle.pt_tree.specs.Tree.{Tree}
use Rattle.pt_walk.specs.Object.{entries, files}
use Rattle.pt_walk.specs.declared.cause.Cause.{Cause}
use Rattle.pt_plan.specs.Carried.{Marked, carried, carried_by, carried_by_outcome, is_taken, marked, marked_after}
use Rattle.pt_plan.specs.CountLaws.{CountsGrow, EachLineIsCounted, EndLineTellsNumbers, LinesTellNumbers, is_passed_over, is_verdict_passed_over}
use Rattle.pt_plan.specs.Items.{Interior, Item, Named, PairtreeObject, Skip, Verdict, cause_of, items, outcome_by}
use Rattle.pt_plan.specs.Job.{Job}
use Rattle.pt_plan.specs.Lines.{End, Line, is_done, is_present, is_skipped, line_by_outcome, line_by_verdict, line_of, lines}
use Rattle.pt_plan.proofs.CarriedFiles.{all_take}
use Rattle.pt_plan.proofs.Growing.{text_grows}

-- only a named item is taken
abbrev is_named : Verdict → Bool
is_named Interior = false
is_named (Skip why) = false
is_named (Named id object) = true

abbrev is_fit : Bool → Verdict → Bool
is_fit taken verdict = not taken || is_named verdict

fit_by_verdict : (job : Job) (root : Tree) (earlier : List Item) (verdict : Verdict) → is_fit (is_taken job root earlier verdict) verdict ≡ true
fit_by_verdict job root earlier (Named id object) = by (is_taken job root earlier (Named id object))
  where
    by : (t : Bool) → (not t || true) ≡ true
    by true = refl
    by false = refl
fit_by_verdict _ _ _ _ = refl

abbrev is_fit_mark : Marked → Bool
is_fit_mark m = is_fit m.1 m.0.verdict

all_fit : (job : Job) (root : Tree) (earlier others : List Item) → list_all is_fit_mark (marked_after job root earlier others) ≡ true
all_fit _ _ _ [] = refl
all_fit job root earlier (item ∷ others) =
    and_from _ _
    (fit_by_verdict job root earlier item.verdict) (all_fit job root (earlier ++ item ∷ []) others)

-- the numbers of some lines
record AreTold (told : List Line) (done present skipped : ℕ) : Type 0 where
  as_done : count_by is_done told ≡ done
  as_present : count_by is_present told ≡ present
  as_skipped : count_by is_skipped told ≡ skipped
  as_all : length told ≡ done + present + skipped

-- those of the line of one item
told_by_cause : (job : Job) (path : Path) (id : List ℕ) (object : PairtreeObject) (why : Option Cause)
    → AreTold (line_by_outcome path id object (place_of job.tuples id) (outcome_by (files (entries object.inside)) why) ∷ [])
    (length (carried_by_outcome id (outcome_by (files (entries object.inside)) why))) 0 (cond (is_some why) 1 0)
told_by_cause _ _ _ _ None = record { as_done = refl; as_present = refl; as_skipped = refl; as_all = refl }
told_by_cause _ _ _ _ (Some _) = record { as_done = refl; as_present = refl; as_skipped = refl; as_all = refl }

told_by_verdict : (job : Job) (path : Path) (taken : Bool) (verdict : Verdict) → is_fit taken verdict ≡ true
    → AreTold (line_by_verdict job path taken verdict) (length (carried_by job taken verdict)) (cond taken 1 0)
    (cond (is_verdict_passed_over job taken verdict) 1 0)
told_by_verdict _ _ true Interior fit = absurd (false≢true fit)
told_by_verdict _ _ false Interior _ = record { as_done = refl; as_present = refl; as_skipped = refl; as_all = refl }
told_by_verdict _ _ true (Skip _) fit = absurd (false≢true fit)
told_by_verdict _ _ false (Skip _) _ = record { as_done = refl; as_present = refl; as_skipped = refl; as_all = refl }
told_by_verdict _ _ true (Named _ _) _ = record { as_done = refl; as_present = refl; as_skipped = refl; as_all = refl }
told_by_verdict job path false (Named id object) _ = told_by_cause job path id object (cause_of job.limits object)

-- and of all lines
told_all : (job : Job) (marks : List Marked) → list_all is_fit_mark marks ≡ true
    → AreTold (flat_map (line_of job) marks) (length (carried job marks)) (count_by (λ m. m.1) marks) (count_by (is_passed_over job) marks)
told_all _ [] _ = record { as_done = refl; as_present = refl; as_skipped = refl; as_all = refl }
told_all job (m ∷ marks) fit =
    let parts = and_parts _ _ fit in
    let first = told_by_verdict job m.0.path m.1 m.0.verdict parts.0 in
    let later = told_all job marks parts.1 in
    let both : length (carried job (m ∷ marks)) ≡ length (carried_by job m.1 m.0.verdict)
    + length (carried job marks) = length-append (carried_by job m.1 m.0.verdict) (carried job marks) in
    let taken : count_by (λ (m : Marked). m.1) (m ∷ marks) ≡ (0 + cond m.1 1 0) + count_by (λ (m : Marked). m.1) marks = sum_by-append
    (λ (m : Marked). cond m.1 1 0) (m ∷ []) marks in
    let passed : count_by (is_passed_over job) (m ∷ marks) ≡ (0 + cond (is_passed_over job m) 1 0) + count_by (is_passed_over job) marks = sum_by-append
    (λ (m : Marked). cond (is_passed_over job m) 1 0) (m ∷ []) marks in
    let lengths : length (flat_map (line_of job) (m ∷ marks)) ≡ length (line_of job m) + length (flat_map (line_of job) marks) = length-append (line_of job m)
    (flat_map (line_of job) marks) in
    record {
      as_done = sum_by-append (λ l. cond (is_done l) 1 0) (line_of job m) (flat_map (line_of job) marks) ∙ sums _ _ _ _ first.as_done later.as_done ∙ sym both;
      as_present = sum_by-append (λ l. cond (is_present l) 1 0) (line_of job m) (flat_map (line_of job) marks) ∙ sums _ _ _ _ first.as_present later.as_present
          ∙ sym (taken ∙ from_none _ _);
      as_skipped = sum_by-append (λ l. cond (is_skipped l) 1 0) (line_of job m) (flat_map (line_of job) marks) ∙ sums _ _ _ _ first.as_skipped later.as_skipped
          ∙ sym (passed ∙ from_none _ _);
      as_all = lengths ∙ all_sums _ _ _ _ _ _ _ _ _ _ _ first.as_all later.as_all both (taken ∙ from_none _ _) (passed ∙ from_none _ _);
    }
  where
    sums : (a b c d : ℕ) → a ≡ c → b ≡ d → a + b ≡ c + d
    sums a b c d e f = omega arith

    from_none : (a b : ℕ) → (0 + a) + b ≡ a + b
    from_none a b = omega arith

    all_sums : (l m a b c d e f x y z : ℕ) → l ≡ a + b + c → m ≡ d + e + f → x ≡ a + d → y ≡ b + e → z ≡ c + f → l + m ≡ x + y + z
    all_sums l m a b c d e f x y z p q r s t = omega arith

told_lines : (job : Job) (marks : List Marked) → list_all is_fit_mark marks ≡ true
    → End (count_by is_done (flat_map (line_of job) marks)) (count_by is_present (flat_map (line_of job) marks))
    (count_by is_skipped (flat_map (line_of job) marks))
    ≡ End (length (carried job marks)) (count_by (λ m. m.1) marks) (count_by (is_passed_over job) marks)
told_lines job marks fit = let told = told_all job marks fit in λ i. End (told.as_done i) (told.as_present i) (told.as_skipped i)

pub lines_tell_numbers : LinesTellNumbers
lines_tell_numbers job source root k = told_lines job (take k (marked job source root))
    (all_take is_fit_mark k (marked job source root) (all_fit job root [] (items job source)))

pub end_line_tells_numbers : EndLineTellsNumbers
end_line_tells_numbers job source root = told_lines job (marked job source root) (all_fit job root [] (items job source))

pub each_line_is_counted : EachLineIsCounted
each_line_is_counted job source root k =
    let told = told_all job (take k (marked job source root)) (all_take is_fit_mark k _ (all_fit job root [] (items job source))) in
    told.as_all ∙ λ i. sym told.as_done i + sym told.as_present i + sym told.as_skipped i

pub counts_grow : CountsGrow
counts_grow job source root k m test is =
    ap (count_by test) (text_grows job source root k m is).0 ∙ sum_by-append (λ l. cond (test l) 1 0) (lines job source root k) (line_of job m)

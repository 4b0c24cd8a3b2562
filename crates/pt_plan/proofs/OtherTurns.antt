-- The limit of turns has no part in what is carried and told.
use Rattle.std.proofs.Common.{◌≡◌, ℕ, List, [], ◌∷◌, ◌++◌, Bool, true, false, length, refl, ◌∙◌, ap, cond, map, inl, inr, ◌&&◌}
use Rattle.std.specs.Prelude.{◌||◌, Option, None, Some, flat_map, is_none, is_some}
use Rattle.std.specs.List.{list_all, list_any}
use Rattle.std.specs.Option.{option_map, option_or}
use Rattle.pt_name.specs.Place.{place_of}
use Rattle.pt_object.specs.Root.{base}
use Rattle.pt_tree.specs.Forest.{Forest, File as a_file, listing_of}
use Rattle.pt_tree.specs.Path.{Path, same_path}
use Rattle.pt_tree.specs.Tree.{Tree}
use Rattle.pt_walk.specs.Left.{entries_from}
use Rattle.pt_walk.specs.Limits.{Bounds}
use Rattle.pt_walk.specs.Object.{Entry as an_entry, bad_or, entries, entry_cause, files, files_with, first_bad}
use Rattle.pt_walk.specs.Site.{found}
use Rattle.pt_walk.specs.Sites.{Site, Visit, Listed, at_of}
use Rattle.pt_walk.specs.declared.cause.Cause.{Cause}
use Rattle.pt_walk.specs.declared.cause.Cause.TheVariants as cause
use Rattle.pt_walk.specs.declared.site.Finding.{Finding}
use Rattle.pt_walk.specs.declared.site.Finding.TheVariants as finding
use Rattle.pt_plan.specs.Carried.{
  Carried,
  Marked,
  all_carried,
  carried,
  carried_by,
  carried_by_outcome,
  entry_of_object,
  entry_of_objects,
  folder_where,
  has_place,
  is_on_the_way,
  is_taken,
  is_way_free,
  marked,
  marked_after,
  with_objects,
}
use Rattle.pt_plan.specs.Items.{
  Interior,
  Item,
  Named,
  PairtreeObject,
  Skip,
  Verdict,
  cause_of,
  encapsulated,
  is_too_deep,
  item_of,
  items,
  ours,
  outcome_by,
  verdict_by_finding,
  verdict_by_visit,
  verdict_of,
  verdict_on_candidate,
}
use Rattle.pt_plan.specs.Job.{Job, form_of, reach_of}
use Rattle.pt_plan.specs.Lines.{line_by_outcome, line_by_verdict, line_of}
use Rattle.pt_plan.specs.RerunLaws.{IsTarget, TurnsHaveNoPart, with_turns}
use Rattle.pt_plan.specs.Store.{prefix_of, sites_of}

-- ---- causes

entry_same : (limits : Bounds) (turns depth held : ℕ) (entry : an_entry)
    → entry_cause (record limits { turns = turns }) depth held entry ≡ entry_cause limits depth held entry
entry_same limits turns depth held (path, a_file bytes) = refl
entry_same limits turns depth held (path, _) = refl

first_same : (limits : Bounds) (turns depth held : ℕ) (all : List an_entry)
    → first_bad (record limits { turns = turns }) depth held all ≡ first_bad limits depth held all
first_same _ _ _ _ [] = refl
first_same limits turns depth held (entry ∷ others) = λ i. bad_or (entry_same limits turns depth held entry i) entry
    (first_same limits turns depth (files_with held entry) others i)

cause_same : (job : Job) (turns : ℕ) (object : PairtreeObject) → cause_of (with_turns job turns).limits object ≡ cause_of job.limits object
cause_same job turns object =
    ap (λ (bad : Option (an_entry × Cause)). cond (is_too_deep job.limits object) (Some cause.Limit) (option_map (λ (b : an_entry × Cause). b.1) bad))
    (first_same job.limits turns (length object.at) 0 (entries object.inside))

-- ---- verdicts

candidate_same : (job : Job) (turns : ℕ) (prefix : List ℕ) (site : Path) (object : Option PairtreeObject)
    → verdict_on_candidate (with_turns job turns) prefix site object ≡ verdict_on_candidate job prefix site object
candidate_same _ _ _ _ None = refl
candidate_same _ _ _ _ (Some _) = refl

finding_same : (job : Job) (turns : ℕ) (prefix : List ℕ) (site : Path) (inside : Forest) (what : Finding)
    → verdict_by_finding (with_turns job turns) prefix site inside what ≡ verdict_by_finding job prefix site inside what
finding_same _ _ _ _ _ finding.Interior = refl
finding_same _ _ _ _ _ (finding.Skip _) = refl
finding_same job turns prefix site inside (finding.Candidate i) = candidate_same job turns prefix site (encapsulated site (entries_from i inside))
finding_same _ _ _ _ _ finding.Gathered = refl

visit_same : (job : Job) (turns : ℕ) (prefix : List ℕ) (path : Path) (visit : Visit)
    → verdict_by_visit (with_turns job turns) prefix path visit ≡ verdict_by_visit job prefix path visit
visit_same job turns prefix path (Listed inside) = finding_same job turns prefix path inside (found (listing_of inside) (at_of path) (form_of job))
visit_same _ _ _ _ _ = refl

verdict_same : (job : Job) (turns : ℕ) (prefix : List ℕ) (path : Path) (visit : Visit)
    → verdict_of (with_turns job turns) prefix path visit ≡ verdict_of job prefix path visit
verdict_same job turns prefix path visit = ap (λ (v : Verdict). ours job.share path v) (visit_same job turns prefix path visit)

items_same_on : (job : Job) (turns : ℕ) (prefix : List ℕ) (ways : List Site) → map (item_of (with_turns job turns) prefix) ways ≡ map (item_of job prefix) ways
items_same_on _ _ _ [] = refl
items_same_on job turns prefix (site ∷ ways) = λ i. record { path = site.0; visit = site.1; verdict = verdict_same job turns prefix site.0 site.1 i }
    ∷ items_same_on job turns prefix ways i

items_same : (job : Job) (turns : ℕ) (source : Forest) → items (with_turns job turns) source ≡ items job source
items_same job turns source = items_same_on job turns (prefix_of source) (sites_of (reach_of job) source)

-- ---- marks

place_same : (job : Job) (turns : ℕ) (place : Path) (verdict : Verdict) → has_place (with_turns job turns) place verdict ≡ has_place job place verdict
place_same job turns place (Named id object) = ap (λ (why : Option Cause). is_none why && same_path (place_of job.tuples id) place)
    (cause_same job turns object)
place_same _ _ _ _ = refl

any_same : (job : Job) (turns : ℕ) (place : Path) (earlier : List Item)
    → list_any (λ (item : Item). has_place (with_turns job turns) place item.verdict) earlier
    ≡ list_any (λ (item : Item). has_place job place item.verdict) earlier
any_same _ _ _ [] = refl
any_same job turns place (item ∷ earlier) = λ i. place_same job turns place item.verdict i || any_same job turns place earlier i

taken_same : (job : Job) (turns : ℕ) (root : Tree) (earlier : List Item) (verdict : Verdict)
    → is_taken (with_turns job turns) root earlier verdict ≡ is_taken job root earlier verdict
taken_same job turns root earlier (Named id _) = ap (λ b. is_some (root (place_of job.tuples id)) || b) (any_same job turns (place_of job.tuples id) earlier)
taken_same _ _ _ _ _ = refl

marked_same_after : (job : Job) (turns : ℕ) (root : Tree) (earlier others : List Item)
    → marked_after (with_turns job turns) root earlier others ≡ marked_after job root earlier others
marked_same_after _ _ _ _ [] = refl
marked_same_after job turns root earlier (item ∷ others) = λ i. (item, taken_same job turns root earlier item.verdict i)
    ∷ marked_same_after job turns root (earlier ++ item ∷ []) others i

marked_same : (job : Job) (turns : ℕ) (source : Forest) (root : Tree) → marked (with_turns job turns) source root ≡ marked job source root
marked_same job turns source root = marked_same_after job turns root [] (items (with_turns job turns) source)
    ∙ ap (marked_after job root []) (items_same job turns source)

-- ---- what is carried

carried_same_by : (job : Job) (turns : ℕ) (taken : Bool) (verdict : Verdict) → carried_by (with_turns job turns) taken verdict ≡ carried_by job taken verdict
carried_same_by job turns taken (Named id object) = ap (λ (why : Option Cause). cond taken []
    (carried_by_outcome id (outcome_by (files (entries object.inside)) why))) (cause_same job turns object)
carried_same_by _ _ _ _ = refl

carried_same : (job : Job) (turns : ℕ) (marks : List Marked) → carried (with_turns job turns) marks ≡ carried job marks
carried_same _ _ [] = refl
carried_same job turns (m ∷ marks) = λ i. carried_same_by job turns m.1 m.0.verdict i ++ carried_same job turns marks i

all_carried_same : (job : Job) (turns : ℕ) (source : Forest) (root : Tree) → all_carried (with_turns job turns) source root ≡ all_carried job source root
all_carried_same job turns source root = carried_same job turns (marked (with_turns job turns) source root)
    ∙ ap (carried job) (marked_same job turns source root)

entries_same : (job : Job) (turns : ℕ) (objects : List Carried) (path : Path)
    → entry_of_objects (with_turns job turns) objects path ≡ entry_of_objects job objects path
entries_same _ _ [] _ = refl
entries_same job turns (object ∷ objects) path = ap (option_or (entry_of_object job path object)) (entries_same job turns objects path)

with_same : (job : Job) (turns : ℕ) (objects : List Carried) (t : Tree) → with_objects (with_turns job turns) objects t ≡ with_objects job objects t
with_same job turns objects t i path = option_or (t path) (option_or (entries_same job turns objects path i) (folder_where (is_on_the_way job objects path)))

-- ---- what is told

line_same : (job : Job) (turns : ℕ) (path : Path) (taken : Bool) (verdict : Verdict)
    → line_by_verdict (with_turns job turns) path taken verdict ≡ line_by_verdict job path taken verdict
line_same _ _ _ _ Interior = refl
line_same _ _ _ _ (Skip _) = refl
line_same _ _ _ true (Named _ _) = refl
line_same job turns path false (Named id object) =
    ap (λ (why : Option Cause). line_by_outcome path id object (place_of job.tuples id) (outcome_by (files (entries object.inside)) why) ∷ [])
    (cause_same job turns object)

lines_same : (job : Job) (turns : ℕ) (marks : List Marked) → flat_map (line_of (with_turns job turns)) marks ≡ flat_map (line_of job) marks
lines_same _ _ [] = refl
lines_same job turns (m ∷ marks) = λ i. line_same job turns m.0.path m.1 m.0.verdict i ++ lines_same job turns marks i

target_same : {job : Job} (turns : ℕ) {source : Forest} {root : Tree} → IsTarget job source root → IsTarget (with_turns job turns) source root
target_same _ (inl free) = inl free
target_same {job} turns {source} {root} (inr usable) = inr (record {
  files = usable.files;
  ways = ap (list_all (is_way_free job root))
      (all_carried_same job turns source root) ∙ usable.ways;
})

pub turns_have_no_part : TurnsHaveNoPart
turns_have_no_part job turns source root = (
  with_same job turns (all_carried (with_turns job turns) source root) (base job.tuples root)
      ∙ ap (λ (l : List Carried). with_objects job l (base job.tuples root)) (all_carried_same job turns source root),
  lines_same job turns (marked (with_turns job turns) source root) ∙ ap (flat_map (line_of job)) (marked_same job turns source root),
  target_same turns,
)

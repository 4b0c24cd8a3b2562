-- The item that a turn ends, with its line.
use Rattle.std.proofs.Common.{◌≡◌, ◌+◌, ℕ, suc, Bool, true, false, List, [], ◌∷◌, ◌++◌, ap, sym, ◌∙◌, append-nil, append_assoc, arith, cond}
use Rattle.std.specs.Prelude.{Option, None, Some, count_by, flat_map, is_some, option_to_list, slice_get, take}
use Rattle.std.specs.Option.{option_map}
use Rattle.pt_name.specs.Place.{place_of}
use Rattle.pt_tree.specs.Forest.{Forest}
use Rattle.pt_tree.specs.Tree.{Tree}
use Rattle.pt_walk.specs.declared.cause.Cause.{Cause}
use Rattle.pt_plan.proofs.Counts.{counts_grow}
use Rattle.pt_plan.proofs.Growing.{carried_grows, taken_against_earlier, text_grows}
use Rattle.pt_plan.proofs.TakenPlaces.{next_place_stands_where_taken}
use Rattle.pt_plan.specs.Carried.{Carried, Marked, after, carried_among, carried_by, carried_by_outcome, is_taken, marked}
use Rattle.pt_plan.specs.Items.{Interior, Item, Named, Outcome, PairtreeObject, Skip, items, outcome}
use Rattle.pt_plan.specs.Job.{Job}
use Rattle.pt_plan.specs.Lines.{
  Done,
  End,
  Line,
  Present,
  Skipped,
  is_done,
  is_present,
  is_skipped,
  line_by_outcome,
  line_by_verdict,
  line_of,
  line_text,
  lines,
  text,
}
use Rattle.pt_plan.specs.PlaceLaws.{IsRooted}
use Rattle.pt_plan.specs.Run.{Counts}
use Rattle.pt_plan.specs.Turn.{counted}
use Rattle.pt_plan.specs.DeviceStates.{Puts}
use Rattle.pt_plan.specs.declared.phase.Phase.{Phase}
use Rattle.pt_plan.specs.declared.phase.Phase.TheVariants as phase
use Rattle.pt_invariant.specs.RunInvariant.{CountsLines, HasTold}
use Rattle.pt_invariant.specs.History.{History}
use Rattle.pt_invariant.proofs.source.InPairtree.{some_same}

-- ---- what a turn tells

-- this is the next item, this its line, and these are carried of it
pub record EndsItem (job : Job) (source : Forest) (root : Tree) (count : ℕ) (line : Option Line) (more : List Carried) : Type 0 where
  pub m : Marked
  pub is : slice_get (marked job source root) count ≡ Some m
  pub told : line_of job m ≡ option_to_list line
  pub gained : carried_by job m.1 m.0.verdict ≡ more

-- so many items are done after the turn, and these are carried of them: the same as before, and no line is told but the last one; or one more, and
-- its line is told
pub data Tells (job : Job) (source : Forest) (root : Tree) (count : ℕ) : Phase → Option Line → ℕ → List Carried → Type 0 where
  Nothing : {next : Phase} → Tells job source root count next None count []
  OneItem : {next : Phase} {line : Option Line} {more : List Carried} → EndsItem job source root count line more
      → Tells job source root count next line (suc count) more
  Last : (done present skipped : ℕ) → Tells job source root count phase.Ended (Some (End done present skipped)) count []

-- ---- the counts

number_after : (test : Line → Bool) {line : Option Line} {job : Job} {source : Forest} {root : Tree} {count : ℕ} {more : List Carried}
    → EndsItem job source root count line more
    → count_by test (lines job source root (suc count)) ≡ count_by test (lines job source root count) + count_by test (option_to_list line)
number_after test {job} {source} {root} {count} it =
    counts_grow job source root count it.m test it.is ∙ ap (λ (l : List Line). count_by test (lines job source root count) + count_by test l) it.told

counts_after : {line : Option Line} {job : Job} {source : Forest} {root : Tree} {count : ℕ} {counts : Counts} {more : List Carried}
    → EndsItem job source root count line more → CountsLines job source root count counts
    → CountsLines job source root (suc count) (counted line counts)
counts_after {line} {job} {source} {root} {count} {counts} it are = by line (number_after is_done it) (number_after is_present it) (number_after is_skipped it)
  where
    by : (l : Option Line) → count_by is_done (lines job source root (suc count)) ≡ count_by is_done (lines job source root count)
        + count_by is_done (option_to_list l)
        → count_by is_present (lines job source root (suc count)) ≡ count_by is_present (lines job source root count) + count_by is_present (option_to_list l)
        → count_by is_skipped (lines job source root (suc count)) ≡ count_by is_skipped (lines job source root count) + count_by is_skipped (option_to_list l)
        → CountsLines job source root (suc count) (counted l counts)
    by None a b c = let x = are.done in let y = are.present in let z = are.skipped in record
        { done = omega (arith, a, x); present = omega (arith, b, y); skipped = omega (arith, c, z) }
    by (Some (Done at bytes empty files id to)) a b c = let x = are.done in let y = are.present in let z = are.skipped in record
        { done = omega (arith, a, x); present = omega (arith, b, y); skipped = omega (arith, c, z) }
    by (Some (Present at id to)) a b c = let x = are.done in let y = are.present in let z = are.skipped in record
        { done = omega (arith, a, x); present = omega (arith, b, y); skipped = omega (arith, c, z) }
    by (Some (Skipped at why)) a b c = let x = are.done in let y = are.present in let z = are.skipped in record
        { done = omega (arith, a, x); present = omega (arith, b, y); skipped = omega (arith, c, z) }
    by (Some (End done present skipped)) a b c = let x = are.done in let y = are.present in let z = are.skipped in record
        { done = omega (arith, a, x); present = omega (arith, b, y); skipped = omega (arith, c, z) }

pub counts_kept : {job : Job} {source : Forest} {root : Tree} {count new : ℕ} {next : Phase} {line : Option Line} {counts : Counts} {gained : List Carried}
    → Tells job source root count next line new gained → CountsLines job source root count counts → CountsLines job source root new (counted line counts)
counts_kept (OneItem it) are = counts_after it are
counts_kept _ are = are

-- ---- the log

-- of a run that hasn't ended the log has got the lines of the items done
pub told_at : (job : Job) (source : Forest) (root : Tree) (past : History) (next : Phase) (old : List ℕ) {now : List ℕ}
    → now ≡ old ++ text job source root past.count → HasTold job source root past next old now
told_at _ _ _ _ phase.Ended _ _ = tt
told_at _ _ _ _ _ _ told = told

-- with one item more it gets its line
text_after : {job : Job} {source : Forest} {root : Tree} {count : ℕ} {line : Option Line} {more : List Carried} → EndsItem job source root count line more
    → text job source root (suc count) ≡ text job source root count ++ flat_map line_text (option_to_list line)
text_after {job} {source} {root} {count} it = (text_grows job source root count it.m it.is).1
    ∙ ap (λ (l : List Line). text job source root count ++ flat_map line_text l) it.told

line_put : (line : Option Line) (old : List ℕ) {now : List ℕ} {new : List ℕ} (before : List ℕ) {after : List ℕ}
    → after ≡ before ++ flat_map line_text (option_to_list line) → now ≡ old ++ before → Puts line (Some now) (Some new) → new ≡ old ++ after
unfolding Puts
line_put None old {now} {new} before grown told puts = some_same new now puts ∙ told ∙ ap (λ l. old ++ l) (sym (append-nil before) ∙ sym grown)
line_put (Some line) old before grown told puts =
    puts ∙ ap (λ l. l ++ line_text line) told ∙ append_assoc old before (line_text line)
    ∙ ap (λ l. old ++ l) (ap (λ l. before ++ l) (sym (append-nil (line_text line))) ∙ sym grown)

pub log_kept : {job : Job} {source : Forest} {root : Tree} (past later : History) {next : Phase} {line : Option Line} {n : ℕ} (old : List ℕ) {now : List ℕ}
    (new : List ℕ) {gained : List Carried} → later.count ≡ n → Tells job source root past.count next line n gained
    → now ≡ old ++ text job source root past.count → Puts line (Some now) (Some new) → HasTold job source root later next old new
unfolding Puts
log_kept {job} {source} {root} _ later {next} old {now} new is Nothing told puts =
    told_at job source root later next old (some_same new now puts ∙ told ∙ ap (λ k. old ++ text job source root k) (sym is))
log_kept {job} {source} {root} past later {next} {line} old _ is (OneItem it) told puts =
    told_at job source root later next old
    (line_put line old (text job source root past.count) (text_after it) told puts ∙ ap (λ k. old ++ text job source root k) (sym is))
log_kept _ _ _ _ _ (Last _ _ _) _ _ = tt

-- ---- the objects placed

-- nothing more is carried of an item that ends so
pub placed_kept : {job : Job} {source : Forest} {root : Tree} {count new : ℕ} {next : Phase} {line : Option Line} {gained placed : List Carried} → gained ≡ []
    → Tells job source root count next line new gained → placed ≡ carried_among job source root count
    → placed ≡ carried_among job source root new
placed_kept {job} {source} {root} {count} none (OneItem it) are =
    are ∙ sym (carried_grows job source root count it.m it.is ∙ ap (λ (l : List Carried). carried_among job source root count ++ l) (it.gained ∙ none)
    ∙ append-nil (carried_among job source root count))
placed_kept _ _ are = are

-- ---- each kind of item

-- the item of this number, with its mark
pub mark_of : (job : Job) (source : Forest) (root : Tree) (count : ℕ) {item : Item} → slice_get (items job source) count ≡ Some item
    → slice_get (marked job source root) count ≡ Some (item, is_taken job root (take count (items job source)) item.verdict)
mark_of job source root count is =
    taken_against_earlier job source root count ∙ ap (option_map (λ (i : Item). (i, is_taken job root (take count (items job source)) i.verdict))) is

-- it only leads on
pub interior_item : {job : Job} {source : Forest} (root : Tree) {count : ℕ} {item : Item} → slice_get (items job source) count ≡ Some item
    → item.verdict ≡ Interior → EndsItem job source root count None []
interior_item {job} {source} root {count} {item} is what = record {
  m = (item, is_taken job root (take count (items job source)) item.verdict);
  is = mark_of job source root count is;
  told = ap (line_by_verdict job item.path (is_taken job root (take count (items job source)) item.verdict)) what;
  gained = ap (carried_by job (is_taken job root (take count (items job source)) item.verdict)) what;
}

-- it is passed over
pub skipped_item : {job : Job} {source : Forest} (root : Tree) {count : ℕ} {item : Item} {why : Cause} → slice_get (items job source) count ≡ Some item
    → item.verdict ≡ Skip why → EndsItem job source root count (Some (Skipped item.path why)) []
skipped_item {job} {source} root {count} {item} is what = record {
  m = (item, is_taken job root (take count (items job source)) item.verdict);
  is = mark_of job source root count is;
  told = ap (line_by_verdict job item.path (is_taken job root (take count (items job source)) item.verdict)) what;
  gained = ap (carried_by job (is_taken job root (take count (items job source)) item.verdict)) what;
}

-- it is passed over and told, or only leads on
pub passed_item : (told : Bool) {job : Job} {source : Forest} (root : Tree) {count : ℕ} {item : Item} (why : Cause)
    → slice_get (items job source) count ≡ Some item → item.verdict ≡ cond told (Skip why) Interior
    → EndsItem job source root count (cond told (Some (Skipped item.path why)) None) []
passed_item true {job} {source} root {count} _ is what = skipped_item root is what
passed_item false {job} {source} root {count} _ is what = interior_item root is what

-- whether its place is taken is whether something stands there
pub mark_where_stands : (job : Job) (source : Forest) {root : Tree} (count : ℕ) {item : Item} {id : List ℕ} {object : PairtreeObject} → IsRooted root
    → slice_get (items job source) count ≡ Some item → item.verdict ≡ Named id object
    → is_taken job root (take count (items job source)) item.verdict ≡ is_some (after job source root count (place_of job.tuples id))
mark_where_stands job source {root} count {item} {id} {object} rooted is what =
    sym (next_place_stands_where_taken job source root count (item, is_taken job root (take count (items job source)) item.verdict) id object rooted
    (mark_of job source root count is) what)

-- its place is taken
pub present_item : {job : Job} {source : Forest} {root : Tree} {count : ℕ} {item : Item} {id : List ℕ} {object : PairtreeObject}
    → slice_get (items job source) count ≡ Some item → item.verdict ≡ Named id object
    → is_taken job root (take count (items job source)) item.verdict ≡ true
    → EndsItem job source root count (Some (Present object.at id (place_of job.tuples id))) []
present_item {job} {source} {root} {count} {item} is what taken = record {
  m = (item, is_taken job root (take count (items job source)) item.verdict);
  is = mark_of job source root count is;
  told = ap (λ t. line_by_verdict job item.path t item.verdict) taken ∙ ap (line_by_verdict job item.path true) what;
  gained = ap (λ t. carried_by job t item.verdict) taken ∙ ap (carried_by job true) what;
}

-- it isn't, and the object comes to this
pub free_item : {job : Job} {source : Forest} {root : Tree} {count : ℕ} {item : Item} {id : List ℕ} {object : PairtreeObject} {comes : Outcome}
    → slice_get (marked job source root) count ≡ Some (item, false) → item.verdict ≡ Named id object → outcome job.limits object ≡ comes
    → EndsItem job source root count (Some (line_by_outcome item.path id object (place_of job.tuples id) comes)) (carried_by_outcome id comes)
free_item {job} {item} {id} {object} is what outcome_is = record {
  m = (item, false);
  is = is;
  told = ap (line_by_verdict job item.path false) what ∙ ap (λ (o : Outcome). line_by_outcome item.path id object (place_of job.tuples id) o ∷ []) outcome_is;
  gained = ap (carried_by job false) what ∙ ap (carried_by_outcome id) outcome_is;
}

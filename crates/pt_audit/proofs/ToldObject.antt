-- What an audit finds and tells of the object at hand.
use Rattle.std.proofs.Common.{◌≡◌, ℕ, suc, Bool, List, [], ◌∷◌, ◌++◌, refl, ap, sym, ◌∙◌, subst, length, min}
use Rattle.std.specs.Prelude.{◌&&◌, IfOk, IsSome, Option, Some, Result, Ok, Err, get_or, map, slice_get}
use Rattle.std.specs.String.{string_bytes}
use Rattle.std.specs.Option.{ForSome, option_map}
use Rattle.std.specs.Io.KnownBytes.{Appends}
use Rattle.std.proofs.lemmas.Option.{slice_get-get_or}
use Rattle.pt_audit.specs.Auditing.{
  CanCompare,
  Finds,
  HasToldOf,
  IsFoundAtHand,
  IsFoundBy,
  IsFoundOf,
  IsFoundOfHand,
  IsSeen,
  IsTwinAtHand,
  IsUnderWay,
  Next,
  TellsOf,
  Told,
  counted,
  sought,
  sought_at_hand,
  start_over,
}
use Rattle.pt_invariant.specs.RunInvariant.{items_through}
use Rattle.pt_audit.specs.Counting.{counts_with}
use Rattle.pt_audit.specs.Twin.{is_differing, is_twin}
use Rattle.pt_audit.specs.Lines as audit
use Rattle.pt_audit.specs.declared.compare_by.CompareBy.{CompareBy}
use Rattle.pt_audit.specs.declared.compare_by.CompareBy.TheVariants.{Bytes, Lengths}
use Rattle.pt_audit.specs.declared.counts.Counts.{Counts}
use Rattle.pt_invariant.specs.HeldInvariant.{HeldAt}
use Rattle.pt_invariant.specs.SourceInvariant.{SourcePart}
use Rattle.pt_invariant.proofs.ends.Permitted.{may_open_row}
use Rattle.pt_compare.specs.Found.{IsFound, Sought}
use Rattle.pt_compare.specs.Marks.{inside}
use Rattle.pt_compare.specs.declared.difference.Comparison.{Comparison}
use Rattle.pt_compare.specs.declared.difference.Comparison.TheVariants as found
use Rattle.pt_move.specs.Running.{Running, run_of}
use Rattle.pt_move.proofs.Outcomes.{reading_of}
use Rattle.pt_name.specs.Place.{place_of}
use Rattle.pt_object.specs.Distinct.{content_of_row, distinct}
use Rattle.pt_object.specs.FilePaths.{paths_of, row_paths}
use Rattle.pt_object.proofs.ObjectScripts.{paths_of_rows}
use Rattle.pt_tree.specs.PathOrder.{part_in_order}
use Rattle.pt_object.specs.Inventory.{inventory_text}
use Rattle.pt_object.specs.Object.{bytes_in, rows_of, stored_files}
use Rattle.pt_object.specs.declared.rows.Row.{Row}
use Rattle.pt_plan.specs.Lines.{Line}
use Rattle.pt_plan.specs.Enabled.{MayOpenRow}
use Rattle.pt_plan.specs.TurnPlace.{bytes_in_rows, done_line}
use Rattle.pt_plan.specs.TurnMake.{path_of_source}
use Rattle.pt_plan.specs.TurnWalk.{in_pairtree, in_root}
use Rattle.pt_plan.specs.declared.fault.Fault.{Fault}
use Rattle.pt_plan.specs.declared.object.Object.{Object}
use Rattle.pt_plan.specs.declared.phase.Part.TheVariants as part
use Rattle.pt_plan.specs.declared.phase.Phase.{Phase}
use Rattle.pt_plan.specs.declared.phase.Phase.TheVariants as phase
use Rattle.pt_plan.specs.declared.phase.Stage.TheVariants as stage
use Rattle.pt_quick.proofs.Agree.{other_bytes}
use Rattle.pt_quick.specs.Quick.{IsQuickOf}
use Rattle.pt_state.specs.States.{held_of, job_of}
use Rattle.pt_move.specs.Unmet.{AreUnmet}
use Rattle.pt_state.specs.declared.job.Job as own
use Rattle.pt_state.specs.declared.state.State.{State}
use Rattle.pt_audit.specs.Surveying.{HasAtHand, HaveOwnDigests, IsHand, IsHandAt, IsOf, IsSurvey, IsWithinWork, is_before_sites, Surveys, sight_at}
use Rattle.pt_audit.specs.declared.survey.ObjectAtHand as hand
use Rattle.pt_audit.specs.declared.survey.SurveyEvent.TheVariants as sight
use Rattle.pt_audit.proofs.Seen.{has_at_hand}
use Rattle.pt_tree.specs.Failures.{greatest_count}
use Rattle.pt_tree.specs.Forest.{Forest, file_at}
use Rattle.pt_tree.specs.Path.{Path}
use Rattle.pt_tree.specs.Source.{CanOpen, Reading, tree_in}
use Rattle.pt_tree.specs.Tree.{Tree}
use Rattle.pt_walk.specs.Left.{bytes_at}
use Rattle.pt_walk.specs.Trail.{trail_path}
use Rattle.pt_audit.proofs.Telling.{HasTold, object_at_hand, put_behind}

-- ---- the object at hand

-- a survey at an object stands so over any source that tells this tree
source_again : {told again : Option Reading} {r : Running} {count : ℕ} → sight_at r.phase ≡ sight.Object → tree_in again ≡ tree_in told → IsSurvey told count r
    → IsSurvey again count r
source_again {told} {again} {r} {count} is same it = record {
  fed = it.fed;
  was = it.was;
  past = it.past;
  seen = it.seen;
  is = record {
    layout = it.is.layout;
    held = it.is.held;
    source = λ s e.
        let had = reading_of told (sym same ∙ ap (option_map (λ (s : Reading). s.tree)) e) in
        subst (λ (p : Phase). PartAt p s) (sym here.1)
        (with_tree s had.0 had.2 (subst (λ (p : Phase). PartAt p had.0) here.1 (it.is.source had.0 had.1)));
    dest = tt;
    items = λ s e old f. absurd (cc);
    log = λ s e old f. absurd (cc);
    quiet = tt;
    left = λ s e old f. absurd (cc);
  };
  within = λ s e.
      let had = reading_of told (sym same ∙ ap (option_map (λ (s : Reading). s.tree)) e) in
      subst (λ (t : Forest). IsWithinWork (job_of r.state.job) t it.past.count (run_of r it.fed)) had.2 (it.within had.0 had.1);
  unmet = λ s e.
      let had = reading_of told (sym same ∙ ap (option_map (λ (s : Reading). s.tree)) e) in
      subst (λ (t : Forest). AreUnmet (job_of r.state.job) t r.phase it.past.count r.state.unmet) had.2 (it.unmet had.0 had.1);
  stands = it.stands;
}
  where
    here : (object : Object) × (r.phase ≡ phase.Carrying object stage.Line)
    here = object_at_hand r.phase is

    PartAt : Phase → Reading → Type 0
    PartAt p s = SourcePart (job_of r.state.job) it.past p (string_bytes r.state.prefix) (held_of r.state it.fed) s

    with_tree : (s had : Reading) → had.tree ≡ s.tree → PartAt (phase.Carrying here.0 stage.Line) had → PartAt (phase.Carrying here.0 stage.Line) s
    with_tree s had same part = subst (λ (t : Forest). PartAt (phase.Carrying here.0 stage.Line) (record { tree = t; unread = s.unread })) same
        (record { proper = part.proper; at = part.at; bytes = part.bytes; few = part.few })

pub surveys_again : (told again : Option Reading) (r : Running) → sight_at r.phase ≡ sight.Object → tree_in again ≡ tree_in told → Surveys told r
    → Surveys again r
unfolding Surveys
surveys_again told again r is same (count, it) = (count, source_again is same it)

-- it can be compared
pub can_compare : (told : Option Reading) (r : Running) (at : hand.ObjectAtHand) → sight_at r.phase ≡ sight.Object → Surveys told r → IsHand r at
    → CanCompare told r.state.job at
unfolding Surveys CanOpen MayOpenRow
can_compare told r at is (count, it) mine = record {
  contents = of.contents ∙ held.rows.contents ∙ ap (λ l. map content_of_row (distinct l)) (sym of.rows);
  order = ap (λ l. part_in_order (row_paths l)) of.rows ∙ held.rows.order;
  digests = λ f e.
      let had = reading_of told e in
      let known = at_hand had.0 had.1 in
      subst (λ (t : Forest). HaveOwnDigests (job_of r.state.job) t at.told.at at.rows.now) had.2
      (subst (HaveOwnDigests (job_of r.state.job) had.0.tree at.told.at) (sym of.rows)
      (subst (λ (p : Path). HaveOwnDigests (job_of r.state.job) had.0.tree p r.state.rows) (known.at ∙ sym of.told.at) known.digests));
  files = λ k d less s e.
      let row = ap (λ (l : List Row). slice_get l k) (sym of.rows) ∙ slice_get-get_or at.rows.now k d less in
      subst (λ (p : Path). IsSome (file_at s.tree (in_pairtree (p ++ (get_or at.rows.now k d).path)))) (sym of.told.at)
      (may_open_row {here = part.Staging} k {reading = told} source row s e);
}
  where
    here : (object : Object) × (r.phase ≡ phase.Carrying object stage.Line)
    here = object_at_hand r.phase is

    of : IsOf here.0 r.state at
    of = subst (λ (p : Phase). IsHandAt p r.state at) here.1 mine

    held : HeldAt (job_of r.state.job) it.past (phase.Carrying here.0 stage.Line) (held_of r.state it.fed)
    held = subst (λ (p : Phase). HeldAt (job_of r.state.job) it.past p (held_of r.state it.fed)) here.1 it.is.held

    at_hand : (s : Reading) → told ≡ Some s → HasAtHand (job_of r.state.job) s.tree it.past.count here.0 (held_of r.state it.fed)
    at_hand s e = has_at_hand held
        (subst (λ (p : Phase). SourcePart (job_of r.state.job) it.past p (string_bytes r.state.prefix) (held_of r.state it.fed) s) here.1 (it.is.source s e))

    source : ForSome told (SourcePart (job_of r.state.job) it.past (phase.Carrying here.0 (stage.Make part.Staging)) (string_bytes r.state.prefix)
        (held_of r.state it.fed))
    source = λ s e.
        let known = subst (λ (p : Phase). SourcePart (job_of r.state.job) it.past p (string_bytes r.state.prefix) (held_of r.state it.fed) s) here.1
        (it.is.source s e) in
        record { proper = known.proper; at = known.at; bytes = known.bytes; few = known.few }

-- what was found of it is what is told of its item
found_of : (by : CompareBy) {job : own.Job} {source root : Forest} {count : ℕ} {object : Object} {s : State} {at : hand.ObjectAtHand} {finding : Comparison}
    → s.job ≡ job → (it : HasAtHand (job_of job) source count object (held_of s [])) → IsOf object s at
    → IsFoundOfHand by job at source (inside root (in_root at.told.to.now)) finding → IsFoundOf by (job_of job) source root it.item finding
found_of by {job} {source} {root} {count} {object} {s} {at} {finding} same it mine found = record {
  id = object.id;
  object = it.inner;
  files = it.files;
  named = it.named;
  whole = it.whole;
  found = found_by by (subst (λ (p : Path). IsFoundOfHand by job at source (inside root (in_root p)) finding) (mine.told.to ∙ it.place) found);
}
  where
    there : Tree
    there = inside root (in_root (place_of job.layout object.id))

    rows_are : at.rows.now ≡ rows_of job.algorithm it.files
    rows_are = mine.rows ∙ it.rows

    at_is : at.told.at ≡ it.inner.at
    at_is = mine.told.at ∙ sym it.at

    stored_is : stored_files at.rows.now (λ path. bytes_at source (in_pairtree (at.told.at ++ path)))
        ≡ stored_files (rows_of job.algorithm it.files) (bytes_in it.files)
    stored_is = (λ i. stored_files (mine.rows i) (λ path. bytes_at source (in_pairtree (at_is i ++ path)))) ∙ it.stored
        ∙ ap (λ l. stored_files l (bytes_in it.files)) it.rows

    sought_is : sought_at_hand job at source ≡ sought (job_of job) object.id it.files
    sought_is = λ i. record {
      algorithm = job.algorithm;
      text_with = λ meta. inventory_text (mine.told.id i) (rows_are i) meta job.algorithm;
      stored = stored_is i;
    }

    paths_are : row_paths at.rows.now ≡ paths_of it.files
    paths_are = ap row_paths rows_are ∙ paths_of_rows job.algorithm it.files

    found_by : (by : CompareBy) → IsFoundOfHand by job at source there finding → IsFoundBy by (job_of job) object.id it.files there finding
    found_by Bytes found = subst (λ (w : Sought). IsFound w there finding) sought_is found
    found_by Lengths found =
        other_bytes job.algorithm object.id (paths_of it.files) (λ path. bytes_at source (in_pairtree (it.inner.at ++ path))) (bytes_in it.files) there finding
        it.bytes
        (subst (λ (p : Path). IsQuickOf job.algorithm object.id (paths_of it.files) (λ path. bytes_at source (in_pairtree (p ++ path))) there finding) at_is
        (subst (λ (l : List Path). IsQuickOf job.algorithm object.id l (λ path. bytes_at source (in_pairtree (at.told.at ++ path))) there finding) paths_are
        (subst (λ (id : List ℕ). IsQuickOf job.algorithm id (row_paths at.rows.now) (λ path. bytes_at source (in_pairtree (at.told.at ++ path))) there finding)
        mine.told.id found)))

-- its line
line_is : (by : CompareBy) {object : Object} {s : State} {at : hand.ObjectAtHand} (twin : Bool) (finding : Comparison) → IsOf object s at
    → audit.line_text (audit.line_by by (audit.told_of at.told) twin finding)
    ≡ audit.line_text (audit.line_by by (record {
      at = path_of_source object s.trail;
      bytes = min (bytes_in_rows s.rows) greatest_count;
      empty = object.empty;
      files = length s.rows;
      id = object.id;
      to = object.place;
    }) twin finding)
line_is by twin finding mine = λ i. audit.line_text (audit.line_by by (record
    { at = mine.told.at i; bytes = mine.told.bytes i; empty = mine.told.empty i; files = mine.told.files i; id = mine.told.id i; to = mine.told.to i }) twin
    finding)

-- whether it is a twin is told only where it differs
line_so : (by : CompareBy) (told : audit.Told) (twin : Bool) (finding : Comparison)
    → audit.line_by by told (is_differing finding && twin) finding ≡ audit.line_by by told twin finding
line_so by told twin found.Same = refl
line_so by told twin found.Absent = refl
line_so by told twin (found.Differs difference) = refl

-- its line was put, and it is counted
pub told_object : {by : CompareBy} (told again : Option Reading) (source root : Option Forest) (first now new : Option (List ℕ)) (counts : Counts) (r : Running)
    (at : hand.ObjectAtHand) (finding : Comparison) (twin : Bool) (text : List ℕ) (job : own.Job) (later : Counts) → job ≡ r.state.job
    → later ≡ counts_with finding counts → sight_at r.phase ≡ sight.Object → tree_in told ≡ source → tree_in again ≡ tree_in told
    → IsHand r at → IsFoundAtHand by job at source root finding → IsTwinAtHand source r at.told.id.now finding twin
    → text ≡ audit.line_text (audit.line_by by (audit.told_of at.told) twin finding) → Appends now new text
    → IsSeen told (start_over by source root first) now counts r → IsUnderWay again (start_over by source root first) new later r
told_object {by} told again source root first now new counts r at finding twin text job later job_is counted_is is tree same mine found_there twin_there
    line puts it = record {
      count = it.count;
      is = source_again is same it.is;
      so_far = subst (λ (k : Counts). HasToldOf (job_of r.state.job) (start_over by source root first) new (items_through r.phase it.count) (counted k r))
          (sym counted_is) (λ s e o f old g.
          let told_is = reading_of told (tree ∙ e) in
          let had = it.so_far s e o f old g in
          let item = subst (λ (t : Forest). HasAtHand (job_of r.state.job) t it.count here.0 (held_of r.state [])) told_is.2
          (subst (λ (n : ℕ). HasAtHand (job_of r.state.job) told_is.0.tree n here.0 (held_of r.state [])) it.is.seen (at_hand_there told_is.0 told_is.1)) in
          subst (λ (n : ℕ). HasTold by (job_of r.state.job) s o old new n (counted (counts_with finding counts) r))
          (sym (ap (λ (p : Phase). items_through p it.count) here.1)) (
            had.0 ++ text,
            put_behind old had.0 text now new had.1 puts,
            subst (λ (k : Counts). Told by (job_of r.state.job) s o (suc it.count) (had.0 ++ text) k) (counts_are finding)
                (Next item.item had.2 item.is
                (subst (λ (l : List Line). TellsOf by (job_of r.state.job) s o item.item l text (counted counts r) (counts_with finding (counted counts r)))
                (sym item.lines_are)
                (subst (λ (t : List ℕ). TellsOf by (job_of r.state.job) s o item.item (done_line here.0 (held_of r.state []) ∷ []) t (counted counts r)
                (counts_with finding (counted counts r))) (sym (line ∙ ap (λ (b : Bool). audit.line_text (audit.line_by by (audit.told_of at.told) b finding))
                (twin_is s e item.item.path item.site) ∙ ap audit.line_text
                (line_so by (audit.told_of at.told) (is_twin (job_of r.state.job) s item.item.path here.0.id) finding)
                ∙ line_is by (is_twin (job_of r.state.job) s item.item.path here.0.id) finding of))
                (Finds finding (found_of by refl item of (is_found s e o f)))))),
          ));
      opened = λ later. it.opened (ap is_before_sites here.1);
    }
  where
    here : (object : Object) × (r.phase ≡ phase.Carrying object stage.Line)
    here = object_at_hand r.phase is

    is_found : IsFoundAtHand by r.state.job at source root finding
    is_found = subst (λ (j : own.Job). IsFoundAtHand by j at source root finding) job_is found_there

    of : IsOf here.0 r.state at
    of = subst (λ (p : Phase). IsHandAt p r.state at) here.1 mine

    twin_is : (s : Forest) → source ≡ Some s → (path : Path) → path ≡ trail_path r.state.trail
        → twin ≡ (is_differing finding && is_twin (job_of r.state.job) s path here.0.id)
    twin_is s e path at_site =
        twin_there s e
        ∙ ap (λ (p : Path). is_differing finding && is_twin (job_of r.state.job) s p at.told.id.now) (sym at_site)
        ∙ ap (λ (id : List ℕ). is_differing finding && is_twin (job_of r.state.job) s path id) of.told.id

    at_hand_there : (s : Reading) → told ≡ Some s → HasAtHand (job_of r.state.job) s.tree it.is.past.count here.0 (held_of r.state [])
    at_hand_there s e =
        let fed = it.is.fed in
        let known = has_at_hand (subst (λ (p : Phase). HeldAt (job_of r.state.job) it.is.past p (held_of r.state fed)) here.1 it.is.is.held)
        (subst (λ (p : Phase). SourcePart (job_of r.state.job) it.is.past p (string_bytes r.state.prefix) (held_of r.state fed) s) here.1 (it.is.is.source s e))
        in
        record {
          item = known.item;
          inner = known.inner;
          files = known.files;
          is = known.is;
          named = known.named;
          whole = known.whole;
          rows = known.rows;
          stored = known.stored;
          bytes = known.bytes;
          digests = known.digests;
          site = known.site;
          at = known.at;
          place = known.place;
          lines_are = known.lines_are;
        }

    counts_are : (f : Comparison) → counts_with f (counted counts r) ≡ counted (counts_with f counts) r
    counts_are found.Same = refl
    counts_are found.Absent = refl
    counts_are (found.Differs _) = refl

-- ---- what was found

abbrev sought_from : own.Job → hand.ObjectAtHand → List ℕ → Path → Forest → Sought
sought_from job at id from s = record {
  algorithm = job.algorithm;
  text_with = λ meta. inventory_text id at.rows.now meta job.algorithm;
  stored = stored_files at.rows.now (λ path. bytes_at s (from ++ path));
}

-- what was found of the object that was compared is what was found of the one at hand
pub found_at_hand : (job : own.Job) (at : hand.ObjectAtHand) (id : List ℕ) (from to : Path) (source root : Option Forest) (result : Result Comparison Fault)
    → id ≡ at.told.id.now → from ≡ in_pairtree at.told.at → to ≡ in_root at.told.to.now
    → IfOk result (λ finding. ForSome source (λ s. ForSome root (λ r. IsFound (sought_from job at id from s) (inside r to) finding)))
    → IfOk result (IsFoundAtHand Bytes job at source root)
found_at_hand job at id from to source root (Err why) id_is from_is to_is is_found = tt
found_at_hand job at id from to source root (Ok finding) id_is from_is to_is is_found = λ s e r f.
    subst (λ (w : Sought). IsFound w (inside r (in_root at.told.to.now)) finding) (sought_is s)
    (subst (λ (p : Path). IsFound (sought_from job at id from s) (inside r p) finding) to_is (is_found s e r f))
  where
    sought_is : (s : Forest) → sought_from job at id from s ≡ sought_at_hand job at s
    sought_is s = λ i. record {
      algorithm = job.algorithm;
      text_with = λ meta. inventory_text (id_is i) at.rows.now meta job.algorithm;
      stored = stored_files at.rows.now (λ path. bytes_at s (from_is i ++ path));
    }

-- and so is what was found of the object that was looked over
pub quick_at_hand : (job : own.Job) (at : hand.ObjectAtHand) (id : List ℕ) (from to : Path) (source root : Option Forest) (result : Result Comparison Fault)
    → id ≡ at.told.id.now → from ≡ in_pairtree at.told.at → to ≡ in_root at.told.to.now
    → IfOk result (λ finding. ForSome source (λ s. ForSome root
    (λ r. IsQuickOf job.algorithm id (row_paths at.rows.now) (λ path. bytes_at s (from ++ path)) (inside r to) finding)))
    → IfOk result (IsFoundAtHand Lengths job at source root)
quick_at_hand job at id from to source root (Err why) id_is from_is to_is is_found = tt
quick_at_hand job at id from to source root (Ok finding) id_is from_is to_is is_found = λ s e r f.
    subst (λ (p : Path). IsQuickOf job.algorithm at.told.id.now (row_paths at.rows.now) (λ path. bytes_at s (in_pairtree (at.told.at ++ path)))
    (inside r p) finding) to_is
    (subst (λ (p : Path). IsQuickOf job.algorithm at.told.id.now (row_paths at.rows.now) (λ path. bytes_at s (p ++ path)) (inside r to) finding) from_is
    (subst (λ (i : List ℕ). IsQuickOf job.algorithm i (row_paths at.rows.now) (λ path. bytes_at s (from ++ path)) (inside r to) finding) id_is
    (is_found s e r f)))

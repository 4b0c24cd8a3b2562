-- An audit goes from step to step, from its beginning to its end, by what was seen and told of each.
use Rattle.std.proofs.Common.{◌≡◌, ◌⊎◌, inl, inr, ℕ, Bool, true, false, List, [], ◌++◌, refl, ap, sym, ◌∙◌, subst, append-nil, drop}
use Rattle.std.specs.Prelude.{Option, Some, map}
use Rattle.std.specs.String.{string_bytes}
use Rattle.std.specs.Option.{ForSome}
use Rattle.std.specs.Io.KnownBytes.{Appends}
use Rattle.std.proofs.lemmas.Bool.{true≢false}
use Rattle.std.proofs.lemmas.List.{drop-map}
use Rattle.pt_audit.specs.Auditing.{
  AllToldAs,
  AuditStart,
  EndsAs,
  GoesOn as AuditGoesOn,
  HasSeenAll,
  IsAllTold,
  IsAuditLog,
  Nothing,
  IsAt,
  IsSeen,
  IsUnderWay,
  is_told,
  Told,
  counted,
  last_text,
  start_over,
}
use Rattle.pt_invariant.specs.RunInvariant.{items_through}
use Rattle.pt_audit.specs.Counting.{no_counts}
use Rattle.pt_audit.specs.Layout.{IsOfLayout}
use Rattle.pt_audit.specs.declared.compare_by.CompareBy.{CompareBy}
use Rattle.pt_audit.specs.declared.counts.Counts.{Counts}
use Rattle.pt_invariant.specs.SourceInvariant.{SourceAt, SourcePart}
use Rattle.pt_move.specs.Running.{IsNew, Running}
use Rattle.pt_move.specs.Unmet.{AreUnmet}
use Rattle.pt_move.proofs.Outcomes.{reading_of}
use Rattle.pt_move.proofs.Unmet.{unmet_at_end}
use Rattle.pt_plan.specs.Items.{item_of, items}
use Rattle.pt_plan.specs.Met.{unmet_in_store}
use Rattle.pt_plan.specs.Job.{Job, reach_of}
use Rattle.pt_plan.specs.Store.{prefix_of, sites_of}
use Rattle.pt_plan.specs.declared.phase.Phase.{Phase}
use Rattle.pt_plan.specs.declared.phase.Phase.TheVariants as phase
use Rattle.pt_state.specs.States.{held_of, job_of}
use Rattle.pt_state.specs.declared.job.Job as own
use Rattle.pt_state.specs.declared.job.Report.{Report}
use Rattle.pt_audit.specs.Surveying.{GoesOn, IsSurvey, is_before_sites, is_before_store, Surveys, sight_at}
use Rattle.pt_audit.specs.declared.survey.SurveyEvent.{SurveyEvent}
use Rattle.pt_audit.specs.declared.survey.SurveyEvent.TheVariants as sight
use Rattle.pt_tree.specs.Forest.{Forest}
use Rattle.pt_tree.specs.Source.{Reading, tree_in}
use Rattle.pt_audit.proofs.Telling.{HasTold, end_at, goes_on, goes_on_store, put_behind, seen_after}
use Rattle.pt_audit.proofs.ToldObject.{can_compare, surveys_again}

-- ---- the end

pub seen_all : {by : CompareBy} (told : Option Reading) (source root : Option Forest) (first now : Option (List ℕ)) (counts : Counts) (r : Running)
    → sight_at r.phase ≡ sight.End → tree_in told ≡ source
    → IsSeen told (start_over by source root first) now counts r → HasSeenAll (start_over by source root first) now (counted counts r) r
seen_all {by} told source root first now counts r is tree it = record {
  told = λ s e o f old g.
      let had = it.so_far s e o f old g in
      let told_is = reading_of told (tree ∙ e) in (
        had.0,
        had.1,
        record {
          count = it.count;
          told = had.2;
          all = subst (λ (t : Forest). drop it.count (items (job_of r.state.job) t) ≡ []) told_is.2
              (subst (λ (n : ℕ). drop n (items (job_of r.state.job) told_is.0.tree) ≡ []) it.is.seen
              (drop-map (item_of (job_of r.state.job) (prefix_of told_is.0.tree)) it.is.past.count (sites_of (reach_of (job_of r.state.job)) told_is.0.tree)
              ∙ ap (map (item_of (job_of r.state.job) (prefix_of told_is.0.tree))) (at_end told_is.0 told_is.1).2));
        },
      );
  layout = it.opened (ap is_before_sites (end_at r.phase is));
  prefix = λ s e.
      let told_is = reading_of told (tree ∙ e) in
      (at_end told_is.0 told_is.1).1.read ∙ ap prefix_of told_is.2;
  unmet = λ s e.
      let told_is = reading_of told (tree ∙ e) in
      subst (λ (t : Forest). r.state.unmet ≡ unmet_in_store (job_of r.state.job) t) told_is.2
      (subst (λ (p : Phase). AreUnmet (job_of r.state.job) told_is.0.tree p it.is.past.count r.state.unmet) (end_at r.phase is)
      (it.is.unmet told_is.0 told_is.1)
      ∙ unmet_at_end (job_of r.state.job) told_is.0.tree it.is.past.count (at_end told_is.0 told_is.1).2);
}
  where
    at_end : (s : Reading) → told ≡ Some s → SourceAt (job_of r.state.job) s (string_bytes r.state.prefix) it.is.past.count phase.End
        (held_of r.state it.is.fed)
    at_end s e = (subst (λ (p : Phase). SourcePart (job_of r.state.job) it.is.past p (string_bytes r.state.prefix) (held_of r.state it.is.fed) s)
        (end_at r.phase is) (it.is.is.source s e)).at

-- with the end line behind it
abbrev pub whole_log : {by : CompareBy} {job : Job} {source root : Forest} {text : List ℕ} {counts : Counts} → IsAllTold by job source root text counts
    → IsAuditLog by job source root (text ++ last_text by counts) counts
whole_log {text = text} it = record { count = it.count; lines = text; told = it.told; all = it.all; whole = refl }

pub told_end : (job : Job) (start : AuditStart) (now new : Option (List ℕ)) (counts : Counts) → AllToldAs job start now counts
    → Appends now new (last_text start.by counts) → EndsAs job start new counts
told_end job start now new counts told puts = λ s e r f old g.
    let had = told s e r f old g in
    (had.0 ++ last_text start.by counts, put_behind old had.0 (last_text start.by counts) now new had.1 puts, whole_log had.2)

-- ---- by what was seen

pub at_object : {told : Option Reading} {r : Running} → IsAt told sight.Object r → sight_at r.phase ≡ sight.Object
at_object it = sym it.saw

-- of most steps nothing is told
pub not_told : (what : SurveyEvent) → (what ≡ sight.More) ⊎ ((what ≡ sight.Scan) ⊎ ((what ≡ sight.Opened) ⊎ (what ≡ sight.Block))) → is_told what ≡ false
not_told what (inl is) = ap is_told is
not_told what (inr (inl is)) = ap is_told is
not_told what (inr (inr (inl is))) = ap is_told is
not_told what (inr (inr (inr is))) = ap is_told is

pub on_more : {by : CompareBy} {told : Option Reading} {source root : Option Forest} {first : Option (List ℕ)} (now : Option (List ℕ)) (counts : Counts)
    (r : Running) (what : SurveyEvent) → is_told what ≡ false → IsAt told what r → IsSeen told (start_over by source root first) now counts r
    → IsUnderWay told (start_over by source root first) now counts r
on_more now counts r what more at it = goes_on now counts r what (sym at.saw) more it

pub on_store : {by : CompareBy} {told : Option Reading} {source root : Option Forest} {first : Option (List ℕ)} (now : Option (List ℕ)) (counts : Counts)
    (r : Running) (job : own.Job) → job ≡ r.state.job → ForSome root (IsOfLayout (job_of job)) → IsAt told sight.Store r
    → IsSeen told (start_over by source root first) now counts r → IsUnderWay told (start_over by source root first) now counts r
on_store {root} now counts r job same layout at it = goes_on_store now counts r (sym at.saw)
    (subst (λ (j : own.Job). ForSome root (IsOfLayout (job_of j))) same layout) it

pub on_end : {by : CompareBy} (told : Option Reading) (what : SurveyEvent) (root : Option Forest) (first now : Option (List ℕ)) (counts : Counts) (r : Running)
    → what ≡ sight.End → IsAt told what r → IsSeen told (start_over by (tree_in told) root first) now counts r
    → HasSeenAll (start_over by (tree_in told) root first) now (counted counts r) r
on_end told what root first now counts r end at it = seen_all told (tree_in told) root first now counts r (sym at.saw ∙ end) refl it

-- ---- a step, and what was told of it

pub surveys_on : (told told' : Option Reading) (now new : Option (List ℕ)) (before after : Running) → Surveys told before
    → ((count : ℕ) → IsSurvey told count before → GoesOn (told, now) (told', new) count before after) → Surveys told' after
unfolding Surveys
surveys_on told told' now new before after (count, it) on = let later = on count it in (later.next, later.is)

pub step_told : {by by' : CompareBy} (more : Bool) (told told' told'' : Option Reading) (root root' : Option Forest) (first now new last : Option (List ℕ))
    (counts counts' later : Counts) (before after : Running) → by' ≡ by → counts' ≡ counts → tree_in told' ≡ tree_in told → root' ≡ root
    → (is_before_store before.phase ≡ true → is_before_sites after.phase ≡ true)
    → ((count : ℕ) → IsSurvey told count before → GoesOn (told, now) (told', new) count before after)
    → ((first : Option (List ℕ)) → IsSeen told' (start_over by' (tree_in told') root' first) new counts' after
    → AuditGoesOn more told'' (start_over by' (tree_in told') root' first) last later after)
    → IsUnderWay told (start_over by (tree_in told) root first) now counts before
    → AuditGoesOn more told'' (start_over by (tree_in told) root first) last later after
step_told {by} {by'} more told told' told'' root root' first now new last counts counts' later before after by_is counts_is same stays order on tells it =
    subst (λ (s : Option Forest). AuditGoesOn more told'' (start_over by s root first) last later after) same
    (subst (λ (t : Option Forest). AuditGoesOn more told'' (start_over by (tree_in told') t first) last later after) stays
    (subst (λ (b : CompareBy). AuditGoesOn more told'' (start_over b (tree_in told') root' first) last later after) by_is
    (tells first (subst (λ (b : CompareBy). IsSeen told' (start_over b (tree_in told') root' first) new counts' after) (sym by_is)
    (subst (λ (k : Counts). IsSeen told' (start_over by (tree_in told') root' first) new k after) (sym counts_is)
    (subst (λ (s : Option Forest). IsSeen told' (start_over by s root' first) new counts after) (sym same)
    (subst (λ (t : Option Forest). IsSeen told' (start_over by (tree_in told) t first) new counts after) (sym stays)
    (seen_after told told' (tree_in told) root first now new counts before after refl order it (on it.count it.is)))))))))

-- an audit that is to begin
pub first_step : {by : CompareBy} (job : own.Job) (told : Option Reading) (source root : Option Forest) (first : Option (List ℕ)) (counts : Counts)
    (r : Running) → IsNew job r → IsSurvey told 0 r → counts ≡ no_counts → IsUnderWay told (start_over by source root first) first counts r
first_step {by} job told source root first counts r new it none = record {
  count = 0;
  is = it;
  so_far = λ s e o f old g.
      subst (λ (n : ℕ). HasTold by (job_of r.state.job) s o old first n (counted counts r)) (sym (ap (λ (p : Phase). items_through p 0) new.phase))
      ([], g ∙ ap (λ l. Some l) (sym (append-nil old)), subst (λ (k : Counts). Told by (job_of r.state.job) s o 0 [] k) (sym same) Nothing);
  opened = λ later. absurd (true≢false (sym (ap is_before_store new.phase) ∙ later));
}
  where
    same : counted counts r ≡ no_counts
    same = ap (λ (k : Counts). counted k r) none ∙ ap (λ (c : Report). record no_counts { skipped = c.skipped }) new.counts

pub surveys_first : (told : Option Reading) (count : ℕ) (r : Running) → IsSurvey told count r → Surveys told r
unfolding Surveys
surveys_first told count r it = (count, it)

-- over trees that are the same
pub same_trees : {by by' : CompareBy} (more : Bool) (told : Option Reading) (source source' root root' : Option Forest) (first now : Option (List ℕ))
    (counts : Counts) (r : Running) → more ≡ true → by' ≡ by → source' ≡ source → root' ≡ root
    → AuditGoesOn more told (start_over by source root first) now counts r
    → IsUnderWay told (start_over by' source' root' first) now counts r
same_trees {by} {by'} more told source source' root root' first now counts r is b s o it =
    subst (λ (c : CompareBy). IsUnderWay told (start_over c source' root' first) now counts r) (sym b)
    (subst (λ (t : Option Forest). IsUnderWay told (start_over by t root' first) now counts r) (sym s)
    (subst (λ (t : Option Forest). IsUnderWay told (start_over by source t first) now counts r) (sym o)
    (subst (λ (b : Bool). AuditGoesOn b told (start_over by source root first) now counts r) is it)))

pub same_end : {by by' : CompareBy} (more : Bool) (told : Option Reading) (source source' root root' : Option Forest) (first now : Option (List ℕ))
    (counts result : Counts) (r : Running) → more ≡ false → result ≡ counted counts r → by' ≡ by → source' ≡ source → root' ≡ root
    → AuditGoesOn more told (start_over by source root first) now counts r
    → HasSeenAll (start_over by' source' root' first) now result r
same_end {by} {by'} more told source source' root root' first now counts result r is k b s o it =
    subst (λ (x : Counts). HasSeenAll (start_over by' source' root' first) now x r) (sym k)
    (subst (λ (c : CompareBy). HasSeenAll (start_over c source' root' first) now (counted counts r) r) (sym b)
    (subst (λ (t : Option Forest). HasSeenAll (start_over by t root' first) now (counted counts r) r) (sym s)
    (subst (λ (t : Option Forest). HasSeenAll (start_over by source t first) now (counted counts r) r) (sym o)
    (subst (λ (b : Bool). AuditGoesOn b told (start_over by source root first) now counts r) is it))))

pub ruleset auditing = (surveys_again, can_compare, at_object, on_store, on_end, surveys_on, first_step, same_trees, same_end)

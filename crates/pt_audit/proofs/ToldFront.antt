-- What an audit that breaks off has told: a front of what it would have told.
use Rattle.std.proofs.Common.{◌≡◌, ℕ, ◌+◌, Bool, true, List, ◌++◌, refl, ap, sym, ◌∙◌, subst, arith, append_assoc, length, take}
use Rattle.std.specs.Prelude.{IfOk, OnErr, Option, Some, Result, Ok, Err}
use Rattle.std.specs.Option.{ForSome}
use Rattle.std.specs.Io.KnownBytes.{Appends}
use Rattle.std.proofs.Math.Seq.{take-append-add}
use Rattle.std.proofs.lemmas.List.{append_cancel_left, take_all}
use Rattle.pt_audit.specs.Auditing.{
  AllToldAs,
  AuditStart,
  EndsAs,
  FrontToldAs,
  IsFoundAtHand,
  IsOfItems,
  IsSeen,
  IsTwinAtHand,
  IsUnderWay,
  LogsAs,
  Next,
  OfItems,
  Passes,
  TellsItems,
  TellsOf,
  Told,
  WithEnd,
  counted,
  last_text,
  start_over,
}
use Rattle.pt_invariant.specs.RunInvariant.{items_through}
use Rattle.pt_audit.specs.Counting.{counts_with}
use Rattle.pt_audit.specs.Lines as audit
use Rattle.pt_audit.specs.declared.auditing.ObjectsAudit.{ObjectsAudit}
use Rattle.pt_audit.specs.declared.compare_by.CompareBy.{CompareBy}
use Rattle.pt_audit.specs.declared.counts.Counts.{Counts}
use Rattle.pt_audit.specs.declared.survey.ObjectAtHand.{ObjectAtHand}
use Rattle.pt_audit.specs.declared.survey.SurveyEvent.TheVariants as sight
use Rattle.pt_audit.specs.Surveying.{GoesOn, InSkip, IsHand, IsSurvey, StopsAt, Untold, is_before_sites, is_before_store, sight_at}
use Rattle.pt_audit.proofs.Telling.{HasTold, looking_told, put_behind, seen_after}
use Rattle.pt_audit.proofs.ToldSteps.{told_end, whole_log}
use Rattle.pt_audit.proofs.ToldObject.{told_object}
use Rattle.pt_compare.specs.declared.difference.Comparison.{Comparison}
use Rattle.pt_invariant.proofs.source.InPairtree.{some_same}
use Rattle.pt_move.specs.Running.{Running}
use Rattle.pt_plan.specs.Job.{Job}
use Rattle.pt_plan.specs.Lines.{Line, Skipped, line_text}
use Rattle.pt_plan.specs.declared.fault.Fault.{Fault}
use Rattle.pt_plan.specs.declared.phase.Phase.{Phase}
use Rattle.pt_state.specs.States.{job_of}
use Rattle.pt_state.specs.declared.job.Job as own
use Rattle.pt_tree.specs.Forest.{Forest}
use Rattle.pt_tree.specs.Log.{AppendsFront}
use Rattle.pt_tree.specs.Source.{Reading, tree_in}

-- ---- over bytes

-- a front of a text that is put behind the one that was told
pub front_put : (old text more : List ℕ) (now new : Option (List ℕ)) → now ≡ Some (old ++ text) → AppendsFront now new more
    → (n : ℕ) × (new ≡ Some (old ++ take n (text ++ more)))
front_put old text more now new told (k, puts) = (
  length text + k,
  put_behind old text (take k more) now new told puts ∙ ap (λ t. Some (old ++ t)) (sym (take-append-add text more k)),
)

module _ (by : CompareBy) (job : Job) (source root : Forest) (old : List ℕ) where
  -- the log got a front of what is told
  abbrev HasFront : Option (List ℕ) → Type 0
  HasFront new = (n : ℕ) × (text : List ℕ) × (new ≡ Some (old ++ take n text)) × IsOfItems by job source root text

  -- nothing but what was told
  front_told : (text : List ℕ) (now : Option (List ℕ)) {count : ℕ} {counts : Counts} → now ≡ Some (old ++ text) → Told by job source root count text counts
      → HasFront now
  front_told text now told lines = (length text, text, told ∙ ap (λ t. Some (old ++ t)) (sym (take_all (length text) text (omega arith))), (_, _, lines))

  -- and a front of a text with which it would be what is told
  front_would : (text more whole : List ℕ) (now new : Option (List ℕ)) → now ≡ Some (old ++ text) → AppendsFront now new more
      → Some ((old ++ text) ++ more) ≡ Some (old ++ whole) → IsOfItems by job source root whole → HasFront new
  front_would text more whole now new told put would is =
      let front = front_put old text more now new told put in
      let same : whole ≡ text ++ more = append_cancel_left old whole (text ++ more) (sym (some_same ((old ++ text) ++ more) (old ++ whole) would)
      ∙ append_assoc old text more) in
      (front.0, text ++ more, front.1, subst (IsOfItems by job source root) same is)

  -- as a step of the survey left it
  front_stopped : (here : Phase) (count : ℕ) (counts : Counts) (now new : Option (List ℕ)) → HasTold by job source root old now count counts
      → StopsAt job source count here now new → HasFront new
  front_stopped here count counts now new (text, told, lines) (Untold same) = front_told text new (same ∙ told) lines
  front_stopped here count counts now new (text, told, lines) (InSkip looks at why it put) =
      let more = line_text (Skipped at why) in
      let front = front_put old text more now new told put in (
        front.0,
        text ++ more,
        front.1,
        (
          _,
          _,
          Next it.item lines it.is
              (subst (λ (l : List Line). TellsOf by job source root it.item l more counts (record counts { skipped = counts.skipped + 1 })) (sym it.lines_are)
              (Passes at why)),
        ),
      )

-- ---- over an audit

-- a step of the survey broke off
pub step_stops : {by : CompareBy} (told : Option Reading) (root : Option Forest) (first now new : Option (List ℕ)) (counts : Counts) (before : Running)
    → ((count : ℕ) → IsSurvey told count before → ForSome (tree_in told) (λ f. StopsAt (job_of before.state.job) f count before.phase now new))
    → IsUnderWay told (start_over by (tree_in told) root first) now counts before
    → FrontToldAs (job_of before.state.job) (start_over by (tree_in told) root first) new
step_stops {by} told root first now new counts before stops it = λ s e r f old g.
    stops_at s r old (stops it.count it.is s e) (it.so_far s e r f old g)
  where
    stops_at : (s r : Forest) (old : List ℕ) → StopsAt (job_of before.state.job) s it.count before.phase now new
        → HasTold by (job_of before.state.job) s r old now (items_through before.phase it.count) (counted counts before)
        → HasFront by (job_of before.state.job) s r old new
    stops_at s r old (Untold same) (text, told, lines) = front_told by (job_of before.state.job) s r old text new (same ∙ told) lines
    stops_at s r old (InSkip looks at why item put) (text, told, lines) =
        front_stopped by (job_of before.state.job) s r old before.phase it.count (counted counts before) now new
        (text, told, subst (λ (n : ℕ). Told by (job_of before.state.job) s r n text (counted counts before)) (looking_told before.phase it.count looks) lines)
        (InSkip looks at why item put)

-- nothing is told of what a step came to
pub seen_stops : {by : CompareBy} {told : Option Reading} {source root : Option Forest} {first : Option (List ℕ)} (now : Option (List ℕ)) (counts : Counts)
    (r : Running) → IsSeen told (start_over by source root first) now counts r → FrontToldAs (job_of r.state.job) (start_over by source root first) now
seen_stops {by} now counts r it = λ s e o f old g. let had = it.so_far s e o f old g in front_told by (job_of r.state.job) s o old had.0 now had.1 had.2

-- after a step of the survey the root couldn't be read as far
pub follow_stops : {by : CompareBy} (told told' : Option Reading) (root : Option Forest) (first now new : Option (List ℕ)) (counts : Counts)
    (before after : Running) → tree_in told' ≡ tree_in told → (is_before_store before.phase ≡ true → is_before_sites after.phase ≡ true)
    → ((count : ℕ) → IsSurvey told count before → GoesOn (told, now) (told', new) count before after)
    → IsUnderWay told (start_over by (tree_in told) root first) now counts before
    → FrontToldAs (job_of before.state.job) (start_over by (tree_in told) root first) new
follow_stops {by} told told' root first now new counts before after same order on it =
    let went = on it.count it.is in
    subst (λ (j : own.Job). FrontToldAs (job_of j) (start_over by (tree_in told) root first) new) went.job
    (seen_stops new counts after (seen_after told told' (tree_in told) root first now new counts before after refl order it went))

-- a front of the line of the object at hand was put
pub object_stops : {by : CompareBy} (told : Option Reading) (root : Option Forest) (first now new : Option (List ℕ)) (counts : Counts) (r : Running)
    (at : ObjectAtHand) (finding : Comparison) (twin : Bool) (text : List ℕ) (job : own.Job) → job ≡ r.state.job → sight_at r.phase ≡ sight.Object
    → IsHand r at → IsFoundAtHand by job at (tree_in told) root finding → IsTwinAtHand (tree_in told) r at.told.id.now finding twin
    → text ≡ audit.line_text (audit.line_by by (audit.told_of at.told) twin finding) → AppendsFront now new text
    → IsSeen told (start_over by (tree_in told) root first) now counts r → FrontToldAs (job_of r.state.job) (start_over by (tree_in told) root first) new
object_stops {by} told root first now new counts r at finding twin text job job_is is mine found twin_there line put it = λ s e o f old g.
    let had = it.so_far s e o f old g in
    let would = (told_object told told (tree_in told) root first now (Some ((old ++ had.0) ++ text)) counts r at finding twin text job
    (counts_with finding counts) job_is refl is refl refl mine found twin_there line
    (subst (λ (l : Option (List ℕ)). Appends l (Some ((old ++ had.0) ++ text)) text) (sym had.1) refl) it).so_far s e o f old g in
    front_would by (job_of r.state.job) s o old had.0 text would.0 now new had.1 put would.1 (_, _, would.2)

-- ---- what a step of an audit says that breaks off

pub at_err : {T X : Type 0} (answer : Result T Fault) (why : Fault) → answer ≡ Err why → X → OnErr answer X
at_err {T} {X} answer why is it = subst (λ (a : Result T Fault). OnErr a X) (sym is) it

-- over trees that are the same, by the same job, and by what is compared
pub same_stops : {T : Type 0} {by by' : CompareBy} (answer : Result T Fault) (why : Fault) (job job' : own.Job) (source source' root root' : Option Forest)
    (first now : Option (List ℕ)) → answer ≡ Err why → job' ≡ job → by' ≡ by → source' ≡ source → root' ≡ root
    → FrontToldAs (job_of job') (start_over by' source' root' first) now → OnErr answer (FrontToldAs (job_of job) (start_over by source root first) now)
same_stops {by} {by'} answer why job job' source source' root root' first now is j b s o it =
    at_err answer why is
    (subst (λ (x : own.Job). FrontToldAs (job_of x) (start_over by source root first) now) j
    (subst (λ (c : CompareBy). FrontToldAs (job_of job') (start_over c source root first) now) b
    (subst (λ (t : Option Forest). FrontToldAs (job_of job') (start_over by' t root first) now) s
    (subst (λ (t : Option Forest). FrontToldAs (job_of job') (start_over by' source' t first) now) o it))))

-- a step was made, and of what it came to not all was told
pub tell_stops : {by by' : CompareBy} (told told' : Option Reading) (root root' : Option Forest) (first now new last : Option (List ℕ))
    (counts counts' : Counts) (before after : Running) → by' ≡ by → counts' ≡ counts
    → tree_in told' ≡ tree_in told → root' ≡ root → (is_before_store before.phase ≡ true → is_before_sites after.phase ≡ true)
    → ((count : ℕ) → IsSurvey told count before → GoesOn (told, now) (told', new) count before after)
    → ((first : Option (List ℕ)) → IsSeen told' (start_over by' (tree_in told') root' first) new counts' after
    → FrontToldAs (job_of after.state.job) (start_over by' (tree_in told') root' first) last)
    → IsUnderWay told (start_over by (tree_in told) root first) now counts before
    → FrontToldAs (job_of before.state.job) (start_over by (tree_in told) root first) last
tell_stops {by} {by'} told told' root root' first now new last counts counts' before after by_is counts_is same stays order on stops it =
    let went = on it.count it.is in
    subst (λ (j : own.Job). FrontToldAs (job_of j) (start_over by (tree_in told) root first) last) went.job
    (subst (λ (t : Option Forest). FrontToldAs (job_of after.state.job) (start_over by (tree_in told) t first) last) stays
    (subst (λ (t : Option Forest). FrontToldAs (job_of after.state.job) (start_over by t root' first) last) same
    (subst (λ (b : CompareBy). FrontToldAs (job_of after.state.job) (start_over b (tree_in told') root' first) last) by_is
    (stops first (subst (λ (b : CompareBy). IsSeen told' (start_over b (tree_in told') root' first) new counts' after) (sym by_is)
    (subst (λ (k : Counts). IsSeen told' (start_over by (tree_in told') root' first) new k after) (sym counts_is)
    (subst (λ (t : Option Forest). IsSeen told' (start_over by t root' first) new counts after) (sym same)
    (subst (λ (t : Option Forest). IsSeen told' (start_over by (tree_in told) t first) new counts after) (sym stays)
    (seen_after told told' (tree_in told) root first now new counts before after refl order it went)))))))))

-- ---- what a whole audit says of its log

pub items_stopped : (result : Result ObjectsAudit Fault) (why : Fault) (job : Job) (start : AuditStart) (now : Option (List ℕ)) → result ≡ Err why
    → FrontToldAs job start now → TellsItems job start now result
items_stopped result why job start now is front = subst (TellsItems job start now) (sym is) front

-- it broke off before its end line
pub logs_before : (result : Result Counts Fault) (why : Fault) (job : Job) (start : AuditStart) (now : Option (List ℕ)) → result ≡ Err why
    → FrontToldAs job start now → LogsAs job start now result
logs_before result why job start now is front = subst (LogsAs job start now) (sym is)
    (λ s e r f old g. let had = front s e r f old g in (had.0, had.1, had.2, OfItems had.3))

-- or it put that, or a front of it
pub logs_end : (result : Result Counts Fault) (job : Job) (start : AuditStart) (now new : Option (List ℕ)) (counts : Counts) → AllToldAs job start now counts
    → IfOk result (λ told. (told ≡ counts) × Appends now new (last_text start.by counts)) → OnErr result (AppendsFront now new (last_text start.by counts))
    → LogsAs job start new result
logs_end (Ok told) job start now new counts all puts front = subst (EndsAs job start new) (sym puts.0)
    (told_end job start now new counts all puts.1)
logs_end (Err why) job start now new counts all puts front = λ s e r f old g.
    let had = all s e r f old g in
    let put = front_put old had.0 (last_text start.by counts) now new had.1 front in
    (put.0, had.0 ++ last_text start.by counts, put.1, WithEnd (whole_log had.2))

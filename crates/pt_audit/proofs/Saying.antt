-- What the faults of an audit say, and whom they blame.
use Rattle.std.proofs.Common.{◌≡◌, ◌≢◌, ◌⊎◌, ℕ, zero, suc, Bool, true, false, refl, ap, sym, ◌∙◌, subst, arith, inl, inr}
use Rattle.std.specs.Prelude.{IfErr, Option, Some, Result, Ok, Err}
use Rattle.std.specs.String.{string_bytes}
use Rattle.std.specs.Option.{ForSome}
use Rattle.pt_audit.specs.declared.auditing.StepReport.{StepReport}
use Rattle.pt_audit.specs.Auditing.{IsAt}
use Rattle.pt_audit.specs.Failing.{AuditSays, BlamesRightly, FailsAs, ReadFailsAs, RootFailsAs, TellFails, failures}
use Rattle.pt_audit.specs.Layout.{IsOfAnother, TellsLayout}
use Rattle.pt_invariant.specs.SourceInvariant.{SourcePart}
use Rattle.pt_plan.specs.declared.fault.Fault.{Fault}
use Rattle.pt_name.specs.Tuples.{IsLayout}
use Rattle.std.proofs.lemmas.Bool.{true≢false}
use Rattle.pt_move.specs.Outcome.{SaysRightly}
use Rattle.pt_move.specs.Running.{IsNew, Running}
use Rattle.pt_move.proofs.Outcomes.{reading_of}
use Rattle.pt_plan.specs.Store.{has_prefix, is_store}
use Rattle.pt_plan.specs.Turn.{HasFailed}
use Rattle.pt_plan.specs.DeviceStates.{Failures}
use Rattle.pt_plan.specs.declared.fault.Fault.TheVariants as fault
use Rattle.pt_plan.specs.declared.phase.Phase.{Phase}
use Rattle.pt_plan.specs.declared.phase.Opening.TheVariants as opening
use Rattle.pt_plan.specs.declared.phase.Phase.TheVariants as phase
use Rattle.pt_plan.specs.declared.phase.Stage.TheVariants as stage
use Rattle.pt_state.specs.States.{held_of, job_of}
use Rattle.pt_state.specs.declared.job.Job as own
use Rattle.pt_audit.specs.Surveying.{IsSurvey, SurveySays, is_of_dest, Surveys, sight_at}
use Rattle.pt_audit.specs.declared.survey.SurveyEvent.{SurveyEvent}
use Rattle.pt_audit.specs.declared.survey.SurveyEvent.TheVariants as sight
use Rattle.pt_tree.specs.Failures.{HasRisen}
use Rattle.pt_tree.specs.Forest.{Forest}
use Rattle.pt_tree.specs.Source.{Reading, tree_in}

-- ---- what they say

-- a device's fault and want of memory say nothing of source and root
pub says_failed : (job : own.Job) (source root : Option Forest) (why : Fault) (old new : Failures) → HasFailed why old new → AuditSays job source root why
unfolding SaysRightly
says_failed job source root fault.Source old new it = record {
  rightly = (λ s e. tt, λ t e. absurd (cc), λ s t e f. absurd (cc));
  target = λ is. absurd (cc);
  staging = λ is. absurd (cc);
  turns = λ is. absurd (cc);
  ended = λ is. absurd (cc);
}
says_failed job source root fault.Dest old new it = record {
  rightly = (λ s e. tt, λ t e. absurd (cc), λ s t e f. absurd (cc));
  target = λ is. absurd (cc);
  staging = λ is. absurd (cc);
  turns = λ is. absurd (cc);
  ended = λ is. absurd (cc);
}
says_failed job source root fault.Log old new it = record {
  rightly = (λ s e. tt, λ t e. absurd (cc), λ s t e f. absurd (cc));
  target = λ is. absurd (cc);
  staging = λ is. absurd (cc);
  turns = λ is. absurd (cc);
  ended = λ is. absurd (cc);
}
says_failed job source root fault.Memory old new it = record {
  rightly = (λ s e. tt, λ t e. absurd (cc), λ s t e f. absurd (cc));
  target = λ is. absurd (cc);
  staging = λ is. absurd (cc);
  turns = λ is. absurd (cc);
  ended = λ is. absurd (cc);
}
says_failed job source root _ old new it = absurd it

-- what a survey says
pub says_survey : (job : own.Job) (here : Phase) (source root : Option Forest) (f : Fault) → here ≢ phase.End → SurveySays job here source f
    → AuditSays job source root f
says_survey job here source root f more says = record {
  rightly = says.rightly;
  target = λ is. absurd (true≢false (sym (ap is_of_dest is) ∙ says.no_dest));
  staging = λ is. absurd (true≢false (sym (ap is_of_dest is) ∙ says.no_dest));
  turns = says.turns;
  ended = λ is. more (says.ended is);
}

-- a survey that is to begin isn't at its end
pub begun_is_not_over : {job : own.Job} {r : Running} → IsNew job r → r.phase ≢ phase.End
begun_is_not_over new end = let both : (phase.Opening opening.Begin) ≡ phase.End = sym new.phase ∙ end in absurd (cc)

-- nor is one that saw something else by its last step
abbrev is_end : SurveyEvent → Bool
is_end sight.End = true
is_end _ = false

not_over : {what other : SurveyEvent} (r : Running) → what ≡ sight_at r.phase → what ≡ other → is_end other ≡ false → r.phase ≢ phase.End
not_over r saw is more end = true≢false (sym (ap is_end (sym is ∙ saw ∙ ap sight_at end)) ∙ more)

pub store_is_not_over : {what : SurveyEvent} (r : Running) → what ≡ sight_at r.phase → what ≡ sight.Store → r.phase ≢ phase.End
store_is_not_over r saw is = not_over r saw is refl

pub object_is_not_over : {what : SurveyEvent} (r : Running) → what ≡ sight_at r.phase → what ≡ sight.Object → r.phase ≢ phase.End
object_is_not_over r saw is = not_over r saw is refl

pub more_is_not_over : {what : SurveyEvent} (r : Running) → what ≡ sight_at r.phase
    → (what ≡ sight.More) ⊎ ((what ≡ sight.Scan) ⊎ ((what ≡ sight.Opened) ⊎ (what ≡ sight.Block))) → r.phase ≢ phase.End
more_is_not_over r saw (inl is) = not_over r saw is refl
more_is_not_over r saw (inr (inl is)) = not_over r saw is refl
more_is_not_over r saw (inr (inr (inl is))) = not_over r saw is refl
more_is_not_over r saw (inr (inr (inr is))) = not_over r saw is refl

-- the layout that a survey has
pub has_layout : (told : Option Reading) (what : SurveyEvent) (r : Running) (job : own.Job) → job ≡ r.state.job → IsAt told what r → IsLayout job.layout
unfolding Surveys
has_layout told what r job same at = subst (λ (j : own.Job). IsLayout j.layout) (sym same) at.under_way.1.is.layout

-- a root of another layout is told only of a store with a good prefix
store_at : (here : Phase) → sight_at here ≡ sight.Store → here ≡ phase.Opening opening.OpenRoot
store_at (phase.Opening opening.OpenRoot) is = refl
store_at (phase.Carrying object (stage.Read zero)) is = absurd (cc)
store_at (phase.Carrying object (stage.Read (suc bytes))) is = absurd (cc)
store_at _ is = absurd (cc)

pub says_layout : (told : Option Reading) (root : Option Forest) (r : Running) (why : Fault) (old new : ℕ) → (job : own.Job) → job ≡ r.state.job
    → IsAt told sight.Store r → ForSome root (TellsLayout {T = Unit {0}} (job_of job) (Err why)) → RootFailsAs {T = Unit {0}} (Err why) old new
    → AuditSays r.state.job (tree_in told) root why
unfolding SaysRightly Surveys
says_layout told root r fault.Dest old new job same at layout it = says_failed r.state.job (tree_in told) root fault.Dest (failures 0 old 0) (failures 0 new 0)
    (refl, it, refl)
says_layout told root r fault.Memory old new job same at layout it = says_failed r.state.job (tree_in told) root fault.Memory (failures 0 old 0)
    (failures 0 old 0) refl
says_layout told root r fault.Target old new job same at layout it = record {
  rightly = (λ s e. started s e at.under_way, λ t e. absurd (cc), λ s t e f. absurd (cc));
  target = λ is. subst (λ (j : own.Job). ForSome root (IsOfAnother (job_of j))) same layout;
  staging = λ is. absurd (cc);
  turns = λ is. absurd (cc);
  ended = λ is. absurd (cc);
}
  where
    started : (s : Forest) → tree_in told ≡ Some s → (count : ℕ) × IsSurvey told count r → (is_store s ≡ true) × (has_prefix s ≡ true)
    started s e (count, it) =
        let had = reading_of told e in
        let part = subst (λ (p : Phase). SourcePart (job_of r.state.job) it.past p (string_bytes r.state.prefix) (held_of r.state it.fed) had.0)
        (store_at r.phase (sym at.saw)) (it.is.source had.0 had.1) in
        subst (λ (t : Forest). (is_store t ≡ true) × (has_prefix t ≡ true)) had.2 (part.at.2.store, part.at.2.good)
says_layout told root r _ old new job same at layout it = absurd it

pub layout_fails : (why : Fault) (a b c old new : ℕ) → RootFailsAs {T = Unit {0}} (Err why) old new
    → TellFails {T = StepReport} (Err why) (failures a old c) (failures a new c)
layout_fails fault.Dest a b c old new it = inl (refl, it, refl)
layout_fails fault.Memory a b c old new it = inl (ap (λ (n : ℕ). failures a n c) it)
layout_fails fault.Target a b c old new it = inr (refl, ap (λ (n : ℕ). failures a n c) it)
layout_fails _ a b c old new it = absurd it

-- what is read beside alone
pub read_fails : (why : Fault) (a b c a' c' new : ℕ) → a' ≡ a → c' ≡ c → ReadFailsAs {T = Unit {0}} (Err why) b new
    → BlamesRightly {T = SurveyEvent} (failures a b c) (failures a' new c') (Err why)
read_fails fault.Dest a b c a' c' new sa sc it = record { source = sa; root = it; log = sc }
read_fails fault.Memory a b c a' c' new sa sc it = record { source = sa; root = it; log = sc }
read_fails _ a b c a' c' new sa sc it = absurd it

pub says_read : (job : own.Job) (source root : Option Forest) (why : Fault) (old new : ℕ) → ReadFailsAs {T = Unit {0}} (Err why) old new
    → AuditSays job source root why
says_read job source root fault.Dest old new it = says_failed job source root fault.Dest (failures 0 old 0) (failures 0 new 0) (refl, it, refl)
says_read job source root fault.Memory old new it = says_failed job source root fault.Memory (failures 0 0 0) (failures 0 0 0) refl
says_read job source root _ old new it = absurd it

-- the log's calls alone
pub log_fails : (why : Fault) (a b old new : ℕ) → FailsAs {T = Unit {0}} (Err why) (failures 0 0 old) (failures 0 0 new)
    → HasFailed why (failures a b old) (failures a b new)
log_fails fault.Source a b old new it = (rose it.0, refl, it.2)
  where
    rose : HasRisen 0 0 → HasRisen a a
    rose it = absurd (omega (arith, it))
log_fails fault.Dest a b old new it = (refl, rose it.1, it.2)
  where
    rose : HasRisen 0 0 → HasRisen b b
    rose it = absurd (omega (arith, it))
log_fails fault.Log a b old new it = (refl, refl, it.2)
log_fails fault.Memory a b old new it = ap (λ (f : Failures). failures a b f.log) it
log_fails _ a b old new it = absurd it

-- ---- whom they blame

pub same_failures : {a b c a' b' c' : ℕ} {x : Bool} → BlamesRightly {T = Bool} (failures a b c) (failures a' b' c') (Ok x) → failures a' b' c' ≡ failures a b c
same_failures it = λ i. failures (it.source i) (it.root i) (it.log i)

-- whom an answer blames whose calls fail so
pub blames_by : {T : Type 0} (result : Result T Fault) (old new : Failures) → FailsAs result old new → BlamesRightly old new result
blames_by (Ok x) old new it = record {
  source = ap (λ (f : Failures). f.source) it;
  root = ap (λ (f : Failures). f.dest) it;
  log = ap (λ (f : Failures). f.log)
      it;
}
blames_by (Err fault.Source) old new it = record { source = it.0; root = it.1; log = it.2 }
blames_by (Err fault.Dest) old new it = record { source = it.0; root = it.1; log = it.2 }
blames_by (Err fault.Log) old new it = record { source = it.0; root = it.1; log = it.2 }
blames_by (Err fault.Memory) old new it = record {
  source = ap (λ (f : Failures). f.source) it;
  root = ap (λ (f : Failures). f.dest) it;
  log = ap
      (λ (f : Failures). f.log) it;
}
blames_by (Err _) old new it = absurd it

-- and what they say
pub says_by : {T : Type 0} (result : Result T Fault) (job : own.Job) (source root : Option Forest) (old new : Failures) → FailsAs result old new
    → IfErr result (AuditSays job source root)
says_by (Ok x) job source root old new it = tt
says_by (Err why) job source root old new it = says_failed job source root why old new it

-- whom both blame
pub blames_told : (why : Fault) (a b c a' b' c' a'' b'' c'' : ℕ) → a' ≡ a → b' ≡ b → c' ≡ c
    → TellFails {T = StepReport} (Err why) (failures a' b' c') (failures a'' b'' c'')
    → BlamesRightly {T = Bool} (failures a b c) (failures a'' b'' c'') (Err why)
blames_told why a b c a' b' c' a'' b'' c'' sa sb sc it =
    subst (λ (n : ℕ). BlamesRightly {T = Bool} (failures n b c) (failures a'' b'' c'') (Err why)) sa
    (subst (λ (n : ℕ). BlamesRightly {T = Bool} (failures a' n c) (failures a'' b'' c'') (Err why)) sb
    (subst (λ (n : ℕ). BlamesRightly {T = Bool} (failures a' b' n) (failures a'' b'' c'') (Err why)) sc
    (elim it [ inl failed ↦ by why failed | inr target ↦ not_of target ])))
  where
    by : (why : Fault) → HasFailed why (failures a' b' c') (failures a'' b'' c'')
        → BlamesRightly {T = Bool} (failures a' b' c') (failures a'' b'' c'') (Err why)
    by fault.Source failed = record { source = failed.0; root = failed.1; log = failed.2 }
    by fault.Dest failed = record { source = failed.0; root = failed.1; log = failed.2 }
    by fault.Log failed = record { source = failed.0; root = failed.1; log = failed.2 }
    by fault.Memory failed = record {
      source = ap (λ (f : Failures). f.source) failed;
      root = ap (λ (f : Failures). f.dest) failed;
      log = ap
          (λ (f : Failures). f.log) failed;
    }
    by _ failed = absurd failed

    not_of : (why ≡ fault.Target) × (failures a'' b'' c'' ≡ failures a' b' c') → BlamesRightly {T = Bool} (failures a' b' c') (failures a'' b'' c'') (Err why)
    not_of (is, same) = subst (λ (w : Fault). BlamesRightly {T = Bool} (failures a' b' c') (failures a'' b'' c'') (Err w)) (sym is)
        (record { source = ap (λ (f : Failures). f.source) same; root = ap (λ (f : Failures). f.dest) same; log = ap (λ (f : Failures). f.log) same })

pub ruleset saying = (read_fails, says_read, has_layout, says_failed, says_survey, store_is_not_over, says_layout, layout_fails, log_fails, blames_told)

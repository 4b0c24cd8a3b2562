-- What a step of an audit promises, by what its calls promise.
use Rattle.std.proofs.Common.{◌≡◌, ◌≢◌, ◌∙◌, ℕ, Bool, ap, arith, refl, subst, sym}
use Rattle.std.specs.Prelude.{IfErr, Option, Result, Ok, Err}
use Rattle.pt_audit.specs.AuditSteps.{AuditStates, FailsRightly, KeepsAll, LeavesRoot, SeesStep, StepsOn, StopsSeen, StopsUnderWay, TellsObject, TellsStep}
use Rattle.pt_audit.specs.Failing.{AuditSays, BlamesRightly, FailsAs, TellFails, failures}
use Rattle.pt_audit.specs.Growing.{sides_on}
use Rattle.pt_audit.specs.RootReader.{Saw}
use Rattle.pt_audit.specs.SurveySteps.{MovesOn}
use Rattle.pt_audit.specs.Surveying.{Steps}
use Rattle.pt_audit.specs.declared.auditing.Auditor.{Auditor}
use Rattle.pt_audit.specs.declared.auditing.StepReport.{StepReport}
use Rattle.pt_audit.specs.declared.compare_by.CompareBy.{CompareBy}
use Rattle.pt_audit.specs.declared.compare_by.CompareBy.TheVariants.{Bytes, Lengths}
use Rattle.pt_audit.specs.declared.counts.Counts.{Counts}
use Rattle.pt_audit.specs.declared.survey.SurveyEvent.{SurveyEvent}
use Rattle.pt_move.specs.Counting.{Counts as Blames}
use Rattle.pt_move.specs.Running.{Running}
use Rattle.pt_plan.specs.DeviceStates.{Failures}
use Rattle.pt_plan.specs.Turn.{HasFailed}
use Rattle.pt_plan.specs.declared.fault.Fault.{Fault}
use Rattle.pt_plan.specs.declared.fault.Fault.TheVariants as fault
use Rattle.pt_state.specs.declared.job.Job.{Job}
use Rattle.pt_tree.proofs.Growing.{grows_none, grows_on}
use Rattle.pt_tree.specs.Failures.{HasRisen}
use Rattle.pt_tree.specs.Forest.{Forest}
use Rattle.pt_tree.specs.Source.{tree_in}
use Rattle.pt_tree.specs.declared.log.Log.{Ghosts as OfLog}
use Rattle.pt_tree.specs.declared.source.Source.{Ghosts as OfSource}

-- ---- the devices

module _ {S R L : Type 0} {s : OfSource S} {r : OfSource R} {l : OfLog L} where
  -- those that aren't called stay
  pub all_kept : ((a : S) → s.keeps a a) → ((a : R) → r.keeps a a) → ((a : L) → l.keeps a a) → (devices : S × R × L) → KeepsAll s r l devices devices
  all_kept source root log devices = record {
    sides = record { source = (source devices.0, refl); root = (root devices.1, refl) };
    log = (log devices.2, grows_none _);
  }

  -- so they do after further calls
  pub all_on : ((a b c : S) → s.keeps a b → s.keeps b c → s.keeps a c) → ((a b c : R) → r.keeps a b → r.keeps b c → r.keeps a c)
      → ((a b c : L) → l.keeps a b → l.keeps b c → l.keeps a c) → (a b c : S × R × L) → KeepsAll s r l a b → KeepsAll s r l b c → KeepsAll s r l a c
  all_on source root log a b c first second = record {
    sides = sides_on source root _ _ _ first.sides second.sides;
    log = (log a.2 b.2 c.2 first.log.0 second.log.0, grows_on _ _ _ first.log.1 second.log.1);
  }

-- ---- faults

-- none failed
pub fails_none : {T : Type 0} {x : T} {job : Job} {old new : AuditStates} → new.failures ≡ old.failures → FailsRightly {T = T} job old new (Ok x)
fails_none same = record {
  blames = record {
    source = ap (λ (f : Failures). f.source) same;
    root = ap (λ (f : Failures). f.dest) same;
    log = ap (λ (f : Failures). f.log) same;
  };
  says = tt;
}

-- an answer with the fault of a call
pub fails_err : {T U : Type 0} {job : Job} {old new : AuditStates} (answer : Result U Fault) (why : Fault) → answer ≡ Err why
    → FailsRightly {T = T} job old new (Err why) → FailsRightly job old new answer
fails_err {U = U} {job} {old} {new} answer why is it = subst (λ (a : Result U Fault). FailsRightly job old new a) (sym is)
    (record { blames = record { source = it.blames.source; root = it.blames.root; log = it.blames.log }; says = it.says })

-- what a fault of a call over the same trees says
pub says_on : {T : Type 0} {job other : Job} {source source' root root' : Option Forest} (result : Result T Fault) → other ≡ job → source' ≡ source
    → root' ≡ root → IfErr result (AuditSays other source' root') → IfErr result (AuditSays job source root)
says_on {job = job} {other} {source} {source'} {root} {root'} result j s r says = subst (λ (x : Job). IfErr result (AuditSays x source root)) j
    (subst (λ (t : Option Forest). IfErr result (AuditSays other t root)) s
    (subst (λ (t : Option Forest). IfErr result (AuditSays other source' t)) r says))

-- of such a call, before which none failed
pub fails_on : {T : Type 0} {job other : Job} {old now new : AuditStates} {result : Result T Fault} → other ≡ job → tree_in now.source ≡ tree_in old.source
    → tree_in now.root ≡ tree_in old.root → now.failures ≡ old.failures → FailsRightly other now new result → FailsRightly job old new result
fails_on {new = new} {result} j s r same it = record {
  blames = subst (λ (f : Failures). BlamesRightly f new.failures result) same it.blames;
  says = says_on result j s r it.says;
}

-- nor did any after it
pub fails_after : {T U : Type 0} {x : T} {y : U} {job : Job} {old new : AuditStates} {now : Failures} → BlamesRightly {T = T} old.failures now (Ok x)
    → new.failures ≡ now → FailsRightly {T = U} job old new (Ok y)
fails_after it same = record {
  blames = record {
    source = ap (λ (f : Failures). f.source) same ∙ it.source;
    root = ap (λ (f : Failures). f.dest) same ∙ it.root;
    log = ap (λ (f : Failures). f.log) same ∙ it.log;
  };
  says = tt;
}

-- a device that wasn't called isn't blamed
pub never_dest : (T : Type 0) (why : Fault) (count : ℕ) → why ≢ fault.Dest → Blames {T = T} 2 count count (Err why)
never_dest T fault.Dest count not = absurd (not refl)
never_dest T _ count not = refl

-- whatever count the log has, which wasn't called
pub beside_log : (why : Fault) (a b a' b' count : ℕ) → HasFailed why (failures a b 0) (failures a' b' 0)
    → HasFailed why (failures a b count) (failures a' b' count)
beside_log fault.Source a b a' b' count it = (it.0, it.1, refl)
beside_log fault.Dest a b a' b' count it = (it.0, it.1, refl)
beside_log fault.Log a b a' b' count it = absurd (never it.2)
  where
    never : HasRisen 0 0 → ⊥
    never risen = absurd (omega (arith, risen))
beside_log fault.Memory a b a' b' count it = ap (λ (f : Failures). failures f.source f.dest count) it
beside_log _ a b a' b' count it = absurd it

-- ---- what is told

pub tells_err : {auditor : Auditor} {old new : AuditStates} (answer : Result StepReport Fault) (why : Fault) → answer ≡ Err why
    → TellFails {T = StepReport} (Err why) old.failures new.failures → AuditSays auditor.survey.state.job (tree_in old.source) (tree_in old.root) why
    → StopsSeen auditor old new.log → TellsStep auditor old new answer
tells_err {auditor} {old} {new} answer why is fails says stops = subst (TellsStep auditor old new) (sym is) (record {
  on = λ first it. tt;
  follows = tt;
  ended = tt;
  more = tt;
  fails = fails;
  says = says;
  stops = stops;
})

pub tells_no_object : {auditor : Auditor} {old new : AuditStates} (answer : Result Counts Fault) (why : Fault) → answer ≡ Err why
    → FailsAs {T = Counts} (Err why) old.failures new.failures
    → StopsSeen auditor old new.log → TellsObject auditor old new answer
tells_no_object {auditor} {old} {new} answer why is fails stops = subst (TellsObject auditor old new) (sym is) (record {
  on = λ first it. tt;
  still = tt;
  fails = fails;
  stops = stops;
})

-- ---- a step

pub no_step : {before after : Auditor} {old new : AuditStates} (answer : Result Bool Fault) (why : Fault) → answer ≡ Err why
    → FailsRightly {T = Bool} before.survey.state.job old new (Err why)
    → StopsUnderWay before old new.log → StepsOn before after old new answer
no_step {before} {after} {old} {new} answer why is fails stops = subst (StepsOn before after old new) (sym is) (record {
  on = λ first it. tt;
  by = tt;
  steps = tt;
  follows = tt;
  ended = tt;
  more = tt;
  blamed = fails;
  stops = stops;
})

-- nor was one made of the survey, or the root couldn't be read as far
pub sees_none : {before after : Auditor} {old new : AuditStates} (answer : Result SurveyEvent Fault) (why : Fault) → answer ≡ Err why
    → FailsRightly {T = SurveyEvent} before.survey.state.job old new (Err why)
    → StopsUnderWay before old new.log → SeesStep before after old new answer
sees_none {before} {after} {old} {new} answer why is fails stops = subst (SeesStep before after old new) (sym is) (record {
  keeps = tt;
  on = λ count it. tt;
  saw = tt;
  blamed = fails;
  stops = stops;
})

pub sees_on : {before : Auditor} {old new : AuditStates} (survey : Running) (after : Auditor) (what : SurveyEvent)
    → after ≡ record before { survey = survey; beside = after.beside }
    → MovesOn (old.source, old.log) (new.source, new.log) before.survey (λ (w : SurveyEvent). survey) (Ok what)
    → Steps (tree_in old.source) before.survey survey → Saw new.source new.root after.beside what survey
    → FailsRightly {T = SurveyEvent} before.survey.state.job old new (Ok what) → SeesStep before after old new (Ok what)
sees_on {before} {old} {new} survey after what is on steps saw fails =
    let same : survey ≡ after.survey = sym (ap (λ (a : Auditor). a.survey) is) in record {
      keeps = record { by = ap (λ (a : Auditor). a.by) is; counts = ap (λ (a : Auditor). a.counts) is };
      on = subst (λ (r : Running). MovesOn (old.source, old.log) (new.source, new.log) before.survey (λ (w : SurveyEvent). r) (Ok what)) same on;
      saw = subst (λ (r : Running). Steps (tree_in old.source) before.survey r × Saw new.source new.root after.beside what r) same (steps, saw);
      blamed = fails;
      stops = tt;
    }

-- ---- the root

-- what isn't called is left
pub root_left : {R : Type 0} (by : CompareBy) (root : R) → LeavesRoot by root root
root_left Bytes root = tt
root_left Lengths root = refl

-- by bytes nothing is said of it
pub root_read : {R : Type 0} (old new : R) (by : CompareBy) → by ≡ Bytes → LeavesRoot by old new
root_read old new by is = subst (λ (b : CompareBy). LeavesRoot b old new) (sym is) tt

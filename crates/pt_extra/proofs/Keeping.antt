-- What a walk keeps of store, root and log.
use Rattle.std.proofs.Common.{◌≡◌, List, ℕ, refl, sym, ◌∙◌, subst}
use Rattle.std.specs.Option.{ForSome}
use Rattle.std.specs.Prelude.{Ok, Err, OnErr, Option, Result}
use Rattle.std.specs.String.{string_bytes}
use Rattle.pt_audit.specs.Failing.{FailsAs}
use Rattle.pt_tree.proofs.Growing.{grows_none, grows_on}
use Rattle.pt_tree.specs.Source.{tree_in}
use Rattle.pt_extra.proofs.Telling.{front_none}
use Rattle.pt_extra.specs.Findings.{Against}
use Rattle.pt_extra.specs.Lines.{ExtraFinding, texts}
use Rattle.pt_extra.specs.Walk.{Keeps, Puts, Tells, TellsFront, against, walk_state}
use Rattle.pt_extra.specs.declared.walking.Extras.{Extras}
use Rattle.pt_plan.specs.DeviceStates.{Failures}
use Rattle.pt_plan.specs.declared.fault.Fault.{Fault}
use Rattle.pt_state.specs.States.{job_of}
use Rattle.pt_tree.specs.Forest.{Forest}
use Rattle.pt_tree.specs.Log.{AppendsFront}
use Rattle.pt_tree.specs.declared.log.Log.{Ghosts as OfLog}
use Rattle.pt_tree.specs.declared.source.Source.{Ghosts as OfSource}

-- a failure after calls that passed
pub fails_on : {T : Type 0} (r : Result T Fault) (a b c : Failures) → b ≡ a → FailsAs r b c → FailsAs r a c
fails_on {T} r a b c same fails = subst (λ (f : Failures). FailsAs r f c) same fails

module _ {S R L E : Type 0} (store : OfSource S) (root : OfSource R) (log : OfLog L)
    (store_on : (a b c : S) → store.keeps a b → store.keeps b c → store.keeps a c)
    (root_on : (a b c : R) → root.keeps a b → root.keeps b c → root.keeps a c)
    (log_on : (a b c : L) → log.keeps a b → log.keeps b c → log.keeps a c) where
  -- what is kept twice is kept
  pub keeps_on : (a b c : Extras S R L E) → Keeps store root log a b → Keeps store root log b c → Keeps store root log a c
  keeps_on a b c first second = record {
    store_stays = (store_on a.store b.store c.store first.store_stays.0 second.store_stays.0, second.store_stays.1 ∙ first.store_stays.1);
    root_stays = (root_on a.root b.root c.root first.root_stays.0 second.root_stays.0, second.root_stays.1 ∙ first.root_stays.1);
    log_grows = (
      log_on a.log b.log c.log first.log_grows.0 second.log_grows.0,
      grows_on (log.told a.log) (log.told b.log) (log.told c.log) first.log_grows.1
          second.log_grows.1,
    );
    job = second.job ∙ first.job;
    prefix = second.prefix ∙ first.prefix;
  }

-- it is held against the same then
pub same_against : {S R L E : Type 0} (store : OfSource S) (root : OfSource R) (log : OfLog L) (a b : Extras S R L E) (s : Forest) → Keeps store root log a b
    → against b s ≡ against a s
same_against store root log a b s keeps = λ i. record { job = job_of (keeps.job i); prefix = string_bytes (keeps.prefix i); store = s }

-- so what is told from there on is what is found from the start
pub told_from : {S R L E : Type 0} (store : OfSource S) (root : OfSource R) (log : OfLog L) (findings : Against → Forest
    → List ExtraFinding) (a b c : Extras S R L E) → Keeps store root log a b → Tells store root log findings b c
    → ForSome (tree_in (store.told a.store)) (λ s. ForSome (tree_in (root.told a.root)) (λ r. Puts (findings (against a s) r) (walk_state log b) (walk_state
    log c)))
told_from store root log findings a b c keeps tells = λ s is r there.
    subst (λ (x : Against). Puts (findings x r) (walk_state log b) (walk_state log c)) (same_against store root log a b s keeps)
    (tells s (keeps.store_stays.1 ∙ is) r (keeps.root_stays.1 ∙ there))

-- the same of a front
pub front_from : {S R L E : Type 0} (store : OfSource S) (root : OfSource R) (log : OfLog L) (findings : Against → Forest
    → List ExtraFinding) (a b c : Extras S R L E) → Keeps store root log a b → TellsFront store root log findings b c
    → ForSome (tree_in (store.told a.store)) (λ s. ForSome (tree_in (root.told a.root))
    (λ r. AppendsFront (log.told b.log) (log.told c.log) (texts (findings (against a s) r))))
front_from store root log findings a b c keeps front = λ s is r there.
    subst (λ (x : Against). AppendsFront (log.told b.log) (log.told c.log) (texts (findings x r))) (same_against store root log a b s keeps)
    (front s (keeps.store_stays.1 ∙ is) r (keeps.root_stays.1 ∙ there))

-- where nothing was put it breaks off so
pub stops_still : {S R L E T : Type 0} (store : OfSource S) (root : OfSource R) (log : OfLog L) (findings : Against → Forest
    → List ExtraFinding) (a b : Extras S R L E) (result : Result T Fault) → log.told b.log ≡ log.told a.log
    → OnErr result (TellsFront store root log findings a b)
stops_still store root log findings a b (Ok x) same = tt
stops_still store root log findings a b (Err why) same = λ s is r there. subst
    (λ (l : Option (List ℕ)). AppendsFront (log.told a.log) l (texts (findings (against a s) r))) (sym same)
    (front_none (log.told a.log) (texts (findings (against a s) r)))

-- whatever the answer is called
pub at_err : {T X : Type 0} (result : Result T Fault) → X → OnErr result X
at_err (Ok x) it = tt
at_err (Err why) it = it

-- where the root alone was called
pub keeps_root : {S R L E : Type 0} (store : OfSource S) (root : OfSource R) (log : OfLog L) → ((a : S) → store.keeps a a) → ((a : L) → log.keeps a a)
    → (a : Extras S R L E) (r : R) → root.keeps a.root r → tree_in (root.told r) ≡ tree_in (root.told a.root) → Keeps store root log a (record a { root = r })
keeps_root store root log store_kept log_kept a r keeps same = record {
  store_stays = (store_kept a.store, refl);
  root_stays = (keeps, same);
  log_grows = (log_kept a.log, grows_none (log.told a.log));
  job = refl;
  prefix = refl;
}

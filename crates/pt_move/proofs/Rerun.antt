-- A run over what another left, once `staging` is taken away.
use Rattle.std.proofs.Common.{◌≡◌, ℕ, List, refl, sym, ap, ◌∙◌, subst}
use Rattle.std.specs.Prelude.{IsSome, Option, None, Some, Ok, Err}
use Rattle.std.specs.Io.KnownBytes.{Appends}
use Rattle.std.specs.Option.{option_map}
use Rattle.pt_invariant.specs.RunInvariant.{TellsAsBefore}
use Rattle.pt_object.specs.Holding.{IsFree}
use Rattle.pt_object.specs.Scripts.{staging}
use Rattle.pt_plan.proofs.LaterTrees.{rerun_leaves_the_same}
use Rattle.pt_plan.specs.Carried.{after_all}
use Rattle.pt_plan.specs.Job.{Job as Plan}
use Rattle.pt_plan.specs.Roots.{root_in, with_root}
use Rattle.pt_plan.specs.DeviceStates.{DeviceStates, dest_tree}
use Rattle.pt_tree.specs.Source.{tree_in}
use Rattle.pt_state.specs.States.{job_of}
use Rattle.pt_state.specs.declared.job.Job.{Job}
use Rattle.pt_state.specs.declared.job.Report.{Report}
use Rattle.pt_tree.specs.Dest.{Writing}
use Rattle.pt_tree.specs.Forest.{Forest}
use Rattle.pt_tree.specs.Path.{Path, rest_below}
use Rattle.pt_tree.specs.Tree.{IsTree, Tree, without, without_at}
use Rattle.pt_tree.proofs.Below.{whole_of}
use Rattle.pt_move.specs.Lines.{HasToldAll, HasToldFront}
use Rattle.pt_move.specs.Migrates.{Migrates}
use Rattle.pt_move.specs.Outcome.{EndsWhole, FaultStateTold}
use Rattle.pt_move.specs.Running.{DestFaultStateTold}
use Rattle.pt_plan.specs.declared.fault.Fault.{Fault}
use Rattle.pt_move.specs.Mending.{MayEndAs, TakesStaging, undisturbed}

-- ---- taking away where nothing stands

without_free : (t : Tree) (p : Path) → IsFree t p → without t p ≡ t
without_free t p free i q = by (rest_below p q) refl i
  where
    by : (o : Option Path) → rest_below p q ≡ o → without_at o (t q) ≡ t q
    by None e = refl
    by (Some r) e = sym (ap t (whole_of p q r e) ∙ free r)

undisturbed_free : (job : Plan) (s : Forest) (t : Tree) → IsFree t staging → undisturbed job s t ≡ with_root t (after_all job s (root_in t))
undisturbed_free job s t free = ap (λ (x : Tree). with_root x (after_all job s (root_in t))) (without_free t staging free)

-- ---- what tells goes on telling

dest_on : (o : Option Tree) (n : Option Writing) (P : Tree → Writing → Type 0) (x : Tree) → o ≡ Some x → TellsAsBefore o n P → (y : Writing) × (n ≡ Some y)
dest_on None n P x is h = absurd (cc)
dest_on (Some a) None P x is h = absurd (h)
dest_on (Some a) (Some y) P x is h = (y, refl)

log_on : (o n : Option (List ℕ)) (bytes : List ℕ) → IsSome o → Appends o n bytes → (a b : List ℕ) × ((o ≡ Some a) × (n ≡ Some b))
log_on None n bytes some h = absurd (cc)
log_on (Some a) None bytes some h = absurd (h)
log_on (Some a) (Some b) bytes some h = (a, b, (refl, refl))

some_log : (o : Option (List ℕ)) (b : List ℕ) → o ≡ Some b → IsSome o
some_log (Some x) b is = refl
some_log None b is = absurd (cc)

-- what is told is a tree
pub told_tree : (o : Option Writing) → ((w : Writing) → o ≡ Some w → IsTree w.tree) → (t : Tree) → dest_tree o ≡ Some t → IsTree t
told_tree None law t is = absurd (cc)
told_tree (Some w) law t is = let same : w.tree ≡ t = cc in subst (λ (x : Tree). IsTree x) same (law w refl)

-- ---- by the answer

module _ (job : Job) (s : Forest) (start : Tree) (old new : DeviceStates) (is : MayEndAs (job_of job) s start old) where
  -- a run that came to its end
  pub ended : (report : Report) → Migrates job old new (Ok report) → dest_tree new.dest ≡ Some (undisturbed (job_of job) s start)
  unfolding EndsWhole HasToldAll DestFaultStateTold
  ended report made =
      let log = log_on old.log new.log _ is.log made.told.1.0 in
      let dest = dest_on (dest_tree old.dest) new.dest _ is.now is.stands made.leaves in
      let whole = made.ends s is.now dest.0 log.0 log.1 is.tells is.stands dest.1 log.2.0 log.2.1 in
      let end = whole.0.2 in
      ap dest_tree dest.1 ∙ ap Some (end.tree ∙ sym (undisturbed_free (job_of job) s is.now end.free) ∙ is.same)

  -- one that a fault ended, once `staging` is taken away
  pub again : (f : Fault) (later : DeviceStates) → Migrates job old new (Err f) → later.source ≡ new.source → later.log ≡ new.log
      → TakesStaging new.dest later.dest
      → ((t : Tree) → dest_tree later.dest ≡ Some t → IsTree t) → MayEndAs (job_of job) s start later
  unfolding FaultStateTold HasToldFront DestFaultStateTold
  again f later made source-is log-is takes is_tree =
      let log = log_on old.log new.log _ is.log made.told_front.1.1.1 in
      let dest = dest_on (dest_tree old.dest) new.dest _ is.now is.stands made.leaves in
      let left = made.left s is.now dest.0 log.0 log.1 is.tells is.stands dest.1 log.2.0 log.2.1 in
      let rerun = rerun_leaves_the_same (job_of job) s is.now dest.0.tree left.told is.tree is.begins left.left in
      let now = without dest.0.tree staging in
      let stands : dest_tree later.dest ≡ Some now = takes ∙ ap (λ w. option_map (λ (t : Tree). without t staging) (dest_tree w)) dest.1 in record {
        tells = ap tree_in source-is ∙ made.tree ∙ is.tells;
        now = now;
        stands = stands;
        tree = is_tree now stands;
        begins = rerun.begins;
        same = undisturbed_free (job_of job) s now rerun.free ∙ rerun.same ∙ is.same;
        log = some_log later.log log.1 (log-is ∙ log.2.1);
      }

-- the same, where the run's job is the one that is meant
pub ended_as : (plan : Plan) (job : Job) (s : Forest) (start : Tree) (old new : DeviceStates) (report : Report) → job_of job ≡ plan → MayEndAs plan s start old
    → Migrates job old new (Ok report)
    → dest_tree new.dest ≡ Some (undisturbed plan s start)
ended_as plan job s start old new report same is made =
    subst (λ (p : Plan). MayEndAs p s start old → dest_tree new.dest ≡ Some (undisturbed p s start)) same (λ is. ended job s start old new is report made) is

pub again_as : (plan : Plan) (job : Job) (s : Forest) (start : Tree) (old new later : DeviceStates) (f : Fault) → job_of job ≡ plan → MayEndAs plan s start old
    → Migrates job old new (Err f) → later.source ≡ new.source → later.log ≡ new.log
    → TakesStaging new.dest later.dest → ((t : Tree) → dest_tree later.dest ≡ Some t → IsTree t) → MayEndAs plan s start later
again_as plan job s start old new later f same is made source-is log-is takes is_tree =
    subst (λ (p : Plan). MayEndAs p s start old → MayEndAs p s start later) same
    (λ is. again job s start old new is f later made source-is log-is takes is_tree) is

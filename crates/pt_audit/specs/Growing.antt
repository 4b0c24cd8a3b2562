-- A log in which what stood stands, and which device a step blames.
use Rattle.std.proofs.Common.{◌≡◌, ◌≢◌, ◌∙◌}
use Rattle.std.specs.Prelude.{ℕ, List, Option, IfErr, Result}
use Rattle.pt_move.specs.Counting.{Counts}
use Rattle.pt_plan.specs.declared.fault.Fault.{Fault}
use Rattle.pt_plan.specs.declared.fault.Fault.TheVariants as fault
use Rattle.pt_plan.specs.DeviceStates.{DeviceStates}
use Rattle.pt_plan.specs.declared.phase.Phase.{Phase}
use Rattle.pt_state.specs.declared.job.Job.{Job}
use Rattle.pt_audit.specs.Surveying.{SurveySays}
use Rattle.pt_compare.specs.Root.{KeepsRoot}
use Rattle.pt_state.specs.Counting.{AtMostCalls}
use Rattle.pt_tree.specs.Log.{Grows}
use Rattle.pt_tree.specs.Source.{Reading, tree_in}
use Rattle.pt_tree.specs.declared.log.Log.{Ghosts as OfLog}
use Rattle.pt_tree.specs.declared.source.Source.{Ghosts as OfSource}

-- it is the same log still, in which what stood stands
abbrev pub KeepsLog : {L : Type 0} → (L → Option (List ℕ)) → (L → L → Type 0) → L → L → Type 0
KeepsLog told keeps old new = keeps old new × Grows (told old) (told new)

-- it is the same source still, with the same tree
abbrev pub KeepsTree : {S : Type 0} → (S → Option Reading) → (S → S → Type 0) → S → S → Type 0
KeepsTree told keeps old new = keeps old new × (tree_in (told new) ≡ tree_in (told old))

-- store and root are the same ones still, with their trees
pub record KeepsSides {S R : Type 0} (tells : S → Option Reading) (keeps : S → S → Type 0)
    (root_tells : R → Option Reading) (root_keeps : R → R → Type 0) (old new : S × R) : Type 0 where
  pub source : KeepsRoot tells keeps old.0 new.0
  pub root : KeepsRoot root_tells root_keeps old.1 new.1

-- so they are after further calls
pub sides_on : {S R : Type 0} {tells : S → Option Reading} {keeps : S → S → Type 0}
    {root_tells : R → Option Reading} {root_keeps : R → R → Type 0} → ((a b c : S) → keeps a b → keeps b c → keeps a c)
    → ((a b c : R) → root_keeps a b → root_keeps b c → root_keeps a c)
    → (a b c : S × R) → KeepsSides tells keeps root_tells root_keeps a b
    → KeepsSides tells keeps root_tells root_keeps b c → KeepsSides tells keeps root_tells root_keeps a c
sides_on keeps_on root_on a b c first second = record {
  source = (keeps_on a.0 b.0 c.0 first.source.0 second.source.0, second.source.1 ∙ first.source.1);
  root = (root_on a.1 b.1 c.1 first.root.0 second.root.0, second.root.1 ∙ first.root.1);
}

-- source and log are the same ones still, and the source was called no more often than that
pub record KeepsDevices {S L : Type 0} (source : OfSource S) (log : OfLog L) (calls : ℕ) (old new : S × L) : Type 0 where
  pub source_stays : source.keeps old.0 new.0
  pub few : AtMostCalls calls (source.called old.0) (source.called new.0)
  pub log_stays : log.keeps old.1 new.1

-- source and log are blamed only where their counts of failures rose, and else these stayed; and there is no destination to blame
pub record BlamesRightly {T : Type 0} (source source' log log' : ℕ) (result : Result T Fault) : Type 0 where
  pub source_is : Counts 1 source source' result
  pub log_is : Counts 3 log log' result
  pub no_dest : IfErr result (λ f. f ≢ fault.Dest)

-- what a turn leaves outside, whatever it answers: the source's tree is as it was, the log has grown, devices are blamed rightly, and a refusal is
-- true and never that it has ended
pub record Leaves (old new : DeviceStates) (job : Job) (result : Result Phase Fault) : Type 0 where
  pub tree : tree_in new.source ≡ tree_in old.source
  pub grows : Grows old.log new.log
  pub blames : BlamesRightly old.failures.source new.failures.source
      old.failures.log new.failures.log result
  pub says : IfErr result (λ why. (here : Phase) → SurveySays job here (tree_in old.source) why)

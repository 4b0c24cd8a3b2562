-- What `migrate` promises over its three devices.
use Rattle.std.specs.Prelude.{Result}
use Rattle.pt_move.specs.Migrates.{Migrates}
use Rattle.pt_plan.specs.SourceFailures.{FailsOnlyWhereAsked}
use Rattle.pt_plan.specs.declared.fault.Fault.{Fault}
use Rattle.pt_state.specs.Outside.{states_of}
use Rattle.pt_state.specs.SourceFailures.{source_view}
use Rattle.pt_state.specs.declared.job.Job.{Job}
use Rattle.pt_state.specs.declared.job.Report.{Report}
use Rattle.pt_tree.specs.declared.dest.Dest.{Ghosts as OfDest}
use Rattle.pt_tree.specs.declared.log.Log.{Ghosts as OfLog}
use Rattle.pt_tree.specs.declared.source.Source.{Ghosts as OfSource}

-- of source, destination and log, by the words of their traits, before a run and after it
pub record MigratesOver {S D L : Type 0} (s : OfSource S) (d : OfDest D) (l : OfLog L) (job : Job) (states : (S × D × L) × (S × D × L))
    (result : Result Report Fault) : Type 0 where
  -- what is promised by what they tell
  pub promises : Migrates job (states_of s d l states.0.0 states.0.1 states.0.2) (states_of s d l states.1.0 states.1.1 states.1.2) result
  -- each is the one that it was, as its calls keep it
  pub source_stays : s.keeps states.0.0 states.1.0
  pub dest_stays : d.keeps states.0.1 states.1.1
  pub log_stays : l.keeps states.0.2 states.1.2
  -- where a call of the source failed, it does so at what a run asks for, or at the file that was open
  pub source_fails : FailsOnlyWhereAsked (source_view s states.0.0) (source_view s states.1.0)

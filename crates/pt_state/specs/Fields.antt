-- All that a run holds between two turns beside its phase, field by field. A further field, which might hold content or text, would have to stand here.
use Rattle.std.specs.Prelude.{◌≡◌, ℕ, List, Option, String}
use Rattle.std.specs.Global.{Global}
use Rattle.pt_object.specs.Hasher.{IsItsCore}
use Rattle.pt_object.specs.declared.table.contents.Content.{Content}
use Rattle.pt_object.specs.declared.hasher.Hasher.{Hasher}
use Rattle.pt_object.specs.declared.rows.Row.{Row}
use Rattle.pt_walk.specs.declared.frame.Frame.{Frame}
use Rattle.pt_state.specs.declared.job.Job.{Job}
use Rattle.pt_state.specs.declared.job.Report.{Report}
use Rattle.pt_state.specs.declared.state.State.{State}

-- one content, the block that was read last; one text, the prefix; the records that the bound counts; a digest that is not ended; numbers
pub record Fields : Type 0 where
  -- where memory is asked for
  pub alloc : Global
  -- what was asked of the run
  pub job : Job
  -- the one text: the prefix of the identifiers, at most 1,024 bytes
  pub prefix : String Global
  -- records, which the bound counts: the listings on the way,
  pub trail : List Frame
  -- the files of the object that is being carried,
  pub rows : List Row
  -- and which of them are stored
  pub contents : List Content
  -- the one content: the bytes of the block that was read last, at most 8,192 by its type
  pub block : List ℕ
  -- a digest that isn't ended, of one size whatever was fed to it
  pub hasher : Hasher
  -- of each identifier of the list whether an object of it was met; the list is the job's
  pub unmet : List (Option (List ℕ))
  -- four numbers
  pub counts : Report

-- the state with these fields
abbrev pub state_of : Fields → State
state_of f = record {
  alloc = f.alloc;
  job = f.job;
  prefix = f.prefix;
  trail = f.trail;
  rows = f.rows;
  contents = f.contents;
  block = record { items = f.block };
  hasher = f.hasher;
  unmet = f.unmet;
  counts = f.counts;
}

-- the state is made of these fields and nothing else, and so is its hasher of its core
pub record HoldsNothingElse (s : State) : Type 0 where
  pub fields : Fields
  pub state : s ≡ state_of fields
  pub hasher : IsItsCore s.hasher

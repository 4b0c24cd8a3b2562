-- What a run has to do, beside its source, destination and log.
use Rattle.std.specs.Prelude.{Bool, cond}
use Rattle.pt_name.specs.Share.{Portion, walks}
use Rattle.pt_name.specs.Tuples.{Tuples}
use Rattle.pt_object.specs.MetaParts.{MetaParts}
use Rattle.pt_object.specs.declared.algorithm.Algorithm.{Algorithm}
use Rattle.pt_walk.specs.Limits.{Bounds}
use Rattle.pt_walk.specs.Sites.{Reach}
use Rattle.pt_walk.specs.declared.site.Form.{Form}
use Rattle.pt_walk.specs.declared.site.Form.TheVariants as form

-- how the objects' versions are described, the layout's tuples, the algorithm of the inventories, the limits, whether divided sites are gathered, and
-- the share of the store
pub record Job : Type 0 where
  pub meta : MetaParts
  pub tuples : Tuples
  pub algorithm : Algorithm
  pub limits : Bounds
  pub gather : Bool
  pub share : Portion

-- how a divided site is judged
abbrev pub form_of : Job → Form
form_of job = cond job.gather form.Gathering form.Plain

-- how far a store is walked: to the limit of the depth, and where the share's own folders are
abbrev pub reach_of : Job → Reach
reach_of job = record { depth = job.limits.depth; walks = walks job.share }

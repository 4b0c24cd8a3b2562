-- What the judging of a site asks, and what its parts say.
use Rattle.std.specs.Prelude.{◌≡◌, ℕ, ◌<◌, ◌^◌, Option}
use Rattle.std.specs.String.{string_bytes}
use Rattle.pt_name.specs.Identifying.{identification_of}
use Rattle.pt_name.specs.declared.identifying.Identification.{Identification}
use Rattle.pt_tree.specs.Path.{Path}
use Rattle.pt_walk.specs.Trail.{trail_path}
use Rattle.pt_walk.specs.declared.cause.Cause.{Cause}
use Rattle.pt_plan.specs.Items.{Skip}
use Rattle.pt_plan.specs.Job.{form_of}
use Rattle.pt_plan.specs.TurnWalk.{found_at, has_object, judged_by_finding}
use Rattle.pt_state.specs.States.{job_of}
use Rattle.pt_state.specs.declared.state.State.{State}

-- there is this cause against the site, or against its object's identifier
unfoldable pub PassesSite : State → Cause → Type 0
PassesSite s why =
    judged_by_finding (job_of s.job) (string_bytes s.prefix) (trail_path s.trail)
    (found_at (form_of (job_of s.job)) s.trail) ≡ Skip why

-- and this is its path
pub record IsPassedAt (s : State) (site : Path) (why : Cause) : Type 0 where
  pub there : site ≡ trail_path s.trail
  pub passes : PassesSite s why

-- the site has an object, which is the entry of this index, or else is gathered
unfoldable pub FindsObject : State → Option ℕ → Type 0
FindsObject s index = found_at (form_of (job_of s.job)) s.trail ≡ has_object index

-- the run judges a site, whose path this is, and whose object is the entry of this index, or else is gathered
pub record IsJudging (s : State) (site : Path) (index : Option ℕ) : Type 0 where
  pub there : site ≡ trail_path s.trail
  pub object : FindsObject s index

-- a line of what isn't carried can be counted
pub record CanPass (s : State) : Type 0 where
  pub skipped : s.counts.skipped < 2 ^ 40
  pub present : s.counts.present < 2 ^ 40

-- this is what the names of the site say of its object
unfoldable pub IsIdentified : State → Identification → Type 0
IsIdentified s what =
    what ≡ identification_of s.job.layout s.job.share (string_bytes s.prefix) (trail_path s.trail)

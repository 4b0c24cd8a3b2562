-- Turns that go on at one of two phases.
use Rattle.std.proofs.Common.{◌≡◌, ◌+◌, ◌==◌, ℕ, Bool, true, false, refl, cond}
use Rattle.std.specs.Prelude.{nat_lt}
use Rattle.pt_plan.specs.Job.{Job}
use Rattle.pt_plan.specs.declared.object.Object.{Object}
use Rattle.pt_plan.specs.declared.phase.Phase.{Phase}
use Rattle.pt_plan.specs.declared.phase.Opening.TheVariants as opening
use Rattle.pt_plan.specs.declared.phase.Phase.TheVariants as phase
use Rattle.pt_plan.specs.declared.phase.Stage.TheVariants as stage
use Rattle.pt_plan.specs.TurnPlace.{after_tuple}

-- what holds at each of them, where it is the one, holds at the one that is taken
either_phase : (P : Phase → Type 0) (this : Bool) (p q : Phase) → (this ≡ true → P p) → (this ≡ false → P q) → P (cond this p q)
either_phase P true p q first second = first refl
either_phase P false p q first second = second refl

module _ (P : Phase → Type 0) (number : ℕ) where
  -- after an item of the root's script: the root is renamed behind the last
  pub after_root_item : ((number == 5) ≡ true → P (phase.Opening opening.RootRename))
      → ((number == 5) ≡ false → P (phase.Opening (opening.RootMake (number + 1))))
      → P (cond (number == 5) (phase.Opening opening.RootRename) (phase.Opening (opening.RootMake (number + 1))))
  after_root_item last more = either_phase P _ _ _ last more

  -- after a file of the layout: the pairtree is opened behind the last
  pub after_root_file : ((number == 2) ≡ true → P (phase.Opening opening.OpenRoot))
      → ((number == 2) ≡ false → P (phase.Opening (opening.RootCheck (number + 1))))
      → P (cond (number == 2) (phase.Opening opening.OpenRoot) (phase.Opening (opening.RootCheck (number + 1))))
  after_root_file last more = either_phase P _ _ _ last more

module _ (P : Phase → Type 0) (job : Job) (object : Object) where
  -- after the object's last file: it is renamed, if there are no tuples
  pub after_sidecar : ((job.tuples.count == 0) ≡ true → P (phase.Carrying object stage.Rename))
      → ((job.tuples.count == 0) ≡ false → P (phase.Carrying object (stage.Tuples 0)))
      → P (cond (job.tuples.count == 0) (phase.Carrying object stage.Rename) (phase.Carrying object (stage.Tuples 0)))
  after_sidecar flat some = either_phase P _ _ _ flat some

  -- after a tuple directory: it is renamed behind the last
  pub after_tuple_folder : (number : ℕ) → (nat_lt (number + 1) job.tuples.count ≡ true → P (phase.Carrying object (stage.Tuples (number + 1))))
      → (nat_lt (number + 1) job.tuples.count ≡ false → P (phase.Carrying object stage.Rename))
      → P (after_tuple job object number)
  after_tuple_folder number more last = either_phase P _ _ _ more last

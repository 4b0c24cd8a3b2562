-- Each turn that goes on keeps what holds of what is held: the turns of the start and of the walk, and those that place an object.
use Rattle.std.proofs.Common.{◌≡◌, ◌<◌, ℕ, ◌+◌, ◌==◌, false, List, [], ◌∷◌, refl, arith, length}
use Rattle.std.specs.Prelude.{None, Some, Ok, Option}
use Rattle.std.proofs.lemmas.Bool.{eqb-false, ltb-true}
use Rattle.pt_tree.specs.Path.{Path}
use Rattle.pt_walk.specs.declared.frame.Frame.{Frame}
use Rattle.pt_plan.specs.Job.{Job, form_of}
use Rattle.pt_plan.specs.Run.{Counts, Held}
use Rattle.pt_plan.specs.TurnPlace.{PlaceStep, after_tuple, MakesTuple, FindsTuple, RenamesObject, TellsDone, TellsEnd}
use Rattle.pt_plan.specs.TurnStart.{StartStep, HasNoRoot, HasRoot, MakesRoot, IsSame}
use Rattle.pt_plan.specs.TurnWalk.{WalkStep, IsNew, found_at, has_object}
use Rattle.pt_plan.specs.DeviceStates.{Calls}
use Rattle.pt_plan.specs.declared.object.Object.{Object}
use Rattle.pt_plan.specs.declared.phase.Phase.{Phase}
use Rattle.pt_invariant.proofs.source.NewObject.{long_at, named_found}
use Rattle.pt_invariant.specs.HeldInvariant.{AreRows, EndsAt, FedAt, HeldAt, IsObject, NumbersAt, RowsAt, ScansInOrder, TrailAt}
use Rattle.pt_invariant.specs.History.{History, bytes_after}
use Rattle.pt_invariant.specs.HeldLaws.{PlacingKeepsHeld, StartingKeepsHeld, WalkingKeepsHeld}
use Rattle.pt_invariant.proofs.held.EitherPhase.{after_root_file, after_root_item, after_tuple_folder}
use Rattle.pt_invariant.proofs.held.Feeding.{places_feed, starts_feed, walks_feed}
use Rattle.pt_invariant.proofs.held.TrailKeeps as trail

-- what is held but for the trail itself and the hasher
pub record RestAt (job : Job) (bytes : Path → List ℕ) (here : Phase) (held : Held) : Type 0 where
  pub ends : EndsAt job here held.trail
  pub rows : RowsAt job bytes here held
  pub behind : ScansInOrder here held
  pub numbers : NumbersAt job here held

-- with the trail and the hasher
pub with_rest : {job : Job} {past : History} {here : Phase} {held : Held} → RestAt job past.bytes here held → TrailAt here held → FedAt job here held
    → HeldAt job past here held
with_rest rest trail fed = record { trail = trail; ends = rest.ends; rows = rest.rows; behind = rest.behind; numbers = rest.numbers; fed = fed }

-- ---- the start

one_more : (number most : ℕ) → (number == most) ≡ false → number < most + 1 → number + 1 < most + 1
one_more number most other within = let apart = eqb-false number most other in omega (arith, apart)

starts_rest : {job : Job} {past : History} {prefix read : List ℕ} {here next : Phase} {held : Held} {calls : Calls}
    → StartStep job here prefix read calls (Ok next) → HeldAt job past here held → RestAt job (bytes_after here next held past.bytes) next held
starts_rest (HasNoRoot was) at = record { ends = tt; rows = at.rows; behind = tt; numbers = omega arith }
starts_rest (HasRoot was) at = record { ends = tt; rows = at.rows; behind = tt; numbers = omega arith }
starts_rest {job} {past} {held} (MakesRoot was number item is) at =
    after_root_item (λ p. RestAt job past.bytes p held) number
    (λ last. record { ends = tt; rows = at.rows; behind = tt; numbers = tt })
    (λ more. record { ends = tt; rows = at.rows; behind = tt; numbers = one_more number 5 more at.numbers })
starts_rest {job} {past} {held} (IsSame was number path bytes is) at =
    after_root_file (λ p. RestAt job past.bytes p held) number
    (λ last. record { ends = tt; rows = at.rows; behind = tt; numbers = tt })
    (λ more. record { ends = tt; rows = at.rows; behind = tt; numbers = one_more number 2 more at.numbers })
starts_rest turn at = record { ends = tt; rows = at.rows; behind = tt; numbers = tt }

pub starts_hold : StartingKeepsHeld
starts_hold job past prefix read here next held calls turn at = with_rest (starts_rest turn at) (trail.starts_keep turn at.trail) (starts_feed held turn)

-- ---- the walk

-- where a site has an object there is a listing
some_listing : (job : Job) (t : List Frame) (index : Option ℕ) → found_at (form_of job) t ≡ has_object index → 0 < length t
some_listing job [] None is = absurd (cc)
some_listing job [] (Some index) is = absurd (cc)
some_listing job (frame ∷ frames) index is = omega arith

walks_rest : {job : Job} {past : History} {prefix : List ℕ} {here next : Phase} {held after : Held} {calls : Calls}
    → WalkStep job prefix here held after calls (Ok next) → HeldAt job past here held
    → RestAt job (bytes_after here next held past.bytes) next after
walks_rest {job} {prefix} (IsNew was index id is) at = record {
  ends = (record { some = some_listing job was.trail index (named_found job prefix was.trail index id is); place = refl }, long_at index was.trail);
  rows = record { rows = at.rows.rows; contents = at.rows.contents };
  behind = tt;
  numbers = tt;
}
walks_rest turn at = record { ends = tt; rows = record { rows = at.rows.rows; contents = at.rows.contents }; behind = tt; numbers = tt }

pub walks_hold : WalkingKeepsHeld
walks_hold job past old new prefix here next held after calls turn answers at = with_rest (walks_rest turn at) (trail.walks_keep old new turn answers at.trail)
    (walks_feed turn)

-- ---- an object at its place

after_a_tuple : (job : Job) {bytes : Path → List ℕ} {held : Held} {object : Object} (number : ℕ) → IsObject job object × (length held.trail ≡ object.site)
    → AreRows job bytes held → RestAt job bytes (after_tuple job object number) held
after_a_tuple job {bytes} {held} {object} number ends rows =
    after_tuple_folder (λ p. RestAt job bytes p held) job object number
    (λ more. record { ends = ends; rows = rows; behind = tt; numbers = ltb-true (number + 1) job.tuples.count more })
    (λ last. record { ends = ends; rows = rows; behind = tt; numbers = tt })

places_rest : {job : Job} {counts : Counts} {past : History} {here next : Phase} {held after : Held} {calls : Calls}
    → PlaceStep job counts here held after calls (Ok next) → HeldAt job past here held
    → RestAt job (bytes_after here next held past.bytes) next after
places_rest {job} (MakesTuple was object number) at = after_a_tuple job number at.ends at.rows
places_rest {job} (FindsTuple was object number) at = after_a_tuple job number at.ends at.rows
places_rest (RenamesObject was object) at = record { ends = at.ends; rows = at.rows; behind = tt; numbers = tt }
places_rest (TellsDone was object) at = record { ends = tt; rows = record { rows = refl; contents = refl }; behind = tt; numbers = tt }
places_rest (TellsEnd was) at = record { ends = tt; rows = tt; behind = tt; numbers = tt }

pub places_hold : PlacingKeepsHeld
places_hold job counts past here next held after calls turn at = with_rest (places_rest turn at) (trail.places_keep turn at.trail) (places_feed turn)

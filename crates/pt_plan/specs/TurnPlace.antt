-- The turns that bring an object to its place, and those that tell of it and of the end.
use Rattle.std.specs.Prelude.{◌≡◌, ℕ, ◌+◌, false, cond, nat_lt, List, [], length, sum_by, take, Some, Ok, Err}
use Rattle.pt_object.specs.Scripts.{staging}
use Rattle.pt_object.specs.declared.rows.Row.{Row}
use Rattle.pt_tree.specs.Path.{Path}
use Rattle.pt_tree.specs.declared.kind.Kind.{Kind}
use Rattle.pt_tree.specs.declared.kind.Kind.TheVariants as kind
use Rattle.pt_walk.specs.Trail.{sought}
use Rattle.pt_plan.specs.Answer.{Answer}
use Rattle.pt_plan.specs.declared.fault.Fault.TheVariants as fault
use Rattle.pt_plan.specs.Job.{Job}
use Rattle.pt_plan.specs.Lines.{Line, Done, End}
use Rattle.pt_plan.specs.Run.{Counts, Held}
use Rattle.pt_plan.specs.TurnMake.{path_of_source}
use Rattle.pt_plan.specs.TurnStart.{is_dir_kind}
use Rattle.pt_plan.specs.TurnWalk.{in_root}
use Rattle.pt_plan.specs.DeviceStates.{Calls, Finds, FindsNoneAndMakes, Renames, does, tells}
use Rattle.pt_plan.specs.declared.object.Object.{Object}
use Rattle.pt_plan.specs.declared.phase.Phase.{Phase}
use Rattle.pt_plan.specs.declared.phase.Phase.TheVariants as phase
use Rattle.pt_plan.specs.declared.phase.Stage.TheVariants as stage

-- the tuple directory of this number on the way to the object's place (extension 0003)
abbrev pub tuple_folder : Object → ℕ → Path
tuple_folder object number = in_root (take (number + 1) object.place)

-- after a tuple directory: the next one, or, after the last, the renaming
abbrev pub after_tuple : Job → Object → ℕ → Phase
after_tuple job object number =
    cond (nat_lt (number + 1) job.tuples.count) (phase.Carrying object (stage.Tuples (number + 1)))
    (phase.Carrying object stage.Rename)

-- the lengths of all rows together
abbrev pub bytes_in_rows : List Row → ℕ
bytes_in_rows = sum_by (λ row. row.length)

-- the line of an object that was carried
abbrev pub done_line : Object → Held → Line
done_line object held =
    Done (path_of_source object held.trail) (bytes_in_rows held.rows) object.empty
    (length held.rows) object.id object.place

-- at the start of the site again, with nothing held of the object
abbrev pub restarted : Held → Held
restarted held = record held { trail = sought 0 held.trail; rows = []; contents = [] }

-- the line that ends the log: its numbers count the lines
abbrev pub last_line : Counts → Line
last_line counts = End counts.done counts.present counts.skipped

-- from the phase and what is held to what is held after, with the calls and the answer, at these counts
pub data PlaceStep (job : Job) (counts : Counts) : Phase → Held → Held → Calls → Answer → Type 0 where
  -- a tuple directory is made, or stands already
  MakesTuple : (held : Held) (object : Object) (number : ℕ)
      → PlaceStep job counts (phase.Carrying object (stage.Tuples number)) held held
      (does (FindsNoneAndMakes (tuple_folder object number))) (Ok (after_tuple job object number))
  FindsTuple : (held : Held) (object : Object) (number : ℕ)
      → PlaceStep job counts (phase.Carrying object (stage.Tuples number)) held held
      (does (Finds (tuple_folder object number) (Some kind.Dir)))
      (Ok (after_tuple job object number))
  -- unless its name is taken by something else
  IsInTheWay : (held : Held) (object : Object) (number : ℕ) (here : Kind) → is_dir_kind (Some here) ≡ false
      → PlaceStep job counts (phase.Carrying object (stage.Tuples number)) held held
      (does (Finds (tuple_folder object number) (Some here))) (Err fault.Target)
  -- `staging` becomes the object at its place
  RenamesObject : (held : Held) (object : Object)
      → PlaceStep job counts (phase.Carrying object stage.Rename) held held
      (does (Renames staging (in_root object.place))) (Ok (phase.Carrying object stage.Line))
  -- the object is told, and the walk goes on at its site
  TellsDone : (held : Held) (object : Object)
      → PlaceStep job counts (phase.Carrying object stage.Line) held (restarted held) (tells (done_line object held))
      (Ok phase.Walk)
  -- the end is told
  TellsEnd : (held : Held)
      → PlaceStep job counts phase.End held held (tells (last_line counts)) (Ok phase.Ended)

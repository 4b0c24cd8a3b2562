-- An object that was carried, as its line tells of it.
use Rattle.std.specs.Prelude.{◌≡◌, length, min}
use Rattle.pt_plan.specs.TurnMake.{path_of_source}
use Rattle.pt_plan.specs.TurnPlace.{bytes_in_rows}
use Rattle.pt_plan.specs.declared.lines.ToldObject.{ToldObject}
use Rattle.pt_plan.specs.declared.object.Object.{Object}
use Rattle.pt_state.specs.declared.state.State.{State}
use Rattle.pt_tree.specs.Failures.{greatest_count}

-- this is the object, and what is held of it
pub record IsCarried (object : Object) (s : State) (told : ToldObject) : Type 0 where
  pub at : told.at ≡ path_of_source object s.trail
  pub bytes : told.bytes ≡ min (bytes_in_rows s.rows) greatest_count
  pub empty : told.empty ≡ object.empty
  pub files : told.files ≡ length s.rows
  pub id : told.id.now ≡ object.id
  pub to : told.to.now ≡ object.place

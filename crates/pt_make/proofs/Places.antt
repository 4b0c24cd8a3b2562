-- The turns that bring an object to its place, from their calls.
use Rattle.std.proofs.Common.{◌≡◌, ℕ, List, refl, sym, ap, ◌∙◌, false}
use Rattle.std.specs.Prelude.{Option, None, Some, Ok, Err}
use Rattle.std.specs.Option.{option_map}
use Rattle.pt_state.proofs.Words.{
  MakeFolder,
  staging,
  Writing,
  IsKindAt,
  MayMake,
  Path,
  kind_of_entry,
  Kind,
  Did,
  Place,
  Answers,
  Change,
  Changes,
  Finds,
  Makes,
  Puts,
  Renames,
  DeviceStates,
  does,
  Object,
  Phase,
  counts_of,
  held_of,
  job_of,
  Turned,
}
use Rattle.pt_state.proofs.Words.fault
use Rattle.pt_state.proofs.Words.kind
use Rattle.pt_state.proofs.Words.phase
use Rattle.pt_state.proofs.Words.stage
use Rattle.pt_state.specs.declared.state.State.{State}
use Rattle.pt_tree.specs.Dest.{MayMove, after_mkdir}
use Rattle.pt_tree.specs.Tree.{Entry}
use Rattle.pt_plan.specs.Enabled.{HasParent}
use Rattle.pt_plan.specs.TurnPlace.{PlaceStep, MakesTuple, FindsTuple, IsInTheWay, RenamesObject, after_tuple, tuple_folder}
use Rattle.pt_plan.specs.TurnStart.{is_dir_kind}
use Rattle.pt_plan.specs.TurnWalk.{in_root}
use Rattle.pt_plan.specs.DeviceStates.{FindsNoneAndMakes}
use Rattle.pt_state.proofs.Together.{looked_then}
use Rattle.pt_state.proofs.Turns.{keeps_same, refused, went}

-- its call is made
placed : {here next : Phase} (s : State) (a b : DeviceStates) {change : Change}
    → ((fed : List ℕ) → PlaceStep (job_of s.job) (counts_of s.counts) here (held_of s fed) (held_of s fed) (does change) (Ok next)) → Did (does change) a b
    → Turned here s s a b (Ok next)
placed s a b places did = went a b (λ fed. fed) (λ fed _. Place (places fed)) did refl (λ fed was. was) keeps_same

none_there : (o : Option Entry) → option_map kind_of_entry o ≡ None → o ≡ None
none_there None is = refl
none_there (Some entry) is = absurd (cc)

-- in a folder, and found to be absent
pub may_make_found : (a b : DeviceStates) (path : Path) (here : Option Kind) → HasParent a.dest path → Did (does (Finds path here)) a b → here ≡ None
    → MayMake b.dest path
unfolding HasParent Did Changes IsKindAt MayMake
may_make_found a b path here above did is = λ s e. let same = sym did.0.dest.1
    ∙ e in record { absent = none_there (s.tree path) (did.0.dest.0 s same ∙ is); in_folder = above s same }

pub parent_there : (a : Option Writing) (path at : Path) → HasParent a at → path ≡ at → HasParent a path
parent_there a path at above is = rw is above

-- it is found to be absent, and made
found_and_made : (a b c : DeviceStates) (path : Path) (here : Option Kind) → Did (does (Finds path here)) a b → Did (does (Makes (MakeFolder path))) b c
    → here ≡ None → Did (does (FindsNoneAndMakes path)) a c
unfolding Did Answers Changes Puts
found_and_made a b c path here found made none = (
  record {
    source = made.0.source ∙ found.0.source;
    dest = (rw none at found.0.dest.0, made.0.dest ∙ ap (option_map (after_mkdir path)) found.0.dest.1);
    log = made.0.log ∙ found.0.log;
  },
  made.1 ∙ found.1,
)

module _ (s : State) (a b : DeviceStates) (path : Path) (here : Option Kind) (object : Object) (number : ℕ) (found : Did (does (Finds path here)) a b)
    (is : path ≡ tuple_folder object number) where
  pub made_tuple : (c : DeviceStates) (next : Phase) → Did (does (Makes (MakeFolder path))) b c → here ≡ None → next ≡ after_tuple (job_of s.job) object number
      → Turned (phase.Carrying object (stage.Tuples number)) s s a c (Ok next)
  made_tuple c next made none then =
      rw then
      (placed s a c (λ fed. MakesTuple _ object number) (rw is at (found_and_made a b c path here found made none)))

  pub found_tuple : (next : Phase) → here ≡ Some kind.Dir → next ≡ after_tuple (job_of s.job) object number
      → Turned (phase.Carrying object (stage.Tuples number)) s s a b (Ok next)
  found_tuple next dir then =
      rw then
      (placed s a b (λ fed. FindsTuple _ object number) (rw (is, dir) at found))

  pub in_the_way : (it : Kind) → here ≡ Some it → is_dir_kind (Some it) ≡ false
      → Turned (phase.Carrying object (stage.Tuples number)) s s a b (Err fault.Target)
  in_the_way it some other = refused a b (λ fed was. Place (IsInTheWay _ object number it other)) (rw (is, some) at found) keeps_same

pub renamed_object : (s : State) (a b : DeviceStates) (to : Path) (object : Object) → Did (does (Renames staging to)) a b → to ≡ in_root object.place
    → Turned (phase.Carrying object stage.Rename) s s a b (Ok (phase.Carrying object stage.Line))
renamed_object s a b to object did at =
    placed s a b (λ fed. RenamesObject _ object) (rw (at) at did)

pub may_rename_object : (told : Option Writing) (to : Path) (object : Object) → MayMove told staging (in_root object.place) → to ≡ in_root object.place
    → MayMove told staging to
may_rename_object told to object may is = rw is may

pub may_move_staging : (told : Option Writing) (from to : Path) → MayMove told staging to → from ≡ staging → MayMove told from to
may_move_staging told from to may is = rw is may

pub ruleset placing = (may_make_found, parent_there, looked_then, made_tuple, found_tuple, in_the_way, renamed_object, may_rename_object, may_move_staging)

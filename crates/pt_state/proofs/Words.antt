-- The words in which the proofs of the turns speak, from the definitions of the crates below.
pub use Rattle.pt_name.specs.Share.{tells_at, walks}
pub use Rattle.pt_name.specs.Tuples.{IsLayout}
pub use Rattle.pt_object.specs.Algorithm.{digest_of}
unfoldable pub use Rattle.pt_object.specs.Hasher.{HasBeenFed}
pub use Rattle.pt_object.specs.Script.{MakeFile, MakeFolder}
pub use Rattle.pt_object.specs.Scripts.{staging}
pub use Rattle.pt_object.specs.declared.algorithm.Algorithm.{Algorithm}
pub use Rattle.pt_object.specs.declared.table.contents.Content.{Content}
pub use Rattle.pt_object.specs.declared.hasher.Hasher.{Hasher}
pub use Rattle.pt_object.specs.declared.rows.Row.{Row}
pub use Rattle.pt_plan.specs.Answer.{Answer, phase_after}
pub use Rattle.pt_plan.specs.Job.{Job}
pub use Rattle.pt_plan.specs.Lines.{Done, End, Line, Present, Skipped, line_text}
pub use Rattle.pt_plan.specs.Run.{Counts, Held, Kept, Run, new_run, turning, with_trail}
pub use Rattle.pt_plan.specs.Turn.{FailsAtFirst, FailsLater, Next, GoesOn, HasFailed, IsHalted, IsRefused, Make, Place, Scan, Start, Turn, Walk, counted}
unfoldable pub use Rattle.pt_plan.specs.Turn.{Did, FailsPartway, FailsUnchanged}
pub use Rattle.pt_plan.specs.TurnMake.{content_at}
pub use Rattle.pt_plan.specs.TurnPlace.{bytes_in_rows}
pub use Rattle.pt_plan.specs.TurnScan.{logical_path, to_site}
pub use Rattle.pt_plan.specs.TurnWalk.{in_pairtree}
pub use Rattle.pt_plan.specs.DeviceStates.{
  Adds,
  Asked,
  Calls,
  Change,
  Creates,
  Failures,
  Finds,
  Finishes,
  Lists,
  Looks,
  Makes,
  NewFile,
  OfPiece,
  Opens,
  Reads,
  Renames,
  Untouched,
  DeviceStates,
  asks,
  dest_tree,
  does,
  no_calls,
  tells,
}
unfoldable pub use Rattle.pt_plan.specs.DeviceStates.{Answers, Changes, Puts}
pub use Rattle.pt_plan.specs.declared.fault.Fault.{Fault}
pub use Rattle.pt_plan.specs.declared.fault.Fault.TheVariants as fault
pub use Rattle.pt_plan.specs.declared.object.Object.{Object}
pub use Rattle.pt_plan.specs.declared.phase.Part.{Part}
pub use Rattle.pt_plan.specs.declared.phase.Part.TheVariants as part
pub use Rattle.pt_plan.specs.declared.phase.Phase.{Phase}
pub use Rattle.pt_plan.specs.declared.phase.Opening.TheVariants as opening
pub use Rattle.pt_plan.specs.declared.phase.Phase.TheVariants as phase
pub use Rattle.pt_plan.specs.declared.phase.Stage.TheVariants as stage
pub use Rattle.pt_plan.specs.declared.phase.Position.{Position}
pub use Rattle.pt_state.specs.Lines.{with_skipped}
unfoldable pub use Rattle.pt_state.specs.Outside.{Turned}
pub use Rattle.pt_state.specs.States.{KeepsAll, counts_of, held_of, job_of, kept_of}
pub use Rattle.pt_tree.specs.Dest.{Writing, after_create}
unfoldable pub use Rattle.pt_tree.specs.Dest.{IsKindAt, MayMake}
pub use Rattle.pt_tree.specs.Forest.{Forest}
pub use Rattle.pt_tree.specs.Listing.{Item}
pub use Rattle.pt_tree.specs.Log.{AppendsFront}
pub use Rattle.pt_tree.specs.Path.{Path, joined, same_path}
pub use Rattle.pt_tree.specs.Source.{Reading, after_open, tree_in}
unfoldable pub use Rattle.pt_tree.specs.Source.{CanOpen}
pub use Rattle.pt_tree.specs.Tree.{Bytes, Tree, kind_of_entry}
pub use Rattle.pt_tree.specs.declared.kind.Kind.{Kind}
pub use Rattle.pt_tree.specs.declared.kind.Kind.TheVariants as kind
pub use Rattle.pt_walk.specs.Trail.{advanced, current_entry, entered, is_dir_entry, names_to, parent, sought, trail_path}
pub use Rattle.pt_walk.specs.declared.cause.Cause.{Cause}
pub use Rattle.pt_walk.specs.declared.cause.Cause.TheVariants as cause
pub use Rattle.pt_walk.specs.declared.frame.Frame.{Frame}

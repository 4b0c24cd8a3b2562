-- What a turn leaves that makes a root or an object and breaks off may be left by a fault; so may what a turn leaves that places an object or tells of it.
use Rattle.std.proofs.Common.{◌≡◌, ◌-◌, ◌+◌, ℕ, suc, List, [], ◌∷◌, ◌++◌, refl, ap, sym, ◌∙◌, arith, drop, length, take}
use Rattle.std.specs.Prelude.{None, Some, slice_get}
use Rattle.std.proofs.lemmas.Bool.{ltb-false}
use Rattle.pt_object.specs.Script.{Item, MakeFile, MakeFolder, done}
use Rattle.pt_object.specs.Scripts.{root_script}
use Rattle.pt_object.specs.declared.rows.Row.{Row}
use Rattle.pt_tree.specs.Dest.{Writing}
use Rattle.pt_tree.specs.Path.{Path}
use Rattle.pt_tree.specs.Source.{Reading, IsRead}
use Rattle.pt_tree.specs.Tree.{Tree}
use Rattle.pt_plan.specs.Answer.{Answer}
use Rattle.pt_plan.specs.Faults.{BeginsWith, FaultState}
use Rattle.pt_plan.specs.Job.{Job}
use Rattle.pt_plan.specs.Lines.{text}
use Rattle.pt_plan.specs.Roots.{root_in, with_root}
use Rattle.pt_plan.specs.Run.{Counts, Held}
use Rattle.pt_plan.specs.TurnMake.{
  MakeStep,
  MakesDeclaration,
  OpensCopy,
  CopiesOn,
  MakesVersionInventory,
  MakesVersionSidecar,
  MakesInventory,
  MakesSidecar,
  staged_content,
}
use Rattle.pt_plan.specs.TurnStart.{StartStep, MakesRoot}
use Rattle.pt_plan.specs.DeviceStates.{Adds, Calls, Creates, LeavesFront, LeavesPart, Makes, NewFile, OfFile, OfPiece, Untouched}
use Rattle.pt_plan.specs.declared.object.Object.{Object}
use Rattle.pt_plan.specs.declared.phase.Part.{Part}
use Rattle.pt_plan.specs.declared.phase.Part.TheVariants as a_part
use Rattle.pt_plan.specs.declared.phase.Phase.{Phase}
use Rattle.pt_plan.specs.declared.phase.Opening.TheVariants as opening
use Rattle.pt_plan.specs.declared.phase.Phase.TheVariants as phase
use Rattle.pt_plan.specs.declared.phase.Stage.TheVariants as stage
use Rattle.pt_plan.specs.declared.phase.Position.{Position}
use Rattle.pt_invariant.specs.DestInvariant.{root_on_way}
use Rattle.pt_invariant.specs.FaultState.{FaultStateAndLog}
use Rattle.pt_invariant.specs.PartsMade.{made_before, script_of_object}
use Rattle.pt_invariant.specs.History.{History}
use Rattle.pt_invariant.proofs.faults.BrokenTurns.{WereAnswered, IsBefore, left_quiet, left_untold}
use Rattle.pt_invariant.proofs.items.CarriedNext.{begins_cut, begins_taken, carried_next, carrying_left, content_stands, row_bytes}
use Rattle.pt_invariant.proofs.dest.ContentParts.{file_next}
use Rattle.pt_invariant.proofs.source.InPairtree.{some_same}
use Rattle.pt_invariant.proofs.faults.KeptNow.{stands_cut}
use Rattle.pt_invariant.proofs.faults.LeavesBehind.{plain_same}
use Rattle.pt_invariant.proofs.faults.LeftNow.{root_left}
use Rattle.pt_invariant.proofs.dest.MadeItems.{made_in_turn}
use Rattle.pt_invariant.proofs.dest.MakesDest.{copied, copy_here, copy_stands, is_here}
use Rattle.pt_invariant.proofs.dest.ObjectParts.{next_declaration, next_first, next_fourth, next_second, next_third}
use Rattle.pt_invariant.proofs.source.ReadsOn.{reads_block}
use Rattle.pt_invariant.proofs.dest.ScriptParts.{IsNext}
use Rattle.pt_invariant.proofs.Tests.{split_at}

module _ (job : Job) (past : History) (s : Reading) (start : Tree) (prefix : List ℕ) (counts : Counts) (old new : Writing) (first log last : List ℕ) where
  abbrev Before : Held → Phase → Type 0
  Before held here = IsBefore job past s start prefix held counts old first log here

  abbrev Left : Type 0
  Left = FaultStateAndLog job s.tree start new.tree first last

  abbrev Quiet : Type 0
  Quiet = Some last ≡ Some log

  abbrev May : Type 0
  May = FaultState job s.tree start new.tree (text job s.tree (root_in start) past.count)

  -- ---- a new root

  root_broken : {number : ℕ} (item : Item) {held : Held} → Before held (phase.Opening (opening.RootMake number))
      → slice_get (root_script job.tuples) number ≡ Some item → LeavesPart (Some old) (Some new) (Makes item) → Quiet → Left
  root_broken (MakeFolder _) before _ left put = left_quiet new before (plain_same refl left) put
  root_broken (MakeFile _ _) before _ (Untouched _ same) put = left_quiet new before (some_same new.tree old.tree same) put
  root_broken {number} (MakeFile path bytes) before is (OfFile _ _ count same) put =
      let script = root_script job.tuples in
      let at = before.known.dest.at in
      let tree_is = some_same new.tree _ same in
      let next : IsNext script (take number script) (MakeFile path bytes) = record { rest = drop (suc number) script; is = split_at number script _ is } in
      left_untold new before put
      (root_left s.tree before.known.source.at.1 at
      (stands_cut count next (tree_is ∙ ap (done (MakeFile path (take count bytes))) at.tree)))

  pub starts_broken : {read : List ℕ} {here : Phase} {held : Held} {calls : Calls} {answer : Answer} → StartStep job here prefix read calls answer
      → Before held here → LeavesPart (Some old) (Some new) calls.change → LeavesFront calls.line (Some log) (Some last) → Left
  starts_broken (MakesRoot _ _ item is) before left put = root_broken item before is left put
  starts_broken {here} _ before left put = left_quiet new before (plain_same refl left) put

  -- ---- a part of an object

  part_broken : {object : Object} {here : Part} {path : Path} {bytes : List ℕ} {held : Held} → Before held (phase.Carrying object (stage.Make here))
      → IsNext (script_of_object job object held.rows past.bytes) (made_before job object held.rows past.bytes here) (MakeFile path bytes)
      → LeavesPart (Some old) (Some new) (Makes (MakeFile path bytes)) → Quiet → Left
  part_broken {object} {here} {held} before _ (Untouched _ same) put = left_quiet new before (some_same new.tree old.tree same) put
  part_broken {object} {here} {path} {bytes} {held} before next (OfFile p b count same) put =
      let known = before.known in
      let source = known.source in
      let front = made_before job object held.rows past.bytes here in
      let tree_is = some_same new.tree _ same in
      left_untold new before put
      (carrying_left job past s start object held {n = 0} known.dest.started known.dest.at.root known.held_at.ends.0 known.held_at.rows (omega arith)
      known.items.places.placed
      (carried_next past s (root_in start) source.proper source.at.0 source.at.1 source.bytes known.items.places.next)
      (stands_cut count next (tree_is ∙ ap (done (MakeFile path (take count bytes))) known.dest.at.tree)))

  opened_broken : {object : Object} {position : Position} {held : Held} (row : Row) → Before held (phase.Carrying object (stage.Make (a_part.Content position)))
      → IsNext (script_of_object job object held.rows past.bytes) (made_before job object held.rows past.bytes (a_part.Content position))
      (MakeFile (staged_content row.path) (past.bytes row.path)) → LeavesPart (Some old) (Some new) (Creates (staged_content row.path)) → Quiet → Left
  opened_broken {object} {position} {held} _ before _ (Untouched _ same) put = left_quiet new before (some_same new.tree old.tree same) put
  opened_broken {object} {position} {held} row before next (NewFile p same) put =
      let known = before.known in
      let source = known.source in
      let front = made_before job object held.rows past.bytes (a_part.Content position) in
      let item = MakeFile (staged_content row.path) [] in
      let tree_is = some_same new.tree _ same in
      left_untold new before put
      (carrying_left job past s start object held {n = 0} known.dest.started known.dest.at.root known.held_at.ends.0 known.held_at.rows (omega arith)
      known.items.places.placed
      (carried_next past s (root_in start) source.proper source.at.0 source.at.1 source.bytes known.items.places.next)
      (content_stands next (past.bytes row.path, refl) (tree_is ∙ ap (done item) known.dest.at.tree)))

  copied_broken : {object : Object} {position : Position} {left : ℕ} {piece : List ℕ} {held : Held}
      → Before held (phase.Carrying object (stage.Copy position left)) → IsRead (Some s) piece → LeavesPart (Some old) (Some new) (Adds piece) → Quiet → Left
  unfolding IsRead
  copied_broken {object} {position} {left} {held} before _ (Untouched _ same) put = left_quiet new before (some_same new.tree old.tree same) put
  copied_broken {object} {position} {left} {piece} {held} before read (OfPiece p count same) put =
      let known = before.known in
      let source = known.source in
      let at = known.held_at in
      let more = take count piece in
      let it = copied job past start object position left left held old new None more (some_same new _ same) known.dest in
      let row = it.at.writes.row in
      let is = it.at.writes.is_row in
      let reads = source.at.2 in
      let whole = reads_block 8192 _ _ held.fed piece s.unread reads.read (read s refl) in
      let front = made_before job object held.rows past.bytes (a_part.Content position) in
      let root = with_root start (root_on_way job start past.placed object.place 0) in
      let same_row = some_same reads.row row (sym reads.is_row ∙ is) in
      let bytes = row_bytes s.tree object held.trail past.bytes held.rows position.row at.ends.1 source.bytes reads.is_row in
      let begins : BeginsWith (held.fed ++ piece) (past.bytes row.path) =
      begins_taken (reads.row.length - left + length piece) (whole.fed_is
      ∙ ap (take (reads.row.length - left + length piece)) (sym bytes ∙ ap (λ (r : Row). past.bytes r.path) same_row)) in
      left_untold new before put
      (carrying_left job past s start object held {n = 0} known.dest.started known.dest.at.making.root at.ends.0 at.rows (omega arith) known.items.places.placed
      (carried_next past s (root_in start) source.proper source.at.0 source.at.1 source.bytes known.items.places.next)
      (content_stands
      (file_next job object held.rows held.contents past.bytes position row (copy_here job past object position left held row at is)
      (copy_stands held position row is at.numbers)) (begins_cut count held.fed piece begins)
      (it.at.making.tree ∙ made_in_turn front (MakeFile (staged_content row.path) (held.fed ++ more) ∷ []) root)))

  pub makes_broken : {here : Phase} {held after : Held} {calls : Calls} {answer : Answer} → MakeStep job here held after calls answer → Before held here
      → WereAnswered calls s old → LeavesPart (Some old) (Some new) calls.change → LeavesFront calls.line (Some log) (Some last) → Left
  makes_broken (MakesDeclaration was object) before _ left put = part_broken before (next_declaration job object was.rows past.bytes) left put
  makes_broken (OpensCopy was object position row is stored all) before _ left put = opened_broken row before
      (file_next job object was.rows was.contents past.bytes position row (is_here job past object position was row before.known.held_at is stored)
      (ltb-false position.directories (length row.path) all)) left put
  makes_broken (CopiesOn _ _ _ _ _ _ _) before answered left put = copied_broken before answered.read left put
  makes_broken (MakesVersionInventory was object) before _ left put = part_broken before (next_first job object was.rows past.bytes) left put
  makes_broken (MakesVersionSidecar was object) before _ left put = part_broken before (next_second job object was.rows past.bytes) left put
  makes_broken (MakesInventory was object) before _ left put = part_broken before (next_third job object was.rows past.bytes) left put
  makes_broken (MakesSidecar was object) before _ left put = part_broken before (next_fourth job object was.rows past.bytes) left put
  makes_broken {here} {held} _ before _ left put = left_quiet new before (plain_same refl left) put

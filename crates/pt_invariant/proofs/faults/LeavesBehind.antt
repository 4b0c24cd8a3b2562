-- What a turn that breaks off leaves in the destination may be kept.
use Rattle.std.proofs.Common.{inl, inr, ◌≡◌, ℕ, suc, Bool, true, false, List, [], ◌++◌, refl, ap, sym, ◌∙◌, subst, arith, drop, length, take}
use Rattle.std.specs.Prelude.{◌⊎◌, None, Some, slice_get}
use Rattle.std.proofs.lemmas.Bool.{ltb-false}
use Rattle.pt_object.specs.Script.{Item, MakeFile, MakeFolder, done}
use Rattle.pt_object.specs.Scripts.{root_script}
use Rattle.pt_object.specs.declared.rows.Row.{Row}
use Rattle.pt_tree.specs.Dest.{Writing}
use Rattle.pt_tree.specs.Path.{Path}
use Rattle.pt_tree.specs.Tree.{Bytes, IsTree, Tree}
use Rattle.pt_plan.specs.Answer.{Answer}
use Rattle.pt_plan.specs.Fixity.{DestFaultState}
use Rattle.pt_plan.specs.Job.{Job}
use Rattle.pt_plan.specs.Run.{Counts, Held, with_fed}
use Rattle.pt_plan.specs.Turn.{Next, Start as a_start, Walk, Scan, Make, Place}
use Rattle.pt_plan.specs.TurnMake.{
  MakesDeclaration,
  OpensCopy,
  CopiesOn,
  MakesVersionInventory,
  MakesVersionSidecar,
  MakesInventory,
  MakesSidecar,
  staged_content,
}
use Rattle.pt_plan.specs.TurnPlace.{MakesTuple}
use Rattle.pt_plan.specs.TurnScan.{StartsInSite}
use Rattle.pt_plan.specs.TurnStart.{MakesRoot}
use Rattle.pt_plan.specs.TurnWalk.{OpensRoot}
use Rattle.pt_plan.specs.DeviceStates.{
  Adds,
  Calls,
  Change,
  ChangesNothing,
  Creates,
  Finds,
  FindsNoneAndMakes,
  Finishes,
  LeavesPart,
  Makes,
  NewFile,
  OfFile,
  OfPiece,
  Peeks,
  Renames,
  Untouched,
}
use Rattle.pt_plan.specs.declared.object.Object.{Object}
use Rattle.pt_plan.specs.declared.phase.Part.{Part}
use Rattle.pt_plan.specs.declared.phase.Part.TheVariants as a_part
use Rattle.pt_plan.specs.declared.phase.Phase.{Phase}
use Rattle.pt_plan.specs.declared.phase.Opening.TheVariants as opening
use Rattle.pt_plan.specs.declared.phase.Phase.TheVariants as phase
use Rattle.pt_plan.specs.declared.phase.Stage.TheVariants as stage
use Rattle.pt_plan.specs.declared.phase.Position.{Position}
use Rattle.pt_invariant.specs.DestInvariant.{DestPart, DestFaultStateOfRun, IsRootOfStart}
use Rattle.pt_invariant.specs.HeldInvariant.{HeldAt}
use Rattle.pt_invariant.specs.PartsMade.{made_before, script_of_object}
use Rattle.pt_invariant.specs.History.{History}
use Rattle.pt_invariant.proofs.dest.ContentParts.{file_next}
use Rattle.pt_invariant.proofs.source.InPairtree.{some_same}
use Rattle.pt_invariant.proofs.faults.KeptNow.{copy_kept, kept_now, made_kept, root_kept, stands_cut}
use Rattle.pt_invariant.proofs.dest.MakesDest.{copied, is_here, item_may, with_item}
use Rattle.pt_invariant.proofs.dest.ObjectParts.{next_declaration, next_first, next_fourth, next_second, next_third}
use Rattle.pt_invariant.proofs.held.ScansHold.{fed_rows}
use Rattle.pt_invariant.proofs.dest.ScriptParts.{IsNext}
use Rattle.pt_invariant.proofs.dest.StartsDest.{root_item_made}
use Rattle.pt_invariant.proofs.Tests.{split_at}
use Rattle.pt_invariant.proofs.dest.Trees.{tree_put}

-- what is left is a tree, and may be kept
pub record IsLeftTree (job : Job) (start : Tree) (now : Writing) : Type 0 where
  pub tree : IsTree now.tree
  pub left : DestFaultStateOfRun job start now

-- ---- nothing is left of the change

pub same_left : (job : Job) (past : History) (start : Tree) (here : Phase) (held : Held) (old new : Writing) → HeldAt job past here held
    → DestPart job past here held start old → new.tree ≡ old.tree → IsLeftTree job start new
same_left job past start here held old new at dest same =
    let left = kept_now job past start here held old at dest in
    record {
      tree = subst IsTree (sym same) dest.tree;
      left = record {
        kept = subst (DestFaultState job start) (sym same) left.kept;
        stood = either
            left.stood;
      };
    }
  where
    either : IsRootOfStart job start ⊎ (old.tree ≡ start) → IsRootOfStart job start ⊎ (new.tree ≡ start)
    either (inl root) = inl root
    either (inr untouched) = inr (same ∙ untouched)

-- of these changes nothing can be left
abbrev pub is_plain : Change → Bool
is_plain ChangesNothing = true
is_plain (Finds path here) = true
is_plain (Peeks path block) = true
is_plain (FindsNoneAndMakes path) = true
is_plain (Makes (MakeFolder path)) = true
is_plain (Makes (MakeFile path bytes)) = false
is_plain (Creates path) = false
is_plain (Adds piece) = false
is_plain Finishes = true
is_plain (Renames from to) = true

pub plain_same : {change : Change} {old new : Writing} → is_plain change ≡ true → LeavesPart (Some old) (Some new) change → new.tree ≡ old.tree
plain_same {old} {new} _ (Untouched _ same) = some_same new.tree old.tree same
plain_same plain _ = absurd (cc)

-- ---- a new root

root_left : {job : Job} {past : History} {start : Tree} {number : ℕ} (item : Item) {held : Held} {old new : Writing}
    → HeldAt job past (phase.Opening (opening.RootMake number)) held → DestPart job past (phase.Opening (opening.RootMake number)) held start old
    → slice_get (root_script job.tuples) number ≡ Some item
    → LeavesPart (Some old) (Some new) (Makes item) → IsLeftTree job start new
root_left {job} {past} {start} {number} (MakeFolder _) {held} {old} {new} at dest _ left = same_left job past start (phase.Opening (opening.RootMake number))
    held old new at dest (plain_same refl left)
root_left {job} {past} {start} {number} (MakeFile _ _) {held} {old} {new} at dest _ (Untouched _ same) = same_left job past start
    (phase.Opening (opening.RootMake number)) held old new at dest (some_same new.tree old.tree same)
root_left {job} {start} {number} (MakeFile path bytes) {old} {new} _ dest is (OfFile _ _ count same) =
    let tree_is = some_same new.tree _ same in
    let next : IsNext (root_script job.tuples) (take number (root_script job.tuples)) (MakeFile path bytes) = record
    { rest = drop (suc number) (root_script job.tuples); is = split_at number (root_script job.tuples) _ is } in
    record {
      tree = subst IsTree (sym tree_is) (tree_put old.tree path (Bytes (take count bytes)) dest.tree
          (root_item_made job start number _ old dest.started is dest.at));
      left = record {
        kept = root_kept dest.at
            (stands_cut count next (tree_is ∙ ap (done (MakeFile path (take count bytes))) dest.at.tree));
        stood = inl (record { free = dest.at.free; root = inl dest.at.root });
      };
    }

-- ---- a part of an object

part_left : {job : Job} {past : History} {start : Tree} {object : Object} {here : Part} {path : Path} {bytes : List ℕ} {held : Held} {old new : Writing}
    → HeldAt job past (phase.Carrying object (stage.Make here)) held → DestPart job past (phase.Carrying object (stage.Make here)) held start old
    → IsNext (script_of_object job object held.rows past.bytes) (made_before job object held.rows past.bytes here) (MakeFile path bytes)
    → LeavesPart (Some old) (Some new) (Makes (MakeFile path bytes)) → IsLeftTree job start new
part_left {job} {past} {start} {object} {here} {held} {old} {new} at dest _ (Untouched _ same) = same_left job past start
    (phase.Carrying object (stage.Make here)) held old new at dest (some_same new.tree old.tree same)
part_left {job} {past} {start} {object} {here} {path} {bytes} {held} {old} {new} at dest next (OfFile p b count same) =
    let front = made_before job object held.rows past.bytes here in
    let tree_is = some_same new.tree _ same in
    let may = item_may job start past.placed object held.rows past.bytes front _ old dest.started at.rows.order next dest.at in
    record {
      tree = subst IsTree (sym tree_is) (tree_put old.tree path (Bytes (take count bytes)) dest.tree may);
      left = record {
        kept = made_kept job past start object held dest.started at.ends.0 at.rows (omega arith) dest.at
            (stands_cut count next (tree_is ∙ ap (done (MakeFile path (take count bytes))) dest.at.tree));
        stood = inl dest.at.root;
      };
    }

opened_left : {job : Job} {past : History} {start : Tree} {object : Object} {position : Position} {held : Held} (row : Row) {old new : Writing}
    → HeldAt job past (phase.Carrying object (stage.Make (a_part.Content position))) held
    → DestPart job past (phase.Carrying object (stage.Make (a_part.Content position))) held start old
    → IsNext (script_of_object job object held.rows past.bytes) (made_before job object held.rows past.bytes (a_part.Content position))
    (MakeFile (staged_content row.path) (past.bytes row.path)) → LeavesPart (Some old) (Some new) (Creates (staged_content row.path))
    → IsLeftTree job start new
opened_left {job} {past} {start} {object} {position} {held} _ {old} {new} at dest _ (Untouched _ same) = same_left job past start
    (phase.Carrying object (stage.Make (a_part.Content position))) held old new at dest (some_same new.tree old.tree same)
opened_left {job} {past} {start} {object} {position} {held} row {old} {new} at dest next (NewFile _ same) =
    let front = made_before job object held.rows past.bytes (a_part.Content position) in
    let item = MakeFile (staged_content row.path) [] in
    let tree_is = some_same new.tree _ same in
    let may = item_may job start past.placed object held.rows past.bytes front _ old dest.started at.rows.order next dest.at in
    record {
      tree = subst IsTree (sym tree_is) (tree_put old.tree _ (Bytes []) dest.tree may);
      left = record {
        kept = copy_kept job past start object held [] dest.started at.ends.0 at.rows
            (with_item job start past.placed object front item old new tree_is dest.at) next (tree_is ∙ ap (done item) dest.at.tree);
        stood = inl dest.at.root;
      };
    }

fed_held : {job : Job} {past : History} {object : Object} {position : Position} {left : ℕ} {held : Held} (fed : List ℕ)
    → HeldAt job past (phase.Carrying object (stage.Copy position left)) held
    → HeldAt job past (phase.Carrying object (stage.Copy position left)) (with_fed held fed)
fed_held {job} {past} {held} fed at = record {
  trail = record { is_one = at.trail.is_one; none = tt; entry = tt };
  ends = at.ends;
  rows = fed_rows job past.bytes held fed at.rows;
  behind = tt;
  numbers = record { at = at.numbers.at; row = at.numbers.row; is_row = at.numbers.is_row; next = at.numbers.next; stand = at.numbers.stand };
  fed = tt;
}

copied_left : {job : Job} {past : History} {start : Tree} {object : Object} {position : Position} {left : ℕ} {piece : List ℕ} {held : Held} {old new : Writing}
    → HeldAt job past (phase.Carrying object (stage.Copy position left)) held
    → DestPart job past (phase.Carrying object (stage.Copy position left)) held start old
    → LeavesPart (Some old) (Some new) (Adds piece) → IsLeftTree job start new
copied_left {job} {past} {start} {object} {position} {left} {held} {old} {new} at dest (Untouched _ same) = same_left job past start
    (phase.Carrying object (stage.Copy position left)) held old new at dest (some_same new.tree old.tree same)
copied_left {job} {past} {start} {object} {position} {left} {piece} {held} {old} {new} at dest (OfPiece _ count same) =
    let part = take count piece in
    let it = copied job past start object position left left held old new None part (some_same new _ same) dest in
    record { tree = it.tree; left = kept_now job past start _ _ new (fed_held (held.fed ++ part) at) it }

-- ---- each turn

pub follows_left : {job : Job} {past : History} {start : Tree} {counts : Counts} {here : Phase} {prefix : List ℕ} {held : Held} {read : List ℕ} {after : Held}
    {calls : Calls} {answer : Answer} {old new : Writing} → Next job counts here prefix held read after calls answer
    → HeldAt job past here held → DestPart job past here held start old → LeavesPart (Some old) (Some new) calls.change → IsLeftTree job start new
follows_left (a_start (MakesRoot _ _ item is)) at dest left = root_left item at dest is left
follows_left {job} {past} {start} {old} {new} (Make (MakesDeclaration was object)) at dest left = part_left at dest
    (next_declaration job object was.rows past.bytes) left
follows_left {job} {past} (Make (OpensCopy was object position row is stored all)) at dest broken = opened_left row at dest
    (file_next job object was.rows was.contents past.bytes position row (is_here job past object position was row at is stored)
    (ltb-false position.directories (length row.path) all)) broken
follows_left (Make (CopiesOn _ _ _ _ _ _ _)) at dest broken = copied_left at dest broken
follows_left {job} {past} {start} {old} {new} (Make (MakesVersionInventory was object)) at dest left = part_left at dest
    (next_first job object was.rows past.bytes) left
follows_left {job} {past} {start} {old} {new} (Make (MakesVersionSidecar was object)) at dest left = part_left at dest
    (next_second job object was.rows past.bytes) left
follows_left {job} {past} {start} {old} {new} (Make (MakesInventory was object)) at dest left = part_left at dest (next_third job object was.rows past.bytes)
    left
follows_left {job} {past} {start} {old} {new} (Make (MakesSidecar was object)) at dest left = part_left at dest (next_fourth job object was.rows past.bytes)
    left
follows_left {job} {past} {start} {here} {held} {old} {new} (Walk (OpensRoot _ _)) at dest left = same_left job past start here held old new at dest
    (plain_same refl left)
follows_left {job} {past} {start} {here} {held} {old} {new} (Scan (StartsInSite _ _ _)) at dest left = same_left job past start here held old new at dest
    (plain_same refl left)
follows_left {job} {past} {start} {here} {held} {old} {new} (Place (MakesTuple _ _ _)) at dest left = same_left job past start here held old new at dest
    (plain_same refl left)
follows_left {job} {past} {start} {here} {held} {old} {new} _ at dest left = same_left job past start here held old new at dest (plain_same refl left)

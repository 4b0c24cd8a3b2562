-- The turns that make an object keep what holds where the destination tells.
use Rattle.std.proofs.Common.{inl, inr, ◌≡◌, ◌≤◌, ◌==◌, ℕ, zero, suc, true, false, List, [], ◌∷◌, ◌++◌, refl, ap, sym, ◌∙◌, subst, arith, cond, length, take}
use Rattle.std.specs.Prelude.{◌⊎◌, Option, None, Some, is_some, nat_lt, slice_get}
use Rattle.std.specs.Option.{option_or}
use Rattle.std.proofs.lemmas.Bool.{eqb-true, ltb-false, ltb-true}
use Rattle.pt_object.proofs.Moved.{piece_makes_more}
use Rattle.pt_object.proofs.ObjectScripts.{in_order_apart, script_of_rows_can_be_made}
use Rattle.pt_object.specs.FilePaths.{row_paths}
use Rattle.pt_tree.specs.PathOrder.{part_in_order}
use Rattle.pt_object.specs.Holding.{IsFree}
use Rattle.pt_object.specs.Root.{base, base_where}
use Rattle.pt_object.specs.Script.{CanBeMadeInTurn, Item, MakeFile, done, item_entry, item_path, made}
use Rattle.pt_object.specs.Scripts.{IsFresh, staging}
use Rattle.pt_object.specs.declared.rows.Row.{Row}
use Rattle.pt_tree.specs.Dest.{Writing, added_to, after_append, after_create, after_finish}
use Rattle.pt_tree.specs.Path.{Path, rest_below}
use Rattle.pt_tree.specs.Tree.{Bytes, CanMake, Entry, Folder, IsTree, Tree, added}
use Rattle.pt_plan.specs.Carried.{Carried, entry_of_objects, folder_where, is_on_the_way}
use Rattle.pt_plan.specs.Job.{Job}
use Rattle.pt_plan.specs.Lines.{Line}
use Rattle.pt_plan.specs.Roots.{root_in, storage_root, with_root}
use Rattle.pt_plan.specs.Run.{Held, with_fed}
use Rattle.pt_plan.specs.TurnMake.{
  MakesStaging,
  MakesDeclaration,
  MakesVersion,
  PassesRow,
  MakesFolder,
  OpensCopy,
  CopiesOn,
  EndsCopy,
  MakesVersionInventory,
  MakesVersionSidecar,
  MakesInventory,
  MakesSidecar,
  behind,
  behind_stored,
  content_at,
  staged_content,
  is_stored,
  sidecar_file,
}
use Rattle.pt_plan.specs.DeviceStates.{Changes, after_make}
use Rattle.pt_plan.specs.declared.object.Object.{Object}
use Rattle.pt_plan.specs.declared.phase.Part.{Part}
use Rattle.pt_plan.specs.declared.phase.Part.TheVariants as a_part
use Rattle.pt_plan.specs.declared.phase.Phase.TheVariants as phase
use Rattle.pt_plan.specs.declared.phase.Stage.TheVariants as stage
use Rattle.pt_plan.specs.declared.phase.Position.{Position}
use Rattle.pt_invariant.specs.DestInvariant.{DestPart, HasFoldersTo, HasRootFiles, IsMakingObject, IsRootOfStart, root_now, root_on_way}
use Rattle.pt_invariant.specs.HeldInvariant.{HeldAt}
use Rattle.pt_invariant.specs.DestLaws.{MakingKeepsDest}
use Rattle.pt_invariant.specs.PartsMade.{IsAtStoredRow, made_before, script_of_object}
use Rattle.pt_invariant.specs.History.{History, with_bytes_of}
use Rattle.pt_invariant.proofs.held.EitherPhase.{after_sidecar}
use Rattle.pt_invariant.proofs.dest.DestKeeps.{unchanged, DestAfter}
use Rattle.pt_invariant.proofs.dest.ContentParts.{IsHere, copy_made, file_next, folder_made, folder_next, made_at, made_first}
use Rattle.pt_invariant.proofs.source.InPairtree.{some_same}
use Rattle.pt_invariant.proofs.dest.MadeItems.{made_in_turn, tree_made}
use Rattle.pt_invariant.proofs.held.MakesHold.{its_next}
use Rattle.pt_invariant.proofs.dest.ObjectParts.{
  after_first,
  after_fourth,
  after_second,
  after_third,
  next_declaration,
  next_first,
  next_fourth,
  next_second,
  next_staging,
  next_third,
  next_version,
}
use Rattle.pt_invariant.proofs.held.Positions.{stored_more, stored_passed}
use Rattle.pt_invariant.proofs.dest.ScriptParts.{IsNext, next_may}
use Rattle.pt_invariant.proofs.dest.StartsDest.{root_stands}
use Rattle.pt_invariant.proofs.dest.Trees.{tree_added, tree_put}

-- ---- an item may be made, and is

pub fresh_root : {start : Tree} (root : Tree) → IsTree start → IsFree start staging → IsFresh (with_root start root)
fresh_root root tree free = record { top = tree.top; free = λ q. free q }

-- the whole script may be made
pub script_may : (job : Job) (start root : Tree) (object : Object) (rows : List Row) (bytes : Path → List ℕ) → IsTree start → IsFree start staging
    → part_in_order (row_paths rows) ≡ true → CanBeMadeInTurn (script_of_object job object rows bytes) (with_root start root)
script_may job start root object rows bytes tree free order =
    script_of_rows_can_be_made object.id rows bytes job.meta job.algorithm (with_root start root) (in_order_apart (row_paths rows) order)
    (fresh_root root tree free)

-- the next item may be made
pub item_may : (job : Job) (start : Tree) (placed : List Carried) (object : Object) (rows : List Row) (bytes : Path
    → List ℕ) (front : List Item) (item : Item) (now : Writing) → IsTree start → part_in_order (row_paths rows) ≡ true
    → IsNext (script_of_object job object rows bytes) front item
    → IsMakingObject job start placed object front 0 now → CanMake now.tree (item_path item)
item_may job start placed object rows bytes front item now tree order next it =
    let root = root_on_way job start placed object.place 0 in
    rw it.tree
    (next_may front item _ (script_may job start root object rows bytes tree it.root.free order) next)

-- with it
pub with_item : (job : Job) (start : Tree) (placed : List Carried) (object : Object) (front : List Item) (item : Item) (old new : Writing)
    → new.tree ≡ done item old.tree → IsMakingObject job start placed object front 0 old → IsMakingObject job start placed object (front ++ item ∷ []) 0 new
with_item job start placed object front item old new is it = record {
  root = it.root;
  came = it.came;
  free = it.free;
  tree = is ∙ ap (done item) it.tree ∙ sym (made_in_turn front (item ∷ []) (with_root start (root_on_way job start placed object.place 0)));
}

-- what is made may be said otherwise
said : {job : Job} {start : Tree} {placed : List Carried} {object : Object} {items others : List Item} {now : Writing} → items ≡ others
    → IsMakingObject job start placed object items 0 now → IsMakingObject job start placed object others 0 now
said {job} {start} {placed} {object} {now} same it = rw same at it

-- a part was made
part_made : {job : Job} {past : History} {start : Tree} {object : Object} {here : Part} {held after : Held} {old new : Writing} {item : Item} {next : Part}
    → HeldAt job past (phase.Carrying object (stage.Make here)) held → after.rows ≡ held.rows → Some new ≡ Some (after_make item old)
    → IsNext (script_of_object job object held.rows past.bytes) (made_before job object held.rows past.bytes here) item
    → made_before job object held.rows past.bytes here ++ item ∷ [] ≡ made_before job object held.rows past.bytes next
    → DestPart job past (phase.Carrying object (stage.Make here)) held start old
    → DestAfter job past (phase.Carrying object (stage.Make here)) (phase.Carrying object (stage.Make next)) held after start new
part_made {job} {past} {start} {object} {held} {old} {new} {item} {next} at rows change is more part =
    let tree_is : new.tree ≡ done item old.tree = ap (λ (w : Writing). w.tree) (some_same new (after_make item old) change) ∙ tree_made item old in
    let may = item_may job start past.placed object held.rows past.bytes _ item old part.started at.rows.order is part.at in
    record {
      started = part.started;
      tree = subst IsTree (sym tree_is) (tree_put _ _ (item_entry item) part.tree may);
      at = said (more ∙ ap (λ (l : List Row). made_before job object l past.bytes next) (sym rows))
          (with_item job start past.placed object _ item old new tree_is part.at);
    }

-- ---- the position

pub is_here : (job : Job) (past : History) (object : Object) (position : Position) (held : Held) (row : Row)
    → HeldAt job past (phase.Carrying object (stage.Make (a_part.Content position))) held → slice_get held.rows position.row ≡ Some row
    → is_stored held.contents position.stored row.path ≡ true → IsHere held.rows held.contents position row
is_here job past object position held row at is stored = record { are = at.rows.contents; order = at.rows.order; is = is; stored = stored; at = at.numbers }

pub copy_here : (job : Job) (past : History) (object : Object) (position : Position) (left : ℕ) (held : Held) (row : Row)
    → HeldAt job past (phase.Carrying object (stage.Copy position left)) held → slice_get held.rows position.row ≡ Some row
    → IsHere held.rows held.contents position row
copy_here job past object position left held row at is = record {
  are = at.rows.contents;
  order = at.rows.order;
  is = is;
  stored = its_next row is at.numbers;
  at = at.numbers.at;
}

pub copy_stands : (held : Held) (position : Position) (row : Row) → slice_get held.rows position.row ≡ Some row → IsAtStoredRow held position
    → length row.path ≤ position.directories
copy_stands held position row is it =
    let same : it.row ≡ row = some_same it.row row (sym it.is_row ∙ is) in
    rw same at it.stand

-- ---- a file is copied

opened : (job : Job) (past : History) (start : Tree) (object : Object) (position : Position) (held : Held) (old new : Writing) (row : Row)
    → HeldAt job past (phase.Carrying object (stage.Make (a_part.Content position))) held → slice_get held.rows position.row ≡ Some row
    → is_stored held.contents position.stored row.path ≡ true → nat_lt position.directories (length row.path) ≡ false
    → new ≡ after_create (staged_content row.path) old → DestPart job past (phase.Carrying object (stage.Make (a_part.Content position))) held start old
    → DestAfter job past (phase.Carrying object (stage.Make (a_part.Content position))) (phase.Carrying object (stage.Copy position row.length)) held
    (with_fed held []) start new
opened job past start object position held old new row at is stored all change part =
    let front = made_before job object held.rows past.bytes (a_part.Content position) in
    let next = file_next job object held.rows held.contents past.bytes position row (is_here job past object position held row at is stored)
    (ltb-false position.directories (length row.path) all) in
    let may = item_may job start past.placed object held.rows past.bytes front _ old part.started at.rows.order next part.at in
    let tree_is : new.tree ≡ done (MakeFile (staged_content row.path) []) old.tree = ap (λ (w : Writing). w.tree) change in
    record {
      started = part.started;
      tree = subst IsTree (sym tree_is) (tree_put _ _ (Bytes []) part.tree may);
      at = record {
        writes = record { row = row; is_row = is; writing = ap (λ (w : Writing). w.writing) change };
        making = with_item job start past.placed object front _ old new tree_is part.at;
      };
    }

pub copied : (job : Job) (past : History) (start : Tree) (object : Object) (position : Position) (left more : ℕ) (held : Held) (old new : Writing)
    (line : Option Line) (piece : List ℕ) → new ≡ after_append piece old → DestPart job past (phase.Carrying object (stage.Copy position left)) held start old
    → DestAfter job past (phase.Carrying object (stage.Copy position left)) (phase.Carrying object (stage.Copy position more)) held
    (with_fed held (held.fed ++ piece)) start new
copied job past start object position left more held old new line piece change part =
    let row = part.at.writes.row in
    let path = staged_content row.path in
    let front = made_before job object held.rows past.bytes (a_part.Content position) in
    let root = with_root start (root_on_way job start past.placed object.place 0) in
    let tree_is : new.tree ≡ added old.tree path piece = ap (λ (w : Writing). w.tree) change ∙ ap (λ o. added_to old.tree o piece) part.at.writes.writing in
    record {
      started = part.started;
      tree = subst IsTree (sym tree_is) (tree_added old.tree path piece part.tree);
      at = record {
        writes = record { row = row; is_row = part.at.writes.is_row; writing = ap (λ (w : Writing). w.writing) change ∙ part.at.writes.writing };
        making = record {
          root = part.at.making.root;
          came = part.at.making.came;
          free = part.at.making.free;
          tree = tree_is
              ∙ ap (λ (t : Tree). added t path piece) (part.at.making.tree ∙ made_in_turn front _ root)
              ∙ piece_makes_more (made front root) path held.fed piece
              ∙ sym (made_in_turn front _ root);
        };
      };
    }

closed : (job : Job) (past : History) (start : Tree) (object : Object) (position : Position) (left : ℕ) (held : Held) (old new : Writing) (row : Row)
    → HeldAt job past (phase.Carrying object (stage.Copy position left)) held → slice_get held.rows position.row ≡ Some row
    → new ≡ after_finish old → DestPart job past (phase.Carrying object (stage.Copy position left)) held start old
    → DestAfter job past (phase.Carrying object (stage.Copy position left))
    (phase.Carrying object (stage.Make (content_at held.rows (behind_stored held.contents position row.path)))) held (with_fed held []) start new
closed job past start object position left held old new row at is change part =
    let here = copy_here job past object position left held row at is in
    let next = behind_stored held.contents position row.path in
    let later = with_bytes_of (slice_get held.rows position.row) held.fed past.bytes in
    let wrote : part.at.writes.row ≡ row = some_same part.at.writes.row row (sym part.at.writes.is_row ∙ is) in
    let tree_is : new.tree ≡ old.tree = ap (λ (w : Writing). w.tree) change in
    let items = ap (λ (r : Row). made_before job object held.rows past.bytes (a_part.Content position) ++ MakeFile (staged_content r.path) held.fed ∷ []) wrote
    ∙ copy_made job object held.rows held.contents past.bytes held.fed position row here (copy_stands held position row is at.numbers)
    ∙ sym (made_at job object held.rows later next (stored_more held.rows held.contents position row here.are here.order is here.stored here.at)) in
    record {
      started = part.started;
      tree = subst IsTree (sym tree_is) part.tree;
      at = record {
        root = part.at.making.root;
        came = part.at.making.came;
        free = part.at.making.free;
        tree = tree_is ∙ part.at.making.tree ∙ ap (λ (l : List Item). made l (with_root start (root_on_way job start past.placed object.place 0))) items;
      };
    }

-- ---- all is made

-- the root's top is a folder
pub top_folder : (job : Job) (start : Tree) (placed : List Carried) → IsTree start → IsRootOfStart job start → root_now job start placed [] ≡ Some Folder
top_folder job start placed tree root = ap (λ (o : Option Entry). option_or o
    (option_or (entry_of_objects job placed []) (folder_where (is_on_the_way job placed [])))) (base_top_folder root.root)
  where
    base_top_folder : IsFree start storage_root ⊎ HasRootFiles job (root_in start) 3 → base job.tuples (root_in start) [] ≡ Some Folder
    base_top_folder (inl free) = ap (λ (o : Option Entry). base_where job.tuples (root_in start) o []) (free [])
    base_top_folder (inr files) = ap (λ (o : Option Entry). base_where job.tuples (root_in start) o []) (root_stands job start tree files)
        ∙ root_stands job start tree files

pub top_on_way : (job : Job) (start : Tree) (placed : List Carried) (place : Path) (n : ℕ) → IsTree start → IsRootOfStart job start
    → root_on_way job start placed place n [] ≡ Some Folder
top_on_way job start placed place n tree root = ap (λ (o : Option Entry). option_or o (folder_where (is_some (rest_below [] (take n place)))))
    (top_folder job start placed tree root)

no_folders_yet : (job : Job) {start : Tree} (placed : List Carried) (place : Path) → IsTree start → IsRootOfStart job start
    → HasFoldersTo job start placed place 0
no_folders_yet job {start} placed place tree root zero within = top_on_way job start placed place 0 tree root
no_folders_yet job placed place tree root (suc i) within = absurd (omega (arith, within))

finished : (job : Job) (past : History) (start : Tree) (object : Object) (held : Held) (old new : Writing)
    → HeldAt job past (phase.Carrying object (stage.Make a_part.Sidecar)) held → Some new ≡ Some (after_make (sidecar_file job object held.rows staging) old)
    → DestPart job past (phase.Carrying object (stage.Make a_part.Sidecar)) held start old
    → DestAfter job past (phase.Carrying object (stage.Make a_part.Sidecar))
    (cond (job.tuples.count == 0) (phase.Carrying object stage.Rename) (phase.Carrying object (stage.Tuples 0))) held (with_fed held []) start new
finished job past start object held old new at change part =
    let item = sidecar_file job object held.rows staging in
    let front = made_before job object held.rows past.bytes a_part.Sidecar in
    let tree_is : new.tree ≡ done item old.tree = ap (λ (w : Writing). w.tree) (some_same new (after_make item old) change) ∙ tree_made item old in
    let may = item_may job start past.placed object held.rows past.bytes front item old part.started at.rows.order (next_fourth job object held.rows past.bytes)
    part.at in
    let tree = subst IsTree (sym tree_is) (tree_put _ _ (item_entry item) part.tree may) in
    let all = said (sym (after_fourth job object held.rows past.bytes)) (with_item job start past.placed object front item old new tree_is part.at) in
    let folders = no_folders_yet job past.placed object.place part.started part.at.root in
    after_sidecar (λ p. DestAfter job past (phase.Carrying object (stage.Make a_part.Sidecar)) p held (with_fed held []) start new) job object
    (λ flat. record {
      started = part.started;
      tree = tree;
      at = subst (λ (n : ℕ). IsMakingObject job start past.placed object (script_of_object job object held.rows past.bytes) n new
          × HasFoldersTo job start past.placed object.place n) (sym (eqb-true job.tuples.count 0 flat)) (all, folders);
    })
    (λ some. record { started = part.started; tree = tree; at = (all, folders) })

-- ---- each turn

pub makes_dest : MakingKeepsDest
unfolding Changes
makes_dest job past start old new here held after calls next (MakesStaging was object) change at dest = part_made at refl change
    (next_staging job object was.rows past.bytes) refl dest
makes_dest job past start old new here held after calls next (MakesDeclaration was object) change at dest = part_made at refl change
    (next_declaration job object was.rows past.bytes) refl dest
makes_dest job past start old new here held after calls next (MakesVersion was object) change at dest =
    part_made at refl change (next_version job object was.rows past.bytes)
    (sym (made_first job object was.rows past.bytes) ∙ sym (made_at job object was.rows past.bytes (record { row = 0; stored = 0; directories = 0 }) refl)) dest
makes_dest job past start old new here held after calls next (PassesRow was object position row is other) change at dest =
    let same : made_before job object was.rows past.bytes (a_part.Content position)
    ≡ made_before job object was.rows past.bytes (content_at was.rows (behind position)) =
    sym (made_at job object was.rows past.bytes (behind position) (stored_passed was.rows was.contents position row at.rows.contents at.rows.order is other
    at.numbers)) in
    unchanged change
    (record { started = dest.started; tree = dest.tree; at = said same dest.at })
makes_dest job past start old new here held after calls next (MakesFolder was object position row is stored more) change at dest =
    let one = is_here job past object position was row at is stored in
    let less = ltb-true position.directories (length row.path) more in
    part_made at refl change
    (folder_next job object was.rows was.contents past.bytes position row one less)
    (sym (folder_made job object was.rows was.contents past.bytes position row one less)) dest
makes_dest job past start old new here held after calls next (OpensCopy was object position row is stored all) change at dest = opened job past start object
    position was old new row at is stored all (some_same new (after_create (staged_content row.path) old) change) dest
makes_dest job past start old new here held after calls next (CopiesOn was object position left byte block fits) change at dest = copied job past start object
    position left _ was old new None (byte ∷ block) (some_same new (after_append (byte ∷ block) old) change) dest
makes_dest job past start old new here held after calls next (EndsCopy was object position row left is same) change at dest = closed job past start object
    position left was old new row at is (some_same new (after_finish old) change) dest
makes_dest job past start old new here held after calls next (MakesVersionInventory was object) change at dest =
    part_made at refl change
    (next_first job object was.rows past.bytes) (sym (after_first job object was.rows past.bytes)) dest
makes_dest job past start old new here held after calls next (MakesVersionSidecar was object) change at dest =
    part_made at refl change
    (next_second job object was.rows past.bytes) (sym (after_second job object was.rows past.bytes)) dest
makes_dest job past start old new here held after calls next (MakesInventory was object) change at dest =
    part_made at refl change
    (next_third job object was.rows past.bytes) (sym (after_third job object was.rows past.bytes)) dest
makes_dest job past start old new here held after calls next (MakesSidecar was object) change at dest = finished job past start object was old new at change
    dest

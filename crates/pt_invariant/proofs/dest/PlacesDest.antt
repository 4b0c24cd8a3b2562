-- The turns that bring an object to its place, and that tell of it and of the end, keep what holds where the destination tells.
use Rattle.std.proofs.Common.{inl, ◌≡◌, ◌<◌, ◌≤◌, ◌+◌, ℕ, suc, Bool, true, false, List, [], ◌∷◌, ◌++◌, refl, ap, sym, ◌∙◌, subst, arith, cond, length, take}
use Rattle.std.specs.Prelude.{Option, None, Some, is_none, is_some, nat_lt}
use Rattle.std.specs.Option.{option_or}
use Rattle.std.proofs.lemmas.Bool.{ltb-false, ltb-true}
use Rattle.std.proofs.lemmas.List.{take_all}
use Rattle.pt_object.proofs.ObjectScripts.{in_order_apart, script_of_rows_makes_the_object}
use Rattle.pt_object.proofs.Ways.{leads, leads-longer, parent-push, path_itself}
use Rattle.pt_object.specs.FilePaths.{are_apart, row_paths}
use Rattle.pt_object.specs.Holding.{IsFree, placed as in_place}
use Rattle.pt_object.specs.Object.{object_of_rows}
use Rattle.pt_object.specs.Root.{base}
use Rattle.pt_object.specs.Script.{folders_above, made}
use Rattle.pt_object.specs.Scripts.{staging}
use Rattle.pt_object.specs.declared.rows.Row.{Row}
use Rattle.pt_tree.specs.Dest.{Writing, IsKindAt, after_mkdir, after_rename}
use Rattle.pt_tree.specs.Path.{Path, parent, same_path}
use Rattle.pt_tree.specs.Tree.{CanMove, Entry, Folder, IsTree, Tree, moved, put}
use Rattle.pt_plan.proofs.Kept.{one_comes}
use Rattle.pt_plan.proofs.MovedIn.{object_is_moved_in}
use Rattle.pt_plan.proofs.NextObject.{grown_at}
use Rattle.pt_plan.proofs.WithObjects.{base_top, top_of_object}
use Rattle.pt_plan.specs.Carried.{Carried, entry_of_objects, folder_where, is_on_the_way, place_of_carried, with_objects}
use Rattle.pt_plan.specs.Fixity.{Holding, DestFaultState}
use Rattle.pt_plan.specs.Job.{Job}
use Rattle.pt_plan.specs.Roots.{root_in, storage_root, tuple_folders, with_folders, with_root}
use Rattle.pt_plan.specs.Run.{Held}
use Rattle.pt_plan.specs.TurnPlace.{MakesTuple, FindsTuple, RenamesObject, TellsDone, TellsEnd, after_tuple, tuple_folder}
use Rattle.pt_plan.specs.TurnWalk.{in_root}
use Rattle.pt_plan.specs.DeviceStates.{Changes}
use Rattle.pt_plan.specs.declared.object.Object.{Object}
use Rattle.pt_plan.specs.declared.phase.Phase.TheVariants as phase
use Rattle.pt_plan.specs.declared.phase.Stage.TheVariants as stage
use Rattle.pt_invariant.specs.DestInvariant.{CameToFreePlaces, DestPart, HasFoldersTo, IsBetweenObjects, IsMakingObject, root_now, root_on_way}
use Rattle.pt_invariant.specs.HeldInvariant.{AreRows, HeldAt, IsObject}
use Rattle.pt_invariant.specs.DestLaws.{PlacingKeepsDest}
use Rattle.pt_invariant.specs.PartsMade.{script_of_object}
use Rattle.pt_invariant.specs.History.{History, object_held}
use Rattle.pt_invariant.proofs.held.EitherPhase.{after_tuple_folder}
use Rattle.pt_invariant.proofs.dest.DestKeeps.{unchanged, DestAfter, no_kind}
use Rattle.pt_invariant.proofs.source.InPairtree.{some_same}
use Rattle.pt_invariant.proofs.dest.MakesDest.{fresh_root, top_folder}
use Rattle.pt_invariant.proofs.held.OwnFiles.{own_files, paths_held}
use Rattle.pt_invariant.proofs.dest.PlacesOnWay.{base_gaps, folder_kind, long_place, name_of_place, or_none, put_beside, way_found, way_made, whole_way}
use Rattle.pt_invariant.proofs.dest.Trees.{tree_moved, tree_put}

-- ---- the object in `staging`

-- what is in `staging` once the object is made
abbrev object_made : Job → Object → List Row → (Path → List ℕ) → Tree
object_made job object rows bytes = object_of_rows object.id rows bytes job.meta job.algorithm

whole : (job : Job) (past : History) {start : Tree} (root : Tree) (object : Object) {held : Held} → IsTree start → IsFree start staging
    → AreRows job past.bytes held
    → made (script_of_object job object held.rows past.bytes) (with_root start root)
    ≡ in_place (with_root start root) staging (object_made job object held.rows past.bytes)
whole job past {start} root object {held} tree free rows =
    script_of_rows_makes_the_object object.id held.rows past.bytes job.meta job.algorithm (with_root start root)
    (in_order_apart (row_paths held.rows) rows.order) (fresh_root root tree free)

-- the destination holds it beside the root
stands_so : {job : Job} (past : History) {start : Tree} {object : Object} {held : Held} {n : ℕ} {now : Writing} → IsTree start → AreRows job past.bytes held
    → IsMakingObject job start past.placed object (script_of_object job object held.rows past.bytes) n now
    → now.tree ≡ in_place (with_root start (root_on_way job start past.placed object.place n)) staging (object_made job object held.rows past.bytes)
stands_so {job} past {object} tree rows it = it.tree ∙ whole job past _ object tree it.root.free rows

-- at a path of the root it has what the root has
pub at_root : (job : Job) (past : History) (start : Tree) (object : Object) (held : Held) (n : ℕ) (now : Writing) (path : Path) → IsTree start
    → AreRows job past.bytes held → IsMakingObject job start past.placed object (script_of_object job object held.rows past.bytes) n now
    → now.tree (storage_root ++ path) ≡ root_on_way job start past.placed object.place n path
at_root job past start object held n now path tree rows it = ap (λ (t : Tree). t (storage_root ++ path)) (stands_so past tree rows it)

-- ---- a tuple directory

-- the place has one more name than there are tuples
pub place_long : (job : Job) (object : Object) → IsObject job object → length object.place ≡ job.tuples.count + 1
place_long job object it = ap length it.place ∙ long_place job.tuples object.id

parent_in_root : (front : Path) (name : List ℕ) → parent (storage_root ++ (front ++ name ∷ [])) ≡ storage_root ++ front
parent_in_root front name = parent-push _ name

-- a folder is above each tuple directory
pub tuple_parent : (job : Job) (past : History) (start : Tree) (object : Object) (held : Held) (number : ℕ) (now : Writing) → number < job.tuples.count
    → HeldAt job past (phase.Carrying object (stage.Tuples number)) held → DestPart job past (phase.Carrying object (stage.Tuples number)) held start now
    → now.tree (parent (tuple_folder object number)) ≡ Some Folder
tuple_parent job past start object held number now few at part =
    let long = place_long job object at.ends.0 in
    let more : number + 1 ≡ suc number = omega arith in
    let name = name_of_place object.place number (omega (arith, few, long)) in
    ap now.tree (ap (λ n. parent (storage_root ++ take n object.place)) more ∙ ap (λ (p : Path). parent (storage_root ++ p)) name.1 ∙ parent_in_root _ name.0)
    ∙ at_root job past start object held number now _ part.started at.rows part.at.0
    ∙ part.at.1 number (omega arith)

module _ (job : Job) (start : Tree) (placed : List Carried) (place : Path) (n : ℕ) where
  -- each of the first folders is one, and so is the next
  more_folders : ((i : ℕ) → i ≤ n → root_on_way job start placed place (suc n) (take i place) ≡ Some Folder)
      → root_on_way job start placed place (suc n) (take (suc n) place) ≡ Some Folder → HasFoldersTo job start placed place (suc n)
  more_folders first last i within = by (nat_lt n i) refl
    where
      by : (b : Bool) → nat_lt n i ≡ b → root_on_way job start placed place (suc n) (take i place) ≡ Some Folder
      by true above =
          let beyond = ltb-true n i above in
          let same : suc n ≡ i = omega (arith, beyond, within) in
          rw (← same) last
      by false below = first i (ltb-false n i below)

  made_folders : (name : List ℕ) → take (suc n) place ≡ take n place ++ name ∷ [] → root_on_way job start placed place n (take (suc n) place) ≡ None
      → HasFoldersTo job start placed place n → HasFoldersTo job start placed place (suc n)
  made_folders name more none folders =
      let grown = way_made job start placed place n name more none in
      more_folders
      (λ i within. sym (ap (λ (t : Tree). t (take i place)) grown) ∙ still i within (same_path (take i place) (take (suc n) place)))
      (sym (ap (λ (t : Tree). t (take (suc n) place)) grown) ∙ ap (λ b. cond b (Some Folder) (root_on_way job start placed place n (take (suc n) place)))
      (path_itself (take (suc n) place)))
    where
      still : (i : ℕ) → i ≤ n → (b : Bool) → cond b (Some Folder) (root_on_way job start placed place n (take i place)) ≡ Some Folder
      still i within true = refl
      still i within false = folders i within

  found_folders : (name : List ℕ) → take (suc n) place ≡ take n place ++ name ∷ [] → root_on_way job start placed place n (take (suc n) place) ≡ Some Folder
      → HasFoldersTo job start placed place n → HasFoldersTo job start placed place (suc n)
  found_folders name more found folders =
      let same = way_found job start placed place n name more found in
      more_folders (λ i within. sym (ap (λ (t : Tree). t (take i place)) same) ∙ folders i within) (sym (ap (λ (t : Tree). t (take (suc n) place)) same)
      ∙ found)

-- the next phase
next_tuple : (job : Job) (past : History) {start : Tree} {object : Object} (held : Held) {number : ℕ} (new : Writing) → number < job.tuples.count → IsTree start
    → IsTree new.tree
    → IsMakingObject job start past.placed object (script_of_object job object held.rows past.bytes) (suc number) new
    × HasFoldersTo job start past.placed object.place (suc number)
    → DestAfter job past (phase.Carrying object (stage.Tuples number)) (after_tuple job object number) held held start new
next_tuple job past {start} {object} held {number} new few started tree it =
    let stands = λ (n : ℕ). IsMakingObject job start past.placed object (script_of_object job object held.rows past.bytes) n new
    × HasFoldersTo job start past.placed object.place n in
    let next : suc number ≡ number + 1 = omega arith in
    after_tuple_folder (λ p. DestAfter job past (phase.Carrying object (stage.Tuples number)) p held held start new) job object number
    (λ more. record { started = started; tree = tree; at = subst stands next it })
    (λ last.
    let past_it = ltb-false (number + 1) job.tuples.count last in
    let all : suc number ≡ job.tuples.count = omega (arith, past_it, few) in
    record { started = started; tree = tree; at = subst stands all it })

tuple_made : (job : Job) (past : History) (start : Tree) (object : Object) (held : Held) (number : ℕ) (old new : Writing)
    → HeldAt job past (phase.Carrying object (stage.Tuples number)) held → old.tree (tuple_folder object number) ≡ None
    → new ≡ after_mkdir (tuple_folder object number) old
    → DestPart job past (phase.Carrying object (stage.Tuples number)) held start old
    → DestAfter job past (phase.Carrying object (stage.Tuples number)) (after_tuple job object number) held held start new
tuple_made job past start object held number old new at none change part =
    let few = at.numbers in
    let long = place_long job object at.ends.0 in
    let more : number + 1 ≡ suc number = omega arith in
    let place = object.place in
    let name = name_of_place place number (omega (arith, few, long)) in
    let p = take (suc number) place in
    let root = root_on_way job start past.placed place number in
    let inside = object_made job object held.rows past.bytes in
    let absent : root p ≡ None = sym (at_root job past start object held number old p part.started at.rows part.at.0)
    ∙ ap (λ n. old.tree (storage_root ++ take n place)) (sym more) ∙ none in
    let grown = way_made job start past.placed place number name.0 name.1 absent in
    let tree_is : new.tree ≡ put old.tree (tuple_folder object number) Folder = ap (λ (w : Writing). w.tree) change in
    let now : new.tree ≡ made (script_of_object job object held.rows past.bytes) (with_root start (root_on_way job start past.placed place (suc number))) =
    tree_is
    ∙ ap (λ n. put old.tree (storage_root ++ take n place) Folder) more
    ∙ ap (λ (t : Tree). put t (storage_root ++ p) Folder) (stands_so past part.started at.rows part.at.0)
    ∙ put_beside start inside root p Folder
    ∙ ap (λ (t : Tree). in_place (with_root start t) staging inside) grown
    ∙ sym (whole job past _ object part.started part.at.0.root.free at.rows) in
    let tree = subst IsTree (sym tree_is) (tree_put _ _ Folder part.tree
    (record { absent = none; in_folder = tuple_parent job past start object held number old few at part })) in
    next_tuple job past held new few part.started tree (
      record { root = part.at.0.root; came = part.at.0.came; free = part.at.0.free; tree = now },
      made_folders job start past.placed place number name.0 name.1
          absent part.at.1,
    )

tuple_found : (job : Job) (past : History) (start : Tree) (object : Object) (held : Held) (number : ℕ) (old new : Writing)
    → HeldAt job past (phase.Carrying object (stage.Tuples number)) held → old.tree (tuple_folder object number) ≡ Some Folder → new ≡ old
    → DestPart job past (phase.Carrying object (stage.Tuples number)) held start old
    → DestAfter job past (phase.Carrying object (stage.Tuples number)) (after_tuple job object number) held held start new
tuple_found job past start object held number old new at folder change part =
    let few = at.numbers in
    let long = place_long job object at.ends.0 in
    let more : number + 1 ≡ suc number = omega arith in
    let place = object.place in
    let name = name_of_place place number (omega (arith, few, long)) in
    let p = take (suc number) place in
    let found : root_on_way job start past.placed place number p ≡ Some Folder =
    sym (at_root job past start object held number old p part.started at.rows part.at.0) ∙ ap (λ n. old.tree (storage_root ++ take n place)) (sym more)
    ∙ folder in
    let same = way_found job start past.placed place number name.0 name.1 found in
    let tree_is : new.tree ≡ old.tree = ap (λ (w : Writing). w.tree) change in
    let now : new.tree ≡ made (script_of_object job object held.rows past.bytes) (with_root start (root_on_way job start past.placed place (suc number))) =
    tree_is ∙ part.at.0.tree ∙ ap (λ (t : Tree). made (script_of_object job object held.rows past.bytes) (with_root start t)) same in
    next_tuple job past held new few part.started (subst IsTree (sym tree_is) part.tree) (
      record { root = part.at.0.root; came = part.at.0.came; free = part.at.0.free; tree = now },
      found_folders job start past.placed place number name.0 name.1
          found part.at.1,
    )

-- ---- the object comes to its place

-- nothing stands at it
place_absent : (job : Job) {past : History} {start : Tree} (object : Object) {held : Held} {now : Writing}
    → HeldAt job past (phase.Carrying object stage.Rename) held → DestPart job past (phase.Carrying object stage.Rename) held start now
    → root_on_way job start past.placed object.place job.tuples.count object.place ≡ None
place_absent job object at part =
    let long = place_long job object at.ends.0 in
    let name = name_of_place object.place job.tuples.count (omega (arith, long)) in
    let all : take (suc job.tuples.count) object.place ≡ object.place = take_all (suc job.tuples.count) object.place (omega (arith, long)) in
    let off : leads object.place (take job.tuples.count object.place) ≡ false =
    ap (λ (p : Path). leads p (take job.tuples.count object.place)) (sym all ∙ name.1) ∙ leads-longer (take job.tuples.count object.place) [] name.0 in
    ap (λ (o : Option Entry). option_or o (folder_where (leads object.place (take job.tuples.count object.place)))) part.at.0.free ∙ ap folder_where off

-- it may be moved there
pub object_may_move : (job : Job) (past : History) (start : Tree) (object : Object) (held : Held) (now : Writing)
    → HeldAt job past (phase.Carrying object stage.Rename) held → DestPart job past (phase.Carrying object stage.Rename) held start now
    → CanMove now.tree staging (in_root object.place)
object_may_move job past start object held now at part =
    let count = job.tuples.count in
    let long = place_long job object at.ends.0 in
    let name = name_of_place object.place count (omega (arith, long)) in
    let all : take (suc count) object.place ≡ object.place = take_all (suc count) object.place (omega (arith, long)) in
    let same = own_files object.id held.rows past.bytes job.meta job.algorithm (in_order_apart (row_paths held.rows) at.rows.order) at.rows.digests in
    record {
      stands = ap is_some (ap (λ (t : Tree). t staging) (stands_so past part.started at.rows part.at.0) ∙ ap (λ (t : Tree). t []) same.0
          ∙ top_of_object job (object_held object held.rows past.bytes));
      target = record {
        absent = at_root job past start object held count now object.place part.started at.rows part.at.0 ∙ place_absent job object at part;
        in_folder = ap (λ (p : Path). now.tree (parent (storage_root ++ p))) (sym all ∙ name.1) ∙ ap now.tree (parent_in_root _ name.0)
            ∙ at_root job past start object held count now _ part.started at.rows part.at.0 ∙ part.at.1 count (omega arith);
      };
      apart = refl;
    }

-- the root has it then
root_grown : (job : Job) (past : History) (start : Tree) (object : Object) (held : Held) {now : Writing}
    → HeldAt job past (phase.Carrying object stage.Rename) held → DestPart job past (phase.Carrying object stage.Rename) held start now
    → in_place (root_on_way job start past.placed object.place job.tuples.count) object.place (object_made job object held.rows past.bytes)
    ≡ root_now job start (past.placed ++ object_held object held.rows past.bytes ∷ [])
root_grown job past start object held at part =
    let count = job.tuples.count in
    let carried = object_held object held.rows past.bytes in
    let bottom = base job.tuples (root_in start) in
    let long = place_long job object at.ends.0 in
    let name = name_of_place object.place count (omega (arith, long)) in
    let front = take count object.place in
    let all : object.place ≡ front ++ name.0 ∷ [] = sym (take_all (suc count) object.place (omega (arith, long))) ∙ name.1 in
    let place : object.place ≡ place_of_carried job carried = at.ends.0.place in
    let top : is_some (root_now job start past.placed []) ≡ true = ap is_some (top_folder job start past.placed part.started part.at.0.root) in
    let free : with_objects job past.placed bottom (place_of_carried job carried) ≡ None = ap (root_now job start past.placed) (sym place) ∙ part.at.0.free in
    let none : bottom (place_of_carried job carried) ≡ None = or_none _
    (option_or (entry_of_objects job past.placed (place_of_carried job carried))
    (folder_where (is_on_the_way job past.placed (place_of_carried job carried)))) free in
    let way : root_on_way job start past.placed object.place count ≡ with_folders (tuple_folders job carried) (root_now job start past.placed) =
    ap (λ (p : Path). root_on_way job start past.placed p count) all
    ∙ whole_way job start past.placed front name.0 count (ap (take count) (sym all)) top
    ∙ ap (λ (p : Path). with_folders (folders_above p) (root_now job start past.placed)) (sym all ∙ place) in
    let same = own_files object.id held.rows past.bytes job.meta job.algorithm (in_order_apart (row_paths held.rows) at.rows.order) at.rows.digests in
    ap (λ (t : Tree). in_place t object.place (object_made job object held.rows past.bytes)) way
    ∙ ap (λ (p : Path). in_place (with_folders (tuple_folders job carried) (root_now job start past.placed)) p (object_made job object held.rows past.bytes))
    place
    ∙ ap (λ (t : Tree). in_place (with_folders (tuple_folders job carried) (root_now job start past.placed)) (place_of_carried job carried) t) same.0
    ∙ sym (λ i q. grown_at job past.placed carried bottom (base_top job (root_in start)) free (λ rest. base_gaps job start _ rest part.started none) q i)

came_there : (job : Job) (past : History) (start : Tree) {object : Object} (held : Held) {now : Writing}
    → HeldAt job past (phase.Carrying object stage.Rename) held → DestPart job past (phase.Carrying object stage.Rename) held start now
    → CameToFreePlaces job start (past.placed ++ object_held object held.rows past.bytes ∷ [])
came_there job past start held at part =
    one_comes job past.placed _ _ part.at.0.came
    (ap are_apart (paths_held held.rows past.bytes) ∙ in_order_apart (row_paths held.rows) at.rows.order)
    (ap is_none (ap (root_now job start past.placed) (sym at.ends.0.place) ∙ part.at.0.free))

renamed : (job : Job) (past : History) (start : Tree) (object : Object) (held : Held) (old new : Writing)
    → HeldAt job past (phase.Carrying object stage.Rename) held → new ≡ after_rename staging (in_root object.place) old
    → DestPart job past (phase.Carrying object stage.Rename) held start old
    → DestAfter job past (phase.Carrying object stage.Rename) (phase.Carrying object stage.Line) held held start new
renamed job past start object held old new at change part =
    let root = root_on_way job start past.placed object.place job.tuples.count in
    let inside = object_made job object held.rows past.bytes in
    let tree_is : new.tree ≡ moved old.tree staging (in_root object.place) = ap (λ (w : Writing). w.tree) change in
    record {
      started = part.started;
      tree = subst IsTree (sym tree_is) (tree_moved _ _ part.tree (object_may_move job past start object held old at part));
      at = record {
        root = part.at.0.root;
        came = came_there job past start held at part;
        tree = tree_is
            ∙ ap (λ (t : Tree). moved t staging (in_root object.place)) (stands_so past part.started at.rows part.at.0)
            ∙ object_is_moved_in start root inside object.place part.at.0.root.free
            ∙ ap (with_root start) (root_grown job past start object held at part);
      };
    }

-- ---- each turn

-- between objects the destination holds those that were placed
pub held_so : (job : Job) (start : Tree) (placed : List Carried) (now : Writing) → IsBetweenObjects job start placed now → DestFaultState job start now.tree
held_so job start placed now it = subst (DestFaultState job start) (sym it.tree) (Holding placed it.came)

pub places_dest : PlacingKeepsDest
unfolding Changes IsKindAt
places_dest job counts past start old new here next held after calls (MakesTuple was object number) change at part =
    tuple_made job past start object was number old new at (no_kind _ (change.0 old refl))
    (some_same new (after_mkdir (tuple_folder object number) old) change.1) part
places_dest job counts past start old new here next held after calls (FindsTuple was object number) change at part =
    tuple_found job past start object was number old new at (folder_kind _ (change.0 old refl)) (some_same new old change.1) part
places_dest job counts past start old new here next held after calls (RenamesObject was object) change at part = renamed job past start object was old new at
    (some_same new (after_rename staging (in_root object.place) old) change) part
places_dest job counts past start old new here next held after calls (TellsDone was object) change at part =
    unchanged change (record { started = part.started; tree = part.tree; at = record { root = part.at.root; came = part.at.came; tree = part.at.tree } })
places_dest job counts past start old new here next held after calls (TellsEnd was) change at part =
    unchanged change (record {
      started = part.started;
      tree = part.tree;
      at = record
          { kept = held_so job start past.placed old part.at; stood = inl part.at.root };
    })

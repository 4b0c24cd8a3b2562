-- Whatever stands in the destination between two turns may be kept.
use Rattle.std.proofs.Common.{inl, inr, ◌≡◌, ◌≤◌, ℕ, suc, true, List, [], ◌∷◌, ◌++◌, refl, ap, sym, ◌∙◌, subst, append-nil, arith, length, take}
use Rattle.std.specs.Prelude.{None, is_none, is_some, slice_get}
use Rattle.std.proofs.lemmas.List.{take_all}
use Rattle.pt_object.proofs.ObjectScripts.{in_order_apart}
use Rattle.pt_object.specs.FilePaths.{are_apart, row_paths}
use Rattle.pt_object.specs.Holding.{IsFree}
use Rattle.pt_object.specs.Root.{base}
use Rattle.pt_object.specs.Script.{Item, MakeFile, MakeFolder, StandsAtPrefix, cut_item, cut_last, done, folders_above, made}
use Rattle.pt_object.specs.Scripts.{root_script, script_of}
use Rattle.pt_tree.specs.Dest.{Writing}
use Rattle.pt_tree.specs.Path.{Path}
use Rattle.pt_tree.specs.Tree.{IsTree, Tree}
use Rattle.pt_plan.proofs.Kept.{one_comes}
use Rattle.pt_plan.specs.Carried.{Carried, with_objects}
use Rattle.pt_plan.specs.Fixity.{Holding, DestFaultState, Making, StandsAtContent, come_to_free_places}
use Rattle.pt_plan.specs.Fixity as kept
use Rattle.pt_plan.specs.Job.{Job}
use Rattle.pt_plan.specs.Roots.{root_in, storage_root, tuple_folders, with_folders, with_root}
use Rattle.pt_plan.specs.Run.{Held}
use Rattle.pt_plan.specs.TurnMake.{staged_content}
use Rattle.pt_plan.specs.declared.object.Object.{Object}
use Rattle.pt_plan.specs.declared.phase.Part.{Part}
use Rattle.pt_plan.specs.declared.phase.Part.TheVariants as a_part
use Rattle.pt_plan.specs.declared.phase.Phase.{Phase}
use Rattle.pt_plan.specs.declared.phase.Opening.TheVariants as opening
use Rattle.pt_plan.specs.declared.phase.Phase.TheVariants as phase
use Rattle.pt_plan.specs.declared.phase.Stage.TheVariants as stage
use Rattle.pt_plan.specs.declared.phase.Position.{Position}
use Rattle.pt_invariant.specs.DestInvariant.{
  CameToFreePlaces,
  DestPart,
  DestFaultStateOfRun,
  IsMakingObject,
  IsMakingRoot,
  IsRootOfStart,
  root_now,
  root_on_way,
}
use Rattle.pt_invariant.specs.HeldInvariant.{AreRows, HeldAt, IsObject}
use Rattle.pt_invariant.specs.PartsMade.{made_before, script_of_object}
use Rattle.pt_invariant.specs.History.{History, object_held}
use Rattle.pt_invariant.proofs.dest.ContentParts.{file_next}
use Rattle.pt_invariant.proofs.dest.DestKeeps.{no_folders}
use Rattle.pt_invariant.proofs.held.DistinctRows.{get_behind}
use Rattle.pt_invariant.proofs.dest.MadeItems.{made_in_turn}
use Rattle.pt_invariant.proofs.dest.MakesDest.{copy_here, copy_stands, top_folder}
use Rattle.pt_invariant.proofs.dest.ObjectParts.{front_made}
use Rattle.pt_invariant.proofs.held.OwnFiles.{own_files, paths_held}
use Rattle.pt_invariant.proofs.dest.PlacesDest.{held_so, place_long}
use Rattle.pt_invariant.proofs.dest.PlacesOnWay.{part_way}
use Rattle.pt_invariant.proofs.dest.ScriptParts.{IsFront, IsNext, taken_front}

-- ---- a script so far

-- a number of bytes that cuts nothing off
pub uncut : (items : List Item) → (count : ℕ) × (cut_last count items ≡ items)
uncut [] = (0, refl)
uncut (MakeFolder path ∷ []) = (0, refl)
uncut (MakeFile path bytes ∷ []) = (length bytes, ap (λ b. MakeFile path b ∷ []) (take_all (length bytes) bytes (omega arith)))
uncut (item ∷ next ∷ items) = let later = uncut (next ∷ items) in (later.0, ap (λ l. item ∷ l) later.1)

-- the first items of a script stand
pub stands_whole : {script : List Item} (n : ℕ) {start : Tree} {now : Tree} → now ≡ made (take n script) start → StandsAtPrefix script start now
stands_whole {script} n {start} is = let cut = uncut (take n script) in record { items = n; bytes = cut.0; stands = is ∙ ap (λ l. made l start) (sym cut.1) }

-- and of the next one, a file, the first bytes
cut_push : (count : ℕ) (front : List Item) (item : Item) → cut_last count (front ++ item ∷ []) ≡ front ++ cut_item count item ∷ []
cut_push _ [] _ = refl
cut_push _ (x ∷ []) _ = refl
cut_push count (x ∷ y ∷ front) item = ap (λ l. x ∷ l) (cut_push count (y ∷ front) item)

take_next : (front : List Item) (item : Item) (rest : List Item) → take (suc (length front)) (front ++ item ∷ rest) ≡ front ++ item ∷ []
take_next [] _ _ = refl
take_next (x ∷ front) item rest = ap (λ l. x ∷ l) (take_next front item rest)

pub stands_cut : {script front : List Item} {path : Path} {bytes : List ℕ} (count : ℕ) {start : Tree} {now : Tree} → IsNext script front (MakeFile path bytes)
    → now ≡ done (MakeFile path (take count bytes)) (made front start) → StandsAtPrefix script start now
stands_cut {front} {path} {bytes} count {start} next is = record {
  items = suc (length front);
  bytes = count;
  stands = is
      ∙ sym (made_in_turn front (MakeFile path (take count bytes) ∷ []) start)
      ∙ ap (λ l. made l start) (sym (cut_push count front (MakeFile path bytes)))
      ∙ ap (λ l. made (cut_last count l) start) (sym (ap (take (suc (length front))) next.is ∙ take_next front (MakeFile path bytes) next.rest));
}

-- ---- an object that is made

module _ (job : Job) (past : History) (start : Tree) (object : Object) (held : Held) where
  abbrev carried : Carried
  carried = object_held object held.rows past.bytes

  abbrev script : List Item
  script = script_of_object job object held.rows past.bytes

  -- it comes to a free place
  comes : (place : IsObject job object) → AreRows job past.bytes held → CameToFreePlaces job start past.placed
      → root_now job start past.placed object.place ≡ None → come_to_free_places job (base job.tuples (root_in start)) (past.placed ++ carried ∷ []) ≡ true
  comes place rows came free =
      one_comes job past.placed carried (base job.tuples (root_in start)) came
      (ap are_apart (paths_held held.rows past.bytes) ∙ in_order_apart (row_paths held.rows) rows.order)
      (ap is_none (ap (root_now job start past.placed) (sym place.place) ∙ free))

  -- its script is that of the object that is carried
  pub own_script : AreRows job past.bytes held → script ≡ script_of carried.id carried.files job.meta job.algorithm
  own_script rows = (own_files object.id held.rows past.bytes job.meta job.algorithm (in_order_apart (row_paths held.rows) rows.order) rows.digests).1

  -- the root with some folders on the way
  pub on_way : {n : ℕ} → IsTree start → IsRootOfStart job start → IsObject job object → n ≤ job.tuples.count
      → with_root start (root_on_way job start past.placed object.place n)
      ≡ with_root start (with_folders (take n (tuple_folders job carried)) (with_objects job past.placed (base job.tuples (root_in start))))
  on_way {n} tree root it few =
      let long = place_long job object it in
      ap (with_root start)
      (part_way job start past.placed object.place n (omega (arith, few, long)) (ap is_some (top_folder job start past.placed tree root))
      ∙ ap (λ (p : Path). with_folders (take n (folders_above p)) (root_now job start past.placed)) it.place)

  -- so what is made of it is kept
  pub made_kept : {n : ℕ} {items : List Item} {now : Tree} → IsTree start → IsObject job object → AreRows job past.bytes held → n ≤ job.tuples.count
      → {w : Writing} → IsMakingObject job start past.placed object items n w
      → StandsAtPrefix script (with_root start (root_on_way job start past.placed object.place n)) now → DestFaultState job start now
  made_kept {n} {now} tree it rows few making at =
      Making past.placed carried n now (comes it rows making.came making.free)
      (inl (rw (on_way tree making.root it few) at
      (rw (own_script rows) at at)))

  -- and with a content that holds other bytes
  pub copy_kept : {front : List Item} {path : Path} {bytes : List ℕ} (read : List ℕ) {now : Tree} → IsTree start → IsObject job object
      → AreRows job past.bytes held → {w : Writing} → IsMakingObject job start past.placed object (front ++ MakeFile (staged_content path) read ∷ []) 0 w
      → IsNext script front (MakeFile (staged_content path) bytes) → {other : List ℕ}
      → now ≡ done (MakeFile (staged_content path) other) (made front (with_root start (root_on_way job start past.placed object.place 0)))
      → DestFaultState job start now
  copy_kept {front} {path} {bytes} read {now} tree it rows making next {other} is =
      let root = with_root start (root_on_way job start past.placed object.place 0) in
      let at : StandsAtContent script root now = record {
        items = length front;
        path = staged_content path;
        bytes = bytes;
        held = other;
        next = ap (λ (l : List Item). slice_get l (length front)) next.is ∙ get_behind front (MakeFile (staged_content path) bytes ∷ next.rest);
        content = refl;
        stands = is ∙ ap (λ (l : List Item). done (MakeFile (staged_content path) other) (made l root))
            (sym (ap (take (length front)) next.is ∙ taken_front front (MakeFile (staged_content path) bytes ∷ next.rest)));
      } in
      Making past.placed carried 0 now (comes it rows making.came making.free)
      (inr (rw (on_way {n = 0} tree making.root it (omega arith)) at
      (rw (own_script rows) at at)))

  -- before its script it is not there
  pub not_begun : {w : Writing} → IsMakingObject job start past.placed object [] 0 w → DestFaultState job start w.tree
  not_begun making = subst (DestFaultState job start) (sym (making.tree ∙ ap (with_root start) (no_folders job start past.placed object.place)))
      (Holding past.placed making.came)

-- a front of the script
pub front_stands : {script front : List Item} {start : Tree} {now : Tree} → IsFront script front → now ≡ made front start → StandsAtPrefix script start now
front_stands {script} {front} {start} it is =
    stands_whole (length front) (is ∙ ap (λ l. made l start) (sym (ap (take (length front)) it.is ∙ taken_front front it.rest)))

-- ---- a new root

pub root_free : (start : Tree) → IsFree start storage_root → IsFree (root_in start) []
root_free _ free path = free path

pub root_kept : {job : Job} {start now : Tree} {items : List Item} {w : Writing} → IsMakingRoot start items w
    → StandsAtPrefix (root_script job.tuples) start now → DestFaultState job start now
root_kept {start} {now} making at = kept.MakingRoot now (root_free start making.root) at

-- ---- by the phase

-- a part of an object is made
part_kept : {job : Job} {past : History} {start : Tree} {object : Object} {here : Part} {held : Held} {now : Writing}
    → HeldAt job past (phase.Carrying object (stage.Make here)) held → DestPart job past (phase.Carrying object (stage.Make here)) held start now
    → DestFaultState job start now.tree
part_kept {job} {past} {start} {object} {here} {held} {now} at dest =
    made_kept job past start object held dest.started at.ends.0 at.rows (omega arith) dest.at
    (front_stands (front_made job object held.rows past.bytes here) dest.at.tree)

-- or is whole
whole_kept : {job : Job} (past : History) {start : Tree} {object : Object} {held : Held} {n : ℕ} {now : Writing} → IsTree start → IsObject job object
    → AreRows job past.bytes held → n ≤ job.tuples.count
    → IsMakingObject job start past.placed object (script_of_object job object held.rows past.bytes) n now → DestFaultState job start now.tree
whole_kept {job} past {start} {object} {held} {n} {now} tree it rows few making =
    made_kept job past start object held tree it rows few making
    (front_stands {front = script_of_object job object held.rows past.bytes} {start = with_root start (root_on_way job start past.placed object.place n)}
    (record { rest = []; is = sym (append-nil (script_of_object job object held.rows past.bytes)) }) making.tree)

-- a file is copied
copying_kept : {job : Job} {past : History} {start : Tree} {object : Object} {position : Position} {left : ℕ} {held : Held} {now : Writing}
    → HeldAt job past (phase.Carrying object (stage.Copy position left)) held
    → DestPart job past (phase.Carrying object (stage.Copy position left)) held start now → DestFaultState job start now.tree
copying_kept {job} {past} {start} {object} {position} {left} {held} {now} at dest =
    let row = dest.at.writes.row in
    let is = dest.at.writes.is_row in
    let front = made_before job object held.rows past.bytes (a_part.Content position) in
    let root = with_root start (root_on_way job start past.placed object.place 0) in
    copy_kept job past start object held held.fed dest.started at.ends.0 at.rows dest.at.making
    (file_next job object held.rows held.contents past.bytes position row (copy_here job past object position left held row at is)
    (copy_stands held position row is at.numbers))
    (dest.at.making.tree ∙ made_in_turn front (MakeFile (staged_content row.path) held.fed ∷ []) root)

as_it_was : (job : Job) {start : Tree} (now : Writing) → now.tree ≡ start → DestFaultState job start now.tree
as_it_was job {start} _ same = subst (DestFaultState job start) (sym same) kept.AsItWas

pub kept_now : (job : Job) (past : History) (start : Tree) (here : Phase) (held : Held) (now : Writing) → HeldAt job past here held
    → DestPart job past here held start now → DestFaultStateOfRun job start now
kept_now job _ _ (phase.Opening opening.Begin) _ now _ dest = record { kept = as_it_was job now dest.at.tree; stood = inr dest.at.tree }
kept_now job _ _ (phase.Opening (opening.Prefix _)) _ now _ dest = record { kept = as_it_was job now dest.at.tree; stood = inr dest.at.tree }
kept_now job _ _ (phase.Opening opening.Staging) _ now _ dest = record { kept = as_it_was job now dest.at.tree; stood = inr dest.at.tree }
kept_now job _ _ (phase.Opening opening.Root) _ now _ dest = record { kept = as_it_was job now dest.at.0.tree; stood = inr dest.at.0.tree }
kept_now _ _ _ (phase.Opening (opening.RootMake number)) _ _ _ dest = record {
  kept = root_kept dest.at (stands_whole number dest.at.tree);
  stood = inl (record { free = dest.at.free; root = inl dest.at.root });
}
kept_now _ _ _ (phase.Opening opening.RootRename) _ _ _ dest = record {
  kept = root_kept dest.at (stands_whole 6 dest.at.tree);
  stood = inl
      (record { free = dest.at.free; root = inl dest.at.root });
}
kept_now job _ _ (phase.Opening (opening.RootCheck _)) _ now _ dest = record { kept = as_it_was job now dest.at.tree; stood = inr dest.at.tree }
kept_now job past start (phase.Carrying object stage.Open) held _ _ dest = record
    { kept = not_begun job past start object held dest.at; stood = inl dest.at.root }
kept_now job past start (phase.Carrying object stage.Scan) held _ _ dest = record
    { kept = not_begun job past start object held dest.at; stood = inl dest.at.root }
kept_now job past start (phase.Carrying object (stage.Read _)) held _ _ dest = record
    { kept = not_begun job past start object held dest.at; stood = inl dest.at.root }
kept_now _ _ _ (phase.Carrying _ (stage.Make _)) _ _ at dest = record { kept = part_kept at dest; stood = inl dest.at.root }
kept_now _ _ _ (phase.Carrying _ (stage.Copy _ _)) _ _ at dest = record { kept = copying_kept at dest; stood = inl dest.at.making.root }
kept_now job past start (phase.Carrying object (stage.Tuples number)) held now at dest =
    let few = at.numbers in
    record { kept = whole_kept past dest.started at.ends.0 at.rows (omega (arith, few)) dest.at.0; stood = inl dest.at.0.root }
kept_now job past start (phase.Carrying object stage.Rename) held now at dest = record
    { kept = whole_kept past dest.started at.ends.0 at.rows (omega arith) dest.at.0; stood = inl dest.at.0.root }
kept_now _ _ _ phase.Ended _ _ _ dest = dest.at
kept_now job past start _ _ now _ dest = record { kept = held_so job start past.placed now dest.at; stood = inl dest.at.root }

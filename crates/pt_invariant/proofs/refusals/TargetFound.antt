-- A run halts for the destination's root only where it can't be gone on with.
use Rattle.std.proofs.Common.{◌≡◌, ◌≤◌, ◌<◌, ◌+◌, ℕ, zero, suc, Bool, true, false, List, [], ◌∷◌, ◌++◌, refl, ap, sym, ◌∙◌, arith, length, map, take}
use Rattle.std.specs.List.{list_all}
use Rattle.std.specs.Prelude.{◌≢◌, Option, None, Some, Err, ⊤}
use Rattle.std.specs.Option.{option_map, option_or}
use Rattle.std.specs.Str.{bytes_eq}
use Rattle.std.proofs.lemmas.Bool.{and_parts, true≢false}
use Rattle.std.proofs.lemmas.List.{take_all}
use Rattle.pt_name.specs.Tuples.{IsLayout}
use Rattle.pt_object.proofs.Ways.{name_itself}
use Rattle.pt_object.specs.Holding.{IsFree}
use Rattle.pt_object.specs.Root.{base}
use Rattle.pt_object.specs.Script.{folders_above}
use Rattle.pt_object.specs.Scripts.{staging}
use Rattle.pt_tree.specs.Dest.{IsKindAt, IsPeeked, Writing}
use Rattle.pt_tree.specs.Path.{Path}
use Rattle.pt_tree.specs.Tree.{Bytes, Entry, Folder, Tree, bytes_of, kind_of_entry}
use Rattle.pt_tree.specs.declared.kind.Kind.{Kind}
use Rattle.pt_plan.proofs.FreeWays.{way_in_base, way_with_objects}
use Rattle.pt_plan.proofs.MovedIn.{roots_have_no_gaps}
use Rattle.pt_plan.specs.Carried.{Carried, folder_where, is_folder_or_free, is_way_free}
use Rattle.pt_plan.specs.Job.{Job}
use Rattle.pt_plan.specs.Roots.{root_in, storage_root}
use Rattle.pt_plan.specs.Run.{Counts, Held, Kept, Run, turning}
use Rattle.pt_plan.specs.Turn.{Did, FailsAtFirst, FailsLater, Next, IsRefused, FailsPartway, Start as a_start, FailsUnchanged, Turn, Walk, Scan, Make, Place}
use Rattle.pt_plan.specs.TurnPlace.{IsInTheWay, tuple_folder}
use Rattle.pt_plan.specs.TurnStart.{Differs, IsNoFile, IsNoRoot, is_dir_kind, is_file_kind}
use Rattle.pt_plan.specs.DeviceStates.{Calls, Changes, DeviceStates}
use Rattle.pt_plan.specs.declared.fault.Fault.TheVariants as fault
use Rattle.pt_plan.specs.declared.object.Object.{Object}
use Rattle.pt_plan.specs.declared.phase.Phase.{Phase}
use Rattle.pt_plan.specs.declared.phase.Phase.TheVariants as phase
use Rattle.pt_plan.specs.declared.phase.Stage.TheVariants as stage
use Rattle.pt_invariant.specs.RunInvariant.{RunInvariant, IsHistory, Start}
use Rattle.pt_invariant.specs.DestInvariant.{DestPart, root_now, root_on_way}
use Rattle.pt_invariant.specs.HeldInvariant.{HeldAt}
use Rattle.pt_invariant.specs.History.{History, object_held}
use Rattle.pt_invariant.specs.RefusalLaws.{FindsTarget, FindsTargetOf, HasOtherFile, IsBadTarget, IsBarred, IsCarriedOf, IsNoFolder}
use Rattle.pt_invariant.proofs.items.CarriedNext.{carried_next}
use Rattle.pt_invariant.proofs.source.InPairtree.{some_same}
use Rattle.pt_invariant.proofs.dest.PlacesDest.{at_root, place_long}
use Rattle.pt_invariant.proofs.source.RootChecks.{file_short}
use Rattle.pt_invariant.proofs.Tests.{all_map}
use Rattle.pt_invariant.proofs.items.Telling.{both_tell}

-- ---- what was found

-- something else than a folder
no_folder : (o : Option Entry) {here : Kind} → option_map kind_of_entry o ≡ Some here → is_dir_kind (Some here) ≡ false → is_folder_or_free o ≡ false
no_folder None is other = absurd (cc)
no_folder (Some Folder) is other = absurd (true≢false (ap is_dir_kind is ∙ other))
no_folder _ _ _ = refl

-- no file
no_file : {o : Option Entry} {here : Option Kind} (bytes : List ℕ) → option_map kind_of_entry o ≡ here → is_file_kind here ≡ false → o ≢ Some (Bytes bytes)
no_file _ is other same = true≢false (ap (λ (e : Option Entry). is_file_kind (option_map kind_of_entry e)) (sym same) ∙ ap is_file_kind is ∙ other)

-- other bytes
other_bytes : {o : Option Entry} {bytes : List ℕ} {block : List ℕ} → option_map (take 8192) (bytes_of o) ≡ Some block → bytes_eq block bytes ≡ false
    → length bytes < 8192 → o ≢ Some (Bytes bytes)
other_bytes {bytes} {block} read other short same =
    let whole : block ≡ bytes = some_same block bytes (sym read ∙ ap (λ (e : Option Entry). option_map (take 8192) (bytes_of e)) same
    ∙ ap (λ (l : List ℕ). Some l) (take_all 8192 bytes (omega (arith, short)))) in
    true≢false (sym (ap (λ (l : List ℕ). bytes_eq l bytes) whole ∙ name_itself bytes) ∙ other)

-- ---- what is in the way

-- the first names of a path are a folder above it
above_passes : (test : Path → Bool) (place : Path) (n : ℕ) → suc (suc n) ≤ length place → list_all test (folders_above place) ≡ true
    → test (take (suc n) place) ≡ true
above_passes test [] n long all = absurd (omega (arith, long))
above_passes test (name ∷ []) n long all = absurd (omega (arith, long))
above_passes test (name ∷ next ∷ place) zero _ all = (and_parts (test (name ∷ []))
    (list_all test (map (λ (folder : Path). name ∷ folder) (folders_above (next ∷ place)))) all).0
above_passes test (name ∷ next ∷ place) (suc n) long all =
    above_passes (λ (folder : Path). test (name ∷ folder)) (next ∷ place) n (omega (arith, long))
    (sym (all_map (λ (folder : Path). name ∷ folder) test (folders_above (next ∷ place)))
    ∙ (and_parts (test (name ∷ [])) (list_all test (map (λ (folder : Path). name ∷ folder) (folders_above (next ∷ place)))) all).1)

barred_at : (test : Path → Bool) (place : Path) {n : ℕ} → suc (suc n) ≤ length place → test (take (suc n) place) ≡ false
    → list_all test (folders_above place) ≡ false
barred_at test place {n} long bad = by (list_all test (folders_above place)) refl
  where
    by : (b : Bool) → list_all test (folders_above place) ≡ b → b ≡ false
    by false is = refl
    by true is = absurd (true≢false (sym (above_passes test place n long is) ∙ bad))

-- a folder made on the way isn't in it
not_made : (o : Option Entry) (b : Bool) → is_folder_or_free (option_or o (folder_where b)) ≡ false → is_folder_or_free o ≡ false
not_made None true bad = absurd (true≢false bad)
not_made None false bad = absurd (true≢false bad)
not_made (Some _) _ bad = bad

-- what is in the way to a place stood in the root
barred : {job : Job} {past : History} {start : Tree} {object : Object} {held : Held} {number : ℕ} {old : Writing} {here : Kind}
    → HeldAt job past (phase.Carrying object (stage.Tuples number)) held → DestPart job past (phase.Carrying object (stage.Tuples number)) held start old
    → option_map kind_of_entry (old.tree (tuple_folder object number)) ≡ Some here → is_dir_kind (Some here) ≡ false
    → is_way_free job (root_in start) (object_held object held.rows past.bytes) ≡ false
barred {job} {past} {start} {object} {held} {number} {old} at dest found other =
    let few = at.numbers in
    let long = place_long job object at.ends.0 in
    let next : number + 1 ≡ suc number = omega arith in
    let place = object.place in
    let p = take (suc number) place in
    let carried = object_held object held.rows past.bytes in
    let root = root_now job start past.placed in
    let bad = no_folder (old.tree (tuple_folder object number)) found other in
    let on_way : is_folder_or_free (root_on_way job start past.placed place number p) ≡ false =
    ap is_folder_or_free (sym (at_root job past start object held number old p dest.started at.rows dest.at.0)
    ∙ ap (λ n. old.tree (storage_root ++ take n place)) (sym next)) ∙ bad in
    let stood = not_made (root p) _ on_way in
    let way : is_way_free job root carried ≡ false =
    ap (λ (q : Path). list_all (λ folder. is_folder_or_free (root folder)) (folders_above q)) (sym at.ends.0.place)
    ∙ barred_at (λ folder. is_folder_or_free (root folder)) place (omega (arith, few, long)) stood in
    sym (way_in_base job (root_in start) carried (roots_have_no_gaps start dest.started).1)
    ∙ sym (way_with_objects job past.placed (base job.tuples (root_in start)) carried) ∙ way

-- ---- the turns

module _ (job : Job) (past : History) (t : Tree) (old : Writing) (new : Option Writing) (held : Held) (objects : Carried → Type 0) where
  abbrev IsFound : Type 0
  IsFound = IsFree t staging × IsBadTarget job (root_in t) objects

  follows_find : {counts : Counts} {here : Phase} {prefix read : List ℕ} {after : Held} {calls : Calls} → IsLayout job.tuples
      → Next job counts here prefix held read after calls (Err fault.Target) → HeldAt job past here held → DestPart job past here held t old
      → Changes calls.change (Some old) new
      → ((object : Object) (number : ℕ) → here ≡ phase.Carrying object (stage.Tuples number) → objects (object_held object held.rows past.bytes)) → IsFound
  unfolding Changes IsKindAt IsPeeked
  follows_find _ (a_start (IsNoRoot _ _ other)) _ dest change _ = (
    dest.at.1,
    IsNoFolder (ap (λ (tree : Tree). is_folder_or_free (tree storage_root)) (sym dest.at.0.tree)
        ∙ no_folder (old.tree storage_root) (change.0 old refl) other),
  )
  follows_find _ (a_start (IsNoFile _ number path bytes _ is other)) _ dest change _ = (
    dest.at.free,
    HasOtherFile number (path, bytes) dest.at.top is
        (λ same. no_file bytes (change.0 old refl) other (ap (λ (tree : Tree). tree (storage_root ++ path)) dest.at.tree ∙ same)),
  )
  follows_find layout (a_start (Differs _ number path bytes _ is other)) _ dest change _ = (
    dest.at.free,
    HasOtherFile number (path, bytes) dest.at.top is
        (λ same. other_bytes (change.1 old refl) other (file_short job.tuples number path bytes layout is)
        (ap (λ (tree : Tree). tree (storage_root ++ path)) dest.at.tree ∙ same)),
  )
  follows_find _ (Walk turn) _ _ _ _ = elim turn [ ]
  follows_find _ (Scan turn) _ _ _ _ = elim turn [ ]
  follows_find _ (Make turn) _ _ _ _ = elim turn [ ]
  follows_find _ (Place (IsInTheWay _ object number _ other)) at dest change some =
      (dest.at.0.root.free, IsBarred (object_held object held.rows past.bytes) (some object number refl) (barred at dest (change.0 old refl) other))

-- ---- the laws

found : (job : Job) (past : History) (start : Start) (old new : DeviceStates) (run : Run) (after : Kept) (t : Tree) (objects : Carried → Type 0)
    → IsHistory job start old run past → Turn job run.phase (turning run.kept) after old new (Err fault.Target) → start.dest ≡ Some t
    → ((object : Object) (number : ℕ) → run.phase ≡ phase.Carrying object (stage.Tuples number) → objects (object_held object run.kept.held.rows past.bytes))
    → IsFree t staging × IsBadTarget job (root_in t) objects
unfolding Did FailsUnchanged FailsPartway
found job past start old new run _ t objects is (IsRefused _ _ calls _ turn did _) told some =
    let had = both_tell (DestPart job past run.phase run.kept.held) start.dest old.dest told is.dest in
    follows_find job past t had.0 new.dest run.kept.held objects is.layout turn is.held had.2 (rw had.1 at did.0.dest) some
found _ _ _ _ _ _ _ _ _ _ (FailsAtFirst _ stays _) _ _ = absurd (stays.3)
found _ _ _ _ _ _ _ _ _ _ (FailsLater _ _ _ _ _ _ _ leaves _ _) _ _ = absurd (leaves.1)

pub finds_target : FindsTarget
unfolding RunInvariant
finds_target job start old new run after t (past, is) turn told = found job past start old new run after t (λ object. ⊤) is turn told (λ object number here. tt)

pub finds_target_of : FindsTargetOf
unfolding RunInvariant
finds_target_of job start old new run after s t (past, is) turn source_is told =
    found job past start old new run after t (IsCarriedOf job s.tree (root_in t)) is turn told
    (λ object number here.
    let source = rw here at (is.source s source_is) in
    let free = rw here at (is.items s source_is t told).places.next in
    (past.count, carried_next past s (root_in t) source.proper source.at.0 source.at.1 source.bytes free))

-- The turns of the start keep what holds where the destination tells.
use Rattle.std.proofs.Common.{inl, inr, ◌≡◌, ◌==◌, ◌+◌, ℕ, suc, List, [], ◌∷◌, ◌++◌, refl, ap, sym, ◌∙◌, subst, append-nil, append_assoc, arith, cond, take}
use Rattle.std.specs.Prelude.{All, Option, None, Some, codes, is_some, slice_get}
use Rattle.std.specs.Option.{option_map}
use Rattle.std.proofs.lemmas.Bool.{eqb-true}
use Rattle.std.proofs.lemmas.List.Elements.{All-push}
use Rattle.pt_name.specs.Tuples.{IsLayout}
use Rattle.pt_object.proofs.RootScripts.{root_script_can_be_made, root_script_makes_the_root}
use Rattle.pt_object.specs.FilePaths.{File}
use Rattle.pt_object.specs.Holding.{IsFree, placed as in_place}
use Rattle.pt_object.specs.Root.{base, base_where, root_of}
use Rattle.pt_object.specs.RootFiles.{root_files_of}
use Rattle.pt_object.specs.Script.{Item, done, item_entry, item_path, made}
use Rattle.pt_object.specs.Scripts.{IsFresh, root_script, staging}
use Rattle.pt_tree.specs.Dest.{Writing, IsKindAt, IsPeeked, after_rename}
use Rattle.pt_tree.specs.Path.{Path}
use Rattle.pt_tree.specs.Tree.{Bytes, CanMake, CanMove, Entry, Folder, IsTree, Tree, bytes_of, moved}
use Rattle.pt_plan.proofs.MovedIn.{root_is_its_own, root_is_moved_in}
use Rattle.pt_plan.proofs.WithObjects.{base_stays}
use Rattle.pt_plan.specs.Carried.{with_objects}
use Rattle.pt_plan.specs.Job.{Job}
use Rattle.pt_plan.specs.Roots.{root_in, storage_root, with_root}
use Rattle.pt_plan.specs.Run.{Held}
use Rattle.pt_plan.specs.TurnStart.{HasNoStaging, HasNoRoot, HasRoot, MakesRoot, RenamesRoot, IsSame}
use Rattle.pt_plan.specs.DeviceStates.{Changes, after_make}
use Rattle.pt_plan.specs.declared.phase.Opening.TheVariants as opening
use Rattle.pt_plan.specs.declared.phase.Phase.TheVariants as phase
use Rattle.pt_invariant.specs.DestInvariant.{DestPart, HasRootFiles, IsMakingRoot, root_now}
use Rattle.pt_invariant.specs.DestLaws.{StartingKeepsDest}
use Rattle.pt_invariant.specs.History.{History}
use Rattle.pt_invariant.proofs.held.EitherPhase.{after_root_file, after_root_item}
use Rattle.pt_invariant.proofs.dest.DestKeeps.{DestAfter, unchanged, no_kind, or_nothing}
use Rattle.pt_invariant.proofs.source.InPairtree.{some_same}
use Rattle.pt_invariant.proofs.dest.MadeItems.{made_more, tree_made}
use Rattle.pt_invariant.proofs.dest.PlacesOnWay.{folder_kind}
use Rattle.pt_invariant.proofs.source.RootChecks.{file_short, peeked_whole}
use Rattle.pt_invariant.proofs.Tests.{take_one}
use Rattle.pt_invariant.proofs.dest.Trees.{tree_moved, tree_put}

-- ---- nothing stands there

-- where nothing stands at a name of the top, nothing stands below it
free_below : (t : Tree) (name : List ℕ) → IsTree t → t (name ∷ []) ≡ None → IsFree t (name ∷ [])
free_below t name tree none [] = none
free_below t name tree none (x ∷ q) = go (name ∷ []) (x ∷ q) none
  where
    go : (p q : Path) → t p ≡ None → t (p ++ q) ≡ None
    go p [] none = ap t (append-nil p) ∙ none
    go p (x ∷ q) none = ap t (sym (append_assoc p (x ∷ []) q)) ∙ go (p ++ x ∷ []) q (by (t (p ++ x ∷ [])) refl)
      where
        by : (o : Option Entry) → t (p ++ x ∷ []) ≡ o → t (p ++ x ∷ []) ≡ None
        by None is = is
        by (Some entry) is = absurd (let folder : t p ≡ Some Folder = tree.above p x (ap is_some is) in cc)

-- ---- no object yet

pub no_objects : (job : Job) (t : Tree) → with_objects job [] t ≡ t
no_objects job t i path = or_nothing (t path) i

-- ---- a new root

fresh_start : {start : Tree} → IsTree start → IsFree start staging → IsFresh start
fresh_start tree free = record { top = tree.top; free = free }

pub root_item_made : (job : Job) (start : Tree) (number : ℕ) (item : Item) (now : Writing) → IsTree start
    → slice_get (root_script job.tuples) number ≡ Some item → IsMakingRoot start (take number (root_script job.tuples)) now → CanMake now.tree (item_path item)
root_item_made job start number item now tree is it =
    rw it.tree (root_script_can_be_made job.tuples start (fresh_start tree it.free) number item is)

whole_root : (job : Job) {start : Tree} {now : Writing} → IsTree start → IsMakingRoot start (root_script job.tuples) now
    → now.tree ≡ in_place start staging (root_of job.tuples)
whole_root job {start} tree it = it.tree ∙ root_script_makes_the_root job.tuples start (fresh_start tree it.free)

-- it may be moved
pub root_may_move : (job : Job) (start : Tree) (now : Writing) → IsTree start → IsMakingRoot start (root_script job.tuples) now
    → CanMove now.tree staging storage_root
root_may_move job start now tree it =
    rw (whole_root job tree it)
    (record { stands = refl; target = record { absent = it.root []; in_folder = tree.top }; apart = refl })

new_base : (job : Job) (start : Tree) → IsFree start storage_root → base job.tuples (root_in start) ≡ root_of job.tuples
new_base job start free = ap (base_where job.tuples (root_in start)) (free [])

moved_root : (job : Job) (start : Tree) {now : Writing} → IsTree start → IsMakingRoot start (root_script job.tuples) now
    → moved now.tree staging storage_root ≡ with_root start (root_now job start [])
moved_root job start tree it =
    ap (λ (t : Tree). moved t staging storage_root) (whole_root job tree it)
    ∙ root_is_moved_in start (root_of job.tuples) it.free
    ∙ ap (with_root start) (sym (no_objects job (base job.tuples (root_in start)) ∙ new_base job start it.root))

-- ---- a root that stands

one_more_file : (job : Job) (root : Tree) (number : ℕ) (path : Path) (bytes : List ℕ) → slice_get (root_files_of job.tuples) number ≡ Some (path, bytes)
    → root path ≡ Some (Bytes bytes) → HasRootFiles job root number → HasRootFiles job root (number + 1)
one_more_file job root number path bytes is same files =
    let next : number + 1 ≡ suc number = omega arith in
    subst (λ (n : ℕ). HasRootFiles job root n) (sym next)
    (subst (λ (l : List File). All (λ file. root file.0 ≡ Some (Bytes file.1)) l) (sym (take_one number _ (path, bytes) is))
    (All-push (λ (file : File). root file.0 ≡ Some (Bytes file.1)) (take number (root_files_of job.tuples)) (path, bytes) files same))

-- it has a top
pub root_stands : (job : Job) (start : Tree) → IsTree start → HasRootFiles job (root_in start) 3 → root_in start [] ≡ Some Folder
root_stands job start tree files = tree.above storage_root (codes "0=ocfl_1.1") (ap is_some (files 0 ([], []) (omega arith)))

own_root : (job : Job) (start : Tree) → IsTree start → HasRootFiles job (root_in start) 3 → start ≡ with_root start (root_now job start [])
own_root job start tree files =
    sym (root_is_its_own start) ∙ ap (with_root start) (sym (no_objects job (base job.tuples (root_in start))
    ∙ base_stays job _ (ap is_some (root_stands job start tree files))))

-- ---- each turn

made_next : (job : Job) (past : History) (start : Tree) (held : Held) (old new : Writing) (number : ℕ) (item : Item) → Some new ≡ Some (after_make item old)
    → slice_get (root_script job.tuples) number ≡ Some item
    → DestPart job past (phase.Opening (opening.RootMake number)) held start old
    → DestAfter job past (phase.Opening (opening.RootMake number))
    (cond (number == 5) (phase.Opening opening.RootRename) (phase.Opening (opening.RootMake (number + 1)))) held held start new
made_next job past start held old new number item change item_is part =
    let can = root_item_made job start number item old part.started item_is part.at in
    let tree_is : new.tree ≡ done item old.tree = ap (λ (w : Writing). w.tree) (some_same new (after_make item old) change) ∙ tree_made item old in
    let tree = subst IsTree (sym tree_is) (tree_put _ _ (item_entry item) part.tree can) in
    let now : new.tree ≡ made (take (suc number) (root_script job.tuples)) start =
    tree_is ∙ ap (done item) part.at.tree ∙ sym (made_more (root_script job.tuples) number item start item_is) in
    let next : suc number ≡ number + 1 = omega arith in
    after_root_item (λ p. DestAfter job past (phase.Opening (opening.RootMake number)) p held held start new) number
    (λ last. record {
      started = part.started;
      tree = tree;
      at = record {
        free = part.at.free;
        root = part.at.root;
        tree = now
            ∙ ap (λ n. made (take (suc n) (root_script job.tuples)) start) (eqb-true number 5 last);
      };
    })
    (λ more. record {
      started = part.started;
      tree = tree;
      at = record {
        free = part.at.free;
        root = part.at.root;
        tree = now
            ∙ ap (λ n. made (take n (root_script job.tuples)) start) next;
      };
    })

checked_next : (job : Job) (past : History) (start : Tree) (held : Held) {old : Writing} (number : ℕ) (path : Path) (bytes : List ℕ) → IsLayout job.tuples
    → slice_get (root_files_of job.tuples) number ≡ Some (path, bytes)
    → option_map (take 8192) (bytes_of (old.tree (storage_root ++ path))) ≡ Some bytes
    → DestPart job past (phase.Opening (opening.RootCheck number)) held start old
    → DestAfter job past (phase.Opening (opening.RootCheck number)) (cond (number == 2) (phase.Opening opening.OpenRoot)
    (phase.Opening (opening.RootCheck (number + 1)))) held held start old
checked_next job past start held {old} number path bytes layout file read part =
    let stands = peeked_whole _ read (file_short job.tuples number path bytes layout file) in
    let here : root_in start path ≡ Some (Bytes bytes) = sym (ap (λ (t : Tree). t (storage_root ++ path)) part.at.tree) ∙ stands in
    let files = one_more_file job (root_in start) number path bytes file here part.at.files in
    after_root_file (λ p. DestAfter job past (phase.Opening (opening.RootCheck number)) p held held start old) number
    (λ last.
    let all : HasRootFiles job (root_in start) 3 = rw (eqb-true number 2 last) at files in
    record {
      started = part.started;
      tree = part.tree;
      at = record {
        root = record { free = part.at.free; root = inr all };
        came = refl;
        tree = part.at.tree
            ∙ own_root job start part.started all;
      };
    })
    (λ more. record { started = part.started; tree = part.tree; at = record { free = part.at.free; top = part.at.top; files = files; tree = part.at.tree } })

pub starts_dest : StartingKeepsDest
unfolding Changes IsKindAt IsPeeked
starts_dest job past start old new prefix read here next held calls layout (HasNoStaging was) change at part =
    let none = sym (ap (λ (t : Tree). t staging) part.at.tree) ∙ no_kind _ (change.0 old refl) in
    unchanged change.1 (record { started = part.started; tree = part.tree; at = (part.at, free_below start (codes "staging") part.started none) })
starts_dest job past start old new prefix read here next held calls layout (HasNoRoot was) change at part =
    let none = sym (ap (λ (t : Tree). t storage_root) part.at.0.tree) ∙ no_kind _ (change.0 old refl) in
    unchanged change.1 (record {
      started = part.started;
      tree = part.tree;
      at = record
          { free = part.at.1; root = free_below start (codes "ocfl") part.started none; tree = part.at.0.tree };
    })
starts_dest job past start old new prefix read here next held calls layout (HasRoot was) change at part =
    let folder = sym (ap (λ (t : Tree). t storage_root) part.at.0.tree) ∙ folder_kind _ (change.0 old refl) in
    unchanged change.1 (record {
      started = part.started;
      tree = part.tree;
      at = record
          { free = part.at.1; top = folder; files = λ k d h. absurd (omega (arith, h)); tree = part.at.0.tree };
    })
starts_dest job past start old new prefix read here next held calls layout (MakesRoot was number item is) change at part = made_next job past start held old new
    number item change is part
starts_dest job past start old new prefix read here next held calls layout (RenamesRoot was) change at part =
    let is = some_same new (after_rename staging storage_root old) change in
    rw is
    (record {
      started = part.started;
      tree = tree_moved _ _ part.tree (root_may_move job start old part.started part.at);
      at = record { root = record { free = part.at.free; root = inl part.at.root }; came = refl; tree = moved_root job start part.started part.at };
    })
starts_dest job past start old new prefix read here next held calls layout (IsSame was number path bytes is) change at part = unchanged change.2
    (checked_next job past start held number path bytes layout is (change.1 old refl) part)
starts_dest job past start old new prefix read here next held calls layout turn change at part = unchanged change
    (record { started = part.started; tree = part.tree; at = part.at })

-- A run in progress permits the calls of its next turn.
use Rattle.std.proofs.Common.{◌≡◌, ℕ, true, List, [], ◌∷◌, ◌++◌, refl, ap, sym, ◌∙◌, subst, length}
use Rattle.std.specs.Prelude.{Option, None, Some, IsSome, is_some, slice_get}
use Rattle.std.specs.Option.{ForSome, option_and_then, option_map}
use Rattle.std.proofs.lemmas.Bool.{ltb-false, ltb-true}
use Rattle.pt_object.specs.Script.{Item, item_path}
use Rattle.pt_object.specs.Scripts.{root_script}
use Rattle.pt_object.specs.declared.rows.Row.{Row}
use Rattle.pt_tree.specs.Dest.{Writing, CanWrite, MayMake, MayMove}
use Rattle.pt_tree.specs.Forest.{Forest, Node, File, as_dir, as_file, dir_at, find, is_proper, kind_of, node_at}
use Rattle.pt_tree.specs.Path.{Path, parent}
use Rattle.pt_tree.specs.Source.{Reading, CanList, CanOpen, CanRead}
use Rattle.pt_tree.specs.Tree.{CanMake, CanMove, Folder, Tree}
use Rattle.pt_tree.specs.declared.kind.Kind.{Kind}
use Rattle.pt_tree.specs.declared.kind.Kind.TheVariants as kind
use Rattle.pt_walk.proofs.Paths.{reads_below}
use Rattle.pt_walk.proofs.TrailSteps.{directory_there, path_grows}
use Rattle.pt_walk.specs.Left.{Fits}
use Rattle.pt_walk.specs.Trail.{current_entry, names_to}
use Rattle.pt_walk.specs.declared.frame.Frame.{Frame}
use Rattle.pt_plan.specs.Job.{Job}
use Rattle.pt_plan.specs.Enabled.{HasParent, MayEnter, MayMakeContent, MayMakePart, MayMakeRootItem, MayOpen, MayOpenPrefix, MayOpenRow, Enabled}
use Rattle.pt_plan.specs.Run.{Held}
use Rattle.pt_plan.specs.Store.{is_store, pairtree_of, pairtree_root, prefix_file}
use Rattle.pt_plan.specs.TurnMake.{path_of_source}
use Rattle.pt_plan.specs.TurnPlace.{tuple_folder}
use Rattle.pt_plan.specs.declared.object.Object.{Object}
use Rattle.pt_plan.specs.declared.phase.Part.{Part}
use Rattle.pt_plan.specs.declared.phase.Part.TheVariants as a_part
use Rattle.pt_plan.specs.declared.phase.Phase.{Phase}
use Rattle.pt_plan.specs.declared.phase.Opening.TheVariants as opening
use Rattle.pt_plan.specs.declared.phase.Phase.TheVariants as phase
use Rattle.pt_plan.specs.declared.phase.Stage.TheVariants as stage
use Rattle.pt_plan.specs.declared.phase.Position.{Position}
use Rattle.pt_invariant.specs.RunInvariant.{RunInvariant, TellsAsBefore}
use Rattle.pt_invariant.specs.DestInvariant.{DestPart}
use Rattle.pt_invariant.specs.HeldInvariant.{HeldAt}
use Rattle.pt_invariant.specs.InvariantLaws.{InvariantEnables}
use Rattle.pt_invariant.specs.SourceInvariant.{SourcePart}
use Rattle.pt_invariant.specs.PartsMade.{made_before, script_of_object}
use Rattle.pt_invariant.specs.History.{History}
use Rattle.pt_invariant.proofs.dest.ContentParts.{file_next, folder_next}
use Rattle.pt_invariant.proofs.source.InPairtree.{file_in_pairtree, pairtree_proper, pairtree_there, some_same}
use Rattle.pt_invariant.proofs.dest.MakesDest.{is_here, item_may}
use Rattle.pt_invariant.proofs.source.MakesKeep.{file_of_row}
use Rattle.pt_invariant.proofs.dest.ObjectParts.{next_declaration, next_first, next_fourth, next_second, next_staging, next_third, next_version}
use Rattle.pt_invariant.proofs.dest.PlacesDest.{object_may_move, tuple_parent}
use Rattle.pt_invariant.proofs.source.ScansKeep.{opened}
use Rattle.pt_invariant.proofs.dest.ScriptParts.{IsNext}
use Rattle.pt_invariant.proofs.dest.StartsDest.{root_item_made, root_may_move}

-- ---- the source

-- the directory at the innermost place is there
enterable : (source : Forest) (t : List Frame) {name : List ℕ} → is_store source ≡ true → is_proper (pairtree_of source) ≡ true → Fits (pairtree_of source) t
    → current_entry t ≡ Some (name, kind.Dir) → IsSome (dir_at source (pairtree_root ∷ names_to t))
enterable source [] store proper fits e = absurd (cc)
enterable source (frame ∷ frames) {name} store proper fits e =
    let top = pairtree_of source in
    let here : names_to (frame ∷ frames) ≡ names_to frames ++ name ∷ [] = path_grows frame frames (name, kind.Dir) e in
    ap (λ (o : Option Node). is_some (option_and_then as_dir o)) (reads_below source top (pairtree_root ∷ []) (names_to (frame ∷ frames))
    (pairtree_there source store)).0
    ∙ ap (λ (p : Path). is_some (dir_at top p)) here
    ∙ ap is_some (directory_there top frame frames name proper fits e)

-- what is known of a source that tells, and of a destination that does
abbrev KnowsSource : Job → History → Phase → List ℕ → Held → Option Reading → Type 0
KnowsSource job past here prefix held reading = ForSome reading (SourcePart job past here prefix held)

abbrev KnowsDest : Job → History → Phase → Held → Option Writing → Type 0
KnowsDest job past here held writing = ForSome writing (λ now. (start : Tree) × DestPart job past here held start now)

enters_root : {reading : Option Reading} → ForSome reading (λ s. is_store s.tree ≡ true) → CanList reading (pairtree_root ∷ [])
unfolding CanList
enters_root knows s is = ap is_some (pairtree_there s.tree (knows s is))

-- where the trail is through the pairtree
abbrev IsThrough : List Frame → Reading → Type 0
IsThrough t s = (is_store s.tree ≡ true) × (is_proper s.tree ≡ true) × Fits (pairtree_of s.tree) t

may_enter : {reading : Option Reading} (t : List Frame) → ForSome reading (IsThrough t) → MayEnter reading t
unfolding MayEnter CanList
may_enter t knows _ e s is = let it = knows s is in enterable s.tree t it.0 (pairtree_proper s.tree it.0 it.1) it.2 e

may_open : {reading : Option Reading} (t : List Frame) → ForSome reading (IsThrough t) → MayOpen reading t
unfolding MayOpen CanOpen
may_open t knows name e s is = let it = knows s is in ap is_some (opened s.tree t name it.0 (pairtree_proper s.tree it.0 it.1) it.2 e)

-- the prefix file is there, where it is a file
prefix_there : (o : Option Node) → option_map kind_of o ≡ Some kind.File → IsSome (option_and_then as_file (option_and_then (λ node. node_at node []) o))
prefix_there (Some (File bytes)) _ = refl
prefix_there _ is = absurd (cc)

may_open_prefix : {reading : Option Reading} {here : Option Kind} → ForSome reading (λ s. here ≡ option_map kind_of (find s.tree prefix_file))
    → MayOpenPrefix reading here
unfolding MayOpenPrefix CanOpen
may_open_prefix knows file s is = prefix_there (find s.tree prefix_file) (sym (knows s is) ∙ file)

may_read : {reading : Option Reading} → ForSome reading (λ s. (left : List ℕ) × (s.unread ≡ Some left)) → CanRead reading
unfolding CanRead
may_read knows s is = ap is_some (knows s is).1

-- ---- the destination

may_make : {writing : Option Writing} {path : Path} → ForSome writing (λ now. CanMake now.tree path) → MayMake writing path
unfolding MayMake
may_make knows now is = knows now is

may_move : {writing : Option Writing} {from to : Path} → ForSome writing (λ now. CanMove now.tree from to) → MayMove writing from to
unfolding MayMove
may_move knows now is = knows now is

may_write : {writing : Option Writing} → ForSome writing (λ now. IsSome now.writing) → CanWrite writing
unfolding CanWrite
may_write knows now is = knows now is

may_make_root : (job : Job) {writing : Option Writing} (number : ℕ) → ((item : Item) → slice_get (root_script job.tuples) number ≡ Some item
    → ForSome writing (λ now. CanMake now.tree (item_path item))) → MayMakeRootItem writing job.tuples number
unfolding MayMakeRootItem
may_make_root _ {writing} _ knows item is = may_make (knows item is)

has_parent : {writing : Option Writing} (path : Path) → ForSome writing (λ now. now.tree (parent path) ≡ Some Folder) → HasParent writing path
unfolding HasParent
has_parent _ knows now is = knows now is

-- ---- an object that is made

-- the next item of its script
next_item : {job : Job} {past : History} {object : Object} {here : Part} {held : Held} {item : Item} {writing : Option Writing}
    → HeldAt job past (phase.Carrying object (stage.Make here)) held → KnowsDest job past (phase.Carrying object (stage.Make here)) held writing
    → IsNext (script_of_object job object held.rows past.bytes) (made_before job object held.rows past.bytes here) item → MayMake writing (item_path item)
next_item {job} {past} {object} {here} {held} {item} at dest next =
    may_make
    (λ now is. let known = dest now is in item_may job known.0 past.placed object held.rows past.bytes _ item now known.1.started at.rows.order next known.1.at)

pub may_open_row : {job : Job} {past : History} {object : Object} {here : Part} {prefix : List ℕ} {held : Held} (n : ℕ) {row : Row} {reading : Option Reading}
    → KnowsSource job past (phase.Carrying object (stage.Make here)) prefix held reading → slice_get held.rows n ≡ Some row
    → MayOpenRow reading object held.trail row.path
unfolding MayOpenRow CanOpen
may_open_row {job} {past} {object} {prefix} {held} n {row} source is s same =
    let known = source s same in
    ap is_some (file_in_pairtree s.tree (path_of_source object held.trail ++ row.path) known.at.0.store
    ∙ (file_of_row job s prefix object held past.count n row known.proper is known.at).stands)

may_make_content : {job : Job} {past : History} {object : Object} {position : Position} {prefix : List ℕ} {held : Held} {reading : Option Reading}
    {writing : Option Writing} → HeldAt job past (phase.Carrying object (stage.Make (a_part.Content position))) held
    → KnowsSource job past (phase.Carrying object (stage.Make (a_part.Content position))) prefix held reading
    → KnowsDest job past (phase.Carrying object (stage.Make (a_part.Content position))) held writing → MayMakeContent reading writing object held position
unfolding MayMakeContent
may_make_content {job} {past} {object} {position} {held} at source dest row is stored =
    let here = is_here job past object position held row at is stored in (
      λ more. next_item at dest
          (folder_next job object held.rows held.contents past.bytes position row here (ltb-true position.directories (length row.path) more)),
      λ all. (
        next_item at dest
            (file_next job object held.rows held.contents past.bytes position row here (ltb-false position.directories (length row.path) all)),
        may_open_row position.row source is,
      ),
    )

may_make_part : {job : Job} {past : History} {object : Object} (here : Part) {prefix : List ℕ} {held : Held} {reading : Option Reading}
    {writing : Option Writing} → HeldAt job past (phase.Carrying object (stage.Make here)) held
    → KnowsSource job past (phase.Carrying object (stage.Make here)) prefix held reading
    → KnowsDest job past (phase.Carrying object (stage.Make here)) held writing → MayMakePart job object here held reading writing
may_make_part {job} {past} {object} a_part.Staging {held} at _ dest = next_item at dest (next_staging job object held.rows past.bytes)
may_make_part {job} {past} {object} a_part.Declaration {held} at _ dest =
    next_item at dest (next_declaration job object held.rows past.bytes)
may_make_part {job} {past} {object} a_part.Version {held} at _ dest = next_item at dest (next_version job object held.rows past.bytes)
may_make_part (a_part.Content _) at source dest = may_make_content at source dest
may_make_part {job} {past} {object} a_part.VersionInventory {held} at _ dest =
    next_item at dest (next_first job object held.rows past.bytes)
may_make_part {job} {past} {object} a_part.VersionSidecar {held} at _ dest =
    next_item at dest (next_second job object held.rows past.bytes)
may_make_part {job} {past} {object} a_part.Inventory {held} at _ dest = next_item at dest (next_third job object held.rows past.bytes)
may_make_part {job} {past} {object} a_part.Sidecar {held} at _ dest = next_item at dest (next_fourth job object held.rows past.bytes)

-- ---- by the phase

permits : {job : Job} {past : History} (here : Phase) {prefix : List ℕ} {held : Held} {reading : Option Reading} {writing : Option Writing}
    → HeldAt job past here held → KnowsSource job past here prefix held reading → KnowsDest job past here held writing → Enabled job here held reading writing
permits (phase.Opening opening.Begin) _ _ _ = tt
permits (phase.Opening (opening.Prefix _)) _ source _ = may_open_prefix (λ s is. (source s is).at.3)
permits {job} (phase.Opening (opening.RootMake number)) _ _ dest = may_make_root job number
    (λ item is now same. let known = dest now same in root_item_made job known.0 number item now known.1.started is known.1.at)
permits {job} (phase.Opening opening.RootRename) _ _ dest = may_move (λ now is. let known = dest now is in root_may_move job known.0 now known.1.started
    known.1.at)
permits (phase.Opening opening.OpenRoot) _ source _ = enters_root (λ s is. (source s is).at.2.store)
permits (phase.Carrying _ stage.Open) {held} _ source _ = λ apart. may_enter held.trail
    (λ s is. let known = source s is in (known.at.1.store, known.proper, known.at.2.fits))
permits (phase.Carrying _ stage.Scan) {held} _ source _ = (
  may_enter held.trail (λ s is. let known = source s is in (known.at.0.store, known.proper, known.at.1.stands.fits)),
  may_open held.trail (λ s is. let known = source s is in (known.at.0.store, known.proper, known.at.1.stands.fits)),
)
permits (phase.Carrying _ (stage.Read _)) _ source _ = may_read (λ s is. (_, (source s is).at.2.read.left))
permits (phase.Carrying _ (stage.Make here)) at source dest = may_make_part here at source dest
permits (phase.Carrying _ (stage.Copy _ _)) _ source dest = (
  may_read (λ s is. (_, (source s is).at.2.read.left)),
  may_write
      (λ now is. ap is_some (dest now is).1.at.writes.writing),
)
permits {job} {past} (phase.Carrying object (stage.Tuples number)) {held} at _ dest = has_parent (tuple_folder object number)
    (λ now is. let known = dest now is in tuple_parent job past known.0 object held number now at.numbers at known.1)
permits {job} {past} (phase.Carrying object stage.Rename) {held} at _ dest = may_move
    (λ now is. let known = dest now is in object_may_move job past known.0 object held now at known.1)
permits phase.Walk {held} _ source _ = may_enter held.trail (λ s is. let known = source s is in (known.at.1.store, known.proper, known.at.2.fits))
permits _ _ _ _ = tt

-- a destination that tells told at the start
told_both : {A B : Type 0} → (P : A → B → Type 0) (start : Option A) (now : Option B) → TellsAsBefore start now P → ForSome now (λ b. (a : A) × P a b)
told_both P None None tells b is = absurd (cc)
told_both P None (Some _) tells _ _ = absurd (tells)
told_both P (Some _) None tells _ _ = absurd (tells)
told_both P (Some start) (Some now) tells b is = (start, subst (P start) (some_same now b is) tells)

pub invariant_enables : InvariantEnables
unfolding RunInvariant
invariant_enables job start states run (past, is) =
    permits run.phase is.held is.source (told_both (DestPart job past run.phase run.kept.held) start.dest states.dest is.dest)

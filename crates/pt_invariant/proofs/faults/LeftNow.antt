-- Whatever stands in the destination and in the log between two turns may be left by a fault.
use Rattle.std.proofs.Common.{inl, inr, ◌≡◌, ◌≤◌, ◌-◌, ℕ, suc, false, List, [], ◌∷◌, refl, ap, sym, ◌∙◌, subst, append-nil, arith, length, take}
use Rattle.pt_object.specs.Holding.{IsFree}
use Rattle.pt_object.specs.Script.{Item, MakeFile, StandsAtPrefix}
use Rattle.pt_object.specs.Scripts.{root_script, staging}
use Rattle.pt_object.specs.declared.rows.Row.{Row}
use Rattle.pt_tree.specs.Dest.{Writing}
use Rattle.pt_tree.specs.Forest.{Forest}
use Rattle.pt_tree.specs.Source.{Reading}
use Rattle.pt_tree.specs.Tree.{Tree}
use Rattle.pt_plan.specs.Carried.{Carried, after, carried_among}
use Rattle.pt_plan.specs.Faults.{BeginsWith, Between, FaultStateOfFree, IsLogAfter, MakingRoot, FaultState}
use Rattle.pt_plan.specs.Items.{items}
use Rattle.pt_plan.specs.Job.{Job}
use Rattle.pt_plan.specs.Lines.{text}
use Rattle.pt_plan.specs.Roots.{root_in, with_root}
use Rattle.pt_plan.specs.Run.{Counts, Held}
use Rattle.pt_plan.specs.TurnMake.{staged_content}
use Rattle.pt_plan.specs.declared.object.Object.{Object}
use Rattle.pt_plan.specs.declared.phase.Part.{Part}
use Rattle.pt_plan.specs.declared.phase.Part.TheVariants as a_part
use Rattle.pt_plan.specs.declared.phase.Phase.{Phase}
use Rattle.pt_plan.specs.declared.phase.Opening.TheVariants as opening
use Rattle.pt_plan.specs.declared.phase.Phase.TheVariants as phase
use Rattle.pt_plan.specs.declared.phase.Stage.TheVariants as stage
use Rattle.pt_plan.specs.declared.phase.Position.{Position}
use Rattle.pt_invariant.specs.DestInvariant.{IsBetweenObjects, IsMakingObject, IsMakingRoot, root_now, root_on_way}
use Rattle.pt_invariant.specs.EndLaws.{is_ended}
use Rattle.pt_invariant.specs.ItemLaws.{KnowsItems}
use Rattle.pt_invariant.specs.PartsMade.{made_before, script_of_object}
use Rattle.pt_invariant.specs.History.{History}
use Rattle.pt_invariant.proofs.items.CarriedNext.{begins_taken, carried_next, carrying_left, content_stands, row_bytes}
use Rattle.pt_invariant.proofs.dest.ContentParts.{file_next}
use Rattle.pt_invariant.proofs.dest.DestKeeps.{no_folders}
use Rattle.pt_invariant.proofs.source.InPairtree.{some_same}
use Rattle.pt_invariant.proofs.faults.KeptNow.{front_stands, root_free, stands_whole}
use Rattle.pt_invariant.proofs.faults.LogsLeft.{as_after, marked_within, not_told, told_so_far}
use Rattle.pt_invariant.proofs.dest.MadeItems.{made_in_turn}
use Rattle.pt_invariant.proofs.dest.MakesDest.{copy_here, copy_stands}
use Rattle.pt_invariant.proofs.dest.ObjectParts.{front_made}

-- ---- what is left, by what the parts say

-- all as it was, before the first item
pub as_it_was : (job : Job) (source : Forest) {start now : Tree} {count : ℕ} → count ≡ 0 → now ≡ start
    → FaultState job source start now (text job source (root_in start) count)
as_it_was job source {start} first same = inl (same, ap (text job source (root_in start)) first)

-- a part of a new root
pub root_left : {job : Job} (source : Forest) {start now : Tree} {count : ℕ} {items : List Item} {w : Writing} → count ≡ 0 → IsMakingRoot start items w
    → StandsAtPrefix (root_script job.tuples) start now → FaultState job source start now (text job source (root_in start) count)
root_left {job} source {start} {now} first making at =
    inr (
      making.free,
      subst (FaultStateOfFree job source start now) (sym (ap (text job source (root_in start)) first))
          (MakingRoot now (root_free start making.root) at),
    )

-- the root after some items, with this in the log
pub between_left : {job : Job} {source : Forest} {start : Tree} {now : Tree} {k : ℕ} {log : List ℕ} → IsFree start staging → k ≤ length (items job source)
    → IsLogAfter job source (root_in start) k log → now ≡ with_root start (after job source (root_in start) k) → FaultState job source start now log
between_left {job} {source} {start} {k} {log} free within told is =
    inr (free, rw is (Between k log within told))

-- the root after so many items, or after all if there are no more
pub counted_left : {job : Job} {source : Forest} {start : Tree} {now : Tree} (count : ℕ) → IsFree start staging
    → now ≡ with_root start (after job source (root_in start) count) → FaultState job source start now (text job source (root_in start) count)
counted_left {job} {source} {start} count free is =
    let it = as_after job source (root_in start) count in
    between_left free it.within
    (subst (IsLogAfter job source (root_in start) it.k) it.text_is (told_so_far job source (root_in start) it.k it.within))
    (is ∙ ap (with_root start) (sym it.root_is))

-- the root with the objects placed, where those are the ones that are carried
root_after : (job : Job) (source : Forest) (start : Tree) {placed : List Carried} (k : ℕ) → placed ≡ carried_among job source (root_in start) k
    → root_now job start placed ≡ after job source (root_in start) k
root_after job _ start _ is = ap (root_now job start) is

pub tree_between : {job : Job} (source : Forest) {start : Tree} {placed : List Carried} (k : ℕ) {w : Writing}
    → placed ≡ carried_among job source (root_in start) k → IsBetweenObjects job start placed w → w.tree ≡ with_root start (after job source (root_in start) k)
tree_between {job} source {start} k is between = between.tree ∙ ap (with_root start) (root_after job source start k is)

-- of an object that was entered nothing is made yet
pub tree_entered : {job : Job} (source : Forest) {start : Tree} {placed : List Carried} (k : ℕ) {object : Object} {w : Writing}
    → placed ≡ carried_among job source (root_in start) k → IsMakingObject job start placed object [] 0 w
    → w.tree ≡ with_root start (after job source (root_in start) k)
tree_entered {job} source {start} {placed} k {object} is making = making.tree
    ∙ ap (with_root start) (no_folders job start placed object.place ∙ root_after job source start k is)

-- ---- by the phase

module _ (job : Job) (past : History) (s : Reading) (start : Tree) (prefix : List ℕ) (held : Held) (counts : Counts) (now : Writing) where
  abbrev Known : Phase → Type 0
  Known here = KnowsItems job past here prefix held counts s start now

  abbrev Left : Type 0
  Left = FaultState job s.tree start now.tree (text job s.tree (root_in start) past.count)

  part_left : {object : Object} {here : Part} → Known (phase.Carrying object (stage.Make here)) → Left
  part_left {object} {here} known =
      let source = known.source in
      let rows = known.held_at.rows in
      carrying_left job past s start object held {n = 0} known.dest.started known.dest.at.root known.held_at.ends.0 rows (omega arith) known.items.places.placed
      (carried_next past s (root_in start) source.proper source.at.0 source.at.1 source.bytes known.items.places.next)
      (front_stands (front_made job object held.rows past.bytes here) known.dest.at.tree)

  -- a content is copied
  copy_left : {object : Object} {position : Position} {left : ℕ} → Known (phase.Carrying object (stage.Copy position left)) → Left
  copy_left {object} {position} {left} known =
      let source = known.source in
      let at = known.held_at in
      let row = known.dest.at.writes.row in
      let is = known.dest.at.writes.is_row in
      let reads = source.at.2 in
      let front = made_before job object held.rows past.bytes (a_part.Content position) in
      let root = with_root start (root_on_way job start past.placed object.place 0) in
      let same = some_same reads.row row (sym reads.is_row ∙ is) in
      let bytes = row_bytes s.tree object held.trail past.bytes held.rows position.row at.ends.1 source.bytes reads.is_row in
      let begins : BeginsWith held.fed (past.bytes row.path) =
      begins_taken (reads.row.length - left) (reads.read.fed_is ∙ ap (take (reads.row.length - left)) (sym bytes ∙ ap (λ (r : Row). past.bytes r.path) same)) in
      carrying_left job past s start object held {n = 0} known.dest.started known.dest.at.making.root at.ends.0 at.rows (omega arith) known.items.places.placed
      (carried_next past s (root_in start) source.proper source.at.0 source.at.1 source.bytes known.items.places.next)
      (content_stands
      (file_next job object held.rows held.contents past.bytes position row (copy_here job past object position left held row at is)
      (copy_stands held position row is at.numbers)) begins
      (known.dest.at.making.tree ∙ made_in_turn front (MakeFile (staged_content row.path) held.fed ∷ []) root))

  -- all of the object is made, and some folders on the way to its place
  script_stands : {object : Object} {n : ℕ} → IsMakingObject job start past.placed object (script_of_object job object held.rows past.bytes) n now
      → StandsAtPrefix (script_of_object job object held.rows past.bytes) (with_root start (root_on_way job start past.placed object.place n)) now.tree
  script_stands {object} making =
      front_stands {front = script_of_object job object held.rows past.bytes}
      (record { rest = []; is = sym (append-nil (script_of_object job object held.rows past.bytes)) }) making.tree

  tuples_left : {object : Object} {number : ℕ} → Known (phase.Carrying object (stage.Tuples number)) → Left
  tuples_left {object} known =
      let source = known.source in
      let few = known.held_at.numbers in
      carrying_left job past s start object held known.dest.started known.dest.at.0.root known.held_at.ends.0 known.held_at.rows (omega (arith, few))
      known.items.places.placed
      (carried_next past s (root_in start) source.proper source.at.0 source.at.1 source.bytes known.items.places.next)
      (script_stands known.dest.at.0)

  rename_left : {object : Object} → Known (phase.Carrying object stage.Rename) → Left
  rename_left {object} known =
      let source = known.source in
      carrying_left job past s start object held known.dest.started known.dest.at.0.root known.held_at.ends.0 known.held_at.rows (omega arith)
      known.items.places.placed
      (carried_next past s (root_in start) source.proper source.at.0 source.at.1 source.bytes known.items.places.next)
      (script_stands known.dest.at.0)

  -- the object is at its place, and its line isn't told yet
  line_left : {object : Object} → Known (phase.Carrying object stage.Line) → Left
  line_left known =
      let source = known.source in
      let is = carried_next past s (root_in start) source.proper source.at.0 source.at.1 source.bytes known.items.places.next in
      between_left known.dest.at.root.free (marked_within job s.tree (root_in start) is.1)
      (not_told job s.tree (root_in start) past.count is.1 refl)
      (tree_between s.tree (suc past.count) known.items.places.placed known.dest.at)

  pub left_now : (here : Phase) → is_ended here ≡ false → Known here → Left
  left_now (phase.Opening opening.Begin) _ known = as_it_was job s.tree known.source.at.1 known.dest.at.tree
  left_now (phase.Opening (opening.Prefix _)) _ known = as_it_was job s.tree known.source.at.1 known.dest.at.tree
  left_now (phase.Opening opening.Staging) _ known = as_it_was job s.tree known.source.at.1 known.dest.at.tree
  left_now (phase.Opening opening.Root) _ known = as_it_was job s.tree known.source.at.1 known.dest.at.0.tree
  left_now (phase.Opening (opening.RootMake number)) _ known =
      root_left s.tree known.source.at.1 known.dest.at (stands_whole number known.dest.at.tree)
  left_now (phase.Opening opening.RootRename) _ known = root_left s.tree known.source.at.1 known.dest.at (stands_whole 6 known.dest.at.tree)
  left_now (phase.Opening (opening.RootCheck _)) _ known = as_it_was job s.tree known.source.at.1 known.dest.at.tree
  left_now (phase.Carrying _ stage.Open) _ known = counted_left past.count known.dest.at.root.free
      (tree_entered s.tree past.count known.items.places.placed known.dest.at)
  left_now (phase.Carrying _ stage.Scan) _ known = counted_left past.count known.dest.at.root.free
      (tree_entered s.tree past.count known.items.places.placed known.dest.at)
  left_now (phase.Carrying _ (stage.Read _)) _ known = counted_left past.count known.dest.at.root.free
      (tree_entered s.tree past.count known.items.places.placed known.dest.at)
  left_now (phase.Carrying _ (stage.Make _)) _ known = part_left known
  left_now (phase.Carrying _ (stage.Copy _ _)) _ known = copy_left known
  left_now (phase.Carrying _ (stage.Tuples _)) _ known = tuples_left known
  left_now (phase.Carrying _ stage.Rename) _ known = rename_left known
  left_now (phase.Carrying _ stage.Line) _ known = line_left known
  left_now phase.Ended runs known = absurd (cc)
  left_now _ _ known = counted_left past.count known.dest.at.root.free (tree_between s.tree past.count known.items.places.placed known.dest.at)

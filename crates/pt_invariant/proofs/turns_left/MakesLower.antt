-- The turns that make an object lower what is left.
use Rattle.std.proofs.Common.{◌≡◌, ◌<◌, ◌≤◌, ◌-◌, ℕ, ◌+◌, ◌==◌, Bool, true, false, List, [], ◌∷◌, ◌++◌, refl, ap, sym, ◌∙◌, arith, cond, length, map, take}
use Rattle.std.specs.Prelude.{Some, nat_lt, slice_get}
use Rattle.std.specs.Option.{option_map}
use Rattle.std.proofs.lemmas.Bool.{ltb-false, ltb-true, true≢false}
use Rattle.std.proofs.lemmas.List.{length-append}
use Rattle.pt_object.specs.Distinct.{content_of_row, distinct}
use Rattle.pt_object.specs.FilePaths.{row_paths}
use Rattle.pt_tree.specs.PathOrder.{part_in_order}
use Rattle.pt_object.specs.Script.{Item}
use Rattle.pt_object.specs.declared.table.contents.Content.{Content}
use Rattle.pt_object.specs.declared.rows.Row.{Row}
use Rattle.pt_tree.specs.Forest.{Forest}
use Rattle.pt_tree.specs.Source.{Reading, IsRead}
use Rattle.pt_walk.specs.Left.{bytes_at}
use Rattle.pt_plan.specs.Carried.{Marked}
use Rattle.pt_plan.specs.Job.{Job}
use Rattle.pt_plan.specs.Run.{Held, with_fed}
use Rattle.pt_plan.specs.Store.{pairtree_of}
use Rattle.pt_plan.specs.TurnMake.{
  CopiesOn,
  EndsCopy,
  MakesDeclaration,
  MakesFolder,
  MakesInventory,
  MakesSidecar,
  MakesStaging,
  MakesVersion,
  MakesVersionInventory,
  MakesVersionSidecar,
  OpensCopy,
  PassesRow,
  behind,
  behind_stored,
  content_at,
  is_stored,
  path_of_source,
}
use Rattle.pt_plan.specs.TurnScan.{to_site}
use Rattle.pt_plan.specs.Work.{reads}
use Rattle.pt_plan.specs.DeviceStates.{Answers}
use Rattle.pt_plan.specs.declared.object.Object.{Object}
use Rattle.pt_plan.specs.declared.phase.Part.TheVariants as part
use Rattle.pt_plan.specs.declared.phase.Phase.TheVariants as phase
use Rattle.pt_plan.specs.declared.phase.Stage.TheVariants as stage
use Rattle.pt_plan.specs.declared.phase.Position.{Position}
use Rattle.pt_invariant.specs.SourceInvariant.{SourcePart}
use Rattle.pt_invariant.specs.History.{History}
use Rattle.pt_invariant.specs.PartsMade.{IsAtRow}
use Rattle.pt_invariant.proofs.dest.ContentParts.{IsHere, file_made, file_next, folder_made, folder_next, made_at, made_first}
use Rattle.pt_invariant.proofs.held.DistinctRows.{is_known, stored_where_new}
use Rattle.pt_invariant.proofs.dest.MakesDest.{copy_here, copy_stands, is_here}
use Rattle.pt_invariant.proofs.source.MakesKeep.{file_of_row}
use Rattle.pt_invariant.proofs.dest.ObjectParts.{
  after_first,
  after_second,
  after_third,
  next_declaration,
  next_first,
  next_fourth,
  next_second,
  next_staging,
  next_third,
  next_version,
}
use Rattle.pt_invariant.proofs.held.Positions.{is_new, stored_more, stored_passed}
use Rattle.pt_invariant.proofs.dest.ScriptParts.{IsNext}
use Rattle.pt_invariant.specs.WorkLaws.{DecreasesRank, MakingDecreasesRank}
use Rattle.pt_invariant.specs.Rank.{bytes_there, items_to_make, to_copy_at, to_copy_from}
use Rattle.pt_invariant.proofs.turns_left.Copying.{block_read, copy_next}

-- ---- the items of the script

-- one item is left at least
some_left : {script front : List Item} {item : Item} → IsNext script front item → 0 < length script - length front
some_left {script} {front} {item} next =
    let long : length script ≡ length front + length (item ∷ next.rest) = ap length next.is ∙ length-append front (item ∷ next.rest) in
    omega (arith, long)

-- and with it one less
one_less : {script front after : List Item} {item : Item} → IsNext script front item → after ≡ front ++ item ∷ []
    → length script - length after + 1 ≤ length script - length front
one_less {script} {front} {after} {item} next is =
    let long : length script ≡ length front + length (item ∷ next.rest) = ap length next.is ∙ length-append front (item ∷ next.rest) in
    let more : length after ≡ length front + 1 = ap length is ∙ length-append front (item ∷ []) in
    omega (arith, long, more)

-- ---- the position

-- behind the contents no more is to be copied
no_more_to_copy : (rows : List Row) (position : Position) → to_copy_at rows (content_at rows position) ≤ to_copy_from rows position.row
no_more_to_copy rows position = by (nat_lt position.row (length rows))
  where
    by : (more : Bool) → to_copy_at rows (cond more (part.Content position) part.VersionInventory) ≤ to_copy_from rows position.row
    by true = omega arith
    by false = omega arith

-- a row is passed where its digest is known
passed_known : {rows : List Row} {contents : List Content} {position : Position} {row : Row} → contents ≡ map content_of_row (distinct rows)
    → part_in_order (row_paths rows) ≡ true → slice_get rows position.row ≡ Some row → is_stored contents position.stored row.path ≡ false
    → IsAtRow rows position
    → is_known (take position.row rows) row ≡ true
passed_known {rows} {contents} {position} {row} are order is passed at = by (is_known (take position.row rows) row) refl
  where
    by : (known : Bool) → is_known (take position.row rows) row ≡ known → known ≡ true
    by true known = refl
    by false new = absurd (true≢false (sym (stored_where_new rows contents position.row position.stored row are at.stored order is false new) ∙ passed))

-- a row that is copied is the first of its digest
copied_next : {rows : List Row} {contents : List Content} {position : Position} {row : Row} → IsHere rows contents position row
    → to_copy_from rows position.row ≡ reads row.length + to_copy_from rows (position.row + 1)
copied_next {rows} {contents} {position} {row} it = copy_next rows position.row it.is (is_new rows contents position row it.are it.order it.is it.stored it.at)

-- ---- a copy

-- so many bytes of the file are left
copy_lowers : {job : Job} {s : Reading} {prefix : List ℕ} {past : History} {object : Object} {held : Held} {position : Position} {left byte : ℕ}
    {block : List ℕ} → SourcePart job past (phase.Carrying object (stage.Copy position left)) prefix held s
    → option_map (take 8192) s.unread ≡ Some (byte ∷ block)
    → reads (left - length (byte ∷ block)) + 1 ≤ reads left
copy_lowers {job} {s} {prefix} {past} {object} {held} {position} {left} {byte} {block} part read =
    let it = part.at.2 in
    let bytes = bytes_at (pairtree_of s.tree) (path_of_source object held.trail ++ it.row.path) in
    let file = file_of_row job s prefix object held past.count position.row it.row part.proper it.is_row (part.at.0, part.at.1) in
    let long : it.row.length ≡ length bytes = file.long ∙ sym (ap length file.here) in
    let within = it.within in
    let less = block_read it.read read in
    let before : length bytes - (it.row.length - left) ≡ left = omega (arith, long, within) in
    let after : length bytes - (it.row.length - left + length (byte ∷ block)) ≡ left - length (byte ∷ block) = omega (arith, long, within) in
    let one = ap reads before in
    let two = ap reads after in
    omega (arith, less, one, two)

-- ---- each turn

after_sidecar : (job : Job) (source : Forest) (marks : List Marked) (count : ℕ) (object : Object) (held : Held) (flat : Bool)
    → 0 < items_to_make job source object (to_site object held.trail) held.rows part.Sidecar
    → DecreasesRank job source marks count (phase.Carrying object (stage.Make part.Sidecar)) held
    (cond flat (phase.Carrying object stage.Rename) (phase.Carrying object (stage.Tuples 0))) (with_fed held [])
after_sidecar job source marks count object held true some = omega (arith, some)
after_sidecar job source marks count object held false some = omega (arith, some)

pub makes_lower : MakingDecreasesRank
unfolding Answers IsRead
makes_lower job past s new marks prefix here held after calls next (MakesStaging was object) answers at part_is =
    let b = bytes_there s.tree object (to_site object was.trail) in
    let less = one_less (next_staging job object was.rows b) refl in
    omega (arith, less)
makes_lower job past s new marks prefix here held after calls next (MakesDeclaration was object) answers at part_is =
    let b = bytes_there s.tree object (to_site object was.trail) in
    let less = one_less (next_declaration job object was.rows b) refl in
    omega (arith, less)
makes_lower job past s new marks prefix here held after calls next (MakesVersion was object) answers at part_is =
    let b = bytes_there s.tree object (to_site object was.trail) in
    let first : Position = record { row = 0; stored = 0; directories = 0 } in
    let less = one_less (next_version job object was.rows b)
    (made_at job object was.rows b first refl ∙ made_first job object was.rows b) in
    let few = no_more_to_copy was.rows first in
    omega (arith, less, few)
makes_lower job past s new marks prefix here held after calls next (PassesRow was object position row is other) answers at part_is =
    let b = bytes_there s.tree object (to_site object was.trail) in
    let same = ap length (made_at job object was.rows b (behind position)
    (stored_passed was.rows was.contents position row at.rows.contents at.rows.order is other at.numbers)) in
    let one = copy_next was.rows position.row is (passed_known at.rows.contents at.rows.order is other at.numbers) in
    let few = no_more_to_copy was.rows (behind position) in
    omega (arith, same, one, few)
makes_lower job past s new marks prefix here held after calls next (MakesFolder was object position row is stored more) answers at part_is =
    let b = bytes_there s.tree object (to_site object was.trail) in
    let it = is_here job past object position was row at is stored in
    let within = ltb-true position.directories (length row.path) more in
    let less = one_less
    (folder_next job object was.rows was.contents b position row it within) (folder_made job object was.rows was.contents b position row it within) in
    omega (arith, less)
makes_lower job past s new marks prefix here held after calls next (OpensCopy was object position row is stored all) answers at part_is =
    let b = bytes_there s.tree object (to_site object was.trail) in
    let it = is_here job past object position was row at is stored in
    let some = some_left (file_next job object was.rows was.contents b position row it (ltb-false position.directories (length row.path) all)) in
    let one = copied_next it in
    omega (arith, some, one)
makes_lower job past s new marks prefix here held after calls next (CopiesOn was object position left byte block fits) answers at part_is =
    let less = copy_lowers part_is (answers.0 s refl) in
    omega (arith, less)
makes_lower job past s new marks prefix here held after calls next (EndsCopy was object position row left is whole) answers at part_is =
    let b = bytes_there s.tree object (to_site object was.trail) in
    let it = copy_here job past object position left was row at is in
    let stand = copy_stands was position row is at.numbers in
    let later = behind_stored was.contents position row.path in
    let less = one_less
    (file_next job object was.rows was.contents b position row it stand)
    (made_at job object was.rows b later (stored_more was.rows was.contents position row it.are it.order it.is it.stored it.at)
    ∙ file_made job object was.rows was.contents b position row it stand) in
    let few = no_more_to_copy was.rows later in
    omega (arith, less, few)
makes_lower job past s new marks prefix here held after calls next (MakesVersionInventory was object) answers at part_is =
    let b = bytes_there s.tree object (to_site object was.trail) in
    let less = one_less (next_first job object was.rows b) (after_first job object was.rows b) in
    omega (arith, less)
makes_lower job past s new marks prefix here held after calls next (MakesVersionSidecar was object) answers at part_is =
    let b = bytes_there s.tree object (to_site object was.trail) in
    let less = one_less (next_second job object was.rows b) (after_second job object was.rows b) in
    omega (arith, less)
makes_lower job past s new marks prefix here held after calls next (MakesInventory was object) answers at part_is =
    let b = bytes_there s.tree object (to_site object was.trail) in
    let less = one_less (next_third job object was.rows b) (after_third job object was.rows b) in
    omega (arith, less)
makes_lower job past s _ marks _ _ _ _ _ _ (MakesSidecar was object) _ _ _ =
    let b = bytes_there s.tree object (to_site object was.trail) in
    after_sidecar job s.tree marks past.count object was (job.tuples.count == 0) (some_left (next_fourth job object was.rows b))

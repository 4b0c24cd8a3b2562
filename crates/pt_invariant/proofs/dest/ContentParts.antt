-- Where a run stands in the contents, what of them is made.
use Rattle.std.proofs.Common.{
  ◌≡◌,
  ◌<◌,
  ◌≤◌,
  ◌+◌,
  ℕ,
  zero,
  suc,
  Bool,
  true,
  false,
  List,
  [],
  ◌∷◌,
  ◌++◌,
  refl,
  ap,
  sym,
  ◌∙◌,
  arith,
  cond,
  drop,
  length,
  map,
  take,
}
use Rattle.std.specs.List.{list_all}
use Rattle.std.specs.Prelude.{Option, None, Some, codes, nat_lt, not, slice_get, ◌||◌}
use Rattle.std.proofs.lemmas.Bool.{and_parts, ltb-false, or_right}
use Rattle.std.proofs.lemmas.List.{length-map, map-append, take_all}
use Rattle.std.proofs.lemmas.List.Folds.{list_any-append}
use Rattle.pt_object.proofs.Ways.{leads}
use Rattle.pt_object.specs.Distinct.{content_of_row, distinct}
use Rattle.pt_object.specs.FilePaths.{File, row_paths}
use Rattle.pt_tree.specs.PathOrder.{part_in_order, parts_before}
use Rattle.pt_object.specs.Holding.{leads_to}
use Rattle.pt_object.specs.Object.{content_file, stored_files, version_folder}
use Rattle.pt_object.specs.Script.{Item, MakeFile, MakeFolder, files_items, folders_above, item_in}
use Rattle.pt_object.specs.Scripts.{object_items, staging}
use Rattle.pt_object.specs.Inventory.{inventory_text}
use Rattle.pt_object.specs.declared.table.contents.Content.{Content}
use Rattle.pt_object.specs.declared.rows.Row.{Row}
use Rattle.pt_tree.specs.Path.{Path, parent}
use Rattle.pt_plan.specs.Job.{Job}
use Rattle.pt_plan.specs.TurnMake.{behind_stored, content_at, staged_content, in_version, is_stored, common_names, standing, with_folder}
use Rattle.pt_plan.specs.declared.object.Object.{Object}
use Rattle.pt_plan.specs.declared.phase.Part.TheVariants as part
use Rattle.pt_plan.specs.declared.phase.Position.{Position}
use Rattle.pt_invariant.specs.PartsMade.{IsAtRow, contents_before, contents_of, content_paths, folders_before, is_above_one, made_before, script_of_object}
use Rattle.pt_invariant.specs.History.{with_bytes, with_bytes_of}
use Rattle.pt_invariant.proofs.held.DistinctRows.{get_map, get_map_none, order_distinct}
use Rattle.pt_invariant.proofs.source.InPairtree.{some_same}
use Rattle.pt_invariant.proofs.dest.ObjectParts.{after_content, at_inventory, next_content}
use Rattle.pt_invariant.proofs.dest.Ordering.{order_before}
use Rattle.pt_invariant.proofs.held.Positions.{its_content, shared_in_content, stored_at, within_shared}
use Rattle.pt_invariant.proofs.dest.ScriptParts.{
  IsNext,
  folder_at,
  folders_many,
  is_new_folder,
  next_file,
  next_folder,
  no_folders_before,
  with_next_file,
  with_next_folder,
}
use Rattle.pt_invariant.proofs.Tests.{all_then, split_at, take_map, take_one}
use Rattle.pt_invariant.proofs.held.WithBytes.{earlier_held, now_held}

-- ---- the files and their paths

-- a row's content
abbrev content : (Path → List ℕ) → Row → File
content bytes row = content_file (row.path, bytes row.path)

files_as : (bytes : Path → List ℕ) (rows : List Row) → map content_file (map (λ (row : Row). (row.path, bytes row.path)) rows) ≡ map (content bytes) rows
files_as bytes [] = refl
files_as bytes (row ∷ rows) = ap (λ l. content bytes row ∷ l) (files_as bytes rows)

pub content_is : (rows : List Row) (bytes : Path → List ℕ) (n : ℕ) {row : Row} → slice_get (distinct rows) n ≡ Some row
    → slice_get (contents_of rows bytes) n ≡ Some (stored_at row, bytes row.path)
content_is rows bytes n {row} is = ap (λ (l : List File). slice_get l n) (files_as bytes (distinct rows)) ∙ get_map (content bytes) (distinct rows) n row is

same_leads : (bytes : Path → List ℕ) (rows : List Row) (n : ℕ) (folder : Path)
    → leads_to (take n (map (content bytes) rows)) folder ≡ is_above_one (take n (map stored_at rows)) folder
same_leads bytes rows zero folder = refl
same_leads bytes [] (suc n) folder = refl
same_leads bytes (row ∷ rows) (suc n) folder = ap (λ b. leads folder (stored_at row) || b) (same_leads bytes rows n folder)

pub leads_as : (rows : List Row) (bytes : Path → List ℕ) (n : ℕ) (folder : Path)
    → leads_to (take n (contents_of rows bytes)) folder ≡ is_above_one (take n (content_paths rows)) folder
leads_as rows bytes n folder = ap (λ (l : List File). leads_to (take n l) folder) (files_as bytes (distinct rows)) ∙ same_leads bytes (distinct rows) n folder

-- of the next content the folders still to be made are new
pub new_folders : {rows : List Row} (bytes : Path → List ℕ) {position : Position} (row : Row) → slice_get (distinct rows) position.stored ≡ Some row
    → IsAtRow rows position
    → list_all (is_new_folder (take position.stored (contents_of rows bytes))) (drop position.directories (folders_above (stored_at row))) ≡ true
new_folders {rows} bytes {position} row is at =
    let here = rw (get_map stored_at (distinct rows) position.stored row is) at at.new in
    all_then (λ folder. not (is_above_one (take position.stored (content_paths rows)) folder)) (is_new_folder (take position.stored (contents_of rows bytes)))
    (λ folder h. ap not (leads_as rows bytes position.stored folder) ∙ h) (drop position.directories (folders_above (stored_at row))) here

-- ---- the next item at a position

-- what is said of the row at a position that is the next content
pub record IsHere (rows : List Row) (contents : List Content) (position : Position) (row : Row) : Type 0 where
  pub are : contents ≡ map content_of_row (distinct rows)
  pub order : part_in_order (row_paths rows) ≡ true
  pub is : slice_get rows position.row ≡ Some row
  pub stored : is_stored contents position.stored row.path ≡ true
  pub at : IsAtRow rows position

distinct_here : {rows : List Row} {contents : List Content} {position : Position} {row : Row} → IsHere rows contents position row
    → slice_get (distinct rows) position.stored ≡ Some row
distinct_here {row} it = its_content _ it.are it.order it.is it.stored it.at

module _ (job : Job) (object : Object) (rows : List Row) (contents : List Content) (bytes : Path → List ℕ) (position : Position) (row : Row) where
  pub folder_next : IsHere rows contents position row → position.directories < length row.path
      → IsNext (script_of_object job object rows bytes) (made_before job object rows bytes (part.Content position))
      (MakeFolder (staged_content (take position.directories row.path)))
  folder_next it more =
      let one = distinct_here it in
      next_content job object rows bytes position (MakeFolder (codes "content" ∷ take position.directories row.path))
      (next_folder _ position _ _ (content_is rows bytes position.stored one)
      (folder_at row.path position.directories more) (new_folders bytes row one it.at))

  pub folder_made : IsHere rows contents position row → position.directories < length row.path
      → made_before job object rows bytes (part.Content (with_folder position)) ≡ made_before job object rows bytes (part.Content position)
      ++ MakeFolder (staged_content (take position.directories row.path)) ∷ []
  folder_made it more =
      let one = distinct_here it in
      after_content job object rows bytes position (with_folder position) (MakeFolder (codes "content" ∷ take position.directories row.path))
      (with_next_folder _ position _ _ (content_is rows bytes position.stored one)
      (folder_at row.path position.directories more) (new_folders bytes row one it.at))

all_stand : (row : Row) (directories : ℕ) → length row.path ≤ directories → length (folders_above (stored_at row)) ≤ directories
all_stand row directories stand = let many = folders_many (codes "content") row.path in omega (arith, many, stand)

pub file_next : (job : Job) (object : Object) (rows : List Row) (contents : List Content) (bytes : Path → List ℕ) (position : Position) (row : Row)
    → IsHere rows contents position row → length row.path ≤ position.directories
    → IsNext (script_of_object job object rows bytes) (made_before job object rows bytes (part.Content position))
    (MakeFile (staged_content row.path) (bytes row.path))
file_next job object rows contents bytes position row it stand =
    next_content job object rows bytes position (MakeFile (stored_at row) (bytes row.path))
    (next_file _ position _ (content_is rows bytes position.stored (distinct_here it)) (all_stand row position.directories stand))

-- ---- the file is made

-- of the next one the folders that stand are made already
standing_made : (rows : List Row) (bytes : Path → List ℕ) (stored : ℕ) (row : Row) → slice_get (distinct rows) stored ≡ Some row
    → part_in_order (row_paths rows) ≡ true → (next : Option Row) → slice_get (distinct rows) (suc stored) ≡ next
    → folders_before (take (suc stored) (contents_of rows bytes)) (standing row.path (slice_get (map content_of_row (distinct rows)) (suc stored)))
    (slice_get (contents_of rows bytes) (suc stored)) ≡ []
standing_made rows bytes stored row is order None end =
    ap (folders_before (take (suc stored) (contents_of rows bytes)) (standing row.path (slice_get (map content_of_row (distinct rows)) (suc stored))))
    (ap (λ (l : List File). slice_get l (suc stored)) (files_as bytes (distinct rows)) ∙ get_map_none (content bytes) (distinct rows) (suc stored) end)
standing_made rows bytes stored row is order (Some next) there =
    let files = contents_of rows bytes in
    let k = suc (common_names (parent row.path) (parent next.path)) in
    let parts = parted _ stored row next is there (order_distinct [] rows order) in
    let number : standing row.path (slice_get (map content_of_row (distinct rows)) (suc stored))
    ≡ k = ap (standing row.path) (get_map content_of_row (distinct rows) (suc stored) next there) in
    let within : list_all (λ folder. leads folder (stored_at row)) (take k (folders_above (stored_at next))) ≡ true =
    ap (λ n. list_all (λ folder. leads folder (stored_at row)) (take n (folders_above (stored_at next)))) (sym (shared_in_content row.path next.path parts))
    ∙ within_shared (stored_at row) (stored_at next) in
    let all : list_all (λ folder. leads_to (take (suc stored) files) folder) (take k (folders_above (stored_at next))) ≡ true =
    all_then (λ folder. leads folder (stored_at row)) (λ folder. leads_to (take (suc stored) files) folder)
    (λ folder h. last_leads files stored (stored_at row, bytes row.path) folder (content_is rows bytes stored is) h)
    (take k (folders_above (stored_at next))) within in
    ap (λ n. folders_before (take (suc stored) files) n (slice_get files (suc stored))) number
    ∙ ap (folders_before (take (suc stored) files) k) (content_is rows bytes (suc stored) there)
    ∙ no_folders_before _ k _ (λ file same. ap (λ (f : File). list_all (λ folder. leads_to (take (suc stored) files) folder) (take k (folders_above f.0)))
    (sym (some_same (stored_at next, bytes next.path) file same)) ∙ all)
  where
    last_leads : (files : List File) (n : ℕ) (file : File) (folder : Path) → slice_get files n ≡ Some file → leads folder file.0 ≡ true
        → leads_to (take (suc n) files) folder ≡ true
    last_leads files n file folder is on =
        ap (λ (l : List File). leads_to l folder) (take_one n files file is) ∙ list_any-append (λ (f : File). leads folder f.0) (take n files) (file ∷ [])
        ∙ or_right _ _ (ap (λ b. b || false) on)

    parted : (l : List Row) (n : ℕ) (a b : Row) → slice_get l n ≡ Some a → slice_get l (suc n) ≡ Some b → part_in_order (row_paths l) ≡ true
        → parts_before a.path b.path ≡ true
    parted [] n a b one two order = absurd (cc)
    parted (x ∷ []) zero a b one two order = absurd (cc)
    parted (x ∷ y ∷ l) zero a b one two order =
        let first : x ≡ a = some_same x a one in
        let second : y ≡ b = some_same y b two in
        ap (λ (r : Row). parts_before r.path b.path) (sym first) ∙ ap (λ (r : Row). parts_before x.path r.path) (sym second)
        ∙ (and_parts _ _ (and_parts _ _ order).0).0
    parted (x ∷ l) (suc n) a b one two order = parted l n a b one two (and_parts _ _ order).1

pub file_made : (job : Job) (object : Object) (rows : List Row) (contents : List Content) (bytes : Path → List ℕ) (position : Position) (row : Row)
    → IsHere rows contents position row → length row.path ≤ position.directories
    → made_before job object rows bytes (part.Content (behind_stored contents position row.path)) ≡ made_before job object rows bytes (part.Content position)
    ++ MakeFile (staged_content row.path) (bytes row.path) ∷ []
file_made job object rows contents bytes position row it stand =
    let one = distinct_here it in
    let next = behind_stored contents position row.path in
    let add : position.stored + 1 ≡ suc position.stored = omega arith in
    let none : folders_before (take (suc position.stored) (contents_of rows bytes)) next.directories (slice_get (contents_of rows bytes) (suc position.stored))
    ≡ [] =
    ap (λ (l : List Content). folders_before (take (suc position.stored) (contents_of rows bytes)) (standing row.path (slice_get l (position.stored + 1)))
    (slice_get (contents_of rows bytes) (suc position.stored))) it.are
    ∙ ap (λ n. folders_before (take (suc position.stored) (contents_of rows bytes)) (standing row.path (slice_get (map content_of_row (distinct rows)) n))
    (slice_get (contents_of rows bytes) (suc position.stored))) add
    ∙ standing_made rows bytes position.stored row one it.order _ refl in
    after_content job object rows bytes position next _
    (with_next_file _ position _ next.row next.directories (content_is rows bytes position.stored one) (all_stand row position.directories stand) none)

-- ---- with other bytes of that file

same_contents : (bytes : Path → List ℕ) (path : Path) (read : List ℕ) (some : List Row)
    → list_all (λ earlier. parts_before earlier path) (row_paths some) ≡ true → map (content bytes) some ≡ map (content (with_bytes path read bytes)) some
same_contents bytes path read [] before = refl
same_contents bytes path read (row ∷ some) before =
    let parts = and_parts _ _ before in
    λ i. content_file (row.path, earlier_held path read bytes row.path parts.0 i) ∷ same_contents bytes path read some parts.1 i

fronts_same : (rows : List Row) (bytes : Path → List ℕ) (read : List ℕ) (n : ℕ) (row : Row) → part_in_order (row_paths rows) ≡ true
    → slice_get (distinct rows) n ≡ Some row → take n (contents_of rows bytes) ≡ take n (contents_of rows (with_bytes row.path read bytes))
fronts_same rows bytes read n row order is =
    let some = distinct rows in
    let before = order_before _ row.path _
    (sym (ap part_in_order (ap row_paths (split_at n some row is) ∙ map-append (λ (r : Row). r.path) (take n some) (row ∷ drop (suc n) some)))
    ∙ order_distinct [] rows order) in
    ap (take n) (files_as bytes some) ∙ take_map (content bytes) n some ∙ same_contents bytes row.path read (take n some) before
    ∙ sym (take_map (content (with_bytes row.path read bytes)) n some) ∙ ap (take n) (sym (files_as _ some))

module _ (job : Job) (object : Object) (rows : List Row) where
  -- what is made before it doesn't tell its bytes
  made_same : {contents : List Content} (bytes : Path → List ℕ) (read : List ℕ) (position : Position) (row : Row) → IsHere rows contents position row
      → made_before job object rows bytes (part.Content position) ≡ made_before job object rows (with_bytes row.path read bytes) (part.Content position)
  made_same bytes read position row it =
      let one = distinct_here it in
      let later = with_bytes row.path read bytes in
      let fronts = fronts_same rows bytes read position.stored row it.order one in
      let same : contents_before (contents_of rows bytes) position ≡ contents_before (contents_of rows later) position =
      ap (λ (o : Option File). files_items [] (take position.stored (contents_of rows bytes)) ++ folders_before (take position.stored (contents_of rows bytes))
      position.directories o) (content_is rows bytes position.stored one)
      ∙ ap (λ (l : List File). files_items [] l ++ folders_before l position.directories (Some (stored_at row, later row.path))) fronts
      ∙ ap (λ (o : Option File). files_items [] (take position.stored (contents_of rows later))
      ++ folders_before (take position.stored (contents_of rows later)) position.directories o) (sym (content_is rows later position.stored one)) in
      ap (λ (l : List Item). map (item_in staging) (take 3 (object_items job.algorithm (inventory_text object.id rows job.meta job.algorithm)
      (stored_files rows bytes)) ++ map (item_in version_folder) l)) same

  -- so with what was read of it the file that was copied is the item
  pub copy_made : (contents : List Content) (bytes : Path → List ℕ) (read : List ℕ) (position : Position) (row : Row) → IsHere rows contents position row
      → length row.path ≤ position.directories
      → made_before job object rows bytes (part.Content position) ++ MakeFile (staged_content row.path) read ∷ []
      ≡ made_before job object rows (with_bytes_of (slice_get rows position.row) read bytes) (part.Content (behind_stored contents position row.path))
  copy_made contents bytes read position row it stand =
      let later = with_bytes row.path read bytes in
      ap (λ l. l ++ MakeFile (staged_content row.path) read ∷ []) (made_same bytes read position row it)
      ∙ ap (λ b. made_before job object rows later (part.Content position) ++ MakeFile (staged_content row.path) b ∷ []) (now_held row.path bytes)
      ∙ sym (file_made job object rows contents later position row it stand)
      ∙ ap (λ (o : Option Row). made_before job object rows (with_bytes_of o read bytes) (part.Content (behind_stored contents position row.path))) (sym it.is)

  -- ---- the part at a position

  pub made_at : (bytes : Path → List ℕ) (position : Position) → position.stored ≡ length (distinct (take position.row rows))
      → made_before job object rows bytes (content_at rows position) ≡ made_before job object rows bytes (part.Content position)
  made_at bytes position stored = by (nat_lt position.row (length rows)) refl
    where
      by : (more : Bool) → nat_lt position.row (length rows) ≡ more → made_before job object rows bytes
          (cond more (part.Content position) part.VersionInventory) ≡ made_before job object rows bytes (part.Content position)
      by true is = refl
      by false is =
          let past = ltb-false position.row (length rows) is in
          let many : length (contents_of rows bytes) ≡ length (distinct rows) = ap length (files_as bytes (distinct rows))
          ∙ length-map (distinct rows) (content bytes) in
          at_inventory job object rows bytes position (stored ∙ ap (λ (l : List Row). length (distinct l)) (take_all position.row rows past) ∙ sym many)

  -- before any
  pub made_first : (bytes : Path → List ℕ) → made_before job object rows bytes (part.Content (record { row = 0; stored = 0; directories = 0 }))
      ≡ made_before job object rows bytes part.Version ++ MakeFolder (in_version []) ∷ []
  made_first bytes = by (slice_get (contents_of rows bytes) 0)
    where
      by : (o : Option File) → map (item_in staging) (take 3 (object_items job.algorithm (inventory_text object.id rows job.meta job.algorithm)
          (stored_files rows bytes)) ++ map (item_in version_folder) (folders_before [] 0 o)) ≡ made_before job object rows bytes part.Version
          ++ MakeFolder (in_version []) ∷ []
      by None = refl
      by (Some file) = refl

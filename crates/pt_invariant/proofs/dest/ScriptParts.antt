-- The items of a script, one after another, and the contents of an object among them.
use Rattle.std.proofs.Common.{
  ◌≡◌,
  ◌<◌,
  ◌≤◌,
  ◌+◌,
  ℕ,
  zero,
  suc,
  Bool,
  true,
  false,
  List,
  [],
  ◌∷◌,
  ◌++◌,
  refl,
  ap,
  sym,
  ◌∙◌,
  append-nil,
  append_assoc,
  arith,
  cond,
  drop,
  length,
  map,
  take,
}
use Rattle.std.specs.List.{list_all}
use Rattle.std.specs.Prelude.{Option, None, Some, filter, not, slice_get, ◌&&◌}
use Rattle.std.proofs.lemmas.Bool.{and_parts, true≢false}
use Rattle.std.proofs.lemmas.List.{length-map, map-append, take-append-drop, take_all}
use Rattle.std.proofs.lemmas.Option.{slice_get_past}
use Rattle.pt_object.specs.FilePaths.{File}
use Rattle.pt_object.specs.Holding.{leads_to}
use Rattle.pt_object.specs.Script.{CanBeMadeInTurn, Item, MakeFile, MakeFolder, file_items, files_items, folders_above, item_in, item_path, made}
use Rattle.pt_tree.specs.Path.{Path}
use Rattle.pt_tree.specs.Tree.{CanMake, Tree}
use Rattle.pt_plan.specs.declared.phase.Position.{Position}
use Rattle.pt_invariant.specs.PartsMade.{contents_before, folders_before}
use Rattle.pt_invariant.proofs.held.DistinctRows.{get_behind}
use Rattle.pt_invariant.proofs.Tests.{first_passes, split_at, take_one}

-- ---- the next item

-- behind these items of a script this one comes
pub record IsNext (script front : List Item) (item : Item) : Type 0 where
  pub rest : List Item
  pub is : script ≡ front ++ item ∷ rest

pub taken_front : {X : Type 0} → (front others : List X) → take (length front) (front ++ others) ≡ front
taken_front [] others = refl
taken_front (x ∷ front) others = ap (λ l. x ∷ l) (taken_front front others)

-- so it may be made after them
pub next_may : {script : List Item} (front : List Item) (item : Item) (t : Tree) → CanBeMadeInTurn script t → IsNext script front item
    → CanMake (made front t) (item_path item)
next_may front item t can next =
    rw (ap (take (length front)) next.is ∙ taken_front front (item ∷ next.rest)) at
    (can (length front) item (ap (λ (l : List Item). slice_get l (length front)) next.is ∙ get_behind front (item ∷ next.rest)))

-- below a folder
pub next_in : (folder : Path) (script front : List Item) (item : Item) → IsNext script front item
    → IsNext (map (item_in folder) script) (map (item_in folder) front) (item_in folder item)
next_in folder script front item next = record {
  rest = map (item_in folder) next.rest;
  is = ap (map (item_in folder)) next.is
      ∙ map-append (item_in folder) front (item ∷ next.rest);
}

-- between items before and behind
pub next_within : (before : List Item) {script : List Item} (front behind : List Item) (item : Item) → IsNext script front item
    → IsNext (before ++ (script ++ behind)) (before ++ front) item
next_within before front behind item next = record {
  rest = next.rest ++ behind;
  is = ap (λ l. before ++ (l ++ behind)) next.is ∙ ap (λ l. before ++ l) (append_assoc front (item ∷ next.rest) behind)
      ∙ sym (append_assoc before front (item ∷ (next.rest ++ behind)));
}

-- ---- folders

filter_in_turn : {X : Type 0} → (test : X → Bool) (first later : List X) → filter test (first ++ later) ≡ filter test first ++ filter test later
filter_in_turn test [] later = refl
filter_in_turn test (x ∷ first) later = by (test x) (filter_in_turn test first later)
  where
    by : (t : Bool) → filter test (first ++ later) ≡ filter test first ++ filter test later
        → cond t (x ∷ filter test (first ++ later)) (filter test (first ++ later)) ≡ cond t (x ∷ filter test first) (filter test first) ++ filter test later
    by true later_is = ap (λ l. x ∷ l) later_is
    by false later_is = later_is

one_kept : {X : Type 0} → (test : X → Bool) (x : X) (others : List X) → test x ≡ true → filter test (x ∷ others) ≡ x ∷ filter test others
one_kept test x others passes = ap (λ t. cond t (x ∷ filter test others) (filter test others)) passes

none_kept : {X : Type 0} → (test : X → Bool) (xs : List X) → list_all (λ x. not (test x)) xs ≡ true → filter test xs ≡ []
none_kept test [] h = refl
none_kept test (x ∷ xs) h =
    let parts = and_parts _ _ h in
    ap (λ t. cond t (x ∷ filter test xs) (filter test xs)) (off (test x) parts.0) ∙ none_kept test xs parts.1
  where
    off : (t : Bool) → not t ≡ true → t ≡ false
    off true h = absurd (true≢false (sym h))
    off false h = refl

-- the folders above a path below a name
pub folder_at : {name : List ℕ} (path : Path) (d : ℕ) → d < length path → slice_get (folders_above (name ∷ path)) d ≡ Some (name ∷ take d path)
folder_at [] d less = absurd (omega (arith, less))
folder_at (next ∷ path) zero less = refl
folder_at {name} (next ∷ path) (suc d) less = get_under name (folders_above (next ∷ path)) d (next ∷ take d path) (folder_at path d (omega (arith, less)))
  where
    get_under : (name : List ℕ) (folders : List Path) (d : ℕ) (folder : Path) → slice_get folders d ≡ Some folder
        → slice_get (map (λ folder. name ∷ folder) folders) d ≡ Some (name ∷ folder)
    get_under name [] d folder is = absurd (cc)
    get_under name (f ∷ folders) zero folder is = ap (λ (p : Path). Some (name ∷ p)) (let same : f ≡ folder = cc in same)
    get_under name (f ∷ folders) (suc d) folder is = get_under name folders d folder is

pub folders_many : (name : List ℕ) (path : Path) → length (folders_above (name ∷ path)) ≡ length path
folders_many name [] = refl
folders_many name (next ∷ path) =
    let same = length-map (folders_above (next ∷ path)) (λ (folder : Path). name ∷ folder) in
    let later = folders_many next path in
    omega (arith, same, later)

-- ---- contents

-- the items of some files, then those of a file, then those of others
pub files_in_turn : (earlier first : List File) (file : File) (later : List File)
    → files_items earlier (first ++ file ∷ later) ≡ files_items earlier first
    ++ (file_items (earlier ++ first) file ++ files_items ((earlier ++ first) ++ file ∷ []) later)
files_in_turn earlier [] file later = ap (λ (l : List File). file_items l file ++ files_items (l ++ file ∷ []) later) (sym (append-nil earlier))
files_in_turn earlier (f ∷ first) file later =
    ap (λ l. file_items earlier f ++ l) (files_in_turn (earlier ++ f ∷ []) first file later)
    ∙ sym (append_assoc (file_items earlier f) (files_items (earlier ++ f ∷ []) first) (file_items ((earlier ++ f ∷ []) ++ first) file
    ++ files_items (((earlier ++ f ∷ []) ++ first) ++ file ∷ []) later))
    ∙ ap (λ (l : List File). (file_items earlier f ++ files_items (earlier ++ f ∷ []) first) ++ (file_items l file ++ files_items (l ++ file ∷ []) later))
    (append_assoc earlier (f ∷ []) first)

-- those of the files, seen from one
around : (files : List File) (n : ℕ) {file : File} → slice_get files n ≡ Some file
    → files_items [] files ≡ files_items [] (take n files) ++ (file_items (take n files) file ++ files_items (take n files ++ file ∷ []) (drop (suc n) files))
around files n {file} is = ap (files_items []) (split_at n files file is) ∙ files_in_turn [] (take n files) file (drop (suc n) files)

-- a folder is new where it leads to no earlier file
abbrev pub is_new_folder : List File → Path → Bool
is_new_folder earlier folder = not (leads_to earlier folder)

-- the next folder
pub next_folder : (files : List File) (position : Position) (file : File) (folder : Path) → slice_get files position.stored ≡ Some file
    → slice_get (folders_above file.0) position.directories ≡ Some folder
    → list_all (is_new_folder (take position.stored files)) (drop position.directories (folders_above file.0)) ≡ true
    → IsNext (files_items [] files) (contents_before files position) (MakeFolder folder)
next_folder files position file folder is at new =
    let earlier = take position.stored files in
    let d = position.directories in
    let test = is_new_folder earlier in
    let folders = folders_above file.0 in
    let kept : filter test folders ≡ filter test (take d folders) ++ folder ∷ filter test (drop (suc d) folders) =
    ap (filter test) (split_at d folders folder at) ∙ filter_in_turn test (take d folders) (folder ∷ drop (suc d) folders)
    ∙ ap (λ l. filter test (take d folders) ++ l) (one_kept test folder (drop (suc d) folders) (first_passes test d folders folder at new)) in
    let rest = map MakeFolder (filter test (drop (suc d) folders)) ++ MakeFile file.0 file.1 ∷ [] in
    let others = files_items (earlier ++ file ∷ []) (drop (suc position.stored) files) in
    let items : file_items earlier file ≡ map MakeFolder (filter test (take d folders)) ++ MakeFolder folder ∷ rest =
    ap (λ l. map MakeFolder l ++ MakeFile file.0 file.1 ∷ []) kept
    ∙ ap (λ l. l ++ MakeFile file.0 file.1 ∷ []) (map-append MakeFolder (filter test (take d folders)) (folder ∷ filter test (drop (suc d) folders)))
    ∙ append_assoc (map MakeFolder (filter test (take d folders))) (MakeFolder folder ∷ map MakeFolder (filter test (drop (suc d) folders)))
    (MakeFile file.0 file.1 ∷ []) in
    let before : contents_before files position ≡ files_items [] earlier ++ map MakeFolder (filter test (take d folders)) = ap
    (λ o. files_items [] earlier ++ folders_before earlier d o) is in
    record {
      rest = rest ++ others;
      is = around files position.stored is
          ∙ ap (λ l. files_items [] earlier ++ (l ++ others)) items
          ∙ ap (λ l. files_items [] earlier ++ l) (append_assoc (map MakeFolder (filter test (take d folders))) (MakeFolder folder ∷ rest) others)
          ∙ sym (append_assoc (files_items [] earlier) (map MakeFolder (filter test (take d folders))) (MakeFolder folder ∷ (rest ++ others)))
          ∙ ap (λ l. l ++ MakeFolder folder ∷ (rest ++ others)) (sym before);
    }

-- with it
pub with_next_folder : (files : List File) (position : Position) (file : File) (folder : Path) → slice_get files position.stored ≡ Some file
    → slice_get (folders_above file.0) position.directories ≡ Some folder
    → list_all (is_new_folder (take position.stored files)) (drop position.directories (folders_above file.0)) ≡ true
    → contents_before files (record { row = position.row; stored = position.stored; directories = position.directories + 1 })
    ≡ contents_before files position ++ MakeFolder folder ∷ []
with_next_folder files position file folder is at new =
    let earlier = take position.stored files in
    let d = position.directories in
    let test = is_new_folder earlier in
    let folders = folders_above file.0 in
    let more : d + 1 ≡ suc d = omega arith in
    let kept : filter test (take (d + 1) folders) ≡ filter test (take d folders) ++ folder ∷ [] =
    ap (λ n. filter test (take n folders)) more ∙ ap (filter test) (take_one d folders folder at) ∙ filter_in_turn test (take d folders) (folder ∷ [])
    ∙ ap (λ l. filter test (take d folders) ++ l) (one_kept test folder [] (first_passes test d folders folder at new)) in
    ap (λ o. files_items [] earlier ++ folders_before earlier (d + 1) o) is
    ∙ ap (λ l. files_items [] earlier ++ map MakeFolder l) kept
    ∙ ap (λ l. files_items [] earlier ++ l) (map-append MakeFolder (filter test (take d folders)) (folder ∷ []))
    ∙ sym (append_assoc (files_items [] earlier) (map MakeFolder (filter test (take d folders))) (MakeFolder folder ∷ []))
    ∙ ap (λ l. l ++ MakeFolder folder ∷ []) (sym (ap (λ o. files_items [] earlier ++ folders_before earlier d o) is))

-- once all its folders stand the file is next
pub next_file : (files : List File) (position : Position) (file : File) → slice_get files position.stored ≡ Some file
    → length (folders_above file.0) ≤ position.directories → IsNext (files_items [] files) (contents_before files position) (MakeFile file.0 file.1)
next_file files position file is all =
    let earlier = take position.stored files in
    let test = is_new_folder earlier in
    let folders = folders_above file.0 in
    let others = files_items (earlier ++ file ∷ []) (drop (suc position.stored) files) in
    let before : contents_before files position ≡ files_items [] earlier ++ map MakeFolder (filter test folders) =
    ap (λ o. files_items [] earlier ++ folders_before earlier position.directories o) is
    ∙ ap (λ l. files_items [] earlier ++ map MakeFolder (filter test l)) (take_all position.directories folders all) in
    record {
      rest = others;
      is = around files position.stored is
          ∙ ap (λ l. files_items [] earlier ++ l) (append_assoc (map MakeFolder (filter test folders)) (MakeFile file.0 file.1 ∷ []) others)
          ∙ sym (append_assoc (files_items [] earlier) (map MakeFolder (filter test folders)) (MakeFile file.0 file.1 ∷ others))
          ∙ ap (λ l. l ++ MakeFile file.0 file.1 ∷ others) (sym before);
    }

-- with it, where of the next one no folder so far is new
pub with_next_file : (files : List File) (position : Position) (file : File) (row directories : ℕ) → slice_get files position.stored ≡ Some file
    → length (folders_above file.0) ≤ position.directories
    → folders_before (take (suc position.stored) files) directories (slice_get files (suc position.stored)) ≡ []
    → contents_before files (record { row = row; stored = position.stored + 1; directories = directories })
    ≡ contents_before files position ++ MakeFile file.0 file.1 ∷ []
with_next_file files position file row directories is all none =
    let earlier = take position.stored files in
    let test = is_new_folder earlier in
    let folders = folders_above file.0 in
    let more : position.stored + 1 ≡ suc position.stored = omega arith in
    let before : contents_before files position ≡ files_items [] earlier ++ map MakeFolder (filter test folders) =
    ap (λ o. files_items [] earlier ++ folders_before earlier position.directories o) is
    ∙ ap (λ l. files_items [] earlier ++ map MakeFolder (filter test l)) (take_all position.directories folders all) in
    ap (λ n. files_items [] (take n files) ++ folders_before (take n files) directories (slice_get files n)) more
    ∙ ap (λ l. files_items [] (take (suc position.stored) files) ++ l) none
    ∙ append-nil (files_items [] (take (suc position.stored) files))
    ∙ ap (files_items []) (take_one position.stored files file is)
    ∙ files_in_turn [] earlier file []
    ∙ ap (λ l. files_items [] earlier ++ l) (append-nil (file_items earlier file))
    ∙ sym (append_assoc (files_items [] earlier) (map MakeFolder (filter test folders)) (MakeFile file.0 file.1 ∷ []))
    ∙ ap (λ l. l ++ MakeFile file.0 file.1 ∷ []) (sym before)

-- no folder that leads to an earlier file is made
pub no_folders_before : (earlier : List File) (number : ℕ) (next : Option File)
    → ((file : File) → next ≡ Some file → list_all (λ folder. leads_to earlier folder) (take number (folders_above file.0)) ≡ true)
    → folders_before earlier number next ≡ []
no_folders_before earlier number None all = refl
no_folders_before earlier number (Some file) all = ap (map MakeFolder)
    (none_kept (is_new_folder earlier) (take number (folders_above file.0)) (twice (take number (folders_above file.0)) (all file refl)))
  where
    twice : (folders : List Path) → list_all (λ folder. leads_to earlier folder) folders ≡ true
        → list_all (λ folder. not (is_new_folder earlier folder)) folders ≡ true
    twice [] h = refl
    twice (folder ∷ folders) h = by (leads_to earlier folder) (twice folders) h
      where
        by : (t : Bool) → (list_all (λ folder. leads_to earlier folder) folders ≡ true → list_all (λ folder. not (is_new_folder earlier folder)) folders ≡ true)
            → (t && list_all (λ folder. leads_to earlier folder) folders) ≡ true
            → (not (not t) && list_all (λ folder. not (is_new_folder earlier folder)) folders) ≡ true
        by true later h = later h
        by false later h = absurd (true≢false (sym h))

-- with all files all contents are made
pub all_contents : (files : List File) (position : Position) → position.stored ≡ length files → contents_before files position ≡ files_items [] files
all_contents files position all =
    let enough : length files ≤ position.stored = omega (arith, all) in
    ap (λ l. files_items [] l ++ folders_before l position.directories (slice_get files position.stored)) (take_all position.stored files enough)
    ∙ ap (λ o. files_items [] files ++ folders_before files position.directories o) (slice_get_past files position.stored enough)
    ∙ append-nil (files_items [] files)

-- ---- what is made so far is a front of the script

pub record IsFront (script front : List Item) : Type 0 where
  pub rest : List Item
  pub is : script ≡ front ++ rest

-- of the contents at any position
pub contents_front : (files : List File) (position : Position) → IsFront (files_items [] files) (contents_before files position)
contents_front files position = by (slice_get files position.stored) refl
  where
    by : (o : Option File) → slice_get files position.stored ≡ o → IsFront (files_items [] files) (contents_before files position)
    by None is = record {
      rest = [];
      is = sym (ap (λ o. files_items [] (take position.stored files) ++ folders_before (take position.stored files) position.directories o) is
          ∙ append-nil (files_items [] (take position.stored files))
          ∙ ap (files_items []) (take_all position.stored files (none_there files position.stored is)))
          ∙ sym (append-nil (contents_before files position));
    }
      where
        none_there : {X : Type 0} → (xs : List X) (n : ℕ) → slice_get xs n ≡ None → length xs ≤ n
        none_there [] n none = omega arith
        none_there (x ∷ xs) zero none = absurd (cc)
        none_there (x ∷ xs) (suc n) none = let later = none_there xs n none in omega (arith, later)
    by (Some file) is =
        let earlier = take position.stored files in
        let d = position.directories in
        let test = is_new_folder earlier in
        let folders = folders_above file.0 in
        let others = files_items (earlier ++ file ∷ []) (drop (suc position.stored) files) in
        let kept : filter test folders ≡ filter test (take d folders) ++ filter test (drop d folders) = ap (filter test) (sym (take-append-drop d folders))
        ∙ filter_in_turn test (take d folders) (drop d folders) in
        let rest = map MakeFolder (filter test (drop d folders)) ++ MakeFile file.0 file.1 ∷ [] in
        let items : file_items earlier file ≡ map MakeFolder (filter test (take d folders)) ++ rest =
        ap (λ l. map MakeFolder l ++ MakeFile file.0 file.1 ∷ []) kept
        ∙ ap (λ l. l ++ MakeFile file.0 file.1 ∷ []) (map-append MakeFolder (filter test (take d folders)) (filter test (drop d folders)))
        ∙ append_assoc (map MakeFolder (filter test (take d folders))) (map MakeFolder (filter test (drop d folders))) (MakeFile file.0 file.1 ∷ []) in
        record {
          rest = rest ++ others;
          is = around files position.stored is
              ∙ ap (λ l. files_items [] earlier ++ (l ++ others)) items
              ∙ ap (λ l. files_items [] earlier ++ l) (append_assoc (map MakeFolder (filter test (take d folders))) rest others)
              ∙ sym (append_assoc (files_items [] earlier) (map MakeFolder (filter test (take d folders))) (rest ++ others))
              ∙ ap (λ l. l ++ (rest ++ others)) (sym (ap (λ o. files_items [] earlier ++ folders_before earlier d o) is));
        }

-- below a folder, and between items before and behind
pub front_in : (folder : Path) {script front : List Item} → IsFront script front → IsFront (map (item_in folder) script) (map (item_in folder) front)
front_in folder {front} it = record { rest = map (item_in folder) it.rest; is = ap (map (item_in folder)) it.is ∙ map-append (item_in folder) front it.rest }

pub front_within : (before : List Item) {script : List Item} (front behind : List Item) → IsFront script front
    → IsFront (before ++ (script ++ behind)) (before ++ front)
front_within before front behind it = record {
  rest = it.rest ++ behind;
  is = ap (λ l. before ++ (l ++ behind)) it.is ∙ ap (λ l. before ++ l) (append_assoc front it.rest behind)
      ∙ sym (append_assoc before front (it.rest ++ behind));
}

-- what has a next item is one
pub front_next : {script front : List Item} {item : Item} → IsNext script front item → IsFront script front
front_next {item} it = record { rest = item ∷ it.rest; is = it.is }

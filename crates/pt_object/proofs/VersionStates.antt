-- The state of an object's version is the files of which the object was made.
use Rattle.std.proofs.Common.{◌≡◌, ℕ, List, [], ◌∷◌, ◌++◌, Bool, true, false, refl, sym, ◌∙◌, ap}
use Rattle.std.specs.Prelude.{All, cond, ◌&&◌, ◌||◌, codes, filter, map, Some}
use Rattle.std.specs.List.{list_all, list_any}
use Rattle.std.specs.Option.{option_and_then, option_map, unwrap_or}
use Rattle.std.specs.Str.{bytes_eq}
use Rattle.std.proofs.lemmas.Bool.{true≢false, false≢true, and_parts}
use Rattle.std.proofs.lemmas.List.Elements.{All-head, All-tail, All-weaker, filter_agree}
use Rattle.hex.specs.Hex.{encode_lower}
use Rattle.serde_json.specs.Data.{Data, Members, no_members, member}
use Rattle.serde_json.specs.Read.{read}
use Rattle.pt_tree.specs.Path.{Path, joined, same_path}
use Rattle.pt_tree.specs.Tree.{Tree, bytes_of}
use Rattle.pt_object.specs.Algorithm.{digest_of}
use Rattle.pt_object.specs.Distinct.{content_of_row, distinct, row_has_digest}
use Rattle.pt_object.specs.FilePaths.{File, paths_of}
use Rattle.pt_tree.specs.PathOrder.{is_logical, part_in_order}
use Rattle.pt_object.specs.Holding.{held_at, leads_to, file_or_folder}
use Rattle.pt_object.specs.Inventory.{inventory_text, inventory_tree, manifest_members, paths_with, state_members, texts}
use Rattle.pt_object.specs.MetaParts.{MetaParts}
use Rattle.pt_object.specs.Object.{bytes_in, content_file, file_in, inventory_name, object_files, object_of, row_of_file, rows_of, stored_files, version_folder}
use Rattle.pt_object.specs.VersionLaws.{DigestsTellApart, StateIsTheFiles}
use Rattle.pt_object.specs.VersionState.{as_texts, content_at, files_of_state, files_under, first_of, in_order, names_in, state_by, texts_of, v1_state}
use Rattle.pt_object.specs.declared.algorithm.Algorithm.{Algorithm}
use Rattle.pt_object.specs.declared.rows.Row.{Row}
use Rattle.pt_object.proofs.DigestKeys.{same_keys}
use Rattle.pt_object.proofs.Groups.{AreFound, AreGroups, IsGroup, all_found, groups_after, has_key, has_key-member, keys_after, no_key, row_of_found}
use Rattle.pt_object.proofs.InOrder.{in_order-append, inserted_all, two_groups}
use Rattle.pt_object.proofs.InventoryText.{inventory_reads, none_sound, sound_state}
use Rattle.pt_object.proofs.Manifests.{first_is_distinct, manifest_has}
use Rattle.pt_object.proofs.ObjectScripts.{in_order_apart}
use Rattle.pt_object.proofs.Stored.{first_with, found_has, found_passes, found_test, held_itself, names_in-content_path, names_in-joined}
use Rattle.pt_object.proofs.Texts.{Rises}
use Rattle.pt_object.proofs.Ways.{bytes_eq-sym, is_same, same_name}

-- ---- what stands in an object

held_in_contents : (stored more : List File) (p : Path) (bytes : List ℕ) → held_at stored p ≡ Some bytes
    → held_at (map (file_in version_folder) (map content_file stored) ++ more) (codes "v1" ∷ codes "content" ∷ p) ≡ Some bytes
held_in_contents [] more p bytes h = absurd (cc)
held_in_contents (f ∷ stored) more p bytes h = by (same_path p f.0) (held_in_contents stored more p bytes) h
  where
    by : (t : Bool) → (held_at stored p ≡ Some bytes → held_at (map (file_in version_folder) (map content_file stored) ++ more)
        (codes "v1" ∷ codes "content" ∷ p) ≡ Some bytes)
        → cond t (Some f.1) (held_at stored p) ≡ Some bytes → cond t (Some f.1)
        (held_at (map (file_in version_folder) (map content_file stored) ++ more) (codes "v1" ∷ codes "content" ∷ p)) ≡ Some bytes
    by true later h = h
    by false later h = later h

held_behind_contents : (stored more : List File) (name : List ℕ) → bytes_eq name (codes "v1") ≡ false
    → held_at (map (file_in version_folder) (map content_file stored) ++ more) (name ∷ []) ≡ held_at more (name ∷ [])
held_behind_contents [] more name apart = refl
held_behind_contents (f ∷ stored) more name apart = by (bytes_eq name (codes "v1")) apart (held_behind_contents stored more name apart)
  where
    by : (t : Bool) → t ≡ false → held_at (map (file_in version_folder) (map content_file stored) ++ more) (name ∷ []) ≡ held_at more (name ∷ [])
        → cond (t && false) (Some f.1) (held_at (map (file_in version_folder) (map content_file stored) ++ more) (name ∷ [])) ≡ held_at more (name ∷ [])
    by true is later = absurd (true≢false is)
    by false is later = later

held_stored : (held : Path → List ℕ) (rows : List Row) (p : Path) → list_any (λ row. same_path p row.path) rows ≡ true
    → held_at (map (λ row. (row.path, held row.path)) rows) p ≡ Some (held p)
held_stored held [] p h = absurd (false≢true h)
held_stored held (row ∷ rows) p h = by (same_path p row.path) refl (held_stored held rows p) h
  where
    by : (t : Bool) → same_path p row.path ≡ t → (list_any (λ row. same_path p row.path) rows ≡ true
        → held_at (map (λ row. (row.path, held row.path)) rows) p ≡ Some (held p)) → (t || list_any (λ row. same_path p row.path) rows) ≡ true
        → cond t (Some (held row.path)) (held_at (map (λ row. (row.path, held row.path)) rows) p) ≡ Some (held p)
    by true same later h = ap (λ (q : Path). Some (held q)) (sym (is_same p row.path same))
    by false other later h = later h

module _ (id : List ℕ) (files : List File) (meta : MetaParts) (algorithm : Algorithm) (t : Tree) (place : Path)
    (order : part_in_order (paths_of files) ≡ true) (logical : list_all is_logical (paths_of files) ≡ true) (told : DigestsTellApart algorithm files)
    (stands : (q : Path) → t (place ++ q) ≡ object_of id files meta algorithm q) where
  abbrev rows : List Row
  rows = rows_of algorithm files

  abbrev manifest : Members
  manifest = manifest_members rows

  bytes_at : (q : Path) (bytes : List ℕ) → held_at (object_files algorithm (inventory_text id rows meta algorithm) (stored_files rows (bytes_in files))) q
      ≡ Some bytes → bytes_of (t (place ++ q)) ≡ Some bytes
  bytes_at q bytes h = ap bytes_of (stands q)
      ∙ ap (λ o. bytes_of (file_or_folder o (leads_to (object_files algorithm (inventory_text id rows meta algorithm) (stored_files rows (bytes_in files))) q)))
      h

  -- the first file with a digest is stored
  stored_there : (digest : List ℕ) (g : File) → first_with algorithm files digest ≡ Some g
      → bytes_of (t (place ++ codes "v1" ∷ codes "content" ∷ g.0)) ≡ Some g.1
  stored_there digest g found =
      bytes_at (codes "v1" ∷ codes "content" ∷ g.0) g.1
      (held_in_contents (stored_files rows (bytes_in files)) _ g.0 g.1
      (held_stored (bytes_in files) (distinct rows) g.0 (first_is_distinct algorithm digest [] files g refl found)
      ∙ ap (λ o. Some (unwrap_or o [])) (held_itself (λ file. bytes_eq (digest_of algorithm file.1) digest) files g (in_order_apart (paths_of files) order)
      found)))

  -- the manifest leads to it
  content_there : (bytes : List ℕ) (g : File) → first_with algorithm files (digest_of algorithm bytes) ≡ Some g
      → content_at t place manifest (encode_lower (digest_of algorithm bytes)) ≡ Some g.1
  content_there bytes g found =
      ap (λ o. option_and_then (λ text. bytes_of (t (place ++ names_in text))) (option_and_then first_of (option_and_then texts_of o)))
      (manifest_has algorithm bytes [] files no_members g refl found)
      ∙ ap (λ (p : Path). bytes_of (t (place ++ p))) (names_in-content_path g.0
      (found_passes is_logical (λ file. bytes_eq (digest_of algorithm file.1) (digest_of algorithm bytes)) files g logical found))
      ∙ stored_there (digest_of algorithm bytes) g found

texts_back : (list : List (List ℕ)) → as_texts (texts list) ≡ Some list
texts_back [] = refl
texts_back (x ∷ list) = ap (option_map (λ (l : List (List ℕ)). x ∷ l)) (texts_back list)

-- the paths of a digest with its bytes are the files of that digest
paths_back : (algorithm : Algorithm) (digest held : List ℕ) (some : List File) → list_all is_logical (paths_of some) ≡ true
    → All (λ f. bytes_eq (digest_of algorithm f.1) digest ≡ true → f.1 ≡ held) some
    → map (λ text. (names_in text, held)) (map joined (paths_with (rows_of algorithm some) digest))
    ≡ filter (λ f. bytes_eq (digest_of algorithm f.1) digest) some
paths_back algorithm digest held [] logical same = refl
paths_back algorithm digest held (x ∷ some) logical same =
    let parts = and_parts _ _ logical in
    by (bytes_eq (digest_of algorithm x.1) digest) parts.0 (All-head (λ f. bytes_eq (digest_of algorithm f.1) digest ≡ true → f.1 ≡ held) x some same)
    (paths_back algorithm digest held some parts.1 (All-tail (λ f. bytes_eq (digest_of algorithm f.1) digest ≡ true → f.1 ≡ held) x some same))
  where
    by : (t : Bool) → is_logical x.0 ≡ true → (t ≡ true → x.1 ≡ held)
        → map (λ text. (names_in text, held)) (map joined (paths_with (rows_of algorithm some) digest))
        ≡ filter (λ f. bytes_eq (digest_of algorithm f.1) digest) some
        → map (λ text. (names_in text, held)) (map joined (map (λ row. row.path)
        (cond t (row_of_file algorithm x ∷ filter (row_has_digest digest) (rows_of algorithm some))
        (filter (row_has_digest digest) (rows_of algorithm some)))))
        ≡ cond t (x ∷ filter (λ f. bytes_eq (digest_of algorithm f.1) digest) some) (filter (λ f. bytes_eq (digest_of algorithm f.1) digest) some)
    by true here one later = λ i. (names_in-joined x.0 here i, sym (one refl) i) ∷ later i
    by false here one later = later

none_left : (files : List File) → [] ≡ filter (λ f. false) files
none_left [] = refl
none_left (f ∷ files) = none_left files

all_left : (algorithm : Algorithm) (files some : List File) → AreFound algorithm files some
    → filter (λ f. has_key (encode_lower (digest_of algorithm f.1)) (state_members (rows_of algorithm files))) some ≡ some
all_left algorithm files [] found = refl
all_left algorithm files (f ∷ some) found =
    let key : has_key (encode_lower (digest_of algorithm f.1)) (state_members (rows_of algorithm files)) ≡ true =
    keys_after algorithm files (digest_of algorithm f.1) [] files no_members (λ h. absurd (false≢true h))
    (row_of_found algorithm (digest_of algorithm f.1) files found.0.0 found.0.1) in
    ap (λ b. cond b (f ∷ rest) rest) key ∙ ap (λ (l : List File). f ∷ l) (all_left algorithm files some found.1)
  where
    rest : List File
    rest = filter (λ g. has_key (encode_lower (digest_of algorithm g.1)) (state_members (rows_of algorithm files))) some

module _ (id : List ℕ) (files : List File) (meta : MetaParts) (algorithm : Algorithm) (t : Tree) (place : Path)
    (order : part_in_order (paths_of files) ≡ true) (logical : list_all is_logical (paths_of files) ≡ true) (told : DigestsTellApart algorithm files)
    (stands : (q : Path) → t (place ++ q) ≡ object_of id files meta algorithm q) where
  -- files of one digest hold the same
  told_with : (bytes : List ℕ) (g : File) → first_with algorithm files (digest_of algorithm bytes) ≡ Some g
      → All (λ f. bytes_eq (digest_of algorithm f.1) (digest_of algorithm bytes) ≡ true → f.1 ≡ g.1) files
  told_with bytes g found =
      let test : File → Bool = λ file. bytes_eq (digest_of algorithm file.1) (digest_of algorithm bytes) in
      let mine : digest_of algorithm g.1 ≡ digest_of algorithm bytes = same_name _ _ (found_test test files g found) in
      All-weaker (λ h. digest_of algorithm g.1 ≡ digest_of algorithm h.1 → g.1 ≡ h.1) (λ f. bytes_eq (digest_of algorithm f.1) (digest_of algorithm bytes)
      ≡ true → f.1 ≡ g.1)
      (λ h same e. sym (same (mine ∙ sym (same_name _ _ e)))) files
      (found_has (λ f. All (λ h. digest_of algorithm f.1 ≡ digest_of algorithm h.1 → f.1 ≡ h.1) files) test files g told found)

  group_files : (key : List ℕ) (d : Data) (group : IsGroup algorithm files key d)
      → files_under (content_at t place (manifest_members (rows_of algorithm files)) key) d
      ≡ Some (filter (λ f. bytes_eq (digest_of algorithm f.1) (digest_of algorithm group.bytes)) files)
  group_files key d group =
      let held : List ℕ = group.first.1 in
      let paths : List (List ℕ) = map joined (paths_with (rows_of algorithm files) (digest_of algorithm group.bytes)) in
      ap (λ (k : List ℕ). files_under (content_at t place (manifest_members (rows_of algorithm files)) k) d) group.keyed
      ∙ ap (λ o. files_under o d) (content_there id files meta algorithm t place order logical told stands group.bytes group.first group.found)
      ∙ ap (files_under (Some held)) group.paths
      ∙ ap (option_map (λ (l : List (List ℕ)). map (λ (text : List ℕ). (names_in text, held)) l)) (texts_back paths)
      ∙ ap Some (paths_back algorithm (digest_of algorithm group.bytes) held files logical (told_with group.bytes group.first group.found))

  -- what a part of the state means: the files whose digests are keys there
  record Means (ms : Members) : Type 0 where
    found : List File
    is : files_of_state t place (manifest_members (rows_of algorithm files)) ms ≡ Some found
    ordered : in_order found ≡ filter (λ f. has_key (encode_lower (digest_of algorithm f.1)) ms) files

  means : (ms : Members) → AreGroups algorithm files ms → Rises ms → Means ms
  means no_members groups rises = record { found = []; is = refl; ordered = none_left files }
  means (member key d ms) groups rises =
      let later : Means ms = means ms groups.1 rises.1 in
      let group : IsGroup algorithm files key d = groups.0 in
      let P : File → Bool = λ f. bytes_eq (digest_of algorithm f.1) (digest_of algorithm group.bytes) in
      let Q : File → Bool = λ f. has_key (encode_lower (digest_of algorithm f.1)) ms in
      let keyed : (f : File) → (P f || Q f) ≡ has_key (encode_lower (digest_of algorithm f.1)) (member key d ms) =
      λ f.
      ap (λ b. b || Q f)
      (sym (
      ap (λ (k : List ℕ). bytes_eq k (encode_lower (digest_of algorithm f.1))) group.keyed ∙ same_keys algorithm group.bytes f.1
      ∙ bytes_eq-sym (digest_of algorithm f.1) (digest_of algorithm group.bytes) _ refl
      ))
      ∙ sym (has_key-member (encode_lower (digest_of algorithm f.1)) key d ms) in
      let apart : (f : File) → P f ≡ true → Q f ≡ false =
      λ f h. ap (λ (digest : List ℕ). has_key (encode_lower digest) ms) (same_name _ _ h) ∙ ap (λ (k : List ℕ). has_key k ms) (sym group.keyed)
      ∙ no_key key ms rises.0 in
      record {
        found = filter P files ++ later.found;
        is = (λ i. option_and_then (λ some. option_map (λ others. some ++ others) (later.is i)) (group_files key d group i));
        ordered = in_order-append (filter P files) later.found ∙ ap (inserted_all (filter P files)) later.ordered
            ∙ two_groups P Q files apart order ∙ filter_agree (λ f. P f || Q f) (λ f. has_key (encode_lower (digest_of algorithm f.1)) (member key d ms)) keyed
            files;
      }

  abbrev text : List ℕ
  text = inventory_text id (rows_of algorithm files) meta algorithm

  read_there : option_and_then read (bytes_of (t (place ++ inventory_name ∷ []))) ≡ Some (inventory_tree id (rows_of algorithm files) meta algorithm)
  read_there =
      ap (option_and_then read)
      (bytes_at id files meta algorithm t place order logical told stands (inventory_name ∷ []) text
      (held_behind_contents (stored_files (rows_of algorithm files) (bytes_in files)) _ inventory_name refl))
      ∙ inventory_reads id (rows_of algorithm files) meta algorithm

  the_state : v1_state t place ≡ Some files
  the_state =
      let state : Means (state_members (rows_of algorithm files)) =
      means (state_members (rows_of algorithm files)) (groups_after algorithm files [] files no_members (all_found algorithm files) tt)
      (sound_state (rows_of algorithm files) (map content_of_row (distinct (rows_of algorithm files))) no_members none_sound).rise in
      ap (option_and_then (state_by t place)) read_there
      ∙ ap (option_map in_order) state.is
      ∙ ap Some (state.ordered ∙ all_left algorithm files files (all_found algorithm files))

pub state_is_the_files : StateIsTheFiles
state_is_the_files id files meta algorithm t place order logical told stands = the_state id files meta algorithm t place order logical told stands

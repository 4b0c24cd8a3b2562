-- The object of some rows is that of files.
use Rattle.std.proofs.Common.{◌≡◌, ℕ, List, [], ◌∷◌, ◌++◌, fold, Bool, true, false, refl, sym, ◌∙◌, ap, append_assoc}
use Rattle.std.specs.Prelude.{All, cond, ◌||◌, filter, find, map, Some}
use Rattle.std.specs.List.{list_all}
use Rattle.std.specs.Option.{option_map, unwrap_or}
use Rattle.std.specs.Str.{bytes_eq}
use Rattle.std.proofs.lemmas.Bool.{true≢false, false≢true, and_parts}
use Rattle.std.proofs.lemmas.List.{map-append}
use Rattle.std.proofs.lemmas.List.Elements.{All-head, All-tail}
use Rattle.serde_json.specs.Data.{array, no_members, object, put}
use Rattle.hex.specs.Hex.{encode_lower}
use Rattle.pt_tree.specs.Path.{Path, joined, same_path}
use Rattle.pt_object.specs.Algorithm.{digest_of}
use Rattle.pt_object.specs.Distinct.{content_of_row, distinct, distinct_after, row_has_digest}
use Rattle.pt_object.specs.FilePaths.{File, are_apart, is_apart, row_paths}
use Rattle.pt_object.specs.Holding.{held_at, holding}
use Rattle.pt_object.specs.Inventory.{document_tree, inventory_text, paths_with, put_content, put_paths, texts, version_tree}
use Rattle.pt_object.specs.MetaParts.{MetaParts}
use Rattle.pt_object.specs.Object.{bytes_in, files_of_rows, object_files, rows_of, stored_files, stored_path}
use Rattle.pt_object.specs.ObjectLaws.{RowsAreFiles}
use Rattle.pt_object.specs.Rows.{row_of}
use Rattle.pt_object.specs.Script.{item_in}
use Rattle.pt_object.specs.Scripts.{object_items, staging}
use Rattle.serde_json.specs.Written.{compact_text}
use Rattle.pt_object.specs.declared.algorithm.Algorithm.{Algorithm}
use Rattle.pt_object.specs.declared.table.contents.Content.{Content}
use Rattle.pt_object.specs.declared.rows.Row.{Row}
use Rattle.pt_object.proofs.Manifests.{has}
use Rattle.pt_object.proofs.Stored.{not_apart}
use Rattle.pt_object.proofs.Ways.{is_same, name_itself, path_itself}

-- the row without its length
abbrev pub bare : Row → Row
bare row = row_of row.path row.digest 0

has-bare : (digest : List ℕ) (rows : List Row) → has digest (map bare rows) ≡ has digest rows
has-bare digest [] = refl
has-bare digest (row ∷ rows) = ap (λ b. bytes_eq row.digest digest || b) (has-bare digest rows)

contents-bare : (earlier rows : List Row) → map content_of_row (distinct_after (map bare earlier) (map bare rows))
    ≡ map content_of_row (distinct_after earlier rows)
contents-bare earlier [] = refl
contents-bare earlier (row ∷ rows) =
    ap (λ (l : List Row). map content_of_row (cond (has row.digest (map bare earlier)) (distinct_after l (map bare rows))
    (bare row ∷ distinct_after l (map bare rows)))) (sym (map-append bare earlier (row ∷ [])))
    ∙ by (has row.digest earlier) (has row.digest (map bare earlier)) (has-bare row.digest earlier) (contents-bare (earlier ++ row ∷ []) rows)
  where
    by : (t s : Bool) → s ≡ t → map content_of_row (distinct_after (map bare (earlier ++ row ∷ [])) (map bare rows))
        ≡ map content_of_row (distinct_after (earlier ++ row ∷ []) rows)
        → map content_of_row (cond s (distinct_after (map bare (earlier ++ row ∷ [])) (map bare rows))
        (bare row ∷ distinct_after (map bare (earlier ++ row ∷ [])) (map bare rows)))
        ≡ map content_of_row (cond t (distinct_after (earlier ++ row ∷ []) rows) (row ∷ distinct_after (earlier ++ row ∷ []) rows))
    by true true is later = later
    by true false is later = absurd (false≢true is)
    by false true is later = absurd (true≢false is)
    by false false is later = ap (λ (l : List Content). content_of_row row ∷ l) later

paths-bare : (digest : List ℕ) (rows : List Row) → paths_with (map bare rows) digest ≡ paths_with rows digest
paths-bare digest [] = refl
paths-bare digest (row ∷ rows) = by (bytes_eq row.digest digest) (paths-bare digest rows)
  where
    by : (t : Bool) → paths_with (map bare rows) digest ≡ paths_with rows digest
        → map (λ r. r.path) (cond t (bare row ∷ filter (row_has_digest digest) (map bare rows)) (filter (row_has_digest digest) (map bare rows)))
        ≡ map (λ r. r.path) (cond t (row ∷ filter (row_has_digest digest) rows) (filter (row_has_digest digest) rows))
    by true later = ap (λ (l : List Path). row.path ∷ l) later
    by false later = later

-- rows that are alike but for their lengths have one inventory
pub same_text : (id : List ℕ) (rows others : List Row) (meta : MetaParts) (algorithm : Algorithm) → map bare rows ≡ map bare others
    → inventory_text id rows meta algorithm ≡ inventory_text id others meta algorithm
same_text id rows others meta algorithm alike =
    let contents : map content_of_row (distinct rows) ≡ map content_of_row (distinct others) = sym (contents-bare [] rows)
    ∙ ap (λ (l : List Row). map content_of_row (distinct l)) alike ∙ contents-bare [] others in
    let paths : (digest : List ℕ) → paths_with rows digest ≡ paths_with others digest = λ digest. sym (paths-bare digest rows)
    ∙ ap (λ (l : List Row). paths_with l digest) alike ∙ paths-bare digest others in
    let puts : put_paths rows ≡ put_paths others = λ i ms content. put (encode_lower content.digest) (array (texts (map joined (paths content.digest i)))) ms in
    λ i. compact_text (document_tree id (object (fold put_content no_members (contents i))) (version_tree meta (object (fold (puts i) no_members (contents i))))
    algorithm)

-- the files have the rows' paths and digests
abbrev file_of : (Path → List ℕ) → List Row → Row → File
file_of held rows row = (row.path, held (stored_path rows row))

alike : (held : Path → List ℕ) (algorithm : Algorithm) (rows some : List Row) → All (λ row. digest_of algorithm (held (stored_path rows row)) ≡ row.digest) some
    → map bare some ≡ map bare (rows_of algorithm (map (file_of held rows) some))
alike held algorithm rows [] digests = refl
alike held algorithm rows (row ∷ some) digests =
    let P : Row → Type 0 = λ r. digest_of algorithm (held (stored_path rows r)) ≡ r.digest in
    let here : P row = All-head P row some digests in
    let later = alike held algorithm rows some (All-tail P row some digests) in
    λ i. row_of row.path (sym here i) 0 ∷ later i

-- the first row with a digest is found by it
first_found : (earlier rows : List Row) (row : Row) → has row.digest earlier ≡ false → find (row_has_digest row.digest) (earlier ++ row ∷ rows) ≡ Some row
first_found [] rows row new = ap (λ t. cond t (Some row) (find (row_has_digest row.digest) rows)) (name_itself row.digest)
first_found (x ∷ earlier) rows row new = by (bytes_eq x.digest row.digest) (λ h. first_found earlier rows row h) new
  where
    by : (t : Bool) → (has row.digest earlier ≡ false → find (row_has_digest row.digest) (earlier ++ row ∷ rows) ≡ Some row)
        → (t || has row.digest earlier) ≡ false → cond t (Some x) (find (row_has_digest row.digest) (earlier ++ row ∷ rows)) ≡ Some row
    by true later h = absurd (true≢false h)
    by false later h = later h

among : (earlier rows : List Row) (x row : Row) → list_all (is_apart x.path) (row_paths (earlier ++ row ∷ rows)) ≡ true → is_apart x.path row.path ≡ true
among [] rows x row h = (and_parts _ _ h).0
among (y ∷ earlier) rows x row h = among earlier rows x row (and_parts _ _ h).1

-- what the files hold at the path of one of the rows
pub held_of_row : (f : Row → List ℕ) (earlier rows : List Row) (row : Row) → are_apart (row_paths (earlier ++ row ∷ rows)) ≡ true
    → held_at (map (λ r. (r.path, f r)) (earlier ++ row ∷ rows)) row.path ≡ Some (f row)
held_of_row f [] rows row apart = ap (λ t. cond t (Some (f row)) (held_at (map (λ r. (r.path, f r)) rows) row.path)) (path_itself row.path)
held_of_row f (x ∷ earlier) rows row apart = let parts = and_parts _ _ apart in by (same_path row.path x.path) refl (among earlier rows x row parts.0)
    (held_of_row f earlier rows row parts.1)
  where
    by : (t : Bool) → same_path row.path x.path ≡ t → is_apart x.path row.path ≡ true
        → held_at (map (λ r. (r.path, f r)) (earlier ++ row ∷ rows)) row.path ≡ Some (f row)
        → cond t (Some (f x)) (held_at (map (λ r. (r.path, f r)) (earlier ++ row ∷ rows)) row.path) ≡ Some (f row)
    by true same apart later = absurd (not_apart x.path (ap (is_apart x.path) (sym (is_same row.path x.path same)) ∙ apart))
    by false other apart later = later

abbrev pub holds_at : (Path → List ℕ) → Row → File
holds_at held row = (row.path, held row.path)

stored_same : (held : Path → List ℕ) (all earlier rows : List Row) → earlier ++ rows ≡ all → are_apart (row_paths all) ≡ true
    → map (holds_at held) (distinct_after earlier rows) ≡ map (holds_at (bytes_in (files_of_rows all held))) (distinct_after earlier rows)
stored_same held all earlier [] is apart = refl
stored_same held all earlier (row ∷ rows) is apart =
    by (has row.digest earlier) refl (stored_same held all (earlier ++ row ∷ []) rows (append_assoc earlier (row ∷ []) rows ∙ is) apart)
  where
    here : has row.digest earlier ≡ false → held row.path ≡ bytes_in (files_of_rows all held) row.path
    here new =
        let found : find (row_has_digest row.digest) all ≡ Some row = ap (find (row_has_digest row.digest)) (sym is) ∙ first_found earlier rows row new in
        let there : held_at (files_of_rows all held) row.path ≡ Some (held (stored_path all row)) =
        ap (λ (l : List Row). held_at (map (λ r. (r.path, held (stored_path all r))) l) row.path) (sym is)
        ∙ held_of_row (λ r. held (stored_path all r)) earlier rows row (ap (λ (l : List Row). are_apart (row_paths l)) is ∙ apart) in
        sym (ap (λ o. unwrap_or o []) there ∙ ap (λ o. held (unwrap_or (option_map (λ (first : Row). first.path) o) row.path)) found)

    by : (t : Bool) → has row.digest earlier ≡ t → map (holds_at held) (distinct_after (earlier ++ row ∷ []) rows)
        ≡ map (holds_at (bytes_in (files_of_rows all held))) (distinct_after (earlier ++ row ∷ []) rows)
        → map (holds_at held) (cond t (distinct_after (earlier ++ row ∷ []) rows) (row ∷ distinct_after (earlier ++ row ∷ []) rows))
        ≡ map (holds_at (bytes_in (files_of_rows all held))) (cond t (distinct_after (earlier ++ row ∷ []) rows)
        (row ∷ distinct_after (earlier ++ row ∷ []) rows))
    by true known later = later
    by false new later = λ i. (row.path, here new i) ∷ later i

-- of rows their contents tell what is stored
by_contents : (held : Path → List ℕ) (rows : List Row) → map (holds_at held) rows ≡ map (λ (c : Content). (c.path, held c.path)) (map content_of_row rows)
by_contents held [] = refl
by_contents held (row ∷ rows) = ap (λ (l : List File). holds_at held row ∷ l) (by_contents held rows)

pub same_stored : (held : Path → List ℕ) (rows others : List Row) → map bare rows ≡ map bare others → stored_files rows held ≡ stored_files others held
same_stored held rows others alike =
    by_contents held (distinct rows)
    ∙ ap (map (λ (c : Content). (c.path, held c.path))) (sym (contents-bare [] rows) ∙ ap (λ (l : List Row). map content_of_row (distinct l)) alike
    ∙ contents-bare [] others)
    ∙ sym (by_contents held (distinct others))

pub rows_are_files : RowsAreFiles
rows_are_files id rows held meta algorithm apart digests =
    let files : List File = files_of_rows rows held in
    let one : map bare rows ≡ map bare (rows_of algorithm files) = alike held algorithm rows rows digests in
    let text : inventory_text id rows meta algorithm ≡ inventory_text id (rows_of algorithm files) meta algorithm = same_text id rows (rows_of algorithm files)
    meta algorithm one in
    let stored : stored_files rows held ≡ stored_files (rows_of algorithm files) (bytes_in files) = stored_same held rows [] rows refl apart
    ∙ same_stored (bytes_in files) rows (rows_of algorithm files) one in (
      λ i. holding (object_files algorithm (text i) (stored i)),
      λ i. map (item_in staging) (object_items algorithm (text i) (stored i)),
    )

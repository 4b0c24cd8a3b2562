-- What an inventory says of files, and what is stored of them, doesn't hang on their lengths.
use Rattle.std.proofs.Common.{◌≡◌, ℕ, List, [], ◌∷◌, ◌++◌, Bool, true, false, refl, sym, ◌∙◌, ap}
use Rattle.std.specs.Prelude.{cond, ◌||◌, filter, fold, map}
use Rattle.std.specs.List.{list_any}
use Rattle.std.specs.Str.{bytes_eq}
use Rattle.hex.specs.Hex.{encode_lower}
use Rattle.serde_json.specs.Data.{Members, array, no_members, object, put}
use Rattle.serde_json.specs.Written.{compact_text}
use Rattle.pt_tree.specs.Path.{Path, joined}
use Rattle.pt_object.specs.Distinct.{content_of_row, distinct, distinct_after, row_has_digest}
use Rattle.pt_object.specs.FilePaths.{File, row_paths}
use Rattle.pt_object.specs.Inventory.{document_tree, inventory_text, paths_with, put_content, put_paths, texts, version_tree}
use Rattle.pt_object.specs.MetaParts.{MetaParts}
use Rattle.pt_object.specs.Object.{stored_files}
use Rattle.pt_object.specs.Rows.{row_of}
use Rattle.pt_object.specs.declared.algorithm.Algorithm.{Algorithm}
use Rattle.pt_object.specs.declared.table.contents.Content.{Content}
use Rattle.pt_object.specs.declared.rows.Row.{Row}
use Rattle.pt_quick.specs.Claimed.{with_digests}

-- a row without its length
abbrev bare_row : Row → Row
bare_row row = row_of row.path row.digest 0

abbrev pub bare : List Row → List Row
bare rows = map bare_row rows

bare_append : (xs ys : List Row) → bare (xs ++ ys) ≡ bare xs ++ bare ys
bare_append [] ys = refl
bare_append (x ∷ xs) ys = ap (λ (l : List Row). bare_row x ∷ l) (bare_append xs ys)

any_bare : (digest : List ℕ) (rows : List Row) → list_any (row_has_digest digest) (bare rows) ≡ list_any (row_has_digest digest) rows
any_bare digest [] = refl
any_bare digest (x ∷ rows) = ap (λ b. bytes_eq x.digest digest || b) (any_bare digest rows)

distinct_bare : (earlier rows : List Row) → distinct_after (bare earlier) (bare rows) ≡ bare (distinct_after earlier rows)
distinct_bare earlier [] = refl
distinct_bare earlier (x ∷ rows) =
    ap (λ b. cond b (distinct_after (bare earlier ++ bare_row x ∷ []) (bare rows))
    (bare_row x ∷ distinct_after (bare earlier ++ bare_row x ∷ []) (bare rows))) (any_bare x.digest earlier)
    ∙ by (list_any (row_has_digest x.digest) earlier)
    (ap (λ (l : List Row). distinct_after l (bare rows)) (sym (bare_append earlier (x ∷ []))) ∙ distinct_bare (earlier ++ x ∷ []) rows)
  where
    by : (t : Bool) → distinct_after (bare earlier ++ bare_row x ∷ []) (bare rows) ≡ bare (distinct_after (earlier ++ x ∷ []) rows)
        → cond t (distinct_after (bare earlier ++ bare_row x ∷ []) (bare rows)) (bare_row x ∷ distinct_after (bare earlier ++ bare_row x ∷ []) (bare rows))
        ≡ bare (cond t (distinct_after (earlier ++ x ∷ []) rows) (x ∷ distinct_after (earlier ++ x ∷ []) rows))
    by true later = later
    by false later = ap (λ (l : List Row). bare_row x ∷ l) later

contents_bare : (rows : List Row) → map content_of_row (bare rows) ≡ map content_of_row rows
contents_bare [] = refl
contents_bare (x ∷ rows) = ap (λ (l : List Content). content_of_row x ∷ l) (contents_bare rows)

paths_bare : (digest : List ℕ) (rows : List Row) → paths_with (bare rows) digest ≡ paths_with rows digest
paths_bare digest [] = refl
paths_bare digest (x ∷ rows) = by (row_has_digest digest x) (paths_bare digest rows)
  where
    by : (t : Bool) → paths_with (bare rows) digest ≡ paths_with rows digest
        → map (λ (row : Row). row.path) (cond t (bare_row x ∷ filter (row_has_digest digest) (bare rows)) (filter (row_has_digest digest) (bare rows)))
        ≡ map (λ (row : Row). row.path) (cond t (x ∷ filter (row_has_digest digest) rows) (filter (row_has_digest digest) rows))
    by true later = ap (λ (l : List Path). x.path ∷ l) later
    by false later = later

same_contents : (rows : List Row) → map content_of_row (distinct (bare rows)) ≡ map content_of_row (distinct rows)
same_contents rows = ap (map content_of_row) (distinct_bare [] rows) ∙ contents_bare (distinct rows)

put_bare : (rows : List Row) (contents : List Content) (ms : Members) → fold (put_paths (bare rows)) ms contents ≡ fold (put_paths rows) ms contents
put_bare rows [] ms = refl
put_bare rows (x ∷ contents) ms =
    ap (λ (paths : List Path). fold (put_paths (bare rows)) (put (encode_lower x.digest) (array (texts (map joined paths))) ms) contents)
    (paths_bare x.digest rows)
    ∙ put_bare rows contents (put_paths rows ms x)

pub text_bare : (id : List ℕ) (rows : List Row) (meta : MetaParts) (algorithm : Algorithm)
    → inventory_text id (bare rows) meta algorithm ≡ inventory_text id rows meta algorithm
text_bare id rows meta algorithm =
    let manifest : fold put_content no_members (map content_of_row (distinct (bare rows))) ≡ fold put_content no_members (map content_of_row (distinct rows)) =
    ap (fold put_content no_members) (same_contents rows) in
    let state : fold (put_paths (bare rows)) no_members (map content_of_row (distinct (bare rows)))
    ≡ fold (put_paths rows) no_members (map content_of_row (distinct rows)) =
    ap (fold (put_paths (bare rows)) no_members) (same_contents rows) ∙ put_bare rows (map content_of_row (distinct rows)) no_members in
    λ i. compact_text (document_tree id (object (manifest i)) (version_tree meta (object (state i))) algorithm)

files_bare : (held : Path → List ℕ) (rows : List Row) → map {B = File} (λ (row : Row). (row.path, held row.path)) (bare rows)
    ≡ map {B = File} (λ (row : Row). (row.path, held row.path)) rows
files_bare held [] = refl
files_bare held (x ∷ rows) = ap (λ (l : List File). (x.path, held x.path) ∷ l) (files_bare held rows)

pub stored_bare : (rows : List Row) (held : Path → List ℕ) → stored_files (bare rows) held ≡ stored_files rows held
stored_bare rows held = ap (map {B = File} (λ (row : Row). (row.path, held row.path))) (distinct_bare [] rows) ∙ files_bare held (distinct rows)

-- rows with the digests of others that have their paths are those, but for their lengths
pub digests_bare : (rows told : List Row) → row_paths told ≡ row_paths rows → bare (with_digests rows told) ≡ bare told
digests_bare [] [] paths = refl
digests_bare [] (other ∷ told) paths = absurd (cc)
digests_bare (row ∷ rows) [] paths = absurd (cc)
digests_bare (row ∷ rows) (other ∷ told) paths =
    let path : other.path ≡ row.path = cc in
    let later : row_paths told ≡ row_paths rows = cc in
    λ i. row_of (sym path i) other.digest 0 ∷ digests_bare rows told later i

-- so their inventories and what is stored of them are the same
pub same_text_with : (id : List ℕ) (rows told : List Row) (meta : MetaParts) (algorithm : Algorithm) → row_paths told ≡ row_paths rows
    → inventory_text id (with_digests rows told) meta algorithm ≡ inventory_text id told meta algorithm
same_text_with id rows told meta algorithm paths =
    sym (text_bare id (with_digests rows told) meta algorithm) ∙ ap (λ (l : List Row). inventory_text id l meta algorithm) (digests_bare rows told paths)
    ∙ text_bare id told meta algorithm

pub same_stored : (rows told : List Row) (held : Path → List ℕ) → row_paths told ≡ row_paths rows
    → stored_files (with_digests rows told) held ≡ stored_files told held
same_stored rows told held paths =
    sym (stored_bare (with_digests rows told) held) ∙ ap (λ (l : List Row). stored_files l held) (digests_bare rows told paths) ∙ stored_bare told held

-- An object that stands is alike in what is seen of it by lengths.
use Rattle.std.proofs.Common.{◌≡◌, ◌+◌, ℕ, List, [], ◌∷◌, ◌++◌, Bool, true, false, refl, sym, ◌∙◌, ap, arith, length, nat_lt, suc}
use Rattle.std.specs.Prelude.{◌||◌, All, cond, map, Option, Some, None, is_some}
use Rattle.std.specs.Option.{option_map}
use Rattle.std.proofs.lemmas.Bool.Decides.{nat_tests}
use Rattle.std.proofs.lemmas.List.{length-append, map-append}
use Rattle.std.proofs.lemmas.List.Elements.{All-head, All-tail}
use Rattle.pt_compare.specs.Found.{IsObject, object_with}
use Rattle.pt_compare.specs.Marks.{inside}
use Rattle.pt_object.specs.Algorithm.{digest_of}
use Rattle.pt_object.specs.Distinct.{distinct}
use Rattle.pt_object.specs.FilePaths.{File, row_paths}
use Rattle.pt_object.specs.Files.{object_declaration_bytes}
use Rattle.pt_object.specs.Holding.{file_or_folder, held_at, holding, leads_to}
use Rattle.pt_object.specs.Object.{bytes_in, content_file, file_in, inventory_files, object_files, rows_of, stored_files, stored_path, version_folder}
use Rattle.pt_object.specs.Object.{object_declaration_name}
use Rattle.pt_object.specs.declared.algorithm.Algorithm.{Algorithm}
use Rattle.pt_object.specs.declared.rows.Row.{Row}
use Rattle.pt_quick.specs.ByDepth.{entry_measured, is_deep, measured, tree_measured}
use Rattle.pt_quick.specs.DepthMeasured.{tree-measured}
use Rattle.pt_quick.specs.Measured.{text_of_file, text_of_length}
use Rattle.pt_quick.specs.Quick.{HaveDigests, IsAlikeOf, read_digest, sought_by}
use Rattle.pt_quick.specs.QuickLaws.{AreSeen, InsideIsMeasured, QuickFindsTheSame}
use Rattle.pt_quick.specs.ReadAlike.{ReadAlike}
use Rattle.pt_quick.proofs.Digests.{rows_have_digests}
use Rattle.pt_quick.proofs.Stored.{both, distinct_holds, stored_holds}
use Rattle.pt_tree.specs.Path.{IsBelowTop, Path, rest_below, same_path}
use Rattle.pt_tree.specs.Tree.{Tree, tree_of}
use Rattle.pt_tree.proofs.AtPaths.{same_from}

-- ---- files that are held

-- a file, seen by its length where its path is deep
abbrev file_deep : ℕ → ℕ → File → File
file_deep longest depth file = (file.0, cond (is_deep depth file.0) (text_of_file longest file.1) file.1)

held_deep : (longest depth : ℕ) (files : List File) (p : Path) → held_at (map (file_deep longest depth) files) p
    ≡ cond (is_deep depth p) (option_map (text_of_file longest) (held_at files p)) (held_at files p)
held_deep longest depth [] p = by (is_deep depth p)
  where
    by : (t : Bool) → None ≡ cond t (option_map (text_of_file longest) None) None
    by true = refl
    by false = refl
held_deep longest depth (file ∷ files) p = by (same_path p file.0) refl (held_deep longest depth files p)
  where
    on : (t : Bool) → Some (cond t (text_of_file longest file.1) file.1)
        ≡ cond t (option_map (text_of_file longest) (Some file.1)) (Some file.1)
    on true = refl
    on false = refl

    by : (t : Bool) → same_path p file.0 ≡ t → held_at (map (file_deep longest depth) files) p
        ≡ cond (is_deep depth p) (option_map (text_of_file longest) (held_at files p)) (held_at files p)
        → cond t (Some (cond (is_deep depth file.0) (text_of_file longest file.1) file.1)) (held_at (map (file_deep longest depth) files) p)
        ≡ cond (is_deep depth p) (option_map (text_of_file longest) (cond t (Some file.1) (held_at files p))) (cond t (Some file.1) (held_at files p))
    by true same later =
        ap (λ (q : Path). Some (cond (is_deep depth q) (text_of_file longest file.1) file.1)) (sym (same_from p file.0 same)) ∙ on (is_deep depth p)
    by false apart later = later

leads_deep : (longest depth : ℕ) (files : List File) (p : Path) → leads_to (map (file_deep longest depth) files) p ≡ leads_to files p
leads_deep longest depth [] p = refl
leads_deep longest depth (file ∷ files) p = ap (λ t. is_some (rest_below p file.0) || t) (leads_deep longest depth files p)

-- what they hold
pub holding_deep : (longest depth : ℕ) (files : List File) (p : Path)
    → tree_measured longest depth (holding files) p ≡ holding (map (file_deep longest depth) files) p
holding_deep longest depth files p =
    by (is_deep depth p) (held_at files p) (leads_to files p)
    ∙ (λ i. file_or_folder (sym (held_deep longest depth files p) i) (sym (leads_deep longest depth files p) i))
  where
    by : (t : Bool) (o : Option (List ℕ)) (needed : Bool)
        → cond t (option_map (entry_measured longest) (file_or_folder o needed)) (file_or_folder o needed)
        ≡ file_or_folder (cond t (option_map (text_of_file longest) o) o) needed
    by true None true = refl
    by true None false = refl
    by true (Some b) needed = refl
    by false o needed = refl

-- ---- the files of an object

content_is_deep : (k : ℕ) → nat_lt 2 (suc (suc (suc k))) ≡ true
content_is_deep k = grind (arith, nat_tests)

-- what is seen at the path of a content
content_seen : (longest : ℕ) (p : Path) (bytes : List ℕ) → IsBelowTop p
    → file_in version_folder (content_file (p, text_of_file longest bytes)) ≡ file_deep longest 2 (file_in version_folder (content_file (p, bytes)))
content_seen longest [] bytes named = absurd (named)
content_seen longest (n ∷ p) bytes named =
    ap (λ t. ((file_in version_folder (content_file (n ∷ p, bytes))).0, cond t (text_of_file longest bytes) bytes)) (sym (content_is_deep (length p)))

module _ (longest : ℕ) (bytes seen : Path → List ℕ) where
  abbrev IsSeenAt : Row → Type 0
  IsSeenAt row = seen row.path ≡ text_of_file longest (bytes row.path)

  contents_seen : (rows : List Row) → All IsSeenAt rows → All (λ row. IsBelowTop row.path) rows
      → map (file_in version_folder) (map content_file (map {B = File} (λ row. (row.path, seen row.path)) rows))
      ≡ map (file_deep longest 2) (map (file_in version_folder) (map content_file (map {B = File} (λ row. (row.path, bytes row.path)) rows)))
  contents_seen [] are named = refl
  contents_seen (row ∷ rows) are named =
      let here : file_in version_folder (content_file (row.path, seen row.path))
      ≡ file_deep longest 2 (file_in version_folder (content_file (row.path, bytes row.path))) =
      ap (λ (b : List ℕ). file_in version_folder (content_file (row.path, b))) (All-head IsSeenAt row rows are)
      ∙ content_seen longest row.path (bytes row.path) (All-head (λ (row : Row). IsBelowTop row.path) row rows named) in
      λ i. here i ∷ contents_seen rows (All-tail IsSeenAt row rows are) (All-tail (λ (row : Row). IsBelowTop row.path) row rows named) i

  -- all files of the object
  files_seen : (algorithm : Algorithm) (text : List ℕ) (rows : List Row) → All IsSeenAt rows → All (λ row. IsBelowTop row.path) rows
      → object_files algorithm text (stored_files rows seen) ≡ map (file_deep longest 2) (object_files algorithm text (stored_files rows bytes))
  files_seen algorithm text rows are named =
      let contents : List File = map (file_in version_folder) (map content_file (stored_files rows bytes)) in
      let others : List File = inventory_files version_folder algorithm text ++ inventory_files [] algorithm text in
      let first : File = (object_declaration_name ∷ [], object_declaration_bytes) in
      ap (λ (fs : List File). first ∷ (fs ++ others))
      (contents_seen (distinct rows) (distinct_holds IsSeenAt [] rows are) (distinct_holds (λ row. IsBelowTop row.path) [] rows named))
      ∙ ap (λ (fs : List File). first ∷ fs) (sym (map-append (file_deep longest 2) contents others))

  -- so the object is
  object_seen : (algorithm : Algorithm) (id text : List ℕ) (rows : List Row) (q : Path) → All IsSeenAt rows → All (λ row. IsBelowTop row.path) rows
      → tree_measured longest 2 (object_with (sought_by algorithm id rows bytes) text) q ≡ object_with (sought_by algorithm id rows seen) text q
  object_seen algorithm id text rows q are named =
      holding_deep longest 2 (object_files algorithm text (stored_files rows bytes)) q
      ∙ ap (λ (fs : List File). holding fs q) (sym (files_seen algorithm text rows are named))

  -- one that stands is alike
  stands_seen : (algorithm : Algorithm) (id : List ℕ) (rows : List Row) (t : Tree) → All IsSeenAt rows → All (λ row. IsBelowTop row.path) rows
      → IsObject (sought_by algorithm id rows bytes) t → IsObject (sought_by algorithm id rows seen) (tree_measured longest 2 t)
  stands_seen algorithm id rows t are named (inventory, made, all) = (
    inventory,
    made,
    λ q. ap (λ o. cond (is_deep 2 q) (option_map (entry_measured longest) o) o) (all q) ∙ object_seen algorithm id inventory rows q are named,
  )

  -- files of one digest are as long as what is stored for it, and read alike
  read_seen : (algorithm : Algorithm) (rows : List Row) → AreSeen longest rows bytes seen → ReadAlike (read_digest algorithm seen) rows
  read_seen algorithm rows are =
      both IsSeenAt (λ row. seen (stored_path rows row) ≡ text_of_file longest (bytes row.path))
      (λ row. digest_of algorithm (seen (stored_path rows row)) ≡ digest_of algorithm (seen row.path)) rows
      (λ row here stored. ap (digest_of algorithm) (stored ∙ sym here)) are.texts
      (both (λ row. seen (stored_path rows row) ≡ text_of_file longest (bytes (stored_path rows row)))
      (λ row. length (bytes (stored_path rows row)) ≡ length (bytes row.path))
      (λ row. seen (stored_path rows row) ≡ text_of_file longest (bytes row.path)) rows
      (λ row there long. there ∙ ap (text_of_length longest) long)
      (stored_holds (λ p. seen p ≡ text_of_file longest (bytes p)) rows are.texts) are.stored)

  pub is_alike : (algorithm : Algorithm) (id : List ℕ) (rows : List Row) (t : Tree) → HaveDigests algorithm rows → AreSeen longest rows bytes seen
      → IsObject (sought_by algorithm id rows bytes) t → IsAlikeOf algorithm id (row_paths rows) seen (tree_measured longest 2 t)
  is_alike algorithm id rows t digests are stands = record {
    rows = rows;
    could = record { paths_are = refl; digests = digests; alike = read_seen algorithm rows are };
    stands = stands_seen algorithm id rows t are.texts are.named stands;
  }

pub quick_finds_the_same : QuickFindsTheSame
quick_finds_the_same longest algorithm id files seen t finding are stands is =
    is.same.1 (is_alike longest (bytes_in files) seen algorithm id (rows_of algorithm files) t (rows_have_digests algorithm files) are stands)

-- ---- at a place of a root

deep_behind : (place q : Path) → is_deep (length place + 2) (place ++ q) ≡ is_deep 2 q
deep_behind place q = ap (nat_lt (length place + 2)) (length-append place q) ∙ by (length place) (length q)
  where
    by : (m k : ℕ) → nat_lt (m + 2) (m + k) ≡ nat_lt 2 k
    by m k = grind (arith, nat_tests)

pub inside_measured : InsideIsMeasured
inside_measured longest root place = λ i q. at q i
  where
    at : (q : Path) → tree_of (measured longest (length place + 2) root) (place ++ q) ≡ tree_measured longest 2 (inside root place) q
    at q =
        (λ i. tree-measured longest (length place + 2) root i (place ++ q))
        ∙ ap (λ t. cond t (option_map (entry_measured longest) (tree_of root (place ++ q))) (tree_of root (place ++ q))) (deep_behind place q)

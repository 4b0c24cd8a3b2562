-- Each file of an object that is alike is as long as what stands for it.
use Rattle.std.proofs.Common.{◌≡◌, ◌<◌, ◌^◌, ℕ, List, [], ◌∷◌, ◌++◌, Bool, true, false, refl, sym, ◌∙◌, ap, arith, length, nat_lt, subst, suc}
use Rattle.std.specs.Prelude.{All, cond, map, Option, Some, None}
use Rattle.std.specs.Option.{option_map}
use Rattle.std.proofs.lemmas.Bool.{cond-true}
use Rattle.std.proofs.lemmas.Bool.Decides.{nat_tests}
use Rattle.pt_compare.specs.Found.{IsObject, object_with}
use Rattle.pt_object.specs.Algorithm.{digest_of}
use Rattle.pt_object.specs.FilePaths.{File}
use Rattle.pt_object.specs.Holding.{file_or_folder, held_at, leads_to}
use Rattle.pt_object.specs.Object.{content_file, file_in, in_content, inventory_files, object_files, stored_files, stored_path, version_folder}
use Rattle.pt_object.specs.declared.algorithm.Algorithm.{Algorithm}
use Rattle.pt_object.specs.declared.rows.Row.{Row}
use Rattle.pt_quick.specs.ByDepth.{entry_measured, is_deep, tree_measured}
use Rattle.pt_quick.specs.Measured.{text_of_file}
use Rattle.pt_quick.specs.Quick.{read_digest, sought_by}
use Rattle.pt_quick.specs.QuickLaws.{AlikeFilesAreAsLong, HasShortFiles, IsAsLong, TellsLengths}
use Rattle.pt_quick.proofs.LengthTexts.{same_length}
use Rattle.pt_quick.proofs.Stored.{both, on_rows, stored_are_held, stored_holds}
use Rattle.pt_tree.specs.Path.{IsBelowTop, Path, same_path}
use Rattle.pt_tree.specs.Tree.{Bytes, Entry, Folder, Special, Tree}

-- ---- where a content stands

held_content : (files others : List File) (p : Path) (bytes : List ℕ) → held_at files p ≡ Some bytes
    → held_at (map (file_in version_folder) (map content_file files) ++ others) (in_content p) ≡ Some bytes
held_content [] others p bytes is = absurd (cc)
held_content (file ∷ files) others p bytes is = by (same_path p file.0) is (held_content files others p bytes)
  where
    by : (t : Bool) → cond t (Some file.1) (held_at files p) ≡ Some bytes
        → (held_at files p ≡ Some bytes → held_at (map (file_in version_folder) (map content_file files) ++ others) (in_content p) ≡ Some bytes)
        → cond t (Some file.1) (held_at (map (file_in version_folder) (map content_file files) ++ others) (in_content p)) ≡ Some bytes
    by true is later = is
    by false is later = later is

-- the bytes of a stored file stand at its content path
content_stands : (algorithm : Algorithm) (id text : List ℕ) (rows : List Row) (bytes : Path → List ℕ) (p : Path)
    → held_at (stored_files rows bytes) p ≡ Some (bytes p) → object_with (sought_by algorithm id rows bytes) text (in_content p) ≡ Some (Bytes (bytes p))
content_stands algorithm id text rows bytes p is =
    ap (λ o. file_or_folder o (leads_to (object_files algorithm text (stored_files rows bytes)) (in_content p)))
    (held_content (stored_files rows bytes) (inventory_files version_folder algorithm text ++ inventory_files [] algorithm text) p (bytes p) is)

content_is_deep : (p : Path) → IsBelowTop p → is_deep 2 (in_content p) ≡ true
content_is_deep [] named = absurd (named)
content_is_deep (n ∷ p) named = by (length p)
  where
    by : (k : ℕ) → nat_lt 2 (suc (suc (suc k))) ≡ true
    by k = grind (arith, nat_tests)

-- a file whose text is seen has some bytes
record HasText (longest : ℕ) (o : Option Entry) (text : List ℕ) : Type 0 where
  content : List ℕ
  stands : o ≡ Some (Bytes content)
  text_is : text_of_file longest content ≡ text

has_text : (longest : ℕ) (o : Option Entry) (text : List ℕ) → option_map (entry_measured longest) o ≡ Some (Bytes text) → HasText longest o text
has_text longest None text is = absurd (cc)
has_text longest (Some (Bytes b)) text is = record { content = b; stands = refl; text_is = cc }
has_text longest (Some Folder) text is = absurd (cc)
has_text longest (Some Special) text is = absurd (cc)

-- ---- lengths

module _ (longest : ℕ) (algorithm : Algorithm) (bytes seen : Path → List ℕ) (t : Tree) (short : HasShortFiles t) (rows : List Row) where
  -- what is known of a path
  record IsKnown (p : Path) : Type 0 where
    fits : length (bytes p) < 2 ^ 64
    named : IsBelowTop p
    text : seen p ≡ text_of_file longest (bytes p)

  as_long : (row : Row) → IsKnown row.path → IsKnown (stored_path rows row)
      → read_digest algorithm seen (stored_path rows row) ≡ read_digest algorithm seen row.path
      → option_map (entry_measured longest) (t (in_content (stored_path rows row))) ≡ Some (Bytes (seen (stored_path rows row)))
      → IsAsLong (TellsLengths algorithm longest) rows bytes t row
  as_long row here there alike is = record {
    content = it.content;
    stands = it.stands;
    stored = long;
    own = λ tells. long ∙ tells (length (bytes (stored_path rows row))) (length (bytes row.path)) there.fits here.fits
        (ap (digest_of algorithm) (sym there.text) ∙ alike ∙ ap (digest_of algorithm) here.text);
  }
    where
      it : HasText longest (t (in_content (stored_path rows row))) (seen (stored_path rows row))
      it = has_text longest (t (in_content (stored_path rows row))) (seen (stored_path rows row)) is

      long : length it.content ≡ length (bytes (stored_path rows row))
      long = same_length longest it.content (bytes (stored_path rows row)) (short (in_content (stored_path rows row)) it.content it.stands) there.fits
          (it.text_is ∙ there.text)

  all_as_long : All (λ row. IsKnown row.path) rows
      → All (λ row. read_digest algorithm seen (stored_path rows row) ≡ read_digest algorithm seen row.path) rows
      → All (λ row. option_map (entry_measured longest) (t (in_content (stored_path rows row))) ≡ Some (Bytes (seen (stored_path rows row)))) rows
      → All (IsAsLong (TellsLengths algorithm longest) rows bytes t) rows
  all_as_long known alike stand =
      both (λ row. IsKnown row.path)
      (λ row. IsKnown row.path → IsAsLong (TellsLengths algorithm longest) rows bytes t row)
      (IsAsLong (TellsLengths algorithm longest) rows bytes t) rows (λ row here later. later here) known
      (both (λ row. IsKnown (stored_path rows row))
      (λ row. IsKnown (stored_path rows row) → IsKnown row.path → IsAsLong (TellsLengths algorithm longest) rows bytes t row)
      (λ row. IsKnown row.path → IsAsLong (TellsLengths algorithm longest) rows bytes t row) rows (λ row there later. later there)
      (stored_holds IsKnown rows known)
      (both (λ row. read_digest algorithm seen (stored_path rows row) ≡ read_digest algorithm seen row.path)
      (λ row. option_map (entry_measured longest) (t (in_content (stored_path rows row))) ≡ Some (Bytes (seen (stored_path rows row))))
      (λ row. IsKnown (stored_path rows row) → IsKnown row.path → IsAsLong (TellsLengths algorithm longest) rows bytes t row) rows
      (λ row one is there here. as_long row here there one is) alike stand))

  -- what is seen of the object stands so
  all_stand : (id inventory : List ℕ) → ((q : Path) → tree_measured longest 2 t q ≡ object_with (sought_by algorithm id rows seen) inventory q)
      → All (λ row. IsKnown row.path) rows
      → All (λ row. option_map (entry_measured longest) (t (in_content (stored_path rows row))) ≡ Some (Bytes (seen (stored_path rows row)))) rows
  all_stand id inventory all known =
      both (λ row. IsKnown (stored_path rows row)) (λ row. held_at (stored_files rows seen) (stored_path rows row) ≡ Some (seen (stored_path rows row)))
      (λ row. option_map (entry_measured longest) (t (in_content (stored_path rows row))) ≡ Some (Bytes (seen (stored_path rows row)))) rows
      (λ row there held. at (stored_path rows row) there.named held) (stored_holds IsKnown rows known) (stored_are_held seen rows)
    where
      at : (p : Path) → IsBelowTop p → held_at (stored_files rows seen) p ≡ Some (seen p)
          → option_map (entry_measured longest) (t (in_content p)) ≡ Some (Bytes (seen p))
      at p named held =
          sym (cond-true (is_deep 2 (in_content p)) (option_map (entry_measured longest) (t (in_content p))) (t (in_content p)) (content_is_deep p named))
          ∙ all (in_content p) ∙ content_stands algorithm id inventory rows seen p held

pub alike_files_are_as_long : AlikeFilesAreAsLong
alike_files_are_as_long longest algorithm id paths bytes seen t short fits named texts alike = on alike.stands
  where
    known : All (λ row. IsKnown longest algorithm bytes seen t short alike.rows row.path) alike.rows
    known = on_rows (IsKnown longest algorithm bytes seen t short alike.rows) alike.rows
        (subst (All (IsKnown longest algorithm bytes seen t short alike.rows)) (sym alike.could.paths_are)
        (both (λ p. length (bytes p) < 2 ^ 64) (λ p. IsBelowTop p × (seen p ≡ text_of_file longest (bytes p)))
        (IsKnown longest algorithm bytes seen t short alike.rows) paths
        (λ p fit more. record { fits = fit; named = more.0; text = more.1 }) fits
        (both IsBelowTop (λ p. seen p ≡ text_of_file longest (bytes p)) (λ p. IsBelowTop p × (seen p ≡ text_of_file longest (bytes p))) paths
        (λ p n text. (n, text)) named texts)))

    on : IsObject (sought_by algorithm id alike.rows seen) (tree_measured longest 2 t)
        → All (IsAsLong (TellsLengths algorithm longest) alike.rows bytes t) alike.rows
    on (inventory, made, all) = all_as_long longest algorithm bytes seen t short alike.rows known alike.could.alike
        (all_stand longest algorithm bytes seen t short alike.rows id inventory all known)

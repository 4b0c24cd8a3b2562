-- What a quick audit finds hangs on the bytes of the object's own files alone.
use Rattle.std.proofs.Common.{◌≡◌, ℕ, List, [], ◌∷◌, sym, ◌∙◌, ap, refl, subst}
use Rattle.std.specs.Prelude.{All, map}
use Rattle.std.proofs.lemmas.List.Elements.{All-head, All-tail, All-weaker}
use Rattle.pt_compare.specs.Found.{IsFound, IsObject, Sought}
use Rattle.pt_compare.specs.declared.difference.Comparison.{Comparison}
use Rattle.pt_object.specs.Algorithm.{digest_of}
use Rattle.pt_object.specs.Distinct.{distinct}
use Rattle.pt_object.specs.FilePaths.{File, row_paths}
use Rattle.pt_object.specs.Inventory.{inventory_text}
use Rattle.pt_object.specs.Object.{stored_files, stored_path}
use Rattle.pt_object.specs.declared.algorithm.Algorithm.{Algorithm}
use Rattle.pt_object.specs.declared.rows.Row.{Row}
use Rattle.pt_quick.specs.Quick.{CouldBe, IsAlikeOf, IsFoundWith, read_digest, sought_by}
use Rattle.pt_quick.specs.QuickLaws.{OtherBytesArentRead}
use Rattle.pt_quick.proofs.Stored.{both, distinct_holds, on_rows, stored_holds}
use Rattle.pt_tree.specs.Path.{Path}
use Rattle.pt_tree.specs.Tree.{Tree}

files_same : (bytes other : Path → List ℕ) (rows : List Row) → All (λ row. bytes row.path ≡ other row.path) rows
    → map {B = File} (λ row. (row.path, bytes row.path)) rows ≡ map {B = File} (λ row. (row.path, other row.path)) rows
files_same bytes other [] agree = refl
files_same bytes other (row ∷ rows) agree =
    let P : Row → Type 0 = λ row. bytes row.path ≡ other row.path in
    λ i. (row.path, All-head P row rows agree i) ∷ files_same bytes other rows (All-tail P row rows agree) i

pub stored_same : (bytes other : Path → List ℕ) (rows : List Row) → All (λ row. bytes row.path ≡ other row.path) rows
    → stored_files rows bytes ≡ stored_files rows other
stored_same bytes other rows agree =
    files_same bytes other (distinct rows) (distinct_holds (λ row. bytes row.path ≡ other row.path) [] rows agree)

module _ (algorithm : Algorithm) (id : List ℕ) (paths : List Path) (bytes other : Path → List ℕ) (agree : All (λ p. bytes p ≡ other p) paths) where
  agree_on : (rows : List Row) → row_paths rows ≡ paths → All (λ row. bytes row.path ≡ other row.path) rows
  agree_on rows are = on_rows (λ p. bytes p ≡ other p) rows (subst (All (λ p. bytes p ≡ other p)) (sym are) agree)

  sought_same : (rows : List Row) → row_paths rows ≡ paths → sought_by algorithm id rows bytes ≡ sought_by algorithm id rows other
  sought_same rows are = λ i. record {
    algorithm = algorithm;
    text_with = λ meta. inventory_text id rows meta algorithm;
    stored = stored_same bytes other rows (agree_on rows are) i;
  }

  could_same : (rows : List Row) → CouldBe algorithm paths bytes rows → CouldBe algorithm paths other rows
  could_same rows could = record {
    paths_are = could.paths_are;
    digests = could.digests;
    alike = both (λ row. bytes (stored_path rows row) ≡ other (stored_path rows row))
        (λ row. read_digest algorithm bytes (stored_path rows row) ≡ read_digest algorithm other row.path)
        (λ row. read_digest algorithm other (stored_path rows row) ≡ read_digest algorithm other row.path) rows
        (λ row stored is. ap (digest_of algorithm) (sym stored) ∙ is)
        (stored_holds (λ p. bytes p ≡ other p) rows (agree_on rows could.paths_are))
        (both (λ row. bytes row.path ≡ other row.path)
        (λ row. read_digest algorithm bytes (stored_path rows row) ≡ read_digest algorithm bytes row.path)
        (λ row. read_digest algorithm bytes (stored_path rows row) ≡ read_digest algorithm other row.path) rows
        (λ row same is. is ∙ ap (digest_of algorithm) same) (agree_on rows could.paths_are) could.alike);
  }

  alike_same : (t : Tree) → IsAlikeOf algorithm id paths bytes t → IsAlikeOf algorithm id paths other t
  alike_same t alike = record {
    rows = alike.rows;
    could = could_same alike.rows alike.could;
    stands = subst (λ (sought : Sought). IsObject sought t) (sought_same alike.rows alike.could.paths_are) alike.stands;
  }

  found_same : (t : Tree) (finding : Comparison) → IsFoundWith algorithm id paths bytes t finding → IsFoundWith algorithm id paths other t finding
  found_same t finding found = record {
    rows = found.rows;
    could = could_same found.rows found.could;
    found = subst (λ (sought : Sought). IsFound sought t finding) (sought_same found.rows found.could.paths_are) found.found;
  }

pub other_bytes : OtherBytesArentRead
other_bytes algorithm id paths bytes other t finding agree is = record {
  same = (
    λ e. alike_same algorithm id paths bytes other agree t (is.same.0 e),
    λ alike. is.same.1 (alike_same algorithm id paths other bytes
        (All-weaker (λ p. bytes p ≡ other p) (λ p. other p ≡ bytes p) (λ p e. sym e) paths agree) t alike),
  );
  absent = is.absent;
  found = found_same algorithm id paths bytes other agree t finding is.found;
}

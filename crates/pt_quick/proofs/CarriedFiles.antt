-- The files that a walk by lengths carries are those of a walk over the bytes, seen by lengths.
use Rattle.std.proofs.Common.{◌≡◌, ℕ, List, [], ◌∷◌, ◌++◌, Bool, true, false, refl, sym, ◌∙◌, ap, subst}
use Rattle.std.specs.Prelude.{All, cond, map, Option, Some, None, is_some, unwrap_or}
use Rattle.std.specs.Option.{option_map}
use Rattle.std.proofs.lemmas.Bool.{true≢false}
use Rattle.std.proofs.lemmas.List.{map-append}
use Rattle.std.proofs.lemmas.List.Elements.{All-append, All-cons, All-nil, All-weaker}
use Rattle.pt_object.specs.FilePaths.{File}
use Rattle.pt_object.specs.Holding.{held_at}
use Rattle.pt_object.specs.Object.{bytes_in, row_of_file, rows_of}
use Rattle.pt_object.specs.declared.algorithm.Algorithm.{Algorithm}
use Rattle.pt_object.specs.declared.rows.Row.{Row}
use Rattle.pt_quick.specs.Measured.{text_of_file}
use Rattle.pt_quick.specs.QuickLaws.{CarriedFilesAreSeen}
use Rattle.pt_quick.specs.SitesMeasured.{file_seen}
use Rattle.pt_tree.specs.Forest.{Dir, File as FileNode, Forest, Other, dir, file, none, other}
use Rattle.pt_tree.specs.Path.{IsBelowTop, Path, same_path}
use Rattle.pt_tree.proofs.AtPaths.{path_itself}
use Rattle.pt_walk.specs.Object.{Entry, entries, entries_in, files}

-- ---- what is held

held_seen : (longest : ℕ) (fs : List File) (p : Path) → held_at (map (file_seen longest) fs) p ≡ option_map (text_of_file longest) (held_at fs p)
held_seen longest [] p = refl
held_seen longest (f ∷ fs) p = by (same_path p f.0) (held_seen longest fs p)
  where
    by : (t : Bool) → held_at (map (file_seen longest) fs) p ≡ option_map (text_of_file longest) (held_at fs p)
        → cond t (Some (text_of_file longest f.1)) (held_at (map (file_seen longest) fs) p)
        ≡ option_map (text_of_file longest) (cond t (Some f.1) (held_at fs p))
    by true later = refl
    by false later = later

are_held : (algorithm : Algorithm) (fs : List File) → All (λ row. is_some (held_at fs row.path) ≡ true) (rows_of algorithm fs)
are_held algorithm [] = All-nil (λ row. is_some (held_at [] row.path) ≡ true)
are_held algorithm (f ∷ fs) =
    All-cons (λ row. is_some (held_at (f ∷ fs) row.path) ≡ true) (row_of_file algorithm f) (rows_of algorithm fs)
    (ap (λ t. is_some (cond t (Some f.1) (held_at fs f.0))) (path_itself f.0))
    (All-weaker (λ row. is_some (held_at fs row.path) ≡ true) (λ row. is_some (held_at (f ∷ fs) row.path) ≡ true)
    (λ row is. by row (same_path row.path f.0) is) (rows_of algorithm fs) (are_held algorithm fs))
  where
    by : (row : Row) (t : Bool) → is_some (held_at fs row.path) ≡ true → is_some (cond t (Some f.1) (held_at fs row.path)) ≡ true
    by row true is = refl
    by row false is = is

texts_are : (longest : ℕ) (algorithm : Algorithm) (fs : List File)
    → All (λ row. bytes_in (map (file_seen longest) fs) row.path ≡ text_of_file longest (bytes_in fs row.path)) (rows_of algorithm fs)
texts_are longest algorithm fs =
    All-weaker (λ row. is_some (held_at fs row.path) ≡ true)
    (λ row. bytes_in (map (file_seen longest) fs) row.path ≡ text_of_file longest (bytes_in fs row.path))
    (λ row is. ap (λ o. unwrap_or o []) (held_seen longest fs row.path) ∙ by (held_at fs row.path) is) (rows_of algorithm fs) (are_held algorithm fs)
  where
    by : (o : Option (List ℕ)) → is_some o ≡ true → unwrap_or (option_map (text_of_file longest) o) [] ≡ text_of_file longest (unwrap_or o [])
    by None is = absurd (true≢false (sym is))
    by (Some b) is = refl

-- ---- their paths

below_top : (path : Path) (n : List ℕ) → IsBelowTop (path ++ n ∷ [])
below_top [] n = tt
below_top (m ∷ path) n = tt

files_append : (xs ys : List Entry) → files (xs ++ ys) ≡ files xs ++ files ys
files_append [] ys = refl
files_append ((path, FileNode bytes) ∷ xs) ys = ap (λ (fs : List File). (path, bytes) ∷ fs) (files_append xs ys)
files_append ((path, Dir inside) ∷ xs) ys = files_append xs ys
files_append ((path, Other) ∷ xs) ys = files_append xs ys

are_below : (algorithm : Algorithm) (path : Path) (f : Forest) → All (λ row. IsBelowTop row.path) (rows_of algorithm (files (entries_in path f)))
are_below algorithm path none = All-nil (λ row. IsBelowTop row.path)
are_below algorithm path (file name bytes after) =
    All-cons (λ row. IsBelowTop row.path) (row_of_file algorithm (path ++ name ∷ [], bytes)) (rows_of algorithm (files (entries_in path after)))
    (below_top path name) (are_below algorithm path after)
are_below algorithm path (other name after) = are_below algorithm path after
are_below algorithm path (dir name inside after) =
    subst (All (λ row. IsBelowTop row.path))
    (sym (ap (rows_of algorithm) (files_append (entries_in (path ++ name ∷ []) inside) (entries_in path after))
    ∙ map-append (row_of_file algorithm) (files (entries_in (path ++ name ∷ []) inside)) (files (entries_in path after))))
    (All-append (λ row. IsBelowTop row.path) (rows_of algorithm (files (entries_in (path ++ name ∷ []) inside)))
    (rows_of algorithm (files (entries_in path after))) (are_below algorithm (path ++ name ∷ []) inside) (are_below algorithm path after))

pub carried_files : CarriedFilesAreSeen
carried_files longest algorithm object stored = record {
  texts = texts_are longest algorithm (files (entries object));
  named = are_below algorithm [] object;
  stored = stored;
}

-- The files of an object that was scanned: each row's file stands in the source, and the row has its digest and length.
use Rattle.std.proofs.Common.{◌≡◌, ℕ, zero, suc, Bool, true, false, List, [], ◌∷◌, ◌++◌, refl, ap, sym, ◌∙◌, subst, cond, length, map}
use Rattle.std.specs.Prelude.{Option, None, Some, slice_get, unwrap_or}
use Rattle.pt_object.specs.Algorithm.{digest_of}
use Rattle.pt_object.specs.Object.{row_of_file}
use Rattle.pt_object.specs.declared.rows.Row.{Row}
use Rattle.pt_tree.specs.Forest.{Forest, none, dir_at, file_at, is_proper}
use Rattle.pt_tree.specs.Path.{Path}
use Rattle.pt_walk.proofs.Paths.{reads_below}
use Rattle.pt_walk.specs.Left.{bytes_at, inside_at}
use Rattle.pt_walk.specs.Object.{Entry, entries, files, without_shorties}
use Rattle.pt_walk.specs.Trail.{names_to}
use Rattle.pt_walk.specs.declared.frame.Frame.{Frame}
use Rattle.pt_plan.specs.Job.{Job}
use Rattle.pt_plan.specs.Store.{pairtree_of}
use Rattle.pt_plan.specs.TurnMake.{path_of_source}
use Rattle.pt_plan.specs.declared.object.Object.{Object}
use Rattle.pt_invariant.specs.SourceInvariant.{HasScanned, object_at}
use Rattle.pt_invariant.proofs.source.EntriesThere.{AreThere, all_there, file_of, file_stands, front_there, gathered_there}

pub get_map_back : {X Y : Type 0} → (f : X → Y) (xs : List X) (n : ℕ) (y : Y) → slice_get (map f xs) n ≡ Some y
    → (x : X) × (slice_get xs n ≡ Some x) × (f x ≡ y)
get_map_back f [] n y is = absurd (cc)
get_map_back f (x ∷ xs) zero y is = (x, refl, (let same : f x ≡ y = cc in same))
get_map_back f (x ∷ xs) (suc n) y is = get_map_back f xs n y is

-- a directory of a proper tree is proper
inside_proper : (top : Forest) (path : Path) (o : Option Forest) → dir_at top path ≡ o → is_proper top ≡ true → is_proper (unwrap_or o none) ≡ true
inside_proper top path None is proper = refl
inside_proper top path (Some f) is proper = (reads_below top f path [] is).1 proper

pub entries_there : (gathered : Bool) (top : Forest) (site own : Path) → is_proper top ≡ true
    → AreThere (inside_at top (cond gathered site own)) [] (entries (cond gathered (without_shorties (inside_at top site)) (inside_at top own)))
entries_there true top site own proper = gathered_there (inside_at top site) [] (inside_proper top site _ refl proper)
entries_there false top site own proper = all_there (inside_at top own) [] (inside_proper top own _ refl proper)

-- what stands in a directory stands in the tree
pub file_in : (top : Forest) (at : Path) (o : Option Forest) → dir_at top at ≡ o → (front left : List Entry) (k : ℕ) (path : Path) (bytes : List ℕ)
    → AreThere (unwrap_or o none) [] (front ++ left) → slice_get (files front) k ≡ Some (path, bytes) → file_at top (at ++ path) ≡ Some bytes
file_in top at None is front left k path bytes there one = absurd (let nothing = (file_of front k (front_there none [] front left there) one).stands in cc)
file_in top at (Some f) is front left k path bytes there one = file_stands top f at front left k there (λ below. (reads_below top f at below is).0) one

-- the file of a row
pub record RowFile (job : Job) (top : Forest) (at : Path) (row : Row) : Type 0 where
  pub bytes : List ℕ
  pub stands : file_at top (at ++ row.path) ≡ Some bytes
  pub here : bytes_at top (at ++ row.path) ≡ bytes
  pub digest : row.digest ≡ digest_of job.algorithm bytes
  pub long : row.length ≡ length bytes

pub row_file : (job : Job) (source : Forest) (object : Object) (site : List Frame) {rows : List Row} {empty : ℕ} (left : List Entry) (n : ℕ) (row : Row)
    → is_proper (pairtree_of source) ≡ true
    → HasScanned job (object_at source object site) rows empty left → slice_get rows n ≡ Some row
    → RowFile job (pairtree_of source) (path_of_source object site) row
row_file job source object site left n row proper scanned is =
    let top = pairtree_of source in
    let at = path_of_source object site in
    let one = get_map_back (row_of_file job.algorithm) (files scanned.front) n row (sym (ap (λ (l : List Row). slice_get l n) scanned.rows_are) ∙ is) in
    let file = one.0 in
    let there = subst (AreThere (inside_at top at) []) scanned.all (entries_there object.gathered top _ (names_to site) proper) in
    let stands = file_in top at _ refl scanned.front left n file.0 file.1 there one.1 in
    let same : file.0 ≡ row.path = ap (λ (r : Row). r.path) one.2 in
    let stood : file_at top (at ++ row.path) ≡ Some file.1 = sym (ap (λ (p : Path). file_at top (at ++ p)) same) ∙ stands in
    record {
      bytes = file.1;
      stands = stood;
      here = ap (λ o. unwrap_or o []) stood;
      digest = sym (ap (λ (r : Row). r.digest) one.2);
      long = sym (ap (λ (r : Row). r.length) one.2);
    }

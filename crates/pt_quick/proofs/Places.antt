-- What stands at an object's place, and the inventory that is read there.
use Rattle.std.proofs.Common.{◌≡◌, ◌∙◌, ◌++◌, ℕ, List, [], ◌∷◌, Bool, true, false, refl, sym, ap, subst, append-nil}
use Rattle.std.specs.Prelude.{All, IfOk, IfSome, IsOk, Ok, Err, Option, None, Some, IsSome, Result, String, cond}
use Rattle.std.specs.Global.{Global, Vec}
use Rattle.std.specs.Option.{ForSome, option_map, option_map_or}
use Rattle.std.specs.Result.{result_ok}
use Rattle.std.specs.Str.{IsUtf8}
use Rattle.std.specs.String.{string_bytes, string_vec}
use Rattle.std.proofs.lemmas.Bool.{true≢false}
use Rattle.std.proofs.lemmas.List.Elements.{All-cons, All-head, All-nil, All-tail}
use Rattle.std.proofs.lemmas.Result.{IfOk-weaker}
use Rattle.pt_compare.specs.Beside.{OpensStanding}
use Rattle.pt_compare.specs.Bytes.{IsAllLeft, left_in}
use Rattle.pt_compare.specs.Found.{IsFound, version_inventory}
use Rattle.pt_compare.specs.Marks.{inside}
use Rattle.pt_compare.specs.Root.{Lacks, Stands, same_kind}
use Rattle.pt_compare.specs.declared.difference.Comparison.{Comparison}
use Rattle.pt_compare.specs.declared.difference.Comparison.TheVariants as found
use Rattle.pt_compare.specs.declared.scanned.ScannedObject.{ScannedObject}
use Rattle.pt_compare.proofs.Roots.{seen_stands, top_stands}
use Rattle.pt_object.specs.FilePaths.{row_paths}
use Rattle.pt_object.specs.declared.rows.Row.{Row}
use Rattle.pt_plan.specs.TurnStart.{is_dir_kind}
use Rattle.pt_plan.specs.declared.fault.Fault.{Fault}
use Rattle.pt_quick.specs.Claimed.{claimed_in}
use Rattle.pt_quick.specs.Quick.{ClaimsIn, CouldBeOf, IsQuick, IsTextAt, source_digest}
use Rattle.pt_quick.specs.ReadAlike.{HasRead}
use Rattle.pt_quick.specs.declared.claimed.ClaimedFiles.{ClaimedFiles}
use Rattle.pt_quick.proofs.Sized.{are_alike, have_digests, same_paths}
use Rattle.pt_quick.proofs.Looking.{found_absent, found_claimed, found_unclaimed, sought_with}
use Rattle.pt_tree.specs.Forest.{Dir, File, Forest, Node, Other, file_at, kind_at, kind_of, node_at}
use Rattle.pt_tree.specs.Name.{AreNames}
use Rattle.pt_tree.specs.Path.{Path}
use Rattle.pt_tree.specs.PathOrder.{part_in_order}
use Rattle.pt_tree.specs.Source.{IsSeen, Reading, tree_in}
use Rattle.pt_tree.specs.Tree.{Bytes, bytes_of, entry_of, tree_of}
use Rattle.pt_tree.specs.declared.kind.Kind.{Kind}
use Rattle.pt_tree.specs.declared.kind.Kind.TheVariants as kind
use Rattle.pt_tree.proofs.AtPaths.{bytes_at}

-- ---- the inventory that is read

-- where a file was opened and read to its end, its text is told
pub text_read : (before after : Option Reading) (path : Path) (bytes : Vec ℕ) (text : Option (List ℕ)) → OpensStanding path before after true
    → IsAllLeft after bytes → (IsUtf8 bytes.items → text ≡ Some bytes.items) → IsTextAt (tree_in before) path text
unfolding IsTextAt IsAllLeft
text_read None after path bytes text opened left is = λ r told. absurd (cc)
text_read (Some s) after path bytes text opened left is = λ r told b stands utf8.
    let tree : s.tree ≡ r = cc in
    let file : file_at s.tree path ≡ Some b = sym (bytes_at s.tree path) ∙ ap (λ (f : Forest). bytes_of (tree_of f path)) tree ∙ ap bytes_of stands in
    let all : bytes.items ≡ b = left b (ap left_in opened.1 ∙ file) in
    is (subst IsUtf8 (sym all) utf8) ∙ ap (λ (x : List ℕ). Some x) all

-- a file's bytes are its text, where they are one
pub text_told : {E : Type 0} (r : Result (String Global) E) (bytes : Vec ℕ) (text : Option (String Global)) → IfOk r (λ t. string_vec t ≡ bytes)
    → (IsUtf8 bytes.items → IsOk r) → text ≡ result_ok r → IsUtf8 bytes.items → option_map string_bytes text ≡ Some bytes.items
text_told (Ok t) bytes text ok succeeds is utf8 = ap (option_map string_bytes) is ∙ ap (λ (b : Vec ℕ). Some b.items) ok
text_told (Err e) bytes text ok succeeds is utf8 = absurd (let h = succeeds utf8 in cc)

-- where none stands, none is
pub text_lacks : (tree : Option Forest) (path : Path) (text : Option (List ℕ)) → Lacks tree (path, kind.File) → IsTextAt tree path text
unfolding IsTextAt
text_lacks tree path text lacks = λ r told b stands utf8. absurd (on b (node_at (Dir r) path) stands (lacks r told))
  where
    on : (b : List ℕ) (o : Option Node) → option_map entry_of o ≡ Some (Bytes b) → option_map_or (same_kind kind.File) (option_map kind_of o) false ≡ false → ⊥
    on b None stands apart = absurd (cc)
    on b (Some (File bytes)) stands apart = true≢false apart
    on b (Some (Dir d)) stands apart = absurd (cc)
    on b (Some Other) stands apart = absurd (cc)

-- the folder from which on is looked stands
pub folder_stands : (tree : Option Forest) (place folder : Path) (k : Kind) → IsSeen tree place (Some k) → folder ≡ cond (is_dir_kind (Some k)) place []
    → Stands tree (folder, kind.Dir)
folder_stands tree place folder kind.Dir seen is = subst (λ (p : Path). Stands tree (p, kind.Dir)) (sym is) (seen_stands tree place kind.Dir seen)
folder_stands tree place folder kind.File seen is = subst (λ (p : Path). Stands tree (p, kind.Dir)) (sym is) (top_stands tree)
folder_stands tree place folder kind.Other seen is = subst (λ (p : Path). Stands tree (p, kind.Dir)) (sym is) (top_stands tree)

-- what the inventory claims
pub claims_some : (root : Option Forest) (object : ScannedObject) (path : Path) (text : List ℕ) (claimed : Option (List Row))
    → path ≡ object.to.now ++ version_inventory → IsTextAt root path (Some text) → All AreNames (row_paths object.rows.now)
    → claimed ≡ claimed_in object.algorithm text object.rows.now → ClaimsIn root object claimed
unfolding IsTextAt ClaimsIn
claims_some root object path text claimed at told names is = λ r there inventory stands utf8.
    let found : Some text ≡ Some inventory = told r there inventory (ap (tree_of r) at ∙ stands) utf8 in
    let same : text ≡ inventory = cc in
    (names, is ∙ ap (λ (b : List ℕ). claimed_in object.algorithm b object.rows.now) same)

pub claims_none : (root : Option Forest) (object : ScannedObject) (path : Path) (claimed : Option (List Row))
    → path ≡ object.to.now ++ version_inventory → IsTextAt root path None → ClaimsIn root object claimed
unfolding IsTextAt ClaimsIn
claims_none root object path claimed at told = λ r there inventory stands utf8.
    let none : None ≡ Some inventory = told r there inventory (ap (tree_of r) at ∙ stands) utf8 in
    absurd (cc)

-- what it claims could be the rows of the object
pub could_be : (object : ScannedObject) (text : List ℕ) (o : Option ClaimedFiles)
    → option_map (λ files. files.rows) o ≡ claimed_in object.algorithm text object.rows.now → IfSome o (λ files. CouldBeOf object files.rows)
could_be object text None is = tt
could_be object text (Some files) is = record {
  paths_are = same_paths object.algorithm text object.rows.now files.rows (sym is);
  digests = have_digests object.algorithm text object.rows.now files.rows (sym is);
  alike = λ read own. are_alike object.algorithm text read object.rows.now files.rows own (sym is);
}

-- ---- what is asked for a comparison

pub all_by_paths : (P : Path → Type 0) (rows told : List Row) → row_paths told ≡ row_paths rows → All (λ row. P row.path) rows → All (λ row. P row.path) told
all_by_paths P [] [] paths all = All-nil (λ row. P row.path)
all_by_paths P (row ∷ rows) [] paths all = All-nil (λ row. P row.path)
all_by_paths P [] (other ∷ told) paths all = absurd (cc)
all_by_paths P (row ∷ rows) (other ∷ told) paths all =
    let path : other.path ≡ row.path = cc in
    let later : row_paths told ≡ row_paths rows = cc in
    All-cons (λ row. P row.path) other told (subst P (sym path) (All-head (λ row. P row.path) row rows all))
    (all_by_paths P rows told later (All-tail (λ row. P row.path) row rows all))

-- what is known to be a directory stands
pub known_dir : (tree next : Option Forest) (place : Path) (k : Kind) (b : Bool) → next ≡ tree → b ≡ is_dir_kind (Some k) → IsSeen tree place (Some k)
    → b ≡ true → Stands next (place, kind.Dir)
known_dir tree next place kind.Dir b same is seen told =
    subst (λ (t : Option Forest). Stands t (place, kind.Dir)) (sym same) (seen_stands tree place kind.Dir seen)
known_dir tree next place kind.File b same is seen told = absurd (true≢false (sym told ∙ is))
known_dir tree next place kind.Other b same is seen told = absurd (true≢false (sym told ∙ is))

-- ---- what is found

some_there : (r : Forest) (place : Path) (k : Kind) → kind_at r place ≡ Some k → IsSome (inside r place [])
some_there r place k seen = subst (λ (p : Path). IsSome (tree_of r p)) (sym (append-nil place)) (on (node_at (Dir r) place) seen)
  where
    on : (o : Option Node) → option_map kind_of o ≡ Some k → IsSome (option_map entry_of o)
    on None h = absurd (cc)
    on (Some x) h = refl

none_there : (r : Forest) (place : Path) → kind_at r place ≡ None → inside r place [] ≡ None
none_there r place seen = ap (tree_of r) (append-nil place) ∙ on (node_at (Dir r) place) seen
  where
    on : (o : Option Node) → option_map kind_of o ≡ None → option_map entry_of o ≡ None
    on None h = refl
    on (Some x) h = absurd (cc)

-- so it is of the trees that are told
abbrev pub Tells : Option Forest → Option Forest → ScannedObject → Comparison → Type 0
Tells source root object finding = ForSome source (λ s. ForSome root (λ r. IsQuick object s (inside r object.to.now) finding))

abbrev pub Finds : Option Forest → Option Forest → ScannedObject → List Row → Comparison → Type 0
Finds source root object rows finding =
    ForSome source (λ s. ForSome root (λ r. IsFound (sought_with object rows s) (inside r object.to.now) finding))

module _ (source root next : Option Forest) (object : ScannedObject) (order : part_in_order (row_paths object.rows.now) ≡ true)
    (own : ForSome source (λ s. All (HasRead (source_digest object s)) object.rows.now)) (same : next ≡ root) where
  pub tells_claimed : (rows : List Row) (k : Kind) (result : Result Comparison Fault) → IsSeen root object.to.now (Some k) → ClaimsIn root object (Some rows)
      → CouldBeOf object rows → IfOk result (Finds source next object rows) → IfOk result (Tells source root object)
  unfolding ClaimsIn
  tells_claimed rows k result seen claims could is =
      IfOk-weaker result (Finds source next object rows) (Tells source root object)
      (λ finding all s told r there.
      found_claimed object order s (inside r object.to.now) (own s told) rows finding (claims r there) could (some_there r object.to.now k (seen r there))
      (all s told r (same ∙ there))) is

  pub tells_unclaimed : (k : Kind) (result : Result Comparison Fault) → IsSeen root object.to.now (Some k) → ClaimsIn root object None
      → IfOk result (Finds source next object object.rows.now) → IfOk result (Tells source root object)
  unfolding ClaimsIn
  tells_unclaimed k result seen claims is =
      IfOk-weaker result (Finds source next object object.rows.now) (Tells source root object)
      (λ finding all s told r there.
      found_unclaimed object order s (inside r object.to.now) (own s told) finding (claims r there) (some_there r object.to.now k (seen r there))
      (all s told r (same ∙ there))) is

pub tells_absent : (source root : Option Forest) (object : ScannedObject) → part_in_order (row_paths object.rows.now) ≡ true
    → ForSome source (λ s. All (HasRead (source_digest object s)) object.rows.now) → IsSeen root object.to.now None
    → Tells source root object found.Absent
tells_absent source root object order own seen = λ s told r there.
    found_absent object order s (inside r object.to.now) (own s told) (none_there r object.to.now (seen r there))

-- What stands at the files of a layout, by what is read there.
use Rattle.std.proofs.Common.{◌≡◌, ◌≢◌, ◌<◌, ◌≤◌, ◌+◌, ℕ, zero, suc, Bool, true, false, All, List, [], refl, ap, sym, ◌∙◌, subst, arith, inl, inr, length, take}
use Rattle.std.specs.Prelude.{IfOk, Option, None, codes, is_some, Some, Ok, Result, slice_get}
use Rattle.std.specs.Option.{ForSome, option_map, option_and_then}
use Rattle.std.specs.Cmp.Lexicographic.{other_text, same_text}
use Rattle.std.specs.Str.{bytes_eq}
use Rattle.std.proofs.lemmas.List.Elements.{All-nil, All-push}
use Rattle.std.proofs.lemmas.Bool.{true≢false}
use Rattle.std.proofs.lemmas.List.{take_all}
use Rattle.pt_invariant.proofs.source.InPairtree.{some_same}
use Rattle.pt_invariant.proofs.source.RootChecks.{peeked_whole}
use Rattle.pt_invariant.proofs.Tests.{take_one}
use Rattle.pt_invariant.specs.DestInvariant.{HasRootFiles}
use Rattle.pt_invariant.specs.RefusalLaws.{HasOtherFile, IsNoFolder}
use Rattle.pt_object.specs.Holding.{IsFree}
use Rattle.pt_object.specs.RootFiles.{root_files_of}
use Rattle.pt_move.proofs.Outcomes.{reading_of}
use Rattle.pt_object.specs.FilePaths.{File as RootFile}
use Rattle.pt_plan.specs.Carried.{is_folder_or_free}
use Rattle.pt_plan.specs.Job.{Job}
use Rattle.pt_plan.specs.Roots.{storage_root}
use Rattle.pt_plan.specs.TurnStart.{is_dir_kind, is_file_kind}
use Rattle.pt_plan.specs.TurnWalk.{in_root}
use Rattle.pt_tree.specs.Forest.{Dir, File, Forest, Node, Other, as_file, file_at, find, kind_at, kind_of, node_at}
use Rattle.pt_tree.specs.Path.{Path}
use Rattle.pt_tree.specs.Source.{IsRead, IsSeen, Reading, after_open, tree_in}
use Rattle.pt_tree.specs.Tree.{Bytes, Entry, Folder, bytes_of, entry_of}
use Rattle.pt_tree.specs.declared.faults.TreeFault.{TreeFault}
use Rattle.pt_tree.specs.declared.kind.Kind.{Kind}
use Rattle.pt_tree.specs.declared.kind.Kind.TheVariants as kind
use Rattle.pt_audit.specs.Layout.{IsFolder, IsOfAnother, IsOfLayout, IsSo, TellsFile, root_of}

abbrev IsSame : Option Entry → List ℕ → Bool → Type 0
IsSame o bytes true = o ≡ Some (Bytes bytes)
IsSame o bytes false = o ≢ Some (Bytes bytes)

-- ---- the top

-- nothing stands below where nothing stands
free_top : (standing : Forest) → kind_at standing storage_root ≡ None → IsFree (root_of standing) []
free_top standing none path = by (find standing (codes "ocfl")) none
  where
    by : (o : Option Node) → option_map kind_of (option_and_then (λ node. node_at node []) o) ≡ None
        → option_map entry_of (option_and_then (λ node. node_at node path) o) ≡ None
    by None is = refl
    by (Some node) is = absurd (cc)

folder_top : (standing : Forest) → kind_at standing storage_root ≡ Some kind.Dir → IsFolder standing
folder_top standing is = by (node_at (Dir standing) storage_root) is
  where
    by : (o : Option Node) → option_map kind_of o ≡ Some kind.Dir → option_map entry_of o ≡ Some Folder
    by None is = absurd (cc)
    by (Some (File _)) is = absurd (cc)
    by (Some (Dir _)) is = refl
    by (Some Other) is = absurd (cc)

no_folder : (standing : Forest) (here : Option Kind) → kind_at standing storage_root ≡ here → is_some here ≡ true → is_dir_kind here ≡ false
    → is_folder_or_free (root_of standing []) ≡ false
no_folder standing here is some other = by (node_at (Dir standing) storage_root) (ap is_some is ∙ some) (ap is_dir_kind is ∙ other)
  where
    by : (o : Option Node) → is_some (option_map kind_of o) ≡ true → is_dir_kind (option_map kind_of o) ≡ false
        → is_folder_or_free (option_map entry_of o) ≡ false
    by None some other = absurd (true≢false (sym some))
    by (Some (File _)) some other = refl
    by (Some (Dir _)) some other = absurd (true≢false other)
    by (Some Other) some other = refl

no_kind : (here : Option Kind) → is_some here ≡ false → here ≡ None
no_kind None is = refl
no_kind (Some _) is = absurd (true≢false is)

dir_kind : (here : Option Kind) → is_dir_kind here ≡ true → here ≡ Some kind.Dir
dir_kind (Some kind.Dir) is = refl
dir_kind None is = absurd (cc)
dir_kind (Some kind.File) is = absurd (cc)
dir_kind (Some kind.Other) is = absurd (cc)

module _ (told : Option Forest) (job : Job) (top : Path) (here : Option Kind) (at : top ≡ storage_root) (seen : IsSeen told top here) where
  seen_there : ForSome told (λ f. kind_at f storage_root ≡ here)
  seen_there = λ f e. subst (λ (p : Path). kind_at f p ≡ here) at (seen f e)

  pub no_root : is_some here ≡ false → ForSome told (IsOfLayout job)
  no_root is = λ f e. inl (free_top f (seen_there f e ∙ no_kind here is))

  pub root_is_folder : is_dir_kind here ≡ true → ForSome told IsFolder
  root_is_folder is = λ f e. folder_top f (seen_there f e ∙ dir_kind here is)

  -- what is no directory is another root
  pub other_root : is_some here ≡ true → is_dir_kind here ≡ false → ForSome told (IsOfAnother job)
  other_root some other = λ f e. IsNoFolder (no_folder f here (seen_there f e) some other)

-- ---- a file

bytes_there : (o : Option Node) → bytes_of (option_map entry_of o) ≡ option_and_then as_file o
bytes_there None = refl
bytes_there (Some (File _)) = refl
bytes_there (Some (Dir _)) = refl
bytes_there (Some Other) = refl

kind_there : (o : Option Node) (bytes : List ℕ) → option_map entry_of o ≡ Some (Bytes bytes) → is_file_kind (option_map kind_of o) ≡ true
kind_there None bytes is = absurd (cc)
kind_there (Some (File _)) bytes is = refl
kind_there (Some (Dir _)) bytes is = absurd (cc)
kind_there (Some Other) bytes is = absurd (cc)

-- what isn't one has no bytes
pub no_file : (told : Option Forest) (whole path : Path) (bytes : List ℕ) (here : Option Kind) → whole ≡ in_root path → is_file_kind here ≡ false
    → IsSeen told whole here → ForSome told (TellsFile path bytes false)
no_file told whole path bytes here at other seen = λ f e is.
    let there = subst (λ (p : Path). kind_at f p ≡ here) at (seen f e) in
    true≢false (sym (kind_there (node_at (Dir f) (in_root path)) bytes is) ∙ ap is_file_kind there ∙ other)

-- what is read of it tells whether it has these
block_tells : (o : Option Entry) (bytes block : List ℕ) (same : Bool) → length bytes < 8192 → option_map (take 8192) (bytes_of o) ≡ Some block
    → bytes_eq block bytes ≡ same → IsSame o bytes same
block_tells o bytes block true short read is = peeked_whole o (read ∙ ap (λ (b : List ℕ). Some b) (same_text block bytes (sym is))) short
block_tells o bytes block false short read is = λ stands.
    let all : take 8192 bytes ≡ bytes = take_all 8192 bytes (omega (arith, short)) in
    let found : bytes ≡ block = some_same bytes block (ap (λ (b : List ℕ). Some b) (sym all)
    ∙ sym (ap (λ (e : Option Entry). option_map (take 8192) (bytes_of e)) stands) ∙ read) in
    other_text block bytes (sym is) (sym found)

pub file_told : (told after : Option Reading) (whole path : Path) (bytes block x : List ℕ) (same : Bool) → length bytes < 8192 → whole ≡ in_root path
    → after ≡ option_map (after_open whole) told → IsRead after block → x ≡ block → same ≡ bytes_eq x bytes
    → ForSome (tree_in told) (TellsFile path bytes same)
unfolding IsRead
file_told told after whole path bytes block x same short at opened read is test = λ f e. by f (reading_of told e)
  where
    by : (f : Forest) → (s : Reading) × (told ≡ Some s) × (s.tree ≡ f) → TellsFile path bytes same f
    by f (s, told_is, tree) =
        let there = read (after_open whole s) (opened ∙ ap (option_map (after_open whole)) told_is) in
        let here = subst (λ (p : Path). option_map (take 8192) (file_at s.tree p) ≡ Some block) at there in
        let now = subst (λ (g : Forest). option_map (take 8192) (file_at g (in_root path)) ≡ Some block) tree here in
        tells same (block_tells (root_of f path) bytes block same short (ap (option_map (take 8192)) (bytes_there (node_at (Dir f) (in_root path))) ∙ now)
        (ap (λ (b : List ℕ). bytes_eq b bytes) (sym is) ∙ sym test))
      where
        tells : (same : Bool) → IsSame (root_of f path) bytes same → TellsFile path bytes same f
        tells true it = it
        tells false it = it

-- ---- the three of them

module _ (told : Option Forest) (job : Job) where
  abbrev Has : ℕ → Forest → Type 0
  Has n f = HasRootFiles job (root_of f) n

  pub none_yet : ForSome told (Has 0)
  none_yet = λ f e. All-nil (λ (file : RootFile). root_of f file.0 ≡ Some (Bytes file.1))

  pub one_more : (n : ℕ) (path : Path) (bytes : List ℕ) → slice_get (root_files_of job.tuples) n ≡ Some (path, bytes) → ForSome told (TellsFile path bytes true)
      → ForSome told (Has n) → ForSome told (Has (n + 1))
  one_more n path bytes is there files = λ f e.
      let next : n + 1 ≡ suc n = omega arith in
      subst (λ (k : ℕ). HasRootFiles job (root_of f) k) (sym next)
      (subst (λ (l : List RootFile). All (λ (file : RootFile). root_of f file.0 ≡ Some (Bytes file.1)) l)
      (sym (take_one n (root_files_of job.tuples) (path, bytes) is))
      (All-push (λ (file : RootFile). root_of f file.0 ≡ Some (Bytes file.1)) (take n (root_files_of job.tuples)) (path, bytes) (files f e) (there f e)))

  pub all_there : (n : ℕ) → 3 ≤ n → n ≤ 3 → ForSome told IsFolder → ForSome told (Has n) → ForSome told (IsOfLayout job)
  all_there n least most folder files = λ f e. inr (
    folder f e,
    subst (λ (k : ℕ). HasRootFiles job (root_of f) k) (let same : n
        ≡ 3 = omega (arith, least, most) in same) (files f e),
  )

  pub another : (n : ℕ) (path : Path) (bytes : List ℕ) → slice_get (root_files_of job.tuples) n ≡ Some (path, bytes) → ForSome told IsFolder
      → ForSome told (TellsFile path bytes false) → ForSome told (IsOfAnother job)
  another n path bytes is folder other = λ f e. HasOtherFile n (path, bytes) (folder f e) is (other f e)

-- over the same tree
pub told_so : (told now : Option Forest) (path : Path) (bytes : List ℕ) (same so : Bool) → now ≡ told → same ≡ so → ForSome now (TellsFile path bytes same)
    → ForSome told (TellsFile path bytes so)
told_so told now path bytes same so tree is there =
    subst (λ (t : Option Forest). ForSome t (TellsFile path bytes so)) tree (subst (λ (b : Bool). ForSome now (TellsFile path bytes b)) is there)

-- what an answer says of the layout
pub layout_told : (told : Option Forest) (job : Job) (answer : Result Bool TreeFault) (same so : Bool) → answer ≡ Ok same → same ≡ so
    → IfOk answer (λ same. ForSome told (IsSo job same)) → ForSome told (IsSo job so)
layout_told told job answer same so is so_is it = subst (λ (b : Bool). ForSome told (IsSo job b)) so_is
    (subst (λ (r : Result Bool TreeFault). IfOk r (λ same. ForSome told (IsSo job same))) is it)

-- there are three
pub no_fourth : (job : Job) (n : ℕ) → n < 3 → slice_get (root_files_of job.tuples) n ≡ None → ⊥
no_fourth job zero within is = absurd (cc)
no_fourth job (suc zero) within is = absurd (cc)
no_fourth job (suc (suc zero)) within is = absurd (cc)
no_fourth job (suc (suc (suc n))) within is = absurd (omega (arith, within))

pub ruleset layouts = (no_root, root_is_folder, other_root, no_file, file_told, none_yet)

-- A check of a share does its steps.
use Rattle.std.proofs.Common.{◌≡◌, ◌≤◌, ◌∙◌, ℕ, Bool, true, false, cond, List, [], ◌∷◌, ◌++◌, arith, ap, inl, inr, refl, subst, sym}
use Rattle.std.proofs.KnownBytes.{Appends-trans}
use Rattle.std.specs.Io.KnownBytes.{Appends}
use Rattle.std.specs.Prelude.{◌⊎◌, ⊤, Option, None, Some, take}
use Rattle.pt_check.proofs.SharedFolders.{no_steps}
use Rattle.pt_check.proofs.StepsDone.{Comes, Does, Holds, comes_as, comes_both, comes_same, fails, has_failed, where_told}
use Rattle.pt_check.proofs.StepsWalked.{behind_of, enters_comes, unlisted_comes, visits_comes}
use Rattle.pt_check.specs.Lines.{End, Told, line_text}
use Rattle.pt_check.specs.Prefix.{prefix_trouble}
use Rattle.pt_check.specs.ShareLaws.{CheckDoesItsSteps}
use Rattle.pt_check.specs.Shares.{is_own_way}
use Rattle.pt_check.specs.Steps.{
  Step,
  Tells as TellsStep,
  counted,
  none_held,
  prefix_known,
  steps_at,
  steps_if,
  steps_of,
  steps_of_prefix,
  steps_of_root,
  steps_text,
  told_if,
  without_held,
}
use Rattle.pt_check.specs.Visits.{
  CheckState,
  Finds,
  Folder,
  LooksAll,
  ReadsPrefix,
  Says,
  Tells,
  TellsIf,
  TellsUnlisted,
  VisitsFolder,
  Where,
  missing,
  prefix_path,
  root_folder,
  starting,
}
use Rattle.pt_check.specs.declared.numbers.Numbers.{Numbers}
use Rattle.pt_check.specs.declared.trouble.Trouble.{Trouble}
use Rattle.pt_check.specs.declared.trouble.Trouble.TheVariants as trouble
use Rattle.pt_check.specs.declared.wants.Wants.{Wants}
use Rattle.pt_name.specs.Share.{Portion}
use Rattle.pt_plan.specs.Store.{pairtree_root, prefix_file, version_file}
use Rattle.pt_plan.specs.TurnStart.{is_dir_kind, is_file_kind, kind_in}
use Rattle.pt_tree.specs.Forest.{Forest, listing_of}
use Rattle.pt_tree.specs.Path.{Path}
use Rattle.pt_tree.specs.declared.kind.Kind.{Kind}
use Rattle.pt_tree.specs.declared.kind.Kind.TheVariants as kind
use Rattle.pt_walk.specs.Left.{bytes_at, inside_at}

module _ (says : Says) (share : Portion) (wants : Wants) where
  where_comes : (own : Bool) (path : Path) (o : Option Trouble) (P : Type 0) (a b : CheckState) → Where own (TellsIf path o) a b
      → Comes (steps_if own (told_if path o)) P P a b
  where_comes own path o P a b tells =
      let does = where_told own path o a b tells in
      let same = does.1.0 in
      (omega (arith, same), λ still few p. (does.0, same, p))

  -- the file of the prefix
  prefix_comes : (own : Bool) (what : Option Kind) (bytes prefix : List ℕ) (a b : CheckState) → ReadsPrefix own what bytes prefix a b
      → Comes (steps_if own (steps_of_prefix what bytes)) ⊤ (prefix ≡ prefix_known what bytes) a b
  prefix_comes own None bytes prefix a b (same, is) =
      subst (λ (l : List Step). Comes l ⊤ (prefix ≡ []) a b) (sym (no_steps own))
      (comes_as [] ⊤ ⊤ ⊤ (prefix ≡ []) a b (λ p. p) (λ p. is) (subst (λ (s : CheckState). Comes [] ⊤ ⊤ a s) (sym same) (comes_same ⊤ a a refl)))
  prefix_comes own (Some kind.File) bytes prefix a b (inl (tells, known, goes)) =
      comes_as (steps_if own (told_if prefix_path (prefix_trouble (take 8192 bytes)))) ⊤ ⊤ ⊤ (prefix ≡ prefix_known (Some kind.File) bytes) a b
      (λ p. p) (λ p. known)
      (where_comes own prefix_path (prefix_trouble (take 8192 bytes)) ⊤ a b tells)
  prefix_comes own (Some kind.File) bytes prefix a b (inr (failed, is)) =
      let rose = has_failed prefix_path a b failed in (omega (arith, rose), λ still few p. absurd (omega (arith, rose, still, few)))
  prefix_comes own (Some kind.Dir) bytes prefix a b (tells, is) =
      comes_as (steps_if own (TellsStep prefix_path trouble.Prefix ∷ [])) ⊤ ⊤ ⊤ (prefix ≡ []) a b (λ p. p) (λ p. is)
      (where_comes own prefix_path (Some trouble.Prefix) ⊤ a b tells)
  prefix_comes own (Some kind.Other) bytes prefix a b (tells, is) =
      comes_as (steps_if own (TellsStep prefix_path trouble.Prefix ∷ [])) ⊤ ⊤ ⊤ (prefix ≡ []) a b (λ p. p) (λ p. is)
      (where_comes own prefix_path (Some trouble.Prefix) ⊤ a b tells)

  -- the folder `pairtree_root`
  root_comes : (prefix : List ℕ) (tree : Forest) (a b : CheckState)
      → cond (is_dir_kind (kind_in (listing_of tree) pairtree_root))
      (VisitsFolder says share wants (is_own_way share []) (root_folder prefix) (inside_at tree (pairtree_root ∷ [])) a b)
      (Where (is_own_way share []) (Tells (Told (pairtree_root ∷ []) trouble.Missing)) a b)
      → Comes (steps_of_root share wants prefix tree) ⊤ ⊤ a b
  root_comes prefix tree a b looks = by (is_dir_kind (kind_in (listing_of tree) pairtree_root)) looks
    where
      own : Bool
      own = is_own_way share []

      inside : Forest
      inside = inside_at tree (pairtree_root ∷ [])

      root : Folder
      root = root_folder prefix

      by : (d : Bool)
          → cond d (VisitsFolder says share wants own root inside a b) (Where own (Tells (Told (pairtree_root ∷ []) trouble.Missing)) a b)
          → Comes (cond d (steps_at share wants own root inside none_held) (steps_if own (TellsStep (pairtree_root ∷ []) trouble.Missing ∷ []))) ⊤ ⊤ a b
      by true visits = comes_as (steps_at share wants own root inside none_held) (Holds own root.here a none_held)
          (Holds own root.here b (behind_of says share wants root inside none_held)) ⊤ ⊤ a b
          (λ p e. tt) (λ p. tt)
          (enters_comes says share wants own root inside none_held a b (λ f s h. visits_comes says share wants inside own root f h s b) visits)
      by false tells = where_comes own (pairtree_root ∷ []) (Some trouble.Missing) ⊤ a b tells

  looks_comes : (tree : Forest) (a b : CheckState) → LooksAll says share wants (is_own_way share []) tree a b → Comes (steps_of share wants tree) ⊤ ⊤ a b
  looks_comes tree a b (n, prefix, reads, (m, version, rest)) =
      let own = is_own_way share [] in
      let what = kind_in (listing_of tree) prefix_file in
      let bytes = bytes_at tree prefix_path in
      let known = prefix_known what bytes in
      let lacks = missing (is_file_kind (kind_in (listing_of tree) version_file)) in
      let first = steps_if own (steps_of_prefix what bytes) in
      let second = steps_if own (told_if (version_file ∷ []) lacks) in
      let version_comes = where_comes own (version_file ∷ []) lacks (prefix ≡ known) n m version in
      let read = prefix_comes own what bytes prefix a n reads in
      let root = root_comes prefix tree m b rest in
      let last : Comes (steps_of_root share wants known tree) (prefix ≡ known) ⊤ m b = (
        root.0,
        (λ still few is.
            let does = root.1 still few tt in
            (subst (λ (p : List ℕ). Does (steps_of_root share wants p tree) m b) is does.0, does.1, tt)),
      ) in
      comes_both first (second ++ steps_of_root share wants known tree) ⊤ (prefix ≡ known) ⊤ a n b read
      (comes_both second (steps_of_root share wants known tree) (prefix ≡ known) (prefix ≡ known) ⊤ n m b version_comes last)

pub check_does_its_steps : CheckDoesItsSteps
check_does_its_steps says share wants tree numbers a b checks same few = by checks.whole checks.first checks.looks
  where
    start : CheckState
    start = starting share a

    last : CheckState
    last = checks.last

    still : fails last ≤ fails a
    still = let ends = checks.failed in omega (arith, ends, same)

    own : Bool
    own = is_own_way share []

    done : Comes (steps_of share wants tree) ⊤ ⊤ start last
        → (without_held numbers ≡ without_held (counted (steps_of share wants tree) a.numbers))
        × Appends a.held b.held (steps_text (steps_of share wants tree) ++ line_text (End numbers))
    done comes =
        let does = (comes.1 still few tt).0 in (
          ap without_held checks.numbers_are ∙ does.0,
          subst (λ (n : Numbers). Appends a.held b.held (steps_text (steps_of share wants tree) ++ line_text (End n))) (sym checks.numbers_are)
              (Appends-trans a.held last.held b.held (steps_text (steps_of share wants tree)) (line_text (End last.numbers)) does.1 checks.held),
        )

    by : (part : Bool) (first : CheckState)
        → (Finds says [] part start first × LooksAll says share wants own tree first last) ⊎ TellsUnlisted says [] false start last
        → (without_held numbers ≡ without_held (counted (steps_of share wants tree) a.numbers))
        × Appends a.held b.held (steps_text (steps_of share wants tree) ++ line_text (End numbers))
    by part first (inr tells) = done (unlisted_comes says [] false (steps_of share wants tree) ⊤ ⊤ start last last tells (omega arith))
    by true first (inl ((is, goes), looks)) =
        done (subst (λ (s : CheckState). Comes (steps_of share wants tree) ⊤ ⊤ s last) is (looks_comes says share wants tree first last looks))
    by false first (inl (tells, looks)) =
        done (unlisted_comes says [] true (steps_of share wants tree) ⊤ ⊤ start first last tells (looks_comes says share wants tree first last looks).0)

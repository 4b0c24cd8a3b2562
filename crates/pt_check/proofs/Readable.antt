-- No run over a store of which a check told nothing fails for its source.
use Rattle.std.proofs.Common.{◌≡◌, ◌∙◌, ℕ, Bool, true, false, List, [], ◌∷◌, Option, None, Some, inl, inr, refl, sym, ap, subst}
use Rattle.std.specs.Option.{option_and_then, option_map}
use Rattle.std.specs.Prelude.{◌⊎◌, unwrap_or}
use Rattle.pt_check.specs.Clean.{IsCleanPrefix, IsCleanStore, NoRunFailsForSource, QuietCheckMeansCleanStore, QuietCheckMeansReadableStore}
use Rattle.pt_check.specs.Goes.{GoesBy}
use Rattle.pt_check.specs.Visits.{GoesAt, CheckState, prefix_path}
use Rattle.pt_check.proofs.Goes.{GoesIn, StandsFrom, file_ends, goes_there, none_stands, other_ends}
use Rattle.pt_check.proofs.Quiet.{GoesInStore, store_met}
use Rattle.pt_plan.proofs.FoundKinds.{kind_listed}
use Rattle.pt_plan.specs.Store.{pairtree_root, prefix_file}
use Rattle.pt_plan.specs.SourceFailures.{FailsAtOpen, FailsWhereAsked, IsAskedFor, StandsAt}
use Rattle.pt_plan.specs.TurnStart.{kind_in}
use Rattle.pt_tree.specs.Failing.{Failing, failing_paths}
use Rattle.pt_tree.specs.Forest.{Node, File, Dir, Other, none, as_dir, find, kind_of, listing_of, node_at}
use Rattle.pt_tree.specs.Path.{Path}
use Rattle.pt_tree.specs.declared.kind.Kind.{Kind}
use Rattle.pt_tree.specs.declared.kind.Kind.TheVariants as kind
use Rattle.pt_walk.specs.Left.{bytes_at}

pub clean_store : QuietCheckMeansCleanStore
clean_store says wants tree numbers a b checks nothing = let met = store_met says wants tree numbers a b checks nothing in (met.0, met.1)

-- of what stands at or below `pairtree_root`
below_goes : (w : Option (Path → Bool)) (o : Option Node) (q : Path) → GoesBy w (pairtree_root ∷ [])
    → GoesIn w (pairtree_root ∷ []) (unwrap_or (option_and_then as_dir (option_and_then (λ n. node_at n []) o)) none) → StandsFrom o q
    → GoesBy w (pairtree_root ∷ q)
below_goes w None q root inside stands = absurd (none_stands q stands)
below_goes w (Some (File bytes)) [] root inside stands = root
below_goes w (Some (File bytes)) (x ∷ q) root inside stands = absurd (file_ends bytes x q stands)
below_goes w (Some (Dir tree)) [] root inside stands = root
below_goes w (Some (Dir tree)) (x ∷ q) root inside stands = goes_there w (pairtree_root ∷ []) tree inside x q stands
below_goes w (Some Other) q root inside stands = absurd (other_ends q stands)

-- and of the file of the prefix
prefix_goes : (o : Option Node) (k : Option Kind) (bytes : List ℕ) (a : CheckState) → k ≡ option_map kind_of o → IsCleanPrefix k bytes
    → (k ≡ Some kind.File → GoesAt prefix_path a)
    → StandsFrom o [] → GoesAt prefix_path a
prefix_goes o (Some kind.File) bytes a is clean goes stands = goes refl
prefix_goes o (Some kind.Dir) bytes a is clean goes stands = absurd clean
prefix_goes o (Some kind.Other) bytes a is clean goes stands = absurd clean
prefix_goes None None bytes a is clean goes stands = absurd (none_stands [] stands)
prefix_goes (Some node) None bytes a is clean goes stands = absurd (cc)

pub readable_store : QuietCheckMeansReadableStore
readable_store says wants tree numbers a b checks nothing reads = by
  where
    clean : IsCleanStore wants tree
    clean = (store_met says wants tree numbers a b checks nothing).0

    goes : GoesInStore wants tree a
    goes = (store_met says wants tree numbers a b checks nothing).2

    by : (p : Path) → IsAskedFor p → StandsAt tree p → GoesAt p a
    by [] of stands = goes.top
    by (name ∷ q) (inl is) stands =
        let there : StandsFrom (find tree pairtree_root) q = subst (λ (n : List ℕ). StandsFrom (find tree n) q) is stands in
        subst (λ (n : List ℕ). GoesAt (n ∷ q) a) (sym is) (below_goes a.failing (find tree pairtree_root) q goes.root (goes.inside reads) there)
    by (name ∷ q) (inr (is, ends)) stands =
        let named : StandsFrom (find tree prefix_file) q = subst (λ (n : List ℕ). StandsFrom (find tree n) q) is stands in
        let there : StandsFrom (find tree prefix_file) [] = subst (StandsFrom (find tree prefix_file)) ends named in
        let file = prefix_goes (find tree prefix_file) (kind_in (listing_of tree) prefix_file) (bytes_at tree prefix_path) a (kind_listed tree prefix_file)
        clean.prefix goes.prefix there in
        subst (λ (n : List ℕ). GoesAt (n ∷ q) a) (sym is) (subst (λ (r : Path). GoesAt (prefix_file ∷ r) a) (sym ends) file)

pub no_run_fails : NoRunFailsForSource
no_run_fails says wants tree numbers a b checks nothing reads old new tree_is same shut only = by old.failing refl only.failed
  where
    by : (f : Option Failing) → old.failing ≡ f → (new.failed ≡ old.failed) ⊎ (FailsAtOpen old ⊎ FailsWhereAsked old) → new.failed ≡ old.failed
    by f is (inl stays) = stays
    by f is (inr (inl fails)) = absurd (shut fails)
    by None is (inr (inr fails)) = absurd (shut (λ x some. absurd (cc)))
    by (Some f) is (inr (inr (p, of, stands, fails))) =
        let at : GoesAt p a = readable_store says wants tree numbers a b checks nothing reads p of (stands tree tree_is) in
        let goes : f.at p ≡ false = at f.at (sym same ∙ ap failing_paths is) in
        let bad : f.at p ≡ true = fails f is in
        absurd (cc)

-- Which identifiers of the list are unmet after each turn of a run over a source that tells: those that no site so far reads.
use Rattle.std.proofs.Common.{◌≡◌, ◌<◌, ℕ, zero, suc, Bool, true, false, List, [], ◌∷◌, ◌++◌, ◌∙◌, ap, arith, cond, length, map, refl, subst, sym, take}
use Rattle.std.specs.List.{list_any}
use Rattle.std.specs.Option.{ForSome}
use Rattle.std.specs.Prelude.{◌||◌, Option, None, Some, Ok, drop, nat_lt, slice_get}
use Rattle.std.specs.Str.{bytes_eq}
use Rattle.pt_name.specs.Unmet.{unless_it, unmet_by, without_any}
use Rattle.pt_tree.specs.Forest.{Forest, is_proper, listing_of}
use Rattle.pt_tree.specs.Source.{Reading, tree_in}
use Rattle.pt_walk.specs.Left.{Fits, inside_at}
use Rattle.pt_walk.specs.Site.{found}
use Rattle.pt_walk.specs.Sites.{Deep, Elsewhere, Listed, Past, Site, at_of}
use Rattle.pt_walk.specs.Trail.{is_trail, names_to, trail_path}
use Rattle.pt_walk.specs.declared.frame.Frame.{Frame}
use Rattle.pt_walk.specs.declared.site.Finding.{Finding}
use Rattle.pt_plan.specs.Job.{Job, form_of, reach_of}
use Rattle.pt_plan.specs.Met.{is_it, is_met, met_at, met_by_finding, met_by_visit, unless_met, unmet_after, unmet_among, unmet_in_store}
use Rattle.pt_plan.specs.Run.{Counts, Held, Kept, Run, turning}
use Rattle.pt_plan.specs.Store.{pairtree_of, prefix_of, sites_of}
use Rattle.pt_plan.specs.Turn.{Did, GoesOn, Make, Next, Place, Scan, Start as a_start, Turn, Walk}
use Rattle.pt_plan.specs.TurnMake.{MakeStep, MakesSidecar}
use Rattle.pt_plan.specs.TurnPlace.{FindsTuple, MakesTuple, PlaceStep, TellsEnd}
use Rattle.pt_plan.specs.TurnScan.{ScanStep, StartsInSite}
use Rattle.pt_plan.specs.TurnStart.{IsSame, IsStore, MakesRoot, StartStep}
use Rattle.pt_plan.specs.TurnWalk.{IsDeep, IsNew, IsPast, IsPresent, IsSkipped, LeadsOn, LeavesSite, PassesElsewhere, PassesEntry, WalkStep}
use Rattle.pt_plan.specs.DeviceStates.{Calls, DeviceStates}
use Rattle.pt_plan.specs.declared.phase.Phase.{Phase}
use Rattle.pt_plan.specs.declared.phase.Opening.TheVariants as opening
use Rattle.pt_plan.specs.declared.phase.Phase.TheVariants as phase
use Rattle.pt_plan.specs.declared.phase.Stage.TheVariants as stage
use Rattle.pt_invariant.specs.History.{History, done_after}
use Rattle.pt_invariant.specs.RunInvariant.{AreStates, IsHistory, RunInvariant, start_of}
use Rattle.pt_invariant.specs.SourceInvariant.{HasStarted, IsToJudge, SourcePart}
use Rattle.pt_invariant.proofs.Tests.{take_one}
use Rattle.pt_invariant.proofs.ends.NewRun.{new_run_holds_invariant}
use Rattle.pt_invariant.proofs.ends.TurnKeeps.{turned}
use Rattle.pt_invariant.proofs.held.EitherPhase.{after_root_file, after_root_item, after_sidecar, after_tuple_folder}
use Rattle.pt_invariant.proofs.source.InPairtree.{pairtree_proper}
use Rattle.pt_invariant.proofs.source.NewObject.{found_there}
use Rattle.pt_invariant.proofs.source.WalksKeep.{deep_next, done_at_shorty, elsewhere_next, none_at_end, none_at_entry, past_next}
use Rattle.pt_invariant.proofs.turns_left.EndsWithin.{turn_tree}
use Rattle.pt_move.proofs.Outcomes.{reading_of}
use Rattle.pt_move.specs.Runs.{Finished, NoTurn, OneMore, Turns}
use Rattle.pt_move.specs.Unmet.{AreUnmet, unmet_before}
use Rattle.pt_state.proofs.Words.{IsLayout, job_of}
use Rattle.pt_state.specs.declared.job.Job as own
use Rattle.pt_state.specs.declared.job.Report.{Report}

-- ---- one site more

or_none : (b : Bool) → (b || false) ≡ b
or_none true = refl
or_none false = refl

or_more : (b p q r : Bool) → p ≡ (q || r) → (b || p) ≡ ((b || q) || r)
or_more true p q r is = refl
or_more false p q r is = is

any_more : {X : Type 0} (test : X → Bool) (xs : List X) (x : X) → list_any test (xs ++ x ∷ []) ≡ (list_any test xs || test x)
any_more test [] x = or_none (test x)
any_more test (y ∷ ys) x = or_more (test y) _ _ _ (any_more test ys x)

module _ (job : Job) (prefix : List ℕ) where
  -- at none all are unmet
  none_met : (unmet : List (Option (List ℕ))) → map (unless_met job prefix []) unmet ≡ unmet
  none_met [] = refl
  none_met (None ∷ unmet) = ap (λ more. None ∷ more) (none_met unmet)
  none_met (Some id ∷ unmet) = ap (λ more. Some id ∷ more) (none_met unmet)

  module _ (sites : List Site) (site : Site) where
    one_more : (met : Option (List ℕ)) → met_by_visit job prefix site.0 site.1 ≡ met → (unmet : List (Option (List ℕ)))
        → map (unless_met job prefix (sites ++ site ∷ [])) unmet ≡ without_any met (map (unless_met job prefix sites) unmet)
    one_more met is [] = by met
      where
        by : (met : Option (List ℕ)) → [] ≡ without_any met []
        by None = refl
        by (Some x) = refl
    one_more None is (None ∷ unmet) = ap (λ more. None ∷ more) (one_more None is unmet)
    one_more (Some x) is (None ∷ unmet) = ap (λ more. None ∷ more) (one_more (Some x) is unmet)
    one_more None is (Some id ∷ unmet) = λ i. (ap (λ b. cond b None (Some id)) (same is) i) ∷ one_more None is unmet i
      where
        same : met_by_visit job prefix site.0 site.1 ≡ None → is_met job prefix (sites ++ site ∷ []) id ≡ is_met job prefix sites id
        same is = any_more (λ site. is_it id (met_by_visit job prefix site.0 site.1)) sites site
            ∙ ap (λ met. is_met job prefix sites id || is_it id met) is ∙ or_none (is_met job prefix sites id)
    one_more (Some x) is (Some id ∷ unmet) = λ i. (by (is_met job prefix sites id) (same is)) i ∷ one_more (Some x) is unmet i
      where
        same : met_by_visit job prefix site.0 site.1 ≡ Some x → is_met job prefix (sites ++ site ∷ []) id ≡ (is_met job prefix sites id || bytes_eq id x)
        same is = any_more (λ site. is_it id (met_by_visit job prefix site.0 site.1)) sites site
            ∙ ap (λ met. is_met job prefix sites id || is_it id met) is

        by : (b : Bool) → is_met job prefix (sites ++ site ∷ []) id ≡ (b || bytes_eq id x)
            → cond (is_met job prefix (sites ++ site ∷ []) id) None (Some id) ≡ unless_it x (cond b None (Some id))
        by true is = ap (λ b. cond b None (Some id)) is
        by false is = ap (λ b. cond b None (Some id)) is

-- the next site
module _ (job : Job) (source : Forest) (count : ℕ) (site : Site) (next : slice_get (sites_of (reach_of job) source) count ≡ Some site) where
  among_more : (met : Option (List ℕ)) → met_by_visit job (prefix_of source) site.0 site.1 ≡ met
      → without_any met (unmet_before job source count) ≡ unmet_before job source (suc count)
  among_more met is = sym (ap (unmet_among job (prefix_of source)) (take_one count (sites_of (reach_of job) source) site next)
      ∙ one_more job (prefix_of source) (take count (sites_of (reach_of job) source)) site met is (unmet_by job.share))

-- behind the last site they are those of the store
pub unmet_at_end : (job : Job) (source : Forest) (count : ℕ) → drop count (sites_of (reach_of job) source) ≡ []
    → unmet_before job source count ≡ unmet_in_store job source
unmet_at_end job source count none = ap (unmet_among job (prefix_of source)) (all_taken count (sites_of (reach_of job) source) none)
  where
    all_taken : {X : Type 0} (n : ℕ) (xs : List X) → drop n xs ≡ [] → take n xs ≡ xs
    all_taken zero [] none = refl
    all_taken (suc n) [] none = refl
    all_taken zero (x ∷ xs) none = absurd (cc)
    all_taken (suc n) (x ∷ xs) none = ap (λ more. x ∷ more) (all_taken n xs none)

-- ---- each turn

-- what is met where the trail stands is what is met at its site
met_there : (job : Job) (source : Forest) (prefix : List ℕ) (trail : List Frame) {count : ℕ} → is_proper (pairtree_of source) ≡ true → HasStarted source prefix
    → IsToJudge job source trail count
    → met_by_visit job (prefix_of source) (trail_path trail) (Listed (inside_at (pairtree_of source) (trail_path trail))) ≡ met_at job prefix trail
met_there job source prefix [] proper started judges = absurd (let some = judges.way.entered in omega (arith, some))
met_there job source prefix (frame ∷ frames) proper started judges =
    ap (met_by_finding (prefix_of source) (names_to frames)) (found_there job (pairtree_of source) frame frames proper judges.way.fits refl)
    ∙ ap (λ (p : List ℕ). met_by_finding p (names_to frames) (found frame.listing (at_of (names_to frames)) (form_of job))) (sym started.read)

module _ (job : Job) (past : History) (s : Reading) (prefix : List ℕ) where
  starts_unmet : {read : List ℕ} {here next : Phase} (held : Held) {calls : Calls} (unmet : List (Option (List ℕ)))
      → StartStep job here prefix read calls (Ok next)
      → SourcePart job past here prefix held s → AreUnmet job s.tree here past.count unmet
      → AreUnmet job s.tree next (done_after here held.trail next past.count) (unmet_after job here prefix held.trail unmet)
  starts_unmet held unmet (IsStore _ _) part it =
      sym (none_met job (prefix_of s.tree) (unmet_by job.share))
      ∙ ap (λ n. unmet_among job (prefix_of s.tree) (take n (sites_of (reach_of job) s.tree))) (sym part.at.1)
  starts_unmet held unmet (MakesRoot _ number item is) part it =
      after_root_item (λ p. AreUnmet job s.tree p (done_after (phase.Opening (opening.RootMake number)) held.trail p past.count) unmet) number
      (λ last. it) (λ more. it)
  starts_unmet held unmet (IsSame _ number path bytes is) part it =
      after_root_file (λ p. AreUnmet job s.tree p (done_after (phase.Opening (opening.RootCheck number)) held.trail p past.count) unmet) number
      (λ last. it) (λ more. it)
  starts_unmet held unmet _ part it = it

  -- a site that is judged
  judged_unmet : (trail : List Frame) {unmet : List (Option (List ℕ))} → is_proper s.tree ≡ true → HasStarted s.tree prefix
      → IsToJudge job s.tree trail past.count
      → unmet ≡ unmet_before job s.tree past.count → without_any (met_at job prefix trail) unmet ≡ unmet_before job s.tree (suc past.count)
  judged_unmet trail proper started judges it =
      ap (without_any (met_at job prefix trail)) it
      ∙ among_more job s.tree past.count (trail_path trail, Listed (inside_at (pairtree_of s.tree) (trail_path trail))) judges.here.site
      (met_at job prefix trail)
      (met_there job s.tree prefix trail (pairtree_proper s.tree started.store proper) started judges)

  walks_unmet : {here next : Phase} {held after : Held} {calls : Calls} (unmet : List (Option (List ℕ))) → WalkStep job prefix here held after calls (Ok next)
      → is_trail held.trail ≡ true → SourcePart job past here prefix held s → AreUnmet job s.tree here past.count unmet
      → AreUnmet job s.tree next (done_after here held.trail next past.count) (unmet_after job here prefix held.trail unmet)
  walks_unmet unmet (LeadsOn was _) _ part it = judged_unmet was.trail part.proper part.at.1 part.at.2 it
  walks_unmet unmet (IsSkipped was _ _) _ part it = judged_unmet was.trail part.proper part.at.1 part.at.2 it
  walks_unmet unmet (IsPresent was _ _ _ _) _ part it = judged_unmet was.trail part.proper part.at.1 part.at.2 it
  walks_unmet unmet (IsNew was _ _ _) _ part it = judged_unmet was.trail part.proper part.at.1 part.at.2 it
  walks_unmet unmet (IsPast was name e short last) _ part it = rw (done_at_shorty was.trail name past.count e short)
      (it ∙ among_more job s.tree past.count _ (past_next job s.tree was.trail name past.count
      (pairtree_proper s.tree part.at.1.store part.proper) e short last part.at.2)
      None refl)
  walks_unmet unmet (IsDeep was name e short last deep) is_one part it = rw (done_at_shorty was.trail name past.count e short)
      (it ∙ among_more job s.tree past.count _
      (deep_next job s.tree was.trail name past.count (pairtree_proper s.tree part.at.1.store part.proper) is_one e short last deep part.at.2) None refl)
  walks_unmet unmet (PassesElsewhere was name e short last deep apart) is_one part it = rw (done_at_shorty was.trail name past.count e short)
      (it ∙ among_more job s.tree past.count _
      (elsewhere_next job s.tree was.trail name past.count (pairtree_proper s.tree part.at.1.store part.proper) is_one e short last deep apart part.at.2)
      None refl)
  walks_unmet unmet (PassesEntry was item e apart) _ part it = rw (none_at_entry was.trail item past.count e apart) it
  walks_unmet unmet (LeavesSite was e _) _ part it = rw (none_at_end was.trail past.count e) it
  walks_unmet unmet _ _ _ it = it

  scans_unmet : {here : Phase} {held after : Held} {next : Phase} {calls : Calls} (unmet : List (Option (List ℕ)))
      → ScanStep job here held after calls (Ok next)
      → AreUnmet job s.tree here past.count unmet
      → AreUnmet job s.tree next (done_after here held.trail next past.count) (unmet_after job here prefix held.trail unmet)
  scans_unmet unmet (StartsInSite _ _ _) it = it
  scans_unmet unmet _ it = it

  makes_unmet : {here : Phase} {held after : Held} {calls : Calls} {next : Phase} (unmet : List (Option (List ℕ)))
      → MakeStep job here held after calls (Ok next)
      → AreUnmet job s.tree here past.count unmet
      → AreUnmet job s.tree next (done_after here held.trail next past.count) (unmet_after job here prefix held.trail unmet)
  makes_unmet {held = held} unmet (MakesSidecar _ object) it = after_sidecar
      (λ p. AreUnmet job s.tree p (done_after (phase.Carrying object stage.Rename) held.trail p past.count) unmet) job object (λ flat. it) (λ some. it)
  makes_unmet unmet _ it = it

  places_unmet : {counts : Counts} {here next : Phase} {held after : Held} {calls : Calls} (unmet : List (Option (List ℕ)))
      → PlaceStep job counts here held after calls (Ok next) → SourcePart job past here prefix held s → AreUnmet job s.tree here past.count unmet
      → AreUnmet job s.tree next (done_after here held.trail next past.count) (unmet_after job here prefix held.trail unmet)
  places_unmet unmet (MakesTuple was object number) part it = after_tuple_folder
      (λ p. AreUnmet job s.tree p (done_after (phase.Carrying object (stage.Tuples number)) was.trail p past.count) unmet) job object number (λ more. it)
      (λ last. it)
  places_unmet unmet (FindsTuple was object number) part it = after_tuple_folder
      (λ p. AreUnmet job s.tree p (done_after (phase.Carrying object (stage.Tuples number)) was.trail p past.count) unmet) job object number (λ more. it)
      (λ last. it)
  places_unmet unmet (TellsEnd was) part it = it ∙ unmet_at_end job s.tree past.count part.at.2
  places_unmet unmet _ part it = it

  pub follows_unmet : {counts : Counts} {here next : Phase} {held after : Held} {read : List ℕ} {calls : Calls} (unmet : List (Option (List ℕ)))
      → Next job counts here prefix held read after calls (Ok next) → is_trail held.trail ≡ true → SourcePart job past here prefix held s
      → AreUnmet job s.tree here past.count unmet
      → AreUnmet job s.tree next (done_after here held.trail next past.count) (unmet_after job here prefix held.trail unmet)
  follows_unmet {held = held} unmet (a_start turn) is_one part it = starts_unmet held unmet turn part it
  follows_unmet unmet (Walk turn) is_one part it = walks_unmet unmet turn is_one part it
  follows_unmet unmet (Scan turn) is_one part it = scans_unmet unmet turn it
  follows_unmet unmet (Make turn) is_one part it = makes_unmet unmet turn it
  follows_unmet unmet (Place turn) is_one part it = places_unmet unmet turn part it

-- ---- all turns

module _ (job : Job) (first : DeviceStates) (layout : IsLayout job.tuples) (well : AreStates first) where
  record UnmetSoFar (run : Run) (now : DeviceStates) (unmet : List (Option (List ℕ))) : Type 0 where
    past : History
    is : IsHistory job (start_of first) now run past
    tree : tree_in now.source ≡ tree_in first.source
    are : (s : Reading) → now.source ≡ Some s → AreUnmet job s.tree run.phase past.count unmet

  unmet_so_far : {count : ℕ} {run : Run} {now : DeviceStates} {unmet : List (Option (List ℕ))} → Turns job first count run now unmet → UnmetSoFar run now unmet
  unfolding RunInvariant Did
  unmet_so_far NoTurn =
      let begun = new_run_holds_invariant job first layout well in
      record { past = begun.0; is = begun.1; tree = refl; are = λ s told. tt }
  unmet_so_far (OneMore n run old new unmet after next before (GoesOn calls _ follows did counts)) =
      let so_far = unmet_so_far before in
      let kept : tree_in new.source ≡ tree_in old.source = turn_tree job run.phase (turning run.kept) after old new (Ok next)
      (GoesOn calls next follows did counts) in
      record {
        past = _;
        is = turned job so_far.past (start_of first) old new run after next calls follows did.0 counts so_far.is;
        tree = kept ∙ so_far.tree;
        are = λ s told.
            let was = reading_of old.source (sym kept ∙ ap tree_in told) in
            subst (λ (f : Forest). AreUnmet job f next (done_after run.phase run.kept.held.trail next so_far.past.count)
            (unmet_after job run.phase run.kept.prefix run.kept.held.trail unmet)) was.2
            (follows_unmet job so_far.past was.0 run.kept.prefix unmet follows so_far.is.held.trail.is_one (so_far.is.source was.0 was.1)
            (so_far.are was.0 was.1));
      }

-- at the end they are those that no site of the store reads
pub unmet_in_the_end : (job : own.Job) (first new : DeviceStates) (report : Report) (unmet : List (Option (List ℕ))) → IsLayout job.layout → AreStates first
    → Finished job first new report unmet → ForSome (tree_in first.source) (λ s. unmet ≡ unmet_in_store (job_of job) s)
unmet_in_the_end job first new report unmet layout well finished = λ s told.
    let so_far = unmet_so_far (job_of job) first layout well finished.turns in
    let now = reading_of new.source (so_far.tree ∙ told) in
    subst (λ (f : Forest). unmet ≡ unmet_in_store (job_of job) f) now.2 (so_far.are now.0 now.1)

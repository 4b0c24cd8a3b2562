-- What a run leaves that ends well.
use Rattle.std.proofs.Common.{
  inl,
  inr,
  ◌≡◌,
  ◌≤◌,
  ◌==◌,
  ◌+◌,
  ℕ,
  zero,
  suc,
  Bool,
  true,
  false,
  List,
  [],
  ◌∷◌,
  ◌++◌,
  refl,
  ap,
  sym,
  ◌∙◌,
  subst,
  append_assoc,
  arith,
  cond,
  drop,
  length,
}
use Rattle.std.specs.List.{list_all}
use Rattle.std.specs.Prelude.{◌&&◌, ◌⊎◌, Option, Some, Ok, nat_lt}
use Rattle.std.proofs.lemmas.Bool.{true≢false}
use Rattle.std.proofs.lemmas.List.{length-map}
use Rattle.pt_object.specs.Holding.{IsFree}
use Rattle.pt_object.specs.Root.{base}
use Rattle.pt_tree.specs.Dest.{Writing}
use Rattle.pt_tree.specs.Forest.{Forest}
use Rattle.pt_tree.specs.Source.{Reading}
use Rattle.pt_tree.specs.Tree.{Tree}
use Rattle.pt_plan.proofs.FreeWays.{way_in_base}
use Rattle.pt_plan.proofs.Growing.{all_items_are_all}
use Rattle.pt_plan.proofs.MovedIn.{roots_have_no_gaps}
use Rattle.pt_plan.specs.PlaceLaws.{IsRooted}
use Rattle.pt_plan.specs.Carried.{Carried, IsStart, IsUsable, after, after_all, all_carried, carried_among, is_way_free}
use Rattle.pt_plan.specs.Items.{item_of, items}
use Rattle.pt_plan.specs.Job.{Job, reach_of}
use Rattle.pt_plan.specs.Lines.{End, Line, all_lines, end_line, line_text, lines, log_of, text}
use Rattle.pt_plan.specs.Roots.{root_in, storage_root, with_root}
use Rattle.pt_plan.specs.Run.{Counts, Held, Kept, Run, turning}
use Rattle.pt_plan.specs.Store.{prefix_of, sites_of}
use Rattle.pt_plan.specs.Turn.{Did, Happens, Next, GoesOn, Start as a_start, Walk, Scan, Make, Place, counted}
use Rattle.pt_plan.specs.TurnMake.{MakesSidecar}
use Rattle.pt_plan.specs.TurnPlace.{MakesTuple, FindsTuple, TellsEnd, last_line}
use Rattle.pt_plan.specs.TurnScan.{StartsInSite}
use Rattle.pt_plan.specs.TurnStart.{MakesRoot, IsSame}
use Rattle.pt_plan.specs.TurnWalk.{OpensRoot}
use Rattle.pt_plan.specs.DeviceStates.{Calls, Changes, ChangesNothing, Puts, DeviceStates, tells}
use Rattle.pt_plan.specs.declared.phase.Phase.{Phase}
use Rattle.pt_plan.specs.declared.phase.Opening.TheVariants as opening
use Rattle.pt_plan.specs.declared.phase.Phase.TheVariants as phase
use Rattle.pt_plan.specs.declared.phase.Stage.TheVariants as stage
use Rattle.pt_invariant.specs.RunInvariant.{RunInvariant, HasTold, IsHistory, ItemsPart, Start}
use Rattle.pt_invariant.specs.DestInvariant.{DestPart, HasRootFiles, root_now}
use Rattle.pt_invariant.specs.SourceInvariant.{SourcePart}
use Rattle.pt_invariant.specs.EndLaws.{EndsWell, IsEnd, is_ended}
use Rattle.pt_invariant.specs.History.{History}
use Rattle.pt_invariant.proofs.source.InPairtree.{some_same}
use Rattle.pt_invariant.proofs.items.Telling.{both_tell, log_tells}
use Rattle.pt_invariant.proofs.dest.WaysLeft.{ways_left}

-- ---- the turn that ends the run

either_not : (this : Bool) (p q : Phase) → is_ended p ≡ false → is_ended q ≡ false → is_ended (cond this p q) ≡ false
either_not true _ _ one _ = one
either_not false _ _ _ two = two

-- it tells the end, and changes nothing
pub record IsLastTurn (counts : Counts) (here : Phase) (held after : Held) (calls : Calls) : Type 0 where
  pub phase_is : here ≡ phase.End
  pub calls_are : calls ≡ tells (last_line counts)
  pub held_is : after ≡ held

pub last_turn : {job : Job} {counts : Counts} {here : Phase} {prefix : List ℕ} {held : Held} {read : List ℕ} {after : Held} {calls : Calls} {next : Phase}
    → Next job counts here prefix held read after calls (Ok next) → is_ended next ≡ true → IsLastTurn counts here held after calls
last_turn (a_start (MakesRoot _ number _ _)) ended = absurd (true≢false (sym ended
    ∙ either_not (number == 5) (phase.Opening opening.RootRename) (phase.Opening (opening.RootMake (number + 1))) refl refl))
last_turn (a_start (IsSame _ number _ _ _)) ended = absurd (true≢false (sym ended
    ∙ either_not (number == 2) (phase.Opening opening.OpenRoot) (phase.Opening (opening.RootCheck (number + 1))) refl refl))
last_turn (Walk (OpensRoot _ _)) ended = absurd (cc)
last_turn (Scan (StartsInSite _ _ _)) ended = absurd (cc)
last_turn {job} (Make (MakesSidecar _ object)) ended = absurd (true≢false (sym ended
    ∙ either_not (job.tuples.count == 0) (phase.Carrying object stage.Rename) (phase.Carrying object (stage.Tuples 0)) refl refl))
last_turn {job} (Place (MakesTuple _ object number)) ended = absurd (true≢false (sym ended
    ∙ either_not (nat_lt (number + 1) job.tuples.count) (phase.Carrying object (stage.Tuples (number + 1))) (phase.Carrying object stage.Rename) refl refl))
last_turn {job} (Place (FindsTuple _ object number)) ended = absurd (true≢false (sym ended
    ∙ either_not (nat_lt (number + 1) job.tuples.count) (phase.Carrying object (stage.Tuples (number + 1))) (phase.Carrying object stage.Rename) refl refl))
last_turn (Place (TellsEnd _)) _ = record { phase_is = refl; calls_are = refl; held_is = refl }
last_turn _ ended = absurd (cc)

-- ---- all items are done

none_left : {X : Type 0} → (k : ℕ) (xs : List X) → drop k xs ≡ [] → length xs ≤ k
none_left zero xs none = let nothing = ap length none in omega (arith, nothing)
none_left (suc k) [] none = omega arith
none_left (suc k) (x ∷ xs) none = let later = none_left k xs none in omega (arith, later)

pub all_done : (job : Job) (source : Forest) {count : ℕ} → drop count (sites_of (reach_of job) source) ≡ [] → length (items job source) ≤ count
all_done job source {count} none =
    let few = none_left count (sites_of (reach_of job) source) none in
    let many = length-map (sites_of (reach_of job) source) (item_of job (prefix_of source)) in
    omega (arith, few, many)

-- ---- what the parts say then

-- the ways to objects are as free in a root as in what objects are put on there
ways_in_base : (job : Job) {root : Tree} (objects : List Carried) → IsRooted root
    → list_all (is_way_free job (base job.tuples root)) objects ≡ list_all (is_way_free job root) objects
ways_in_base _ [] _ = refl
ways_in_base job {root} (object ∷ objects) rooted =
    ap (λ b. b && list_all (is_way_free job (base job.tuples root)) objects) (way_in_base job root object rooted)
    ∙ ap (λ b. is_way_free job root object && b) (ways_in_base job objects rooted)

module _ (job : Job) (past : History) (held : Held) (prefix : List ℕ) (counts : Counts) (s : Reading) (t : Tree) (now : Writing)
    (source : SourcePart job past phase.End prefix held s) (dest : DestPart job past phase.End held t now)
    (items_are : ItemsPart job past phase.End counts s.tree (root_in t)) where
  all_are : (carried_among job s.tree (root_in t) past.count ≡ all_carried job s.tree (root_in t))
      × (after job s.tree (root_in t) past.count ≡ after_all job s.tree (root_in t))
      × (lines job s.tree (root_in t) past.count ≡ all_lines job s.tree (root_in t))
      × (log_of job s.tree (root_in t) ≡ text job s.tree (root_in t) past.count ++ line_text (end_line (lines job s.tree (root_in t) past.count)))
  all_are = all_items_are_all job s.tree (root_in t) past.count (all_done job s.tree source.at.2)

  placed_all : past.placed ≡ all_carried job s.tree (root_in t)
  placed_all = items_are.places.placed ∙ (all_are).0

  root_all : root_now job t past.placed ≡ after_all job s.tree (root_in t)
  root_all = ap (root_now job t) placed_all

  pub tree_all : now.tree ≡ with_root t (after_all job s.tree (root_in t))
  tree_all = dest.at.tree ∙ ap (with_root t) root_all

  rooted : IsRooted (root_in t)
  rooted = (roots_have_no_gaps t dest.started).1

  ways : list_all (is_way_free job (root_in t)) (all_carried job s.tree (root_in t)) ≡ true
  ways =
      sym (ways_in_base job (all_carried job s.tree (root_in t)) rooted)
      ∙ ways_left job (base job.tuples (root_in t)) now.tree (all_carried job s.tree (root_in t)) (all_carried job s.tree (root_in t)) dest.tree
      (ap root_in tree_all) (λ p on. on)

  target : IsFree t storage_root ⊎ HasRootFiles job (root_in t) 3 → IsFree (root_in t) [] ⊎ IsUsable job s.tree (root_in t)
  target (inl free) = inl free
  target (inr files) = inr (record { files = files; ways = ways })

  pub is_start : IsStart job s.tree (root_in t)
  is_start = record { store = source.at.1.store; prefix = source.at.1.good; target = target dest.at.root.root }

  pub log_all : (first : List ℕ) {last : List ℕ} → last ≡ (first ++ text job s.tree (root_in t) past.count) ++ line_text (last_line counts)
      → (told : List ℕ) × (last ≡ first ++ told) × (told ≡ log_of job s.tree (root_in t))
  log_all first is = (
    text job s.tree (root_in t) past.count ++ line_text (last_line counts),
    is ∙ append_assoc first (text job s.tree (root_in t) past.count) (line_text (last_line counts)),
    ap (λ (l : Line). text job s.tree (root_in t) past.count ++ line_text l) line_is ∙ sym (all_are).3,
  )
    where
      line_is : last_line counts ≡ end_line (lines job s.tree (root_in t) past.count)
      line_is i = End (items_are.lines_are.done i) (items_are.lines_are.present i) (items_are.lines_are.skipped i)

  pub counts_all : last_line counts ≡ end_line (all_lines job s.tree (root_in t))
  counts_all = (λ i. End (items_are.lines_are.done i) (items_are.lines_are.present i) (items_are.lines_are.skipped i)) ∙ ap end_line (all_are).2

-- ---- the law

-- a turn that tells a line puts it behind the log
put_behind : (line : Line) (old : List ℕ) {new : List ℕ} → Puts (Some line) (Some old) (Some new) → new ≡ old ++ line_text line
unfolding Puts
put_behind _ _ puts = puts

dest_same : {old new : Option Writing} → Changes ChangesNothing old new → new ≡ old
unfolding Changes
dest_same change = change

module _ (job : Job) (past : History) (start : Start) (old new : DeviceStates) (run : Run) (after : Kept) (s : Reading) (t : Tree) (now : Writing)
    (first last : List ℕ) (calls : Calls) where
  pub ended : IsHistory job start old run past → Next job (turning run.kept).counts run.phase run.kept.prefix run.kept.held after.prefix after.held calls
      (Ok phase.Ended) → Happens calls old new
      → after.counts ≡ counted calls.line (turning run.kept).counts
      → old.source ≡ Some s → start.dest ≡ Some t → new.dest ≡ Some now → start.log ≡ Some first → new.log ≡ Some last
      → ((told : List ℕ) × (last ≡ first ++ told) × IsEnd job s.tree t now.tree told) × (last_line after.counts ≡ end_line (all_lines job s.tree (root_in t)))
  ended is turn did counted_is source_is start_is dest_is first_is last_is = (
    (
      (told).0,
      (told).1,
      record {
        begins = is_start job past held run.kept.prefix counts s t now source dest items_are;
        free = dest.at.root.free;
        tree = tree_all job past held run.kept.prefix counts s t now source dest items_are;
        log = (told).2;
      },
    ),
    ap last_line (counted_is ∙ ap (λ (c : Calls). counted c.line (turning run.kept).counts) at.calls_are)
        ∙ counts_all job past held run.kept.prefix counts s t now source dest items_are,
  )
    where
      held : Held
      held = run.kept.held

      counts : Counts
      counts = run.kept.counts

      at : IsLastTurn (turning run.kept).counts run.phase held after.held calls
      at = last_turn turn refl

      source : SourcePart job past phase.End run.kept.prefix held s
      source = subst (λ here. SourcePart job past here run.kept.prefix held s) at.phase_is (is.source s source_is)

      had : (w : Writing) × (old.dest ≡ Some w) × DestPart job past run.phase held t w
      had = both_tell (DestPart job past run.phase held) start.dest old.dest start_is is.dest

      same : (had).0 ≡ now
      same = some_same (had).0 now (sym (had).1 ∙ sym (dest_same (subst (λ (c : Calls). Changes c.change old.dest new.dest) at.calls_are did.dest)) ∙ dest_is)

      dest : DestPart job past phase.End held t now
      dest = subst (λ w. DestPart job past phase.End held t w) same (subst (λ here. DestPart job past here held t (had).0) at.phase_is (had).2)

      items_are : ItemsPart job past phase.End counts s.tree (root_in t)
      items_are = subst (λ here. ItemsPart job past here counts s.tree (root_in t)) at.phase_is (is.items s source_is t start_is)

      logged : (b : List ℕ) × (old.log ≡ Some b) × HasTold job s.tree (root_in t) past run.phase first b
      logged = log_tells (HasTold job s.tree (root_in t) past run.phase) start.log old.log first_is (is.log s source_is t start_is)

      has_told : (logged).0 ≡ first ++ text job s.tree (root_in t) past.count
      has_told = subst (λ here. HasTold job s.tree (root_in t) past here first (logged).0) at.phase_is (logged).2

      put : last ≡ (logged).0 ++ line_text (last_line counts)
      put = put_behind (last_line counts) (logged).0 (subst (λ (c : Calls). Puts c.line (Some (logged).0) (Some last)) at.calls_are
          (subst (λ o. Puts calls.line o (Some last)) (logged).1 (subst (Puts calls.line old.log) last_is did.log)))

      told : (told : List ℕ) × (last ≡ first ++ told) × (told ≡ log_of job s.tree (root_in t))
      told = log_all job past held run.kept.prefix counts s t now source dest items_are first (put
          ∙ ap (λ (front : List ℕ). front ++ line_text (last_line counts)) has_told)

pub ends_well : EndsWell
unfolding RunInvariant Did
ends_well job start old new run after s t now first last (past, is) (GoesOn calls _ turn did counts) source_is start_is dest_is first_is last_is =
    ended job past start old new run after s t now first last calls is turn did.0 counts source_is start_is dest_is first_is last_is

-- The turns of the walk, from their calls.
use Rattle.std.proofs.Common.{◌≡◌, ◌<◌, ◌≤◌, ℕ, Bool, true, false, List, [], ◌∷◌, refl, sym, ap, ◌∙◌, length, cond, ◌==◌, ◌+◌, ◌++◌, arith}
use Rattle.std.specs.Prelude.{Option, None, Some, Ok, IsErrAnd, IsSome, ◌||◌, not}
use Rattle.std.proofs.lemmas.List.{length-append}
use Rattle.std.proofs.lemmas.Bool.{lt-ltb, le-ltb}
use Rattle.pt_name.specs.Share.{Portion, by_division, divides_at, is_on_own_way}
use Rattle.pt_state.proofs.Words.{
  tells_at,
  walks,
  Item,
  Path,
  Reading,
  Kind,
  advanced,
  current_entry,
  entered,
  is_dir_entry,
  names_to,
  parent,
  trail_path,
  Cause,
  Frame,
  Answer,
  Line,
  Skipped,
  Did,
  FailsPartway,
  Walk,
  in_pairtree,
  Lists,
  DeviceStates,
  asks,
  no_calls,
  tells,
  Fault,
  with_skipped,
  Turned,
  KeepsAll,
  held_of,
  with_trail,
}
use Rattle.pt_state.proofs.Words.cause
use Rattle.pt_state.proofs.Words.kind
use Rattle.pt_state.proofs.Words.opening
use Rattle.pt_state.proofs.Words.phase
use Rattle.pt_state.specs.declared.state.State.{State}
use Rattle.pt_tree.specs.Path.{last_name, parent as parent_of, split_path}
use Rattle.pt_tree.specs.Source.{CanList}
use Rattle.pt_walk.specs.Site.{is_shorty}
use Rattle.pt_walk.proofs.TrailSteps.{name_for_each, path_grows}
use Rattle.pt_walk.specs.Sites.{at_of, is_last}
use Rattle.pt_walk.specs.Trail.{is_trail}
use Rattle.pt_walk.specs.declared.site.At.TheVariants as at
use Rattle.pt_plan.specs.Enabled.{MayEnter}
use Rattle.pt_plan.specs.TurnWalk.{
  OpensRoot,
  IsPast,
  IsDeep,
  PassesElsewhere as PassesElsewhereOf,
  EntersSite as EntersSiteOf,
  PassesEntry,
  LeavesSite,
  EndsWalk,
}
use Rattle.pt_plan.specs.DeviceStates.{tells_if}
use Rattle.pt_state.proofs.Fronts.{front_none}
use Rattle.pt_state.proofs.Together.{did_nothing}
use Rattle.pt_state.proofs.Turns.{Leads, left_some, short_asked}
use Rattle.pt_scan.proofs.HeldTurns.{moved, moves}
use Rattle.pt_scan.specs.Scanning.{Moved}
use Rattle.pt_scan.specs.Walking.{EntersSite, IsAtShorty, PassesElsewhere, PassesShorty}

-- ---- a listing that is entered

pub opened_root : (s s' : State) (a b : DeviceStates) (path : Path) (items : List Item) → Did (asks (Lists path items)) a b → path ≡ in_pairtree []
    → Moved (entered items s.trail) s.counts s s' → Turned (phase.Opening opening.OpenRoot) s s' a b (Ok phase.Judge)
opened_root s s' a b path items did is to =
    moves a b (λ fed. Walk (OpensRoot _ items)) (rw is at did) to refl

pub may_list_root : (told : Option Reading) (path at : Path) → CanList told at → path ≡ at → CanList told path
may_list_root told path at may is = rw is may

-- ---- entries that are no shorties, and ends

pub passed_entry : (s s' : State) (w : DeviceStates) (name : List ℕ) (kind : Kind) → Some (name, kind) ≡ current_entry s.trail → false ≡ is_shorty (name, kind)
    → Moved (advanced s.trail) s.counts s s' → Turned phase.Walk s s' w w (Ok phase.Walk)
passed_entry s s' w name kind at is to =
    moves w w (λ fed. Walk (PassesEntry _ (name, kind) (sym at) (sym is))) (did_nothing w) to refl

pub left_site : (s s' : State) (w : DeviceStates) → None ≡ current_entry s.trail → 1 < length s.trail → Moved (advanced (parent s.trail)) s.counts s s'
    → Turned phase.Walk s s' w w (Ok phase.Walk)
left_site s s' w at more to =
    moves w w (λ fed. Walk (LeavesSite _ (sym at) (lt-ltb 1 (length s.trail) more))) (did_nothing w) to refl

pub ended_walk : (s s' : State) (w : DeviceStates) → None ≡ current_entry s.trail → length s.trail ≤ 1 → Moved s.trail s.counts s s'
    → Turned phase.Walk s s' w w (Ok phase.End)
ended_walk s s' w at few to =
    moves w w (λ fed. Walk (EndsWalk _ (sym at) (le-ltb 1 (length s.trail) few))) (did_nothing w) to refl

-- ---- where a site stands

abbrev second : Option (Path × List ℕ) → List ℕ
second None = []
second (Some parts) = parts.1

pub at_split : (site front : Path) (name : List ℕ) → Some (front, name) ≡ split_path site → cond (length name == 1) at.Last at.Pair ≡ at_of site
at_split [] front name is = absurd (cc)
at_split (x ∷ []) front name is = let same : name ≡ x = ap second is in ap (λ (n : List ℕ). cond (length n == 1) at.Last at.Pair) same
at_split (x ∷ y ∷ p) front name is = let same : name ≡ last_name (y ∷ p) = ap second is in at_split (y ∷ p) (parent_of (y ∷ p)) name
    (ap (λ (n : List ℕ). Some (parent_of (y ∷ p), n)) same)

-- ---- shorties

pub at_shorty : (trail : List Frame) (name : List ℕ) (kind : Kind) → Some (name, kind) ≡ current_entry trail → true ≡ is_shorty (name, kind) → IsAtShorty trail
unfolding IsAtShorty
at_shorty trail name kind.Dir at is = (name, (sym at, sym is))
at_shorty _ _ _ _ is = absurd (cc)

pub shorty_is_dir : (trail : List Frame) → IsAtShorty trail → is_dir_entry (current_entry trail) ≡ true
unfolding IsAtShorty
shorty_is_dir trail (name, (at, is)) = ap is_dir_entry at

pub shorty_is_some : (trail : List Frame) → IsAtShorty trail → IsSome (current_entry trail)
unfolding IsAtShorty
shorty_is_some trail (name, (at, is)) = rw (at) refl

pub may_enter_shorty : (told : Option Reading) (trail : List Frame) (path : Path) → MayEnter told trail → IsAtShorty trail → path ≡ in_pairtree (names_to trail)
    → CanList told path
unfolding IsAtShorty MayEnter
may_enter_shorty told trail path may (name, (at, is)) there = rw there (may name at)

-- a shorty's path has as many names as there are listings
names_long : (trail : List Frame) → is_trail trail ≡ true → IsAtShorty trail → length (names_to trail) ≡ length trail
unfolding IsAtShorty
names_long [] is_one (name, (at, is)) = absurd (cc)
names_long (frame ∷ frames) is_one (name, (at, is)) =
    let above = name_for_each frame frames is_one in
    let grown = ap length (path_grows frame frames (name, kind.Dir) at) ∙ length-append (names_to frames) (name ∷ []) in
    omega (arith, above, grown)

-- where folders aren't divided among shares each is walked
pub walked_all : (share : Portion) (trail : List Frame) → is_trail trail ≡ true → IsAtShorty trail → false ≡ divides_at share (length trail)
    → true ≡ walks share (names_to trail)
walked_all share trail is_one shorty undivided =
    sym (ap (λ b. not b || by_division share.division true (is_on_own_way share (names_to trail)))
    (ap (divides_at share) (names_long trail is_one shorty) ∙ sym undivided))

module _ (s : State) (site : Path) (shorty : IsAtShorty s.trail) (there : site ≡ trail_path s.trail) where
  pub is_past : true ≡ is_last (at_of site) → PassesShorty s cause.Past
  unfolding IsAtShorty PassesShorty
  is_past last = λ fed. IsPast _ shorty.0 shorty.1.0 shorty.1.1 (sym (last ∙ (λ i. is_last (at_of (there i)))))

  pub is_deep : false ≡ is_last (at_of site) → s.job.limits.depth < length s.trail → PassesShorty s cause.Limit
  unfolding IsAtShorty PassesShorty
  is_deep last deep = λ fed. IsDeep _ shorty.0 shorty.1.0 shorty.1.1 (sym (last ∙ (λ i. is_last (at_of (there i)))))
      (lt-ltb s.job.limits.depth (length s.trail) deep)

  pub is_elsewhere : false ≡ is_last (at_of site) → length s.trail ≤ s.job.limits.depth → false ≡ walks s.job.share (names_to s.trail) → PassesElsewhere s
  unfolding IsAtShorty PassesElsewhere
  is_elsewhere last shallow other = λ fed. PassesElsewhereOf _ shorty.0 shorty.1.0 shorty.1.1 (sym (last ∙ (λ i. is_last (at_of (there i)))))
      (le-ltb s.job.limits.depth (length s.trail) shallow) (sym other)

  pub enters_site : false ≡ is_last (at_of site) → length s.trail ≤ s.job.limits.depth → true ≡ walks s.job.share (names_to s.trail) → EntersSite s
  unfolding IsAtShorty EntersSite
  enters_site last shallow own = λ fed items. EntersSiteOf _ shorty.0 items shorty.1.0 shorty.1.1 (sym (last ∙ (λ i. is_last (at_of (there i)))))
      (le-ltb s.job.limits.depth (length s.trail) shallow) (sym own)

-- its line is told in the share whose it is
is_told : (told : Bool) (line : Line) → true ≡ told → tells line ≡ tells_if told line
is_told told line is = ap (λ b. tells_if b line) is

told_own : (s : State) (why : Cause) → PassesShorty s why → true ≡ tells_at s.job.share (names_to s.trail) → (fed : List ℕ)
    → Leads phase.Walk s fed (with_trail (held_of s fed) (advanced s.trail)) (tells (Skipped (names_to s.trail) why)) (Ok phase.Walk)
unfolding PassesShorty
told_own s why passes first fed = Walk (rw (← (is_told (tells_at s.job.share (names_to s.trail)) (Skipped (names_to s.trail) why) first)) at (passes fed))

pub passed_shorty : (s s' : State) (a b : DeviceStates) (path : Path) (why : Cause) → PassesShorty s why → true ≡ tells_at s.job.share (names_to s.trail)
    → Did (tells (Skipped path why)) a b → path ≡ names_to s.trail → Moved (advanced s.trail) (with_skipped s.counts) s s'
    → Turned phase.Walk s s' a b (Ok phase.Walk)
passed_shorty s s' a b path why passes first got is to = moves a b (told_own s why passes first) (rw is at got) to refl

pub passed_front : (s s' : State) (a b : DeviceStates) (path : Path) (why : Cause) (f : Fault) (result : Answer) → IsErrAnd result (λ h. h ≡ f)
    → PassesShorty s why → true ≡ tells_at s.job.share (names_to s.trail) → FailsPartway (tells (Skipped path why)) f a b → path ≡ names_to s.trail
    → KeepsAll s s'
    → Turned phase.Walk s s' a b result
passed_front s s' a b path why f result is passes first front there keeps = left_some a b f result is (told_own s why passes first) (rw there at front) keeps

-- in another share nothing is
pub passed_quietly : (s s' : State) (w : DeviceStates) (why : Cause) → PassesShorty s why → false ≡ tells_at s.job.share (names_to s.trail)
    → Moved (advanced s.trail) s.counts s s' → Turned phase.Walk s s' w w (Ok phase.Walk)
unfolding PassesShorty
passed_quietly s s' w why passes other to =
    let quiet : no_calls ≡ tells_if (tells_at s.job.share (names_to s.trail)) (Skipped (names_to s.trail) why) = ap
    (λ b. tells_if b (Skipped (names_to s.trail) why)) other in
    moves w w {calls = no_calls} (λ fed. Walk (rw quiet (passes fed))) (did_nothing w) to refl

pub passed_elsewhere : (s s' : State) (w : DeviceStates) → PassesElsewhere s → Moved (advanced s.trail) s.counts s s'
    → Turned phase.Walk s s' w w (Ok phase.Walk)
unfolding PassesElsewhere
passed_elsewhere s s' w passes to = moves w w (λ fed. Walk (passes fed)) (did_nothing w) to refl

pub entered_site : (s s' : State) (a b : DeviceStates) (path : Path) (items : List Item) → EntersSite s → Did (asks (Lists path items)) a b
    → path ≡ in_pairtree (names_to s.trail) → Moved (entered items s.trail) s.counts s s' → Turned phase.Walk s s' a b (Ok phase.Judge)
unfolding EntersSite
entered_site s s' a b path items line did is to = moves a b (λ fed. Walk (line fed items)) (rw is at did) to refl

pub ruleset walking = (
  at_split,
  moved,
  short_asked,
  opened_root,
  may_list_root,
  passed_entry,
  left_site,
  ended_walk,
  at_shorty,
  shorty_is_dir,
  shorty_is_some,
  may_enter_shorty,
  is_past,
  is_deep,
  is_elsewhere,
  walked_all,
  enters_site,
  front_none,
  passed_shorty,
  passed_front,
  passed_quietly,
  passed_elsewhere,
  entered_site,
)

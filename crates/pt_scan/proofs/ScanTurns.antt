-- The turns of the scan of an object, from their calls.
use Rattle.std.proofs.Common.{◌≡◌, ◌<◌, ◌≤◌, ℕ, ◌+◌, ◌-◌, ◌==◌, ◌&&◌, Bool, true, false, List, [], ◌∷◌, refl, sym, ap, ◌∙◌, length, cond, drop, arith}
use Rattle.std.specs.Prelude.{Option, None, Some, Ok, IsErrAnd, IsSome, nat_le, nat_lt, not}
use Rattle.std.specs.String.{string_bytes}
use Rattle.std.proofs.lemmas.Bool.{le-leb, le-ltb, lt-leb, lt-ltb, or_from, or_left, or_right}
use Rattle.std.proofs.Math.Dec.{eqb-suc-zero}
use Rattle.pt_state.proofs.Words.{
  HasBeenFed,
  Item,
  Path,
  joined,
  Kind,
  advanced,
  current_entry,
  entered,
  is_dir_entry,
  names_to,
  parent,
  sought,
  trail_path,
  Cause,
  Frame,
  Answer,
  Skipped,
  logical_path,
  to_site,
  in_pairtree,
  Fault,
  Object,
  Phase,
  with_skipped,
  KeepsAll,
  counts_of,
  Did,
  FailsPartway,
  Scan,
  FailsUnchanged,
  Lists,
  Opens,
  DeviceStates,
  asks,
  tells,
  Turned,
  Reading,
  CanOpen,
}
use Rattle.pt_state.proofs.Words.cause
use Rattle.pt_state.proofs.Words.fault
use Rattle.pt_state.proofs.Words.kind
use Rattle.pt_state.proofs.Words.part
use Rattle.pt_state.proofs.Words.phase
use Rattle.pt_state.proofs.Words.stage
use Rattle.pt_state.specs.declared.state.State.{State}
use Rattle.pt_walk.specs.Site.{is_shorty}
use Rattle.pt_walk.specs.Trail.{has_place}
use Rattle.pt_plan.specs.Enabled.{MayEnter, MayOpen}
use Rattle.pt_plan.specs.TurnScan.{
  StartsInSite,
  EntersObject,
  IsTooDeep,
  PassesShorty,
  EntersDirectory,
  MeetsDeep,
  OpensFile,
  MeetsLimit,
  MeetsOther,
  EndsSite,
  EndsObject,
  LeavesDirectory,
  is_in_site,
  none_listed,
}
use Rattle.pt_state.proofs.Fronts.{front_none}
use Rattle.pt_state.proofs.Together.{asked_stays, did_nothing}
use Rattle.pt_state.proofs.Turns.{left_some, turned_on, went}
use Rattle.pt_tree.specs.Source.{CanList}
use Rattle.pt_scan.specs.Scanning.{Enters, EntersNext, GivesUp, IsAtDirectory, IsAtFile, IsBackAtSite, IsSite, MeetsDirectory, Moved}
use Rattle.pt_scan.proofs.HeldTurns.{moved, moves}

-- ---- what the parts of a turn leave

pub back_at : {object : Object} {s s' : State} {left : List Frame} → left ≡ drop (length s.trail - object.site) s.trail → s'.trail ≡ sought 0 left
    → s'.job ≡ s.job → s'.rows ≡ [] → s'.contents ≡ [] → s'.counts ≡ with_skipped s.counts → string_bytes s'.prefix ≡ string_bytes s.prefix
    → s'.hasher ≡ s.hasher → s'.unmet ≡ s.unmet → IsBackAtSite object s s'
back_at is trail job rows contents counts prefix hasher unmet = record {
  job = job;
  prefix = prefix;
  trail = trail
      ∙ ap (sought 0) is;
  rows = rows;
  contents = contents;
  counts = counts;
  hasher = hasher;
  unmet = unmet;
}

pub has_entered : (s s' : State) (a b : DeviceStates) (path : Path) (items : List Item) (is_empty : Bool) → Did (asks (Lists path items)) a b
    → path ≡ in_pairtree (names_to s.trail) → is_empty ≡ (length items == 0) → Moved (entered items s.trail) s.counts s s' → Enters s s' a b is_empty
has_entered s s' a b path items is_empty did is empty to = record { items = items; listed = rw is at did; empty = empty; moved = to }

-- memory was short before the source was called, or after it was listed
pub unasked : (w : DeviceStates) (f : Fault) → f ≡ fault.Memory → FailsUnchanged f w w
unfolding FailsUnchanged
unasked w f is = rw is (refl, refl, refl, refl, tt)

pub listed_unentered : (a b : DeviceStates) (path : Path) (items : List Item) (f : Fault) → f ≡ fault.Memory → Did (asks (Lists path items)) a b
    → FailsUnchanged f a b
listed_unentered a b path items f is did = rw is (asked_stays (Lists path items) a b did)

pub may_list_entry : (told : Option Reading) (trail : List Frame) (path : Path) → MayEnter told trail → is_dir_entry (current_entry trail) ≡ true
    → path ≡ in_pairtree (names_to trail) → CanList told path
unfolding MayEnter
may_list_entry told trail path may is there = by (current_entry trail) refl is
  where
    by : (o : Option Item) → current_entry trail ≡ o → is_dir_entry o ≡ true → CanList told path
    by (Some (name, kind.Dir)) at is = rw there (may name at)
    by _ _ is = absurd (cc)

-- ---- an object that is passed over

-- its line was put, and the run is back at its site
pub gave_up : (here : Phase) (object : Object) (why : Cause) (s s' : State) (a b : DeviceStates) → GivesUp here object why s
    → Did (tells (Skipped (trail_path (to_site object s.trail)) why)) a b → IsBackAtSite object s s' → Turned here s s' a b (Ok phase.Walk)
unfolding GivesUp
gave_up here object why s s' a b line got back =
    turned_on s s' a b (λ fed. Scan (line fed)) got back.trail back.rows back.contents (ap counts_of back.counts) back.prefix back.hasher back.job

-- a part of the line was put
pub gave_front : (here : Phase) (object : Object) (why : Cause) (s s' : State) (a b : DeviceStates) (f : Fault) (result : Answer) → IsErrAnd result (λ h. h ≡ f)
    → GivesUp here object why s → FailsPartway (tells (Skipped (trail_path (to_site object s.trail)) why)) f a b → KeepsAll s s' → Turned here s s' a b result
unfolding GivesUp
gave_front here object why s s' a b f result is line front keeps = left_some a b f result is (λ fed. Scan (line fed)) front keeps

-- ---- a directory

pub entered_next : (here : Phase) (object object' : Object) (s s' : State) (a b : DeviceStates) (is_empty : Bool) → EntersNext here object s
    → Enters s s' a b is_empty → object' ≡ record object { empty = object.empty + cond is_empty 1 0 }
    → Turned here s s' a b (Ok (phase.Carrying object' stage.Scan))
unfolding EntersNext
entered_next here object object' s s' a b is_empty line did is =
    rw (is ∙ ap (λ (e : ℕ). record object { empty = object.empty + e }) (ap (λ (b : Bool). cond b 1 0) did.empty ∙ counted did.items))
    (moves a b (λ fed. Scan (line fed did.items)) did.listed did.moved refl)
  where
    counted : (items : List Item) → cond (length items == 0) 1 0 ≡ none_listed items
    counted [] = refl
    counted (item ∷ items) = ap (λ (b : Bool). cond b 1 0) (eqb-suc-zero (length items))

-- ---- which line of the table it is

pub begun_in_site : (s s' : State) (a : DeviceStates) (object : Object) → true ≡ object.gathered → Moved (sought 0 s.trail) s.counts s s'
    → Turned (phase.Carrying object stage.Open) s s' a a (Ok (phase.Carrying object stage.Scan))
begun_in_site s s' a object is to =
    moves a a (λ fed. Scan (StartsInSite _ object (sym is))) (did_nothing a) to refl

pub meets_own : (s : State) (object : Object) → object.gathered ≡ false → MeetsDirectory (phase.Carrying object stage.Open) object s
unfolding GivesUp EntersNext
meets_own s object is = record {
  deep = λ deep fed. IsTooDeep _ object is (lt-ltb s.job.limits.depth (length s.trail) deep);
  shallow = λ shallow fed items. EntersObject _ object items is (le-ltb s.job.limits.depth (length s.trail) shallow);
}

pub site_there : (object : Object) (trail : List Frame) → IsSite object trail → has_place 0 trail ≡ true
unfolding IsSite
site_there object [] (some, long) = absurd (omega (arith, some, long))
site_there object (frame ∷ frames) (some, long) = le-leb 0 (length frame.listing) (omega arith)

pub passed_in_site : (s s' : State) (a : DeviceStates) (object : Object) (name : List ℕ) (it : Kind) (in_site : Bool) → Some (name, it) ≡ current_entry s.trail
    → in_site ≡ is_in_site object s.trail → true ≡ (in_site && is_shorty (name, it)) → Moved (advanced s.trail) s.counts s s'
    → Turned (phase.Carrying object stage.Scan) s s' a a (Ok (phase.Carrying object stage.Scan))
passed_in_site s s' a object name it in_site at place is to =
    moves a a (λ fed. Scan (PassesShorty _ object (name, it) (sym at) (ap (λ (b : Bool). b && is_shorty (name, it)) (sym place) ∙ sym is))) (did_nothing a) to
    refl

pub at_directory : (object : Object) (trail : List Frame) (name : List ℕ) (it : Kind) (in_site : Bool) → Some (name, it) ≡ current_entry trail → it ≡ kind.Dir
    → in_site ≡ is_in_site object trail → false ≡ (in_site && is_shorty (name, it)) → IsAtDirectory object trail
unfolding IsAtDirectory
at_directory object trail name it in_site at is place not =
    (name, (sym at ∙ ap (λ (k : Kind). Some (name, k)) is, sym (not ∙ (λ i. place i && is_shorty (name, is i)))))

pub at_file : (trail : List Frame) (name : List ℕ) (it : Kind) → Some (name, it) ≡ current_entry trail → it ≡ kind.File → IsAtFile trail
unfolding IsAtFile
at_file trail name it at is = (name, sym at ∙ ap (λ (k : Kind). Some (name, k)) is)

pub meets_other : (s : State) (object : Object) (name : List ℕ) (it : Kind) → Some (name, it) ≡ current_entry s.trail → it ≡ kind.Other
    → GivesUp (phase.Carrying object stage.Scan) object cause.Other s
unfolding GivesUp
meets_other s object name it at is = λ fed. MeetsOther _ object name (sym at ∙ ap (λ (k : Kind). Some (name, k)) is)

pub directory_is : (object : Object) (trail : List Frame) → IsAtDirectory object trail → is_dir_entry (current_entry trail) ≡ true
unfolding IsAtDirectory
directory_is object trail (name, (at, not)) = ap is_dir_entry at

pub meets_inner : (s : State) (object : Object) → IsAtDirectory object s.trail → MeetsDirectory (phase.Carrying object stage.Scan) object s
unfolding IsAtDirectory GivesUp EntersNext
meets_inner s object (name, (at, not)) = record {
  deep = λ deep fed. MeetsDeep _ object name at not (lt-ltb s.job.limits.depth (length s.trail) deep);
  shallow = λ shallow fed items. EntersDirectory _ object name items at not (le-ltb s.job.limits.depth (length s.trail) shallow);
}

pub too_deep : (here : Phase) (object : Object) (s : State) → MeetsDirectory here object s → s.job.limits.depth < length s.trail
    → GivesUp here object cause.Limit s
too_deep here object s meets deep = meets.deep deep

-- ---- a file

pub file_some : (trail : List Frame) → IsAtFile trail → IsSome (current_entry trail)
unfolding IsAtFile
file_some trail (name, at) = rw (at) refl

pub one_too_many : (s : State) (object : Object) → IsAtFile s.trail → s.job.limits.files ≤ length s.rows
    → GivesUp (phase.Carrying object stage.Scan) object cause.Limit s
unfolding IsAtFile GivesUp
one_too_many s object (name, at) many = λ fed. MeetsLimit _ object name at (or_left _ _ (le-leb s.job.limits.files (length s.rows) many))

pub may_open_entry : (told : Option Reading) (trail : List Frame) (path : Path) → MayOpen told trail → IsAtFile trail → path ≡ in_pairtree (names_to trail)
    → CanOpen told path
unfolding MayOpen IsAtFile
may_open_entry told trail path may (name, at) there = rw there (may name at)

-- a test of the logical path's length
module _ (s : State) (object : Object) (names : Path) (most : ℕ) (longer : Bool) (is : longer ≡ nat_lt most (length (joined names))) (limit : most
    ≡ s.job.limits.path_bytes) (there : names ≡ logical_path object s.trail) where
  long_is : nat_lt s.job.limits.path_bytes (length (joined (logical_path object s.trail))) ≡ longer
  long_is = sym (is ∙ (λ i. nat_lt (limit i) (length (joined (there i)))))

  pub path_too_long : IsAtFile s.trail → longer ≡ true → GivesUp (phase.Carrying object stage.Scan) object cause.Limit s
  unfolding IsAtFile GivesUp
  path_too_long (name, at) long = λ fed. MeetsLimit _ object name at (or_right (nat_le s.job.limits.files (length s.rows)) _ (long_is ∙ long))

  pub opened_file : (s' : State) (a b : DeviceStates) (path : Path) → IsAtFile s.trail → length s.rows < s.job.limits.files → longer ≡ false
      → Did (asks (Opens path)) a b → path ≡ in_pairtree (names_to s.trail) → HasBeenFed s.job.algorithm s'.hasher [] → KeepsAll s s'
      → Turned (phase.Carrying object stage.Scan) s s' a b (Ok (phase.Carrying object (stage.Read 0)))
  unfolding IsAtFile
  opened_file s' a b path (name, at) few short did path_at fed_none keeps =
      went a b (λ fed. [])
      (λ fed was. Scan (OpensFile _ object name at (or_from _ _ (lt-leb s.job.limits.files (length s.rows) few) (long_is ∙ short))))
      (rw path_at at did) refl (λ fed was. fed_none) keeps

-- ---- the end of a listing

module _ (s s' : State) (a : DeviceStates) (object : Object) (in_site : Bool) (at : current_entry s.trail ≡ None) (place : in_site ≡ is_in_site object s.trail)
  where
    pub ended_site : in_site ≡ true → Moved s.trail s.counts s s' → Turned (phase.Carrying object stage.Scan) s s' a a
        (Ok (phase.Carrying object (stage.Make part.Staging)))
    ended_site is to = moves a a (λ fed. Scan (EndsSite _ object at (sym place ∙ is))) (did_nothing a) to refl

    -- outside of it
    module _ (left : List Frame) (outside : in_site ≡ false) (is : left ≡ parent s.trail) where
      pub ended_object : true ≡ (not object.gathered && (length left == object.site)) → Moved left s.counts s s'
          → Turned (phase.Carrying object stage.Scan) s s' a a (Ok (phase.Carrying object (stage.Make part.Staging)))
      ended_object own to =
          moves a a
          (λ fed. Scan (EndsObject _ object at (sym place ∙ outside) (sym (own ∙ (λ i. not object.gathered && (length (is i) == object.site))))))
          (did_nothing a) (rw is at to) refl

      pub left_directory : false ≡ (not object.gathered && (length left == object.site)) → Moved (advanced left) s.counts s s'
          → Turned (phase.Carrying object stage.Scan) s s' a a (Ok (phase.Carrying object stage.Scan))
      left_directory own to =
          moves a a
          (λ fed. Scan (LeavesDirectory _ object at (sym place ∙ outside) (sym (own ∙ (λ i. not object.gathered && (length (is i) == object.site))))))
          (did_nothing a) (rw is at to) refl

pub ruleset scanning = (
  front_none,
  ended_site,
  ended_object,
  left_directory,
  opened_file,
  moved,
  back_at,
  has_entered,
  unasked,
  listed_unentered,
  may_list_entry,
  gave_up,
  gave_front,
  entered_next,
  begun_in_site,
  meets_own,
  site_there,
  passed_in_site,
  at_directory,
  at_file,
  meets_other,
  directory_is,
  meets_inner,
  too_deep,
  file_some,
  one_too_many,
  path_too_long,
  may_open_entry,
)

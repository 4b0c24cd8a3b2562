-- The turn that judges a site, from its calls.
use Rattle.std.proofs.Common.{◌≡◌, ◌<◌, ℕ, Bool, true, false, List, [], ◌∷◌, refl, sym, ap, ◌∙◌, length, cond, arith}
use Rattle.std.specs.Prelude.{Option, None, Some, Result, Ok, Err, IsErrAnd, slice_get, nat_le, is_none}
use Rattle.std.specs.String.{string_bytes}
use Rattle.std.proofs.lemmas.Option.{slice_get_within}
use Rattle.std.proofs.lemmas.Bool.{le-leb}
use Rattle.pt_name.proofs.Identified.{IsRead, candidate_as, other_as, refused_as}
use Rattle.pt_name.specs.Identifying.{identification_of, identifier_at, identifier_read}
use Rattle.pt_name.specs.Unmet.{without_any}
use Rattle.pt_plan.specs.Met.{met_at, met_by_finding, unmet_after}
use Rattle.pt_name.specs.declared.identifying.PlacedObject.{PlacedObject}
use Rattle.pt_name.specs.declared.identifying.Identification.{Identification}
use Rattle.pt_name.specs.declared.identifying.Identification.TheVariants as answer
use Rattle.pt_name.specs.declared.identifying.Refusal.{Refusal}
use Rattle.pt_state.proofs.Words.{
  tells_at,
  Item,
  Path,
  Kind,
  is_dir_entry,
  names_to,
  trail_path,
  Cause,
  Frame,
  Answer,
  Present,
  Skipped,
  with_trail,
  Did,
  FailsPartway,
  Walk,
  Finds,
  DeviceStates,
  does,
  tells,
  Fault,
  Phase,
  with_skipped,
  Turned,
  KeepsAll,
  held_of,
  job_of,
}
use Rattle.pt_state.proofs.Words.fault
use Rattle.pt_state.proofs.Words.phase
use Rattle.pt_state.proofs.Words.stage
use Rattle.pt_state.specs.declared.state.State.{State}
use Rattle.pt_walk.specs.Site.{found, found_at_top, non_shorties}
use Rattle.pt_walk.specs.Sites.{at_of}
use Rattle.pt_walk.specs.Trail.{has_place, innermost_listing}
use Rattle.pt_walk.specs.declared.site.Finding.{Finding}
use Rattle.pt_walk.specs.declared.site.Finding.TheVariants as finding
use Rattle.pt_walk.specs.declared.site.Form.{Form}
use Rattle.pt_walk.proofs.Findings.{candidate as one_candidate}
use Rattle.pt_plan.specs.Items.{Interior, Named, Skip, cause_of_refusal, ours, verdict_by_identifier}
use Rattle.pt_plan.specs.Job.{form_of}
use Rattle.pt_plan.specs.TurnWalk.{LeadsOn, IsSkipped, IsPresent, IsNew, at_object, found_at, has_object, in_root, judged_at, judged_by_finding, path_of_object}
use Rattle.pt_state.specs.Lines.{with_present}
use Rattle.pt_state.proofs.Fronts.{front_none}
use Rattle.pt_state.proofs.Together.{did_nothing, looked_stays, looked_then}
use Rattle.pt_state.proofs.Turns.{Leads, left_some, stayed}
use Rattle.pt_scan.proofs.HeldTurns.{finds_and_tells, looked_left, looked_told, moved, moves}
use Rattle.pt_scan.specs.Scanning.{Moved}
use Rattle.pt_scan.specs.Judging.{FindsObject, IsIdentified, IsJudging, PassesSite}

-- ---- what the site is

pub found_inner : (trail : List Frame) (items : List Item) (site : Path) (form : Form) → Some items ≡ innermost_listing trail → site ≡ trail_path trail
    → found items (at_of site) form ≡ found_at form trail
found_inner [] items site form is at = absurd (cc)
found_inner (frame ∷ frames) items site form is at = let same : items ≡ frame.listing = cc in λ i. found (same i) (at_of (at i)) form

pub found_none : (trail : List Frame) (form : Form) → None ≡ innermost_listing trail → finding.Interior ≡ found_at form trail
found_none [] form is = refl
found_none (frame ∷ frames) form is = absurd (cc)

pub finds_candidate : (s : State) (index : ℕ) → finding.Candidate index ≡ found_at (form_of (job_of s.job)) s.trail → FindsObject s (Some index)
unfolding FindsObject
finds_candidate s index is = sym is

pub finds_gathered : (s : State) → finding.Gathered ≡ found_at (form_of (job_of s.job)) s.trail → FindsObject s None
unfolding FindsObject
finds_gathered s is = sym is

pub skips_site : (s : State) (why : Cause) → finding.Skip why ≡ found_at (form_of (job_of s.job)) s.trail → PassesSite s why
unfolding PassesSite
skips_site s why is = ap (judged_by_finding (job_of s.job) (string_bytes s.prefix) (trail_path s.trail)) (sym is)

pub led_on : (s s' : State) (w : DeviceStates) → finding.Interior ≡ found_at (form_of (job_of s.job)) s.trail → Moved s.trail s.counts s s'
    → Turned phase.Judge s s' w w (Ok phase.Walk)
led_on s s' w is to =
    moves w w (λ fed. Walk (LeadsOn _ (ap (λ (f : Finding). ours s.job.share (trail_path s.trail)
    (judged_by_finding (job_of s.job) (string_bytes s.prefix) (trail_path s.trail) f))
    (sym is)))) (did_nothing w) to refl

-- ---- a site that is passed over

-- it is of the share
skipped_own : (s : State) (why : Cause) → PassesSite s why → true ≡ tells_at s.job.share (trail_path s.trail)
    → judged_at (job_of s.job) (string_bytes s.prefix) s.trail ≡ Skip why
unfolding PassesSite
skipped_own s why is first = ap (ours s.job.share (trail_path s.trail)) is ∙ ap (λ b. cond b (Skip why) Interior) (sym first)

skipped_other : (s : State) (why : Cause) → PassesSite s why → false ≡ tells_at s.job.share (trail_path s.trail)
    → judged_at (job_of s.job) (string_bytes s.prefix) s.trail ≡ Interior
unfolding PassesSite
skipped_other s why is other = ap (ours s.job.share (trail_path s.trail)) is ∙ ap (λ b. cond b (Skip why) Interior) (sym other)

pub passed_site : (s s' : State) (a b : DeviceStates) (path : Path) (why : Cause) → PassesSite s why → true ≡ tells_at s.job.share (trail_path s.trail)
    → Did (tells (Skipped path why)) a b → path ≡ trail_path s.trail → Moved s.trail (with_skipped s.counts) s s' → Turned phase.Judge s s' a b (Ok phase.Walk)
passed_site s s' a b path why line first told is to =
    moves a b (λ fed. Walk (IsSkipped _ why (skipped_own s why line first))) (rw is at told) to refl

pub passed_site_front : (s s' : State) (a b : DeviceStates) (path : Path) (why : Cause) (f : Fault) (result : Answer) → IsErrAnd result (λ h. h ≡ f)
    → PassesSite s why → true ≡ tells_at s.job.share (trail_path s.trail) → FailsPartway (tells (Skipped path why)) f a b → path ≡ trail_path s.trail
    → KeepsAll s s'
    → Turned phase.Judge s s' a b result
passed_site_front s s' a b path why f result is line first front there keeps =
    left_some a b f result is (λ fed. Walk (IsSkipped _ why (skipped_own s why line first))) (rw there at front) keeps

pub passed_site_quietly : (s s' : State) (w : DeviceStates) (why : Cause) → PassesSite s why → false ≡ tells_at s.job.share (trail_path s.trail)
    → Moved s.trail s.counts s s'
    → Turned phase.Judge s s' w w (Ok phase.Walk)
passed_site_quietly s s' w why line other to =
    moves w w (λ fed. Walk (LeadsOn _ (skipped_other s why line other))) (did_nothing w) to refl

-- ---- identifiers

-- a site with an object isn't the pairtree's directory
pub object_below : (s : State) (site : Path) (index : Option ℕ) → FindsObject s index → site ≡ trail_path s.trail → 0 < length site
unfolding FindsObject
object_below s site index is at = by s.trail site is at
  where
    top : (items : List Item) (index : Option ℕ) (form : Form) → found items (at_of []) form ≡ has_object index → ⊥
    top items index form is = by_items (non_shorties items) index is
      where
        by_items : (xs : List (ℕ × Kind)) (index : Option ℕ) → found_at_top xs ≡ has_object index → ⊥
        by_items [] None is = cc
        by_items [] (Some i) is = cc
        by_items (x ∷ xs) None is = cc
        by_items (x ∷ xs) (Some i) is = cc

    none : (index : Option ℕ) → finding.Interior ≡ has_object index → ⊥
    none None is = cc
    none (Some i) is = cc

    below : (items : List Item) (path : Path) (form : Form) → found items (at_of path) form ≡ has_object index → 0 < length path
    below items [] form is = absurd (top items index form is)
    below items (name ∷ path) form is = omega (arith)

    by : (trail : List Frame) (site : Path) → found_at (form_of (job_of s.job)) trail ≡ has_object index → site ≡ trail_path trail → 0 < length site
    by [] site is at = absurd (none index is)
    by (frame ∷ frames) site is at = rw (at) (below frame.listing (names_to frames) (form_of (job_of s.job)) is)

-- it is judged still, whatever is unmet
pub still_judging : {s : State} {site : Path} {index : Option ℕ} (unmet : List (Option (List ℕ))) → IsJudging s site index
    → IsJudging (record s { unmet = unmet }) site index
unfolding FindsObject
still_judging unmet judges = record { there = judges.there; object = judges.object }

-- the identifier that the names read is met
pub met_here : (s : State) (site : Path) (index : Option ℕ) (prefix : List ℕ) (unmet : List (Option (List ℕ))) → IsJudging s site index
    → prefix ≡ string_bytes s.prefix → unmet ≡ without_any (identifier_read prefix site) s.unmet
    → unmet ≡ unmet_after (job_of s.job) phase.Judge (string_bytes s.prefix) s.trail s.unmet
unfolding FindsObject
met_here s site index prefix unmet judges same is =
    is ∙ (λ i. without_any (identifier_read (same i) (judges.there i)) s.unmet) ∙ ap (λ met. without_any met s.unmet) (by index judges.object)
  where
    by : (index : Option ℕ) → found_at (form_of (job_of s.job)) s.trail ≡ has_object index
        → identifier_read (string_bytes s.prefix) (trail_path s.trail) ≡ met_at (job_of s.job) (string_bytes s.prefix) s.trail
    by None found = sym (ap (met_by_finding (string_bytes s.prefix) (trail_path s.trail)) found)
    by (Some i) found = sym (ap (met_by_finding (string_bytes s.prefix) (trail_path s.trail)) found)

-- a site without an object meets none
pub met_none : (s : State) (f : Finding) → f ≡ found_at (form_of (job_of s.job)) s.trail → met_by_finding (string_bytes s.prefix) (trail_path s.trail) f ≡ None
    → s.unmet ≡ unmet_after (job_of s.job) phase.Judge (string_bytes s.prefix) s.trail s.unmet
met_none s f is none = ap (λ met. without_any met s.unmet) (sym none ∙ ap (met_by_finding (string_bytes s.prefix) (trail_path s.trail)) is)

-- what was asked for was the object of this site
pub identified_here : (s : State) (site : Path) (prefix : List ℕ) (what : Identification) → what ≡ identification_of s.job.layout s.job.share prefix site
    → prefix ≡ string_bytes s.prefix → site ≡ trail_path s.trail → IsIdentified s what
unfolding IsIdentified
identified_here s site prefix what is same there = is ∙ (λ i. identification_of s.job.layout s.job.share (same i) (there i))

-- an identifier that was read, or why there is none
abbrev read_at : State → Result (List ℕ) Refusal
read_at s = identifier_at s.job.layout (string_bytes s.prefix) (trail_path s.trail)

-- with an object the site is judged by its identifier
by_object : (s : State) (index : Option ℕ) (read : Result (List ℕ) Refusal) → FindsObject s index → read_at s ≡ read
    → judged_by_finding (job_of s.job) (string_bytes s.prefix) (trail_path s.trail) (found_at (form_of (job_of s.job)) s.trail)
    ≡ verdict_by_identifier index read
unfolding FindsObject
by_object s None read found reads = ap (judged_by_finding (job_of s.job) (string_bytes s.prefix) (trail_path s.trail)) found
    ∙ ap (λ (r : Result (List ℕ) Refusal). verdict_by_identifier None r) reads
by_object s (Some i) read found reads = ap (judged_by_finding (job_of s.job) (string_bytes s.prefix) (trail_path s.trail)) found
    ∙ ap (λ (r : Result (List ℕ) Refusal). verdict_by_identifier (Some i) r) reads

pub skips_refused : (s : State) (index : Option ℕ) (why : Refusal) (c : Cause) → FindsObject s index → IsIdentified s (answer.Refused why)
    → c ≡ cause_of_refusal why → PassesSite s c
unfolding IsIdentified PassesSite
skips_refused s index why c found is told =
    by_object s index (Err why) found (refused_as s.job.layout s.job.share (trail_path s.trail) why (read_at s) is) ∙ ap (λ (d : Cause). Skip d) (sym told)

-- another share passes it
pub passed_object : (s s' : State) (w : DeviceStates) (index : Option ℕ) → FindsObject s index → IsIdentified s answer.OtherShare → Moved s.trail s.counts s s'
    → Turned phase.Judge s s' w w (Ok phase.Walk)
unfolding IsIdentified
passed_object s s' w index found is to =
    let other = other_as s.job.layout s.job.share (trail_path s.trail) (read_at s) is in
    let id = other.0 in
    let judged = ap (ours s.job.share (trail_path s.trail)) (by_object s index (Ok id) found other.1.0)
    ∙ ap (λ b. cond b (Named id index) Interior) other.1.1 in
    moves w w (λ fed. Walk (LeadsOn _ judged)) (did_nothing w) to refl

-- ---- an object whose place was asked for

-- memory was short after it was asked for
pub looked_short : (s s' : State) (a b : DeviceStates) (path : Path) (here : Option Kind) (result : Answer) → IsErrAnd result (λ h. h ≡ fault.Memory)
    → Did (does (Finds path here)) a b → KeepsAll s s' → Turned phase.Judge s s' a b result
looked_short s s' a b path here result is did keeps = stayed phase.Judge s s' a b fault.Memory result is (looked_stays path here a b did) keeps

length-object : (index : Option ℕ) (trail : List Frame) → length (at_object index trail) ≡ length trail
length-object None trail = refl
length-object (Some index) [] = refl
length-object (Some index) (frame ∷ frames) = refl

-- it is of the share that has the identifier
module _ (s : State) (index : Option ℕ) (candidate : PlacedObject) (found : FindsObject s index) (named : IsIdentified s (answer.Candidate candidate)) where
  read_as : IsRead s.job.layout s.job.share (trail_path s.trail) (read_at s) candidate
  unfolding IsIdentified
  read_as = candidate_as s.job.layout s.job.share (trail_path s.trail) (read_at s) candidate named

  named_at : judged_at (job_of s.job) (string_bytes s.prefix) s.trail ≡ Named candidate.id index
  named_at = ap (ours s.job.share (trail_path s.trail)) (by_object s index (Ok candidate.id) found read_as.id)
      ∙ ap (λ b. cond b (Named candidate.id index) Interior) read_as.mine

  present_follows : (here : Kind) (fed : List ℕ) → Leads phase.Judge s fed (held_of s fed)
      (finds_and_tells (in_root candidate.place) (Some here) (Present (path_of_object index s.trail) candidate.id candidate.place)) (Ok phase.Walk)
  present_follows here fed = rw read_as.place (Walk (IsPresent (held_of s fed) index candidate.id here named_at))

  pub told_present : (s' : State) (a b c : DeviceStates) (path at : Path) (here : Option Kind) (it : Kind) → Did (does (Finds path here)) a b → here ≡ Some it
      → path ≡ in_root candidate.place → Did (tells (Present at candidate.id candidate.place)) b c → at ≡ path_of_object index s.trail
      → Moved s.trail (with_present s.counts) s s'
      → Turned phase.Judge s s' a c (Ok phase.Walk)
  told_present s' a b c path at here it did is there told place to = moves a c (present_follows it)
      (looked_told _ _ _ a b c (rw (is, there) at did) (rw place at told)) to refl

  pub told_present_front : (s' : State) (a b c : DeviceStates) (path at : Path) (here : Option Kind) (it : Kind) (f : Fault) (result : Answer)
      → IsErrAnd result (λ h. h ≡ f) → Did (does (Finds path here)) a b → here ≡ Some it → path ≡ in_root candidate.place
      → FailsPartway (tells (Present at candidate.id candidate.place)) f b c → at ≡ path_of_object index s.trail → KeepsAll s s'
      → Turned phase.Judge s s' a c result
  told_present_front s' a b c path at here it f result error did is there front place keeps = left_some a c f result error (present_follows it)
      (looked_left _ _ _ f a b c (rw (is, there) at did) (rw place at front)) keeps

  new_follows : (fed : List ℕ) → Leads phase.Judge s fed (with_trail (held_of s fed) (at_object index s.trail)) (does (Finds (in_root candidate.place) None))
      (Ok (phase.Carrying (record { id = candidate.id; place = candidate.place; gathered = is_none index; site = length s.trail; empty = 0 }) stage.Open))
  new_follows fed = rw read_as.place (Walk (IsNew (held_of s fed) index candidate.id named_at))

  pub found_new : (s' : State) (a b : DeviceStates) (path : Path) (here : Option Kind) (gathered : Bool) (site : ℕ) (next : Phase)
      → Did (does (Finds path here)) a b → here ≡ None → path ≡ in_root candidate.place
      → next ≡ phase.Carrying (record { id = candidate.id; place = candidate.place; gathered = gathered; site = site; empty = 0 }) stage.Open
      → gathered ≡ is_none index → site ≡ length s'.trail
      → Moved (at_object index s.trail) s.counts s s' → Turned phase.Judge s s' a b (Ok next)
  found_new s' a b path here gathered site next did is there then gather deep to =
      let object_is : next ≡ phase.Carrying (record { id = candidate.id; place = candidate.place; gathered = is_none index; site = length s.trail; empty = 0 })
      stage.Open =
      then ∙ (λ i. phase.Carrying (record {
        id = candidate.id;
        place = candidate.place;
        gathered = gather i;
        site = (deep ∙ ap length to.trail_is
            ∙ length-object index s.trail) i;
        empty = 0;
      }) stage.Open) in
      rw object_is
      (moves a b new_follows (rw (there, is) at did) to refl)

-- ---- the trail at the object

listed : (i : ℕ) (items : List Item) (o : Option Item) → slice_get items i ≡ o → is_dir_entry o ≡ true → nat_le i (length items) ≡ true
listed i items None at is = absurd (cc)
listed i items (Some item) at is = le-leb i (length items) (let within = slice_get_within items i item at in omega (arith, within))

pub object_place : (s : State) (index : ℕ) → FindsObject s (Some index) → has_place index s.trail ≡ true
unfolding FindsObject
object_place s index is = by s.trail is
  where
    by : (trail : List Frame) → found_at (form_of (job_of s.job)) trail ≡ finding.Candidate index → has_place index trail ≡ true
    by [] is = absurd (cc)
    by (frame ∷ frames) is = let only = one_candidate frame.listing (at_of (names_to frames)) (form_of (job_of s.job)) index is in listed index frame.listing
        (slice_get frame.listing index) refl (ap is_dir_entry only.1)

pub ruleset judging = (
  passed_site_quietly,
  passed_object,
  found_inner,
  found_none,
  finds_candidate,
  finds_gathered,
  skips_site,
  led_on,
  moved,
  front_none,
  passed_site,
  passed_site_front,
  object_below,
  identified_here,
  skips_refused,
  looked_short,
  looked_then,
  told_present,
  told_present_front,
  found_new,
  object_place,
)

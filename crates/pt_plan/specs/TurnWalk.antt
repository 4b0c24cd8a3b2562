-- The turns of the walk through the sites.
use Rattle.std.specs.Prelude.{◌≡◌, ℕ, true, false, nat_lt, List, [], ◌∷◌, ◌++◌, length, Option, None, Some, Ok, is_none}
use Rattle.pt_name.specs.Identifying.{identifier_at}
use Rattle.pt_name.specs.Place.{place_of}
use Rattle.pt_name.specs.Share.{tells_at, walks}
use Rattle.pt_tree.specs.Listing.{Item}
use Rattle.pt_tree.specs.Path.{Path}
use Rattle.pt_tree.specs.declared.kind.Kind.{Kind}
use Rattle.pt_tree.specs.declared.kind.Kind.TheVariants as kind
use Rattle.pt_walk.specs.Site.{found, is_short, is_shorty}
use Rattle.pt_walk.specs.Sites.{at_of, is_last}
use Rattle.pt_walk.specs.Trail.{advanced, current_entry, entered, names_to, parent, sought, trail_path}
use Rattle.pt_walk.specs.declared.cause.Cause.{Cause}
use Rattle.pt_walk.specs.declared.cause.Cause.TheVariants as cause
use Rattle.pt_walk.specs.declared.frame.Frame.{Frame}
use Rattle.pt_walk.specs.declared.site.Finding.{Finding}
use Rattle.pt_walk.specs.declared.site.Finding.TheVariants as finding
use Rattle.pt_walk.specs.declared.site.Form.{Form}
use Rattle.pt_plan.specs.Answer.{Answer}
use Rattle.pt_plan.specs.Items.{Interior, Named, Skip, VerdictOn, ours, verdict_by_identifier}
use Rattle.pt_plan.specs.Job.{Job, form_of}
use Rattle.pt_plan.specs.Lines.{Present, Skipped}
use Rattle.pt_plan.specs.Run.{Held, with_trail}
use Rattle.pt_plan.specs.Store.{pairtree_root}
use Rattle.pt_plan.specs.Roots.{storage_root}
use Rattle.pt_plan.specs.DeviceStates.{AsksNothing, Calls, Finds, Lists, asks, does, no_calls, tells, tells_if}
use Rattle.pt_plan.specs.declared.object.Object.{Object}
use Rattle.pt_plan.specs.declared.phase.Phase.{Phase}
use Rattle.pt_plan.specs.declared.phase.Opening.TheVariants as opening
use Rattle.pt_plan.specs.declared.phase.Phase.TheVariants as phase
use Rattle.pt_plan.specs.declared.phase.Stage.TheVariants as stage

-- ---- what a site is found to be

-- what the site is that the innermost listing is of
abbrev pub found_at : Form → List Frame → Finding
found_at form [] = finding.Interior
found_at form (frame ∷ frames) = found frame.listing (at_of (names_to frames)) form

-- a site has an object, which is encapsulated in the entry of this index, or gathered
abbrev pub has_object : Option ℕ → Finding
has_object (Some index) = finding.Candidate index
has_object None = finding.Gathered

-- the site, by what it was found to be: an object is encapsulated in the entry of an index, or gathered
abbrev pub judged_by_finding : Job → List ℕ → Path → Finding → VerdictOn (Option ℕ)
judged_by_finding job prefix site finding.Interior = Interior
judged_by_finding job prefix site (finding.Skip why) = Skip why
judged_by_finding job prefix site (finding.Candidate index) =
    verdict_by_identifier (Some index) (identifier_at job.tuples prefix site)
judged_by_finding job prefix site finding.Gathered =
    verdict_by_identifier None (identifier_at job.tuples prefix site)

-- the site that the innermost listing is of, as far as it is of the job's share
abbrev pub judged_at : Job → List ℕ → List Frame → VerdictOn (Option ℕ)
judged_at job prefix trail =
    ours job.share (trail_path trail) (judged_by_finding job prefix (trail_path trail) (found_at (form_of job) trail))

-- the trail at the site's object: its place at the entry of this index, if there is one
abbrev pub at_object : Option ℕ → List Frame → List Frame
at_object (Some index) trail = sought index trail
at_object None trail = trail

-- the path of the site's object: of the entry of this index, or of the site
abbrev pub path_of_object : Option ℕ → List Frame → Path
path_of_object (Some index) trail = names_to (sought index trail)
path_of_object None trail = trail_path trail

-- an object whose place is free, before it is entered
abbrev pub new_object : Job → List ℕ → Option ℕ → List Frame → Object
new_object job id index trail =
    record {
      id = id;
      place = place_of job.tuples id;
      gathered = is_none index;
      site = length trail;
      empty = 0;
    }

-- ---- the turns

-- where something may stand in the storage root
abbrev pub in_root : Path → Path
in_root path = storage_root ++ path

-- the path in the source of what stands here in the pairtree
abbrev pub in_pairtree : Path → Path
in_pairtree path = pairtree_root ∷ path

-- from the phase and what is held to what is held after, with the calls and the answer, where the store has this prefix
pub data WalkStep (job : Job) (prefix : List ℕ) : Phase → Held → Held → Calls → Answer → Type 0 where
  -- the pairtree's directory is listed and entered
  OpensRoot : (held : Held) (items : List Item)
      → WalkStep job prefix (phase.Opening opening.OpenRoot) held (with_trail held (entered items held.trail))
      (asks (Lists (in_pairtree []) items)) (Ok phase.Judge)
  -- the site only leads on, or is of another share
  LeadsOn : (held : Held) → judged_at job prefix held.trail ≡ Interior
      → WalkStep job prefix phase.Judge held held no_calls (Ok phase.Walk)
  -- there is a cause against the site, or its object has no identifier that can be carried
  IsSkipped : (held : Held) (why : Cause) → judged_at job prefix held.trail ≡ Skip why
      → WalkStep job prefix phase.Judge held held (tells (Skipped (trail_path held.trail) why)) (Ok phase.Walk)
  -- its place is taken
  IsPresent : (held : Held) (index : Option ℕ) (id : List ℕ) (here : Kind)
      → judged_at job prefix held.trail ≡ Named id index
      → WalkStep job prefix phase.Judge held held
      (record {
        asked = AsksNothing;
        change = Finds (in_root (place_of job.tuples id)) (Some here);
        line = Some (Present (path_of_object index held.trail) id (place_of job.tuples id));
      }) (Ok phase.Walk)
  -- its place is free
  IsNew : (held : Held) (index : Option ℕ) (id : List ℕ) → judged_at job prefix held.trail ≡ Named id index
      → WalkStep job prefix phase.Judge held (with_trail held (at_object index held.trail))
      (does (Finds (in_root (place_of job.tuples id)) None))
      (Ok (phase.Carrying (new_object job id index held.trail) stage.Open))
  -- a shorty below a name of one byte, which the share tells whose it is
  IsPast : (held : Held) (name : List ℕ) → current_entry held.trail ≡ Some (name, kind.Dir)
      → is_short name ≡ true → is_last (at_of (trail_path held.trail)) ≡ true
      → WalkStep job prefix phase.Walk held (with_trail held (advanced held.trail))
      (tells_if (tells_at job.share (names_to held.trail)) (Skipped (names_to held.trail) cause.Past)) (Ok phase.Walk)
  -- a shorty that is too deep, which the share tells whose it is
  IsDeep : (held : Held) (name : List ℕ) → current_entry held.trail ≡ Some (name, kind.Dir)
      → is_short name ≡ true → is_last (at_of (trail_path held.trail)) ≡ false
      → nat_lt job.limits.depth (length held.trail) ≡ true
      → WalkStep job prefix phase.Walk held (with_trail held (advanced held.trail))
      (tells_if (tells_at job.share (names_to held.trail)) (Skipped (names_to held.trail) cause.Limit)) (Ok phase.Walk)
  -- a shorty that another share lists
  PassesElsewhere : (held : Held) (name : List ℕ) → current_entry held.trail ≡ Some (name, kind.Dir)
      → is_short name ≡ true → is_last (at_of (trail_path held.trail)) ≡ false
      → nat_lt job.limits.depth (length held.trail) ≡ false
      → walks job.share (names_to held.trail) ≡ false
      → WalkStep job prefix phase.Walk held (with_trail held (advanced held.trail)) no_calls (Ok phase.Walk)
  -- any other shorty is listed and entered
  EntersSite : (held : Held) (name : List ℕ) (items : List Item)
      → current_entry held.trail ≡ Some (name, kind.Dir) → is_short name ≡ true
      → is_last (at_of (trail_path held.trail)) ≡ false
      → nat_lt job.limits.depth (length held.trail) ≡ false
      → walks job.share (names_to held.trail) ≡ true
      → WalkStep job prefix phase.Walk held (with_trail held (entered items held.trail))
      (asks (Lists (in_pairtree (names_to held.trail)) items)) (Ok phase.Judge)
  -- any other entry is passed
  PassesEntry : (held : Held) (item : Item) → current_entry held.trail ≡ Some item → is_shorty item ≡ false
      → WalkStep job prefix phase.Walk held (with_trail held (advanced held.trail)) no_calls (Ok phase.Walk)
  -- at its end the listing is left
  LeavesSite : (held : Held) → current_entry held.trail ≡ None → nat_lt 1 (length held.trail) ≡ true
      → WalkStep job prefix phase.Walk held (with_trail held (advanced (parent held.trail))) no_calls
      (Ok phase.Walk)
  -- at the end of the outermost the walk is done
  EndsWalk : (held : Held) → current_entry held.trail ≡ None → nat_lt 1 (length held.trail) ≡ false
      → WalkStep job prefix phase.Walk held held no_calls (Ok phase.End)

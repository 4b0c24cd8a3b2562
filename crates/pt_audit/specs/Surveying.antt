-- A survey under way: the turns of a run that look at a store, over a destination in which nothing stands.
-- Its neighbours are the source's, since nothing is made.
use Rattle.std.specs.Prelude.{
  ◌≡◌,
  ◌<◌,
  ◌≤◌,
  ℕ,
  zero,
  suc,
  All,
  Bool,
  true,
  false,
  List,
  [],
  ◌∷◌,
  ◌++◌,
  ◌+◌,
  count_by,
  map,
  sum_by,
  Option,
  None,
  Some,
  option_to_list,
  slice_get,
}
use Rattle.std.specs.Option.{ForSome}
use Rattle.pt_invariant.specs.RunInvariant.{IsHistory, Start}
use Rattle.pt_invariant.specs.History.{History}
use Rattle.pt_invariant.specs.Rank.{rank}
use Rattle.pt_move.specs.Bounds.{IsBounded}
use Rattle.pt_move.specs.Outcome.{HoldsWithinBound, SaysRightly}
use Rattle.pt_move.specs.Running.{FedUntilEnd, TypeInvariant, Running, run_of}
use Rattle.pt_move.specs.Unmet.{AreUnmet}
use Rattle.pt_name.specs.Place.{place_of}
use Rattle.pt_object.specs.Algorithm.{digest_of}
use Rattle.pt_object.specs.FilePaths.{File, paths_of}
use Rattle.pt_object.specs.Object.{bytes_in, rows_of, stored_files}
use Rattle.pt_object.specs.declared.rows.Row.{Row}
use Rattle.pt_plan.specs.Items.{Holds, Item, Named, PairtreeObject, items, outcome}
use Rattle.pt_plan.specs.Carried.{Marked}
use Rattle.pt_plan.specs.Job.{Job}
use Rattle.pt_plan.specs.Lines.{Line, Skipped, is_skipped, line_by_verdict, line_text}
use Rattle.pt_plan.specs.Run.{Held, Run}
use Rattle.pt_plan.specs.TurnMake.{path_of_source}
use Rattle.pt_plan.specs.TurnPlace.{done_line}
use Rattle.pt_plan.specs.TurnWalk.{in_pairtree}
use Rattle.pt_plan.specs.Work.{work_on_item}
use Rattle.pt_plan.specs.DeviceStates.{Puts, DeviceStates}
use Rattle.pt_plan.specs.declared.object.Object.{Object}
use Rattle.pt_plan.specs.declared.phase.Part.{Part}
use Rattle.pt_plan.specs.declared.phase.Part.TheVariants as part
use Rattle.pt_plan.specs.declared.phase.Phase.{Phase}
use Rattle.pt_plan.specs.declared.phase.Opening.TheVariants as opening
use Rattle.pt_plan.specs.declared.phase.Phase.TheVariants as phase
use Rattle.pt_plan.specs.declared.phase.Stage.TheVariants as stage
use Rattle.pt_state.specs.Fields.{HoldsNothingElse}
use Rattle.pt_state.specs.Outside.{states}
use Rattle.pt_state.specs.States.{held_of, job_of, kept_of}
use Rattle.pt_state.specs.declared.job.Job as own
use Rattle.pt_state.specs.declared.state.State.{State}
use Rattle.pt_state.specs.Telling.{IsCarried}
use Rattle.pt_plan.specs.declared.fault.Fault.{Fault}
use Rattle.pt_plan.specs.declared.fault.Fault.TheVariants as fault
use Rattle.pt_audit.specs.EmptyDest.{bare}
use Rattle.pt_audit.specs.declared.survey.ObjectAtHand.{ObjectAtHand}
use Rattle.pt_audit.specs.declared.survey.SurveyEvent.{SurveyEvent}
use Rattle.pt_audit.specs.declared.survey.SurveyEvent.TheVariants as sight
use Rattle.pt_tree.specs.Forest.{Forest}
use Rattle.pt_tree.specs.Log.{AppendsFront}
use Rattle.pt_tree.specs.Path.{Path}
use Rattle.pt_tree.specs.Source.{Reading}
use Rattle.pt_tree.specs.declared.log.Log.{Ghosts as OfLog}
use Rattle.pt_tree.specs.declared.source.Source.{Ghosts as OfSource}
use Rattle.pt_walk.specs.Left.{bytes_at}
use Rattle.pt_walk.specs.Trail.{trail_path}
use Rattle.pt_walk.specs.declared.cause.Cause.{Cause}

-- ---- where it stands

-- of destination and log nothing is told
abbrev pub no_start : Start
no_start = record { dest = None; log = None }

-- states in which the source alone tells, and nothing failed
abbrev pub source_alone : Option Reading → DeviceStates
source_alone told = states told None None 0 0 0

-- the states of a survey's devices, by the words of their traits: its source and its log, over a bare root that never fails
abbrev pub bare_states : {S L : Type 0} → OfSource S → OfLog L → S → L → DeviceStates
bare_states s l source log = states (s.told source) (Some bare) (l.told log) (s.failed source) 0 (l.failed log)

-- the same with a log that nobody reads
abbrev pub unlogged_states : {S : Type 0} → OfSource S → S → DeviceStates
unlogged_states s source = states (s.told source) (Some bare) None (s.failed source) 0 0

-- what stands in the source is looked at
abbrev pub is_looking : Phase → Bool
is_looking (phase.Opening opening.Begin) = true
is_looking (phase.Opening (opening.Prefix here)) = true
is_looking (phase.Opening opening.OpenRoot) = true
is_looking phase.Judge = true
is_looking (phase.Carrying object stage.Open) = true
is_looking (phase.Carrying object stage.Scan) = true
is_looking (phase.Carrying object (stage.Read bytes)) = true
is_looking phase.Walk = true
is_looking _ = false

-- an object is at hand
abbrev pub is_at_hand : Phase → Bool
is_at_hand (phase.Carrying object stage.Line) = true
is_at_hand _ = false

-- or an object is at hand, or all was seen
abbrev pub is_of_survey : Phase → Bool
is_of_survey (phase.Carrying object stage.Line) = true
is_of_survey phase.End = true
is_of_survey here = is_looking here

-- where a survey goes on that a run would make something: no root is made, and an object that was scanned is at hand
abbrev pub passed_part : Object → Part → Phase
passed_part object part.Staging = phase.Carrying object stage.Line
passed_part object here = phase.Carrying object (stage.Make here)

-- the phase behind those that make something
abbrev pub passed : Phase → Phase
passed (phase.Opening opening.Staging) = phase.Opening opening.OpenRoot
passed (phase.Carrying object (stage.Make here)) = passed_part object here
passed here = here

-- what is seen there
abbrev pub sight_at : Phase → SurveyEvent
sight_at (phase.Opening opening.OpenRoot) = sight.Store
sight_at (phase.Carrying object stage.Scan) = sight.Scan
sight_at (phase.Carrying object (stage.Read zero)) = sight.Opened
sight_at (phase.Carrying object (stage.Read (suc bytes))) = sight.Block
sight_at (phase.Carrying object stage.Line) = sight.Object
sight_at phase.End = sight.End
sight_at _ = sight.More

-- ---- how many steps it makes

-- of no item the place is taken
abbrev pub all_free : List Item → List Marked
all_free items = map (λ item. (item, false)) items

-- as many as a run over no root makes turns at most, where no identifier comes twice
abbrev pub work_of_survey : Job → Forest → ℕ
work_of_survey job source = 13 + sum_by (work_on_item job) (all_free (items job source))

-- the steps made and the most that are left are together no more than that
abbrev pub IsWithinWork : Job → Forest → ℕ → Run → Type 0
IsWithinWork job source count run =
    run.kept.counts.turns
    + rank job source (all_free (items job source)) count run.phase run.kept.held
    ≤ work_of_survey job source

-- ---- a survey under way

-- a survey of a source that tells this is under way, and so many items were seen
pub record IsSurvey (told : Option Reading) (count : ℕ) (r : Running) : Type 0 where
  pub fed : List ℕ
  pub was : FedUntilEnd r.phase r.state.job.algorithm r.state.hasher fed
  pub past : History
  pub seen : past.count ≡ count
  pub is : IsHistory (job_of r.state.job) no_start (source_alone told) (run_of r fed) past
  pub within : ForSome told (λ s. IsWithinWork (job_of r.state.job) s.tree past.count (run_of r fed))
  pub unmet : ForSome told (λ s. AreUnmet (job_of r.state.job) s.tree r.phase past.count r.state.unmet)
  pub stands : is_of_survey r.phase ≡ true

-- or of some number of items
unfoldable pub Surveys : Option Reading → Running → Type 0
Surveys told r = (count : ℕ) × IsSurvey told count r

-- a step may be made: the survey is under way, its numbers are within their bounds, and the limit of turns isn't made
pub record IsReady (told : Option Reading) (here : Phase) (s : State) : Type 0 where
  pub under_way : Surveys told (record { phase = here; state = s })
  pub well : TypeInvariant (record { phase = here; state = s })
  pub within : s.counts.turns < s.job.limits.turns

-- ---- each step

-- the store wasn't seen yet
abbrev pub is_before_store : Phase → Bool
is_before_store (phase.Opening opening.Begin) = true
is_before_store (phase.Opening (opening.Prefix here)) = true
is_before_store _ = false

-- nor its sites
abbrev pub is_before_sites : Phase → Bool
is_before_sites (phase.Opening opening.OpenRoot) = true
is_before_sites here = is_before_store here

-- a step is counted, within the limit and the work, and behind it what is held is within its bounds
pub record Steps (source : Option Forest) (before after : Running) : Type 0 where
  -- the job stays
  pub job : after.state.job ≡ before.state.job
  -- a step more is counted
  pub counted : after.state.counts.turns ≡ before.state.counts.turns + 1
  -- within the limit
  pub within : after.state.counts.turns ≤ before.state.job.limits.turns
  -- of no more than its work
  pub work : ForSome source
      (λ s. after.state.counts.turns ≤ work_of_survey (job_of before.state.job) s)
  -- no more is held than the source's bound
  pub bound : HoldsWithinBound before.state.job source after.state
  -- the numbers are within theirs
  pub numbers : IsBounded (job_of after.state.job) after.phase (kept_of after.state [])
  -- and beside the phase the fields of a state are held, and nothing else
  pub holds : HoldsNothingElse after.state
  -- the store is seen before its sites
  pub order : is_before_store before.phase ≡ true → is_before_sites after.phase ≡ true

-- ---- what a step says that ends the survey

-- a fault of a destination, of which a survey has none
abbrev pub is_of_dest : Fault → Bool
is_of_dest fault.Dest = true
is_of_dest fault.StagingLeft = true
is_of_dest fault.Target = true
is_of_dest _ = false

-- the limit is met only where it is less than the work
abbrev pub MeetsLimit : own.Job → Option Forest → Fault → Type 0
MeetsLimit job source f =
    f ≡ fault.Turns → ForSome source (λ s. job.limits.turns < work_of_survey (job_of job) s)

-- a fault says so of the store alone, in a step from this phase
pub record SurveySays (job : own.Job) (here : Phase) (source : Option Forest) (f : Fault) : Type 0 where
  -- a store is refused only for what it is
  pub rightly : SaysRightly job source None f
  -- a destination is never refused
  pub no_dest : is_of_dest f ≡ false
  pub turns : MeetsLimit job source f
  -- it has ended only where all was seen
  pub ended : f ≡ fault.Ended → here ≡ phase.End

-- ---- what a step sees

-- the item of this number has these lines, where its place is free
pub record SeesItem (job : Job) (source : Forest) (count : ℕ) (lines : List Line) : Type 0 where
  pub item : Item
  pub is : slice_get (items job source) count ≡ Some item
  pub lines_are : line_by_verdict job item.path false item.verdict ≡ lines

-- From where it stood, with what is held: so many items are seen after a step, and this line was told. As many as before; or one more, which only
-- leads on, or is passed over with its line, or has the object that was at hand, of which others tell
pub data Sees (job : Job) (source : Forest) (count : ℕ) : Phase → Held → Option Line → ℕ → Type 0 where
  Nothing : {here : Phase} {held : Held} → is_looking here ≡ true → Sees job source count here held None count
  Leads : {here : Phase} {held : Held} → is_looking here ≡ true → SeesItem job source count []
      → Sees job source count here held None (suc count)
  Skips : {here : Phase} {held : Held} → is_looking here ≡ true → (at : Path) (why : Cause)
      → SeesItem job source count (Skipped at why ∷ [])
      → Sees job source count here held (Some (Skipped at why)) (suc count)
  WasAtHand : {object : Object} {held : Held} → SeesItem job source count (done_line object held ∷ [])
      → Sees job source count (phase.Carrying object stage.Line) held None (suc count)

-- and the log got that line, which is counted if it tells of what was passed over
pub record Saw (source : Forest) (count next : ℕ) (before after : Running) (old new : Option (List ℕ)) : Type 0 where
  pub line : Option Line
  pub sees : Sees (job_of before.state.job) source count before.phase (held_of before.state []) line next
  pub puts : Puts line old new
  pub skips : after.state.counts.skipped
      ≡ before.state.counts.skipped + count_by is_skipped (option_to_list line)

-- a step from this phase that breaks off has put nothing in the log, or a front of the line of the item of this number, which is passed over
pub data StopsAt (job : Job) (source : Forest) (count : ℕ) (here : Phase) (old new : Option (List ℕ)) : Type 0 where
  Untold : new ≡ old → StopsAt job source count here old new
  InSkip : is_looking here ≡ true → (at : Path) (why : Cause) → SeesItem job source count (Skipped at why ∷ [])
      → AppendsFront old new (line_text (Skipped at why)) → StopsAt job source count here old new

-- the survey goes on after a step, before and after which source and log tell this: so many items are seen, and, where the source tells, this was seen
pub record GoesOn (old new : Option Reading × Option (List ℕ)) (count : ℕ)
    (before after : Running) : Type 0 where
  pub next : ℕ
  pub is : IsSurvey new.0 next after
  pub saw : ForSome old.0 (λ s. Saw s.tree count next before after old.1 new.1)
  pub job : after.state.job ≡ before.state.job

-- ---- the object at hand

-- these rows have the digests of what the source has at their paths, below where the object stands in its pairtree
abbrev pub HaveOwnDigests : Job → Forest → Path → List Row → Type 0
HaveOwnDigests job source at rows =
    All (λ row. row.digest ≡ digest_of job.algorithm (bytes_at source (in_pairtree (at ++ row.path)))) rows

-- the item of this number has it: there is no cause against it, and what is held of it are its files, as they stand in the source
pub record HasAtHand (job : Job) (source : Forest) (count : ℕ) (object : Object) (held : Held) : Type 0 where
  pub item : Item
  pub inner : PairtreeObject
  pub files : List File
  pub is : slice_get (items job source) count ≡ Some item
  pub named : item.verdict ≡ Named object.id inner
  pub whole : outcome job.limits inner ≡ Holds files
  pub rows : held.rows ≡ rows_of job.algorithm files
  pub stored : stored_files held.rows (λ path. bytes_at source (in_pairtree (inner.at ++ path)))
      ≡ stored_files held.rows (bytes_in files)
  pub bytes : All (λ path. bytes_at source (in_pairtree (inner.at ++ path)) ≡ bytes_in files path) (paths_of files)
  pub digests : HaveOwnDigests job source inner.at held.rows
  pub site : item.path ≡ trail_path held.trail
  pub at : inner.at ≡ path_of_source object held.trail
  pub place : object.place ≡ place_of job.tuples object.id
  pub lines_are : line_by_verdict job item.path false item.verdict ≡ done_line object held ∷ []

-- it is this object, with what is held of it
pub record IsOf (object : Object) (s : State) (hand : ObjectAtHand) : Type 0 where
  pub told : IsCarried object s hand.told
  pub rows : hand.rows.now ≡ s.rows
  pub contents : hand.contents.now ≡ s.contents

-- at a phase, this object is at hand
abbrev pub IsHandAt : Phase → State → ObjectAtHand → Type 0
IsHandAt (phase.Carrying object stage.Line) s hand = IsOf object s hand
IsHandAt _ s hand = ⊥

-- this object is at hand
abbrev pub IsHand : Running → ObjectAtHand → Type 0
IsHand r hand = IsHandAt r.phase r.state hand

-- An audit: what it tells of the objects of a store and a storage root, and an audit under way.
use Rattle.std.specs.Prelude.{
  ◌≡◌,
  ℕ,
  suc,
  ◌+◌,
  ◌&&◌,
  All,
  Bool,
  true,
  false,
  List,
  [],
  ◌∷◌,
  ◌++◌,
  drop,
  map,
  min,
  Option,
  Some,
  Result,
  Ok,
  Err,
  slice_get,
  take,
}
use Rattle.std.specs.Option.{ForSome}
use Rattle.std.specs.String.{string_bytes}
use Rattle.pt_audit.specs.Counting.{counts_with, no_counts}
use Rattle.pt_audit.specs.Layout.{IsOfLayout}
use Rattle.pt_audit.specs.Lines as audit
use Rattle.pt_audit.specs.declared.auditing.ObjectsAudit.{ObjectsAudit}
use Rattle.pt_audit.specs.declared.counts.Counts.{Counts}
use Rattle.pt_audit.specs.declared.task.AuditTask.{AuditTask}
use Rattle.pt_audit.specs.declared.compare_by.CompareBy.{CompareBy}
use Rattle.pt_audit.specs.declared.compare_by.CompareBy.TheVariants.{Bytes, Lengths}
use Rattle.pt_compare.specs.Found.{IsFound, Sought}
use Rattle.pt_compare.specs.Marks.{inside}
use Rattle.pt_compare.specs.declared.difference.Comparison.{Comparison}
use Rattle.pt_invariant.specs.RunInvariant.{items_through}
use Rattle.pt_move.specs.Running.{Running}
use Rattle.pt_name.specs.Place.{place_of}
use Rattle.pt_object.specs.Distinct.{content_of_row, distinct}
use Rattle.pt_object.specs.FilePaths.{File, paths_of, row_paths}
use Rattle.pt_tree.specs.PathOrder.{part_in_order}
use Rattle.pt_object.specs.Inventory.{inventory_text}
use Rattle.pt_object.specs.Object.{bytes_in, rows_of, stored_files}
use Rattle.pt_plan.specs.Items.{Holds, Item, Named, PairtreeObject, items, outcome}
use Rattle.pt_plan.specs.Job.{Job}
use Rattle.pt_plan.specs.Met.{unmet_in_store}
use Rattle.pt_plan.specs.Lines.{Done, Line, Skipped, line_by_verdict, line_text}
use Rattle.pt_plan.specs.Store.{prefix_of}
use Rattle.pt_plan.specs.TurnWalk.{in_pairtree, in_root}
use Rattle.pt_plan.specs.declared.fault.Fault.{Fault}
use Rattle.pt_quick.specs.Quick.{IsQuickOf}
use Rattle.pt_state.specs.States.{job_of}
use Rattle.pt_state.specs.declared.job.Job as own
use Rattle.pt_audit.specs.Twin.{is_differing, is_twin}
use Rattle.pt_audit.specs.Surveying.{HaveOwnDigests, IsSurvey, Surveys, is_before_sites, is_before_store, sight_at}
use Rattle.pt_audit.specs.declared.survey.SurveyEvent.{SurveyEvent}
use Rattle.pt_audit.specs.declared.survey.SurveyEvent.TheVariants as sight
use Rattle.pt_audit.specs.declared.survey.ObjectAtHand.{ObjectAtHand}
use Rattle.pt_tree.specs.Failures.{greatest_count}
use Rattle.pt_tree.specs.Forest.{Forest}
use Rattle.pt_tree.specs.Path.{Path}
use Rattle.pt_tree.specs.Source.{CanOpen, Reading, tree_in}
use Rattle.pt_tree.specs.Tree.{Tree}
use Rattle.pt_walk.specs.Left.{bytes_at}
use Rattle.pt_walk.specs.Trail.{trail_path}
use Rattle.pt_walk.specs.declared.cause.Cause.{Cause}

-- ---- what is told of an item

-- what is sought at the place of an object of the store: it, as a run would carry it, with an inventory that says of its version whatever a run can be given
abbrev pub sought : Job → List ℕ → List File → Sought
sought job id files = record {
  algorithm = job.algorithm;
  text_with = λ meta. inventory_text id (rows_of job.algorithm files) meta job.algorithm;
  stored = stored_files (rows_of job.algorithm files) (bytes_in files);
}

-- this is found of it where this tree stands: by bytes what just differs from it; by lengths what differs from it with some digests
abbrev pub IsFoundBy : CompareBy → Job → List ℕ → List File → Tree → Comparison → Type 0
IsFoundBy Bytes job id files t finding = IsFound (sought job id files) t finding
IsFoundBy Lengths job id files t finding = IsQuickOf job.algorithm id (paths_of files) (bytes_in files) t finding

-- the item has an object with no cause against it, and this is found at the place of its identifier
pub record IsFoundOf (by : CompareBy) (job : Job) (source root : Forest) (item : Item) (finding : Comparison) : Type 0 where
  pub id : List ℕ
  pub object : PairtreeObject
  pub files : List File
  pub named : item.verdict ≡ Named id object
  pub whole : outcome job.limits object ≡ Holds files
  pub found : IsFoundBy by job id files
      (inside root (in_root (place_of job.tuples id))) finding

-- The text that is told of an item, by the line that a run would tell of it over no root, and what is counted. Where it only leads on nothing is;
-- what is passed over is told as a run tells it; of an object it is told what is found, and where that is a difference, whether it is a twin
pub data TellsOf (by : CompareBy) (job : Job) (source root : Forest) (item : Item) : List Line → List ℕ → Counts → Counts → Type 0 where
  Leads : {counts : Counts} → TellsOf by job source root item [] [] counts counts
  Passes : {counts : Counts} (at : Path) (why : Cause)
      → TellsOf by job source root item (Skipped at why ∷ []) (line_text (Skipped at why)) counts
      (record counts { skipped = counts.skipped + 1 })
  Finds : {counts : Counts} {at : Path} {bytes empty files : ℕ} {id : List ℕ} {to : Path} (finding : Comparison)
      → IsFoundOf by job source root item finding
      → TellsOf by job source root item (Done at bytes empty files id to ∷ [])
      (audit.line_text (audit.line_by by
      (record {
        at = at;
        bytes = min bytes greatest_count;
        empty = empty;
        files = files;
        id = id;
        to = to;
      }) (is_twin job source item.path id) finding))
      counts (counts_with finding counts)

-- of the first so many items of a store, the text that is told of them, one after another, and the counts
pub data Told (by : CompareBy) (job : Job) (source root : Forest) : ℕ → List ℕ → Counts → Type 0 where
  Nothing : Told by job source root 0 [] no_counts
  Next : {n : ℕ} {text more : List ℕ} {counts later : Counts} (item : Item)
      → Told by job source root n text counts → slice_get (items job source) n ≡ Some item
      → TellsOf by job source root item (line_by_verdict job item.path false item.verdict) more counts later
      → Told by job source root (suc n) (text ++ more) later

-- ---- an audit under way

-- what an audit began over, as far as it is told: the trees of store and root, and what the log told; and by what it compares
pub record AuditStart : Type 0 where
  pub by : CompareBy
  pub source : Option Forest
  pub root : Option Forest
  pub log : Option (List ℕ)

-- the start over these trees, where the log told this, of an audit that compares by this
abbrev pub start_over : CompareBy → Option Forest → Option Forest → Option (List ℕ) → AuditStart
start_over by source root log = record { by = by; source = source; root = root; log = log }

-- where all three were told, the log has got the text of the first so many items, of which these are the counts
abbrev pub HasToldOf : Job → AuditStart → Option (List ℕ) → ℕ → Counts → Type 0
HasToldOf job start now count counts =
    ForSome start.source
    (λ s. ForSome start.root
    (λ r. ForSome start.log
    (λ old. (text : List ℕ) × (now ≡ Some (old ++ text)) × Told start.by job s r count text counts)))

-- with those that the survey passed over
abbrev pub counted : Counts → Running → Counts
counted counts r = record counts { skipped = r.state.counts.skipped }

-- where the root is told, it is one that a run could go on with
abbrev pub CanGoOn : Option Forest → Running → Type 0
CanGoOn root r = ForSome root (IsOfLayout (job_of r.state.job))

-- a step of the survey was made, and of nothing is told yet that it came to
pub record IsSeen (told : Option Reading) (start : AuditStart) (now : Option (List ℕ))
    (counts : Counts) (r : Running) : Type 0 where
  pub count : ℕ
  pub is : IsSurvey told count r
  pub so_far : HasToldOf (job_of r.state.job) start now count (counted counts r)
  pub opened : is_before_sites r.phase ≡ false → CanGoOn start.root r

-- something is told or looked at that a step came to
abbrev pub is_told : SurveyEvent → Bool
is_told sight.Store = true
is_told sight.Object = true
is_told sight.End = true
is_told _ = false

-- a survey is under way that saw this by its last step
pub record IsAt (told : Option Reading) (what : SurveyEvent) (r : Running) : Type 0 where
  pub under_way : Surveys told r
  pub saw : what ≡ sight_at r.phase

-- between two steps: of the item whose object is at hand is told too
pub record IsUnderWay (told : Option Reading) (start : AuditStart) (now : Option (List ℕ))
    (counts : Counts) (r : Running) : Type 0 where
  pub count : ℕ
  pub is : IsSurvey told count r
  pub so_far : HasToldOf (job_of r.state.job) start now (items_through r.phase count) (counted counts r)
  pub opened : is_before_store r.phase ≡ false → CanGoOn start.root r

-- what is sought at the place of the object at hand
abbrev pub sought_at_hand : own.Job → ObjectAtHand → Forest → Sought
sought_at_hand job hand source = record {
  algorithm = job.algorithm;
  text_with = λ meta. inventory_text hand.told.id.now hand.rows.now meta job.algorithm;
  stored = stored_files hand.rows.now (λ path. bytes_at source (in_pairtree (hand.told.at ++ path)));
}

-- this is found of it where this tree stands, by bytes or by lengths
abbrev pub IsFoundOfHand : CompareBy → own.Job → ObjectAtHand → Forest → Tree → Comparison → Type 0
IsFoundOfHand Bytes job hand source t finding = IsFound (sought_at_hand job hand source) t finding
IsFoundOfHand Lengths job hand source t finding =
    IsQuickOf job.algorithm hand.told.id.now (row_paths hand.rows.now)
    (λ path. bytes_at source (in_pairtree (hand.told.at ++ path))) t finding

-- and there, where both trees are told
abbrev pub IsFoundAtHand : CompareBy → own.Job → ObjectAtHand → Option Forest → Option Forest → Comparison → Type 0
IsFoundAtHand by job hand source root finding =
    ForSome source (λ s. ForSome root
    (λ r. IsFoundOfHand by job hand s (inside r (in_root hand.told.to.now)) finding))

-- whether it is told as a twin, where the source is told: it differs, and is one
abbrev pub IsTwinAtHand : Option Forest → Running → List ℕ → Comparison → Bool → Type 0
IsTwinAtHand source r id finding twin =
    ForSome source
    (λ s. twin ≡ (is_differing finding && is_twin (job_of r.state.job) s (trail_path r.state.trail) id))

-- the object at hand can be compared: its contents are those of its rows, these are in order, with the digests of what the source has, and its files
-- can be opened
pub record CanCompare (told : Option Reading) (job : own.Job) (hand : ObjectAtHand) : Type 0 where
  pub contents : hand.contents.now ≡ map content_of_row (distinct hand.rows.now)
  pub order : part_in_order (row_paths hand.rows.now) ≡ true
  pub digests : ForSome (tree_in told) (λ s. HaveOwnDigests (job_of job) s hand.told.at hand.rows.now)
  pub files : All (λ row. CanOpen told (in_pairtree (hand.told.at ++ row.path))) hand.rows.now

-- ---- a whole audit

-- the end line, with these counts
abbrev pub last_text : CompareBy → Counts → List ℕ
last_text by counts = audit.line_text (audit.end_by by counts)

-- what is told of all items
pub record IsAllTold (by : CompareBy) (job : Job) (source root : Forest) (text : List ℕ) (counts : Counts) : Type 0 where
  pub count : ℕ
  pub told : Told by job source root count text counts
  pub all : drop count (items job source) ≡ []

-- where all three were told, the log has got that
abbrev pub AllToldAs : Job → AuditStart → Option (List ℕ) → Counts → Type 0
AllToldAs job start now counts =
    ForSome start.source
    (λ s. ForSome start.root
    (λ r. ForSome start.log
    (λ old. (text : List ℕ) × (now ≡ Some (old ++ text)) × IsAllTold start.by job s r text counts)))

-- what is told of the first so many items
abbrev pub IsOfItems : CompareBy → Job → Forest → Forest → List ℕ → Type 0
IsOfItems by job source root text = (count : ℕ) × (counts : Counts) × Told by job source root count text counts

-- where all three were told, the log has got a front of that
abbrev pub FrontToldAs : Job → AuditStart → Option (List ℕ) → Type 0
FrontToldAs job start now =
    ForSome start.source
    (λ s. ForSome start.root
    (λ r. ForSome start.log
    (λ old. (n : ℕ) × (text : List ℕ) × (now ≡ Some (old ++ take n text)) × IsOfItems start.by job s r text)))

-- by the answer it has got all, or a front of it, without the end line
abbrev pub TellsItems : Job → AuditStart → Option (List ℕ) → Result ObjectsAudit Fault → Type 0
TellsItems job start now (Ok audited) = AllToldAs job start now audited.counts
TellsItems job start now (Err why) = FrontToldAs job start now

-- what each identifier of the store begins with is this
abbrev pub IsPrefix : Option Forest → List ℕ → Type 0
IsPrefix source prefix = ForSome source (λ s. prefix ≡ prefix_of s)

-- of an audit that told of all items the job is given back, by what it compared, and what each identifier of the store begins with
pub record GivesBack (task : AuditTask) (source : Option Forest) (audited : ObjectsAudit) : Type 0 where
  pub job : audited.job ≡ task.job
  pub by : audited.by ≡ task.by
  pub prefix : IsPrefix source (string_bytes audited.prefix)

-- where the store is told, those of the share's list are unmet that are met nowhere in it
abbrev pub AreUnmetIn : own.Job → Option Forest → List (Option (List ℕ)) → Type 0
AreUnmetIn job source unmet = ForSome source (λ s. unmet ≡ unmet_in_store (job_of job) s)

-- a survey at its end has seen all, and all was told with these counts
pub record HasSeenAll (start : AuditStart) (now : Option (List ℕ)) (counts : Counts) (r : Running) : Type 0 where
  pub told : AllToldAs (job_of r.state.job) start now counts
  pub layout : CanGoOn start.root r
  pub prefix : IsPrefix start.source (string_bytes r.state.prefix)
  pub unmet : AreUnmetIn r.state.job start.source r.state.unmet

-- what is told of all items, and the end line
pub record IsAuditLog (by : CompareBy) (job : Job) (source root : Forest) (text : List ℕ) (counts : Counts) : Type 0 where
  pub count : ℕ
  pub lines : List ℕ
  pub told : Told by job source root count lines counts
  pub all : drop count (items job source) ≡ []
  pub whole : text ≡ lines ++ last_text by counts

-- where all three were told, the log has got that
abbrev pub EndsAs : Job → AuditStart → Option (List ℕ) → Counts → Type 0
EndsAs job start now counts =
    ForSome start.source
    (λ s. ForSome start.root
    (λ r. ForSome start.log
    (λ old. (text : List ℕ) × (now ≡ Some (old ++ text)) × IsAuditLog start.by job s r text counts)))

-- what is told of the first so many items; or of all, with the end line
pub data IsLogSoFar (by : CompareBy) (job : Job) (source root : Forest) (text : List ℕ) : Type 0 where
  OfItems : IsOfItems by job source root text → IsLogSoFar by job source root text
  WithEnd : {counts : Counts} → IsAuditLog by job source root text counts → IsLogSoFar by job source root text

-- where all three were told, the log has got a front of that
abbrev pub StopsAs : Job → AuditStart → Option (List ℕ) → Type 0
StopsAs job start now =
    ForSome start.source
    (λ s. ForSome start.root
    (λ r. ForSome start.log
    (λ old. (n : ℕ) × (text : List ℕ) × (now ≡ Some (old ++ take n text)) × IsLogSoFar start.by job s r text)))

-- by the answer it has got all that is told, with these counts, or a front of it
abbrev pub LogsAs : Job → AuditStart → Option (List ℕ) → Result Counts Fault → Type 0
LogsAs job start now (Ok counts) = EndsAs job start now counts
LogsAs job start now (Err why) = StopsAs job start now

-- a step leaves the audit under way, or at its end with these counts
abbrev pub GoesOn : Bool → Option Reading → AuditStart → Option (List ℕ) → Counts → Running → Type 0
GoesOn true told start now counts r = IsUnderWay told start now counts r
GoesOn false told start now counts r = HasSeenAll start now (counted counts r) r

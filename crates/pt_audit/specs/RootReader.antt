-- The files of the root that are read beside those of an object, and how far they are alike.
use Rattle.std.specs.Prelude.{◌≡◌, ◌≢◌, ◌≤◌, ◌⊎◌, ℕ, zero, suc, Bool, false, All, List, [], ◌∷◌, ◌++◌, drop, length, take, Option, Some, ⊤}
use Rattle.std.specs.Bool.{OnTrue}
use Rattle.std.specs.Global.{Global}
use Rattle.std.specs.Option.{ForSome}
use Rattle.pt_audit.specs.declared.root_reader.RootReader.{RootReader}
use Rattle.pt_compare.specs.Beside.{StandsAlike}
use Rattle.pt_compare.specs.Marks.{inside}
use Rattle.pt_object.specs.Object.{in_content}
use Rattle.pt_compare.specs.Root.{Reads, Stands}
use Rattle.pt_move.specs.Running.{Running}
use Rattle.pt_object.specs.declared.table.contents.Content.{Content}
use Rattle.pt_plan.specs.TurnScan.{logical_path}
use Rattle.pt_plan.specs.TurnWalk.{in_pairtree, in_root}
use Rattle.pt_plan.specs.declared.object.Object.{Object}
use Rattle.pt_plan.specs.declared.phase.Phase.{Phase}
use Rattle.pt_plan.specs.declared.phase.Phase.TheVariants as phase
use Rattle.pt_plan.specs.declared.phase.Stage.TheVariants as stage
use Rattle.pt_state.specs.declared.state.State.{State}
use Rattle.pt_plan.specs.Object.{names_before}
use Rattle.pt_audit.specs.Surveying.{Surveys, sight_at}
use Rattle.pt_audit.specs.declared.survey.ObjectAtHand.{ObjectAtHand}
use Rattle.pt_audit.specs.declared.survey.SurveyEvent.{SurveyEvent}
use Rattle.pt_tree.specs.Forest.{Forest}
use Rattle.pt_tree.specs.Path.{Path}
use Rattle.pt_tree.specs.Source.{Reading, tree_in}
use Rattle.pt_tree.specs.Tree.{Bytes}
use Rattle.pt_tree.specs.declared.kind.Kind.TheVariants as kind
use Rattle.pt_walk.specs.Left.{bytes_at}
use Rattle.pt_walk.specs.Trail.{names_to}

-- ---- two files

-- Both were read so far and had the same bytes; of the source's this came next, and it has the rest left, as the root's has its own
pub record HaveRead (source root : Reading) (b : RootReader) (path : Path) (ahead : List ℕ) : Type 0 where
  pub so_far : List ℕ
  pub rest : List ℕ
  pub left : List ℕ
  pub file : bytes_at source.tree (in_pairtree (b.from ++ path)) ≡ so_far ++ (ahead ++ rest)
  pub unread : source.unread ≡ Some rest
  pub stands : inside root.tree (in_root b.place) (in_content path) ≡ Some (Bytes (so_far ++ left))
  pub beside : root.unread ≡ Some left

-- so it is where both tell, with the file at the trail's place; and all contents that the object has so far are alike
pub record ReadBeside (source root : Option Reading) (b : RootReader) (object : Object) (s : State)
    (ahead : List ℕ) : Type 0 where
  pub all : b.alike ≡ length s.contents
  pub path : names_to s.trail ≡ b.from ++ logical_path object s.trail
  pub same : ForSome source (λ r. ForSome root
      (λ t. HaveRead r t b (logical_path object s.trail) ahead))

-- the source's file was read to its end, and was stored as the last content, or wasn't since another has its bytes
pub record HasEnded (source root : Option Reading) (b : RootReader) (contents : List Content) : Type 0 where
  pub path : Path
  pub stored : (length contents ≡ b.alike) ⊎ ((front : List Content) × (last : Content)
      × (contents ≡ front ++ last ∷ []) × (length front ≡ b.alike) × (last.path ≡ path))
  pub same : ForSome source (λ r. ForSome root (λ t. HaveRead r t b path [] × (r.unread ≡ Some [])))

-- ---- the contents of an object

-- as many as are said to be, from the first on, stand with the bytes that the source has
unfoldable pub AreAlike : Option Reading → Option Reading → RootReader → List Content → Type 0
AreAlike source root b contents =
    All (λ content. StandsAlike (tree_in source) (tree_in root) (in_root b.place)
    (in_content content.path) (in_pairtree (b.from ++ content.path))) (take b.alike contents)

-- there are no fewer, unless the object has none yet
unfoldable pub AreFew : RootReader → List Content → Type 0
AreFew b contents = (b.alike ≤ length contents) ⊎ (contents ≡ [])

-- ---- between two steps of the survey

-- nothing is read beside
abbrev pub IsClosed : RootReader → Type 0
IsClosed b = b.reads ≡ false

-- so far as they were read beside each other, the files of store and root are alike
abbrev pub PacedAt : Option Reading → Option Reading → RootReader → Phase → State → Type 0
PacedAt source root b (phase.Carrying object stage.Scan) s =
    IsClosed b × AreAlike source root b s.contents × AreFew b s.contents
PacedAt source root b (phase.Carrying object (stage.Read bytes)) s =
    AreAlike source root b s.contents × (b.alike ≤ length s.contents)
    × OnTrue b.reads (ReadBeside source root b object s [])
PacedAt source root b (phase.Carrying object stage.Line) s = IsClosed b × AreAlike source root b s.contents
PacedAt source root b _ s = IsClosed b

-- the root is read as far as the survey has seen
abbrev pub IsPaced : Option Reading → Option Reading → RootReader → Running → Type 0
IsPaced source root b r = PacedAt source root b r.phase r.state

-- it can be read: a folder stands, and where a file is read beside one is open
pub record CanFollow (root : Option Reading) (b : RootReader) : Type 0 where
  pub folder : Stands (tree_in root) (b.folder, kind.Dir)
  pub reads : OnTrue b.reads (Reads root)

-- ---- after a step of the survey, before the root is read as far

-- a file was opened
pub record IsOpened (source : Option Reading) (object : Object) (s : State) : Type 0 where
  pub within : names_before object ≤ length (names_to s.trail)
  pub logical : drop (names_before object) (names_to s.trail) ≡ logical_path object s.trail
  pub unread : ForSome source (λ r. r.unread ≡ Some (bytes_at r.tree (in_pairtree (names_to s.trail))))

-- the same while a file is read, of which so many bytes were
abbrev pub ReadBehind : Option Reading → Option Reading → RootReader → Object → ℕ → State → Type 0
ReadBehind source root b object zero s = AreAlike source root b s.contents × IsOpened source object s
ReadBehind source root b object (suc bytes) s =
    AreAlike source root b s.contents × (b.alike ≤ length s.contents)
    × OnTrue b.reads (ReadBeside source root b object s s.block.items)

-- the same at a phase once the step of the survey is made, before the root is read on
abbrev pub BehindAt : Option Reading → Option Reading → RootReader → Phase → State → Type 0
BehindAt source root b (phase.Carrying object stage.Scan) s =
    AreAlike source root b s.contents × AreFew b s.contents
    × OnTrue b.reads (HasEnded source root b s.contents)
BehindAt source root b (phase.Carrying object (stage.Read bytes)) s = ReadBehind source root b object bytes s
BehindAt source root b (phase.Carrying object stage.Line) s = AreAlike source root b s.contents
BehindAt source root b _ s = ⊤

-- the same of a survey
abbrev pub IsBehind : Option Reading → Option Reading → RootReader → Running → Type 0
IsBehind source root b r = BehindAt source root b r.phase r.state

-- ---- single ones

-- nothing was read beside
abbrev pub HasBegun : RootReader → Type 0
HasBegun b = (b.alike ≡ 0) × (b.reads ≡ false) × (b.folder ≡ [])

-- nothing is read beside, and of what was nothing is held to be alike; the folder is as it was
abbrev pub StaysClosed : RootReader → RootReader → Type 0
StaysClosed old new = (new.alike ≡ 0) × (new.reads ≡ false) × (new.folder ≡ old.folder)

-- it is at this object, of which nothing was read beside, or at which it was
pub record IsAtObject (from place : Path) (old new : RootReader) : Type 0 where
  pub from_is : new.from ≡ from
  pub place_is : new.place ≡ place
  pub folder : new.folder ≡ old.folder
  pub reads : new.reads ≡ old.reads
  pub kept : (new.alike ≡ 0) ⊎ ((new.alike ≡ old.alike) × (old.from ≡ from) × (old.place ≡ place))

-- so many are alike of the object that stands here: all that were read beside at it, and else none
pub record IsAlikeAt (b : RootReader) (from place : Path) (alike : ℕ) : Type 0 where
  pub kept : (alike ≡ 0) ⊎ ((alike ≡ b.alike) × (b.from ≡ from) × (b.place ≡ place))
  pub all : b.from ≡ from → b.place ≡ place → alike ≡ b.alike

-- so many contents of the object at hand, from the first on, stand with the bytes that the source has
abbrev pub AreAlikeAtHand : Option Forest → Option Forest → ObjectAtHand → ℕ → Type 0
AreAlikeAtHand source root hand alike =
    All (λ content. StandsAlike source root (in_root hand.told.to.now) (in_content content.path)
    (in_pairtree (hand.told.at ++ content.path))) (take alike hand.contents.now)

-- All that is held beside a survey between two of its steps, field by field. A further field, which might hold content or text, would have to stand here.
pub record BesideFields : Type 0 where
  -- where memory is asked for
  pub alloc : Global
  -- three paths: where the object is in the source and in the root, and a folder
  pub from : Path
  pub place : Path
  pub folder : Path
  -- a number
  pub alike : ℕ
  pub reads : Bool
  -- the one content: the bytes that were read last, at most 8,192 by its type
  pub block : List ℕ

-- it is made of these fields
abbrev pub beside_of : BesideFields → RootReader
beside_of f = record {
  alloc = f.alloc;
  from = f.from;
  place = f.place;
  alike = f.alike;
  reads = f.reads;
  folder = f.folder;
  block = record { items = f.block };
}

-- and of nothing else
abbrev pub HoldsItsFields : RootReader → Type 0
HoldsItsFields b = (fields : BesideFields) × (b ≡ beside_of fields)

-- the survey is under way, and the root is read as far as it has seen, and can be read on
pub record Follows (source root : Option Reading) (b : RootReader) (r : Running) : Type 0 where
  pub holds : HoldsItsFields b
  pub under_way : Surveys source r
  pub paced : IsPaced source root b r
  pub can : CanFollow root b

-- and there is more to see
pub record FollowsOn (source root : Option Reading) (b : RootReader) (r : Running) : Type 0 where
  pub follows : Follows source root b r
  pub more : r.phase ≢ phase.End

-- so it is where a step was made that came to this
pub record Saw (source root : Option Reading) (b : RootReader) (what : SurveyEvent) (r : Running) : Type 0 where
  pub follows : Follows source root b r
  pub saw : what ≡ sight_at r.phase

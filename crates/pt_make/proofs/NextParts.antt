-- The turns that make an object's contents, from their calls.
use Rattle.std.proofs.Common.{◌≡◌, ◌<◌, ◌≤◌, ◌-◌, ◌^◌, ℕ, List, [], ◌++◌, refl, sym, ap, ◌∙◌, true, false, take, length, arith}
use Rattle.std.specs.Prelude.{Option, None, Some, Ok, IsErrAnd, slice_get}
use Rattle.std.specs.Option.{option_map, option_map_or}
use Rattle.std.specs.Str.{bytes_eq}
use Rattle.std.proofs.lemmas.Bool.{le-ltb, lt-ltb}
use Rattle.std.proofs.lemmas.List.{take_all}
use Rattle.pt_state.proofs.Words.{
  Content,
  HasBeenFed,
  MakeFolder,
  Row,
  Writing,
  MayMake,
  Path,
  Reading,
  CanOpen,
  after_open,
  Answer,
  Did,
  FailsPartway,
  Make,
  FailsUnchanged,
  content_at,
  in_pairtree,
  Answers,
  Calls,
  Changes,
  Creates,
  Makes,
  NewFile,
  Opens,
  Puts,
  DeviceStates,
  asks,
  dest_tree,
  does,
  tree_in,
  Fault,
  Object,
  Part,
  Position,
  KeepsAll,
  held_of,
  Turned,
}
use Rattle.pt_state.proofs.Words.part
use Rattle.pt_state.proofs.Words.phase
use Rattle.pt_state.proofs.Words.stage
use Rattle.pt_state.specs.declared.state.State.{State}
use Rattle.pt_object.specs.Contents.{has_digest}
use Rattle.pt_plan.specs.Enabled.{MayMakeContent, MayOpenRow}
use Rattle.pt_plan.specs.TurnMake.{MakesFolder, OpensCopy, PassesRow, behind, staged_content, is_stored, path_of_source, with_folder}
use Rattle.pt_state.proofs.Together.{did_nothing, none_of_file}
use Rattle.pt_state.proofs.Turns.{keeps_same, left_some, went}
use Rattle.pt_make.specs.Making.{DigestTells, IsNextCopy, IsNextFolder, IsPassed, content_phase, copy_phase}
use Rattle.pt_make.specs.declared.contents.FileCopy.{FileCopy}
use Rattle.pt_make.specs.declared.contents.ObjectContent.{ObjectContent}

-- ---- what is next

-- the content's digest tells whether the row is stored there
pub told_stored : (rows : List Row) (contents : List Content) (position : Position) (row : Row) (content : Content) → DigestTells rows contents position
    → slice_get rows position.row ≡ Some row → Some content ≡ slice_get contents position.stored
    → bytes_eq content.digest row.digest ≡ is_stored contents position.stored row.path
unfolding DigestTells
told_stored rows contents position row content tells at is = ap (λ (o : Option Content). option_map_or (has_digest row.digest) o false) is ∙ tells row at

-- so does there being none
pub told_absent : (rows : List Row) (contents : List Content) (position : Position) (row : Row) → DigestTells rows contents position
    → slice_get rows position.row ≡ Some row → None ≡ slice_get contents position.stored
    → false ≡ is_stored contents position.stored row.path
unfolding DigestTells
told_absent rows contents position row tells at is = ap (λ (o : Option Content). option_map_or (has_digest row.digest) o false) is ∙ tells row at

pub is_passed : (s : State) (position : Position) (row : Row) (next : Part) → Some row ≡ slice_get s.rows position.row
    → false ≡ is_stored s.contents position.stored row.path → next ≡ content_at s.rows (behind position) → IsPassed s position next
unfolding IsPassed
is_passed s position row next at other then = (row, (sym at, sym other, then))

pub is_next_folder : (s : State) (position : Position) (row : Row) (path : Path) (names : ℕ) → Some row ≡ slice_get s.rows position.row
    → true ≡ is_stored s.contents position.stored row.path → names ≡ length row.path → names < 2 ^ 64 → position.directories < names
    → path ≡ staged_content (take position.directories row.path) → IsNextFolder s position path
unfolding IsNextFolder
is_next_folder s position row path names at stored long few less is =
    let within : position.directories < length row.path = omega (arith, less, long) in
    (row, (sym at, sym stored, lt-ltb position.directories (length row.path) within, omega (arith, few, less), is))

pub is_next_copy : (s : State) (content : ObjectContent) (row : Row) (to from : Path) (left names : ℕ) → Some row ≡ slice_get s.rows content.position.row
    → true ≡ is_stored s.contents content.position.stored row.path → names ≡ length row.path → names ≤ content.position.directories
    → to ≡ staged_content (take names row.path) → from ≡ in_pairtree (path_of_source content.object s.trail ++ row.path) → left ≡ row.length
    → IsNextCopy s content (record { to = to; from = from; length = left })
unfolding IsNextCopy
is_next_copy s content row to from left names at stored long most is source same =
    let past : length row.path ≤ content.position.directories = omega (arith, most, long) in
    let all : length row.path ≤ names = omega (arith, long) in
    (row, (sym at, sym stored, le-ltb content.position.directories (length row.path) past, is ∙ ap staged_content (take_all names row.path all), source, same))

-- ---- a row that is passed

pub passed_row : (s : State) (w : DeviceStates) (object : Object) (position : Position) (next : Part) → IsPassed s position next
    → Turned (phase.Carrying object (stage.Make (part.Content position))) s s w w (Ok (phase.Carrying object (stage.Make next)))
unfolding IsPassed
passed_row s w object position next (row, (at, other, then)) =
    rw then
    (went w w (λ fed. fed) (λ fed _. Make (PassesRow _ object position row at other)) (did_nothing w) refl (λ fed was. was) keeps_same)

-- ---- a folder

pub few_folders : (s : State) (position : Position) (path : Path) → IsNextFolder s position path → position.directories < 2 ^ 64 - 1
unfolding IsNextFolder
few_folders s position path (row, (at, stored, less, few, is)) = few

pub may_folder : (s : State) (reading : Option Reading) (writing : Option Writing) (object : Object) (position : Position) (path : Path)
    → MayMakeContent reading writing object (held_of s []) position → IsNextFolder s position path → MayMake writing path
unfolding MayMakeContent IsNextFolder
may_folder s reading writing object position path may (row, (at, stored, less, few, is)) = rw is ((may row at stored).0 less)

pub made_folder : (s : State) (a b : DeviceStates) (object : Object) (position : Position) (path : Path) → Did (does (Makes (MakeFolder path))) a b
    → IsNextFolder s position path → Turned (phase.Carrying object (stage.Make (part.Content position))) s s a b
    (Ok (phase.Carrying object (stage.Make (part.Content (with_folder position)))))
unfolding IsNextFolder
made_folder s a b object position path did (row, (at, stored, less, few, is)) =
    went a b (λ fed. fed) (λ fed _. Make (MakesFolder _ object position row at stored less)) (rw is at did) refl (λ fed was. was) keeps_same

-- ---- a file, and the one that it is copied from

pub may_create : (s : State) (reading : Option Reading) (writing : Option Writing) (content : ObjectContent) (copy : FileCopy)
    → MayMakeContent reading writing content.object (held_of s []) content.position → IsNextCopy s content copy → MayMake writing copy.to
unfolding MayMakeContent IsNextCopy
may_create s reading writing content copy may (row, (at, stored, most, there, here, same)) = rw there ((may row at stored).1 most).0

pub can_open_still : (a b : DeviceStates) (to from : Path) → CanOpen a.source from → Did (does (Creates to)) a b → CanOpen b.source from
unfolding Did Answers
can_open_still a b to from can did = rw did.0.source can

-- a file is made, and another opened
abbrev opens_copy : Path → Path → Calls
opens_copy to from = record { asked = Opens from; change = Creates to; line = None }

both_did : (to from : Path) (a b c : DeviceStates) → Did (does (Creates to)) a b → Did (asks (Opens from)) b c → Did (opens_copy to from) a c
unfolding Did Answers Changes Puts
both_did to from a b c made opened = (
  record {
    source = opened.0.source ∙ ap (option_map (after_open from)) made.0.source;
    dest = opened.0.dest ∙ made.0.dest;
    log = opened.0.log ∙ made.0.log;
  },
  opened.1 ∙ made.1,
)

pub copy_opened : (s s' : State) (a b c : DeviceStates) (content : ObjectContent) (copy : FileCopy) → Did (does (Creates copy.to)) a b
    → Did (asks (Opens copy.from)) b c → IsNextCopy s content copy → HasBeenFed s.job.algorithm s'.hasher [] → KeepsAll s s'
    → Turned (content_phase content) s s' a c (Ok (copy_phase content copy.length))
unfolding IsNextCopy
copy_opened s s' a b c content copy created opened (row, (at, stored, most, there, here, same)) started keeps =
    rw same
    (went a c (λ _. []) (λ fed _. Make (OpensCopy _ content.object content.position row at stored most))
    (both_did _ _ a b c (rw there at created) (rw here at opened)) refl (λ _ _. started) keeps)

-- the file was made, and the other not opened
left_new : (to from : Path) (f : Fault) (a b c : DeviceStates) → Did (does (Creates to)) a b → FailsUnchanged f b c → FailsPartway (opens_copy to from) f a c
unfolding Did FailsUnchanged FailsPartway Answers Changes Puts
left_new to from f a b c created stays = (
  record {
    read = tt;
    found = tt;
    source = stays.0 ∙ ap tree_in created.0.source;
    dest = NewFile to (ap dest_tree (stays.1 ∙ created.0.dest) ∙ none_of_file a.dest to);
    log = stays.2 ∙ created.0.log;
  },
  rw created.1 at stays.3,
  stays.4,
)

pub copy_unopened : (s s' : State) (a b c : DeviceStates) (content : ObjectContent) (copy : FileCopy) (f : Fault) (result : Answer)
    → IsErrAnd result (λ h. h ≡ f) → Did (does (Creates copy.to)) a b → FailsUnchanged f b c → IsNextCopy s content copy → KeepsAll s s'
    → Turned (content_phase content) s s' a c result
unfolding IsNextCopy
copy_unopened s s' a b c content copy f result is created stays (row, (at, stored, most, there, here, same)) keeps =
    left_some a c f result is (λ fed. Make (OpensCopy _ content.object content.position row at stored most))
    (left_new _ _ f a b c (rw there at created) stays) keeps

pub may_open_copy : (s : State) (w : DeviceStates) (content : ObjectContent) (copy : FileCopy)
    → MayMakeContent w.source w.dest content.object (held_of s []) content.position → IsNextCopy s content copy → CanOpen w.source copy.from
unfolding MayMakeContent MayOpenRow IsNextCopy
may_open_copy s w content copy may (row, (at, stored, most, there, here, same)) = rw here ((may row at stored).1 most).1

pub ruleset next_parts = (
  told_stored,
  told_absent,
  is_passed,
  is_next_folder,
  is_next_copy,
  passed_row,
  few_folders,
  may_folder,
  made_folder,
  may_create,
  may_open_copy,
  can_open_still,
  copy_opened,
  copy_unopened,
)

-- What a part of a comparison finds: it meets items of the object one after another, up to the first that doesn't stand so.
use Rattle.std.specs.Prelude.{◌≡◌, ◌≢◌, ℕ, Bool, List, ◌∷◌, ◌++◌, Option, None, Some, Result, Ok, Err, ⊤, All, String}
use Rattle.std.specs.Global.{Global}
use Rattle.std.specs.Option.{ForSome}
use Rattle.std.specs.Str.{bytes_eq}
use Rattle.std.specs.String.{string_bytes}
use Rattle.pt_compare.specs.Described.{IsMade}
use Rattle.pt_compare.specs.Bytes.{left_in}
use Rattle.pt_compare.specs.Marks.{Marks, all_met, inside, kind_in, met, without_mark}
use Rattle.pt_compare.specs.Root.{Reads}
use Rattle.pt_compare.specs.declared.difference.Why.{Why}
use Rattle.pt_compare.specs.declared.difference.Why.TheVariants as why
use Rattle.pt_compare.specs.declared.stop.Stop.{Stop}
use Rattle.pt_compare.specs.declared.stop.Stop.TheVariants as stop
use Rattle.pt_folder.specs.Calls.{Change}
use Rattle.pt_object.specs.MetaParts.{MetaParts}
use Rattle.pt_object.specs.Script.{Item, MakeFolder, MakeFile, item_entry, item_path}
use Rattle.pt_plan.specs.Turn.{HasFailed}
use Rattle.pt_plan.specs.DeviceStates.{Failures}
use Rattle.pt_plan.specs.declared.fault.Fault.{Fault}
use Rattle.pt_plan.specs.declared.fault.Fault.TheVariants as fault
use Rattle.pt_tree.specs.Failures.{HasRisen}
use Rattle.pt_tree.specs.Forest.{Forest}
use Rattle.pt_tree.specs.Path.{Path}
use Rattle.pt_tree.specs.Source.{Reading, tree_in}
use Rattle.pt_tree.specs.Tree.{Bytes, Tree, kind_of_entry}
use Rattle.pt_tree.specs.declared.kind.Kind.{Kind}
use Rattle.pt_tree.specs.declared.kind.Kind.TheVariants as kind

-- it stands so
abbrev pub StandsSo : Tree → Item → Type 0
StandsSo t item = t (item_path item) ≡ Some (item_entry item)

-- its file stands with other bytes
abbrev pub HasOtherBytes : Tree → Item → Type 0
HasOtherBytes t (MakeFolder p) = ⊥
HasOtherBytes t (MakeFile p bytes) = (other : List ℕ) × (t p ≡ Some (Bytes other)) × (other ≢ bytes)

-- another kind is noted at a path
abbrev pub HasOtherKind : Marks → Path → Kind → Type 0
HasOtherKind marks p kind = (other : Kind) × (marks p ≡ Some other) × (other ≢ kind)

-- what is wrong with an item, where this is noted
abbrev pub IsWrongItem : Tree → Marks → Item → Why → Type 0
IsWrongItem t marks item why.Missing = marks (item_path item) ≡ None
IsWrongItem t marks item why.Kind =
    HasOtherKind marks (item_path item) (kind_of_entry (item_entry item))
IsWrongItem t marks item why.Bytes = HasOtherBytes t item
IsWrongItem t marks item why.Extra = ⊥

-- the items before one stand so, and with this one something is wrong
pub record StopsAt (t : Tree) (marks : Marks) (items : List Item) (path : Path) (why : Why) : Type 0 where
  pub front : List Item
  pub item : Item
  pub rest : List Item
  pub items_are : items ≡ front ++ item ∷ rest
  pub path_is : path ≡ item_path item
  pub stand : All (StandsSo t) front
  pub wrong : IsWrongItem t (all_met t front marks) item why

-- items are met, where this is noted before and after
abbrev pub Meets : {T : Type 0} → Tree → List Item → Marks → Marks → Result T Stop → Type 0
Meets t items old new (Ok x) = All (StandsSo t) items × (new ≡ all_met t items old)
Meets t items old new (Err (stop.Differs d)) = StopsAt t old items d.path d.why
Meets t items old new (Err (stop.Fault why)) = ⊤

-- so it is where the root tells its tree
unfoldable pub MeetsIn : {T : Type 0} → Option Forest → Path → List Item → Marks → Marks → Result T Stop → Type 0
MeetsIn tree place items old new result = ForSome tree (λ f. Meets (inside f place) items old new result)

-- and where the source tells its own, whose files the items have
unfoldable pub MeetsFrom : {T : Type 0} → Option Forest → Option Forest → Path → (Forest → List Item) → Change Marks → Result T Stop → Type 0
MeetsFrom source tree place items marks result =
    ForSome source (λ s. MeetsIn tree place (items s) marks.old marks.new result)

-- what is wrong with the inventory of the version
abbrev pub IsWrongInventory : Tree → Marks → Path → (MetaParts → List ℕ) → Why → Type 0
IsWrongInventory t marks p text_with why.Missing = marks p ≡ None
IsWrongInventory t marks p text_with why.Kind = HasOtherKind marks p kind.File
IsWrongInventory t marks p text_with why.Bytes = (other : List ℕ) × (t p ≡ Some (Bytes other))
    × ¬ (IsMade text_with other)
IsWrongInventory t marks p text_with why.Extra = ⊥

-- the inventory of the version is met: it is one that a run could make
abbrev pub MeetsText : Tree → Path → (MetaParts → List ℕ) → Marks → Marks → Result (String Global) Stop → Type 0
MeetsText t p text_with old new (Ok text) = (t p ≡ Some (Bytes (string_bytes text)))
    × IsMade text_with (string_bytes text) × (new ≡ met t (MakeFile p (string_bytes text)) old)
MeetsText t p text_with old new (Err (stop.Differs d)) =
    (d.path ≡ p) × IsWrongInventory t old p text_with d.why
MeetsText t p text_with old new (Err (stop.Fault why)) = ⊤

-- the same in the tree of a root that tells
unfoldable pub MeetsTextIn : Option Forest → Path → Path → (MetaParts → List ℕ) → Change Marks → Result (String Global) Stop → Type 0
MeetsTextIn tree place p text_with marks result =
    ForSome tree (λ f. MeetsText (inside f place) p text_with marks.old marks.new result)

-- what is noted stands, where the root tells
unfoldable pub NotedStand : Option Forest → Path → Marks → Type 0
NotedStand tree place marks =
    ForSome tree (λ f. (q : Path) (k : Kind) → marks q ≡ Some k → kind_in (inside f place) q ≡ Some k)

-- the counts of the two devices
abbrev pub both : ℕ → ℕ → Failures
both source root = record { source = source; dest = root; log = 0 }

-- a comparison fails only as the device that is blamed has failed
abbrev pub FailsAs : {T : Type 0} → Result T Stop → Failures → Failures → Type 0
FailsAs (Ok x) old new = new ≡ old
FailsAs (Err (stop.Differs d)) old new = new ≡ old
FailsAs (Err (stop.Fault why)) old new = HasFailed why old new

-- one over a root alone
abbrev pub RootHasFailed : Fault → ℕ → ℕ → Type 0
RootHasFailed fault.Dest old new = HasRisen old new
RootHasFailed fault.Memory old new = new ≡ old
RootHasFailed _ old new = ⊥

-- the root is blamed only where it failed
abbrev pub FailsInRoot : {T : Type 0} → Result T Stop → ℕ → ℕ → Type 0
FailsInRoot (Ok x) old new = new ≡ old
FailsInRoot (Err (stop.Differs d)) old new = new ≡ old
FailsInRoot (Err (stop.Fault why)) old new = RootHasFailed why old new

-- what is wrong with a file before it is read
abbrev pub IsWrongFile : Marks → Path → Why → Type 0
IsWrongFile marks p why.Missing = marks p ≡ None
IsWrongFile marks p why.Kind = HasOtherKind marks p kind.File
IsWrongFile marks p why.Bytes = ⊥
IsWrongFile marks p why.Extra = ⊥

-- a file is opened: it isn't noted any more, and where the root tells its bytes are left to read
abbrev pub OpensIn : Option Reading → Option Reading → Path → Path → Change Marks → Result (Unit {0}) Stop → Type 0
OpensIn before after place p marks (Ok x) =
    Reads after × (marks.new ≡ without_mark p marks.old) × ForSome (tree_in before)
    (λ f. (bytes : List ℕ) × (inside f place p ≡ Some (Bytes bytes)) × (left_in after ≡ Some bytes))
OpensIn before after place p marks (Err (stop.Differs d)) =
    (d.path ≡ p) × IsWrongFile marks.old p d.why
OpensIn before after place p marks (Err (stop.Fault why)) = ⊤

-- both open files tell whether they have the same bytes left
unfoldable pub TellsAlike : Option Reading → Option Reading → Bool → Type 0
TellsAlike source root same =
    ForSome (left_in source) (λ s. ForSome (left_in root) (λ r. same ≡ bytes_eq r s))

-- what is wrong where another kind was noted, or nothing
abbrev pub why_for : Option Kind → Why
why_for None = why.Missing
why_for (Some kind) = why.Kind

-- it isn't a difference that stops a comparison
abbrev pub IsHalt : Stop → Type 0
IsHalt (stop.Differs d) = ⊥
IsHalt (stop.Fault why) = ⊤

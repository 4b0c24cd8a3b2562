-- What a walk over a root tells, and what it keeps.
use Rattle.std.specs.Prelude.{◌≡◌, ◌≤◌, ◌+◌, ◌⊎◌, ℕ, Bool, cond, List, [], ◌∷◌, Option, Some, Result}
use Rattle.std.specs.Io.KnownBytes.{Appends}
use Rattle.std.specs.Option.{ForSome}
use Rattle.std.specs.String.{string_bytes}
use Rattle.pt_audit.specs.Failing.{FailsAs, failures}
use Rattle.pt_audit.specs.Growing.{KeepsLog}
use Rattle.pt_compare.specs.Root.{KeepsRoot}
use Rattle.pt_tree.specs.Source.{tree_in}
use Rattle.pt_extra.specs.Counting.{with_findings}
use Rattle.pt_extra.specs.Findings.{Against, found_at, of_object, of_unnamed}
use Rattle.pt_extra.specs.Inventories.{id_of}
use Rattle.pt_extra.specs.Lines.{ExtraFinding, texts}
use Rattle.pt_extra.specs.Unlisted.{IsToldAt, of_unlisted}
use Rattle.pt_extra.specs.declared.numbers.ExtraNumbers.{ExtraNumbers}
use Rattle.pt_extra.specs.declared.walking.Extras.{Extras}
use Rattle.pt_object.specs.WellKnown.{known_text}
use Rattle.pt_object.specs.declared.well_known.WellKnownName.TheVariants as known
use Rattle.pt_plan.specs.DeviceStates.{Failures}
use Rattle.pt_plan.specs.Roots.{storage_root}
use Rattle.pt_plan.specs.TurnStart.{is_dir_kind, kind_in}
use Rattle.pt_plan.specs.TurnWalk.{in_root}
use Rattle.pt_plan.specs.declared.fault.Fault.{Fault}
use Rattle.pt_state.specs.States.{job_of}
use Rattle.pt_tree.specs.Failures.{HasRisen}
use Rattle.pt_tree.specs.Forest.{Forest, listing_of}
use Rattle.pt_tree.specs.Log.{AppendsFront}
use Rattle.pt_tree.specs.Path.{Path}
use Rattle.pt_tree.specs.declared.log.Log.{Ghosts as OfLog}
use Rattle.pt_tree.specs.declared.source.Source.{Ghosts as OfSource}
use Rattle.pt_walk.specs.Left.{inside_at}

-- how far a walk is: what its log holds, and what it has counted
pub record WalkState : Type 0 where
  pub held : Option (List ℕ)
  pub numbers : ExtraNumbers

-- how far this one is
abbrev pub walk_state : {S R L E : Type 0} → OfLog L → Extras S R L E → WalkState
walk_state log walk = record { held = log.told walk.log; numbers = walk.numbers }

-- the lines of these findings are put into the log and counted
pub record Puts (findings : List ExtraFinding) (a b : WalkState) : Type 0 where
  pub held : Appends a.held b.held (texts findings)
  pub numbers : b.numbers ≡ with_findings findings a.numbers

-- against what its root is held, where its store is this
abbrev pub against : {S R L E : Type 0} → Extras S R L E → Forest → Against
against walk store = record { job = job_of walk.job; prefix = string_bytes walk.prefix; store = store }

-- what is found of a folder at this path of the root, below which so many names lead to an object
abbrev pub found_below : Path → ℕ → Against → Forest → List ExtraFinding
found_below path left c tree = found_at c path left (inside_at tree (in_root path))

-- of the object at a path, whose folder in the destination is this
abbrev pub found_there : Path → Path → Against → Forest → List ExtraFinding
found_there path folder c tree = of_object c path (id_of (inside_at tree folder))

-- of the object at a path, with this identifier
abbrev pub found_named : Path → List ℕ → Against → Forest → List ExtraFinding
found_named path id c tree = of_object c path (Some id)

-- of what has no identifier
abbrev pub found_unnamed : Path → Against → Forest → List ExtraFinding
found_unnamed path c tree = of_unnamed c path

-- of a bare folder, where that wasn't told already
abbrev pub found_bare : Path → Bool → Against → Forest → List ExtraFinding
found_bare path whole c tree = cond whole (of_unnamed c path) []

-- of a folder that couldn't be listed whole, for these reasons
abbrev pub found_unlisted : Path → List (List ℕ) → Against → Forest → List ExtraFinding
found_unlisted path reasons c tree = of_unlisted path reasons

-- that one thing
abbrev pub found_one : ExtraFinding → Against → Forest → List ExtraFinding
found_one finding c tree = finding ∷ []

-- where store and root tell, a front of what is found of them is told
abbrev pub TellsFront : {S R L E : Type 0} → OfSource S → OfSource R → OfLog L → (Against → Forest → List ExtraFinding)
    → Extras S R L E → Extras S R L E → Type 0
TellsFront store root log findings old new =
    ForSome (tree_in (store.told old.store))
    (λ s. ForSome (tree_in (root.told old.root))
    (λ r. AppendsFront (log.told old.log) (log.told new.log) (texts (findings (against old s) r))))

-- where store and root tell, what is found of them is told
abbrev pub Tells : {S R L E : Type 0} → OfSource S → OfSource R → OfLog L → (Against → Forest → List ExtraFinding)
    → Extras S R L E → Extras S R L E → Type 0
Tells store root log findings old new =
    ForSome (tree_in (store.told old.store))
    (λ s. ForSome (tree_in (root.told old.root))
    (λ r. Puts (findings (against old s) r) (walk_state log old) (walk_state log new)))

-- what is told of a folder at this path of the root, below which so many names lead to an object
abbrev pub IsToldBelow : Path → ℕ → Type 0 → Against → Forest → List ExtraFinding → Type 0
IsToldBelow path left failed c tree told = IsToldAt failed c path left (inside_at tree (in_root path)) told

-- the root failed in it
abbrev pub RootFails : {S R L E : Type 0} → OfSource R → Extras S R L E → Extras S R L E → Type 0
RootFails root old new = HasRisen (root.failed old.root) (root.failed new.root)

-- where store and root tell, a front of what is told of them is, by whether the root failed
abbrev pub TellsFrontPast : {S R L E : Type 0} → OfSource S → OfSource R → OfLog L
    → (Type 0 → Against → Forest → List ExtraFinding → Type 0) → Extras S R L E → Extras S R L E → Type 0
TellsFrontPast store root log Is old new =
    ForSome (tree_in (store.told old.store))
    (λ s. ForSome (tree_in (root.told old.root))
    (λ r. (told : List ExtraFinding) × Is (RootFails root old new) (against old s) r told
    × AppendsFront (log.told old.log) (log.told new.log) (texts told)))

-- where store and root tell, what is told of them is, by whether the root failed
abbrev pub TellsPast : {S R L E : Type 0} → OfSource S → OfSource R → OfLog L
    → (Type 0 → Against → Forest → List ExtraFinding → Type 0) → Extras S R L E → Extras S R L E → Type 0
TellsPast store root log Is old new =
    ForSome (tree_in (store.told old.store))
    (λ s. ForSome (tree_in (root.told old.root))
    (λ r. (told : List ExtraFinding) × Is (RootFails root old new) (against old s) r told
    × Puts told (walk_state log old) (walk_state log new)))

-- it is told of the folder at this path that it couldn't be listed whole, with a reason or more
abbrev pub TellsReasons : {S R L E : Type 0} → OfSource S → OfSource R → OfLog L → Path → Extras S R L E → Extras S R L E → Type 0
TellsReasons store root log path old new =
    (reason : List ℕ) × (further : List (List ℕ)) × Tells store root log (found_unlisted path (reason ∷ further)) old new

-- a front of that is told
abbrev pub TellsReasonsFront : {S R L E : Type 0} → OfSource S → OfSource R → OfLog L → Path → Extras S R L E → Extras S R L E → Type 0
TellsReasonsFront store root log path old new =
    (reason : List ℕ) × (further : List (List ℕ)) × TellsFront store root log (found_unlisted path (reason ∷ further)) old new

-- the root failed, and that is told so
abbrev pub TellsUnlisted : {S R L E : Type 0} → OfSource S → OfSource R → OfLog L → Path → Extras S R L E → Extras S R L E → Type 0
TellsUnlisted store root log path old new = RootFails root old new × TellsReasons store root log path old new

-- nothing is told; or the root failed, and a front of that is told
abbrev pub TellsUnlistedFront : {S R L E : Type 0} → OfSource S → OfSource R → OfLog L → Path → Extras S R L E → Extras S R L E → Type 0
TellsUnlistedFront store root log path old new =
    (log.told new.log ≡ log.told old.log) ⊎ (RootFails root old new × TellsReasonsFront store root log path old new)

-- store and root are the same ones still, with their trees; what stood in the log stands; and it is held against the same
pub record Keeps {S R L E : Type 0} (store : OfSource S) (root : OfSource R) (log : OfLog L)
    (old new : Extras S R L E) : Type 0 where
  pub store_stays : KeepsRoot store.told store.keeps old.store new.store
  pub root_stays : KeepsRoot root.told root.keeps old.root new.root
  pub log_grows : KeepsLog log.told log.keeps old.log new.log
  pub job : new.job ≡ old.job
  pub prefix : new.prefix ≡ old.prefix

-- how often each of its devices failed
abbrev pub failures_by : {S R L E : Type 0} → OfSource S → OfSource R → OfLog L → Extras S R L E → Failures
failures_by store root log walk = failures (store.failed walk.store) (root.failed walk.root) (log.failed walk.log)

-- the device that is blamed has failed, and no other; else memory was wanting, and none has
abbrev pub Fails : {S R L E T : Type 0} → OfSource S → OfSource R → OfLog L → Extras S R L E → Extras S R L E
    → Result T Fault → Type 0
Fails store root log old new result = FailsAs result (failures_by store root log old) (failures_by store root log new)

-- the same, where the root may have failed before, and was passed
abbrev pub FailsAsPast : {T : Type 0} → Result T Fault → Failures → Failures → Type 0
FailsAsPast result old new =
    (passed : ℕ) × (old.dest ≤ passed) × FailsAs result (record old { dest = passed }) new

-- so it is of a walk
abbrev pub FailsPast : {S R L E T : Type 0} → OfSource S → OfSource R → OfLog L → Extras S R L E → Extras S R L E
    → Result T Fault → Type 0
FailsPast store root log old new result =
    FailsAsPast result (failures_by store root log old) (failures_by store root log new)

-- what is found of a destination: of its storage root, if it has one
abbrev pub found_in : Against → Forest → List ExtraFinding
found_in c standing = cond (is_dir_kind (kind_in (listing_of standing) (known_text known.StorageRoot)))
    (found_at c [] (c.job.tuples.count + 1) (inside_at standing storage_root)) []

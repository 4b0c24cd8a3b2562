-- A walk in which the root may fail, and go on.
use Rattle.std.proofs.Common.{◌≡◌, ◌≤◌, ℕ, Bool, true, false, List, ◌∷◌, sym, ap, ◌∙◌, subst, cond, arith, inl, inr}
use Rattle.std.proofs.Math.Nat.{le-min, le_trans}
use Rattle.std.specs.Option.{ForSome}
use Rattle.std.specs.Result.{IsErrAnd}
use Rattle.std.specs.Prelude.{Ok, Err, IfOk, OnErr, OnOk, Option, Result, Some}
use Rattle.pt_audit.specs.Failing.{FailsAs}
use Rattle.pt_extra.proofs.Keeping.{front_from, same_against, told_from}
use Rattle.pt_extra.proofs.Visiting.{IsBegun, IsFront, IsPut, begun_part, begun_whole, front_not, front_still, put_not, risen_from, risen_on}
use Rattle.pt_extra.specs.Findings.{Against}
use Rattle.pt_check.specs.FolderListing.{IfEntries, MatchListing}
use Rattle.pt_extra.specs.Lines.{ExtraFinding, texts}
use Rattle.pt_extra.specs.Unlisted.{of_unlisted}
use Rattle.pt_extra.specs.Walk.{
  FailsAsPast,
  Keeps,
  Puts,
  RootFails,
  WalkState,
  TellsFrontPast,
  TellsPast,
  TellsReasons,
  TellsReasonsFront,
  TellsUnlisted,
  TellsUnlistedFront,
  against,
  failures_by,
  found_unlisted,
  walk_state,
}
use Rattle.pt_check.specs.declared.folder_listing.FolderListing.{FolderListing}
use Rattle.pt_check.specs.declared.folder_listing.FolderListing.TheVariants as listing
use Rattle.pt_extra.specs.declared.walking.Extras.{Extras}
use Rattle.pt_plan.specs.DeviceStates.{Failures}
use Rattle.pt_plan.specs.Turn.{HasFailed}
use Rattle.pt_plan.specs.declared.fault.Fault.{Fault}
use Rattle.pt_plan.specs.declared.fault.Fault.TheVariants as fault
use Rattle.pt_tree.specs.Failures.{HasRisen, greatest_count}
use Rattle.pt_tree.specs.Forest.{Forest}
use Rattle.pt_tree.specs.Log.{AppendsFront}
use Rattle.pt_tree.specs.Path.{Path}
use Rattle.pt_tree.specs.Source.{tree_in}
use Rattle.pt_tree.specs.declared.log.Log.{Ghosts as OfLog}
use Rattle.pt_tree.specs.declared.source.Source.{Ghosts as OfSource}

-- ---- failures

-- where all went well the root may have failed, and was passed
abbrev pub Passed : Failures → Failures → Type 0
Passed a b = (passed : ℕ) × (a.dest ≤ passed) × (b ≡ record a { dest = passed })

pub past_le : (a b : Failures) → Passed a b → a.dest ≤ b.dest
past_le a b (passed, le, same) = subst (λ (n : ℕ). a.dest ≤ n) (sym (ap (λ (f : Failures). f.dest) same)) le

-- of what failed as calls do that pass no failure
pub past_of : {T : Type 0} (r : Result T Fault) (a b : Failures) → FailsAs r a b → FailsAsPast r a b
past_of r a b fails = (a.dest, omega (arith), fails)

-- after calls that went well
pub past_on : {T : Type 0} (r : Result T Fault) (a b d : Failures) → Passed a b → FailsAsPast r b d → FailsAsPast r a d
past_on r a b d (passed, first, same) (later, le, fails) = (
  later,
  le_trans (past_le a b (passed, first, same)) le,
  subst (λ (f : Failures). FailsAs r f d) (ap (λ (f : Failures). record f { dest = later }) same) fails,
)

-- and broke off
pub past_err : {T : Type 0} (why : Fault) (r : Result T Fault) (a b d : Failures) → Passed a b
    → (later : ℕ) × (b.dest ≤ later) × HasFailed why (record b { dest = later }) d → IsErrAnd r (λ y. y ≡ why) → FailsAsPast r a d
past_err why (Ok x) a b d passed fails is = absurd is
past_err {T} why (Err y) a b d passed fails is =
    past_on {T = T} (Err y) a b d passed (subst (λ (w : Fault). (later : ℕ) × (b.dest ≤ later) × HasFailed w (record b { dest = later }) d) (sym is) fails)

pub past_err_of : {T : Type 0} (why : Fault) (r : Result T Fault) (a b d : Failures) → Passed a b → HasFailed why b d → IsErrAnd r (λ y. y ≡ why)
    → FailsAsPast r a d
past_err_of why r a b d passed fails is = past_err why r a b d passed (b.dest, omega (arith), fails) is

-- where memory was wanting
pub past_memory : {T : Type 0} (r : Result T Fault) (a b : Failures) → Passed a b → IsErrAnd r (λ y. y ≡ fault.Memory) → FailsAsPast r a b
past_memory (Ok x) a b passed is = absurd is
past_memory (Err y) a b (passed, le, same) is =
    (passed, le, subst (λ (w : Fault). HasFailed w (record a { dest = passed }) b) (sym is) same)

pub passed_on : (a b d : Failures) → Passed a b → Passed b d → Passed a d
passed_on a b d (passed, first, same) (later, le, same_later) = (
  later,
  le_trans (past_le a b (passed, first, same)) le,
  same_later ∙ ap (λ (f : Failures). record f { dest = later }) same,
)

-- a count that had risen before has risen then
pub past_later : {T : Type 0} (r : Result T Fault) (first : ℕ) (b d : Failures) → first ≤ b.dest → FailsAsPast r b d → HasRisen first b.dest
    → HasRisen first d.dest
past_later (Ok x) first b d from past rose = risen_on first b.dest d.dest rose (past_le b d past)
past_later (Err why) first b d from (passed, le, fails) rose = by why fails
  where
    stays : d.dest ≡ passed → HasRisen first d.dest
    stays same = risen_on first b.dest d.dest rose (subst (λ (n : ℕ). b.dest ≤ n) (sym same) le)

    by : (why : Fault) → HasFailed why (record b { dest = passed }) d → HasRisen first d.dest
    by fault.Source fails = stays fails.1
    by fault.Dest fails = risen_from first passed d.dest (le_trans from le) fails.1
    by fault.Log fails = stays fails.1
    by fault.Memory fails = stays (ap (λ (f : Failures). f.dest) fails)
    by fault.NotPairtree fails = absurd fails
    by fault.Prefix fails = absurd fails
    by fault.StagingLeft fails = absurd fails
    by fault.Target fails = absurd fails
    by fault.Changed fails = absurd fails
    by fault.Turns fails = absurd fails
    by fault.Ended fails = absurd fails

-- ---- what is told

module _ {S R L E : Type 0} (store : OfSource S) (root : OfSource R) (log : OfLog L) where
  -- what is told from there on is what is told from the start
  pub past_from : (Is : Type 0 → Against → Forest → List ExtraFinding → Type 0) (a b c : Extras S R L E) → Keeps store root log a b
      → TellsPast store root log Is b c
      → ForSome (tree_in (store.told a.store)) (λ s. ForSome (tree_in (root.told a.root))
      (λ r. (told : List ExtraFinding) × Is (RootFails root b c) (against a s) r told × Puts told (walk_state log b) (walk_state log c)))
  past_from Is a b c keeps tells = λ s is r there.
      subst (λ (x : Against). (told : List ExtraFinding) × Is (RootFails root b c) x r told × Puts told (walk_state log b) (walk_state log c))
      (same_against store root log a b s keeps) (tells s (keeps.store_stays.1 ∙ is) r (keeps.root_stays.1 ∙ there))

  -- the same of a front
  pub front_past_from : (Is : Type 0 → Against → Forest → List ExtraFinding → Type 0) (a b c : Extras S R L E) → Keeps store root log a b
      → TellsFrontPast store root log Is b c
      → ForSome (tree_in (store.told a.store)) (λ s. ForSome (tree_in (root.told a.root))
      (λ r. (told : List ExtraFinding) × Is (RootFails root b c) (against a s) r told
      × AppendsFront (log.told b.log) (log.told c.log) (texts told)))
  front_past_from Is a b c keeps front = λ s is r there.
      subst (λ (x : Against). (told : List ExtraFinding) × Is (RootFails root b c) x r told × AppendsFront (log.told b.log) (log.told c.log) (texts told))
      (same_against store root log a b s keeps) (front s (keeps.store_stays.1 ∙ is) r (keeps.root_stays.1 ∙ there))

  module _ (old mid : Extras S R L E) (path : Path) (s r : Forest) (is : tree_in (store.told old.store) ≡ Some s)
      (there : tree_in (root.told old.root) ≡ Some r) where
    -- a folder is begun, by whether it was listed whole
    pub begun_by : (whole : Bool) → cond whole (mid ≡ record old { root = mid.root }) (TellsUnlisted store root log path old mid)
        → IsBegun (root.failed old.root) (root.failed mid.root) (against old s) path whole (walk_state log old) (walk_state log mid)
    begun_by true same = subst
        (IsBegun (root.failed old.root) (root.failed mid.root) (against old s) path true (walk_state log old)) (sym (ap (walk_state log) same))
        (begun_whole (root.failed old.root) (root.failed mid.root) (against old s) path (walk_state log old))
    begun_by false (rose, (reason, further, tells)) =
        begun_part (root.failed old.root) (root.failed mid.root) (against old s) path (walk_state log old) (walk_state log mid) reason further rose
        (tells s is r there)

    -- nothing of it could be listed
    pub not_by : (left : ℕ) (inside : Forest) → TellsUnlisted store root log path old mid
        → IsPut (RootFails root old mid) (against old s) path left inside (walk_state log old) (walk_state log mid)
    not_by left inside (rose, (reason, further, tells)) =
        put_not (RootFails root old mid) (against old s) path left inside (walk_state log old) (walk_state log mid) reason further rose (tells s is r there)

    -- it broke off there
    pub front_by : (left : ℕ) (inside : Forest) → TellsUnlistedFront store root log path old mid
        → IsFront (RootFails root old mid) (against old s) path left inside (log.told old.log) (log.told mid.log)
    front_by left inside (inl same) =
        front_still (RootFails root old mid) (against old s) path left inside (log.told old.log) (log.told mid.log) same
    front_by left inside (inr (rose, (reason, further, front))) =
        front_not (RootFails root old mid) (against old s) path left inside (log.told old.log) (log.told mid.log) reason further rose (front s is r there)

  -- that a folder couldn't be listed is told after the call that failed, in which the root alone was asked
  module _ (old mid new : Extras S R L E) (path : Path) (kept : Keeps store root log old mid) (still : walk_state log mid ≡ walk_state log old)
      (rose : RootFails root old mid) where
    unlisted_by : {T : Type 0} (result : Result T Fault) → FailsAsPast result (failures_by store root log mid) (failures_by store root log new)
        → OnOk result (TellsReasons store root log path mid new) → OnOk result (TellsUnlisted store root log path old new)
    unlisted_by (Ok x) fails (reason, further, tells) = (
      risen_on (root.failed old.root) (root.failed mid.root) (root.failed new.root) rose
          (past_le (failures_by store root log mid) (failures_by store root log new) fails),
      (
        reason,
        further,
        λ s is r there.
            subst (λ (a : WalkState). Puts (of_unlisted path (reason ∷ further)) a (walk_state log new)) still
            (told_from store root log (found_unlisted path (reason ∷ further)) old mid new kept tells s is r there),
      ),
    )
    unlisted_by (Err why) fails told = tt

    -- it came to its end
    pub part_told : (result : Result FolderListing Fault) (same : Type 0)
        → FailsAsPast result (failures_by store root log mid) (failures_by store root log new)
        → OnOk result (TellsReasons store root log path mid new) → IfOk result (λ found. IfEntries found (λ f. f.is_whole ≡ false))
        → IfOk result (λ found. MatchListing found (TellsUnlisted store root log path old new)
        (λ f. cond f.is_whole same (TellsUnlisted store root log path old new)))
    part_told (Ok listing.Nothing) same fails told part = unlisted_by {T = FolderListing} (Ok listing.Nothing) fails told
    part_told (Ok (listing.Entries f)) same fails told part =
        subst (λ (b : Bool). cond b same (TellsUnlisted store root log path old new)) (sym part)
        (unlisted_by {T = FolderListing} (Ok (listing.Entries f)) fails told)
    part_told (Err why) same fails told part = tt

    -- or broke off
    pub part_stops : {T : Type 0} (result : Result T Fault) → root.failed old.root ≤ root.failed mid.root
        → FailsAsPast result (failures_by store root log mid) (failures_by store root log new) → OnErr result (TellsReasonsFront store root log path mid new)
        → OnErr result (TellsUnlistedFront store root log path old new)
    part_stops (Ok x) older fails front = tt
    part_stops {T} (Err why) older fails (reason, further, front) = inr (
      past_later {T = T} (Err why) (root.failed old.root) (failures_by store root log mid) (failures_by store root log new) older fails rose,
      (
        reason,
        further,
        λ s is r there.
            subst (λ (l : Option (List ℕ)). AppendsFront l (log.told new.log) (texts (of_unlisted path (reason ∷ further))))
            (ap (λ (a : WalkState). a.held) still)
            (front_from store root log (found_unlisted path (reason ∷ further)) old mid new kept front s is r there),
      ),
    )

-- a count that is one of 64 bits and rose is no less than it was
pub risen_le : (a b : ℕ) → a ≤ greatest_count → HasRisen a b → a ≤ b
risen_le a b small rose = le_trans (le-min (omega (arith)) small) rose

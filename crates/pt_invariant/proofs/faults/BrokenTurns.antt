-- What a turn that breaks off leaves of the destination and the log may be left by a fault.
use Rattle.std.proofs.Common.{◌≡◌, ℕ, suc, false, List, [], ◌++◌, refl, ap, sym, ◌∙◌, append_assoc, drop, take}
use Rattle.std.specs.Prelude.{Option, Some, flat_map}
use Rattle.std.proofs.lemmas.List.{take-append-drop}
use Rattle.pt_object.specs.Holding.{IsFree}
use Rattle.pt_object.specs.Scripts.{staging}
use Rattle.pt_tree.specs.Dest.{Writing}
use Rattle.pt_tree.specs.Forest.{Forest}
use Rattle.pt_tree.specs.Source.{Reading}
use Rattle.pt_tree.specs.Tree.{Tree}
use Rattle.pt_plan.proofs.NextObject.{after_stays}
use Rattle.pt_plan.specs.Carried.{Carried, after}
use Rattle.pt_plan.specs.Faults.{FaultState}
use Rattle.pt_plan.specs.Job.{Job}
use Rattle.pt_plan.specs.Lines.{Line, line_text, text}
use Rattle.pt_plan.specs.Roots.{root_in, with_root}
use Rattle.pt_plan.specs.Run.{Counts, Held}
use Rattle.pt_plan.specs.DeviceStates.{Calls, LeavesFront, WasFound, WasRead}
use Rattle.pt_plan.specs.declared.phase.Phase.{Phase}
use Rattle.pt_invariant.specs.EndLaws.{is_ended}
use Rattle.pt_invariant.specs.FaultState.{FaultStateAndLog}
use Rattle.pt_invariant.specs.ItemLaws.{KnowsItems}
use Rattle.pt_invariant.specs.History.{History}
use Rattle.pt_invariant.proofs.source.InPairtree.{some_same}
use Rattle.pt_invariant.proofs.items.ItemLines.{EndsItem, OneItem, Tells}
use Rattle.pt_invariant.proofs.faults.LeftNow.{between_left, left_now}
use Rattle.pt_invariant.proofs.faults.LogsLeft.{marked_within, told_in_part}

-- what was asked before anything was changed was answered so
pub record WereAnswered (calls : Calls) (s : Reading) (w : Writing) : Type 0 where
  pub read : WasRead calls.asked (Some s)
  pub found : WasFound calls.line calls.change (Some w)

-- all that is known before the turn: of the items done, and of the log that it has got their lines
pub record IsBefore (job : Job) (past : History) (s : Reading) (start : Tree) (prefix : List ℕ) (held : Held) (counts : Counts) (old : Writing)
    (first log : List ℕ) (here : Phase) : Type 0 where
  pub runs : is_ended here ≡ false
  pub known : KnowsItems job past here prefix held counts s start old
  pub log_is : log ≡ first ++ text job s.tree (root_in start) past.count

-- a turn that tells a line of an item ends that item
pub ends_item : {job : Job} {source : Forest} {root : Tree} {count : ℕ} {next : Phase} {told : Option Line} {n : ℕ} {gained : List Carried}
    → Tells job source root count next told n gained → {line : Line} → told ≡ Some line → is_ended next ≡ false
    → EndsItem job source root count (Some line) gained
ends_item {job} {source} {root} {count} (OneItem {more = more} it) is _ = rw is at it
ends_item _ is runs = absurd (cc)

-- ---- by what is left

module _ {job : Job} {past : History} {s : Reading} {start : Tree} {prefix : List ℕ} {counts : Counts} {old : Writing} (new : Writing) {first log last : List ℕ}
  where
    -- nothing more was told
    pub left_untold : {held : Held} {here : Phase} → IsBefore job past s start prefix held counts old first log here → Some last ≡ Some log
        → FaultState job s.tree start new.tree (text job s.tree (root_in start) past.count) → FaultStateAndLog job s.tree start new.tree first last
    left_untold before same left = record { told = text job s.tree (root_in start) past.count; log = some_same last log same ∙ before.log_is; left = left }

    -- nothing was changed
    pub left_quiet : {held : Held} {here : Phase} → IsBefore job past s start prefix held counts old first log here → new.tree ≡ old.tree → Some last ≡ Some log
        → FaultStateAndLog job s.tree start new.tree first last
    left_quiet {held} {here} before same quiet =
        left_untold before quiet
        (rw same (left_now job past s start prefix held counts old here before.runs before.known))

    -- of the line of the next item a front was put
    pub left_told : {held : Held} {here : Phase} {line : Line} {more : List Carried} → IsBefore job past s start prefix held counts old first log here
        → EndsItem job s.tree (root_in start) past.count (Some line) more → IsFree start staging
        → new.tree ≡ with_root start (after job s.tree (root_in start) (suc past.count)) → LeavesFront (Some line) (Some log) (Some last)
        → FaultStateAndLog job s.tree start new.tree first last
    left_told {line} before ends free is (n, put) =
        let root = root_in start in
        let so_far = text job s.tree root past.count in
        let front = take n (line_text line) in
        record {
          told = so_far ++ front;
          log = put ∙ ap (λ l. l ++ front) before.log_is ∙ append_assoc first so_far front;
          left = between_left free (marked_within job s.tree root ends.is)
              (told_in_part job s.tree root past.count front (drop n (line_text line) ++ []) ends.is
              (ap (flat_map line_text) ends.told ∙ ap (λ l. l ++ []) (sym (take-append-drop n (line_text line)))
              ∙ append_assoc front (drop n (line_text line)) []) refl)
              is;
        }

    -- of an item of which nothing is carried
    pub left_skipped : {held : Held} {here : Phase} {next : Phase} {told : Option Line} {line : Line} {n : ℕ}
        → IsBefore job past s start prefix held counts old first log here → is_ended next ≡ false → Tells job s.tree (root_in start) past.count next told n []
        → told ≡ Some line → IsFree start staging
        → old.tree ≡ with_root start (after job s.tree (root_in start) past.count) → new.tree ≡ old.tree → LeavesFront (Some line) (Some log) (Some last)
        → FaultStateAndLog job s.tree start new.tree first last
    left_skipped before runs tells is free tree same put =
        let ends = ends_item tells is runs in
        left_told before ends free (same ∙ tree ∙ ap (with_root start) (sym (after_stays job s.tree (root_in start) past.count ends.m ends.is ends.gained))) put

-- What a run leaves that ends well may be left by a fault.
use Rattle.std.proofs.Common.{◌≡◌, ◌≤◌, ℕ, suc, List, [], ◌++◌, refl, ap, sym, ◌∙◌, append-nil, arith, length}
use Rattle.pt_tree.specs.Forest.{Forest}
use Rattle.pt_tree.specs.Tree.{Tree}
use Rattle.pt_plan.proofs.Growing.{all_items_are_all}
use Rattle.pt_plan.specs.Items.{items}
use Rattle.pt_plan.specs.Job.{Job}
use Rattle.pt_plan.specs.Lines.{end_line, line_text, lines}
use Rattle.pt_plan.specs.Roots.{root_in, with_root}
use Rattle.pt_plan.specs.declared.phase.Phase.{Phase}
use Rattle.pt_plan.specs.declared.phase.Phase.TheVariants as phase
use Rattle.pt_invariant.specs.RunInvariant.{FaultStateAt}
use Rattle.pt_invariant.specs.EndLaws.{IsEnd}
use Rattle.pt_invariant.specs.FaultState.{FaultStateAndLog}
use Rattle.pt_invariant.proofs.faults.LeftNow.{between_left}
use Rattle.pt_invariant.proofs.faults.LogsLeft.{end_in_part, some_items}

pub end_left : {job : Job} {source : Forest} {start now : Tree} {first : List ℕ} {last told : List ℕ} → last ≡ first ++ told → IsEnd job source start now told
    → FaultStateAndLog job source start now first last
end_left {job} {source} {start} {told} log is =
    let root = root_in start in
    let some = some_items job source is.begins.store in
    let n = suc some.0 in
    let long = some.1 in
    let all : length (items job source) ≤ n = omega (arith, long) in
    let whole = line_text (end_line (lines job source root n)) in
    record {
      told = told;
      log = log;
      left = between_left {job = job} {source = source} {start = start} {k = n} {log = told} is.free (omega (arith, long))
          (end_in_part job source root {k = some.0} {count = n} whole [] long all (sym (append-nil whole)) (is.log
          ∙ (all_items_are_all job source root n all).3))
          (is.tree ∙ ap (with_root start) (sym (all_items_are_all job source root n all).1));
    }

-- of a run that hasn't ended nothing is said
pub left_unless : (here : Phase) {job : Job} {source : Forest} {start now : Tree} {first last : List ℕ}
    → (here ≡ phase.Ended → FaultStateAndLog job source start now first last) → FaultStateAt here job source start now first last
left_unless phase.Ended at_end = at_end refl
left_unless _ _ = tt

-- What an audit over the devices of a machine says of what its systems keep.
use Rattle.std.proofs.Common.{◌≡◌, ◌∙◌, ℕ, List, refl, subst, sym}
use Rattle.std.specs.Prelude.{Bool, IfErr, None, OnOk, Option, Some, Result}
use Rattle.pt_audit.specs.Auditing.{AreUnmetIn, start_over}
use Rattle.pt_audit.specs.Bounds.{IsMade}
use Rattle.pt_audit.specs.Failing.{AuditSays}
use Rattle.pt_audit.specs.declared.compare_by.CompareBy.{CompareBy}
use Rattle.pt_audit.specs.declared.counts.Counts.{Counts}
use Rattle.pt_tree.specs.Source.{tree_in}
use Rattle.pt_extra.specs.Audits.{AuditLogs}
use Rattle.pt_extra.specs.declared.auditing.AuditCounts.{AuditCounts}
use Rattle.pt_folder.specs.SourceHeld.{told_of as source_told}
use Rattle.pt_tree.specs.Ignoring.{told_without}
use Rattle.pt_plan.specs.declared.fault.Fault.{Fault}
use Rattle.pt_plan.specs.Job.{Job}
use Rattle.pt_host.specs.Audits.{root_tree, store_tree}
use Rattle.pt_state.specs.declared.job.Job as own
use Rattle.pt_tree.specs.Forest.{Forest}

-- what is open for reading changes no tree
pub tree_of_store : (ignored : List (List ℕ)) (tree : Option Forest) (reading : Option (List ℕ))
    → tree_in (told_without ignored (source_told tree reading)) ≡ store_tree ignored tree
tree_of_store ignored None reading = refl
tree_of_store ignored (Some f) reading = refl

pub tree_of_root : (tree : Option Forest) (reading : Option (List ℕ)) → tree_in (source_told tree reading) ≡ root_tree tree
tree_of_root None reading = refl
tree_of_root (Some f) reading = refl

-- the trees of a source and a root, by the systems that keep them
module _ {S : Type 0} (forest : S → List ℕ → Option Forest) where
  pub store_is : {ignored names : List (List ℕ)} {system own : S} {path store : List ℕ} (reading : Option (List ℕ)) → names ≡ ignored → own ≡ system
      → path ≡ store → tree_in (told_without names (source_told (forest own path) reading)) ≡ store_tree ignored (forest system store)
  store_is {names = names} {own = own} {path = path} reading names_are same at = tree_of_store names (forest own path) reading
      ∙ (λ i. store_tree (names_are i) (forest (same i) (at i)))

  pub root_is : {system own : S} {path folder : List ℕ} (reading : Option (List ℕ)) → own ≡ system → path ≡ folder
      → tree_in (source_told (forest own path) reading) ≡ root_tree (forest system folder)
  root_is {own = own} {path = path} reading same at = tree_of_root (forest own path) reading ∙ (λ i. root_tree (forest (same i) (at i)))

-- an audit ends as it did, whatever its trees and its log are called
pub ends_as : (extra : Bool) (failed : Type 0) (ran : Result AuditCounts Fault) (job : Job) (by : CompareBy) {source store root folder : Option Forest}
    {first begun now last : Option (List ℕ)} → source ≡ store → root ≡ folder → first ≡ begun → now ≡ last
    → AuditLogs extra failed job (start_over by source root first) now ran → AuditLogs extra failed job (start_over by store folder begun) last ran
ends_as extra failed ran job by {source} {store} {root} {folder} {first} {begun} {now} {last} source_is root_is first_is now_is ends =
    subst (λ (l : Option (List ℕ)). AuditLogs extra failed job (start_over by store folder begun) l ran) now_is
    (subst (λ (l : Option (List ℕ)). AuditLogs extra failed job (start_over by store folder l) now ran) first_is
    (subst (λ (t : Option Forest). AuditLogs extra failed job (start_over by store t first) now ran) root_is
    (subst (λ (t : Option Forest). AuditLogs extra failed job (start_over by t root first) now ran) source_is ends)))

-- so does what it says
pub says_as : (ran : Result AuditCounts Fault) (job : own.Job) {source store root folder : Option Forest} → source ≡ store → root ≡ folder
    → IfErr ran (AuditSays job source root) → IfErr ran (AuditSays job store folder)
says_as ran job {source} {store} {root} {folder} source_is root_is says =
    subst (λ (t : Option Forest). IfErr ran (AuditSays job store t)) root_is (subst (λ (t : Option Forest). IfErr ran (AuditSays job t root)) source_is says)

-- and so it is made
pub made_as : (ran : Result Counts Fault) (job : own.Job) {source store : Option Forest} → source ≡ store → IsMade job source ran → IsMade job store ran
made_as ran job same = subst (λ (t : Option Forest). IsMade job t ran) same

-- and what it leaves unmet, whatever that is called
pub unmet_as : (ran : Result AuditCounts Fault) (job : own.Job) {source store : Option Forest} {left unmet : List (Option (List ℕ))} → source ≡ store
    → left ≡ unmet → OnOk ran (AreUnmetIn job source unmet) → OnOk ran (AreUnmetIn job store left)
unmet_as ran job {source} {store} {left} {unmet} source_is left_is are =
    subst (λ (t : Option Forest). OnOk ran (AreUnmetIn job t left)) source_is
    (subst (λ (u : List (Option (List ℕ))). OnOk ran (AreUnmetIn job source u)) (sym left_is) are)

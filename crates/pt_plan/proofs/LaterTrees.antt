-- What a fault leaves beside `staging` and the root is as it was, so a run after it leaves the same tree.
use Rattle.std.proofs.Common.{◌≡◌, ℕ, List, [], ◌∷◌, true, false, refl, sym, ◌∙◌, ap, cond, inl, inr, map, take}
use Rattle.std.specs.Prelude.{Option, None, Some, is_some}
use Rattle.std.specs.List.{list_all}
use Rattle.std.proofs.lemmas.Bool.{and_parts, false_from_ne_true, false≢true}
use Rattle.pt_object.proofs.Ways.{is_same}
use Rattle.pt_object.specs.Inventory.{inventory_text}
use Rattle.pt_object.specs.Object.{bytes_in, rows_of, stored_files}
use Rattle.pt_object.specs.Script.{Item, StandsAtPrefix, cut_last, done, item_entry, item_in, made}
use Rattle.pt_object.specs.Scripts.{object_items, root_items, staging}
use Rattle.pt_tree.specs.Forest.{Forest}
use Rattle.pt_tree.specs.Path.{Path, rest_below, same_path}
use Rattle.pt_tree.specs.Tree.{Tree, without, without_at}
use Rattle.pt_plan.specs.Carried.{after, after_all}
use Rattle.pt_plan.specs.Faults.{AsItWas, Between, Carrying, FaultStateOfFree, MakingRoot, FaultState, on_the_way_to}
use Rattle.pt_plan.specs.Job.{Job}
use Rattle.pt_plan.specs.RerunLaws.{EndsAlike, RerunLeavesTheSame}
use Rattle.pt_plan.specs.Roots.{root_in, storage_root, with_root}
use Rattle.pt_plan.proofs.CarriedFiles.{all_take}
use Rattle.pt_plan.proofs.LaterRoots.{rerun_ends_alike}
use Rattle.pt_plan.proofs.MovedIn.{roots_have_no_gaps}
use Rattle.pt_plan.proofs.StagingKeeps.{cut_in, in_staging, items_in}

-- ---- beside `staging`

-- a path that isn't in `staging` is none that is
outside : (path p : Path) → rest_below staging path ≡ None → is_some (rest_below staging p) ≡ true → same_path path p ≡ false
outside path p beside within =
    false_from_ne_true (same_path path p) (λ same. false≢true (sym (ap is_some beside) ∙ ap (λ (q : Path). is_some (rest_below staging q)) (is_same path p same)
    ∙ within))

pub made_beside : (script : List Item) (t : Tree) → list_all in_staging script ≡ true → (path : Path) → rest_below staging path ≡ None
    → made script t path ≡ t path
made_beside [] _ _ _ _ = refl
made_beside (item ∷ script) t h path beside =
    let parts = and_parts _ _ h in
    made_beside script (done item t) parts.1 path beside ∙ ap (λ b. cond b (Some (item_entry item)) (t path)) (outside path _ beside parts.0)

pub prefix_beside : (items : List Item) (start now : Tree) → StandsAtPrefix (map (item_in staging) items) start now → (path : Path)
    → rest_below staging path ≡ None → now path ≡ start path
prefix_beside items start _ at path beside =
    ap (λ (t : Tree). t path) at.stands
    ∙ made_beside (cut_last at.bytes (take at.items (map (item_in staging) items))) start
    (cut_in at.bytes (take at.items (map (item_in staging) items)) (all_take in_staging at.items (map (item_in staging) items) (items_in items))) path beside

-- ---- beside the root

-- a path beside the root is as it was
root_beside : (t root : Tree) {path : Path} → rest_below storage_root path ≡ None → with_root t root path ≡ t path
root_beside _ _ beside = rw beside refl

left_beside : {job : Job} {source : Forest} {start now : Tree} {log : List ℕ} → FaultStateOfFree job source start now log → {path : Path}
    → rest_below storage_root path ≡ None → rest_below staging path ≡ None → now path ≡ start path
left_beside AsItWas _ _ = refl
left_beside {job} {start} (MakingRoot now _ at) {path} _ out = prefix_beside (root_items job.tuples) start now at path out
left_beside {job} {source} {start} (Between k _ _ _) off _ = root_beside start (after job source (root_in start) k) off
left_beside {job} {source} {start} (Carrying k tuples object now _ _ _ at) {path} off out =
    let rows = rows_of job.algorithm object.files in
    let made = object_items job.algorithm (inventory_text object.id rows job.meta job.algorithm) (stored_files rows (bytes_in object.files)) in
    let later = on_the_way_to job source (root_in start) k object tuples in
    prefix_beside made _ now at path out ∙ root_beside start later off

may_beside : {job : Job} {source : Forest} {start now : Tree} {log : List ℕ} → FaultState job source start now log → {path : Path}
    → rest_below storage_root path ≡ None → rest_below staging path ≡ None → now path ≡ start path
may_beside (inl same) {path} _ _ = ap (λ (t : Tree). t path) same.0
may_beside (inr left) off out = left_beside left.1 off out

-- ---- the run after it

module _ (job : Job) (source : Forest) (start now : Tree) (log : List ℕ) (left : FaultState job source start now log)
    (alike : EndsAlike job source (root_in start) (root_in now)) where
  same_at : (path : Path) → with_root (without now staging) (after_all job source (root_in (without now staging))) path
      ≡ with_root (without start staging) (after_all job source (root_in start)) path
  same_at path = by (rest_below storage_root path) refl
    where
      elsewhere : rest_below storage_root path ≡ None → (o : Option Path) → rest_below staging path ≡ o → without_at o (now path) ≡ without_at o (start path)
      elsewhere off (Some rest) e = refl
      elsewhere off None e = may_beside left off e

      by : (o : Option Path) → rest_below storage_root path ≡ o → with_root (without now staging) (after_all job source (root_in (without now staging))) path
          ≡ with_root (without start staging) (after_all job source (root_in start)) path
      by (Some rest) e = rw e (ap (λ (t : Tree). t rest) alike.same)
      by None e =
          root_beside (without now staging) (after_all job source (root_in (without now staging))) {path = path} e
          ∙ elsewhere e (rest_below staging path) refl
          ∙ sym (root_beside (without start staging) (after_all job source (root_in start)) {path = path} e)

pub rerun_leaves_the_same : RerunLeavesTheSame
rerun_leaves_the_same job source start now log tree begins left =
    let alike = rerun_ends_alike job source start now log (roots_have_no_gaps start tree).1 begins.target left in
    record {
      begins = record { store = begins.store; prefix = begins.prefix; target = alike.target };
      free = λ q. refl;
      same = λ i path. same_at job source start now log left alike path i;
    }

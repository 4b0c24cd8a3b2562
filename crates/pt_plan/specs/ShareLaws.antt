-- The shares of a store, each carried by a run of its own over the same root, are together what one run carries.
-- So are any choices that divide its identifiers.
use Rattle.std.specs.Prelude.{◌≡◌, ◌≢◌, ◌⊎◌, ◌↔◌, ◌≤◌, ℕ, zero, suc, ◌+◌, Bool, true, false, List, count_by, Some, slice_get}
use Rattle.std.specs.List.{list_all}
use Rattle.pt_name.specs.Place.{place_of}
use Rattle.pt_name.specs.Share.{Portion, holds, numbered, whole}
use Rattle.pt_name.specs.Tuples.{Tuples}
use Rattle.pt_name.specs.declared.division.Division.TheVariants as division
use Rattle.pt_object.specs.Root.{base}
use Rattle.pt_tree.specs.Forest.{Forest}
use Rattle.pt_tree.specs.Path.{Path}
use Rattle.pt_tree.specs.Tree.{Entry, Folder, Tree}
use Rattle.pt_walk.specs.declared.cause.Cause.{Cause}
use Rattle.pt_plan.specs.Carried.{after_all}
use Rattle.pt_plan.specs.Items.{Interior, Item, Named, PairtreeObject, Skip, Verdict, items}
use Rattle.pt_plan.specs.Job.{Job}
use Rattle.pt_plan.specs.Lines.{Line, Skipped, all_lines}

-- the job for what this takes of the store
abbrev pub with_share : Job → Portion → Job
with_share job share = record job { share = share }

-- the job for the whole store
abbrev pub of_whole : Job → Job
of_whole job = with_share job whole

-- the job for the share of this number, of so many
abbrev pub of_share : Job → ℕ → ℕ → Job
of_share job count index = with_share job (numbered index count)

-- the share of this number, of so many into which a store is divided by its folders so deep
abbrev pub by_folders : ℕ → ℕ → ℕ → Portion
by_folders depth count index =
    record (numbered index count) { division = division.Folders depth }

-- one of the shares 1 to `count`
pub record IsOneOf (count index : ℕ) : Type 0 where
  pub first : 1 ≤ index
  pub last : index ≤ count

-- the sum of what the shares 1 to `count` have
abbrev pub sum_of_shares : (ℕ → ℕ) → ℕ → ℕ
sum_of_shares f zero = 0
sum_of_shares f (suc count) = sum_of_shares f count + f (suc count)

-- whatever is asked of lines, as many of the whole's log are such as of the logs of all shares together: each line of the whole stands in exactly one
-- share's log, and there is no other
abbrev pub SharesTellTheWhole : Type 0
SharesTellTheWhole =
    (job : Job) (source : Forest) (root : Tree) (count : ℕ) → 1 ≤ count → (test : Line → Bool)
    → count_by test (all_lines (of_whole job) source root)
    ≡ sum_of_shares
    (λ index. count_by test (all_lines (of_share job count index) source root)) count

-- what stands at a path after a run of the whole stands there after the run of some share, as it is, and nothing else stands there after any share's
abbrev pub SharesLeaveTheWhole : Type 0
SharesLeaveTheWhole =
    (job : Job) (source : Forest) (root : Tree) (count : ℕ) → 1 ≤ count → (path : Path) (entry : Entry)
    → (after_all (of_whole job) source root path ≡ Some entry)
    ↔ ((index : ℕ) × IsOneOf count index
    × (after_all (of_share job count index) source root path ≡ Some entry))

-- where two shares have something, it stood in the root that both began with, or is a folder
abbrev pub SharesMeetInFolders : Type 0
SharesMeetInFolders =
    (job : Job) (source : Forest) (root : Tree) (count index other : ℕ) (path : Path)
    (entry there : Entry) → IsOneOf count index → IsOneOf count other → index ≢ other
    → after_all (of_share job count index) source root path ≡ Some entry
    → after_all (of_share job count other) source root path ≡ Some there
    → (base job.tuples root path ≡ Some entry) ⊎ (entry ≡ Folder)

-- ---- shares by folders

-- the job for the share of this number, of so many by folders so deep
abbrev pub of_folders : Job → ℕ → ℕ → ℕ → Job
of_folders job depth count index = with_share job (by_folders depth count index)

-- no two sites of the store have objects of one place
abbrev pub NoTwoHaveOnePlace : Job → Forest → Type 0
NoTwoHaveOnePlace job source =
    (k l : ℕ) (item other : Item) (id another : List ℕ) (object theirs : PairtreeObject)
    → slice_get (items (of_whole job) source) k ≡ Some item
    → slice_get (items (of_whole job) source) l ≡ Some other
    → item.verdict ≡ Named id object → other.verdict ≡ Named another theirs
    → place_of job.tuples id ≡ place_of job.tuples another → k ≡ l

-- of shares by folders too each line of the whole stands in exactly one share's log, skip lines among them, and there is no other
abbrev pub FolderSharesTellTheWhole : Type 0
FolderSharesTellTheWhole =
    (job : Job) (source : Forest) (root : Tree) (depth count : ℕ) → 1 ≤ count
    → NoTwoHaveOnePlace job source → (test : Line → Bool)
    → count_by test (all_lines (of_whole job) source root)
    ≡ sum_of_shares
    (λ index. count_by test (all_lines (of_folders job depth count index) source root)) count

-- and what stands at a path after a run of the whole stands there after the run of some share, as it is, and nothing else after any share's
abbrev pub FolderSharesLeaveTheWhole : Type 0
FolderSharesLeaveTheWhole =
    (job : Job) (source : Forest) (root : Tree) (depth count : ℕ) → 1 ≤ count
    → NoTwoHaveOnePlace job source → (path : Path) (entry : Entry)
    → (after_all (of_whole job) source root path ≡ Some entry)
    ↔ ((index : ℕ) × IsOneOf count index
    × (after_all (of_folders job depth count index) source root path ≡ Some entry))

-- and where two of them have something, it stood in the root that both began with, or is a folder
abbrev pub FolderSharesMeetInFolders : Type 0
FolderSharesMeetInFolders =
    (job : Job) (source : Forest) (root : Tree) (depth count index other : ℕ) (path : Path)
    (entry there : Entry) → NoTwoHaveOnePlace job source → IsOneOf count index
    → IsOneOf count other → index ≢ other
    → after_all (of_folders job depth count index) source root path ≡ Some entry
    → after_all (of_folders job depth count other) source root path ≡ Some there
    → (base job.tuples root path ≡ Some entry) ⊎ (entry ≡ Folder)

-- ---- choices

-- the identifier passes the test, if there is one
abbrev pub is_known : (List ℕ → Bool) → Verdict → Bool
is_known known Interior = true
is_known known (Skip why) = true
is_known known (Named id object) = known id

-- each identifier of the store passes the test
abbrev pub KnowsAll : (List ℕ → Bool) → Job → Forest → Type 0
KnowsAll known job source =
    list_all (λ (item : Item). is_known known item.verdict) (items (of_whole job) source) ≡ true

-- the choices 1 to `count` divide the identifiers that pass the test: each chooses by identifiers, each identifier is of one of them, and those of one
-- place are of the same
pub record Divide (tuples : Tuples) (known : List ℕ → Bool) (count : ℕ) (choices : ℕ → Portion) : Type 0 where
  pub identifiers : (index : ℕ) → IsOneOf count index
      → (choices index).division ≡ division.Identifiers
  pub one : (id : List ℕ) → known id ≡ true
      → (index : ℕ) × IsOneOf count index × (holds (choices index) id ≡ true)
  pub apart : (index other : ℕ) (a b : List ℕ) → IsOneOf count index → IsOneOf count other
      → known a ≡ true → known b ≡ true → holds (choices index) a ≡ true
      → holds (choices other) b ≡ true → place_of tuples a ≡ place_of tuples b → index ≡ other

-- what stands at a path after a run of the whole stands there after the run of some choice, as it is, and nothing else stands there after any
-- choice's, where the choices divide the store
abbrev pub ChoicesLeaveTheWhole : Type 0
ChoicesLeaveTheWhole =
    (job : Job) (source : Forest) (root : Tree) (known : List ℕ → Bool) (count : ℕ)
    (choices : ℕ → Portion) → 1 ≤ count → KnowsAll known job source
    → Divide job.tuples known count choices → (path : Path) (entry : Entry)
    → (after_all (of_whole job) source root path ≡ Some entry)
    ↔ ((index : ℕ) × IsOneOf count index
    × (after_all (with_share job (choices index)) source root path ≡ Some entry))

-- where two choices have something, it stood in the root that both began with, or is a folder
abbrev pub ChoicesMeetInFolders : Type 0
ChoicesMeetInFolders =
    (job : Job) (source : Forest) (root : Tree) (known : List ℕ → Bool) (count : ℕ)
    (choices : ℕ → Portion) → KnowsAll known job source
    → Divide job.tuples known count choices → (index other : ℕ) (path : Path)
    (entry there : Entry) → IsOneOf count index → IsOneOf count other → index ≢ other
    → after_all (with_share job (choices index)) source root path ≡ Some entry
    → after_all (with_share job (choices other)) source root path ≡ Some there
    → (base job.tuples root path ≡ Some entry) ⊎ (entry ≡ Folder)

-- whatever is asked of lines of objects that aren't passed over, as many of the whole's log are such as of the logs of all choices together
abbrev pub ChoicesTellTheWhole : Type 0
ChoicesTellTheWhole =
    (job : Job) (source : Forest) (root : Tree) (known : List ℕ → Bool) (count : ℕ)
    (choices : ℕ → Portion) → KnowsAll known job source
    → Divide job.tuples known count choices → (test : Line → Bool)
    → ((path : Path) (why : Cause) → test (Skipped path why) ≡ false)
    → count_by test (all_lines (of_whole job) source root)
    ≡ sum_of_shares
    (λ index. count_by test (all_lines (with_share job (choices index)) source root)) count

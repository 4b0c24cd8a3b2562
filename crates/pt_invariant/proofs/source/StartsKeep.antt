-- The turns of the start keep what holds where the source tells.
use Rattle.std.proofs.Common.{inl, inr, ◌≡◌, ◌≤◌, ℕ, ◌&&◌, Bool, true, false, List, [], ◌∷◌, refl, ap, sym, ◌∙◌, cond, length, arith, take}
use Rattle.std.specs.Prelude.{Option, None, Some, Ok, is_none, is_some, nat_lt, min}
use Rattle.std.specs.Option.{option_and_then, option_map}
use Rattle.std.specs.Str.{is_utf8}
use Rattle.std.proofs.lemmas.Bool.{cases_Bool, ltb-false}
use Rattle.std.proofs.lemmas.List.{length-take, take_all}
use Rattle.pt_name.specs.Prefix.{prefix_refusal, without_line_ends}
use Rattle.pt_name.specs.declared.prefix.PrefixFault.TheVariants as fault
use Rattle.pt_tree.specs.Forest.{Forest, Node, File, Dir, Other, as_dir, as_file, dir_at, file_at, find, kind_at, kind_of, node_at}
use Rattle.pt_tree.specs.Source.{Reading, IsRead, after_open}
use Rattle.pt_tree.specs.declared.kind.Kind.{Kind}
use Rattle.pt_tree.specs.declared.kind.Kind.TheVariants as kind
use Rattle.pt_invariant.specs.SourceInvariant.{HasStarted, HoldsNothing, SourceAt}
use Rattle.pt_invariant.specs.History.{done_after}
use Rattle.pt_plan.specs.Job.{Job}
use Rattle.pt_plan.specs.Run.{Held}
use Rattle.pt_plan.specs.Store.{is_prefix, is_store, pairtree_root, prefix_file, prefix_in, version_file}
use Rattle.pt_plan.specs.TurnStart.{StartStep, IsStore, HasNoPrefix, HasPrefix, MakesRoot, IsSame, is_dir_kind, is_file_kind}
use Rattle.pt_plan.specs.DeviceStates.{Answers, Calls}
use Rattle.pt_plan.specs.declared.phase.Phase.{Phase}
use Rattle.pt_plan.specs.declared.phase.Opening.TheVariants as opening
use Rattle.pt_plan.specs.declared.phase.Phase.TheVariants as phase
use Rattle.pt_plan.proofs.FoundKinds.{kind_seen}
use Rattle.pt_invariant.proofs.held.EitherPhase.{after_root_file, after_root_item}
use Rattle.pt_invariant.proofs.source.InPairtree.{some_same, stays}

-- ---- the top

-- a file is seen at a name just where one stands there
file_top : (f : Forest) (name : List ℕ) → is_file_kind (kind_at f (name ∷ [])) ≡ is_some (file_at f (name ∷ []))
file_top f name = by (find f name)
  where
    by : (o : Option Node) → is_file_kind (option_map kind_of (option_and_then (λ node. node_at node []) o))
        ≡ is_some (option_and_then as_file (option_and_then (λ node. node_at node []) o))
    by None = refl
    by (Some (File bytes)) = refl
    by (Some (Dir inside)) = refl
    by (Some Other) = refl

-- and so is a directory
dir_top : (f : Forest) (name : List ℕ) → is_dir_kind (kind_at f (name ∷ [])) ≡ is_some (dir_at f (name ∷ []))
dir_top f name = by (find f name)
  where
    by : (o : Option Node) → is_dir_kind (option_map kind_of (option_and_then (λ node. node_at node []) o))
        ≡ is_some (option_and_then as_dir (option_and_then (λ node. node_at node []) o))
    by None = refl
    by (Some (File bytes)) = refl
    by (Some (Dir inside)) = refl
    by (Some Other) = refl

pub lacks_version : (f : Forest) {here : Option Kind} → kind_at f (version_file ∷ []) ≡ here → is_file_kind here ≡ false → is_store f ≡ false
lacks_version f seen is = ap (λ (b : Bool). b && is_some (dir_at f (pairtree_root ∷ []))) (sym (file_top f version_file) ∙ ap is_file_kind seen ∙ is)

-- beside the version file the directory of the pairtree makes the store
has_version : (f : Forest) → kind_at f (version_file ∷ []) ≡ Some kind.File → is_store f ≡ is_dir_kind (kind_at f (pairtree_root ∷ []))
has_version f seen =
    ap (λ (b : Bool). b && is_some (dir_at f (pairtree_root ∷ []))) (sym (file_top f version_file) ∙ ap is_file_kind seen) ∙ sym (dir_top f pairtree_root)

pub store_by_pairtree : (f : Forest) {here : Option Kind} {is : Bool} → kind_at f (version_file ∷ []) ≡ Some kind.File
    → kind_at f (pairtree_root ∷ []) ≡ here → is_dir_kind here ≡ is → is_store f ≡ is
store_by_pairtree f file seen is = has_version f file ∙ ap is_dir_kind seen ∙ is

-- ---- the prefix

no_prefix : (o : Option Node) → None ≡ option_map kind_of o → (is_prefix o ≡ true) × (prefix_in o ≡ [])
no_prefix None absent = (refl, refl)
no_prefix (Some node) absent = absurd (cc)

-- a prefix has at most 1024 bytes
prefix_short : (bytes : List ℕ) → prefix_refusal bytes ≡ None → length bytes ≤ 1024
prefix_short bytes good = elim (cases_Bool (nat_lt 1024 (length bytes))) [
  | inl long ↦ absurd (let no : Some fault.TooLong
      ≡ None = sym (ap (λ b. cond b (Some fault.TooLong) (cond (is_utf8 (without_line_ends bytes)) None (Some fault.NotUtf8))) long) ∙ good in cc)
  | inr short ↦ ltb-false 1024 (length bytes) short
]

-- so it was read whole in its first block
read_whole : (bytes block : List ℕ) → take 8192 bytes ≡ block → prefix_refusal block ≡ None → bytes ≡ block
read_whole bytes block read good =
    let few = prefix_short block good in
    let long : length block ≡ min 8192 (length bytes) = ap length (sym read) ∙ length-take 8192 bytes in
    sym (take_all 8192 bytes (omega (arith, few, long))) ∙ read

good_prefix : (o : Option Node) {block : List ℕ} → Some kind.File ≡ option_map kind_of o
    → option_map (take 8192) (option_and_then as_file (option_and_then (λ node. node_at node []) o)) ≡ Some block → prefix_refusal block ≡ None
    → (is_prefix o ≡ true) × (prefix_in o ≡ without_line_ends block)
good_prefix None is read good = absurd (cc)
good_prefix (Some (Dir inside)) is read good = absurd (cc)
good_prefix (Some Other) is read good = absurd (cc)
good_prefix (Some (File bytes)) {block} is read good =
    let same : bytes ≡ block = read_whole bytes block (some_same (take 8192 bytes) block read) good in
    let passes : is_none (prefix_refusal bytes) ≡ true = ap (λ (l : List ℕ). is_none (prefix_refusal l)) same ∙ ap is_none good in
    (passes, ap (λ b. cond b (without_line_ends bytes) []) passes ∙ ap without_line_ends same)

-- ---- the later turns

-- what holds at each phase of the start but the first two
abbrev Started : List ℕ → ℕ → Held → Reading → Type 0
Started prefix count held s = HoldsNothing held × (count ≡ 0) × HasStarted s.tree prefix

pub starts_keep : {job : Job} (s new : Reading) {prefix read : List ℕ} (count : ℕ) {here next : Phase} (held : Held) {calls : Calls}
    → StartStep job here prefix read calls (Ok next) → SourceAt job s prefix count here held → Answers calls.asked (Some s) (Some new)
    → SourceAt job new read (done_after here held.trail next count) next held
unfolding Answers IsRead
starts_keep s new {prefix} count held (IsStore was here) at answers =
    let store : is_store s.tree ≡ true = store_by_pairtree s.tree (answers.0.0 s.tree refl) (answers.0.1.0 s.tree refl) refl in
    let read : here ≡ option_map kind_of (find s.tree prefix_file) = sym (answers.0.1.1.0 s.tree refl) ∙ kind_seen s.tree prefix_file in
    stays (λ r. HoldsNothing held × (count ≡ 0) × (is_store r.tree ≡ true) × (here ≡ option_map kind_of (find r.tree prefix_file)) × (prefix ≡ [])) answers.1
    (at.0, at.1, store, read, at.2)
starts_keep s new {prefix} count held (HasNoPrefix was) at answers =
    let none_there = no_prefix (find s.tree prefix_file) at.3 in
    stays (Started prefix count held) answers (at.0, at.1, record { store = at.2; good = none_there.0; read = at.4 ∙ sym none_there.1 })
starts_keep s new count held (HasPrefix was block good) at answers =
    let it = good_prefix (find s.tree prefix_file) at.3 (answers.0 (after_open (prefix_file ∷ []) s) refl) good in
    stays (Started (without_line_ends block) count held) answers.1 (at.0, at.1, record { store = at.2; good = it.0; read = sym it.1 })
starts_keep {job} s new {prefix} count held (MakesRoot was number item is) at answers =
    let next = λ (p : Phase). SourceAt job new prefix (done_after (phase.Opening (opening.RootMake number)) held.trail p count) p held in
    let it = stays (Started prefix count held) answers at in
    after_root_item next number (λ last. it) (λ more. it)
starts_keep {job} s new {prefix} count held (IsSame was number path bytes is) at answers =
    let next = λ (p : Phase). SourceAt job new prefix (done_after (phase.Opening (opening.RootCheck number)) held.trail p count) p held in
    let it = stays (Started prefix count held) answers at in
    after_root_file next number (λ last. it) (λ more. it)
starts_keep s new {prefix} count held turn at answers = stays (Started prefix count held) answers at

-- The turns that look whether the source is a Pairtree store, from their calls.
use Rattle.std.proofs.Common.{◌≡◌, ℕ, List, [], ◌∷◌, refl, ap, true, false}
use Rattle.std.specs.Prelude.{Option, None, Some, Ok, Err, IsErrAnd}
use Rattle.std.specs.String.{string_bytes}
use Rattle.pt_name.specs.Prefix.{prefix_refusal, without_line_ends}
use Rattle.pt_state.proofs.Words.{
  Answer,
  Did,
  Next,
  GoesOn,
  Start,
  Lists,
  Looks,
  DeviceStates,
  asks,
  Fault,
  Turned,
  KeepsAll,
  counts_of,
  held_of,
  job_of,
  Path,
  Reading,
  CanOpen,
  Kind,
}
use Rattle.pt_state.specs.declared.state.State.{State}
use Rattle.pt_state.proofs.Words.fault
use Rattle.pt_state.proofs.Words.kind
use Rattle.pt_state.proofs.Words.opening
use Rattle.pt_state.proofs.Words.phase
use Rattle.pt_plan.specs.Enabled.{MayOpenPrefix}
use Rattle.pt_plan.specs.Store.{pairtree_root, prefix_file, version_file}
use Rattle.pt_plan.specs.TurnStart.{
  IsStore,
  HasNoVersion,
  HasNoPairtree,
  HasNoPrefix,
  IsNoPrefixFile,
  HasPrefix,
  IsNoPrefix,
  is_dir_kind,
  is_file_kind,
}
use Rattle.pt_plan.specs.DeviceStates.{OpensAndReads}
use Rattle.pt_scan.specs.Store.{PrefixFails}
use Rattle.pt_state.proofs.Together.{did_nothing, looks_and_lists, looks_on}
use Rattle.pt_state.proofs.Turns.{keeps_same, short_asked, turns}
use Rattle.pt_tree.specs.Listing.{Item as Entry}
use Rattle.pt_tree.specs.Source.{CanList}
use Rattle.pt_state.proofs.Starts.{goes, halts}

-- ---- the top

-- this is seen at a name of it
abbrev Sees : List ℕ → Option Kind → DeviceStates → DeviceStates → Type 0
Sees name here a b = Did (asks (Looks ((name ∷ [], here) ∷ []))) a b

file_seen : (here : Option Kind) → is_file_kind here ≡ true → here ≡ Some kind.File
file_seen None is = absurd (cc)
file_seen (Some kind.File) is = refl
file_seen (Some kind.Dir) is = absurd (cc)
file_seen (Some kind.Other) is = absurd (cc)

dir_seen : (here : Option Kind) → is_dir_kind here ≡ true → here ≡ Some kind.Dir
dir_seen None is = absurd (cc)
dir_seen (Some kind.File) is = absurd (cc)
dir_seen (Some kind.Dir) is = refl
dir_seen (Some kind.Other) is = absurd (cc)

-- it may be listed
pub list_top : (told : Option Reading) (top : Path) → top ≡ [] → CanList told top
unfolding CanList
list_top told top at s is = rw (at) refl

pub no_version : (s : State) (a b c : DeviceStates) (here : Option Kind) (top : Path) (entries : List Entry) → top ≡ [] → Sees version_file here a b
    → Did (asks (Lists top entries)) b c → is_file_kind here ≡ false → Turned (phase.Opening opening.Begin) s s a c (Err fault.NotPairtree)
no_version s a b c here top entries at sees lists is =
    halts a c (HasNoVersion _ here entries is) (looks_and_lists _ [] entries a b c sees (rw (at) at lists)) keeps_same

pub no_pairtree : (s : State) (a b c : DeviceStates) (version here : Option Kind) → is_file_kind version ≡ true → Sees version_file version a b
    → Sees pairtree_root here b c → is_dir_kind here ≡ false → Turned (phase.Opening opening.Begin) s s a c (Err fault.NotPairtree)
no_pairtree s a b c version here file first next is =
    let there = rw (file_seen version file) at first in
    halts a c (HasNoPairtree _ here is) (looks_on _ _ a b c there next) keeps_same

pub is_store : (s : State) (a b c d : DeviceStates) (version pairtree here : Option Kind) → is_file_kind version ≡ true → is_dir_kind pairtree ≡ true
    → Sees version_file version a b → Sees pairtree_root pairtree b c → Sees prefix_file here c d
    → Turned (phase.Opening opening.Begin) s s a d (Ok (phase.Opening (opening.Prefix here)))
is_store s a b c d version pairtree here file dir first next last =
    let one = rw (file_seen version file) at first in
    let two = rw (dir_seen pairtree dir) at next in
    goes a d (IsStore _ here) (looks_on _ _ a c d (looks_on _ _ a b c one two) last) refl keeps_same refl

-- ---- the prefix

pub no_prefix : (s : State) (w : DeviceStates) → Turned (phase.Opening (opening.Prefix None)) s s w w (Ok (phase.Opening opening.Staging))
no_prefix s w = goes w w (HasNoPrefix _) (did_nothing w) refl keeps_same refl

pub no_prefix_dir : (s : State) (w : DeviceStates) → Turned (phase.Opening (opening.Prefix (Some kind.Dir))) s s w w (Err fault.Prefix)
no_prefix_dir s w = halts w w (IsNoPrefixFile _ (Some kind.Dir) (λ e. cc) refl) (did_nothing w) keeps_same

pub no_prefix_other : (s : State) (w : DeviceStates) → Turned (phase.Opening (opening.Prefix (Some kind.Other))) s s w w (Err fault.Prefix)
no_prefix_other s w = halts w w (IsNoPrefixFile _ (Some kind.Other) (λ e. cc) refl) (did_nothing w) keeps_same

pub has_prefix : (s s' : State) (w w' : DeviceStates) (path : Path) (block : List ℕ) → path ≡ prefix_file ∷ [] → Did (asks (OpensAndReads path block)) w w'
    → prefix_refusal block ≡ None → string_bytes s'.prefix ≡ without_line_ends block
    → s'.job ≡ s.job → s'.trail ≡ s.trail → s'.rows ≡ s.rows → s'.contents ≡ s.contents → s'.counts ≡ s.counts → s'.hasher ≡ s.hasher
    → Turned (phase.Opening (opening.Prefix (Some kind.File))) s s' w w' (Ok (phase.Opening opening.Staging))
unfolding Turned
has_prefix s s' w w' path block at did good prefix job trail rows contents counts hasher = (
  job,
  λ fed was. (
    fed,
    (
      rw hasher was,
      GoesOn (asks (OpensAndReads (prefix_file ∷ []) block)) (phase.Opening opening.Staging) (follows fed) (rw (at) at did) (ap counts_of counts),
    ),
  ),
)
  where
    same : (fed : List ℕ) → held_of s' fed ≡ held_of s fed
    same fed = λ i. record { trail = trail i; rows = rows i; contents = contents i; fed = fed }

    follows : (fed : List ℕ) → Next (job_of s.job) (counts_of s.counts) (phase.Opening (opening.Prefix (Some kind.File))) (string_bytes s.prefix)
        (held_of s fed) (string_bytes s'.prefix) (held_of s' fed) (asks (OpensAndReads (prefix_file ∷ []) block)) (Ok (phase.Opening opening.Staging))
    follows fed = rw (same fed, prefix) (Start (HasPrefix (string_bytes s.prefix) block good))

pub bad_prefix : (s s' : State) (w w' : DeviceStates) (path : Path) (block : List ℕ) (f : Fault) (result : Answer) → IsErrAnd result (λ g. g ≡ f)
    → path ≡ prefix_file ∷ [] → Did (asks (OpensAndReads path block)) w w' → PrefixFails block f → KeepsAll s s'
    → Turned (phase.Opening (opening.Prefix (Some kind.File))) s s' w w' result
bad_prefix s s' w w' path block f (Ok next) is at did fails keeps = absurd is
bad_prefix s s' w w' path block f (Err g) is at did fails keeps = rw is (by f fails)
  where
    there : Did (asks (OpensAndReads (prefix_file ∷ []) block)) w w'
    there = rw (at) at did

    by : (f : Fault) → PrefixFails block f → Turned (phase.Opening (opening.Prefix (Some kind.File))) s s' w w' (Err f)
    by fault.Prefix fails = halts w w' (IsNoPrefix _ block fails.0 fails.1) there keeps
    by fault.Memory fails = short_asked _ s s' w w' (OpensAndReads (prefix_file ∷ []) block) _ refl there keeps
    by _ fails = absurd fails

pub may_open_prefix : (told : Option Reading) (here : Option Kind) (path : Path) → MayOpenPrefix told here → here ≡ Some kind.File → path ≡ prefix_file ∷ []
    → CanOpen told path
unfolding MayOpenPrefix
may_open_prefix told here path may is at = rw (at) (may is)

pub ruleset starting = (turns, may_open_prefix, no_prefix, no_prefix_dir, no_prefix_other, has_prefix, bad_prefix)

-- Turns that change what is held, from what their calls came to.
use Rattle.std.proofs.Common.{◌≡◌, ℕ, List, refl, ap, ◌∙◌}
use Rattle.std.specs.Prelude.{Option, Some, Ok}
use Rattle.std.specs.String.{string_bytes}
use Rattle.pt_state.proofs.Words.{
  Writing,
  Path,
  Kind,
  Frame,
  Line,
  with_trail,
  Did,
  FailsPartway,
  counted,
  Answers,
  Calls,
  Change,
  Changes,
  Finds,
  Puts,
  Reads,
  Untouched,
  DeviceStates,
  asks,
  dest_tree,
  does,
  tree_in,
  tells,
  Fault,
  Phase,
  Turned,
  counts_of,
  held_of,
}
use Rattle.pt_state.specs.declared.job.Report.{Report}
use Rattle.pt_state.specs.declared.state.State.{State}
use Rattle.pt_plan.specs.DeviceStates.{AsksNothing, ChangesNothing, LeavesPart}
use Rattle.pt_scan.specs.Scanning.{Moved}
use Rattle.pt_state.proofs.Together.{asked_tree}
use Rattle.pt_state.proofs.Turns.{Leads, turned_on}

-- ---- a line that is told after another call

abbrev pub reads_and_tells : List ℕ → Line → Calls
reads_and_tells block line = record { asked = Reads block; change = ChangesNothing; line = Some line }

pub read_told : (block : List ℕ) (line : Line) (a b c : DeviceStates) → Did (asks (Reads block)) a b → Did (tells line) b c
    → Did (reads_and_tells block line) a c
unfolding Did Answers Changes Puts
read_told block line a b c first next = (
  record {
    source = rw next.0.source first.0.source;
    dest = next.0.dest ∙ first.0.dest;
    log = rw first.0.log at next.0.log;
  },
  next.1 ∙ first.1,
)

pub read_left : (block : List ℕ) (line : Line) (f : Fault) (a b c : DeviceStates) → Did (asks (Reads block)) a b → FailsPartway (tells line) f b c
    → FailsPartway (reads_and_tells block line) f a c
unfolding Did FailsPartway Answers Changes Puts
read_left block line f a b c first next = (
  record {
    read = first.0.source.0;
    found = tt;
    source = next.0.source ∙ asked_tree (Reads block) a.source b.source first.0.source;
    dest = rw first.0.dest at next.0.dest;
    log = rw first.0.log at next.0.log;
  },
  rw first.1 at next.1,
  tt,
)

abbrev pub finds_and_tells : Path → Option Kind → Line → Calls
finds_and_tells path here line = record { asked = AsksNothing; change = Finds path here; line = Some line }

pub looked_told : (path : Path) (here : Option Kind) (line : Line) (a b c : DeviceStates) → Did (does (Finds path here)) a b → Did (tells line) b c
    → Did (finds_and_tells path here line) a c
unfolding Did Answers Changes Puts
looked_told path here line a b c first next = (
  record {
    source = next.0.source ∙ first.0.source;
    dest = (first.0.dest.0, next.0.dest ∙ first.0.dest.1);
    log = rw first.0.log at next.0.log;
  },
  next.1 ∙ first.1,
)

untouched : {o o' : Option Writing} {change : Change} → change ≡ ChangesNothing → LeavesPart o o' change → dest_tree o' ≡ dest_tree o
untouched is (Untouched it same) = same
untouched is _ = absurd (cc)

pub looked_left : (path : Path) (here : Option Kind) (line : Line) (f : Fault) (a b c : DeviceStates) → Did (does (Finds path here)) a b
    → FailsPartway (tells line) f b c → FailsPartway (finds_and_tells path here line) f a c
unfolding Did FailsPartway Answers Changes Puts
looked_left path here line f a b c first next = (
  record {
    read = tt;
    found = first.0.dest.0;
    source = next.0.source ∙ ap tree_in first.0.source;
    dest = Untouched _ (untouched refl next.0.dest ∙ ap dest_tree first.0.dest.1);
    log = rw first.0.log at next.0.log;
  },
  rw first.1 at next.1,
  tt,
)

-- ---- what is held

pub moved : {s s' : State} {trail : List Frame} {counts : Report} → s'.job ≡ s.job → string_bytes s'.prefix ≡ string_bytes s.prefix → s'.trail ≡ trail
    → s'.rows ≡ s.rows → s'.contents ≡ s.contents → s'.counts ≡ counts → s'.hasher ≡ s.hasher → s'.unmet ≡ s.unmet
    → Moved trail counts s s'
moved job prefix trail_is rows contents counts_are hasher unmet = record {
  job = job;
  prefix = prefix;
  trail_is = trail_is;
  rows = rows;
  contents = contents;
  counts_are = counts_are;
  hasher = hasher;
  unmet = unmet;
}

-- ---- turns

-- and the trail is this
pub moves : {here next : Phase} {s s' : State} (w w' : DeviceStates) {calls : Calls} {trail : List Frame} {counts : Report}
    → ((fed : List ℕ) → Leads here s fed (with_trail (held_of s fed) trail) calls (Ok next))
    → Did calls w w' → Moved trail counts s s' → counts_of counts ≡ counted calls.line (counts_of s.counts) → Turned here s s' w w' (Ok next)
moves w w' follows did to counts_are =
    turned_on _ _ w w' follows did to.trail_is to.rows to.contents (ap counts_of to.counts_are ∙ counts_are) to.prefix to.hasher to.job

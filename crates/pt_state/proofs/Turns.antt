-- A turn of all that a run holds, from what its calls came to.
use Rattle.std.proofs.Common.{◌≡◌, ℕ, List, refl, sym, ap, inl, ◌∙◌}
use Rattle.std.specs.Prelude.{Option, None, Ok, Err, IsErrAnd}
use Rattle.std.specs.String.{string_bytes}
use Rattle.std.proofs.lemmas.Result.{on_ok_weaker}
use Rattle.pt_state.proofs.Words.{
  HasBeenFed,
  Content,
  Row,
  Answer,
  Line,
  Held,
  Kept,
  Did,
  FailsAtFirst,
  FailsLater,
  Next,
  GoesOn,
  IsHalted,
  IsRefused,
  FailsPartway,
  FailsUnchanged,
  counted,
  Asked,
  Calls,
  DeviceStates,
  asks,
  Fault,
  Phase,
  Frame,
  Turned,
  KeepsAll,
  counts_of,
  held_of,
  job_of,
  kept_of,
}
use Rattle.pt_state.specs.declared.state.State.{State}
use Rattle.pt_state.proofs.Words.fault
use Rattle.pt_state.proofs.Together.{asked_stays}
use Rattle.pt_plan.specs.Met.{unmet_after}
use Rattle.pt_state.specs.States.{IsUnmetAfter}
use Rattle.pt_state.specs.Turns.{TakesTurn, TakesTurnAt}
use Rattle.pt_state.specs.declared.outside.Io.{Ghosts as OfOutside}

-- ---- what is kept

pub keeps_all : {s s' : State} → s'.job ≡ s.job → string_bytes s'.prefix ≡ string_bytes s.prefix → s'.trail ≡ s.trail → s'.rows ≡ s.rows
    → s'.contents ≡ s.contents → s'.counts ≡ s.counts → KeepsAll s s'
keeps_all job prefix trail rows contents counts = record { job = job; prefix = prefix; trail = trail; rows = rows; contents = contents; counts = counts }

pub keeps_same : {s : State} → KeepsAll s s
keeps_same = keeps_all refl refl refl refl refl refl

kept_same : {s s' : State} (fed : List ℕ) → KeepsAll s s' → kept_of s' fed ≡ kept_of s fed
kept_same fed k = λ i. record {
  prefix = k.prefix i;
  held = record { trail = k.trail i; rows = k.rows i; contents = k.contents i; fed = fed };
  counts = counts_of (k.counts i);
}

halted_as : {s s' : State} (fed : List ℕ) → KeepsAll s s' → IsHalted s.rows (kept_of s fed) (kept_of s' fed)
halted_as fed k = record { prefix = k.prefix; trail = k.trail; rows_are = k.rows; contents = k.contents; counts = ap counts_of k.counts }

-- ---- turns

-- where the hasher was fed this, a turn of the definitions comes to this, with these calls and this answer
abbrev pub Leads : Phase → State → List ℕ → Held → Calls → Answer → Type 0
Leads here s fed held calls answer = Next (job_of s.job) (counts_of s.counts) here (string_bytes s.prefix) (held_of s fed) (string_bytes s.prefix) held calls
    answer

-- the hasher was fed this after what it was fed before
abbrev pub Feeds : State → State → (List ℕ → List ℕ) → Type 0
Feeds s s' now = (fed : List ℕ) → HasBeenFed s.job.algorithm s.hasher fed → HasBeenFed s.job.algorithm s'.hasher (now fed)

module _ {here : Phase} {s s' : State} (w w' : DeviceStates) {calls : Calls} where
  -- its calls succeed
  pub went : {next : Phase} (now : List ℕ → List ℕ) → ((fed : List ℕ) → HasBeenFed s.job.algorithm s.hasher fed
      → Leads here s fed (held_of s (now fed)) calls (Ok next)) → Did calls w w' → calls.line ≡ None → Feeds s s' now → KeepsAll s s'
      → Turned here s s' w w' (Ok next)
  unfolding Turned
  went {next} now follows did quiet feeds keeps = (
    keeps.job,
    λ fed was. (
      now fed,
      (
        feeds fed was,
        rw (kept_same (now fed) keeps)
            (GoesOn calls next (follows fed was) did (sym (ap (λ (o : Option Line). counted o (counts_of s.counts)) quiet))),
      ),
    ),
  )

  -- its calls succeed, and what they answer halts the run
  pub refused : {why : Fault} → ((fed : List ℕ) → HasBeenFed s.job.algorithm s.hasher fed → Leads here s fed (held_of s fed) calls (Err why)) → Did calls w w'
      → KeepsAll s s' → Turned here s s' w w' (Err why)
  unfolding Turned
  refused {why} follows did keeps = (
    keeps.job,
    λ fed was. (
      fed,
      (
        tt,
        IsRefused (string_bytes s.prefix) (held_of s fed) calls why (follows fed was) did
            (halted_as fed keeps),
      ),
    ),
  )

  -- a call fails, and a part is left of what the turn was to change
  pub left_some : {answer : Answer} {held : List ℕ → Held} (f : Fault) (result : Answer) → IsErrAnd result (λ h. h ≡ f)
      → ((fed : List ℕ) → Leads here s fed (held fed) calls answer) → FailsPartway calls f w w' → KeepsAll s s' → Turned here s s' w w' result
  unfolding Turned
  left_some f (Ok next) is follows some keeps = absurd is
  left_some {answer} {held} f (Err h) is follows some keeps = (
    keeps.job,
    λ fed was. (
      fed,
      (
        tt,
        rw is (FailsLater (string_bytes s.prefix) (held fed) calls answer s.rows f (follows fed) some (inl refl)
            (halted_as fed keeps)),
      ),
    ),
  )

-- a call fails, or memory is short, and nothing is changed
pub stayed : (here : Phase) (s s' : State) (w w' : DeviceStates) (f : Fault) (result : Answer) → IsErrAnd result (λ h. h ≡ f) → FailsUnchanged f w w'
    → KeepsAll s s' → Turned here s s' w w' result
unfolding Turned
stayed here s s' w w' f (Ok next) is stays keeps = absurd is
stayed here s s' w w' f (Err h) is stays keeps = (keeps.job, λ fed was. (fed, (tt, rw is (FailsAtFirst f stays (halted_as fed keeps)))))

-- memory was short before anything was called
pub short : (here : Phase) (s s' : State) (w : DeviceStates) (result : Answer) → IsErrAnd result (λ h. h ≡ fault.Memory) → KeepsAll s s'
    → Turned here s s' w w result
unfolding FailsUnchanged
short here s s' w result is keeps = stayed here s s' w w fault.Memory result is (refl, refl, refl, refl, tt) keeps

-- or after the source was asked
pub short_asked : (here : Phase) (s s' : State) (w w' : DeviceStates) (asked : Asked) (result : Answer) → IsErrAnd result (λ h. h ≡ fault.Memory)
    → Did (asks asked) w w' → KeepsAll s s' → Turned here s s' w w' result
short_asked here s s' w w' asked result is did keeps = stayed here s s' w w' fault.Memory result is (asked_stays asked w w' did) keeps

-- its calls succeed, the hasher is as it was, and what else is held is this
pub turned_on : {here next : Phase} (s s' : State) (w w' : DeviceStates) {calls : Calls} {trail : List Frame} {rows : List Row} {contents : List Content}
    → ((fed : List ℕ) → Leads here s fed (record { trail = trail; rows = rows; contents = contents; fed = fed }) calls (Ok next))
    → Did calls w w' → s'.trail ≡ trail → s'.rows ≡ rows → s'.contents ≡ contents → counts_of s'.counts ≡ counted calls.line (counts_of s.counts)
    → string_bytes s'.prefix ≡ string_bytes s.prefix → s'.hasher ≡ s.hasher → s'.job ≡ s.job → Turned here s s' w w' (Ok next)
unfolding Turned
turned_on {next = next} s s' w w' {calls} {trail} {rows} {contents} follows did trail_is rows_are contents_are counts prefix hasher job = (
  job,
  λ fed was.
      let kept : Kept = record {
        prefix = string_bytes s.prefix;
        held = record { trail = trail; rows = rows; contents = contents; fed = fed };
        counts = counted
            calls.line (counts_of s.counts);
      } in
      let kept_is : kept_of s' fed ≡ kept = λ i. record {
        prefix = prefix i;
        held = record
            { trail = trail_is i; rows = rows_are i; contents = contents_are i; fed = fed };
        counts = counts i;
      } in
      (fed, (rw hasher was, rw kept_is (GoesOn calls next (follows fed) did refl))),
)

-- the block that is held has no part in a turn
pub turned_read : (here : Phase) (s s' : State) (block : _) (w w' : DeviceStates) (result : Answer) → Turned here (record s { block = block }) s' w w' result
    → Turned here s s' w w' result
unfolding Turned
turned_read here s s' block w w' result turned = turned

-- nor has what is unmet
pub turned_unmet : (here : Phase) (s s' : State) (unmet : _) (w w' : DeviceStates) (result : Answer) → Turned here (record s { unmet = unmet }) s' w w' result
    → Turned here s s' w w' result
unfolding Turned
turned_unmet here s s' unmet w w' result turned = turned

-- ---- turns over all devices as one

module _ {O : Type 0} {of : OfOutside O} {most most' : ℕ × ℕ} {At : Phase → Type 0} {s s' : State} {old new : O} {answer : Answer} where
  -- at a phase of which what is asked holds
  pub taken_at : {here : Phase} → TakesTurnAt of most At (s, old) (s', new) answer → At here → of.within most'.0 most'.1 old new
      → (s'.unmet ≡ s.unmet → IsUnmetAfter here s s') → TakesTurn of most' here (s, old) (s', new) answer
  taken_at {here} takes at few same = record { turn = takes.turn here at; few = few; unmet = on_ok_weaker answer same takes.unmet }

  -- whatever was unmet before
  pub taken_unmet : {here : Phase} (unmet : _) → TakesTurnAt of most At (record s { unmet = unmet }, old) (s', new) answer → At here
      → of.within most'.0 most'.1 old new → unmet ≡ unmet_after (job_of s.job) here (string_bytes s.prefix) s.trail s.unmet
      → TakesTurn of most' here (s, old) (s', new) answer
  taken_unmet {here} unmet takes at few is = record {
    turn = turned_unmet here s s' unmet _ _ _ (takes.turn here at);
    few = few;
    unmet = on_ok_weaker answer (λ same. same ∙ is) takes.unmet;
  }

  -- at each phase of which more holds
  pub taken_where : {At' : Phase → Type 0} → TakesTurnAt of most At (s, old) (s', new) answer → ((here : Phase) → At' here → At here)
      → of.within most'.0 most'.1 old new → TakesTurnAt of most' At' (s, old) (s', new) answer
  taken_where takes at few = record { turn = λ here more. takes.turn here (at here more); few = few; unmet = takes.unmet }

pub ruleset turns = (keeps_all, stayed, short, taken_at, taken_where)

-- The turns that read a file of an object, from their calls.
use Rattle.std.proofs.Common.{◌≡◌, ◌<◌, ◌≤◌, ℕ, ◌+◌, List, [], ◌∷◌, ◌++◌, refl, ap, ◌∙◌, inr, length, arith}
use Rattle.std.specs.Prelude.{Ok, Err, IsErrAnd}
use Rattle.std.specs.String.{string_bytes}
use Rattle.std.proofs.lemmas.Bool.{lt-ltb, le-ltb}
use Rattle.pt_state.proofs.Words.{
  digest_of,
  HasBeenFed,
  Algorithm,
  Path,
  advanced,
  trail_path,
  Answer,
  Skipped,
  Held,
  Kept,
  Did,
  FailsLater,
  GoesOn,
  FailsPartway,
  Scan,
  logical_path,
  to_site,
  Answers,
  Changes,
  Puts,
  Reads,
  Untouched,
  DeviceStates,
  asks,
  dest_tree,
  tells,
  Fault,
  Object,
  Turned,
  KeepsAll,
  counts_of,
  held_of,
  job_of,
  kept_of,
}
use Rattle.pt_state.proofs.Words.cause
use Rattle.pt_state.proofs.Words.fault
use Rattle.pt_state.proofs.Words.phase
use Rattle.pt_state.proofs.Words.stage
use Rattle.pt_state.specs.declared.state.State.{State}
use Rattle.pt_object.specs.Contents.{noted}
use Rattle.pt_object.specs.Rows.{row_of}
use Rattle.pt_plan.specs.TurnScan.{EndsFile, IsTooLong, ReadsOn, with_file}
use Rattle.pt_plan.specs.DeviceStates.{ChangesNothing}
use Rattle.pt_state.proofs.Together.{asked_tree}
use Rattle.pt_state.proofs.Turns.{left_some, short_asked, turned_on, went}
pub use Rattle.pt_state.proofs.Turns.{turned_read}
use Rattle.pt_scan.proofs.HeldTurns.{read_left, read_told}
use Rattle.pt_scan.specs.Scanning.{IsBackAtSite}

empty : (block : List ℕ) → length block ≡ 0 → block ≡ []
empty [] none = refl
empty (byte ∷ block) none = absurd (omega (arith, none))

-- ---- a block

pub read_on : (s s' : State) (a b : DeviceStates) (object : Object) (bytes more : ℕ) (block : List ℕ) → Did (asks (Reads block)) a b → 0 < length block
    → more ≡ bytes + length block → more ≤ s.job.limits.file_bytes
    → ((algorithm : Algorithm) (fed : List ℕ) → HasBeenFed algorithm s.hasher fed → HasBeenFed algorithm s'.hasher (fed ++ block)) → KeepsAll s s'
    → Turned (phase.Carrying object (stage.Read bytes)) s s' a b (Ok (phase.Carrying object (stage.Read more)))
read_on s s' a b object bytes more [] did some is short feeds keeps = absurd (omega (arith, some))
read_on s s' a b object bytes more (byte ∷ block) did some is short feeds keeps =
    rw is
    (went a b (λ fed. fed ++ byte ∷ block)
    (λ fed was. Scan (ReadsOn _ object bytes byte block (le-ltb s.job.limits.file_bytes (bytes + length (byte ∷ block)) (rw is at short))))
    did refl (feeds s.job.algorithm) keeps)

-- ---- a file that is too long

pub read_gave_up : (object : Object) (bytes : ℕ) (block : List ℕ) (s s' : State) (a b c : DeviceStates) → Did (asks (Reads block)) a b → 0 < length block
    → s.job.limits.file_bytes < bytes + length block
    → Did (tells (Skipped (trail_path (to_site object s.trail)) cause.Limit)) b c → IsBackAtSite object s s'
    → Turned (phase.Carrying object (stage.Read bytes)) s s' a c (Ok phase.Walk)
read_gave_up object bytes [] s s' a b c did some long told back = absurd (omega (arith, some))
read_gave_up object bytes (byte ∷ block) s s' a b c did some long told back =
    turned_on s s' a c
    (λ fed. Scan (IsTooLong _ object bytes byte block (lt-ltb s.job.limits.file_bytes (bytes + length (byte ∷ block)) long)))
    (read_told _ _ a b c did told) back.trail back.rows back.contents (ap counts_of back.counts) back.prefix back.hasher back.job

pub read_gave_front : (object : Object) (bytes : ℕ) (block : List ℕ) (s s' : State) (a b c : DeviceStates) (f : Fault) (result : Answer)
    → IsErrAnd result (λ h. h ≡ f) → Did (asks (Reads block)) a b → 0 < length block → s.job.limits.file_bytes < bytes + length block
    → FailsPartway (tells (Skipped (trail_path (to_site object s.trail)) cause.Limit)) f b c → KeepsAll s s'
    → Turned (phase.Carrying object (stage.Read bytes)) s s' a c result
read_gave_front object bytes [] s s' a b c f result is did some long front keeps = absurd (omega (arith, some))
read_gave_front object bytes (byte ∷ block) s s' a b c f result is did some long front keeps =
    left_some a c f result is
    (λ fed. Scan (IsTooLong _ object bytes byte block (lt-ltb s.job.limits.file_bytes (bytes + length (byte ∷ block)) long)))
    (read_left _ _ f a b c did front) keeps

-- ---- a file that was read to its end

-- the block that ended it is the empty one
pub ends_empty : (s s' : State) (a b : DeviceStates) (object : Object) (bytes : ℕ) (block : List ℕ) (result : Answer) → length block ≡ 0
    → ((before after : DeviceStates) → Did (asks (Reads [])) before after → Turned (phase.Carrying object (stage.Read bytes)) s s' before after result)
    → Did (asks (Reads block)) a b → Turned (phase.Carrying object (stage.Read bytes)) s s' a b result
ends_empty s s' a b object bytes block result none turn did = turn a b (rw (empty block none) at did)

pub noted_file : (s s' : State) (a b : DeviceStates) (object : Object) (bytes : ℕ) (path : Path) (digest : List ℕ) → Did (asks (Reads [])) a b
    → path ≡ logical_path object s.trail
    → ((algorithm : Algorithm) (fed : List ℕ) → HasBeenFed algorithm s.hasher fed → digest ≡ digest_of algorithm fed) → s'.trail ≡ advanced s.trail
    → s'.rows ≡ s.rows ++ row_of path digest bytes ∷ [] → s'.contents ≡ noted s.contents digest path → HasBeenFed s.job.algorithm s'.hasher []
    → s'.counts ≡ s.counts → string_bytes s'.prefix ≡ string_bytes s.prefix → s'.job ≡ s.job
    → Turned (phase.Carrying object (stage.Read bytes)) s s' a b (Ok (phase.Carrying object stage.Scan))
unfolding Turned
noted_file s s' a b object bytes path digest did there digests trail rows contents fresh counts prefix same = (
  same,
  λ fed was.
      let held = held_of s fed in
      let job = job_of s.job in
      let new : Held = with_file job object held bytes in
      let kept : Kept = record { prefix = string_bytes s.prefix; held = new; counts = counts_of s.counts } in
      let right = digests s.job.algorithm fed was in
      let rows_are : s'.rows ≡ new.rows = rows ∙ (λ i. s.rows ++ row_of (there i) (right i) bytes ∷ []) in
      let contents_are : s'.contents ≡ new.contents = contents ∙ (λ i. noted s.contents (right i) (there i)) in
      let kept_is : kept_of s' [] ≡ kept = λ i. record {
        prefix = prefix i;
        held = record
            { trail = trail i; rows = rows_are i; contents = contents_are i; fed = [] };
        counts = counts_of (counts i);
      } in (
        [],
        (
          fresh,
          rw kept_is
              (GoesOn (asks (Reads [])) (phase.Carrying object stage.Scan) (Scan (EndsFile held object bytes)) did refl),
        ),
      ),
)

-- a reading that was answered leaves no part of a change
none_read : (a b : DeviceStates) → Did (asks (Reads [])) a b → FailsPartway (asks (Reads [])) fault.Memory a b × Answers (Reads []) a.source b.source
unfolding Did FailsPartway Answers Changes Puts
none_read a b did = (
  (
    record {
      read = did.0.source.0;
      found = tt;
      source = asked_tree (Reads []) a.source b.source did.0.source;
      dest = Untouched ChangesNothing
          (ap dest_tree did.0.dest);
      log = did.0.log;
    },
    did.1,
    tt,
  ),
  did.0.source,
)

-- its row is held, and memory was short for its content
pub noted_part : (s s' : State) (a b : DeviceStates) (object : Object) (bytes : ℕ) (path : Path) (digest : List ℕ) (result : Answer)
    → IsErrAnd result (λ h. h ≡ fault.Memory) → Did (asks (Reads [])) a b → path ≡ logical_path object s.trail
    → ((algorithm : Algorithm) (fed : List ℕ) → HasBeenFed algorithm s.hasher fed → digest ≡ digest_of algorithm fed) → s'.trail ≡ s.trail
    → s'.rows ≡ s.rows ++ row_of path digest bytes ∷ [] → s'.contents ≡ s.contents
    → s'.counts ≡ s.counts → string_bytes s'.prefix ≡ string_bytes s.prefix → s'.job ≡ s.job → Turned (phase.Carrying object (stage.Read bytes)) s s' a b result
unfolding Turned
noted_part s s' a b object bytes path digest (Ok next) is did there digests trail rows contents counts prefix same = absurd is
noted_part s s' a b object bytes path digest (Err f) is did there digests trail rows contents counts prefix same = (
  same,
  λ fed was.
      let held = held_of s fed in
      let job = job_of s.job in
      let new : Held = with_file job object held bytes in
      let right = digests s.job.algorithm fed was in
      let rows_are : s'.rows ≡ new.rows = rows ∙ (λ i. s.rows ++ row_of (there i) (right i) bytes ∷ []) in
      let read = none_read a b did in (
        fed,
        (
          tt,
          rw is
              (FailsLater (string_bytes s.prefix) new (asks (Reads [])) (Ok (phase.Carrying object stage.Scan)) new.rows fault.Memory
              (Scan (EndsFile held object bytes))
              read.0 (inr (refl, read.1))
              (record { prefix = prefix; trail = trail; rows_are = rows_are; contents = contents; counts = ap counts_of counts })),
        ),
      ),
)

pub ruleset reading = (short_asked, read_on, read_gave_up, read_gave_front, ends_empty, noted_file, noted_part)

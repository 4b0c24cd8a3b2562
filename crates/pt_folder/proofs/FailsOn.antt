-- Whether reading the open file on fails, by the laws of its system.
use Rattle.std.proofs.Common.{◌≡◌, ◌∙◌, ◌<◌, ◌+◌, ◌-◌, ◌==◌, ℕ, Bool, List, [], ◌∷◌, true, false, not, refl, sym, ap, subst, inl, inr, arith, length}
use Rattle.std.specs.List.{FoldsTo}
use Rattle.std.specs.Option.{option_map}
use Rattle.std.specs.Prelude.{◌⊎◌, ◌&&◌, ◌^◌, IsSome, MatchBool, None, Option, Result, Ok, Err, Some, drop}
use Rattle.std.specs.declared.io.Error.{Error}
use Rattle.pt_tree.specs.Failing.{ReadsAs, ReadsWith}
use Rattle.pt_tree.specs.Forest.{Forest}
use Rattle.pt_tree.specs.Path.{Path}
use Rattle.pt_tree.specs.Source.{CanRead}
use Rattle.pt_tree.specs.declared.faults.TreeFault.{TreeFault}
use Rattle.pt_tree.specs.declared.faults.TreeFault.TheVariants.{Device, Memory}
use Rattle.pt_folder.specs.Calls.{fault_of}
use Rattle.pt_folder.specs.FailingLaws.{FailingBelow, FailsToldLaw, FileFails, FileFailsLaw}
use Rattle.pt_folder.specs.Reading.{FailsAtRead, FailsToGoBack, FailsToReadOn, GoesFirst, IsTooFar, ReadsBy, ReadsNext, Stands}
use Rattle.pt_folder.specs.Reading.{StandsOpen, unread_of, unread_open}
use Rattle.pt_folder.specs.Runs.{ReadsBlock, ReadsMore}
use Rattle.pt_folder.specs.SourceHeld.{failing_of, fails_on, told_of}
use Rattle.pt_folder.specs.declared.reading.FileInReading.{FileInReading}
use Rattle.pt_folder.proofs.FailsTold.{of_paths, still_told}
use Rattle.pt_folder.proofs.SourceTold.{told_at}

and_false : (b : Bool) → (b && false) ≡ false
and_false true = refl
and_false false = refl

module _ {F : Type 0} (fails : F → Bool) (bytes left : F → Option (List ℕ)) (reads : F → List ℕ → Result ℕ Error → F → Type 0)
    (goes : F → ℕ → Result ℕ Error → F → Type 0) (law : FileFails fails bytes reads goes) where
  -- pieces that are read change nothing of it
  more_still : (room : ℕ) (a : F × List ℕ) (pieces : List (List ℕ)) (b : F × List ℕ) → FoldsTo (ReadsMore reads room) a pieces b → fails b.0 ≡ fails a.0
  more_still room a [] b same = ap (λ x. fails x.0) (sym same)
  more_still room a (piece ∷ pieces) b (mid, step, rest) =
      more_still room mid pieces b rest ∙ (law.read a.0 mid.0 step.0.buffer (Ok (length piece)) step.0.read).0

  -- a block is full, or its file doesn't fail
  block_still : (old new : F) (block : List ℕ) → ReadsBlock reads 8192 old block new
      → (fails new ≡ fails old) × ((length block ≡ 8192) ⊎ (fails old ≡ false))
  block_still old new block read = by read.ends
    where
      so_far : fails read.last ≡ fails old
      so_far = more_still 8192 (old, []) read.pieces (read.last, block) read.read

      by : ((length block ≡ 8192) × (new ≡ read.last))
          ⊎ ((length block < 8192) × ((buffer : List ℕ) × (length buffer ≡ 8192 - length block) × reads read.last buffer (Ok 0) new))
          → (fails new ≡ fails old) × ((length block ≡ 8192) ⊎ (fails old ≡ false))
      by (inl (full, same)) = (ap fails same ∙ so_far, inl full)
      by (inr (short, (buffer, room, last))) =
          let step = law.read read.last new buffer (Ok 0) last in
          (step.0 ∙ so_far, inr (sym so_far ∙ step.1 refl (omega (arith, room, short))))

  -- nor does going to its place first
  first_still : (open_file : FileInReading F) (mid : F) → GoesFirst goes open_file mid → fails mid ≡ fails open_file.file
  first_still open_file mid gone = by open_file.lost gone
    where
      by : (lost : Bool) → MatchBool lost ((at : ℕ) × goes open_file.file open_file.place (Ok at) mid) (mid ≡ open_file.file)
          → fails mid ≡ fails open_file.file
      by true (at, gone) = (law.gone open_file.file mid open_file.place (Ok at) gone).0
      by false same = ap fails same

  -- after a block reading on fails as before, and where that isn't full it doesn't
  next_on : (old new : FileInReading F) (block : List ℕ) → ReadsNext reads goes old new block
      → (fails_on (Some fails) (Some new) ≡ fails_on (Some fails) (Some old))
      × (length block < 8192 → fails_on (Some fails) (Some old) ≡ false)
  next_on old new block next = by old.ended refl next
    where
      by : (ended : Bool) → old.ended ≡ ended → MatchBool ended ((block ≡ []) × (new ≡ old))
          ((mid : F) × GoesFirst goes old mid × ReadsBlock reads 8192 mid block new.file
          × (new.place ≡ old.place + length block) × (new.ended ≡ not (length block == 8192)) × (new.lost ≡ false))
          → (fails_on (Some fails) (Some new) ≡ fails_on (Some fails) (Some old))
          × (length block < 8192 → fails_on (Some fails) (Some old) ≡ false)
      by true is (none, same) = (ap (λ r. fails_on (Some fails) (Some r)) same, λ short. ap (λ b. not b && fails old.file) is)
      by false is (mid, first, read, place, ends, there) = answer (block_still mid new.file block read)
        where
          from : fails mid ≡ fails old.file
          from = first_still old mid first

          answer : (fails new.file ≡ fails mid) × ((length block ≡ 8192) ⊎ (fails mid ≡ false))
              → (fails_on (Some fails) (Some new) ≡ fails_on (Some fails) (Some old))
              × (length block < 8192 → fails_on (Some fails) (Some old) ≡ false)
          answer (same, inl full) = (
            (λ i. not ((ends ∙ ap (λ n. not (n == 8192)) full) i) && (same ∙ from) i) ∙ sym (ap (λ b. not b && fails old.file) is),
            λ short. absurd (omega (arith, full, short)),
          )
          answer (same, inr well) =
              let never : fails_on (Some fails) (Some old) ≡ false = ap (λ b. not old.ended && b) (sym from ∙ well) ∙ and_false (not old.ended) in
              (ap (λ b. not new.ended && b) (same ∙ well) ∙ and_false (not new.ended) ∙ sym never, λ short. never)

  -- after a failure too, and where the device failed it does
  stops_on : (old new : FileInReading F) (e : Error) → Stands bytes left old → IsSome (unread_of bytes old) → FailsToReadOn reads goes old e new
      → (fails_on (Some fails) (Some new) ≡ fails_on (Some fails) (Some old)) × (fault_of e ≡ Device → fails_on (Some fails) (Some old) ≡ true)
  stops_on old new e stands known why = both (by why.failed)
    where
      both : (fails new.file ≡ fails old.file) × (fault_of e ≡ Device → fails old.file ≡ true)
          → (fails_on (Some fails) (Some new) ≡ fails_on (Some fails) (Some old)) × (fault_of e ≡ Device → fails_on (Some fails) (Some old) ≡ true)
      both (same, fault) = (
        λ i. not ((why.ended ∙ sym why.before) i) && same i,
        λ device. ap (λ b. not b && fails old.file) why.before ∙ fault device,
      )

      -- no place in a file that doesn't fail is so far
      near : (b : Bool) → fails old.file ≡ b → (2 ^ 64 - 1 - 8192 < old.place) → b ≡ true
      near true is far = refl
      near false is far = absurd (bounded (bytes old.file) refl known)
        where
          bounded : (o : Option (List ℕ)) → bytes old.file ≡ o → IsSome (option_map (drop old.place) o) → ⊥
          bounded None at some = absurd (cc)
          bounded (Some xs) at some = omega (arith, far, stands.within xs at, law.short old.file is xs at)

      by : IsTooFar old e new ⊎ (FailsToGoBack goes old e new ⊎ FailsAtRead reads goes old e new)
          → (fails new.file ≡ fails old.file) × (fault_of e ≡ Device → fails old.file ≡ true)
      by (inl (far, large, same)) = (ap (λ r. fails r.file) same, λ device. near (fails old.file) refl far)
      by (inr (inl (lost, gone, still_lost))) = law.gone old.file new.file old.place (Err e) gone
      by (inr (inr (mid, first, read, lost))) =
          let step = law.read read.last new.file read.failed.0 (Err e) read.failed.2 in
          let from = more_still 8192 (mid, []) read.pieces (read.last, read.block) read.read ∙ first_still old mid first in
          (step.0 ∙ from, λ device. sym from ∙ step.1 device)

module _ {S F : Type 0} (forest : S → List ℕ → Option Forest) (failing : FailingBelow S) (fails : Option (F → Bool)) (told : FailsToldLaw forest failing fails)
    (bytes left : F → Option (List ℕ)) (reads : F → List ℕ → Result ℕ Error → F → Type 0) (goes : F → ℕ → Result ℕ Error → F → Type 0)
    (law : FileFailsLaw fails bytes reads goes) (s : S) (folder : List ℕ) where
  pub reads_as : (now : Option (Path → Bool)) (w v : Option (FileInReading F)) (block : List ℕ) (result : Result (Unit {0}) TreeFault)
      → now ≡ failing s folder → CanRead (told_of (forest s folder) (unread_open bytes w)) → StandsOpen bytes left w
      → ReadsBy reads goes w v block result
      → ReadsAs (failing_of fails (failing s folder) w) (failing_of fails now v) block result
  unfolding ReadsAs CanRead
  reads_as now w v block result same can stands read = of_paths fails w (failing s folder)
      (λ f. (failing_of fails now v ≡ Some f) × ReadsWith f block result)
      (λ at is. let beside = told s folder (subst (λ (o : Option (Path → Bool)). IsSome o) (sym is) refl) in
      by at (same ∙ is) fails refl beside.1 (forest s folder) refl beside.0 w v result can stands read)
    where
      answer : (at : Path → Bool) → now ≡ Some at → (old next : FileInReading F) (result : Result (Unit {0}) TreeFault)
          → (fails_on fails (Some next) ≡ fails_on fails (Some old)) × ReadsWith (record { at = at; reading = fails_on fails (Some old) }) block result
          → (failing_of fails now (Some next) ≡ Some (record { at = at; reading = fails_on fails (Some old) }))
          × ReadsWith (record { at = at; reading = fails_on fails (Some old) }) block result
      answer at is old next result (stays, so) = (still_told fails (Some old) (Some next) (Some at) now is stays, so)

      by : (at : Path → Bool) → now ≡ Some at → (told : Option (F → Bool)) → fails ≡ told → IsSome told → (o : Option Forest)
          → forest s folder ≡ o → IsSome o → (w v : Option (FileInReading F)) (result : Result (Unit {0}) TreeFault)
          → CanRead (told_of (forest s folder) (unread_open bytes w)) → StandsOpen bytes left w → ReadsBy reads goes w v block result
          → (failing_of fails now v ≡ Some (record { at = at; reading = fails_on fails w }))
          × ReadsWith (record { at = at; reading = fails_on fails w }) block result
      by at is None tells some o known there w v result can stands read = absurd (cc)
      by at is (Some f) tells some None known there w v result can stands read = absurd (cc)
      by at is (Some f) tells some (Some tree) known there None v result can stands read =
          let none = can (told_at None tree) (ap (λ (o : Option Forest). told_of o None) known) in absurd (cc)
      by at is (Some f) tells some (Some tree) known there (Some old) None (Ok done) can stands read = absurd read
      by at is (Some f) tells some (Some tree) known there (Some old) None (Err fault) can stands read = absurd read
      by at is (Some f) tells some (Some tree) known there (Some old) (Some next) (Ok done) can stands read =
          answer at is old next (Ok done)
          (subst (λ o. (fails_on o (Some next) ≡ fails_on o (Some old)) × (length block < 8192 → fails_on o (Some old) ≡ false)) (sym tells)
          (next_on f bytes left reads goes (law f tells) old next block read))
      by at is (Some f) tells some (Some tree) known there (Some old) (Some next) (Err fault) can stands (e, why, fault_is) =
          answer at is old next (Err fault)
          (so fault fault_is (subst (λ o. (fails_on o (Some next) ≡ fails_on o (Some old)) × (fault_of e ≡ Device → fails_on o (Some old) ≡ true)) (sym tells)
          (stops_on f bytes left reads goes (law f tells) old next e (stands old refl) unread why)))
        where
          unread : IsSome (unread_of bytes old)
          unread = can (told_at (unread_of bytes old) tree) (ap (λ (o : Option Forest). told_of o (unread_of bytes old)) known)

          so : (fault : TreeFault) → fault ≡ fault_of e → (fails_on fails (Some next) ≡ fails_on fails (Some old))
              × (fault_of e ≡ Device → fails_on fails (Some old) ≡ true)
              → (fails_on fails (Some next) ≡ fails_on fails (Some old))
              × ReadsWith {T = Unit {0}} (record { at = at; reading = fails_on fails (Some old) }) block (Err fault)
          so Device is_fault (stays, failed) = (stays, failed (sym is_fault))
          so Memory is_fault (stays, failed) = (stays, tt)

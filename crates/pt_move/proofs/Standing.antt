-- What a turn needs of what is held, from what holds of a run in progress whatever its devices tell; and that a turn keeps it.
use Rattle.std.proofs.Common.{◌≡◌, ◌≢◌, ◌<◌, ◌≤◌, ℕ, List, refl, length, arith, true, false}
use Rattle.std.specs.Prelude.{Option, None, Some, IsSome, slice_get}
use Rattle.std.specs.Option.{option_map_or}
use Rattle.std.proofs.lemmas.Option.{slice_get_within}
use Rattle.pt_state.proofs.Words.{Content, same_path, Position, HasBeenFed, Item, Frame, Held, Object, Part, Phase, held_of, job_of}
use Rattle.pt_state.proofs.Words.part
use Rattle.pt_state.proofs.Words.opening
use Rattle.pt_state.proofs.Words.phase
use Rattle.pt_state.proofs.Words.stage
use Rattle.pt_state.specs.declared.state.State.{State}
use Rattle.pt_invariant.proofs.held.DigestsTell.{digest_tells}
use Rattle.pt_invariant.specs.HeldInvariant.{HeldAt}
use Rattle.pt_invariant.specs.History.{History}
use Rattle.pt_invariant.specs.PartsMade.{IsAtStoredRow}
use Rattle.pt_make.specs.Making.{DigestTells, HasContentsOfRows, HasFedInventory, IsReadyFor}
use Rattle.pt_scan.specs.Scanning.{IsSite}
use Rattle.pt_move.specs.Stands.{Stands}

-- ---- what the code needs

some_entry : {o : Option Item} {item : Item} → o ≡ Some item → IsSome o
some_entry is = rw is refl

as_site : (object : Object) (trail : List Frame) → 0 < object.site → length trail ≡ object.site → IsSite object trail
unfolding IsSite
as_site object trail some long = (some, omega (arith, long))

in_object : (object : Object) (trail : List Frame) → 0 < object.site → object.site ≤ length trail → IsSite object trail
unfolding IsSite
in_object object trail some within = (some, within)

ready : (here : Part) {object : Object} (s : State) {fed : List ℕ} {past : History} → HasBeenFed s.job.algorithm s.hasher fed
    → HeldAt (job_of s.job) past (phase.Carrying object (stage.Make here)) (held_of s fed) → IsReadyFor here object s
unfolding HasContentsOfRows HasFedInventory DigestTells
ready part.Staging s was held = tt
ready part.Declaration s was held = tt
ready part.Version s was held = tt
ready (part.Content position) s was held = record {
  row = held.numbers.within;
  tells = λ row is. digest_tells s.rows s.contents position.row position.stored row held.rows.contents held.numbers.stored held.rows.order is;
}
ready part.VersionInventory s was held = held.rows.contents
ready part.VersionSidecar s was held = rw held.fed at was
ready part.Inventory s was held = (held.rows.contents, rw held.fed at was)
ready part.Sidecar s was held = rw held.fed at was

-- the row there is stored, so there is a content of that number
stored_there : {held : Held} {position : Position} → IsAtStoredRow held position → position.stored < length held.contents
stored_there {held} {position} at = by (slice_get held.contents position.stored) refl at.next
  where
    by : (o : Option Content) → slice_get held.contents position.stored ≡ o → option_map_or (λ (content : Content). same_path content.path at.row.path) o false
        ≡ true → position.stored < length held.contents
    by None is absent = absurd (cc)
    by (Some content) is there = slice_get_within held.contents position.stored content is

pub stands : (here : Phase) (s : State) {fed : List ℕ} {past : History} → here ≢ phase.Ended → HasBeenFed s.job.algorithm s.hasher fed
    → HeldAt (job_of s.job) past here (held_of s fed) → Stands here s
stands (phase.Opening (opening.RootMake item)) s going was held = held.numbers
stands (phase.Opening (opening.RootCheck file)) s going was held = held.numbers
stands (phase.Opening opening.OpenRoot) s going was held = held.trail.none
stands (phase.Carrying object stage.Open) s going was held = (as_site object s.trail held.ends.0.some held.ends.1, held.trail.entry)
stands (phase.Carrying object stage.Scan) s going was held = (in_object object s.trail held.ends.0.some held.ends.1.within, held.ends.1.own)
stands (phase.Carrying object (stage.Read bytes)) s going was held = (
  in_object object s.trail held.ends.0.some held.ends.1.within,
  held.ends.1.own,
  some_entry
      {o = _} {item = held.trail.entry.0} held.trail.entry.1,
)
stands (phase.Carrying object (stage.Make here)) s {fed} {past} going was held = ready here {object = object} s {fed = fed} {past = past} was held
stands (phase.Carrying object (stage.Copy position left)) s {fed} going was
    held = (held.numbers.at.within, stored_there {held = held_of s fed} {position = position} held.numbers)
stands (phase.Carrying object (stage.Tuples number)) s going was held = held.numbers
stands (phase.Carrying object stage.Line) s going was held = let some = held.ends.0.some in let long = held.ends.1 in omega (arith, some, long)
stands phase.Ended s going was held = absurd (going refl)
stands _ _ _ _ _ = tt

-- The turns that make an object keep where the run stands, where the source tells.
use Rattle.std.proofs.Common.{◌≡◌, ◌-◌, ℕ, ◌+◌, true, false, List, [], ◌∷◌, ◌++◌, refl, ap, sym, ◌∙◌, arith, length, take}
use Rattle.std.specs.Prelude.{Some, Ok, nat_lt, slice_get}
use Rattle.std.specs.Option.{ForSome, option_map}
use Rattle.std.proofs.lemmas.Bool.{ltb-false}
use Rattle.pt_object.specs.declared.rows.Row.{Row}
use Rattle.pt_tree.specs.Forest.{file_at, is_proper}
use Rattle.pt_tree.specs.Source.{Reading, IsRead, after_next}
use Rattle.pt_walk.specs.Left.{bytes_at}
use Rattle.pt_plan.specs.Job.{Job}
use Rattle.pt_plan.specs.Run.{Held, with_fed}
use Rattle.pt_plan.specs.Store.{pairtree_of, pairtree_root}
use Rattle.pt_plan.specs.TurnMake.{
  MakeStep,
  OpensCopy,
  CopiesOn,
  EndsCopy,
  MakesVersionInventory,
  MakesVersionSidecar,
  MakesInventory,
  MakesSidecar,
  path_of_source,
}
use Rattle.pt_plan.specs.TurnScan.{to_site}
use Rattle.pt_plan.specs.DeviceStates.{Answers, Calls}
use Rattle.pt_plan.specs.declared.object.Object.{Object}
use Rattle.pt_plan.specs.declared.phase.Part.TheVariants as part
use Rattle.pt_plan.specs.declared.phase.Phase.{Phase}
use Rattle.pt_plan.specs.declared.phase.Phase.TheVariants as phase
use Rattle.pt_plan.specs.declared.phase.Stage.TheVariants as stage
use Rattle.pt_plan.specs.declared.phase.Position.{Position}
use Rattle.pt_invariant.specs.SourceInvariant.{HasStarted, IsCopyingFile, IsScanned, SourceAt}
use Rattle.pt_invariant.specs.History.{done_after}
use Rattle.pt_invariant.proofs.held.EitherPhase.{after_sidecar}
use Rattle.pt_invariant.proofs.source.InObject.{site_itself}
use Rattle.pt_invariant.proofs.source.InPairtree.{file_in_pairtree, pairtree_proper, stays}
use Rattle.pt_invariant.proofs.source.ReadsOn.{reads_block, reads_first}
use Rattle.pt_invariant.proofs.source.ScannedFiles.{RowFile, row_file}

-- the object of a turn was scanned
abbrev Scanned : Job → List ℕ → Object → ℕ → Held → Reading → Type 0
Scanned job prefix object count held s = HasStarted s.tree prefix × IsScanned job s.tree prefix object held count

-- a file of the object, all of which was scanned, is copied
abbrev Copies : Job → List ℕ → Object → ℕ → Position → ℕ → Held → Reading → Type 0
Copies job prefix object count position left held s =
    HasStarted s.tree prefix × IsScanned job s.tree prefix object held count × IsCopyingFile s.tree object held position s.unread left

module _ (job : Job) (s : Reading) (prefix : List ℕ) (object : Object) (held : Held) (count : ℕ) where
  -- what the hasher was fed has no part in it
  pub fed_scanned : (fed : List ℕ) → Scanned job prefix object count held s → Scanned job prefix object count (with_fed held fed) s
  fed_scanned fed it = (it.0, record { stands = it.1.stands; at_site = it.1.at_site; scanned = it.1.scanned })

  -- the file of the row at a position stands in the source
  pub file_of_row : (n : ℕ) (row : Row) → is_proper s.tree ≡ true → slice_get held.rows n ≡ Some row → Scanned job prefix object count held s
      → RowFile job (pairtree_of s.tree) (path_of_source object held.trail) row
  file_of_row n row proper is it =
      rw (site_itself object _ it.1.at_site) at
      (row_file job s.tree object (to_site object held.trail) [] n row (pairtree_proper s.tree it.0.store proper) it.1.scanned is)

  opens_copy : (position : Position) (row : Row) → is_proper s.tree ≡ true → slice_get held.rows position.row ≡ Some row
      → Scanned job prefix object count held s
      → IsCopyingFile s.tree object (with_fed held []) position (file_at s.tree (pairtree_root ∷ (path_of_source object held.trail ++ row.path))) row.length
  opens_copy position row proper is it =
      let file = file_of_row position.row row proper is it in
      let path = path_of_source object held.trail ++ row.path in
      let there = file_at s.tree (pairtree_root ∷ path) in
      let bytes = bytes_at (pairtree_of s.tree) path in
      let none_read : row.length - row.length ≡ 0 = omega arith in
      let opened : there ≡ Some bytes = file_in_pairtree s.tree path it.0.store ∙ file.stands ∙ ap (λ (b : List ℕ). Some b) (sym file.here) in
      record {
        row = row;
        is_row = is;
        within = omega arith;
        read = rw none_read (reads_first opened);
      }

  copies_on : (position : Position) (left : ℕ) (block : List ℕ) → nat_lt left (length block) ≡ false
      → ForSome (Some s) (λ (r : Reading). option_map (take 8192) r.unread ≡ Some block) → IsCopyingFile s.tree object held position s.unread left
      → IsCopyingFile s.tree object (with_fed held (held.fed ++ block)) position (after_next s).unread (left - length block)
  copies_on position left block fits read it =
      let few = ltb-false left (length block) fits in
      let within = it.within in
      let bytes = bytes_at (pairtree_of s.tree) (path_of_source object held.trail ++ it.row.path) in
      let more : it.row.length - left + length block ≡ it.row.length - (left - length block) = omega (arith, few, within) in
      record {
        row = it.row;
        is_row = it.is_row;
        within = omega (arith, within);
        read = rw more at (reads_block 8192 bytes _ held.fed block s.unread it.read (read s refl));
      }

fed_stays : (job : Job) {s new : Reading} (prefix : List ℕ) (object : Object) (held : Held) (count : ℕ) {fed : List ℕ} → Some new ≡ Some s
    → Scanned job prefix object count held s → Scanned job prefix object count (with_fed held fed) new
fed_stays job {s} prefix object held count {fed} same it = stays (Scanned job prefix object count (with_fed held fed)) same
    (fed_scanned job s prefix object held count fed it)

pub makes_keep : (job : Job) (s new : Reading) (prefix : List ℕ) (count : ℕ) {here : Phase} {held after : Held} {calls : Calls} {next : Phase}
    → is_proper s.tree ≡ true → MakeStep job here held after calls (Ok next)
    → SourceAt job s prefix count here held → Answers calls.asked (Some s) (Some new)
    → SourceAt job new prefix (done_after here held.trail next count) next after
unfolding Answers IsRead
makes_keep job s new prefix count proper (OpensCopy was object position row is stored all) at answers =
    stays (Copies job prefix object count position row.length (with_fed was [])) answers
    (let it = fed_scanned job s prefix object was count [] at in (it.0, it.1, opens_copy job s prefix object was count position row proper is at))
makes_keep job s new prefix count proper (CopiesOn was object position left byte block fits) at answers =
    let fed = was.fed ++ byte ∷ block in
    stays (Copies job prefix object count position (left - length (byte ∷ block)) (with_fed was fed)) answers.1
    (let it = fed_scanned job s prefix object was count fed (at.0, at.1) in (
      it.0,
      it.1,
      copies_on job s prefix object was count position left (byte ∷ block)
          fits answers.0 at.2,
    ))
makes_keep job s new prefix count proper (EndsCopy was object position row left is same) at answers =
    stays (Scanned job prefix object count (with_fed was [])) answers.1 (fed_scanned job s prefix object was count [] (at.0, at.1))
makes_keep job s new prefix count proper (MakesVersionInventory was object) at answers = fed_stays job prefix object was count answers at
makes_keep job s new prefix count proper (MakesVersionSidecar was object) at answers = fed_stays job prefix object was count answers at
makes_keep job s new prefix count proper (MakesInventory was object) at answers = fed_stays job prefix object was count answers at
makes_keep job s new prefix count proper (MakesSidecar was object) at answers =
    let next = λ (p : Phase). SourceAt job new prefix (done_after (phase.Carrying object (stage.Make part.Sidecar)) was.trail p count) p (with_fed was []) in
    let it = fed_stays job prefix object was count answers at in
    after_sidecar next job object (λ flat. it) (λ some. it)
makes_keep job s new prefix count {after} {next} proper turn at answers = stays (λ r. SourceAt job r prefix count next after) answers at

-- The trail in an object, step by step, and what of the object is left to scan.
use Rattle.std.proofs.Common.{
  ◌≡◌,
  ◌<◌,
  ◌≤◌,
  ◌-◌,
  ℕ,
  suc,
  ◌+◌,
  ◌==◌,
  ◌&&◌,
  Bool,
  true,
  false,
  List,
  [],
  ◌∷◌,
  ◌++◌,
  refl,
  ap,
  sym,
  ◌∙◌,
  subst,
  cond,
  length,
  arith,
}
use Rattle.std.specs.Prelude.{None, Some}
use Rattle.std.proofs.lemmas.Bool.{and_parts, eqb-false, eqb-true}
use Rattle.pt_tree.specs.Forest.{Forest, File, Dir, is_proper, listing_at, listing_of}
use Rattle.pt_tree.specs.Listing.{Item}
use Rattle.pt_tree.specs.Path.{Path}
use Rattle.pt_tree.specs.declared.kind.Kind.TheVariants as kind
use Rattle.pt_walk.proofs.ObjectSteps as step
use Rattle.pt_walk.proofs.TrailSteps.{fits_entered, fits_moved, path_grows}
use Rattle.pt_walk.specs.Left.{Fits, bytes_at, entries_left, inside_at}
use Rattle.pt_walk.specs.Site.{is_shorty}
use Rattle.pt_walk.specs.Trail.{advanced, current_entry, entered, entry_at, names_to, parent, sought}
use Rattle.pt_walk.specs.declared.frame.Frame.{Frame}
use Rattle.pt_invariant.specs.SourceInvariant.{IsInObject, IsSiteOf, left_of, object_at}
use Rattle.pt_plan.specs.Job.{Job}
use Rattle.pt_plan.specs.Store.{pairtree_of}
use Rattle.pt_plan.specs.TurnScan.{is_passed, logical_path, own_listings, to_site}
use Rattle.pt_plan.specs.declared.object.Object.{Object}
use Rattle.pt_invariant.proofs.source.InObject.{
  is_gathered,
  logical_is,
  object_moved,
  own_at_site,
  own_entered,
  own_parent,
  passed_not,
  site_advanced,
  site_entered,
  site_itself,
  site_moved,
  site_parent,
  still_in,
}

-- ---- the object stays the same

-- the trail moved, and the object is under way as before
pub record Moved (job : Job) (source : Forest) (prefix : List ℕ) (object : Object) (old new : List Frame) (count : ℕ) : Type 0 where
  pub stands : IsInObject job source prefix object new count
  pub same : object_at source object (to_site object old) ≡ object_at source object (to_site object new)

pub moved_twice : {job : Job} {source : Forest} {prefix : List ℕ} {object : Object} (a b d : List Frame) {count : ℕ} → Moved job source prefix object a b count
    → Moved job source prefix object b d count → Moved job source prefix object a d count
moved_twice a b d first second = record { stands = second.stands; same = first.same ∙ second.same }

moved_by : {job : Job} {source : Forest} {prefix : List ℕ} {object : Object} {old new : List Frame} {count : ℕ} → object.site ≤ length new
    → Fits (pairtree_of source) new → to_site object new ≡ to_site object old
    → IsInObject job source prefix object old count → Moved job source prefix object old new count
moved_by {job} {source} {prefix} {object} {count} within fits same it =
    record { stands = still_in job source prefix object count within fits same it; same = ap (object_at source object) (sym same) }

pub moved_in : {job : Job} {source : Forest} {prefix : List ℕ} {object : Object} {items : List Item} {trail : List Frame} {count : ℕ}
    → listing_at (pairtree_of source) (names_to trail) ≡ Some items
    → IsInObject job source prefix object trail count → Moved job source prefix object trail (entered items trail) count
moved_in {source} {object} {items} {trail} listed it =
    let within = it.within in
    moved_by (omega (arith, within)) (fits_entered (pairtree_of source) trail items it.fits listed) (site_entered object items trail it.within) it

pub moved_out : {job : Job} {source : Forest} {prefix : List ℕ} {object : Object} (trail : List Frame) {count : ℕ} → object.site < length trail
    → IsInObject job source prefix object trail count → Moved job source prefix object trail (parent trail) count
moved_out [] inside it = absurd (omega (arith, inside))
moved_out {source} {object} (frame ∷ frames) inside it =
    moved_by (omega (arith, inside)) (fits_moved (pairtree_of source) (frame ∷ frames) 0 it.fits).2 (site_parent object (frame ∷ frames) inside) it

-- in the site of a gathered object
pub moved_at_site : (job : Job) (source : Forest) (prefix : List ℕ) (object : Object) (trail : List Frame) (place count : ℕ) → object.gathered ≡ true
    → length trail ≡ object.site
    → IsInObject job source prefix object trail count → Moved job source prefix object trail (sought place trail) count
moved_at_site job source prefix object [] place count gathered at_site it = absurd (let some = it.some in omega (arith, some, at_site))
moved_at_site job source prefix object (frame ∷ frames) place count gathered at_site it =
    let old = frame ∷ frames in
    let new = sought place (frame ∷ frames) in
    let here = site_itself object _ at_site in
    let there = site_itself object _ at_site in
    let was = subst (λ (t : List Frame). IsSiteOf job source prefix object t count) here it.site in
    record {
      stands = record {
        some = it.some;
        within = it.within;
        fits = (fits_moved (pairtree_of source) old place it.fits).0;
        site = subst (λ (t : List Frame). IsSiteOf job source prefix object t count) (sym there) (site_moved source object frame frames place gathered was);
        place = it.place;
      };
      same = ap (object_at source object) here ∙ object_moved source object frame frames place gathered ∙ ap (object_at source object) (sym there);
    }

pub below_site : (n m : ℕ) → (n == m) ≡ false → m ≤ n → m < n
below_site n m apart within = let other = eqb-false n m apart in omega (arith, other, within)

advances : (job : Job) (source : Forest) {prefix : List ℕ} (object : Object) (frame : Frame) (frames : List Frame) {count : ℕ} (at_site : Bool)
    → (length (frame ∷ frames) == object.site) ≡ at_site → 0 < own_listings object (frame ∷ frames)
    → IsInObject job source prefix object (frame ∷ frames) count → Moved job source prefix object (frame ∷ frames) (advanced (frame ∷ frames)) count
advances job source {prefix} object frame frames {count} true is inside it =
    let same = eqb-true (length (frame ∷ frames)) object.site is in
    moved_at_site job source prefix object _ (frame.place + 1) count (is_gathered object (frame ∷ frames) same inside) same it
advances job source object frame frames false is inside it =
    let below : object.site < length (frame ∷ frames) = below_site _ object.site is it.within in
    moved_by it.within (fits_moved (pairtree_of source) (frame ∷ frames) 0 it.fits).1 (site_advanced object (frame ∷ frames) below) it

module _ (job : Job) (source : Forest) (prefix : List ℕ) (object : Object) where
  pub moved_on : (trail : List Frame) (count : ℕ) → 0 < own_listings object trail
      → IsInObject job source prefix object trail count → Moved job source prefix object trail (advanced trail) count
  moved_on [] count inside it = absurd (let some = it.some in let within = it.within in omega (arith, some, within))
  moved_on (frame ∷ frames) count inside it = advances job source object frame frames _ refl inside it

  pub moved_behind : (trail : List Frame) (count : ℕ) → object.site < length trail → 0 < own_listings object (parent trail)
      → IsInObject job source prefix object trail count → Moved job source prefix object trail (advanced (parent trail)) count
  moved_behind trail count below inside it =
      let out = moved_out trail below it in
      moved_twice trail _ _ out (moved_on _ count inside out.stands)

-- ---- what is left

one_less : {n : ℕ} → 0 < n → n ≡ suc (n - 1)
one_less some = omega (arith, some)

module _ (source : Forest) (object : Object) where
  -- a shorty of the site is passed
  pub left_shorty : (trail : List Frame) (item : Item) → is_proper (pairtree_of source) ≡ true → Fits (pairtree_of source) trail
      → current_entry trail ≡ Some item → is_passed object trail item ≡ true → 0 < own_listings object trail
      → left_of source object trail ≡ left_of source object (advanced trail)
  left_shorty [] item proper fits e passed inside = absurd (cc)
  left_shorty (frame ∷ frames) item proper fits e passed inside =
      let top = pairtree_of source in
      let trail = frame ∷ frames in
      let tests = and_parts _ _ passed in
      let same = eqb-true (length trail) object.site tests.0 in
      let gathered = is_gathered object trail same inside in
      let own : own_listings object trail ≡ 1 = own_at_site object trail same ∙ ap (λ b. cond b 1 0) gathered in
      let shorty = ap (λ b. b && is_shorty item) gathered ∙ tests.1 in
      ap (λ (n : ℕ). entries_left object.gathered top n trail) own
      ∙ step.passes object.gathered top 0 frame frames item proper fits e shorty
      ∙ sym (ap (λ (n : ℕ). entries_left object.gathered top n (advanced trail)) own)

  -- a directory is entered
  pub left_directory : (frame : Frame) (frames : List Frame) (name : List ℕ) (items : List Item) (inside : Forest) → is_proper (pairtree_of source) ≡ true
      → Fits (pairtree_of source) (frame ∷ frames)
      → object.site ≤ length (frame ∷ frames) → 0 < own_listings object (frame ∷ frames) → entry_at frame ≡ Some (name, kind.Dir)
      → is_passed object (frame ∷ frames) (name, kind.Dir) ≡ false
      → inside ≡ inside_at (pairtree_of source) (names_to frames ++ name ∷ []) → listing_of inside ≡ items
      → left_of source object (frame ∷ frames) ≡ (logical_path object (frame ∷ frames), Dir inside) ∷ left_of source object (entered items (frame ∷ frames))
  left_directory frame frames name items inside proper fits within some e apart is items_are =
      let top = pairtree_of source in
      let trail = frame ∷ frames in
      let k = own_listings object trail - 1 in
      let own : own_listings object trail ≡ suc k = one_less some in
      let own' : own_listings object (entered items trail) ≡ suc (suc k) = own_entered object items trail within ∙ ap (λ (n : ℕ). suc n) own in
      ap (λ (n : ℕ). entries_left object.gathered top n trail) own
      ∙ step.enters object.gathered top k frame frames name inside proper fits e (passed_not object trail k (name, kind.Dir) within own apart) is
      ∙ ap (λ (p : Path). (p, Dir inside) ∷ entries_left object.gathered top (suc (suc k)) (entered (listing_of inside) trail))
      (logical_is object frame frames k _ e own)
      ∙ ap (λ (l : List Item). (logical_path object trail, Dir inside) ∷ entries_left object.gathered top (suc (suc k)) (entered l trail)) items_are
      ∙ ap (λ (n : ℕ). (logical_path object trail, Dir inside) ∷ entries_left object.gathered top n (entered items trail)) (sym own')

  -- a file is read
  pub left_file : (frame : Frame) (frames : List Frame) (name : List ℕ) → is_proper (pairtree_of source) ≡ true → Fits (pairtree_of source) (frame ∷ frames)
      → 0 < own_listings object (frame ∷ frames) → entry_at frame ≡ Some (name, kind.File)
      → left_of source object (frame ∷ frames) ≡ (logical_path object (frame ∷ frames), File (bytes_at (pairtree_of source) (names_to (frame ∷ frames))))
      ∷ left_of source object (advanced (frame ∷ frames))
  left_file frame frames name proper fits some e =
      let top = pairtree_of source in
      let trail = frame ∷ frames in
      let k = own_listings object trail - 1 in
      let own : own_listings object trail ≡ suc k = one_less some in
      let here : names_to trail ≡ names_to frames ++ name ∷ [] = path_grows frame frames (name, kind.File) e in
      ap (λ (n : ℕ). entries_left object.gathered top n trail) own
      ∙ step.reads object.gathered top k frame frames name proper fits e
      ∙ ap (λ (p : Path). (p, File (bytes_at top (names_to frames ++ name ∷ []))) ∷ entries_left object.gathered top (suc k) (advanced trail))
      (logical_is object frame frames k _ e own)
      ∙ ap (λ (p : Path). (logical_path object trail, File (bytes_at top p)) ∷ entries_left object.gathered top (suc k) (advanced trail)) (sym here)
      ∙ ap (λ (n : ℕ). (logical_path object trail, File (bytes_at top (names_to trail))) ∷ entries_left object.gathered top n (advanced trail)) (sym own)

  -- a directory is left
  pub left_behind : (trail : List Frame) → Fits (pairtree_of source) trail → current_entry trail ≡ None → 0 < object.site → object.site < length trail
      → 0 < own_listings object (parent trail)
      → left_of source object trail ≡ left_of source object (advanced (parent trail))
  left_behind [] fits e first below some = absurd (omega (arith, below))
  left_behind (frame ∷ []) fits e first below some = absurd (omega (arith, first, below))
  left_behind (frame ∷ outer ∷ frames) fits e first below some =
      let top = pairtree_of source in
      let k = own_listings object (outer ∷ frames) - 1 in
      let own : own_listings object (outer ∷ frames) ≡ suc k = one_less some in
      let whole : own_listings object (frame ∷ outer ∷ frames) ≡ suc (suc k) = own_parent object frame (outer ∷ frames) (omega (arith, below))
      ∙ ap (λ (n : ℕ). suc n) own in
      ap (λ (n : ℕ). entries_left object.gathered top n (frame ∷ outer ∷ frames)) whole
      ∙ step.leaves object.gathered top k frame outer frames fits e
      ∙ sym (ap (λ (n : ℕ). entries_left object.gathered top n (advanced (outer ∷ frames))) own)

  -- nothing is left at the end of the object's own listing
  pub left_none : (trail : List Frame) → Fits (pairtree_of source) trail → current_entry trail ≡ None → own_listings object trail ≡ 1
      → left_of source object trail ≡ []
  left_none [] fits e own = ap (λ (n : ℕ). entries_left object.gathered (pairtree_of source) n []) own
  left_none (frame ∷ frames) fits e own =
      ap (λ (n : ℕ). entries_left object.gathered (pairtree_of source) n (frame ∷ frames)) own
      ∙ step.ends object.gathered (pairtree_of source) frame frames fits e

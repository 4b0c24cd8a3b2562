-- The entries still to come of an object's listings are behind its rows, as the trail moves in the object.
use Rattle.std.proofs.Common.{◌≡◌, ◌+◌, ℕ, zero, suc, ◌&&◌, true, List, [], ◌∷◌, ◌++◌, refl, ap, ◌∙◌, arith, append_assoc, drop}
use Rattle.std.specs.List.{list_all}
use Rattle.std.specs.Prelude.{Option, None, Some, slice_get}
use Rattle.std.proofs.lemmas.Bool.{and_from, and_parts}
use Rattle.std.proofs.lemmas.List.Folds.{list_all-append}
use Rattle.pt_tree.specs.PathOrder.{parts_before}
use Rattle.pt_tree.proofs.Names.{before-trans}
use Rattle.pt_tree.specs.Listing.{Item, is_before, names_rise}
use Rattle.pt_tree.specs.Path.{Path}
use Rattle.pt_walk.proofs.TrailSteps.{path_grows}
use Rattle.pt_walk.specs.Trail.{advanced, are_outer, entered, entry_at, is_dir_entry, is_frame, is_trail, names_to}
use Rattle.pt_walk.specs.declared.frame.Frame.{Frame}
use Rattle.pt_invariant.specs.HeldInvariant.{all_behind, come_behind, outer_behind}
use Rattle.pt_invariant.proofs.dest.Ordering.{parts_at, parts_on}
use Rattle.pt_invariant.proofs.Tests.{all_drop_more, all_then, all_true, first_passes}

-- ---- no rows

none_before : (directory : Path) (items : List Item) → come_behind [] directory items ≡ true
none_before directory items = all_true (λ (item : Item). list_all (λ path. parts_before path (directory ++ item.0 ∷ [])) []) (λ item. refl) items

none_outer : (frames : List Frame) → outer_behind [] frames ≡ true
none_outer [] = refl
none_outer (frame ∷ frames) =
    and_from _ _ (none_before (names_to frames) (drop (frame.place + 1) frame.listing)) (none_outer frames)

pub behind_none : (frames : List Frame) → all_behind [] frames ≡ true
behind_none [] = refl
behind_none (frame ∷ frames) =
    and_from _ _ (none_before (names_to frames) (drop frame.place frame.listing)) (none_outer frames)

-- ---- the place moves on

module _ (earlier : List Path) where
  one_later : (directory : Path) (place : ℕ) (items : List Item) → come_behind earlier directory (drop place items) ≡ true
      → come_behind earlier directory (drop (place + 1) items) ≡ true
  one_later directory place items h =
      let test = λ (item : Item). list_all (λ path. parts_before path (directory ++ item.0 ∷ [])) earlier in
      let next : place + 1 ≡ suc place = omega arith in
      ap (λ n. come_behind earlier directory (drop n items)) next ∙ all_drop_more test place items h

  pub behind_advanced : (frames : List Frame) → all_behind earlier frames ≡ true → all_behind earlier (advanced frames) ≡ true
  behind_advanced [] h = h
  behind_advanced (frame ∷ frames) h =
      let parts = and_parts _ _ h in
      and_from _ _ (one_later (names_to frames) frame.place frame.listing parts.0) parts.1

  -- ---- a directory is entered

  -- what comes behind a directory comes behind each of its entries
  below_directory : (directory : Path) (items : List Item) → list_all (λ path. parts_before path directory) earlier ≡ true
      → come_behind earlier directory items ≡ true
  below_directory directory items h =
      all_true (λ (item : Item). list_all (λ path. parts_before path (directory ++ item.0 ∷ [])) earlier)
      (λ item. all_then (λ path. parts_before path directory) (λ path. parts_before path (directory ++ item.0 ∷ []))
      (λ path g. parts_on path directory (item.0 ∷ []) g) earlier h) items

  -- the entry at the place is behind the rows
  pub behind_here : (frame : Frame) (frames : List Frame) {item : Item} → entry_at frame ≡ Some item → all_behind earlier (frame ∷ frames) ≡ true
      → list_all (λ path. parts_before path (names_to (frame ∷ frames))) earlier ≡ true
  behind_here frame frames {item} e h =
      let test = λ (item : Item). list_all (λ path. parts_before path (names_to frames ++ item.0 ∷ [])) earlier in
      let parts = and_parts _ _ h in
      ap (λ (q : Path). list_all (λ path. parts_before path q) earlier) (path_grows frame frames item e)
      ∙ first_passes test frame.place frame.listing item e parts.0

  pub behind_entered : (frame : Frame) (frames : List Frame) {item : Item} (items : List Item) → entry_at frame ≡ Some item
      → all_behind earlier (frame ∷ frames) ≡ true → all_behind earlier (entered items (frame ∷ frames)) ≡ true
  behind_entered frame frames items e h =
      let parts = and_parts _ _ h in
      and_from _ _
      (below_directory _ items (behind_here frame frames e h))
      (and_from _ _ (one_later (names_to frames) frame.place frame.listing parts.0) parts.1)

  -- ---- and left

  pub behind_left : (frame : Frame) (frames : List Frame) → all_behind earlier (frame ∷ frames) ≡ true → all_behind earlier (advanced frames) ≡ true
  behind_left frame [] h = refl
  behind_left frame (outer ∷ frames) h = (and_parts _ _ h).1

-- ---- a row more

-- in names that rise those behind a place come behind its own
later_rise : (items : List Item) (place : ℕ) {item : Item} → names_rise items ≡ true → slice_get items place ≡ Some item
    → list_all (λ (other : Item). is_before item.0 other.0) (drop (suc place) items) ≡ true
later_rise [] place rise is = absurd (cc)
later_rise (x ∷ items) zero {item} rise is =
    let same : x ≡ item = cc in
    rw same at (all_follow x items rise)
  where
    all_follow : (x : Item) (items : List Item) → names_rise (x ∷ items) ≡ true → list_all (λ (other : Item). is_before x.0 other.0) items ≡ true
    all_follow x [] rise = refl
    all_follow x (y ∷ items) rise =
        let parts = and_parts _ _ rise in
        and_from _ _ parts.0
        (all_then (λ (other : Item). is_before y.0 other.0) (λ (other : Item). is_before x.0 other.0) (λ other h. before-trans x.0 y.0 other.0 parts.0 h) items
        (all_follow y items parts.1))
later_rise (x ∷ []) (suc place) rise is = absurd (cc)
later_rise (x ∷ y ∷ items) (suc place) rise is = later_rise (y ∷ items) place (and_parts _ _ rise).1 is

-- what stands at or below a place comes before the entries behind it
before_later : (frame : Frame) (frames : List Frame) {item : Item} (more : Path) → is_frame frame ≡ true → entry_at frame ≡ Some item
    → come_behind ((names_to frames ++ item.0 ∷ more) ∷ []) (names_to frames) (drop (frame.place + 1) frame.listing) ≡ true
before_later frame frames {item} more is e =
    let rise = (and_parts (names_rise frame.listing) _ is).0 in
    let next : frame.place + 1 ≡ suc frame.place = omega arith in
    ap (λ n. come_behind ((names_to frames ++ item.0 ∷ more) ∷ []) (names_to frames) (drop n frame.listing)) next
    ∙ all_then (λ (other : Item). is_before item.0 other.0) (λ (other : Item). parts_before (names_to frames ++ item.0 ∷ more) (names_to frames ++ other.0 ∷ [])
    && true)
    (λ other h. and_from _ _ (parts_at (names_to frames) item.0 other.0 more h) refl)
    (drop (suc frame.place) frame.listing) (later_rise frame.listing frame.place rise e)

dir_item : (o : Option Item) → is_dir_entry o ≡ true → (item : Item) × (o ≡ Some item)
dir_item None is = absurd (cc)
dir_item (Some item) is = (item, refl)

-- so it does in the listings around
before_outer : (frames : List Frame) {here : Path} (more : Path) → are_outer frames ≡ true → here ≡ names_to frames ++ more
    → outer_behind (here ∷ []) frames ≡ true
before_outer [] more outer is = refl
before_outer (frame ∷ frames) {here} more outer is =
    let first = and_parts _ _ outer in
    let second = and_parts _ _ first.1 in
    let entry = dir_item _ second.0 in
    let item = entry.0 in
    let here_is : here ≡ names_to frames ++ item.0 ∷ more = is ∙ ap (λ (p : Path). p ++ more) (path_grows frame frames item entry.1)
    ∙ append_assoc (names_to frames) (item.0 ∷ []) more in
    and_from _ _
    (ap (λ (p : Path). come_behind (p ∷ []) (names_to frames) (drop (frame.place + 1) frame.listing)) here_is ∙ before_later frame frames more first.0 entry.1)
    (before_outer frames (item.0 ∷ more) second.1 here_is)

both_come : (earlier : List Path) (path directory : Path) (items : List Item) → come_behind earlier directory items ≡ true
    → come_behind (path ∷ []) directory items ≡ true → come_behind (earlier ++ path ∷ []) directory items ≡ true
both_come earlier path directory [] h g = refl
both_come earlier path directory (item ∷ items) h g =
    let test = λ (p : Path). parts_before p (directory ++ item.0 ∷ []) in
    let first = and_parts _ _ h in
    let second = and_parts _ _ g in
    and_from _ _
    (list_all-append test earlier (path ∷ []) ∙ and_from _ _ first.0 second.0)
    (both_come earlier path directory items first.1 second.1)

both_outer : (earlier : List Path) (path : Path) (frames : List Frame) → outer_behind earlier frames ≡ true → outer_behind (path ∷ []) frames ≡ true
    → outer_behind (earlier ++ path ∷ []) frames ≡ true
both_outer earlier path [] h g = refl
both_outer earlier path (frame ∷ frames) h g =
    let items = drop (frame.place + 1) frame.listing in
    let first = and_parts _ _ h in
    let second = and_parts _ _ g in
    and_from _ _
    (both_come earlier path (names_to frames) items first.0 second.0) (both_outer earlier path frames first.1 second.1)

-- the file at the place is the last row, and the place moves on
pub behind_noted : (earlier : List Path) (frame : Frame) (frames : List Frame) (item : Item) → is_trail (frame ∷ frames) ≡ true → entry_at frame ≡ Some item
    → all_behind earlier (frame ∷ frames) ≡ true
    → all_behind (earlier ++ names_to (frame ∷ frames) ∷ []) (advanced (frame ∷ frames)) ≡ true
behind_noted earlier frame frames item is_one e h =
    let one = and_parts _ _ is_one in
    let here : names_to (frame ∷ frames) ≡ names_to frames ++ item.0 ∷ [] = path_grows frame frames item e in
    let items = drop (frame.place + 1) frame.listing in
    let parts = and_parts _ _ h in
    rw here
    (and_from _ _
    (both_come earlier _ (names_to frames) items (one_later earlier (names_to frames) frame.place frame.listing parts.0) (before_later frame frames [] one.0 e))
    (both_outer earlier _ frames parts.1 (before_outer frames (item.0 ∷ []) one.1 refl)))

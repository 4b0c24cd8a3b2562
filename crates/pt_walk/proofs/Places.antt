-- A trail whose innermost place moves.
use Rattle.std.proofs.Common.{◌≡◌, ℕ, List, [], ◌∷◌, ◌+◌, ◌-◌, ◌<◌, ◌≤◌, length, get_or, set, true, refl, arith, ◌∙◌, ap, sym, subst}
use Rattle.std.specs.Prelude.{reverse, IsSome, nat_le, Option, None, Some, slice_get}
use Rattle.std.proofs.lemmas.Bool.{and_parts, and_from, le-leb}
use Rattle.std.proofs.lemmas.Option.{slice_get_within}
use Rattle.pt_tree.specs.Listing.{Item, names_rise}
use Rattle.pt_walk.specs.declared.frame.Frame.{Frame}
use Rattle.pt_walk.specs.Trail.{advanced, are_outer, current_entry, entry_at, has_place, is_frame, is_trail, sought}
use Rattle.pt_walk.proofs.LastFrame.{get_or-last, reverse-set_last}

-- the frame that was changed was the innermost
pub sought-set : (n : ℕ) (frames trail : List Frame) (place : ℕ) (frame : Frame) → n ≡ length frames → reverse frames ≡ trail → has_place place trail ≡ true
    → frame ≡ get_or frames (n - 1) frame
    → reverse (set frames (n - 1) (record { listing = frame.listing; place = place })) ≡ sought place trail
sought-set n frames [] place frame len view has read = absurd (cc)
sought-set n frames (f ∷ fs) place frame len view has read =
    let same : frame ≡ f = read ∙ get_or-last n frames f fs frame len view in
    reverse-set_last n frames f fs _ len view ∙ ap (λ (g : Frame). let h : Frame = record { listing = g.listing; place = place } in h ∷ fs) same

pub is_trail-sought : (trail : List Frame) (place : ℕ) → is_trail trail ≡ true → has_place place trail ≡ true → is_trail (sought place trail) ≡ true
is_trail-sought [] place is has = refl
is_trail-sought (f ∷ fs) place is has =
    let parts = and_parts (is_frame f) (are_outer fs) is in
    let frame = and_parts (names_rise f.listing) (nat_le f.place (length f.listing)) parts.0 in
    and_from _ _ (and_from _ _ frame.0 has) parts.1

within_some : (f : Frame) → IsSome (entry_at f) → f.place < length f.listing
within_some f some = by_entry (entry_at f) refl some
  where
    by_entry : (o : Option Item) → slice_get f.listing f.place ≡ o → IsSome o → f.place < length f.listing
    by_entry None e h = absurd (cc)
    by_entry (Some x) e h = slice_get_within f.listing f.place x e

-- the place of an entry is below the length
pub place_within : (n : ℕ) (frames trail : List Frame) (frame : Frame) → n ≡ length frames → reverse frames ≡ trail → IsSome (current_entry trail)
    → frame ≡ get_or frames (n - 1) frame → frame.place < length frame.listing
place_within n frames [] frame len view some read = absurd (cc)
place_within n frames (f ∷ fs) frame len view some read =
    let same : frame ≡ f = read ∙ get_or-last n frames f fs frame len view in
    subst (λ (g : Frame). g.place < length g.listing) (sym same) (within_some f some)

pub advanced-set : (n : ℕ) (frames trail : List Frame) (frame : Frame) → n ≡ length frames → reverse frames ≡ trail → IsSome (current_entry trail)
    → frame ≡ get_or frames (n - 1) frame
    → reverse (set frames (n - 1) (record { listing = frame.listing; place = frame.place + 1 })) ≡ advanced trail
advanced-set n frames [] frame len view some read = absurd (cc)
advanced-set n frames (f ∷ fs) frame len view some read =
    let same : frame ≡ f = read ∙ get_or-last n frames f fs frame len view in
    reverse-set_last n frames f fs _ len view ∙ ap (λ (g : Frame). let h : Frame = record { listing = g.listing; place = g.place + 1 } in h ∷ fs) same

pub is_trail-advanced : (trail : List Frame) → is_trail trail ≡ true → IsSome (current_entry trail) → is_trail (advanced trail) ≡ true
is_trail-advanced [] is some = refl
is_trail-advanced (f ∷ fs) is some =
    let parts = and_parts (is_frame f) (are_outer fs) is in
    let frame = and_parts (names_rise f.listing) (nat_le f.place (length f.listing)) parts.0 in
    let lt = within_some f some in
    let le : f.place + 1 ≤ length f.listing = omega (arith, lt) in
    and_from _ _ (and_from _ _ frame.0 (le-leb _ _ le)) parts.1

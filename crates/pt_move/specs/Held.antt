-- What one turn may change of what a run holds.
use Rattle.std.specs.Prelude.{◌≡◌, ◌⊎◌, ℕ, List, [], ◌∷◌, ◌++◌, drop, map}
use Rattle.pt_tree.specs.Listing.{Item}
use Rattle.pt_walk.specs.declared.frame.Frame.{Frame}

-- the listings of a trail, the innermost first
abbrev pub listings : List Frame → List (List Item)
listings = map (λ (frame : Frame). frame.listing)

-- places apart, the trail is the earlier one, or that with one listing entered, or that with inner listings left
unfoldable pub Moves : List Frame → List Frame → Type 0
Moves old new = ((items : List Item) × (listings new ≡ items ∷ listings old))
    ⊎ ((n : ℕ) × (listings new ≡ drop n (listings old)))

-- a table is the earlier one, or that with one record more, or empty
unfoldable pub Gains : {A : Type 0} → List A → List A → Type 0
Gains old new = (new ≡ old) ⊎ (((x : _) × (new ≡ old ++ x ∷ [])) ⊎ (new ≡ []))

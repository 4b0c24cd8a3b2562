-- What a directory holds, one below another.
use Rattle.std.specs.Prelude.{ℕ, Bool, true, ◌&&◌, List, [], ◌∷◌, not, Option, None, Some}
use Rattle.std.specs.List.{filter, list_any}
use Rattle.std.specs.Str.{bytes_eq}
use Rattle.std.specs.Ordering.{is_lt, nat_cmp}
use Rattle.std.specs.Cmp.Lexicographic.{slice_cmp}
use Rattle.std.specs.Prelude.{cond}
use denote.Ref.{Bor}
use Rattle.pt_tree.specs.declared.kind.Kind.{Kind}
use Rattle.pt_tree.specs.declared.listing.ListingFault.{ListingFault}
use Rattle.pt_tree.specs.declared.listing.ListingFault.TheVariants as fault

-- a name and what stands at it
abbrev pub Item : Type 0
Item = List ℕ × Kind

-- x comes before y in the order of their bytes
abbrev pub is_before : List ℕ → List ℕ → Bool
is_before x y = is_lt (slice_cmp nat_cmp x y)

-- each name comes before the next
abbrev pub names_rise : List Item → Bool
names_rise [] = true
names_rise (x ∷ []) = true
names_rise (x ∷ y ∷ items) = is_before x.0 y.0 && names_rise (y ∷ items)

-- an entry of this name may come next: it comes after the last one
abbrev pub can_follow : List Item → List ℕ → Bool
can_follow [] name = true
can_follow (x ∷ []) name = is_before x.0 name
can_follow (x ∷ y ∷ items) name = can_follow (y ∷ items) name

-- why it may not
abbrev pub listing_refusal : List Item → List ℕ → Option ListingFault
listing_refusal items name = cond (can_follow items name) None (Some fault.NotRising)

-- the entry that is lent
abbrev pub items_lent : Option (Bor (List ℕ) × Kind) → Option Item
items_lent None = None
items_lent (Some x) = Some (x.0.now, x.1)

-- the name is one of these
abbrev pub is_among : List (List ℕ) → List ℕ → Bool
is_among names name = list_any (λ other. bytes_eq other name) names

-- the entries but for those with these names
abbrev pub left_in : List (List ℕ) → List Item → List Item
left_in names items = filter (λ (item : Item). not (is_among names item.0)) items

-- the number of a refusal
abbrev pub listing_number : ListingFault → ℕ
listing_number fault.NotRising = 1
listing_number fault.Memory = 2

-- The entries of a site that are no shorties, as far as its finding tells them apart.
use Rattle.std.specs.Prelude.{ℕ, cond, List, [], ◌∷◌, Option, None as absent, Some}
use Rattle.pt_tree.specs.declared.kind.Kind.{Kind}
use Rattle.pt_tree.specs.Listing.{Item}
use Rattle.pt_walk.specs.Site.{is_shorty}
use Rattle.pt_walk.specs.declared.site.NonShorties.{NonShorties}
use Rattle.pt_walk.specs.declared.site.NonShorties.TheVariants.{None, One, Several}

-- none, one with its place and kind, or several
abbrev pub summary : List (ℕ × Kind) → NonShorties
summary [] = None
summary (x ∷ []) = One x.0 x.1
summary (x ∷ y ∷ others) = Several

-- these and one more
abbrev pub one_more : NonShorties → ℕ → Kind → NonShorties
one_more None i kind = One i kind
one_more (One j k) i kind = Several
one_more Several i kind = Several

-- the kind of an entry that is no shorty
abbrev pub non_shorty_kind : Option Item → Option Kind
non_shorty_kind absent = absent
non_shorty_kind (Some item) = cond (is_shorty item) absent (Some item.1)

-- What is found of a site of which there is nothing to tell is the same to a run that gathers and to one that doesn't.
use Rattle.std.proofs.Common.{◌≡◌, ◌∙◌, ◌==◌, ℕ, false, cond, length, List, [], ◌∷◌, Option, None, inl, inr, refl, sym, ap, subst}
use Rattle.std.specs.Prelude.{◌⊎◌}
use Rattle.pt_check.specs.Visits.{folder_trouble}
use Rattle.pt_check.specs.Within.{below_site}
use Rattle.pt_check.specs.declared.trouble.Trouble.{Trouble}
use Rattle.pt_check.specs.declared.within.Within.TheVariants as within
use Rattle.pt_tree.specs.Listing.{Item}
use Rattle.pt_tree.specs.Path.{Path}
use Rattle.pt_tree.specs.declared.kind.Kind.{Kind}
use Rattle.pt_tree.specs.declared.kind.Kind.TheVariants as kind
use Rattle.pt_walk.specs.Site.{found, found_below, non_shorties}
use Rattle.pt_walk.specs.Sites.{is_last}
use Rattle.pt_walk.specs.declared.site.At.{At}
use Rattle.pt_walk.specs.declared.site.At.TheVariants as at
use Rattle.pt_walk.specs.declared.site.Finding.{Finding}
use Rattle.pt_walk.specs.declared.site.Form.{Form}
use Rattle.pt_walk.specs.declared.site.Form.TheVariants as form

pub leads_to : (w : At) (name : List ℕ) → is_last w ≡ false → below_site w name ≡ within.Site (cond (length name == 1) at.Last at.Pair)
leads_to at.Root name is = refl
leads_to at.Pair name is = refl
leads_to at.Last name is = absurd (cc)

abbrev pub is_told : At → Finding → Path → Option Trouble
is_told w f path = folder_trouble (within.Site w) f path

same_below : (w : At) (how : Form) (items : List Item) (path : Path) (l : List (ℕ × Kind)) → is_told w (found_below form.Plain items l) path ≡ None
    → found_below how items l ≡ found_below form.Plain items l
same_below w how items path [] silent = refl
same_below w how items path ((i, kind.Dir) ∷ []) silent = refl
same_below w how items path ((i, kind.File) ∷ []) silent = absurd (cc)
same_below w how items path ((i, kind.Other) ∷ []) silent = absurd (cc)
same_below w how items path (first ∷ second ∷ others) silent = absurd (cc)

same_plain : (w : At) (how : Form) (items : List Item) (path : Path) → is_told w (found items w form.Plain) path ≡ None
    → found items w how ≡ found items w form.Plain
same_plain at.Root how items path silent = refl
same_plain at.Pair how items path silent = same_below at.Pair how items path (non_shorties items) silent
same_plain at.Last how items path silent = same_below at.Last how items path (non_shorties items) silent

-- what is wanted is of that form, or gathers nothing: then so does a run to which there is nothing to gather
pub same_found : (w : At) (wanted how : Form) (items : List Item) (path : Path) → (wanted ≡ form.Plain) ⊎ (wanted ≡ how)
    → is_told w (found items w wanted) path ≡ None
    → found items w how ≡ found items w wanted
same_found w wanted how items path (inl plain) silent =
    let told : is_told w (found items w form.Plain) path ≡ None = subst (λ (f : Form). is_told w (found items w f) path ≡ None) plain silent in
    same_plain w how items path told ∙ ap (found items w) (sym plain)
same_found w wanted how items path (inr same) silent = ap (found items w) (sym same)

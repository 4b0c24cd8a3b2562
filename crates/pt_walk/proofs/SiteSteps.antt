-- What of a walk through the sites is still to come, step by step.
use Rattle.std.proofs.Common.{◌≡◌, ℕ, List, [], ◌∷◌, ◌++◌, ◌+◌, true, false, refl, ◌∙◌, ap, sym, append_assoc, append-nil}
use Rattle.std.specs.Prelude.{cond, Some}
use Rattle.pt_tree.specs.declared.kind.Kind.TheVariants as kind
use Rattle.pt_tree.specs.Forest.{Forest, Node, File, Dir, Other, is_proper, kind_of}
use Rattle.pt_tree.specs.Path.{Path}
use Rattle.pt_walk.specs.declared.frame.Frame.{Frame}
use Rattle.pt_walk.specs.Left.{Fits, entries_from, inside_at, sites_after, sites_left}
use Rattle.pt_walk.specs.Site.{is_short, is_shorty}
use Rattle.pt_walk.specs.Sites.{Listed, Past, Deep, Elsewhere, Reach, Site, Visit, is_listed, sites_in, visit_of, walked}
use Rattle.pt_walk.specs.SiteWalk.{StartsWithTheTop, EntersTheNextSite, PassesTheNextSite, PassesNonShorties, LeavesTheSite, EndsWithTheTop}
use Rattle.pt_walk.specs.Trail.{advanced, entry_at, names_to}
use Rattle.pt_walk.proofs.Ahead.{ahead, dir_ahead, names_to-entry, nothing_ahead}
use Rattle.pt_walk.proofs.Standing.{with_entry}

-- the next site, what is walked below it, and the others
shorty_next : (reach : Reach) (top : Forest) (frame : Frame) (frames : List Frame) (name : List ℕ) (path : Path) (inside : Forest) → is_proper top ≡ true
    → Fits top (frame ∷ frames)
    → entry_at frame ≡ Some (name, kind.Dir) → is_short name ≡ true → path ≡ names_to frames ++ name ∷ [] → inside ≡ inside_at top path
    → sites_left reach top (frame ∷ frames) ≡ (path, visit_of reach (names_to frames) name inside)
    ∷ (walked (visit_of reach (names_to frames) name inside) (sites_in reach path inside) ++ sites_left reach top (advanced (frame ∷ frames)))
shorty_next reach top frame frames name path inside proper fits e short path_is inside_is =
    let it = dir_ahead top (names_to frames) frame.listing frame.place name proper fits.0 e in
    let own = names_to frames ++ name ∷ [] in
    let after = entries_from (frame.place + 1) (inside_at top (names_to frames)) in
    let inner = inside_at top own in
    let here : inner ≡ inside = ap (inside_at top) (sym path_is) ∙ sym inside_is in
    let head = λ (d : Forest) (q : Path). (q, visit_of reach (names_to frames) name d)
    ∷ walked (visit_of reach (names_to frames) name d) (sites_in reach q d) in
    ap (λ (f : Forest). sites_in reach (names_to frames) f ++ sites_after reach top frames) it.rest_is
    ∙ ap (λ b. (cond b (head inner own) [] ++ sites_in reach (names_to frames) after) ++ sites_after reach top frames) short
    ∙ append_assoc (head inner own) (sites_in reach (names_to frames) after) (sites_after reach top frames)
    ∙ ap (λ d. head d own ++ (sites_in reach (names_to frames) after ++ sites_after reach top frames)) here
    ∙ ap (λ q. head inside q ++ (sites_in reach (names_to frames) after ++ sites_after reach top frames)) (sym path_is)

pub starts : StartsWithTheTop
starts reach top = ap (λ l. ([], Listed top) ∷ l) (sym (append-nil (sites_in reach [] top)))

pub enters : EntersTheNextSite
enters reach top frame frames name path inside proper fits e short path_is inside_is listed =
    let names : names_to (frame ∷ frames) ≡ path = names_to-entry frame frames (name, kind.Dir) e ∙ sym path_is in
    shorty_next reach top frame frames name path inside proper fits e short path_is inside_is
    ∙ ap (λ v. (path, v) ∷ (walked v (sites_in reach path inside) ++ sites_left reach top (advanced (frame ∷ frames)))) listed
    ∙ ap (λ d. (path, Listed inside) ∷ (sites_in reach path d ++ sites_after reach top (frame ∷ frames))) inside_is
    ∙ ap (λ q. (path, Listed inside) ∷ (sites_in reach q (inside_at top q) ++ sites_after reach top (frame ∷ frames))) (sym names)

not_walked : (visit : Visit) (below : List Site) → is_listed visit ≡ false → walked visit below ≡ []
not_walked (Listed inside) below unlisted = absurd (cc)
not_walked Past below unlisted = refl
not_walked Deep below unlisted = refl
not_walked Elsewhere below unlisted = refl

pub passes : PassesTheNextSite
passes reach top frame frames name path inside proper fits e short path_is inside_is unlisted =
    let visit = visit_of reach (names_to frames) name inside in
    shorty_next reach top frame frames name path inside proper fits e short path_is inside_is
    ∙ ap (λ (l : List Site). (path, visit) ∷ (l ++ sites_left reach top (advanced (frame ∷ frames)))) (not_walked visit (sites_in reach path inside) unlisted)

no_site : (reach : Reach) (path : Path) (name : List ℕ) (node : Node) (after : Forest) → is_shorty (name, kind_of node) ≡ false
    → sites_in reach path (with_entry name node after) ≡ sites_in reach path after
no_site reach path name (File bytes) after apart = refl
no_site reach path name Other after apart = refl
no_site reach path name (Dir inside) after apart =
    ap
    (λ b. cond b ((path ++ name ∷ [], visit_of reach path name inside)
    ∷ walked (visit_of reach path name inside) (sites_in reach (path ++ name ∷ []) inside)) []
    ++ sites_in reach path after)
    apart

pub passes_others : PassesNonShorties
passes_others reach top frame frames item proper fits e apart =
    let it = ahead top (names_to frames) frame.listing frame.place item proper fits.0 e in
    let after = entries_from (frame.place + 1) (inside_at top (names_to frames)) in
    ap (λ (f : Forest). sites_in reach (names_to frames) f ++ sites_after reach top frames) it.rest_is
    ∙ ap (λ (l : List Site). l ++ sites_after reach top frames) (no_site reach (names_to frames) item.0 it.node after
    (ap (λ k. is_shorty (item.0, k)) it.kind_is ∙ apart))

pub leaves : LeavesTheSite
leaves reach top frame outer frames fits e =
    ap (λ (f : Forest). sites_in reach (names_to (outer ∷ frames)) f ++ sites_after reach top (outer ∷ frames))
    (nothing_ahead top (names_to (outer ∷ frames)) frame.listing frame.place fits.0 e)

pub ends : EndsWithTheTop
ends reach top frame fits e =
    ap (λ (f : Forest). sites_in reach [] f ++ []) (nothing_ahead top [] frame.listing frame.place fits.0 e)

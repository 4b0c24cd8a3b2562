-- Where the directory of the innermost listing stands as a site.
use Rattle.std.proofs.Common.{◌≡◌, ℕ, List, [], ◌∷◌, ◌++◌, ◌-◌, ◌≤◌, length, get_or, true, arith, ◌∙◌, ap, sym, length-append}
use Rattle.std.specs.Prelude.{reverse, cond, ◌==◌, Option, None, Some, option_to_list}
use Rattle.std.specs.Option.{option_map}
use Rattle.std.proofs.lemmas.Bool.{and_parts}
use Rattle.std.proofs.lemmas.List.{reverse-append, reverse-reverse}
use Rattle.std.proofs.Math.Seq.{get_or-append_seam}
use Rattle.pt_tree.specs.Listing.{Item}
use Rattle.pt_tree.specs.Path.{Path}
use Rattle.pt_walk.specs.declared.frame.Frame.{Frame}
use Rattle.pt_walk.specs.declared.site.At.{At}
use Rattle.pt_walk.specs.declared.site.At.TheVariants as at
use Rattle.pt_walk.specs.Sites.{at_of}
use Rattle.pt_walk.specs.Trail.{are_outer, entry_at, is_dir_entry, is_frame, is_trail, names_to, trail_path}
use Rattle.pt_walk.proofs.Findings.{last_name_says}

-- with this entry at the place of the listing around it
abbrev pub at_entry : Option Item → At
at_entry None = at.Root
at_entry (Some item) = cond (length item.0 == 1) at.Last at.Pair

around : (n : ℕ) (frames : List Frame) (f g : Frame) (fs : List Frame) (d : Frame) → n ≡ length frames → reverse frames ≡ f ∷ g ∷ fs
    → get_or frames (n - 2) d ≡ g
around n frames f g fs d len view =
    let whole : frames ≡ reverse fs ++ g ∷ f ∷ [] = sym (reverse-reverse frames) ∙ ap reverse view ∙ reverse-append (f ∷ g ∷ []) fs in
    let count = len ∙ ap length whole ∙ length-append (reverse fs) (g ∷ f ∷ []) in
    let place : n - 2 ≡ length (reverse fs) = omega (arith, count) in
    ap (λ i. get_or frames i d) place ∙ ap (λ l. get_or l (length (reverse fs)) d) whole ∙ get_or-append_seam (reverse fs) g (f ∷ []) d

by_entry : (path : Path) (o : Option Item) → is_dir_entry o ≡ true → at_entry o ≡ at_of (path ++ option_to_list (option_map (λ (item : Item). item.0) o))
by_entry path None is = absurd (cc)
by_entry path (Some item) is = sym (last_name_says path item.0)

pub at_around : (n : ℕ) (frames trail : List Frame) (frame : Frame) → n ≡ length frames → reverse frames ≡ trail → is_trail trail ≡ true → 2 ≤ n
    → frame ≡ get_or frames (n - 2) frame → at_entry (entry_at frame) ≡ at_of (trail_path trail)
at_around n frames [] frame len view is two read =
    let none : frames ≡ [] = sym (reverse-reverse frames) ∙ ap reverse view in
    absurd (omega (arith, len, ap length none, two))
at_around n frames (f ∷ []) frame len view is two read =
    let one : frames ≡ f ∷ [] = sym (reverse-reverse frames) ∙ ap reverse view in
    absurd (omega (arith, len, ap length one, two))
at_around n frames (f ∷ g ∷ fs) frame len view is two read =
    let same : frame ≡ g = read ∙ around n frames f g fs frame len view in
    let outer = (and_parts (is_frame f) (are_outer (g ∷ fs)) is).1 in
    let dir = (and_parts (is_dir_entry (entry_at g)) (are_outer fs) (and_parts (is_frame g) _ outer).1).0 in
    ap (λ (h : Frame). at_entry (entry_at h)) same ∙ by_entry (names_to fs) (entry_at g) dir

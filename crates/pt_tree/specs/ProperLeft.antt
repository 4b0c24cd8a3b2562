-- In each directory of a tree without the entries of some names the names rise, as they do in the tree.
use Rattle.std.specs.Prelude.{◌≡◌, ℕ, true, List, Option, None, Some, refl}
use Rattle.std.proofs.Common.{subst}
use Rattle.std.proofs.lemmas.Bool.{and_from}
use Rattle.pt_tree.specs.Forest.{Forest, none, file, other, dir, comes_before, is_proper}
use Rattle.pt_tree.specs.Listing.{is_among}
use Rattle.pt_tree.specs.Source.{Reading}
use Rattle.pt_tree.specs.ProperParts.{comes_before-trans, cond_before, cond_proper, proper_file, proper_other, proper_dir}
use Rattle.pt_tree.specs.Ignoring.{reading_without, told_without, without}

-- what comes before all entries comes before those that are left
before-without : (names : List (List ℕ)) (n : List ℕ) (f : Forest) → is_proper f ≡ true
    → comes_before n f ≡ true → comes_before n (without names f) ≡ true
before-without names n none proper before = refl
before-without names n (file k b f) proper before =
    let p = proper_file k b f proper in
    cond_before n (is_among names k) _ _
    (before-without names n f p.2 (comes_before-trans n k f before p.1)) before
before-without names n (other k f) proper before =
    let p = proper_other k f proper in
    cond_before n (is_among names k) _ _
    (before-without names n f p.2 (comes_before-trans n k f before p.1)) before
before-without names n (dir k d f) proper before =
    let p = proper_dir k d f proper in
    cond_before n (is_among names k) _ _
    (before-without names n f p.2 (comes_before-trans n k f before p.1)) before

-- in what is left of a proper tree the names rise
pub proper-without : (names : List (List ℕ)) (f : Forest) → is_proper f ≡ true
    → is_proper (without names f) ≡ true
proper-without names none proper = refl
proper-without names (file k b f) proper =
    let p = proper_file k b f proper in
    let rest = proper-without names f p.2 in
    cond_proper (is_among names k) _ _ rest
    (and_from _ _ p.0 (and_from _ _ (before-without names k f p.2 p.1) rest))
proper-without names (other k f) proper =
    let p = proper_other k f proper in
    let rest = proper-without names f p.2 in
    cond_proper (is_among names k) _ _ rest
    (and_from _ _ p.0 (and_from _ _ (before-without names k f p.2 p.1) rest))
proper-without names (dir k d f) proper =
    let p = proper_dir k d f proper in
    let rest = proper-without names f p.2 in
    let inside = proper-without names d p.3 in
    cond_proper (is_among names k) _ _ rest
    (and_from _ _ p.0 (and_from _ _ (before-without names k f p.2 p.1) (and_from _ _ inside rest)))

-- in what is told of a proper source the names rise
pub proper_left : (names : List (List ℕ)) (told : Option Reading) (state : Reading)
    → ((s : Reading) → told ≡ Some s → is_proper s.tree ≡ true)
    → told_without names told ≡ Some state → is_proper state.tree ≡ true
proper_left names None state law is = absurd (cc)
proper_left names (Some s) state law is =
    let left : reading_without names s ≡ state = cc in
    subst (λ (r : Reading). is_proper r.tree ≡ true) left (proper-without names s.tree (law s refl))

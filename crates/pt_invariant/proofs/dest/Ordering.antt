-- Paths that part in order.
use Rattle.std.proofs.Common.{◌≡◌, ℕ, Bool, true, false, List, [], ◌∷◌, ◌++◌, refl, ap, sym, ◌∙◌, cond}
use Rattle.std.specs.List.{list_all}
use Rattle.std.specs.Str.{bytes_eq}
use Rattle.std.proofs.lemmas.Bool.{and_from, and_parts, false≢true, true≢false}
use Rattle.std.proofs.lemmas.List.Folds.{list_all-append}
use Rattle.pt_tree.specs.PathOrder.{part_in_order, parts_before}
use Rattle.pt_tree.proofs.Names.{before_differs, name_itself}
use Rattle.pt_tree.specs.Listing.{is_before}
use Rattle.pt_tree.specs.Path.{Path, same_path}
use Rattle.pt_object.proofs.Ways.{is_same}

-- a path parts from all below another that it parts from
pub parts_on : (p q more : Path) → parts_before p q ≡ true → parts_before p (q ++ more) ≡ true
parts_on [] q more h = absurd (false≢true h)
parts_on (a ∷ p) [] more h = absurd (false≢true h)
parts_on (a ∷ p) (b ∷ q) more h = by (bytes_eq a b) (λ g. parts_on p q more g) h
  where
    by : (t : Bool) → (parts_before p q ≡ true → parts_before p (q ++ more) ≡ true) → cond t (parts_before p q) (is_before a b) ≡ true
        → cond t (parts_before p (q ++ more)) (is_before a b) ≡ true
    by true later h = later h
    by false later h = h

-- two names in one directory
pub parts_at : (directory : Path) (a b : List ℕ) (more : Path) → is_before a b ≡ true → parts_before (directory ++ a ∷ more) (directory ++ b ∷ []) ≡ true
parts_at [] a b more h = ap (λ t. cond t (parts_before more []) (is_before a b)) (before_differs a b h) ∙ h
parts_at (name ∷ directory) a b more h =
    ap (λ t. cond t (parts_before (directory ++ a ∷ more) (directory ++ b ∷ [])) (is_before name name)) (name_itself name) ∙ parts_at directory a b more h

pub parts_itself : (p : Path) → parts_before p p ≡ false
parts_itself [] = refl
parts_itself (a ∷ p) = ap (λ t. cond t (parts_before p p) (is_before a a)) (name_itself a) ∙ parts_itself p

-- paths that part differ
pub parts_differ : (p q : Path) (t : Bool) → same_path p q ≡ t → parts_before p q ≡ true → t ≡ false
parts_differ p q false same h = refl
parts_differ p q true same h = absurd (true≢false (sym h ∙ ap (λ (r : Path). parts_before p r) (sym (is_same p q same)) ∙ parts_itself p))

-- a path that comes behind all others comes last
pub order_push : (paths : List Path) (path : Path) → part_in_order paths ≡ true → list_all (λ earlier. parts_before earlier path) paths ≡ true
    → part_in_order (paths ++ path ∷ []) ≡ true
order_push [] path order behind = refl
order_push (p ∷ paths) path order behind =
    let parts = and_parts _ _ order in
    let first = and_parts _ _ behind in
    and_from _ _
    (list_all-append (parts_before p) paths (path ∷ []) ∙ and_from _ _ parts.0 (and_from _ _ first.0 refl))
    (order_push paths path parts.1 first.1)

-- the first ones of paths in order are
pub order_front : (paths others : List Path) → part_in_order (paths ++ others) ≡ true → part_in_order paths ≡ true
order_front [] others order = refl
order_front (p ∷ paths) others order =
    let parts = and_parts _ _ order in
    let all = and_parts _ _ (sym (list_all-append (parts_before p) paths others) ∙ parts.0) in
    and_from _ _ all.0 (order_front paths others parts.1)

-- and the path between parts from those behind it
pub order_behind : (paths : List Path) (path : Path) (others : List Path) → part_in_order (paths ++ path ∷ others) ≡ true
    → list_all (parts_before path) others ≡ true
order_behind [] path others order = (and_parts _ _ order).0
order_behind (p ∷ paths) path others order = order_behind paths path others (and_parts _ _ order).1

-- those before a path part from it
pub order_before : (paths : List Path) (path : Path) (others : List Path) → part_in_order (paths ++ path ∷ others) ≡ true
    → list_all (λ earlier. parts_before earlier path) paths ≡ true
order_before [] path others order = refl
order_before (p ∷ paths) path others order =
    let parts = and_parts _ _ order in
    let all = and_parts _ _ (sym (list_all-append (parts_before p) paths (path ∷ others)) ∙ parts.0) in
    and_from _ _ (and_parts _ _ all.1).0 (order_before paths path others parts.1)

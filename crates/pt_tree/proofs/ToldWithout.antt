-- What a source tells without the entries of some names, before and after each call.
use Rattle.std.proofs.Common.{◌≡◌, ℕ, List, true, false, refl, sym, ◌∙◌, ap, subst}
use Rattle.std.specs.Prelude.{[], Err, IsSome, MatchResult, None, Ok, Option, Result, Some, take}
use Rattle.std.specs.Option.{option_map}
use Rattle.std.proofs.lemmas.Bool.{cond-true, cond-false}
use Rattle.pt_tree.specs.Failing.{Failing, ListsAs, LooksAs}
use Rattle.pt_tree.specs.Forest.{Forest, dir_at, file_at, kind_at, listing_at, listing_of}
use Rattle.pt_tree.specs.Listing.{Item, left_in}
use Rattle.pt_tree.specs.Path.{Path, parent}
use Rattle.pt_tree.specs.Source.{CanList, CanLook, CanOpen, CanRead, IsListed, IsRead, IsSeen, Reading, after_next, after_open, tree_in}
use Rattle.pt_tree.specs.declared.kind.Kind.{Kind}
use Rattle.pt_tree.specs.Ignoring.{is_past, reading_without, told_without, without}
use Rattle.pt_tree.proofs.TreesWithout.{dir_found, file_found, kind_at-without, listing-without}

some_of : {A : Type 0} (o : Option A) → IsSome o → (x : A) × (o ≡ Some x)
some_of None is = absurd (cc)
some_of (Some x) is = (x, refl)

some_from : {A : Type 0} (o : Option A) (x : A) → o ≡ Some x → IsSome o
some_from None x is = absurd (cc)
some_from (Some y) x is = refl

-- what is left where something is told
left_of : (names : List (List ℕ)) (s r : Reading) → told_without names (Some s) ≡ Some r → reading_without names s ≡ r
left_of names s r is = cc

pub can_list : (names : List (List ℕ)) (told : Option Reading) (p : Path) → CanList (told_without names told) p → CanList told p
unfolding CanList
can_list names told p may = λ s is.
    let left = some_of (dir_at (without names s.tree) p) (may (reading_without names s) (ap (told_without names) is)) in
    let held = dir_found names s.tree p left.0 left.1 in
    some_from _ held.0 held.1

pub is_listed : (names : List (List ℕ)) (told : Option Reading) (p : Path) (items : List Item) → CanList (told_without names told) p → IsListed told p items
    → IsListed (told_without names told) p (left_in names items)
unfolding CanList IsListed
is_listed names None p items may listed = λ r is. absurd (cc)
is_listed names (Some s) p items may listed = λ r is.
    let left = some_of (dir_at (without names s.tree) p) (may (reading_without names s) refl) in
    let held = dir_found names s.tree p left.0 left.1 in
    let same : Some (listing_of held.0) ≡ Some items = ap (option_map listing_of) (sym held.1) ∙ listed s refl in
    let whole : listing_of held.0 ≡ items = cc in
    subst (λ (r : Reading). listing_at r.tree p ≡ Some (left_in names items)) (left_of names s r is)
    (ap (option_map listing_of) left.1 ∙ ap (λ f. Some (listing_of f)) held.2 ∙ ap Some (listing-without names held.0)
    ∙ ap (λ xs. Some (left_in names xs)) whole)

-- whatever was listed
pub lists_as : {T : Type 0} (old new : Option Failing) (p : Path) (x y : T) → ListsAs old new p (Ok x) → ListsAs old new p (Ok y)
unfolding ListsAs
lists_as old new p x y is = is

-- a directory that is left above a path is above it
pub can_look : (names : List (List ℕ)) (told : Option Reading) (p : Path) → CanLook (tree_in (told_without names told)) p → CanLook (tree_in told) p
unfolding CanLook
can_look names None p may = λ f is. absurd (cc)
can_look names (Some s) p may = λ f is.
    let left = some_of (dir_at (without names s.tree) (parent p)) (may (without names s.tree) refl) in
    let held = dir_found names s.tree (parent p) left.0 left.1 in
    let same : s.tree ≡ f = cc in
    subst (λ (f : Forest). IsSome (dir_at f (parent p))) same (some_from _ held.0 held.1)

-- past one of the names nothing is seen
pub none_past : (names : List (List ℕ)) (told : Option Reading) (p : Path) → is_past names p ≡ true → IsSeen (tree_in (told_without names told)) p None
none_past names None p past = λ f is. absurd (cc)
none_past names (Some s) p past = λ f is.
    let same : without names s.tree ≡ f = cc in
    subst (λ (f : Forest). kind_at f p ≡ None) same (kind_at-without names s.tree p ∙ cond-true (is_past names p) None (kind_at s.tree p) past)

-- and elsewhere what stands
pub seen_left : (names : List (List ℕ)) (told : Option Reading) (p : Path) (here : Option Kind) → is_past names p ≡ false → IsSeen (tree_in told) p here
    → IsSeen (tree_in (told_without names told)) p here
seen_left names None p here left seen = λ f is. absurd (cc)
seen_left names (Some s) p here left seen = λ f is.
    let same : without names s.tree ≡ f = cc in
    subst (λ (f : Forest). kind_at f p ≡ here) same
    (kind_at-without names s.tree p ∙ cond-false (is_past names p) None (kind_at s.tree p) left ∙ seen s.tree refl)

-- whatever was seen
pub looks_as : {T : Type 0} (old new : Option Failing) (p : Path) (x y : T) → LooksAs old new p (Ok x) → LooksAs old new p (Ok y)
unfolding LooksAs
looks_as old new p x y is = is

pub can_open : (names : List (List ℕ)) (told : Option Reading) (p : Path) → CanOpen (told_without names told) p → CanOpen told p
unfolding CanOpen
can_open names told p may = λ s is.
    let left = some_of (file_at (without names s.tree) p) (may (reading_without names s) (ap (told_without names) is)) in
    some_from _ left.0 (file_found names s.tree p left.0 left.1)

pub is_opened : (names : List (List ℕ)) (told : Option Reading) (p : Path) → CanOpen (told_without names told) p
    → told_without names (option_map (after_open p) told) ≡ option_map (after_open p) (told_without names told)
unfolding CanOpen
is_opened names None p may = refl
is_opened names (Some s) p may =
    let left = some_of (file_at (without names s.tree) p) (may (reading_without names s) refl) in
    ap (λ (unread : Option (List ℕ)). Some (record { tree = without names s.tree; unread = unread })) (file_found names s.tree p left.0 left.1 ∙ sym left.1)

pub can_read : (names : List (List ℕ)) (told : Option Reading) → CanRead (told_without names told) → CanRead told
unfolding CanRead
can_read names told may = λ s is. may (reading_without names s) (ap (told_without names) is)

is_read : (names : List (List ℕ)) (told : Option Reading) (block : List ℕ) → IsRead told block → IsRead (told_without names told) block
unfolding IsRead
is_read names None block read = λ r is. absurd (cc)
is_read names (Some s) block read = λ r is. subst (λ (r : Reading). option_map (take 8192) r.unread ≡ Some block) (left_of names s r is) (read s refl)

pub block_read : {E : Type 0} (names : List (List ℕ)) (told : Option Reading) (block : List ℕ) (result : Result (Unit {0}) E)
    → MatchResult result (λ _. IsRead told block) (λ _. block ≡ [])
    → MatchResult result (λ _. IsRead (told_without names told) block) (λ _. block ≡ [])
block_read names told block (Ok x) read = is_read names told block read
block_read names told block (Err fault) none = none

pub is_moved : (names : List (List ℕ)) (told : Option Reading) → told_without names (option_map after_next told)
    ≡ option_map after_next (told_without names told)
is_moved names None = refl
is_moved names (Some s) = refl

pub ruleset ignoring = (can_list, can_look, is_listed, can_open, is_opened, can_read, block_read, is_moved)

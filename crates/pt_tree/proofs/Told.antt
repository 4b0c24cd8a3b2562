-- What a source tells is said of its tree, and of the answer of a call.
use Rattle.std.proofs.Common.{◌≡◌, List, ap, refl, subst, true}
use Rattle.std.specs.Option.{ForSome}
use Rattle.std.specs.Prelude.{Err, IsSome, MatchResult, None, Ok, OnErr, OnOk, Option, Result, Some}
use Rattle.pt_tree.specs.Forest.{Forest, dir_at, is_proper, listing_at}
use Rattle.pt_tree.specs.Listing.{Item}
use Rattle.pt_tree.specs.Path.{Path}
use Rattle.pt_tree.specs.Source.{CanList, IsListed, Reading, tree_in}

-- a folder may be listed where it stands in the tree that is told
pub may_list : (told : Option Reading) (path : Path) → ForSome (tree_in told) (λ tree. IsSome (dir_at tree path)) → CanList told path
unfolding CanList
may_list told path there s is = there s.tree (ap tree_in is)

-- its listing is that of the tree
pub listed_in : (told : Option Reading) (path : Path) (items : List Item) → IsListed told path items
    → ForSome (tree_in told) (λ tree. listing_at tree path ≡ Some items)
unfolding IsListed
listed_in None path items listed tree is = absurd (cc)
listed_in (Some s) path items listed tree is = let same : s.tree ≡ tree = cc in subst (λ (t : Forest). listing_at t path ≡ Some items) same (listed s refl)

-- which is proper
pub proper_in : (told : Option Reading) → ForSome told (λ s. is_proper s.tree ≡ true) → ForSome (tree_in told) (λ tree. is_proper tree ≡ true)
proper_in None proper tree is = absurd (cc)
proper_in (Some s) proper tree is = let same : s.tree ≡ tree = cc in subst (λ (t : Forest). is_proper t ≡ true) same (proper s refl)

-- what holds where a call went well, and what where it failed
pub by_result : {T E : Type 0} (result : Result T E) (P Q : Type 0) → OnOk result P → OnErr result Q → MatchResult result (λ _. P) (λ _. Q)
by_result (Ok x) P Q well failed = well
by_result (Err fault) P Q well failed = failed

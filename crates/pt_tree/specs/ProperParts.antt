-- The parts of a proper directory, and those that are chosen of two.
use Rattle.std.proofs.Common.{◌≡◌, ℕ, List, true, false, refl, ap}
use Rattle.std.specs.Prelude.{Bool, cond}
use Rattle.std.specs.declared.cmp.Ordering.{Ordering}
use Rattle.std.specs.declared.cmp.Ordering.TheVariants.{Less, Equal, Greater}
use Rattle.std.specs.Ordering.{is_lt, nat_cmp}
use Rattle.std.specs.Cmp.Lexicographic.{slice_cmp, nat_list_cmp_total}
use Rattle.std.proofs.lemmas.Bool.{false≢true, and_parts}
use Rattle.pt_tree.specs.Forest.{Forest, none, file, other, dir, comes_before, is_proper}
use Rattle.pt_tree.specs.Listing.{is_before}
use Rattle.pt_tree.specs.Name.{is_name}

-- an order that is told as less is Less
Less-from_is_lt : (o : Ordering) → is_lt o ≡ true → o ≡ Less
Less-from_is_lt Less h = refl
Less-from_is_lt Equal h = absurd (false≢true h)
Less-from_is_lt Greater h = absurd (false≢true h)

-- what is before another compares as less
pub before_Less : (x y : List ℕ) → is_before x y ≡ true → slice_cmp nat_cmp x y ≡ Less
before_Less x y = Less-from_is_lt (slice_cmp nat_cmp x y)

-- what is before one that is before another is before that
pub before-trans : (x y z : List ℕ) → is_before x y ≡ true → is_before y z ≡ true
    → is_before x z ≡ true
before-trans x y z a b =
    ap is_lt (nat_list_cmp_total.trans x y z (before_Less x y a) (before_Less y z b))

-- so is what is before a name that comes before all entries
pub comes_before-trans : (n m : List ℕ) (f : Forest) → is_before n m ≡ true
    → comes_before m f ≡ true → comes_before n f ≡ true
comes_before-trans n m none a b = refl
comes_before-trans n m (file k bytes f) a b = before-trans n m k a b
comes_before-trans n m (other k f) a b = before-trans n m k a b
comes_before-trans n m (dir k d f) a b = before-trans n m k a b

-- the parts of a proper directory: the first name, the order, and the rest
pub proper_file : (n b : List ℕ) (f : Forest) → is_proper (file n b f) ≡ true
    → (is_name n ≡ true) × (comes_before n f ≡ true) × (is_proper f ≡ true)
proper_file n b f h = let p = and_parts _ _ h in let q = and_parts _ _ p.1 in (p.0, q.0, q.1)

-- the same behind an entry that is neither file nor directory
pub proper_other : (n : List ℕ) (f : Forest) → is_proper (other n f) ≡ true
    → (is_name n ≡ true) × (comes_before n f ≡ true) × (is_proper f ≡ true)
proper_other n f h = let p = and_parts _ _ h in let q = and_parts _ _ p.1 in (p.0, q.0, q.1)

-- the same behind a directory, with what is in it
pub proper_dir : (n : List ℕ) (d f : Forest) → is_proper (dir n d f) ≡ true
    → (is_name n ≡ true) × (comes_before n f ≡ true) × (is_proper f ≡ true) × (is_proper d ≡ true)
proper_dir n d f h =
    let p = and_parts _ _ h in
    let q = and_parts _ _ p.1 in
    let r = and_parts _ _ q.1 in
    (p.0, q.0, r.1, r.0)

-- of two proper trees each is one
pub cond_proper : (t : Bool) (here there : Forest) → is_proper here ≡ true
    → is_proper there ≡ true → is_proper (cond t here there) ≡ true
cond_proper true here there a b = a
cond_proper false here there a b = b

-- what comes before all entries of each of two trees does so before those of the chosen one
pub cond_before : (k : List ℕ) (t : Bool) (here there : Forest) → comes_before k here ≡ true
    → comes_before k there ≡ true → comes_before k (cond t here there) ≡ true
cond_before k true here there a b = a
cond_before k false here there a b = b

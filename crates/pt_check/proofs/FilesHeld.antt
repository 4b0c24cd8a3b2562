-- How many files an object has after a step of a check: as many more as were met, while there is room for them.
use Rattle.std.proofs.Common.{◌≡◌, ◌≤◌, ◌==◌, ◌+◌, ℕ, suc, Bool, true, false, cond, length, min, List, None, Some, refl, ap, subst, arith}
use Rattle.std.proofs.lemmas.Bool.{eqb-false}
use Rattle.std.specs.Prelude.{⊤}
use Rattle.pt_check.specs.Clean.{HasRoomFor, file_count}
use Rattle.pt_check.specs.Counting.{back_at, plus, with_entry}
use Rattle.pt_check.specs.Visits.{CheckState, Folder, begun, count_trouble, counting, ended, finding_of, folder_in, holder_in, with_folder, with_found}
use Rattle.pt_check.specs.Within.{below_site, starts_object}
use Rattle.pt_check.specs.declared.trouble.Trouble.TheVariants as trouble
use Rattle.pt_check.specs.declared.within.Within.{Within}
use Rattle.pt_check.specs.declared.within.Within.TheVariants as within
use Rattle.pt_tree.specs.Failures.{greatest_count}
use Rattle.pt_tree.specs.Forest.{Forest, none, file, other, dir}
use Rattle.pt_tree.specs.Listing.{Item}
use Rattle.pt_tree.specs.Path.{Path, joined}
use Rattle.pt_tree.specs.declared.kind.Kind.{Kind}
use Rattle.pt_tree.specs.declared.kind.Kind.TheVariants as kind
use Rattle.pt_walk.specs.Object.{without_shorties}
use Rattle.pt_walk.specs.Site.{found, is_short}
use Rattle.pt_walk.specs.declared.site.At.{At}
use Rattle.pt_walk.specs.declared.site.At.TheVariants as at
use Rattle.pt_walk.specs.declared.site.Finding.{Finding}
use Rattle.pt_walk.specs.declared.site.Finding.TheVariants as finding
use Rattle.pt_walk.specs.declared.site.Form.{Form}

-- how many files the object at hand has
abbrev pub held_by : CheckState → ℕ
held_by s = s.numbers.held

-- files came to an object so far: there were so many more, if there had been room for those before
abbrev pub Fills : Within → ℕ → CheckState → CheckState → Type 0
Fills (within.Object before) n a b =
    a.numbers.held ≤ 1000000 → (b.numbers.held ≡ n + a.numbers.held) × (b.numbers.held ≤ 1000000)
Fills (within.Site at) n a b = ⊤
Fills within.Past n a b = ⊤
Fills within.Beside n a b = ⊤

pub no_fill : (here : Within) (a b : CheckState) → b.numbers.held ≡ a.numbers.held → Fills here 0 a b
no_fill (within.Object before) a b same = λ few. (omega (arith, same), omega (arith, same, few))
no_fill (within.Site at) a b same = tt
no_fill within.Past a b same = tt
no_fill within.Beside a b same = tt

pub fill_on : (here : Within) (n k : ℕ) (a b c : CheckState) → Fills here n a b → Fills here k b c → Fills here (n + k) a c
fill_on (within.Object before) n k a b c first second = λ few.
    let one = first few in
    let two = second one.1 in
    let here = one.0 in
    let there = two.0 in
    (omega (arith, here, there), two.1)
fill_on (within.Site at) n k a b c first second = tt
fill_on within.Past n k a b c first second = tt
fill_on within.Beside n k a b c first second = tt

-- of a folder's files so many come to what holds its entries
abbrev pub held_in : Within → ℕ → ℕ
held_in (within.Object before) n = n
held_in (within.Site at) n = 0
held_in within.Past n = 0
held_in within.Beside n = 0

-- and so many of all that stand in one
abbrev pub count_in : Folder → Finding → Forest → ℕ
count_in folder seen none = 0
count_in folder seen (file name bytes after) = suc (count_in folder seen after)
count_in folder seen (other name after) = count_in folder seen after
count_in folder seen (dir name inside after) =
    held_in (folder_in folder seen name).here (file_count inside) + count_in folder seen after

-- at the start of what is found to be this: where that is gathered it has no files yet
abbrev pub HeldAt : Finding → CheckState → CheckState → Type 0
HeldAt finding.Interior a m = m.numbers.held ≡ a.numbers.held
HeldAt (finding.Skip why) a m = m.numbers.held ≡ a.numbers.held
HeldAt (finding.Candidate i) a m = m.numbers.held ≡ a.numbers.held
HeldAt finding.Gathered a m = m.numbers.held ≡ 0

-- the same of a number that is as great
pub fill_as : (here : Within) (n k : ℕ) (a b : CheckState) → n ≡ k → Fills here n a b → Fills here k a b
fill_as here n k a b same fills = subst (λ (m : ℕ). Fills here m a b) same fills

-- an entry of this kind is so many files
abbrev pub one_of : Kind → ℕ
one_of kind.File = 1
one_of kind.Dir = 0
one_of kind.Other = 0

one_more : (t : Bool) (held now : ℕ) → (held == 1000000) ≡ t → cond t (Some trouble.Many) None ≡ None → now ≡ min (held + 1) greatest_count
    → held ≤ 1000000 → (now ≡ 1 + held) × (now ≤ 1000000)
one_more true held now is quiet_of more few = absurd (cc)
one_more false held now is quiet_of more few =
    let apart : held ≡ 1000000 → ⊥ = eqb-false held 1000000 is in
    let less : suc held ≤ 1000000 = omega (arith, few, apart) in
    (omega (arith, more, less), omega (arith, more, less))

pub met_fills : (here : Within) (k : Kind) (bytes : ℕ) (a m : CheckState) → count_trouble here k a.numbers.held ≡ None → m ≡ counting (with_entry k bytes) a
    → Fills here (one_of k) a m
met_fills (within.Object before) kind.File bytes a m quiet_of same = λ few.
    one_more (a.numbers.held == 1000000) a.numbers.held m.numbers.held refl quiet_of (ap held_by same) few
met_fills (within.Object before) kind.Dir bytes a m quiet_of same = no_fill (within.Object before) a m (ap held_by same)
met_fills (within.Object before) kind.Other bytes a m quiet_of same = no_fill (within.Object before) a m (ap held_by same)
met_fills (within.Site at) k bytes a m quiet_of same = tt
met_fills within.Past k bytes a m quiet_of same = tt
met_fills within.Beside k bytes a m quiet_of same = tt

back_fills : (before y : ℕ) (a m n b : CheckState) → Fills (within.Object before) 0 a m
    → Fills (within.Object before) y (counting (back_at m.numbers) n) b → Fills (within.Object before) (0 + y) a b
back_fills before y a m n b met rest = fill_on (within.Object before) 0 y a m b met rest

-- a folder in an object begins none and ends none, and behind another one the object is at hand again
pub dir_fills : (here above : Within) (x y : ℕ) (a m n b : CheckState) → Fills above 0 a m → Fills here x (counting (begun here above) m) n
    → Fills above y (counting (ended here m.numbers) n) b → Fills above (held_in here x + y) a b
dir_fills (within.Object inner) (within.Object before) x y a m n b met entered rest =
    fill_on (within.Object before) x y a n b
    (fill_as (within.Object before) (0 + x) x a n (omega arith) (fill_on (within.Object before) 0 x a m n met entered)) rest
dir_fills (within.Site at) (within.Object before) x y a m n b met entered rest = back_fills before y a m n b met rest
dir_fills within.Past (within.Object before) x y a m n b met entered rest = back_fills before y a m n b met rest
dir_fills within.Beside (within.Object before) x y a m n b met entered rest = back_fills before y a m n b met rest
dir_fills here (within.Site at) x y a m n b met entered rest = tt
dir_fills here within.Past x y a m n b met entered rest = tt
dir_fills here within.Beside x y a m n b met entered rest = tt

pub fills_from : (here : Within) (x : ℕ) (a m b : CheckState) → m.numbers.held ≡ a.numbers.held → Fills here x m b → Fills here x a b
fills_from (within.Object before) x a m b same fills = λ few.
    let all = fills (omega (arith, same, few)) in
    let whole = all.0 in
    (omega (arith, whole, same), all.1)
fills_from (within.Site at) x a m b same fills = tt
fills_from within.Past x a m b same fills = tt
fills_from within.Beside x a m b same fills = tt

-- where an object begins it has no files, so there is room for all of its own
pub has_room : (here above : Within) (x : ℕ) (m n : CheckState) → Fills here x (counting (begun here above) m) n → starts_object here above ≡ true → x ≤ 1000000
has_room (within.Object before) (within.Site at) x m n fills starts =
    let empty : 0 ≤ 1000000 = omega arith in
    let all = fills empty in
    let whole : n.numbers.held ≡ x + 0 = all.0 in
    let most : n.numbers.held ≤ 1000000 = all.1 in
    omega (arith, whole, most)
has_room (within.Object before) within.Past x m n fills starts = absurd (cc)
has_room (within.Object before) (within.Object later) x m n fills starts = absurd (cc)
has_room (within.Object before) within.Beside x m n fills starts = absurd (cc)
has_room (within.Site at) above x m n fills starts = absurd (cc)
has_room within.Past above x m n fills starts = absurd (cc)
has_room within.Beside above x m n fills starts = absurd (cc)

-- all files of a folder in an object come to that
object_count : (path : Path) (prefix : List ℕ) (before left : ℕ) (seen : Finding) (tree : Forest)
    → count_in (record { path = path; prefix = prefix; here = within.Object before; left = left }) seen tree ≡ file_count tree
object_count path prefix before left seen none = refl
object_count path prefix before left seen (file name bytes after) = ap suc (object_count path prefix before left seen after)
object_count path prefix before left seen (other name after) = object_count path prefix before left seen after
object_count path prefix before left seen (dir name inside after) =
    ap (λ (n : ℕ). file_count inside + n) (object_count path prefix before left seen after)

none_held : (w : At) (name : List ℕ) (n : ℕ) → held_in (below_site w name) n ≡ 0
none_held at.Root name n = refl
none_held at.Pair name n = refl
none_held at.Last name n = refl

-- and of a site that is gathered all beside its shorties
site_count : (path : Path) (prefix : List ℕ) (w : At) (left : ℕ) (tree : Forest)
    → count_in (record { path = path; prefix = prefix; here = within.Site w; left = left }) finding.Gathered tree ≡ file_count (without_shorties tree)
site_count path prefix w left none = refl
site_count path prefix w left (file name bytes after) = ap suc (site_count path prefix w left after)
site_count path prefix w left (other name after) = site_count path prefix w left after
site_count path prefix w left (dir name inside after) = by (is_short name) (site_count path prefix w left after)
  where
    long : Within
    long = within.Object (plus (length (joined path)) 1)

    by : (short : Bool) {n : ℕ} → n ≡ file_count (without_shorties after)
        → held_in (cond short (below_site w name) long) (file_count inside) + n
        ≡ file_count (cond short (without_shorties after) (dir name inside (without_shorties after)))
    by true same = let nothing = none_held w name (file_count inside) in omega (arith, nothing, same)
    by false same = ap (λ (n : ℕ). file_count inside + n) same

-- what came to the object at hand with a folder of its own
pub inside_fills : (how : Form) (path : Path) (prefix : List ℕ) (here : Within) (left : ℕ) (items : List Item) (inside : Forest) (a m b : CheckState)
    → HeldAt (finding_of how here items) a m
    → (let it : Folder = record { path = path; prefix = prefix; here = here; left = left } in
    Fills (holder_in it (finding_of how here items)) (count_in it (finding_of how here items) inside) m b)
    → Fills here (file_count inside) a b
inside_fills how path prefix (within.Object before) left items inside a m b starts fills =
    fill_as (within.Object before) _ (file_count inside) a b (object_count path prefix before left finding.Interior inside)
    (fills_from (within.Object before) _ a m b starts fills)
inside_fills how path prefix (within.Site w) left items inside a m b starts fills = tt
inside_fills how path prefix within.Past left items inside a m b starts fills = tt
inside_fills how path prefix within.Beside left items inside a m b starts fills = tt

-- there is room for all files of a site that is gathered
pub has_room_for : (how : Form) (path : Path) (prefix : List ℕ) (here : Within) (left : ℕ) (items : List Item) (inside : Forest) (a m b : CheckState)
    → HeldAt (finding_of how here items) a m
    → (let it : Folder = record { path = path; prefix = prefix; here = here; left = left } in
    Fills (holder_in it (finding_of how here items)) (count_in it (finding_of how here items) inside) m b)
    → HasRoomFor (finding_of how here items) inside
has_room_for how path prefix (within.Object before) left items inside a m b starts fills = tt
has_room_for how path prefix within.Past left items inside a m b starts fills = tt
has_room_for how path prefix within.Beside left items inside a m b starts fills = tt
has_room_for how path prefix (within.Site w) left items inside a m b starts fills = by (found items w how) starts fills
  where
    it : Folder
    it = record { path = path; prefix = prefix; here = within.Site w; left = left }

    by : (seen : Finding) → HeldAt seen a m → Fills (holder_in it seen) (count_in it seen inside) m b → HasRoomFor seen inside
    by finding.Interior starts fills = tt
    by (finding.Skip why) starts fills = tt
    by (finding.Candidate i) starts fills = tt
    by finding.Gathered starts fills =
        let all = fills (omega (arith, starts)) in
        let whole = all.0 in
        let most = all.1 in
        let count = site_count path prefix w left inside in
        omega (arith, whole, most, starts, count)

-- a folder that is judged
pub judged_held : (how : Form) (depth : ℕ) (renamed : Bool) (here : Within) (items : List Item) (a m : CheckState)
    → m.numbers.held ≡ (with_folder depth renamed here (finding_of how here items) a.numbers).held → HeldAt (finding_of how here items) a m
judged_held how depth renamed (within.Object before) items a m same = same
judged_held how depth renamed within.Past items a m same = same
judged_held how depth renamed within.Beside items a m same = same
judged_held how depth renamed (within.Site w) items a m same = by (found items w how) same
  where
    by : (seen : Finding) → m.numbers.held ≡ (with_found depth seen a.numbers).held → HeldAt seen a m
    by finding.Interior same = same
    by (finding.Skip why) same = same
    by (finding.Candidate i) same = same
    by finding.Gathered same = same

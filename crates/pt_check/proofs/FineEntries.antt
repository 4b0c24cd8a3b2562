-- Entries of an object that a run with the limits of a check doesn't pass it over for, and the length of a path.
use Rattle.std.proofs.Common.{◌≡◌, ◌≤◌, ◌+◌, ◌||◌, ◌^◌, ℕ, suc, Bool, true, false, cond, length}
use Rattle.std.proofs.Common.{List, [], ◌∷◌, ◌++◌, Option, None, Some, refl, ap, arith, nat_le, nat_lt}
use Rattle.std.specs.Prelude.{◌≢◌, ⊤, option_map}
use Rattle.std.proofs.lemmas.Bool.{le-ltb, lt-leb, ltb-false, or_from}
use Rattle.std.proofs.lemmas.List.{length-append}
use Rattle.pt_check.specs.Clean.{Each, file_count}
use Rattle.pt_check.specs.Counting.{plus}
use Rattle.pt_check.specs.declared.trouble.Trouble.{Trouble}
use Rattle.pt_tree.specs.Forest.{Forest, none, file, other, dir, File, Dir, Other}
use Rattle.pt_tree.specs.Path.{Path, joined}
use Rattle.pt_walk.proofs.BadEntries.{counts}
use Rattle.pt_walk.specs.Limits.{greatest_limits}
use Rattle.pt_walk.specs.Object.{Entry, bad_or, entries_in, entry_cause, files, first_bad}
use Rattle.pt_walk.specs.declared.cause.Cause.{Cause}
use Rattle.pt_walk.specs.declared.cause.Cause.TheVariants as cause

-- ---- the length of a path

behind : (x : List ℕ) (base : Path) (y : List ℕ) (rel : Path) → length (joined ((x ∷ base) ++ (y ∷ rel)))
    ≡ length (joined (x ∷ base)) + suc (length (joined (y ∷ rel)))
behind x [] y rel = length-append x (47 ∷ joined (y ∷ rel))
behind x (z ∷ base) y rel =
    let inner = behind z base y rel in
    let whole : length (joined ((x ∷ z ∷ base) ++ (y ∷ rel))) ≡ length x + suc (length (joined ((z ∷ base) ++ (y ∷ rel)))) = length-append x
    (47 ∷ joined ((z ∷ base) ++ (y ∷ rel))) in
    let front : length (joined (x ∷ z ∷ base)) ≡ length x + suc (length (joined (z ∷ base))) = length-append x (47 ∷ joined (z ∷ base)) in
    omega (arith, inner, whole, front)

pub behind_name : (x : List ℕ) (base rel : Path) (name : List ℕ)
    → length (joined ((x ∷ base) ++ (rel ++ name ∷ []))) ≡ length (joined (x ∷ base)) + suc (length (joined (rel ++ name ∷ [])))
behind_name x base [] name = behind x base name []
behind_name x base (y ∷ rel) name = behind x base y (rel ++ name ∷ [])

pub one_longer : (path : Path) (name : List ℕ) → length (path ++ name ∷ []) ≡ length path + 1
one_longer path name = length-append path (name ∷ [])

pub not_told : (t : Bool) (it : Trouble) (rest : Option Trouble) → cond t (Some it) rest ≡ None → t ≡ false
not_told true it rest e = absurd (cc)
not_told false it rest e = refl

-- ---- the entries of an object

abbrev pub FineEntry : ℕ → Entry → Type 0
FineEntry depth (path, File bytes) = (nat_lt 4000 (length (joined path)) ≡ false) × (nat_lt (2 ^ 43) (length bytes) ≡ false)
FineEntry depth (path, Dir inside) = depth + length path ≤ 600
FineEntry depth (path, Other) = ⊤

pub short_enough : (before bytes rest : ℕ) → nat_lt (plus (plus before 1) 4000) bytes ≡ false → bytes ≡ before + suc rest → nat_lt 4000 rest ≡ false
short_enough before bytes rest is whole =
    let most = ltb-false (plus (plus before 1) 4000) bytes is in
    le-ltb 4000 rest (omega (arith, most, whole))

pub files_count : (path : Path) (tree : Forest) → length (files (entries_in path tree)) ≡ file_count tree
files_count path none = refl
files_count path (file name bytes after) = ap suc (files_count path after)
files_count path (other name after) = files_count path after
files_count path (dir name inside after) =
    let here = files_count (path ++ name ∷ []) inside in
    let there = files_count path after in
    let both = ap length (counts (entries_in (path ++ name ∷ []) inside) (entries_in path after)).0 in
    let sum = length-append (files (entries_in (path ++ name ∷ []) inside)) (files (entries_in path after)) in
    omega (arith, here, there, both, sum)

-- ---- the cause against an object

abbrev pub IsNoLimit : Option Cause → Type 0
IsNoLimit why = why ≢ Some cause.Limit

none_is_no_limit : IsNoLimit None
none_is_no_limit e = absurd (cc)

where_false : (t : Bool) → t ≡ false → IsNoLimit (cond t (Some cause.Limit) None)
where_false true is = absurd (cc)
where_false false is = none_is_no_limit

bad_no_limit : (why : Option Cause) (entry : Entry) (later : Option (Entry × Cause)) → IsNoLimit why → IsNoLimit (option_map (λ bad. bad.1) later)
    → IsNoLimit (option_map (λ bad. bad.1) (bad_or why entry later))
bad_no_limit None entry later first rest = rest
bad_no_limit (Some why) entry later first rest = first

pub first_fine : (depth held : ℕ) (all : List Entry) → Each (FineEntry depth) all → held + length (files all) ≤ 1000000
    → IsNoLimit (option_map (λ bad. bad.1) (first_bad greatest_limits depth held all))
first_fine depth held [] fine few = none_is_no_limit
first_fine depth held ((path, File bytes) ∷ others) fine few =
    let full : nat_le 1000000 held ≡ false = lt-leb 1000000 held (omega (arith, few)) in
    let now : (held + 1) + length (files others) ≤ 1000000 = omega (arith, few) in
    let parts = or_from (nat_le 1000000 held || nat_lt 4000 (length (joined path))) (nat_lt (2 ^ 43) (length bytes))
    (or_from (nat_le 1000000 held) (nat_lt 4000 (length (joined path))) full fine.0.0) fine.0.1 in
    bad_no_limit (entry_cause greatest_limits depth held (path, File bytes)) (path, File bytes) (first_bad greatest_limits depth (held + 1) others)
    (where_false ((nat_le 1000000 held || nat_lt 4000 (length (joined path))) || nat_lt (2 ^ 43) (length bytes)) parts)
    (first_fine depth (held + 1) others fine.1 now)
first_fine depth held ((path, Dir inside) ∷ others) fine few =
    bad_no_limit (entry_cause greatest_limits depth held (path, Dir inside)) (path, Dir inside) (first_bad greatest_limits depth held others)
    (where_false (nat_lt 600 (depth + length path)) (le-ltb 600 (depth + length path) fine.0))
    (first_fine depth held others fine.1 few)
first_fine depth held ((path, Other) ∷ others) fine few =
    bad_no_limit (Some cause.Other) (path, Other) (first_bad greatest_limits depth held others) (λ e. absurd (cc)) (first_fine depth held others fine.1 few)

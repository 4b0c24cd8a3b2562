-- How long a path in an object may be where a run makes its file.
use Rattle.std.proofs.Common.{◌≡◌, ◌≤◌, ◌+◌, ◌-◌, ℕ, Bool, true, false, length, List, [], ◌∷◌, ◌++◌, refl, arith, nat_lt}
use Rattle.std.specs.Prelude.{codes}
use Rattle.std.specs.List.{list_all}
use Rattle.std.proofs.lemmas.Bool.{and_parts, le-ltb, lt-ltb, ltb-false, ltb-true}
use Rattle.std.proofs.lemmas.List.{length-append}
use Rattle.pt_host.specs.Room.{RoomIsThatOfStaging, longest_in, made_at}
use Rattle.pt_tree.specs.PathOrder.{is_logical}
use Rattle.pt_tree.specs.Name.{is_name}
use Rattle.pt_tree.specs.Path.{Path, joined}

some_bytes : (name : List ℕ) → is_name name ≡ true → 1 ≤ length name
some_bytes [] is = absurd (cc)
some_bytes (c ∷ name) is = omega arith

long_enough : (logical : Path) → is_logical logical ≡ true → 1 ≤ length (joined logical)
long_enough [] is = absurd (cc)
long_enough (name ∷ []) is = some_bytes name (and_parts (is_name name) true is).0
long_enough (name ∷ next ∷ path) is =
    let whole = length-append name (47 ∷ joined (next ∷ path)) in
    let some = some_bytes name (and_parts (is_name name) (list_all is_name (next ∷ path)) is).0 in
    omega (arith, whole, some)

-- its path in `staging` is longer by the folder's, and by 20
made_length : (dest : List ℕ) (logical : Path) → is_logical logical ≡ true → length (made_at dest logical) ≡ length dest + (20 + length (joined logical))
made_length dest [] is = absurd (cc)
made_length dest (name ∷ path) is =
    let own = joined (name ∷ path) in
    let whole : length (made_at dest (name ∷ path)) ≡ length dest + length (codes "/staging/v1/content/" ++ own) = length-append dest
    (codes "/staging/v1/content/" ++ own) in
    let front : length (codes "/staging/v1/content/" ++ own) ≡ 20 + length own = length-append (codes "/staging/v1/content/") own in
    omega (arith, whole, front)

same_test : (most front own made : ℕ) → made ≡ front + (20 + own) → 1 ≤ own → nat_lt ((most - 20) - front) own ≡ nat_lt most made
same_test most front own made long some = by (nat_lt most made) refl
  where
    by : (t : Bool) → nat_lt most made ≡ t → nat_lt ((most - 20) - front) own ≡ t
    by true over = let more = ltb-true most made over in lt-ltb ((most - 20) - front) own (omega (arith, more, long, some))
    by false under = let less = ltb-false most made under in le-ltb ((most - 20) - front) own (omega (arith, less, long, some))

pub is_that : RoomIsThatOfStaging
is_that dest layout logical is =
    same_test (longest_in layout) (length dest) (length (joined logical)) (length (made_at dest logical)) (made_length dest logical is) (long_enough logical is)

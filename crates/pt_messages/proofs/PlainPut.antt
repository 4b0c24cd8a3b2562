-- What is put into an object with no float leaves it so.
use Rattle.std.proofs.Common.{◌≡◌, ℕ, List, ◌∷◌, [], BTreeMap, Bool, true, false, ◌||◌, Ordering, Less, Equal, Greater, Some}
use Rattle.std.proofs.Common.{Result, Ok, Err, OnOk, OnErr, String, Global, map, not, refl}
use Rattle.std.specs.Cmp.Lexicographic.{slice_cmp}
use Rattle.std.specs.Ordering.{match_ordering, nat_cmp}
use Rattle.serde_json.proofs.Views.{view-Object}
use Rattle.serde_json.specs.Data.{Data, null, boolean, number, string, array, object, Members, no_members, member, put}
use Rattle.serde_json.specs.Find.{as_object}
use Rattle.serde_json.specs.View.{items_of, members_view, view}
use Rattle.serde_json.specs.Written.{has_float, items_have_float, members_have_float}
use Rattle.serde_json.specs.declared.value.Value.{Value, Object}
use Rattle.std.specs.declared.alloc.AllocError.{AllocError}
use Rattle.pt_messages.specs.Plain.{is_plain}

left_false : (a b : Bool) → (a || b) ≡ false → a ≡ false
left_false true b is = is
left_false false b is = refl

right_false : (a b : Bool) → (a || b) ≡ false → b ≡ false
right_false true b is = absurd (cc)
right_false false b is = is

put_at : (o : Ordering) (k l : List ℕ) (d e : Data) (more later : Members) → has_float d ≡ false → has_float e ≡ false
    → members_have_float more ≡ false → members_have_float later ≡ false
    → members_have_float (match_ordering o (member k d (member l e more)) (member l d more) (member l e later)) ≡ false
put_at Less k l d e more later is other rest put = rw (is, other, rest)
put_at Equal k l d e more later is other rest put = rw (is, rest)
put_at Greater k l d e more later is other rest put = rw (other, put)

-- the members with one more that has none
pub put_plain : (k : List ℕ) (d : Data) (all : Members) → has_float d ≡ false → members_have_float all ≡ false
    → members_have_float (put k d all) ≡ false
put_plain k d no_members is rest = rw is
put_plain k d (member l e more) is rest =
    put_at (slice_cmp nat_cmp k l) k l d e more (put k d more) is (left_false _ _ rest) (right_false _ _ rest)
    (put_plain k d more is (right_false _ _ rest))

not_true : (b : Bool) → not b ≡ true → b ≡ false
not_true true is = absurd (cc)
not_true false is = refl

-- an object's members
pub plain_members : (d : Data) (found : Members) → is_plain d ≡ true → Some found ≡ as_object d → members_have_float found ≡ false
plain_members null found plain is = absurd (cc)
plain_members (boolean b) found plain is = absurd (cc)
plain_members (number n) found plain is = absurd (cc)
plain_members (string s) found plain is = absurd (cc)
plain_members (array items) found plain is = absurd (cc)
plain_members (object there) found plain is = let same : found ≡ there = cc in rw same (not_true _ plain)

-- a map into which a value was put, or not
pub plain_after : (result : Result (Unit {0}) AllocError) (key : List ℕ) (d : Data) (old new : BTreeMap (String Global) Value)
    → OnOk result (members_view new.entries ≡ put key d (members_view old.entries)) → OnErr result (new.entries ≡ old.entries)
    → has_float d ≡ false → members_have_float (members_view old.entries) ≡ false → is_plain (view (Object new)) ≡ true
plain_after (Ok done) key d old new is same plain before =
    rw (view-Object new, is, put_plain key d (members_view old.entries) plain before)
plain_after (Err error) key d old new is same plain before = rw (view-Object new, same, before)

-- texts have none
pub plain_texts : (texts : List (List ℕ)) → items_have_float (items_of (map string texts)) ≡ false
plain_texts [] = refl
plain_texts (text ∷ texts) = plain_texts texts

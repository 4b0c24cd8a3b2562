-- A site whose identifier is too long for it to be listed.
use Rattle.std.proofs.Common.{◌≡◌, ◌*◌, ◌/◌, ◌≤◌, ℕ, Bool, true, false, List, [], ◌∷◌, ap, sym, cond, length, nat_lt, arith, ◌==◌}
use Rattle.std.proofs.lemmas.Bool.Decides.{nat_tests}
use Rattle.std.proofs.lemmas.List.{length-append}
use Rattle.std.specs.Prelude.{◌&&◌, ◌||◌, not}
use Rattle.pt_audit.specs.Twin.{has_object_in, object_stands, proper_site}
use Rattle.pt_name.specs.Clean.{caret_spelling, clean_spelling, cleaned, is_reserved, pieces_of_two}
use Rattle.pt_plan.specs.Job.{Job}
use Rattle.pt_plan.specs.TurnWalk.{in_pairtree}
use Rattle.pt_tree.specs.Forest.{Forest, dir_at}

some_by : (b : Bool) (x y : List ℕ) → 1 ≤ length x → 1 ≤ length y → 1 ≤ length (cond b x y)
some_by true x y h k = h
some_by false x y h k = k

some_spelled : (byte : ℕ) → 1 ≤ length (clean_spelling byte)
some_spelled byte =
    some_by (byte == 47) _ _ (omega arith) (some_by (byte == 58) _ _ (omega arith) (some_by (byte == 46) _ _ (omega arith)
    (some_by (nat_lt byte 33 || nat_lt 126 byte || is_reserved byte) (caret_spelling byte) (byte ∷ []) (omega arith) (omega arith))))

no_shorter : (id : List ℕ) → length id ≤ length (cleaned id)
no_shorter [] = omega arith
no_shorter (byte ∷ id) = omega (arith, length-append (clean_spelling byte) (cleaned id), some_spelled byte, no_shorter id)

in_twos : (text : List ℕ) → length text ≤ 2 * length (pieces_of_two text)
in_twos [] = omega arith
in_twos (first ∷ []) = omega arith
in_twos (first ∷ second ∷ rest) = omega (arith, in_twos rest)

-- an identifier with more bytes than two for each folder of the deepest path that is listed has a site that isn't
pub is_deep : (id : List ℕ) (depth : ℕ) → nat_lt depth (length id / 2) ≡ true → nat_lt depth (length (proper_site id)) ≡ true
is_deep id depth h = grind (arith, nat_tests, no_shorter id, in_twos (cleaned id))

-- so no object stands there
pub none_so_deep : (job : Job) (source : Forest) (id : List ℕ) → nat_lt job.limits.depth (length id / 2) ≡ true
    → false ≡ object_stands job source (proper_site id)
none_so_deep job source id h =
    let there = dir_at source (in_pairtree (proper_site id)) in
    sym (ap (λ (t : Bool). not t && has_object_in job (proper_site id) there) (is_deep id job.limits.depth h))

-- What the state of an inventory claims for the files of which it was made.
use Rattle.std.proofs.Common.{◌≡◌, ℕ, List, [], ◌∷◌, ◌++◌, fold, Bool, true, false, refl, sym, ◌∙◌, ap, subst, inl, inr}
use Rattle.std.specs.Prelude.{All, cond, ◌||◌, ◌⊎◌, filter, map, Ok, Option, Some, None}
use Rattle.std.specs.List.{list_any}
use Rattle.std.specs.Option.{option_and_then}
use Rattle.std.specs.Result.{result_ok}
use Rattle.std.specs.Str.{bytes_eq}
use Rattle.std.specs.declared.cmp.Ordering.{Ordering}
use Rattle.std.specs.declared.cmp.Ordering.TheVariants.{Less, Equal, Greater}
use Rattle.std.specs.Ordering.{is_eq, nat_cmp, match_ordering}
use Rattle.std.specs.Cmp.Lexicographic.{slice_cmp}
use Rattle.std.proofs.lemmas.Bool.{true≢false, false≢true, cases_Bool}
use Rattle.std.proofs.lemmas.Map.Text.{is_eq-slice_cmp}
use Rattle.std.proofs.lemmas.List.Elements.{All-head, All-tail}
use Rattle.hex.specs.Hex.{encode_lower}
use Rattle.hex.proofs.HexLemmas.{decode_sized-encode_lower}
use Rattle.serde_json.specs.Data.{Data, array, Members, no_members, member, put}
use Rattle.serde_json.specs.Find.{as_array}
use Rattle.serde_json.proofs.Views.{get_member-put, get_member-put_other}
use Rattle.pt_tree.specs.Path.{joined}
use Rattle.pt_tree.proofs.Names.{name_itself, same_name}
use Rattle.pt_object.specs.Distinct.{content_of_row, distinct_after}
use Rattle.pt_object.specs.HexDigest.{IsDigest, hex_digest, if_hex_is}
use Rattle.pt_object.specs.Inventory.{paths_with, put_paths, state_members, texts}
use Rattle.pt_object.specs.declared.algorithm.Algorithm.{Algorithm}
use Rattle.pt_object.specs.declared.rows.Row.{Row}
use Rattle.pt_object.proofs.Groups.{has_key, has_key-member}
use Rattle.pt_object.proofs.Manifests.{has, has-push}
use Rattle.pt_quick.specs.Claimed.{Claimed, claims_after, no_claims, with_items, with_list, with_member, with_text}

-- ---- digests in hex

-- a digest is read from its hex
pub hex_back : (algorithm : Algorithm) (digest : List ℕ) → IsDigest algorithm digest → hex_digest algorithm (encode_lower digest) ≡ Some digest
hex_back algorithm digest is =
    ap (λ r. option_and_then (if_hex_is (encode_lower digest)) (result_ok r)) (decode_sized-encode_lower digest _ is.size is.bytes)
    ∙ ap (λ b. cond b (Some digest) None) (name_itself (encode_lower digest))

-- so different digests have different ones
one_hex : (algorithm : Algorithm) (a b : List ℕ) → IsDigest algorithm a → IsDigest algorithm b → bytes_eq a b ≡ false
    → bytes_eq (encode_lower a) (encode_lower b) ≡ false
one_hex algorithm a b is_a is_b apart = by (bytes_eq (encode_lower a) (encode_lower b)) refl
  where
    by : (t : Bool) → bytes_eq (encode_lower a) (encode_lower b) ≡ t → t ≡ false
    by false is = refl
    by true is =
        let found : Some a ≡ Some b = sym (hex_back algorithm a is_a) ∙ ap (hex_digest algorithm) (same_name (encode_lower a) (encode_lower b) is)
        ∙ hex_back algorithm b is_b in
        let same : a ≡ b = cc in
        absurd (true≢false (sym (ap (bytes_eq a) (sym same) ∙ name_itself a) ∙ apart))

-- ---- the groups of a state

-- the paths under the key are those of the rows with one digest
record IsGroup (algorithm : Algorithm) (rows : List Row) (key : List ℕ) (d : Data) : Type 0 where
  digest : List ℕ
  is : IsDigest algorithm digest
  keyed : key ≡ encode_lower digest
  paths : d ≡ array (texts (map joined (paths_with rows digest)))

abbrev AreGroups : Algorithm → List Row → Members → Type 0
AreGroups algorithm rows no_members = Unit {0}
AreGroups algorithm rows (member key d ms) = IsGroup algorithm rows key d × AreGroups algorithm rows ms

groups_put : (algorithm : Algorithm) (rows : List Row) (key : List ℕ) (d : Data) (ms : Members) → IsGroup algorithm rows key d → AreGroups algorithm rows ms
    → AreGroups algorithm rows (put key d ms)
groups_put algorithm rows key d no_members is groups = (is, tt)
groups_put algorithm rows key d (member l e ms) is groups = by (slice_cmp nat_cmp key l) refl (groups_put algorithm rows key d ms is groups.1)
  where
    by : (o : Ordering) → slice_cmp nat_cmp key l ≡ o → AreGroups algorithm rows (put key d ms)
        → AreGroups algorithm rows (match_ordering o (member key d (member l e ms)) (member l d ms) (member l e (put key d ms)))
    by Less at later = (is, groups)
    by Equal at later =
        (subst (λ (k : List ℕ). IsGroup algorithm rows k d) (same_name key l (sym (is_eq-slice_cmp key l) ∙ ap is_eq at)) is, groups.1)
    by Greater at later = (groups.0, later)

-- the state goes on so for some rows after some others
abbrev state_after : List Row → List Row → List Row → Members → Members
state_after rows earlier some ms = fold (put_paths rows) ms (map content_of_row (distinct_after earlier some))

groups_after : (algorithm : Algorithm) (rows earlier some : List Row) (ms : Members) → All (λ row. IsDigest algorithm row.digest) some
    → AreGroups algorithm rows ms → AreGroups algorithm rows (state_after rows earlier some ms)
groups_after algorithm rows earlier [] ms are groups = groups
groups_after algorithm rows earlier (x ∷ some) ms are groups =
    let later = All-tail (λ row. IsDigest algorithm row.digest) x some are in
    by (has x.digest earlier)
    (groups_after algorithm rows (earlier ++ x ∷ []) some ms later groups)
    (groups_after algorithm rows (earlier ++ x ∷ []) some (put_paths rows ms (content_of_row x)) later
    (groups_put algorithm rows (encode_lower x.digest) _ ms
    (record { digest = x.digest; is = All-head (λ row. IsDigest algorithm row.digest) x some are; keyed = refl; paths = refl }) groups))
  where
    by : (t : Bool) → AreGroups algorithm rows (state_after rows (earlier ++ x ∷ []) some ms)
        → AreGroups algorithm rows (state_after rows (earlier ++ x ∷ []) some (put_paths rows ms (content_of_row x)))
        → AreGroups algorithm rows (fold (put_paths rows) ms
        (map content_of_row (cond t (distinct_after (earlier ++ x ∷ []) some) (x ∷ distinct_after (earlier ++ x ∷ []) some))))
    by true same later = same
    by false same later = later

-- ---- which keys there are

has_key-put : (k : List ℕ) (d : Data) (ms : Members) → has_key k (put k d ms) ≡ true
has_key-put k d ms = ap Rattle.std.specs.Prelude.is_some (get_member-put k d ms)

still_key : (q k : List ℕ) (d : Data) (ms : Members) → has_key q ms ≡ true → has_key q (put k d ms) ≡ true
still_key q k d ms h = by (bytes_eq q k) refl
  where
    by : (t : Bool) → bytes_eq q k ≡ t → has_key q (put k d ms) ≡ true
    by true same = ap (λ (x : List ℕ). has_key x (put k d ms)) (same_name q k same) ∙ has_key-put k d ms
    by false other = ap Rattle.std.specs.Prelude.is_some
        (get_member-put_other q k d ms (λ e. true≢false (sym (ap (bytes_eq q) (sym e) ∙ name_itself q) ∙ other))) ∙ h

key_of_one : (a b c : Bool) → (a || (b || c)) ≡ true → ((a || b) || c) ≡ true
key_of_one true b c h = refl
key_of_one false b c h = h

nothing_more : (a : Bool) → (a || false) ≡ true → a ≡ true
nothing_more true h = refl
nothing_more false h = h

-- each digest of the rows, and each that the earlier ones have, is a key of the state
keys_after : (rows : List Row) (digest : List ℕ) (earlier some : List Row) (ms : Members)
    → (has digest earlier ≡ true → has_key (encode_lower digest) ms ≡ true)
    → (has digest earlier || has digest some) ≡ true → has_key (encode_lower digest) (state_after rows earlier some ms) ≡ true
keys_after rows digest earlier [] ms so_far h = so_far (nothing_more (has digest earlier) h)
keys_after rows digest earlier (x ∷ some) ms so_far h =
    by (has x.digest earlier) refl
    (λ ms' so. keys_after rows digest (earlier ++ x ∷ []) some ms' so
    (ap (λ b. b || has digest some) (has-push digest earlier x)
    ∙ key_of_one (has digest earlier) (bytes_eq x.digest digest) (has digest some) h))
  where
    known : has x.digest earlier ≡ true → has digest (earlier ++ x ∷ []) ≡ true → has_key (encode_lower digest) ms ≡ true
    known is now = elim (cases_Bool (bytes_eq x.digest digest)) [
      | inl same ↦ so_far (ap (λ (d : List ℕ). has d earlier) (sym (same_name _ _ same)) ∙ is)
      | inr other ↦ so_far (nothing_more (has digest earlier) (ap (λ b. has digest earlier || b) (sym other)
          ∙ sym (has-push digest earlier x) ∙ now))
    ]

    added : has digest (earlier ++ x ∷ []) ≡ true → has_key (encode_lower digest) (put_paths rows ms (content_of_row x)) ≡ true
    added now = elim (cases_Bool (bytes_eq x.digest digest)) [
      | inl same ↦
          ap (λ (d : List ℕ). has_key (encode_lower d) (put_paths rows ms (content_of_row x))) (sym (same_name _ _ same))
          ∙ has_key-put (encode_lower x.digest) _ ms
      | inr other ↦
          still_key (encode_lower digest) (encode_lower x.digest) _ ms
          (so_far (nothing_more (has digest earlier) (ap (λ b. has digest earlier || b) (sym other) ∙ sym (has-push digest earlier x) ∙ now)))
    ]

    by : (t : Bool) → has x.digest earlier ≡ t
        → ((ms' : Members) → (has digest (earlier ++ x ∷ []) ≡ true → has_key (encode_lower digest) ms' ≡ true)
        → has_key (encode_lower digest) (state_after rows (earlier ++ x ∷ []) some ms') ≡ true)
        → has_key (encode_lower digest) (fold (put_paths rows) ms
        (map content_of_row (cond t (distinct_after (earlier ++ x ∷ []) some) (x ∷ distinct_after (earlier ++ x ∷ []) some)))) ≡ true
    by true is later = later ms (known is)
    by false is later = later (put_paths rows ms (content_of_row x)) added

-- ---- what a group claims

-- this text is one of these
abbrev pub is_one_of : List ℕ → List (List ℕ) → Bool
is_one_of text list = list_any (λ one. bytes_eq one text) list

claims_of_items : (digest text : List ℕ) (list : List (List ℕ)) (claims : Claimed)
    → with_items digest (texts list) claims text ≡ cond (is_one_of text list) (Some digest) (claims text)
claims_of_items digest text [] claims = refl
claims_of_items digest text (one ∷ list) claims =
    claims_of_items digest text list (with_text digest (Some one) claims) ∙ by (bytes_eq one text) (is_one_of text list)
  where
    by : (a b : Bool) → cond b (Some digest) (cond a (Some digest) (claims text)) ≡ cond (a || b) (Some digest) (claims text)
    by true true = refl
    by true false = refl
    by false true = refl
    by false false = refl

claims_of_group : (algorithm : Algorithm) (rows : List Row) (key : List ℕ) (d : Data) (claims : Claimed) (text : List ℕ)
    (group : IsGroup algorithm rows key d) → with_member algorithm key d claims text
    ≡ cond (is_one_of text (map joined (paths_with rows group.digest))) (Some group.digest) (claims text)
claims_of_group algorithm rows key d claims text group =
    ap (λ (k : List ℕ). with_member algorithm k d claims text) group.keyed
    ∙ ap (λ o. with_list o (as_array d) claims text) (hex_back algorithm group.digest group.is)
    ∙ ap (λ (e : Data). with_list (Some group.digest) (as_array e) claims text) group.paths
    ∙ claims_of_items group.digest text (map joined (paths_with rows group.digest)) claims

-- of one text, which the group of one digest alone has, that digest is claimed
module _ (algorithm : Algorithm) (rows : List Row) (text digest : List ℕ) (is : IsDigest algorithm digest)
    (alone : (other : List ℕ) → is_one_of text (map joined (paths_with rows other)) ≡ bytes_eq other digest) where
  claims_come : (ms : Members) (claims : Claimed) → AreGroups algorithm rows ms
      → (has_key (encode_lower digest) ms ≡ true) ⊎ (claims text ≡ Some digest) → claims_after algorithm ms claims text ≡ Some digest
  claims_come no_members claims groups (inl key) = absurd (false≢true key)
  claims_come no_members claims groups (inr held) = held
  claims_come (member key d ms) claims groups so_far =
      by (bytes_eq groups.0.digest digest) refl
      (claims_of_group algorithm rows key d claims text groups.0
      ∙ ap (λ b. cond b (Some groups.0.digest) (claims text)) (alone groups.0.digest)) so_far
      (λ more. claims_come ms (with_member algorithm key d claims) groups.1 more)
    where
      by : (t : Bool) → bytes_eq groups.0.digest digest ≡ t
          → with_member algorithm key d claims text ≡ cond (bytes_eq groups.0.digest digest) (Some groups.0.digest) (claims text)
          → (has_key (encode_lower digest) (member key d ms) ≡ true) ⊎ (claims text ≡ Some digest)
          → ((has_key (encode_lower digest) ms ≡ true) ⊎ (with_member algorithm key d claims text ≡ Some digest)
          → claims_after algorithm ms (with_member algorithm key d claims) text ≡ Some digest)
          → claims_after algorithm ms (with_member algorithm key d claims) text ≡ Some digest
      by true same here so_far later =
          later (inr (here ∙ ap (λ b. cond b (Some groups.0.digest) (claims text)) same
          ∙ ap (λ (x : List ℕ). Some x) (same_name groups.0.digest digest same)))
      by false other here (inr held) later =
          later (inr (here ∙ ap (λ b. cond b (Some groups.0.digest) (claims text)) other ∙ held))
      by false other here (inl keyed) later =
          later (inl (ap (λ b. b || has_key (encode_lower digest) ms)
          (sym (ap (λ (k : List ℕ). bytes_eq k (encode_lower digest)) groups.0.keyed ∙ one_hex algorithm groups.0.digest digest groups.0.is is other))
          ∙ sym (has_key-member (encode_lower digest) key d ms) ∙ keyed))

  pub claim_comes : All (λ row. IsDigest algorithm row.digest) rows → has digest rows ≡ true
      → claims_after algorithm (state_members rows) no_claims text ≡ Some digest
  claim_comes are known =
      claims_come (state_members rows) no_claims (groups_after algorithm rows [] rows no_members are tt)
      (inl (keys_after rows digest [] rows no_members (λ h. absurd (false≢true h)) known))

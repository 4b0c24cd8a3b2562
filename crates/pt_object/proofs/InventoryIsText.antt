-- The text of an inventory is UTF-8 where the texts in it are.
use Rattle.std.proofs.Common.{◌≡◌, ◌<◌, ltb-true, nat_lt, ℕ, List, [], ◌∷◌, ◌++◌, Bool, true, false, refl}
use Rattle.std.specs.Prelude.{All, IfSome, Option, None, Some, codes, cond, filter, fold, map, ⊤}
use Rattle.std.specs.List.{list_any}
use Rattle.std.specs.Ordering.{match_ordering, nat_cmp}
use Rattle.std.specs.Cmp.Lexicographic.{slice_cmp}
use Rattle.std.specs.Str.{IsUtf8}
use Rattle.std.specs.declared.cmp.Ordering.{Ordering}
use Rattle.std.specs.declared.cmp.Ordering.TheVariants.{Less, Equal, Greater}
use Rattle.std.proofs.lemmas.List.Elements.{All-cons, All-filter, All-head, All-map, All-nil, All-tail}
use Rattle.std.proofs.lemmas.Bool.{and_parts}
use Rattle.std.proofs.lemmas.Str.{IsUtf8-append, IsUtf8-from_ascii}
use Rattle.std.proofs.lemmas.Str.Ascii.{IsAscii-from_all}
use Rattle.hex.specs.Hex.{encode_lower, lower_digits}
use Rattle.hex.proofs.HexLemmas.{IsAscii-encode_with}
use Rattle.json.proofs.Printed.Utf8.{are_ascii, IsUtf8-are_ascii, IsUtf8-boolean, IsUtf8-quoted}
use Rattle.serde_json.specs.Data.{Data, null, boolean, number, string, array, object, Items, no_items, item, Members, no_members, member, put}
use Rattle.serde_json.specs.Written.{comma_if, compact_text, items_text, members_text}
use Rattle.pt_object.specs.Algorithm.{algorithm_word}
use Rattle.pt_object.specs.Distinct.{content_of_row, distinct, distinct_after, row_has_digest}
use Rattle.pt_object.specs.Inventory.{
  inventory_text,
  inventory_tree,
  manifest_members,
  paths_with,
  put_content,
  put_paths,
  state_members,
  texts,
  user_tree,
  version_tree,
}
use Rattle.pt_object.specs.MetaParts.{AreTexts, MetaParts}
use Rattle.pt_object.specs.declared.algorithm.Algorithm.{Algorithm}
use Rattle.pt_object.specs.declared.algorithm.Algorithm.TheVariants as algorithm
use Rattle.pt_object.specs.declared.table.contents.Content.{Content}
use Rattle.pt_object.specs.declared.rows.Row.{Row}
use Rattle.pt_tree.specs.Path.{joined}

-- ---- any JSON without numbers

abbrev mutual
  HasTexts : Data → Type 0
  HasTexts null = ⊤
  HasTexts (boolean b) = ⊤
  HasTexts (number n) = ⊥
  HasTexts (string s) = IsUtf8 s
  HasTexts (array ds) = ItemsHaveTexts ds
  HasTexts (object ms) = MembersHaveTexts ms

  ItemsHaveTexts : Items → Type 0
  ItemsHaveTexts no_items = ⊤
  ItemsHaveTexts (item d ds) = HasTexts d × ItemsHaveTexts ds

  MembersHaveTexts : Members → Type 0
  MembersHaveTexts no_members = ⊤
  MembersHaveTexts (member k d ms) = IsUtf8 k × HasTexts d × MembersHaveTexts ms

comma : (later : Bool) → IsUtf8 (comma_if later)
comma true = IsUtf8-are_ascii (44 ∷ []) refl
comma false = IsUtf8-are_ascii [] refl

byte_then : (x : ℕ) (xs : List ℕ) → IsUtf8 (x ∷ []) → IsUtf8 xs → IsUtf8 (x ∷ xs)
byte_then x xs one later = IsUtf8-append (x ∷ []) xs one later

mutual
  of_data : (d : Data) → HasTexts d → IsUtf8 (compact_text d)
  of_data null has = IsUtf8-are_ascii _ refl
  of_data (boolean b) has = IsUtf8-boolean b
  of_data (number n) has = absurd has
  of_data (string s) has = IsUtf8-quoted s has
  of_data (array ds) has = byte_then 91 (items_text false ds) (IsUtf8-are_ascii (91 ∷ []) refl) (of_items false ds has)
  of_data (object ms) has = byte_then 123 (members_text false ms) (IsUtf8-are_ascii (123 ∷ []) refl) (of_members false ms has)

  of_items : (later : Bool) (ds : Items) → ItemsHaveTexts ds → IsUtf8 (items_text later ds)
  of_items later no_items has = IsUtf8-are_ascii (93 ∷ []) refl
  of_items later (item d ds) has = IsUtf8-append (comma_if later) (compact_text d ++ items_text true ds) (comma later)
      (IsUtf8-append (compact_text d) (items_text true ds) (of_data d has.0) (of_items true ds has.1))

  of_members : (later : Bool) (ms : Members) → MembersHaveTexts ms → IsUtf8 (members_text later ms)
  of_members later no_members has = IsUtf8-are_ascii (125 ∷ []) refl
  of_members later (member k d ms) has =
      IsUtf8-append (comma_if later) _ (comma later)
      (IsUtf8-append _ _ (IsUtf8-quoted k has.0)
      (byte_then 58 (compact_text d ++ members_text true ms) (IsUtf8-are_ascii (58 ∷ []) refl)
      (IsUtf8-append (compact_text d) (members_text true ms) (of_data d has.1) (of_members true ms has.2))))

-- ---- members that are put one after another

put_has : (k : List ℕ) (d : Data) (ms : Members) → IsUtf8 k → HasTexts d → MembersHaveTexts ms → MembersHaveTexts (put k d ms)
put_has k d no_members key value has = (key, value, tt)
put_has k d (member l e ms) key value has = by (slice_cmp nat_cmp k l) (put_has k d ms key value has.2)
  where
    by : (o : Ordering) → MembersHaveTexts (put k d ms) → MembersHaveTexts
        (match_ordering o (member k d (member l e ms)) (member l d ms) (member l e (put k d ms)))
    by Less later = (key, value, has)
    by Equal later = (has.0, value, has.2)
    by Greater later = (has.0, has.1, later)

folded : (f : Members → Content → Members) (P : Content → Type 0) → ((ms : Members) (c : Content) → P c → MembersHaveTexts ms → MembersHaveTexts (f ms c))
    → (ms : Members) (contents : List Content) → All P contents → MembersHaveTexts ms → MembersHaveTexts (fold f ms contents)
folded f P one ms [] all has = has
folded f P one ms (c ∷ contents) all has = folded f P one (f ms c) contents (All-tail P c contents all) (one ms c (All-head P c contents all) has)

of_texts : (list : List (List ℕ)) → All IsUtf8 list → ItemsHaveTexts (texts list)
of_texts [] all = tt
of_texts (text ∷ list) all = (All-head IsUtf8 text list all, of_texts list (All-tail IsUtf8 text list all))

-- what holds of all rows holds of the distinct ones
all_distinct : (P : Row → Type 0) (earlier rows : List Row) → All P rows → All P (distinct_after earlier rows)
all_distinct P earlier [] all = All-nil P
all_distinct P earlier (row ∷ rows) all = by (list_any (row_has_digest row.digest) earlier)
    (all_distinct P (earlier ++ row ∷ []) rows (All-tail P row rows all))
  where
    by : (t : Bool) → All P (distinct_after (earlier ++ row ∷ []) rows)
        → All P (cond t (distinct_after (earlier ++ row ∷ []) rows) (row ∷ distinct_after (earlier ++ row ∷ []) rows))
    by true later = later
    by false later = All-cons P row (distinct_after (earlier ++ row ∷ []) rows) (All-head P row rows all) later

all_below : (xs : List ℕ) → are_ascii xs ≡ true → All (λ b. b < 128) xs
all_below [] test = All-nil (λ b. b < 128)
all_below (x ∷ xs) test = let both = and_parts (nat_lt x 128) (are_ascii xs) test in All-cons (λ b. b < 128) x xs (ltb-true x 128 both.0) (all_below xs both.1)

pub digest_is_text : (digest : List ℕ) → IsUtf8 (encode_lower digest)
digest_is_text digest = IsUtf8-from_ascii _ (IsAscii-encode_with lower_digits digest (IsAscii-from_all lower_digits (all_below lower_digits refl)))

-- ---- an inventory

module _ (id : List ℕ) (rows : List Row) (meta : MetaParts) (by : Algorithm) (is_id : IsUtf8 id) (paths : All (λ row. IsUtf8 (joined row.path)) rows)
    (described : AreTexts meta) where
  word_is_text : (a : Algorithm) → IsUtf8 (algorithm_word a)
  word_is_text algorithm.Sha512 = IsUtf8-are_ascii _ refl
  word_is_text algorithm.Sha256 = IsUtf8-are_ascii _ refl

  manifest : MembersHaveTexts (manifest_members rows)
  manifest = folded put_content (λ content. IsUtf8 (joined content.path)) one no_members (map content_of_row (distinct rows))
      (All-map (λ content. IsUtf8 (joined content.path)) content_of_row (distinct rows) (all_distinct (λ row. IsUtf8 (joined row.path)) [] rows paths)) tt
    where
      one : (ms : Members) (c : Content) → IsUtf8 (joined c.path) → MembersHaveTexts ms → MembersHaveTexts (put_content ms c)
      one ms c path has = put_has (encode_lower c.digest) _ ms (digest_is_text c.digest)
          (IsUtf8-append (codes "v1/content/") (joined c.path) (IsUtf8-are_ascii _ refl) path, tt) has

  state : MembersHaveTexts (state_members rows)
  state = folded (put_paths rows) (λ content. ⊤) one no_members (map content_of_row (distinct rows)) (λ k d h. tt) tt
    where
      with_digest : (digest : List ℕ) → All IsUtf8 (map joined (paths_with rows digest))
      with_digest digest =
          All-map IsUtf8 joined (paths_with rows digest)
          (All-map (λ path. IsUtf8 (joined path)) (λ (row : Row). row.path) (filter (row_has_digest digest) rows)
          (All-filter (row_has_digest digest) (λ row. IsUtf8 (joined row.path)) rows paths))

      one : (ms : Members) (c : Content) → ⊤ → MembersHaveTexts ms → MembersHaveTexts (put_paths rows ms c)
      one ms c path has = put_has (encode_lower c.digest) _ ms (digest_is_text c.digest)
          (of_texts (map joined (paths_with rows c.digest)) (with_digest c.digest)) has

  user : (address : Option (List ℕ)) → IfSome address IsUtf8 → HasTexts (user_tree address meta.name)
  user None is = (IsUtf8-are_ascii _ refl, described.name, tt)
  user (Some address) is = (IsUtf8-are_ascii _ refl, is, (IsUtf8-are_ascii _ refl, described.name, tt))

  version : HasTexts (version_tree meta (object (state_members rows)))
  version =
      let who = user meta.address described.address in (
        IsUtf8-are_ascii _ refl,
        described.created,
        (
          IsUtf8-are_ascii _ refl,
          described.message,
          (IsUtf8-are_ascii _ refl, state, (IsUtf8-are_ascii _ refl, who, tt)),
        ),
      )

  versions : HasTexts (object (member (codes "v1") (version_tree meta (object (state_members rows))) no_members))
  versions = (IsUtf8-are_ascii _ refl, version, tt)

  tree : HasTexts (inventory_tree id rows meta by)
  tree = (
    IsUtf8-are_ascii _ refl,
    word_is_text by,
    (
      IsUtf8-are_ascii _ refl,
      IsUtf8-are_ascii _ refl,
      (
        IsUtf8-are_ascii _ refl,
        is_id,
        (
          IsUtf8-are_ascii _ refl,
          manifest,
          (IsUtf8-are_ascii _ refl, IsUtf8-are_ascii _ refl, (IsUtf8-are_ascii _ refl, versions, tt)),
        ),
      ),
    ),
  )

  pub inventory_is_text : IsUtf8 (inventory_text id rows meta by)
  inventory_is_text = of_data (inventory_tree id rows meta by) tree

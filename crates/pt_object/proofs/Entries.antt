-- The tokens of members that come in the order of their digests.
use Rattle.std.proofs.Common.{
  ◌≡◌,
  ℕ,
  zero,
  suc,
  zero-add,
  ◌+◌,
  ◌<◌,
  ◌≤◌,
  List,
  [],
  ◌∷◌,
  ◌++◌,
  length,
  get_or,
  fold,
  map,
  take,
  refl,
  sym,
  ◌∙◌,
  ap,
  arith,
  append_assoc,
  append-nil,
  drop,
}
use Rattle.std.specs.Prelude.{slice_index}
use Rattle.std.specs.List.{flat_map}
use Rattle.std.proofs.Math.Nat.{suc-add}
use Rattle.std.proofs.Math.Seq.{drop-nil}
use Rattle.std.proofs.lemmas.Grind.{flat_map-append}
use Rattle.std.proofs.lemmas.List.{get_or-drop, get_or_default, length-drop, map-append, map_push, take-append-drop, take_more}
use Rattle.json.specs.Token.{Token, begin_object, end_array, end_object}
use Rattle.json.specs.Token as token
use Rattle.json.specs.Tree.{items_tokens, members_tokens}
use Rattle.serde_json.specs.Data.{Data, no_members, object}
use Rattle.serde_json.specs.Written.{items_outline, members_outline}
use Rattle.pt_object.specs.Index.{IsIndex}
use denote.Ref.{Bor}
use Rattle.pt_tree.specs.Path.{Path, joined}
use Rattle.pt_object.specs.Inventory.{texts}
use Rattle.pt_object.specs.Tokens.{tokens_of}
use Rattle.pt_object.specs.declared.table.contents.Content.{Content}
use Rattle.pt_object.specs.Entries.{at_positions, entries, entry, no_content}
use Rattle.pt_object.proofs.Sorted.{AreBytes, members_by, put_by, put_in_order}
use Rattle.pt_object.proofs.Texts.{Rises}

drop-drop : {A : Type 0} (m n : ℕ) (xs : List A) → drop n (drop m xs) ≡ drop (m + n) xs
drop-drop zero n xs = ap (λ (k : ℕ). drop k xs) (sym (zero-add n))
drop-drop (suc m) n [] = drop-nil n ∙ sym (drop-nil (suc m + n))
drop-drop (suc m) n (x ∷ xs) = drop-drop m n xs ∙ ap (λ (k : ℕ). drop k (x ∷ xs)) (sym (suc-add m n))

tokens_by : (f : Content → Data) (xs : List Content) → members_tokens (members_outline (members_by f xs)) ≡ flat_map (entry f) xs ++ end_object ∷ []
tokens_by f [] = refl
tokens_by f (x ∷ xs) =
    ap (λ (l : List Token). entry f x ++ l) (tokens_by f xs) ∙ sym (append_assoc (entry f x) (flat_map (entry f) xs) (end_object ∷ []))

-- one more
entries_more : (f : Content → Data) (items : List Content) (index : List ℕ) (place position : ℕ) (x : Content)
    → place < length index → position ≡ slice_index index place → x ≡ get_or items position no_content
    → entries f items (take (place + 1) index) ≡ entries f items (take place index) ++ entry f x
entries_more f items index place position x within at is =
    let last : take (place + 1) index ≡ take place index ++ position ∷ [] = take_more index place 0 within
    ∙ ap (λ (p : ℕ). take place index ++ p ∷ []) (sym at) in
    ap (λ (l : List ℕ). entries f items l) last
    ∙ ap (flat_map (entry f)) (map_push (λ (p : ℕ). get_or items p no_content) (take place index) position)
    ∙ flat_map-append (entry f) (at_positions items (take place index)) (get_or items position no_content ∷ [])
    ∙ ap (λ (l : List Token). entries f items (take place index) ++ l) (append-nil (entry f (get_or items position no_content)))
    ∙ ap (λ (c : Content). entries f items (take place index) ++ entry f c) (sym is)

pub in_items : (items : List Content) (index : List ℕ) (place position : ℕ) → IsIndex items index → place < length items → position ≡ slice_index index place
    → position < length items
in_items items index place position ordered within at =
    let inside : place < length index = omega (arith, ordered.as_long) in
    omega (arith, ordered.within place inside)

-- all of them
pub all_entries : (f : Content → Data) (items : List Content) (index : List ℕ) → IsIndex items index → AreBytes items → Rises (fold (put_by f) no_members items)
    → tokens_of (object (fold (put_by f) no_members items)) ≡ begin_object ∷ (entries f items index ++ end_object ∷ [])
all_entries f items index ordered bytes rises =
    ap (λ ms. tokens_of (object ms)) (put_in_order f items index ordered bytes rises)
    ∙ ap (λ (l : List Token). begin_object ∷ l) (tokens_by f (at_positions items index))

-- one more, of those from a place on
pub one_more : (f : Content → Data) (items : List Content) (index : List ℕ) (from i count position : ℕ) (x : Content) (old before new : List Token)
    → IsIndex items index
    → i < count → count ≤ length (drop from items) → position ≡ slice_index index (from + i) → x ≡ get_or items position x
    → before ≡ old ++ entries f items (take i (drop from index)) → new ≡ before ++ entry f x → new ≡ old ++ entries f items (take (i + 1) (drop from index))
one_more f items index from i count position x old before new ordered within fits at is so_far more =
    let inside : i < length (drop from index) = omega (arith, length-drop from index, length-drop from items, ordered.as_long) in
    let early : from + i < length items = omega (arith, length-drop from items) in
    let there : position ≡ slice_index (drop from index) i = at ∙ sym (get_or-drop from index i 0) in
    let here : x ≡ get_or items position no_content = is ∙ get_or_default items position x no_content
    (in_items items index (from + i) position ordered early at) in
    more ∙ ap (λ (l : List Token). l ++ entry f x) so_far
    ∙ append_assoc old (entries f items (take i (drop from index))) (entry f x)
    ∙ ap (λ (l : List Token). old ++ l) (sym (entries_more f items (drop from index) i position x inside there here))

-- so many of them, and the others
pub split_entries : (f : Content → Data) (items : List Content) (index : List ℕ) (from count : ℕ)
    → entries f items (drop from index) ≡ entries f items (take count (drop from index)) ++ entries f items (drop (from + count) index)
split_entries f items index from count =
    ap (entries f items) (sym (take-append-drop count (drop from index)))
    ∙ ap (flat_map (entry f)) (map-append (λ (p : ℕ). get_or items p no_content) (take count (drop from index)) (drop count (drop from index)))
    ∙ flat_map-append (entry f) (at_positions items (take count (drop from index))) (at_positions items (drop count (drop from index)))
    ∙ ap (λ (l : List ℕ). entries f items (take count (drop from index)) ++ entries f items l) (drop-drop from count index)

-- the tokens of a list of paths
pub path_tokens : (paths : List (Bor Path)) → items_tokens (items_outline (texts (map (λ (path : Bor Path). joined path.now) paths)))
    ≡ map (λ (path : Bor Path). token.string (joined path.now)) paths ++ end_array ∷ []
path_tokens [] = refl
path_tokens (x ∷ paths) = ap (λ (l : List Token). token.string (joined x.now) ∷ l) (path_tokens paths)

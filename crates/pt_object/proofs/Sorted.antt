-- Members that are put for one content after another come in the order of their digests.
use Rattle.std.proofs.Common.{◌≡◌, ℕ, zero, suc, ◌<◌, List, [], ◌∷◌, length, get_or, fold, refl, sym, ◌∙◌, ap, ap₂, subst, arith, inl, inr}
use Rattle.std.specs.Prelude.{◌⊎◌, slice_index, Some, None}
use Rattle.std.specs.declared.cmp.Ordering.{Ordering}
use Rattle.std.specs.declared.cmp.Ordering.TheVariants.{Less, Equal, Greater}
use Rattle.std.specs.Ordering.{nat_cmp, match_ordering, ordering_reverse}
use Rattle.std.specs.Cmp.Lexicographic.{slice_cmp, bytes_decides}
use Rattle.std.specs.Str.{bytes_eq}
use Rattle.std.proofs.lemmas.Bool.{cases_Bool, cases_lt, true≢false}
use Rattle.std.proofs.lemmas.Cmp.{nat_list_cmp_total, tied_itself}
use Rattle.std.proofs.lemmas.List.{get_or-map, length-map}
use Rattle.hex.specs.Hex.{IsBytes}
use Rattle.serde_json.specs.Data.{Data, Members, no_members, member, put}
use Rattle.serde_json.specs.Find.{get_member}
use Rattle.serde_json.proofs.Views.{get_member-put, get_member-put_other}
use Rattle.pt_object.specs.Contents.{digest_at}
use Rattle.pt_object.specs.Entries.{at_positions, key, no_content}
use Rattle.pt_object.specs.Index.{digest_in, IsIndex}
use Rattle.pt_object.specs.declared.table.contents.Content.{Content}
use Rattle.pt_object.proofs.Indexed.{DigestsDiffer-index, digest_at-item, same_from_equal}
use Rattle.pt_object.proofs.HexOrder.{hex_less, hex_same}
use Rattle.pt_object.proofs.Texts.{IsBelow, Rises, below_all}

abbrev pub put_by : (Content → Data) → Members → Content → Members
put_by f members content = put (key content) (f content) members

-- at each digest what is said of its content, in the order of these contents
abbrev pub members_by : (Content → Data) → List Content → Members
members_by f [] = no_members
members_by f (x ∷ xs) = member (key x) (f x) (members_by f xs)

-- ---- members whose keys rise are told by what they have at each key

itself : (k : List ℕ) → slice_cmp nat_cmp k k ≡ Equal
itself k = tied_itself nat_list_cmp_total k

none_below : (k : List ℕ) (ms : Members) → IsBelow k ms → get_member k ms ≡ None
none_below k no_members below = refl
none_below k (member l e ms) below = ap (λ o. match_ordering o (get_member k ms) (Some e) (get_member k ms)) below.0 ∙ none_below k ms below.1

here : (k : List ℕ) (d : Data) (ms : Members) → get_member k (member k d ms) ≡ Some d
here k d ms = ap (λ o. match_ordering o (get_member k ms) (Some d) (get_member k ms)) (itself k)

rest_same : (k : List ℕ) (d e : Data) (ms ns : Members) → IsBelow k ms → IsBelow k ns
    → ((j : List ℕ) → get_member j (member k d ms) ≡ get_member j (member k e ns)) → (j : List ℕ) → get_member j ms ≡ get_member j ns
rest_same k d e ms ns in_ms in_ns same j = by (slice_cmp nat_cmp j k) refl (same j)
  where
    by : (o : Ordering) → slice_cmp nat_cmp j k ≡ o
        → match_ordering o (get_member j ms) (Some d) (get_member j ms) ≡ match_ordering o (get_member j ns) (Some e) (get_member j ns)
        → get_member j ms ≡ get_member j ns
    by Less is h = h
    by Greater is h = h
    by Equal is h =
        let one : j ≡ k = same_from_equal j k is in
        ap (λ (l : List ℕ). get_member l ms) one ∙ none_below k ms in_ms ∙ sym (none_below k ns in_ns) ∙ ap (λ (l : List ℕ). get_member l ns) (sym one)

same_members : (ms ns : Members) → Rises ms → Rises ns → ((k : List ℕ) → get_member k ms ≡ get_member k ns) → ms ≡ ns
same_members no_members no_members in_ms in_ns same = refl
same_members no_members (member l e ns) in_ms in_ns same = let some = here l e ns in let none : None ≡ get_member l (member l e ns) = same l in absurd (cc)
same_members (member k d ms) no_members in_ms in_ns same = let some = here k d ms in let none : get_member k (member k d ms) ≡ None = same k in absurd (cc)
same_members (member k d ms) (member l e ns) in_ms in_ns same = by (slice_cmp nat_cmp k l) refl (λ a b agree. same_members ms ns a b agree)
  where
    by : (o : Ordering) → slice_cmp nat_cmp k l ≡ o → (Rises ms → Rises ns → ((j : List ℕ) → get_member j ms ≡ get_member j ns) → ms ≡ ns)
        → member k d ms ≡ member l e ns
    by Less is later =
        let some = here k d ms in
        let none : get_member k (member l e ns) ≡ None = none_below k (member l e ns) (is, below_all k l ns is in_ns.0) in
        let one : get_member k (member k d ms) ≡ get_member k (member l e ns) = same k in
        absurd (cc)
    by Greater is later =
        let less : slice_cmp nat_cmp l k ≡ Less = nat_list_cmp_total.antisymm l k ∙ ap ordering_reverse is in
        let some = here l e ns in
        let none : get_member l (member k d ms) ≡ None = none_below l (member k d ms) (less, below_all l k ms less in_ms.0) in
        let one : get_member l (member k d ms) ≡ get_member l (member l e ns) = same l in
        absurd (cc)
    by Equal is later =
        let one : k ≡ l = same_from_equal k l is in
        let agree : (i : List ℕ) → get_member i (member k d ms) ≡ get_member i (member k e ns) = λ i. same i
        ∙ ap (λ (h : List ℕ). get_member i (member h e ns)) (sym one) in
        let in_k : IsBelow k ns = subst (λ (h : List ℕ). IsBelow h ns) (sym one) in_ns.0 in
        let values : Some d ≡ Some e = sym (here k d ms) ∙ agree k ∙ here k e ns in
        let rest : ms ≡ ns = later in_ms.1 in_ns.1 (rest_same k d e ms ns in_ms.0 in_k agree) in
        cc

-- ---- what is put for one content after another

put_none : (f : Content → Data) (k : List ℕ) (items : List Content) (ms : Members) → ((p : ℕ) → p < length items → k ≡ key (get_or items p no_content) → ⊥)
    → get_member k (fold (put_by f) ms items) ≡ get_member k ms
put_none f k [] ms other = refl
put_none f k (x ∷ items) ms other =
    put_none f k items (put_by f ms x) (λ p h. other (suc p) (omega arith)) ∙ get_member-put_other k (key x) (f x) ms (other 0 (omega arith))

put_some : (f : Content → Data) (items : List Content) (ms : Members) (p : ℕ) → p < length items
    → ((q : ℕ) → q < length items → key (get_or items p no_content) ≡ key (get_or items q no_content) → p ≡ q)
    → get_member (key (get_or items p no_content)) (fold (put_by f) ms items) ≡ Some (f (get_or items p no_content))
put_some f [] ms p within apart = absurd (omega arith)
put_some f (x ∷ items) ms zero within apart =
    put_none f (key x) items (put_by f ms x) (λ q h e. let one : 0 ≡ suc q = apart (suc q) (omega arith) e in omega arith) ∙ get_member-put (key x) (f x) ms
put_some f (x ∷ items) ms (suc p) within apart =
    put_some f items (put_by f ms x) p (omega arith) (λ q h e. let one : suc p ≡ suc q = apart (suc q) (omega arith) e in omega arith)

by_none : (f : Content → Data) (k : List ℕ) (xs : List Content) → ((p : ℕ) → p < length xs → k ≡ key (get_or xs p no_content) → ⊥)
    → get_member k (members_by f xs) ≡ None
by_none f k [] other = refl
by_none f k (x ∷ xs) other = by (slice_cmp nat_cmp k (key x)) refl (by_none f k xs (λ p h. other (suc p) (omega arith)))
  where
    by : (o : Ordering) → slice_cmp nat_cmp k (key x) ≡ o → get_member k (members_by f xs) ≡ None
        → match_ordering o (get_member k (members_by f xs)) (Some (f x)) (get_member k (members_by f xs)) ≡ None
    by Less is rest = rest
    by Equal is rest = absurd (other 0 (omega arith) (same_from_equal k (key x) is))
    by Greater is rest = rest

by_some : (f : Content → Data) (xs : List Content) (p : ℕ) → p < length xs
    → ((q : ℕ) → q < length xs → key (get_or xs p no_content) ≡ key (get_or xs q no_content) → p ≡ q)
    → get_member (key (get_or xs p no_content)) (members_by f xs) ≡ Some (f (get_or xs p no_content))
by_some f [] p within apart = absurd (omega arith)
by_some f (x ∷ xs) zero within apart = here (key x) (f x) (members_by f xs)
by_some f (x ∷ xs) (suc p) within apart =
    by (slice_cmp nat_cmp (key (get_or xs p no_content)) (key x)) refl
    (by_some f xs p (omega arith) (λ q h e. let one : suc p ≡ suc q = apart (suc q) (omega arith) e in omega arith))
  where
    by : (o : Ordering) → slice_cmp nat_cmp (key (get_or xs p no_content)) (key x) ≡ o
        → get_member (key (get_or xs p no_content)) (members_by f xs) ≡ Some (f (get_or xs p no_content))
        → match_ordering o (get_member (key (get_or xs p no_content)) (members_by f xs)) (Some (f x))
        (get_member (key (get_or xs p no_content)) (members_by f xs)) ≡ Some (f (get_or xs p no_content))
    by Less is rest = rest
    by Equal is rest = absurd (let one : suc p ≡ 0 = apart 0 (omega arith) (same_from_equal _ (key x) is) in omega arith)
    by Greater is rest = rest

-- ---- the order of the index

abbrev pub AreBytes : List Content → Type 0
AreBytes items = (p : ℕ) → p < length items → IsBytes (get_or items p no_content).digest

not_in : (k : List ℕ) (x : Content) (items : List Content) → (k ≡ key x → ⊥) → ((p : ℕ) → p < length items → k ≡ key (get_or items p no_content) → ⊥)
    → (p : ℕ) → p < length (x ∷ items) → k ≡ key (get_or (x ∷ items) p no_content) → ⊥
not_in k x items other none zero h e = other e
not_in k x items other none (suc p) h e = none p (omega arith) e

find_key : (k : List ℕ) (items : List Content) → ((p : ℕ) × (p < length items) × (k ≡ key (get_or items p no_content))) ⊎ ((p : ℕ) → p < length items
    → k ≡ key (get_or items p no_content) → ⊥)
find_key k [] = inr (λ p h e. omega arith)
find_key k (x ∷ items) = elim (cases_Bool (bytes_eq k (key x))) [
  | inl same ↦ inl (0, omega arith, (bytes_decides k (key x)).0 same)
  | inr other ↦ elim (find_key k items) [
    | inl found ↦ inl (suc found.0, omega (arith, found.1), found.2)
    | inr none ↦ inr (not_in k x items (λ e. true≢false (sym ((bytes_decides k (key x)).1 e) ∙ other)) none)
  ]
]

below_by : (f : Content → Data) (k : List ℕ) (xs : List Content) → ((p : ℕ) → p < length xs → slice_cmp nat_cmp k (key (get_or xs p no_content)) ≡ Less)
    → IsBelow k (members_by f xs)
below_by f k [] h = tt
below_by f k (x ∷ xs) h = (h 0 (omega arith), below_by f k xs (λ p w. h (suc p) (omega arith)))

abbrev KeysRise : List Content → Type 0
KeysRise xs = (i j : ℕ) → i < j → j < length xs → slice_cmp nat_cmp (key (get_or xs i no_content)) (key (get_or xs j no_content)) ≡ Less

rises_by : (f : Content → Data) (xs : List Content) → KeysRise xs → Rises (members_by f xs)
rises_by f [] h = tt
rises_by f (x ∷ xs) h =
    (below_by f (key x) xs (λ p w. h 0 (suc p) (omega arith) (omega arith)), rises_by f xs (λ i j l w. h (suc i) (suc j) (omega arith) (omega arith)))

apart_by : (xs : List Content) (p q : ℕ) → KeysRise xs → p < length xs → q < length xs → key (get_or xs p no_content) ≡ key (get_or xs q no_content) → p ≡ q
apart_by xs p q rise in_p in_q e = elim (cases_lt p q) [
  | inl below ↦ absurd (differ p q (rise p q below in_q) e)
  | inr from ↦ elim (cases_lt q p) [
    | inl below ↦ absurd (differ q p (rise q p below in_p) (sym e))
    | inr to ↦ omega arith
  ]
]
  where
    differ : (i j : ℕ) → slice_cmp nat_cmp (key (get_or xs i no_content)) (key (get_or xs j no_content)) ≡ Less
        → key (get_or xs i no_content) ≡ key (get_or xs j no_content) → ⊥
    differ i j less one =
        let tied = itself (key (get_or xs j no_content)) in
        let equal : slice_cmp nat_cmp (key (get_or xs i no_content)) (key (get_or xs j no_content))
        ≡ Equal = ap (λ (l : List ℕ). slice_cmp nat_cmp l (key (get_or xs j no_content))) one ∙ tied in
        cc

module _ (f : Content → Data) (items : List Content) (index : List ℕ) (ordered : IsIndex items index) (bytes : AreBytes items) where
  abbrev placed : List Content
  placed = at_positions items index

  placed_at : (j : ℕ) → j < length index → get_or placed j no_content ≡ get_or items (slice_index index j) no_content
  placed_at j h = get_or-map (λ p. get_or items p no_content) index j 0 no_content h

  long : length placed ≡ length index
  long = length-map index (λ p. get_or items p no_content)

  digests : (p : ℕ) → p < length items → (get_or items p no_content).digest ≡ digest_at items p
  digests p h = sym (digest_at-item items p no_content h)

  digest_of_placed : (j : ℕ) → j < length index → (get_or placed j no_content).digest ≡ digest_in items index j
  digest_of_placed j h = ap (λ (c : Content). c.digest) (placed_at j h) ∙ digests (slice_index index j) (ordered.within j h)

  bytes_of_placed : (j : ℕ) → j < length index → IsBytes (get_or placed j no_content).digest
  bytes_of_placed j h = subst IsBytes (sym (ap (λ (c : Content). c.digest) (placed_at j h))) (bytes (slice_index index j) (ordered.within j h))

  rise : KeysRise placed
  rise i j below within =
      let in_i : i < length index = omega (arith, long) in
      let in_j : j < length index = omega (arith, long) in
      hex_less _ _ (bytes_of_placed i in_i) (bytes_of_placed j in_j)
      (ap₂ (slice_cmp nat_cmp) (digest_of_placed i in_i) (digest_of_placed j in_j) ∙ ordered.rises i j below in_j)

  apart : (p q : ℕ) → p < length items → q < length items → key (get_or items p no_content) ≡ key (get_or items q no_content) → p ≡ q
  apart p q in_p in_q e =
      DigestsDiffer-index items index ordered p q in_p in_q (sym (digests p in_p) ∙ hex_same _ _ (bytes p in_p) (bytes q in_q) e ∙ digests q in_q)

  agree : (k : List ℕ) → get_member k (fold (put_by f) no_members items) ≡ get_member k (members_by f placed)
  agree k = elim (find_key k items) [
    | inl found ↦
        let at = ordered.complete found.0 found.1 in
        let in_placed : at.0 < length placed = omega (arith, long, at.1) in
        let one : get_or placed at.0 no_content ≡ get_or items found.0 no_content = placed_at at.0 at.1 ∙ ap (λ p. get_or items p no_content) at.2 in
        ap (λ (l : List ℕ). get_member l (fold (put_by f) no_members items)) found.2
        ∙ put_some f items no_members found.0 found.1 (λ q h. apart found.0 q found.1 h)
        ∙ ap (λ (c : Content). Some (f c)) (sym one)
        ∙ sym (by_some f placed at.0 in_placed (λ q h. apart_by placed at.0 q rise in_placed h))
        ∙ ap (λ (l : List ℕ). get_member l (members_by f placed)) (ap key one ∙ sym found.2)
    | inr none ↦
        put_none f k items no_members none
        ∙ sym (by_none f k placed (λ j h e. let inside : j < length index = omega (arith, long) in none (slice_index index j) (ordered.within j inside) (e
        ∙ ap key (placed_at j inside))))
  ]

  pub put_in_order : Rises (fold (put_by f) no_members items) → fold (put_by f) no_members items ≡ members_by f placed
  put_in_order rises = same_members (fold (put_by f) no_members items) (members_by f placed) rises (rises_by f placed rise) agree

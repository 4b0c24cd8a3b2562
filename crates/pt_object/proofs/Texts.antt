-- Reading the compact text of a tree of JSON that has no numbers and whose keys rise.
use Rattle.std.proofs.Common.{◌≡◌, ℕ, ◌≤◌, List, [], refl, sym, ◌∙◌, ap, arith, append-nil}
use Rattle.std.specs.Prelude.{Option, Some, option_map, option_and_then, ⊤}
use Rattle.std.specs.declared.cmp.Ordering.TheVariants.{Less, Greater}
use Rattle.std.specs.Ordering.{nat_cmp, ordering_reverse}
use Rattle.std.specs.Cmp.Lexicographic.{slice_cmp, nat_list_cmp_total}
use Rattle.json.specs.Json as json
use Rattle.json.specs.Tree as tree
use Rattle.json.specs.Lex.{tokens}
use Rattle.json.specs.Token.{Token}
use Rattle.json.proofs.Printed.Tokens.{tokens-print}
use Rattle.json.proofs.Printed.Trees.{ArePrintable-json_tokens, value-json_tokens}
use Rattle.serde_json.specs.Data.{
  Data,
  null,
  boolean,
  number,
  string,
  array,
  object,
  Items,
  no_items,
  item,
  Members,
  no_members,
  member,
  put,
  depth,
  items_depth,
  members_depth,
}
use Rattle.serde_json.specs.Read.{of_json, of_items, of_members, read, max_depth}
use Rattle.serde_json.specs.Written.{outline, items_outline, members_outline, compact_text}
use Rattle.serde_json.proofs.Texts.{print-outline}

-- the key comes before all of these
abbrev pub IsBelow : List ℕ → Members → Type 0
IsBelow k no_members = ⊤
IsBelow k (member l e ms) = (slice_cmp nat_cmp k l ≡ Less) × IsBelow k ms

-- and so does what comes before it
pub below_all : (k l : List ℕ) (ms : Members) → slice_cmp nat_cmp k l ≡ Less → IsBelow l ms → IsBelow k ms
below_all k l no_members less below = tt
below_all k l (member j e ms) less below = (nat_list_cmp_total.trans k l j less below.0, below_all k l ms less below.1)

-- the keys rise
abbrev pub Rises : Members → Type 0
Rises no_members = ⊤
Rises (member k d ms) = IsBelow k ms × Rises ms

-- there are no numbers, and in each object the keys rise
abbrev mutual
  pub IsSound : Data → Type 0
  IsSound null = ⊤
  IsSound (boolean b) = ⊤
  IsSound (number n) = ⊥
  IsSound (string s) = ⊤
  IsSound (array ds) = AreSoundItems ds
  IsSound (object ms) = Rises ms × AreSoundMembers ms

  pub AreSoundItems : Items → Type 0
  AreSoundItems no_items = ⊤
  AreSoundItems (item d ds) = IsSound d × AreSoundItems ds

  pub AreSoundMembers : Members → Type 0
  AreSoundMembers no_members = ⊤
  AreSoundMembers (member k d ms) = IsSound d × AreSoundMembers ms

mutual
  has_numbers : (d : Data) → IsSound d → tree.HasNumbers (outline d)
  has_numbers null h = tt
  has_numbers (boolean b) h = tt
  has_numbers (number n) h = absurd h
  has_numbers (string s) h = tt
  has_numbers (array ds) h = items_have_numbers ds h
  has_numbers (object ms) h = members_have_numbers ms h.1

  items_have_numbers : (ds : Items) → AreSoundItems ds → tree.ItemsHaveNumbers (items_outline ds)
  items_have_numbers no_items h = tt
  items_have_numbers (item d ds) h = (has_numbers d h.0, items_have_numbers ds h.1)

  members_have_numbers : (ms : Members) → AreSoundMembers ms → tree.MembersHaveNumbers (members_outline ms)
  members_have_numbers no_members h = tt
  members_have_numbers (member k d ms) h = (has_numbers d h.0, members_have_numbers ms h.1)

mutual
  shallow : (d : Data) → tree.depth (outline d) ≤ depth d
  shallow null = omega arith
  shallow (boolean b) = omega arith
  shallow (number n) = omega arith
  shallow (string s) = omega arith
  shallow (array ds) = omega (arith, shallow_items ds)
  shallow (object ms) = omega (arith, shallow_members ms)

  shallow_items : (ds : Items) → tree.items_depth (items_outline ds) ≤ items_depth ds
  shallow_items no_items = omega arith
  shallow_items (item d ds) = omega (arith, shallow d, shallow_items ds)

  shallow_members : (ms : Members) → tree.members_depth (members_outline ms) ≤ members_depth ms
  shallow_members no_members = omega arith
  shallow_members (member k d ms) = omega (arith, shallow d, shallow_members ms)

abbrev joined : Members → Members → Members
joined no_members more = more
joined (member k d ms) more = member k d (joined ms more)

joined_assoc : (a b c : Members) → joined (joined a b) c ≡ joined a (joined b c)
joined_assoc no_members b c = refl
joined_assoc (member k d a) b c = ap (member k d) (joined_assoc a b c)

joined_nil : (a : Members) → joined a no_members ≡ a
joined_nil no_members = refl
joined_nil (member k d a) = ap (member k d) (joined_nil a)

below_middle : (k l : List ℕ) (e : Data) (ms more : Members) → IsBelow k (joined ms (member l e more)) → slice_cmp nat_cmp k l ≡ Less
below_middle k l e no_members more h = h.0
below_middle k l e (member j d ms) more h = below_middle k l e ms more h.1

-- what comes after all that is there, goes last
put_last : (found : Members) (k : List ℕ) (d : Data) (more : Members) → Rises (joined found (member k d more))
    → put k d found ≡ joined found (member k d no_members)
put_last no_members k d more h = refl
put_last (member l e found) k d more h =
    let above : slice_cmp nat_cmp k l ≡ Greater = nat_list_cmp_total.antisymm k l ∙ ap ordering_reverse (below_middle l k d found more h.0) in
    rw above (ap (member l e) (put_last found k d more h.1))

next_member : (o : Option Data) (d : Data) (k : List ℕ) (more : json.Members) (found : Members) (all : Option Members) → o ≡ Some d
    → of_members more (put k d found) ≡ all
    → option_and_then (λ (x : Data). of_members more (put k x found)) o ≡ all
next_member o d k more found all is rest = rw is rest

next_item : (o : Option Data) (d : Data) (more : Option Items) (ds : Items) → o ≡ Some d → more ≡ Some ds
    → option_and_then (λ (x : Data). option_map (item x) more) o ≡ Some (item d ds)
next_item o d more ds is rest = rw (is, rest) refl

mutual
  outline_back : (d : Data) → IsSound d → of_json (outline d) ≡ Some d
  outline_back null h = refl
  outline_back (boolean b) h = refl
  outline_back (number n) h = absurd h
  outline_back (string s) h = refl
  outline_back (array ds) h = ap (option_map array) (items_back ds h)
  outline_back (object ms) h = ap (option_map object) (members_back ms no_members h.0 h.1)

  items_back : (ds : Items) → AreSoundItems ds → of_items (items_outline ds) ≡ Some ds
  items_back no_items h = refl
  items_back (item d ds) h = next_item _ d _ ds (outline_back d h.0) (items_back ds h.1)

  members_back : (ms found : Members) → Rises (joined found ms) → AreSoundMembers ms → of_members (members_outline ms) found ≡ Some (joined found ms)
  members_back no_members found rises h = ap Some (sym (joined_nil found))
  members_back (member k d ms) found rises h =
      let with_it : put k d found ≡ joined found (member k d no_members) = put_last found k d ms rises in
      let again : joined (put k d found) ms ≡ joined found (member k d ms) = ap (λ x. joined x ms) with_it ∙ joined_assoc found (member k d no_members) ms in
      next_member (of_json (outline d)) d k (members_outline ms) found _ (outline_back d h.0)
      (members_back ms (put k d found) (rw again rises) h.1 ∙ ap Some again)

abbrev whole : Option (json.Json × List Token) → Option Data
whole o = option_and_then of_json (option_and_then (λ p. json.if_last p.0 p.1) o)

pub read_compact : (d : Data) → IsSound d → depth d ≤ max_depth → read (compact_text d) ≡ Some d
read_compact d sound levels =
    let j = outline d in
    let same : tokens (compact_text d) ≡ tree.json_tokens j = ap tokens (sym (print-outline d))
    ∙ tokens-print (tree.json_tokens j) (ArePrintable-json_tokens j (has_numbers d sound)) in
    ap whole (ap (json.value max_depth) (same ∙ sym (append-nil _)) ∙ value-json_tokens j max_depth [] (omega (arith, shallow d, levels)))
    ∙ outline_back d sound

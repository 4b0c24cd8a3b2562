-- What is put step by step, and the text of it.
use Rattle.std.proofs.Common.{
  ◌≡◌,
  ℕ,
  ◌+◌,
  ◌<◌,
  ◌≤◌,
  List,
  [],
  ◌∷◌,
  ◌++◌,
  Bool,
  true,
  false,
  length,
  get_or,
  map,
  drop,
  take,
  fold,
  nat_lt,
  refl,
  sym,
  subst,
  ◌∙◌,
  ap,
  arith,
  append_assoc,
  append-nil,
}
use Rattle.std.specs.Prelude.{codes, Err, IfOk, Ok, Result}
use Rattle.std.specs.Str.{IsUtf8}
use Rattle.std.proofs.lemmas.Bool.{false≢true, lt-ltb}
use Rattle.std.proofs.lemmas.List.{length-append, length-drop, length-take-le, take_all}
use Rattle.std.proofs.lemmas.List.Sums.{fold-append}
use Rattle.std.proofs.lemmas.Str.{IsCharBoundary-after_ascii, IsUtf8-drop}
use Rattle.json.specs.Print.{ends, print, print_from}
use Rattle.json.specs.Token.{Token, begin_array, begin_object, end_array, end_object}
use Rattle.json.specs.Token as token
use Rattle.json.specs.Tree.{items_tokens}
use Rattle.json.proofs.Printed.Tokens.{print_from-append}
use Rattle.serde_json.specs.Data.{Data}
use Rattle.serde_json.specs.Written.{items_outline}
use Rattle.pt_object.specs.Entries.{entries, entry, grouped, key, no_content, stored}
use Rattle.pt_object.specs.InPieces.{
  InPieces,
  Puts,
  TakesPiece,
  back,
  bracket,
  head,
  is_before_end,
  is_behind,
  is_head,
  is_in_manifest,
  is_in_state,
  left,
  left_in_state,
  middle,
  text_left,
}
use Rattle.pt_object.specs.Inventory.{paths_with, texts, user_tree}
use Rattle.pt_tree.specs.Path.{joined}
use Rattle.pt_object.specs.Tokens.{tokens_of}
use Rattle.pt_object.specs.declared.table.contents.Content.{Content}
use Rattle.pt_object.specs.declared.rows.Row.{Row}
use Rattle.pt_object.specs.declared.inventories.parts.Parts.{Parts}
use Rattle.pt_object.specs.declared.inventories.parts.Step.{Step}
use Rattle.pt_object.specs.declared.inventories.parts.Step.TheVariants as step
use Rattle.pt_object.proofs.Appended.{appended}
use Rattle.pt_object.proofs.Entries.{split_entries}

-- whether a value has ended behind these tokens
abbrev pub after : Bool → List Token → Bool
after b tokens = fold (λ _ t. ends t) b tokens

-- they have a text, whatever stands before them
abbrev pub HasText : List Token → Type 0
HasText tokens = (b : Bool) → 0 < length (print_from b tokens)

pub has_key : (k : List ℕ) (tokens : List Token) → HasText (token.key k ∷ tokens)
unfolding print_from
has_key k tokens true = omega arith
has_key k tokens false = omega arith

pub has_end : (tokens : List Token) → HasText (end_object ∷ tokens)
unfolding print_from
has_end tokens true = omega arith
has_end tokens false = omega arith

pub has_begin : (tokens : List Token) → HasText (token.begin_object ∷ tokens)
unfolding print_from
has_begin tokens true = omega arith
has_begin tokens false = omega arith

pub has_before : (xs ys : List Token) → HasText xs → HasText (xs ++ ys)
has_before xs ys has b =
    omega (arith, has b, ap length (print_from-append b xs ys), length-append (print_from b xs) (print_from (after b xs) ys))

pub has_behind : (xs ys : List Token) → HasText ys → HasText (xs ++ ys)
has_behind xs ys has b =
    omega (arith, has (after b xs), ap length (print_from-append b xs ys), length-append (print_from b xs) (print_from (after b xs) ys))

-- ---- entries

-- what is said of a content ends a value
abbrev pub EndsValues : (Content → Data) → Type 0
EndsValues f = (x : Content) (b : Bool) → after b (tokens_of (f x)) ≡ true

pub stored_ends : EndsValues stored
stored_ends x b = refl

texts_end : (list : List (List ℕ)) (b : Bool) → after b (items_tokens (items_outline (texts list))) ≡ true
texts_end [] b = refl
texts_end (x ∷ list) b = texts_end list true

pub grouped_ends : (rows : List Row) → EndsValues (grouped rows)
grouped_ends rows x b = texts_end (map joined (paths_with rows x.digest)) false

entries_end : (f : Content → Data) (items : List Content) (positions : List ℕ) (b : Bool) → EndsValues f → after true (entries f items positions) ≡ true
entries_end f items [] b ends_f = refl
entries_end f items (p ∷ positions) b ends_f =
    fold-append (λ (_ : Bool) (t : Token). ends t) true (entry f (get_or items p no_content)) (entries f items positions)
    ∙ ap (λ (c : Bool). after c (entries f items positions)) (ends_f (get_or items p no_content) false)
    ∙ entries_end f items positions b ends_f

-- some entries end a value, and have a text
pub some_end : (f : Content → Data) (items : List Content) (positions : List ℕ) (b : Bool) → EndsValues f → 0 < length positions
    → after b (entries f items positions) ≡ true
some_end f items [] b ends_f some = absurd (omega arith)
some_end f items (p ∷ positions) b ends_f some =
    fold-append (λ (_ : Bool) (t : Token). ends t) b (entry f (get_or items p no_content)) (entries f items positions)
    ∙ ap (λ (c : Bool). after c (entries f items positions)) (ends_f (get_or items p no_content) false)
    ∙ entries_end f items positions b ends_f

pub some_text : (f : Content → Data) (items : List Content) (positions : List ℕ) → 0 < length positions → HasText (entries f items positions)
some_text f items [] some = absurd (omega arith)
some_text f items (p ∷ positions) some = has_key (key (get_or items p no_content)) (tokens_of (f (get_or items p no_content)) ++ entries f items positions)

-- ---- steps

pub none_put : (test : Step → Bool) (parts : Parts) (here : Step) (out : List Token) → test here ≡ false → Puts test parts here here out out
none_put test parts here out other = record {
  tokens = [];
  put = sym (append-nil out);
  left_are = refl;
  behind = refl;
  some = λ h b. absurd (false≢true (sym other ∙ h));
  still = λ h. refl;
}

-- what follows of a value, if there is one
pub ok_more : {T E : Type 0} (P Q : T → Type 0) (r : Result T E) → ((x : T) → P x → Q x) → IfOk r P → IfOk r Q
ok_more P Q (Ok x) more h = more x h
ok_more P Q (Err e) more h = tt

-- one after the other
pub all_put : (parts : Parts) (here a b c : Step) (o p q r : List Token) → Puts is_head parts here a o p → Puts is_in_manifest parts a b p q
    → Puts is_in_state parts b c q r
    → Puts is_before_end parts here c o r
all_put parts here a b c o p q r first second third =
    let rest : List Token = second.tokens ++ third.tokens in
    record {
      tokens = first.tokens ++ rest;
      put = third.put ∙ ap (λ (l : List Token). l ++ third.tokens) (second.put ∙ ap (λ (l : List Token). l ++ second.tokens) first.put)
          ∙ together o first.tokens second.tokens third.tokens;
      left_are = first.left_are
          ∙ ap (λ (l : List Token). first.tokens ++ l) (second.left_are ∙ ap (λ (l : List Token). second.tokens ++ l) third.left_are)
          ∙ apart first.tokens second.tokens third.tokens (left parts c);
      behind = third.behind
          ∙ ap (λ (v : Bool). after v third.tokens) (second.behind ∙ ap (λ (v : Bool). after v second.tokens) first.behind)
          ∙ sym (fold-append (λ (_ : Bool) (t : Token). ends t) (after (is_behind here) first.tokens) second.tokens third.tokens)
          ∙ sym (fold-append (λ (_ : Bool) (t : Token). ends t) (is_behind here) first.tokens rest);
      some = by here first second third;
      still = at_end here first second third;
    }
  where
    together : (w x y z : List Token) → ((w ++ x) ++ y) ++ z ≡ w ++ (x ++ (y ++ z))
    together w x y z = simp append_assoc

    apart : (x y z w : List Token) → x ++ (y ++ (z ++ w)) ≡ (x ++ (y ++ z)) ++ w
    apart x y z w = simp append_assoc

    by : (here : Step) (f : Puts is_head parts here a o p) (s : Puts is_in_manifest parts a b p q) (t : Puts is_in_state parts b c q r)
        → is_before_end here ≡ true → HasText (f.tokens ++ (s.tokens ++ t.tokens))
    by step.Head f s t h = has_before f.tokens (s.tokens ++ t.tokens) (f.some refl)
    by (step.Manifest place) f s t h = has_behind f.tokens (s.tokens ++ t.tokens) (has_before s.tokens t.tokens (s.some (ap is_in_manifest (f.still refl))))
    by (step.State place) f s t h =
        has_behind f.tokens (s.tokens ++ t.tokens) (has_behind s.tokens t.tokens
        (t.some (ap is_in_state (s.still (ap is_in_manifest (f.still refl)) ∙ f.still refl))))
    by step.End f s t h = absurd (false≢true h)

    at_end : (here : Step) (f : Puts is_head parts here a o p) (s : Puts is_in_manifest parts a b p q) (t : Puts is_in_state parts b c q r)
        → is_before_end here ≡ false → c ≡ here
    at_end step.Head f s t h = absurd (false≢true (sym h))
    at_end (step.Manifest place) f s t h = absurd (false≢true (sym h))
    at_end (step.State place) f s t h = absurd (false≢true (sym h))
    at_end step.End f s t h =
        let one : b ≡ step.End = s.still (ap is_in_manifest (f.still refl)) ∙ f.still refl in
        t.still (ap is_in_state one) ∙ one

-- ---- the piece

cut : (b : Bool) (tokens : List Token) → drop 1 (print (bracket b ∷ tokens)) ≡ print_from b tokens
unfolding print_from
cut true tokens = refl
cut false tokens = refl

begins_low : (b : Bool) (tokens : List Token) → (0 < length (print (bracket b ∷ tokens))) × (get_or (print (bracket b ∷ tokens)) 0 0 < 128)
unfolding print_from
begins_low true tokens = (omega arith, omega arith)
begins_low false tokens = (omega arith, omega arith)

-- what is behind the bracket is the next piece
pub piece_taken : (parts : Parts) (here next : Step) (out : List Token) (text : List ℕ) (old new : InPieces)
    → Puts is_before_end parts here next (bracket (is_behind here) ∷ []) out → is_before_end here ≡ true → text ≡ print out → IsUtf8 (print out)
    → old.rest ≡ text_left parts here → new.piece ≡ drop 1 text → new.rest ≡ text_left parts next → TakesPiece true old new
piece_taken parts here next out text old new puts goes_on text_is utf8 old_is piece_is rest_is =
    let tokens_are : out ≡ bracket (is_behind here) ∷ puts.tokens = puts.put in
    let piece : new.piece ≡ print_from (is_behind here) puts.tokens = piece_is ∙ ap (drop 1) (text_is ∙ ap print tokens_are)
    ∙ cut (is_behind here) puts.tokens in
    let low = begins_low (is_behind here) puts.tokens in
    let whole : IsUtf8 (print (bracket (is_behind here) ∷ puts.tokens)) = subst (λ (l : List Token). IsUtf8 (print l)) tokens_are utf8 in
    let behind_it : IsUtf8 (drop 1 (print (bracket (is_behind here) ∷ puts.tokens))) =
    IsUtf8-drop _ 1 whole (IsCharBoundary-after_ascii _ 0 whole low.0 low.1) in
    let has = puts.some goes_on (is_behind here) in (
      old_is
          ∙ ap (print_from (is_behind here)) puts.left_are
          ∙ print_from-append (is_behind here) puts.tokens (left parts next)
          ∙ ap (λ (v : Bool). print_from (is_behind here) puts.tokens ++ print_from v (left parts next)) (sym puts.behind)
          ∙ ap (λ (l : List ℕ). l ++ text_left parts next) (sym piece)
          ∙ ap (λ (l : List ℕ). new.piece ++ l) (sym rest_is),
      subst (λ (l : List ℕ). 0 < length l) (sym piece) has,
      subst (λ (l : List ℕ). IsUtf8 l) (cut (is_behind here) puts.tokens ∙ sym piece) behind_it,
    )

-- ---- entries that are put

above : (place count : ℕ) → 0 < count → nat_lt 0 (place + count) ≡ true
above place count some = lt-ltb 0 (place + count) (omega arith)

taken : (index : List ℕ) (items : List Content) (place count : ℕ) → length index ≡ length items → count ≤ length (drop place items)
    → length (take count (drop place index)) ≡ count
taken index items place count as_long fits =
    length-take-le count (drop place index) (omega (arith, length-drop place index, length-drop place items, as_long))

-- so many entries of the manifest were put, and others are left
pub manifest_on : (parts : Parts) (here : Step) (place count : ℕ) (old new : List Token) → here ≡ step.Manifest place
    → length parts.index.now ≡ length parts.items.now
    → count ≤ length (drop place parts.items.now) → 0 < count → new ≡ old ++ entries stored parts.items.now (take count (drop place parts.index.now))
    → Puts is_in_manifest parts here (step.Manifest (place + count)) old new
manifest_on parts here place count old new here_is as_long fits some put_are =
    let items = parts.items.now in
    let index = parts.index.now in
    let tokens : List Token = entries stored items (take count (drop place index)) in
    let rest : List Token = middle parts.meta.now ++ left_in_state parts 0 in
    let many : 0 < length (take count (drop place index)) = omega (arith, taken index items place count as_long fits) in
    record {
      tokens = tokens;
      put = put_are;
      left_are = ap (left parts) here_is ∙ ap (λ (l : List Token). l ++ rest) (split_entries stored items index place count)
          ∙ append_assoc tokens (entries stored items (drop (place + count) index)) rest;
      behind = above place count some ∙ sym (some_end stored items (take count (drop place index)) (is_behind here) stored_ends many);
      some = λ h. some_text stored items (take count (drop place index)) many;
      still = λ h. absurd (false≢true (sym h ∙ ap is_in_manifest here_is));
    }

-- the same of the state
pub state_on : (parts : Parts) (here : Step) (place count : ℕ) (old new : List Token) → here ≡ step.State place
    → length parts.index.now ≡ length parts.items.now
    → count ≤ length (drop place parts.items.now) → 0 < count → new ≡ old ++ entries (grouped parts.rows.now) parts.items.now
    (take count (drop place parts.index.now))
    → Puts is_in_state parts here (step.State (place + count)) old new
state_on parts here place count old new here_is as_long fits some put_are =
    let items = parts.items.now in
    let index = parts.index.now in
    let f = grouped parts.rows.now in
    let tokens : List Token = entries f items (take count (drop place index)) in
    let many : 0 < length (take count (drop place index)) = omega (arith, taken index items place count as_long fits) in
    record {
      tokens = tokens;
      put = put_are;
      left_are = ap (left parts) here_is ∙ ap (λ (l : List Token). l ++ back parts.meta.now) (split_entries f items index place count)
          ∙ append_assoc tokens (entries f items (drop (place + count) index)) (back parts.meta.now);
      behind = above place count some ∙ sym (some_end f items (take count (drop place index)) (is_behind here) (grouped_ends parts.rows.now) many);
      some = λ h. some_text f items (take count (drop place index)) many;
      still = λ h. absurd (false≢true (sym h ∙ ap is_in_state here_is));
    }

-- the last entries of the manifest were put, and what stands between it and the state
pub manifest_ended : (parts : Parts) (here : Step) (place count : ℕ) (old between new : List Token) → here ≡ step.Manifest place
    → length parts.index.now ≡ length parts.items.now
    → length (drop place parts.items.now) ≤ count → between ≡ old ++ entries stored parts.items.now (take count (drop place parts.index.now))
    → new ≡ between ++ middle parts.meta.now → Puts is_in_manifest parts here (step.State 0) old new
manifest_ended parts here place count old between new here_is as_long last put_are more =
    let items = parts.items.now in
    let index = parts.index.now in
    let tokens : List Token = entries stored items (drop place index) in
    let all : take count (drop place index) ≡ drop place index = take_all count (drop place index)
    (omega (arith, length-drop place index, length-drop place items, as_long)) in
    record {
      tokens = tokens ++ middle parts.meta.now;
      put = appended old tokens (middle parts.meta.now) between new (put_are ∙ ap (λ (l : List ℕ). old ++ entries stored items l) all) more;
      left_are = ap (left parts) here_is ∙ sym (append_assoc tokens (middle parts.meta.now) (left_in_state parts 0));
      behind = sym (fold-append (λ (_ : Bool) (t : Token). ends t) (is_behind here) tokens (middle parts.meta.now));
      some = λ h. has_behind tokens (middle parts.meta.now) (has_end _);
      still = λ h. absurd (false≢true (sym h ∙ ap is_in_manifest here_is));
    }

-- the last of the state, and all behind it
pub state_ended : (parts : Parts) (here : Step) (place count : ℕ) (old between new : List Token) → here ≡ step.State place
    → length parts.index.now ≡ length parts.items.now
    → length (drop place parts.items.now) ≤ count → between ≡ old ++ entries (grouped parts.rows.now) parts.items.now (take count (drop place parts.index.now))
    → new ≡ between ++ back parts.meta.now → Puts is_in_state parts here step.End old new
state_ended parts here place count old between new here_is as_long last put_are more =
    let items = parts.items.now in
    let index = parts.index.now in
    let f = grouped parts.rows.now in
    let tokens : List Token = entries f items (drop place index) in
    let all : take count (drop place index) ≡ drop place index = take_all count (drop place index)
    (omega (arith, length-drop place index, length-drop place items, as_long)) in
    let front : List Token = end_object ∷ token.key (codes "user") ∷ tokens_of (user_tree parts.meta.now.address parts.meta.now.name) in
    record {
      tokens = tokens ++ back parts.meta.now;
      put = appended old tokens (back parts.meta.now) between new (put_are ∙ ap (λ (l : List ℕ). old ++ entries f items l) all) more;
      left_are = ap (left parts) here_is ∙ sym (append-nil (tokens ++ back parts.meta.now));
      behind = sym (fold-append (λ (_ : Bool) (t : Token). ends t) (is_behind here) tokens (back parts.meta.now)
          ∙ fold-append (λ (_ : Bool) (t : Token). ends t) (after (is_behind here) tokens) front (end_object ∷ end_object ∷ end_object ∷ []));
      some = λ h. has_behind tokens (back parts.meta.now) (has_end _);
      still = λ h. absurd (false≢true (sym h ∙ ap is_in_state here_is));
    }

-- the members before the manifest were put
pub head_put : (parts : Parts) (here : Step) (old between new : List Token) → here ≡ step.Head → between ≡ old ++ head parts.id.now parts.algorithm
    → new ≡ between ++ begin_object ∷ []
    → Puts is_head parts here (step.Manifest 0) old new
head_put parts here old between new here_is put_are more = record {
  tokens = head parts.id.now parts.algorithm ++ begin_object ∷ [];
  put = appended old (head parts.id.now parts.algorithm) (begin_object ∷ []) between new put_are more;
  left_are = ap (left parts) here_is;
  behind = sym (ap (λ (b : Bool). after b (head parts.id.now parts.algorithm ++ begin_object ∷ [])) (ap is_behind here_is));
  some = λ h. has_begin _;
  still = λ h. absurd (false≢true (sym h ∙ ap is_head here_is));
}

no_text : (b : Bool) → print_from b [] ≡ []
unfolding print_from
no_text b = refl

pub none_left : (parts : Parts) (here : Step) → here ≡ step.End → text_left parts here ≡ []
none_left parts here end = ap (text_left parts) end ∙ no_text true

pub goes_on : (here : Step) → (here ≡ step.End → ⊥) → is_before_end here ≡ true
goes_on step.Head other = refl
goes_on (step.Manifest place) other = refl
goes_on (step.State place) other = refl
goes_on step.End other = absurd (other refl)

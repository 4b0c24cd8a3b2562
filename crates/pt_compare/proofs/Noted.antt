-- What holds of noted entries.
use Rattle.std.proofs.Common.{◌==◌, ◌≡◌, ◌∙◌, ap, ℕ, [], ◌∷◌, List, sym, subst, refl, true, false}
use Rattle.std.specs.Prelude.{Bool, Option, None, Some, IsSome, cond, slice_get}
use Rattle.std.specs.BTreeMap.{insert_entry}
use Rattle.std.specs.Global.{Vec}
use Rattle.std.specs.Map.{AreApart, IsKeyTest, KeepsOthers, lookup, remove_entry}
use Rattle.std.specs.Cmp.Lexicographic.{slice_cmp}
use Rattle.std.specs.Ordering.{eq_by_cmp, is_eq, match_ordering, nat_cmp}
use Rattle.std.specs.declared.cmp.Ordering.{Ordering}
use Rattle.std.specs.declared.cmp.Ordering.TheVariants.{Less, Equal, Greater}
use Rattle.std.proofs.lemmas.Bool.{eqb-true}
use Rattle.std.proofs.lemmas.Map.Text.{is_eq-slice_cmp}
use Rattle.pt_folder.specs.Laws.{IsPath}
use Rattle.pt_object.proofs.Ways.{path_itself}
use Rattle.pt_tree.proofs.AtPaths.{same_from}
use Rattle.pt_tree.proofs.Names.{name_itself, same_name}
use Rattle.pt_tree.specs.Path.{Path, joined, same_path}
use Rattle.pt_tree.specs.declared.kind.Kind.{Kind}
use Rattle.pt_compare.specs.Entries.{Noted, is_text_of, kind_if, kind_noted, noted_of, with_entry}
use Rattle.pt_tree.specs.Pieces.{names_in, onto, pieces}
use Rattle.pt_tree.proofs.Cut.{names_back}
use Rattle.pt_compare.specs.Marks.{marks_of}

-- the entry of the first text comes first
pub first_noted : (e : Vec ℕ × Kind) (path : Path) (es : List (Vec ℕ × Kind)) (now : Noted) → slice_get es 0 ≡ Some e → path ≡ names_in e.0.items
    → noted_of es ≡ now
    → (text : Vec ℕ) × (kind : Kind) × (later : Noted) × (now ≡ (text, (path, kind)) ∷ later)
first_noted e path [] now first names is = absurd (cc)
first_noted e path (d ∷ es) now first names is =
    let same : d ≡ e = cc in (
      e.0,
      e.1,
      noted_of es,
      sym is ∙ ap (λ (d : Vec ℕ × Kind). (d.0, (names_in d.0.items, d.1)) ∷ noted_of es) same
          ∙ ap (λ (q : Path). (e.0, (q, e.1)) ∷ noted_of es) (sym names),
    )

-- ---- what is held, and what it is seen as

module _ (p : Path) (named : IsPath p) where
  same_at_text : (text : Vec ℕ) → is_text_of p text ≡ true → names_in text.items ≡ p
  same_at_text text is = let same : joined p ≡ text.items = same_name (joined p) text.items (sym (is_eq-slice_cmp (joined p) text.items) ∙ is) in ap names_in
      (sym same) ∙ names_back p named

  -- what is found by a path's text has that path
  pub found_noted : (es : List (Vec ℕ × Kind)) → kind_noted p (noted_of es) ≡ lookup (is_text_of p) es
  found_noted [] = refl
  found_noted (e ∷ es) = by (is_text_of p e.0) refl (found_noted es)
    where
      by : (t : Bool) → is_text_of p e.0 ≡ t → kind_noted p (noted_of es) ≡ lookup (is_text_of p) es
          → kind_if p (cond t (Some (names_in e.0.items, e.1)) (lookup (is_text_of p) (noted_of es))) ≡ cond t (Some e.1) (lookup (is_text_of p) es)
      by true is later = ap (λ (q : Path). cond (same_path q p) (Some e.1) None) (same_at_text e.0 is) ∙ ap (λ t. cond t (Some e.1) None) (path_itself p)
      by false is later = later

pub removed_noted : (test : Vec ℕ → Bool) (es : List (Vec ℕ × Kind)) → noted_of (remove_entry test es) ≡ remove_entry test (noted_of es)
removed_noted test [] = refl
removed_noted test (e ∷ es) = by (test e.0) (removed_noted test es)
  where
    by : (t : Bool) → noted_of (remove_entry test es) ≡ remove_entry test (noted_of es)
        → noted_of (cond t es (e ∷ remove_entry test es)) ≡ cond t (noted_of es) ((e.0, (names_in e.0.items, e.1)) ∷ remove_entry test (noted_of es))
    by true later = refl
    by false later = ap (λ (l : Noted). (e.0, (names_in e.0.items, e.1)) ∷ l) later

abbrev text_cmp : Vec ℕ → Vec ℕ → Ordering
text_cmp a b = slice_cmp nat_cmp a.items b.items

pub added_noted : (text : Vec ℕ) (p : Path) (kind : Kind) (es : List (Vec ℕ × Kind)) → names_in text.items ≡ p
    → noted_of (insert_entry text_cmp es text kind) ≡ with_entry text (p, kind) (noted_of es)
added_noted text p kind [] names = ap (λ (q : Path). (text, (q, kind)) ∷ []) names
added_noted text p kind (e ∷ es) names = by (text_cmp text e.0) refl (added_noted text p kind es names)
  where
    by : (o : Ordering) → text_cmp text e.0 ≡ o → noted_of (insert_entry text_cmp es text kind) ≡ with_entry text (p, kind) (noted_of es)
        → noted_of (match_ordering o ((text, kind) ∷ e ∷ es) ((e.0, kind) ∷ es) (e ∷ insert_entry text_cmp es text kind))
        ≡ match_ordering o ((text, (p, kind)) ∷ noted_of (e ∷ es)) ((e.0, (p, kind)) ∷ noted_of es)
        ((e.0, (names_in e.0.items, e.1)) ∷ with_entry text (p, kind) (noted_of es))
    by Less is later = ap (λ (q : Path). (text, (q, kind)) ∷ noted_of (e ∷ es)) names
    by Equal is later =
        let same : text.items ≡ e.0.items = same_name text.items e.0.items (sym (is_eq-slice_cmp text.items e.0.items) ∙ ap is_eq is) in
        ap (λ (q : Path). (e.0, (q, kind)) ∷ noted_of es) (ap names_in (sym same) ∙ names)
    by Greater is later = ap (λ (l : Noted). (e.0, (names_in e.0.items, e.1)) ∷ l) later

-- ---- what is noted at each path

-- the names of the path's text are the path's
abbrev is_back : Path → Bool
is_back q = same_path (names_in (joined q)) q

abbrev no_kind : Option Kind
no_kind = None

-- what is noted at any path is what is held at its text, if that is of this path
noted_at : (q : Path) (es : List (Vec ℕ × Kind)) → kind_noted q (noted_of es) ≡ cond (is_back q) (lookup (is_text_of q) es) None
noted_at q [] = on (is_back q)
  where
    on : (b : Bool) → no_kind ≡ cond b no_kind None
    on true = refl
    on false = refl
noted_at q (e ∷ es) = by (is_text_of q e.0) refl (noted_at q es)
  where
    by : (t : Bool) → is_text_of q e.0 ≡ t → kind_noted q (noted_of es) ≡ cond (is_back q) (lookup (is_text_of q) es) None
        → kind_if q (cond t (Some (names_in e.0.items, e.1)) (lookup (is_text_of q) (noted_of es)))
        ≡ cond (is_back q) (cond t (Some e.1) (lookup (is_text_of q) es)) None
    by true is later =
        let same : joined q ≡ e.0.items = same_name (joined q) e.0.items (sym (is_eq-slice_cmp (joined q) e.0.items) ∙ is) in
        ap (λ (t : List ℕ). cond (same_path (names_in t) q) (Some e.1) None) (sym same)
    by false is later = later

abbrev text_test : List ℕ → Vec ℕ → Bool
text_test text k = is_eq (slice_cmp nat_cmp text k.items)

module _ (p : Path) (named : IsPath p) (w : Option Kind) (text : List ℕ) (is_text : text ≡ joined p) (old new : List (Vec ℕ × Kind))
    (at : lookup (text_test text) new ≡ w)
    (others : KeepsOthers (eq_by_cmp text_cmp) (text_test text) old new) where
  here_back : is_back p ≡ true
  here_back = ap (λ (q : Path). same_path q p) (names_back p named) ∙ path_itself p

  changed_here : kind_noted p (noted_of new) ≡ w
  changed_here = noted_at p new ∙ ap (λ b. cond b (lookup (is_text_of p) new) None) here_back ∙ ap (λ (t : List ℕ). lookup (text_test t) new) (sym is_text) ∙ at

  key_test : (q : Path) → IsKeyTest (eq_by_cmp text_cmp) (is_text_of q)
  key_test q x y passes = let same : joined q ≡ x.items = same_name (joined q) x.items (sym (is_eq-slice_cmp (joined q) x.items) ∙ passes) in ap
      (λ (t : List ℕ). is_eq (slice_cmp nat_cmp t y.items)) same

  apart : (q : Path) → (q ≡ p → ⊥) → is_back q ≡ true → AreApart (text_test text) (is_text_of q)
  apart q differs back k passes = on (is_text_of q k) refl
    where
      on : (b : Bool) → is_text_of q k ≡ b → b ≡ false
      on false is = refl
      on true is =
          let one : text ≡ k.items = same_name text k.items (sym (is_eq-slice_cmp text k.items) ∙ passes) in
          let two : joined q ≡ k.items = same_name (joined q) k.items (sym (is_eq-slice_cmp (joined q) k.items) ∙ is) in
          absurd (differs (sym (same_from (names_in (joined q)) q back) ∙ ap names_in (two ∙ sym one ∙ is_text) ∙ names_back p named))

  changed_other : (q : Path) → (q ≡ p → ⊥) → kind_noted q (noted_of new) ≡ kind_noted q (noted_of old)
  unfolding KeepsOthers
  changed_other q differs = noted_at q new ∙ on (is_back q) refl ∙ sym (noted_at q old)
    where
      on : (b : Bool) → is_back q ≡ b → cond b (lookup (is_text_of q) new) None ≡ cond b (lookup (is_text_of q) old) None
      on true back = others (is_text_of q) (key_test q) (apart q differs back)
      on false back = refl

  -- after a change at a path's text, something else is noted at the path, and nothing else anywhere
  pub marks_changed : marks_of (noted_of new) ≡ (λ q. cond (same_path q p) w (marks_of (noted_of old) q))
  marks_changed = λ i q. at_path q (same_path q p) refl i
    where
      at_path : (q : Path) (b : Bool) → same_path q p ≡ b → kind_noted q (noted_of new) ≡ cond b w (kind_noted q (noted_of old))
      at_path q true same = ap (λ (r : Path). kind_noted r (noted_of new)) (same_from q p same) ∙ changed_here
      at_path q false other = changed_other q (λ same. let itself = ap (λ (r : Path). same_path r p) same ∙ path_itself p in cc)

-- ---- the first entry

some_pieces : (t : List ℕ) → (x : List ℕ) × (p : Path) × (pieces t ≡ x ∷ p)
some_pieces [] = ([], [], refl)
some_pieces (b ∷ t) = on (b == 47) (some_pieces t)
  where
    on : (c : Bool) → (x : List ℕ) × (p : Path) × (pieces t ≡ x ∷ p) → (x : List ℕ) × (p : Path) × (cond c ([] ∷ pieces t) (onto (b ∷ []) (pieces t)) ≡ x ∷ p)
    on true more = ([], pieces t, refl)
    on false (x, p, is) = (b ∷ x, p, ap (onto (b ∷ [])) is)

joined_pieces : (t : List ℕ) → joined (pieces t) ≡ t
joined_pieces [] = refl
joined_pieces (b ∷ t) = on (b == 47) refl (some_pieces t) (joined_pieces t)
  where
    joined_onto : (x : List ℕ) (p : Path) → joined ((b ∷ x) ∷ p) ≡ b ∷ joined (x ∷ p)
    joined_onto x [] = refl
    joined_onto x (y ∷ p) = refl

    on : (c : Bool) → (b == 47) ≡ c → (x : List ℕ) × (p : Path) × (pieces t ≡ x ∷ p) → joined (pieces t) ≡ t
        → joined (cond c ([] ∷ pieces t) (onto (b ∷ []) (pieces t))) ≡ b ∷ t
    on true same (x, p, is) later =
        let slash : b ≡ 47 = eqb-true b 47 same in
        ap (λ (ps : Path). joined ([] ∷ ps)) is ∙ ap (λ (l : List ℕ). 47 ∷ l) (ap joined (sym is) ∙ later) ∙ ap (λ (c : ℕ). c ∷ t) (sym slash)
    on false other (x, p, is) later = ap (λ (ps : Path). joined (onto (b ∷ []) ps)) is ∙ joined_onto x p
        ∙ ap (λ (l : List ℕ). b ∷ l) (ap joined (sym is) ∙ later)

joined_names : (t : List ℕ) → joined (names_in t) ≡ t
joined_names [] = refl
joined_names (b ∷ t) = joined_pieces (b ∷ t)

-- the first entry is noted at its path
pub first_marked : (e : Vec ℕ × Kind) (path : Path) (es : List (Vec ℕ × Kind)) (now : Noted) → slice_get es 0 ≡ Some e → path ≡ names_in e.0.items
    → noted_of es ≡ now → IsSome (marks_of now path)
first_marked e path [] now first names is = absurd (cc)
first_marked e path (d ∷ es) now first names is =
    let same : d ≡ e = cc in
    subst (λ (es : Noted). IsSome (kind_noted path es)) is
    (subst (λ (d : Vec ℕ × Kind). IsSome (kind_noted path (noted_of (d ∷ es)))) (sym same)
    (subst (λ (q : Path). IsSome (kind_noted q (noted_of (e ∷ es)))) (sym names) there))
  where
    q : Path
    q = names_in e.0.items

    found : is_text_of q e.0 ≡ true
    found = ap (λ (t : List ℕ). is_eq (slice_cmp nat_cmp t e.0.items)) (joined_names e.0.items) ∙ is_eq-slice_cmp e.0.items e.0.items ∙ name_itself e.0.items

    noted : kind_noted q (noted_of (e ∷ es)) ≡ Some e.1
    noted = ap (λ t. kind_if q (cond t (Some (q, e.1)) (lookup (is_text_of q) (noted_of es)))) found ∙ ap (λ t. cond t (Some e.1) None) (path_itself q)

    there : IsSome (kind_noted q (noted_of (e ∷ es)))
    there = subst IsSome (sym noted) refl

-- What is remembered fits the tree after each step but a move.
use Rattle.std.proofs.Common.{◌≡◌, ◌∙◌, ◌⊎◌, inl, inr, ℕ, Bool, true, false, List, [], ◌∷◌, cond, refl, ap, sym, subst}
use Rattle.std.specs.Prelude.{◌||◌, nat_lt, length, Option, None, Some}
use Rattle.std.specs.Option.{option_map, ForSome}
use Rattle.std.specs.Str.{bytes_eq}
use Rattle.std.proofs.lemmas.Bool.{or_from, or_left, or_parts, or_right, true≢false}
use Rattle.pt_tree.specs.Dest.{Writing, added_to, after_append, after_finish, after_mkdir}
use Rattle.pt_tree.specs.Name.{AreNames}
use Rattle.pt_tree.specs.Path.{Path, joined, same_path}
use Rattle.pt_tree.specs.Tree.{CanMake, Entry, Folder, Tree, put}
use Rattle.pt_tree.proofs.Below.{gap_below}
use Rattle.pt_invariant.proofs.dest.Trees.{tree_added, tree_put}
use Rattle.pt_object.proofs.Ways.{is_same, name_itself, same_name}
use Rattle.pt_rehearsal.specs.Texts.{with_text}
use Rattle.pt_rehearsal.specs.Seeing.{View, Within, is_folder, is_hidden, is_inside, is_itself, is_met, met_in, with_folder, with_met}
use Rattle.pt_rehearsal.specs.Fitting.{Fits, FitsWithin}
use Rattle.pt_rehearsal.proofs.Changes.{
  added_folder,
  added_none,
  added_off,
  nothing_below,
  or_later,
  put_at_none,
  put_folder,
  put_here,
  put_off,
  text_apart,
  text_once,
  told_apart,
  told_apart_back,
}

-- ---- a directory below the top, in a place that is known

pub fits_noted : (v : View) (base : Tree) (now : Writing) (n m : List ℕ) (rest : Path) → AreNames (n ∷ m ∷ rest) → is_inside v.filling (n ∷ m ∷ rest) ≡ false
    → CanMake now.tree (n ∷ m ∷ rest)
    → Fits v base now → Fits (with_folder (n ∷ m ∷ rest) v) base (after_mkdir (n ∷ m ∷ rest) now)
fits_noted v base now n m rest names out can f = record {
  own = f.own;
  tree = tree_put now.tree p Folder f.tree can;
  folders = λ q qn is. folder q qn (bytes_eq (joined q) (joined p)) refl is;
  stands = λ q qn isnt shown.
      let parts = or_parts (bytes_eq (joined q) (joined p) || v.folder (joined q)) (is_itself v.filling q) isnt in
      let texts = or_parts (bytes_eq (joined q) (joined p)) (v.folder (joined q)) parts.0 in
      put_off now.tree p Folder q (apart q texts.0) ∙ f.stands q qn (or_from (v.folder (joined q)) (is_itself v.filling q) texts.1 parts.1) shown;
  within = λ w is. inner w (ap (λ o. is_inside o p) (sym is) ∙ out) (f.within w is);
  opened = f.opened;
}
  where
    p : Path
    p = n ∷ m ∷ rest

    apart : (q : Path) → bytes_eq (joined q) (joined p) ≡ false → same_path q p ≡ false
    apart q isnt = told_apart (λ q. bytes_eq (joined q) (joined p)) q p isnt (name_itself (joined p))

    folder : (q : Path) → AreNames q → (s : Bool) → bytes_eq (joined q) (joined p) ≡ s → ((s || v.folder (joined q)) || is_itself v.filling q) ≡ true
        → put now.tree p Folder q ≡ Some Folder
    folder q qn true same is = ap (put now.tree p Folder) (text_once q p qn names same) ∙ put_here now.tree p Folder
    folder q qn false off is = put_folder now.tree p q (f.folders q qn is)

    inner : (w : Within) → is_inside (Some w) p ≡ false → FitsWithin v.folder base now.tree w
        → FitsWithin (with_text (joined p) v.folder) base (put now.tree p Folder) w
    inner w out u = record {
      named = u.named;
      fresh = u.fresh;
      unmade = λ k isnt. put_off now.tree p Folder (w.name ∷ k ∷ []) (told_apart_back (is_inside (Some w)) (w.name ∷ k ∷ []) p (name_itself w.name) out)
          ∙ u.unmade k isnt;
      apart = λ r rn. or_from (bytes_eq (joined (w.name ∷ r)) (joined p)) (v.folder (joined (w.name ∷ r))) (text_apart (w.name ∷ r) p rn names (other r))
          (u.apart r rn);
    }
      where
        other : (r : Path) → w.name ∷ r ≡ p → ⊥
        other [] same = absurd (cc)
        other (k ∷ r) same = true≢false (sym (name_itself w.name) ∙ ap (is_inside (Some w)) same ∙ out)

-- ---- a directory at the top

pub itself_is : (w : Within) (q : Path) → is_itself (Some w) q ≡ true → q ≡ w.name ∷ []
itself_is w [] is = absurd (cc)
itself_is w (x ∷ []) is = ap (λ (n : List ℕ). n ∷ []) (same_name x w.name is)
itself_is w (x ∷ y ∷ q) is = absurd (cc)

pub some_inj : {A : Type 0} (a b : A) → Some a ≡ Some b → a ≡ b
some_inj a b is = cc

pub fits_begun : (v : View) (base : Tree) (now : Writing) (n : List ℕ) → AreNames (n ∷ []) → v.filling ≡ None → is_folder v (n ∷ []) ≡ false
    → is_hidden v (n ∷ []) ≡ false → CanMake now.tree (n ∷ [])
    → Fits v base now → Fits (record v { filling = Some (record { name = n; made = λ _. false }) }) base (after_mkdir (n ∷ []) now)
fits_begun v base now n names none no_folder shown can f = record {
  own = f.own;
  tree = tree_put now.tree p Folder f.tree can;
  folders = λ q qn is. folder q qn (is_itself (Some w) q) refl is;
  stands = λ q qn isnt seen.
      let parts = or_parts (v.folder (joined q)) (is_itself (Some w) q) isnt in
      put_off now.tree p Folder q (told_apart (is_itself (Some w)) q p parts.1 (name_itself n))
      ∙ f.stands q qn (or_from (v.folder (joined q)) (is_itself v.filling q) parts.0 (ap (λ o. is_itself o q) none))
      (or_from (is_inside v.filling q) _ (ap (λ o. is_inside o q) none) (or_parts (is_inside (Some w) q) _ seen).1);
  within = λ u is. subst (FitsWithin v.folder base (put now.tree p Folder)) (some_inj w u is) inner;
  opened = λ q is. or_right (is_inside (Some w) q) _ (or_later (is_inside v.filling q) _ (ap (λ o. is_inside o q) none) (f.opened q is));
}
  where
    p : Path
    p = n ∷ []

    w : Within
    w = record { name = n; made = λ _. false }

    folder : (q : Path) → AreNames q → (s : Bool) → is_itself (Some w) q ≡ s → (v.folder (joined q) || s) ≡ true → put now.tree p Folder q ≡ Some Folder
    folder q qn true same is = ap (put now.tree p Folder) (itself_is w q same) ∙ put_here now.tree p Folder
    folder q qn false off is = put_folder now.tree p q (f.folders q qn (or_left (v.folder (joined q)) (is_itself v.filling q) (plain (v.folder (joined q)) is)))
      where
        plain : (b : Bool) → (b || false) ≡ true → b ≡ true
        plain true is = refl
        plain false is = absurd (cc)

    inner : FitsWithin v.folder base (put now.tree p Folder) w
    inner = record {
      named = names;
      fresh = sym (f.stands p names no_folder shown) ∙ can.absent;
      unmade = λ m isnt. put_off now.tree p Folder (n ∷ m ∷ []) (told_apart_back (is_inside (Some w)) (n ∷ m ∷ []) p (name_itself n) refl)
          ∙ gap_below now.tree f.tree p (m ∷ []) can.absent;
      apart = λ rest rn. no_text rest rn (v.folder (joined (n ∷ rest))) refl;
    }
      where
        no_text : (rest : Path) → AreNames (n ∷ rest) → (b : Bool) → v.folder (joined (n ∷ rest)) ≡ b → b ≡ false
        no_text rest rn true is = absurd (nothing_below now.tree f.tree p rest can.absent
            (f.folders (n ∷ rest) rn (or_left (v.folder (joined (n ∷ rest))) (is_itself v.filling (n ∷ rest)) is)))
        no_text rest rn false is = refl

-- ---- something in the directory that is filled

-- a name is met, or nothing is noted
met_is : (p : Path) (w : Within) → (met_in p w ≡ w) × ((k : List ℕ) → p ≡ w.name ∷ k ∷ [] → ⊥)
    ⊎ (k : List ℕ) × (p ≡ w.name ∷ k ∷ []) × (met_in p w ≡ record w { made = with_text k w.made })
met_is [] w = inl (refl, λ k is. absurd (cc))
met_is (a ∷ []) w = inl (refl, λ k is. absurd (cc))
met_is (a ∷ b ∷ []) w = by (bytes_eq a w.name) refl
  where
    by : (s : Bool) → bytes_eq a w.name ≡ s → (cond s (record w { made = with_text b w.made }) w ≡ w) × ((k : List ℕ) → a ∷ b ∷ [] ≡ w.name ∷ k ∷ [] → ⊥)
        ⊎ (k : List ℕ) × (a ∷ b ∷ [] ≡ w.name ∷ k ∷ []) × (cond s (record w { made = with_text b w.made }) w ≡ record w { made = with_text k w.made })
    by true same = inr (b, ap (λ (a : List ℕ). a ∷ b ∷ []) (same_name a w.name same), refl)
    by false off = inl (refl, λ k is. let here : a ≡ w.name = cc in true≢false (sym (name_itself w.name) ∙ ap (λ a. bytes_eq a w.name) (sym here) ∙ off))
met_is (a ∷ b ∷ c ∷ rest) w = inl (refl, λ k is. absurd (cc))

same_itself : (p q : Path) (o : Option Within) → is_itself (option_map (met_in p) o) q ≡ is_itself o q
same_itself p q None = refl
same_itself p [] (Some w) = refl
same_itself p (x ∷ []) (Some w) = ap (bytes_eq x) (same_name_of p w)
  where
    same_name_of : (p : Path) (w : Within) → (met_in p w).name ≡ w.name
    same_name_of p w = elim (met_is p w) [
      | inl none ↦ ap (λ (w : Within). w.name) none.0
      | inr met ↦ ap (λ (w : Within). w.name) met.2
    ]
same_itself p (x ∷ y ∷ q) (Some w) = refl

same_inside : (p q : Path) (o : Option Within) → is_inside (option_map (met_in p) o) q ≡ is_inside o q
same_inside p q None = refl
same_inside p [] (Some w) = refl
same_inside p (x ∷ []) (Some w) = refl
same_inside p (x ∷ y ∷ q) (Some w) = elim (met_is p w) [
  | inl none ↦ ap (λ (w : Within). bytes_eq x w.name) none.0
  | inr met ↦ ap (λ (w : Within). bytes_eq x w.name) met.2
]

module _ (folder : List ℕ → Bool) (base t : Tree) (p : Path) (e : Entry) where
  within_met : (w : Within) → FitsWithin folder base t w → FitsWithin folder base (put t p e) (met_in p w)
  within_met w u = elim (met_is p w) [
    | inl none ↦ subst (FitsWithin folder base (put t p e)) (sym none.0) (record {
      named = u.named;
      fresh = u.fresh;
      unmade = λ k isnt. put_off t p e (w.name ∷ k ∷ []) (off (w.name ∷ k ∷ []) (λ same. none.1 k (sym same))) ∙ u.unmade k isnt;
      apart = u.apart;
    })
    | inr met ↦ subst (FitsWithin folder base (put t p e)) (sym met.2) (record {
      named = u.named;
      fresh = u.fresh;
      unmade = λ k isnt.
          let parts = or_parts (bytes_eq k met.0) (w.made k) isnt in
          put_off t p e (w.name ∷ k ∷ []) (off (w.name ∷ k ∷ []) (λ same.
          let second : k ≡ met.0 = cc in
          true≢false (sym (name_itself met.0) ∙ ap (λ k. bytes_eq k met.0) (sym second) ∙ parts.0))) ∙ u.unmade k parts.1;
      apart = u.apart;
    })
  ]
    where
      off : (q : Path) → (q ≡ p → ⊥) → same_path q p ≡ false
      off q other = by (same_path q p) refl
        where
          by : (s : Bool) → same_path q p ≡ s → s ≡ false
          by true same = absurd (other (is_same q p same))
          by false isnt = refl

  wholly : (o : Option Within) → ForSome o (FitsWithin folder base t) → ForSome (option_map (met_in p) o) (FitsWithin folder base (put t p e))
  wholly None u = λ w is. absurd (cc)
  wholly (Some w) u = λ w' is. subst (FitsWithin folder base (put t p e)) (some_inj (met_in p w) w' is) (within_met w (u w refl))

pub fits_hidden : (v : View) (base : Tree) (now : Writing) (p : Path) (e : Entry) (writing : Option Path) → is_inside v.filling p ≡ true → CanMake now.tree p
    → ((q : Path) → writing ≡ Some q → is_hidden v q ≡ true)
    → Fits v base now → Fits (with_met p v) base (record { tree = put now.tree p e; writing = writing })
fits_hidden v base now p e writing inside can opened f = record {
  own = f.own;
  tree = tree_put now.tree p e f.tree can;
  folders = λ q qn is. put_at_none now.tree p e q can.absent (f.folders q qn (sym (same_folder q) ∙ is));
  stands = λ q qn isnt shown.
      let seen : is_hidden v q ≡ false = sym (same_hidden q) ∙ shown in
      put_off now.tree p e q (told_apart (is_hidden v) q p seen (or_left (is_inside v.filling p) _ inside)) ∙ f.stands q qn (sym (same_folder q) ∙ isnt) seen;
  within = wholly v.folder base now.tree p e v.filling f.within;
  opened = λ q is. same_hidden q ∙ opened q is;
}
  where
    same_folder : (q : Path) → is_folder (with_met p v) q ≡ is_folder v q
    same_folder q = ap (λ b. v.folder (joined q) || b) (same_itself p q v.filling)

    same_hidden : (q : Path) → is_hidden (with_met p v) q ≡ is_hidden v q
    same_hidden q = ap (λ b. b || (is_met v.filled q || nat_lt v.least (length q))) (same_inside p q v.filling)

-- ---- the open file

pub fits_added : (v : View) (base : Tree) (now : Writing) (piece : List ℕ) → Fits v base now → Fits v base (after_append piece now)
fits_added v base now piece f = by now.writing f.opened
  where
    by : (o : Option Path) → ((q : Path) → o ≡ Some q → is_hidden v q ≡ true) → Fits v base (record { tree = added_to now.tree o piece; writing = o })
    by None opened = record { own = f.own; tree = f.tree; folders = f.folders; stands = f.stands; within = f.within; opened = opened }
    by (Some p) opened = record {
      own = f.own;
      tree = tree_added now.tree p piece f.tree;
      folders = λ q qn is. added_folder now.tree p piece q (f.folders q qn is);
      stands = λ q qn isnt shown. added_off now.tree p piece q (told_apart (is_hidden v) q p shown (opened p refl)) ∙ f.stands q qn isnt shown;
      within = λ w is. let u = f.within w is in record {
        named = u.named;
        fresh = u.fresh;
        unmade = λ k isnt. added_none now.tree p piece (w.name ∷ k ∷ []) (u.unmade k isnt);
        apart = u.apart;
      };
      opened = opened;
    }

pub fits_finished : (v : View) (base : Tree) (now : Writing) → Fits v base now → Fits v base (after_finish now)
fits_finished v base now f = record { own = f.own; tree = f.tree; folders = f.folders; stands = f.stands; within = f.within; opened = λ q is. absurd (cc) }

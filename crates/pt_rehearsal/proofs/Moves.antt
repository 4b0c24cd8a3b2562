-- What is remembered fits the tree after a move of the directory that is filled.
use Rattle.std.proofs.Common.{◌≡◌, ◌∙◌, ℕ, Bool, true, false, List, [], ◌∷◌, ◌++◌, cond, length, refl, ap, sym, subst}
use Rattle.std.specs.Prelude.{◌||◌, nat_lt, Option, None, Some}
use Rattle.std.specs.Str.{bytes_eq}
use Rattle.std.proofs.lemmas.Bool.{or_from, or_left, or_parts, or_right, true≢false}
use Rattle.pt_tree.specs.Dest.{Writing, after_rename, open_unless_below}
use Rattle.pt_tree.specs.Name.{AreNames}
use Rattle.pt_tree.specs.Path.{Path, joined, rest_below}
use Rattle.pt_tree.specs.Tree.{CanMove, Folder, Tree, moved, moved_at}
use Rattle.pt_tree.proofs.Below.{gap_below, rest_of, whole_of}
use Rattle.pt_invariant.proofs.dest.Trees.{tree_moved}
use Rattle.pt_object.proofs.Ways.{bytes_eq-sym, name_itself}
use Rattle.pt_plan.proofs.Growing.{append_nil}
use Rattle.pt_rehearsal.specs.Texts.{with_text}
use Rattle.pt_rehearsal.specs.Seeing.{View, Within, is_folder, is_hidden, is_inside, is_itself, is_met}
use Rattle.pt_rehearsal.specs.Fitting.{Fits, FitsWithin}
use Rattle.pt_rehearsal.proofs.Changes.{nothing_below, or_later, text_of, text_once}

-- what is remembered after a move of the directory w: what is hidden in its new place was made there, and what was hidden
-- elsewhere is
pub record KnowsOn (v : View) (w : Within) (to : Path) (v' : View) : Type 0 where
  pub folder : v'.folder ≡ with_text (joined to) v.folder
  pub filling : v'.filling ≡ None
  pub inside : (r : List ℕ) (rest : Path) → is_hidden v' (to ++ r ∷ rest) ≡ false → w.made r ≡ false
  pub kept : (q : Path) → (is_met v.filled q || nat_lt v.least (length q)) ≡ true → is_hidden v' q ≡ true

-- what isn't at or below the directory is neither it nor inside
away : (w : Within) (q : Path) → rest_below (w.name ∷ []) q ≡ None → (is_itself (Some w) q ≡ false) × (is_inside (Some w) q ≡ false)
away w [] off = (refl, refl)
away w (y ∷ q) off = by (bytes_eq w.name y) refl off
  where
    by : (s : Bool) → bytes_eq w.name y ≡ s → cond s (Some q) None ≡ None → (is_itself (Some w) (y ∷ q) ≡ false) × (is_inside (Some w) (y ∷ q) ≡ false)
    by true same off = absurd (cc)
    by false other off = (itself q, inside q)
      where
        back : bytes_eq y w.name ≡ false
        back = bytes_eq-sym w.name y false other

        itself : (q : Path) → is_itself (Some w) (y ∷ q) ≡ false
        itself [] = back
        itself (z ∷ q) = refl

        inside : (q : Path) → is_inside (Some w) (y ∷ q) ≡ false
        inside [] = refl
        inside (z ∷ q) = back

from_true : (b : Bool) (c : Bool) → (b ≡ true → c ≡ true) → c ≡ false → b ≡ false
from_true true c on isnt = absurd (true≢false (sym (on refl) ∙ isnt))
from_true false c on isnt = refl

pub fits_moved : (v : View) (base : Tree) (now : Writing) (w : Within) (to : Path) (v' : View) → v.filling ≡ Some w → AreNames to → is_folder v to ≡ false
    → is_hidden v to ≡ false
    → CanMove now.tree (w.name ∷ []) to → KnowsOn v w to v' → Fits v base now → Fits v' base (after_rename (w.name ∷ []) to now)
fits_moved v base now w to v' is_filled names no_folder shown can knows f = record {
  own = f.own;
  tree = tree_moved t to f.tree can;
  folders = λ q qn is. folder q qn (noted q is);
  stands = λ q qn isnt seen. stands q qn isnt seen (rest_below to q) refl (rest_below from q) refl;
  within = λ u is. let none : Some u ≡ None = sym is ∙ knows.filling in absurd (cc);
  opened = λ q is. opened q now.writing refl is;
}
  where
    t : Tree
    t = now.tree

    from : Path
    from = w.name ∷ []

    u : FitsWithin v.folder base t w
    u = f.within w is_filled

    at_to : t to ≡ None
    at_to = can.target.absent

    -- where something stands after the move
    goes : (q : Path) (o : Option Path) (o' : Option Path) → rest_below to q ≡ o → rest_below from q ≡ o' → moved t from to q ≡ moved_at t from o o' q
    goes q o o' below under = ap (λ o. moved_at t from o (rest_below from q) q) below ∙ ap (λ o'. moved_at t from o o' q) under

    noted : (q : Path) → is_folder v' q ≡ true → (bytes_eq (joined q) (joined to) || v.folder (joined q)) ≡ true
    noted q is = plain _ (sym (ap (λ b. b || is_itself v'.filling q) (ap (λ (g : List ℕ → Bool). g (joined q)) knows.folder)
        ∙ ap (λ o. (bytes_eq (joined q) (joined to) || v.folder (joined q)) || is_itself o q) knows.filling) ∙ is)
      where
        plain : (b : Bool) → (b || false) ≡ true → b ≡ true
        plain true is = refl
        plain false is = absurd (cc)

    folder : (q : Path) → AreNames q → (bytes_eq (joined q) (joined to) || v.folder (joined q)) ≡ true → moved t from to q ≡ Some Folder
    folder q qn is = by (bytes_eq (joined q) (joined to)) refl is
      where
        stood : t from ≡ Some Folder
        stood = f.folders from u.named (or_right (v.folder (joined from)) (is_itself v.filling from) (ap (λ o. is_itself o from) is_filled
            ∙ name_itself w.name))

        top : moved t from to to ≡ Some Folder
        top = ap (λ o. moved_at t from o (rest_below from to) to) (ap (rest_below to) (sym (append_nil to)) ∙ rest_of to []) ∙ ap t (append_nil from) ∙ stood

        elsewhere : t q ≡ Some Folder → v.folder (joined q) ≡ true → (o o' : Option Path) → rest_below to q ≡ o → rest_below from q ≡ o'
            → moved t from to q ≡ Some Folder
        elsewhere here text (Some rest) o' below under = absurd (nothing_below t f.tree to rest at_to (ap t (sym (whole_of to q rest below)) ∙ here))
        elsewhere here text None (Some rest) below under =
            let whole : q ≡ w.name ∷ rest = whole_of from q rest under in
            absurd (true≢false (sym text ∙ ap (λ (q : Path). v.folder (joined q)) whole ∙ u.apart rest (subst AreNames whole qn)))
        elsewhere here text None None below under = goes q None None below under ∙ here

        by : (s : Bool) → bytes_eq (joined q) (joined to) ≡ s → (s || v.folder (joined q)) ≡ true → moved t from to q ≡ Some Folder
        by true same is = ap (moved t from to) (text_once q to qn names same) ∙ top
        by false off is = elsewhere (f.folders q qn (or_left (v.folder (joined q)) (is_itself v.filling q) is)) is (rest_below to q) (rest_below from q) refl
            refl

    texts : (q : Path) → is_folder v' q ≡ false → (bytes_eq (joined q) (joined to) ≡ false) × (v.folder (joined q) ≡ false)
    texts q isnt = or_parts (bytes_eq (joined q) (joined to)) (v.folder (joined q))
        (ap (λ (g : List ℕ → Bool). g (joined q)) (sym knows.folder) ∙ (or_parts (v'.folder (joined q)) (is_itself v'.filling q) isnt).0)

    stands : (q : Path) → AreNames q → is_folder v' q ≡ false → is_hidden v' q ≡ false → (o : Option Path) → rest_below to q ≡ o → (o' : Option Path)
        → rest_below from q ≡ o' → moved t from to q ≡ base q
    stands q qn isnt seen (Some []) below o' under =
        let same : q ≡ to = whole_of to q [] below ∙ append_nil to in
        absurd (true≢false (sym (text_of q to same) ∙ (texts q isnt).0))
    stands q qn isnt seen (Some (r ∷ rest)) below o' under =
        let whole : q ≡ to ++ r ∷ rest = whole_of to q (r ∷ rest) below in
        let unmade : t (w.name ∷ r ∷ []) ≡ None = u.unmade r (knows.inside r rest (ap (is_hidden v') (sym whole) ∙ seen)) in
        let here : moved t from to q ≡ None = goes q (Some (r ∷ rest)) o' below under ∙ gap_below t f.tree (w.name ∷ r ∷ []) rest unmade in
        let there : base q ≡ None = ap base whole ∙ gap_below base f.own to (r ∷ rest) (sym (f.stands to names no_folder shown) ∙ at_to) in
        here ∙ sym there
    stands q qn isnt seen None below (Some rest) under =
        let there : base q ≡ None = ap base (whole_of from q rest under) ∙ gap_below base f.own from rest u.fresh in
        goes q None (Some rest) below under ∙ sym there
    stands q qn isnt seen None below None under =
        let off = away w q under in
        goes q None None below under ∙ f.stands q qn
        (or_from (v.folder (joined q)) (is_itself v.filling q) (texts q isnt).1 (ap (λ o. is_itself o q) is_filled ∙ off.0))
        (or_from (is_inside v.filling q) _ (ap (λ o. is_inside o q) is_filled ∙ off.1)
        (from_true (is_met v.filled q || nat_lt v.least (length q)) (is_hidden v' q) (knows.kept q) seen))

    opened : (q : Path) (o : Option Path) → now.writing ≡ o → open_unless_below from o ≡ Some q → is_hidden v' q ≡ true
    opened q None was is = absurd (cc)
    opened q (Some p) was is = by (rest_below from p) refl is
      where
        unless : Option Path → Option Path
        unless None = Some p
        unless (Some rest) = None

        by : (o : Option Path) → rest_below from p ≡ o → open_unless_below from (Some p) ≡ Some q → is_hidden v' q ≡ true
        by None off is =
            let same : p ≡ q = cc in
            subst (λ q. is_hidden v' q ≡ true) same
            (knows.kept p (or_later (is_inside v.filling p) _ (ap (λ o. is_inside o p) is_filled ∙ (away w p off).1) (f.opened p was)))
        by (Some rest) on is = absurd (cc)

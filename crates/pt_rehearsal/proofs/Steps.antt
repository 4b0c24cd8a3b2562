-- What is remembered fits what is played, call by call.
use Rattle.std.proofs.Common.{
  ◌≡◌,
  ◌∙◌,
  ◌<◌,
  ◌≤◌,
  ◌+◌,
  ℕ,
  suc,
  Bool,
  true,
  false,
  List,
  [],
  ◌∷◌,
  ◌++◌,
  cond,
  length,
  refl,
  ap,
  sym,
  subst,
  arith,
  lt-ltb,
  ltb-true,
}
use Rattle.std.specs.Prelude.{◌||◌, nat_lt, Option, None, Some}
use Rattle.std.specs.Str.{bytes_eq}
use Rattle.std.proofs.lemmas.Bool.{ltb-false, or_left, or_parts, or_right, true≢false}
use Rattle.std.proofs.lemmas.List.{length-append}
use Rattle.pt_tree.specs.Dest.{Writing, after_create, after_mkdir, after_rename}
use Rattle.pt_tree.specs.Name.{AreNames}
use Rattle.pt_tree.specs.Path.{Path, joined}
use Rattle.pt_tree.specs.Tree.{Bytes, CanMake, CanMove, Folder, IsTree, Tree}
use Rattle.pt_object.proofs.Ways.{name_itself}
use Rattle.pt_rehearsal.specs.Seeing.{
  View,
  Within,
  begun_at,
  is_folder,
  is_hidden,
  is_inside,
  is_itself,
  is_met,
  lesser,
  made_dir,
  made_dir_as,
  made_file,
  made_file_as,
  made_known,
  moved_as,
  moved_at_top,
  moved_known,
  moved_to,
  nothing,
  renamed_to,
  recall_at,
  recall_by,
  with_met,
}
use Rattle.pt_rehearsal.specs.declared.remembered.Recall.{Recall}
use Rattle.pt_rehearsal.specs.declared.remembered.Recall.TheVariants as recall
use Rattle.pt_rehearsal.specs.Fitting.{Fits}
use Rattle.pt_rehearsal.proofs.Changes.{or_later}
use Rattle.pt_rehearsal.proofs.Fitted.{fits_begun, fits_hidden, fits_noted, itself_is, some_inj}
use Rattle.pt_rehearsal.proofs.Moves.{KnowsOn, fits_moved}

-- what is said of a path, and why
seen_is : (folder hidden : Bool) → recall_by folder hidden ≡ recall.Standing → (folder ≡ false) × (hidden ≡ false)
seen_is true hidden is = absurd (cc)
seen_is false true is = absurd (cc)
seen_is false false is = (refl, refl)

pub folder_is : (folder hidden : Bool) → recall_by folder hidden ≡ recall.Folder → folder ≡ true
folder_is true hidden is = refl
folder_is false true is = absurd (cc)
folder_is false false is = absurd (cc)

pub standing_is : (v : View) (p : Path) → recall_at v p ≡ recall.Standing → (is_folder v p ≡ false) × (is_hidden v p ≡ false)
standing_is v p is = seen_is (is_folder v p) (is_hidden v p) is

-- where a directory is remembered one stands
pub folder_stands : (v : View) (base : Tree) (now : Writing) (p : Path) → AreNames p → recall_at v p ≡ recall.Folder → Fits v base now
    → now.tree p ≡ Some Folder
folder_stands v base now p names is f = f.folders p names (folder_is (is_folder v p) (is_hidden v p) is)

-- where nothing is remembered it is as in the folder
pub stands_still : (v : View) (base : Tree) (now : Writing) (p : Path) → AreNames p → recall_at v p ≡ recall.Standing → Fits v base now → now.tree p ≡ base p
stands_still v base now p names is f = let so = standing_is v p is in f.stands p names so.0 so.1

-- nothing is remembered
pub fits_nothing : (base : Tree) → IsTree base → Fits nothing base (record { tree = base; writing = None })
fits_nothing base tree = record {
  own = tree;
  tree = tree;
  folders = λ p names is. absurd (true≢false (sym is));
  stands = λ p names isnt seen. refl;
  within = λ w is. absurd (cc);
  opened = λ p is. absurd (cc);
}

inside_of : (b : Bool) (v next : View) (p : Path) → cond b (Some (with_met p v)) None ≡ Some next → (b ≡ true) × (with_met p v ≡ next)
inside_of true v next p is = (refl, cc)
inside_of false v next p is = absurd (cc)

-- a directory
pub fits_dir : (v next : View) (base : Tree) (now : Writing) (p : Path) → AreNames p → CanMake now.tree p → made_dir v p ≡ Some next → Fits v base now
    → Fits next base (after_mkdir p now)
fits_dir v next base now p names can is f = by (recall_at v p) refl is
  where
    known : (p : Path) → AreNames p → CanMake now.tree p → is_folder v p ≡ false → is_hidden v p ≡ false → made_known v p ≡ Some next
        → Fits next base (after_mkdir p now)
    known [] names can isnt shown is = absurd (cc)
    known (n ∷ []) names can isnt shown is = begun v.filling refl is
      where
        begun : (o : Option Within) → v.filling ≡ o → begun_at n o v ≡ Some next → Fits next base (after_mkdir (n ∷ []) now)
        begun (Some w) none is = absurd (cc)
        begun None none is =
            subst (λ next. Fits next base (after_mkdir (n ∷ []) now)) (some_inj _ next is) (fits_begun v base now n names none isnt shown can f)
    known (n ∷ m ∷ rest) names can isnt shown is =
        subst (λ next. Fits next base (after_mkdir (n ∷ m ∷ rest) now)) (some_inj _ next is)
        (fits_noted v base now n m rest names (or_parts (is_inside v.filling (n ∷ m ∷ rest)) _ shown).0 can f)

    by : (s : Recall) → recall_at v p ≡ s → made_dir_as s v p ≡ Some next → Fits next base (after_mkdir p now)
    by recall.Folder said is = absurd (cc)
    by recall.Hidden said is =
        let so = inside_of (is_inside v.filling p) v next p is in
        subst (λ next. Fits next base (after_mkdir p now)) so.1 (fits_hidden v base now p Folder now.writing so.0 can f.opened f)
    by recall.Standing said is = let so = standing_is v p said in known p names can so.0 so.1 is

-- a file
pub fits_file : (v next : View) (base : Tree) (now : Writing) (p : Path) → CanMake now.tree p → made_file v p ≡ Some next → Fits v base now
    → Fits next base (after_create p now)
fits_file v next base now p can is f = by (recall_at v p) is
  where
    by : (s : Recall) → made_file_as s v p ≡ Some next → Fits next base (after_create p now)
    by recall.Folder is = absurd (cc)
    by recall.Standing is = absurd (cc)
    by recall.Hidden is =
        let so = inside_of (is_inside v.filling p) v next p is in
        subst (λ next. Fits next base (after_create p now)) so.1
        (fits_hidden v base now p (Bytes []) (Some p) so.0 can (λ q same.
        let here : p ≡ q = cc in
        subst (λ q. is_hidden v q ≡ true) here (or_left (is_inside v.filling p) _ so.0)) f)

-- ---- a move

-- to a place at the top: what was made in the directory is hidden there
knows_at_top : (v : View) (w : Within) (n : List ℕ) → v.filled ≡ None
    → KnowsOn v w (n ∷ []) (record {
      folder = λ t. bytes_eq t (joined (n ∷ [])) || v.folder t;
      filling = None;
      filled = Some (record w { name = n });
      least = v.least;
    })
knows_at_top v w n none = record {
  folder = refl;
  filling = refl;
  inside = λ r rest seen.
      let met = (or_parts (cond (bytes_eq n n) (w.made r) false) _ seen).0 in
      sym (ap (λ b. cond b (w.made r) false) (name_itself n)) ∙ met;
  kept = λ q is. or_right (is_met (Some (record w { name = n })) q) _ (or_later (is_met v.filled q) _ (ap (λ o. is_met o q) none) is);
}

-- below the top: all that is deeper is hidden
knows_below : (v : View) (w : Within) (n m : List ℕ) (rest : Path)
    → KnowsOn v w (n ∷ m ∷ rest) (record {
      folder = λ t. bytes_eq t (joined (n ∷ m ∷ rest)) || v.folder t;
      filling = None;
      filled = v.filled;
      least = lesser
          v.least (length (n ∷ m ∷ rest));
    })
knows_below v w n m rest = record {
  folder = refl;
  filling = refl;
  inside = λ r more seen. absurd (true≢false (sym (deeper r more) ∙ (or_parts (is_met v.filled ((n ∷ m ∷ rest) ++ r ∷ more)) _ seen).1));
  kept = λ q is. keeps q (is_met v.filled q) is;
}
  where
    depth : ℕ
    depth = length (n ∷ m ∷ rest)

    at_most : (a b : ℕ) → lesser a b ≤ b
    at_most a b = by (nat_lt b a) refl
      where
        by : (s : Bool) → nat_lt b a ≡ s → cond s b a ≤ b
        by true is = omega arith
        by false is = ltb-false b a is

    at_most_first : (a b : ℕ) → lesser a b ≤ a
    at_most_first a b = by (nat_lt b a) refl
      where
        by : (s : Bool) → nat_lt b a ≡ s → cond s b a ≤ a
        by true is = let less = ltb-true b a is in omega arith
        by false is = omega arith

    less_than : (a b c : ℕ) → a ≤ b → b < c → a < c
    less_than a b c le lt = omega arith

    longer : (r : List ℕ) (more : Path) → depth < length ((n ∷ m ∷ rest) ++ r ∷ more)
    longer r more = let sum = length-append (n ∷ m ∷ rest) (r ∷ more) in more_than (length ((n ∷ m ∷ rest) ++ r ∷ more)) depth (length more) sum
      where
        more_than : (a b c : ℕ) → a ≡ b + suc c → b < a
        more_than a b c is = omega arith

    deeper : (r : List ℕ) (more : Path) → nat_lt (lesser v.least depth) (length ((n ∷ m ∷ rest) ++ r ∷ more)) ≡ true
    deeper r more = lt-ltb (lesser v.least depth) (length ((n ∷ m ∷ rest) ++ r ∷ more))
        (less_than (lesser v.least depth) depth _ (at_most v.least depth) (longer r more))

    keeps : (q : Path) (met : Bool) → (met || nat_lt v.least (length q)) ≡ true → (met || nat_lt (lesser v.least depth) (length q)) ≡ true
    keeps q true is = refl
    keeps q false is = lt-ltb (lesser v.least depth) (length q) (less_than (lesser v.least depth) v.least (length q) (at_most_first v.least depth)
        (ltb-true v.least (length q) is))

module _ (v next : View) (base : Tree) (now : Writing) (to : Path) (names : AreNames to) (f : Fits v base now) (w : Within) (is_filled : v.filling ≡ Some w)
    (can : CanMove now.tree (w.name ∷ []) to) where
  abbrev AfterMove : View → Type 0
  AfterMove next = Fits next base (after_rename (w.name ∷ []) to now)

  moved_so : (v' : View) → is_folder v to ≡ false → is_hidden v to ≡ false → KnowsOn v w to v' → AfterMove v'
  moved_so v' isnt shown knows = fits_moved v base now w to v' is_filled names isnt shown can knows f

  known : (p : Path) → to ≡ p → is_folder v to ≡ false → is_hidden v to ≡ false → moved_known v p ≡ Some next → AfterMove next
  known [] same isnt shown is = absurd (cc)
  known (n ∷ []) same isnt shown is = top v.filled refl is
    where
      top : (o : Option Within) → v.filled ≡ o → moved_at_top n o v ≡ Some next → AfterMove next
      top (Some u) none is = absurd (cc)
      top None none is =
          subst AfterMove (ap (λ o. record {
            folder = λ t. bytes_eq t (joined (n ∷ [])) || v.folder t;
            filling = None;
            filled = renamed_to n o;
            least = v.least;
          }) (sym is_filled) ∙ some_inj _ next is)
          (moved_so _ isnt shown (subst (λ (p : Path). KnowsOn v w p (at_top n)) (sym same) (knows_at_top v w n none)))
        where
          at_top : List ℕ → View
          at_top n = record { folder = λ t. bytes_eq t (joined (n ∷ [])) || v.folder t; filling = None; filled = Some (record w { name = n }); least = v.least }
  known (n ∷ m ∷ rest) same isnt shown is =
      subst AfterMove (some_inj _ next is)
      (moved_so _ isnt shown (subst (λ (p : Path). KnowsOn v w p below) (sym same) (knows_below v w n m rest)))
    where
      below : View
      below = record {
        folder = λ t. bytes_eq t (joined (n ∷ m ∷ rest)) || v.folder t;
        filling = None;
        filled = v.filled;
        least = lesser v.least
            (length (n ∷ m ∷ rest));
      }

  seen_so : (s : Recall) → recall_at v to ≡ s → moved_as s v to ≡ Some next → AfterMove next
  seen_so recall.Folder said is = absurd (cc)
  seen_so recall.Hidden said is = absurd (cc)
  seen_so recall.Standing said is = let so = standing_is v to said in known to refl so.0 so.1 is

pub fits_move : (v next : View) (base : Tree) (now : Writing) (from to : Path) → AreNames to → CanMove now.tree from to → moved_to v from to ≡ Some next
    → Fits v base now → Fits next base (after_rename from to now)
fits_move v next base now from to names can is f = by v.filling refl (is_itself v.filling from) refl is
  where
    by : (o : Option Within) → v.filling ≡ o → (b : Bool) → is_itself v.filling from ≡ b → cond b (moved_as (recall_at v to) v to) None ≡ Some next
        → Fits next base (after_rename from to now)
    by o filled false off is = absurd (cc)
    by None filled true on is = absurd (true≢false (sym on ∙ ap (λ o. is_itself o from) filled))
    by (Some w) filled true on is =
        let itself : from ≡ w.name ∷ [] = itself_is w from (sym (ap (λ o. is_itself o from) filled) ∙ on) in
        subst (λ (from : Path). Fits next base (after_rename from to now)) (sym itself)
        (seen_so v next base now to names f w filled (subst (λ (from : Path). CanMove now.tree from to) itself can) (recall_at v to) refl is)

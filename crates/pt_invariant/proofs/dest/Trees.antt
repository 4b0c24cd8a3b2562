-- A change that may be made leaves a tree.
use Rattle.std.proofs.Common.{◌≡◌, ℕ, Bool, true, false, List, [], ◌∷◌, ◌++◌, refl, ap, sym, ◌∙◌, append_assoc, cond}
use Rattle.std.specs.Prelude.{Option, None, Some, IsSome, is_some, ◌||◌}
use Rattle.std.proofs.lemmas.Bool.{false≢true, true≢false}
use Rattle.pt_object.proofs.Ways.{is_same, leads, leads-itself, leads-on, leads-push, parent-push}
use Rattle.pt_plan.proofs.Levels.{leads_through}
use Rattle.pt_tree.specs.Path.{Path, parent, rest_below, same_path}
use Rattle.pt_tree.specs.Tree.{CanMake, CanMove, Entry, Folder, IsTree, Tree, added, edited_by, moved, moved_at, put}
use Rattle.pt_tree.proofs.Below.{rest_of, whole_of}

-- ---- something is made

pub tree_put : (t : Tree) (p : Path) (e : Entry) → IsTree t → CanMake t p → IsTree (put t p e)
tree_put t p e tree can = record {
  top = by_top (same_path [] p) refl;
  above = λ q n some. by_above q n (same_path (q ++ n ∷ []) p) refl some;
}
  where
    by_top : (s : Bool) → same_path [] p ≡ s → cond s (Some e) (t []) ≡ Some Folder
    by_top true same = absurd (let none : t [] ≡ None = ap t (is_same [] p same) ∙ can.absent in let top = tree.top in cc)
    by_top false other = tree.top

    still : (q : Path) (s : Bool) → same_path q p ≡ s → t q ≡ Some Folder → cond s (Some e) (t q) ≡ Some Folder
    still q true same folder = absurd (let none : t q ≡ None = ap t (is_same q p same) ∙ can.absent in cc)
    still q false other folder = folder

    by_above : (q : Path) (n : List ℕ) (s : Bool) → same_path (q ++ n ∷ []) p ≡ s → IsSome (cond s (Some e) (t (q ++ n ∷ []))) → put t p e q ≡ Some Folder
    by_above q n true same some =
        let here : q ≡ parent p = sym (parent-push q n) ∙ ap parent (is_same (q ++ n ∷ []) p same) in
        still q (same_path q p) refl (ap t here ∙ can.in_folder)
    by_above q n false other some = still q (same_path q p) refl (tree.above q n some)

-- ---- a piece is added

pub tree_added : (t : Tree) (p : Path) (piece : List ℕ) → IsTree t → IsTree (added t p piece)
tree_added t p piece tree = record {
  top = still [] (same_path [] p) refl tree.top;
  above = λ q n some. still q (same_path q p) refl (tree.above q n (was (q ++ n ∷ []) (same_path (q ++ n ∷ []) p) refl some));
}
  where
    longer : Option Entry → Option Entry
    longer o = edited_by (λ bytes. bytes ++ piece) o

    still : (q : Path) (s : Bool) → same_path q p ≡ s → t q ≡ Some Folder → cond s (edited_by (λ bytes. bytes ++ piece) (t p)) (t q) ≡ Some Folder
    still q true same folder = ap (edited_by (λ bytes. bytes ++ piece)) (ap t (sym (is_same q p same)) ∙ folder)
    still q false other folder = folder

    some_before : (o : Option Entry) → is_some (edited_by (λ bytes. bytes ++ piece) o) ≡ true → is_some o ≡ true
    some_before None some = some
    some_before (Some entry) some = refl

    was : (q : Path) (s : Bool) → same_path q p ≡ s → IsSome (cond s (edited_by (λ bytes. bytes ++ piece) (t p)) (t q)) → IsSome (t q)
    was q true same some = ap is_some (ap t (is_same q p same)) ∙ some_before (t p) some
    was q false other some = some

-- ---- something is moved

none_or : (p q : Path) → (leads p q ≡ true → ⊥) → rest_below p q ≡ None
none_or p q never = by (rest_below p q) refl
  where
    by : (o : Option Path) → rest_below p q ≡ o → o ≡ None
    by None is = refl
    by (Some rest) is = absurd (never (ap is_some is))

-- a path that is not at or below another stays so with fewer names
none_before : (p q : Path) (n : List ℕ) → rest_below p (q ++ n ∷ []) ≡ None → rest_below p q ≡ None
none_before p q n none = none_or p q (λ on. true≢false (sym (leads-on p q (n ∷ []) on) ∙ ap is_some none))

pub tree_moved : (t : Tree) {from : Path} (to : Path) → IsTree t → CanMove t from to → IsTree (moved t from to)
tree_moved t {from} to tree can = record {
  top = ap (λ o. moved_at t from o (rest_below from []) []) to_below ∙ ap (λ o. moved_at t from None o []) from_below ∙ tree.top;
  above = λ q n some. by q n (rest_below to (q ++ n ∷ [])) refl some;
}
  where
    to_below : rest_below to [] ≡ None
    to_below = below to refl
      where
        below : (p : Path) → p ≡ to → rest_below p [] ≡ None
        below [] is = absurd (let none : t [] ≡ None = ap t is ∙ can.target.absent in let top = tree.top in cc)
        below (x ∷ p) is = refl

    from_below : rest_below from [] ≡ None
    from_below = below from refl
      where
        below : (p : Path) → p ≡ from → rest_below p [] ≡ None
        below [] is = absurd (let all : Some to ≡ None = ap (λ (p : Path). rest_below p to) is ∙ can.apart in cc)
        below (x ∷ p) is = refl

    -- nothing of what is moved stands on the way to where it goes
    not_from : (q : Path) → leads from q ≡ true → leads q to ≡ true → ⊥
    not_from q on way = true≢false (sym (leads_through from q to on way) ∙ ap is_some can.apart)

    -- what stands elsewhere stays
    stays : (q : Path) → rest_below to q ≡ None → rest_below from q ≡ None → t q ≡ Some Folder → moved t from to q ≡ Some Folder
    stays q off away folder = ap (λ o. moved_at t from o (rest_below from q) q) off ∙ ap (λ o. moved_at t from None o q) away ∙ folder

    by : (q : Path) (n : List ℕ) (o : Option Path) → rest_below to (q ++ n ∷ []) ≡ o → IsSome (moved_at t from o (rest_below from (q ++ n ∷ [])) (q ++ n ∷ []))
        → moved t from to q ≡ Some Folder
    by q n None off some = away (rest_below from (q ++ n ∷ [])) refl some
      where
        away : (o : Option Path) → rest_below from (q ++ n ∷ []) ≡ o → IsSome (moved_at t from None o (q ++ n ∷ [])) → moved t from to q ≡ Some Folder
        away (Some rest) on some = absurd (false≢true some)
        away None apart some = stays q (none_before to q n off) (none_before from q n apart) (tree.above q n some)
    by q n (Some rest) on some = under (rest_below to q) refl
      where
        under : (o : Option Path) → rest_below to q ≡ o → moved t from to q ≡ Some Folder
        under (Some more) here =
            let whole : q ≡ to ++ more = whole_of to q more here in
            let rest_is : Some rest ≡ Some (more ++ n ∷ []) = sym on ∙ ap (rest_below to) (ap (λ (p : Path). p ++ n ∷ []) whole ∙ append_assoc to more (n ∷ []))
            ∙ rest_of to _ in
            let there : IsSome (t ((from ++ more) ++ n ∷ [])) =
            ap is_some (ap t (append_assoc from more (n ∷ []))) ∙ ap (λ o. is_some (moved_at t from o (rest_below from (q ++ n ∷ [])) (q ++ n ∷ [])))
            (sym rest_is) ∙ some in
            ap (λ o. moved_at t from o (rest_below from q) q) here ∙ tree.above (from ++ more) n there
        under None off =
            let same : to ≡ q ++ n ∷ [] = is_same to (q ++ n ∷ []) (only (leads to q) _ (ap is_some off) (sym (leads-push to q n) ∙ ap is_some on)) in
            let folder : t q ≡ Some Folder = ap t (sym (parent-push q n) ∙ ap parent (sym same)) ∙ can.target.in_folder in
            stays q off (none_or from q (λ at. not_from q at (ap (leads q) same ∙ leads-on q q (n ∷ []) (leads-itself q)))) folder
          where
            only : (a b : Bool) → a ≡ false → (a || b) ≡ true → b ≡ true
            only true b off h = absurd (true≢false off)
            only false b off h = h

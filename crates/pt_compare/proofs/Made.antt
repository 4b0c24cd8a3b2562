-- What is noted while the items of an object are met, and what that tells of all that stands there.
use Rattle.std.proofs.Common.{◌≡◌, ◌∙◌, ◌⊎◌, inl, inr, ℕ, zero, suc, List, [], ◌∷◌, ◌++◌, Bool, true, false, refl, sym, ap, subst, cond, length, arith}
use Rattle.std.specs.Prelude.{All, Option, None, Some, IsSome}
use Rattle.std.specs.Option.{option_map, option_or}
use Rattle.std.proofs.lemmas.List.Elements.{All-head, All-tail}
use Rattle.pt_compare.specs.Marks.{Marks, all_met, is_entry_of, kind_in, met, with_entries, without_mark}
use Rattle.pt_compare.specs.Meeting.{StandsSo}
use Rattle.pt_object.proofs.Making.{CanCarryOut}
use Rattle.pt_object.proofs.Ways.{is_same, path_itself, push-parent}
use Rattle.pt_object.specs.Script.{Item, MakeFolder, MakeFile, done, item_entry, item_path, made}
use Rattle.pt_tree.specs.Path.{Path, last_name, parent, same_path, split_path}
use Rattle.pt_tree.specs.Tree.{CanMake, Entry, Bytes, Folder, IsTree, Tree, kind_of_entry, put}
use Rattle.pt_tree.specs.declared.kind.Kind.{Kind}
use Rattle.pt_tree.proofs.Paths.{parent-push, split_path-push}

-- ---- options and paths

none_or_some : {A : Type 0} (o : Option A) → (o ≡ None) ⊎ ((x : A) × (o ≡ Some x))
none_or_some None = inl refl
none_or_some (Some x) = inr (x, refl)

some_of : {A : Type 0} (o : Option A) (x : A) → o ≡ Some x → IsSome o
some_of o x is = subst IsSome (sym is) refl

pub is_some_of : {A : Type 0} (o : Option A) → IsSome o → (x : A) × (o ≡ Some x)
is_some_of None h = absurd (let e = h in cc)
is_some_of (Some x) h = (x, refl)

pub last-push : (p : Path) (n : List ℕ) → last_name (p ++ n ∷ []) ≡ n
last-push [] n = refl
last-push (x ∷ []) n = refl
last-push (x ∷ y ∷ p) n = last-push (y ∷ p) n

pub entry_of_folder : (p : Path) (n : List ℕ) → is_entry_of p (split_path (p ++ n ∷ [])) ≡ true
entry_of_folder p n = ap (is_entry_of p) (split_path-push p n) ∙ path_itself p

-- an entry of a folder is its path with a name
pub entry_is : (p q : Path) → is_entry_of p (split_path q) ≡ true → q ≡ p ++ last_name q ∷ []
entry_is p [] h = absurd (let e = h in cc)
entry_is p (x ∷ q) h = sym (push-parent x q) ∙ ap (λ (r : Path). r ++ last_name (x ∷ q) ∷ []) (is_same (parent (x ∷ q)) p h)

-- a path is another than a longer one
pub not_longer : (p : Path) (n : List ℕ) → p ≡ p ++ n ∷ [] → ⊥
not_longer [] n is = cc
not_longer (x ∷ p) n is = not_longer p n cc

-- a kind tells that something stands
pub kind_none : (t : Tree) (q : Path) → kind_in t q ≡ None → t q ≡ None
kind_none t q none = on (t q) none
  where
    on : (o : Option Entry) → option_map kind_of_entry o ≡ None → o ≡ None
    on None h = refl
    on (Some x) h = absurd (cc)

pub kind_some : (t : Tree) (q : Path) (k : Kind) → kind_in t q ≡ Some k → (e : Entry) × (t q ≡ Some e) × (kind_of_entry e ≡ k)
kind_some t q k is = on (t q) is
  where
    on : (o : Option Entry) → option_map kind_of_entry o ≡ Some k → (e : Entry) × (o ≡ Some e) × (kind_of_entry e ≡ k)
    on None h = absurd (cc)
    on (Some x) h = (x, refl, cc)

-- ---- trees in which items are made

pub put_there : (u : Tree) (p : Path) (e : Entry) → put u p e p ≡ Some e
put_there u p e = ap (λ t. cond t (Some e) (u p)) (path_itself p)

pub put_other : (u : Tree) (p q : Path) (e : Entry) → (q ≡ p → ⊥) → put u p e q ≡ u q
put_other u p q e other = on (same_path q p) refl
  where
    on : (b : Bool) → same_path q p ≡ b → cond b (Some e) (u q) ≡ u q
    on true is = absurd (other (is_same q p is))
    on false is = refl

-- the two cases of a path after one was put
either_put : (u : Tree) (p q : Path) (e : Entry) → ((q ≡ p) × (put u p e q ≡ Some e)) ⊎ ((q ≡ p → ⊥) × (put u p e q ≡ u q))
either_put u p q e = on (same_path q p) refl
  where
    on : (b : Bool) → same_path q p ≡ b → ((q ≡ p) × (cond b (Some e) (u q) ≡ Some e)) ⊎ ((q ≡ p → ⊥) × (cond b (Some e) (u q) ≡ u q))
    on true is = inl (is_same q p is, refl)
    on false is = inr ((λ same. let itself = ap (λ (r : Path). same_path r p) same ∙ path_itself p in cc), refl)

-- what may be made leaves a tree
pub put_tree : (u : Tree) (p : Path) (e : Entry) → IsTree u → CanMake u p → IsTree (put u p e)
put_tree u p e tree can = record {
  top = put_other u p [] e (λ same. let none = can.absent in let top = tree.top ∙ refl in let there = ap u same in cc) ∙ tree.top;
  above = λ q n some. stays q (folder q n some (either_put u p (q ++ n ∷ []) e));
}
  where
    stays : (q : Path) → u q ≡ Some Folder → put u p e q ≡ Some Folder
    stays q is = put_other u p q e (λ same. let none = can.absent in let there = ap u same in cc) ∙ is

    folder : (q : Path) (n : List ℕ) → IsSome (put u p e (q ++ n ∷ []))
        → ((q ++ n ∷ [] ≡ p) × (put u p e (q ++ n ∷ []) ≡ Some e)) ⊎ ((q ++ n ∷ [] ≡ p → ⊥) × (put u p e (q ++ n ∷ []) ≡ u (q ++ n ∷ []))) → u q ≡ Some Folder
    folder q n some (inl there) = ap u (sym (parent-push q n) ∙ ap parent there.0) ∙ can.in_folder
    folder q n some (inr other) = tree.above q n (subst IsSome other.1 some)

-- what stands stays, where what is made was absent
pub stays_made : (items : List Item) (u : Tree) (p : Path) (e : Entry) → CanCarryOut items u → u p ≡ Some e → made items u p ≡ Some e
stays_made [] u p e can is = is
stays_made (item ∷ items) u p e can is =
    stays_made items (done item u) p e can.1
    (put_other u (item_path item) p (item_entry item) (λ same. let none = can.0.absent in let there = ap u same in cc) ∙ is)

-- ---- what is noted

module _ (t : Tree) where
  -- what holds between what is noted and what was made of the object so far
  pub record Noting (u : Tree) (marks : Marks) : Type 0 where
    pub tree : IsTree u
    pub noted : (q : Path) (k : Kind) → marks q ≡ Some k → kind_in t q ≡ Some k
    pub unmade : (q : Path) → IsSome (marks q) → u q ≡ None
    pub listed : (p : Path) (n : List ℕ) → u p ≡ Some Folder → u (p ++ n ∷ []) ≡ None → marks (p ++ n ∷ []) ≡ kind_in t (p ++ n ∷ [])

  either_left : (p q : Path) (marks : Marks) → ((q ≡ p) × (without_mark p marks q ≡ None)) ⊎ ((q ≡ p → ⊥) × (without_mark p marks q ≡ marks q))
  either_left p q marks = on (same_path q p) refl
    where
      on : (b : Bool) → same_path q p ≡ b → ((q ≡ p) × (cond b None (marks q) ≡ None)) ⊎ ((q ≡ p → ⊥) × (cond b None (marks q) ≡ marks q))
      on true is = inl (is_same q p is, refl)
      on false is = inr ((λ same. let itself = ap (λ (r : Path). same_path r p) same ∙ path_itself p in cc), refl)

  -- what is left noted was noted, and is another path
  pub left_some : (p q : Path) (marks : Marks) (k : Kind) → without_mark p marks q ≡ Some k → (marks q ≡ Some k) × (q ≡ p → ⊥)
  left_some p q marks k is = on (either_left p q marks)
    where
      on : ((q ≡ p) × (without_mark p marks q ≡ None)) ⊎ ((q ≡ p → ⊥) × (without_mark p marks q ≡ marks q)) → (marks q ≡ Some k) × (q ≡ p → ⊥)
      on (inl there) = absurd (let none = there.1 in cc)
      on (inr other) = (sym other.1 ∙ is, other.0)

  left_other : (p q : Path) (marks : Marks) → (q ≡ p → ⊥) → without_mark p marks q ≡ marks q
  left_other p q marks differs = on (either_left p q marks)
    where
      on : ((q ≡ p) × (without_mark p marks q ≡ None)) ⊎ ((q ≡ p → ⊥) × (without_mark p marks q ≡ marks q)) → without_mark p marks q ≡ marks q
      on (inl there) = absurd (differs there.0)
      on (inr other) = other.1

  -- the entries of a folder: one that is noted is an entry that stands, or was noted
  pub entries_some : (p q : Path) (marks : Marks) (k : Kind) → with_entries t p marks q ≡ Some k
      → ((is_entry_of p (split_path q) ≡ true) × (kind_in t q ≡ Some k)) ⊎ (marks q ≡ Some k)
  entries_some p q marks k is = on (is_entry_of p (split_path q)) refl (kind_in t q) refl is
    where
      on : (b : Bool) → is_entry_of p (split_path q) ≡ b → (o : Option Kind) → kind_in t q ≡ o → option_or (cond b o None) (marks q) ≡ Some k
          → ((is_entry_of p (split_path q) ≡ true) × (kind_in t q ≡ Some k)) ⊎ (marks q ≡ Some k)
      on true entry None none is = inr is
      on true entry (Some x) some is = inl (entry, some ∙ is)
      on false entry o same is = inr is

  entries_other : (p q : Path) (marks : Marks) → (is_entry_of p (split_path q) ≡ true → ⊥) → with_entries t p marks q ≡ marks q
  entries_other p q marks other = on (is_entry_of p (split_path q)) refl
    where
      on : (b : Bool) → is_entry_of p (split_path q) ≡ b → option_or (cond b (kind_in t q) None) (marks q) ≡ marks q
      on true entry = absurd (other entry)
      on false entry = refl

  entries_there : (p q : Path) (marks : Marks) → is_entry_of p (split_path q) ≡ true → ((k : Kind) → marks q ≡ Some k → kind_in t q ≡ Some k)
      → with_entries t p marks q ≡ kind_in t q
  entries_there p q marks entry noted = ap (λ b. option_or (cond b (kind_in t q) None) (marks q)) entry ∙ on (kind_in t q) refl (marks q) refl
    where
      on : (o : Option Kind) → kind_in t q ≡ o → (m : Option Kind) → marks q ≡ m → option_or o m ≡ o
      on (Some x) is m same = refl
      on None is None same = refl
      on None is (Some k) same = absurd (let there = noted k same in cc)

  -- a folder of another path has other entries
  not_both : (p r : Path) (n : List ℕ) → (r ≡ p → ⊥) → is_entry_of p (split_path (r ++ n ∷ [])) ≡ true → ⊥
  not_both p r n differs entry = differs (is_same r p (sym (ap (is_entry_of p) (split_path-push r n)) ∙ entry))

  met_folder : (u : Tree) (marks : Marks) (p : Path) → CanMake u p → Noting u marks → Noting (put u p Folder) (met t (MakeFolder p) marks)
  met_folder u marks p can is = record {
    tree = put_tree u p Folder is.tree can;
    noted = λ q k some. from q k (entries_some p q (without_mark p marks) k some);
    unmade = λ q some. let there = is_some_of (met t (MakeFolder p) marks q) some in not_made q there.0
        (entries_some p q (without_mark p marks) there.0 there.1);
    listed = λ r n folder absent. opened r n folder absent (either_put u p r Folder) (either_put u p (r ++ n ∷ []) Folder);
  }
    where
      from : (q : Path) (k : Kind) → ((is_entry_of p (split_path q) ≡ true) × (kind_in t q ≡ Some k)) ⊎ (without_mark p marks q ≡ Some k) → kind_in t q ≡ Some k
      from q k (inl entry) = entry.1
      from q k (inr left) = is.noted q k (left_some p q marks k left).0

      -- below what is absent nothing was made
      below : (n : List ℕ) → u (p ++ n ∷ []) ≡ None
      below n = on (none_or_some (u (p ++ n ∷ [])))
        where
          on : (u (p ++ n ∷ []) ≡ None) ⊎ ((x : Entry) × (u (p ++ n ∷ []) ≡ Some x)) → u (p ++ n ∷ []) ≡ None
          on (inl none) = none
          on (inr some) = absurd (let folder = is.tree.above p n (some_of _ some.0 some.1) in let none = can.absent in cc)

      not_made : (q : Path) (k : Kind) → ((is_entry_of p (split_path q) ≡ true) × (kind_in t q ≡ Some k)) ⊎ (without_mark p marks q ≡ Some k)
          → put u p Folder q ≡ None
      not_made q k (inl entry) =
          let whole = entry_is p q entry.0 in
          put_other u p q Folder (λ same. not_longer p (last_name q) (sym same ∙ whole)) ∙ ap u whole ∙ below (last_name q)
      not_made q k (inr left) =
          let was = left_some p q marks k left in
          put_other u p q Folder was.1 ∙ is.unmade q (some_of (marks q) k was.0)

      opened : (r : Path) (n : List ℕ) → put u p Folder r ≡ Some Folder → put u p Folder (r ++ n ∷ []) ≡ None
          → ((r ≡ p) × (put u p Folder r ≡ Some Folder)) ⊎ ((r ≡ p → ⊥) × (put u p Folder r ≡ u r))
          → ((r ++ n ∷ [] ≡ p) × (put u p Folder (r ++ n ∷ []) ≡ Some Folder)) ⊎ ((r ++ n ∷ [] ≡ p → ⊥) × (put u p Folder (r ++ n ∷ []) ≡ u (r ++ n ∷ [])))
          → met t (MakeFolder p) marks (r ++ n ∷ []) ≡ kind_in t (r ++ n ∷ [])
      opened r n folder absent here (inl there) = absurd (let some = there.1 in cc)
      opened r n folder absent (inl here) (inr there) =
          entries_there p (r ++ n ∷ []) (without_mark p marks) (ap (λ (s : Path). is_entry_of p (split_path (s ++ n ∷ []))) here.0 ∙ entry_of_folder p n)
          (λ k left. is.noted (r ++ n ∷ []) k (left_some p (r ++ n ∷ []) marks k left).0)
      opened r n folder absent (inr here) (inr there) =
          entries_other p (r ++ n ∷ []) (without_mark p marks) (not_both p r n here.0)
          ∙ left_other p (r ++ n ∷ []) marks there.0
          ∙ is.listed r n (sym here.1 ∙ folder) (sym there.1 ∙ absent)

  met_file : (u : Tree) (marks : Marks) (p : Path) (bytes : List ℕ) → CanMake u p → Noting u marks
      → Noting (put u p (Bytes bytes)) (met t (MakeFile p bytes) marks)
  met_file u marks p bytes can is = record {
    tree = put_tree u p (Bytes bytes) is.tree can;
    noted = λ q k some. is.noted q k (left_some p q marks k some).0;
    unmade = λ q some. let there = is_some_of (without_mark p marks q) some in let was = left_some p q marks there.0 there.1 in put_other u p q (Bytes bytes)
        was.1 ∙ is.unmade q (some_of (marks q) there.0 was.0);
    listed = λ r n folder absent. opened r n folder absent (either_put u p r (Bytes bytes)) (either_put u p (r ++ n ∷ []) (Bytes bytes));
  }
    where
      opened : (r : Path) (n : List ℕ) → put u p (Bytes bytes) r ≡ Some Folder → put u p (Bytes bytes) (r ++ n ∷ []) ≡ None
          → ((r ≡ p) × (put u p (Bytes bytes) r ≡ Some (Bytes bytes))) ⊎ ((r ≡ p → ⊥) × (put u p (Bytes bytes) r ≡ u r))
          → ((r ++ n ∷ [] ≡ p) × (put u p (Bytes bytes) (r ++ n ∷ []) ≡ Some (Bytes bytes)))
          ⊎ ((r ++ n ∷ [] ≡ p → ⊥) × (put u p (Bytes bytes) (r ++ n ∷ []) ≡ u (r ++ n ∷ [])))
          → without_mark p marks (r ++ n ∷ []) ≡ kind_in t (r ++ n ∷ [])
      opened r n folder absent (inl here) there = absurd (let some = here.1 in cc)
      opened r n folder absent (inr here) (inl there) = absurd (let some = there.1 in cc)
      opened r n folder absent (inr here) (inr there) =
          left_other p (r ++ n ∷ []) marks there.0
          ∙ is.listed r n (sym here.1 ∙ folder) (sym there.1 ∙ absent)

  pub met_one : (item : Item) (u : Tree) (marks : Marks) → CanMake u (item_path item) → Noting u marks → Noting (done item u) (met t item marks)
  met_one (MakeFolder p) u marks can is = met_folder u marks p can is
  met_one (MakeFile p bytes) u marks can is = met_file u marks p bytes can is

  pub met_all : (items : List Item) (u : Tree) (marks : Marks) → CanCarryOut items u → Noting u marks → Noting (made items u) (all_met t items marks)
  met_all [] u marks can is = is
  met_all (item ∷ items) u marks can is = met_all items (done item u) (met t item marks) can.1 (met_one item u marks can.0 is)

  -- of the next item it is noted what stands there
  pub next_noted : (p : Path) (u : Tree) (marks : Marks) → CanMake u p → Noting u marks → marks p ≡ kind_in t p
  next_noted [] u marks can is = absurd (let none = can.absent in let top = is.tree.top in cc)
  next_noted (x ∷ p) u marks can is =
      let whole = push-parent x p in
      subst (λ (q : Path). marks q ≡ kind_in t q) whole
      (is.listed (parent (x ∷ p)) (last_name (x ∷ p)) can.in_folder (ap u whole ∙ can.absent))

  -- at each path the items make what stands there, or nothing
  pub made_either : (items : List Item) (u : Tree) (q : Path) → All (StandsSo t) items → (u q ≡ t q) ⊎ (u q ≡ None)
      → (made items u q ≡ t q) ⊎ (made items u q ≡ None)
  made_either [] u q stand start = start
  made_either (item ∷ items) u q stand start =
      made_either items (done item u) q (All-tail (StandsSo t) item items stand) (on (either_put u (item_path item) q (item_entry item)) start)
    where
      on : ((q ≡ item_path item) × (done item u q ≡ Some (item_entry item))) ⊎ ((q ≡ item_path item → ⊥) × (done item u q ≡ u q)) → (u q ≡ t q) ⊎ (u q ≡ None)
          → (done item u q ≡ t q) ⊎ (done item u q ≡ None)
      on (inl there) start = inl (there.1 ∙ sym (ap t there.0 ∙ All-head (StandsSo t) item items stand))
      on (inr other) (inl same) = inl (other.1 ∙ same)
      on (inr other) (inr none) = inr (other.1 ∙ none)

  length-parent : (x : List ℕ) (p : Path) → length (parent (x ∷ p)) ≡ length p
  length-parent x [] = refl
  length-parent x (y ∷ p) = ap suc (length-parent y p)

  -- where nothing is noted, nothing else stands than what was made
  module _ (tree : IsTree t) (w : Tree) (marks : Marks) (is : Noting w marks) (none : (q : Path) → marks q ≡ None) (either : (q : Path)
      → (w q ≡ t q) ⊎ (w q ≡ None)) where
    nothing_else : (k : ℕ) (q : Path) → length q ≡ k → w q ≡ None → t q ≡ None
    nothing_else k [] long absent = absurd (let top = is.tree.top in cc)
    nothing_else zero (x ∷ q) long absent = absurd (omega (arith, long))
    nothing_else (suc k) (x ∷ q) long absent = on (nothing_else k (parent (x ∷ q)) (length-parent x q ∙ omega (arith, long))) (none_or_some (t (x ∷ q)))
      where
        whole : parent (x ∷ q) ++ last_name (x ∷ q) ∷ [] ≡ x ∷ q
        whole = push-parent x q

        found : (w (parent (x ∷ q)) ≡ None → t (parent (x ∷ q)) ≡ None) → t (parent (x ∷ q)) ≡ Some Folder
            → (w (parent (x ∷ q)) ≡ t (parent (x ∷ q))) ⊎ (w (parent (x ∷ q)) ≡ None) → t (x ∷ q) ≡ None
        found earlier folder (inr gone) = absurd (let no = earlier gone in cc)
        found earlier folder (inl same) =
            kind_none t (x ∷ q)
            (ap (kind_in t) (sym whole) ∙ sym (is.listed (parent (x ∷ q)) (last_name (x ∷ q)) (same ∙ folder) (ap w whole ∙ absent))
            ∙ none (parent (x ∷ q) ++ last_name (x ∷ q) ∷ []))

        on : (w (parent (x ∷ q)) ≡ None → t (parent (x ∷ q)) ≡ None) → (t (x ∷ q) ≡ None) ⊎ ((e : Entry) × (t (x ∷ q) ≡ Some e)) → t (x ∷ q) ≡ None
        on earlier (inl gone) = gone
        on earlier (inr some) = found earlier (tree.above (parent (x ∷ q)) (last_name (x ∷ q)) (some_of _ some.0 (ap t whole ∙ some.1)))
            (either (parent (x ∷ q)))

    pub all_same : (q : Path) → t q ≡ w q
    all_same q = on (either q)
      where
        on : (w q ≡ t q) ⊎ (w q ≡ None) → t q ≡ w q
        on (inl same) = sym same
        on (inr absent) = nothing_else (length q) q refl absent ∙ sym absent

-- What a destination tells after a file is made, and after writes, by the laws of its system.
use Rattle.std.proofs.Common.{◌≡◌, ℕ, ◌+◌, List, [], ◌∷◌, ◌++◌, refl, sym, ap, subst, ◌∙◌, inl, inr, take, drop, append-nil}
use Rattle.std.specs.Prelude.{◌⊎◌, Option, None, Some, Result, Ok, Err, OnOk, OnErr, MatchResult}
use Rattle.std.specs.Option.{option_map, ForSome}
use Rattle.std.specs.List.{FoldsTo}
use Rattle.std.specs.declared.io.Error.{Error}
use Rattle.std.specs.IoError.{error_kind}
use Rattle.std.specs.declared.io.ErrorKind.TheVariants.{WriteZero}
use Rattle.std.proofs.Math.Seq.{take-add}
use Rattle.std.proofs.lemmas.List.{drop-drop, take-append-drop}
use Rattle.pt_tree.specs.declared.faults.TreeFault.{TreeFault}
use Rattle.pt_tree.specs.Path.{Path}
use Rattle.pt_tree.specs.Tree.{Tree, Bytes, put, added, CanMake}
use Rattle.pt_tree.specs.Dest.{LeavesPart, after_create, after_append}
use Rattle.pt_folder.specs.declared.writing.FileInWriting.{FileInWriting as Open}
use Rattle.pt_folder.specs.Calls.{MakesOnce, change_of}
use Rattle.pt_folder.specs.Folder.{entry_in}
use Rattle.pt_folder.specs.DestLaws.{Kept, MakesFile, AddsPart, FileLaw, WriteLaw}
use Rattle.pt_folder.specs.DestHeld.{told_of, IsPlaced}
use Rattle.pt_folder.specs.Runs.{FailsToWrite, WritesAll, WritesMore, on_pairs}
use Rattle.pt_folder.specs.Writing.{MakesAt, WritesTo}
use Rattle.pt_folder.proofs.DestTold.{told_at}
use Rattle.pt_folder.proofs.MoveTold.{was_told}
use Rattle.pt_tree.proofs.AtPaths.{added-nil}
use Rattle.pt_folder.proofs.Trees.{added-added}

-- an empty file is made and is the open one, or nothing is changed
abbrev pub HasCreated : {F : Type 0} → Kept F → Kept F → Path → Option (Open F) → Option (Open F) → Result (Unit {0}) TreeFault → Type 0
HasCreated {F} old new p w v (Ok x) = (file : F) × (v ≡ Some (record { file = file; path = p })) × (new.tree ≡ option_map (λ t. put t p (Bytes [])) old.tree)
    × ForSome old.tree (λ _. new.place file ≡ Some p)
HasCreated old new p w v (Err e) = (new ≡ old) × (v ≡ w)

told_created : {F : Type 0} (w v : Option (Open F)) (o : Option Tree) (p : Path) → option_map (λ w. w.path) v ≡ Some p
    → option_map (told_at v) (option_map (λ t. put t p (Bytes [])) o) ≡ option_map (after_create p) (option_map (told_at w) o)
told_created w v None p is = refl
told_created w v (Some t) p is = ap (λ x. Some (record { tree = put t p (Bytes []); writing = x })) is

module _ {S F : Type 0} (kept : S → List ℕ → Kept F) (folder : List ℕ) (old new : S) (p : Path) (w v : Option (Open F)) where
  pub create_gives : (makes : S → List ℕ → Result F Error → S → Type 0) → FileLaw kept makes → (longest : ℕ) (result : Result (Unit {0}) TreeFault)
      → ForSome (kept old folder).tree (λ t. CanMake t p) → MakesOnce longest makes (MakesAt p w v) (entry_in folder p) (change_of old new) result
      → OnErr result (v ≡ w) → HasCreated (kept old folder) (kept new folder) p w v result
  create_gives makes law longest (Ok x) can (inl none) same = absurd none.1
  create_gives makes law longest (Err e) can (inl none) same = (ap (λ s. kept s folder) none.0, same)
  create_gives makes law longest result can (inr asked) same = by asked.reply result asked.gives (law old new folder p asked.reply asked.named can asked.made)
    where
      by : (reply : Result F Error) (result : Result (Unit {0}) TreeFault) → MakesAt p w v reply result → MakesFile (kept old folder) (kept new folder) p reply
          → HasCreated (kept old folder) (kept new folder) p w v result
      by (Ok file) (Ok y) gives is = (file, gives.1, is.0, is.1)
      by (Ok file) (Err f) gives is = let other = gives.0 in absurd (cc)
      by (Err e) (Ok y) gives is = let other = gives.0 in absurd (cc)
      by (Err e) (Err f) gives is = (is, gives.1)

  pub create_made : (result : Result (Unit {0}) TreeFault) → HasCreated (kept old folder) (kept new folder) p w v result
      → OnOk result (told_of (kept new folder) v ≡ option_map (after_create p) (told_of (kept old folder) w))
  create_made (Err e) is = tt
  create_made (Ok x) is = ap (option_map (told_at v)) is.2 ∙ told_created w v (kept old folder).tree p (ap (option_map (λ (w : Open F). w.path)) is.1)

  pub create_same : (result : Result (Unit {0}) TreeFault) → HasCreated (kept old folder) (kept new folder) p w v result
      → OnErr result (told_of (kept new folder) v ≡ told_of (kept old folder) w)
  create_same (Ok x) is = tt
  create_same (Err e) is = λ i. told_of (is.0 i) (is.1 i)

  pub create_placed : (result : Result (Unit {0}) TreeFault) → HasCreated (kept old folder) (kept new folder) p w v result → IsPlaced (kept old folder) w
      → IsPlaced (kept new folder) v
  create_placed (Err e) is at = subst (λ (k : Kept F). IsPlaced k v) (sym is.0) (subst (IsPlaced (kept old folder)) (sym is.1) at)
  create_placed (Ok x) is at = λ t told o at_open.
      let before = was_told (kept old folder).tree (λ t. put t p (Bytes [])) t (sym is.2 ∙ told) in
      let same : record { file = is.0; path = p } ≡ o = cc in
      subst (λ (o : Open F). (kept new folder).place o.file ≡ Some o.path) same (is.3 before.0 before.1)

-- a part and then more of the rest
adds_more : {F : Type 0} (a b c : Kept F) (q : Path) (f g : F) (bytes : List ℕ) (k n : ℕ) → AddsPart a b q f bytes k → AddsPart b c q g (drop k bytes) n
    → AddsPart a c q g bytes (k + n)
adds_more {F} a b c q f g bytes k n first next = record {
  tree = next.tree ∙ ap (option_map (λ t. added t q (take n (drop k bytes)))) first.tree ∙ both a.tree
      ∙ ap (λ (ys : List ℕ). option_map (λ t. added t q ys) a.tree) (sym (take-add k n bytes));
  place = λ t told. next.place (added t q (take k bytes)) (first.tree ∙ ap (option_map (λ t. added t q (take k bytes))) told);
}
  where
    both : (o : Option Tree) → option_map (λ t. added t q (take n (drop k bytes))) (option_map (λ t. added t q (take k bytes)) o)
        ≡ option_map (λ t. added t q (take k bytes ++ take n (drop k bytes))) o
    both None = refl
    both (Some t) = ap Some (added-added t q (take k bytes) (take n (drop k bytes)))

adds_nothing : {F : Type 0} (a : Kept F) (q : Path) (f : F) (bytes : List ℕ) → ForSome a.tree (λ _. a.place f ≡ Some q) → AddsPart a a q f bytes 0
adds_nothing a q f bytes at = record { tree = by a.tree; place = at }
  where
    by : (o : Option Tree) → o ≡ option_map (λ t. added t q (take 0 bytes)) o
    by None = refl
    by (Some t) = ap Some (sym (added-nil t q))

module _ {S F : Type 0} (kept : S → List ℕ → Kept F) (folder : List ℕ) (writes : S → F → List ℕ → Result ℕ Error → S → F
    → Type 0) (law : WriteLaw kept writes) (q : Path) where
  -- writes one after another add what they took
  chain : (counts : List ℕ) (old new : S × F) (bytes left : List ℕ) → FoldsTo (WritesMore (on_pairs writes)) (old, bytes) counts (new, left)
      → ForSome (kept old.0 folder).tree (λ _. (kept old.0 folder).place old.1 ≡ Some q)
      → (n : ℕ) × AddsPart (kept old.0 folder) (kept new.0 folder) q new.1 bytes n × (left ≡ drop n bytes)
  chain [] old new bytes left is at =
      let same : old ≡ new = ap (λ (x : (S × F) × List ℕ). x.0) is in (
        0,
        subst (λ (x : S × F). AddsPart (kept old.0 folder) (kept x.0 folder) q x.1 bytes 0) same (adds_nothing (kept old.0 folder) q old.1 bytes at),
        ap
            (λ (x : (S × F) × List ℕ). x.1) (sym is),
      )
  chain (k ∷ counts) old new bytes left (mid, one, rest) at =
      let first = law old.0 mid.0.0 folder q old.1 mid.0.1 bytes (Ok k) at one.1 in
      let placed : ForSome (kept mid.0.0 folder).tree (λ _. (kept mid.0.0 folder).place mid.0.1 ≡ Some q) = λ t told. let before = was_told
      (kept old.0 folder).tree (λ t. added t q (take k bytes)) t (sym first.tree ∙ told) in first.place before.0 before.1 in
      let more = chain counts mid.0 new mid.1 left rest placed in
      let further = subst (λ (ys : List ℕ). AddsPart (kept mid.0.0 folder) (kept new.0 folder) q new.1 ys more.0) one.2 more.1 in (
        k + more.0,
        adds_more (kept old.0 folder) (kept mid.0.0 folder) (kept new.0 folder) q mid.0.1 new.1 bytes k more.0 first further,
        more.2
            ∙ ap (drop more.0) one.2 ∙ drop-drop more.0 k bytes,
      )

  all_added : (old new : S × F) (bytes : List ℕ) → WritesAll (on_pairs writes) bytes old new
      → ForSome (kept old.0 folder).tree (λ _. (kept old.0 folder).place old.1 ≡ Some q)
      → (n : ℕ) × AddsPart (kept old.0 folder) (kept new.0 folder) q new.1 bytes n × (take n bytes ≡ bytes)
  all_added old new bytes (counts, folds) at =
      let is = chain counts old new bytes [] folds at in
      (is.0, is.1, sym (append-nil (take is.0 bytes)) ∙ ap (λ (ys : List ℕ). take is.0 bytes ++ ys) is.2 ∙ take-append-drop is.0 bytes)

  part_added : (old new : S × F) (bytes : List ℕ) (e : Error) → FailsToWrite (on_pairs writes) bytes old e new
      → ForSome (kept old.0 folder).tree (λ _. (kept old.0 folder).place old.1 ≡ Some q)
      → (n : ℕ) × AddsPart (kept old.0 folder) (kept new.0 folder) q new.1 bytes n
  part_added old new bytes e fails at = by fails.failed
    where
      is : (n : ℕ) × AddsPart (kept old.0 folder) (kept fails.last.0 folder) q fails.last.1 bytes n × (fails.left ≡ drop n bytes)
      is = chain fails.counts old fails.last bytes fails.left fails.written at

      placed : ForSome (kept fails.last.0 folder).tree (λ _. (kept fails.last.0 folder).place fails.last.1 ≡ Some q)
      placed = λ t told. let before = was_told (kept old.0 folder).tree (λ t. added t q (take is.0 bytes)) t (sym is.1.tree ∙ told) in is.1.place before.0
          before.1

      further : (k : ℕ) → AddsPart (kept fails.last.0 folder) (kept new.0 folder) q new.1 fails.left k
          → (n : ℕ) × AddsPart (kept old.0 folder) (kept new.0 folder) q new.1 bytes n
      further k more = (
        is.0 + k,
        adds_more (kept old.0 folder) (kept fails.last.0 folder) (kept new.0 folder) q fails.last.1 new.1 bytes is.0 k is.1
            (subst (λ (ys : List ℕ). AddsPart (kept fails.last.0 folder) (kept new.0 folder) q new.1 ys k) is.2 more),
      )

      by : (writes fails.last.0 fails.last.1 fails.left (Err e) new.0 new.1) ⊎ ((writes fails.last.0 fails.last.1 fails.left (Ok 0) new.0 new.1)
          × (error_kind e ≡ WriteZero)) → (n : ℕ) × AddsPart (kept old.0 folder) (kept new.0 folder) q new.1 bytes n
      by (inl failed) = let part = law fails.last.0 new.0 folder q fails.last.1 new.1 fails.left (Err e) placed failed in further part.0 part.1
      by (inr none) = further 0 (law fails.last.0 new.0 folder q fails.last.1 new.1 fails.left (Ok 0) placed none.0)

told_added : {F : Type 0} (w v : Open F) (o : Option Tree) (ys : List ℕ) → v.path ≡ w.path
    → option_map (told_at (Some v)) (option_map (λ t. added t w.path ys) o) ≡ option_map (after_append ys) (option_map (told_at (Some w)) o)
told_added w v None ys is = refl
told_added w v (Some t) ys is = ap (λ x. Some (record { tree = added t w.path ys; writing = Some x })) is

none_open : (F : Type 0) (o : Option Tree) (ys : List ℕ) → let w : Option (Open F) = None in option_map (told_at w) o
    ≡ option_map (after_append ys) (option_map (told_at w) o)
none_open F None ys = refl
none_open F (Some t) ys = refl

module _ {S F : Type 0} (kept : S → List ℕ → Kept F) (folder : List ℕ) (writes : S → F → List ℕ → Result ℕ Error → S → F
    → Type 0) (law : WriteLaw kept writes) (old new : S) (piece : List ℕ) where
  part_told : (w v : Open F) (n : ℕ) → AddsPart (kept old folder) (kept new folder) w.path v.file piece n → v.path ≡ w.path
      → told_of (kept new folder) (Some v) ≡ option_map (after_append (take n piece)) (told_of (kept old folder) (Some w))
  part_told w v n part same = ap (option_map (told_at (Some v))) part.tree ∙ told_added w v (kept old folder).tree (take n piece) same

  part_placed : (w v : Open F) (n : ℕ) → AddsPart (kept old folder) (kept new folder) w.path v.file piece n → v.path ≡ w.path
      → IsPlaced (kept new folder) (Some v)
  part_placed w v n part same = λ t told o is.
      let before = was_told (kept old folder).tree (λ t. added t w.path (take n piece)) t (sym part.tree ∙ told) in
      let here : v ≡ o = cc in
      subst (λ (o : Open F). (kept new folder).place o.file ≡ Some o.path) here (part.place before.0 before.1 ∙ ap Some (sym same))

  pub append_tells : (w v : Option (Open F)) (result : Result (Unit {0}) TreeFault) → WritesTo writes (change_of old new) w v piece result
      → IsPlaced (kept old folder) w
      → MatchResult result (λ _. told_of (kept new folder) v ≡ option_map (after_append piece) (told_of (kept old folder) w))
      (λ _. LeavesPart (told_of (kept old folder) w) (told_of (kept new folder) v) piece)
  append_tells None v (Ok x) is at = let other = is.0 in absurd (cc)
  append_tells None v (Err e) is at = record {
    count = 0;
    left = (λ i. told_of (kept (is.2 i) folder) (is.1 i))
        ∙ none_open F (kept old folder).tree (take 0 piece);
  }
  append_tells (Some w) None result is at = absurd is
  append_tells (Some w) (Some v) (Ok x) is at =
      let part = all_added kept folder writes law w.path (old, w.file) (new, v.file) piece is.1 (λ t told. at t told w refl) in
      part_told w v part.0 part.1 is.0 ∙ ap (λ (ys : List ℕ). option_map (after_append ys) (told_of (kept old folder) (Some w))) part.2
  append_tells (Some w) (Some v) (Err e) is at =
      let part = part_added kept folder writes law w.path (old, w.file) (new, v.file) piece is.1.0 is.1.1 (λ t told. at t told w refl) in
      record { count = part.0; left = part_told w v part.0 part.1 is.0 }

  pub append_placed : (w v : Option (Open F)) (result : Result (Unit {0}) TreeFault) → WritesTo writes (change_of old new) w v piece result
      → IsPlaced (kept old folder) w → IsPlaced (kept new folder) v
  append_placed None v result is at = λ t told o here. let gone : v ≡ None = is.1 in absurd (cc)
  append_placed (Some w) None result is at = absurd is
  append_placed (Some w) (Some v) (Ok x) is at =
      let part = all_added kept folder writes law w.path (old, w.file) (new, v.file) piece is.1 (λ t told. at t told w refl) in
      part_placed w v part.0 part.1 is.0
  append_placed (Some w) (Some v) (Err e) is at =
      let part = part_added kept folder writes law w.path (old, w.file) (new, v.file) piece is.1.0 is.1.1 (λ t told. at t told w refl) in
      part_placed w v part.0 part.1 is.0

-- the two answers of a call
pub at_ok : {A B : Type 0} (r : Result A B) (P Q : Type 0) → MatchResult r (λ _. P) (λ _. Q) → OnOk r P
at_ok (Ok x) P Q is = is
at_ok (Err e) P Q is = tt

pub at_err : {A B : Type 0} (r : Result A B) (P Q : Type 0) → MatchResult r (λ _. P) (λ _. Q) → OnErr r Q
at_err (Ok x) P Q is = tt
at_err (Err e) P Q is = is

-- What a rehearsal leaves of the folder, and what fits after its calls.
use Rattle.std.proofs.Common.{◌≡◌, ◌∙◌, ℕ, Bool, true, false, List, [], ◌∷◌, refl, ap, sym, subst, inl, inr, take}
use Rattle.std.specs.Prelude.{Option, None, Some, Result, Ok, Err, IfOk, IsSome, OnOk}
use Rattle.std.specs.Option.{option_map, ForSome}
use Rattle.std.specs.declared.io.Error.{Error}
use Rattle.std.proofs.Math.Logic.{∥∥₁_elim, ∥∥₁_map}
use Rattle.pt_rehearsal.specs.Steps.{Added, Closed, MadeDir, MadeFile, Moved, Step, played}
use Rattle.pt_tree.specs.Dest.{CanPeek, IsKindAt, IsPeeked, MayMake, MayMove, Writing}
use Rattle.pt_tree.specs.Name.{AreNames}
use Rattle.pt_tree.specs.Path.{Path}
use Rattle.pt_tree.specs.Tree.{Folder, IsTree, Tree, bytes_of, kind_of_entry}
use Rattle.pt_tree.specs.declared.kind.Kind.{Kind}
use Rattle.pt_tree.specs.declared.kind.Kind.TheVariants.{Dir}
use Rattle.pt_folder.specs.DestHeld.{told_with, tree_with}
use Rattle.pt_folder.specs.DestLaws.{KindLaw, PeekLaw}
use Rattle.pt_folder.specs.HostDest.{Looks, Peeks, told as told_by}
use Rattle.pt_folder.specs.Settings.{IsSetAs}
use Rattle.pt_folder.specs.declared.dest.HostDest.{HostDest}
use Rattle.pt_folder.specs.declared.system.Handle.{Ghosts as OfHandle}
use Rattle.pt_folder.specs.declared.system.Input.{Ghosts as OfInput}
use Rattle.pt_folder.specs.declared.system.System.{Ghosts as OfSystem}
use Rattle.pt_folder.proofs.DestTold.{kind_keeps}
use Rattle.pt_folder.proofs.PeekTold.{peek_keeps}
use Rattle.pt_tree.specs.declared.faults.TreeFault.{TreeFault}
use Rattle.pt_folder.specs.EntryCodes.{entry_once}
use Rattle.pt_rehearsal.specs.SameFolder.{SameFolder}
use Rattle.pt_rehearsal.specs.Fitting.{Fits, FitsTold, told_over}
use Rattle.pt_rehearsal.specs.Seeing.{Becomes, View, made_dir, made_file, moved_to, nothing, recall_at}
use Rattle.pt_rehearsal.specs.declared.remembered.Recall.TheVariants as recall
use Rattle.pt_rehearsal.proofs.Fitted.{fits_added, fits_finished}
use Rattle.pt_rehearsal.proofs.Steps.{fits_dir, fits_file, fits_move, fits_nothing, folder_stands, stands_still}

-- ---- the folder

module _ {S F D : Type 0} {sys : OfSystem S F D} {handle : OfHandle F} {file : OfInput F}
    {dir : OfInput D} (old new : HostDest S F D sys handle file dir)
    (keeps : (new.folder ≡ old.folder) × IsSetAs old.longest old.synced new.longest new.synced) (writing : new.writing ≡ old.writing) (unsynced : new.unsynced
    ≡ old.unsynced) where
  -- the system isn't asked
  pub unasked : new.syscalls.system ≡ old.syscalls.system → SameFolder old new
  unasked system = (keeps.0, keeps.1, writing, unsynced, ap (λ s. sys.kept s old.folder.path.now) system)

  -- it is asked to look somewhere
  pub looked : KindLaw sys.kept sys.looks → {T : Type 0} (leads : Result Kind Error → Result T TreeFault → Type 0) (p : Path) (result : Result T TreeFault)
      → Looks leads old new p result → SameFolder old new
  looked law leads p result (inl refused) = unasked refused.1
  looked law leads p result (inr asked) = (
    keeps.0,
    keeps.1,
    writing,
    unsynced,
    kind_keeps sys.kept old.folder.path.now sys.looks law leads old.syscalls.system
        new.syscalls.system p result asked.1,
  )

  -- it is asked for first bytes
  pub peeked : PeekLaw sys.kept file.left sys.opens → (p : Path) (block : List ℕ) (result : Result (Unit {0}) TreeFault) → Peeks old new p block result
      → SameFolder old new
  peeked law p block result (inl refused) = unasked refused.1
  peeked law p block result (inr asked) = (
    keeps.0,
    keeps.1,
    writing,
    unsynced,
    peek_keeps sys.kept old.folder.path.now file.left file.reads sys.opens law old.syscalls.system new.syscalls.system p
        block result asked.1,
  )

module _ {S F D : Type 0} {sys : OfSystem S F D} {handle : OfHandle F} {file : OfInput F}
    {dir : OfInput D} where
  pub stays_on : (a b c : HostDest S F D sys handle file dir) → SameFolder a b → SameFolder b c → SameFolder a c
  stays_on a b c p q = (
    q.0 ∙ p.0,
    (q.1.0 ∙ p.1.0, q.1.1 ∙ p.1.1),
    q.2 ∙ p.2,
    q.3 ∙ p.3,
    subst (λ f. sys.kept c.syscalls.system f.path.now ≡ sys.kept b.syscalls.system f.path.now) p.0 q.4 ∙ p.4,
  )

  -- what is told is the same
  pub told_still : (old new : HostDest S F D sys handle file dir) → SameFolder old new → told_by new ≡ told_by old
  told_still old new s =
      let kept = ap (λ f. sys.kept new.syscalls.system f.path.now) s.0 ∙ s.4 in
      λ i. told_with (kept i) (s.3 i) (s.2 i)

-- ---- what stands at a path

module _ (told : Option Writing) (v : View) (steps : List Step) (p : Path) (names : AreNames p) (fits : ∥ FitsTold told v steps ∥₁) where
  -- where a directory is remembered, one stands
  folder_told : recall_at v p ≡ recall.Folder → (w : Writing) → told ≡ Some w → (played steps w.tree).tree p ≡ Some Folder
  folder_told is = ∥∥₁_elim fits
      (λ a b i w of. entry_once ((played steps w.tree).tree p) (Some Folder) (a w of) (b w of) i)
      (λ f w of. folder_stands v w.tree (played steps w.tree) p names is (f w of))

  pub kind_of_folder : recall_at v p ≡ recall.Folder → IsKindAt (told_over told steps) p (Some Dir)
  unfolding IsKindAt
  kind_of_folder is = by told (folder_told is)
    where
      by : (o : Option Writing) → ((w : Writing) → o ≡ Some w → (played steps w.tree).tree p ≡ Some Folder)
          → ForSome (told_over o steps) (λ s. option_map kind_of_entry (s.tree p) ≡ Some Dir)
      by None stands = λ s of. absurd (cc)
      by (Some w) stands = λ s of.
          let same : played steps w.tree ≡ s = cc in
          subst (λ (s : Writing). option_map kind_of_entry (s.tree p) ≡ Some Dir) same (ap (option_map kind_of_entry) (stands w refl))

  -- where nothing is remembered, it is as in the folder
  module _ (is : recall_at v p ≡ recall.Standing) where
    still_told : (w : Writing) → told ≡ Some w → (played steps w.tree).tree p ≡ w.tree p
    still_told = ∥∥₁_elim fits
        (λ a b i w of. entry_once ((played steps w.tree).tree p) (w.tree p) (a w of) (b w of) i)
        (λ f w of. stands_still v w.tree (played steps w.tree) p names is (f w of))

    pub kinds_still : (result : Result (Option Kind) TreeFault) → IfOk result (λ k. IsKindAt told p k) → IfOk result (λ k. IsKindAt (told_over told steps) p k)
    unfolding IsKindAt
    kinds_still (Err e) is = tt
    kinds_still (Ok k) is = by told still_told is
      where
        by : (o : Option Writing) → ((w : Writing) → o ≡ Some w → (played steps w.tree).tree p ≡ w.tree p)
            → ForSome o (λ s. option_map kind_of_entry (s.tree p) ≡ k)
            → ForSome (told_over o steps) (λ s. option_map kind_of_entry (s.tree p) ≡ k)
        by None still is = λ s of. absurd (cc)
        by (Some w) still is = λ s of.
            let same : played steps w.tree ≡ s = cc in
            subst (λ (s : Writing). option_map kind_of_entry (s.tree p) ≡ k) same (ap (option_map kind_of_entry) (still w refl) ∙ is w refl)

    pub can_peek_still : CanPeek (told_over told steps) p → CanPeek told p
    unfolding CanPeek
    can_peek_still can = λ w of.
        subst (λ e. IsSome (bytes_of e)) (still_told w of) (can (played steps w.tree) (ap (λ o. told_over o steps) of))

    pub peeked_still : (block : List ℕ) (result : Result (Unit {0}) TreeFault) → OnOk result (IsPeeked told p block)
        → OnOk result (IsPeeked (told_over told steps) p block)
    unfolding IsPeeked
    peeked_still block (Err e) is = tt
    peeked_still block (Ok x) is = by told still_told is
      where
        by : (o : Option Writing) → ((w : Writing) → o ≡ Some w → (played steps w.tree).tree p ≡ w.tree p)
            → ForSome o (λ s. option_map (take 8192) (bytes_of (s.tree p)) ≡ Some block)
            → ForSome (told_over o steps) (λ s. option_map (take 8192) (bytes_of (s.tree p)) ≡ Some block)
        by None still is = λ s of. absurd (cc)
        by (Some w) still is = λ s of.
            let same : played steps w.tree ≡ s = cc in
            subst (λ (s : Writing). option_map (take 8192) (bytes_of (s.tree p)) ≡ Some block) same
            (ap (λ e. option_map (take 8192) (bytes_of e)) (still w refl) ∙ is w refl)

-- ---- where the folder tells, what is remembered fits

-- the same folder, by the same word
pub fits_still : (told told' : Option Writing) (v v' : View) (steps : List Step) → told' ≡ told → v' ≡ v → ∥ FitsTold told v steps ∥₁
    → ∥ FitsTold told' v' steps ∥₁
fits_still told told' v v' steps same seen f =
    ∥∥₁_map f (λ f. subst (λ v. FitsTold told' v steps) (sym seen) (subst (λ told. FitsTold told v steps) (sym same) f))

fits_new : (told : Option Writing) (v : View) → v ≡ nothing → ((w : Writing) → told ≡ Some w → IsTree w.tree) → FitsTold told v []
fits_new told v none tree = subst (λ v. FitsTold told v []) (sym none) (λ w is. fits_nothing w.tree (tree w is))

pub becomes_same : (next : Option View) (can : Bool) (old new : View) → can ≡ false → Becomes next can old new → (next ≡ None) × (new ≡ old)
becomes_same None can old new is b = (refl, b.1)
becomes_same (Some next) can old new is b = absurd (cc)

pub becomes_next : (next : Option View) (can : Bool) (old new : View) → can ≡ true → Becomes next can old new → next ≡ Some new
becomes_next None can old new is b = absurd (cc)
becomes_next (Some next) can old new is b = ap Some (sym b.1)

module _ (told told' : Option Writing) (v v' : View) (steps steps' : List Step) (same : told' ≡ told) where
  -- a change that may be made of what is played
  by_step : (step : Step) → steps' ≡ step ∷ steps → ((w : Writing) → told ≡ Some w → Fits v w.tree (played steps w.tree)
      → Fits v' w.tree (played (step ∷ steps) w.tree))
      → ∥ FitsTold told v steps ∥₁ → ∥ FitsTold told' v' steps' ∥₁
  by_step step more on f =
      ∥∥₁_map f (λ f. subst (λ told. FitsTold told v' steps') (sym same) (subst (λ steps. FitsTold told v' steps) (sym more) (λ w is. on w is (f w is))))

  pub fits_dir_made : (p : Path) → AreNames p → MayMake (told_over told steps) p → made_dir v p ≡ Some v' → steps' ≡ MadeDir p ∷ steps
      → ∥ FitsTold told v steps ∥₁ → ∥ FitsTold told' v' steps' ∥₁
  unfolding MayMake
  fits_dir_made p names can is more f = by_step (MadeDir p) more (λ w told_is. fits_dir v v' w.tree (played steps w.tree) p names
      (can (played steps w.tree) (ap (λ o. told_over o steps) told_is)) is) f

  pub fits_file_made : (p : Path) → MayMake (told_over told steps) p → made_file v p ≡ Some v' → steps' ≡ MadeFile p ∷ steps → ∥ FitsTold told v steps ∥₁
      → ∥ FitsTold told' v' steps' ∥₁
  unfolding MayMake
  fits_file_made p can is more f = by_step (MadeFile p) more (λ w told_is. fits_file v v' w.tree (played steps w.tree) p
      (can (played steps w.tree) (ap (λ o. told_over o steps) told_is)) is) f

  pub fits_move_made : (from to : Path) → AreNames to → MayMove (told_over told steps) from to → moved_to v from to ≡ Some v' → steps' ≡ Moved from to ∷ steps
      → ∥ FitsTold told v steps ∥₁ → ∥ FitsTold told' v' steps' ∥₁
  unfolding MayMove
  fits_move_made from to names can is more f =
      by_step (Moved from to) more (λ w told_is. fits_move v v' w.tree (played steps w.tree) from to names
      (can (played steps w.tree) (ap (λ o. told_over o steps) told_is)) is) f

pub fits_piece_added : (told : Option Writing) (v : View) (steps steps' : List Step) (piece : List ℕ) → steps' ≡ Added piece ∷ steps
    → ∥ FitsTold told v steps ∥₁ → ∥ FitsTold told v steps' ∥₁
fits_piece_added told v steps steps' piece more f = by_step told told v v steps steps' refl (Added piece) more
    (λ w is. fits_added v w.tree (played steps w.tree) piece) f

pub fits_closed : (told : Option Writing) (v : View) (steps steps' : List Step) → steps' ≡ Closed ∷ steps → ∥ FitsTold told v steps ∥₁
    → ∥ FitsTold told v steps' ∥₁
fits_closed told v steps steps' more f = by_step told told v v steps steps' refl Closed more (λ w is. fits_finished v w.tree (played steps w.tree)) f

-- nothing was asked for yet
pub fits_anew : (told : Option Writing) (v : View) (steps : List Step) → v ≡ nothing → steps ≡ [] → ((w : Writing) → told ≡ Some w → IsTree w.tree)
    → ∥ FitsTold told v steps ∥₁
fits_anew told v steps none no_step tree = ∣ subst (FitsTold told v) (sym no_step) (fits_new told v none tree) ∣₁

module _ {S F D : Type 0} {sys : OfSystem S F D} {handle : OfHandle F} {file : OfInput F}
    {dir : OfInput D} where
  -- what a folder tells is a tree
  pub dest_tree : (d : HostDest S F D sys handle file dir) → ((t : Tree) → (sys.kept d.syscalls.system d.folder.path.now).tree ≡ Some t → IsTree t)
      → (w : Writing) → told_by d ≡ Some w → IsTree w.tree
  dest_tree d law w is = tree_with (sys.kept d.syscalls.system d.folder.path.now) d.unsynced d.writing w law d.back is

-- What a destination tells after a move, by the law of its system.
use Rattle.std.proofs.Common.{◌≡◌, ℕ, List, refl, sym, ap, subst, ◌∙◌, inl, inr, arith}
use Rattle.std.specs.Prelude.{◌⊎◌, Option, None, Some, Result, Ok, Err, OnOk, OnErr, Bool, true, false, cond, is_some, MatchResult}
use Rattle.std.specs.Option.{option_map, ForNone, ForSome}
use Rattle.std.specs.declared.io.Error.{Error}
use Rattle.pt_tree.specs.declared.faults.TreeFault.{TreeFault}
use Rattle.pt_tree.specs.declared.faults.TreeFault.TheVariants.{Device}
use Rattle.pt_tree.specs.Path.{Path, rest_below}
use Rattle.pt_tree.specs.Tree.{Tree, moved, CanMove, IsTree}
use Rattle.pt_tree.specs.Dest.{after_rename, open_unless_below}
use Rattle.pt_folder.specs.declared.writing.FileInWriting.{FileInWriting as Open}
use Rattle.pt_folder.specs.Calls.{IsSyncAnswer, change_of, fault_of}
use Rattle.pt_folder.specs.DestLaws.{Kept, Moves, StaysApart, MoveLaw, StillLaw}
use Rattle.pt_folder.specs.DestHeld.{IsBack, IsPlaced, told_of, told_with}
use Rattle.pt_folder.specs.Moving.{AfterMove, MovesOnce}
use Rattle.pt_folder.specs.Folder.{entry_text}
use Rattle.pt_folder.specs.UnsyncedChange.{unsynced_after}
use Rattle.pt_folder.specs.declared.system.System.{Ghosts as OfSystem}
use Rattle.pt_folder.specs.declared.unsynced_change.UnsyncedChange.{UnsyncedChange}
use Rattle.pt_folder.specs.declared.unsynced_change.UnsyncedChange.TheVariants as unsynced
use Rattle.pt_folder.specs.Writing.{open_unless_within}
use Rattle.pt_folder.proofs.Back.{back}
use Rattle.pt_folder.proofs.DestTold.{told_at}
use Rattle.pt_folder.proofs.UnsyncedTold.{none_back}

path_left : {F : Type 0} (from : Path) (w : Option (Open F)) → option_map (λ w. w.path) (open_unless_within from w)
    ≡ open_unless_below from (option_map (λ w. w.path) w)
path_left from None = refl
path_left {F} from (Some w) = by (rest_below from w.path) refl
  where
    by : (o : Option Path) → rest_below from w.path ≡ o → option_map (λ w. w.path) (open_unless_within from (Some w)) ≡ open_unless_below from (Some w.path)
    by None is = grind (arith, is)
    by (Some rest) is = grind (arith, is)

-- a file that stays open was open, and isn't at or below
still_open : {F : Type 0} (from : Path) (w : Option (Open F)) (x : Open F) → open_unless_within from w ≡ Some x → (w ≡ Some x) × (rest_below from x.path ≡ None)
still_open from None x is = absurd (cc)
still_open {F} from (Some w) x is = by (rest_below from w.path) refl is
  where
    by : (o : Option Path) → rest_below from w.path ≡ o → cond (is_some o) None (Some w) ≡ Some x → (Some w ≡ Some x) × (rest_below from x.path ≡ None)
    by None at is = let same : w ≡ x = cc in (is, ap (λ (v : Open F). rest_below from v.path) (sym same) ∙ at)
    by (Some rest) at is = absurd (cc)

-- where a tree is told after a change, one was told before
pub was_told : (o : Option Tree) (change : Tree → Tree) (t : Tree) → option_map change o ≡ Some t → (s : Tree) × (o ≡ Some s)
was_told None change t is = absurd (cc)
was_told (Some s) change t is = (s, refl)

told_moved : {F : Type 0} (w : Option (Open F)) (o : Option Tree) (from to : Path)
    → option_map (told_at (open_unless_within from w)) (option_map (λ t. moved t from to) o) ≡ option_map (after_rename from to) (option_map (told_at w) o)
told_moved w None from to = refl
told_moved w (Some t) from to = ap (λ x. Some (record { tree = moved t from to; writing = x })) (path_left from w)

-- all at and below `from` is moved
abbrev pub IsMoved : {F : Type 0} → Kept F → Kept F → Path → Path → Type 0
IsMoved old new from to = (new.tree ≡ option_map (λ t. moved t from to) old.tree) × StaysApart old new from

-- it is moved, or nothing is changed; or it is moved, and that is unsynced
abbrev pub HasMoved : {F : Type 0} → Kept F → Kept F → Path → Path → Option UnsyncedChange → Result (Unit {0}) TreeFault → Type 0
HasMoved old new from to left (Ok x) = IsMoved old new from to × (left ≡ None)
HasMoved old new from to left (Err e) = ((new ≡ old) × (left ≡ None)) ⊎ (IsMoved old new from to × (left ≡ Some (unsynced.Moved from to)))

module _ {S F : Type 0} (kept : S → List ℕ → Kept F) (folder : List ℕ) (old new : S) (from to : Path) where
  pub rename_gives : (synced : Bool) {D : Type 0} (sys : OfSystem S F D) (syncs : F → Result (Unit {0}) Error → F → Type 0) → MoveLaw kept sys.renames
      → StillLaw kept sys.opens
      → (left : Option UnsyncedChange) (result : Result (Unit {0}) TreeFault) → ForSome (kept old folder).tree (λ t. CanMove t from to)
      → MovesOnce sys syncs (record { folder = folder; from = from; to = to; synced = synced }) (change_of old new) left result
      → HasMoved (kept old folder) (kept new folder) from to left result
  rename_gives synced sys syncs law still left (Ok x) can (inl none) = absurd none.2
  rename_gives synced sys syncs law still left (Err e) can (inl none) = inl (ap (λ s. kept s folder) none.0, none.1)
  rename_gives synced sys syncs law still left result can (inr asked) = by asked.reply result asked.gives asked.left_unsynced
      (law old asked.mid folder from to asked.reply asked.named.0 asked.named.1 can asked.made)
    where
      -- syncing the directory changes nothing
      after : (synced : Bool) (result : Result (Unit {0}) TreeFault) → AfterMove sys.opens syncs synced (entry_text folder to) asked.mid new result
          → kept new folder ≡ kept asked.mid folder
      after false result is = ap (λ s. kept s folder) is.0
      after true result is = still asked.mid new folder _ is.0 is.1

      moved_on : kept new folder ≡ kept asked.mid folder → IsMoved (kept old folder) (kept asked.mid folder) from to
          → IsMoved (kept old folder) (kept new folder) from to
      moved_on same is = subst (λ k. IsMoved (kept old folder) k from to) (sym same) is

      by : (reply : Result (Unit {0}) Error) (result : Result (Unit {0}) TreeFault)
          → MatchResult reply (λ _. AfterMove sys.opens syncs synced (entry_text folder to) asked.mid new result) (λ e. (new ≡ asked.mid)
          × (result ≡ Err (fault_of e)))
          → left ≡ unsynced_after reply (unsynced.Moved from to) result
          → Moves (kept old folder) (kept asked.mid folder) from to reply → HasMoved (kept old folder) (kept new folder) from to left result
      by (Ok x) (Ok y) gives stays is = (moved_on (after synced (Ok y) gives) is, stays)
      by (Ok x) (Err f) gives stays is = inr (moved_on (after synced (Err f) gives) is, stays)
      by (Err e) (Ok y) gives stays is = let other = gives.1 in absurd (cc)
      by (Err e) (Err f) gives stays is = inl (ap (λ s. kept s folder) gives.0 ∙ is, stays)

  -- where nothing is to be put onto the disk, nothing is unsynced
  pub rename_wanted : {D : Type 0} (sys : OfSystem S F D) (syncs : F → Result (Unit {0}) Error → F → Type 0) → (synced : Bool)
      → (left : Option UnsyncedChange) (result : Result (Unit {0}) TreeFault)
      → MovesOnce sys syncs (record { folder = folder; from = from; to = to; synced = synced }) (change_of old new) left result
      → ForSome left (λ _. synced ≡ true)
  rename_wanted sys syncs true left result asked = λ s at. refl
  rename_wanted sys syncs false left result (inl none) = λ s at. let free = none.1 in absurd (cc)
  rename_wanted sys syncs false left result (inr asked) = by asked.reply result asked.gives asked.left_unsynced
    where
      by : (reply : Result (Unit {0}) Error) (result : Result (Unit {0}) TreeFault)
          → MatchResult reply (λ _. (new ≡ asked.mid) × (result ≡ Ok tt)) (λ e. (new ≡ asked.mid) × (result ≡ Err (fault_of e)))
          → left ≡ unsynced_after reply (unsynced.Moved from to) result → ForSome left (λ _. false ≡ true)
      by (Ok x) (Ok y) gives free = λ s at. absurd (cc)
      by (Ok x) (Err f) gives free = let other = gives.1 in absurd (cc)
      by (Err e) result gives free = λ s at. absurd (cc)

  -- something is unsynced only where the device failed
  pub rename_device : {D : Type 0} (sys : OfSystem S F D) (syncs : F → Result (Unit {0}) Error → F → Type 0) → (synced : Bool)
      → (left : Option UnsyncedChange) (result : Result (Unit {0}) TreeFault)
      → MovesOnce sys syncs (record { folder = folder; from = from; to = to; synced = synced }) (change_of old new) left result
      → ForSome left (λ _. result ≡ Err Device)
  rename_device sys syncs synced left result (inl none) = λ s at. let free = none.1 in absurd (cc)
  rename_device sys syncs synced left result (inr asked) = by synced asked.reply result asked.gives asked.left_unsynced
    where
      answered : (answer : Result (Unit {0}) Error) (result : Result (Unit {0}) TreeFault) (f : TreeFault) → result ≡ Err f → IsSyncAnswer answer result
          → result ≡ Err Device
      answered (Ok x) result f failed is = absurd (cc)
      answered (Err e) result f failed is = is

      at_sync : (reply : Result F Error) (result : Result (Unit {0}) TreeFault) (f : TreeFault) → result ≡ Err f
          → MatchResult reply (λ file. (answer : Result (Unit {0}) Error) × (after : F) × syncs file answer after × IsSyncAnswer answer result) (λ e. result
          ≡ Err Device) → result ≡ Err Device
      at_sync (Ok file) result f failed is = answered is.0 result f failed is.3
      at_sync (Err e) result f failed is = is

      by : (synced : Bool) (reply : Result (Unit {0}) Error) (result : Result (Unit {0}) TreeFault)
          → MatchResult reply (λ _. AfterMove sys.opens syncs synced (entry_text folder to) asked.mid new result) (λ e. (new ≡ asked.mid)
          × (result ≡ Err (fault_of e)))
          → left ≡ unsynced_after reply (unsynced.Moved from to) result → ForSome left (λ _. result ≡ Err Device)
      by synced (Ok x) (Ok y) gives free = λ s at. absurd (cc)
      by false (Ok x) (Err f) gives free = let other = gives.1 in absurd (cc)
      by true (Ok x) (Err f) gives free = λ s at. at_sync gives.0 (Err f) f refl gives.2
      by synced (Err e) result gives free = λ s at. absurd (cc)

-- what was moved is back, and a tree as it was
module _ (o o' : Option Tree) (from to : Path) (law : (t : Tree) → o ≡ Some t
    → IsTree t) (can : ForSome o (λ t. CanMove t from to)) (is : o' ≡ option_map (λ t. moved t from to) o) where
  told_back : option_map (λ t. moved t to from) o' ≡ o
  told_back = ap (option_map (λ t. moved t to from)) is ∙ by o law can
    where
      by : (o : Option Tree) → ((t : Tree) → o ≡ Some t → IsTree t) → ForSome o (λ t. CanMove t from to)
          → option_map (λ t. moved t to from) (option_map (λ t. moved t from to) o) ≡ o
      by None law can = refl
      by (Some t) law can = ap Some (back t from to (law t refl) (can t refl))

  held_back : ForSome o' (λ t. IsTree (moved t to from))
  held_back t told =
      let before = was_told o (λ t. moved t from to) t (sym is ∙ told) in
      let here : o ≡ Some before.0 = before.1 in
      law (moved t to from) (sym told_back ∙ ap (option_map (λ t. moved t to from)) told)

module _ {S F : Type 0} (kept : S → List ℕ → Kept F) (folder : List ℕ) (old new : S) (from to : Path) where
  module _ (w v : Option (Open F)) (left : Option UnsyncedChange) where
    pub rename_moved : (result : Result (Unit {0}) TreeFault) → HasMoved (kept old folder) (kept new folder) from to left result
        → OnOk result (v ≡ open_unless_within from w)
        → OnOk result (told_with (kept new folder) left v ≡ option_map (after_rename from to) (told_of (kept old folder) w))
    rename_moved (Err e) is closes = tt
    rename_moved (Ok x) is closes = ap (λ s. told_with (kept new folder) s v) is.1 ∙ ap (option_map (told_at v)) is.0.0
        ∙ ap (λ (u : Option (Open F)). option_map (told_at u) (option_map (λ t. moved t from to) (kept old folder).tree)) closes
        ∙ told_moved w (kept old folder).tree from to

    module _ (law : (t : Tree) → (kept old folder).tree ≡ Some t → IsTree t) (can : ForSome (kept old folder).tree (λ t. CanMove t from to)) where
      pub rename_same : (result : Result (Unit {0}) TreeFault) → HasMoved (kept old folder) (kept new folder) from to left result → OnErr result (v ≡ w)
          → OnErr result (told_with (kept new folder) left v ≡ told_of (kept old folder) w)
      rename_same (Ok x) is same = tt
      rename_same (Err e) (inl is) same = λ i. told_with (is.0 i) (is.1 i) (same i)
      rename_same (Err e) (inr is) same =
          ap (λ s. told_with (kept new folder) s v) is.1 ∙ ap (option_map (told_at v))
          (told_back (kept old folder).tree (kept new folder).tree from to law can is.0.0) ∙ ap (told_of (kept old folder)) same

      pub rename_back : (result : Result (Unit {0}) TreeFault) → HasMoved (kept old folder) (kept new folder) from to left result
          → ForSome left (IsBack (kept new folder))
      rename_back (Ok x) is = none_back (kept new folder) left is.1
      rename_back (Err e) (inl is) = none_back (kept new folder) left is.1
      rename_back (Err e) (inr is) = λ s at.
          let same : unsynced.Moved from to ≡ s = let both : Some (unsynced.Moved from to) ≡ Some s = sym is.1 ∙ at in cc in
          subst (IsBack (kept new folder)) same (held_back (kept old folder).tree (kept new folder).tree from to law can is.0.0)

    pub rename_placed : (result : Result (Unit {0}) TreeFault) → HasMoved (kept old folder) (kept new folder) from to left result
        → OnOk result (v ≡ open_unless_within from w) → OnErr result (v ≡ w)
        → IsPlaced (kept old folder) w → ForNone left (IsPlaced (kept new folder) v)
    rename_placed (Err e) (inl is) closes same at = λ none. subst (λ (k : Kept F). IsPlaced k v) (sym is.0) (subst (IsPlaced (kept old folder)) (sym same) at)
    rename_placed (Err e) (inr is) closes same at = λ none. let other : Some (unsynced.Moved from to) ≡ None = sym is.1 ∙ none in absurd (cc)
    rename_placed (Ok x) is closes same at = λ none t told o at_open.
        let before = was_told (kept old folder).tree (λ t. moved t from to) t (sym is.0.0 ∙ told) in
        let was = still_open from w o (sym closes ∙ at_open) in
        is.0.1 o.file o.path (at before.0 before.1 o was.0) was.1

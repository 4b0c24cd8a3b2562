-- What a source tells after a file is opened, and after a block is read, by the laws of its system.
use Rattle.std.proofs.Common.{◌≡◌, ℕ, arith, List, [], ◌∷◌, false, refl, sym, ap, subst, ◌∙◌, inl, inr, take, drop}
use Rattle.std.specs.Prelude.{Option, None, Some, IsSome, Result, Ok, Err, IfOk, OnOk, OnErr, MatchResult}
use Rattle.std.specs.Option.{option_map, ForSome}
use Rattle.std.specs.declared.io.Error.{Error}
use Rattle.pt_tree.specs.declared.faults.TreeFault.{TreeFault}
use Rattle.pt_tree.specs.Forest.{Forest, file_at, dir_at, kind_at}
use Rattle.pt_tree.specs.declared.kind.Kind.{Kind}
use Rattle.pt_tree.specs.Path.{Path, parent}
use Rattle.pt_tree.specs.Tree.{Entry, bytes_of, tree_of}
use Rattle.pt_tree.proofs.AtPaths.{bytes_at, stands_in}
use Rattle.pt_folder.specs.Calls.{change_of}
use Rattle.pt_folder.specs.Folder.{entry_in, entry_text}
use Rattle.pt_tree.specs.Source.{CanList, CanLook, CanOpen, CanRead, IsListed, IsRead, IsSeen, after_next, after_open, tree_in}
use Rattle.pt_tree.specs.Source.{Reading as Told}
use Rattle.pt_tree.specs.Listing.{Item}
use Rattle.pt_tree.specs.Forest.{listing_at}
use Rattle.pt_folder.specs.declared.reading.FileInReading.{FileInReading}
use Rattle.pt_folder.specs.declared.system.System.{Ghosts as OfSystem}
use Rattle.pt_folder.specs.Opening.{OpensOnce}
use Rattle.pt_folder.specs.SourceHeld.{told_of}
use Rattle.pt_folder.specs.SourceLaws.{LookLaw, OpenLaw, Opened}
use Rattle.pt_folder.specs.Reading.{IsNext, OpensAt, Stands, StandsOpen, unread_open}

abbrev pub told_at : Option (List ℕ) → Forest → Told
told_at unread f = record { tree = f; unread = unread }

-- a condition on what is told, on the tree that is kept
pub can_open : (unread : Option (List ℕ)) (o : Option Forest) (p : Path) → CanOpen (told_of o unread) p → ForSome o (λ f. IsSome (file_at f p))
unfolding CanOpen
can_open unread o p h = λ f is. h (told_at unread f) (ap (option_map (told_at unread)) is)

pub can_list : (unread : Option (List ℕ)) (o : Option Forest) (p : Path) → CanList (told_of o unread) p → ForSome o (λ f. IsSome (dir_at f p))
unfolding CanList
can_list unread o p h = λ f is. h (told_at unread f) (ap (option_map (told_at unread)) is)

pub is_listed : (unread : Option (List ℕ)) (o : Option Forest) (p : Path) (items : List Item) → ForSome o (λ f. listing_at f p ≡ Some items)
    → IsListed (told_of o unread) p items
unfolding IsListed
is_listed unread None p items h = λ s is. absurd (cc)
is_listed unread (Some f) p items h = λ s is. let same : told_at unread f ≡ s = cc in subst (λ (s : Told). listing_at s.tree p ≡ Some items) same (h f refl)

pub can_look : (unread : Option (List ℕ)) (o : Option Forest) (p : Path) → CanLook (tree_in (told_of o unread)) p
    → ForSome o (λ f. IsSome (dir_at f (parent p)))
unfolding CanLook
can_look unread None p h = λ f is. absurd (cc)
can_look unread (Some f) p h = h

pub is_seen : (unread : Option (List ℕ)) (o : Option Forest) (p : Path) (r : Result (Option Kind) TreeFault)
    → IfOk r (λ here. ForSome o (λ f. kind_at f p ≡ here))
    → IfOk r (λ here. IsSeen (tree_in (told_of o unread)) p here)
is_seen unread None p (Ok here) h = λ f is. absurd (cc)
is_seen unread (Some f) p (Ok here) h = h
is_seen unread o p (Err e) h = tt

pub is_read : (unread : Option (List ℕ)) (o : Option Forest) (block : List ℕ) → CanRead (told_of o unread) → IsNext unread block
    → IsRead (told_of o unread) block
unfolding IsRead CanRead
is_read unread None block can next = λ s is. absurd (cc)
is_read None (Some f) block can next = λ s is. let none = can (told_at None f) refl in absurd (cc)
is_read (Some xs) (Some f) block can next = λ s is.
    let same : told_at (Some xs) f ≡ s = cc in
    subst (λ (s : Told). option_map (take 8192) s.unread ≡ Some block) same (ap Some (sym (next xs refl)))

-- a block further, the tree is the same one
pub next_told : (o : Option Forest) (unread now : Option (List ℕ)) → now ≡ option_map (drop 8192) unread
    → told_of o now ≡ option_map after_next (told_of o unread)
next_told None unread now is = refl
next_told (Some f) unread now is = ap (λ u. Some (told_at u f)) is

-- a file stands in a directory
pub above : (f : Forest) (p : Path) → IsSome (file_at f p) → IsSome (dir_at f (parent p))
above f [] h = refl
above f (n ∷ p) h = let d = stands_in f n p (stands (tree_of f (n ∷ p)) (subst (λ (o : Option (List ℕ)). IsSome o) (sym (bytes_at f (n ∷ p))) h)) in subst
    (λ (o : Option Forest). IsSome o) (sym d.1) refl
  where
    stands : (o : Option Entry) → IsSome (bytes_of o) → IsSome o
    stands None h = absurd (cc)
    stands (Some e) h = refl

module _ {S F D : Type 0} (kept : S → List ℕ → Option Forest) (bytes left : F → Option (List ℕ)) (sys : OfSystem S F D) (look_law : LookLaw kept sys.looks)
    (law : OpenLaw kept bytes left sys.opens)
    (folder : List ℕ) (old new : S) (p : Path) (w v : Option (FileInReading F)) where
  -- a file is open at its start, or nothing is changed
  abbrev HasOpened : Result (Unit {0}) TreeFault → Type 0
  HasOpened (Ok x) = (file : F) × (v ≡ Some (record { file = file; place = 0; ended = false; lost = false })) × (kept new folder ≡ kept old folder)
      × (left file ≡ bytes file) × ForSome (kept old folder) (λ f. bytes file ≡ file_at f p)
  HasOpened (Err e) = (kept new folder ≡ kept old folder) × (v ≡ w)

  gives : (result : Result (Unit {0}) TreeFault) → ForSome (kept old folder) (λ f. IsSome (file_at f p))
      → OpensOnce sys (entry_in folder p) (change_of w v) (change_of old new) result → OnErr result (v ≡ w) → HasOpened result
  gives (Ok x) can (inl none) same = absurd none.1
  gives (Err e) can (inl none) same = (ap (λ s. kept s folder) none.0, same)
  gives result can (inr asked) same = found asked.found asked.gives
    where
      looked : kept asked.mid folder ≡ kept old folder
      looked = (look_law old asked.mid folder p asked.reply asked.named (λ f is. above f p (can f is)) asked.looked).same

      found : (r : Result (Unit {0}) TreeFault) → MatchResult r (λ _. (answer : Result F Error) × sys.opens asked.mid (entry_text folder p) answer new
          × OpensAt w v answer result) (λ fault. (new ≡ asked.mid) × (v ≡ w) × (result ≡ Err fault)) → HasOpened result
      found (Err fault) none = subst HasOpened (sym none.2) (ap (λ s. kept s folder) none.0 ∙ looked, none.1)
      found (Ok x) (answer, opened, leads) = by answer result leads (law asked.mid new folder p answer asked.named (λ f is. can f (sym looked ∙ is)) opened)
        where
          by : (answer : Result F Error) (result : Result (Unit {0}) TreeFault) → OpensAt w v answer result
              → Opened bytes left (kept asked.mid folder) (kept new folder) p answer → HasOpened result
          by (Ok file) (Ok y) leads is = (file, leads.1, is.same ∙ looked, is.start, λ f known. is.given f (looked ∙ known))
          by (Ok file) (Err f) leads is = let other = leads.0 in absurd (cc)
          by (Err e) (Ok y) leads is = let other = leads.0 in absurd (cc)
          by (Err e) (Err f) leads is = (is.same ∙ looked, leads.1)

  module _ (result : Result (Unit {0}) TreeFault) (can : ForSome (kept old folder) (λ f. IsSome (file_at f p)))
      (asked : OpensOnce sys (entry_in folder p) (change_of w v) (change_of old new) result) (same : OnErr result (v ≡ w)) where
    pub open_told : OnOk result (told_of (kept new folder) (unread_open bytes v) ≡ option_map (after_open p) (told_of (kept old folder) (unread_open bytes w)))
    open_told = by result (gives result can asked same)
      where
        from_start : (o : Option (List ℕ)) → option_map (drop 0) o ≡ o
        from_start None = refl
        from_start (Some xs) = refl

        on : (o : Option Forest) (file : F) → ForSome o (λ f. bytes file ≡ file_at f p)
            → told_of o (option_map (drop 0) (bytes file)) ≡ option_map (after_open p) (told_of o (unread_open bytes w))
        on None file given = refl
        on (Some f) file given = ap (λ (u : Option (List ℕ)). Some (told_at u f)) (from_start (bytes file) ∙ given f refl)

        by : (result : Result (Unit {0}) TreeFault) → HasOpened result
            → OnOk result (told_of (kept new folder) (unread_open bytes v) ≡ option_map (after_open p) (told_of (kept old folder) (unread_open bytes w)))
        by (Err e) is = tt
        by (Ok x) is = (λ i. told_of (is.2 i) (unread_open bytes (is.1 i))) ∙ on (kept old folder) is.0 is.4

    pub open_same : OnErr result (told_of (kept new folder) (unread_open bytes v) ≡ told_of (kept old folder) (unread_open bytes w))
    open_same = by result (gives result can asked same)
      where
        by : (result : Result (Unit {0}) TreeFault) → HasOpened result
            → OnErr result (told_of (kept new folder) (unread_open bytes v) ≡ told_of (kept old folder) (unread_open bytes w))
        by (Ok x) is = tt
        by (Err e) is = λ i. told_of (is.0 i) (unread_open bytes (is.1 i))

    pub open_stands : StandsOpen bytes left w → StandsOpen bytes left v
    open_stands before = by result (gives result can asked same)
      where
        by : (result : Result (Unit {0}) TreeFault) → HasOpened result → StandsOpen bytes left v
        by (Err e) is = subst (StandsOpen bytes left) (sym is.1) before
        by (Ok x) is = λ r at.
            let start : FileInReading F = record { file = is.0; place = 0; ended = false; lost = false } in
            let here : start ≡ r = cc in
            subst (Stands bytes left) here (record { at_place = λ h xs known. is.3 ∙ known; at_end = λ h. absurd (cc); within = λ xs known. omega arith })

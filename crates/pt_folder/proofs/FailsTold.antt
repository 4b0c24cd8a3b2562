-- Where a source fails, by the laws of its system.
use Rattle.std.proofs.Common.{◌≡◌, ◌∙◌, ℕ, Bool, List, true, false, refl, sym, ap, subst, inl, inr, length}
use Rattle.std.specs.Option.{ForSome, option_and_then, option_map}
use Rattle.std.specs.Prelude.{◌≢◌, IfErr, IfOk, IsSome, MatchResult, None, OnErr, Option, Result, Ok, Err, Some}
use Rattle.std.specs.declared.io.Error.{Error}
use Rattle.pt_tree.specs.Failing.{Failing, GoesAs, ListsAs, LooksAs, LooksWith, OpensAs, OpensWith}
use Rattle.pt_tree.specs.Forest.{Forest, Node, Dir, File, Other, as_file, dir_at, file_at, kind_of, node_at}
use Rattle.pt_tree.specs.Listing.{Item}
use Rattle.pt_tree.specs.Path.{Path, parent}
use Rattle.pt_tree.specs.declared.faults.TreeFault.{TreeFault}
use Rattle.pt_tree.specs.declared.faults.TreeFault.TheVariants.{Device, Memory}
use Rattle.pt_tree.specs.declared.kind.Kind.{Kind}
use Rattle.pt_tree.specs.declared.kind.Kind.TheVariants as kind
use Rattle.pt_folder.specs.Calls.{AsksOnce, IsDueTo, IsRefused, LeadsToKind, change_of, fault_of}
use Rattle.pt_folder.specs.FailingLaws.{FailingBelow, FailsStillLaw, FailsToldLaw, ListFailsLaw, LookFailsLaw, OpenFailsLaw, OpensUnless}
use Rattle.pt_folder.specs.Folder.{entry_in, entry_text}
use Rattle.pt_folder.specs.Laws.{IsPath}
use Rattle.pt_folder.specs.Opening.{LeadsToFile, OpensOnce}
use Rattle.pt_folder.specs.Reading.{OpensAt}
use Rattle.pt_folder.specs.SourceHeld.{failing_of, fails_in, fails_on}
use Rattle.pt_folder.specs.SourceLaws.{LookLaw}
use Rattle.pt_folder.specs.WholeListing.{FailsToList, IsListedBy}
use Rattle.pt_folder.specs.declared.reading.FileInReading.{FileInReading}
use Rattle.pt_folder.specs.declared.system.Input.{Ghosts as OfInput}
use Rattle.pt_folder.specs.declared.system.System.{Ghosts as OfSystem}
use Rattle.pt_folder.proofs.SourceTold.{above}

-- where a system tells at which paths it fails, what holds of these and of the open file holds of what the source tells
pub of_paths : {F : Type 0} (fails : Option (F → Bool)) (reading : Option (FileInReading F)) (paths : Option (Path → Bool)) (P : Failing → Type 0)
    → ForSome paths (λ at. P (record { at = at; reading = fails_on fails reading })) → ForSome (failing_of fails paths reading) P
of_paths fails reading None P holds = λ f is. absurd (cc)
of_paths fails reading (Some at) P holds = λ f is.
    let told : Failing = record { at = at; reading = fails_on fails reading } in
    let same : told ≡ f = cc in
    subst P same (holds at refl)

-- the same of what is told after a call, where all is told as before
pub still_told : {F : Type 0} (fails : Option (F → Bool)) (reading now : Option (FileInReading F)) (old new : Option (Path → Bool)) → new ≡ old
    → fails_on fails now ≡ fails_on fails reading → failing_of fails new now ≡ failing_of fails old reading
still_told fails reading now old new same as_before = λ i. option_map (λ at. record { at = at; reading = as_before i }) (same i)

-- a file that stands is one
file_kind : (o : Option Node) → IsSome (option_and_then as_file o) → option_map kind_of o ≡ Some kind.File
file_kind None h = absurd (cc)
file_kind (Some (File bytes)) h = refl
file_kind (Some (Dir inside)) h = absurd (cc)
file_kind (Some Other) h = absurd (cc)

module _ {S F : Type 0} (forest : S → List ℕ → Option Forest) (failing : FailingBelow S) (fails : Option (F → Bool)) (told : FailsToldLaw forest failing fails)
    (s : S) (folder : List ℕ) where
  -- what is told beside
  told_at : (at : Path → Bool) → failing s folder ≡ Some at → IsSome (forest s folder) × IsSome fails × (length folder ≢ 0)
  told_at at is = told s folder (subst (λ (o : Option (Path → Bool)). IsSome o) (sym is) refl)

  -- a refused path isn't a failure
  unrefused : {T : Type 0} (at : Path → Bool) → failing s folder ≡ Some at → (result : Result T TreeFault) → IsRefused folder result → (P : Result T TreeFault
      → Type 0) → P (Err Memory) → P result
  unrefused at is (Ok x) refused P holds = absurd refused
  unrefused at is (Err Device) refused P holds = absurd ((told_at at is).2 refused)
  unrefused at is (Err Memory) refused P holds = holds

  -- ---- a look

  -- it fails where the directory above does
  looks_with : (looks : S → List ℕ → Result Kind Error → S → Type 0) → LookFailsLaw forest failing looks → (new : S) (p : Path)
      (result : Result (Option Kind) TreeFault) → ForSome (forest s folder) (λ f. IsSome (dir_at f (parent p)))
      → AsksOnce looks LeadsToKind (entry_in folder p) (change_of s new) result
      → ForSome (failing s folder) (λ at. LooksWith (at (parent p)) result)
  looks_with looks law new p result can (inl none) = λ at is. unrefused at is result none.1 (LooksWith (at (parent p))) tt
  looks_with looks law new p result can (inr asked) = λ at is. by at is asked.reply result asked.made asked.gives
    where
      by : (at : Path → Bool) → failing s folder ≡ Some at → (reply : Result Kind Error) (result : Result (Option Kind) TreeFault)
          → looks s (entry_text folder p) reply new → LeadsToKind reply result → LooksWith (at (parent p)) result
      by at is reply (Ok x) made gives = tt
      by at is reply (Err Memory) made gives = tt
      by at is (Ok kind) (Err Device) made gives = absurd (cc)
      by at is (Err e) (Err Device) made gives = (law s new folder p e asked.named can made (sym gives.1) gives.0 at is).0

  -- so where the open file stays
  pub looks_as : (looks : S → List ℕ → Result Kind Error → S → Type 0) → LookFailsLaw forest failing looks → (new : S) (p : Path)
      (result : Result (Option Kind) TreeFault) (w v : Option (FileInReading F)) (now : Option (Path → Bool)) → v ≡ w → now ≡ failing s folder
      → ForSome (forest s folder) (λ f. IsSome (dir_at f (parent p)))
      → AsksOnce looks LeadsToKind (entry_in folder p) (change_of s new) result
      → LooksAs (failing_of fails (failing s folder) w) (failing_of fails now v) p result
  unfolding LooksAs
  looks_as looks law new p result w v now stays same can asked = λ f is. (
    still_told fails w v (failing s folder) now same (ap (fails_on fails) stays) ∙ is,
    of_paths fails w (failing s folder) (λ f. LooksWith (f.at (parent p)) result) (looks_with looks law new p result can asked) f is,
  )

  -- ---- a listing

  module _ {D : Type 0} (sys : OfSystem S F D) (input : OfInput D) (law : ListFailsLaw forest failing sys.looks sys.opens_dir input.reads) (new : S) (p : Path)
      (can : ForSome (forest s folder) (λ f. IsSome (dir_at f p))) where
    -- it goes well where the path doesn't fail
    goes : (listing : List Item) → IsListedBy sys input (entry_in folder p) (change_of s new) listing → ForSome (failing s folder) (λ at. at p ≡ false)
    goes listing by = λ at is. (law s by.mid folder p (Ok by.dir) can by.opened at is by.after).listed by.names listing new by.read by.ordered by.looked

    -- and else fails where it does
    stops : FailsToList sys input (entry_in folder p) (change_of s new) → ForSome (failing s folder) (λ at. at p ≡ true)
    stops (inl (inl (empty, same))) = λ at is. absurd ((told_at at is).2 empty)
    stops (inl (inr (inl (e, opened, device)))) = λ at is. law s new folder p (Err e) can opened at is device
    stops (inl (inr (inr (dir, after, opened, failed)))) = λ at is. (law s new folder p (Ok dir) can opened at is after).unread failed
    stops (inr by) = λ at is.
        (law s by.mid folder p (Ok by.dir) can by.opened at is by.after).unseen by.names by.order new by.read by.ordered by.sorted by.looked

    pub lists_as : (result : Result (List Item) TreeFault) (w v : Option (FileInReading F)) (now : Option (Path → Bool)) → v ≡ w → now ≡ failing s folder
        → IfOk result (IsListedBy sys input (entry_in folder p) (change_of s new))
        → IfErr result (λ fault. IsDueTo fault (FailsToList sys input (entry_in folder p) (change_of s new)))
        → ListsAs (failing_of fails (failing s folder) w) (failing_of fails now v) p result
    unfolding ListsAs
    lists_as result w v now stays same listed fault = λ f is. (
      still_told fails w v (failing s folder) now same (ap (fails_on fails) stays) ∙ is,
      of_paths fails w (failing s folder) (λ f. GoesAs (f.at p) result) (by result listed fault) f is,
    )
      where
        by : (result : Result (List Item) TreeFault) → IfOk result (IsListedBy sys input (entry_in folder p) (change_of s new))
            → IfErr result (λ fault. IsDueTo fault (FailsToList sys input (entry_in folder p) (change_of s new)))
            → ForSome (failing s folder) (λ at. GoesAs (at p) result)
        by (Ok listing) listed fault = goes listing listed
        by (Err Device) listed fault = stops fault
        by (Err Memory) listed fault = λ at is. tt

  -- ---- an opening

  module _ {D : Type 0} (sys : OfSystem S F D) (still : FailsStillLaw failing sys.looks sys.opens sys.opens_dir) (look_law : LookLaw forest sys.looks)
      (look_fails : LookFailsLaw forest failing sys.looks) (law : OpenFailsLaw forest failing fails sys.opens) (new : S) (p : Path)
      (w v : Option (FileInReading F)) (can : ForSome (forest s folder) (λ f. IsSome (file_at f p))) where
    -- the file is the open one, and fails where its path does; or it isn't, where that fails
    abbrev Opened : (Path → Bool) → Result (Unit {0}) TreeFault → Type 0
    Opened at (Ok x) = (file : F) × (v ≡ Some (record { file = file; place = 0; ended = false; lost = false })) × (fails_in fails file ≡ at p)
    Opened at (Err Device) = (v ≡ w) × (at p ≡ true)
    Opened at (Err Memory) = v ≡ w

    same_error : {T : Type 0} (result : Result T TreeFault) (e : Error) → result ≡ Err (fault_of e) → IfErr result (λ fault. fault_of e ≡ fault)
    same_error (Ok x) e is = absurd (cc)
    same_error (Err fault) e is = cc

    -- a file that stands is seen as one, or the look fails where its path does
    unseen : (at : Path → Bool) → failing s folder ≡ Some at → (mid : S) (reply : Result Kind Error) → IsPath p
        → sys.looks s (entry_text folder p) reply mid → LeadsToFile {T = Unit {0}} reply (Err Device) → at p ≡ true
    unseen at is mid reply named looked leads = by (forest s folder) refl reply looked leads
      where
        above_it : ForSome (forest s folder) (λ f. IsSome (dir_at f (parent p)))
        above_it = λ f known. above f p (can f known)

        by : (o : Option Forest) → forest s folder ≡ o → (reply : Result Kind Error) → sys.looks s (entry_text folder p) reply mid
            → LeadsToFile {T = Unit {0}} reply (Err Device) → at p ≡ true
        by None known reply looked leads = let some = (told_at at is).0 in absurd (nothing (forest s folder) known some)
          where
            nothing : (o : Option Forest) → o ≡ None → IsSome o → ⊥
            nothing None e h = cc
            nothing (Some d) e h = cc
        by (Some f) known (Ok k) looked leads =
            let seen = (look_law s mid folder p (Ok k) named above_it looked).shown f known in
            let own : Some k ≡ Some kind.File = sym seen ∙ file_kind (node_at (Dir f) p) (can f known) in
            absurd (leads.0 (one k own))
          where
            one : (k : Kind) → Some k ≡ Some kind.File → k ≡ kind.File
            one k is = cc
        by (Some f) known (Err e) looked leads =
            let seen = (look_law s mid folder p (Err e) named above_it looked).shown f known in
            (look_fails s mid folder p e named above_it looked (same_error (Err Device) e leads)
            (λ absent. let none : Some kind.File ≡ None = sym (file_kind (node_at (Dir f) p) (can f known)) ∙ seen absent in absurd (cc)) at is).1

    opened : (at : Path → Bool) → failing s folder ≡ Some at → (result : Result (Unit {0}) TreeFault) → OnErr result (v ≡ w)
        → OpensOnce sys (entry_in folder p) (change_of w v) (change_of s new) result → Opened at result
    opened at is (Ok x) same (inl none) = absurd none.1
    opened at is (Err Device) same (inl none) = absurd ((told_at at is).2 none.1)
    opened at is (Err Memory) same (inl none) = same
    opened at is result same (inr asked) = by asked.found asked.leads asked.gives
      where
        here : failing asked.mid folder ≡ Some at
        here = still.looked s asked.mid (entry_text folder p) asked.reply asked.looked folder ∙ is

        stays : forest asked.mid folder ≡ forest s folder
        stays = (look_law s asked.mid folder p asked.reply asked.named (λ f known. above f p (can f known)) asked.looked).same

        answered : (answer : Result F Error) (result : Result (Unit {0}) TreeFault) → OpensUnless fails (at p) answer → OpensAt w v answer result
            → Opened at result
        answered (Ok file) (Ok x) unless gives = (file, gives.1, told_in fails (told_at at is).1 file unless)
          where
            told_in : (fails : Option (F → Bool)) → IsSome fails → (file : F) → OpensUnless fails (at p) (Ok file) → fails_in fails file ≡ at p
            told_in None some file unless = absurd (cc)
            told_in (Some fails) some file unless = unless fails refl
        answered (Ok file) (Err fault) unless gives = let other = gives.0 in absurd (cc)
        answered (Err e) (Ok x) unless gives = let other = gives.0 in absurd (cc)
        answered (Err e) (Err Device) unless gives = (gives.1, unless (same_error (Err Device) e gives.0))
        answered (Err e) (Err Memory) unless gives = gives.1

        by : (found : Result (Unit {0}) TreeFault) → LeadsToFile asked.reply found
            → MatchResult found (λ _. (answer : Result F Error) × sys.opens asked.mid (entry_text folder p) answer new × OpensAt w v answer result)
            (λ fault. (new ≡ asked.mid) × (v ≡ w) × (result ≡ Err fault)) → Opened at result
        by (Err Device) leads gives = subst (Opened at) (sym gives.2) (gives.1, unseen at is asked.mid asked.reply asked.named asked.looked leads)
        by (Err Memory) leads gives = subst (Opened at) (sym gives.2) gives.1
        by (Ok x) leads (answer, made, gives) =
            answered answer result (law asked.mid new folder p answer asked.named (λ f known. can f (sym stays ∙ known)) made at here) gives

    pub opens_as : (result : Result (Unit {0}) TreeFault) (now : Option (Path → Bool)) → now ≡ failing s folder → OnErr result (v ≡ w)
        → OpensOnce sys (entry_in folder p) (change_of w v) (change_of s new) result
        → OpensAs (failing_of fails (failing s folder) w) (failing_of fails now v) p result
    unfolding OpensAs
    opens_as result now same unopened asked = of_paths fails w (failing s folder) (λ f. OpensWith f (failing_of fails now v) p result)
        (λ at is. by at (same ∙ is) result (opened at is result unopened asked))
      where
        by : (at : Path → Bool) → now ≡ Some at → (result : Result (Unit {0}) TreeFault) → Opened at result
            → OpensWith (record { at = at; reading = fails_on fails w }) (failing_of fails now v) p result
        by at is (Ok x) (file, start, fails_so) =
            still_told fails (Some (record { file = file; place = 0; ended = false; lost = false })) v (Some at) now is (ap (fails_on fails) start)
            ∙ ap (λ b. Some (record { at = at; reading = b })) fails_so
        by at is (Err Device) (same_open, fails_so) = (still_told fails w v (Some at) now is (ap (fails_on fails) same_open), fails_so)
        by at is (Err Memory) same_open = still_told fails w v (Some at) now is (ap (fails_on fails) same_open)

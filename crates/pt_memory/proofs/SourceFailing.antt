-- A source in memory without a fuse fails where it tells that, as the trait says it.
use Rattle.std.proofs.Common.{◌≡◌, ℕ, List, true, false, refl, ◌∙◌, ap, subst}
use Rattle.std.specs.Prelude.{◌==◌, Bool, cond, is_some, Option, None, Some, IsSome, Result, Ok, Err, MatchResult}
use Rattle.std.specs.Option.{ForSome, option_map, option_map_or}
use Rattle.pt_tree.specs.declared.faults.TreeFault.{TreeFault}
use Rattle.pt_tree.specs.declared.faults.TreeFault.TheVariants.{Device, Memory}
use Rattle.pt_tree.specs.Failing.{Failing, GoesAs, ListsAs, LooksAs, LooksWith, OpensAs, ReadsAs}
use Rattle.pt_tree.specs.Forest.{Forest, dir_at, file_at, kind_at, listing_at, listing_of}
use Rattle.pt_tree.specs.Listing.{Item}
use Rattle.pt_tree.specs.Path.{Path, parent}
use Rattle.pt_tree.specs.declared.kind.Kind.{Kind}
use Rattle.pt_tree.specs.Source.{CanList, CanOpen, CanRead}
use Rattle.pt_memory.specs.declared.fuse.Fuse.{Fuse}
use Rattle.pt_memory.specs.Fuse.{after_call, has_fuse, is_blown}
use Rattle.pt_memory.specs.MemSource.{SourceState, CallGives, after_refusal, KindGives, ListGives, OpenGives, NextGives, reading_of, unread_of}
use Rattle.pt_memory.specs.MemSourceTells.{fuse_failing}

-- where it tells at which paths it fails, it fails as it does without a fuse
told_so : (failing : Failing) (f : Fuse) (Q : Failing → Type 0) → (has_fuse f ≡ false → Q failing) → ForSome (fuse_failing failing f) Q
told_so failing f Q goes = by (has_fuse f) goes
  where
    by : (has : Bool) → (has ≡ false → Q failing) → ForSome (cond has None (Some failing)) Q
    by true goes = λ x is. absurd (cc)
    by false goes = λ x is. let it : failing ≡ x = cc in subst Q it (goes refl)

-- and so after a call
still_so : (failing : Failing) (f : Fuse) → has_fuse f ≡ false → fuse_failing failing (after_call f) ≡ Some failing
still_so failing f none = by f.left none
  where
    by : (left : Option ℕ) → is_some left ≡ false → fuse_failing failing (after_call (record { left = left; failures = f.failures })) ≡ Some failing
    by None none = refl
    by (Some n) none = absurd (cc)

-- without a fuse a call gives what it says of what it needs, where that is there
found : {T X Goal : Type 0} (old new : SourceState) (needed : Option X) (r : Result T TreeFault) (P : X → Type 0) → IsSome needed → has_fuse old.fuse ≡ false
    → CallGives (is_blown old.fuse) old new needed r P → ((x : X) → P x → Goal) → Goal
found {T} {X} {Goal} old new needed r P there none gives so = by old.fuse.left needed none there gives
  where
    by : (left : Option ℕ) (o : Option X) → is_some left ≡ false → IsSome o → CallGives (option_map_or (λ n. n == 0) left false) old new o r P → Goal
    by (Some n) o has there gives = absurd (cc)
    by None None has there gives = absurd (cc)
    by None (Some x) has there gives = so x gives

pub lists : (failing : Failing) (old new : SourceState) (p : Path) (r : Result (List Item) TreeFault) → failing.at p ≡ false → CanList (Some (reading_of old)) p
    → ListGives old new p r
    → ListsAs (fuse_failing failing old.fuse) (fuse_failing failing new.fuse) p r
unfolding CanList ListsAs
lists failing old new p r readable can gives = told_so failing old.fuse _
    (λ none. found old new (listing_at old.tree p) r _ (there (dir_at old.tree p) (can (reading_of old) refl)) none gives
    (λ items g. (ap (λ s. fuse_failing failing s.fuse) g.0 ∙ still_so failing old.fuse none, well items r g.1)))
  where
    there : (o : Option Forest) → IsSome o → IsSome (option_map listing_of o)
    there None is = absurd (cc)
    there (Some f) is = refl

    well : (items : List Item) (r : Result (List Item) TreeFault) → MatchResult r (λ listing. listing ≡ items) (λ e. e ≡ Memory) → GoesAs (failing.at p) r
    well items (Ok x) is = readable
    well items (Err Device) is = absurd (cc)
    well items (Err Memory) is = tt

pub looks : (failing : Failing) (old new : SourceState) (p : Path) (r : Result (Option Kind) TreeFault) → KindGives old new p r
    → LooksAs (fuse_failing failing old.fuse) (fuse_failing failing new.fuse) p r
unfolding LooksAs
looks failing old new p r gives = told_so failing old.fuse _ (λ none. (
  ap (λ s. fuse_failing failing s.fuse) gives.state
      ∙ still_so failing old.fuse none,
  rw gives.answer (well old.fuse.left none),
))
  where
    well : (left : Option ℕ) → is_some left ≡ false → LooksWith {T = Option Kind} (failing.at (parent p))
        (cond (option_map_or (λ n. n == 0) left false) (Err Device) (Ok (kind_at old.tree p)))
    well None none = tt
    well (Some n) none = absurd (cc)

-- `after` is where it fails once the file is open
pub opens : (failing after : Failing) (old new : SourceState) (p : Path) (r : Result (Unit {0}) TreeFault) → after ≡ record failing { reading = failing.at p }
    → CanOpen (Some (reading_of old)) p → OpenGives old new p r
    → OpensAs (fuse_failing failing old.fuse) (fuse_failing after new.fuse) p r
unfolding CanOpen OpensAs
opens failing after old new p r follows can gives = told_so failing old.fuse _
    (λ none. found old new (file_at old.tree p) r _ (can (reading_of old) refl) none gives
    (λ bytes g. rw g.0 (ap (λ s. fuse_failing after s.fuse) g.1 ∙ still_so after old.fuse none ∙ ap (λ f. Some f) follows)))

-- where a file that is there isn't opened, there is a fuse
pub opens_not : {T : Type 0} (failing : Failing) (after : Option Failing) (old new : SourceState) (p : Path) (fault : TreeFault) (r : Result T TreeFault)
    → CanOpen (Some (reading_of old)) p → OpenGives old new p (Err fault)
    → OpensAs (fuse_failing failing old.fuse) after p r
unfolding CanOpen OpensAs
opens_not failing after old new p fault r can gives = told_so failing old.fuse _
    (λ none. found old new (file_at old.tree p) (Err fault) _ (can (reading_of old) refl) none gives (λ bytes g. absurd (cc)))

pub reads : (failing : Failing) (old new : SourceState) (block : List ℕ) (r : Result (Unit {0}) TreeFault) → failing.reading ≡ false
    → CanRead (Some (reading_of old)) → NextGives old new block r
    → ReadsAs (fuse_failing failing old.fuse) (fuse_failing failing new.fuse) block r
unfolding CanRead ReadsAs
reads failing old new block r closed can gives = told_so failing old.fuse _
    (λ none. found old new (unread_of old) r _ (can (reading_of old) refl) none gives
    (λ bytes g. (ap (λ s. fuse_failing failing s.fuse) g.2 ∙ still_so failing old.fuse none, rw g.0 (λ _. closed))))

-- a call that is refused leaves a device without a fuse without one
refused : (failing : Failing) (old new : SourceState) → new ≡ after_refusal old → has_fuse old.fuse ≡ false → fuse_failing failing new.fuse ≡ Some failing
refused failing old new is none = ap (λ s. fuse_failing failing s.fuse) is ∙ by old.fuse.left none
  where
    by : (left : Option ℕ) → is_some left ≡ false → fuse_failing failing
        (after_refusal (record old { fuse = record { left = left; failures = old.fuse.failures } })).fuse ≡ Some failing
    by None none = refl
    by (Some n) none = absurd (cc)

pub refuses_list : (T : Type 0) (failing : Failing) (old new : SourceState) (p : Path) (fault : TreeFault) → failing.at p ≡ true → new ≡ after_refusal old
    → fault ≡ Device
    → ListsAs {T = T} (fuse_failing failing old.fuse) (fuse_failing failing new.fuse) p (Err fault)
unfolding ListsAs
refuses_list T failing old new p fault spoiled is told = rw told (told_so failing old.fuse _ (λ none. (refused failing old new is none, spoiled)))

pub refuses_look : (T : Type 0) (failing : Failing) (old new : SourceState) (p : Path) (fault : TreeFault) → failing.at (parent p) ≡ true
    → new ≡ after_refusal old → fault ≡ Device
    → LooksAs {T = T} (fuse_failing failing old.fuse) (fuse_failing failing new.fuse) p (Err fault)
unfolding LooksAs
refuses_look T failing old new p fault spoiled is told = rw told (told_so failing old.fuse _ (λ none. (refused failing old new is none, spoiled)))

pub refuses_next : (T : Type 0) (failing : Failing) (old new : SourceState) (block : List ℕ) (fault : TreeFault) → failing.reading ≡ true
    → new ≡ after_refusal old → fault ≡ Device
    → ReadsAs {T = T} (fuse_failing failing old.fuse) (fuse_failing failing new.fuse) block (Err fault)
unfolding ReadsAs
refuses_next T failing old new block fault spoiled is told = rw told (told_so failing old.fuse _ (λ none. (refused failing old new is none, spoiled)))

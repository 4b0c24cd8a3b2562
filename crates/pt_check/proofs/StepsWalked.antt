-- What a check does in a folder, step by step, where its source fails at nothing.
use Rattle.std.proofs.Common.{
  ◌≡◌,
  ◌≤◌,
  ◌+◌,
  ◌==◌,
  ◌&&◌,
  ◌∙◌,
  ℕ,
  Bool,
  true,
  false,
  cond,
  List,
  [],
  ◌∷◌,
  ◌++◌,
  arith,
  ap,
  drop,
  inl,
  inr,
  length,
  min,
  refl,
  subst,
  sym,
}
use Rattle.std.proofs.Math.Bool.{and-false}
use Rattle.std.specs.Prelude.{◌⊎◌, Some}
use Rattle.pt_check.proofs.SharedOwn.{same_either}
use Rattle.pt_check.proofs.SharedFolders.{none_found}
use Rattle.pt_check.proofs.StepsDone.{
  AtHand,
  Comes,
  Holds,
  comes_as,
  comes_both,
  comes_same,
  dir_met,
  fails,
  file_comes,
  hold,
  judged_comes,
  other_comes,
  where_told,
}
use Rattle.pt_check.specs.Lines.{Told}
use Rattle.pt_check.specs.Shares.{is_all, is_own_entry, is_own_in, is_site, is_walked}
use Rattle.pt_check.specs.Steps.{
  Held,
  Step,
  Tells as TellsStep,
  held_begun,
  held_behind,
  held_ended,
  held_found,
  held_met,
  held_read,
  read_of,
  steps_at,
  steps_if,
  steps_in,
  steps_judged,
  steps_met,
  steps_opened,
  without_held,
}
use Rattle.pt_check.specs.Visits.{
  Begins,
  CheckState,
  Enters,
  Folder,
  Judges,
  Says,
  Tells,
  TellsEach,
  TellsUnlisted,
  Visits,
  VisitsFolder,
  Where,
  begun,
  counting,
  ended,
  finding_of,
  folder_in,
  holder_in,
  meeting,
}
use Rattle.pt_check.specs.Within.{below, below_site, beside_shorties, holder}
use Rattle.pt_check.specs.declared.numbers.Numbers.{Numbers}
use Rattle.pt_check.specs.declared.trouble.Trouble.TheVariants as trouble
use Rattle.pt_check.specs.declared.wants.Wants.{Wants}
use Rattle.pt_check.specs.declared.within.Within.{Within}
use Rattle.pt_check.specs.declared.within.Within.TheVariants as within
use Rattle.pt_name.specs.Share.{Portion, tells_at}
use Rattle.pt_tree.specs.Failures.{greatest_count}
use Rattle.pt_tree.specs.Forest.{Forest, none, file, other, dir, listing_of}
use Rattle.pt_tree.specs.Listing.{Item}
use Rattle.pt_tree.specs.Path.{Path, joined}
use Rattle.pt_tree.specs.declared.kind.Kind.TheVariants as kind
use Rattle.pt_walk.specs.Site.{is_short, is_shorty}
use Rattle.pt_walk.specs.declared.site.At.{At}
use Rattle.pt_walk.specs.declared.site.At.TheVariants as at
use Rattle.pt_walk.specs.declared.site.Finding.{Finding}
use Rattle.pt_walk.specs.declared.site.Finding.TheVariants as finding

-- ---- what can't be listed

each_stays : (path : Path) (reasons : List (List ℕ)) (a b : CheckState) → TellsEach path reasons a b → b.failed ≡ a.failed
each_stays path [] a b same = ap (λ (s : CheckState). s.failed) same
each_stays path (reason ∷ more) a b (m, puts, each) = each_stays path more m b each ∙ puts.failed

unlisted_fails : (says : Says) (path : Path) (part : Bool) (a b : CheckState) → TellsUnlisted says path part a b
    → min (a.failed + 1) greatest_count ≤ fails b
unlisted_fails says path part a b (m, same, rose, held, numbers, (s, still, more, holds, counts, reason, further, each, said)) =
    let after = each_stays path (reason ∷ further) s b each in omega (arith, rose, more, after)

pub unlisted_comes : (says : Says) (path : Path) (part : Bool) (steps : List Step) (P Q : Type 0) (a m b : CheckState)
    → TellsUnlisted says path part a m → fails m ≤ fails b → Comes steps P Q a b
unlisted_comes says path part steps P Q a m b tells later =
    let rose = unlisted_fails says path part a m tells in
    (omega (arith, rose, later), λ still few p. absurd (omega (arith, rose, later, still, few)))

-- ---- the object at hand in a folder

is_object : Within → Bool
is_object (within.Object before) = true
is_object (within.Site w) = false
is_object within.Past = false
is_object within.Beside = false

no_object : (w : At) (name : List ℕ) → is_object (below_site w name) ≡ false
unfolding is_object
no_object at.Root name = refl
no_object at.Pair name = refl
no_object at.Last name = refl

-- what isn't the object's is not at hand
not_at_hand : (here : Within) (s : CheckState) (held : Held) → is_object here ≡ false → AtHand here s held
unfolding is_object
not_at_hand (within.Object before) s held e = absurd (cc)
not_at_hand (within.Site w) s held e = tt
not_at_hand within.Past s held e = tt
not_at_hand within.Beside s held e = tt

-- the same numbers
at_hand_as : (here : Within) (a b : CheckState) (held : Held) → hold b ≡ hold a → AtHand here a held → AtHand here b held
at_hand_as (within.Object before) a b held same is = same ∙ is
at_hand_as (within.Site w) a b held same is = tt
at_hand_as within.Past a b held same is = tt
at_hand_as within.Beside a b held same is = tt

-- where a folder is an object's what lies in the one above it is the share's own where it is
entry_in : (s : Portion) (path : Path) (here : Within) (what : Finding) (name : List ℕ) (n m : ℕ) (own : Bool)
    → is_object (below here what name n m) ≡ true → is_own_entry s path here (name, kind.Dir) own ≡ own
unfolding is_object
entry_in s path (within.Site w) what name n m own is = by (is_short name) is
  where
    by : (x : Bool) → is_object (cond x (below_site w name) (beside_shorties what n m)) ≡ true
        → cond (is_all s) own (cond (x && true) (tells_at s (drop 1 path)) own) ≡ own
    by true is = let never = no_object w name in absurd (cc)
    by false is = same_either (is_all s) own
entry_in s path within.Past what name n m own is = absurd (cc)
entry_in s path (within.Object before) what name n m own is =
    ap (λ (b : Bool). cond (is_all s) own (cond b (tells_at s (drop 1 path)) own)) (and-false (is_shorty (name, kind.Dir))) ∙ same_either (is_all s) own
entry_in s path within.Beside what name n m own is = absurd (cc)

-- at its start
begins_at : (here : Within) (what : Finding) (name : List ℕ) (n m site : ℕ) (own mine : Bool) (s : CheckState) (held : Held)
    → (is_object (below here what name n m) ≡ true → mine ≡ own) → Holds own (holder here what site) s held
    → Holds mine (below here what name n m) (counting (begun (below here what name n m) (holder here what site)) s)
    (held_begun (below here what name n m) (holder here what site) held)
unfolding is_object
begins_at (within.Site w) what name n m site own mine s held same holds = by (is_short name) same
  where
    beside : (f : Finding) → (is_object (beside_shorties f n m) ≡ true → mine ≡ own) → Holds own (holder (within.Site w) f site) s held
        → Holds mine (beside_shorties f n m) (counting (begun (beside_shorties f n m) (holder (within.Site w) f site)) s)
        (held_begun (beside_shorties f n m) (holder (within.Site w) f site) held)
    beside finding.Interior same holds = λ e. tt
    beside (finding.Skip why) same holds = λ e. tt
    beside (finding.Candidate i) same holds = λ e. refl
    beside finding.Gathered same holds = λ e. holds (sym (same refl) ∙ e)

    by : (x : Bool) → (is_object (cond x (below_site w name) (beside_shorties what n m)) ≡ true → mine ≡ own)
        → Holds mine (cond x (below_site w name) (beside_shorties what n m))
        (counting (begun (cond x (below_site w name) (beside_shorties what n m)) (holder (within.Site w) what site)) s)
        (held_begun (cond x (below_site w name) (beside_shorties what n m)) (holder (within.Site w) what site) held)
    by true same = λ e. not_at_hand (below_site w name) _ _ (no_object w name)
    by false same = beside what same holds
begins_at within.Past what name n m site own mine s held same holds = λ e. tt
begins_at (within.Object before) finding.Interior name n m site own mine s held same holds = λ e. holds (sym (same refl) ∙ e)
begins_at (within.Object before) (finding.Skip why) name n m site own mine s held same holds = λ e. holds (sym (same refl) ∙ e)
begins_at (within.Object before) (finding.Candidate i) name n m site own mine s held same holds = λ e. holds (sym (same refl) ∙ e)
begins_at (within.Object before) finding.Gathered name n m site own mine s held same holds = λ e. holds (sym (same refl) ∙ e)
begins_at within.Beside what name n m site own mine s held same holds = λ e. tt

-- and behind it
ends_at : (it above : Within) (own mine : Bool) (m n : CheckState) (held after : Held) → (is_object it ≡ true → mine ≡ own) → Holds own above m held
    → Holds mine it n after → Holds own above (counting (ended it m.numbers) n) (held_ended it held after)
unfolding is_object
ends_at (within.Object before) (within.Object next) own mine m n held after same holds here = λ e. here (same refl ∙ e)
ends_at (within.Object before) (within.Site w) own mine m n held after same holds here = λ e. tt
ends_at (within.Object before) within.Past own mine m n held after same holds here = λ e. tt
ends_at (within.Object before) within.Beside own mine m n held after same holds here = λ e. tt
ends_at (within.Site w) above own mine m n held after same holds here =
    λ e. at_hand_as above m (counting (ended (within.Site w) m.numbers) n) held refl (holds e)
ends_at within.Past above own mine m n held after same holds here =
    λ e. at_hand_as above m (counting (ended within.Past m.numbers) n) held refl (holds e)
ends_at within.Beside above own mine m n held after same holds here =
    λ e. at_hand_as above m (counting (ended within.Beside m.numbers) n) held refl (holds e)

-- numbers of the object at hand alone are changed
begun_apart : (here above : Within) (n : Numbers) → without_held (begun here above n) ≡ without_held n
begun_apart (within.Object before) (within.Site w) n = refl
begun_apart (within.Object before) (within.Object next) n = refl
begun_apart (within.Object before) within.Past n = refl
begun_apart (within.Object before) within.Beside n = refl
begun_apart (within.Site w) above n = refl
begun_apart within.Past above n = refl
begun_apart within.Beside above n = refl

ended_apart : (here : Within) (before n : Numbers) → without_held (ended here before n) ≡ without_held n
ended_apart (within.Object bytes) before n = refl
ended_apart (within.Site w) before n = refl
ended_apart within.Past before n = refl
ended_apart within.Beside before n = refl

-- ---- a folder that is come to

module _ (says : Says) (share : Portion) (wants : Wants) where
  abbrev pub own_of : Folder → Finding → Bool → Bool
  own_of folder what own = is_own_in wants.layout share (folder.path, folder.prefix) what own

  plain_own : (folder : Folder) (items : List Item) (own : Bool) → is_site folder.here ≡ false
      → own_of folder (finding_of wants.form folder.here items) own ≡ own
  plain_own folder items own e =
      ap (λ (w : Finding). own_of folder w own) (none_found wants.form folder.here items e) ∙ same_either (is_all share) own

  behind_at : (folder : Folder) (what : Finding) (own mine : Bool) (s : CheckState) (held : Held)
      → (is_site folder.here ≡ false → what ≡ finding.Interior) → (is_site folder.here ≡ false → mine ≡ own)
      → Holds mine (holder_in folder what) s held → Holds own folder.here s held
  behind_at folder what own mine s held alone same holds = by folder.here alone same holds
    where
      by : (here : Within) → (is_site here ≡ false → what ≡ finding.Interior) → (is_site here ≡ false → mine ≡ own)
          → Holds mine (holder here what (length (joined folder.path))) s held → Holds own here s held
      by (within.Site w) alone same holds = λ e. tt
      by within.Past alone same holds = λ e. tt
      by within.Beside alone same holds = λ e. tt
      by (within.Object before) alone same holds = λ e.
          subst (λ (f : Finding). AtHand (holder (within.Object before) f (length (joined folder.path))) s held) (alone refl) (holds (same refl ∙ e))

  -- the object at hand behind a folder
  abbrev pub behind_of : Folder → Forest → Held → Held
  behind_of folder inside held =
      let what = finding_of wants.form folder.here (listing_of inside) in
      cond (folder.left == 0) held (held_behind wants folder what inside (held_found what held))

  -- what comes of a folder, by what comes of its entries
  pub enters_comes : (own : Bool) (folder : Folder) (inside : Forest) (held : Held) (a b : CheckState)
      → ((what : Finding) (m : CheckState) (h : Held) → Visits says share wants own folder what inside m b
      → Comes (steps_in share wants own folder what inside h) (Holds (own_of folder what own) (holder_in folder what) m h)
      (Holds (own_of folder what own) (holder_in folder what) b (held_behind wants folder what inside h)) m b)
      → Enters says share wants own folder (listing_of inside) (λ seen. Visits says share wants own folder seen inside) a b
      → Comes (steps_at share wants own folder inside held) (Holds own folder.here a held)
      (Holds own folder.here b (behind_of folder inside held)) a b
  enters_comes own folder inside held a b entries enters = by_left (folder.left == 0) enters
    where
      items : List Item
      items = listing_of inside

      what : Finding
      what = finding_of wants.form folder.here items

      next : Held
      next = held_found what held

      then : Held
      then = held_behind wants folder what inside next

      judged : List Step
      judged = steps_if (own_of folder what own) (steps_judged wants folder items)

      rest : List Step
      rest = steps_in share wants own folder what inside next

      start : CheckState
      start = meeting share (folder.path, folder.prefix) what a

      listed : (m : CheckState) → Where (own_of folder what own) (Judges wants (folder.path, folder.prefix) folder.here items) start m
          → Visits says share wants own folder what inside m b
          → Comes (judged ++ rest) (Holds own folder.here a held) (Holds own folder.here b then) a b
      listed m judges visits =
          let mine = own_of folder what own in
          let here = Holds mine (holder_in folder what) m next in
          let last = Holds mine (holder_in folder what) b then in
          let first = comes_as judged (Holds own folder.here start held) here (Holds own folder.here a held) here start m
          (λ holds e. at_hand_as folder.here a start held refl (holds e)) (λ p. p)
          (judged_comes wants folder items own mine held start m (plain_own folder items own) judges) in
          let all = comes_both judged rest (Holds own folder.here a held) here last a m b first (entries what m next visits) in
          comes_as (judged ++ rest) (Holds own folder.here a held) last (Holds own folder.here a held) (Holds own folder.here b then) a b (λ p. p)
          (behind_at folder what own mine b then (none_found wants.form folder.here items) (plain_own folder items own)) all

      deep : Where own (Tells (Told folder.path trouble.Deep)) a b
          → Comes (steps_if own (TellsStep folder.path trouble.Deep ∷ [])) (Holds own folder.here a held) (Holds own folder.here b held) a b
      deep tells =
          let does = where_told own folder.path (Some trouble.Deep) a b tells in
          let same = does.1.0 in
          (omega (arith, same), λ still few holds. (does.0, same, λ e. at_hand_as folder.here a b held does.1.1 (holds e)))

      by_left : (t : Bool)
          → cond t (Where own (Tells (Told folder.path trouble.Deep)) a b)
          (TellsUnlisted says folder.path false a b
          ⊎ ((seen : Finding) × (m : CheckState) × Begins says share wants own folder items seen a m × Visits says share wants own folder seen inside m b))
          → Comes (cond t (steps_if own (TellsStep folder.path trouble.Deep ∷ [])) (judged ++ rest)) (Holds own folder.here a held)
          (Holds own folder.here b (cond t held then)) a b
      by_left true tells = deep tells
      by_left false (inl tells) = unlisted_comes says folder.path false (judged ++ rest) (Holds own folder.here a held)
          (Holds own folder.here b then) a b b tells (omega arith)
      by_left false (inr (seen, m, inl (judges, seen_is, goes), visits)) =
          listed m judges (subst (λ (f : Finding). Visits says share wants own folder f inside m b) seen_is visits)
      by_left false (inr (seen, m, inr (tells, seen_is), visits)) =
          unlisted_comes says folder.path true (judged ++ rest) (Holds own folder.here a held) (Holds own folder.here b then) a m b tells
          (entries seen m held visits).0

  -- where a share doesn't walk it nothing is done
  unwalked : (path : Path) (here : Within) (mine : Bool) (s : CheckState) (before after : Held) → is_walked share path here mine ≡ false
      → Holds mine here s before → Holds mine here s after
  unwalked path (within.Site w) mine s before after e holds = λ is. tt
  unwalked path within.Past mine s before after e holds = λ is. tt
  unwalked path within.Beside mine s before after e holds = λ is. tt
  unwalked path (within.Object b) mine s before after e holds = λ is. absurd (let never = same_either (is_all share) mine in cc)

  where_enters : (walked own : Bool) (folder : Folder) (inside : Forest) (held : Held) (a b : CheckState) → is_walked share folder.path folder.here own ≡ walked
      → (VisitsFolder says share wants own folder inside a b
      → Comes (steps_at share wants own folder inside held) (Holds own folder.here a held)
      (Holds own folder.here b (behind_of folder inside held)) a b)
      → Where walked (VisitsFolder says share wants own folder inside) a b
      → Comes (steps_if walked (steps_at share wants own folder inside held)) (Holds own folder.here a held)
      (Holds own folder.here b (behind_of folder inside held)) a b
  where_enters true own folder inside held a b is comes visits = comes visits
  where_enters false own folder inside held a b is comes same =
      subst (λ (s : CheckState). Comes [] (Holds own folder.here a held) (Holds own folder.here s (behind_of folder inside held)) a s) (sym same)
      (comes_as [] (Holds own folder.here a held) (Holds own folder.here a held) (Holds own folder.here a held)
      (Holds own folder.here a (behind_of folder inside held)) a a (λ p. p)
      (unwalked folder.path folder.here own a held (behind_of folder inside held) is) (comes_same (Holds own folder.here a held) a a refl))

  -- numbers of the object at hand are set
  comes_counted : (change : Numbers → Numbers) (P Q : Type 0) (a : CheckState) → ((n : Numbers) → without_held (change n) ≡ without_held n) → (P → Q)
      → Comes [] P Q a (counting change a)
  comes_counted change P Q a apart q =
      let stays = comes_same P a a refl in
      (omega arith, λ still few p. let does = stays.1 still few p in ((apart a.numbers, does.0.1), refl, q p))

  -- the entries of a folder
  pub visits_comes : (tree : Forest) (own : Bool) (folder : Folder) (what : Finding) (held : Held) (a b : CheckState)
      → Visits says share wants own folder what tree a b
      → Comes (steps_in share wants own folder what tree held) (Holds (own_of folder what own) (holder_in folder what) a held)
      (Holds (own_of folder what own) (holder_in folder what) b (held_behind wants folder what tree held)) a b
  visits_comes none own folder what held a b same =
      subst (λ (s : CheckState). Comes [] (Holds (own_of folder what own) (holder_in folder what) a held)
      (Holds (own_of folder what own) (holder_in folder what) s held) a s) (sym same) (comes_same _ a a refl)
  visits_comes (file name bytes after) own folder what held a b (m, meets, n, opens, rest) =
      let path = folder.path ++ name ∷ [] in
      let here = holder_in folder what in
      let mine = own_of folder what own in
      let next = held_read here (read_of wants bytes) (held_met kind.File held) in
      comes_both (steps_if mine (steps_met wants path here (name, kind.File) held ++ steps_opened wants path here bytes (held_met kind.File held)))
      (steps_in share wants own folder what after next) (Holds mine here a held) (Holds mine here n next)
      (Holds mine here b (held_behind wants folder what after next)) a n b
      (file_comes wants mine path here name bytes held a m n meets opens) (visits_comes after own folder what next n b rest)
  visits_comes (other name after) own folder what held a b (m, meets, rest) =
      let path = folder.path ++ name ∷ [] in
      let here = holder_in folder what in
      let mine = own_of folder what own in
      comes_both (steps_if mine (steps_met wants path here (name, kind.Other) held)) (steps_in share wants own folder what after held)
      (Holds mine here a held) (Holds mine here m held)
      (Holds mine here b (held_behind wants folder what after held)) a m b
      (other_comes wants mine path here name held a m meets) (visits_comes after own folder what held m b rest)
  visits_comes (dir name inside after) own folder what held a b (m, meets, n, enters, rest) =
      let it = folder_in folder what name in
      let here = holder_in folder what in
      let mine = own_of folder what own in
      let own_it = is_own_entry share it.path folder.here (name, kind.Dir) mine in
      let seen = finding_of wants.form it.here (listing_of inside) in
      let start = counting (begun it.here here) m in
      let first = held_begun it.here here held in
      let last = cond (it.left == 0) first (held_behind wants it seen inside (held_found seen first)) in
      let next = held_ended it.here held last in
      let final = counting (ended it.here m.numbers) n in
      let site = length (joined folder.path) in
      let object = entry_in share it.path folder.here what name site (length (joined it.path)) mine in
      let met = steps_if own_it (steps_met wants it.path here (name, kind.Dir) held) in
      let walked = is_walked share it.path it.here own_it in
      let inner = steps_if walked (steps_at share wants own_it it inside first) in
      let meeting = dir_met wants own_it mine it.path here name held a m meets in
      let entering = where_enters walked own_it it inside first start n refl
      (enters_comes own_it it inside first start n (λ f s h. visits_comes inside own_it it f h s n)) enters in
      let starting = comes_counted (begun it.here here) (Holds mine here m held) (Holds own_it it.here start first) m (begun_apart it.here here)
      (begins_at folder.here what name site (length (joined it.path)) site mine own_it m held object) in
      let ending : (Holds mine here m held) → Comes [] (Holds own_it it.here n last) (Holds mine here final next) n final =
      λ holds. comes_counted (ended it.here m.numbers) (Holds own_it it.here n last) (Holds mine here final next) n (ended_apart it.here m.numbers)
      (ends_at it.here here mine own_it m n held last object holds) in
      let walk = comes_both [] inner (Holds mine here m held) (Holds own_it it.here start first) (Holds own_it it.here n last) m start n starting entering in
      let whole : Comes inner (Holds mine here m held) (Holds mine here final next) m final = (
        (let x = walk.0 in omega (arith, x)),
        (λ still few holds.
            let does = walk.1 still few holds in
            let same = does.1 in
            let done = (ending holds).1 (omega arith) (omega (arith, same, few)) does.2 in
            ((ended_apart it.here m.numbers n.numbers ∙ does.0.0, does.0.1), does.1, done.2)),
      ) in
      comes_both (met ++ inner) (steps_in share wants own folder what after next) (Holds mine here a held) (Holds mine here final next)
      (Holds mine here b (held_behind wants folder what after next)) a final b
      (comes_both met inner (Holds mine here a held) (Holds mine here m held) (Holds mine here final next) a m final meeting whole)
      (visits_comes after own folder what next final b rest)

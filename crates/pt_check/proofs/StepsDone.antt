-- What a check does at an entry and at a folder, step by step, where its source fails at nothing.
use Rattle.std.proofs.Common.{◌≡◌, ◌<◌, ◌≤◌, ◌+◌, ◌∙◌, ℕ, Bool, true, false, List, [], ◌∷◌, ◌++◌, arith, ap, inl, inr, length, min, refl, subst, sym}
use Rattle.std.proofs.KnownBytes.{Appends-nil, Appends-trans}
use Rattle.std.proofs.lemmas.List.{append_assoc}
use Rattle.std.specs.Io.KnownBytes.{Appends}
use Rattle.std.specs.Prelude.{⊤, Option, None, Some}
use Rattle.pt_check.specs.Counting.{with_entry, with_opened}
use Rattle.pt_check.specs.Steps.{
  Held,
  Step,
  Judges as JudgesStep,
  Meets as MeetsStep,
  Opens as OpensStep,
  Tells as TellsStep,
  counted,
  counted_by,
  held_found,
  held_met,
  held_read,
  read_of,
  step_text,
  steps_if,
  steps_judged,
  steps_met,
  steps_opened,
  steps_text,
  told_if,
  without_held,
}
use Rattle.pt_check.specs.Visits.{
  CheckState,
  Folder,
  Judges,
  Meets,
  Opens,
  TellsFailure,
  TellsIf,
  Where,
  count_trouble,
  counting,
  depth_of,
  entry_trouble,
  finding_of,
  folder_trouble,
  holder_in,
  is_renamed,
  reserved_trouble,
  room_trouble,
  size_trouble,
  with_folder,
}
use Rattle.pt_check.proofs.SharedFolders.{none_found}
use Rattle.pt_check.specs.Shares.{is_site}
use Rattle.pt_check.specs.Width.{width_trouble}
use Rattle.pt_check.specs.Within.{holder}
use Rattle.pt_check.specs.declared.numbers.Numbers.{Numbers}
use Rattle.pt_check.specs.declared.trouble.Trouble.{Trouble}
use Rattle.pt_check.specs.declared.wants.Wants.{Wants}
use Rattle.pt_check.specs.declared.within.Within.{Within}
use Rattle.pt_check.specs.declared.within.Within.TheVariants as within
use Rattle.pt_plan.proofs.Growing.{append_nil}
use Rattle.pt_tree.specs.Failures.{greatest_count}
use Rattle.pt_tree.specs.Listing.{Item}
use Rattle.pt_tree.specs.Path.{Path, joined}
use Rattle.pt_tree.specs.declared.kind.Kind.{Kind}
use Rattle.pt_tree.specs.declared.kind.Kind.TheVariants as kind
use Rattle.pt_walk.specs.declared.site.Finding.{Finding}
use Rattle.pt_walk.specs.declared.site.Finding.TheVariants as finding

-- ---- what steps come to

-- their lines stand in the log, and they are counted
abbrev pub Does : List Step → CheckState → CheckState → Type 0
Does steps a b = (without_held b.numbers ≡ without_held (counted steps a.numbers)) × Appends a.held b.held (steps_text steps)

-- what is counted doesn't go by the object at hand
held_apart : (step : Step) (n : Numbers) → without_held (counted_by step n) ≡ without_held (counted_by step (without_held n))
held_apart (TellsStep path trouble) n = refl
held_apart (MeetsStep kind.File length) n = refl
held_apart (MeetsStep kind.Dir length) n = refl
held_apart (MeetsStep kind.Other length) n = refl
held_apart (OpensStep true (within.Object b) bytes before) n = refl
held_apart (OpensStep true (within.Site w) bytes before) n = refl
held_apart (OpensStep true within.Past bytes before) n = refl
held_apart (OpensStep true within.Beside bytes before) n = refl
held_apart (OpensStep false (within.Object b) bytes before) n = refl
held_apart (OpensStep false (within.Site w) bytes before) n = refl
held_apart (OpensStep false within.Past bytes before) n = refl
held_apart (OpensStep false within.Beside bytes before) n = refl
held_apart (JudgesStep depth renamed (within.Site w) finding.Interior) n = refl
held_apart (JudgesStep depth renamed (within.Site w) (finding.Skip why)) n = refl
held_apart (JudgesStep depth renamed (within.Site w) (finding.Candidate i)) n = refl
held_apart (JudgesStep depth renamed (within.Site w) finding.Gathered) n = refl
held_apart (JudgesStep depth renamed within.Past what) n = refl
held_apart (JudgesStep depth renamed (within.Object b) what) n = refl
held_apart (JudgesStep depth renamed within.Beside what) n = refl

counted_alike : (steps : List Step) (n m : Numbers) → without_held n ≡ without_held m → without_held (counted steps n) ≡ without_held (counted steps m)
counted_alike [] n m same = same
counted_alike (step ∷ steps) n m same = counted_alike steps (counted_by step n) (counted_by step m)
    (held_apart step n ∙ ap (λ (k : Numbers). without_held (counted_by step k)) same ∙ sym (held_apart step m))

counted_both : (first later : List Step) (n : Numbers) → counted (first ++ later) n ≡ counted later (counted first n)
counted_both [] later n = refl
counted_both (step ∷ steps) later n = counted_both steps later (counted_by step n)

text_both : (first later : List Step) → steps_text (first ++ later) ≡ steps_text first ++ steps_text later
text_both [] later = refl
text_both (step ∷ steps) later =
    ap (λ (l : List ℕ). step_text step ++ l) (text_both steps later) ∙ sym (append_assoc (step_text step) (steps_text steps) (steps_text later))

pub does_same : (a b : CheckState) → b ≡ a → Does [] a b
does_same a b same = subst (λ (s : CheckState). Does [] a s) (sym same) (refl, Appends-nil a.held)

pub does_both : (first later : List Step) (a m b : CheckState) → Does first a m → Does later m b → Does (first ++ later) a b
does_both first later a m b x y = (
  y.0 ∙ counted_alike later m.numbers (counted first a.numbers) x.0 ∙ ap without_held (sym (counted_both first later a.numbers)),
  subst (Appends a.held b.held) (sym (text_both first later)) (Appends-trans a.held m.held b.held (steps_text first) (steps_text later) x.1 y.1),
)

-- and what changes numbers alone
does_counting : (step : Step) (a : CheckState) (change : Numbers → Numbers) → step_text step ≡ []
    → without_held (change a.numbers) ≡ without_held (counted_by step a.numbers) → Does (step ∷ []) a (counting change a)
does_counting step a change silent same =
    (same, subst (Appends a.held a.held) (sym (ap (λ (l : List ℕ). l ++ []) silent)) (Appends-nil a.held))

-- ---- the object at hand

-- how many files it has, and bytes that were read
abbrev pub hold : CheckState → ℕ × ℕ
hold s = (s.numbers.held, s.numbers.held_bytes)

abbrev pub hold_of : Held → ℕ × ℕ
hold_of held = (held.files, held.bytes)

-- in an object these are those
abbrev pub AtHand : Within → CheckState → Held → Type 0
AtHand (within.Object before) s held = hold s ≡ hold_of held
AtHand (within.Site w) s held = ⊤
AtHand within.Past s held = ⊤
AtHand within.Beside s held = ⊤

-- of what is the share's own
abbrev pub Holds : Bool → Within → CheckState → Held → Type 0
Holds mine here s held = mine ≡ true → AtHand here s held

at_hand : (here : Within) (s : CheckState) (held : Held) → hold s ≡ hold_of held → AtHand here s held
at_hand (within.Object before) s held is = is
at_hand (within.Site w) s held is = tt
at_hand within.Past s held is = tt
at_hand within.Beside s held is = tt

-- ---- what is told

-- nothing failed, and the object at hand is the same
abbrev pub Stays : CheckState → CheckState → Type 0
Stays a b = (b.failed ≡ a.failed) × (hold b ≡ hold a)

pub told_does : (path : Path) (o : Option Trouble) (a b : CheckState) → TellsIf path o a b → Does (told_if path o) a b × Stays a b
told_does path None a b same = (does_same a b same, (ap (λ (s : CheckState). s.failed) same, ap hold same))
told_does path (Some trouble) a b puts = (
  (
    ap without_held puts.numbers,
    subst (Appends a.held b.held) (sym (append_nil (step_text (TellsStep path trouble)))) puts.held,
  ),
  (puts.failed, ap (λ (n : Numbers). (n.held, n.held_bytes)) puts.numbers),
)

-- where something is the share's own
pub where_told : (own : Bool) (path : Path) (o : Option Trouble) (a b : CheckState) → Where own (TellsIf path o) a b
    → Does (steps_if own (told_if path o)) a b × Stays a b
where_told true path o a b tells = told_does path o a b tells
where_told false path o a b same = (does_same a b same, (ap (λ (s : CheckState). s.failed) same, ap hold same))

-- ---- an entry

abbrev pub met_hold : Kind → ℕ × ℕ → ℕ × ℕ
met_hold kind.File x = (min (x.0 + 1) greatest_count, x.1)
met_hold kind.Dir x = x
met_hold kind.Other x = x

met_numbers : (k : Kind) (bytes : ℕ) (n : Numbers) → ((with_entry k bytes n).held, (with_entry k bytes n).held_bytes) ≡ met_hold k (n.held, n.held_bytes)
met_numbers kind.File bytes n = refl
met_numbers kind.Dir bytes n = refl
met_numbers kind.Other bytes n = refl

pub met_does : (wants : Wants) (path : Path) (here : Within) (item : Item) (held : Held) (a b : CheckState) → Meets wants path here item a b
    → count_trouble here item.1 a.numbers.held ≡ count_trouble here item.1 held.files
    → Does (steps_met wants path here item held) a b × (b.failed ≡ a.failed) × (hold b ≡ met_hold item.1 (hold a))
met_does wants path here item held a b (m, crowds, n, tells, fits) few =
    let bytes = length (joined path) in
    let start = counting (with_entry item.1 bytes) a in
    let first = told_does path (count_trouble here item.1 a.numbers.held) start m crowds in
    let second = told_does path (entry_trouble here item.0 item.1 bytes) m n tells in
    let third = told_does path (room_trouble wants.room here item.1 bytes) n b fits in
    let crowd = told_if path (count_trouble here item.1 a.numbers.held) in
    let name = told_if path (entry_trouble here item.0 item.1 bytes) in
    let room = told_if path (room_trouble wants.room here item.1 bytes) in
    let later = does_both crowd (name ++ room) start m b first.0 (does_both name room m n b second.0 third.0) in
    let all = does_both (MeetsStep item.1 bytes ∷ []) (crowd ++ (name ++ room)) a start b
    (does_counting (MeetsStep item.1 bytes) a (with_entry item.1 bytes) refl refl) later in (
      subst (λ (o : Option Trouble). Does (MeetsStep item.1 bytes ∷ (told_if path o ++ (name ++ room))) a b) few all,
      third.1.0 ∙ second.1.0 ∙ first.1.0,
      third.1.1 ∙ second.1.1 ∙ first.1.1 ∙ met_numbers item.1 bytes a.numbers,
    )

-- what a folder, or another entry that is no file, is counted as doesn't go by the object
pub uncrowded : (here : Within) (k : Kind) (n m : ℕ) → (k ≡ kind.File → ⊥) → count_trouble here k n ≡ count_trouble here k m
uncrowded here kind.File n m e = absurd (e refl)
uncrowded (within.Object before) kind.Dir n m e = refl
uncrowded (within.Site w) kind.Dir n m e = refl
uncrowded within.Past kind.Dir n m e = refl
uncrowded within.Beside kind.Dir n m e = refl
uncrowded (within.Object before) kind.Other n m e = refl
uncrowded (within.Site w) kind.Other n m e = refl
uncrowded within.Past kind.Other n m e = refl
uncrowded within.Beside kind.Other n m e = refl

-- nor outside of an object
crowded : (here : Within) (k : Kind) (a : CheckState) (held : Held) → AtHand here a held
    → count_trouble here k a.numbers.held ≡ count_trouble here k held.files
crowded (within.Object before) k a held is = ap (λ (x : ℕ × ℕ). count_trouble (within.Object before) k x.0) is
crowded (within.Site w) k a held is = refl
crowded within.Past k a held is = refl
crowded within.Beside k a held is = refl

held_then : (here : Within) (k : Kind) (a b : CheckState) (held : Held) → AtHand here a held → hold b ≡ met_hold k (hold a) → AtHand here b (held_met k held)
held_then (within.Object before) kind.File a b held is then = then ∙ ap (met_hold kind.File) is
held_then (within.Object before) kind.Dir a b held is then = then ∙ is
held_then (within.Object before) kind.Other a b held is then = then ∙ is
held_then (within.Site w) k a b held is then = tt
held_then within.Past k a b held is then = tt
held_then within.Beside k a b held is then = tt

-- ---- a file

-- how often the source failed, up to the greatest count
abbrev pub fails : CheckState → ℕ
fails s = min s.failed greatest_count

-- where it failed its count is over that before, unless that was the greatest
pub has_failed : (path : Path) (a b : CheckState) → TellsFailure path a b → min (a.failed + 1) greatest_count ≤ fails b
has_failed path a b (m, same, rose, held, numbers, (reason, puts)) = let after = puts.failed in omega (arith, rose, after)

abbrev read_hold : Within → ℕ → ℕ × ℕ → ℕ × ℕ
read_hold (within.Object before) bytes x = (x.0, min (x.1 + bytes) greatest_count)
read_hold (within.Site w) bytes x = x
read_hold within.Past bytes x = x
read_hold within.Beside bytes x = x

read_numbers : (reads : Bool) (here : Within) (bytes : ℕ) (n : Numbers)
    → ((with_opened reads here bytes n).held, (with_opened reads here bytes n).held_bytes) ≡ read_hold here bytes (n.held, n.held_bytes)
read_numbers true (within.Object before) bytes n = refl
read_numbers true (within.Site w) bytes n = refl
read_numbers true within.Past bytes n = refl
read_numbers true within.Beside bytes n = refl
read_numbers false (within.Object before) bytes n = refl
read_numbers false (within.Site w) bytes n = refl
read_numbers false within.Past bytes n = refl
read_numbers false within.Beside bytes n = refl

-- it is counted as a step counts it
read_alike : (reads : Bool) (here : Within) (bytes : ℕ) (a : CheckState) (held : Held) → AtHand here a held
    → without_held (with_opened reads here bytes a.numbers) ≡ without_held (counted_by (OpensStep reads here bytes held.bytes) a.numbers)
read_alike true (within.Object before) bytes a held is =
    ap (λ (x : ℕ × ℕ). without_held (with_opened true (within.Object before) bytes (record a.numbers { held_bytes = x.1 }))) is
read_alike true (within.Site w) bytes a held is = refl
read_alike true within.Past bytes a held is = refl
read_alike true within.Beside bytes a held is = refl
read_alike false (within.Object before) bytes a held is =
    ap (λ (x : ℕ × ℕ). without_held (with_opened false (within.Object before) bytes (record a.numbers { held_bytes = x.1 }))) is
read_alike false (within.Site w) bytes a held is = refl
read_alike false within.Past bytes a held is = refl
read_alike false within.Beside bytes a held is = refl

read_then : (here : Within) (bytes : ℕ) (a b : CheckState) (held : Held) → AtHand here a held → hold b ≡ read_hold here bytes (hold a)
    → AtHand here b (held_read here bytes held)
read_then (within.Object before) bytes a b held is then = then ∙ ap (read_hold (within.Object before) bytes) is
read_then (within.Site w) bytes a b held is then = tt
read_then within.Past bytes a b held is then = tt
read_then within.Beside bytes a b held is then = tt

-- ---- what some of it comes to

-- the source's failures aren't fewer; and where they aren't more, and where that holds before, these steps are done, and that holds after
abbrev pub Comes : List Step → Type 0 → Type 0 → CheckState → CheckState → Type 0
Comes steps Before After a b = (fails a ≤ fails b)
    × (fails b ≤ fails a → a.failed < greatest_count → Before → Does steps a b × (b.failed ≡ a.failed) × After)

pub comes_both : (first later : List Step) (P Q R : Type 0) (a m b : CheckState) → Comes first P Q a m → Comes later Q R m b
    → Comes (first ++ later) P R a b
comes_both first later P Q R a m b x y = (
  (let one = x.0 in let two = y.0 in omega (arith, one, two)),
  (λ still few p.
      let two = y.0 in
      let one = x.0 in
      let does = x.1 (omega (arith, still, two)) few p in
      let same = does.1 in
      let then = y.1 (omega (arith, still, one)) (omega (arith, same, few)) does.2 in
      (does_both first later a m b does.0 then.0, then.1 ∙ does.1, then.2)),
)

pub comes_same : (P : Type 0) (a b : CheckState) → b ≡ a → Comes [] P P a b
comes_same P a b same = subst (λ (s : CheckState). Comes [] P P a s) (sym same) (omega arith, λ still few p. (does_same a a refl, refl, p))

-- what holds before holds of less, and what holds after of more
pub comes_as : (steps : List Step) (P Q R T : Type 0) (a b : CheckState) → (R → P) → (Q → T) → Comes steps P Q a b → Comes steps R T a b
comes_as steps P Q R T a b before after x = (x.0, λ still few r. let does = x.1 still few (before r) in (does.0, does.1, after does.2))

-- a file is opened
opened_comes : (wants : Wants) (path : Path) (here : Within) (bytes : List ℕ) (held : Held) (a b : CheckState) → Opens wants.reads path here bytes a b
    → Comes (steps_opened wants path here bytes held) (AtHand here a held) (AtHand here b (held_read here (read_of wants bytes) held)) a b
opened_comes wants path here bytes held a b (inl (tells, goes)) =
    let count = read_of wants bytes in
    let start = counting (with_opened wants.reads here count) a in
    let size = told_does path (size_trouble count) start b tells in
    let same = size.1.0 in (
      omega (arith, same),
      (λ still few is. (
        does_both (OpensStep wants.reads here count held.bytes ∷ []) (told_if path (size_trouble count)) a start b
            (does_counting (OpensStep wants.reads here count held.bytes) a (with_opened wants.reads here count) refl
            (read_alike wants.reads here count a held is)) size.0,
        size.1.0,
        read_then here count a b held is (size.1.1 ∙ read_numbers wants.reads here count a.numbers),
      )),
    )
opened_comes wants path here bytes held a b (inr failed) =
    let rose = has_failed path a b failed in (omega (arith, rose), λ still few is. absurd (omega (arith, rose, still, few)))

-- an entry is met, whose object is at hand
met_comes : (wants : Wants) (path : Path) (here : Within) (item : Item) (held : Held) (a b : CheckState) → Meets wants path here item a b
    → Comes (steps_met wants path here item held) (AtHand here a held) (AtHand here b (held_met item.1 held)) a b
met_comes wants path here item held a b meets =
    let same = (met_does wants path here item (record { files = a.numbers.held; bytes = 0 }) a b meets refl).1 in (
      omega (arith, same),
      (λ still few is.
          let does = met_does wants path here item held a b meets (crowded here item.1 a held is) in
          (does.0, does.1, held_then here item.1 a b held is does.2)),
    )

-- what isn't the share's own is passed
passed : (P Q : Type 0) (a b : CheckState) → b ≡ a → Q → Comes [] P Q a b
passed P Q a b same q = comes_as [] P P P Q a b (λ p. p) (λ p. q) (comes_same P a b same)

-- of what is its own
owned : (steps : List Step) (P Q : Type 0) (a b : CheckState) → Comes steps P Q a b → Comes steps (true ≡ true → P) (true ≡ true → Q) a b
owned steps P Q a b comes = comes_as steps P Q (true ≡ true → P) (true ≡ true → Q) a b (λ r. r refl) (λ q e. q) comes

-- a file of a folder
pub file_comes : (wants : Wants) (mine : Bool) (path : Path) (here : Within) (name bytes : List ℕ) (held : Held) (a m b : CheckState)
    → Where mine (Meets wants path here (name, kind.File)) a m → Where mine (Opens wants.reads path here bytes) m b
    → Comes (steps_if mine (steps_met wants path here (name, kind.File) held ++ steps_opened wants path here bytes (held_met kind.File held)))
    (Holds mine here a held) (Holds mine here b (held_read here (read_of wants bytes) (held_met kind.File held))) a b
file_comes wants true path here name bytes held a m b meets opens =
    let met = held_met kind.File held in
    let first = steps_met wants path here (name, kind.File) held in
    let later = steps_opened wants path here bytes met in
    owned (first ++ later) (AtHand here a held) (AtHand here b (held_read here (read_of wants bytes) met)) a b
    (comes_both first later (AtHand here a held) (AtHand here m met) (AtHand here b (held_read here (read_of wants bytes) met)) a m b
    (met_comes wants path here (name, kind.File) held a m meets) (opened_comes wants path here bytes met m b opens))
file_comes wants false path here name bytes held a m b meets opens =
    passed (Holds false here a held) (Holds false here b (held_read here (read_of wants bytes) (held_met kind.File held))) a b (opens ∙ meets)
    (λ e. absurd (cc))

-- what is neither a file nor a directory
pub other_comes : (wants : Wants) (mine : Bool) (path : Path) (here : Within) (name : List ℕ) (held : Held) (a b : CheckState)
    → Where mine (Meets wants path here (name, kind.Other)) a b
    → Comes (steps_if mine (steps_met wants path here (name, kind.Other) held)) (Holds mine here a held) (Holds mine here b held) a b
other_comes wants true path here name held a b meets =
    owned (steps_met wants path here (name, kind.Other) held) (AtHand here a held) (AtHand here b held) a b
    (met_comes wants path here (name, kind.Other) held a b meets)
other_comes wants false path here name held a b same =
    passed (Holds false here a held) (Holds false here b held) a b same (λ e. absurd (cc))

-- a folder as an entry, whose own or not it is, in one that is the share's own or not
pub dir_met : (wants : Wants) (own mine : Bool) (path : Path) (here : Within) (name : List ℕ) (held : Held) (a b : CheckState)
    → Where own (Meets wants path here (name, kind.Dir)) a b
    → Comes (steps_if own (steps_met wants path here (name, kind.Dir) held)) (Holds mine here a held) (Holds mine here b held) a b
dir_met wants true mine path here name held a b meets =
    let does = met_does wants path here (name, kind.Dir) held a b meets (uncrowded here kind.Dir a.numbers.held held.files (λ e. absurd (cc))) in
    let same = does.1 in
    (omega (arith, same), λ still few holds. (does.0, does.1, λ e. held_then here kind.Dir a b held (holds e) does.2))
dir_met wants false mine path here name held a b same = subst (λ (s : CheckState). Comes [] (Holds mine here a held) (Holds mine here s held) a s) (sym same)
    (comes_same (Holds mine here a held) a a refl)

-- ---- a folder

abbrev found_hold : Within → Finding → ℕ × ℕ → ℕ × ℕ
found_hold (within.Site w) finding.Interior x = x
found_hold (within.Site w) (finding.Skip why) x = x
found_hold (within.Site w) (finding.Candidate i) x = x
found_hold (within.Site w) finding.Gathered x = (0, 0)
found_hold within.Past what x = x
found_hold (within.Object before) what x = x
found_hold within.Beside what x = x

found_numbers : (depth : ℕ) (renamed : Bool) (here : Within) (what : Finding) (n : Numbers)
    → ((with_folder depth renamed here what n).held, (with_folder depth renamed here what n).held_bytes) ≡ found_hold here what (n.held, n.held_bytes)
found_numbers depth renamed (within.Site w) finding.Interior n = refl
found_numbers depth renamed (within.Site w) (finding.Skip why) n = refl
found_numbers depth renamed (within.Site w) (finding.Candidate i) n = refl
found_numbers depth renamed (within.Site w) finding.Gathered n = refl
found_numbers depth renamed within.Past what n = refl
found_numbers depth renamed (within.Object before) what n = refl
found_numbers depth renamed within.Beside what n = refl

judged_does : (wants : Wants) (folder : Folder) (items : List Item) (a b : CheckState) → Judges wants (folder.path, folder.prefix) folder.here items a b
    → Does (steps_judged wants folder items) a b × (b.failed ≡ a.failed)
    × (hold b ≡ found_hold folder.here (finding_of wants.form folder.here items) (hold a))
judged_does wants folder items a b (m, judges, n, places, cuts) =
    let what = finding_of wants.form folder.here items in
    let depth = depth_of folder.path in
    let renamed = is_renamed folder.path items what in
    let start = counting (with_folder depth renamed folder.here what) a in
    let trouble = told_if folder.path (folder_trouble folder.here what folder.path) in
    let place = told_if folder.path (reserved_trouble wants.layout folder.prefix what folder.path) in
    let width = told_if folder.path (width_trouble folder.path items) in
    let first = told_does folder.path (folder_trouble folder.here what folder.path) start m judges in
    let second = told_does folder.path (reserved_trouble wants.layout folder.prefix what folder.path) m n places in
    let third = told_does folder.path (width_trouble folder.path items) n b cuts in
    let later = does_both trouble (place ++ width) start m b first.0 (does_both place width m n b second.0 third.0) in (
      does_both (JudgesStep depth renamed folder.here what ∷ []) (trouble ++ (place ++ width)) a start b
          (does_counting (JudgesStep depth renamed folder.here what) a (with_folder depth renamed folder.here what) refl refl) later,
      third.1.0 ∙ second.1.0 ∙ first.1.0,
      third.1.1 ∙ second.1.1 ∙ first.1.1 ∙ found_numbers depth renamed folder.here what a.numbers,
    )

-- then the object at hand is that of the folder, or the one that it is
found_then : (here : Within) (what : Finding) (site : ℕ) (own mine : Bool) (a b : CheckState) (held : Held)
    → (is_site here ≡ false → what ≡ finding.Interior) → (is_site here ≡ false → mine ≡ own) → Holds own here a held
    → (mine ≡ true → hold b ≡ found_hold here what (hold a)) → Holds mine (holder here what site) b (held_found what held)
found_then (within.Site w) finding.Interior site own mine a b held none same holds found = λ e. tt
found_then (within.Site w) (finding.Skip why) site own mine a b held none same holds found = λ e. tt
found_then (within.Site w) (finding.Candidate i) site own mine a b held none same holds found = λ e. tt
found_then (within.Site w) finding.Gathered site own mine a b held none same holds found = λ e. found e
found_then (within.Object before) finding.Interior site own mine a b held none same holds found = λ e. found e ∙ holds (sym (same refl) ∙ e)
found_then (within.Object before) (finding.Skip why) site own mine a b held none same holds found = absurd (let is = none refl in cc)
found_then (within.Object before) (finding.Candidate i) site own mine a b held none same holds found = absurd (let is = none refl in cc)
found_then (within.Object before) finding.Gathered site own mine a b held none same holds found = absurd (let is = none refl in cc)
found_then within.Past finding.Interior site own mine a b held none same holds found = λ e. tt
found_then within.Past (finding.Skip why) site own mine a b held none same holds found = λ e. tt
found_then within.Past (finding.Candidate i) site own mine a b held none same holds found = λ e. tt
found_then within.Past finding.Gathered site own mine a b held none same holds found = absurd (let is = none refl in cc)
found_then within.Beside finding.Interior site own mine a b held none same holds found = λ e. tt
found_then within.Beside (finding.Skip why) site own mine a b held none same holds found = λ e. tt
found_then within.Beside (finding.Candidate i) site own mine a b held none same holds found = λ e. tt
found_then within.Beside finding.Gathered site own mine a b held none same holds found = absurd (let is = none refl in cc)

-- a folder is judged, where what lies in it is the share's own
pub judged_comes : (wants : Wants) (folder : Folder) (items : List Item) (own mine : Bool) (held : Held) (a b : CheckState)
    → (is_site folder.here ≡ false → mine ≡ own)
    → Where mine (Judges wants (folder.path, folder.prefix) folder.here items) a b
    → Comes (steps_if mine (steps_judged wants folder items)) (Holds own folder.here a held)
    (Holds mine (holder_in folder (finding_of wants.form folder.here items)) b (held_found (finding_of wants.form folder.here items) held)) a b
judged_comes wants folder items own true held a b same judges =
    let does = judged_does wants folder items a b judges in
    let stays = does.1 in (
      omega (arith, stays),
      (λ still few holds. (
        does.0,
        does.1,
        found_then folder.here (finding_of wants.form folder.here items) (length (joined folder.path)) own true a b held
            (none_found wants.form folder.here items) same holds (λ e. does.2),
      )),
    )
judged_comes wants folder items own false held a b same is =
    passed (Holds own folder.here a held) _ a b is (λ e. absurd (cc))

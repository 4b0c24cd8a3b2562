-- A step of a check that told nothing met no trouble, and the source failed at nothing in it.
use Rattle.std.proofs.Common.{
  ◌≡◌,
  ◌<◌,
  ◌∙◌,
  ◌==◌,
  ◌+◌,
  ◌^◌,
  ℕ,
  Bool,
  true,
  false,
  cond,
  min,
  length,
  List,
  [],
  ◌∷◌,
  ◌++◌,
  Option,
  None,
  Some,
  inl,
  inr,
  refl,
  sym,
  ap,
  subst,
  arith,
}
use Rattle.std.proofs.lemmas.Bool.{ltb-false}
use Rattle.std.specs.Prelude.{◌⊎◌, nat_lt}
use Rattle.pt_check.specs.Clean.{AreCleanBytes, IsCleanEntry, IsCleanFolder}
use Rattle.pt_check.specs.Counting.{with_bytes, with_entry, with_object_begun, with_opened}
use Rattle.pt_check.specs.Goes.{GoesBy}
use Rattle.pt_check.specs.Lines.{Told}
use Rattle.pt_check.specs.Visits.{
  Begins,
  Enters,
  Folder,
  GoesAt,
  Judges,
  Meets,
  Opens,
  Puts,
  Says,
  CheckState,
  Tells,
  TellsEach,
  TellsFailure,
  TellsIf,
  TellsUnlisted,
  count_trouble,
  counting,
  depth_of,
  ended,
  entry_trouble,
  finding_of,
  folder_trouble,
  holder_in,
  is_renamed,
  meeting,
  reserved_trouble,
  room_trouble,
  size_trouble,
  with_folder,
  with_found,
}
use Rattle.pt_check.specs.Width.{width_trouble}
use Rattle.pt_check.specs.declared.line_kind.LineKind.{LineKind}
use Rattle.pt_check.specs.declared.numbers.Numbers.{Numbers}
use Rattle.pt_check.specs.declared.trouble.Trouble.{Trouble}
use Rattle.pt_check.specs.declared.trouble.Trouble.TheVariants as trouble
use Rattle.pt_check.specs.declared.wants.Wants.{Wants}
use Rattle.pt_check.specs.declared.within.Within.{Within}
use Rattle.pt_check.specs.declared.within.Within.TheVariants as within
use Rattle.pt_name.specs.Share.{whole}
use Rattle.pt_tree.specs.Failures.{greatest_count}
use Rattle.pt_tree.specs.Listing.{Item}
use Rattle.pt_tree.specs.Path.{Path, joined}
use Rattle.pt_tree.specs.declared.kind.Kind.{Kind}
use Rattle.pt_tree.specs.declared.kind.Kind.TheVariants as kind
use Rattle.pt_walk.specs.declared.site.Finding.{Finding}
use Rattle.pt_walk.specs.declared.site.Finding.TheVariants as finding
use Rattle.pt_check.proofs.FilesHeld.{Fills, HeldAt, held_by, judged_held, met_fills, one_of}

-- how many lines told of something
abbrev pub told_by : CheckState → ℕ
told_by s = s.numbers.told

-- a line is counted
line_told : (n : ℕ) → min (n + 1) greatest_count ≡ 0 → ⊥
line_told n e = omega (arith, e)

pub puts_told : {kind : LineKind} (text : List ℕ) (a b : CheckState) → Puts kind text a b → told_by b ≡ 0 → ⊥
puts_told text a b puts nothing = line_told (told_by a) (sym (ap (λ (n : Numbers). n.told) puts.numbers) ∙ nothing)

pub fails_told : (path : Path) (a b : CheckState) → TellsFailure path a b → told_by b ≡ 0 → ⊥
fails_told path a b (m, same, rose, held, numbers, (reason, puts)) nothing = puts_told _ m b puts nothing

each_told : (path : Path) (reasons : List (List ℕ)) (a b : CheckState) → TellsEach path reasons a b → told_by b ≡ 0 → told_by a ≡ 0
each_told path [] a b same nothing = ap told_by (sym same) ∙ nothing
each_told path (reason ∷ more) a b (m, puts, each) nothing = absurd (puts_told _ a m puts (each_told path more m b each nothing))

pub unlisted_told : (says : Says) (path : Path) (part : Bool) (a b : CheckState) → TellsUnlisted says path part a b → told_by b ≡ 0 → ⊥
unlisted_told says path part a b (m, same, rose, held, numbers, (s, still, more, holds, counts, reason, further, (n, puts, each), said)) nothing =
    puts_told _ s n puts (each_told path further n b each nothing)

-- where nothing was told there was no trouble
pub tells_if : (path : Path) (o : Option Trouble) (a b : CheckState) → TellsIf path o a b → told_by b ≡ 0 → (o ≡ None) × (b ≡ a)
tells_if path None a b same nothing = (refl, same)
tells_if path (Some it) a b puts nothing = absurd (puts_told _ a b puts nothing)

-- where its source fails, and how often it failed
abbrev pub source_of : CheckState → Option (Path → Bool) × ℕ
source_of s = (s.failing, s.failed)

-- of a step: nothing had been told before, and the source failed at nothing in it
abbrev pub Quiet : CheckState → CheckState → Type 0
Quiet a b = (told_by a ≡ 0) × (source_of b ≡ source_of a)

-- what didn't fail before doesn't now
pub still_goes : (path : Path) (a b : CheckState) → source_of b ≡ source_of a → GoesAt path a → GoesAt path b
still_goes path a b same goes = subst (λ (w : Option (Path → Bool)). GoesBy w path) (sym (ap (λ (x : Option (Path → Bool) × ℕ). x.0) same)) goes

-- what changes numbers, and not that of the lines
counted : (change : Numbers → Numbers) (a b : CheckState) → ((n : Numbers) → (change n).told ≡ n.told) → b ≡ counting change a → told_by b ≡ 0 → Quiet a b
counted change a b keeps same nothing = (sym (keeps a.numbers) ∙ sym (ap told_by same) ∙ nothing, ap source_of same)

entry_told : (k : Kind) (bytes : ℕ) (n : Numbers) → (with_entry k bytes n).told ≡ n.told
entry_told kind.File bytes n = refl
entry_told kind.Dir bytes n = refl
entry_told kind.Other bytes n = refl

pub met : (wants : Wants) (folder : Folder) (seen : Finding) (name : List ℕ) (k : Kind) (a m : CheckState)
    → Meets wants (folder.path ++ name ∷ []) (holder_in folder seen) (name, k) a m → told_by m ≡ 0
    → IsCleanEntry wants folder seen name k × Quiet a m × Fills (holder_in folder seen) (one_of k) a m
met wants folder seen name k a m (s, crowds, n, tells, fits) nothing =
    let path = folder.path ++ name ∷ [] in
    let here = holder_in folder seen in
    let bytes = length (joined path) in
    let room = tells_if path (room_trouble wants.room here k bytes) n m fits nothing in
    let last : told_by n ≡ 0 = ap told_by (sym room.1) ∙ nothing in
    let clean = tells_if path (entry_trouble here name k bytes) s n tells last in
    let before : told_by s ≡ 0 = ap told_by (sym clean.1) ∙ last in
    let few = tells_if path (count_trouble here k a.numbers.held) (counting (with_entry k bytes) a) s crowds before in
    let same = room.1 ∙ clean.1 ∙ few.1 in
    ((clean.0, room.0), counted (with_entry k bytes) a m (entry_told k bytes) same nothing, met_fills here k bytes a m few.0 same)

-- of a file that was opened
abbrev Opened : Bool → Path → List ℕ → CheckState → CheckState → Type 0
Opened reads path bytes a b = AreCleanBytes reads bytes × Quiet a b × (b.numbers.held ≡ a.numbers.held) × (reads ≡ true → GoesAt path a)

-- one that isn't too large has fewer bytes than are counted
few_bytes : (reads : Bool) (bytes : List ℕ) → AreCleanBytes reads bytes → reads ≡ true → length bytes < greatest_count
few_bytes false bytes clean reads = absurd (cc)
few_bytes true bytes clean reads = by (nat_lt (2 ^ 43) (length bytes)) refl clean
  where
    by : (t : Bool) → nat_lt (2 ^ 43) (length bytes) ≡ t → cond t (Some trouble.Large) None ≡ None → length bytes < greatest_count
    by true is e = absurd (cc)
    by false is e = let few = ltb-false (2 ^ 43) (length bytes) is in omega (arith, few)

bytes_told : (here : Within) (bytes : ℕ) (n : Numbers) → (with_bytes here bytes n).told ≡ n.told
bytes_told (within.Object before) bytes n = refl
bytes_told (within.Site at) bytes n = refl
bytes_told within.Past bytes n = refl
bytes_told within.Beside bytes n = refl

bytes_held : (here : Within) (bytes : ℕ) (n : Numbers) → (with_bytes here bytes n).held ≡ n.held
bytes_held (within.Object before) bytes n = refl
bytes_held (within.Site at) bytes n = refl
bytes_held within.Past bytes n = refl
bytes_held within.Beside bytes n = refl

opened_told : (reads : Bool) (here : Within) (bytes : ℕ) (n : Numbers) → (with_opened reads here bytes n).told ≡ n.told
opened_told true here bytes n = bytes_told here bytes n
opened_told false here bytes n = bytes_told here bytes n

opened_held : (reads : Bool) (here : Within) (bytes : ℕ) (n : Numbers) → (with_opened reads here bytes n).held ≡ n.held
opened_held true here bytes n = bytes_held here bytes n
opened_held false here bytes n = bytes_held here bytes n

pub opened : (reads : Bool) (path : Path) (here : Within) (bytes : List ℕ) (a b : CheckState) → Opens reads path here bytes a b → told_by b ≡ 0
    → Opened reads path bytes a b
opened reads path here bytes a b (inl (tells, goes)) nothing =
    let count = cond reads (length bytes) 0 in
    let clean = tells_if path (size_trouble count) (counting (with_opened reads here count) a) b tells nothing in (
      clean.0,
      counted (with_opened reads here count) a b (opened_told reads here count) clean.1 nothing,
      ap held_by clean.1 ∙ opened_held reads here count a.numbers,
      (λ is. goes is (few_bytes reads bytes clean.0 is)),
    )
opened reads path here bytes a b (inr fails) nothing = absurd (fails_told path a b fails nothing)

found_told : (depth : ℕ) (seen : Finding) (n : Numbers) → (with_found depth seen n).told ≡ n.told
found_told depth finding.Interior n = refl
found_told depth (finding.Skip why) n = refl
found_told depth (finding.Candidate i) n = refl
found_told depth finding.Gathered n = refl

folder_told : (depth : ℕ) (renamed : Bool) (here : Within) (seen : Finding) (n : Numbers) → (with_folder depth renamed here seen n).told ≡ n.told
folder_told depth renamed (within.Site at) seen n = found_told depth seen n
folder_told depth renamed within.Past seen n = refl
folder_told depth renamed (within.Object before) seen n = refl
folder_told depth renamed within.Beside seen n = refl

judged : (wants : Wants) (folder : Folder) (items : List Item) (a m : CheckState) → Judges wants (folder.path, folder.prefix) folder.here items a m
    → told_by m ≡ 0
    → ((folder_trouble folder.here (finding_of wants.form folder.here items) folder.path ≡ None)
    × (reserved_trouble wants.layout folder.prefix (finding_of wants.form folder.here items) folder.path ≡ None)
    × (width_trouble folder.path items ≡ None)) × Quiet a m
    × HeldAt (finding_of wants.form folder.here items) a m
judged wants folder items a m (n, judges, o, places, cuts) nothing =
    let what = finding_of wants.form folder.here items in
    let depth = depth_of folder.path in
    let renamed = is_renamed folder.path items what in
    let cut = tells_if folder.path (width_trouble folder.path items) o m cuts nothing in
    let later : told_by o ≡ 0 = ap told_by (sym cut.1) ∙ nothing in
    let free = tells_if folder.path (reserved_trouble wants.layout folder.prefix what folder.path) n o places later in
    let before : told_by n ≡ 0 = ap told_by (sym free.1) ∙ later in
    let clean = tells_if folder.path (folder_trouble folder.here what folder.path) (counting (with_folder depth renamed folder.here what) a) n judges before in
    let same = cut.1 ∙ free.1 ∙ clean.1 in (
      (clean.0, free.0, cut.0),
      counted (with_folder depth renamed folder.here what) a m (folder_told depth renamed folder.here what) same nothing,
      judged_held wants.form depth renamed folder.here items a m (ap held_by same),
    )

-- of all there is no list
meets_all : (at : Path × List ℕ) (what : Finding) (a : CheckState) → meeting whole at what a ≡ a
meets_all at finding.Interior a = refl
meets_all at (finding.Skip why) a = refl
meets_all at (finding.Candidate i) a = refl
meets_all at finding.Gathered a = refl

-- of a folder that was entered
abbrev Entered : Wants → Folder → List Item → (CheckState → Type 0) → CheckState → CheckState → Type 0
Entered wants folder items P a b = IsCleanFolder wants folder items × Quiet a b
    × ((m : CheckState) × HeldAt (finding_of wants.form folder.here items) a m × P m) × GoesAt folder.path a

pub entered : (says : Says) (wants : Wants) (folder : Folder) (items : List Item) (visits : Finding → CheckState → CheckState → Type 0)
    (P : Finding → CheckState → Type 0) (a b : CheckState)
    → ((seen : Finding) (m : CheckState) → visits seen m b → Quiet m b × P seen m)
    → Enters says whole wants true folder items visits a b → told_by b ≡ 0 → Entered wants folder items (P (finding_of wants.form folder.here items)) a b
entered says wants folder items visits P a b on enters nothing = by (folder.left == 0) refl enters
  where
    by : (t : Bool) → (folder.left == 0) ≡ t → cond t (Tells (Told folder.path trouble.Deep) a b)
        (TellsUnlisted says folder.path false a b
        ⊎ ((seen : Finding) × (m : CheckState) × Begins says whole wants true folder items seen a m × visits seen m b))
        → Entered wants folder items (P (finding_of wants.form folder.here items)) a b
    by true is tells = absurd (puts_told _ a b tells nothing)
    by false is (inl fails) = absurd (unlisted_told says folder.path false a b fails nothing)
    by false is (inr (seen, m, inl (judges, seen_is, goes), visited)) =
        let rest = on seen m visited in
        let what = finding_of wants.form folder.here items in
        let met : Judges wants (folder.path, folder.prefix) folder.here items a m =
        subst (λ (s : CheckState). Judges wants (folder.path, folder.prefix) folder.here items s m) (meets_all (folder.path, folder.prefix) what a) judges in
        let first = judged wants folder items a m met rest.0.0 in
        ((is, first.0.0, first.0.1, first.0.2), (first.1.0, rest.0.1 ∙ first.1.1), (m, first.2, subst (λ (f : Finding). P f m) seen_is rest.1), goes)
    by false is (inr (seen, m, inr (tells, seen_is), visited)) =
        let rest = on seen m visited in
        absurd (unlisted_told says folder.path true a m tells rest.0.0)

pub begun_told : (t : Bool) (n : Numbers) → (cond t (with_object_begun n) n).told ≡ n.told
begun_told true n = refl
begun_told false n = refl

pub ended_told : (here : Within) (before n : Numbers) → (ended here before n).told ≡ n.told
ended_told (within.Object bytes) before n = refl
ended_told (within.Site at) before n = refl
ended_told within.Past before n = refl
ended_told within.Beside before n = refl

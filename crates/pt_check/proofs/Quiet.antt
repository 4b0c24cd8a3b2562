-- What a check that told nothing has met.
use Rattle.std.proofs.Common.{
  ◌≡◌,
  ◌≤◌,
  ◌∙◌,
  ◌+◌,
  ℕ,
  suc,
  Bool,
  true,
  false,
  cond,
  length,
  List,
  [],
  ◌∷◌,
  ◌++◌,
  Option,
  None,
  Some,
  inl,
  inr,
  refl,
  sym,
  ap,
  subst,
  arith,
}
use Rattle.std.proofs.lemmas.Bool.{ltb-false}
use Rattle.std.proofs.lemmas.List.{length-take, take_all}
use Rattle.std.specs.Option.{option_and_then, option_map}
use Rattle.std.specs.Prelude.{◌⊎◌, nat_lt, take, unwrap_or}
use Rattle.std.specs.Str.{is_utf8}
use Rattle.pt_plan.proofs.FoundKinds.{kind_listed}
use Rattle.pt_check.proofs.Goes.{GoesIn}
use Rattle.pt_check.specs.Clean.{IsClean, IsCleanFolder, IsCleanPrefix, IsCleanStore, below_root, file_count}
use Rattle.pt_check.specs.Lines.{Told}
use Rattle.pt_check.specs.Prefix.{prefix_trouble, trouble_of_prefix}
use Rattle.pt_check.specs.Visits.{
  Checks,
  Finds,
  Folder,
  GoesAt,
  LooksAll,
  ReadsPrefix,
  Says,
  CheckState,
  Tells,
  TellsUnlisted,
  Visits,
  VisitsFolder,
  begun,
  counting,
  ended,
  finding_of,
  folder_in,
  holder_in,
  missing,
  prefix_path,
  root_folder,
  starting,
}
use Rattle.pt_check.specs.Within.{starts_object}
use Rattle.pt_check.specs.declared.numbers.Numbers.{Numbers}
use Rattle.pt_check.specs.declared.trouble.Trouble.TheVariants as trouble
use Rattle.pt_check.specs.declared.wants.Wants.{Wants}
use Rattle.pt_name.specs.Prefix.{prefix_refusal, without_line_ends}
use Rattle.pt_name.specs.Share.{whole}
use Rattle.pt_name.specs.declared.prefix.PrefixFault.{PrefixFault}
use Rattle.pt_name.specs.declared.prefix.PrefixFault.TheVariants as fault
use Rattle.pt_plan.specs.Store.{pairtree_root, prefix_file, prefix_in, prefix_of, version_file}
use Rattle.pt_plan.specs.TurnStart.{is_dir_kind, is_file_kind, kind_in}
use Rattle.pt_tree.specs.Forest.{Forest, Node, File, Dir, Other, none, file, other, dir, as_file, find, kind_of, listing_of, node_at}
use Rattle.pt_tree.specs.Path.{Path}
use Rattle.pt_tree.specs.declared.kind.Kind.{Kind}
use Rattle.pt_tree.specs.declared.kind.Kind.TheVariants as kind
use Rattle.pt_walk.specs.Left.{bytes_at}
use Rattle.pt_walk.specs.declared.site.Finding.{Finding}
use Rattle.pt_check.proofs.FilesHeld.{
  Fills,
  count_in,
  dir_fills,
  fill_as,
  fill_on,
  fills_from,
  has_room,
  has_room_for,
  held_by,
  inside_fills,
  no_fill,
}
use Rattle.pt_check.proofs.QuietSteps.{
  Quiet,
  begun_told,
  ended_told,
  entered,
  fails_told,
  met,
  opened,
  puts_told,
  source_of,
  still_goes,
  tells_if,
  told_by,
  unlisted_told,
}

-- where files are read whole, its source fails at no directory and no file of a folder at this path
abbrev Goes : Wants → Path → Forest → CheckState → Type 0
Goes wants path tree s = wants.reads ≡ true → GoesIn s.failing path tree

still_goes_in : (wants : Wants) (path : Path) (tree : Forest) (a b : CheckState) → source_of b ≡ source_of a → Goes wants path tree a → Goes wants path tree b
still_goes_in wants path tree a b same goes reads =
    subst (λ (w : Option (Path → Bool)). GoesIn w path tree) (sym (ap (λ (x : Option (Path → Bool) × ℕ). x.0) same)) (goes reads)

-- of the entries that were visited
abbrev Visited : Wants → Folder → Finding → Forest → CheckState → CheckState → Type 0
Visited wants folder seen tree a b = Quiet a b × IsClean wants folder seen tree × Fills (holder_in folder seen) (count_in folder seen tree) a b
    × Goes wants folder.path tree b

quiet : (says : Says) (wants : Wants) (folder : Folder) (seen : Finding) (tree : Forest) (a b : CheckState) → Visits says whole wants true folder seen tree a b
    → told_by b ≡ 0
    → Visited wants folder seen tree a b
quiet says wants folder seen none a b same nothing =
    ((ap told_by (sym same) ∙ nothing, ap source_of same), tt, no_fill (holder_in folder seen) a b (ap held_by same), λ reads. tt)
quiet says wants folder seen (file name bytes after) a b (m, meets, n, opens, rest) nothing =
    let here = holder_in folder seen in
    let count = count_in folder seen after in
    let later = quiet says wants folder seen after n b rest nothing in
    let opening = opened wants.reads (folder.path ++ name ∷ []) here bytes m n opens later.0.0 in
    let meeting = met wants folder seen name kind.File a m meets opening.1.0 in (
      (meeting.1.0, later.0.1 ∙ opening.1.1 ∙ meeting.1.1),
      (meeting.0, opening.0, later.1),
      fill_as here (1 + count) (suc count) a b (omega arith)
          (fill_on here 1 count a m b meeting.2 (fills_from here count m n b opening.2 later.2)),
      (λ reads. (still_goes (folder.path ++ name ∷ []) m b (later.0.1 ∙ opening.1.1) (opening.3 reads), later.3 reads)),
    )
quiet says wants folder seen (other name after) a b (m, meets, rest) nothing =
    let here = holder_in folder seen in
    let count = count_in folder seen after in
    let later = quiet says wants folder seen after m b rest nothing in
    let meeting = met wants folder seen name kind.Other a m meets later.0.0 in (
      (meeting.1.0, later.0.1 ∙ meeting.1.1),
      (meeting.0, later.1),
      fill_as here (0 + count) count a b (omega arith) (fill_on here 0 count a m b meeting.2 later.2),
      later.3,
    )
quiet says wants folder seen (dir name inside after) a b (m, meets, n, enters, rest) nothing =
    let it = folder_in folder seen name in
    let above = holder_in folder seen in
    let items = listing_of inside in
    let count = file_count inside in
    let start = counting (begun it.here above) m in
    let later = quiet says wants folder seen after (counting (ended it.here m.numbers) n) b rest nothing in
    let ends : told_by n ≡ 0 = sym (ended_told it.here m.numbers n.numbers) ∙ later.0.0 in
    let entering = entered says wants it items (λ f. Visits says whole wants true it f inside) (λ f s. IsClean wants it f inside
    × Fills (holder_in it f) (count_in it f inside) s n × Goes wants it.path inside n) start n
    (λ f s visited. let all = quiet says wants it f inside s n visited ends in (all.0, (all.1, all.2, all.3))) enters
    ends in
    let begins : told_by m ≡ 0 = sym (begun_told (starts_object it.here above) m.numbers) ∙ entering.1.0 in
    let meeting = met wants folder seen name kind.Dir a m meets begins in
    let within_it = entering.2 in
    let fills = inside_fills wants.form it.path it.prefix it.here it.left items inside start within_it.0 n within_it.1 within_it.2.1 in
    let room = has_room_for wants.form it.path it.prefix it.here it.left items inside start within_it.0 n within_it.1 within_it.2.1 in (
      (meeting.1.0, later.0.1 ∙ entering.1.1 ∙ meeting.1.1),
      (meeting.0, entering.0, ((λ starts. has_room it.here above count m n fills starts), room), within_it.2.0, later.1),
      dir_fills it.here above count (count_in folder seen after) a m n b meeting.2 fills later.2,
      (λ reads. (
        still_goes it.path start b (later.0.1 ∙ entering.1.1) entering.3,
        still_goes_in wants it.path inside n b later.0.1 within_it.2.2 reads,
        later.3
            reads,
      )),
    )

-- a prefix has at most 1024 bytes
prefix_short : (bytes : List ℕ) → prefix_refusal bytes ≡ None → length bytes ≤ 1024
prefix_short bytes good = by (nat_lt 1024 (length bytes)) refl good
  where
    by : (long : Bool) → nat_lt 1024 (length bytes) ≡ long → cond long (Some fault.TooLong) (cond (is_utf8 (without_line_ends bytes)) None (Some fault.NotUtf8))
        ≡ None
        → length bytes ≤ 1024
    by true is good = absurd (cc)
    by false is good = ltb-false 1024 (length bytes) is

no_refusal : (refused : Option PrefixFault) (prefix : List ℕ) → trouble_of_prefix refused prefix ≡ None → refused ≡ None
no_refusal None prefix silent = refl
no_refusal (Some why) prefix silent = absurd (cc)

-- where there is nothing to tell of its front it is short
front_short : (bytes : List ℕ) → prefix_trouble (take 8192 bytes) ≡ None → length (take 8192 bytes) ≤ 1024
front_short bytes silent = prefix_short (take 8192 bytes) (no_refusal (prefix_refusal (take 8192 bytes)) (without_line_ends (take 8192 bytes)) silent)

-- so the file was read whole
read_whole : (bytes : List ℕ) → prefix_trouble (take 8192 bytes) ≡ None → take 8192 bytes ≡ bytes
read_whole bytes silent =
    let few = front_short bytes silent in
    let long = length-take 8192 bytes in
    take_all 8192 bytes (omega (arith, few, long))

-- what was met at the name of the prefix
abbrev ReadPrefix : Option Node → Option Kind → List ℕ → List ℕ → CheckState → CheckState → Type 0
ReadPrefix o k bytes prefix a b = IsCleanPrefix k bytes × Quiet a b × (prefix ≡ prefix_in o) × (k ≡ Some kind.File → GoesAt prefix_path a)

-- the prefix that is known is that of a run
prefix_read : (o : Option Node) (k : Option Kind) (bytes prefix : List ℕ) (a b : CheckState) → k ≡ option_map kind_of o
    → bytes ≡ unwrap_or (option_and_then as_file o) []
    → ReadsPrefix true k bytes prefix a b → told_by b ≡ 0 → ReadPrefix o k bytes prefix a b
prefix_read None None bytes prefix a b is all (same, none_is) nothing = (tt, (ap told_by (sym same) ∙ nothing, ap source_of same), none_is, (λ e. absurd (cc)))
prefix_read (Some node) None bytes prefix a b is all reads nothing = absurd (cc)
prefix_read (Some (File held)) (Some kind.File) bytes prefix a b is all (inl (tells, known, goes)) nothing =
    let clean = tells_if prefix_path (prefix_trouble (take 8192 bytes)) a b tells nothing in
    let few = front_short bytes clean.0 in (
      clean.0,
      (ap told_by (sym clean.1) ∙ nothing, ap source_of clean.1),
      known ∙ ap (λ (l : List ℕ). prefix_in (Some (File l))) (read_whole bytes clean.0 ∙ all),
      (λ e. goes (omega (arith, few))),
    )
prefix_read None (Some kind.File) bytes prefix a b is all (inl tells) nothing = absurd (cc)
prefix_read (Some (Dir inside)) (Some kind.File) bytes prefix a b is all (inl tells) nothing = absurd (cc)
prefix_read (Some Other) (Some kind.File) bytes prefix a b is all (inl tells) nothing = absurd (cc)
prefix_read o (Some kind.File) bytes prefix a b is all (inr fails) nothing = absurd (fails_told prefix_path a b fails.0 nothing)
prefix_read o (Some kind.Dir) bytes prefix a b is all puts nothing = absurd (puts_told _ a b puts.0 nothing)
prefix_read o (Some kind.Other) bytes prefix a b is all puts nothing = absurd (puts_told _ a b puts.0 nothing)

is_there : (b : Bool) → missing b ≡ None → b ≡ true
is_there true e = refl
is_there false e = absurd (cc)

bytes_found : (o : Option Node) → unwrap_or (option_and_then as_file (option_and_then (λ n. node_at n []) o)) [] ≡ unwrap_or (option_and_then as_file o) []
bytes_found None = refl
bytes_found (Some (File bytes)) = refl
bytes_found (Some (Dir inside)) = refl
bytes_found (Some Other) = refl

-- what was listed and read of a store, where its files are read whole
pub record GoesInStore (wants : Wants) (tree : Forest) (s : CheckState) : Type 0 where
  pub top : GoesAt [] s
  pub prefix : kind_in (listing_of tree) prefix_file ≡ Some kind.File → GoesAt prefix_path s
  pub root : GoesAt (pairtree_root ∷ []) s
  pub inside : Goes wants (pairtree_root ∷ []) (below_root tree) s

-- what such a check has met
pub store_met : (says : Says) (wants : Wants) (tree : Forest) (numbers : Numbers) (a b : CheckState) → Checks says wants tree numbers a b → numbers.told ≡ 0
    → IsCleanStore wants tree × (b.failed ≡ a.failed) × GoesInStore wants tree a
store_met says wants tree numbers a b checks nothing =
    let it = by checks.whole checks.first checks.looks in
    let goes = it.2 in (
      it.0,
      it.1,
      record { top = goes.top; prefix = goes.prefix; root = goes.root; inside = still_goes_in wants root_path inside start a refl goes.inside },
    )
  where
    start : CheckState
    start = starting whole a

    last : CheckState
    last = checks.last

    quiet_last : told_by last ≡ 0
    quiet_last = sym (ap (λ (n : Numbers). n.told) checks.numbers_are) ∙ nothing

    inside : Forest
    inside = below_root tree

    seen : List ℕ → Finding
    seen prefix = finding_of wants.form (root_folder prefix).here (listing_of inside)

    AreClean : List ℕ → Type 0
    AreClean prefix = IsCleanFolder wants (root_folder prefix) (listing_of inside) × IsClean wants (root_folder prefix) (seen prefix) inside

    root_path : Path
    root_path = pairtree_root ∷ []

    visited : (prefix : List ℕ) (m : CheckState) (t : Bool) → cond t (VisitsFolder says whole wants true (root_folder prefix) inside m last)
        (Tells (Told root_path trouble.Missing) m last)
        → (t ≡ true) × AreClean prefix × Quiet m last × GoesAt root_path m × Goes wants root_path inside last
    visited prefix m true enters =
        let root = root_folder prefix in
        let all = entered says wants root (listing_of inside) (λ h. Visits says whole wants true root h inside) (λ h s. IsClean wants root h inside
        × Goes wants root_path inside last) m last
        (λ h s visits. let it = quiet says wants root h inside s last visits quiet_last in (it.0, (it.1, it.3))) enters quiet_last in
        (refl, (all.0, all.2.2.0), all.1, all.3, all.2.2.1)
    visited prefix m false tells = absurd (puts_told _ m last tells quiet_last)

    looked : (first : CheckState) → LooksAll says whole wants true tree first last → IsCleanStore wants tree × Quiet first last × (GoesAt [] first
        → GoesInStore wants tree first)
    looked first (n, prefix, reads, (m, version, rest)) =
        let root = visited prefix m (is_dir_kind (kind_in (listing_of tree) pairtree_root)) rest in
        let marked = tells_if (version_file ∷ []) (missing (is_file_kind (kind_in (listing_of tree) version_file))) n m version root.2.0 in
        let before : told_by n ≡ 0 = ap told_by (sym marked.1) ∙ root.2.0 in
        let read = prefix_read (find tree prefix_file) (kind_in (listing_of tree) prefix_file) (bytes_at tree prefix_path) prefix first n
        (kind_listed tree prefix_file) (bytes_found (find tree prefix_file)) reads before in
        let clean : AreClean (prefix_of tree) = subst AreClean read.2 root.1 in
        let came : source_of m ≡ source_of first = ap source_of marked.1 ∙ read.1.1 in
        let stays : source_of last ≡ source_of first = root.2.1 ∙ came in (
          record {
            prefix = read.0;
            version = is_there (is_file_kind (kind_in (listing_of tree) version_file)) marked.0;
            root = root.0;
            top = clean.0;
            inside = clean.1;
          },
          (read.1.0, stays),
          (λ top. record {
            top = top;
            prefix = read.3;
            root = still_goes root_path m first (sym came) root.3;
            inside = still_goes_in wants root_path inside last first (sym stays) root.4;
          }),
        )

    by : (part : Bool) (first : CheckState) → (Finds says [] part start first × LooksAll says whole wants true tree first last)
        ⊎ TellsUnlisted says [] false start last
        → IsCleanStore wants tree × (b.failed ≡ a.failed) × GoesInStore wants tree start
    by part first (inr fails) = absurd (unlisted_told says [] false start last fails quiet_last)
    by true first (inl ((same, goes), looks)) =
        let it = looked first looks in
        let failed = ap (λ (x : Option (Path → Bool) × ℕ). x.1) it.1.1 in
        (it.0, checks.failed ∙ failed ∙ ap (λ (s : CheckState). s.failed) same, subst (GoesInStore wants tree) same (it.2 (subst (GoesAt []) (sym same) goes)))
    by false first (inl (tells, looks)) =
        let it = looked first looks in
        absurd (unlisted_told says [] true start first tells it.1.0)

-- The steps of a check outside of a folder's entries.
use Rattle.std.proofs.Common.{◌≡◌, ℕ, Bool, true, false, List, [], ◌∷◌, sym, ap, ◌∙◌, subst, cond, inl, inr}
use Rattle.std.specs.Io.KnownBytes.{Appends}
use Rattle.std.specs.Option.{ForSome}
use Rattle.std.specs.Prelude.{Option, Some, take}
use Rattle.pt_check.specs.Lines.{End, Told, line_text}
use Rattle.pt_check.specs.Shares.{is_own_way}
use Rattle.pt_check.specs.Visits.{
  ChecksAll,
  Finds,
  Folder,
  Looks,
  LooksAll,
  ReadsFront,
  ReadsPrefix,
  Says,
  CheckState,
  Tells,
  TellsIf,
  TellsUnlisted,
  VisitsFolder,
  Where,
  missing,
  prefix_path,
  root_folder,
}
use Rattle.pt_check.specs.declared.numbers.Numbers.{Numbers}
use Rattle.pt_check.specs.declared.trouble.Trouble.TheVariants as trouble
use Rattle.pt_check.specs.declared.wants.Wants.{Wants}
use Rattle.pt_check.specs.declared.within.Within.TheVariants as within
use Rattle.pt_name.specs.Share.{Portion}
use Rattle.pt_plan.specs.Store.{pairtree_root, prefix_file, version_file}
use Rattle.pt_plan.specs.TurnStart.{is_dir_kind, is_file_kind, kind_in}
use Rattle.pt_tree.specs.Forest.{Forest, listing_at, listing_of}
use Rattle.pt_tree.specs.Listing.{Item}
use Rattle.pt_tree.specs.Path.{Path}
use Rattle.pt_tree.specs.declared.kind.Kind.{Kind}
use Rattle.pt_tree.specs.declared.kind.Kind.TheVariants as kind
use Rattle.pt_walk.specs.Left.{bytes_at, inside_at}
use Rattle.pt_walk.specs.declared.site.At.TheVariants as at

-- ---- a store

lists_top : (t : Forest) (items : List Item) → listing_at t [] ≡ Some items → items ≡ listing_of t
lists_top t items lists = let same : Some (listing_of t) ≡ Some items = lists in cc

-- what a store must have was looked for, and `pairtree_root` visited
pub looked : (says : Says) (own : Bool) (share over : Portion) (here there : Option Forest) (wants again : Wants) (prefix : List ℕ)
    (items : List Item) (version root : Path) (left : ℕ)
    (a m b : CheckState)
    → ForSome here (λ t. listing_at t [] ≡ Some items) → version ≡ version_file ∷ [] → root ≡ pairtree_root ∷ [] → left ≡ 601
    → Where own (TellsIf version (missing (is_file_kind (kind_in items version_file)))) a m → is_dir_kind (kind_in items pairtree_root) ≡ true → there ≡ here
    → again ≡ wants → over ≡ share
    → ForSome there (λ t. VisitsFolder says over again own (record { path = root; prefix = prefix; here = within.Site at.Root; left = left })
    (inside_at t root) m b)
    → ForSome here (λ t. Looks says share wants own prefix t a b)
looked says own share over here there wants again prefix items version root left a m b lists version_is root_is left_is tells is same same_wants
    same_share visits t told =
    let top = lists_top t items (lists t told) in
    let folder : Path → Folder = λ p. record { path = p; prefix = prefix; here = within.Site at.Root; left = 601 } in
    let visited : VisitsFolder says over again own (folder root) (inside_at t root) m b =
    subst (λ (n : ℕ). VisitsFolder says over again own (record { path = root; prefix = prefix; here = within.Site at.Root; left = n }) (inside_at t root) m b)
    left_is
    (visits t (same ∙ told)) in
    let named : VisitsFolder says over again own (root_folder prefix) (inside_at t (pairtree_root ∷ [])) m b =
    subst (λ (p : Path). VisitsFolder says over again own (folder p) (inside_at t p) m b) root_is visited in
    let read : VisitsFolder says over wants own (root_folder prefix) (inside_at t (pairtree_root ∷ [])) m b =
    subst (λ (r : Wants). VisitsFolder says over r own (root_folder prefix) (inside_at t (pairtree_root ∷ [])) m b) same_wants named in
    let whole : VisitsFolder says share wants own (root_folder prefix) (inside_at t (pairtree_root ∷ [])) m b =
    subst (λ (r : Portion). VisitsFolder says r wants own (root_folder prefix) (inside_at t (pairtree_root ∷ [])) m b) same_share read in
    let first : Where own (TellsIf (version_file ∷ []) (missing (is_file_kind (kind_in items version_file)))) a m =
    subst (λ (p : Path). Where own (TellsIf p (missing (is_file_kind (kind_in items version_file)))) a m) version_is tells in (
      m,
      subst (λ (l : List Item). Where own (TellsIf (version_file ∷ []) (missing (is_file_kind (kind_in l version_file)))) a m) top first,
      by (is_dir_kind (kind_in (listing_of t) pairtree_root)) (ap (λ (l : List Item). is_dir_kind (kind_in l pairtree_root)) (sym top) ∙ is) whole,
    )
  where
    by : (d : Bool) → d ≡ true → VisitsFolder says share wants own (root_folder prefix) (inside_at t (pairtree_root ∷ [])) m b
        → cond d (VisitsFolder says share wants own (root_folder prefix) (inside_at t (pairtree_root ∷ [])) m b)
        (Where own (Tells (Told (pairtree_root ∷ []) trouble.Missing)) m b)
    by true d whole = whole
    by false d whole = absurd (cc)

-- the file of the prefix was read
pub prefix_step : (own : Bool) (here : Option Forest) (what : Option Kind) (path : Path) (prefix : List ℕ) (a b : CheckState)
    → what ≡ Some kind.File → path ≡ prefix_path
    → ForSome here (λ t. ReadsFront own path (take 8192 (bytes_at t path)) prefix a b)
    → ForSome here (λ t. ReadsPrefix own what (bytes_at t prefix_path) prefix a b)
prefix_step own here what path prefix a b is path_is reads t told =
    let named : ReadsFront own prefix_path (take 8192 (bytes_at t prefix_path)) prefix a b =
    subst (λ (p : Path). ReadsFront own p (take 8192 (bytes_at t p)) prefix a b) path_is (reads t told) in
    subst (λ (k : Option Kind). ReadsPrefix own k (bytes_at t prefix_path) prefix a b) (sym is) named

-- the prefix was looked at before
pub looked_all : (says : Says) (own : Bool) (share over : Portion) (here there : Option Forest) (wants again : Wants) (prefix : List ℕ)
    (items : List Item) (m n last : CheckState)
    → ForSome here (λ t. listing_at t [] ≡ Some items)
    → there ≡ here → again ≡ wants → over ≡ share
    → ForSome here (λ t. ReadsPrefix own (kind_in items prefix_file) (bytes_at t prefix_path) prefix m n)
    → ForSome there (λ t. Looks says over again own prefix t n last)
    → ForSome here (λ t. LooksAll says share wants own t m last)
looked_all says own share over here there wants again prefix items m n last lists same same_wants same_share reads looks t told =
    let top = lists_top t items (lists t told) in
    let bytes = bytes_at t prefix_path in (
      n,
      prefix,
      subst (λ (l : List Item). ReadsPrefix own (kind_in l prefix_file) bytes prefix m n) top (reads t told),
      subst (λ (r : Wants). Looks says share r own prefix t n last) same_wants
          (subst (λ (r : Portion). Looks says r again own prefix t n last) same_share (looks t (same ∙ told))),
    )

-- then the numbers were told
pub checked : (says : Says) (share over : Portion) (here there : Option Forest) (wants again : Wants) (numbers : Numbers) (whole : Bool)
    (a first last b : CheckState) → there ≡ here
    → again ≡ wants → over ≡ share → Finds says [] whole a first
    → ForSome there (λ t. LooksAll says over again (is_own_way share []) t first last) → numbers ≡ last.numbers → b.failing ≡ last.failing
    → b.failed ≡ last.failed
    → b.numbers ≡ last.numbers → b.unmet ≡ last.unmet
    → Appends last.held b.held (line_text (End last.numbers)) → ForSome here (λ t. ChecksAll says share wants t numbers a b)
checked says share over here there wants again numbers whole a first last b same same_wants same_share finds looks is failing failed counted unmet held t told =
    let all : LooksAll says share again (is_own_way share []) t first last =
    subst (λ (r : Portion). LooksAll says r again (is_own_way share []) t first last) same_share (looks t (same ∙ told)) in
    record {
      last = last;
      first = first;
      whole = whole;
      looks = inl (finds, subst (λ (r : Wants). LooksAll says share r (is_own_way share []) t first last) same_wants all);
      numbers_are = is;
      failing = failing;
      failed = failed;
      counted = counted;
      unmet = unmet;
      held = held;
    }

-- and so they were where the top couldn't be listed
pub checked_nothing : (says : Says) (share : Portion) (here : Option Forest) (wants : Wants) (numbers : Numbers) (a last b : CheckState)
    → TellsUnlisted says [] false a last
    → numbers ≡ last.numbers → b.failing ≡ last.failing → b.failed ≡ last.failed
    → b.numbers ≡ last.numbers → b.unmet ≡ last.unmet → Appends last.held b.held (line_text (End last.numbers))
    → ForSome here (λ t. ChecksAll says share wants t numbers a b)
checked_nothing says share here wants numbers a last b fails is failing failed counted unmet held t told = record {
  last = last;
  first = last;
  whole = false;
  looks = inr fails;
  numbers_are = is;
  failing = failing;
  failed = failed;
  counted = counted;
  unmet = unmet;
  held = held;
}

-- The steps of a walk through a folder.
use Rattle.std.proofs.Common.{
  ◌≡◌,
  ◌≤◌,
  ◌<◌,
  ◌+◌,
  ◌-◌,
  ◌==◌,
  ℕ,
  Bool,
  true,
  false,
  suc,
  zero,
  List,
  [],
  ◌∷◌,
  ◌++◌,
  refl,
  sym,
  ap,
  ◌∙◌,
  subst,
  arith,
  length,
  cond,
  append-nil,
  append_assoc,
}
use Rattle.std.proofs.Math.Nat.{le-min, le_trans, min-le_left, min-le_right}
use Rattle.std.proofs.lemmas.Option.{slice_get_past}
use Rattle.std.specs.Option.{ForSome}
use Rattle.std.specs.Prelude.{IsSome, Option, None, Some, ◌||◌, slice_get}
use Rattle.pt_extra.proofs.Telling.{front_more, front_none, front_on, puts_none, puts_on, texts_on}
use Rattle.pt_extra.proofs.Unlisted.{
  IsBefore,
  Part,
  Whole,
  entries_found,
  told_behind,
  told_found,
  told_not,
  told_part_bare,
  wider,
  wider_before,
}
use Rattle.pt_extra.specs.Findings.{Against, found_at, is_object, is_passed, of_entries, of_folder_by, of_leaf, of_object, of_unnamed}
use Rattle.pt_extra.specs.Inventories.{id_of}
use Rattle.pt_extra.specs.Lines.{ExtraFinding, texts}
use Rattle.pt_extra.specs.Unlisted.{IsOfEntries, IsToldAt, Listed, of_unlisted}
use Rattle.pt_extra.specs.Walk.{Puts, WalkState}
use Rattle.pt_tree.specs.Failures.{HasRisen, greatest_count}
use Rattle.pt_plan.specs.TurnWalk.{in_root}
use Rattle.pt_tree.specs.Forest.{Forest, dir_at, is_proper, listing_at, listing_of}
use Rattle.pt_tree.specs.Listing.{Item}
use Rattle.pt_tree.specs.Log.{AppendsFront}
use Rattle.pt_tree.specs.Path.{Path}
use Rattle.pt_tree.specs.Source.{Reading, tree_in}
use Rattle.pt_tree.specs.declared.kind.Kind.{Kind}
use Rattle.pt_tree.specs.declared.kind.Kind.TheVariants as kind
use Rattle.pt_tree.proofs.Told.{proper_in}
use Rattle.pt_walk.proofs.Ahead.{dir_ahead, dir_stands, file_ahead, inside_lists, nothing_ahead, other_ahead}
use Rattle.pt_walk.specs.Left.{entries_from, inside_at}

-- the next folder stands there
pub next_stands : (told : Option Reading) (path entry : Path) (items : List Item) (place : ℕ) (name : List ℕ) (what : Kind) (there : Option Forest)
    → ForSome told (λ s. is_proper s.tree ≡ true)
    → ForSome (tree_in told) (λ t. listing_at t (in_root path) ≡ Some items) → slice_get items place ≡ Some (name, what) → what ≡ kind.Dir
    → entry ≡ path ++ name ∷ [] → there ≡ tree_in told
    → ForSome there (λ t. IsSome (dir_at t (in_root entry)))
next_stands told path entry items place name what there proper listed at is_dir entry_is there_is tree is =
    let here = sym there_is ∙ is in
    let at_dir : slice_get items place ≡ Some (name, kind.Dir) = at ∙ ap (λ (k : Kind). Some (name, k)) is_dir in
    subst (λ (q : Path). IsSome (dir_at tree (in_root q))) (sym entry_is)
    (dir_stands tree (in_root path) items place name (proper_in told proper tree here) (listed tree here) at_dir)

-- a folder of the destination is one of the storage root, and lists the same
pub listed_at : (tree : Option Forest) (folder path : Path) (items : List Item) → folder ≡ in_root path
    → ForSome tree (λ t. listing_at t folder ≡ Some items) → ForSome tree (λ t. listing_at t (in_root path) ≡ Some items)
listed_at tree folder path items same listed = subst (λ (p : Path). ForSome tree (λ t. listing_at t p ≡ Some items)) same listed

-- ---- a count of failures

-- it has risen where it rose before
pub risen_on : (a b d : ℕ) → HasRisen a b → b ≤ d → HasRisen a d
risen_on a b d rose le = le_trans rose le

-- and where it rises after
pub risen_from : (a b d : ℕ) → a ≤ b → HasRisen b d → HasRisen a d
risen_from a b d le rose =
    le_trans (le-min (le_trans (min-le_left (a + 1) greatest_count) (omega (arith, le))) (min-le_right (a + 1) greatest_count)) rose

-- it has risen later, where it had
abbrev pub Later : ℕ → ℕ → ℕ → Type 0
Later first now last = HasRisen first now → HasRisen first last

-- ---- what is told of a folder

-- what may be told of it is put
pub record IsPut (F : Type 0) (c : Against) (path : Path) (left : ℕ) (inside : Forest) (a b : WalkState) : Type 0 where
  pub told : List ExtraFinding
  pub may : IsToldAt F c path left inside told
  pub puts : Puts told a b

-- a front of it
pub record IsFront (F : Type 0) (c : Against) (path : Path) (left : ℕ) (inside : Forest) (old last : Option (List ℕ)) : Type 0 where
  pub told : List ExtraFinding
  pub may : IsToldAt F c path left inside told
  pub part : AppendsFront old last (texts told)

-- ---- the entries of a folder

-- what may be told of an entry
abbrev OfEntry : Type 0 → Against → Forest → Path → ℕ → List ℕ → Kind → List ExtraFinding → Type 0
OfEntry F c top path left name kind.File e = e ≡ of_leaf c path name kind.File
OfEntry F c top path left name kind.Other e = e ≡ of_leaf c path name kind.Other
OfEntry F c top path left name kind.Dir e =
    (here : List ExtraFinding) × IsToldAt F c (path ++ name ∷ []) (left - 1) (inside_at top (in_root (path ++ name ∷ []))) here
    × (e ≡ cond (is_passed c.job.share path name kind.Dir) [] here)

-- what may be told of the rest begins with it
joins : (F : Type 0) (c : Against) (top : Forest) (path : Path) (left : ℕ) (items : List Item) (place : ℕ) (name : List ℕ) (here : Kind)
    (e more : List ExtraFinding) → is_proper top ≡ true → listing_at top (in_root path) ≡ Some items → slice_get items place ≡ Some (name, here)
    → OfEntry F c top path left name here e → IsOfEntries F c path left (entries_from (place + 1) (inside_at top (in_root path))) more
    → IsOfEntries F c path left (entries_from place (inside_at top (in_root path))) (e ++ more)
joins F c top path left items place name kind.File e more proper listed at is it =
    subst (λ (f : Forest). IsOfEntries F c path left f (e ++ more)) (sym (file_ahead top (in_root path) items place name proper listed at).rest_is)
    (more, it, ap (λ (l : List ExtraFinding). l ++ more) is)
joins F c top path left items place name kind.Other e more proper listed at is it =
    subst (λ (f : Forest). IsOfEntries F c path left f (e ++ more)) (sym (other_ahead top (in_root path) items place name proper listed at))
    (more, it, ap (λ (l : List ExtraFinding). l ++ more) is)
joins F c top path left items place name kind.Dir e more proper listed at (here, may, is) it =
    subst (λ (f : Forest). IsOfEntries F c path left f (e ++ more)) (sym (dir_ahead top (in_root path) items place name proper listed at).rest_is)
    (here, more, may, it, ap (λ (l : List ExtraFinding). l ++ more) is)

-- so many entries of a folder were met, while the count of the root's failures went from the first to the second, and what is told of them is put
-- behind what was told of the folder itself
pub record FoundTo (first now : ℕ) (c : Against) (path : Path) (left : ℕ) (inside : Forest) (place : ℕ) (a b : WalkState) : Type 0 where
  before : List ExtraFinding
  findings : List ExtraFinding
  puts : Puts (before ++ findings) a b
  is_before : IsBefore (HasRisen first now) c path before
  rest : (last : ℕ) → Later first now last → (more : List ExtraFinding) → IsOfEntries (HasRisen first last) c path left (entries_from place inside) more
      → IsOfEntries (HasRisen first last) c path left inside (findings ++ more)

-- what was told of a folder itself by whether it was listed whole
abbrev BeforeBy : Type 0 → Against → Path → Bool → List ExtraFinding → Type 0
BeforeBy F c path true before = before ≡ []
BeforeBy F c path false before = F × (reason : List ℕ) × (further : List (List ℕ)) × (before ≡ of_unlisted path (reason ∷ further))

before_by : {F : Type 0} (c : Against) (path : Path) (whole : Bool) (before : List ExtraFinding) → BeforeBy F c path whole before → IsBefore F c path before
before_by c path true before is = Whole is
before_by c path false before (rose, reason, further, is) = Part rose reason further is

-- and that is put
pub record IsBegun (first now : ℕ) (c : Against) (path : Path) (whole : Bool) (a b : WalkState) : Type 0 where
  before : List ExtraFinding
  puts : Puts before a b
  by_whole : BeforeBy (HasRisen first now) c path whole before

pub begun_whole : (first now : ℕ) (c : Against) (path : Path) (a : WalkState) → IsBegun first now c path true a a
begun_whole first now c path a = record { before = []; puts = puts_none a; by_whole = refl }

pub begun_part : (first now : ℕ) (c : Against) (path : Path) (a b : WalkState) (reason : List ℕ) (further : List (List ℕ)) → HasRisen first now
    → Puts (of_unlisted path (reason ∷ further)) a b → IsBegun first now c path false a b
begun_part first now c path a b reason further rose puts =
    record { before = of_unlisted path (reason ∷ further); puts = puts; by_whole = (rose, reason, further, refl) }

-- no entry was met yet
pub found_none : (first now : ℕ) (c : Against) (path : Path) (left : ℕ) (inside : Forest) (whole : Bool) (a b : WalkState) → IsBegun first now c path whole a b
    → FoundTo first now c path left inside 0 a b
found_none first now c path left inside whole a b it = record {
  before = it.before;
  findings = [];
  puts = subst (λ (l : List ExtraFinding). Puts l a b) (sym (append-nil it.before)) it.puts;
  is_before = before_by c path whole it.before it.by_whole;
  rest = λ last later more of_them. of_them;
}

module _ (c : Against) (top : Forest) (path : Path) (left : ℕ) (items : List Item) (proper : is_proper top ≡ true)
    (listed : listing_at top (in_root path) ≡ Some items) (first now : ℕ) (place : ℕ) (a b : WalkState)
    (to : FoundTo first now c path left (inside_at top (in_root path)) place a b) where
  -- one more was met
  found_more : (later : ℕ) (name : List ℕ) (here : Kind) (e : List ExtraFinding) (d : WalkState) → Later first now later
      → slice_get items place ≡ Some (name, here)
      → ((last : ℕ) → Later first later last → OfEntry (HasRisen first last) c top path left name here e) → Puts e b d
      → FoundTo first later c path left (inside_at top (in_root path)) (place + 1) a d
  found_more later name here e d le at may puts = record {
    before = to.before;
    findings = to.findings ++ e;
    puts = subst (λ (l : List ExtraFinding). Puts l a d) (append_assoc to.before to.findings e) (puts_on (to.before ++ to.findings) e a b d to.puts puts);
    is_before = wider_before c path to.before le to.is_before;
    rest = λ last after more it.
        subst (IsOfEntries (HasRisen first last) c path left (inside_at top (in_root path))) (sym (append_assoc to.findings e more))
        (to.rest last (λ rose. after (le rose)) (e ++ more)
        (joins (HasRisen first last) c top path left items place name here e more proper listed at (may last after) it));
  }

  -- it is passed
  pub found_passed : (name : List ℕ) (here : Kind) → slice_get items place ≡ Some (name, here) → is_passed c.job.share path name here ≡ true
      → FoundTo first now c path left (inside_at top (in_root path)) (place + 1) a b
  found_passed name here at part = found_more now name here [] b (λ rose. rose) at (λ last after. may (HasRisen first last) here part) (puts_none b)
    where
      may : (F : Type 0) (here : Kind) → is_passed c.job.share path name here ≡ true → OfEntry F c top path left name here []
      may F kind.File part = sym (ap (λ (t : Bool). cond t [] (of_unnamed c (path ++ name ∷ []))) part)
      may F kind.Other part = sym (ap (λ (t : Bool). cond t [] (of_unnamed c (path ++ name ∷ []))) part)
      may F kind.Dir part =
          let it = path ++ name ∷ [] in
          let found = of_entries c it (left - 1) (inside_at top (in_root it)) in (
            of_folder_by c it (left - 1) (inside_at top (in_root it)) (of_unnamed c it) found,
            told_found F c it (left - 1) (inside_at top (in_root it)),
            sym (ap
                (λ (t : Bool). cond t [] (of_folder_by c it (left - 1) (inside_at top (in_root it)) (of_unnamed c it) found)) part),
          )

  of_dir : (F : Type 0) (name : List ℕ) (here : Kind) (entry : Path) (e : List ExtraFinding) → here ≡ kind.Dir → is_passed c.job.share path name here ≡ false
      → entry ≡ path ++ name ∷ [] → IsToldAt F c entry (left - 1) (inside_at top (in_root entry)) e → OfEntry F c top path left name here e
  of_dir F name kind.File entry e is part entry_is may = absurd (cc)
  of_dir F name kind.Other entry e is part entry_is may = absurd (cc)
  of_dir F name kind.Dir entry e is part entry_is may = (
    e,
    subst (λ (p : Path). IsToldAt F c p (left - 1) (inside_at top (in_root p)) e) entry_is may,
    sym (ap (λ (t : Bool). cond t [] e) part),
  )

  -- what was told of a folder from a count of failures on, seen from the first
  widened : (later last : ℕ) (entry : Path) (e : List ExtraFinding) → first ≤ now → Later first later last
      → IsToldAt (HasRisen now later) c entry (left - 1) (inside_at top (in_root entry)) e
      → IsToldAt (HasRisen first last) c entry (left - 1) (inside_at top (in_root entry)) e
  widened later last entry e from after may = wider c entry (left - 1) (inside_at top (in_root entry)) e
      (λ rose. after (risen_from first now later from rose)) may

  -- it is a folder
  pub found_dir : (later : ℕ) (name : List ℕ) (here : Kind) (entry : Path) (d : WalkState) → first ≤ now → Later first now later
      → slice_get items place ≡ Some (name, here) → here ≡ kind.Dir → is_passed c.job.share path name here ≡ false → entry ≡ path ++ name ∷ []
      → IsPut (HasRisen now later) c entry (left - 1) (inside_at top (in_root entry)) b d
      → FoundTo first later c path left (inside_at top (in_root path)) (place + 1) a d
  found_dir later name here entry d from le at is part entry_is put =
      found_more later name here put.told d le at
      (λ last after. of_dir (HasRisen first last) name here entry put.told is part entry_is (widened later last entry put.told from after put.may)) put.puts

  leaf_is : (F : Type 0) (name : List ℕ) (here : Kind) (entry : Path) → (here ≡ kind.Dir → ⊥)
      → is_passed c.job.share path name here ≡ false → entry ≡ path ++ name ∷ []
      → OfEntry F c top path left name here (of_unnamed c entry)
  leaf_is F name kind.File entry leaf part entry_is =
      ap (of_unnamed c) entry_is ∙ sym (ap (λ (t : Bool). cond t [] (of_unnamed c (path ++ name ∷ []))) part)
  leaf_is F name kind.Other entry leaf part entry_is =
      ap (of_unnamed c) entry_is ∙ sym (ap (λ (t : Bool). cond t [] (of_unnamed c (path ++ name ∷ []))) part)
  leaf_is F name kind.Dir entry leaf part entry_is = absurd (leaf refl)

  -- it is none
  pub found_leaf : (later : ℕ) (name : List ℕ) (here : Kind) (entry : Path) (d : WalkState) → Later first now later
      → slice_get items place ≡ Some (name, here)
      → (here ≡ kind.Dir → ⊥) → is_passed c.job.share path name here ≡ false → entry ≡ path ++ name ∷ [] → Puts (of_unnamed c entry) b d
      → FoundTo first later c path left (inside_at top (in_root path)) (place + 1) a d
  found_leaf later name here entry d le at leaf part entry_is puts =
      found_more later name here (of_unnamed c entry) d le at (λ last after. leaf_is (HasRisen first last) name here entry leaf part entry_is) puts

-- ---- a folder

-- of one that isn't an object, isn't too deep, and isn't empty it is what is told of its entries
pub record IsWalked (left : ℕ) (items : List Item) : Type 0 where
  object : is_object items ≡ false
  deep : (left == 0) ≡ false
  empty : (length items == 0) ≡ false

pub is_walked : (left : ℕ) (items : List Item) → is_object items ≡ false → (left == 0) ≡ false → (length items == 0) ≡ false → IsWalked left items
is_walked left items object deep empty = record { object = object; deep = deep; empty = empty }

folder_is : (c : Against) (top : Forest) (path : Path) (left : ℕ) (items : List Item) (entries bare : List ExtraFinding)
    → listing_at top (in_root path) ≡ Some items → IsWalked left items
    → of_folder_by c path left (inside_at top (in_root path)) bare entries ≡ entries
folder_is c top path left items entries bare listed it =
    let lists = inside_lists top (in_root path) items listed in
    let first : is_object (listing_of (inside_at top (in_root path))) ≡ false = ap is_object lists ∙ it.object in
    let none : (length (listing_of (inside_at top (in_root path))) == 0) ≡ false = ap (λ (l : List Item). length l == 0) lists ∙ it.empty in
    ap (λ (t : Bool). cond t (of_object c path (id_of (inside_at top (in_root path))))
    (cond (left == 0 || length (listing_of (inside_at top (in_root path))) == 0) bare entries)) first
    ∙ ap (λ (t : Bool). cond (t || length (listing_of (inside_at top (in_root path))) == 0) bare entries) it.deep
    ∙ ap (λ (t : Bool). cond t bare entries) none

module _ (c : Against) (top : Forest) (path : Path) (left : ℕ) (items : List Item) (proper : is_proper top ≡ true)
    (listed : listing_at top (in_root path) ≡ Some items) (walked : IsWalked left items) (first now : ℕ) (place : ℕ) (a b : WalkState)
    (to : FoundTo first now c path left (inside_at top (in_root path)) place a b) where
  -- what was told with what is still to be told of its entries may be told of it
  may_be : (last : ℕ) (more : List ExtraFinding) → Later first now last
      → IsOfEntries (HasRisen first last) c path left (entries_from place (inside_at top (in_root path))) more
      → IsToldAt (HasRisen first last) c path left (inside_at top (in_root path)) (to.before ++ (to.findings ++ more))
  may_be last more le it =
      told_behind c path left (inside_at top (in_root path)) to.before (to.findings ++ more) (to.findings ++ more)
      (wider_before c path to.before le to.is_before) (to.rest last le more it)
      (λ bare. folder_is c top path left items (to.findings ++ more) bare listed walked)

  -- at the end all is told
  pub found_folder : length items ≤ place → IsPut (HasRisen first now) c path left (inside_at top (in_root path)) a b
  found_folder past =
      let nothing = nothing_ahead top (in_root path) items place listed (slice_get_past items place past) in
      let none_left : IsOfEntries (HasRisen first now) c path left (entries_from place (inside_at top (in_root path))) [] =
      subst (λ (f : Forest). IsOfEntries (HasRisen first now) c path left f []) (sym nothing) refl in
      record {
        told = to.before ++ (to.findings ++ []);
        may = may_be now [] (λ rose. rose) none_left;
        puts = subst (λ (l : List ExtraFinding). Puts (to.before ++ l) a b) (sym (append-nil to.findings)) to.puts;
      }

  -- where it breaks off, a front of what is still to be told is put
  stops_with : (last : ℕ) (more : List ExtraFinding) (end : Option (List ℕ)) → Later first now last
      → IsOfEntries (HasRisen first last) c path left (entries_from place (inside_at top (in_root path))) more → AppendsFront b.held end (texts more)
      → IsFront (HasRisen first last) c path left (inside_at top (in_root path)) a.held end
  stops_with last more end le it part = record {
    told = to.before ++ (to.findings ++ more);
    may = may_be last more le it;
    part = subst (AppendsFront a.held end)
        (sym (texts_on (to.before ++ to.findings) more) ∙ ap texts (append_assoc to.before to.findings more))
        (front_on a.held b.held end (texts (to.before ++ to.findings)) (texts more) to.puts.held part);
  }

  -- nothing of it
  pub stops_before : IsFront (HasRisen first now) c path left (inside_at top (in_root path)) a.held b.held
  stops_before =
      let rest = of_entries c path left (entries_from place (inside_at top (in_root path))) in
      stops_with now rest b.held (λ rose. rose) (entries_found (HasRisen first now) c path left (entries_from place (inside_at top (in_root path))))
      (front_none b.held (texts rest))

  -- a front of an entry
  stops_more : (last : ℕ) (name : List ℕ) (here : Kind) (e : List ExtraFinding) (end : Option (List ℕ)) → Later first now last
      → slice_get items place ≡ Some (name, here) → OfEntry (HasRisen first last) c top path left name here e → AppendsFront b.held end (texts e)
      → IsFront (HasRisen first last) c path left (inside_at top (in_root path)) a.held end
  stops_more last name here e end le at may part =
      let rest = of_entries c path left (entries_from (place + 1) (inside_at top (in_root path))) in
      stops_with last (e ++ rest) end le
      (joins (HasRisen first last) c top path left items place name here e rest proper listed at may
      (entries_found (HasRisen first last) c path left (entries_from (place + 1) (inside_at top (in_root path)))))
      (subst (AppendsFront b.held end) (sym (texts_on e rest)) (front_more b.held end (texts e) (texts rest) part))

  -- which is a folder
  pub stops_dir : (last : ℕ) (name : List ℕ) (here : Kind) (entry : Path) (end : Option (List ℕ)) → first ≤ now → Later first now last
      → slice_get items place ≡ Some (name, here) → here ≡ kind.Dir → is_passed c.job.share path name here ≡ false → entry ≡ path ++ name ∷ []
      → IsFront (HasRisen now last) c entry (left - 1) (inside_at top (in_root entry)) b.held end
      → IsFront (HasRisen first last) c path left (inside_at top (in_root path)) a.held end
  stops_dir last name here entry end from le at is part entry_is front =
      stops_more last name here front.told end le at
      (of_dir c top path left items proper listed first now place a b to (HasRisen first last) name here entry front.told is part entry_is
      (widened c top path left items proper listed first now place a b to last last entry front.told from (λ rose. rose) front.may)) front.part

  -- or none
  pub stops_leaf : (last : ℕ) (name : List ℕ) (here : Kind) (entry : Path) (end : Option (List ℕ)) → Later first now last
      → slice_get items place ≡ Some (name, here) → (here ≡ kind.Dir → ⊥) → is_passed c.job.share path name here ≡ false → entry ≡ path ++ name ∷ []
      → AppendsFront b.held end (texts (of_unnamed c entry))
      → IsFront (HasRisen first last) c path left (inside_at top (in_root path)) a.held end
  stops_leaf last name here entry end le at leaf part entry_is put =
      stops_more last name here (of_unnamed c entry) end le at
      (leaf_is c top path left items proper listed first now place a b to (HasRisen first last) name here entry leaf part entry_is) put

-- ---- a folder that isn't walked

-- of an object, by whatever is found of a bare folder
pub object_is : (c : Against) (top : Forest) (path : Path) (left : ℕ) (items : List Item) (bare : List ExtraFinding)
    → listing_at top (in_root path) ≡ Some items → is_object items ≡ true
    → of_folder_by c path left (inside_at top (in_root path)) bare (of_entries c path left (inside_at top (in_root path)))
    ≡ of_object c path (id_of (inside_at top (in_root path)))
object_is c top path left items bare listed object =
    let lists = inside_lists top (in_root path) items listed in
    ap (λ (t : Bool). cond t (of_object c path (id_of (inside_at top (in_root path))))
    (cond (left == 0 || length (listing_of (inside_at top (in_root path))) == 0) bare (of_entries c path left (inside_at top (in_root path)))))
    (ap is_object lists ∙ object)

-- of one that is too deep or empty
pub bare_is : (c : Against) (top : Forest) (path : Path) (left : ℕ) (items : List Item) (bare : List ExtraFinding)
    → listing_at top (in_root path) ≡ Some items → is_object items ≡ false → (left == 0 || length items == 0) ≡ true
    → of_folder_by c path left (inside_at top (in_root path)) bare (of_entries c path left (inside_at top (in_root path))) ≡ bare
bare_is c top path left items bare listed object is =
    let lists = inside_lists top (in_root path) items listed in
    let entries = of_entries c path left (inside_at top (in_root path)) in
    ap (λ (t : Bool). cond t (of_object c path (id_of (inside_at top (in_root path))))
    (cond (left == 0 || length (listing_of (inside_at top (in_root path))) == 0) bare entries)) (ap is_object lists ∙ object)
    ∙ ap (λ (l : List Item). cond (left == 0 || length l == 0) bare entries) lists
    ∙ ap (λ (t : Bool). cond t bare entries) is

module _ (c : Against) (top : Forest) (path : Path) (left : ℕ) (items : List Item) (listed : listing_at top (in_root path) ≡ Some items)
    (first now : ℕ) (whole : Bool) (a b : WalkState) (it : IsBegun first now c path whole a b) where
  may_object : (later : ℕ) → is_object items ≡ true → Later first now later
      → IsToldAt (HasRisen first later) c path left (inside_at top (in_root path)) (it.before ++ of_object c path (id_of (inside_at top (in_root path))))
  may_object later object le =
      let inside = inside_at top (in_root path) in
      told_behind c path left inside it.before (of_entries c path left inside) (of_object c path (id_of inside))
      (wider_before c path it.before le (before_by c path whole it.before it.by_whole)) (entries_found (HasRisen first later) c path left inside)
      (λ bare. object_is c top path left items bare listed object)

  -- an object is told behind that
  pub put_object : (later : ℕ) (d : WalkState) → is_object items ≡ true → Later first now later
      → Puts (of_object c path (id_of (inside_at top (in_root path)))) b d
      → IsPut (HasRisen first later) c path left (inside_at top (in_root path)) a d
  put_object later d object le puts = record {
    told = it.before ++ of_object c path (id_of (inside_at top (in_root path)));
    may = may_object later object le;
    puts = puts_on it.before (of_object c path (id_of (inside_at top (in_root path)))) a b d it.puts puts;
  }

  -- or a front of it
  pub front_object : (later : ℕ) (end : Option (List ℕ)) → is_object items ≡ true → Later first now later
      → AppendsFront b.held end (texts (of_object c path (id_of (inside_at top (in_root path)))))
      → IsFront (HasRisen first later) c path left (inside_at top (in_root path)) a.held end
  front_object later end object le part =
      let of_it = of_object c path (id_of (inside_at top (in_root path))) in
      record {
        told = it.before ++ of_it;
        may = may_object later object le;
        part = subst (AppendsFront a.held end) (sym (texts_on it.before of_it)) (front_on a.held b.held end (texts it.before) (texts of_it) it.puts.held part);
      }

  may_bare : (whole : Bool) (before : List ExtraFinding) → BeforeBy (HasRisen first now) c path whole before
      → is_object items ≡ false → (left == 0 || length items == 0) ≡ true
      → IsToldAt (HasRisen first now) c path left (inside_at top (in_root path)) (before ++ cond whole (of_unnamed c path) [])
  may_bare true before is object bare =
      let inside = inside_at top (in_root path) in (
        of_entries c path left inside,
        entries_found (HasRisen first now) c path left inside,
        Listed (ap (λ (l : List ExtraFinding). l ++ of_unnamed c path) is
            ∙ sym (bare_is c top path left items (of_unnamed c path) listed object bare)),
      )
  may_bare false before (rose, reason, further, is) object bare =
      subst (λ (l : List ExtraFinding). IsToldAt (HasRisen first now) c path left (inside_at top (in_root path)) (l ++ [])) (sym is)
      (told_part_bare c path left (inside_at top (in_root path)) reason further rose (bare_is c top path left items [] listed object bare))

  -- a bare folder is told so, unless it was told already
  pub put_bare : (later : ℕ) (d : WalkState) → is_object items ≡ false → (left == 0 || length items == 0) ≡ true → Later first now later
      → Puts (cond whole (of_unnamed c path) []) b d → IsPut (HasRisen first later) c path left (inside_at top (in_root path)) a d
  put_bare later d object bare le puts = record {
    told = it.before ++ cond whole (of_unnamed c path) [];
    may = wider c path left (inside_at top (in_root path)) (it.before ++ cond whole (of_unnamed c path) []) le
        (may_bare whole it.before it.by_whole object bare);
    puts = puts_on it.before (cond whole (of_unnamed c path) []) a b d it.puts puts;
  }

  pub front_bare : (later : ℕ) (end : Option (List ℕ)) → is_object items ≡ false → (left == 0 || length items == 0) ≡ true → Later first now later
      → AppendsFront b.held end (texts (cond whole (of_unnamed c path) []))
      → IsFront (HasRisen first later) c path left (inside_at top (in_root path)) a.held end
  front_bare later end object bare le part =
      let of_it = cond whole (of_unnamed c path) [] in
      record {
        told = it.before ++ of_it;
        may = wider c path left (inside_at top (in_root path)) (it.before ++ of_it) le (may_bare whole it.before it.by_whole object bare);
        part = subst (AppendsFront a.held end) (sym (texts_on it.before of_it)) (front_on a.held b.held end (texts it.before) (texts of_it) it.puts.held part);
      }

-- nothing of it could be listed
pub put_not : (F : Type 0) (c : Against) (path : Path) (left : ℕ) (inside : Forest) (a b : WalkState) (reason : List ℕ) (further : List (List ℕ)) → F
    → Puts (of_unlisted path (reason ∷ further)) a b → IsPut F c path left inside a b
put_not F c path left inside a b reason further failed puts =
    record { told = of_unlisted path (reason ∷ further); may = told_not c path left inside reason further failed; puts = puts }

pub front_not : (F : Type 0) (c : Against) (path : Path) (left : ℕ) (inside : Forest) (old end : Option (List ℕ)) (reason : List ℕ)
    (further : List (List ℕ)) → F → AppendsFront old end (texts (of_unlisted path (reason ∷ further))) → IsFront F c path left inside old end
front_not F c path left inside old end reason further failed part =
    record { told = of_unlisted path (reason ∷ further); may = told_not c path left inside reason further failed; part = part }

-- and where nothing was put
pub front_still : (F : Type 0) (c : Against) (path : Path) (left : ℕ) (inside : Forest) (old end : Option (List ℕ)) → end ≡ old
    → IsFront F c path left inside old end
front_still F c path left inside old end same = record {
  told = found_at c path left inside;
  may = told_found F c path left inside;
  part = subst (λ (l : Option (List ℕ)). AppendsFront old l (texts (found_at c path left inside))) (sym same)
      (front_none old (texts (found_at c path left inside)));
}

-- it is too deep
pub bare_deep : (left n : ℕ) → left ≡ 0 → (left == 0 || n == 0) ≡ true
bare_deep left n is = ap (λ (k : ℕ). k == 0 || n == 0) is

-- or empty
pub bare_empty : (left n : ℕ) → true ≡ (n == 0) → (left == 0 || n == 0) ≡ true
bare_empty left n is = by (left == 0) (n == 0) is
  where
    by : (b e : Bool) → true ≡ e → (b || e) ≡ true
    by true e is = refl
    by false e is = sym is

-- each place before the end has an entry
pub some_entry : (items : List Item) (place : ℕ) → place < length items → slice_get items place ≡ None → ⊥
some_entry [] place within is = omega (arith, within)
some_entry (x ∷ items) zero within is = absurd (cc)
some_entry (x ∷ items) (suc place) within is = some_entry items place (omega (arith, within)) is

-- One item that is met, or with which something is wrong.
use Rattle.std.proofs.Common.{◌≡◌, ◌≢◌, ◌∙◌, ℕ, List, [], ◌∷◌, ◌++◌, Bool, true, false, refl, sym, ap, subst}
use Rattle.std.specs.Prelude.{All, MatchResult, is_ok, IsErrAnd, Option, None, Some, IsSome, is_some, Result, Ok, Err, String}
use Rattle.std.specs.Global.{Global, Vec}
use Rattle.std.specs.Option.{option_and_then, option_map, unwrap_or}
use Rattle.std.specs.String.{string_bytes}
use Rattle.std.specs.Str.{bytes_eq}
use Rattle.std.specs.Cmp.Lexicographic.{other_text, same_text}
use Rattle.std.proofs.lemmas.List.Elements.{All-cons, All-nil}
use Rattle.pt_compare.specs.Bytes.{IsAllLeft, TellsRest, left_in}
use Rattle.pt_compare.specs.Described.{IsMade}
use Rattle.pt_compare.specs.Marks.{Marks, inside, is_kind_of, kind_in, with_entries, with_listed, without_mark}
use Rattle.pt_compare.specs.Meeting.{
  IsHalt,
  IsWrongFile,
  IsWrongInventory,
  IsWrongItem,
  Meets,
  MeetsFrom,
  MeetsIn,
  MeetsText,
  MeetsTextIn,
  NotedStand,
  OpensIn,
  StandsSo,
  StopsAt,
  TellsAlike,
  why_for,
}
use Rattle.pt_compare.specs.Root.{Lists, Reads, is_reading, same_kind}
use Rattle.pt_compare.specs.declared.difference.Why.{Why}
use Rattle.pt_compare.specs.declared.difference.Why.TheVariants as why
use Rattle.pt_compare.specs.declared.stop.Stop.{Stop}
use Rattle.pt_compare.specs.declared.stop.Stop.TheVariants as stop
use Rattle.pt_compare.proofs.Entering.{entries_listed, kind_same, noted_kind}
use Rattle.pt_compare.proofs.Going.{Answer, err_of}
use Rattle.pt_compare.proofs.Listed.{itself}
use Rattle.pt_compare.proofs.Made.{kind_some}
use Rattle.pt_compare.proofs.Reading.{opens_reads}
use Rattle.pt_folder.specs.Calls.{change_of}
use Rattle.pt_object.specs.MetaParts.{MetaParts}
use Rattle.pt_object.specs.Script.{Item, MakeFolder, MakeFile, item_entry, item_path}
use Rattle.pt_tree.specs.Forest.{Forest, Node, File, Dir, Other, as_file, file_at, kind_of, node_at}
use Rattle.pt_tree.specs.Listing as listing
use Rattle.pt_tree.specs.Path.{Path}
use Rattle.pt_tree.specs.Source.{CanOpen, Reading, after_open, tree_in}
use Rattle.pt_tree.specs.Tree.{Bytes, Entry, Folder, Special, Tree, entry_of, kind_of_entry}
use Rattle.pt_tree.specs.declared.kind.Kind.{Kind}
use Rattle.pt_tree.specs.declared.kind.Kind.TheVariants as kind
use Rattle.pt_walk.specs.Left.{bytes_at}

-- ---- kinds

pub kind_is : (k : Kind) (here : Option Kind) → is_kind_of k here ≡ true → here ≡ Some k
kind_is k None is = absurd (cc)
kind_is kind.File (Some kind.File) is = refl
kind_is kind.Dir (Some kind.Dir) is = refl
kind_is kind.Other (Some kind.Other) is = refl
kind_is kind.File (Some kind.Dir) is = absurd (cc)
kind_is kind.File (Some kind.Other) is = absurd (cc)
kind_is kind.Dir (Some kind.File) is = absurd (cc)
kind_is kind.Dir (Some kind.Other) is = absurd (cc)
kind_is kind.Other (Some kind.File) is = absurd (cc)
kind_is kind.Other (Some kind.Dir) is = absurd (cc)

pub kind_other : (k l : Kind) → is_kind_of k (Some l) ≡ false → l ≢ k
kind_other k l is = λ same. let taken_so = ap (same_kind k) same ∙ itself k in cc

folder_of : (e : Entry) → kind_of_entry e ≡ kind.Dir → e ≡ Folder
folder_of (Bytes b) is = absurd (cc)
folder_of Folder is = refl
folder_of Special is = absurd (cc)

bytes_in : (e : Entry) → kind_of_entry e ≡ kind.File → (b : List ℕ) × (e ≡ Bytes b)
bytes_in (Bytes b) is = (b, refl)
bytes_in Folder is = absurd (cc)
bytes_in Special is = absurd (cc)

-- ---- one item

pub one_stands : (t : Tree) (item : Item) → t (item_path item) ≡ Some (item_entry item) → All (StandsSo t) (item ∷ [])
one_stands t item is = All-cons (StandsSo t) item [] is (All-nil (StandsSo t))

pub one_stops : (t : Tree) (marks : Marks) (item : Item) (p : Path) (w : Why) → p ≡ item_path item → IsWrongItem t marks item w
    → StopsAt t marks (item ∷ []) p w
one_stops t marks item p w is wrong = record {
  front = [];
  item = item;
  rest = [];
  items_are = refl;
  path_is = is;
  stand = All-nil (StandsSo t);
  wrong = wrong;
}

-- another kind is noted, or nothing
wrong_kind : (t : Tree) (marks : Marks) (item : Item) (here : Option Kind) → here ≡ marks (item_path item)
    → is_kind_of (kind_of_entry (item_entry item)) here ≡ false → IsWrongItem t marks item (why_for here)
wrong_kind t marks item None is other = sym is
wrong_kind t marks item (Some k) is other = (k, sym is, kind_other (kind_of_entry (item_entry item)) k other)

pub wrong_one : (tree : Option Forest) (place : Path) (item : Item) (old new : Marks) (here : Option Kind) (e : Stop) (answer : Answer) → answer ≡ Err e
    → e ≡ stop.Differs (record { path = item_path item; why = why_for here }) → here ≡ old (item_path item)
    → is_kind_of (kind_of_entry (item_entry item)) here ≡ false
    → MeetsIn tree place (item ∷ []) old new answer
unfolding MeetsIn
wrong_one tree place item old new here e answer is differs noted other = λ f told.
    subst (Meets {T = Unit {0}} (inside f place) (item ∷ []) old new) (sym (is ∙ ap (λ (e : Stop). Err e) differs))
    (one_stops (inside f place) old item (item_path item) (why_for here) refl (wrong_kind (inside f place) old item here noted other))

-- a folder that stands was entered
pub entered : (tree : Option Forest) (place p : Path) (old mid new : Marks) (here : Option Kind) (entries : List listing.Item) (answer : Answer)
    → answer ≡ Ok tt → NotedStand tree place old → here ≡ old p → is_kind_of kind.Dir here ≡ true → mid ≡ without_mark p old
    → Lists tree (place ++ p) entries → new ≡ with_listed p entries mid → MeetsIn tree place (MakeFolder p ∷ []) old new answer
unfolding MeetsIn NotedStand Lists
entered tree place p old mid new here entries answer is noted was dir taken lists listed = λ f told.
    let stands = kind_some (inside f place) p kind.Dir (noted f told p kind.Dir (sym was ∙ kind_is kind.Dir here dir)) in
    let now = lists f told in
    subst (Meets {T = Unit {0}} (inside f place) (MakeFolder p ∷ []) old new) (sym is) (
      one_stands (inside f place) (MakeFolder p) (stands.1 ∙ ap (λ (e : Entry). Some e) (folder_of stands.0 stands.2)),
      listed
          ∙ entries_listed f place p entries mid now.0 now.1 ∙ ap (with_entries (inside f place) p) taken,
    )

-- ---- a file that is opened

-- what is noted as a file stands as one
file_there : (f : Forest) (place p : Path) → kind_in (inside f place) p ≡ Some kind.File
    → (b : List ℕ) × (inside f place p ≡ Some (Bytes b)) × (file_at f (place ++ p) ≡ Some b)
file_there f place p is = by (node_at (Dir f) (place ++ p)) (sym (kind_same (node_at (Dir f) (place ++ p))) ∙ is)
  where
    by : (o : Option Node) → option_map kind_of o ≡ Some kind.File → (b : List ℕ) × (option_map entry_of o ≡ Some (Bytes b))
        × (option_and_then as_file o ≡ Some b)
    by None is = absurd (cc)
    by (Some (File b)) is = (b, refl, refl)
    by (Some (Dir d)) is = absurd (cc)
    by (Some Other) is = absurd (cc)

pub opens : (before after : Option Reading) (place p whole : Path) (old new : Marks) (here : Option Kind) → NotedStand (tree_in before) place old → here ≡ old p
    → is_kind_of kind.File here ≡ true → new ≡ without_mark p old
    → after ≡ option_map (after_open whole) before → whole ≡ place ++ p → OpensIn before after place p (change_of old new) (Ok tt)
unfolding NotedStand
opens before after place p whole old new here noted was file taken opened at = (
  opens_reads before after (place ++ p) (noted_kind (tree_in before) place p old kind.File noted (sym was ∙ kind_is kind.File here file)) (opened
      ∙ ap (λ (q : Path). option_map (after_open q) before) at),
  taken,
  λ f told. left f told before (opened ∙ ap (λ (q : Path). option_map (after_open q) before) at) told,
)
  where
    left : (f : Forest) → tree_in before ≡ Some f → (now : Option Reading) → after ≡ option_map (after_open (place ++ p)) now → tree_in now ≡ Some f
        → (b : List ℕ) × (inside f place p ≡ Some (Bytes b)) × (left_in after ≡ Some b)
    left f told None is none = absurd (cc)
    left f told (Some r) is one =
        let there = file_there f place p (noted f told p kind.File (sym was ∙ kind_is kind.File here file)) in
        let same : r.tree ≡ f = cc in
        (there.0, there.1, ap left_in is ∙ ap (λ (g : Forest). file_at g (place ++ p)) same ∙ there.2)

pub as_item : (t : Tree) (marks : Marks) (p : Path) (bytes : List ℕ) (w : Why) → IsWrongFile marks p w → IsWrongItem t marks (MakeFile p bytes) w
as_item t marks p bytes why.Missing wrong = wrong
as_item t marks p bytes why.Kind wrong = wrong
as_item t marks p bytes why.Bytes wrong = absurd wrong
as_item t marks p bytes why.Extra wrong = absurd wrong

open_failed : (t : Tree) (before after : Option Reading) (place p : Path) (bytes : List ℕ) (old new other : Marks) (e : Stop)
    → OpensIn before after place p (change_of old new) (Err e) → Meets {T = Unit {0}} t (MakeFile p bytes ∷ []) old other (Err e)
open_failed t before after place p bytes old new other (stop.Differs d) wrong = one_stops t old (MakeFile p bytes) d.path d.why wrong.0
    (as_item t old p bytes d.why wrong.1)
open_failed t before after place p bytes old new other (stop.Fault w) wrong = tt

pub unopened : (before after : Option Reading) (place p : Path) (bytes : List ℕ) (old new other : Marks) (e : Stop) (answer : Answer)
    → IsErrAnd answer (λ f. f ≡ e) → OpensIn before after place p (change_of old new) (Err e)
    → MeetsIn (tree_in before) place (MakeFile p bytes ∷ []) old other answer
unfolding MeetsIn
unopened before after place p bytes old new other e answer is wrong = λ f told. subst (Meets {T = Unit {0}} (inside f place) (MakeFile p bytes ∷ []) old other)
    (sym (err_of answer e is)) (open_failed (inside f place) before after place p bytes old new other e wrong)

-- ---- bytes that are read

same_left : (a b : List ℕ) → true ≡ bytes_eq a b → a ≡ b
same_left a b is = same_text a b is

other_left : (a b : List ℕ) → false ≡ bytes_eq a b → a ≢ b
other_left a b is = other_text a b is

pub bytes_met : (before mid : Option Reading) (place p : Path) (bytes : List ℕ) (old new : Marks) (same : Bool) (answer : Answer) → answer ≡ Ok tt
    → OpensIn before mid place p (change_of old new) (Ok tt) → TellsRest bytes mid same → true ≡ same
    → MeetsIn (tree_in before) place (MakeFile p bytes ∷ []) old new answer
unfolding MeetsIn TellsRest
bytes_met before mid place p bytes old new same answer is opened rest taken_so = λ f told.
    let there = opened.2 f told in
    subst (Meets {T = Unit {0}} (inside f place) (MakeFile p bytes ∷ []) old new) (sym is) (
      one_stands (inside f place) (MakeFile p bytes)
          (there.1 ∙ ap (λ (b : List ℕ). Some (Bytes b)) (same_left there.0 bytes (taken_so ∙ rest there.0 there.2))),
      opened.1,
    )

pub bytes_other : (before mid : Option Reading) (place p : Path) (bytes : List ℕ) (old new : Marks) (same : Bool) (e : Stop) (answer : Answer) → answer ≡ Err e
    → e ≡ stop.Differs (record { path = p; why = why.Bytes }) → OpensIn before mid place p (change_of old new) (Ok tt) → TellsRest bytes mid same → false ≡ same
    → MeetsIn (tree_in before) place (MakeFile p bytes ∷ []) old new answer
unfolding MeetsIn TellsRest
bytes_other before mid place p bytes old new same e answer is differs opened rest other_so = λ f told.
    let there = opened.2 f told in
    subst (Meets {T = Unit {0}} (inside f place) (MakeFile p bytes ∷ []) old new) (sym (is ∙ ap (λ (e : Stop). Err e) differs))
    (one_stops (inside f place) old (MakeFile p bytes) p why.Bytes refl (there.0, there.1, other_left there.0 bytes (other_so ∙ rest there.0 there.2)))

-- ---- a content

-- of a file that may be opened, its bytes are left to read
source_left : (src mid : Option Reading) (from : Path) (s : Forest) → tree_in src ≡ Some s → CanOpen src from → mid ≡ option_map (after_open from) src
    → left_in mid ≡ Some (bytes_at s from)
unfolding CanOpen
source_left None mid from s told can opened = absurd (cc)
source_left (Some r) mid from s told can opened =
    let same : r.tree ≡ s = cc in
    ap left_in opened ∙ ap (λ (g : Forest). file_at g from) same ∙ there (file_at s from) (subst (λ (g : Forest). IsSome (file_at g from)) same (can r refl))
  where
    there : (o : Option (List ℕ)) → IsSome o → o ≡ Some (unwrap_or o [])
    there None h = absurd (let e = h in cc)
    there (Some b) h = refl

pub alike_met : (src src_mid before mid : Option Reading) (place p from : Path) (old new : Marks) (same : Bool) (answer : Answer) → answer ≡ Ok tt
    → OpensIn before mid place p (change_of old new) (Ok tt) → CanOpen src from → src_mid ≡ option_map (after_open from) src → TellsAlike src_mid mid same
    → true ≡ same
    → MeetsFrom (tree_in src) (tree_in before) place (λ s. MakeFile p (bytes_at s from) ∷ []) (change_of old new) answer
unfolding MeetsFrom MeetsIn TellsAlike
alike_met src src_mid before mid place p from old new same answer is opened can open_src alike taken_so = λ s read f told.
    let there = opened.2 f told in
    let left = source_left src src_mid from s read can open_src in
    subst (Meets {T = Unit {0}} (inside f place) (MakeFile p (bytes_at s from) ∷ []) old new) (sym is) (
      one_stands (inside f place) (MakeFile p (bytes_at s from)) (there.1
          ∙ ap (λ (b : List ℕ). Some (Bytes b)) (same_left there.0 (bytes_at s from) (taken_so ∙ alike (bytes_at s from) left there.0 there.2))),
      opened.1,
    )

pub alike_other : (src src_mid before mid : Option Reading) (place p from q : Path) (old new : Marks) (same : Bool) (e : Stop) (answer : Answer)
    → answer ≡ Err e → e ≡ stop.Differs (record { path = q; why = why.Bytes }) → q ≡ p → OpensIn before mid place p (change_of old new) (Ok tt)
    → CanOpen src from
    → src_mid ≡ option_map (after_open from) src → TellsAlike src_mid mid same → false ≡ same
    → MeetsFrom (tree_in src) (tree_in before) place (λ s. MakeFile p (bytes_at s from) ∷ []) (change_of old new) answer
unfolding MeetsFrom MeetsIn TellsAlike
alike_other src src_mid before mid place p from q old new same e answer is differs at opened can open_src alike other_so = λ s read f told.
    let there = opened.2 f told in
    let left = source_left src src_mid from s read can open_src in
    subst (Meets {T = Unit {0}} (inside f place) (MakeFile p (bytes_at s from) ∷ []) old new) (sym (is ∙ ap (λ (e : Stop). Err e) differs))
    (one_stops (inside f place) old (MakeFile p (bytes_at s from)) q why.Bytes at
    (there.0, there.1, other_left there.0 (bytes_at s from) (other_so ∙ alike (bytes_at s from) left there.0 there.2)))

-- ---- the inventory of the version

abbrev pub TextAnswer : Type 0
TextAnswer = Result (String Global) Stop

open_failed_text : (t : Tree) (before after : Option Reading) (place p : Path) (text_with : MetaParts → List ℕ) (old new other : Marks) (e : Stop)
    → OpensIn before after place p (change_of old new) (Err e) → MeetsText t p text_with old other (Err e)
open_failed_text t before after place p text_with old new other (stop.Differs d) wrong = (wrong.0, by d.why wrong.1)
  where
    by : (w : Why) → IsWrongFile old p w → IsWrongInventory t old p text_with w
    by why.Missing wrong = wrong
    by why.Kind wrong = wrong
    by why.Bytes wrong = absurd wrong
    by why.Extra wrong = absurd wrong
open_failed_text t before after place p text_with old new other (stop.Fault w) wrong = tt

err_of_text : (r : TextAnswer) (e : Stop) → IsErrAnd r (λ f. f ≡ e) → r ≡ Err e
err_of_text (Ok x) e is = absurd is
err_of_text (Err f) e is = ap (λ (f : Stop). Err f) is

-- what was answered before an error became another
pub was_ok : {T E D : Type 0} (first : Result T E) (last : Result T D) (x : T) (Q : E → Type 0) → MatchResult first (λ y. last ≡ Ok y) Q
    → is_ok last ≡ is_ok first → last ≡ Ok x → first ≡ Ok x
was_ok {T} {E} {D} (Ok y) last x Q same variant is = let one = sym same ∙ is in cc
was_ok {T} {E} {D} (Err e) last x Q same variant is = let no : true ≡ false = sym (ap is_ok is) ∙ variant in absurd (cc)

pub unopened_text : (before after : Option Reading) (place p : Path) (text_with : MetaParts → List ℕ) (old new other : Marks) (e : Stop) (answer : TextAnswer)
    → IsErrAnd answer (λ f. f ≡ e) → OpensIn before after place p (change_of old new) (Err e)
    → MeetsTextIn (tree_in before) place p text_with (change_of old other) answer
unfolding MeetsTextIn
unopened_text before after place p text_with old new other e answer is wrong = λ f told. subst (MeetsText (inside f place) p text_with old other)
    (sym (err_of_text answer e is)) (open_failed_text (inside f place) before after place p text_with old new other e wrong)

module _ (before mid : Option Reading) (place p : Path) (text_with : MetaParts
    → List ℕ) (old new : Marks) (rest : Vec ℕ) (stands : List ℕ) (answer : TextAnswer) (opened : OpensIn before mid place p (change_of old new) (Ok tt))
    (all : IsAllLeft mid rest) (same : stands ≡ rest.items) where
  whole : (f : Forest) (told : tree_in before ≡ Some f) → stands ≡ (opened.2 f told).0
  unfolding IsAllLeft
  whole f told = same ∙ all (opened.2 f told).0 (opened.2 f told).2

  pub text_met : (text : String Global) → answer ≡ Ok text → (string_bytes text ≡ stands) × IsMade text_with stands
      → MeetsTextIn (tree_in before) place p text_with (change_of old new) answer
  unfolding MeetsTextIn
  text_met text is text_is = λ f told.
      let there = opened.2 f told in
      subst (MeetsText (inside f place) p text_with old new) (sym is)
      (there.1 ∙ ap (λ (b : List ℕ). Some (Bytes b)) (sym (text_is.0 ∙ whole f told)), subst (IsMade text_with) (sym text_is.0) text_is.1, opened.1)

  pub text_other : (e : Stop) → answer ≡ Err e → e ≡ stop.Differs (record { path = p; why = why.Bytes }) → (IsMade text_with stands → ⊥)
      → MeetsTextIn (tree_in before) place p text_with (change_of old new) answer
  unfolding MeetsTextIn
  text_other e is differs other = λ f told.
      let there = opened.2 f told in
      subst (MeetsText (inside f place) p text_with old new) (sym (is ∙ ap (λ (e : Stop). Err e) differs))
      (refl, (there.0, there.1, λ made. other (subst (IsMade text_with) (sym (whole f told)) made)))

-- ---- calls that end it

pub unopened_from : (src before after : Option Reading) (place p from : Path) (old new other : Marks) (e : Stop) (answer : Answer)
    → IsErrAnd answer (λ f. f ≡ e) → OpensIn before after place p (change_of old new) (Err e)
    → MeetsFrom (tree_in src) (tree_in before) place (λ s. MakeFile p (bytes_at s from) ∷ []) (change_of old other) answer
unfolding MeetsFrom
unopened_from src before after place p from old new other e answer is wrong = λ s read. unopened before after place p (bytes_at s from) old new other e answer
    is wrong

pub source_reads : (src mid : Option Reading) (from : Path) → CanOpen src from → mid ≡ option_map (after_open from) src → Reads mid
unfolding CanOpen
source_reads None mid from can opened = ap is_reading opened
source_reads (Some r) mid from can opened = ap is_reading opened ∙ there (file_at r.tree from) (can r refl)
  where
    there : (o : Option (List ℕ)) → IsSome o → is_some o ≡ true
    there None h = absurd (let e = h in cc)
    there (Some b) h = refl

pub halted_text : (tree : Option Forest) (place p : Path) (text_with : MetaParts → List ℕ) (old new : Marks) (answer : TextAnswer) (e : Stop)
    → IsErrAnd answer (λ f. f ≡ e) → IsHalt e → MeetsTextIn tree place p text_with (change_of old new) answer
unfolding MeetsTextIn
halted_text tree place p text_with old new answer e is h = λ f told. subst (MeetsText (inside f place) p text_with old new) (sym (err_of_text answer e is))
    (by f e h)
  where
    by : (f : Forest) (e : Stop) → IsHalt e → MeetsText (inside f place) p text_with old new (Err e)
    by f (stop.Differs d) h = absurd h
    by f (stop.Fault why) h = tt

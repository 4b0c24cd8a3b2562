-- What rows have of each content, row by row.
use Rattle.std.proofs.Common.{
  ◌≡◌,
  ℕ,
  ◌+◌,
  ◌<◌,
  List,
  [],
  ◌∷◌,
  ◌++◌,
  length,
  get_or,
  set,
  take,
  map,
  cond,
  Bool,
  true,
  false,
  refl,
  sym,
  ◌∙◌,
  ap,
  arith,
  zero,
  suc,
  inl,
  inr,
}
use Rattle.std.specs.Str.{bytes_eq}
use Rattle.std.specs.Cmp.Lexicographic.{bytes_decides}
use Rattle.std.proofs.lemmas.Bool.{cases_Bool, false_from_ne_true, true≢false}
use Rattle.std.proofs.lemmas.List.{take_more, map-set, get_or-map, length-map, append-nil}
use denote.Ref.{Bor}
use Rattle.pt_tree.specs.Path.{Path, joined}
use Rattle.pt_object.specs.Contents.{digest_at, DigestsDiffer, first_path, is_noted}
use Rattle.pt_object.specs.Index.{IsAt, IsIndex}
use Rattle.pt_object.proofs.Indexed.{digest_at-item, first_path-at}
use Rattle.pt_object.proofs.Noting.{noting_gives_distinct, noting_keeps_first}
use Rattle.std.specs.Prelude.{filter, find, Some}
use Rattle.std.specs.Option.{option_map}
use Rattle.pt_object.specs.Distinct.{content_of_row, distinct, row_has_digest}
use Rattle.pt_object.specs.Inventory.{paths_with}
use Rattle.pt_object.specs.Later.{group_lent, parted}
use Rattle.pt_object.specs.declared.inventories.state.Group.{Group}
use Rattle.pt_object.specs.declared.table.contents.Content.{Content}
use Rattle.pt_object.specs.declared.rows.Row.{Row}

abbrev pub digests : List Content → List (List ℕ)
digests contents = map (λ (c : Content). c.digest) contents

abbrev pub path_if : Bool → Path → List Path
path_if b path = cond b (path ∷ []) []

paths_push : (rows : List Row) (row : Row) (d : List ℕ) → paths_with (rows ++ row ∷ []) d ≡ paths_with rows d ++ path_if (bytes_eq row.digest d) row.path
paths_push [] row d = elim (cases_Bool (bytes_eq row.digest d)) [ inl h ↦ rw h refl | inr h ↦ rw h refl ]
paths_push (x ∷ rows) row d = elim (cases_Bool (bytes_eq x.digest d)) [
  | inl h ↦ rw h (ap (λ (l : List Path). x.path ∷ l) (paths_push rows row d))
  | inr h ↦ rw h (paths_push rows row d)
]

paths_more : (rows : List Row) (i : ℕ) (row : Row) (d : List ℕ) → i < length rows → row ≡ get_or rows i row
    → paths_with (take (i + 1) rows) d ≡ paths_with (take i rows) d ++ path_if (bytes_eq row.digest d) row.path
paths_more rows i row d within is =
    ap (λ (l : List Row). paths_with l d) (take_more rows i row within ∙ ap (λ (r : Row). take i rows ++ r ∷ []) (sym is))
    ∙ paths_push (take i rows) row d

-- a row of another digest adds nothing
paths_other : (rows : List Row) (i : ℕ) (row : Row) (d : List ℕ) → i < length rows → row ≡ get_or rows i row → (row.digest ≡ d → ⊥)
    → paths_with (take (i + 1) rows) d ≡ paths_with (take i rows) d
paths_other rows i row d within is other =
    paths_more rows i row d within is
    ∙ ap (λ (b : Bool). paths_with (take i rows) d ++ path_if b row.path)
    (false_from_ne_true (bytes_eq row.digest d) (λ e. other ((bytes_decides row.digest d).0 e)))
    ∙ append-nil (paths_with (take i rows) d)

abbrev Part : Type 0
Part = Bool × List Path

-- what these rows have of a digest
abbrev pub part_with : List Row → List ℕ → Part
part_with rows d = parted (paths_with rows d)

map_same : (ds : List (List ℕ)) (old new : List ℕ → Part) → ((k : ℕ) → k < length ds → new (get_or ds k []) ≡ old (get_or ds k [])) → map old ds ≡ map new ds
map_same [] old new same = refl
map_same (d ∷ ds) old new same =
    let first : new d ≡ old d = same 0 (omega arith) in
    let rest : map old ds ≡ map new ds = map_same ds old new (λ k h. same (suc k) (omega arith)) in
    cc

set_map : (ds : List (List ℕ)) (p : ℕ) (old new : List ℕ → Part) (y : Part) → p < length ds → y ≡ new (get_or ds p [])
    → ((k : ℕ) → k < length ds → (k ≡ p → ⊥) → new (get_or ds k []) ≡ old (get_or ds k [])) → set (map old ds) p y ≡ map new ds
set_map [] p old new y within at others = absurd (omega arith)
set_map (d ∷ ds) zero old new y within at others =
    let first : y ≡ new d = at in
    let rest : map old ds ≡ map new ds = map_same ds old new (λ k h. others (suc k) (omega arith) (λ e. absurd (omega arith))) in
    cc
set_map (d ∷ ds) (suc p) old new y within at others =
    let first : new d ≡ old d = others 0 (omega arith) (λ e. absurd (omega arith)) in
    let rest : set (map old ds) p y ≡ map new ds = set_map ds p old new y (omega arith) at
    (λ k h apart. others (suc k) (omega arith) (λ e. apart (omega arith))) in
    cc

pub length_groups : (groups : List Group) (f : List ℕ → Part) (contents : List Content) → map group_lent groups ≡ map f (digests contents)
    → length groups ≡ length contents
length_groups groups f contents e =
    sym (length-map groups group_lent) ∙ ap length e ∙ length-map (digests contents) f ∙ length-map contents (λ (c : Content). c.digest)

pub group_at : (groups : List Group) (f : List ℕ → Part) (contents : List Content) (p : ℕ) (g : Group) → map group_lent groups ≡ map f (digests contents)
    → p < length contents → group_lent (get_or groups p g) ≡ f (digest_at contents p)
group_at groups f contents p g e within =
    let in_groups : p < length groups = omega (arith, length_groups groups f contents e) in
    let in_digests : p < length (digests contents) = omega (arith, length-map contents (λ (c : Content). c.digest)) in
    sym (get_or-map group_lent groups p g (false, []) in_groups) ∙ ap (λ (l : List Part). get_or l p (false, [])) e
    ∙ get_or-map f (digests contents) p [] (false, []) in_digests

-- a row whose digest is that of an item: its path comes to that item's group
pub grouped_more : (groups : List Group) (contents : List Content) (rows : List Row) (i p : ℕ) (row : Row) (path : Path) (old group : Group)
    → DigestsDiffer contents → IsAt contents row.digest p → i < length rows → row ≡ get_or rows i row → path ≡ row.path
    → map group_lent groups ≡ map (part_with (take i rows)) (digests contents) → old ≡ get_or groups p old
    → ((paths : List Path) → group_lent old ≡ parted paths → group_lent group ≡ parted (paths ++ path ∷ []))
    → map group_lent (set groups p group) ≡ map (part_with (take (i + 1) rows)) (digests contents)
grouped_more groups contents rows i p row path old group differ at within is path_is e old_is added =
    let in_digests : p < length (digests contents) = omega (arith, length-map contents (λ (c : Content). c.digest), at.within) in
    let here : bytes_eq row.digest (digest_at contents p) ≡ true = (bytes_decides row.digest (digest_at contents p)).1 (sym at.same) in
    let before : group_lent old ≡ part_with (take i rows) (digest_at contents p) = ap group_lent old_is
    ∙ group_at groups (part_with (take i rows)) contents p old e at.within in
    let paths : paths_with (take i rows) (digest_at contents p) ++ path ∷ [] ≡ paths_with (take (i + 1) rows) (digest_at contents p) =
    ap (λ (q : Path). paths_with (take i rows) (digest_at contents p) ++ q ∷ []) path_is
    ∙ ap (λ (b : Bool). paths_with (take i rows) (digest_at contents p) ++ path_if b row.path) (sym here)
    ∙ sym (paths_more rows i row (digest_at contents p) within is) in
    let whole : group_lent group ≡ part_with (take (i + 1) rows) (digest_at contents p) = added (paths_with (take i rows) (digest_at contents p)) before
    ∙ ap parted paths in
    map-set group_lent groups p group
    ∙ ap (λ (l : List Part). set l p (group_lent group)) e
    ∙ set_map (digests contents) p (part_with (take i rows)) (part_with (take (i + 1) rows)) (group_lent group) in_digests whole
    (λ k h apart. ap parted (paths_other rows i row (digest_at contents k) within is
    (λ same. apart (differ k p (omega (arith, length-map contents (λ (c : Content). c.digest))) at.within (sym same ∙ sym at.same)))))

later : (x : Content) (contents : List Content) (d : List ℕ) (k : ℕ) → is_noted contents d ≡ false → k < length (digests (x ∷ contents))
    → d ≡ digest_at (x ∷ contents) k → bytes_eq x.digest d ≡ false
    → ((j : ℕ) → j < length (digests contents) → d ≡ digest_at contents j → ⊥) → ⊥
later x contents d zero none h same other go = true≢false (sym ((bytes_decides x.digest d).1 (sym same)) ∙ other)
later x contents d (suc k) none h same other go = go k (omega arith) same

-- what isn't noted stands at no position
not_noted_at : (contents : List Content) (d : List ℕ) (k : ℕ) → is_noted contents d ≡ false → k < length (digests contents) → d ≡ digest_at contents k → ⊥
not_noted_at [] d k none h same = omega arith
not_noted_at (x ∷ contents) d k none h same = elim (cases_Bool (bytes_eq x.digest d)) [
  | inl here ↦ true≢false (sym (sym none ∙ rw here refl))
  | inr other ↦ let rest : is_noted contents d ≡ false = sym (rw other refl)
      ∙ none in later x contents d k rest h same other (λ j. not_noted_at contents d j rest)
]

-- a row whose digest no item has
pub grouped_other : (groups : List Group) (contents : List Content) (rows : List Row) (i : ℕ) (row : Row)
    → is_noted contents row.digest ≡ false → i < length rows → row ≡ get_or rows i row
    → map group_lent groups ≡ map (part_with (take i rows)) (digests contents) → map group_lent groups ≡ map (part_with (take (i + 1) rows)) (digests contents)
grouped_other groups contents rows i row none within is e =
    e ∙ map_same (digests contents) (part_with (take i rows)) (part_with (take (i + 1) rows))
    (λ k h. ap parted (paths_other rows i row (digest_at contents k) within is (λ same. not_noted_at contents row.digest k none h same)))

abbrev pub no_part : Content → Part
no_part content = (false, [])

-- before the first row nothing is there of any
pub none_yet : (contents : List Content) → map no_part contents ≡ map (part_with []) (digests contents)
none_yet [] = refl
none_yet (x ∷ contents) = ap (λ (l : List Part). (false, []) ∷ l) (none_yet contents)

pub over_digests : (rows : List Row) (contents : List Content) → map (part_with rows) (digests contents)
    ≡ map (λ (c : Content). parted (paths_with rows c.digest)) contents
over_digests rows [] = refl
over_digests rows (x ∷ contents) = ap (λ (l : List Part). part_with rows x.digest ∷ l) (over_digests rows contents)

map_map : (paths : List (Bor Path)) → map (λ (path : Bor Path). joined path.now) paths ≡ map joined (map (λ (path : Bor Path). path.now) paths)
map_map [] = refl
map_map (x ∷ paths) = ap (λ (l : List (List ℕ)). joined x.now ∷ l) (map_map paths)

-- the first row with a digest has the first of the paths with it
first_of : (rows : List Row) (d : List ℕ) (q : Path) → option_map (λ (row : Row). row.path) (find (row_has_digest d) rows) ≡ Some q
    → (rest : List Path) × (paths_with rows d ≡ q ∷ rest)
first_of [] d q found = absurd (cc)
first_of (x ∷ rows) d q found = elim (cases_Bool (bytes_eq x.digest d)) [
  | inl here ↦
      let one : Some x.path ≡ Some q = sym (ap (λ (b : Bool). option_map (λ (row : Row). row.path) (cond b (Some x) (find (row_has_digest d) rows))) here)
      ∙ found in
      let same : x.path ≡ q = cc in (
        paths_with rows d,
        ap (λ (b : Bool). map (λ (row : Row). row.path) (cond b (x ∷ filter (row_has_digest d) rows) (filter (row_has_digest d) rows))) here
            ∙ ap (λ (p : Path). p ∷ paths_with rows d) same,
      )
  | inr other ↦
      let later = first_of rows d q (sym (ap (λ (b : Bool). option_map (λ (row : Row). row.path) (cond b (Some x) (find (row_has_digest d) rows))) other)
      ∙ found) in (
        later.0,
        ap (λ (b : Bool). map (λ (row : Row). row.path) (cond b (x ∷ filter (row_has_digest d) rows) (filter (row_has_digest d) rows))) other ∙ later.1,
      )
]

-- the texts of a content's paths
pub content_texts : (groups : List Group) (rows rows' : List Row) (contents contents' : List Content) (index : List ℕ) (p : ℕ) (x : Content) (g : Group)
    (paths : List (Bor Path))
    → rows' ≡ rows → contents' ≡ contents → contents ≡ map content_of_row (distinct rows) → IsIndex contents' index
    → map group_lent groups ≡ map (λ (c : Content). parted (paths_with rows' c.digest)) contents → p < length contents' → x ≡ get_or contents' p x
    → g ≡ get_or groups p g → paths ≡ g.later.items → joined x.path ∷ map (λ (path : Bor Path). joined path.now) paths ≡ map joined (paths_with rows x.digest)
content_texts groups rows rows' contents contents' index p x g paths rows_are contents_are are ordered e within is g_is paths_are =
    let inside : p < length contents = omega (arith, ap length contents_are) in
    let own : digest_at contents' p ≡ x.digest = digest_at-item contents' p x within ∙ ap (λ (c : Content). c.digest) (sym is) in
    let at : digest_at contents p ≡ x.digest = ap (λ (l : List Content). digest_at l p) (sym contents_are) ∙ own in
    let path_is : first_path contents' x.digest ≡ Some x.path = first_path-at contents' index x.digest p x ordered (record { within = within; same = own }) is
    in
    let first : option_map (λ (row : Row). row.path) (find (row_has_digest x.digest) rows) ≡ Some x.path =
    sym (noting_keeps_first rows x.digest) ∙ ap (λ (l : List Content). first_path l x.digest) (noting_gives_distinct rows ∙ sym are ∙ sym contents_are)
    ∙ path_is in
    let all = first_of rows x.digest x.path first in
    let lent : group_lent g ≡ parted (x.path ∷ all.0) =
    ap group_lent g_is
    ∙ group_at groups (part_with rows') contents p g (e ∙ sym (over_digests rows' contents)) inside
    ∙ ap (λ (r : List Row). part_with r (digest_at contents p)) rows_are
    ∙ ap (part_with rows) at
    ∙ ap parted all.1 in
    let later : map (λ (path : Bor Path). path.now) g.later.items ≡ all.0 = ap (λ (l : Part). l.1) lent in
    ap (λ (l : List (List ℕ)). joined x.path ∷ l) (ap (map (λ (path : Bor Path). joined path.now)) paths_are ∙ map_map g.later.items ∙ ap (map joined) later)
    ∙ sym (ap (map joined) all.1)

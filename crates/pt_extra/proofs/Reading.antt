-- Reading an inventory, and the identifier in it.
use Rattle.std.proofs.Common.{◌≡◌, ◌≤◌, ◌<◌, ◌+◌, ℕ, Bool, true, false, List, [], ◌∷◌, ◌++◌, refl, sym, ap, ◌∙◌, subst, arith, length, cond}
use Rattle.std.specs.Global.{Vec}
use Rattle.std.specs.Option.{ForSome, option_and_then, option_map}
use Rattle.std.specs.Prelude.{IsSome, is_some, nat_le, Option, None, Some, unwrap_or}
use Rattle.pt_plan.proofs.FoundKinds.{kind_listed}
use Rattle.pt_compare.specs.Bytes.{CameNext, IsAllLeft, left_in}
use Rattle.pt_compare.specs.Root.{Reads, is_reading}
use Rattle.pt_extra.specs.Inventories.{id_in, id_of, inventory_in, most_bytes, unless_long}
use Rattle.pt_object.specs.WellKnown.{known_text}
use Rattle.pt_object.specs.declared.well_known.WellKnownName.TheVariants as known
use Rattle.pt_plan.specs.TurnStart.{is_file_kind, kind_in}
use Rattle.pt_tree.specs.Forest.{Dir, File, Forest, Node, Other, as_file, file_at, find, kind_of, listing_at, none}
use Rattle.pt_tree.specs.Listing.{Item}
use Rattle.pt_tree.specs.Path.{Path}
use Rattle.pt_tree.specs.Source.{CanOpen, Reading, after_open, tree_in}
use Rattle.pt_walk.proofs.Paths.{dir_listed, node_below}
use Rattle.pt_walk.specs.Left.{inside_at}
use Rattle.std.proofs.lemmas.List.{length-append}
use Rattle.pt_walk.proofs.Ahead.{inside_lists}
use Rattle.pt_extra.specs.Inventories.{id_by}
use Rattle.serde_json.specs.Data.{null}
use Rattle.serde_json.specs.Read.{read}
use Rattle.std.proofs.lemmas.Str.{is_utf8-from_IsUtf8, IsUtf8-from_is_utf8, IsUtf8-string_bytes}
use Rattle.std.specs.Global.{Global}
use Rattle.std.specs.Prelude.{String}
use Rattle.std.specs.Str.{IsUtf8, is_utf8}
use Rattle.std.specs.String.{string_bytes}

-- ---- the bytes of a file

short : (left : List ℕ) → length left ≤ most_bytes → unless_long left ≡ Some left
short left few = by (nat_le (length left) most_bytes) (grind (arith, few))
  where
    by : (t : Bool) → t ≡ true → cond t (Some left) None ≡ Some left
    by t is = ap (λ (b : Bool). cond b (Some left) None) is

long : (left : List ℕ) → most_bytes < length left → unless_long left ≡ None
long left many = by (nat_le (length left) most_bytes) (grind (arith, many))
  where
    by : (t : Bool) → t ≡ false → cond t (Some left) None ≡ None
    by t is = ap (λ (b : Bool). cond b (Some left) None) is

-- all was read
pub whole_read : (bytes : Vec ℕ) (old : Option Reading) → IsAllLeft old bytes → length bytes.items ≤ most_bytes
    → ForSome (left_in old) (λ left. Some bytes.items ≡ unless_long left)
unfolding IsAllLeft
whole_read bytes old all few left is =
    let same : bytes.items ≡ left = all left is in
    subst (λ (l : List ℕ). Some bytes.items ≡ unless_long l) same (sym (short bytes.items few))

-- there is more than is read
pub more_left : (bytes : List ℕ) (old now : Option Reading) → CameNext bytes old now → most_bytes < length bytes
    → ForSome (left_in old) (λ left. None ≡ unless_long left)
unfolding CameNext
more_left bytes old now came many left is =
    let (rest, now_is, left_is) = came left is in
    let both : length left ≡ length bytes + length rest = ap length left_is ∙ length-append bytes rest in
    sym (long left (omega (arith, both, many)))

-- ---- the file of an inventory

abbrev inventory : List ℕ
inventory = known_text known.Inventory

-- there is none
pub no_inventory : (top : Forest) (folder : Path) (items : List Item) → listing_at top folder ≡ Some items → is_file_kind (kind_in items inventory) ≡ false
    → None ≡ id_of (inside_at top folder)
no_inventory top folder items listed lacks =
    let inside = inside_at top folder in
    let is : is_file_kind (option_map kind_of (find inside inventory)) ≡ false =
    ap is_file_kind (sym (kind_listed inside inventory)) ∙ ap (λ (l : List Item). is_file_kind (kind_in l inventory)) (inside_lists top folder items listed)
    ∙ lacks in
    by (find inside inventory) is
  where
    by : (o : Option Node) → is_file_kind (option_map kind_of o) ≡ false
        → None ≡ option_and_then id_in (option_and_then unless_long (option_and_then as_file o))
    by None is = refl
    by (Some (File bytes)) is = absurd (cc)
    by (Some (Dir inside)) is = refl
    by (Some Other) is = refl

-- the file at its path is the one that is listed
file_is : (top : Forest) (folder : Path) (items : List Item) → listing_at top folder ≡ Some items
    → file_at top (folder ++ inventory ∷ []) ≡ inventory_in (inside_at top folder)
file_is top folder items listed =
    let at = dir_listed top folder items listed in
    let here : inside_at top folder ≡ at.inside = ap (λ (o : Option Forest). unwrap_or o none) at.dir_is in
    ap (option_and_then as_file) (node_below top folder inventory at.inside at.node_is) ∙ ap inventory_in (sym here)

-- it may be opened
pub inventory_stands : (top : Forest) (folder path : Path) (items : List Item) → listing_at top folder ≡ Some items → path ≡ folder ++ inventory ∷ []
    → is_file_kind (kind_in items inventory) ≡ true → IsSome (file_at top path)
inventory_stands top folder path items listed path_is stands =
    let inside = inside_at top folder in
    let is : is_file_kind (option_map kind_of (find inside inventory)) ≡ true =
    ap is_file_kind (sym (kind_listed inside inventory)) ∙ ap (λ (l : List Item). is_file_kind (kind_in l inventory)) (inside_lists top folder items listed)
    ∙ stands in
    ap is_some (ap (file_at top) path_is ∙ file_is top folder items listed) ∙ by (find inside inventory) is
  where
    by : (o : Option Node) → is_file_kind (option_map kind_of o) ≡ true → is_some (option_and_then as_file o) ≡ true
    by None is = absurd (cc)
    by (Some (File bytes)) is = refl
    by (Some (Dir inside)) is = absurd (cc)
    by (Some Other) is = absurd (cc)

pub may_open : (told : Option Reading) (folder path : Path) (items : List Item) → ForSome (tree_in told) (λ tree. listing_at tree folder ≡ Some items)
    → path ≡ folder ++ inventory ∷ [] → is_file_kind (kind_in items inventory) ≡ true → CanOpen told path
unfolding CanOpen
may_open told folder path items listed path_is stands s is = inventory_stands s.tree folder path items (listed s.tree (ap tree_in is)) path_is stands

-- and read then
pub opened_reads : (old new : Option Reading) (path : Path) → CanOpen old path → new ≡ option_map (after_open path) old → Reads new
unfolding CanOpen
opened_reads None new path may is = ap is_reading is
opened_reads (Some s) new path may is = ap is_reading is ∙ may s refl

-- then it is what is left to read
left_opened : (old new : Option Reading) (path : Path) (top : Forest) → new ≡ option_map (after_open path) old → tree_in old ≡ Some top
    → left_in new ≡ file_at top path
left_opened None new path top is told = absurd (cc)
left_opened (Some s) new path top is told = let same : s.tree ≡ top = cc in ap left_in is ∙ ap (λ (t : Forest). file_at t path) same

some_of : (o : Option (List ℕ)) → IsSome o → (bytes : List ℕ) × (o ≡ Some bytes)
some_of None some = absurd (cc)
some_of (Some bytes) some = (bytes, refl)

-- by what was read of it the identifier is known
pub id_read : (old mid : Option Reading) (folder path : Path) (items : List Item) (got : Option (List ℕ))
    → ForSome (tree_in old) (λ tree. listing_at tree folder ≡ Some items) → path ≡ folder ++ inventory ∷ []
    → is_file_kind (kind_in items inventory) ≡ true → mid ≡ option_map (after_open path) old → ForSome (left_in mid) (λ left. got ≡ unless_long left)
    → ForSome (tree_in old) (λ tree. option_and_then id_in got ≡ id_of (inside_at tree folder))
id_read old mid folder path items got listed path_is stands opened reads top told =
    let listed_top = listed top told in
    let left = left_opened old mid path top opened told in
    let (bytes, file) = some_of (file_at top path) (inventory_stands top folder path items listed_top path_is stands) in
    let whole : inventory_in (inside_at top folder) ≡ Some bytes = sym (file_is top folder items listed_top) ∙ ap (file_at top) (sym path_is) ∙ file in
    ap (option_and_then id_in) (reads bytes (left ∙ file)) ∙ ap (λ (o : Option (List ℕ)). option_and_then id_in (option_and_then unless_long o)) (sym whole)

-- ---- the identifier in it

-- bytes that are no text have none
pub not_text : (bytes : List ℕ) → (IsUtf8 bytes → ⊥) → None ≡ id_in bytes
not_text bytes other = by (is_utf8 bytes) refl
  where
    by : (b : Bool) → is_utf8 bytes ≡ b → None ≡ id_in bytes
    by true valid = absurd (other (IsUtf8-from_is_utf8 bytes valid))
    by false valid = sym (ap (λ (b : Bool). id_by (cond b (unwrap_or (read bytes) null) null)) valid)

-- of a text it is that of what is read
pub of_text : (bytes : List ℕ) (text : String Global) → string_bytes text ≡ bytes → id_by (unwrap_or (read (string_bytes text)) null) ≡ id_in bytes
of_text bytes text same =
    let valid : is_utf8 (string_bytes text) ≡ true = is_utf8-from_IsUtf8 (string_bytes text) (IsUtf8-string_bytes text) in
    sym (ap (λ (b : Bool). id_by (cond b (unwrap_or (read (string_bytes text)) null) null)) valid) ∙ ap id_in same

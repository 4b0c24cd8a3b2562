-- The text of each path of an object's files stands in the group of one digest alone, so that digest is claimed for it.
use Rattle.std.proofs.Common.{◌≡◌, ℕ, List, [], ◌∷◌, ◌++◌, Bool, true, false, refl, sym, ◌∙◌, ap, subst, append_assoc, append-nil}
use Rattle.std.specs.Prelude.{All, cond, ◌||◌, ◌&&◌, filter, map, None, Some, slice_index_or}
use Rattle.std.specs.List.{list_any, list_all}
use Rattle.std.specs.Option.{option_and_then, unwrap_or}
use Rattle.std.specs.Str.{bytes_eq}
use Rattle.std.proofs.lemmas.Bool.{true≢false, and_parts, or_left, or_right}
use Rattle.std.proofs.lemmas.List.Elements.{All-cons, All-head, All-nil, All-tail, All-weaker}
use Rattle.serde_json.specs.Data.{null}
use Rattle.pt_tree.specs.Listing.{is_before}
use Rattle.pt_tree.specs.Name.{AreNames}
use Rattle.pt_tree.specs.Path.{Path, joined}
use Rattle.pt_tree.specs.PathOrder.{part_in_order, parts_before}
use Rattle.pt_tree.specs.Pieces.{names_in}
use Rattle.pt_tree.proofs.Cut.{names_back}
use Rattle.pt_tree.proofs.Names.{bytes_eq-sym, name_itself, same_name}
use Rattle.pt_object.specs.Distinct.{row_has_digest}
use Rattle.pt_object.specs.FilePaths.{row_paths}
use Rattle.pt_object.specs.HexDigest.{IsDigest}
use Rattle.pt_object.specs.Inventory.{paths_with, state_members}
use Rattle.pt_object.specs.Rows.{row_of}
use Rattle.pt_object.specs.VersionState.{state_in}
use Rattle.pt_object.specs.declared.algorithm.Algorithm.{Algorithm}
use Rattle.pt_object.specs.declared.rows.Row.{Row}
use Rattle.pt_object.proofs.InventoryText.{inventory_reads}
use Rattle.pt_object.proofs.Manifests.{has}
use Rattle.pt_object.specs.Object.{stored_path}
use Rattle.pt_quick.specs.Claimed.{Claimed, claimed_all, claims_after, fits, no_claims, with_digests, with_text}
use Rattle.pt_quick.specs.ReadAlike.{HasRead}
use Rattle.pt_quick.proofs.Alike.{Knows, alike_with, fits_standing, knows_push}
use Rattle.pt_quick.specs.ClaimedLaws.{InventoryClaimsItsRows}
use Rattle.pt_quick.proofs.ReadBack.{claim_comes, is_one_of}

-- ---- texts of different paths

not_before : (p : Path) → parts_before p p ≡ false
not_before [] = refl
not_before (n ∷ p) = ap (λ b. cond b (parts_before p p) (is_before n n)) (name_itself n) ∙ not_before p

texts_apart : (p q : Path) → AreNames p → AreNames q → parts_before p q ≡ true → bytes_eq (joined p) (joined q) ≡ false
texts_apart p q names_p names_q before = by (bytes_eq (joined p) (joined q)) refl
  where
    by : (t : Bool) → bytes_eq (joined p) (joined q) ≡ t → t ≡ false
    by false is = refl
    by true is =
        let same : p ≡ q = sym (names_back p names_p) ∙ ap names_in (same_name (joined p) (joined q) is) ∙ names_back q names_q in
        absurd (true≢false (sym before ∙ ap (parts_before p) (sym same) ∙ not_before p))

-- no two rows have one text
abbrev AreApart : List Row → Type 0
AreApart [] = Unit {0}
AreApart (r ∷ rows) = All (λ s. bytes_eq (joined r.path) (joined s.path) ≡ false) rows × AreApart rows

before_all : (r : Row) (rows : List Row) → AreNames r.path → All AreNames (row_paths rows) → list_all (parts_before r.path) (row_paths rows) ≡ true
    → All (λ s. bytes_eq (joined r.path) (joined s.path) ≡ false) rows
before_all r [] name names before = All-nil (λ s. bytes_eq (joined r.path) (joined s.path) ≡ false)
before_all r (s ∷ rows) name names before =
    let parts = and_parts _ _ before in
    All-cons (λ s. bytes_eq (joined r.path) (joined s.path) ≡ false) s rows
    (texts_apart r.path s.path name (All-head AreNames s.path (row_paths rows) names) parts.0)
    (before_all r rows name (All-tail AreNames s.path (row_paths rows) names) parts.1)

apart_rows : (rows : List Row) → All AreNames (row_paths rows) → part_in_order (row_paths rows) ≡ true → AreApart rows
apart_rows [] names order = tt
apart_rows (r ∷ rows) names order =
    let parts = and_parts _ _ order in
    let later = All-tail AreNames r.path (row_paths rows) names in
    (before_all r rows (All-head AreNames r.path (row_paths rows) names) later parts.0, apart_rows rows later parts.1)

-- ---- each row's text is its own

both : {X : Type 0} (P Q R : X → Type 0) (xs : List X) → ((x : X) → P x → Q x → R x) → All P xs → All Q xs → All R xs
both P Q R xs f p q = λ k d within. f (slice_index_or xs k d) (p k d within) (q k d within)

-- a row that has this text has this digest
abbrev IsOwn : List ℕ → List ℕ → Row → Type 0
IsOwn text digest r = bytes_eq (joined r.path) text ≡ true → r.digest ≡ digest

-- so each row of these has that of another one of them
abbrev IsOwnIn : List Row → Row → Type 0
IsOwnIn rows row = All (IsOwn (joined row.path) row.digest) rows

own_all : (rows : List Row) → AreApart rows → All (IsOwnIn rows) rows
own_all [] apart = All-nil (IsOwnIn [])
own_all (x ∷ rows) apart =
    All-cons (IsOwnIn (x ∷ rows)) x rows
    (All-cons (IsOwn (joined x.path) x.digest) x rows (λ e. refl)
    (All-weaker (λ s. bytes_eq (joined x.path) (joined s.path) ≡ false) (IsOwn (joined x.path) x.digest)
    (λ s other e. absurd (true≢false (sym e ∙ bytes_eq-sym (joined x.path) (joined s.path) false other))) rows apart.0))
    (both (λ s. bytes_eq (joined x.path) (joined s.path) ≡ false) (IsOwnIn rows) (IsOwnIn (x ∷ rows)) rows
    (λ s other own. All-cons (IsOwn (joined s.path) s.digest) x rows (λ e. absurd (true≢false (sym e ∙ other))) own)
    apart.0 (own_all rows apart.1))

-- the row has this digest and this text
abbrev is_it : List ℕ → List ℕ → Row → Bool
is_it digest text r = row_has_digest digest r && bytes_eq (joined r.path) text

abbrev IsThere : List Row → Row → Type 0
IsThere rows row = list_any (is_it row.digest (joined row.path)) rows ≡ true

there_all : (rows : List Row) → All (IsThere rows) rows
there_all [] = All-nil (IsThere [])
there_all (x ∷ rows) =
    All-cons (IsThere (x ∷ rows)) x rows
    (or_left _ _ (λ i. (name_itself x.digest i && name_itself (joined x.path) i)))
    (All-weaker (IsThere rows) (IsThere (x ∷ rows)) (λ row there. or_right _ _ there) rows (there_all rows))

one_of_is : (digest text : List ℕ) (rows : List Row) → is_one_of text (map joined (paths_with rows digest)) ≡ list_any (is_it digest text) rows
one_of_is digest text [] = refl
one_of_is digest text (x ∷ rows) = by (row_has_digest digest x) (one_of_is digest text rows)
  where
    by : (t : Bool) → is_one_of text (map joined (paths_with rows digest)) ≡ list_any (is_it digest text) rows
        → is_one_of text (map joined (map (λ row. row.path) (cond t (x ∷ filter (row_has_digest digest) rows) (filter (row_has_digest digest) rows))))
        ≡ ((t && bytes_eq (joined x.path) text) || list_any (is_it digest text) rows)
    by true later = ap (λ b. bytes_eq (joined x.path) text || b) later
    by false later = later

-- no row of another digest has the text
none_is : (text digest other : List ℕ) (rows : List Row) → bytes_eq other digest ≡ false → All (IsOwn text digest) rows
    → list_any (is_it other text) rows ≡ false
none_is text digest other [] apart own = refl
none_is text digest other (x ∷ rows) apart own =
    by (row_has_digest other x) refl (bytes_eq (joined x.path) text) refl
    (none_is text digest other rows apart (All-tail (IsOwn text digest) x rows own))
  where
    by : (t : Bool) → row_has_digest other x ≡ t → (u : Bool) → bytes_eq (joined x.path) text ≡ u → list_any (is_it other text) rows ≡ false
        → ((t && u) || list_any (is_it other text) rows) ≡ false
    by false has u is later = later
    by true has false is later = later
    by true has true is later =
        let mine : x.digest ≡ digest = All-head (IsOwn text digest) x rows own is in
        absurd (true≢false (sym (ap (λ (d : List ℕ). bytes_eq d digest) (sym (same_name _ _ has) ∙ mine) ∙ name_itself digest) ∙ apart))

alone_in : (rows : List Row) (row : Row) → IsOwnIn rows row → IsThere rows row → (other : List ℕ)
    → is_one_of (joined row.path) (map joined (paths_with rows other)) ≡ bytes_eq other row.digest
alone_in rows row own there other = one_of_is other (joined row.path) rows ∙ by (bytes_eq other row.digest) refl
  where
    by : (t : Bool) → bytes_eq other row.digest ≡ t → list_any (is_it other (joined row.path)) rows ≡ t
    by true is = ap (λ (d : List ℕ). list_any (is_it d (joined row.path)) rows) (same_name _ _ is) ∙ there
    by false is = none_is (joined row.path) row.digest other rows is own

has_it : (digest text : List ℕ) (rows : List Row) → list_any (is_it digest text) rows ≡ true → has digest rows ≡ true
has_it digest text [] h = h
has_it digest text (x ∷ rows) h = by (row_has_digest digest x) (bytes_eq (joined x.path) text) (has_it digest text rows) h
  where
    by : (t u : Bool) → (list_any (is_it digest text) rows ≡ true → has digest rows ≡ true)
        → ((t && u) || list_any (is_it digest text) rows) ≡ true → (t || has digest rows) ≡ true
    by true u later h = refl
    by false u later h = later h

-- this claims the row's digest for its path
abbrev IsClaimed : Claimed → Row → Type 0
IsClaimed claims row = claims (joined row.path) ≡ Some row.digest

claimed_each : (algorithm : Algorithm) (rows : List Row) → All (λ row. IsDigest algorithm row.digest) rows → AreApart rows
    → All (IsClaimed (claims_after algorithm (state_members rows) no_claims)) rows
claimed_each algorithm rows are apart =
    both (λ row. IsDigest algorithm row.digest) (λ row. IsOwnIn rows row × IsThere rows row)
    (IsClaimed (claims_after algorithm (state_members rows) no_claims)) rows
    (λ row is more. claim_comes algorithm rows (joined row.path) row.digest is (alone_in rows row more.0 more.1) are
    (has_it row.digest (joined row.path) rows more.1)) are
    (both (IsOwnIn rows) (IsThere rows) (λ row. IsOwnIn rows row × IsThere rows row) rows (λ row own there. (own, there)) (own_all rows apart) (there_all rows))

-- ---- all rows

claimed_rows : (read : Path → List ℕ) (claims known : Claimed) (front rows told : List Row) → row_paths told ≡ row_paths rows
    → All (IsClaimed claims) told → Knows read known front → All (HasRead read) rows
    → All (λ row. read (stored_path (front ++ with_digests rows told) row) ≡ read row.path) (with_digests rows told)
    → claimed_all claims known front rows ≡ Some (front ++ with_digests rows told)
claimed_rows read claims known front [] told paths each knows own alike = ap (λ (l : List Row). Some l) (sym (append-nil front))
claimed_rows read claims known front (row ∷ rows) [] paths each knows own alike = absurd (cc)
claimed_rows read claims known front (row ∷ rows) (other ∷ told) paths each knows own alike =
    let path : other.path ≡ row.path = cc in
    let later : row_paths told ≡ row_paths rows = cc in
    let mine : Row = row_of row.path other.digest row.length in
    let all : List Row = front ++ mine ∷ with_digests rows told in
    let P : Row → Type 0 = λ row. read (stored_path all row) ≡ read row.path in
    let read_it : row.digest ≡ read row.path = All-head (HasRead read) row rows own in
    let fit : fits known other.digest row.digest ≡ true =
    fits_standing read known front (with_digests rows told) mine row.digest knows read_it (All-head P mine (with_digests rows told) alike) in
    let here : claims (joined row.path) ≡ Some other.digest =
    ap (λ (p : Path). claims (joined p)) (sym path) ∙ All-head (IsClaimed claims) other told each in
    let next : Knows read (with_text row.digest (Some other.digest) known) (front ++ mine ∷ []) =
    subst (λ (d : List ℕ). Knows read (with_text d (Some other.digest) known) (front ++ mine ∷ [])) (sym read_it)
    (knows_push read known front mine knows (ap (fits known other.digest) (sym read_it) ∙ fit)) in
    let same : (front ++ mine ∷ []) ++ with_digests rows told ≡ all = append_assoc front (mine ∷ []) (with_digests rows told) in
    ap (λ o. option_and_then (λ digest. cond (fits known digest row.digest)
    (claimed_all claims (with_text row.digest (Some digest) known) (front ++ row_of row.path digest row.length ∷ []) rows) None) o) here
    ∙ ap (λ t. cond t (claimed_all claims (with_text row.digest (Some other.digest) known) (front ++ mine ∷ []) rows) None) fit
    ∙ claimed_rows read claims (with_text row.digest (Some other.digest) known) (front ++ mine ∷ []) rows told later
    (All-tail (IsClaimed claims) other told each) next (All-tail (HasRead read) row rows own)
    (subst (λ (l : List Row). All (λ row. read (stored_path l row) ≡ read row.path) (with_digests rows told)) (sym same)
    (All-tail P mine (with_digests rows told) alike))
    ∙ ap (λ (l : List Row). Some l) same

names_of : (told rows : List Row) → row_paths told ≡ row_paths rows → All AreNames (row_paths rows) → All AreNames (row_paths told)
names_of told rows paths names = rw paths names

pub inventory_claims_its_rows : InventoryClaimsItsRows
inventory_claims_its_rows id told rows meta algorithm read paths names order are alike own =
    ap (λ o. option_and_then (λ state. claimed_all (claims_after algorithm state no_claims) no_claims [] rows) (state_in (unwrap_or o null)))
    (inventory_reads id told meta algorithm)
    ∙ claimed_rows read (claims_after algorithm (state_members told) no_claims) no_claims [] rows told paths
    (claimed_each algorithm told are (apart_rows told (names_of told rows paths names) (ap part_in_order paths ∙ order)))
    (λ digest. refl) own (alike_with read rows told paths alike)

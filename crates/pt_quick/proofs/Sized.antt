-- What is claimed are digests of the algorithm, for the paths of the rows.
use Rattle.std.proofs.Common.{◌≡◌, ◌*◌, ℕ, List, [], ◌∷◌, ◌++◌, Bool, true, false, refl, sym, ◌∙◌, ap, subst, append-nil, arith}
use Rattle.std.specs.Prelude.{All, cond, length, Ok, Err, Option, Some, None, Result}
use Rattle.std.specs.Option.{option_and_then, unwrap_or}
use Rattle.std.specs.Result.{result_ok}
use Rattle.std.specs.Str.{bytes_eq}
use Rattle.std.proofs.lemmas.List.Elements.{All-nil, All-push}
use Rattle.hex.specs.Hex.{decode_sized, encode_lower}
use Rattle.hex.specs.declared.error.FromHexError.{FromHexError}
use Rattle.hex.proofs.HexLemmas.{decode_of-ok, decode_sized-ok, decode_sized-twice}
use Rattle.serde_json.specs.Data.{Items, Members, item, member, no_items, no_members, null}
use Rattle.serde_json.specs.Find.{as_array, as_str}
use Rattle.serde_json.specs.Read.{read}
use Rattle.pt_tree.specs.Path.{Path, joined}
use Rattle.pt_object.specs.FilePaths.{row_paths}
use Rattle.pt_object.specs.HexDigest.{IsDigest, digest_size, hex_digest, if_hex_is}
use Rattle.pt_object.specs.Rows.{row_of}
use Rattle.pt_object.specs.VersionState.{state_in}
use Rattle.pt_object.specs.declared.algorithm.Algorithm.{Algorithm}
use Rattle.pt_object.specs.declared.rows.Row.{Row}
use Rattle.pt_quick.specs.Claimed.{Claimed, claimed_all, claimed_in, claims_after, fits, no_claims, with_items, with_list, with_member, with_text}
use Rattle.pt_quick.specs.ReadAlike.{HasRead, ReadAlike}
use Rattle.pt_quick.proofs.Alike.{claimed_alike}

-- ---- what is read in hex

if_is : (algorithm : Algorithm) (bytes digest : List ℕ) (t : Bool) → cond t (Some bytes) None ≡ Some digest → IsDigest algorithm bytes
    → IsDigest algorithm digest
if_is algorithm bytes digest false e is = absurd (cc)
if_is algorithm bytes digest true e is = let same : bytes ≡ digest = cc in subst (IsDigest algorithm) same is

half : (a b c : ℕ) → c ≡ 2 * a → c ≡ 2 * b → b ≡ a
half a b c h k = omega arith

pub digest_is : (algorithm : Algorithm) (text digest : List ℕ) → hex_digest algorithm text ≡ Some digest → IsDigest algorithm digest
digest_is algorithm text digest is = by (decode_sized text (digest_size algorithm)) refl is
  where
    by : (r : Result (List ℕ) FromHexError) → decode_sized text (digest_size algorithm) ≡ r
        → option_and_then (if_hex_is text) (result_ok r) ≡ Some digest → IsDigest algorithm digest
    by (Err e) read is = absurd (cc)
    by (Ok bytes) read is =
        let long : length text ≡ 2 * digest_size algorithm = decode_sized-ok text (digest_size algorithm) bytes read in
        let ok = decode_of-ok text bytes (sym (decode_sized-twice text (digest_size algorithm) long) ∙ read) in
        if_is algorithm bytes digest (bytes_eq (encode_lower bytes) text) is
        (record { bytes = ok.3; size = half (digest_size algorithm) (length bytes) (length text) long ok.2 })

-- ---- what is claimed

abbrev AreSized : Algorithm → Claimed → Type 0
AreSized algorithm claims = (text digest : List ℕ) → claims text ≡ Some digest → IsDigest algorithm digest

sized_text : (algorithm : Algorithm) (digest : List ℕ) (o : Option (List ℕ)) (claims : Claimed) → IsDigest algorithm digest → AreSized algorithm claims
    → AreSized algorithm (with_text digest o claims)
sized_text algorithm digest None claims is all = all
sized_text algorithm digest (Some one) claims is all = λ text other h. by text other (bytes_eq one text) h
  where
    by : (text other : List ℕ) → (t : Bool) → cond t (Some digest) (claims text) ≡ Some other → IsDigest algorithm other
    by text other true h = let same : digest ≡ other = cc in subst (IsDigest algorithm) same is
    by text other false h = all text other h

sized_items : (algorithm : Algorithm) (digest : List ℕ) (items : Items) (claims : Claimed) → IsDigest algorithm digest → AreSized algorithm claims
    → AreSized algorithm (with_items digest items claims)
sized_items algorithm digest no_items claims is all = all
sized_items algorithm digest (item d items) claims is all =
    sized_items algorithm digest items (with_text digest (as_str d) claims) is (sized_text algorithm digest (as_str d) claims is all)

sized_list : (algorithm : Algorithm) (o : Option (List ℕ)) (items : Option Items) (claims : Claimed)
    → ((digest : List ℕ) → o ≡ Some digest → IsDigest algorithm digest) → AreSized algorithm claims → AreSized algorithm (with_list o items claims)
sized_list algorithm (Some digest) (Some items) claims is all = sized_items algorithm digest items claims (is digest refl) all
sized_list algorithm (Some digest) None claims is all = all
sized_list algorithm None (Some items) claims is all = all
sized_list algorithm None None claims is all = all

sized_after : (algorithm : Algorithm) (state : Members) (claims : Claimed) → AreSized algorithm claims
    → AreSized algorithm (claims_after algorithm state claims)
sized_after algorithm no_members claims all = all
sized_after algorithm (member key paths state) claims all =
    sized_after algorithm state (with_member algorithm key paths claims)
    (sized_list algorithm (hex_digest algorithm key) (as_array paths) claims (λ digest is. digest_is algorithm key digest is) all)

-- ---- the rows with it

-- these rows have digests of the algorithm, and their paths are these
record AreRows (algorithm : Algorithm) (rows : List Row) (paths : List Path) : Type 0 where
  paths_are : row_paths rows ≡ paths
  digests : All (λ row. IsDigest algorithm row.digest) rows

paths_push : (front : List Row) (row : Row) (later : List Path) → row_paths (front ++ row ∷ []) ++ later ≡ row_paths front ++ row.path ∷ later
paths_push [] row later = refl
paths_push (x ∷ front) row later = ap (λ (l : List Path). x.path ∷ l) (paths_push front row later)

rows_claimed : (algorithm : Algorithm) (claims known : Claimed) (front rows all : List Row) → AreSized algorithm claims
    → All (λ row. IsDigest algorithm row.digest) front → claimed_all claims known front rows ≡ Some all
    → AreRows algorithm all (row_paths front ++ row_paths rows)
rows_claimed algorithm claims known front [] all sized are is =
    let same : front ≡ all = cc in
    subst (λ (l : List Row). AreRows algorithm l (row_paths front ++ [])) same
    (record { paths_are = sym (append-nil (row_paths front)); digests = are })
rows_claimed algorithm claims known front (row ∷ rows) all sized are is =
    by (claims (joined row.path)) refl is
    (λ digest. rows_claimed algorithm claims (with_text row.digest (Some digest) known) (front ++ row_of row.path digest row.length ∷ []) rows all sized)
  where
    Later : List ℕ → Type 0
    Later digest = All (λ row. IsDigest algorithm row.digest) (front ++ row_of row.path digest row.length ∷ [])
        → claimed_all claims (with_text row.digest (Some digest) known) (front ++ row_of row.path digest row.length ∷ []) rows ≡ Some all
        → AreRows algorithm all (row_paths (front ++ row_of row.path digest row.length ∷ []) ++ row_paths rows)

    on : (digest : List ℕ) (t : Bool) → IsDigest algorithm digest
        → cond t (claimed_all claims (with_text row.digest (Some digest) known) (front ++ row_of row.path digest row.length ∷ []) rows) None ≡ Some all
        → Later digest → AreRows algorithm all (row_paths front ++ row.path ∷ row_paths rows)
    on digest false one is later = absurd (cc)
    on digest true one is later =
        let mine : Row = row_of row.path digest row.length in
        subst (AreRows algorithm all) (paths_push front mine (row_paths rows))
        (later (All-push (λ row. IsDigest algorithm row.digest) front mine are one) is)

    by : (o : Option (List ℕ)) → claims (joined row.path) ≡ o → option_and_then (λ digest. cond (fits known digest row.digest)
        (claimed_all claims (with_text row.digest (Some digest) known) (front ++ row_of row.path digest row.length ∷ []) rows) None) o ≡ Some all
        → ((digest : List ℕ) → Later digest) → AreRows algorithm all (row_paths front ++ row.path ∷ row_paths rows)
    by None told is later = absurd (cc)
    by (Some digest) told is later = on digest (fits known digest row.digest) (sized (joined row.path) digest told) is (later digest)

-- the rows that an inventory claims have their paths, and digests of its algorithm
rows_in : (algorithm : Algorithm) (state : Option Members) (rows all : List Row)
    → option_and_then (λ state. claimed_all (claims_after algorithm state no_claims) no_claims [] rows) state ≡ Some all
    → AreRows algorithm all (row_paths rows)
rows_in algorithm None rows all is = absurd (cc)
rows_in algorithm (Some state) rows all is =
    rows_claimed algorithm (claims_after algorithm state no_claims) no_claims [] rows all
    (sized_after algorithm state no_claims (λ text digest h. absurd (cc))) (All-nil (λ row. IsDigest algorithm row.digest)) is

pub same_paths : (algorithm : Algorithm) (inventory : List ℕ) (rows all : List Row) → claimed_in algorithm inventory rows ≡ Some all
    → row_paths all ≡ row_paths rows
same_paths algorithm inventory rows all is = (rows_in algorithm (state_in (unwrap_or (read inventory) null)) rows all is).paths_are

pub have_digests : (algorithm : Algorithm) (inventory : List ℕ) (rows all : List Row) → claimed_in algorithm inventory rows ≡ Some all
    → All (λ row. IsDigest algorithm row.digest) all
have_digests algorithm inventory rows all is = (rows_in algorithm (state_in (unwrap_or (read inventory) null)) rows all is).digests

-- and those with one of these digests were read alike
alike_in : (algorithm : Algorithm) (read : Path → List ℕ) (state : Option Members) (rows all : List Row) → All (HasRead read) rows
    → option_and_then (λ state. claimed_all (claims_after algorithm state no_claims) no_claims [] rows) state ≡ Some all → ReadAlike read all
alike_in algorithm read None rows all own is = absurd (cc)
alike_in algorithm read (Some state) rows all own is =
    claimed_alike read (claims_after algorithm state no_claims) no_claims [] rows all (λ digest. refl)
    (All-nil (λ row. None ≡ Some (read row.path))) own is

pub are_alike : (algorithm : Algorithm) (inventory : List ℕ) (read : Path → List ℕ) (rows all : List Row) → All (HasRead read) rows
    → claimed_in algorithm inventory rows ≡ Some all → ReadAlike read all
are_alike algorithm inventory digest rows all own is = alike_in algorithm digest (state_in (unwrap_or (read inventory) null)) rows all own is

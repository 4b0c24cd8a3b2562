-- What the manifest has under a digest, and which files are stored.
use Rattle.std.proofs.Common.{◌≡◌, ℕ, List, [], ◌∷◌, ◌++◌, fold, Bool, true, false, refl, sym, ◌∙◌, ap}
use Rattle.std.specs.Prelude.{cond, ◌||◌, map, Some}
use Rattle.std.specs.List.{list_any}
use Rattle.std.specs.Str.{bytes_eq}
use Rattle.std.proofs.lemmas.Bool.{true≢false, false≢true, or_left, or_right, or_from}
use Rattle.std.proofs.lemmas.List.Folds.{list_any-append}
use Rattle.std.proofs.Math.Bool.{or-false}
use Rattle.hex.specs.Hex.{encode_lower}
use Rattle.serde_json.specs.Data.{array, Members}
use Rattle.serde_json.specs.Find.{get_member}
use Rattle.serde_json.proofs.Views.{get_member-put, get_member-put_other}
use Rattle.pt_tree.specs.Path.{same_path}
use Rattle.pt_object.specs.Algorithm.{digest_of}
use Rattle.pt_object.specs.Distinct.{content_of_row, distinct_after, row_has_digest}
use Rattle.pt_object.specs.FilePaths.{File}
use Rattle.pt_object.specs.Inventory.{content_path, put_content, texts}
use Rattle.pt_object.specs.Object.{row_of_file, rows_of}
use Rattle.pt_object.specs.declared.algorithm.Algorithm.{Algorithm}
use Rattle.pt_object.specs.declared.rows.Row.{Row}
use Rattle.pt_object.proofs.DigestKeys.{one_digest}
use Rattle.pt_object.proofs.Stored.{first_with}
use Rattle.pt_object.proofs.Ways.{path_itself, same_name, name_itself}

-- a row has the digest
abbrev pub has : List ℕ → List Row → Bool
has digest rows = list_any (row_has_digest digest) rows

pub has-push : (digest : List ℕ) (earlier : List Row) (row : Row) → has digest (earlier ++ row ∷ []) ≡ (has digest earlier || bytes_eq row.digest digest)
has-push digest earlier row = list_any-append (row_has_digest digest) earlier (row ∷ [])
    ∙ ap (λ b. has digest earlier || b) (or-false (bytes_eq row.digest digest))

pub has_still : (digest : List ℕ) (earlier : List Row) (row : Row) → has digest earlier ≡ true → has digest (earlier ++ row ∷ []) ≡ true
has_still digest earlier row h = has-push digest earlier row ∙ or_left _ _ h

pub has_now : (digest : List ℕ) (earlier : List Row) (row : Row) → bytes_eq row.digest digest ≡ true → has digest (earlier ++ row ∷ []) ≡ true
has_now digest earlier row h = has-push digest earlier row ∙ or_right _ _ h

pub has_not_yet : (digest : List ℕ) (earlier : List Row) (row : Row) → has digest earlier ≡ false → bytes_eq row.digest digest ≡ false
    → has digest (earlier ++ row ∷ []) ≡ false
has_not_yet digest earlier row h k = has-push digest earlier row ∙ or_from _ _ h k

-- what one of them has and the other hasn't, isn't one digest
pub unlike : (d e : List ℕ) (earlier : List Row) (b c : Bool) → has d earlier ≡ b → has e earlier ≡ c → (b ≡ c → ⊥) → bytes_eq d e ≡ false
unlike d e earlier b c is_b is_c differ = by (bytes_eq d e) refl
  where
    by : (t : Bool) → bytes_eq d e ≡ t → t ≡ false
    by true same = absurd (differ (sym is_b ∙ ap (λ (x : List ℕ). has x earlier) (same_name d e same) ∙ is_c))
    by false other = refl

pub other_key : (algorithm : Algorithm) (a b : List ℕ) → bytes_eq (digest_of algorithm b) (digest_of algorithm a) ≡ false
    → encode_lower (digest_of algorithm a) ≡ encode_lower (digest_of algorithm b) → ⊥
other_key algorithm a b apart same =
    true≢false (sym (name_itself (digest_of algorithm b)) ∙ ap (bytes_eq (digest_of algorithm b)) (sym (one_digest algorithm a b same)) ∙ apart)

-- the distinct ones behind one more file
abbrev rest_after : Algorithm → List Row → File → List File → List Row
rest_after algorithm earlier x files = distinct_after (earlier ++ row_of_file algorithm x ∷ []) (rows_of algorithm files)

-- the manifest goes on so for the files after some rows
abbrev pub manifest_after : Algorithm → List Row → List File → Members → Members
manifest_after algorithm earlier files ms = fold put_content ms (map content_of_row (distinct_after earlier (rows_of algorithm files)))

pub manifest_keeps : (algorithm : Algorithm) (bytes : List ℕ) (earlier : List Row) (files : List File) (ms : Members)
    → has (digest_of algorithm bytes) earlier ≡ true
    → get_member (encode_lower (digest_of algorithm bytes)) (manifest_after algorithm earlier files ms)
    ≡ get_member (encode_lower (digest_of algorithm bytes)) ms
manifest_keeps algorithm bytes earlier [] ms known = refl
manifest_keeps algorithm bytes earlier (x ∷ files) ms known =
    by (has (digest_of algorithm x.1) earlier) refl
    (manifest_keeps algorithm bytes (earlier ++ row_of_file algorithm x ∷ []) files ms
    (has_still (digest_of algorithm bytes) earlier (row_of_file algorithm x) known))
    (manifest_keeps algorithm bytes (earlier ++ row_of_file algorithm x ∷ []) files (put_content ms (content_of_row (row_of_file algorithm x)))
    (has_still (digest_of algorithm bytes) earlier (row_of_file algorithm x) known))
  where
    by : (t : Bool) → has (digest_of algorithm x.1) earlier ≡ t
        → get_member (encode_lower (digest_of algorithm bytes)) (manifest_after algorithm (earlier ++ row_of_file algorithm x ∷ []) files ms)
        ≡ get_member (encode_lower (digest_of algorithm bytes)) ms
        → get_member (encode_lower (digest_of algorithm bytes)) (manifest_after algorithm (earlier ++ row_of_file algorithm x ∷ []) files
        (put_content ms (content_of_row (row_of_file algorithm x))))
        ≡ get_member (encode_lower (digest_of algorithm bytes)) (put_content ms (content_of_row (row_of_file algorithm x)))
        → get_member (encode_lower (digest_of algorithm bytes)) (fold put_content ms
        (map content_of_row (cond t (distinct_after (earlier ++ row_of_file algorithm x ∷ []) (rows_of algorithm files))
        (row_of_file algorithm x ∷ distinct_after (earlier ++ row_of_file algorithm x ∷ []) (rows_of algorithm files)))))
        ≡ get_member (encode_lower (digest_of algorithm bytes)) ms
    by true is same later = same
    by false is same later =
        later ∙ get_member-put_other (encode_lower (digest_of algorithm bytes)) (encode_lower (digest_of algorithm x.1)) _ ms
        (other_key algorithm bytes x.1 (unlike (digest_of algorithm x.1) (digest_of algorithm bytes) earlier false true is known (λ h. false≢true h)))

pub manifest_has : (algorithm : Algorithm) (bytes : List ℕ) (earlier : List Row) (files : List File) (ms : Members) (g : File)
    → has (digest_of algorithm bytes) earlier ≡ false → first_with algorithm files (digest_of algorithm bytes) ≡ Some g
    → get_member (encode_lower (digest_of algorithm bytes)) (manifest_after algorithm earlier files ms) ≡ Some (array (texts (content_path g.0 ∷ [])))
manifest_has algorithm bytes earlier [] ms g new found = absurd (cc)
manifest_has algorithm bytes earlier (x ∷ files) ms g new found =
    by (has (digest_of algorithm x.1) earlier) (bytes_eq (digest_of algorithm x.1) (digest_of algorithm bytes)) refl refl found
    (λ ms' apart later. manifest_has algorithm bytes (earlier ++ row_of_file algorithm x ∷ []) files ms' g
    (has_not_yet (digest_of algorithm bytes) earlier (row_of_file algorithm x) new apart) later)
  where
    by : (t s : Bool) → has (digest_of algorithm x.1) earlier ≡ t → bytes_eq (digest_of algorithm x.1) (digest_of algorithm bytes) ≡ s
        → cond s (Some x) (first_with algorithm files (digest_of algorithm bytes)) ≡ Some g
        → ((ms' : Members) → bytes_eq (digest_of algorithm x.1) (digest_of algorithm bytes) ≡ false
        → first_with algorithm files (digest_of algorithm bytes) ≡ Some g
        → get_member (encode_lower (digest_of algorithm bytes)) (fold put_content ms' (map content_of_row (rest_after algorithm earlier x files)))
        ≡ Some (array (texts (content_path g.0 ∷ []))))
        → get_member (encode_lower (digest_of algorithm bytes)) (fold put_content ms
        (map content_of_row (cond t (rest_after algorithm earlier x files) (row_of_file algorithm x ∷ rest_after algorithm earlier x files))))
        ≡ Some (array (texts (content_path g.0 ∷ [])))
    by true true is same e later = absurd (true≢false (sym is ∙ ap (λ (d : List ℕ). has d earlier) (same_name _ _ same) ∙ new))
    by true false is other e later = later ms other e
    by false true is same e later =
        let here : x ≡ g = cc in
        let one : digest_of algorithm x.1 ≡ digest_of algorithm bytes = same_name _ _ same in
        manifest_keeps algorithm bytes (earlier ++ row_of_file algorithm x ∷ []) files (put_content ms (content_of_row (row_of_file algorithm x)))
        (has_now (digest_of algorithm bytes) earlier (row_of_file algorithm x) same)
        ∙ ap (λ (d : List ℕ). get_member (encode_lower d) (put_content ms (content_of_row (row_of_file algorithm x)))) (sym one)
        ∙ get_member-put (encode_lower (digest_of algorithm x.1)) (array (texts (content_path x.0 ∷ []))) ms
        ∙ ap (λ (f : File). Some (array (texts (content_path f.0 ∷ [])))) here
    by false false is other e later = later (put_content ms (content_of_row (row_of_file algorithm x))) other e

-- the first file with a digest is among the distinct ones
pub first_is_distinct : (algorithm : Algorithm) (digest : List ℕ) (earlier : List Row) (files : List File) (g : File) → has digest earlier ≡ false
    → first_with algorithm files digest ≡ Some g
    → list_any (λ row. same_path g.0 row.path) (distinct_after earlier (rows_of algorithm files)) ≡ true
first_is_distinct algorithm digest earlier [] g new found = absurd (cc)
first_is_distinct algorithm digest earlier (x ∷ files) g new found =
    by (has (digest_of algorithm x.1) earlier) (bytes_eq (digest_of algorithm x.1) digest) refl refl found
    (λ apart later. first_is_distinct algorithm digest (earlier ++ row_of_file algorithm x ∷ []) files g
    (has_not_yet digest earlier (row_of_file algorithm x) new apart) later)
  where
    by : (t s : Bool) → has (digest_of algorithm x.1) earlier ≡ t → bytes_eq (digest_of algorithm x.1) digest ≡ s
        → cond s (Some x) (first_with algorithm files digest) ≡ Some g
        → (bytes_eq (digest_of algorithm x.1) digest ≡ false → first_with algorithm files digest ≡ Some g
        → list_any (λ row. same_path g.0 row.path) (rest_after algorithm earlier x files) ≡ true)
        → list_any (λ row. same_path g.0 row.path) (cond t (rest_after algorithm earlier x files)
        (row_of_file algorithm x ∷ rest_after algorithm earlier x files)) ≡ true
    by true true is same e later = absurd (true≢false (sym is ∙ ap (λ (d : List ℕ). has d earlier) (same_name _ _ same) ∙ new))
    by true false is other e later = later other e
    by false true is same e later =
        let here : x ≡ g = cc in
        or_left _ _ (ap (λ (f : File). same_path f.0 x.0) (sym here) ∙ path_itself x.0)
    by false false is other e later = or_right _ _ (later other e)

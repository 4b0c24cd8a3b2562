-- The state of an inventory: a group of logical paths for each digest.
use Rattle.std.proofs.Common.{◌≡◌, ℕ, List, [], ◌∷◌, ◌++◌, fold, Bool, true, false, refl, sym, ◌∙◌, ap, subst, append_assoc, inl, inr}
use Rattle.std.specs.Prelude.{cond, ◌||◌, find, map, Some, is_some}
use Rattle.std.specs.Str.{bytes_eq}
use Rattle.std.specs.declared.cmp.Ordering.{Ordering}
use Rattle.std.specs.declared.cmp.Ordering.TheVariants.{Less, Equal, Greater}
use Rattle.std.specs.Ordering.{is_eq, nat_cmp, match_ordering}
use Rattle.std.specs.Cmp.Lexicographic.{slice_cmp}
use Rattle.std.proofs.lemmas.Bool.{true≢false, cases_Bool}
use Rattle.std.proofs.lemmas.Map.Text.{is_eq-slice_cmp}
use Rattle.hex.specs.Hex.{encode_lower}
use Rattle.serde_json.specs.Data.{Data, array, Members, no_members, member, put}
use Rattle.serde_json.specs.Find.{get_member}
use Rattle.serde_json.proofs.Views.{get_member-put, get_member-put_other}
use Rattle.pt_tree.specs.Path.{joined}
use Rattle.pt_object.specs.Algorithm.{digest_of}
use Rattle.pt_object.specs.Distinct.{content_of_row, distinct_after}
use Rattle.pt_object.specs.FilePaths.{File}
use Rattle.pt_object.specs.Inventory.{paths_with, put_paths, texts}
use Rattle.pt_object.specs.Object.{row_of_file, rows_of}
use Rattle.pt_object.specs.declared.algorithm.Algorithm.{Algorithm}
use Rattle.pt_object.specs.declared.rows.Row.{Row}
use Rattle.pt_object.proofs.Manifests.{has, has-push}
use Rattle.pt_object.proofs.Stored.{first_with}
use Rattle.pt_object.proofs.Texts.{IsBelow}
use Rattle.pt_object.proofs.Ways.{bytes_eq-sym, name_itself, same_name}

-- the paths under the key are those of the files with one digest, and there is such a file
pub record IsGroup (algorithm : Algorithm) (files : List File) (key : List ℕ) (d : Data) : Type 0 where
  pub bytes : List ℕ
  pub first : File
  pub found : first_with algorithm files (digest_of algorithm bytes) ≡ Some first
  pub keyed : key ≡ encode_lower (digest_of algorithm bytes)
  pub paths : d ≡ array (texts (map joined (paths_with (rows_of algorithm files) (digest_of algorithm bytes))))

abbrev pub AreGroups : Algorithm → List File → Members → Type 0
AreGroups algorithm files no_members = Unit {0}
AreGroups algorithm files (member key d ms) = IsGroup algorithm files key d × AreGroups algorithm files ms

same_text : (k l : List ℕ) → slice_cmp nat_cmp k l ≡ Equal → k ≡ l
same_text k l is = same_name k l (sym (is_eq-slice_cmp k l) ∙ ap is_eq is)

groups_put : (algorithm : Algorithm) (files : List File) (key : List ℕ) (d : Data) (ms : Members) → IsGroup algorithm files key d → AreGroups algorithm files ms
    → AreGroups algorithm files (put key d ms)
groups_put algorithm files key d no_members is groups = (is, tt)
groups_put algorithm files key d (member l e ms) is groups = by (slice_cmp nat_cmp key l) refl (groups_put algorithm files key d ms is groups.1)
  where
    by : (o : Ordering) → slice_cmp nat_cmp key l ≡ o → AreGroups algorithm files (put key d ms)
        → AreGroups algorithm files (match_ordering o (member key d (member l e ms)) (member l d ms) (member l e (put key d ms)))
    by Less at later = (is, groups)
    by Equal at later = (subst (λ (k : List ℕ). IsGroup algorithm files k d) (same_text key l at) is, groups.1)
    by Greater at later = (groups.0, later)

-- each of these files is found among all by its digest
abbrev pub AreFound : Algorithm → List File → List File → Type 0
AreFound algorithm files [] = Unit {0}
AreFound algorithm files (f ∷ some) = ((g : File) × (first_with algorithm files (digest_of algorithm f.1) ≡ Some g)) × AreFound algorithm files some

found_there : (test : File → Bool) (before after : List File) (f : File) → test f ≡ true → (g : File) × (find test (before ++ f ∷ after) ≡ Some g)
found_there test [] after f h = (f, ap (λ t. cond t (Some f) (find test after)) h)
found_there test (x ∷ before) after f h = by (test x) (found_there test before after f h)
  where
    by : (t : Bool) → (g : File) × (find test (before ++ f ∷ after) ≡ Some g) → (g : File) × (cond t (Some x) (find test (before ++ f ∷ after)) ≡ Some g)
    by true later = (x, refl)
    by false later = later

found_after : (algorithm : Algorithm) (before after : List File) → AreFound algorithm (before ++ after) after
found_after algorithm before [] = tt
found_after algorithm before (f ∷ after) = (
  found_there (λ file. bytes_eq (digest_of algorithm file.1) (digest_of algorithm f.1)) before after f (name_itself (digest_of algorithm f.1)),
  subst (λ (l : List File). AreFound algorithm l after) (append_assoc before (f ∷ []) after) (found_after algorithm (before ++ f ∷ []) after),
)

pub all_found : (algorithm : Algorithm) (files : List File) → AreFound algorithm files files
all_found algorithm files = found_after algorithm [] files

-- the state goes on so for some files after some rows
abbrev pub state_after : Algorithm → List File → List Row → List File → Members → Members
state_after algorithm files earlier some ms = fold (put_paths (rows_of algorithm files)) ms
    (map content_of_row (distinct_after earlier (rows_of algorithm some)))

pub groups_after : (algorithm : Algorithm) (files : List File) (earlier : List Row) (some : List File) (ms : Members) → AreFound algorithm files some
    → AreGroups algorithm files ms → AreGroups algorithm files (state_after algorithm files earlier some ms)
groups_after algorithm files earlier [] ms found groups = groups
groups_after algorithm files earlier (x ∷ some) ms found groups =
    by (has (digest_of algorithm x.1) earlier)
    (groups_after algorithm files (earlier ++ row_of_file algorithm x ∷ []) some ms found.1 groups)
    (groups_after algorithm files (earlier ++ row_of_file algorithm x ∷ []) some
    (put_paths (rows_of algorithm files) ms (content_of_row (row_of_file algorithm x))) found.1
    (groups_put algorithm files (encode_lower (digest_of algorithm x.1)) _ ms
    (record { bytes = x.1; first = found.0.0; found = found.0.1; keyed = refl; paths = refl }) groups))
  where
    by : (t : Bool) → AreGroups algorithm files (state_after algorithm files (earlier ++ row_of_file algorithm x ∷ []) some ms)
        → AreGroups algorithm files (state_after algorithm files (earlier ++ row_of_file algorithm x ∷ []) some
        (put_paths (rows_of algorithm files) ms (content_of_row (row_of_file algorithm x))))
        → AreGroups algorithm files (fold (put_paths (rows_of algorithm files)) ms
        (map content_of_row (cond t (distinct_after (earlier ++ row_of_file algorithm x ∷ []) (rows_of algorithm some))
        (row_of_file algorithm x ∷ distinct_after (earlier ++ row_of_file algorithm x ∷ []) (rows_of algorithm some)))))
    by true same later = same
    by false same later = later

-- ---- which keys there are

abbrev pub has_key : List ℕ → Members → Bool
has_key key ms = is_some (get_member key ms)

pub has_key-member : (q k : List ℕ) (d : Data) (ms : Members) → has_key q (member k d ms) ≡ (bytes_eq k q || has_key q ms)
has_key-member q k d ms = by (slice_cmp nat_cmp q k) ∙ ap (λ b. b || has_key q ms) (is_eq-slice_cmp q k ∙ bytes_eq-sym k q (bytes_eq k q) refl)
  where
    by : (o : Ordering) → is_some (match_ordering o (get_member q ms) (Some d) (get_member q ms)) ≡ (is_eq o || has_key q ms)
    by Less = refl
    by Equal = refl
    by Greater = refl

-- a key that comes before all isn't one of them
pub no_key : (k : List ℕ) (ms : Members) → IsBelow k ms → has_key k ms ≡ false
no_key k no_members below = refl
no_key k (member l e ms) below = ap (λ o. is_some (match_ordering o (get_member k ms) (Some e) (get_member k ms))) below.0 ∙ no_key k ms below.1

has_key-put : (k : List ℕ) (d : Data) (ms : Members) → has_key k (put k d ms) ≡ true
has_key-put k d ms = ap is_some (get_member-put k d ms)

still_key : (q k : List ℕ) (d : Data) (ms : Members) → has_key q ms ≡ true → has_key q (put k d ms) ≡ true
still_key q k d ms h = by (bytes_eq q k) refl
  where
    by : (t : Bool) → bytes_eq q k ≡ t → has_key q (put k d ms) ≡ true
    by true same = ap (λ (x : List ℕ). has_key x (put k d ms)) (same_name q k same) ∙ has_key-put k d ms
    by false other = ap is_some (get_member-put_other q k d ms (λ e. true≢false (sym (ap (bytes_eq q) (sym e) ∙ name_itself q) ∙ other))) ∙ h

key_of_one : (a b c : Bool) → (a || (b || c)) ≡ true → ((a || b) || c) ≡ true
key_of_one true b c h = refl
key_of_one false b c h = h

nothing_more : (a : Bool) → (a || false) ≡ true → a ≡ true
nothing_more true h = refl
nothing_more false h = h

-- each digest of the files, and each that the earlier rows have, is a key of the state
pub keys_after : (algorithm : Algorithm) (files : List File) (digest : List ℕ) (earlier : List Row) (some : List File) (ms : Members)
    → (has digest earlier ≡ true → has_key (encode_lower digest) ms ≡ true)
    → (has digest earlier || has digest (rows_of algorithm some)) ≡ true → has_key (encode_lower digest) (state_after algorithm files earlier some ms) ≡ true
keys_after algorithm files digest earlier [] ms so_far h = so_far (nothing_more (has digest earlier) h)
keys_after algorithm files digest earlier (x ∷ some) ms so_far h =
    by (has (digest_of algorithm x.1) earlier) refl
    (λ ms' so. keys_after algorithm files digest (earlier ++ row_of_file algorithm x ∷ []) some ms' so
    (ap (λ b. b || has digest (rows_of algorithm some)) (has-push digest earlier (row_of_file algorithm x))
    ∙ key_of_one (has digest earlier) (bytes_eq (digest_of algorithm x.1) digest) (has digest (rows_of algorithm some)) h))
  where
    known : has (digest_of algorithm x.1) earlier ≡ true → has digest (earlier ++ row_of_file algorithm x ∷ []) ≡ true → has_key (encode_lower digest) ms ≡ true
    known is now = elim (cases_Bool (bytes_eq (digest_of algorithm x.1) digest)) [
      | inl same ↦ so_far (ap (λ (d : List ℕ). has d earlier) (sym (same_name _ _ same)) ∙ is)
      | inr other ↦ so_far (nothing_more (has digest earlier) (ap (λ b. has digest earlier || b) (sym other)
          ∙ sym (has-push digest earlier (row_of_file algorithm x)) ∙ now))
    ]

    added : has digest (earlier ++ row_of_file algorithm x ∷ []) ≡ true
        → has_key (encode_lower digest) (put_paths (rows_of algorithm files) ms (content_of_row (row_of_file algorithm x))) ≡ true
    added now = elim (cases_Bool (bytes_eq (digest_of algorithm x.1) digest)) [
      | inl same ↦
          ap (λ (d : List ℕ). has_key (encode_lower d) (put_paths (rows_of algorithm files) ms (content_of_row (row_of_file algorithm x))))
          (sym (same_name _ _ same))
          ∙ has_key-put (encode_lower (digest_of algorithm x.1)) _ ms
      | inr other ↦
          still_key (encode_lower digest) (encode_lower (digest_of algorithm x.1)) _ ms
          (so_far (nothing_more (has digest earlier) (ap (λ b. has digest earlier || b) (sym other) ∙ sym (has-push digest earlier (row_of_file algorithm x))
          ∙ now)))
    ]

    by : (t : Bool) → has (digest_of algorithm x.1) earlier ≡ t
        → ((ms' : Members) → (has digest (earlier ++ row_of_file algorithm x ∷ []) ≡ true → has_key (encode_lower digest) ms' ≡ true)
        → has_key (encode_lower digest) (state_after algorithm files (earlier ++ row_of_file algorithm x ∷ []) some ms') ≡ true)
        → has_key (encode_lower digest) (fold (put_paths (rows_of algorithm files)) ms
        (map content_of_row (cond t (distinct_after (earlier ++ row_of_file algorithm x ∷ []) (rows_of algorithm some))
        (row_of_file algorithm x ∷ distinct_after (earlier ++ row_of_file algorithm x ∷ []) (rows_of algorithm some))))) ≡ true
    by true is later = later ms (known is)
    by false is later = later (put_paths (rows_of algorithm files) ms (content_of_row (row_of_file algorithm x))) added

-- where a file is found by a digest, a row has it
pub row_of_found : (algorithm : Algorithm) (digest : List ℕ) (files : List File) (g : File) → first_with algorithm files digest ≡ Some g
    → has digest (rows_of algorithm files) ≡ true
row_of_found algorithm digest [] g is = absurd (cc)
row_of_found algorithm digest (x ∷ files) g is = by (bytes_eq (digest_of algorithm x.1) digest) (λ e. row_of_found algorithm digest files g e) is
  where
    by : (t : Bool) → (first_with algorithm files digest ≡ Some g → has digest (rows_of algorithm files) ≡ true)
        → cond t (Some x) (first_with algorithm files digest) ≡ Some g → (t || has digest (rows_of algorithm files)) ≡ true
    by true later e = refl
    by false later e = later e

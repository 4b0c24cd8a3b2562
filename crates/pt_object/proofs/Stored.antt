-- What an object holds where its inventory says that a content is stored.
use Rattle.std.proofs.Common.{◌≡◌, ℕ, List, [], ◌∷◌, Bool, true, false, refl, sym, ◌∙◌, ap, subst}
use Rattle.std.specs.Prelude.{All, cond, ◌==◌, codes, find, Option, None, Some, is_none, is_some, length, nat_lt}
use Rattle.std.specs.List.{list_all, list_any, onto_first}
use Rattle.std.specs.Str.{bytes_eq, is_utf8}
use Rattle.std.proofs.lemmas.Bool.{true≢false, false≢true, and_parts, or_parts}
use Rattle.std.proofs.lemmas.List.Elements.{All-cons, All-head, All-nil, All-tail}
use Rattle.std.proofs.lemmas.List.Splits.{slice_split_at, slice_split_none}
use Rattle.pt_tree.specs.Name.{is_forbidden_name, is_name}
use Rattle.pt_tree.specs.declared.name.NameFault.TheVariants as fault
use Rattle.pt_tree.specs.Path.{Path, joined, same_path}
use Rattle.pt_object.specs.Algorithm.{digest_of}
use Rattle.pt_object.specs.FilePaths.{File, are_apart, is_apart, paths_of}
use Rattle.pt_tree.specs.PathOrder.{is_logical}
use Rattle.pt_object.specs.Holding.{held_at}
use Rattle.pt_object.specs.Inventory.{content_path}
use Rattle.pt_object.specs.VersionState.{names_in}
use Rattle.pt_object.specs.declared.algorithm.Algorithm.{Algorithm}
use Rattle.pt_object.proofs.Ways.{is_same, leads-itself, path_itself}

-- ---- names between slashes

not_forbidden : (a b c d : Bool)
    → is_none (cond a (Some fault.Empty) (cond b (Some fault.TooLong) (cond c (cond d (Some fault.Forbidden) None) (Some fault.NotUtf8)))) ≡ true → d ≡ false
not_forbidden true b c d h = absurd (false≢true h)
not_forbidden false true c d h = absurd (false≢true h)
not_forbidden false false true true h = absurd (false≢true h)
not_forbidden false false true false h = refl
not_forbidden false false false d h = absurd (false≢true h)

none_passes : (p : ℕ → Bool) (xs : List ℕ) → list_any p xs ≡ false → All (λ x. p x ≡ false) xs
none_passes p [] h = All-nil (λ x. p x ≡ false)
none_passes p (x ∷ xs) h = let parts = or_parts (p x) (list_any p xs) h in All-cons (λ y. p y ≡ false) x xs parts.0 (none_passes p xs parts.1)

no_slash : (name : List ℕ) → is_name name ≡ true → All (λ b. (b == 47) ≡ false) name
no_slash name h =
    let whole = not_forbidden (length name == 0) (nat_lt 255 (length name)) (is_utf8 name) (is_forbidden_name name) h in
    none_passes (λ b. b == 47) name (or_parts _ _ (or_parts _ _ (or_parts _ _ whole).0).0).0

split_names : (name : List ℕ) (path : Path) → is_name name ≡ true → list_all is_name path ≡ true → names_in (joined (name ∷ path)) ≡ name ∷ path
split_names name [] first rest = slice_split_none (λ b. b == 47) name (no_slash name first)
split_names name (next ∷ path) first rest =
    let parts = and_parts _ _ rest in
    slice_split_at (λ b. b == 47) name 47 (joined (next ∷ path)) (no_slash name first) refl
    ∙ ap (λ (p : Path). name ∷ p) (split_names next path parts.0 parts.1)

-- the names of a logical path are those of its text
pub names_in-joined : (path : Path) → is_logical path ≡ true → names_in (joined path) ≡ path
names_in-joined [] h = absurd (false≢true h)
names_in-joined (name ∷ path) h = let parts = and_parts _ _ h in split_names name path parts.0 parts.1

-- and below the contents
pub names_in-content_path : (path : Path) → is_logical path ≡ true → names_in (content_path path) ≡ codes "v1" ∷ codes "content" ∷ path
names_in-content_path path h =
    ap (λ (rest : Path). onto_first 118 (onto_first 49 ([] ∷ onto_first 99
    (onto_first 111 (onto_first 110 (onto_first 116 (onto_first 101 (onto_first 110 (onto_first 116 ([] ∷ rest)))))))))) (names_in-joined path h)

-- ---- what is found among files

pub found_test : (test : File → Bool) (files : List File) (g : File) → find test files ≡ Some g → test g ≡ true
found_test test [] g is = absurd (cc)
found_test test (x ∷ files) g is = by (test x) refl (λ e. found_test test files g e) is
  where
    by : (t : Bool) → test x ≡ t → (find test files ≡ Some g → test g ≡ true) → cond t (Some x) (find test files) ≡ Some g → test g ≡ true
    by true h later e = let same : x ≡ g = cc in ap test (sym same) ∙ h
    by false h later e = later e

pub found_has : (P : File → Type 0) (test : File → Bool) (files : List File) (g : File) → All P files → find test files ≡ Some g → P g
found_has P test [] g all is = absurd (cc)
found_has P test (x ∷ files) g all is = by (test x) (λ e. found_has P test files g (All-tail P x files all) e) is
  where
    by : (t : Bool) → (find test files ≡ Some g → P g) → cond t (Some x) (find test files) ≡ Some g → P g
    by true later e = let same : x ≡ g = cc in subst P same (All-head P x files all)
    by false later e = later e

pub found_passes : (pass : Path → Bool) (test : File → Bool) (files : List File) (g : File) → list_all pass (paths_of files) ≡ true → find test files ≡ Some g
    → pass g.0 ≡ true
found_passes pass test [] g all is = absurd (cc)
found_passes pass test (x ∷ files) g all is = let parts = and_parts _ _ all in by (test x) parts.0 (λ e. found_passes pass test files g parts.1 e) is
  where
    by : (t : Bool) → pass x.0 ≡ true → (find test files ≡ Some g → pass g.0 ≡ true) → cond t (Some x) (find test files) ≡ Some g → pass g.0 ≡ true
    by true here later e = let same : x ≡ g = cc in ap (λ (f : File). pass f.0) (sym same) ∙ here
    by false here later e = later e

pub not_apart : (p : Path) → is_apart p p ≡ true → ⊥
not_apart p h = true≢false (sym (leads-itself p) ∙ none _ (and_parts _ _ h).0)
  where
    none : (o : Option Path) → is_none o ≡ true → is_some o ≡ false
    none None e = refl
    none (Some x) e = absurd (false≢true e)

-- of files that are apart each holds its own bytes
pub held_itself : (test : File → Bool) (files : List File) (g : File) → are_apart (paths_of files) ≡ true → find test files ≡ Some g
    → held_at files g.0 ≡ Some g.1
held_itself test [] g apart is = absurd (cc)
held_itself test (x ∷ files) g apart is = let parts = and_parts _ _ apart in by (test x) parts.0 (λ e. held_itself test files g parts.1 e) is
  where
    by : (t : Bool) → list_all (is_apart x.0) (paths_of files) ≡ true → (find test files ≡ Some g → held_at files g.0 ≡ Some g.1)
        → cond t (Some x) (find test files) ≡ Some g → held_at (x ∷ files) g.0 ≡ Some g.1
    by true here later e =
        let same : x ≡ g = cc in
        subst (λ (f : File). held_at (x ∷ files) f.0 ≡ Some f.1) same (ap (λ b. cond b (Some x.1) (held_at files x.0)) (path_itself x.0))
    by false here later e = other (same_path g.0 x.0) refl
      where
        other : (b : Bool) → same_path g.0 x.0 ≡ b → cond b (Some x.1) (held_at files g.0) ≡ Some g.1
        other true same = absurd (not_apart x.0 (ap (is_apart x.0) (sym (is_same g.0 x.0 same)) ∙ found_passes (is_apart x.0) test files g here e))
        other false apart = later e

-- ---- what is stored

abbrev pub first_with : Algorithm → List File → List ℕ → Option File
first_with algorithm files digest = find (λ file. bytes_eq (digest_of algorithm file.1) digest) files

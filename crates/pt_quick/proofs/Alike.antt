-- Rows with one digest are read alike: those that an inventory claims, those with the digests of what was read, and those that stand.
use Rattle.std.proofs.Common.{◌≡◌, ℕ, List, [], ◌∷◌, ◌++◌, Bool, true, false, refl, sym, ◌∙◌, ap, subst}
use Rattle.std.specs.Prelude.{All, cond, Option, Some, None}
use Rattle.std.specs.List.{find}
use Rattle.std.specs.Option.{option_and_then, option_map, option_map_or, option_or, unwrap_or}
use Rattle.std.specs.Str.{bytes_eq}
use Rattle.std.proofs.lemmas.List.Elements.{All-cons, All-head, All-push, All-tail, All-weaker}
use Rattle.std.proofs.lemmas.List.Folds.{find-append}
use Rattle.pt_tree.specs.Path.{Path, joined}
use Rattle.pt_tree.proofs.Names.{name_itself, same_name}
use Rattle.pt_object.specs.Distinct.{row_has_digest}
use Rattle.pt_object.specs.FilePaths.{row_paths}
use Rattle.pt_object.specs.Object.{stored_path}
use Rattle.pt_object.specs.Rows.{row_of}
use Rattle.pt_object.specs.declared.rows.Row.{Row}
use Rattle.pt_quick.specs.Claimed.{Claimed, claimed_all, fits, with_digests, with_text}
use Rattle.pt_quick.specs.ReadAlike.{HasRead, ReadAlike}

-- the path of the first row with a digest
abbrev first_with : List Row → List ℕ → Option Path
first_with rows digest = option_map (λ row. row.path) (find (row_has_digest digest) rows)

module _ (read : Path → List ℕ) where
  -- what is known is what was read of the first of these with each digest
  abbrev pub Knows : Claimed → List Row → Type 0
  Knows known front = (digest : List ℕ) → known digest ≡ option_map (λ row. read row.path) (find (row_has_digest digest) front)

  -- and of each of them
  abbrev AreKnown : Claimed → List Row → Type 0
  AreKnown known front = All (λ row. known row.digest ≡ Some (read row.path)) front

  -- what fits is the same
  fits_same : (a b : List ℕ) (o : Option (List ℕ)) → o ≡ Some a → option_map_or (λ other. bytes_eq other b) o true ≡ true → a ≡ b
  fits_same a b None is fit = absurd (cc)
  fits_same a b (Some x) is fit = let same : x ≡ a = cc in sym same ∙ same_name x b fit

  pub knows_push : (known : Claimed) (front : List Row) (row : Row) → Knows known front → fits known row.digest (read row.path) ≡ true
      → Knows (with_text (read row.path) (Some row.digest) known) (front ++ row ∷ [])
  knows_push known front row knows fit digest =
      by (bytes_eq row.digest digest) refl (find (row_has_digest digest) front) (knows digest)
      ∙ sym (ap (option_map (λ row. read row.path)) (find-append (row_has_digest digest) front (row ∷ [])))
    where
      by : (t : Bool) → bytes_eq row.digest digest ≡ t → (o : Option Row) → known digest ≡ option_map (λ row. read row.path) o
          → cond t (Some (read row.path)) (known digest) ≡ option_map (λ row. read row.path) (option_or o (cond t (Some row) None))
      by true same None is = refl
      by true same (Some first) is =
          ap (λ (d : List ℕ). Some d) (sym (fits_same (read first.path) (read row.path) (known row.digest)
          (ap known (same_name row.digest digest same) ∙ is) fit))
      by false apart None is = is
      by false apart (Some first) is = is

  known_push : (known : Claimed) (front : List Row) (row : Row) → AreKnown known front → fits known row.digest (read row.path) ≡ true
      → AreKnown (with_text (read row.path) (Some row.digest) known) (front ++ row ∷ [])
  known_push known front row are fit =
      All-push (λ r. with_text (read row.path) (Some row.digest) known r.digest ≡ Some (read r.path)) front row
      (All-weaker (λ r. known r.digest ≡ Some (read r.path)) (λ r. with_text (read row.path) (Some row.digest) known r.digest ≡ Some (read r.path))
      (λ r is. by r (bytes_eq row.digest r.digest) refl is) front are)
      (ap (λ t. cond t (Some (read row.path)) (known row.digest)) (name_itself row.digest))
    where
      by : (r : Row) (t : Bool) → bytes_eq row.digest r.digest ≡ t → known r.digest ≡ Some (read r.path)
          → cond t (Some (read row.path)) (known r.digest) ≡ Some (read r.path)
      by r true same is =
          ap (λ (d : List ℕ). Some d) (sym (fits_same (read r.path) (read row.path) (known row.digest)
          (ap known (same_name row.digest r.digest same) ∙ is) fit))
      by r false apart is = is

  alike_of : (known : Claimed) (rows : List Row) → Knows known rows → AreKnown known rows → ReadAlike read rows
  alike_of known rows knows are =
      All-weaker (λ row. known row.digest ≡ Some (read row.path)) (λ row. read (stored_path rows row) ≡ read row.path)
      (λ row is. by row (find (row_has_digest row.digest) rows) (sym (knows row.digest) ∙ is)) rows are
    where
      by : (row : Row) (o : Option Row) → option_map (λ row. read row.path) o ≡ Some (read row.path)
          → read (unwrap_or (option_map (λ first. first.path) o) row.path) ≡ read row.path
      by row None is = absurd (cc)
      by row (Some first) is = cc

  -- the rows that are claimed
  pub claimed_alike : (claims known : Claimed) (front rows all : List Row) → Knows known front → AreKnown known front → All (HasRead read) rows
      → claimed_all claims known front rows ≡ Some all → ReadAlike read all
  claimed_alike claims known front [] all knows are own is =
      let same : front ≡ all = cc in
      subst (ReadAlike read) same (alike_of known front knows are)
  claimed_alike claims known front (row ∷ rows) all knows are own is =
      by (claims (joined row.path)) is
      (λ digest fit is. on digest is (ap (fits known digest) (sym mine) ∙ fit)
      (claimed_alike claims (with_text row.digest (Some digest) known) (front ++ row_of row.path digest row.length ∷ []) rows all))
    where
      mine : row.digest ≡ read row.path
      mine = All-head (HasRead read) row rows own

      Later : List ℕ → Type 0
      Later digest = claimed_all claims (with_text row.digest (Some digest) known) (front ++ row_of row.path digest row.length ∷ []) rows ≡ Some all

      on : (digest : List ℕ) → Later digest → fits known digest (read row.path) ≡ true
          → (Knows (with_text row.digest (Some digest) known) (front ++ row_of row.path digest row.length ∷ [])
          → AreKnown (with_text row.digest (Some digest) known) (front ++ row_of row.path digest row.length ∷ [])
          → All (HasRead read) rows → Later digest → ReadAlike read all)
          → ReadAlike read all
      on digest is fit later =
          let x : Row = row_of row.path digest row.length in
          later
          (subst (λ (d : List ℕ). Knows (with_text d (Some digest) known) (front ++ x ∷ [])) (sym mine) (knows_push known front x knows fit))
          (subst (λ (d : List ℕ). AreKnown (with_text d (Some digest) known) (front ++ x ∷ [])) (sym mine) (known_push known front x are fit))
          (All-tail (HasRead read) row rows own) is

      pass : (digest : List ℕ) (t : Bool) → fits known digest row.digest ≡ t
          → cond t (claimed_all claims (with_text row.digest (Some digest) known) (front ++ row_of row.path digest row.length ∷ []) rows) None ≡ Some all
          → (fits known digest row.digest ≡ true → Later digest → ReadAlike read all) → ReadAlike read all
      pass digest false apart is later = absurd (cc)
      pass digest true fit is later = later fit is

      by : (o : Option (List ℕ)) → option_and_then (λ digest. cond (fits known digest row.digest)
          (claimed_all claims (with_text row.digest (Some digest) known) (front ++ row_of row.path digest row.length ∷ []) rows) None) o ≡ Some all
          → ((digest : List ℕ) → fits known digest row.digest ≡ true → Later digest → ReadAlike read all) → ReadAlike read all
      by None is later = absurd (cc)
      by (Some digest) is later = pass digest (fits known digest row.digest) refl is (later digest)

  -- rows with the digests of what is read
  found_own : (digest : List ℕ) (rows : List Row) (first : Row) → All (HasRead read) rows → find (row_has_digest digest) rows ≡ Some first
      → read first.path ≡ digest
  found_own digest [] first own is = absurd (cc)
  found_own digest (row ∷ rows) first own is =
      by (bytes_eq row.digest digest) refl is (found_own digest rows first (All-tail (HasRead read) row rows own))
    where
      by : (t : Bool) → bytes_eq row.digest digest ≡ t → cond t (Some row) (find (row_has_digest digest) rows) ≡ Some first
          → (find (row_has_digest digest) rows ≡ Some first → read first.path ≡ digest) → read first.path ≡ digest
      by true same is later =
          let it : row ≡ first = cc in
          ap (λ (r : Row). read r.path) (sym it) ∙ sym (All-head (HasRead read) row rows own) ∙ same_name row.digest digest same
      by false apart is later = later is

  pub own_alike : (rows : List Row) → All (HasRead read) rows → ReadAlike read rows
  own_alike rows own =
      All-weaker (HasRead read) (λ row. read (stored_path rows row) ≡ read row.path)
      (λ row mine. by row mine (find (row_has_digest row.digest) rows) refl) rows own
    where
      by : (row : Row) → row.digest ≡ read row.path → (o : Option Row) → find (row_has_digest row.digest) rows ≡ o
          → read (unwrap_or (option_map (λ first. first.path) o) row.path) ≡ read row.path
      by row mine None is = refl
      by row mine (Some first) is = found_own row.digest rows first own is ∙ mine

  -- what is claimed of rows that stand fits
  pub fits_standing : (known : Claimed) (front later : List Row) (row : Row) (digest : List ℕ) → Knows known front → digest ≡ read row.path
      → read (stored_path (front ++ row ∷ later) row) ≡ read row.path → fits known row.digest digest ≡ true
  fits_standing known front later row digest knows mine alike =
      ap (λ o. option_map_or (λ other. bytes_eq other digest) o true) (knows row.digest)
      ∙ by (find (row_has_digest row.digest) front)
      (ap (λ o. read (unwrap_or (option_map (λ first. first.path) o) row.path))
      (sym (find-append (row_has_digest row.digest) front (row ∷ later))) ∙ alike)
    where
      by : (o : Option Row)
          → read (unwrap_or (option_map (λ first. first.path) (option_or o (find (row_has_digest row.digest) (row ∷ later)))) row.path) ≡ read row.path
          → option_map_or (λ other. bytes_eq other digest) (option_map (λ row. read row.path) o) true ≡ true
      by None same = refl
      by (Some first) same =
          ap (λ (d : List ℕ). bytes_eq d digest) (same ∙ sym mine) ∙ name_itself digest

  -- rows with the digests of others that are read alike are too
  same_first : (rows told : List Row) (digest : List ℕ) → row_paths told ≡ row_paths rows → first_with (with_digests rows told) digest ≡ first_with told digest
  same_first [] [] digest paths = refl
  same_first [] (other ∷ told) digest paths = absurd (cc)
  same_first (row ∷ rows) [] digest paths = absurd (cc)
  same_first (row ∷ rows) (other ∷ told) digest paths =
      let path : other.path ≡ row.path = cc in
      let later : row_paths told ≡ row_paths rows = cc in
      by (bytes_eq other.digest digest) (sym path) (same_first rows told digest later)
    where
      by : (t : Bool) → row.path ≡ other.path → first_with (with_digests rows told) digest ≡ first_with told digest
          → option_map (λ (row : Row). row.path)
          (cond t (Some (row_of row.path other.digest row.length)) (find (row_has_digest digest) (with_digests rows told)))
          ≡ option_map (λ (row : Row). row.path) (cond t (Some other) (find (row_has_digest digest) told))
      by true path later = ap (λ (p : Path). Some p) path
      by false path later = later

  each_alike : (first : List ℕ → Option Path) (rows told : List Row) → row_paths told ≡ row_paths rows
      → All (λ row. read (unwrap_or (first row.digest) row.path) ≡ read row.path) told
      → All (λ row. read (unwrap_or (first row.digest) row.path) ≡ read row.path) (with_digests rows told)
  each_alike first [] [] paths all = all
  each_alike first [] (other ∷ told) paths all = absurd (cc)
  each_alike first (row ∷ rows) [] paths all = all
  each_alike first (row ∷ rows) (other ∷ told) paths all =
      let P : Row → Type 0 = λ row. read (unwrap_or (first row.digest) row.path) ≡ read row.path in
      let path : other.path ≡ row.path = cc in
      let later : row_paths told ≡ row_paths rows = cc in
      All-cons P (row_of row.path other.digest row.length) (with_digests rows told)
      (subst (λ (p : Path). read (unwrap_or (first other.digest) p) ≡ read p) path (All-head P other told all))
      (each_alike first rows told later (All-tail P other told all))

  pub alike_with : (rows told : List Row) → row_paths told ≡ row_paths rows → ReadAlike read told → ReadAlike read (with_digests rows told)
  alike_with rows told paths alike =
      All-weaker (λ row. read (unwrap_or (first_with told row.digest) row.path) ≡ read row.path)
      (λ row. read (unwrap_or (first_with (with_digests rows told) row.digest) row.path) ≡ read row.path)
      (λ row is. ap (λ o. read (unwrap_or o row.path)) (same_first rows told row.digest paths) ∙ is) (with_digests rows told)
      (each_alike (first_with told) rows told paths alike)

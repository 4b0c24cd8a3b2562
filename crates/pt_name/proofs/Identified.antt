-- What the names of a site say of its object, from what was read of them.
use Rattle.std.proofs.Common.{◌≡◌, ◌<◌, ℕ, Bool, ◌&&◌, ◌==◌, true, false, List, [], ◌∷◌, ◌++◌, refl, sym, ap, ◌∙◌, length, cond, arith}
use Rattle.std.specs.Global.{Global}
use Rattle.std.specs.Prelude.{String, OnOk, Option, None, Some, Result, Ok, Err, IsTrue, slice_get}
use Rattle.std.specs.List.{concat}
use Rattle.std.specs.Str.{bytes_eq, is_utf8}
use Rattle.std.specs.String.{string_bytes}
use Rattle.std.proofs.lemmas.List.{length-append}
use Rattle.std.proofs.lemmas.Str.{IsUtf8-from_is_utf8, IsUtf8-string_bytes, is_utf8-from_IsUtf8}
use Rattle.pt_tree.specs.Name.{is_name}
use Rattle.pt_tree.specs.Path.{Path, same_path}
use Rattle.pt_name.specs.Identifying.{identification_by, identification_of, identifier_by, identifier_read, identifier_read_by, is_own_place, unless_reserved}
use Rattle.pt_name.specs.Place.{place_of}
use Rattle.pt_name.specs.Reading.{GivesReading, before, hex_value, read_character, reading_of}
use Rattle.pt_name.specs.Share.{Portion, takes}
use Rattle.pt_name.specs.Tuples.{Tuples}
use Rattle.pt_name.specs.declared.identifying.PlacedObject.{PlacedObject}
use Rattle.pt_name.specs.declared.identifying.Identification.TheVariants as answer
use Rattle.pt_name.specs.declared.identifying.Refusal.{Refusal}
use Rattle.pt_name.specs.declared.identifying.Refusal.TheVariants as refusal
use Rattle.pt_name.specs.declared.reading.UncleanFault.TheVariants as unclean

-- ---- what is read

-- no name is empty, so names that are joined aren't
pub names_some : (path : Path) (first : List ℕ) → Some first ≡ slice_get path 0 → IsTrue (is_name first) → 0 < length (concat path)
names_some [] first is name = absurd (cc)
names_some ([] ∷ path) first is name = absurd (let same : first ≡ [] = cc in let no : is_name [] ≡ true = rw same at name in cc)
names_some ((byte ∷ bytes) ∷ path) first is name = omega (arith)

-- what is read before more isn't empty
reads_before : (first : Option ℕ) (rest : Option (List ℕ)) → before first rest ≡ Some [] → ⊥
reads_before None rest is = cc
reads_before (Some byte) None is = cc
reads_before (Some byte) (Some bytes) is = cc

-- what isn't empty reads what isn't empty
reads_some : (text : List ℕ) → 0 < length text → reading_of text ≡ Some [] → ⊥
reads_some [] some is = omega (arith, some)
reads_some (a ∷ []) some is = reads_before (read_character a) (Some []) is
reads_some (a ∷ b ∷ []) some is = reads_before (read_character a) (before (read_character b) (Some [])) is
reads_some (a ∷ b ∷ c ∷ rest) some is = by (a == 94) is
  where
    by : (caret : Bool) → cond caret (before (hex_value b c) (reading_of rest)) (before (read_character a) (reading_of (b ∷ c ∷ rest))) ≡ Some [] → ⊥
    by true is = reads_before (hex_value b c) (reading_of rest) is
    by false is = reads_before (read_character a) (reading_of (b ∷ c ∷ rest)) is

some_bytes : (bytes : List ℕ) → (bytes ≡ [] → ⊥) → 0 < length bytes
some_bytes [] other = absurd (other refl)
some_bytes (byte ∷ bytes) other = omega (arith)

pub read_some : (text read prefix id : List ℕ) → reading_of text ≡ Some read → 0 < length text → id ≡ prefix ++ read → 0 < length id
read_some text read prefix id reads some is =
    let long = ap length is ∙ length-append prefix read in
    let more = some_bytes read (λ none. reads_some text some (reads ∙ ap (λ (b : List ℕ). Some b) none)) in
    omega (arith, long, more)

-- the identifier is what they read, behind the prefix
pub read_whole : (tuples : Tuples) (share : Portion) (site : Path) (text prefix id t : List ℕ) (read : String Global)
    → reading_of text ≡ Some (string_bytes read) → text ≡ concat site → t ≡ string_bytes read → id ≡ prefix ++ t
    → identification_by tuples share site (unless_reserved tuples id) ≡ identification_of tuples share prefix site
read_whole tuples share site text prefix id t read reads joined same is =
    ap (λ (b : List ℕ). identification_by tuples share site (unless_reserved tuples b)) (is ∙ ap (λ (b : List ℕ). prefix ++ b) same)
    ∙ sym (ap (λ (o : Option (List ℕ)). identification_by tuples share site (identifier_by tuples prefix o)) (ap reading_of (sym joined) ∙ reads)
    ∙ ap (λ (b : Bool). identification_by tuples share site (cond b (unless_reserved tuples (prefix ++ string_bytes read)) (Err refusal.NotUtf8)))
    (is_utf8-from_IsUtf8 (string_bytes read) (IsUtf8-string_bytes read)))

-- and it is the one that was read, whatever its place
pub read_named : (site : Path) (text prefix id t : List ℕ) (read : String Global) → reading_of text ≡ Some (string_bytes read) → text ≡ concat site
    → t ≡ string_bytes read → id ≡ prefix ++ t → identifier_read prefix site ≡ Some id
read_named site text prefix id t read reads joined same is =
    ap (identifier_read_by prefix) (ap reading_of (sym joined) ∙ reads)
    ∙ ap (λ (b : Bool). cond b (Some (prefix ++ string_bytes read)) None) (is_utf8-from_IsUtf8 (string_bytes read) (IsUtf8-string_bytes read))
    ∙ ap (λ (b : List ℕ). Some b) (ap (λ (b : List ℕ). prefix ++ b) (sym same) ∙ sym is)

pub read_bad : (site : Path) (text prefix : List ℕ) → GivesReading (reading_of text) (Err unclean.NotUtf8) → text ≡ concat site
    → identifier_read prefix site ≡ None
read_bad site text prefix (bytes, reads, not) joined = ap (identifier_read_by prefix) (ap reading_of (sym joined) ∙ reads) ∙ by (is_utf8 bytes) refl
  where
    by : (b : Bool) → is_utf8 bytes ≡ b → cond b (Some (prefix ++ bytes)) None ≡ None
    by true is = absurd (not (IsUtf8-from_is_utf8 bytes is))
    by false is = refl

pub on_ok : {T E : Type 0} {P : Type 0} (r : Result T E) → P → OnOk r P
on_ok (Ok x) p = p
on_ok (Err e) p = tt

pub read_not_utf8 : (tuples : Tuples) (share : Portion) (site : Path) (text prefix : List ℕ) → GivesReading (reading_of text) (Err unclean.NotUtf8)
    → text ≡ concat site
    → answer.Refused refusal.NotUtf8 ≡ identification_of tuples share prefix site
read_not_utf8 tuples share site text prefix (bytes, reads, not) joined =
    sym (ap (λ (o : Option (List ℕ)). identification_by tuples share site (identifier_by tuples prefix o)) (ap reading_of (sym joined) ∙ reads)
    ∙ by (is_utf8 bytes) refl)
  where
    by : (b : Bool) → is_utf8 bytes ≡ b → identification_by tuples share site (cond b (unless_reserved tuples (prefix ++ bytes)) (Err refusal.NotUtf8))
        ≡ answer.Refused refusal.NotUtf8
    by true is = absurd (not (IsUtf8-from_is_utf8 bytes is))
    by false is = refl

pub read_malformed : (tuples : Tuples) (share : Portion) (site : Path) (text prefix : List ℕ) → reading_of text ≡ None → text ≡ concat site
    → answer.Refused refusal.Malformed ≡ identification_of tuples share prefix site
read_malformed tuples share site text prefix reads joined =
    sym (ap (λ (o : Option (List ℕ)). identification_by tuples share site (identifier_by tuples prefix o)) (ap reading_of (sym joined) ∙ reads))

-- ---- places

pub one_name : (path : Path) (name text literal bytes : List ℕ) (b : Bool) → b ≡ bytes_eq bytes literal → literal ≡ text → bytes ≡ name
    → Some name ≡ slice_get path 0 → length path ≡ 1 → b ≡ same_path path (text ∷ [])
one_name [] name text literal bytes b is like same at one = absurd (cc)
one_name (x ∷ []) name text literal bytes b is like same at one = let first : name ≡ x = cc in is ∙ (λ i. bytes_eq ((same ∙ first) i) (like i))
    ∙ sym (and_true (bytes_eq x text))
  where
    and_true : (b : Bool) → (b && true) ≡ b
    and_true true = refl
    and_true false = refl
one_name (x ∷ y ∷ path) name text literal bytes b is like same at one = absurd (omega (arith, one))

pub no_name : (path : Path) (text : List ℕ) → None ≡ slice_get path 0 → false ≡ same_path path (text ∷ [])
no_name [] text is = refl
no_name (x ∷ path) text is = absurd (cc)

module _ (tuples : Tuples) (share : Portion) (site : Path) (id : List ℕ) (place : Path) (at : place ≡ place_of tuples id) where
  -- by whether the place is the root's own
  by_place : (own : Bool) → own ≡ is_own_place tuples place → identification_by tuples share site (cond own (Err refusal.Reserved) (Ok id))
      ≡ identification_by tuples share site (unless_reserved tuples id)
  by_place own is = ap (λ (b : Bool). identification_by tuples share site (cond b (Err refusal.Reserved) (Ok id))) (is ∙ ap (is_own_place tuples) at)

  -- and whether the object is of the share
  by_share : (mine : Bool) → false ≡ is_own_place tuples place → mine ≡ takes share site id
      → cond mine (answer.Candidate (record { id = id; place = place_of tuples id })) answer.OtherShare
      ≡ identification_by tuples share site (unless_reserved tuples id)
  by_share mine free is = ap (λ (b : Bool). cond b (answer.Candidate (record { id = id; place = place_of tuples id })) answer.OtherShare) is
      ∙ by_place false free

  pub is_own : true ≡ is_own_place tuples place → answer.Refused refusal.Reserved ≡ identification_by tuples share site (unless_reserved tuples id)
  is_own own = by_place true own

  pub is_other : false ≡ is_own_place tuples place → false ≡ takes share site id → answer.OtherShare
      ≡ identification_by tuples share site (unless_reserved tuples id)
  is_other free other = by_share false free other

  pub is_candidate : false ≡ is_own_place tuples place → true ≡ takes share site id
      → answer.Candidate (record { id = id; place = place }) ≡ identification_by tuples share site (unless_reserved tuples id)
  is_candidate free mine = ap (λ (p : Path). answer.Candidate (record { id = id; place = p })) at ∙ by_share true free mine

pub ruleset identifying = (names_some, read_some, read_not_utf8, read_malformed, one_name, no_name, is_own, is_other, is_candidate)

-- ---- what an answer says

pub refused_as : (tuples : Tuples) (share : Portion) (site : Path) (why : Refusal) (read : Result (List ℕ) Refusal) → answer.Refused why
    ≡ identification_by tuples share site read
    → read ≡ Err why
refused_as tuples share site why (Err other) is = cc
refused_as tuples share site why (Ok id) is = absurd (by (takes share site id) is)
  where
    by : (mine : Bool) → answer.Refused why ≡ cond mine (answer.Candidate (record { id = id; place = place_of tuples id })) answer.OtherShare → ⊥
    by true is = cc
    by false is = cc

-- it has an identifier, which another share takes
pub other_as : (tuples : Tuples) (share : Portion) (site : Path) (read : Result (List ℕ) Refusal) → answer.OtherShare ≡ identification_by tuples share site read
    → (id : List ℕ) × ((read ≡ Ok id) × (takes share site id ≡ false))
other_as tuples share site (Err why) is = absurd (cc)
other_as tuples share site (Ok id) is = (id, (refl, by (takes share site id) refl is))
  where
    by : (mine : Bool) → takes share site id ≡ mine → answer.OtherShare ≡ cond mine (answer.Candidate (record { id = id; place = place_of tuples id }))
        answer.OtherShare → takes share site id ≡ false
    by true held is = absurd (cc)
    by false held is = held

-- the object's identifier is read, its place is that of the layout, and the share takes it
pub record IsRead (tuples : Tuples) (share : Portion) (site : Path) (read : Result (List ℕ) Refusal) (candidate : PlacedObject) : Type 0 where
  pub id : read ≡ Ok candidate.id
  pub place : candidate.place ≡ place_of tuples candidate.id
  pub mine : takes share site candidate.id ≡ true

pub candidate_as : (tuples : Tuples) (share : Portion) (site : Path) (read : Result (List ℕ) Refusal) (candidate : PlacedObject)
    → answer.Candidate candidate ≡ identification_by tuples share site read → IsRead tuples share site read candidate
candidate_as tuples share site (Err why) candidate is = absurd (cc)
candidate_as tuples share site (Ok id) candidate is = by (takes share site id) refl is
  where
    by : (mine : Bool) → takes share site id ≡ mine → answer.Candidate candidate
        ≡ cond mine (answer.Candidate (record { id = id; place = place_of tuples id })) answer.OtherShare → IsRead tuples share site (Ok id) candidate
    by true held is =
        let same : candidate ≡ record { id = id; place = place_of tuples id } = cc in
        let ids : candidate.id ≡ id = ap (λ (c : PlacedObject). c.id) same in
        record {
          id = ap (λ (i : List ℕ). Ok i) (sym ids);
          place = ap (λ (c : PlacedObject). c.place) same ∙ ap (place_of tuples) (sym ids);
          mine = ap (takes share site) ids ∙ held;
        }
    by false held is = absurd (cc)

-- Lists in rows of one length: where a place lies, and what is there once something is put at it.
use Rattle.std.proofs.Common.{
  ◌≡◌,
  ℕ,
  ◌+◌,
  ◌-◌,
  ◌*◌,
  ◌/◌,
  ◌%◌,
  ◌<◌,
  ◌≤◌,
  List,
  [],
  ◌∷◌,
  ◌++◌,
  length,
  get_or,
  set,
  take,
  refl,
  sym,
  ◌∙◌,
  ap,
  arith,
  zero,
  suc,
  inl,
  inr,
  append_assoc,
  append-nil,
  length-append,
  get_or-set_other,
  subst,
  ◌≢◌,
}
use Rattle.std.specs.Prelude.{Some, None, map, insert, slice_get, slice_index}
use Rattle.std.proofs.lemmas.Option.{slice_get_cases, get_or_from_slice_get}
use Rattle.std.specs.List.{concat}
use Rattle.std.proofs.lemmas.Bool.{cases_lt, cases_eq}
use Rattle.std.proofs.lemmas.List.{
  get_or-map,
  get_or_append_left,
  get_or-append_right,
  take_more_set,
  get_or-set_same,
  set-set,
  take-set,
  map-set,
  get_or_push,
  length-set,
  length-map,
  map_push,
  length_push,
}
use Rattle.std.proofs.lemmas.List.Edits.{length-insert, insert_end, insert-append_left, insert-append_right}
use Rattle.std.proofs.Math.Seq.{map-set_same}
use Rattle.pt_object.specs.SortedIndex.{AreRows, HasRoom, row_length}

-- how many stand before a row, where all rows before it have n
before : (xss : List (List ℕ)) (n r : ℕ) → r ≤ length xss → ((k : ℕ) → k < r → slice_index (map length xss) k ≡ n) → length (concat (take r xss)) ≡ r * n
before xss n zero within full = omega arith
before [] n (suc r) within full = absurd (omega arith)
before (x ∷ xss) n (suc r) within full =
    let rest = before xss n r (omega arith) (λ k h. full (suc k) (omega arith)) in
    let here : length x ≡ n = full 0 (omega arith) in
    length-append x (concat (take r xss)) ∙ omega (arith, rest, here)

-- how many there are, where all rows but the last have n
all : (xss : List (List ℕ)) (n m : ℕ) → length xss ≡ m + 1 → ((k : ℕ) → k < m → slice_index (map length xss) k ≡ n)
    → length (concat xss) ≡ m * n + slice_index (map length xss) m
all [] n m long full = absurd (omega arith)
all (x ∷ []) n zero long full = length-append x [] ∙ omega arith
all (x ∷ y ∷ xss) n zero long full = absurd (omega arith)
all (x ∷ xss) n (suc m) long full =
    let rest = all xss n m (omega arith) (λ k h. full (suc k) (omega arith)) in
    let here : length x ≡ n = full 0 (omega arith) in
    length-append x (concat xss) ∙ omega (arith, rest, here)

-- the j-th of a row
pub get_or-concat : (xss : List (List ℕ)) (r j d : ℕ) (e : List ℕ) → r < length xss → j < length (get_or xss r e)
    → get_or (concat xss) (length (concat (take r xss)) + j) d ≡ get_or (get_or xss r e) j d
get_or-concat [] r j d e within inside = absurd (omega arith)
get_or-concat (x ∷ xss) zero j d e within inside = let at : 0 + j ≡ j = omega arith in ap (λ (p : ℕ). get_or (x ++ concat xss) p d) at
    ∙ get_or_append_left x (concat xss) d j inside
get_or-concat (x ∷ xss) (suc r) j d e within inside =
    let before : length (x ++ concat (take r xss)) ≡ length x + length (concat (take r xss)) = length-append x (concat (take r xss)) in
    let place : length (x ++ concat (take r xss)) + j - length x ≡ length (concat (take r xss)) + j = omega arith in
    get_or-append_right x (concat xss) (length x) (length (x ++ concat (take r xss)) + j) d refl (omega arith)
    ∙ ap (λ (p : ℕ). get_or (concat xss) p d) place
    ∙ get_or-concat xss r j d e (omega arith) inside

-- one more in a row
pub insert-concat : (xss : List (List ℕ)) (r at y : ℕ) (e : List ℕ) → r < length xss → at ≤ length (get_or xss r e)
    → concat (set xss r (insert (get_or xss r e) at y)) ≡ insert (concat xss) (length (concat (take r xss)) + at) y
insert-concat [] r at y e within fits = absurd (omega arith)
insert-concat (x ∷ xss) zero at y e within fits =
    let same : 0 + at ≡ at = omega arith in
    sym (ap (λ (p : ℕ). insert (x ++ concat xss) p y) same ∙ insert-append_left x (concat xss) at y fits)
insert-concat (x ∷ xss) (suc r) at y e within fits =
    let rest = insert-concat xss r at y e (omega arith) fits in
    let before : length (x ++ concat (take r xss)) ≡ length x + length (concat (take r xss)) = length-append x (concat (take r xss)) in
    let place : length (x ++ concat (take r xss)) + at - length x ≡ length (concat (take r xss)) + at = omega arith in
    ap (λ (l : List ℕ). x ++ l) (rest ∙ ap (λ (p : ℕ). insert (concat xss) p y) (sym place))
    ∙ sym (insert-append_right x (concat xss) (length x) (length (x ++ concat (take r xss)) + at) y refl (omega arith))

concat_push : (xss : List (List ℕ)) (ys : List ℕ) → concat (xss ++ ys ∷ []) ≡ concat xss ++ ys
concat_push [] ys = append-nil ys
concat_push (x ∷ xss) ys = ap (λ (l : List ℕ). x ++ l) (concat_push xss ys) ∙ sym (append_assoc x (concat xss) ys)

-- an empty row more changes nothing
pub concat_room : (xss : List (List ℕ)) → concat (xss ++ [] ∷ []) ≡ concat xss
concat_room xss = concat_push xss [] ∙ append-nil (concat xss)

some : (xss : List (List ℕ)) (i : ℕ) → i < length (concat xss) → 0 < length xss
some [] i inside = absurd (omega arith)
some (x ∷ xss) i inside = omega arith

pub length_at : (xss : List (List ℕ)) (r : ℕ) (e : List ℕ) → r < length xss → slice_index (map length xss) r ≡ length (get_or xss r e)
length_at xss r e within = get_or-map length xss r e 0 within

-- the place lies in the row that it has by division, with the remainder before it there
pub record Lies (xss : List (List ℕ)) (place : ℕ) : Type 0 where
  pub within : place / row_length < length xss
  pub inside : place % row_length < slice_index (map length xss) (place / row_length)
  pub sum : length (concat (take (place / row_length) xss)) + place % row_length ≡ place

pub lies : (xss : List (List ℕ)) (place : ℕ) → AreRows xss → place < length (concat xss) → Lies xss place
lies xss place rows inside =
    let any = some xss place inside in
    let total = all xss row_length (length xss - 1) (omega arith) (λ k h. rows.full k (omega arith)) in
    let fits = rows.fits (length xss - 1) (omega arith) in
    let within : place / row_length < length xss = omega arith in
    let front = before xss row_length (place / row_length) (omega arith) (λ k h. rows.full k (omega arith)) in
    record {
      within = within;
      inside = elim (cases_lt (place / row_length + 1) (length xss)) [
        | inl early ↦ let full = rows.full (place / row_length) early in omega arith
        | inr late ↦
            let at : place / row_length ≡ length xss - 1 = omega arith in
            let same = ap (slice_index (map length xss)) at in
            omega arith
      ];
      sum = omega arith;
    }

-- so does the place of one more, which may be at the end
pub record Lands (xss : List (List ℕ)) (place : ℕ) : Type 0 where
  pub within : place / row_length < length xss
  pub fits : place % row_length ≤ slice_index (map length xss) (place / row_length)
  pub sum : length (concat (take (place / row_length) xss)) + place % row_length ≡ place

pub lands : (xss : List (List ℕ)) (place : ℕ) → AreRows xss → HasRoom xss → place ≤ length (concat xss) → Lands xss place
lands xss place rows room inside =
    let any = room.0 in
    let short = room.1 in
    let total = all xss row_length (length xss - 1) (omega arith) (λ k h. rows.full k (omega arith)) in
    let within : place / row_length < length xss = omega arith in
    let front = before xss row_length (place / row_length) (omega arith) (λ k h. rows.full k (omega arith)) in
    record {
      within = within;
      fits = elim (cases_lt (place / row_length + 1) (length xss)) [
        | inl early ↦ let full = rows.full (place / row_length) early in omega arith
        | inr late ↦
            let at : place / row_length ≡ length xss - 1 = omega arith in
            let same = ap (slice_index (map length xss)) at in
            omega arith
      ];
      sum = omega arith;
    }

-- with passed at its place in row i, the rows are what was with the position at its place
pub record IsPassed (was rows : List (List ℕ)) (i at passed place position : ℕ) : Type 0 where
  pub same : map length rows ≡ map length was
  pub within : i < length was
  pub below : at < row_length
  pub fits : at ≤ slice_index (map length was) i
  pub still : insert (concat rows) (length (concat (take i rows)) + at) passed ≡ insert (concat was) place position

pub passed_none : (was : List (List ℕ)) (place position : ℕ) → AreRows was → HasRoom was → place ≤ length (concat was)
    → IsPassed was was (place / row_length) (place % row_length) position place position
passed_none was place position rows room inside =
    let at = lands was place rows room inside in
    record {
      same = refl;
      within = at.within;
      below = omega arith;
      fits = at.fits;
      still = ap (λ (p : ℕ). insert (concat was) p position) at.sum;
    }

pub same_long : (was rows : List (List ℕ)) → map length rows ≡ map length was → length rows ≡ length was
same_long was rows same = sym (length-map rows length) ∙ ap length same ∙ length-map was length

-- what a row passes on takes the first place of the next
pub passed_more : (was rows : List (List ℕ)) (i at passed place position last : ℕ) (new e : List ℕ) → AreRows was → IsPassed was rows i at passed place position
    → i + 1 < length was → new ++ last ∷ [] ≡ insert (get_or rows i e) at passed → IsPassed was (set rows i new) (i + 1) 0 last place position
passed_more was rows i at passed place position last new e full so_far more now =
    let long = same_long was rows so_far.same in
    let within : i < length rows = omega (arith, so_far.within) in
    let is = length_at rows i e within in
    let old : slice_index (map length rows) i ≡ slice_index (map length was) i = ap (λ (l : List ℕ). slice_index l i) so_far.same in
    let fits : at ≤ length (get_or rows i e) = omega (arith, so_far.fits) in
    let one_more = ap length now ∙ length-insert (get_or rows i e) at passed fits in
    let kept : length new ≡ length (get_or rows i e) = omega (arith, length_push new last) in
    let own : get_or (set rows i new) i e ≡ new = get_or-set_same rows i new e within in
    let inside : i < length (set rows i new) = omega (arith, length-set rows i new) in
    let front_long : length (concat (take i rows) ++ new) + 0 ≡ length (concat (take i (set rows i new))) + length new =
    omega (arith, length-append (concat (take i rows)) new, ap (λ (l : List (List ℕ)). length (concat l)) (take-set rows i new)) in
    let front : length (concat (take (i + 1) (set rows i new))) + 0 ≡ length (concat (take i (set rows i new))) + length new =
    ap (λ (l : List (List ℕ)). length (concat l) + 0) (take_more_set rows i new within)
    ∙ ap (λ (l : List ℕ). length l + 0) (concat_push (take i rows) new)
    ∙ front_long in
    let ends : insert (get_or (set rows i new) i e) (length new) last ≡ insert (get_or rows i e) at passed =
    ap (λ (l : List ℕ). insert l (length new) last) own ∙ insert_end new last ∙ now in
    let reached : length new ≤ length (get_or (set rows i new) i e) = omega (arith, ap length own) in
    record {
      same = map-set_same length rows i new e kept ∙ so_far.same;
      within = more;
      below = omega arith;
      fits = omega arith;
      still = ap (λ (p : ℕ). insert (concat (set rows i new)) p last) front
          ∙ sym (insert-concat (set rows i new) i (length new) last e inside reached)
          ∙ ap (λ (l : List ℕ). concat (set (set rows i new) i l)) ends
          ∙ ap concat (set-set rows i new (insert (get_or rows i e) at passed))
          ∙ insert-concat rows i at passed e within fits
          ∙ so_far.still;
    }

-- the last row takes what is passed on
pub passed_last : (was rows : List (List ℕ)) (i j at passed place position : ℕ) (new e : List ℕ) → IsPassed was rows i at passed place position
    → i ≡ j → new ≡ insert (get_or rows j e) at passed → concat (set rows j new) ≡ insert (concat was) place position
passed_last was rows i j at passed place position new e so_far here now =
    let last = subst (λ (k : ℕ). IsPassed was rows k at passed place position) here so_far in
    let long = same_long was rows last.same in
    let within : j < length rows = omega (arith, last.within) in
    let is = length_at rows j e within in
    let old : slice_index (map length rows) j ≡ slice_index (map length was) j = ap (λ (l : List ℕ). slice_index l j) last.same in
    ap (λ (l : List ℕ). concat (set rows j l)) now ∙ insert-concat rows j at passed e within (omega (arith, last.fits)) ∙ last.still

-- and has room for it
pub rows_last : (was rows : List (List ℕ)) (i j at passed place position : ℕ) (new e : List ℕ) → AreRows was → HasRoom was
    → IsPassed was rows i at passed place position
    → i ≡ j → j ≡ length was - 1 → new ≡ insert (get_or rows j e) at passed → AreRows (set rows j new)
rows_last was rows i j at passed place position new e full room so_far here end now =
    let last = subst (λ (k : ℕ). IsPassed was rows k at passed place position) here so_far in
    let long = same_long was rows last.same in
    let within : j < length rows = omega (arith, last.within) in
    let is = length_at rows j e within in
    let old : slice_index (map length rows) j ≡ slice_index (map length was) j = ap (λ (l : List ℕ). slice_index l j) last.same in
    let one_more = ap length now ∙ length-insert (get_or rows j e) at passed (omega (arith, last.fits)) in
    let short = ap (slice_index (map length was)) end in
    let free = room.1 in
    let small : length new ≤ row_length = omega arith in
    let lengths : map length (set rows j new) ≡ set (map length was) j (length new) = map-set length rows j new
    ∙ ap (λ (l : List ℕ). set l j (length new)) last.same in
    let others : (k : ℕ) → k ≢ j → slice_index (map length (set rows j new)) k ≡ slice_index (map length was) k =
    λ k other. ap (λ (l : List ℕ). slice_index l k) lengths ∙ get_or-set_other (map length was) j k (length new) 0 other in
    let own : slice_index (map length (set rows j new)) j ≡ length new =
    ap (λ (l : List ℕ). slice_index l j) lengths ∙ get_or-set_same (map length was) j (length new) 0 (omega (arith, length-map was length)) in
    let count = length-set rows j new in
    record {
      full = λ k h. others k (omega arith) ∙ full.full k (omega arith);
      fits = λ k h. elim (cases_eq k j) [
        | inl same ↦ let at_k = ap (slice_index (map length (set rows j new))) same in omega arith
        | inr other ↦ let is_k = others k other in let fit = full.fits k (omega arith) in omega arith
      ];
    }

-- an empty row more, where the last one is full or there is none
pub rows_more : (xss : List (List ℕ)) → AreRows xss → (0 < length xss → slice_index (map length xss) (length xss - 1) ≡ row_length) → AreRows (xss ++ [] ∷ [])
rows_more xss rows whole =
    let count = length_push xss [] in
    let lengths : map length (xss ++ [] ∷ []) ≡ map length xss ++ 0 ∷ [] = map_push length xss [] in
    let long = length-map xss length in
    let others : (k : ℕ) → k < length xss → slice_index (map length (xss ++ [] ∷ [])) k ≡ slice_index (map length xss) k =
    λ k h. ap (λ (l : List ℕ). slice_index l k) lengths ∙ get_or_append_left (map length xss) (0 ∷ []) 0 k (omega arith) in
    let own : slice_index (map length (xss ++ [] ∷ [])) (length xss) ≡ 0 =
    ap (λ (l : List ℕ). slice_index l (length xss)) lengths ∙ get_or_push (map length xss) 0 0 (length xss) long in
    record {
      full = λ k h. elim (cases_lt (k + 1) (length xss)) [
        | inl early ↦ others k (omega arith) ∙ rows.full k early
        | inr late ↦
            let end : k ≡ length xss - 1 = omega arith in
            others k (omega arith) ∙ ap (slice_index (map length xss)) end ∙ whole (omega arith)
      ];
      fits = λ k h. elim (cases_lt k (length xss)) [
        | inl early ↦ let is = others k early in let fit = rows.fits k early in omega arith
        | inr late ↦
            let end : k ≡ length xss = omega arith in
            let is = ap (slice_index (map length (xss ++ [] ∷ []))) end in
            omega arith
      ];
    }

pub last_some : (xss : List (List ℕ)) (row : List ℕ) (n : ℕ) → Some row ≡ slice_get xss (length xss - 1) → length row ≡ n
    → 0 < length xss → slice_index (map length xss) (length xss - 1) ≡ n
last_some xss row n is long some =
    length_at xss (length xss - 1) row (omega arith) ∙ ap length (get_or_from_slice_get xss (length xss - 1) row row (sym is)) ∙ long

pub last_none : (xss : List (List ℕ)) → None ≡ slice_get xss (length xss - 1) → 0 < length xss → ⊥
last_none xss none some = elim (slice_get_cases xss (length xss - 1)).1 [
  | inl h ↦ let is = h.2 in absurd (cc)
  | inr h ↦ omega arith
]

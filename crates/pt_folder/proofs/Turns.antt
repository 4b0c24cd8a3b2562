-- Reads and writes, one after another.
use Rattle.std.proofs.Common.{
  ◌≡◌,
  ℕ,
  ◌+◌,
  ◌-◌,
  ◌^◌,
  ◌<◌,
  ◌≤◌,
  List,
  [],
  ◌∷◌,
  ◌++◌,
  ◌⊎◌,
  arith,
  length,
  length-drop,
  take,
  drop,
  refl,
  sym,
  ap,
  ◌∙◌,
  subst,
  length-take-le,
  le_refl,
  inl,
  inr,
}
use Rattle.std.proofs.lemmas.List.{drop-drop, take_rest, length_push}
use Rattle.std.proofs.lemmas.Fn.{FoldsTo-push}
use Rattle.std.specs.List.{FoldsTo}
use Rattle.std.specs.Prelude.{Result, Ok, Err}
use Rattle.std.specs.declared.io.Error.{Error}
use Rattle.std.specs.IoError.{error_kind}
use Rattle.std.specs.declared.io.ErrorKind.TheVariants.{WriteZero}
use Rattle.pt_folder.specs.Runs.{FailsToWrite, GivesPiece, ReadsBlock, ReadsMore, WritesMore}
use Rattle.pt_tree.specs.declared.faults.TreeFault.{TreeFault}
use Rattle.pt_tree.specs.declared.faults.TreeFault.TheVariants.{Device, Memory}
use Rattle.pt_folder.specs.Calls.{IsDueTo, fault_of}
use Rattle.pt_folder.specs.Listing.{FailsToGet, GetsNames, ReadsNames}
use Rattle.pt_folder.specs.Names.{AddsNames, RefusesBytes}
use Rattle.pt_folder.proofs.Blocks.{put_more}
use Rattle.std.proofs.lemmas.Slice.{take-put_mid_below}
use borrow.Rule.Slice.PartMut.{put_mid}

-- one more write
pub writes_more : {F : Type 0} (writes : F → List ℕ → Result ℕ Error → F → Type 0) (old mid new : F) (bytes : List ℕ) (done taken : ℕ)
    → ((counts : List ℕ) × FoldsTo (WritesMore writes) (old, bytes) counts (mid, drop done bytes)) → (taken ≡ 0 → ⊥)
    → writes mid (take (length bytes - done) (drop done bytes)) (Ok taken) new
    → (counts : List ℕ) × FoldsTo (WritesMore writes) (old, bytes) counts (new, drop (done + taken) bytes)
writes_more writes old mid new bytes done taken (counts, chain) some written =
    let piece = subst (λ b. writes mid b (Ok taken) new) (take_rest bytes done) written in (
      counts ++ taken ∷ [],
      FoldsTo-push (WritesMore writes) (old, bytes) counts (mid, drop done bytes) taken (new, drop (done + taken) bytes) chain
          (positive taken some, piece, sym (drop-drop taken done bytes)),
    )
  where
    positive : (n : ℕ) → (n ≡ 0 → ⊥) → 0 < n
    positive n some = grind (arith, some)

-- why writing ends: a write of what was left answered so
pub write_fails : {F : Type 0} (writes : F → List ℕ → Result ℕ Error → F → Type 0) (old mid new : F) (bytes : List ℕ) (done : ℕ) (e : Error)
    → ((counts : List ℕ) × FoldsTo (WritesMore writes) (old, bytes) counts (mid, drop done bytes)) → done < length bytes
    → writes mid (take (length bytes - done) (drop done bytes)) (Err e) new ⊎ (writes mid (take (length bytes - done) (drop done bytes)) (Ok 0) new
    × (error_kind e ≡ WriteZero))
    → FailsToWrite writes bytes old e new
write_fails {F} writes old mid new bytes done e (counts, chain) short failed = record {
  counts = counts;
  left = drop done bytes;
  last = mid;
  written = chain;
  some = omega (arith, short, length-drop done bytes);
  failed = subst (λ (b : List ℕ). writes mid b (Err e) new ⊎ (writes mid b (Ok 0) new × (error_kind e ≡ WriteZero))) (take_rest bytes done) failed;
}

-- what a read of a part of a buffer gave
pub gives_piece : {F : Type 0} (reads : F → List ℕ → Result ℕ Error → F → Type 0) (room : ℕ) (old new : F) (part : List ℕ) (count : ℕ) → length part ≡ room
    → count ≤ length part
    → (count ≡ 0 → ⊥) → reads old part (Ok count) new → GivesPiece reads room old (take count part) new
gives_piece {F} reads room old new part count whole fits some read =
    let size : length (take count part) ≡ count = length-take-le count part fits in
    record {
      buffer = part;
      whole = whole;
      filled = positive (length (take count part)) (λ none. some (sym size ∙ none));
      read = subst (λ n. reads old part (Ok n) new) (sym size) read;
      given = ap (λ n. take n part) (sym size);
    }
  where
    positive : (n : ℕ) → (n ≡ 0 → ⊥) → 0 < n
    positive n some = grind (arith, some)

-- the room that is left behind what was read
room_left : (n done : ℕ) (buffer part : List ℕ) → length buffer ≡ n → done ≤ length buffer → length part ≡ length buffer - done
    → length part ≡ n - length (take done buffer)
room_left n done buffer part long within whole = omega (arith, long, whole, length-take-le done buffer within)

module _ {F : Type 0} (reads : F → List ℕ → Result ℕ Error → F → Type 0) (n : ℕ) (old mid new : F) (buffer part : List ℕ) (done : ℕ)
    (long : length buffer ≡ n) (within : done ≤ length buffer) (whole : length part ≡ length buffer - done)
    (before : (pieces : List (List ℕ)) × FoldsTo (ReadsMore reads n) (old, []) pieces (mid, take done buffer)) where
  -- one more read
  pub reads_more : (count : ℕ) → count ≤ length part → (count ≡ 0 → ⊥) → reads mid part (Ok count) new
      → (pieces : List (List ℕ)) × FoldsTo (ReadsMore reads n) (old, []) pieces (new, take (done + count) (put_mid done (length buffer - done) buffer part))
  reads_more count fits some read =
      let piece = gives_piece reads (n - length (take done buffer)) mid new part count (room_left n done buffer part long within whole) fits some read in (
        before.0 ++ take count part ∷ [],
        FoldsTo-push (ReadsMore reads n) (old, []) before.0 (mid, take done buffer) (take count part) (new, _) before.1
            (piece, put_more done count (length buffer - done) buffer part within fits),
      )

  -- a read of nothing ends it
  pub reads_none : reads mid part (Ok 0) new → done < length buffer → ReadsBlock reads n old (take done (put_mid done (length buffer - done) buffer part)) new
  reads_none read short =
      let same : take done buffer ≡ take done (put_mid done (length buffer - done) buffer part) = sym (take-put_mid_below _ _ _ _ _ (le_refl _) within) in
      let size : length (take done buffer) < n = omega (arith, long, short, length-take-le done buffer within) in
      subst (λ block. ReadsBlock reads n old block new) same (record {
        pieces = before.0;
        last = mid;
        read = before.1;
        ends = inr (size, (part, room_left n done buffer part long within whole, read));
      })

-- what was read of a directory so far, by so many reads
abbrev pub Got : {D : Type 0} → (D → List ℕ → Result ℕ Error → D → Type 0) → D → D → List (List ℕ) → ℕ → Type 0
Got reads old mid names count = (pieces : List (List ℕ)) × (length pieces ≡ count) × FoldsTo (ReadsNames reads) (old, []) pieces (mid, names)

module _ {D : Type 0} (reads : D → List ℕ → Result ℕ Error → D → Type 0) (refuses : List (List ℕ) → List ℕ
    → Type 0) (old mid new : D) (names : List (List ℕ)) (part : List ℕ) (turns : ℕ)
    (before : Got reads old mid names turns) (whole : length part ≡ 8192) where
  -- one more piece
  pub names_more : (count : ℕ) (after : List (List ℕ)) (piece : List ℕ) → count ≤ length part → (count ≡ 0 → ⊥) → reads mid part (Ok count) new
      → piece ≡ take count part
      → AddsNames piece names after → Got reads old new after (turns + 1)
  names_more count after piece fits some read is adds =
      let gives = gives_piece reads 8192 mid new part count whole fits some read in (
        before.0 ++ take count part ∷ [],
        length_push before.0 (take count part) ∙ ap (λ n. n + 1) before.1,
        FoldsTo-push (ReadsNames reads) (old, []) before.0 (mid, names) (take count part) (new, after) before.2
            (gives, subst (λ bytes. AddsNames bytes names after) is adds),
      )

  -- a read of nothing ends it
  pub names_end : reads mid part (Ok 0) new → GetsNames reads old names new
  names_end read = record { pieces = before.0; last = mid; read = before.2; ends = (part, whole, read) }

  -- a read fails
  pub names_fail : (e : Error) (fault : TreeFault) → reads mid part (Err e) new → fault ≡ fault_of e → IsDueTo fault (FailsToGet reads refuses old new)
  names_fail e Memory read is = tt
  names_fail e Device read is = record { pieces = before.0; names = names; last = mid; read = before.2; failed = inl (e, (part, whole, read), sym is) }

  -- a piece has what isn't added
  pub names_refused : (count : ℕ) (fault : TreeFault) (piece : List ℕ) → count ≤ length part → (count ≡ 0 → ⊥) → reads mid part (Ok count) new
      → piece ≡ take count part
      → IsDueTo fault (RefusesBytes refuses names piece) → IsDueTo fault (FailsToGet reads refuses old new)
  names_refused count Memory piece fits some read is refused = tt
  names_refused count Device piece fits some read is refused = record {
    pieces = before.0;
    names = names;
    last = mid;
    read = before.2;
    failed = inr (inl (take count part, gives_piece reads 8192 mid new part count whole fits some read, subst (RefusesBytes refuses names) is refused));
  }

-- as many reads as a count has room for
pub names_spent : {D : Type 0} (reads : D → List ℕ → Result ℕ Error → D → Type 0) (refuses : List (List ℕ) → List ℕ
    → Type 0) (old mid : D) (names : List (List ℕ)) (turns : ℕ) → Got reads old mid names turns
    → turns ≡ 2 ^ 64 - 1 → FailsToGet reads refuses old mid
names_spent reads refuses old mid names turns before spent = record {
  pieces = before.0;
  names = names;
  last = mid;
  read = before.2;
  failed = inr (inr (before.1 ∙ spent, refl));
}

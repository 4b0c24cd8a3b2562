-- How the lines of a file come to its identifiers, byte by byte and block by block.
use Rattle.std.proofs.Common.{
  ◌≡◌,
  ◌<◌,
  ◌≤◌,
  ◌+◌,
  ◌==◌,
  ℕ,
  suc,
  Bool,
  true,
  false,
  List,
  [],
  ◌∷◌,
  ◌++◌,
  ◌∙◌,
  add-one,
  ap,
  append_assoc,
  append-nil,
  arith,
  drop,
  drop-cons,
  get_or,
  inl,
  inr,
  length,
  length-append,
  length-take-le,
  refl,
  subst,
  sym,
  take,
}
use Rattle.std.specs.Io.BufRead.{strip_last}
use Rattle.std.specs.List.{FoldsTo}
use Rattle.std.specs.Global.{Global}
use Rattle.std.specs.Prelude.{Option, Result, Ok, Err, String, Vec, cond, if◌then◌else◌}
use Rattle.std.specs.Result.{IsErrAnd}
use Rattle.std.specs.declared.io.Error.{Error}
use Rattle.std.proofs.lemmas.Bool.{eqb-true}
use Rattle.std.proofs.lemmas.Fn.{FoldsTo-push}
use Rattle.std.proofs.lemmas.List.{drop_all}
use Rattle.pt_folder.specs.Runs.{GivesPiece}
use Rattle.pt_cli.proofs.NameLists.{is_too_long, stripped_long}
use Rattle.pt_cli.specs.Listing.{
  Answer,
  EndsLine,
  EndsReading,
  Identifiers,
  Reading,
  ReadsIdentifiers,
  ReadsMore,
  TakesBytes,
  TakesEnd,
  behind,
  come_to,
  fault_with_mark,
  identifiers_in,
  listed_fault,
  read_before,
  read_from,
  texts_of,
}
use Rattle.pt_cli.specs.Lines.{lines_from, next_number}
use Rattle.pt_cli.specs.declared.list_fault.BadLine.{BadLine}
use Rattle.pt_cli.specs.declared.list_fault.FileFault.{FileFault}
use Rattle.pt_cli.specs.declared.list_fault.FileFault.TheVariants as file
use Rattle.pt_cli.specs.declared.list_fault.LineFault.{LineFault}
use Rattle.pt_cli.specs.declared.list_fault.LineFault.TheVariants.{TooLong}

-- behind nothing
pub behind_none : (more : Identifiers) → behind [] more ≡ more
behind_none (Ok ids) = refl
behind_none (Err bad) = refl

behind_both : (ids : List (List ℕ)) (id : List ℕ) (more : Identifiers) → behind ids (behind (id ∷ []) more) ≡ behind (ids ++ id ∷ []) more
behind_both ids id (Ok more) = ap (λ (l : List (List ℕ)). Ok l) (sym (append_assoc ids (id ∷ []) more))
behind_both ids id (Err bad) = refl

-- what a byte comes to, by whether it ends a line
by_byte : Reading → Bool → ℕ → List ℕ → Identifiers
by_byte at ended byte rest =
    behind at.ids (read_from at.number (if ended then strip_last 13 at.line ∷ lines_from [] rest else lines_from (at.line ++ byte ∷ []) rest))

-- a byte that ends no line is of the line at hand
pub goes_on : (old new : Reading) (byte : ℕ) (done : Unit {0}) → (byte == 10) ≡ false → new ≡ record old { line = old.line ++ byte ∷ [] }
    → TakesBytes old (byte ∷ []) new (Ok done)
unfolding by_byte
goes_on old new byte done other is = λ rest. ap (λ b. by_byte old b byte rest) other ∙ ap (λ (at : Reading). come_to at rest) (sym is)

-- one that ends a line ends it
pub ends_line : (old new : Reading) (byte : ℕ) (answer : Result (Unit {0}) FileFault) → (byte == 10) ≡ true → EndsLine old (strip_last 13 old.line) new answer
    → TakesBytes old (byte ∷ []) new answer
unfolding by_byte
ends_line old new byte (Ok done) ends (fine, is) = λ rest.
    let id = strip_last 13 old.line in
    let more = read_from (next_number old.number) (lines_from [] rest) in
    ap (λ b. by_byte old b byte rest) ends
    ∙ ap (λ (why : Option LineFault). behind old.ids (read_before old.number id why more)) fine
    ∙ behind_both old.ids id more ∙ ap (λ (at : Reading). come_to at rest) (sym is)
ends_line old new byte (Err (file.Line bad)) ends (wrong, number) = λ rest.
    let id = strip_last 13 old.line in
    let more = read_from (next_number old.number) (lines_from [] rest) in
    ap (λ b. by_byte old b byte rest) ends
    ∙ ap (λ (why : Option LineFault). behind old.ids (read_before old.number id why more)) wrong
    ∙ ap (λ (n : ℕ). Err (record bad { number = n })) (sym number)
ends_line old new byte (Err (file.Read error)) ends told = absurd told
ends_line old new byte (Err file.Memory) ends told = tt

-- a line of too many bytes is refused
refused_long : (number : ℕ) (line : List ℕ) (more : Identifiers) → 65536 < length line
    → read_before number line (listed_fault number line) more ≡ Err (record { number = number; fault = TooLong })
refused_long number line more long =
    ap (λ (why : Option LineFault). read_before number line (fault_with_mark number line why) more) (is_too_long line long)

-- it is, whatever comes behind what was read of it
long_line : (number : ℕ) (line bytes : List ℕ) → 65537 < length line → read_from number (lines_from line bytes)
    ≡ Err (record { number = number; fault = TooLong })
long_line number line [] long = by (length line == 0) refl
  where
    by : (c : Bool) → (length line == 0) ≡ c → read_from number (cond c [] (line ∷ [])) ≡ Err (record { number = number; fault = TooLong })
    by true none = absurd (omega (arith, eqb-true (length line) 0 none))
    by false some = refused_long number line (Ok []) (omega arith)
long_line number line (byte ∷ bytes) long = by (byte == 10) (long_line number (line ++ byte ∷ []) bytes (omega (arith, length-append line (byte ∷ []))))
  where
    by : (c : Bool) → read_from number (lines_from (line ++ byte ∷ []) bytes) ≡ Err (record { number = number; fault = TooLong })
        → read_from number (cond c (strip_last 13 line ∷ lines_from [] bytes) (lines_from (line ++ byte ∷ []) bytes))
        ≡ Err (record { number = number; fault = TooLong })
    by true more = refused_long number (strip_last 13 line) (read_from (next_number number) (lines_from [] bytes)) (stripped_long line long)
    by false more = more

-- so a byte that ends no line may be one too many
pub too_long : (old new : Reading) (byte : ℕ) (bad : BadLine) → (byte == 10) ≡ false → 65536 < length old.line
    → bad ≡ record { number = old.number; fault = TooLong }
    → TakesBytes old (byte ∷ []) new (Err (file.Line bad))
unfolding by_byte
too_long old new byte bad other long is = λ rest.
    ap (λ b. by_byte old b byte rest) other
    ∙ ap (behind old.ids) (long_line old.number (old.line ++ byte ∷ []) rest (omega (arith, length-append old.line (byte ∷ []))))
    ∙ ap (λ (b : BadLine). Err b) (sym is)

-- ---- the end of the file

-- what is left of a line is none
pub comes_to_none : (at : Reading) → length at.line ≡ 0 → come_to at [] ≡ Ok at.ids
comes_to_none at none =
    ap (λ n. behind at.ids (read_from at.number (if n == 0 then [] else at.line ∷ []))) none
    ∙ ap (λ (l : List (List ℕ)). Ok l) (append-nil at.ids)

-- or is one
comes_to_one : (at : Reading) → (length at.line == 0) ≡ false → come_to at []
    ≡ behind at.ids (read_before at.number at.line (listed_fault at.number at.line) (Ok []))
comes_to_one at some = ap (λ b. behind at.ids (read_from at.number (if b then [] else at.line ∷ []))) some

pub comes_to_last : (old new : Reading) (done : Unit {0}) → (length old.line == 0) ≡ false → EndsLine old old.line new (Ok done) → come_to old [] ≡ Ok new.ids
comes_to_last old new done some (fine, is) =
    comes_to_one old some ∙ ap (λ (why : Option LineFault). behind old.ids (read_before old.number old.line why (Ok []))) fine
    ∙ ap (λ (at : Reading). Ok at.ids) (sym is)

-- or one that is no identifier
pub comes_to_fault : (old new : Reading) (fault answer : FileFault) → (length old.line == 0) ≡ false → EndsLine old old.line new (Err fault) → answer ≡ fault
    → TakesEnd old (Err answer)
comes_to_fault old new fault answer some ends is = subst (λ (f : FileFault). TakesEnd old (Err f)) (sym is) (by fault ends)
  where
    by : (f : FileFault) → EndsLine old old.line new (Err f) → TakesEnd old (Err f)
    by (file.Line bad) (wrong, number) =
        comes_to_one old some ∙ ap (λ (why : Option LineFault). behind old.ids (read_before old.number old.line why (Ok []))) wrong
        ∙ ap (λ (n : ℕ). Err (record bad { number = n })) (sym number)
    by (file.Read error) told = absurd told
    by file.Memory told = tt

-- ---- the bytes of a piece

-- the bytes before this one were read of a piece
abbrev pub IsWithin : Reading → List ℕ → ℕ → Reading → Type 0
IsWithin first piece i now = (rest : List ℕ) → come_to first (piece ++ rest) ≡ come_to now (drop i piece ++ rest)

module _ (first old new : Reading) (piece : List ℕ) (i : ℕ) (within : i < length piece) (so : IsWithin first piece i old) where
  -- up to this byte and behind it
  past_it : (rest : List ℕ) → come_to first (piece ++ rest) ≡ come_to old (get_or piece i 0 ∷ drop (suc i) piece ++ rest)
  past_it rest = so rest ∙ ap (λ (l : List ℕ). come_to old (l ++ rest)) (drop-cons piece i 0 within)

  -- one byte more
  pub byte_more : ((rest : List ℕ) → come_to old (get_or piece i 0 ∷ rest) ≡ come_to new rest) → IsWithin first piece (i + 1) new
  byte_more takes = λ rest.
      past_it rest ∙ takes (drop (suc i) piece ++ rest) ∙ ap (λ n. come_to new (drop n piece ++ rest)) (sym (add-one i))

  -- a byte ends it
  pub byte_ends : (fault : FileFault) (answer : Result (Unit {0}) FileFault) → TakesBytes old (get_or piece i 0 ∷ []) new (Err fault)
      → IsErrAnd answer (λ y. y ≡ fault)
      → TakesBytes first piece new answer
  byte_ends fault (Ok done) takes is = absurd is
  byte_ends fault (Err answer) takes is = subst (λ (f : FileFault). TakesBytes first piece new (Err f)) (sym is) (by fault takes)
    where
      by : (f : FileFault) → TakesBytes old (get_or piece i 0 ∷ []) new (Err f) → TakesBytes first piece new (Err f)
      by (file.Line bad) told = λ rest. past_it rest ∙ told (drop (suc i) piece ++ rest)
      by (file.Read error) told = absurd told
      by file.Memory told = tt

-- all bytes were read
pub all_bytes : (first last : Reading) (piece : List ℕ) (i : ℕ) → length piece ≤ i → IsWithin first piece i last → (rest : List ℕ)
    → come_to first (piece ++ rest) ≡ come_to last rest
all_bytes first last piece i past so = λ rest. so rest ∙ ap (λ (l : List ℕ). come_to last (l ++ rest)) (drop_all i piece past)

-- ---- the pieces of a file

-- what was read of a file so far: it comes to what the reading does with what comes behind
pub record SoFar {F : Type 0} (reads : F → List ℕ → Result ℕ Error → F → Type 0) (old now : F) (at : Reading) : Type 0 where
  pub bytes : List ℕ
  pub pieces : List (List ℕ)
  pub read : FoldsTo (ReadsMore reads) (old, []) pieces (now, bytes)
  pub comes : (rest : List ℕ) → identifiers_in (bytes ++ rest) ≡ come_to at rest

-- at the beginning
pub begins : {F : Type 0} (reads : F → List ℕ → Result ℕ Error → F → Type 0) (old : F) (first : Reading) → first ≡ record { number = 1; line = []; ids = [] }
    → SoFar reads old old first
begins reads old first is = record {
  bytes = [];
  pieces = [];
  read = refl;
  comes = λ rest. sym (ap (λ (at : Reading). come_to at rest) is ∙ behind_none (identifiers_in rest));
}

module _ {F : Type 0} (reads : F → List ℕ → Result ℕ Error → F → Type 0) (old mid new : F) (at : Reading) (block : List ℕ) (so : SoFar reads old mid at)
    (whole : length block ≡ 8192) where
  -- what a read gave
  piece_of : (count : ℕ) → count ≤ length block → (count ≡ 0 → ⊥) → reads mid block (Ok count) new → GivesPiece reads 8192 mid (take count block) new
  piece_of count fits some read =
      let size : length (take count block) ≡ count = length-take-le count block fits in
      record {
        buffer = block;
        whole = whole;
        filled = positive (length (take count block)) (λ none. some (sym size ∙ none));
        read = subst (λ n. reads mid block (Ok n) new) (sym size) read;
        given = ap (λ n. take n block) (sym size);
      }
    where
      positive : (n : ℕ) → (n ≡ 0 → ⊥) → 0 < n
      positive n some = grind (arith, some)

  module _ (count : ℕ) (fits : count ≤ length block) (some : count ≡ 0 → ⊥) (read : reads mid block (Ok count) new) where
    -- it stands behind what was read before
    pushed : FoldsTo (ReadsMore reads) (old, []) (so.pieces ++ take count block ∷ []) (new, so.bytes ++ take count block)
    pushed =
        FoldsTo-push (ReadsMore reads) (old, []) so.pieces (mid, so.bytes) (take count block) (new, so.bytes ++ take count block) so.read
        (piece_of count fits some read, refl)

    -- all comes to what the reading comes to with it
    comes_behind : (rest : List ℕ) → identifiers_in ((so.bytes ++ take count block) ++ rest) ≡ come_to at (take count block ++ rest)
    comes_behind rest = ap identifiers_in (append_assoc so.bytes (take count block) rest) ∙ so.comes (take count block ++ rest)

    module _ (after : Reading) (piece : List ℕ) (is : piece ≡ take count block) where
      -- the same by the piece
      comes_by : (rest : List ℕ) → identifiers_in ((so.bytes ++ take count block) ++ rest) ≡ come_to at (piece ++ rest)
      comes_by rest = comes_behind rest ∙ ap (λ (l : List ℕ). come_to at (l ++ rest)) (sym is)

      -- one piece more
      pub piece_more : ((rest : List ℕ) → come_to at (piece ++ rest) ≡ come_to after rest) → SoFar reads old new after
      piece_more takes = record {
        bytes = so.bytes ++ take count block;
        pieces = so.pieces ++ take count block ∷ [];
        read = pushed;
        comes = λ rest. comes_by rest ∙ takes rest;
      }

      -- a piece ends it
      pub piece_ends : (fault : FileFault) (answer : Result (Vec (String Global) Global) FileFault) → TakesBytes at piece after (Err fault)
          → IsErrAnd answer (λ y. y ≡ fault)
          → ReadsIdentifiers reads old new (texts_of answer)
      piece_ends fault (Ok ids) takes same = absurd same
      piece_ends fault (Err answer) takes same = subst (λ (f : FileFault). ReadsIdentifiers reads old new (Err f)) (sym same) (by fault takes)
        where
          by : (f : FileFault) → TakesBytes at piece after (Err f) → ReadsIdentifiers reads old new (Err f)
          by (file.Line bad) told = record {
            pieces = so.pieces ++ take count block ∷ [];
            last = (new, so.bytes ++ take count block);
            read = pushed;
            ends = inr (λ rest. comes_by rest ∙ told rest);
          }
          by (file.Read error) told = absurd told
          by file.Memory told = record { pieces = so.pieces; last = (mid, so.bytes); read = so.read; ends = tt }

  -- a read gives nothing
  pub piece_none : (answer : Answer) → reads mid block (Ok 0) new → TakesEnd at answer → ReadsIdentifiers reads old new answer
  piece_none answer read told = record { pieces = so.pieces; last = (mid, so.bytes); read = so.read; ends = by answer told }
    where
      at_end : identifiers_in so.bytes ≡ come_to at []
      at_end = ap identifiers_in (sym (append-nil so.bytes)) ∙ so.comes []

      by : (answer : Answer) → TakesEnd at answer → EndsReading reads (mid, so.bytes) new answer
      by (Ok ids) told = ((block, whole, read), at_end ∙ told)
      by (Err (file.Line bad)) told = inl ((block, whole, read), at_end ∙ told)
      by (Err (file.Read error)) told = absurd told
      by (Err file.Memory) told = tt

  -- a read fails
  pub piece_fails : (error : Error) → reads mid block (Err error) new → ReadsIdentifiers reads old new (Err (file.Read error))
  piece_fails error read = record { pieces = so.pieces; last = (mid, so.bytes); read = so.read; ends = (block, whole, read) }

-- want of memory may come at any time
pub breaks_off : {F : Type 0} (reads : F → List ℕ → Result ℕ Error → F → Type 0) (old mid new : F) (at : Reading) → SoFar reads old mid at
    → ReadsIdentifiers reads old new (Err file.Memory)
breaks_off reads old mid new at so = record { pieces = so.pieces; last = (mid, so.bytes); read = so.read; ends = tt }

pub ruleset lines = (goes_on, ends_line, too_long, comes_to_none, comes_to_last, comes_to_fault)

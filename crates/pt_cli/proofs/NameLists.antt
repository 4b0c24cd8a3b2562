-- What an input comes to, as it is read byte by byte.
use Rattle.std.proofs.Common.{
  ◌≡◌,
  ◌∙◌,
  ◌+◌,
  ◌-◌,
  ◌<◌,
  ◌≤◌,
  ◌++◌,
  ◌∷◌,
  [],
  ℕ,
  Bool,
  true,
  false,
  List,
  length,
  take,
  Option,
  Some,
  None,
  Result,
  Ok,
  Err,
  ap,
  refl,
  sym,
  append_assoc,
  append-nil,
  subst,
  arith,
  length-append,
  length-take,
  get_or,
}
use Rattle.std.specs.Prelude.{◌==◌, nat_lt, cond}
use Rattle.std.specs.Str.{is_utf8}
use Rattle.std.proofs.lemmas.Bool.{eqb-true, lt-ltb, ltb-true}
use Rattle.std.specs.Io.BufRead.{ends_with_byte, strip_last}
use Rattle.std.proofs.lemmas.List.Folds.{fold_stays, fold_stuck}
use Rattle.std.proofs.lemmas.List.Sums.{fold_more}
use Rattle.std.proofs.lemmas.List.{take_all}
use Rattle.std.specs.Result.{IsErrAnd}
use Rattle.pt_cli.specs.Feeding.{Fed, IsFed, Stopped, ended, ended_by, fed, fed_byte, fed_step, finished, longer, stopped_by}
use Rattle.pt_cli.specs.Lines.{line_fault, lines_from, next_number, whole_lines_from}
use Rattle.pt_cli.specs.NameList.{NamesListed, listed_before, listed_from, names_line}
use Rattle.pt_cli.specs.declared.command.NamesArgs.{NamesArgs}
use Rattle.pt_cli.specs.declared.list_fault.LineFault.{LineFault}
use Rattle.pt_cli.specs.declared.list_fault.LineFault.TheVariants.{Empty, NotUtf8, TooLong}
use Rattle.pt_cli.specs.declared.list_fault.ListFault.{ListFault}
use Rattle.pt_cli.specs.declared.list_fault.ListFault.TheVariants as list

-- behind more names
abbrev pub shifted : List ℕ → Result Fed Stopped → Result Fed Stopped
shifted text (Ok at) = Ok (record at { text = text ++ at.text })
shifted text (Err stop) = Err (record stop { text = text ++ stop.text })

-- the same of what lines come to
abbrev pub behind : List ℕ → NamesListed → NamesListed
behind text listed = record { text = text ++ listed.text; bad = listed.bad }

-- what it came to at the end of its input
abbrev pub at_end : NamesArgs → Result Fed Stopped → Result Fed Stopped
at_end asked (Ok at) = finished asked at
at_end asked (Err stop) = Err stop

-- the names, and what ended it
abbrev pub in_all : Result Fed Stopped → NamesListed
in_all (Ok at) = record { text = at.text; bad = None }
in_all (Err stop) = record { text = stop.text; bad = Some stop.bad }

-- a line of too many bytes is too long
pub is_too_long : (line : List ℕ) → 65536 < length line → line_fault line ≡ Some TooLong
is_too_long line long =
    ap (λ (c : Bool). cond c (Some TooLong) (cond (length line == 0) (Some Empty) (cond (is_utf8 line) None (Some NotUtf8))))
    (lt-ltb 65536 (length line) long)

-- it is so without a byte at its end too
pub stripped_long : (line : List ℕ) → 65537 < length line → 65536 < length (strip_last 13 line)
stripped_long line long = by (ends_with_byte 13 line)
  where
    by : (c : Bool) → 65536 < length (cond c (take (length line - 1) line) line)
    by true = omega (arith, length-take (length line - 1) line)
    by false = omega arith

-- a line that has nothing against it
pub no_fault : (line : List ℕ) → nat_lt 65536 (length line) ≡ false → (length line == 0) ≡ false → is_utf8 line ≡ true → None ≡ line_fault line
no_fault line short some text = by (nat_lt 65536 (length line)) (length line == 0) (is_utf8 line) short some text
  where
    by : (a b c : Bool) → a ≡ false → b ≡ false → c ≡ true
        → None ≡ cond a (Some TooLong) (cond b (Some Empty) (cond c None (Some NotUtf8)))
    by false false true p q r = refl
    by true b c p q r = absurd (cc p)
    by false true c p q r = absurd (cc q)
    by false false false p q r = absurd (cc r)

-- a line that isn't a text, and has nothing else against it
pub no_text : (line : List ℕ) → nat_lt 65536 (length line) ≡ false → (length line == 0) ≡ false → (is_utf8 line ≡ true → ⊥)
    → Some NotUtf8 ≡ line_fault line
no_text line short some text = by (nat_lt 65536 (length line)) (length line == 0) (is_utf8 line) short some text
  where
    by : (a b c : Bool) → a ≡ false → b ≡ false → (c ≡ true → ⊥)
        → Some NotUtf8 ≡ cond a (Some TooLong) (cond b (Some Empty) (cond c None (Some NotUtf8)))
    by false false false p q r = refl
    by true b c p q r = absurd (cc p)
    by false true c p q r = absurd (cc q)
    by false false true p q r = absurd (r refl)

module _ (asked : NamesArgs) where
  -- what has ended stays so
  pub stays : (stop : Stopped) (bytes : List ℕ) → fed asked (Err stop) bytes ≡ Err stop
  stays stop bytes = fold_stays (fed_step asked) (Err stop) (λ _. refl) bytes

  -- a byte more is read
  pub byte_more : (at now next : Fed) (bytes : List ℕ) (i : ℕ) → i < length bytes → fed asked (Ok at) (take i bytes) ≡ Ok now
      → fed_byte asked now (get_or bytes i 0) ≡ Ok next → fed asked (Ok at) (take (i + 1) bytes) ≡ Ok next
  byte_more at now next bytes i within so_far here =
      fold_more (fed_step asked) (Ok at) bytes i 0 within ∙ ap (λ (r : Result Fed Stopped). fed_step asked r (get_or bytes i 0)) so_far ∙ here

  -- a byte ends it, or can't be read: so it is with all of the bytes
  pub byte_ends : (at now after : Fed) (bytes : List ℕ) (i : ℕ) (e : ListFault) (answer : Result (Unit {0}) ListFault) → i < length bytes
      → fed asked (Ok at) (take i bytes) ≡ Ok now → IsFed (fed_byte asked now (get_or bytes i 0)) after (Err e)
      → IsErrAnd answer (λ y. y ≡ e) → IsFed (fed asked (Ok at) bytes) after answer
  byte_ends at now after bytes i e (Ok done) within so_far here is = absurd is
  byte_ends at now after bytes i e (Err y) within so_far here is =
      subst (λ (f : ListFault). IsFed (fed asked (Ok at) bytes) after (Err f)) (sym is) (by e here)
    where
      by : (f : ListFault) → IsFed (fed_byte asked now (get_or bytes i 0)) after (Err f) → IsFed (fed asked (Ok at) bytes) after (Err f)
      by (list.Line bad) told =
          let stop : Stopped = record { text = after.text; bad = bad } in
          sym (fold_stuck (fed_step asked) (Err stop) (λ _. refl) (Ok at) bytes i 0 within
          (ap (λ (r : Result Fed Stopped). fed_step asked r (get_or bytes i 0)) so_far ∙ told))
      by list.Read told = absurd told
      by list.Write told = absurd told
      by list.Memory told = tt

  -- all bytes are read
  pub all_bytes : (at now : Fed) (bytes : List ℕ) (i : ℕ) → length bytes ≤ i → fed asked (Ok at) (take i bytes) ≡ Ok now → fed asked (Ok at) bytes ≡ Ok now
  all_bytes at now bytes i past so_far = ap (fed asked (Ok at)) (sym (take_all i bytes past)) ∙ so_far

  pub shifted-ended : (text : List ℕ) (at : Fed) (id : List ℕ) (fault : Option LineFault)
      → ended_by asked (record at { text = text ++ at.text }) id fault ≡ shifted text (ended_by asked at id fault)
  shifted-ended text at id None =
      ap (λ (l : List ℕ). Ok (record { number = next_number at.number; line = []; text = l })) (append_assoc text at.text (names_line asked id))
  shifted-ended text at id (Some fault) = refl

  shifted-longer : (text : List ℕ) (at : Fed) (byte : ℕ) (c : Bool)
      → cond c (Err (stopped_by (record at { text = text ++ at.text }) TooLong)) (Ok (record at { line = at.line ++ byte ∷ []; text = text ++ at.text }))
      ≡ shifted text (cond c (Err (stopped_by at TooLong)) (Ok (record at { line = at.line ++ byte ∷ [] })))
  shifted-longer text at byte true = refl
  shifted-longer text at byte false = refl

  shifted-byte : (text : List ℕ) (at : Fed) (byte : ℕ) (c : Bool)
      → cond c (ended asked (record at { text = text ++ at.text }) (strip_last 13 at.line)) (longer (record at { text = text ++ at.text }) byte)
      ≡ shifted text (cond c (ended asked at (strip_last 13 at.line)) (longer at byte))
  shifted-byte text at byte true = shifted-ended text at (strip_last 13 at.line) (line_fault (strip_last 13 at.line))
  shifted-byte text at byte false = shifted-longer text at byte (nat_lt 65536 (length at.line))

  shifted-step : (text : List ℕ) (at : Result Fed Stopped) (byte : ℕ)
      → fed_step asked (shifted text at) byte ≡ shifted text (fed_step asked at byte)
  shifted-step text (Ok at) byte = shifted-byte text at byte (byte == 10)
  shifted-step text (Err stop) byte = refl

  -- the names before have no part in what is read
  pub shifted-fed : (text : List ℕ) (at : Result Fed Stopped) (bytes : List ℕ)
      → fed asked (shifted text at) bytes ≡ shifted text (fed asked at bytes)
  shifted-fed text at [] = refl
  shifted-fed text at (byte ∷ bytes) =
      ap (λ (r : Result Fed Stopped). fed asked r bytes) (shifted-step text at byte) ∙ shifted-fed text (fed_step asked at byte) bytes

  -- a line of too many bytes is refused
  refused_long : (number : ℕ) (line : List ℕ) (rest : NamesListed) → 65536 < length line
      → listed_before asked number line (line_fault line) rest ≡ record { text = []; bad = Some (record { number = number; fault = TooLong }) }
  refused_long number line rest long =
      ap (λ (f : Option LineFault). listed_before asked number line f rest) (is_too_long line long)

  -- it is, whatever comes behind what was read of it
  long_line : (number : ℕ) (line : List ℕ) (bytes : List ℕ) → 65537 < length line
      → listed_from asked number (lines_from line bytes) ≡ record { text = []; bad = Some (record { number = number; fault = TooLong }) }
  long_line number line [] long = by (length line == 0) refl
    where
      by : (c : Bool) → (length line == 0) ≡ c
          → listed_from asked number (cond c [] (line ∷ [])) ≡ record { text = []; bad = Some (record { number = number; fault = TooLong }) }
      by true none = absurd (omega (arith, eqb-true (length line) 0 none))
      by false some = refused_long number line (record { text = []; bad = None }) (omega arith)
  long_line number line (byte ∷ bytes) long =
      by (byte == 10) (long_line number (line ++ byte ∷ []) bytes (omega (arith, length-append line (byte ∷ []))))
    where
      by : (c : Bool)
          → listed_from asked number (lines_from (line ++ byte ∷ []) bytes) ≡ record { text = []; bad = Some (record { number = number; fault = TooLong }) }
          → listed_from asked number (cond c (strip_last 13 line ∷ lines_from [] bytes) (lines_from (line ++ byte ∷ []) bytes))
          ≡ record { text = []; bad = Some (record { number = number; fault = TooLong }) }
      by true more = refused_long number (strip_last 13 line) (listed_from asked (next_number number) (lines_from [] bytes)) (stripped_long line long)
      by false more = more

  -- what an input comes to is what its bytes came to, read one by one
  one_line : (at : Fed) (id : List ℕ) (fault : Option LineFault)
      → in_all (ended_by asked at id fault) ≡ behind at.text (listed_before asked at.number id fault (record { text = []; bad = None }))
  one_line at id None =
      ap (λ (l : List ℕ). record { text = at.text ++ l; bad = None }) (sym (append-nil (names_line asked id)))
  one_line at id (Some fault) =
      ap (λ (l : List ℕ). record { text = l; bad = Some (record { number = at.number; fault = fault }) }) (sym (append-nil at.text))

  pub all_read : (at : Fed) (bytes : List ℕ)
      → in_all (at_end asked (fed asked (Ok at) bytes)) ≡ behind at.text (listed_from asked at.number (lines_from at.line bytes))
  all_read at [] = by (length at.line == 0)
    where
      by : (c : Bool) → in_all (cond c (Ok at) (ended asked at at.line)) ≡ behind at.text (listed_from asked at.number (cond c [] (at.line ∷ [])))
      by true = ap (λ (l : List ℕ). record { text = l; bad = None }) (sym (append-nil at.text))
      by false = one_line at at.line (line_fault at.line)
  all_read at (byte ∷ bytes) =
      by (byte == 10)
      (all_read (record { number = next_number at.number; line = []; text = at.text ++ names_line asked (strip_last 13 at.line) }) bytes)
      (all_read (record at { line = at.line ++ byte ∷ [] }) bytes)
    where
      ends : (id : List ℕ) (fault : Option LineFault)
          → in_all (at_end asked (fed asked (Ok (record { number = next_number at.number; line = []; text = at.text ++ names_line asked id })) bytes))
          ≡ behind (at.text ++ names_line asked id) (listed_from asked (next_number at.number) (lines_from [] bytes))
          → in_all (at_end asked (fed asked (ended_by asked at id fault) bytes))
          ≡ behind at.text (listed_before asked at.number id fault (listed_from asked (next_number at.number) (lines_from [] bytes)))
      ends id None next =
          let listed : NamesListed = listed_from asked (next_number at.number) (lines_from [] bytes) in
          next
          ∙ ap (λ (l : List ℕ). record { text = l; bad = listed.bad }) (append_assoc at.text (names_line asked id) listed.text)
      ends id (Some fault) next =
          ap (λ (r : Result Fed Stopped). in_all (at_end asked r)) (stays (stopped_by at fault) bytes)
          ∙ ap (λ (l : List ℕ). record { text = l; bad = Some (record { number = at.number; fault = fault }) }) (sym (append-nil at.text))

      goes : (c : Bool) → nat_lt 65536 (length at.line) ≡ c
          → in_all (at_end asked (fed asked (Ok (record at { line = at.line ++ byte ∷ [] })) bytes))
          ≡ behind at.text (listed_from asked at.number (lines_from (at.line ++ byte ∷ []) bytes))
          → in_all (at_end asked (fed asked (cond c (Err (stopped_by at TooLong)) (Ok (record at { line = at.line ++ byte ∷ [] }))) bytes))
          ≡ behind at.text (listed_from asked at.number (lines_from (at.line ++ byte ∷ []) bytes))
      goes true long next =
          ap (λ (r : Result Fed Stopped). in_all (at_end asked r)) (stays (stopped_by at TooLong) bytes)
          ∙ ap (λ (l : List ℕ). record { text = l; bad = Some (record { number = at.number; fault = TooLong }) }) (sym (append-nil at.text))
          ∙ sym (ap (behind at.text) (long_line at.number (at.line ++ byte ∷ []) bytes
          (omega (arith, length-append at.line (byte ∷ []), ltb-true 65536 (length at.line) long))))
      goes false long next = next

      by : (c : Bool)
          → in_all (at_end asked (fed asked (Ok (record {
            number = next_number at.number;
            line = [];
            text = at.text
                ++ names_line asked (strip_last 13 at.line);
          })) bytes))
          ≡ behind (at.text ++ names_line asked (strip_last 13 at.line)) (listed_from asked (next_number at.number) (lines_from [] bytes))
          → in_all (at_end asked (fed asked (Ok (record at { line = at.line ++ byte ∷ [] })) bytes))
          ≡ behind at.text (listed_from asked at.number (lines_from (at.line ++ byte ∷ []) bytes))
          → in_all (at_end asked (fed asked (cond c (ended asked at (strip_last 13 at.line)) (longer at byte)) bytes))
          ≡ behind at.text (listed_from asked at.number (cond c (strip_last 13 at.line ∷ lines_from [] bytes) (lines_from (at.line ++ byte ∷ []) bytes)))
      by true next more = ends (strip_last 13 at.line) (line_fault (strip_last 13 at.line)) next
      by false next more = goes (nat_lt 65536 (length at.line)) refl more

  -- the names at hand are those of the whole lines that were read
  pub whole_read : (at now : Fed) (bytes : List ℕ) → fed asked (Ok at) bytes ≡ Ok now
      → behind at.text (listed_from asked at.number (whole_lines_from at.line bytes)) ≡ record { text = now.text; bad = None }
  whole_read at now [] is =
      let same : at ≡ now = cc is in
      ap (λ (l : List ℕ). record { text = l; bad = None }) (append-nil at.text ∙ ap (λ (f : Fed). f.text) same)
  whole_read at now (byte ∷ bytes) is =
      by (byte == 10)
      (whole_read (record { number = next_number at.number; line = []; text = at.text ++ names_line asked (strip_last 13 at.line) }) now bytes)
      (whole_read (record at { line = at.line ++ byte ∷ [] }) now bytes)
      is
    where
      ends : (id : List ℕ) (fault : Option LineFault)
          → (fed asked (Ok (record { number = next_number at.number; line = []; text = at.text ++ names_line asked id })) bytes ≡ Ok now
          → behind (at.text ++ names_line asked id) (listed_from asked (next_number at.number) (whole_lines_from [] bytes))
          ≡ record { text = now.text; bad = None })
          → fed asked (ended_by asked at id fault) bytes ≡ Ok now
          → behind at.text (listed_before asked at.number id fault (listed_from asked (next_number at.number) (whole_lines_from [] bytes)))
          ≡ record { text = now.text; bad = None }
      ends id None next is =
          let listed : NamesListed = listed_from asked (next_number at.number) (whole_lines_from [] bytes) in
          ap (λ (l : List ℕ). record { text = l; bad = listed.bad }) (sym (append_assoc at.text (names_line asked id) listed.text))
          ∙ next is
      ends id (Some fault) next is = absurd (cc (is, stays (stopped_by at fault) bytes))

      goes : (c : Bool)
          → (fed asked (Ok (record at { line = at.line ++ byte ∷ [] })) bytes ≡ Ok now
          → behind at.text (listed_from asked at.number (whole_lines_from (at.line ++ byte ∷ []) bytes)) ≡ record { text = now.text; bad = None })
          → fed asked (cond c (Err (stopped_by at TooLong)) (Ok (record at { line = at.line ++ byte ∷ [] }))) bytes ≡ Ok now
          → behind at.text (listed_from asked at.number (whole_lines_from (at.line ++ byte ∷ []) bytes)) ≡ record { text = now.text; bad = None }
      goes true next is = absurd (cc (is, stays (stopped_by at TooLong) bytes))
      goes false next is = next is

      by : (c : Bool)
          → (fed asked (Ok (record { number = next_number at.number; line = []; text = at.text ++ names_line asked (strip_last 13 at.line) })) bytes ≡ Ok now
          → behind (at.text ++ names_line asked (strip_last 13 at.line)) (listed_from asked (next_number at.number) (whole_lines_from [] bytes))
          ≡ record { text = now.text; bad = None })
          → (fed asked (Ok (record at { line = at.line ++ byte ∷ [] })) bytes ≡ Ok now
          → behind at.text (listed_from asked at.number (whole_lines_from (at.line ++ byte ∷ []) bytes)) ≡ record { text = now.text; bad = None })
          → fed asked (cond c (ended asked at (strip_last 13 at.line)) (longer at byte)) bytes ≡ Ok now
          → behind at.text (listed_from asked at.number (cond c (strip_last 13 at.line ∷ whole_lines_from [] bytes)
          (whole_lines_from (at.line ++ byte ∷ []) bytes)))
          ≡ record { text = now.text; bad = None }
      by true next more is = ends (strip_last 13 at.line) (line_fault (strip_last 13 at.line)) next is
      by false next more is = goes (nat_lt 65536 (length at.line)) more is

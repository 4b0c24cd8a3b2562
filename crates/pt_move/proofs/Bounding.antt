-- Each turn keeps the numbers within their bounds.
use Rattle.std.proofs.Common.{◌≡◌, ◌<◌, ◌≤◌, ◌*◌, ℕ, ◌+◌, ◌==◌, Bool, true, false, List, [], ◌∷◌, ◌++◌, refl, sym, ap, ◌∙◌, inl, inr, length, cond, arith}
use Rattle.std.specs.Prelude.{Option, None, Some, Ok, nat_lt, ◌||◌, if◌then◌else◌}
use Rattle.std.specs.Str.{is_utf8}
use Rattle.pt_name.specs.Prefix.{ends_line, kept_before, prefix_refusal, without_line_ends}
use Rattle.pt_name.specs.declared.prefix.PrefixFault.TheVariants as fault
use Rattle.std.proofs.lemmas.Bool.{ltb-false, leb-false}
use Rattle.std.proofs.lemmas.List.{length-append}
use Rattle.std.proofs.lemmas.List.Sums.{sum_by-append}
use Rattle.pt_state.proofs.Words.{
  Row,
  Item,
  Answer,
  phase_after,
  Job,
  Line,
  Done,
  Counts,
  Held,
  Kept,
  turning,
  Next,
  FailsAtFirst,
  FailsLater,
  GoesOn,
  IsHalted,
  IsRefused,
  Make,
  Place,
  Scan,
  Start,
  Turn,
  Walk,
  counted,
  bytes_in_rows,
  Calls,
  DeviceStates,
  Phase,
}
use Rattle.pt_state.proofs.Words.opening
use Rattle.pt_state.proofs.Words.phase
use Rattle.pt_state.proofs.Words.stage
use Rattle.pt_plan.specs.TurnMake as make
use Rattle.pt_plan.specs.TurnPlace as place
use Rattle.pt_plan.specs.TurnScan as scan
use Rattle.pt_plan.specs.TurnStart as start
use Rattle.pt_plan.specs.TurnWalk as walk
use Rattle.pt_plan.specs.Run.{with_fed}
use Rattle.pt_plan.specs.TurnScan.{none_listed}
use Rattle.pt_move.specs.Bounds.{AreFew, IsBounded, IsWithin, lines_put}

-- ---- lines

-- at most one line is counted, and no turn
pub counted_more : (line : Option Line) (counts : Counts) → (lines_put (counted line counts) ≤ lines_put counts + 1)
    × ((counted line counts).turns ≡ counts.turns)
counted_more None counts = (omega (arith), refl)
counted_more (Some (Done at bytes empty files id to)) counts = (omega (arith), refl)
counted_more (Some line) counts = (omega (arith), refl)

-- ---- rows

-- one row more, where there is room, of a file within its limit
one_more : (job : Job) (held : Held) (rows : List Row) (row : Row) (bytes : ℕ) → AreFew job held → length held.rows < job.limits.files
    → bytes ≤ job.limits.file_bytes → row.length ≡ bytes → rows ≡ held.rows ++ row ∷ [] → AreFew job (record held { rows = rows })
one_more job held rows row bytes few room short is more =
    let long = ap length more ∙ length-append held.rows (row ∷ []) in
    let sum : bytes_in_rows rows ≡ bytes_in_rows held.rows + (0 + row.length) = ap bytes_in_rows more
    ∙ sum_by-append (λ (r : Row). r.length) held.rows (row ∷ []) in
    let were = few.rows in
    let lengths = few.lengths in
    let limit = job.limits.file_bytes in
    let times : (length held.rows + 1) * limit ≡ length held.rows * limit + limit = omega (arith) in
    record { rows = omega (arith, long, room); lengths = rw long (omega (arith, sum, lengths, short, is, times)) }

no_rows : (job : Job) (held : Held) → held.rows ≡ [] → AreFew job held
no_rows job held none = record { rows = let long = ap length none in omega (arith, long); lengths = let sum = ap bytes_in_rows none in omega (arith, sum) }

few_same : {job : Job} {held new : Held} → AreFew job held → new.rows ≡ held.rows → AreFew job new
few_same {job} few same = record { rows = rw same few.rows; lengths = rw same few.lengths }

follows_few : {job : Job} {counts : Counts} {here : Phase} {prefix read : List ℕ} {held new : Held} {calls : Calls} {answer : Answer} (turns : ℕ)
    → Next job counts here prefix held read new calls answer → AreFew job held → IsWithin job here held turns → AreFew job new
follows_few _ (Start (start.IsStore _ _)) few _ = few
follows_few _ (Walk (walk.OpensRoot _ _)) few _ = few_same few refl
follows_few _ (Scan (scan.IsTooDeep _ _ _ _)) _ _ = no_rows _ _ refl
follows_few _ (Scan (scan.MeetsDeep _ _ _ _ _ _)) _ _ = no_rows _ _ refl
follows_few _ (Scan (scan.MeetsLimit _ _ _ _ _)) _ _ = no_rows _ _ refl
follows_few _ (Scan (scan.MeetsOther _ _ _ _)) _ _ = no_rows _ _ refl
follows_few _ (Scan (scan.IsTooLong _ _ _ _ _ _)) _ _ = no_rows _ _ refl
follows_few {job} {held} _ (Scan (scan.EndsFile _ _ bytes)) few within = let more = one_more job held _ _ bytes few within.2 within.1 refl refl in record
    { rows = more.rows; lengths = more.lengths }
follows_few _ (Make (make.MakesStaging _ _)) few _ = few
follows_few _ (Place (place.TellsDone _ _)) _ _ = no_rows _ _ refl
follows_few _ _ few _ = few_same few refl

-- ---- what the next phase counts

pub or_false : (a b : Bool) → (a || b) ≡ false → a ≡ false
or_false true b is = is
or_false false b is = refl

none_few : (items : List Item) → none_listed items ≤ 1
none_few [] = omega (arith)
none_few (item ∷ items) = omega (arith)

either_within : (job : Job) (held : Held) (turns : ℕ) (is : Bool) (first second : Phase) → IsWithin job first held turns → IsWithin job second held turns
    → IsWithin job (cond is first second) held turns
either_within job held turns true first second within _ = within
either_within job held turns false first second _ within = within

follows_within : {job : Job} {counts : Counts} {here : Phase} {prefix read : List ℕ} {held new : Held} {calls : Calls} {next : Phase} (turns : ℕ)
    → Next job counts here prefix held read new calls (Ok next) → IsWithin job here held turns → IsWithin job next new (turns + 1)
follows_within turns (Start (start.IsStore _ _)) within = omega (arith, within)
follows_within {job} {held} turns (Start (start.MakesRoot _ number _ _)) _ = either_within job held (turns + 1) (number == 5) (phase.Opening opening.RootRename)
    (phase.Opening (opening.RootMake (number + 1))) tt tt
follows_within {job} {held} turns (Start (start.IsSame _ number _ _ _)) _ = either_within job held (turns + 1) (number == 2) (phase.Opening opening.OpenRoot)
    (phase.Opening (opening.RootCheck (number + 1))) tt tt
follows_within turns (Walk (walk.IsNew _ index id found)) _ = omega (arith)
follows_within turns (Scan (scan.StartsInSite _ object gathered)) within = omega (arith, within)
follows_within turns (Scan (scan.EntersObject _ object items apart shallow)) within = let one = none_few items in omega (arith, within, one)
follows_within turns (Scan (scan.PassesShorty _ object item at passed)) within = omega (arith, within)
follows_within turns (Scan (scan.EntersDirectory _ object name items at own shallow)) within = let one = none_few items in omega (arith, within, one)
follows_within {job} {held} turns (Scan (scan.OpensFile _ object name at room))
    within = (omega (arith, within), omega (arith), leb-false job.limits.files (length held.rows) (or_false _ _ room))
follows_within turns (Scan (scan.LeavesDirectory _ object at site own)) within = omega (arith, within)
follows_within {job} turns (Scan (scan.ReadsOn _ object bytes byte block short)) (few, was, room) = let within = ltb-false job.limits.file_bytes
    (bytes + length (byte ∷ block)) short in (omega (arith, few), omega (arith, within), room)
follows_within turns (Scan (scan.EndsFile _ object bytes)) (few, was, room) = omega (arith, few)
follows_within {job} {held} turns (Make (make.MakesSidecar _ object)) _ = either_within job (with_fed held []) (turns + 1) (job.tuples.count == 0)
    (phase.Carrying object stage.Rename) (phase.Carrying object (stage.Tuples 0)) tt tt
follows_within {job} {held} turns (Place (place.MakesTuple _ object number)) _ = either_within job held (turns + 1) (nat_lt (number + 1) job.tuples.count)
    (phase.Carrying object (stage.Tuples (number + 1))) (phase.Carrying object stage.Rename) tt tt
follows_within {job} {held} turns (Place (place.FindsTuple _ object number)) _ = either_within job held (turns + 1) (nat_lt (number + 1) job.tuples.count)
    (phase.Carrying object (stage.Tuples (number + 1))) (phase.Carrying object stage.Rename) tt tt
follows_within _ _ _ = tt

-- ---- the prefix

kept_length : (byte : ℕ) (rest : List ℕ) → length (kept_before byte rest) ≤ length rest + 1
kept_length byte [] = by (ends_line byte)
  where
    by : (b : Bool) → length (if b then [] else byte ∷ []) ≤ 1
    by true = omega (arith)
    by false = omega (arith)
kept_length byte (next ∷ rest) = omega (arith)

ends_length : (bytes : List ℕ) → length (without_line_ends bytes) ≤ length bytes
ends_length [] = omega (arith)
ends_length (byte ∷ rest) = let here = kept_length byte (without_line_ends rest) in let later = ends_length rest in omega (arith, here, later)

good_length : (block : List ℕ) → prefix_refusal block ≡ None → length (without_line_ends block) ≤ 1024
good_length block is = let short = by (nat_lt 1024 (length block)) refl is in let shorter = ends_length block in omega (arith, short, shorter)
  where
    by : (b : Bool) → nat_lt 1024 (length block) ≡ b → (if b then Some fault.TooLong else if is_utf8 (without_line_ends block) then None else Some
        fault.NotUtf8) ≡ None → length block ≤ 1024
    by true e is = absurd (cc)
    by false e is = ltb-false 1024 (length block) e

follows_prefix : {job : Job} {counts : Counts} {here : Phase} {prefix read : List ℕ} {held new : Held} {calls : Calls} {answer : Answer}
    → Next job counts here prefix held read new calls answer → length prefix ≤ 1024 → length read ≤ 1024
follows_prefix (Start (start.HasPrefix _ block is)) _ = good_length block is
follows_prefix _ few = few

-- ---- a whole turn

halted_bounds : {job : Job} {here : Phase} {rows : List Row} {held : Held} {kept after : Kept} → IsBounded job here kept → kept.counts.turns < job.limits.turns
    → AreFew job held → held.rows ≡ rows → IsHalted rows (turning kept) after → IsBounded job phase.Ended after
halted_bounds bounded more few same halted =
    let lines = bounded.lines in
    let put = ap lines_put halted.counts in
    let made = ap (λ (c : Counts). c.turns) halted.counts in
    record {
      lines = omega (arith, lines, put, made);
      turns = omega (arith, more, made);
      few = few_same few (halted.rows_are ∙ sym same);
      within = tt;
      prefix = rw halted.prefix bounded.prefix;
    }

pub turn_keeps_bounds : {job : Job} {here : Phase} {kept after : Kept} {old new : DeviceStates} {answer : Answer} → IsBounded job here kept
    → kept.counts.turns < job.limits.turns → Turn job here (turning kept) after old new answer → IsBounded job (phase_after answer) after
turn_keeps_bounds {job} {kept} {after} bounded more (GoesOn calls next follows did counts) =
    let lines = bounded.lines in
    let one = (counted_more calls.line (turning kept).counts).0 in
    let put = ap lines_put counts in
    let made = ap (λ (c : Counts). c.turns) counts ∙ (counted_more calls.line (turning kept).counts).1 in
    record {
      lines = omega (arith, lines, one, put, made);
      turns = omega (arith, more, made);
      few = follows_few kept.counts.turns follows bounded.few bounded.within;
      prefix = follows_prefix follows bounded.prefix;
      within = rw made (follows_within kept.counts.turns follows bounded.within);
    }
turn_keeps_bounds bounded more (IsRefused prefix held calls why follows did halted) = halted_bounds bounded more bounded.few refl halted
turn_keeps_bounds bounded more (FailsAtFirst why stays halted) = halted_bounds bounded more bounded.few refl halted
turn_keeps_bounds {kept} bounded more (FailsLater prefix held calls answer rows why follows left which halted) = elim which [
  | inl same ↦ halted_bounds bounded more bounded.few (sym same) halted
  | inr more_held ↦ halted_bounds bounded more (follows_few kept.counts.turns follows bounded.few bounded.within) (sym more_held.0) halted
]

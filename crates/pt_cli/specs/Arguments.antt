-- What is read of the arguments that a parser found.
use Rattle.std.specs.Prelude.{
  ℕ,
  ◌≡◌,
  ◌⊎◌,
  ⊤,
  ◌^◌,
  ◌&&◌,
  nat_lt,
  Bool,
  false,
  List,
  [],
  ◌∷◌,
  Option,
  None,
  Some,
  Result,
  Ok,
  Err,
  if◌then◌else◌,
  codes,
  option_and_then,
}
use Rattle.std.specs.Option.{option_map_or}
use Rattle.std.specs.Str.{bytes_eq}
use Rattle.std.specs.Str.Parse.{digits_value, without_leading_plus}
use Rattle.clap.specs.Words.{Row, Text, first_of, one_of}
use Rattle.clap.specs.ValueTests.{is_numeral}
use Rattle.pt_object.specs.Algorithm.{algorithm_word}
use Rattle.pt_object.specs.declared.algorithm.Algorithm.{Algorithm}
use Rattle.pt_object.specs.declared.algorithm.Algorithm.TheVariants.{Sha512, Sha256}
use Rattle.pt_object.specs.declared.meta.MetaFault.{MetaFault}
use Rattle.pt_object.specs.declared.meta.MetaFault.TheVariants as meta_fault
use Rattle.pt_messages.specs.declared.watch.Progress.{Progress}
use Rattle.pt_messages.specs.declared.watch.Progress.TheVariants.{Auto, Always, Never}
use Rattle.pt_cli.specs.declared.faults.Unread.{Unread}
use Rattle.pt_cli.specs.declared.faults.Unread.TheVariants as unread

-- this is read, or this is why it isn't; or memory ran out before
abbrev pub ReadsAs : {A : Type 0} → Result A Unread → Result A Unread → Type 0
ReadsAs expected (Ok value) = expected ≡ Ok value
ReadsAs expected (Err reason) = (expected ≡ Err reason) ⊎ (reason ≡ unread.Memory)

-- nothing is missing that has to be there
abbrev pub IsThere : {A : Type 0} → Result A Unread → Type 0
IsThere (Err unread.Missing) = ⊥
IsThere _ = ⊤

-- what is read goes on; what isn't ends all
infixl 10 ◌>>=◌
abbrev pub ◌>>=◌ : {A B : Type 0} → Result A Unread → (A → Result B Unread) → Result B Unread
(Ok value) >>= f = f value
(Err reason) >>= f = Err reason

-- what has to be there
abbrev pub needed : {A : Type 0} → Option A → Result A Unread
needed (Some value) = Ok value
needed None = Err unread.Missing

-- what has to be right, or this is why it isn't
abbrev pub judged : {A : Type 0} → Unread → Option A → Result A Unread
judged reason (Some value) = Ok value
judged reason None = Err reason

-- a path, where one is given: an empty one is refused so
abbrev pub path_only : Unread → Option Text → Result (Option Text) Unread
path_only refusal None = Ok None
path_only refusal (Some []) = Err refusal
path_only refusal (Some (x ∷ xs)) = Ok (Some (x ∷ xs))

-- why there is no description of a version
abbrev pub unread_of_meta : MetaFault → Unread
unread_of_meta meta_fault.Created = unread.Created
unread_of_meta meta_fault.EmptyName = unread.EmptyName
unread_of_meta meta_fault.Memory = unread.Memory

-- the algorithm of a word
abbrev pub algorithm_of : Text → Option Algorithm
algorithm_of word =
    if bytes_eq word (algorithm_word Sha512) then Some Sha512
    else if bytes_eq word (algorithm_word Sha256) then Some Sha256
    else None

-- when a word says to show progress
abbrev pub progress_of : Text → Option Progress
progress_of word =
    if bytes_eq word (codes "auto") then Some Auto
    else if bytes_eq word (codes "always") then Some Always
    else if bytes_eq word (codes "never") then Some Never
    else None

-- the number of `u32` that a text writes
abbrev pub number_of : Text → Option ℕ
number_of text =
    let digits = without_leading_plus text in
    if is_numeral digits
    && nat_lt (digits_value 10 digits) (2 ^ 32) then Some (digits_value 10 digits) else None

-- the number that an option was given
abbrev pub number_in : Text → List Row → Option ℕ
number_in id rows = option_and_then number_of (one_of id rows)

-- a flag was given
abbrev pub is_set_in : Text → List Row → Bool
is_set_in id rows = option_map_or (λ text. bytes_eq text (codes "true")) (first_of id rows) false

-- the algorithm of `--digest`
abbrev pub algorithm_in : List Row → Result Algorithm Unread
algorithm_in rows = do
  word ← needed (first_of (codes "digest") rows)
  needed (algorithm_of word)

-- when `--progress` says to show it
abbrev pub progress_in : List Row → Result Progress Unread
progress_in rows = do
  word ← needed (first_of (codes "progress") rows)
  needed (progress_of word)

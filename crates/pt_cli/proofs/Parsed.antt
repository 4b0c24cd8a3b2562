-- From what the parser says of its error or its matches to what the words are answered.
use Rattle.std.proofs.Common.{
  ◌≡◌,
  ◌∙◌,
  inl,
  inr,
  Bool,
  List,
  [],
  ◌∷◌,
  Result,
  Ok,
  Err,
  Option,
  Some,
  None,
  if◌then◌else◌,
  option_map,
  refl,
  sym,
  ap,
  subst,
  true,
  false,
}
use Rattle.std.specs.Borrow.{Bor}
use Rattle.std.specs.Str.{bytes_eq}
use Rattle.std.specs.Prelude.{⊤, codes}
use Rattle.clap.specs.Words.{Kinds, IsAmong, HasKind, Row, Text, kind_of, is_simple, is_simple_and_free}
use Rattle.clap.specs.declared.error.Error.{Error}
use Rattle.clap.specs.declared.error.kind.ErrorKind.{ErrorKind}
use Rattle.clap.proofs.OnLiterals.{clap_on_literals}
use Rattle.pt_cli.specs.Grammar.{Spelled, Spellings, program}
use Rattle.pt_cli.specs.Words.{Answers, HasRefusal, IsRefusal, RefusedAs}
use Rattle.pt_cli.specs.declared.command.Command.{Command}
use Rattle.pt_cli.specs.declared.faults.WordsFault.{WordsFault}
use Rattle.pt_cli.specs.declared.faults.WordsFault.TheVariants as fault

-- the parser's answers are known from the words alone
pub program-simple : (words : Spellings) → is_simple (program words) ≡ true
unfolding clap_on_literals
program-simple words = refl

pub program-free : (words : Spellings) → is_simple_and_free (program words) ≡ true
unfolding clap_on_literals
program-free words = refl

-- a word, at some place
abbrev at_some : Text → Bor Text
at_some word = record { ref_ptr = (0, 0); now = word }

-- the words of values, at some places
abbrev some_spelled : Spelled
some_spelled = record {
  algorithms = record { ref_ptr = (0, 0); now = at_some (codes "sha512") ∷ at_some (codes "sha256") ∷ [] };
  times = record { ref_ptr = (0, 0); now = at_some (codes "auto") ∷ at_some (codes "always") ∷ at_some (codes "never") ∷ [] };
  spells_algorithms = refl;
  spells_times = refl;
}

-- and of each command
abbrev pub some_words : Spellings
some_words = record { migrate = some_spelled; audit = some_spelled; check = some_spelled.times; spells_check = refl }

-- a kind that is a refusal is one among them
refusal_among : (k : ErrorKind) (kinds : Kinds) → IsAmong k kinds → IsRefusal k → HasRefusal kinds
refusal_among k [] h other = absurd h
refusal_among k (x ∷ kinds) (inl e) other = inl ((λ h. other.0 (e ∙ h)), (λ h. other.1 (e ∙ h)))
refusal_among k (x ∷ kinds) (inr h) other = inr (refusal_among k kinds h other)

-- the parser's error, refused
pub answers_error : (kinds : Kinds) (found : Option (Text × List Row)) (e : Error) (f : WordsFault) → HasKind kinds e
    → RefusedAs (kind_of e) f → Answers kinds found (Err f)
answers_error kinds found e (fault.Help text) (inl none) h = cc (none, h)
answers_error kinds found e (fault.Help text) (inr k) h = subst (λ x. IsAmong x kinds) h k
answers_error kinds found e (fault.Version text) (inl none) h = cc (none, h)
answers_error kinds found e (fault.Version text) (inr k) h = subst (λ x. IsAmong x kinds) h k
answers_error kinds found e (fault.Words text) (inl none) h = absurd (h.1 none)
answers_error kinds found e (fault.Words text) (inr k) h = refusal_among (kind_of e) kinds k h.0
answers_error kinds found e fault.Created k h = absurd h
answers_error kinds found e fault.EmptyName k h = absurd h
answers_error kinds found e fault.EmptyId k h = absurd h
answers_error kinds found e fault.Memory k h = tt
answers_error kinds found e fault.Tuples k h = absurd h
answers_error kinds found e fault.Share k h = absurd h
answers_error kinds found e fault.Folders k h = absurd h
answers_error kinds found e fault.Ignored k h = absurd h
answers_error kinds found e fault.EmptyEvent k h = absurd h
answers_error kinds found e fault.EmptyList k h = absurd h
answers_error kinds found e fault.EmptyDest k h = absurd h

-- what the parser accepts, answered
pub answers_found : (kinds : Kinds) (here found : Option (Text × List Row)) (r : Result Command WordsFault) → kinds ≡ [] → here ≡ found
    → Answers [] here r → Answers kinds found r
answers_found kinds here found r none same h =
    let P : Kinds → Option (Text × List Row) → Type 0 = λ k f. Answers k f r in
    subst (λ k. P k found) (sym none) (subst (λ f. P [] f) same h)

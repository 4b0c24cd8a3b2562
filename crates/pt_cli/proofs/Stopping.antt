-- Where a parser accepts, the subcommand that its walk stops at isn't `help`.
use Rattle.std.proofs.Common.{◌≡◌, ℕ, Bool, true, false, cond, not, List, [], ◌∷◌, Option, Some, None, refl}
use Rattle.std.specs.Prelude.{⊤, IfSome, codes, is_some}
use Rattle.std.specs.List.{fold}
use Rattle.std.specs.Str.{bytes_eq}
use Rattle.clap.specs.Lexer.{long_of, short_of}
use Rattle.clap.specs.Words.{Rule, Text}
use Rattle.clap.specs.Kinds.{or_else}
use Rattle.clap.specs.Simple.{Shape}
use Rattle.clap.specs.Walk.{
  Held,
  Names,
  Outcome,
  Step,
  Waiting,
  Walk,
  after_flag,
  after_step,
  arg_by_index,
  arg_by_long,
  bundle,
  done,
  idle,
  long_met,
  long_or_other,
  next,
  option,
  plain,
  plain_word,
  positional,
  refused,
  short_or_plain,
  subcommand,
  subcommand_met,
  subcommand_or_other,
  to_positional,
  trailing,
  value,
  waits,
  walked,
  walked_from,
  word_met,
}
use Rattle.clap.specs.Faults.{other_fault, step_fault, turn_fault, walk_fault, word_fault}
use Rattle.clap.specs.declared.error.kind.ErrorKind.TheVariants as kind
use Rattle.pt_cli.proofs.Passing.{both_empty}

abbrev pub NotHelp : Option (Text × List Text) → Type 0
NotHelp o = IfSome o (λ p. bytes_eq p.0 (codes "help") ≡ false)

abbrev Goes : Step → Type 0
Goes (subcommand name) = bytes_eq name (codes "help") ≡ false
Goes _ = ⊤

module _ (s : Shape) (helps : s.disable_help_subcommand ≡ false) (names : Names) where
  plain_goes : (waiting : Waiting) (word : Text) (h : Held) → Goes (plain_word s.rules waiting word h).1
  plain_goes (option id) word h = tt
  plain_goes idle word h = tt
  plain_goes positional word h = tt

  flag_goes : (waiting : Waiting) (word : Text) (h : Held) (o : Outcome) → Goes (after_flag s.rules waiting word h o).1
  flag_goes waiting word h done = tt
  flag_goes waiting word h (waits id) = tt
  flag_goes waiting word h plain = plain_goes waiting word h
  flag_goes waiting word h refused = plain_goes waiting word h

  other_goes : (o : Option (Text × Option Text)) (waiting : Waiting) (word : Text) (h : Held) → Goes (long_or_other s.rules waiting word o h).1
  other_goes (Some p) waiting word h = let met = long_met s.rules (arg_by_long s.rules p.0) p.1 h in flag_goes waiting word met.0 met.1
  other_goes None waiting word h = go (short_of word)
    where
      go : (o : Option Text) → Goes (short_or_plain s.rules waiting word o h).1
      go None = plain_goes waiting word h
      go (Some flags) = let met = bundle s.rules flags h in flag_goes waiting word met.0 met.1

  word_goes : (is_trailing : Bool) (waiting : Waiting) (position : ℕ) (word : Text) (h : Held) → word_fault s names is_trailing waiting word h ≡ []
      → Goes (word_met s.rules names is_trailing waiting position word h).1
  word_goes true waiting position word h e = tt
  word_goes false waiting position word h e = go (subcommand_met names waiting word) e
    where
      not_help : (name : Text) (b : Bool) → bytes_eq name (codes "help") ≡ b → other_fault s (Some name) word h ≡ [] → bytes_eq name (codes "help") ≡ false
      not_help name false is k = is
      not_help name true is k =
          let bad : kind.DisplayHelp ∷ kind.InvalidSubcommand ∷ [] ≡ [] = rw (is, helps) at k in
          absurd (cc)

      no_dashes : (b : Bool) → Goes (cond b (h, trailing position) (long_or_other s.rules waiting word (long_of word) h)).1
      no_dashes true = tt
      no_dashes false = other_goes (long_of word) waiting word h

      go : (o : Option Text) → other_fault s o word h ≡ [] → Goes (subcommand_or_other s.rules o waiting position word h).1
      go (Some name) k = not_help name (bytes_eq name (codes "help")) refl k
      go None k = no_dashes (bytes_eq word (45 ∷ 45 ∷ []))

  after_goes : (word : Text) (w : Walk) (h : Held) (step : Step) → NotHelp w.stopped → Goes step → NotHelp (after_step s.rules word w h step).stopped
  after_goes word w h (next waiting) not goes = not
  after_goes word w h (trailing position) not goes = not
  after_goes word w h (subcommand name) not goes = goes
  after_goes word w h value not goes = go (arg_by_index s.rules w.position)
    where
      go : (o : Option Rule) → NotHelp (to_positional s.rules o word w h).stopped
      go None = not
      go (Some a) = tt

  turn_goes : (w : Walk) (word : Text) → NotHelp w.stopped → turn_fault s names w word ≡ [] → NotHelp (walked s.rules names w word).stopped
  unfolding walked
  turn_goes w word not e = go w.stopped not e
    where
      met : Held × Step
      met = word_met s.rules names w.is_trailing w.waiting w.position word w.held

      go : (o : Option (Text × List Text)) → NotHelp o
          → cond (is_some o) [] (or_else (word_fault s names w.is_trailing w.waiting word w.held) (step_fault s w.position met.0 met.1)) ≡ []
          → NotHelp (walked_from s.rules names o w word).stopped
      go (Some p) n k = n
      go None n k = after_goes word w met.0 met.1 not (word_goes w.is_trailing w.waiting w.position word w.held (both_empty _ _ k).0)

  pub walk_goes : (w : Walk) (words : List Text) → NotHelp w.stopped → walk_fault s names w words ≡ [] → NotHelp (fold (walked s.rules names) w words).stopped
  unfolding walk_fault
  walk_goes w [] not e = not
  walk_goes w (word ∷ rest) not e =
      let parts = both_empty _ _ e in
      walk_goes (walked s.rules names w word) rest (turn_goes w word not parts.0) parts.1

-- What the parser accepts has an answer: no words that it takes ask for nothing that there is.
use Rattle.std.proofs.Common.{◌≡◌, ◌∙◌, ◌||◌, Bool, true, false, cond, not, List, [], ◌∷◌, Option, Some, None, refl, sym, true≢false}
use Rattle.std.specs.Prelude.{codes, is_some, option_map}
use Rattle.std.specs.Str.{bytes_eq}
use Rattle.std.proofs.lemmas.Slice.Eq.{bytes_eq-Decides}
use Rattle.clap.specs.Words.{App, Row, Text, fault_of, subcommand_of, built}
use Rattle.clap.specs.Walk.{answers_to, nothing_held, rows_after, stop_after, walk_from}
use Rattle.clap.specs.Simple.{
  Shape,
  argument_words,
  built_leaf,
  entered,
  help_shape,
  inherited,
  label_of,
  marked_built,
  names_of as commands_of,
  rows_at,
  with_leaf_noted,
}
use Rattle.clap.specs.Faults.{built_fault, check_fault, entered_fault, level_fault}
use Rattle.pt_cli.specs.Grammar.{Spellings, audit_app, check_app, migrate_app, names_app, program}
use Rattle.pt_cli.specs.Arguments.{IsThere}
use Rattle.pt_cli.specs.Options.{answer_to, command_in}
use Rattle.pt_cli.proofs.Passing.{Every, Fits}
use Rattle.pt_cli.proofs.Present.{check_passed, default_value, required_value, walk_passed}
use Rattle.pt_cli.proofs.Stopping.{NotHelp, walk_goes}
use Rattle.pt_cli.proofs.PartsThere.{
  algorithm_there,
  audit_there,
  check_there,
  feedback_there,
  folders_there,
  job_there,
  layout_there,
  meta_there,
  migration_there,
  names_there,
  number_there,
  time_there,
}

-- ---- the program

-- a command with five commands below it
abbrev five : Shape → Shape → Shape → Shape → Shape → Shape → App
five top x y w v z = record { top = top; subs = x ∷ y ∷ w ∷ v ∷ z ∷ [] }

-- a level that passes has an answer
abbrev Answered : Shape → Type 0
Answered s = (words : List Text) → level_fault s [] nothing_held words false [] ≡ [] → IsThere (command_in (rows_at s words))

module _ (top x y w v z : Shape) (names_answered : Answered x) (migrate_answered : Answered y) (audit_answered : Answered w) (check_answered : Answered v)
    (is_help : (word : Text) → answers_to word (label_of z) ≡ true → bytes_eq word (codes "help") ≡ true) where
  dispatched : (stop : Option (Text × List Text)) → NotHelp stop → entered_fault (five top x y w v z) stop ≡ []
      → is_some (entered (five top x y w v z) stop) ≡ true
      → IsThere (answer_to (entered (five top x y w v z) stop))
  dispatched None not passes some = absurd (cc)
  dispatched (Some p) not passes some =
      go (answers_to p.0 (label_of x)) (answers_to p.0 (label_of y)) (answers_to p.0 (label_of w)) (answers_to p.0 (label_of v)) (answers_to p.0 (label_of z))
      refl passes some
    where
      found : Bool → Bool → Bool → Bool → Bool → Option Shape
      found a b d f c = cond a (Some x) (cond b (Some y) (cond d (Some w) (cond f (Some v) (cond c (Some z) None))))

      go : (a b d f c : Bool) → answers_to p.0 (label_of z) ≡ c
          → Rattle.std.specs.Option.option_map_or (λ s. level_fault s [] nothing_held p.1 false []) (found a b d f c) [] ≡ []
          → is_some (option_map (λ s. rows_at s p.1) (found a b d f c)) ≡ true
          → IsThere (answer_to (option_map (λ s. rows_at s p.1) (found a b d f c)))
      go true b d f c is k there = names_answered p.1 k
      go false true d f c is k there = migrate_answered p.1 k
      go false false true f c is k there = audit_answered p.1 k
      go false false false true c is k there = check_answered p.1 k
      go false false false false true is k there = absurd (true≢false (sym (is_help p.0 is) ∙ not))
      go false false false false false is k there = absurd (true≢false (sym there))

  some_command : (ask : Bool) (rows : List Row) → top.arg_required_else_help ≡ false → top.subcommand_required ≡ true → check_fault top rows ask ≡ []
      → ask ≡ true
  some_command true rows quiet wants e = refl
  some_command false rows quiet wants e =
      let bad : Rattle.clap.specs.declared.error.kind.ErrorKind.TheVariants.MissingSubcommand ∷ [] ≡ [] = rw (quiet, wants) at e in
      absurd (cc)

  answered : top.args_override_self ≡ false → Every (Fits top.rules) top.rules → top.disable_help_subcommand ≡ false → top.arg_required_else_help ≡ false
      → top.subcommand_required ≡ true → (words : List Text) → built_fault (five top x y w v z) nothing_held words ≡ []
      → IsThere (answer_to (entered (five top x y w v z) (stop_after top.rules (commands_of (five top x y w v z)) words)))
  answered once fit helps quiet wants words e =
      let names = commands_of (five top x y w v z) in
      let stop = stop_after top.rules names words in
      let walks = walk_passed top once fit names words (is_some (entered (five top x y w v z) stop)) (entered_fault (five top x y w v z) stop) e in
      let checks = check_passed top once fit names words (is_some (entered (five top x y w v z) stop)) (entered_fault (five top x y w v z) stop) e in
      dispatched stop (walk_goes top helps names (walk_from nothing_held) words tt walks.0) walks.1
      (some_command _ (rows_after top.rules names words) quiet wants checks)

module _ (spelled : Spellings) where
  -- the commands as the parser builds them
  abbrev above : Shape
  above = with_leaf_noted (marked_built (program spelled).top)

  abbrev built_names : Shape
  built_names = built_leaf (inherited above names_app.top)

  abbrev built_migrate : Shape
  built_migrate = built_leaf (inherited above (migrate_app spelled.migrate).top)

  abbrev built_audit : Shape
  built_audit = built_leaf (inherited above (audit_app spelled.audit).top)

  abbrev built_check : Shape
  built_check = built_leaf (inherited above (check_app spelled.check).top)

  abbrev built_help : Shape
  built_help = built_leaf help_shape

  fit_top : Every (Fits (built (program spelled)).top.rules) (built (program spelled)).top.rules
  fit_top = ((refl, refl, refl), ((refl, refl, refl), tt))

  fit_names : Every (Fits built_names.rules) built_names.rules
  fit_names = ((refl, refl, refl), ((refl, refl, refl), ((refl, refl, refl), ((refl, refl, refl), ((refl, refl, refl), tt)))))

  fit_migrate : Every (Fits built_migrate.rules) built_migrate.rules
  fit_migrate = (
    (refl, refl, refl),
    (
      (refl, refl, refl),
      (
        (refl, refl, refl),
        (
          (refl, refl, refl),
          (
            (refl, refl, refl),
            (
              (refl, refl, refl),
              (
                (refl, refl, refl),
                (
                  (refl, refl, refl),
                  (
                    (refl, refl, refl),
                    (
                      (refl, refl, refl),
                      (
                        (refl, refl, refl),
                        (
                          (refl, refl, refl),
                          (
                            (refl, refl, refl),
                            (
                              (refl, refl, refl),
                              (
                                (refl, refl, refl),
                                (
                                  (refl, refl, refl),
                                  (
                                    (refl, refl, refl),
                                    (
                                      (refl, refl, refl),
                                      (
                                        (refl, refl, refl),
                                        (
                                          (refl, refl, refl),
                                          (
                                            (refl, refl, refl),
                                            ((refl, refl, refl), ((refl, refl, refl), ((refl, refl, refl), ((refl, refl, refl), ((refl, refl, refl), tt))))),
                                          ),
                                        ),
                                      ),
                                    ),
                                  ),
                                ),
                              ),
                            ),
                          ),
                        ),
                      ),
                    ),
                  ),
                ),
              ),
            ),
          ),
        ),
      ),
    ),
  )

  fit_audit : Every (Fits built_audit.rules) built_audit.rules
  fit_audit = (
    (refl, refl, refl),
    (
      (refl, refl, refl),
      (
        (refl, refl, refl),
        (
          (refl, refl, refl),
          (
            (refl, refl, refl),
            (
              (refl, refl, refl),
              (
                (refl, refl, refl),
                (
                  (refl, refl, refl),
                  (
                    (refl, refl, refl),
                    (
                      (refl, refl, refl),
                      (
                        (refl, refl, refl),
                        (
                          (refl, refl, refl),
                          (
                            (refl, refl, refl),
                            (
                              (refl, refl, refl),
                              (
                                (refl, refl, refl),
                                ((refl, refl, refl), ((refl, refl, refl), ((refl, refl, refl), ((refl, refl, refl), ((refl, refl, refl), ((refl, refl, refl), tt)))))),
                              ),
                            ),
                          ),
                        ),
                      ),
                    ),
                  ),
                ),
              ),
            ),
          ),
        ),
      ),
    ),
  )

  fit_check : Every (Fits built_check.rules) built_check.rules
  fit_check = (
    (refl, refl, refl),
    (
      (refl, refl, refl),
      (
        (refl, refl, refl),
        (
          (refl, refl, refl),
          (
            (refl, refl, refl),
            (
              (refl, refl, refl),
              (
                (refl, refl, refl),
                (
                  (refl, refl, refl),
                  (
                    (refl, refl, refl),
                    (
                      (refl, refl, refl),
                      (
                        (refl, refl, refl),
                        (
                          (refl, refl, refl),
                          (
                            (refl, refl, refl),
                            (
                              (refl, refl, refl),
                              (
                                (refl, refl, refl),
                                (
                                  (refl, refl, refl),
                                  (
                                    (refl, refl, refl),
                                    (
                                      (refl, refl, refl),
                                      tt,
                                    ),
                                  ),
                                ),
                              ),
                            ),
                          ),
                        ),
                      ),
                    ),
                  ),
                ),
              ),
            ),
          ),
        ),
      ),
    ),
  )

  check_is_answered : Answered built_check
  check_is_answered words e =
      let size = default_value built_check refl fit_check [] words false [] e (codes "tuple-size") _ refl refl in
      let count = default_value built_check refl fit_check [] words false [] e (codes "tuples") _ refl refl in
      let when = default_value built_check refl fit_check [] words false [] e (codes "progress") _ refl refl in
      let interval = default_value built_check refl fit_check [] words false [] e (codes "interval") _ refl refl in
      let source = required_value built_check refl fit_check [] words false [] e (codes "SOURCE") _ refl refl refl in
      let progress = time_there spelled.check spelled.spells_check when.0 when.3 in
      let digits = number_there size.0 size.3 in
      let number = number_there count.0 count.3 in
      let seconds = number_there interval.0 interval.3 in
      let rows = rows_after built_check.rules [] words in
      check_there rows source.0 source.1 (layout_there rows _ _ digits.0 number.0 size.2 digits.1 count.2 number.1)
      (feedback_there rows when.0 _ progress.0 seconds.0 when.1 progress.1 interval.2 seconds.1)

  audit_is_answered : Answered built_audit
  audit_is_answered words e =
      let digest = default_value built_audit refl fit_audit [] words false [] e (codes "digest") _ refl refl in
      let size = default_value built_audit refl fit_audit [] words false [] e (codes "tuple-size") _ refl refl in
      let count = default_value built_audit refl fit_audit [] words false [] e (codes "tuples") _ refl refl in
      let when = default_value built_audit refl fit_audit [] words false [] e (codes "progress") _ refl refl in
      let interval = default_value built_audit refl fit_audit [] words false [] e (codes "interval") _ refl refl in
      let source = required_value built_audit refl fit_audit [] words false [] e (codes "SOURCE") _ refl refl refl in
      let dest = required_value built_audit refl fit_audit [] words false [] e (codes "DEST") _ refl refl refl in
      let algorithm = algorithm_there spelled.audit.algorithms spelled.audit.spells_algorithms digest.0 digest.3 in
      let progress = time_there spelled.audit.times spelled.audit.spells_times when.0 when.3 in
      let digits = number_there size.0 size.3 in
      let number = number_there count.0 count.3 in
      let seconds = number_there interval.0 interval.3 in
      let rows = rows_after built_audit.rules [] words in
      audit_there rows (λ meta. job_there rows meta digest.0 algorithm.0 digest.1 algorithm.1
      (layout_there rows _ _ digits.0 number.0 size.2 digits.1 count.2 number.1))
      (feedback_there rows when.0 _ progress.0 seconds.0 when.1 progress.1 interval.2 seconds.1) (folders_there rows source.0 dest.0 source.1 dest.1)

  names_is_answered : Answered built_names
  names_is_answered words e =
      let id = required_value built_names refl fit_names [] words false [] e (codes "ID") _ refl refl refl in
      let size = default_value built_names refl fit_names [] words false [] e (codes "tuple-size") _ refl refl in
      let count = default_value built_names refl fit_names [] words false [] e (codes "tuples") _ refl refl in
      let digits = number_there size.0 size.3 in
      let number = number_there count.0 count.3 in
      let rows = rows_after built_names.rules [] words in
      names_there rows id.0 id.1 (layout_there rows _ _ digits.0 number.0 size.2 digits.1 count.2 number.1)

  migrate_is_answered : Answered built_migrate
  migrate_is_answered words e =
      let created = required_value built_migrate refl fit_migrate [] words false [] e (codes "created") _ refl refl refl in
      let name = required_value built_migrate refl fit_migrate [] words false [] e (codes "name") _ refl refl refl in
      let message = default_value built_migrate refl fit_migrate [] words false [] e (codes "message") _ refl refl in
      let digest = default_value built_migrate refl fit_migrate [] words false [] e (codes "digest") _ refl refl in
      let size = default_value built_migrate refl fit_migrate [] words false [] e (codes "tuple-size") _ refl refl in
      let count = default_value built_migrate refl fit_migrate [] words false [] e (codes "tuples") _ refl refl in
      let when = default_value built_migrate refl fit_migrate [] words false [] e (codes "progress") _ refl refl in
      let interval = default_value built_migrate refl fit_migrate [] words false [] e (codes "interval") _ refl refl in
      let source = required_value built_migrate refl fit_migrate [] words false [] e (codes "SOURCE") _ refl refl refl in
      let dest = required_value built_migrate refl fit_migrate [] words false [] e (codes "DEST") _ refl refl refl in
      let algorithm = algorithm_there spelled.migrate.algorithms spelled.migrate.spells_algorithms digest.0 digest.3 in
      let progress = time_there spelled.migrate.times spelled.migrate.spells_times when.0 when.3 in
      let digits = number_there size.0 size.3 in
      let number = number_there count.0 count.3 in
      let seconds = number_there interval.0 interval.3 in
      let rows = rows_after built_migrate.rules [] words in
      migration_there rows (meta_there rows created.0 name.0 message.0 created.1 name.1 message.1)
      (λ meta. job_there rows meta digest.0 algorithm.0 digest.1 algorithm.1 (layout_there rows _ _ digits.0 number.0 size.2 digits.1 count.2 number.1))
      (feedback_there rows when.0 _ progress.0 seconds.0 when.1 progress.1 interval.2 seconds.1) (folders_there rows source.0 dest.0 source.1 dest.1)

  help_is_help : (word : Text) → answers_to word (label_of built_help) ≡ true → bytes_eq word (codes "help") ≡ true
  help_is_help word e = go (bytes_eq (codes "help") word) refl e
    where
      go : (b : Bool) → bytes_eq (codes "help") word ≡ b → (b || false) ≡ true → bytes_eq word (codes "help") ≡ true
      go true is h =
          let same : codes "help" ≡ word = (bytes_eq-Decides _ _).0 is in
          (bytes_eq-Decides word (codes "help")).1 (sym same)
      go false is h = absurd (cc)

  -- where the parser accepts, nothing is missing
  pub program_answered : (words : List Text) → fault_of (program spelled) words ≡ []
      → IsThere (answer_to (subcommand_of (program spelled) words))
  program_answered words e =
      answered (built (program spelled)).top built_names built_migrate built_audit built_check built_help names_is_answered migrate_is_answered
      audit_is_answered check_is_answered help_is_help refl fit_top refl refl refl
      (argument_words (program spelled) words) e

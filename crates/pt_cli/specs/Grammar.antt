-- The words that the program takes, as its parser is told.
use Rattle.std.specs.Prelude.{◌≡◌, List, [], ◌∷◌, Some, true, codes, pos}
use Rattle.std.specs.Borrow.{Bor}
use Rattle.clap.specs.Words.{App, Rule, Text, new_app, new_rule, with_subcommand}
use Rattle.clap.specs.Walk.{texts}
use Rattle.clap.specs.Simple.{on_top}
use Rattle.clap.specs.declared.builder.action.ArgAction.TheVariants.{Append, SetTrue}
use Rattle.clap.specs.declared.builder.value_parser.ValueParser.{ValueParser}
use Rattle.clap.specs.declared.builder.value_parser.ValueParser.TheVariants as vp

-- the identifier, which must be there
abbrev pub id_rule : Rule
id_rule = record (new_rule (codes "ID")) { required = true }

-- `--id VALUE`
abbrev pub option_rule : Text → Rule
option_rule id = record (new_rule id) { long = Some id; value_names = 1 }

-- `--created MOMENT`, which must be there
abbrev pub created_rule : Rule
created_rule = record (option_rule (codes "created")) { required = true }

-- `--name NAME`, which must be there
abbrev pub name_rule : Rule
name_rule = record (option_rule (codes "name")) { required = true }

-- `--address ADDRESS`
abbrev pub address_rule : Rule
address_rule = option_rule (codes "address")

-- `--message TEXT`
abbrev pub message_rule : Rule
message_rule = record (option_rule (codes "message")) { defaults = codes "Migrated from Pairtree" ∷ [] }

-- `--digest ALGORITHM`, one of these words
abbrev pub digest_rule : Bor (List (Bor Text)) → Rule
digest_rule words =
    record (option_rule
    (codes "digest")) { defaults = codes "sha512" ∷ []; parser = Some (vp.Names words) }

-- the words of the two algorithms, wherever they lie in memory
abbrev pub SpellsAlgorithms : Bor (List (Bor Text)) → Type 0
SpellsAlgorithms words = texts words.now ≡ codes "sha512" ∷ codes "sha256" ∷ []

-- `--progress WHEN`, one of these words
abbrev pub progress_rule : Bor (List (Bor Text)) → Rule
progress_rule words =
    record (option_rule
    (codes "progress")) { defaults = codes "auto" ∷ []; parser = Some (vp.Names words) }

-- the words that say when, wherever they lie in memory
abbrev pub SpellsTimes : Bor (List (Bor Text)) → Type 0
SpellsTimes words = texts words.now ≡ codes "auto" ∷ codes "always" ∷ codes "never" ∷ []

-- the words that the parser reads values from
pub record Spelled : Type 0 where
  pub algorithms : Bor (List (Bor Text))
  pub times : Bor (List (Bor Text))
  pub spells_algorithms : SpellsAlgorithms algorithms
  pub spells_times : SpellsTimes times

-- the numbers of `u32`
abbrev pub u32_parser : ValueParser
u32_parser = vp.Signed (pos 0) (pos 4294967295)

-- `--id NUMBER`, which is this unless it is given
abbrev pub number_rule : Text → Text → Rule
number_rule id default = record (option_rule id) { defaults = default ∷ []; parser = Some u32_parser }

-- `--tuple-size DIGITS`
abbrev pub size_rule : Rule
size_rule = number_rule (codes "tuple-size") (codes "3")

-- `--tuples NUMBER`
abbrev pub count_rule : Rule
count_rule = number_rule (codes "tuples") (codes "3")

-- `--share K/N`
abbrev pub share_rule : Rule
share_rule = option_rule (codes "share")

-- `--by-folders D`
abbrev pub by_folders_rule : Rule
by_folders_rule = option_rule (codes "by-folders")

-- `--only TEXT`, which isn't empty, and may be given more than once
abbrev pub only_rule : Rule
only_rule = record (option_rule (codes "only")) { action = Some Append; parser = Some vp.NonEmptyString }

-- `--list FILE`
abbrev pub list_rule : Rule
list_rule = option_rule (codes "list")

-- `--ignore NAME`, which may be given more than once
abbrev pub ignore_rule : Rule
ignore_rule = record (option_rule (codes "ignore")) { action = Some Append }

-- `--interval SECONDS`
abbrev pub interval_rule : Rule
interval_rule = number_rule (codes "interval") (codes "10")

-- `--expect LOG`
abbrev pub expect_rule : Rule
expect_rule = option_rule (codes "expect")

-- `--event FILE`
abbrev pub event_rule : Rule
event_rule = option_rule (codes "event")

-- `--prefix TEXT`
abbrev pub prefix_rule : Rule
prefix_rule = option_rule (codes "prefix")

-- `--id`
abbrev pub flag_rule : Text → Rule
flag_rule id = record (new_rule id) { long = Some id; action = Some SetTrue }

-- `--gather`
abbrev pub gather_rule : Rule
gather_rule = flag_rule (codes "gather")

-- `--sync`
abbrev pub sync_rule : Rule
sync_rule = flag_rule (codes "sync")

-- `--dry-run`, `-n`
abbrev pub rehearse_rule : Rule
rehearse_rule = record (flag_rule (codes "dry-run")) { short = Some 110 }

-- `--present-ok`
abbrev pub present_rule : Rule
present_rule = flag_rule (codes "present-ok")

-- `--skips-ok`
abbrev pub skips_rule : Rule
skips_rule = flag_rule (codes "skips-ok")

-- `--extra`
abbrev pub extra_rule : Rule
extra_rule = flag_rule (codes "extra")

-- `--quick`
abbrev pub quick_rule : Rule
quick_rule = flag_rule (codes "quick")

-- `--read`
abbrev pub read_rule : Rule
read_rule = flag_rule (codes "read")

-- `--dest DEST`
abbrev pub into_rule : Rule
into_rule = option_rule (codes "dest")

-- `--verbose`, `-v`
abbrev pub verbose_rule : Rule
verbose_rule = record (flag_rule (codes "verbose")) { short = Some 118 }

-- `--quiet`, `-q`
abbrev pub quiet_rule : Rule
quiet_rule = record (flag_rule (codes "quiet")) { short = Some 113 }

-- the source, which must be there
abbrev pub source_rule : Rule
source_rule = record (new_rule (codes "SOURCE")) { required = true }

-- the destination, which must be there
abbrev pub dest_rule : Rule
dest_rule = record (new_rule (codes "DEST")) { required = true }

-- `names [OPTIONS] ID`
abbrev pub names_app : App
names_app = on_top (λ s. record s { rules = prefix_rule ∷ size_rule ∷ count_rule ∷ id_rule ∷ [] })
    (new_app (codes "names"))

-- the options of `migrate` and its two paths
abbrev pub migrate_rules : Spelled → List Rule
migrate_rules words =
    created_rule ∷ name_rule ∷ address_rule ∷ message_rule ∷ digest_rule words.algorithms
    ∷ size_rule ∷ count_rule ∷ gather_rule
    ∷ share_rule ∷ by_folders_rule ∷ only_rule ∷ list_rule ∷ ignore_rule ∷ sync_rule ∷ rehearse_rule
    ∷ present_rule ∷ skips_rule ∷ verbose_rule ∷ quiet_rule
    ∷ progress_rule words.times ∷ interval_rule ∷ expect_rule ∷ event_rule
    ∷ source_rule ∷ dest_rule ∷ []

-- `migrate [OPTIONS] SOURCE DEST`
abbrev pub migrate_app : Spelled → App
migrate_app words = on_top (λ s. record s { rules = migrate_rules words }) (new_app (codes "migrate"))

-- the command `migrate`, whose values are spelled somewhere
abbrev pub IsMigrateApp : App → Type 0
IsMigrateApp app = (words : Spelled) × (app ≡ migrate_app words)

-- the options of `audit` and its two paths
abbrev pub audit_rules : Spelled → List Rule
audit_rules words =
    digest_rule words.algorithms ∷ size_rule ∷ count_rule ∷ gather_rule ∷ share_rule
    ∷ by_folders_rule ∷ only_rule ∷ list_rule ∷ ignore_rule ∷ skips_rule ∷ extra_rule ∷ quick_rule ∷ verbose_rule ∷ quiet_rule
    ∷ progress_rule words.times ∷ interval_rule ∷ expect_rule ∷ event_rule ∷ source_rule ∷ dest_rule ∷ []

-- `audit [OPTIONS] SOURCE DEST`
abbrev pub audit_app : Spelled → App
audit_app words = on_top (λ s. record s { rules = audit_rules words }) (new_app (codes "audit"))

-- the command `audit`, whose values are spelled somewhere
abbrev pub IsAuditApp : App → Type 0
IsAuditApp app = (words : Spelled) × (app ≡ audit_app words)

-- the options of `check` and its path
abbrev pub check_rules : Bor (List (Bor Text)) → List Rule
check_rules times =
    read_rule ∷ gather_rule ∷ into_rule ∷ size_rule ∷ count_rule ∷ share_rule ∷ by_folders_rule ∷ only_rule
    ∷ list_rule ∷ ignore_rule ∷ verbose_rule ∷ quiet_rule ∷ progress_rule times ∷ interval_rule ∷ expect_rule ∷ event_rule ∷ source_rule ∷ []

-- `check [OPTIONS] SOURCE`
abbrev pub check_app : Bor (List (Bor Text)) → App
check_app times = on_top (λ s. record s { rules = check_rules times }) (new_app (codes "check"))

-- the command `check`, whose values are spelled somewhere
abbrev pub IsCheckApp : App → Type 0
IsCheckApp app = (times : Bor (List (Bor Text))) × SpellsTimes times × (app ≡ check_app times)

-- `pairtree2ocfl` with a command behind it, or `--version`
abbrev pub top_app : App
top_app = on_top (λ s. record s { has_version = true; subcommand_required = true })
    (new_app (codes "pairtree2ocfl"))

-- the words that the parser reads the values of each command from
pub record Spellings : Type 0 where
  pub migrate : Spelled
  pub audit : Spelled
  pub check : Bor (List (Bor Text))
  pub spells_check : SpellsTimes check

-- the program, whose parser reads the values of its commands from these words
abbrev pub program : Spellings → App
program words =
    with_subcommand (with_subcommand (with_subcommand (with_subcommand top_app names_app.top) (migrate_app words.migrate).top)
    (audit_app words.audit).top) (check_app words.check).top

-- the program, whose values are spelled somewhere
abbrev pub IsProgram : App → Type 0
IsProgram app = (words : Spellings) × (app ≡ program words)

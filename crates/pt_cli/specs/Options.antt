-- Which command the arguments that a parser found ask for, with which values, and why they ask for none: the first of the reasons in
-- the order of these lines.
use Rattle.std.specs.Prelude.{ℕ, List, [], ◌∷◌, Option, None, Some, Result, Ok, Err, if◌then◌else◌, codes}
use Rattle.std.specs.Option.{unwrap_or}
use Rattle.std.specs.Str.{bytes_eq}
use Rattle.clap.specs.Words.{Row, Text, all_of, first_of}
use Rattle.pt_name.specs.Layout.{layout_of}
use Rattle.pt_name.specs.Tuples.{Tuples}
use Rattle.pt_name.specs.declared.layout.LayoutFault.{LayoutFault}
use Rattle.pt_name.specs.Share.{Portion}
use Rattle.pt_object.specs.Meta.{given_address, meta_refusal, parts_of}
use Rattle.pt_object.specs.MetaParts.{MetaParts}
use Rattle.pt_object.specs.declared.meta.MetaFault.{MetaFault}
use Rattle.pt_host.specs.declared.options.AllowedLines.{AllowedLines}
use Rattle.pt_host.specs.declared.options.AuditOptions.{AuditOptions}
use Rattle.pt_host.specs.declared.options.Feedback.{Feedback}
use Rattle.pt_host.specs.declared.options.RunOptions.{RunOptions}
use Rattle.pt_state.specs.declared.job.Job.{Job}
use Rattle.pt_walk.specs.Limits.{greatest_limits}
use Rattle.pt_cli.specs.Arguments.{◌>>=◌, algorithm_in, is_set_in, judged, needed, number_in, path_only, progress_in, unread_of_meta}
use Rattle.pt_cli.specs.Ignore.{ignored_in}
use Rattle.pt_cli.specs.Share.{divided, share_asked, with_only}
use Rattle.pt_cli.specs.declared.command.Command.{Command}
use Rattle.pt_cli.specs.declared.command.Command.TheVariants.{Audit, Check, Migrate, Names}
use Rattle.pt_cli.specs.declared.faults.Unread.{Unread}
use Rattle.pt_cli.specs.declared.faults.Unread.TheVariants as unread

-- the tuples of a layout
abbrev pub cut : Result Tuples LayoutFault → Result Tuples Unread
cut (Ok tuples) = Ok tuples
cut (Err refusal) = Err unread.Tuples

-- how places are cut
abbrev pub layout_in : List Row → Result Tuples Unread
layout_in rows = do
  size ← needed (number_in (codes "tuple-size") rows)
  count ← needed (number_in (codes "tuples") rows)
  cut (layout_of size count)

-- the description of a version, unless it is refused
abbrev pub described_by : MetaParts → Option MetaFault → Result MetaParts Unread
described_by meta None = Ok meta
described_by meta (Some refusal) = Err (unread_of_meta refusal)

-- the description of a version with these texts
abbrev pub described : Text → Text → Option Text → Text → Result MetaParts Unread
described created name address message =
    described_by (parts_of created name (given_address address) message) (meta_refusal created name)

-- what the inventories say of their versions
abbrev pub meta_in : List Row → Result MetaParts Unread
meta_in rows = do
  created ← needed (first_of (codes "created") rows)
  name ← needed (first_of (codes "name") rows)
  message ← needed (first_of (codes "message") rows)
  described created name (first_of (codes "address") rows) message

-- what of a store is taken, but for a list
abbrev pub portion_in : List Row → Result Portion Unread
portion_in rows = do
  numbered ← judged unread.Share (share_asked (first_of (codes "share") rows))
  share ← judged unread.Folders
      (divided (first_of (codes "share") rows) (first_of (codes "by-folders") rows) numbered)
  Ok (with_only (all_of (codes "only") rows) share)

-- the run whose versions are described so, with the greatest limits
abbrev pub job_in : MetaParts → List Row → Result Job Unread
job_in meta rows = do
  algorithm ← algorithm_in rows
  layout ← layout_in rows
  share ← portion_in rows
  Ok (record {
    meta = meta;
    layout = layout;
    algorithm = algorithm;
    limits = greatest_limits;
    gather = is_set_in (codes "gather") rows;
    share = share;
  })

-- what is told beside the log
abbrev pub feedback_in : List Row → Result Feedback Unread
feedback_in rows = do
  progress ← progress_in rows
  interval ← needed (number_in (codes "interval") rows)
  event ← path_only unread.EmptyEvent (first_of (codes "event") rows)
  Ok (record {
    verbose = is_set_in (codes "verbose") rows;
    quiet = is_set_in (codes "quiet") rows;
    progress = progress;
    interval = interval;
    expected = first_of (codes "expect") rows;
    event = event;
  })

-- which lines of a run's log leave its status at 0
abbrev pub allowed_in : List Row → AllowedLines
allowed_in rows = record {
  present = is_set_in (codes "present-ok") rows;
  skips = is_set_in (codes "skips-ok") rows;
}

-- the options of `migrate`
abbrev pub run_options_in : List Row → Result RunOptions Unread
run_options_in rows = do
  meta ← meta_in rows
  job ← job_in meta rows
  ignored ← ignored_in rows
  feedback ← feedback_in rows
  Ok (record {
    job = job;
    ignored = ignored;
    sync = is_set_in (codes "sync") rows;
    rehearse = is_set_in (codes "dry-run") rows;
    allowed = allowed_in rows;
    feedback = feedback;
  })

-- what the run of an audit says of its versions: always this, which isn't compared
unfoldable pub audit_meta : Result MetaParts Unread
audit_meta = described (codes "1970-01-01T00:00:00Z") (codes "audit") None []

-- the options of `audit`
abbrev pub audit_options_in : List Row → Result AuditOptions Unread
audit_options_in rows = do
  meta ← audit_meta
  job ← job_in meta rows
  ignored ← ignored_in rows
  feedback ← feedback_in rows
  Ok (record {
    job = job;
    ignored = ignored;
    skips_ok = is_set_in (codes "skips-ok") rows;
    extra = is_set_in (codes "extra") rows;
    quick = is_set_in (codes "quick") rows;
    feedback = feedback;
  })

-- the store and the destination
abbrev pub folders_in : List Row → Result (Text × Text) Unread
folders_in rows = do
  source ← needed (first_of (codes "SOURCE") rows)
  dest ← needed (first_of (codes "DEST") rows)
  Ok (source, dest)

-- what `migrate` is asked for
abbrev pub migration_in : List Row → Result Command Unread
migration_in rows = do
  options ← run_options_in rows
  folders ← folders_in rows
  list ← path_only unread.EmptyList (first_of (codes "list") rows)
  Ok (Migrate (record {
    options = options;
    source = folders.0;
    dest = folders.1;
    list = list;
  }))

-- what `audit` is asked for
abbrev pub audit_in : List Row → Result Command Unread
audit_in rows = do
  options ← audit_options_in rows
  folders ← folders_in rows
  list ← path_only unread.EmptyList (first_of (codes "list") rows)
  Ok (Audit (record {
    options = options;
    source = folders.0;
    dest = folders.1;
    list = list;
  }))

-- what `check` is asked for
abbrev pub check_in : List Row → Result Command Unread
check_in rows = do
  layout ← layout_in rows
  share ← portion_in rows
  ignored ← ignored_in rows
  dest ← path_only unread.EmptyDest (first_of (codes "dest") rows)
  feedback ← feedback_in rows
  list ← path_only unread.EmptyList (first_of (codes "list") rows)
  source ← needed (first_of (codes "SOURCE") rows)
  Ok (Check (record {
    options = record {
      reads = is_set_in (codes "read") rows;
      gather = is_set_in (codes "gather") rows;
      ignored = ignored;
      dest = dest;
      layout = layout;
      share = share;
      feedback = feedback;
    };
    source = source;
    list = list;
  }))

-- the identifier, which isn't empty
abbrev pub id_only : Text → Result Text Unread
id_only [] = Err unread.EmptyId
id_only (x ∷ xs) = Ok (x ∷ xs)

-- what `names` is asked for
abbrev pub names_in : List Row → Result Command Unread
names_in rows = do
  given ← needed (first_of (codes "ID") rows)
  id ← id_only given
  layout ← layout_in rows
  Ok (Names (record { id = id; prefix = unwrap_or (first_of (codes "prefix") rows) []; layout = layout }))

-- what a command and its arguments ask for
abbrev pub command_in : Text × List Row → Result Command Unread
command_in found =
    if bytes_eq found.0 (codes "names") then names_in found.1
    else if bytes_eq found.0 (codes "migrate") then migration_in found.1
    else if bytes_eq found.0 (codes "audit") then audit_in found.1
    else if bytes_eq found.0 (codes "check") then check_in found.1
    else Err unread.Missing

-- the same of the command that the parser found, if there is one
abbrev pub answer_to : Option (Text × List Row) → Result Command Unread
answer_to None = Err unread.Missing
answer_to (Some found) = command_in found

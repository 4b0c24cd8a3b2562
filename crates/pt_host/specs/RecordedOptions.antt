-- What an event records of the options of a run, an audit or a check: which value stands at which key, whether it was given or not.
use Rattle.std.specs.Prelude.{◌≡◌, ◌++◌, ℕ, List, Option, codes, decimal}
use Rattle.std.specs.Option.{option_map}
use Rattle.pt_messages.specs.Counts.{put_count}
use Rattle.pt_messages.specs.Members.{JsonMembers, empty_members, put_flag, put_if, put_text, put_texts}
use Rattle.pt_messages.specs.declared.watch.Progress.{Progress}
use Rattle.pt_messages.specs.declared.watch.Progress.TheVariants.{Always, Auto, Never}
use Rattle.pt_name.specs.Share.{Portion}
use Rattle.pt_name.specs.Tuples.{Tuples}
use Rattle.pt_name.specs.declared.division.Division.{Division}
use Rattle.pt_name.specs.declared.division.Division.TheVariants.{Folders, Identifiers}
use Rattle.pt_object.specs.Algorithm.{algorithm_word}
use Rattle.pt_object.specs.MetaParts.{MetaParts}
use Rattle.pt_state.specs.declared.job.Job.{Job}
use Rattle.pt_host.specs.declared.options.AllowedLines.{AllowedLines}
use Rattle.pt_host.specs.declared.options.AuditOptions.{AuditOptions}
use Rattle.pt_host.specs.declared.options.CheckOptions.{CheckOptions}
use Rattle.pt_host.specs.declared.options.Feedback.{Feedback}
use Rattle.pt_host.specs.declared.options.RunOptions.{RunOptions}

-- members with what a version says of itself: an address only where there is one
abbrev pub with_meta : MetaParts → JsonMembers → JsonMembers
with_meta meta members = put_text (codes "message") meta.message (put_if (codes "address") meta.address
    (put_text (codes "name") meta.name (put_text (codes "created") meta.created members)))

-- and with how places are cut
abbrev pub with_layout : Tuples → JsonMembers → JsonMembers
with_layout layout members = put_count (codes "tuples") layout.count (put_count (codes "tuple-size") layout.size members)

-- the number of a share and how many there are, as `2/16`
abbrev pub share_numbers : Portion → List ℕ
share_numbers share = decimal share.index ++ (codes "/" ++ decimal share.count)

-- members with how many names of folders a store is divided by, if it is by folders
abbrev pub with_division : Division → JsonMembers → JsonMembers
with_division Identifiers members = members
with_division (Folders depth) members = put_count (codes "by-folders") depth members

-- members with what of a store is taken, and this name of a list's file, if there is one
abbrev pub with_share : Portion → Option (List ℕ) → JsonMembers → JsonMembers
with_share share file members = put_if (codes "list") file (put_texts (codes "only") share.only
    (with_division share.division (put_text (codes "share") (share_numbers share) members)))

-- and with which objects there are, and where they lie
abbrev pub with_job : Job → Option (List ℕ) → JsonMembers → JsonMembers
with_job job file members = with_share job.share file (put_flag (codes "gather") job.gather
    (with_layout job.layout (put_text (codes "digest") (algorithm_word job.algorithm) members)))

-- the word of `--progress`
abbrev pub progress_word : Progress → List ℕ
progress_word Auto = codes "auto"
progress_word Always = codes "always"
progress_word Never = codes "never"

-- members with how much of it is told, and when
abbrev pub with_telling : Feedback → JsonMembers → JsonMembers
with_telling feedback members = put_count (codes "interval") feedback.interval
    (put_text (codes "progress") (progress_word feedback.progress)
    (put_flag (codes "quiet") feedback.quiet (put_flag (codes "verbose") feedback.verbose members)))

-- and with all that is told beside the log
abbrev pub with_feedback : Feedback → JsonMembers → JsonMembers
with_feedback feedback members = put_if (codes "event") feedback.event
    (put_if (codes "expect") feedback.expected (with_telling feedback members))

-- members with which lines leave the status of a run at 0
abbrev pub with_allowed : AllowedLines → JsonMembers → JsonMembers
with_allowed allowed members = put_flag (codes "skips-ok") allowed.skips (put_flag (codes "present-ok") allowed.present members)

-- of a share with a list, this name of its file; of one without a list, none
abbrev pub list_file : Portion → List ℕ → Option (List ℕ)
list_file share file = option_map (λ ids. file) share.list

-- what an event records of these options of a run, whose list, if it has one, has a file of this name
abbrev pub run_members : RunOptions → List ℕ → JsonMembers
run_members options file = with_feedback options.feedback (with_allowed options.allowed
    (put_flag (codes "dry-run") options.rehearse (put_flag (codes "sync") options.sync
    (put_texts (codes "ignore") options.ignored
    (with_job options.job (list_file options.job.share file) (with_meta options.job.meta empty_members))))))

-- and of an audit
abbrev pub audit_members : AuditOptions → List ℕ → JsonMembers
audit_members options file = with_feedback options.feedback (put_flag (codes "quick") options.quick
    (put_flag (codes "extra") options.extra (put_flag (codes "skips-ok") options.skips_ok (put_texts (codes "ignore") options.ignored
    (with_job options.job (list_file options.job.share file) empty_members)))))

-- and of a check: a destination only where one is named
abbrev pub check_members : CheckOptions → List ℕ → JsonMembers
check_members options file = with_feedback options.feedback (put_texts (codes "ignore") options.ignored
    (with_share options.share (list_file options.share file) (with_layout options.layout (put_if (codes "dest") options.dest
    (put_flag (codes "gather") options.gather (put_flag (codes "read") options.reads empty_members))))))

-- these are recorded, with some name of a list's file: a list is seen as its identifiers, so nothing is known of that name
abbrev pub AreRecorded : (List ℕ → JsonMembers) → JsonMembers → Type 0
AreRecorded members made = (file : List ℕ) × (made ≡ members file)

use Rattle.std.proofs.Common.{rules}
use Rattle.pt_host.proofs.ListFiles.{recorded_with}
use Rattle.pt_messages.specs.Members.{empty_members, put_flag, put_texts}
use Rattle.std.proofs.Common.{codes}
use Rattle.pt_host.specs.RecordedOptions.{with_feedback, with_job}
use Rattle.pt_host.proofs.recorded_options.options_of_audit.Goals as goal

pub returns : goal.returns
returns c =
    let options = c.args.options.now in
    recorded_with (λ name. name.now) options.job.share.list c.file_of.result
    (λ file. with_feedback options.feedback (put_flag (codes "quick") options.quick
    (put_flag (codes "extra") options.extra (put_flag (codes "skips-ok") options.skips_ok (put_texts (codes "ignore") options.ignored
    (with_job options.job file empty_members))))))
    _ c.file_of.ensures (search rules)

use Rattle.std.proofs.Common.{rules}
use Rattle.pt_host.proofs.ListFiles.{recorded_with}
use Rattle.pt_messages.specs.Members.{empty_members, put_flag, put_if, put_texts}
use Rattle.std.proofs.Common.{codes}
use Rattle.pt_host.specs.RecordedOptions.{with_feedback, with_layout, with_share}
use Rattle.pt_host.proofs.recorded_options.options_of_check.Goals as goal

pub returns : goal.returns
returns c =
    let options = c.args.options.now in
    recorded_with (λ name. name.now) options.share.list c.file_of.result
    (λ file. with_feedback options.feedback (put_texts (codes "ignore") options.ignored
    (with_share options.share file (with_layout options.layout (put_if (codes "dest") options.dest
    (put_flag (codes "gather") options.gather (put_flag (codes "read") options.reads empty_members)))))))
    _ c.file_of.ensures (search rules)

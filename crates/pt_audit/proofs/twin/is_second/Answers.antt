use Rattle.std.proofs.Common.{◌≡◌, false, rules}
use Rattle.std.proofs.lemmas.Result.{IfOk-weaker}
use Rattle.pt_audit.proofs.Twins.{second_of}
use Rattle.pt_tree.specs.Source.{tree_in}
use Rattle.pt_state.specs.States.{job_of}
use Rattle.pt_tree.specs.Path.{same_path}
use Rattle.pt_audit.proofs.twin.is_second.Goals as goal

pub returns-clause-second : goal.returns-clause-second
returns-clause-second g c =
    let proper = c.in_ok-proper.proper in
    let apart : same_path c.args.site.now proper ≡ false = search rules in
    IfOk-weaker c.object_stands.result _ _
    (λ b stands. second_of (job_of c.args.job.now) c.args.site.now proper c.args.id.now (tree_in (g.S.Source.told c.args.source.now)) b c.in_ok-proper.ensures
    apart stands)
    c.object_stands.ensures.stands

use Rattle.std.proofs.Common.{◌≡◌, ap, drop, length, rules, subst, sym}
use Rattle.std.specs.Option.{ForSome}
use Rattle.pt_audit.proofs.Twins.{at_site, told_as_twin, twin_at_hand}
use Rattle.pt_audit.specs.Twin.{is_differing, is_second}
use Rattle.pt_compare.specs.Root.{Stands}
use Rattle.pt_tree.specs.Source.{tree_in}
use Rattle.pt_plan.specs.TurnWalk.{in_pairtree}
use Rattle.pt_state.specs.States.{job_of}
use Rattle.pt_tree.specs.Path.{Path}
use Rattle.pt_tree.specs.declared.kind.Kind.TheVariants as kind
use Rattle.pt_audit.proofs.auditing.finds_twin.Goals as goal

pub is_second-requires : goal.is_second-requires
is_second-requires g c =
    subst (λ (p : Path). Stands (tree_in (g.S.Source.told c.args.source.now)) (in_pairtree p, kind.Dir)) (sym c.in_ok-site-in-Differs.ensures)
    (at_site (g.S.Source.told c.args.source.now) c.args.survey.now c.requires.at_hand c.requires.under_way).stands

pub returns-in_ok-is_twin-in-Differs-clause-twin : goal.returns-in_ok-is_twin-in-Differs-clause-twin
returns-in_ok-is_twin-in-Differs-clause-twin g c =
    let tree = tree_in (g.S.Source.told c.args.source.now) in
    let r = c.args.survey.now in
    let twin = c.in_ok-is_twin-in-Differs.is_twin in
    let rest : c.skip_prefix-own.result.now ≡ drop (length c.prefix.result.now) c.args.id.now = search rules in
    let second : ForSome tree (λ s. twin ≡ is_second (job_of c.job.result.now) s c.in_ok-site-in-Differs.site c.skip_prefix-own.result.now) = search rules in
    told_as_twin tree r c.args.id.now c.args.finding.now twin (ap is_differing c.in-Differs.is)
    (twin_at_hand tree r c.args.id.now c.skip_prefix-own.result.now c.prefix.result.now c.job.result.now c.in_ok-site-in-Differs.site twin
    (at_site (g.S.Source.told c.args.source.now) r c.requires.at_hand c.requires.under_way) c.job.ensures c.in_ok-site-in-Differs.ensures c.prefix.ensures rest
    second)

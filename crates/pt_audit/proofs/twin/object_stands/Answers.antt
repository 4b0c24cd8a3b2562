use Rattle.std.proofs.Common.{◌≡◌, false, length, nat_lt, rules, subst}
use Rattle.pt_audit.proofs.Twins.{judged_there}
use Rattle.pt_plan.specs.TurnWalk.{in_pairtree}
use Rattle.pt_state.specs.States.{job_of}
use Rattle.pt_tree.specs.Path.{Path}
use Rattle.pt_tree.specs.Source.{IsListed}
use Rattle.pt_audit.proofs.twin.object_stands.Goals as goal

pub returns-clause-stands : goal.returns-clause-stands
returns-clause-stands g c =
    let site = c.args.site in
    let shallow : nat_lt (job_of c.args.job.now).limits.depth (length site) ≡ false = search rules in
    let listed : IsListed (g.S.Source.told c.args.source.now) (in_pairtree site) c.in_ok-listing.listing =
    subst (λ t. IsListed t (in_pairtree site) c.in_ok-listing.listing) c.in_ok-stands.ensures.same
    (subst (λ (p : Path). IsListed (g.S.Source.told c.leads_to.new.source) p c.in_ok-listing.listing) c.in_ok-path.ensures c.in_ok-listing.ensures.listing)
    in
    judged_there (job_of c.args.job.now) site (g.S.Source.told c.args.source.now) c.in_ok-listing.listing c.has_object.result shallow listed (search rules)

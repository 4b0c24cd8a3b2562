use Rattle.pt_compare.proofs.Passed.{no_rest, rest_told}
use Rattle.std.proofs.lemmas.Result.{IfOk-weaker}
use Rattle.pt_compare.proofs.bytes.are_the_rest.Goals as goal

pub returns-then-not-branch-clause-same : goal.returns-then-not-branch-clause-same
returns-then-not-branch-clause-same g c = no_rest c.args.bytes.now (g.R.Source.told c.args.root.now) (c.in_ok-come_next.ensures.other c.if-not-branch.true)

pub returns-clause-same : goal.returns-clause-same
returns-clause-same g c =
    let came = c.in_ok-come_next.ensures.next c.if-not-branch.false in
    IfOk-weaker c.has_ended.result _ _ (λ ended tells. rest_told c.args.bytes.now (g.R.Source.told c.args.root.now) (g.R.Source.told c.come_next.new.root) ended
    came tells) c.has_ended.ensures.ended

pub returns-clause-keeps : goal.returns-clause-keeps
returns-clause-keeps g c = g.met.R.Source.keeps_on _ _ _ c.come_next.ensures.keeps c.has_ended.ensures.keeps

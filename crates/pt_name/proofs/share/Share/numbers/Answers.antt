use Rattle.std.proofs.Common.{◌≡◌, ◌==◌, ap, arith, eq-eqb, sym, ◌∙◌}
use Rattle.pt_name.proofs.Shares.{whole_number}
use Rattle.pt_name.specs.Share.{Portion, share_number}
use Rattle.pt_name.proofs.share.Share.numbers.Goals as goal

pub returns-then-self-eq1 : goal.returns-then-self-eq1
returns-then-self-eq1 c =
    let id = c.args.id.now in
    let first = c.self.invariant.first in
    let last = c.self.invariant.last in
    let one = c.if-self-eq1.true in
    let index : 1 ≡ c.self.inside.index = omega (arith, first, last, one) in
    let number : share_number c.self.inside.count id ≡ c.self.inside.index = ap (λ n. share_number n id) one ∙ whole_number id ∙ index in
    eq-eqb _ _ one ∙ sym (eq-eqb _ _ number) ∙ ap (λ (s : Portion). share_number s.count id == s.index) c.self.view_is

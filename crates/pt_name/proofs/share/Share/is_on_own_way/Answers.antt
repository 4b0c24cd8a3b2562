use Rattle.std.proofs.Common.{◌≡◌, ◌==◌, ap, arith, eq-eqb, sym, ◌∙◌}
use Rattle.pt_name.proofs.Shares.{whole_number}
use Rattle.pt_name.specs.Share.{Portion, share_number, way_text}
use Rattle.pt_name.proofs.share.Share.is_on_own_way.Goals as goal

pub returns-then-self-eq1 : goal.returns-then-self-eq1
returns-then-self-eq1 c =
    let text = way_text c.args.depth c.args.site.now in
    let first = c.self.invariant.first in
    let last = c.self.invariant.last in
    let one = c.if-self-eq1.true in
    let index : 1 ≡ c.self.inside.index = omega (arith, first, last, one) in
    let number : share_number c.self.inside.count text ≡ c.self.inside.index = ap (λ n. share_number n text) one ∙ whole_number text ∙ index in
    eq-eqb _ _ one ∙ sym (eq-eqb _ _ number) ∙ ap (λ (s : Portion). share_number s.count text == s.index) c.self.view_is

use Rattle.std.proofs.Common.{◌≡◌, ◌≤◌, ◌∙◌, ◌-◌, ℕ, List, ap, arith, length, refl, set, subst}
use Rattle.std.proofs.lemmas.Option.{slice_get_read}
use Rattle.std.specs.Global.{Vec}
use Rattle.pt_rehearsal.specs.Buckets.{IsHalved, is_held, texts_in}
use Rattle.pt_rehearsal.proofs.Divided.{divided_by}
use Rattle.pt_rehearsal.proofs.text_set.TextSet.divide.Goals as goal

pub returns-clause-same : goal.returns-clause-same
returns-clause-same c =
    let me = c.args.self.now in
    let old = me.buckets.items in
    let next = c.len-count.result - me.base in
    let stays = c.in_ok-stays.field-0.stays in
    let enough : me.base ≤ length old = omega (arith, me.begun, c.requires) in
    let long : c.len-count.result ≡ length old = omega (arith, c.len-count.ensures) in
    let goes = c.in_ok-stays.field-0.goes in
    ap (λ (l : List (Vec ℕ)). is_held me.base (set l next stays)) c.in_ok-push.ensures.items
    ∙ divided_by me.base old c.len-count.result next c.index.result.now stays goes long me.based enough refl
    (slice_get_read old (length old) next c.index.result.now refl (omega (arith, me.based, c.requires)) c.index.ensures)
    (subst (λ (l : List ℕ). IsHalved me.base c.len-count.result (texts_in l) (texts_in stays.items) (texts_in goes.items)) c.deref.ensures.value
    c.in_ok-stays.ensures)

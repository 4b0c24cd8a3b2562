use Rattle.std.proofs.Common.{◌∙◌, ap, List, ℕ}
use Rattle.std.specs.Prelude.{Some}
use Rattle.pt_quick.specs.Claimed.{Held, claimed_at, with_text}
use Rattle.pt_quick.proofs.Adding.{text_added}
use Rattle.pt_quick.proofs.claims.Claims.add.Goals as goal

pub returns : goal.returns
returns c =
    text_added c.args.digest.now c.in_ok-text.text.items c.self.inside.by_text.entries c.insert.new.self.entries c.in-Ok.ensures.updates.1
    c.in-Ok.ensures.updates.3
    ∙ ap (λ (t : List ℕ). with_text c.args.digest.now (Some t) (claimed_at c.self.inside.by_text.entries))
    (c.in_ok-text.ensures.items ∙ c.as_bytes.ensures.value)
    ∙ ap (λ (held : Held). with_text c.args.digest.now (Some c.args.text.now) (claimed_at held)) c.self.view_is

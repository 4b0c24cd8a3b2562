use Rattle.std.proofs.Common.{◌<◌, ◌∙◌, arith}
use Rattle.std.proofs.lemmas.List.Elements.{All-from_get_or}
use Rattle.pt_audit.proofs.Twins.{proper_back, proper_refused}
use Rattle.pt_audit.proofs.twin.proper_site.Goals as goal

pub returns-in-Ok : goal.returns-in-Ok
returns-in-Ok c =
    let bytes = All-from_get_or (λ b. b < 256) c.args.id.now 0 (λ i h. omega (arith, c.type_inv.id i)) in
    proper_back c.args.id.now c.deref.result.now c.in-Ok.site bytes (c.deref.ensures.value ∙ c.in_ok-text.ensures) c.in-Ok.ensures.path

pub unreachable-requires : goal.unreachable-requires
unreachable-requires c =
    let bytes = All-from_get_or (λ b. b < 256) c.args.id.now 0 (λ i h. omega (arith, c.type_inv.id i)) in
    c.in_default.not-Memory (proper_refused c.args.id.now c.deref.result.now c.in-Err.fault bytes (c.deref.ensures.value ∙ c.in_ok-text.ensures)
    c.in-Err.ensures.refused)

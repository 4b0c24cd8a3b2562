use Rattle.std.proofs.Common.{ap, ◌∷◌, ◌∙◌, Some, subst}
use Rattle.std.specs.Option.{unwrap_or}
use Rattle.pt_extra.proofs.Within.{begins, string_begins, string_rest}
use Rattle.pt_extra.specs.Inventories.{text_in}
use Rattle.pt_extra.specs.Tokens.{IsRest, text_of}
use Rattle.serde_json.specs.Data.{null}
use Rattle.serde_json.specs.Read.{read}
use Rattle.pt_extra.proofs.identifier.id_start.Goals as goal

pub returns-clause-start : goal.returns-clause-start
returns-clause-start c =
    let t = c.args.text.now in
    let id = c.in_ok-id.id.now in
    let found : IsRest t (34 ∷ id) = subst (λ b. IsRest b (34 ∷ id)) c.as_bytes.ensures.value c.in_ok-id.ensures.within in
    ap (λ s. Some (text_of s)) (begins t id (string_rest t id found)) ∙ c.in_ok-id.ensures.id
    ∙ ap (λ x. text_in (unwrap_or (read x) null)) c.as_bytes.ensures.value

pub returns-clause-boundary : goal.returns-clause-boundary
returns-clause-boundary c =
    let t = c.args.text.now in
    let id = c.in_ok-id.id.now in
    let found : IsRest t (34 ∷ id) = subst (λ b. IsRest b (34 ∷ id)) c.as_bytes.ensures.value c.in_ok-id.ensures.within in
    string_begins t id c.utf8.text found

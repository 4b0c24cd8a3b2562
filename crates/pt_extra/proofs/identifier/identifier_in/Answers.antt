use Rattle.std.proofs.Common.{ap, sym, ℕ, drop, ◌≡◌, ◌∙◌}
use Rattle.std.proofs.lemmas.Bool.{true≢false}
use Rattle.std.specs.Global.{Vec}
use Rattle.std.specs.Option.{option_and_then, option_map, unwrap_or}
use Rattle.std.specs.String.{string_bytes}
use Rattle.pt_extra.proofs.Reading.{not_text, of_text}
use Rattle.pt_extra.specs.Inventories.{id_by, unless_empty}
use Rattle.pt_extra.specs.Tokens.{text_of}
use Rattle.serde_json.specs.Data.{null}
use Rattle.serde_json.specs.Read.{read}
use Rattle.pt_extra.proofs.identifier.identifier_in.Goals as goal

pub returns-in_default-clause-id : goal.returns-in_default-clause-id
returns-in_default-clause-id c = not_text c.args.bytes.items (λ valid. true≢false (sym (c.in_default.ensures.succeeds valid)))

pub returns-in-Some-clause-id : goal.returns-in-Some-clause-id
returns-in-Some-clause-id c =
    let text = string_bytes c.in-Ok.text in
    let same : text ≡ c.args.bytes.items = ap (λ (v : Vec ℕ). v.items) c.in-Ok.ensures.ok in
    let seen : c.as_str.result.now ≡ text = c.as_str.ensures.value in
    let found = ap (option_map (λ at. text_of (drop at c.as_str.result.now))) (sym c.in-Some.is) ∙ c.id_start.ensures.start in
    c.unescaped.ensures.id ∙ ap (λ t. unless_empty (text_of (drop c.in-Some.start t))) (sym seen) ∙ ap (option_and_then unless_empty) found
    ∙ ap (λ t. id_by (unwrap_or (read t) null)) seen ∙ of_text c.args.bytes.items c.in-Ok.text same

pub returns-in-None-clause-id : goal.returns-in-None-clause-id
returns-in-None-clause-id c =
    let text = string_bytes c.in-Ok.text in
    let same : text ≡ c.args.bytes.items = ap (λ (v : Vec ℕ). v.items) c.in-Ok.ensures.ok in
    let seen : c.as_str.result.now ≡ text = c.as_str.ensures.value in
    let found = ap (option_map (λ at. text_of (drop at c.as_str.result.now))) (sym c.in-None.is) ∙ c.id_start.ensures.start in
    ap (option_and_then unless_empty) found ∙ ap (λ t. id_by (unwrap_or (read t) null)) seen ∙ of_text c.args.bytes.items c.in-Ok.text same

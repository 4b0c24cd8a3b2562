use Rattle.std.proofs.Common.{◌≡◌, ◌∙◌, Bor, List, ℕ, ap, refl}
use Rattle.std.specs.Option.{option_map, option_map_or}
use Rattle.std.specs.Prelude.{None, Option, Some, codes, unwrap_or}
use Rattle.pt_messages.proofs.CutTexts.{splits_last, strips_end}
use Rattle.pt_messages.specs.Cuts.{Parts, without_end}
use Rattle.pt_messages.proofs.line.last_word.Goals as goal

pointed : (found : Option (Bor (List ℕ))) (end : Bor (List ℕ)) → (unwrap_or found end).now ≡ unwrap_or (option_map (λ (it : Bor (List ℕ)). it.now) found) end.now
pointed None end = refl
pointed (Some it) end = refl

pub returns-in-Some : goal.returns-in-Some
returns-in-Some c =
    ap (λ (it : Bor (List ℕ)). it.now) c.unwrap_or.ensures ∙ pointed c.strip_suffix.result c.in-Some.end
    ∙ ap (λ found. unwrap_or found c.in-Some.end.now)
    (strips_end (codes "\"}\n") c.in-Some.end.now c.strip_suffix.result c.strip_suffix.ensures.cases)
    ∙ ap (λ found. option_map_or (λ (parts : Parts). unwrap_or (without_end (codes "\"}\n") parts.1) parts.1) found (codes ""))
    (splits_last (codes ":\"") c.args.rest.now (Some (c.in-Some.field-0-0, c.in-Some.end)) c.in-Some.ensures.cases)

pub returns-in-None : goal.returns-in-None
returns-in-None c =
    ap (λ found. option_map_or (λ (parts : Parts). unwrap_or (without_end (codes "\"}\n") parts.1) parts.1) found (codes ""))
    (splits_last (codes ":\"") c.args.rest.now None c.in-None.ensures.cases)

use Rattle.std.proofs.Common.{ap, sym, subst, ℕ, List, [], Option, ◌≡◌, ◌<◌, ◌∙◌, drop, length, take, arith}
use Rattle.std.proofs.lemmas.Bool.{true≢false}
use Rattle.std.proofs.lemmas.Str.{IsUtf8-string_bytes}
use Rattle.std.specs.Global.{Vec}
use Rattle.std.specs.Option.{unwrap_or}
use Rattle.std.specs.Str.{IsCharBoundary, IsUtf8}
use Rattle.std.specs.String.{string_bytes}
use Rattle.json.specs.Text.{content, plain}
use Rattle.pt_extra.proofs.Contents.{front_all}
use Rattle.pt_extra.proofs.ReadTexts.{text_none, text_some}
use Rattle.pt_extra.specs.Inventories.{unless_empty}
use Rattle.pt_extra.proofs.identifier.unescaped.Goals as goal

pub unescape-requires : goal.unescape-requires
unescape-requires c =
    let slice : c.as_mut_slice.result.now ≡ string_bytes c.args.text =
    c.as_mut_slice.ensures.value ∙ ap (λ (v : Vec ℕ). v.items) c.into_bytes-bytes.ensures.value in
    (subst IsUtf8 (sym slice) (IsUtf8-string_bytes c.args.text), subst (λ b. IsCharBoundary b c.args.start) (sym slice) c.requires)

pub returns-in_default-clause-id : goal.returns-in_default-clause-id
returns-in_default-clause-id c =
    let slice : c.as_mut_slice.result.now ≡ string_bytes c.args.text =
    c.as_mut_slice.ensures.value ∙ ap (λ (v : Vec ℕ). v.items) c.into_bytes-bytes.ensures.value in
    sym (ap (λ (o : Option (List ℕ)). unless_empty (unwrap_or o []))
    (ap (λ b. content plain (drop c.args.start b)) (sym slice) ∙ c.in_default.ensures.value))

pub returns-in_default-from_utf8-clause-id : goal.returns-in_default-from_utf8-clause-id
returns-in_default-from_utf8-clause-id c =
    let whole = front_all c.unescape.new.bytes _ c.into_bytes-bytes.result.len (sym (c.in-Some.ensures.len ∙ c.as_mut_slice.ensures.len)) in
    let valid = subst IsUtf8 (sym (c.truncate.ensures.items ∙ ap (take c.in-Some.len) whole)) c.in-Some.ensures.text in
    absurd (true≢false (sym (c.in_default-from_utf8.ensures.succeeds valid)))

pub returns-then-is_empty-clause-id : goal.returns-then-is_empty-clause-id
returns-then-is_empty-clause-id c =
    let slice : c.as_mut_slice.result.now ≡ string_bytes c.args.text =
    c.as_mut_slice.ensures.value ∙ ap (λ (v : Vec ℕ). v.items) c.into_bytes-bytes.ensures.value in
    let whole = front_all c.unescape.new.bytes _ c.into_bytes-bytes.result.len (sym (c.in-Some.ensures.len ∙ c.as_mut_slice.ensures.len)) in
    let written : string_bytes c.in-Ok.id ≡ take c.in-Some.len c.unescape.new.bytes =
    ap (λ (v : Vec ℕ). v.items) c.in-Ok.ensures.ok ∙ c.truncate.ensures.items ∙ ap (take c.in-Some.len) whole in
    let none : length (string_bytes c.in-Ok.id) ≡ 0 = grind arith in
    text_none (string_bytes c.in-Ok.id) none ∙ ap unless_empty written ∙ sym (ap (λ (o : Option (List ℕ)). unless_empty (unwrap_or o []))
    (ap (λ b. content plain (drop c.args.start b)) (sym slice) ∙ c.in-Some.ensures.value))

pub returns-else-is_empty-clause-id : goal.returns-else-is_empty-clause-id
returns-else-is_empty-clause-id c =
    let slice : c.as_mut_slice.result.now ≡ string_bytes c.args.text =
    c.as_mut_slice.ensures.value ∙ ap (λ (v : Vec ℕ). v.items) c.into_bytes-bytes.ensures.value in
    let whole = front_all c.unescape.new.bytes _ c.into_bytes-bytes.result.len (sym (c.in-Some.ensures.len ∙ c.as_mut_slice.ensures.len)) in
    let written : string_bytes c.in-Ok.id ≡ take c.in-Some.len c.unescape.new.bytes =
    ap (λ (v : Vec ℕ). v.items) c.in-Ok.ensures.ok ∙ c.truncate.ensures.items ∙ ap (take c.in-Some.len) whole in
    let some : 0 < length (string_bytes c.in-Ok.id) = grind arith in
    text_some (string_bytes c.in-Ok.id) some ∙ ap unless_empty written ∙ sym (ap (λ (o : Option (List ℕ)). unless_empty (unwrap_or o []))
    (ap (λ b. content plain (drop c.args.start b)) (sym slice) ∙ c.in-Some.ensures.value))

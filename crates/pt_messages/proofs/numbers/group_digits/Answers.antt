use Rattle.std.proofs.Common.{◌≡◌, ◌∙◌, ◌++◌, ◌-◌, ◌%◌, ◌≤◌, ◌⊎◌, ap, [], ◌∷◌, List, ℕ, arith, inl, inr, length, string_bytes, sym}
use Rattle.std.proofs.lemmas.Fmt.{IsAscii-decimal}
use Rattle.std.proofs.lemmas.Iterator.{YieldsList-from_chars}
use Rattle.std.proofs.lemmas.Iterator.Consumers.{YieldsList-end}
use Rattle.std.proofs.lemmas.List.{append-nil, map-id}
use Rattle.std.proofs.lemmas.Str.{chars-IsAscii}
use Rattle.std.specs.Prelude.{decimal}
use Rattle.std.specs.Str.{chars}
use Rattle.pt_messages.proofs.Grouping.{after_comma, after_digit}
use Rattle.pt_messages.proofs.numbers.group_digits.Goals as goal
use Rattle.pt_messages.proofs.numbers.group_digits.Goals.{else-left-gt0-via-then-left-gt0+else-left-eq0, else-left-gt0-via-else-left-gt0}

pub loop-digit-init : goal.loop-digit-init
loop-digit-init c rest e = ((rw (c.new-text.ensures.bytes, e)), (rw e (ap length (c.as_str-left.ensures.value ∙ c.in_ok-digits.ensures.ok))))

pub loop-digit-preserved-then-left-eq0 : goal.loop-digit-preserved-then-left-eq0
unfolding lib.Utf8.encode
loop-digit-preserved-then-left-eq0 c rest e =
    rw c.saturating_sub-left.ensures
    (after_comma c.args.number (omega arith) c.loop-digit.yielded (string_bytes c.loop-digit.text) _ c.in-Some.digit c.loop-digit.left
    c.loop-digit.invariant rest e (c.in_ok-push-2.ensures.bytes ∙ ap (λ (bs : List ℕ). bs ++ 44 ∷ []) c.in_ok-push.ensures.bytes) (omega arith) (omega arith))

pub loop-digit-preserved : goal.loop-digit-preserved
loop-digit-preserved c rest e =
    let none : (c.loop-digit.left - 1 ≤ 0) ⊎ (((c.loop-digit.left - 1) % 3 ≡ 0) → ⊥) = elim c.else-left-gt0.branch [
      | else-left-gt0-via-then-left-gt0+else-left-eq0 w ↦ inr (rw c.saturating_sub-left.ensures at w.if-left-eq0.false)
      | else-left-gt0-via-else-left-gt0 w ↦ inl (rw c.saturating_sub-left.ensures at w.if-left-gt0.false)
    ] in
    rw c.saturating_sub-left.ensures
    (after_digit c.args.number (omega arith) c.loop-digit.yielded (string_bytes c.loop-digit.text) _ c.in-Some.digit c.loop-digit.left
    c.loop-digit.invariant rest e c.in_ok-push.ensures.bytes none)

pub returns : goal.returns
returns c =
    let ended = YieldsList-end (YieldsList-from_chars c.as_str.result.now c.as_str.utf8 cc) c.loop-digit.yielded _ c.loop-digit.yielded_by _ _ c.in-None.is
    c.next.ensures.steps in
    let ascii = chars-IsAscii (decimal c.args.number) (IsAscii-decimal c.args.number (omega arith)) in
    let all : c.loop-digit.yielded ≡ decimal c.args.number = sym (map-id c.loop-digit.yielded) ∙ ended.0
    ∙ ap chars (c.as_str.ensures.value ∙ c.in_ok-digits.ensures.ok) ∙ ascii in
    sym (append-nil (string_bytes c.loop-digit.text)) ∙ (c.loop-digit.invariant [] (append-nil c.loop-digit.yielded ∙ all)).0

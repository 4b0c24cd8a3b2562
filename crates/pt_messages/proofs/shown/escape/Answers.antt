use Rattle.std.proofs.Common.{◌≡◌, ◌∙◌, [], arith, ap, length, string_bytes, sym}
use Rattle.std.proofs.lemmas.Iterator.{YieldsList-from_chars}
use Rattle.std.proofs.lemmas.Iterator.Consumers.{YieldsList-end}
use Rattle.std.proofs.lemmas.List.{append-nil, map-id}
use Rattle.std.proofs.lemmas.Str.{encodes-chars}
use Rattle.std.specs.Str.{chars}
use Rattle.pt_messages.proofs.Escaping.{after_char}
use Rattle.pt_messages.proofs.shown.escape.Goals as goal

pub loop-c-init : goal.loop-c-init
loop-c-init c rest e = (
  rw (c.in_ok-shown.ensures.bytes, e, c.saturating_sub-begin.ensures, c.trim_start.ensures.trim, c.trim_end-end.ensures.trim),
  rw e (omega (arith, ap length (encodes-chars c.args.text.now c.utf8.text))),
)

pub loop-c-preserved : goal.loop-c-preserved
loop-c-preserved c rest e =
    rw (c.saturating_add-at.ensures, c.len_utf8.ensures.value)
    (after_char c.args.text.now (omega arith) c.loop-c.yielded (string_bytes c.loop-c.shown) _ c.saturating_sub-begin.result
    (length c.trim_end-end.result.now) c.loop-c.at c.in-Some.c c.loop-c.invariant rest e
    (rw (c.in_ok-push_str.ensures.bytes, c.as_str.ensures.value, c.in_ok-piece.ensures)))

pub returns : goal.returns
returns c =
    let ended = YieldsList-end (YieldsList-from_chars c.args.text.now c.utf8.text cc) c.loop-c.yielded _ c.loop-c.yielded_by _ _ c.in-None.is
    c.next.ensures.steps in
    let all : c.loop-c.yielded ≡ chars c.args.text.now = sym (map-id c.loop-c.yielded) ∙ ended.0 in
    sym (append-nil (string_bytes c.loop-c.shown)) ∙ (c.loop-c.invariant [] (append-nil c.loop-c.yielded ∙ all)).0

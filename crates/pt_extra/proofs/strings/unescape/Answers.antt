use Rattle.std.proofs.Common.{◌≡◌, ◌+◌, ◌-◌, ◌<◌, ◌++◌, None, Some, ap, sym, subst, ◌∙◌, drop, get_or, length, take, arith}
use Rattle.std.proofs.lemmas.List.{append-nil}
use Rattle.std.proofs.lemmas.Str.{IsUtf8-append, IsUtf8-between, IsCharBoundary-before_ascii, IsCharBoundary-after_ascii}
use Rattle.std.specs.Char.{encode_utf8}
use Rattle.std.specs.List.{prefix_len}
use Rattle.std.specs.Str.{IsCharBoundary, IsUtf8}
use Rattle.json.specs.Run.{is_plain}
use Rattle.json.specs.Text.{after_backslash, content, plain, prepend}
use Rattle.pt_extra.proofs.Contents.{
  at_backslash,
  at_control,
  at_end,
  at_quote,
  content-to_stop,
  drop_on,
  prepend-prepend,
  same_at,
  stop_is_backslash,
}
use Rattle.pt_extra.proofs.strings.unescape.Goals as goal

pub returns-then-stop-bytes-clause-value : goal.returns-then-stop-bytes-clause-value
returns-then-stop-bytes-clause-value c =
    let d = c.args.bytes.now in
    let l = c.parts in
    let kept = l.invariant.5 in
    let long = l.invariant.4 in
    let stop = c.plain_end-stop.result in
    let is : stop ≡ l.at + prefix_len is_plain (drop l.at d) = c.plain_end-stop.ensures.value ∙ ap (λ x. l.at + prefix_len is_plain x) kept in
    let so_far = l.invariant.0 ∙ ap (prepend (take l.len l.bytes)) (content-to_stop d l.at stop is) ∙ prepend-prepend (take l.len l.bytes) _ _ in
    let same : get_or l.bytes stop 0 ≡ get_or d stop 0 = same_at l.bytes d l.at stop kept (omega arith) in
    let none : content plain (drop stop d) ≡ None = grind (arith, at_end d stop, at_control d stop, same, long) in
    so_far ∙ ap (prepend _) none

pub returns-then-bytes-stop-eq34-clause-value : goal.returns-then-bytes-stop-eq34-clause-value
returns-then-bytes-stop-eq34-clause-value c =
    let d = c.args.bytes.now in
    let l = c.parts in
    let kept = l.invariant.5 in
    let long = l.invariant.4 in
    let stop = c.plain_end-stop.result in
    let is : stop ≡ l.at + prefix_len is_plain (drop l.at d) = c.plain_end-stop.ensures.value ∙ ap (λ x. l.at + prefix_len is_plain x) kept in
    let so_far = l.invariant.0 ∙ ap (prepend (take l.len l.bytes)) (content-to_stop d l.at stop is) ∙ prepend-prepend (take l.len l.bytes) _ _ in
    let moved = c.move_to_front.new.bytes in
    let front = c.move_to_front.ensures.moved ∙ ap (λ x. take l.len l.bytes ++ take (stop - l.at) x) kept in
    let rest = c.move_to_front.ensures.rest ∙ drop_on l.bytes d l.at stop kept (omega arith) in
    let same : get_or moved stop 0 ≡ get_or d stop 0 = same_at moved d stop stop rest (omega arith) in
    let within : stop < length d = omega arith in
    so_far ∙ ap (prepend _) (at_quote d stop within (grind (arith, same))) ∙ ap Some (append-nil _ ∙ sym front)

pub returns-then-bytes-stop-eq34-clause-text : goal.returns-then-bytes-stop-eq34-clause-text
returns-then-bytes-stop-eq34-clause-text c =
    let d = c.args.bytes.now in
    let l = c.parts in
    let kept = l.invariant.5 in
    let long = l.invariant.4 in
    let stop = c.plain_end-stop.result in
    let run = take (stop - l.at) (drop l.at d) in
    let moved = c.move_to_front.new.bytes in
    let front = c.move_to_front.ensures.moved ∙ ap (λ x. take l.len l.bytes ++ take (stop - l.at) x) kept in
    let rest = c.move_to_front.ensures.rest ∙ drop_on l.bytes d l.at stop kept (omega arith) in
    let same : get_or moved stop 0 ≡ get_or d stop 0 = same_at moved d stop stop rest (omega arith) in
    let within : stop < length d = omega arith in
    let ends = IsCharBoundary-before_ascii d stop within (grind (arith, same)) in
    subst IsUtf8 (sym front) (IsUtf8-append _ run l.invariant.1 (IsUtf8-between d l.at stop c.requires.0 (omega arith) l.invariant.2 ends))

pub returns-in_err-c-clause-value : goal.returns-in_err-c-clause-value
returns-in_err-c-clause-value c =
    let d = c.args.bytes.now in
    let l = c.parts in
    let kept = l.invariant.5 in
    let long = l.invariant.4 in
    let stop = c.plain_end-stop.result in
    let is : stop ≡ l.at + prefix_len is_plain (drop l.at d) = c.plain_end-stop.ensures.value ∙ ap (λ x. l.at + prefix_len is_plain x) kept in
    let so_far = l.invariant.0 ∙ ap (prepend (take l.len l.bytes)) (content-to_stop d l.at stop is) ∙ prepend-prepend (take l.len l.bytes) _ _ in
    let moved = c.move_to_front.new.bytes in
    let rest = c.move_to_front.ensures.rest ∙ drop_on l.bytes d l.at stop kept (omega arith) in
    let same : get_or moved stop 0 ≡ get_or d stop 0 = same_at moved d stop stop rest (omega arith) in
    let before : get_or l.bytes stop 0 ≡ get_or d stop 0 = same_at l.bytes d l.at stop kept (omega arith) in
    let within : stop < length d = omega arith in
    let slash = at_backslash d stop within (stop_is_backslash d l.at stop is within (grind (arith, same)) (grind (arith, before))) in
    let none : content after_backslash (drop (stop + 1) d) ≡ None = ap (content after_backslash) (sym (drop_on moved d stop (stop + 1) rest (omega arith)))
    ∙ c.in_err-c.ensures.value in
    let all = so_far ∙ ap (prepend _) (slash ∙ none) in
    grind (arith, all)

pub parts-preserved : goal.parts-preserved
parts-preserved c =
    let d = c.args.bytes.now in
    let l = c.parts in
    let kept = l.invariant.5 in
    let long = l.invariant.4 in
    let stop = c.plain_end-stop.result in
    let is : stop ≡ l.at + prefix_len is_plain (drop l.at d) = c.plain_end-stop.ensures.value ∙ ap (λ x. l.at + prefix_len is_plain x) kept in
    let so_far = l.invariant.0 ∙ ap (prepend (take l.len l.bytes)) (content-to_stop d l.at stop is) ∙ prepend-prepend (take l.len l.bytes) _ _ in
    let run = take (stop - l.at) (drop l.at d) in
    let moved = c.move_to_front.new.bytes in
    let front = c.move_to_front.ensures.moved ∙ ap (λ x. take l.len l.bytes ++ take (stop - l.at) x) kept in
    let rest = c.move_to_front.ensures.rest ∙ drop_on l.bytes d l.at stop kept (omega arith) in
    let moved_long : length moved ≡ length d = c.move_to_front.ensures.len ∙ long in
    let same : get_or moved stop 0 ≡ get_or d stop 0 = same_at moved d stop stop rest (omega arith) in
    let before : get_or l.bytes stop 0 ≡ get_or d stop 0 = same_at l.bytes d l.at stop kept (omega arith) in
    let within : stop < length d = omega arith in
    let slash = stop_is_backslash d l.at stop is within (grind (arith, same)) (grind (arith, before)) in
    let next = c.in_ok-c.next in
    let e = c.in_ok-c.ensures.value in
    let ch = encode_utf8 c.in_ok-c.c in
    let put = c.put_char-len.ensures in
    let on = drop_on moved d stop next rest (omega (arith, e.1)) in
    let step : content after_backslash (drop (stop + 1) d) ≡ prepend ch (content plain (drop next d)) =
    ap (content after_backslash) (sym (drop_on moved d stop (stop + 1) rest (omega arith))) ∙ e.0 ∙ ap (λ x. prepend ch (content plain x)) on in
    let both = put.written ∙ ap (λ x. x ++ ch) front in
    let ends = IsCharBoundary-before_ascii d stop within (omega arith) in
    let back : next - 1 + 1 ≡ next = omega (arith, e.1) in
    let last : get_or moved (next - 1) 0 ≡ get_or d (next - 1) 0 = same_at moved d stop (next - 1) rest (omega (arith, e.1)) in (
      so_far ∙ ap (prepend _) (at_backslash d stop within slash ∙ step) ∙ prepend-prepend _ _ _ ∙ ap (λ s. prepend s (content plain (drop next d))) (sym both),
      subst IsUtf8 (sym both) (IsUtf8-append _ _
          (IsUtf8-append _ run l.invariant.1 (IsUtf8-between d l.at stop c.requires.0 (omega arith) l.invariant.2 ends)) put.utf8),
      subst (IsCharBoundary d) back (IsCharBoundary-after_ascii d (next - 1) c.requires.0 (omega (arith, e.1, e.2, moved_long)) (omega (arith, last, e.4))),
      omega (arith, e.3, put.value),
      put.len ∙ moved_long,
      drop_on c.put_char-len.new.bytes moved _ next put.rest (omega (arith, e.3, put.value)) ∙ on,
    )

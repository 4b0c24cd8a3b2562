use Rattle.std.proofs.Common.{◌≡◌, ◌+◌, ◌<◌, None, ap, sym, ◌∙◌, drop, length, arith}
use Rattle.std.specs.Prelude.{is_some}
use Rattle.json.specs.Text.{after_backslash, content, plain}
use Rattle.pt_extra.proofs.Lexing.{lex_backslash, lex_quote, lex_to_stop}
use Rattle.pt_extra.proofs.Contents.{at_backslash, at_control, at_end, at_quote, content-to_stop, is_some-prepend, stop_is_backslash}
use Rattle.pt_extra.proofs.strings.string_len.Goals as goal

pub returns-then-stop-text-clause-value : goal.returns-then-stop-text-clause-value
returns-then-stop-text-clause-value c =
    let d = c.args.text.now in
    let l = c.parts in
    let stop = c.plain_end-stop.result in
    let is = c.plain_end-stop.ensures.value in
    let so_far = l.invariant.0 ∙ ap is_some (content-to_stop d l.at stop is) ∙ is_some-prepend _ _ in
    let none : content plain (drop stop d) ≡ None = grind (arith, at_end d stop, at_control d stop) in
    sym (so_far ∙ ap is_some none)

pub returns-then-text-stop-eq34-clause-value : goal.returns-then-text-stop-eq34-clause-value
returns-then-text-stop-eq34-clause-value c =
    let d = c.args.text.now in
    let l = c.parts in
    let stop = c.plain_end-stop.result in
    let is = c.plain_end-stop.ensures.value in
    let so_far = l.invariant.0 ∙ ap is_some (content-to_stop d l.at stop is) ∙ is_some-prepend _ _ in
    let within : stop < length d = omega arith in
    sym (so_far ∙ ap is_some (at_quote d stop within (grind arith)))

pub returns-then-text-stop-eq34-clause-lexed : goal.returns-then-text-stop-eq34-clause-lexed
returns-then-text-stop-eq34-clause-lexed c =
    let d = c.args.text.now in
    let l = c.parts in
    let stop = c.plain_end-stop.result in
    let within : stop < length d = omega arith in
    l.invariant.1 ∙ lex_to_stop d l.at stop c.plain_end-stop.ensures.value ∙ lex_quote d stop within (grind arith)

pub returns-in_err-next-clause-value : goal.returns-in_err-next-clause-value
returns-in_err-next-clause-value c =
    let d = c.args.text.now in
    let l = c.parts in
    let stop = c.plain_end-stop.result in
    let is = c.plain_end-stop.ensures.value in
    let so_far = l.invariant.0 ∙ ap is_some (content-to_stop d l.at stop is) ∙ is_some-prepend _ _ in
    let within : stop < length d = omega arith in
    let slash = at_backslash d stop within (stop_is_backslash d l.at stop is within (grind arith) (grind arith)) in
    let none : content after_backslash (drop (stop + 1) d) ≡ None = c.in_err-next.ensures.value in
    let lacks = so_far ∙ ap is_some (slash ∙ none) in
    grind (arith, lacks)

pub parts-preserved : goal.parts-preserved
parts-preserved c =
    let d = c.args.text.now in
    let l = c.parts in
    let stop = c.plain_end-stop.result in
    let is = c.plain_end-stop.ensures.value in
    let so_far = l.invariant.0 ∙ ap is_some (content-to_stop d l.at stop is) ∙ is_some-prepend _ _ in
    let within : stop < length d = omega arith in
    let e = stop_is_backslash d l.at stop is within (grind arith) (grind arith) in
    let on = c.in_ok-next.ensures in (
      so_far ∙ ap is_some (at_backslash d stop within e ∙ on.value.0) ∙ is_some-prepend _ _,
      l.invariant.1 ∙ lex_to_stop d l.at stop is ∙ lex_backslash d stop within e ∙ on.lexed,
      omega (arith, on.value.2),
    )

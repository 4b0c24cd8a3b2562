use Rattle.std.proofs.Common.{arith, refl, string_bytes}
use Rattle.std.proofs.lemmas.Result.{IfOk-weaker}
use Rattle.pt_check.proofs.EndLine.{all_added, front_begun, part_added, text_is}
use Rattle.pt_check.specs.EndKey.{end_parts}
use Rattle.pt_check.proofs.lines.end_line.Goals as goal

pub loop-part-init : goal.loop-part-init
loop-part-init c =
    front_begun c.args.numbers.now c.in_ok-members.members.items c.push.new.self.items _ c.in_ok-members.ensures.items c.in_ok-push.ensures.items
    (λ others. refl)

pub loop-part-preserved : goal.loop-part-preserved
loop-part-preserved c =
    part_added c.args.numbers.now c.end_parts-parts.result.now c.loop-part.part-index _ c.loop-part.members.items c.push_part.new.members.items
    c.loop-part-test.true c.in_ok-push_part.ensures c.loop-part.invariant

pub returns : goal.returns
returns c =
    let members = c.loop-part.members.items in
    let all = all_added c.args.numbers.now c.end_parts-parts.result.now end_parts c.loop-part.part-index members (omega (arith, c.loop-part-test.false))
    c.end_parts-parts.ensures c.loop-part.invariant in
    IfOk-weaker c.line_with.result _ _
    (λ text is. text_is c.args.numbers.now members c.as_slice.result.now (string_bytes text) c.as_slice.ensures.value all is) c.line_with.ensures

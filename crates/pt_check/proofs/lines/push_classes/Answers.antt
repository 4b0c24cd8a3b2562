use Rattle.std.proofs.Common.{arith}
use Rattle.pt_check.specs.Breakdown.{class_counts}
use Rattle.pt_check.proofs.EndLine.{all_classes, class_added, none_added}
use Rattle.pt_check.proofs.lines.push_classes.Goals as goal

pub loop-class-init : goal.loop-class-init
loop-class-init c = none_added c.args.breakdown c.args.members.now.items

pub loop-class-preserved : goal.loop-class-preserved
loop-class-preserved c =
    class_added c.args.breakdown c.counts-counts.result.now c.loop-class.class 0 c.args.members.now.items c.loop-class.members.items
    c.push_class.new.members.items c.loop-class-test.true c.loop-class.invariant c.in_ok-push_class.ensures

pub push_class-requires : goal.push_class-requires
push_class-requires c = omega (arith, c.loop-class-test.true, c.counts-counts.ensures.few)

pub returns : goal.returns
returns c =
    all_classes c.args.breakdown c.counts-counts.result.now (class_counts c.args.numbers.now c.args.breakdown) c.loop-class.class c.args.members.now.items
    c.loop-class.members.items (omega (arith, c.loop-class-test.false)) c.counts-counts.ensures.counts c.loop-class.invariant

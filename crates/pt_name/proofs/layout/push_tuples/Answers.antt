use Rattle.std.proofs.Common.{◌∙◌}
use Rattle.std.proofs.lemmas.List.Elements.{All-drop}
use Rattle.pt_name.specs.Place.{IsPlaceByte}
use Rattle.pt_name.proofs.Tuples.{tuple_added, digits_left}
use Rattle.pt_name.proofs.layout.push_tuples.Goals as goal

pub loop-preserved : goal.loop-preserved
loop-preserved c =
    let added = tuple_added c.loop.path c.args.size c.args.count c.loop.counter c.loop.rest.now c.loop-test.true in
    record {
      path = rw (c.in_ok-push_name.ensures, c.split_at.ensures.front, c.split_at.ensures.back) (added ∙ c.loop.invariant.path);
      enough = digits_left c.args.size c.args.count c.loop.counter _ _ c.loop-test.true c.loop.invariant.enough c.split_at.ensures.back_len;
      safe = rw c.split_at.ensures.back (All-drop IsPlaceByte c.args.size c.loop.rest.now c.loop.invariant.safe);
    }

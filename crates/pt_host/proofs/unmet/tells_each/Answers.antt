use Rattle.std.proofs.Common.{◌∙◌, ◌<◌, ℕ, List, ap, arith, length, sym}
use Rattle.std.specs.Option.{option_map}
use Rattle.pt_host.proofs.ListedEnds.{none_unmet, one_unmet}
use Rattle.pt_host.proofs.ToldUnmet.{none_told, one_told}
use Rattle.pt_host.specs.HostCall.{Tell}
use Rattle.pt_host.proofs.unmet.tells_each.Goals as goal
use Rattle.pt_host.proofs.unmet.tells_each.Goals.{in-Some, in_default}

pub loop-position-preserved : goal.loop-position-preserved
loop-position-preserved g c =
    let tells : List ℕ → g.row.H.Denot → g.row.H.Denot → Type 0 = λ text old new. g.H.Host.does old (Tell text) new in
    let unmet = c.args.unmet.now in
    let i = c.loop-position.position in
    let within : i < length unmet = omega (arith, c.loop-position-test.true, c.len-position-end.ensures) in elim c.match-at.branch [
      | in-Some w ↦ let there = sym c.at.ensures ∙ ap (option_map (λ id. id.now)) w.in-Some.is in record {
        some = w.some-is ∙ sym (one_unmet unmet i w.in-Some.id.now within there);
        told = rw w.host-is (one_told tells unmet i w.in-Some.id.now c.args.host.now c.loop-position.host w.tell.new.host within there
            c.loop-position.invariant.told w.tell.ensures);
      }
      | in_default w ↦ let there = sym c.at.ensures ∙ ap (option_map (λ id. id.now)) w.in_default.is in record {
        some = w.some-is ∙ c.loop-position.invariant.some ∙ sym (none_unmet unmet i within there);
        told = rw w.host-is (none_told tells unmet i c.args.host.now c.loop-position.host within there c.loop-position.invariant.told);
      }
    ]

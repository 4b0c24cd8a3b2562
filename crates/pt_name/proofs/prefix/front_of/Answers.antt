use Rattle.std.proofs.Common.{arith, sym, ◌∙◌, ◌≡◌, ◌-◌, ap, take, get_or, true, false}
use Rattle.pt_name.specs.Prefix.{ends_line, without_line_ends}
use Rattle.pt_name.proofs.LineEnds.{one_less, none_less}
use Rattle.pt_name.proofs.prefix.front_of.Goals as goal
use Rattle.pt_name.proofs.prefix.front_of.Goals.{then-loop-end-test+else-is_line_end, else-loop-end-test}

pub loop-end-preserved : goal.loop-end-preserved
loop-end-preserved c =
    let test : ends_line (get_or c.args.bytes.now (c.loop-end.end - 1) 0) ≡ true = sym c.is_line_end.ensures ∙ c.if-is_line_end.true in
    record {
      within = omega arith;
      kept = one_less c.args.bytes.now c.loop-end.end c.loop-end-test.true c.loop-end.invariant.within test ∙ c.loop-end.invariant.kept;
    }

pub returns : goal.returns
returns c = elim c.loop-end-test.branch [
  | then-loop-end-test+else-is_line_end w ↦
      let test : ends_line (get_or c.args.bytes.now (c.loop-end.end - 1) 0) ≡ false = sym w.is_line_end.ensures ∙ w.if-is_line_end.false in
      none_less c.args.bytes.now c.loop-end.end w.loop-end-test.true c.loop-end.invariant.within test ∙ c.loop-end.invariant.kept
  | else-loop-end-test w ↦
      let e : c.loop-end.end ≡ 0 = omega arith in
      ap (λ n. take n c.args.bytes.now) e ∙ sym (ap (λ n. without_line_ends (take n c.args.bytes.now)) e) ∙ c.loop-end.invariant.kept
]

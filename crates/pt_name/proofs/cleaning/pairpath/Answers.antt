use Rattle.std.proofs.Common.{◌++◌, false, true, arith, sym, ap, ◌∙◌, append-nil}
use Rattle.std.proofs.lemmas.Bool.Decides.{nat_tests}
use Rattle.pt_tree.specs.Path.{joined}
use Rattle.pt_name.specs.Clean.{pieces_of_two}
use Rattle.pt_name.proofs.Pieces.{spaced, spaced_end, spaced_more, spaced_whole}
use Rattle.pt_name.proofs.cleaning.pairpath.Goals as goal
use Rattle.pt_name.proofs.cleaning.pairpath.Goals.{
  then-i-gt0+then-i-eq0+in_ok-push,
  else-i-gt0,
  else-i-gt0-via-then-i-gt0+else-i-eq0,
  else-i-gt0-via-else-i-gt0,
}

pub loop-i-init : goal.loop-i-init
loop-i-init c =
    let xs = c.deref-character-items.result.now in
    record {
      text = c.deref-character-items.ensures.value ∙ c.in_ok-text.ensures;
      path = ap (λ path. path ++ spaced 0 xs) c.new-path.ensures.items ∙ spaced_whole xs;
    }

pub loop-i-preserved : goal.loop-i-preserved
loop-i-preserved c =
    let xs = c.deref-character-items.result.now in
    let i = c.loop-i.i in
    record {
      text = c.loop-i.invariant.text;
      path = elim c.if-i-gt0.branch [
        | then-i-gt0+then-i-eq0+in_ok-push w ↦
            spaced_more xs i c.loop-i.path.items c.if-i-gt0.path.items _ _ true c.loop-i-test.true (grind (arith, nat_tests)) (ap (λ v. v.items) w.path-is
            ∙ w.in_ok-push.ensures.items) c.in_ok-push-2.ensures.items c.loop-i.invariant.path
        | else-i-gt0 w ↦
            spaced_more xs i c.loop-i.path.items c.if-i-gt0.path.items _ _ false c.loop-i-test.true
            (elim w.else-i-gt0.branch [
              | else-i-gt0-via-then-i-gt0+else-i-eq0 w' ↦ grind (arith, nat_tests)
              | else-i-gt0-via-else-i-gt0 w' ↦ grind (arith, nat_tests)
            ]) (ap (λ v. v.items) w.path-is ∙ sym (append-nil c.loop-i.path.items)) c.in_ok-push-2.ensures.items c.loop-i.invariant.path
      ];
    }

pub returns : goal.returns
returns c = spaced_end c.deref-character-items.result.now c.loop-i.i _ _ c.loop-i-test.false c.loop-i.invariant.path
    ∙ ap (λ text. joined (pieces_of_two text)) c.loop-i.invariant.text

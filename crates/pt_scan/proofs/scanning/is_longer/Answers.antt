use Rattle.std.proofs.Common.{◌≡◌, ◌+◌, ◌-◌, ◌<◌, ◌≤◌, ◌⊎◌, inl, inr, arith, ap}
use Rattle.std.specs.Prelude.{length}
use Rattle.pt_scan.proofs.JoinedLength.{length_more, name_short}
use Rattle.pt_scan.proofs.scanning.is_longer.Goals as goal
use Rattle.pt_scan.proofs.scanning.is_longer.Goals.{then-i-gt0, else-i-gt0}

pub loop-i-preserved : goal.loop-i-preserved
loop-i-preserved c =
    let name = c.index-names-i.result in
    let before = c.loop-i.invariant in
    let slash = c.if-i-gt0.bytes - c.loop-i.bytes in
    let how : ((0 < c.loop-i.i) × (slash ≡ 1)) ⊎ ((c.loop-i.i ≡ 0) × (slash ≡ 0)) =
    elim c.if-i-gt0.branch [
      | then-i-gt0 w ↦ let more = w.bytes-is in inl (w.if-i-gt0.true, omega (arith, more))
      | else-i-gt0 w ↦ let same = w.bytes-is in inr (omega arith, omega (arith, same))
    ]
    in
    let grows : c.loop-i.bytes + slash ≡ c.if-i-gt0.bytes = elim c.if-i-gt0.branch [
      | then-i-gt0 w ↦ let more = w.bytes-is in omega (arith, more)
      | else-i-gt0 w ↦ let same = w.bytes-is in omega (arith, same)
    ]
    in
    let one : slash ≤ 1 = elim how [ inl later ↦ let is = later.1 in omega (arith, is) | inr first ↦ let is = first.1 in omega (arith, is) ] in
    let text = before.0 in
    let few = before.1 in
    let here = ap length c.bytes.ensures.bytes in
    let short = name_short name c.bytes.ensures.name in
    let whole = length_more c.args.names.now c.loop-i.i name slash c.loop-i-test.true c.index-names-i.is how in (
      omega (arith, text, here, whole, grows),
      omega (arith, few, here, short, grows, one),
    )

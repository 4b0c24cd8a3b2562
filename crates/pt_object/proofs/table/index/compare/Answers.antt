use Rattle.std.proofs.Common.{arith, ◌≡◌, ◌≤◌, length, sym, ◌∙◌, refl, subst}
use Rattle.std.specs.Ordering.{nat_cmp}
use Rattle.hex.specs.Hex.{IsBytes}
use Rattle.pt_object.specs.Keys.{key_of}
use Rattle.pt_object.proofs.Keys.{by_keys}
use Rattle.pt_object.proofs.table.index.compare.Goals as goal

pub returns-in_default : goal.returns-in_default
returns-in_default c =
    let a = c.args.a.now in
    let b = c.args.b.now in
    let long_a : 4 ≤ length a = omega (arith, c.bytes.ensures.size) in
    let long_b : 4 ≤ length b = omega (arith, c.bytes-2.ensures.size) in
    let keys : nat_cmp (key_of a) (key_of b) ≡ c.cmp.result = (λ i. nat_cmp (sym c.requires.a i) (sym c.requires.b i)) ∙ sym c.cmp.ensures in
    let are_a : IsBytes a = subst IsBytes c.bytes.ensures.bytes c.tell_bytes.ensures in
    let are_b : IsBytes b = subst IsBytes c.bytes-2.ensures.bytes c.tell_bytes-2.ensures in
    record {
      order = by_keys a b c.cmp.result long_a long_b are_a are_b keys c.in_default.not-Equal;
      counted = refl;
    }

pub returns-in-Equal-clause-order : goal.returns-in-Equal-clause-order
returns-in-Equal-clause-order c = grind arith steps 100000

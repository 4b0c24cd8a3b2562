use Rattle.std.proofs.Common.{arith, ℕ, List, Option, take, subst}
use Rattle.std.specs.Io.KnownBytes.{Consumes}
use Rattle.std.proofs.KnownBytes.{Keeps-refl}
use Rattle.pt_cli.proofs.SoFar.{breaks, ends, ends_in, goes_on}
use Rattle.pt_cli.proofs.name_list.list_names.Goals as goal

pub returns-in_default : goal.returns-in_default
returns-in_default g c =
    breaks c.args.asked.now (g.I.Read.remaining c.args.input.now) (g.I.Read.remaining c.loop.input) (g.W.Write.contents c.args.out.now)
    (g.W.Write.contents c.loop.out) c.loop.listing c.loop.invariant.0
    (g.I.Read.remaining c.read.new.self) c.in_default.ensures.bytes

pub returns-then-count-eq0 : goal.returns-then-count-eq0
returns-then-count-eq0 g c =
    let mid : Option (List ℕ) = g.I.Read.remaining c.loop.input in
    let rest : Option (List ℕ) = g.I.Read.remaining c.read.new.self in
    ends c.args.asked.now (g.I.Read.remaining c.args.input.now) mid (g.W.Write.contents c.args.out.now) (g.W.Write.contents c.loop.out) c.loop.listing
    c.loop.invariant.0
    rest (g.W.Write.contents c.finish.new.out) c.finish.new.self c.finish.result
    (subst (λ (n : ℕ). Consumes mid rest (take n c.read.new.buf)) c.if-count-eq0.true c.in-Ok.ensures.bytes.0)
    (c.in-Ok.ensures.bytes.1 c.if-count-eq0.true (omega (arith, c.loop.invariant.1)))
    c.finish.ensures

pub returns-in_err-list : goal.returns-in_err-list
returns-in_err-list g c =
    ends_in c.args.asked.now (g.I.Read.remaining c.args.input.now) (g.I.Read.remaining c.loop.input) (g.W.Write.contents c.args.out.now)
    (g.W.Write.contents c.loop.out) c.loop.listing c.loop.invariant.0
    (g.I.Read.remaining c.read.new.self) (g.W.Write.contents c.list.new.out) c.list.new.self (take c.in-Ok.count c.read.new.buf) c.in_err-list.field-0.0
    c.from_residual-in_err-list.result
    c.in-Ok.ensures.bytes.0 c.in_err-list.ensures c.from_residual-in_err-list.ensures.1

pub loop-preserved : goal.loop-preserved
loop-preserved g c = (
  goes_on c.args.asked.now (g.I.Read.remaining c.args.input.now) (g.I.Read.remaining c.loop.input) (g.W.Write.contents c.args.out.now)
      (g.W.Write.contents c.loop.out) c.loop.listing c.loop.invariant.0
      (g.I.Read.remaining c.read.new.self) (g.W.Write.contents c.list.new.out) c.list.new.self (take c.in-Ok.count c.read.new.buf)
      c.in-Ok.ensures.bytes.0 c.in_ok-list.ensures,
  omega (arith, c.loop.invariant.1),
)

pub returns : goal.returns
returns g c =
    breaks c.args.asked.now (g.I.Read.remaining c.args.input.now) (g.I.Read.remaining c.loop.input) (g.W.Write.contents c.args.out.now)
    (g.W.Write.contents c.loop.out) c.loop.listing c.loop.invariant.0
    (g.I.Read.remaining c.loop.input) (Keeps-refl (g.I.Read.remaining c.loop.input))

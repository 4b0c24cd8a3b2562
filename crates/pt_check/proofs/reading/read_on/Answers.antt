use Rattle.std.proofs.Common.{arith, refl, sym, ap, ℕ, ◌≡◌, ◌+◌, ◌∙◌, length, min}
use Rattle.std.proofs.lemmas.Bool.{eqb-true}
use Rattle.pt_tree.specs.Failures.{greatest_count}
use Rattle.pt_check.proofs.Blocks.{may_read, next_stays, read_all, read_more, read_most, read_none}
use Rattle.pt_check.proofs.Goes.{fails_still, read_goes}
use Rattle.pt_check.proofs.reading.read_on.Goals as goal

pub loop-total-init : goal.loop-total-init
loop-total-init g c = record {
  tree = refl;
  failed = refl;
  keeps = g.met.S.Source.is_kept c.args.source.now;
  still = λ f is. is;
  read = read_none (g.S.Source.told c.args.source.now);
}

pub next-requires : goal.next-requires
next-requires g c =
    may_read c.loop-total.total (g.S.Source.told c.args.source.now) (g.S.Source.told c.loop-total.source) c.requires c.loop-total.invariant.tree
    c.loop-total.invariant.read

pub returns-then-is_empty-clause-bytes : goal.returns-then-is_empty-clause-bytes
returns-then-is_empty-clause-bytes g c =
    read_all c.loop-total.total (g.S.Source.told c.args.source.now) (g.S.Source.told c.loop-total.source) c.next.new.block.items c.loop-total.invariant.read
    c.in_ok-next.ensures.block
    (eqb-true (length c.next.new.block.items) 0 (sym c.if-is_empty.ensures))

pub returns-then-is_empty-clause-ended : goal.returns-then-is_empty-clause-ended
returns-then-is_empty-clause-ended g c =
    let none = eqb-true (length c.next.new.block.items) 0 (sym c.if-is_empty.ensures) in
    λ few. read_goes (g.S.Source.failing c.args.source.now) _ _ c.next.new.block.items _ c.loop-total.invariant.still c.in_ok-next.ensures.fails
    (omega (arith, none))

pub loop-total-preserved : goal.loop-total-preserved
loop-total-preserved g c =
    let so_far = c.loop-total.invariant in
    let adds : c.saturating_add-total.result ≡ min (c.loop-total.total + length c.next.new.block.items) greatest_count =
    c.saturating_add-total.ensures ∙ ap (λ (n : ℕ). min (c.loop-total.total + n) greatest_count) c.len.ensures.value in
    record {
      tree = next_stays (g.S.Source.told c.loop-total.source) (g.S.Source.told c.next.new.self) c.in_ok-next.ensures.moved ∙ so_far.tree;
      failed = c.in_ok-next.ensures.failures ∙ so_far.failed;
      keeps = g.met.S.Source.keeps_on _ _ _ so_far.keeps c.next.ensures.keeps;
      still = fails_still (g.S.Source.failing c.args.source.now) _ _ _ _ so_far.still c.in_ok-next.ensures.fails;
      read = read_more c.loop-total.total c.saturating_add-total.result (g.S.Source.told c.args.source.now) (g.S.Source.told c.loop-total.source)
          (g.S.Source.told c.next.new.self)
          c.next.new.block.items so_far.read c.in_ok-next.ensures.block c.in_ok-next.ensures.moved adds;
    }

pub returns-clause-bytes : goal.returns-clause-bytes
returns-clause-bytes g c =
    read_most c.loop-total.total (g.S.Source.told c.args.source.now) (g.S.Source.told c.loop-total.source) c.loop-total.invariant.read (omega arith)

pub returns-clause-ended : goal.returns-clause-ended
returns-clause-ended g c = λ few. absurd (omega (arith, few))

use Rattle.std.proofs.Common.{ap, ◌∙◌, length, refl, sym}
use Rattle.std.proofs.lemmas.Bool.Decides.{Decides-eqb}
use Rattle.pt_compare.specs.Root.{is_reading}
use Rattle.pt_tree.specs.Source.{tree_in}
use Rattle.pt_compare.proofs.Passed.{one_passed, other_next, some_left, told_other, told_same, all_passed, none_passed}
use Rattle.pt_compare.proofs.Reading.{next_reads, next_tree, can_read}
use Rattle.pt_compare.proofs.bytes.come_next.Goals as goal

-- src/bytes.rt:35:13
pub returns-then-ne-clause-other : goal.returns-then-ne-clause-other
returns-then-ne-clause-other g c = λ is.
    let told = g.R.Source.told in
    let other = told_other c.as_slice.result.now c.next.new.block.items c.split_at.result.0.now c.if-ne.ensures c.as_slice.ensures.value in
    other_next c.min.result c.args.bytes.now c.loop-rest.rest.now c.split_at.result.0.now c.next.new.block.items (told c.args.root.now) (told c.loop-rest.root)
    c.loop-rest.invariant.2 (some_left c.loop-rest.rest.now c.loop-rest-test.ensures) c.in_ok-next.ensures.block c.min.ensures c.split_at.ensures.front other

-- src/bytes.rt:31:5
pub loop-rest-preserved : goal.loop-rest-preserved
loop-rest-preserved g c =
    let told = g.R.Source.told in
    let same = told_same c.as_slice.result.now c.next.new.block.items c.split_at.result.0.now c.if-ne.ensures c.as_slice.ensures.value in
    let has = one_passed c.min.result c.args.bytes.now c.loop-rest.rest.now c.split_at.result.0.now c.split_at.result.1.now c.next.new.block.items
    (told c.args.root.now) (told c.loop-rest.root) (told c.next.new.self)
    c.loop-rest.invariant.2 c.in_ok-next.ensures.block c.in_ok-next.ensures.moved c.min.ensures c.split_at.ensures.front c.split_at.ensures.back same in (
      ap tree_in c.in_ok-next.ensures.moved ∙ next_tree (told c.loop-rest.root) ∙ c.loop-rest.invariant.0,
      ap is_reading c.in_ok-next.ensures.moved
          ∙ next_reads (told c.loop-rest.root) c.loop-rest.invariant.1,
      has,
      g.met.R.Source.keeps_on _ _ _ c.loop-rest.invariant.3 c.next.ensures.keeps,
      c.in_ok-next.ensures.failures ∙ c.loop-rest.invariant.4,
    )

pub loop-rest-init : goal.loop-rest-init
loop-rest-init g c = (refl, c.requires, none_passed c.args.bytes.now (g.R.Source.told c.args.root.now), g.met.R.Source.is_kept c.args.root.now, refl)

pub next-requires : goal.next-requires
next-requires g c = can_read (g.R.Source.told c.loop-rest.root) c.loop-rest.invariant.1

pub returns-in_err-next-clause-keeps : goal.returns-in_err-next-clause-keeps
returns-in_err-next-clause-keeps g c = g.met.R.Source.keeps_on _ _ _ c.loop-rest.invariant.3 c.next.ensures.keeps

pub returns-then-ne-clause-keeps : goal.returns-then-ne-clause-keeps
returns-then-ne-clause-keeps g c = g.met.R.Source.keeps_on _ _ _ c.loop-rest.invariant.3 c.next.ensures.keeps

pub returns-clause-next : goal.returns-clause-next
returns-clause-next g c = λ is. all_passed c.args.bytes.now c.loop-rest.rest.now (g.R.Source.told c.args.root.now) (g.R.Source.told c.loop-rest.root)
    c.loop-rest.invariant.2 ((Decides-eqb (length c.loop-rest.rest.now) 0).0 (sym c.loop-rest-test.ensures))

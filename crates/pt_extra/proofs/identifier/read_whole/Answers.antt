use Rattle.std.proofs.Common.{◌≡◌, ℕ, List, arith, subst, sym, ap, ◌∙◌, ◌++◌, refl}
use Rattle.pt_compare.specs.Root.{is_reading}
use Rattle.pt_tree.specs.Source.{tree_in}
use Rattle.pt_compare.specs.Bytes.{CameNext}
use Rattle.pt_compare.proofs.Passed.{all_came, more_came, none_came}
use Rattle.pt_compare.proofs.Reading.{next_reads, next_tree, can_read}
use Rattle.pt_extra.proofs.Reading.{more_left, whole_read}
use Rattle.pt_extra.proofs.identifier.read_whole.Goals as goal

pub loop-block-preserved : goal.loop-block-preserved
loop-block-preserved g c =
    let told = g.R.Source.told in
    let longer : c.append.new.bytes.items ≡ c.loop-block.bytes.items ++ c.next.new.block.items = c.in_ok-append.ensures.items
    ∙ ap (λ b. c.loop-block.bytes.items ++ b) c.as_slice.ensures.value in
    let moved = c.in_ok-next.ensures.moved in
    record {
      tree = ap tree_in moved ∙ next_tree (told c.loop-block.root) ∙ c.loop-block.invariant.tree;
      reads = ap is_reading moved ∙ next_reads (told c.loop-block.root) c.loop-block.invariant.reads;
      came = more_came c.loop-block.bytes.items c.next.new.block.items c.append.new.bytes.items (told c.args.root.now) (told c.loop-block.root)
          (told c.next.new.self) c.loop-block.invariant.came c.in_ok-next.ensures.block moved longer;
      keeps = g.met.R.Source.keeps_on _ _ _ c.loop-block.invariant.keeps c.next.ensures.keeps;
      failed = c.in_ok-next.ensures.failures ∙ c.loop-block.invariant.failed;
    }

pub loop-block-init : goal.loop-block-init
loop-block-init g c = record {
  tree = refl;
  reads = c.requires;
  came = subst (λ (b : List ℕ). CameNext b (g.R.Source.told c.args.root.now) (g.R.Source.told c.args.root.now)) (sym c.new-bytes.ensures.items)
      (none_came (g.R.Source.told c.args.root.now));
  keeps = g.met.R.Source.is_kept c.args.root.now;
  failed = refl;
}

pub next-requires : goal.next-requires
next-requires g c = can_read (g.R.Source.told c.loop-block.root) c.loop-block.invariant.reads

pub returns-then-is_empty-clause-bytes : goal.returns-then-is_empty-clause-bytes
returns-then-is_empty-clause-bytes g c =
    let told = g.R.Source.told in
    whole_read c.loop-block.bytes (told c.args.root.now)
    (all_came c.loop-block.bytes c.next.new.block.items (told c.args.root.now) (told c.loop-block.root) c.loop-block.invariant.came c.in_ok-next.ensures.block
    c.if-is_empty.ensures)
    (omega (arith, c.len.ensures, c.loop-block-test.true))

pub returns-clause-bytes : goal.returns-clause-bytes
returns-clause-bytes g c =
    let told = g.R.Source.told in
    more_left c.loop-block.bytes.items (told c.args.root.now) (told c.loop-block.root) c.loop-block.invariant.came
    (omega (arith, c.len.ensures, c.loop-block-test.false))

use Rattle.std.proofs.Common.{◌≡◌, ℕ, List, subst, sym, ap, ◌∙◌, ◌++◌, refl}
use Rattle.pt_compare.specs.Root.{is_reading}
use Rattle.pt_tree.specs.Source.{tree_in}
use Rattle.pt_compare.specs.Bytes.{CameNext}
use Rattle.pt_compare.proofs.Passed.{all_came, more_came, none_came}
use Rattle.pt_compare.proofs.Reading.{next_reads, next_tree, can_read, still_reads, still_tree}
use Rattle.pt_compare.proofs.bytes.rest_of.Goals as goal

pub returns-then-is_empty-clause-rest : goal.returns-then-is_empty-clause-rest
returns-then-is_empty-clause-rest g c =
    let told = g.R.Source.told in
    all_came c.loop.bytes c.next.new.block.items (told c.args.root.now) (told c.loop.root) c.loop.invariant.came c.in_ok-next.ensures.block
    c.if-is_empty.ensures

pub loop-preserved : goal.loop-preserved
loop-preserved g c =
    let told = g.R.Source.told in
    let longer : c.extend_from_slice.new.self.items ≡ c.loop.bytes.items ++ c.next.new.block.items = c.in_ok-extend_from_slice.ensures.items
    ∙ ap (λ b. c.loop.bytes.items ++ b) c.as_slice.ensures.value in
    let moved = c.in_ok-next.ensures.moved in
    record {
      tree = ap tree_in moved ∙ next_tree (told c.loop.root) ∙ c.loop.invariant.tree;
      reads = ap is_reading moved ∙ next_reads (told c.loop.root) c.loop.invariant.reads;
      came = more_came c.loop.bytes.items c.next.new.block.items c.extend_from_slice.new.self.items (told c.args.root.now) (told c.loop.root)
          (told c.next.new.self) c.loop.invariant.came c.in_ok-next.ensures.block moved longer;
      keeps = g.met.R.Source.keeps_on _ _ _ c.loop.invariant.keeps c.next.ensures.keeps;
      failed = c.in_ok-next.ensures.failures ∙ c.loop.invariant.failed;
    }

pub loop-init : goal.loop-init
loop-init g c = record {
  tree = refl;
  reads = c.requires;
  came = subst (λ (b : List ℕ). CameNext b (g.R.Source.told c.args.root.now) (g.R.Source.told c.args.root.now)) (sym c.new-bytes.ensures.items)
      (none_came (g.R.Source.told c.args.root.now));
  keeps = g.met.R.Source.is_kept c.args.root.now;
  failed = refl;
}

pub next-requires : goal.next-requires
next-requires g c = can_read (g.R.Source.told c.loop.root) c.loop.invariant.reads

pub returns-in_err-next-clause-keeps : goal.returns-in_err-next-clause-keeps
returns-in_err-next-clause-keeps g c = g.met.R.Source.keeps_on _ _ _ c.loop.invariant.keeps c.next.ensures.keeps

pub returns-then-is_empty-clause-tree : goal.returns-then-is_empty-clause-tree
returns-then-is_empty-clause-tree g c = still_tree c.next.result (g.R.Source.told c.loop.root) (g.R.Source.told c.next.new.self) c.next.ensures.moved
    c.next.ensures.same ∙ c.loop.invariant.tree

pub returns-then-is_empty-clause-reads : goal.returns-then-is_empty-clause-reads
returns-then-is_empty-clause-reads g c = still_reads c.next.result (g.R.Source.told c.loop.root) (g.R.Source.told c.next.new.self) c.next.ensures.moved
    c.next.ensures.same c.loop.invariant.reads

pub returns-then-is_empty-clause-keeps : goal.returns-then-is_empty-clause-keeps
returns-then-is_empty-clause-keeps g c = g.met.R.Source.keeps_on _ _ _ c.loop.invariant.keeps c.next.ensures.keeps

pub returns-in_err-extend_from_slice-clause-tree : goal.returns-in_err-extend_from_slice-clause-tree
returns-in_err-extend_from_slice-clause-tree g c = still_tree c.next.result (g.R.Source.told c.loop.root) (g.R.Source.told c.next.new.self) c.next.ensures.moved
    c.next.ensures.same ∙ c.loop.invariant.tree

pub returns-in_err-extend_from_slice-clause-reads : goal.returns-in_err-extend_from_slice-clause-reads
returns-in_err-extend_from_slice-clause-reads g c = still_reads c.next.result (g.R.Source.told c.loop.root) (g.R.Source.told c.next.new.self)
    c.next.ensures.moved c.next.ensures.same c.loop.invariant.reads

pub returns-in_err-extend_from_slice-clause-keeps : goal.returns-in_err-extend_from_slice-clause-keeps
returns-in_err-extend_from_slice-clause-keeps g c = g.met.R.Source.keeps_on _ _ _ c.loop.invariant.keeps c.next.ensures.keeps

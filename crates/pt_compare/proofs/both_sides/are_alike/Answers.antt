use Rattle.std.proofs.Common.{rules, ap, sym, ◌≡◌, ◌∙◌, refl}
use Rattle.std.specs.Option.{option_map}
use Rattle.pt_compare.specs.Root.{is_reading}
use Rattle.pt_tree.specs.Source.{IsRead, after_next, tree_in}
use Rattle.pt_compare.proofs.Alike.{so_far_differ, so_far_end, so_far_next, so_far_start}
use Rattle.pt_compare.proofs.Passed.{told_other, told_same}
use Rattle.pt_compare.proofs.Reading.{next_reads, next_tree, can_read, still_tree}
use Rattle.pt_compare.proofs.both_sides.are_alike.Goals as goal

pub returns-then-ne-clause-alike : goal.returns-then-ne-clause-alike
returns-then-ne-clause-alike g c =
    let read_s : IsRead (g.S.Source.told c.loop.source) c.next.new.block.items = search rules in
    let read_r : IsRead (g.R.Source.told c.loop.root) c.next-in-loop.new.block.items = search rules in
    so_far_differ (g.S.Source.told c.args.source.now) (g.R.Source.told c.args.root.now) (g.S.Source.told c.loop.source) (g.R.Source.told c.loop.root)
    c.next.new.block.items c.next-in-loop.new.block.items c.loop.invariant.so_far read_s read_r
    (λ same. told_other c.as_slice.result.now c.next-in-loop.new.block.items c.as_slice-in-loop.result.now c.if-ne.ensures c.as_slice.ensures.value (same
    ∙ sym c.as_slice-in-loop.ensures.value))

pub returns-then-is_empty-clause-alike : goal.returns-then-is_empty-clause-alike
returns-then-is_empty-clause-alike g c =
    let read_s : IsRead (g.S.Source.told c.loop.source) c.next.new.block.items = search rules in
    let read_r : IsRead (g.R.Source.told c.loop.root) c.next-in-loop.new.block.items = search rules in
    so_far_end (g.S.Source.told c.args.source.now) (g.R.Source.told c.args.root.now) (g.S.Source.told c.loop.source) (g.R.Source.told c.loop.root)
    c.next.new.block.items c.next-in-loop.new.block.items c.loop.invariant.so_far read_s read_r
    (told_same c.as_slice.result.now c.next-in-loop.new.block.items c.as_slice-in-loop.result.now c.if-ne.ensures c.as_slice.ensures.value
    ∙ c.as_slice-in-loop.ensures.value) c.if-is_empty.ensures

pub loop-preserved : goal.loop-preserved
loop-preserved g c =
    let read_s : IsRead (g.S.Source.told c.loop.source) c.next.new.block.items = search rules in
    let read_r : IsRead (g.R.Source.told c.loop.root) c.next-in-loop.new.block.items = search rules in
    let moved_s : g.S.Source.told c.next.new.self ≡ option_map after_next (g.S.Source.told c.loop.source) = search rules in
    let moved_r : g.R.Source.told c.next-in-loop.new.self ≡ option_map after_next (g.R.Source.told c.loop.root) = search rules in
    let failed_s : g.S.Source.failed c.next.new.self ≡ g.S.Source.failed c.loop.source = search rules in
    let failed_r : g.R.Source.failed c.next-in-loop.new.self ≡ g.R.Source.failed c.loop.root = search rules in
    let so_far = c.loop.invariant in
    record {
      source_keeps = g.met.S.Source.keeps_on _ _ _ so_far.source_keeps c.next.ensures.keeps;
      source_tree = ap tree_in moved_s ∙ next_tree (g.S.Source.told c.loop.source) ∙ so_far.source_tree;
      root_keeps = g.met.R.Source.keeps_on _ _ _ so_far.root_keeps c.next-in-loop.ensures.keeps;
      root_tree = ap tree_in moved_r ∙ next_tree (g.R.Source.told c.loop.root) ∙ so_far.root_tree;
      source_failed = failed_s ∙ so_far.source_failed;
      root_failed = failed_r ∙ so_far.root_failed;
      source_reads = ap is_reading moved_s ∙ next_reads (g.S.Source.told c.loop.source) so_far.source_reads;
      root_reads = ap is_reading moved_r ∙ next_reads (g.R.Source.told c.loop.root) so_far.root_reads;
      so_far = so_far_next (g.S.Source.told c.args.source.now) (g.R.Source.told c.args.root.now) (g.S.Source.told c.loop.source) (g.R.Source.told c.loop.root)
          (g.S.Source.told c.next.new.self) (g.R.Source.told c.next-in-loop.new.self) c.next.new.block.items c.next-in-loop.new.block.items so_far.so_far read_s
          read_r moved_s moved_r
          (told_same c.as_slice.result.now c.next-in-loop.new.block.items c.as_slice-in-loop.result.now c.if-ne.ensures c.as_slice.ensures.value
          ∙ c.as_slice-in-loop.ensures.value);
    }

pub loop-init : goal.loop-init
loop-init g c = record {
  source_keeps = g.met.S.Source.is_kept c.args.source.now;
  source_tree = refl;
  root_keeps = g.met.R.Source.is_kept c.args.root.now;
  root_tree = refl;
  source_failed = refl;
  root_failed = refl;
  source_reads = c.requires.source;
  root_reads = c.requires.root;
  so_far = so_far_start (g.S.Source.told c.args.source.now) (g.R.Source.told c.args.root.now);
}

pub next-requires : goal.next-requires
next-requires g c = can_read (g.S.Source.told c.loop.source) c.loop.invariant.source_reads

pub next-requires-in-loop : goal.next-requires-in-loop
next-requires-in-loop g c = can_read (g.R.Source.told c.loop.root) c.loop.invariant.root_reads

pub returns-in_err-map_err-2-clause-source : goal.returns-in_err-map_err-2-clause-source
returns-in_err-map_err-2-clause-source g c = (
  g.met.S.Source.keeps_on _ _ _ c.loop.invariant.source_keeps c.next.ensures.keeps,
  still_tree c.next.result
      (g.S.Source.told c.loop.source) (g.S.Source.told c.next.new.self) c.next.ensures.moved c.next.ensures.same ∙ c.loop.invariant.source_tree,
)

pub returns-in_err-map_err-2-clause-root : goal.returns-in_err-map_err-2-clause-root
returns-in_err-map_err-2-clause-root g c = (
  g.met.R.Source.keeps_on _ _ _ c.loop.invariant.root_keeps c.next-in-loop.ensures.keeps,
  still_tree
      c.next-in-loop.result (g.R.Source.told c.loop.root) (g.R.Source.told c.next-in-loop.new.self) c.next-in-loop.ensures.moved c.next-in-loop.ensures.same
      ∙ c.loop.invariant.root_tree,
)

pub returns-then-ne-clause-source : goal.returns-then-ne-clause-source
returns-then-ne-clause-source g c = (
  g.met.S.Source.keeps_on _ _ _ c.loop.invariant.source_keeps c.next.ensures.keeps,
  still_tree c.next.result
      (g.S.Source.told c.loop.source) (g.S.Source.told c.next.new.self) c.next.ensures.moved c.next.ensures.same ∙ c.loop.invariant.source_tree,
)

pub returns-then-ne-clause-root : goal.returns-then-ne-clause-root
returns-then-ne-clause-root g c = (
  g.met.R.Source.keeps_on _ _ _ c.loop.invariant.root_keeps c.next-in-loop.ensures.keeps,
  still_tree c.next-in-loop.result
      (g.R.Source.told c.loop.root) (g.R.Source.told c.next-in-loop.new.self) c.next-in-loop.ensures.moved c.next-in-loop.ensures.same
      ∙ c.loop.invariant.root_tree,
)

pub returns-then-is_empty-clause-source : goal.returns-then-is_empty-clause-source
returns-then-is_empty-clause-source g c = (
  g.met.S.Source.keeps_on _ _ _ c.loop.invariant.source_keeps c.next.ensures.keeps,
  still_tree c.next.result
      (g.S.Source.told c.loop.source) (g.S.Source.told c.next.new.self) c.next.ensures.moved c.next.ensures.same ∙ c.loop.invariant.source_tree,
)

pub returns-then-is_empty-clause-root : goal.returns-then-is_empty-clause-root
returns-then-is_empty-clause-root g c = (
  g.met.R.Source.keeps_on _ _ _ c.loop.invariant.root_keeps c.next-in-loop.ensures.keeps,
  still_tree
      c.next-in-loop.result (g.R.Source.told c.loop.root) (g.R.Source.told c.next-in-loop.new.self) c.next-in-loop.ensures.moved c.next-in-loop.ensures.same
      ∙ c.loop.invariant.root_tree,
)

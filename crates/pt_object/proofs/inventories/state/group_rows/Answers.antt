use Rattle.std.proofs.Common.{Vec, ◌∙◌, ap, List, map, refl, arith}
use Rattle.std.proofs.lemmas.List.{take_all}
use Rattle.std.specs.declared.alloc.Global.{Global}
use Rattle.pt_object.specs.Later.{group_lent}
use Rattle.pt_object.specs.declared.rows.Row.{Row}
use Rattle.pt_object.specs.declared.inventories.state.Group.{Group}
use Rattle.pt_object.proofs.Grouped.{digests, grouped_more, grouped_other, length_groups, no_part, none_yet, over_digests, part_with}
use Rattle.pt_object.proofs.inventories.state.group_rows.Goals as goal
use Rattle.pt_object.proofs.inventories.state.group_rows.Goals.{in-Some+in_ok-add, in_default}

pub loop-row-init : goal.loop-row-init
loop-row-init c = c.loop.invariant ∙ ap (map no_part) (take_all _ _ c.loop-test.false ∙ c.as_slice-items.ensures) ∙ none_yet c.args.contents.now

pub index_mut-requires : goal.index_mut-requires
index_mut-requires c = omega (arith, c.in-Some.ensures.within, length_groups _ _ _ c.loop-row.invariant, c.loop-row.groups.ok)

pub loop-row-preserved : goal.loop-row-preserved
loop-row-preserved c = elim c.match-position_near.branch [
  | in-Some+in_ok-add w ↦
      ap (λ (g : Vec Group Global). map group_lent g.items) w.groups-is
      ∙ grouped_more c.loop-row.groups.items c.args.contents.now c.args.rows.now c.loop-row.row-index w.in-Some.position c.row-item.result _
      w.index_mut.result.now w.add.new.self
      c.len.ensures.differ w.in-Some.ensures c.loop-row-test.true c.row-item.is refl c.loop-row.invariant w.index_mut.ensures.value w.in_ok-add.ensures
  | in_default w ↦
      ap (λ (g : Vec Group Global). map group_lent g.items) w.groups-is
      ∙ grouped_other c.loop-row.groups.items c.args.contents.now c.args.rows.now c.loop-row.row-index c.row-item.result w.in_default.ensures
      c.loop-row-test.true c.row-item.is c.loop-row.invariant
]

pub returns : goal.returns
returns c =
    c.loop-row.invariant
    ∙ ap (λ (rows : List Row). map (part_with rows) (digests c.args.contents.now)) (take_all _ _ c.loop-row-test.false)
    ∙ over_digests c.args.rows.now c.args.contents.now

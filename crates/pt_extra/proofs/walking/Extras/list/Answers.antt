use Rattle.std.proofs.Common.{ap, arith, refl, rules, ◌≤◌, ℕ}
use Rattle.pt_audit.specs.Failing.{failures}
use Rattle.pt_tree.proofs.Told.{may_list}
use Rattle.pt_tree.specs.Failures.{HasRisen, greatest_count}
use Rattle.pt_tree.specs.Source.{tree_in}
use Rattle.pt_extra.proofs.Keeping.{keeps_on, keeps_root}
use Rattle.pt_extra.proofs.Past.{part_stops, part_told, past_on, risen_le}
use Rattle.pt_extra.specs.Walk.{failures_by}
use Rattle.pt_extra.proofs.walking.Extras.list.Goals as goal

pub list-requires : goal.list-requires
list-requires g c = may_list (g.R.Source.told c.args.self.now.root) c.args.folder.now c.requires

pub returns-in-Ok-clause-fails : goal.returns-in-Ok-clause-fails
returns-in-Ok-clause-fails g c =
    let old = c.args.self.now in (
      g.R.Source.failed old.root,
      omega (arith),
      ap (λ (n : ℕ). failures (g.S.Source.failed old.store) n (g.L.Log.failed old.log)) c.in-Ok.ensures.failures,
    )

pub returns-in-Err-Device-clause-told : goal.returns-in-Err-Device-clause-told
returns-in-Err-Device-clause-told g c =
    let old = c.args.self.now in
    let root = c.list.new.self in
    let mid = record old { root = root } in
    let kept = keeps_root g.S.Source g.R.Source g.L.Log g.met.S.Source.is_kept g.met.L.Log.is_kept old root c.list.ensures.keeps
    (ap tree_in c.list.ensures.same) in
    let rose : HasRisen (g.R.Source.failed old.root) (g.R.Source.failed root) = rw c.in-Err-Device.field-0-is at c.in-Err-Device.ensures.failures in
    part_told g.S.Source g.R.Source g.L.Log old mid c.list_part.new.self c.args.path.now kept refl rose c.list_part.result _
    c.list_part.ensures.fails c.list_part.ensures.told c.list_part.ensures.part

pub returns-in-Err-Device-clause-stops : goal.returns-in-Err-Device-clause-stops
returns-in-Err-Device-clause-stops g c =
    let old = c.args.self.now in
    let root = c.list.new.self in
    let mid = record old { root = root } in
    let kept = keeps_root g.S.Source g.R.Source g.L.Log g.met.S.Source.is_kept g.met.L.Log.is_kept old root c.list.ensures.keeps
    (ap tree_in c.list.ensures.same) in
    let rose : HasRisen (g.R.Source.failed old.root) (g.R.Source.failed root) = rw c.in-Err-Device.field-0-is at c.in-Err-Device.ensures.failures in
    let small : g.R.Source.failed old.root ≤ greatest_count = search rules in
    let older = risen_le (g.R.Source.failed old.root) (g.R.Source.failed root) small rose in
    part_stops g.S.Source g.R.Source g.L.Log old mid c.list_part.new.self c.args.path.now kept refl rose c.list_part.result older
    c.list_part.ensures.fails c.list_part.ensures.stops

pub returns-in-Err-Device-clause-keeps : goal.returns-in-Err-Device-clause-keeps
returns-in-Err-Device-clause-keeps g c =
    let old = c.args.self.now in
    let root = c.list.new.self in
    let mid = record old { root = root } in
    let kept = keeps_root g.S.Source g.R.Source g.L.Log g.met.S.Source.is_kept g.met.L.Log.is_kept old root c.list.ensures.keeps
    (ap tree_in c.list.ensures.same) in
    keeps_on g.S.Source g.R.Source g.L.Log g.met.S.Source.keeps_on g.met.R.Source.keeps_on g.met.L.Log.keeps_on old mid c.list_part.new.self
    kept c.list_part.ensures.keeps

pub returns-in-Err-Device-clause-fails : goal.returns-in-Err-Device-clause-fails
returns-in-Err-Device-clause-fails g c =
    let old = c.args.self.now in
    let root = c.list.new.self in
    let mid = record old { root = root } in
    let kept = keeps_root g.S.Source g.R.Source g.L.Log g.met.S.Source.is_kept g.met.L.Log.is_kept old root c.list.ensures.keeps
    (ap tree_in c.list.ensures.same) in
    let rose : HasRisen (g.R.Source.failed old.root) (g.R.Source.failed root) = rw c.in-Err-Device.field-0-is at c.in-Err-Device.ensures.failures in
    let small : g.R.Source.failed old.root ≤ greatest_count = search rules in
    let older = risen_le (g.R.Source.failed old.root) (g.R.Source.failed root) small rose in
    past_on c.list_part.result (failures_by g.S.Source g.R.Source g.L.Log old)
    (failures_by g.S.Source g.R.Source g.L.Log mid)
    (failures_by g.S.Source g.R.Source g.L.Log c.list_part.new.self)
    (g.R.Source.failed root, older, refl) c.list_part.ensures.fails

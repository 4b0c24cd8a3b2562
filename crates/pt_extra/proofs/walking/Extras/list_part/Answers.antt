use Rattle.std.proofs.Common.{ap, map, refl, rules, string_bytes, [], ◌∷◌, ◌≡◌}
use Rattle.std.specs.Result.{IsErrAnd}
use Rattle.pt_plan.specs.declared.fault.Fault.TheVariants as fault
use Rattle.pt_tree.proofs.Told.{may_list}
use Rattle.pt_tree.specs.Source.{tree_in}
use Rattle.pt_extra.proofs.Keeping.{at_err, front_from, keeps_on, keeps_root, told_from}
use Rattle.pt_extra.proofs.Past.{past_err_of, past_memory}
use Rattle.pt_extra.proofs.Telling.{front_none}
use Rattle.pt_extra.specs.Lines.{texts}
use Rattle.pt_extra.specs.Unlisted.{of_unlisted}
use Rattle.pt_extra.specs.Walk.{failures_by, found_unlisted}
use Rattle.pt_extra.proofs.walking.Extras.list_part.Goals as goal

pub explain_listing-requires : goal.explain_listing-requires
explain_listing-requires g c = may_list (g.R.Source.told c.args.self.now.root) c.args.folder.now c.requires

pub returns-clause-told : goal.returns-clause-told
returns-clause-told g c =
    let old = c.args.self.now in
    let root = c.explain_listing.new.source in
    let mid = record old { root = root } in
    let kept = keeps_root g.S.Source g.R.Source g.L.Log g.met.S.Source.is_kept g.met.L.Log.is_kept old root c.explain_listing.ensures.keeps
    (ap tree_in c.explain_listing.ensures.same) in
    let reason = c.as_str.result.now in
    let further = map (λ reason. string_bytes reason) c.deref.result.now in (
      reason,
      further,
      told_from g.S.Source g.R.Source g.L.Log (found_unlisted c.args.path.now (reason ∷ further)) old mid c.tell_reasons.new.self kept
          c.in_ok-tell_reasons.ensures.told,
    )

pub returns-clause-keeps : goal.returns-clause-keeps
returns-clause-keeps g c =
    let old = c.args.self.now in
    let root = c.explain_listing.new.source in
    let mid = record old { root = root } in
    let kept = keeps_root g.S.Source g.R.Source g.L.Log g.met.S.Source.is_kept g.met.L.Log.is_kept old root c.explain_listing.ensures.keeps
    (ap tree_in c.explain_listing.ensures.same) in
    keeps_on g.S.Source g.R.Source g.L.Log g.met.S.Source.keeps_on g.met.R.Source.keeps_on g.met.L.Log.keeps_on old mid
    c.tell_reasons.new.self kept c.tell_reasons.ensures.keeps

pub returns-clause-fails : goal.returns-clause-fails
returns-clause-fails g c =
    let old = c.args.self.now in
    (g.R.Source.failed c.explain_listing.new.source, c.explain_listing.ensures.failures, c.in_ok-tell_reasons.ensures.fails)

pub returns-in_err-tell_reasons-clause-keeps : goal.returns-in_err-tell_reasons-clause-keeps
returns-in_err-tell_reasons-clause-keeps g c =
    let old = c.args.self.now in
    let root = c.explain_listing.new.source in
    let mid = record old { root = root } in
    let kept = keeps_root g.S.Source g.R.Source g.L.Log g.met.S.Source.is_kept g.met.L.Log.is_kept old root c.explain_listing.ensures.keeps
    (ap tree_in c.explain_listing.ensures.same) in
    keeps_on g.S.Source g.R.Source g.L.Log g.met.S.Source.keeps_on g.met.R.Source.keeps_on g.met.L.Log.keeps_on old mid
    c.tell_reasons.new.self kept c.tell_reasons.ensures.keeps

pub returns-in_err-tell_reasons-clause-fails : goal.returns-in_err-tell_reasons-clause-fails
returns-in_err-tell_reasons-clause-fails g c =
    let old = c.args.self.now in
    past_err_of c.in_err-tell_reasons.field-0.0 c.from_residual-in_err-tell_reasons.result (failures_by g.S.Source g.R.Source g.L.Log old)
    (failures_by g.S.Source g.R.Source g.L.Log (record old { root = c.explain_listing.new.source }))
    (failures_by g.S.Source g.R.Source g.L.Log c.tell_reasons.new.self)
    (g.R.Source.failed c.explain_listing.new.source, c.explain_listing.ensures.failures, refl) c.in_err-tell_reasons.ensures.fails
    c.from_residual-in_err-tell_reasons.ensures.1

pub returns-in_err-tell_reasons-clause-stops : goal.returns-in_err-tell_reasons-clause-stops
returns-in_err-tell_reasons-clause-stops g c =
    let old = c.args.self.now in
    let root = c.explain_listing.new.source in
    let mid = record old { root = root } in
    let kept = keeps_root g.S.Source g.R.Source g.L.Log g.met.S.Source.is_kept g.met.L.Log.is_kept old root c.explain_listing.ensures.keeps
    (ap tree_in c.explain_listing.ensures.same) in
    let reason = c.as_str.result.now in
    let further = map (λ reason. string_bytes reason) c.deref.result.now in
    at_err c.from_residual-in_err-tell_reasons.result (
      reason,
      further,
      front_from g.S.Source g.R.Source g.L.Log (found_unlisted c.args.path.now (reason ∷ further)) old mid c.tell_reasons.new.self kept
          c.in_err-tell_reasons.ensures.stops,
    )

pub returns-in_err-reason-clause-stops : goal.returns-in_err-reason-clause-stops
returns-in_err-reason-clause-stops g c =
    let old = c.args.self.now in
    at_err c.from_residual.result
    ([], [], λ s is r there. front_none (g.L.Log.told old.log) (texts (of_unlisted c.args.path.now ([] ∷ []))))

pub returns-in_err-reason-clause-fails : goal.returns-in_err-reason-clause-fails
returns-in_err-reason-clause-fails g c =
    let old = c.args.self.now in
    let memory : IsErrAnd c.from_residual.result (λ y. y ≡ fault.Memory) = search rules in
    past_memory c.from_residual.result (failures_by g.S.Source g.R.Source g.L.Log old)
    (failures_by g.S.Source g.R.Source g.L.Log (record old { root = c.explain_listing.new.source }))
    (g.R.Source.failed c.explain_listing.new.source, c.explain_listing.ensures.failures, refl) memory

use Rattle.std.proofs.Common.{arith, map, refl, string_bytes, subst, List, String, ◌∙◌}
use Rattle.std.proofs.lemmas.List.{take_all}
use Rattle.std.specs.Global.{Global}
use Rattle.pt_extra.proofs.Keeping.{at_err, front_from, keeps_on, keeps_root, told_from}
use Rattle.pt_extra.proofs.Reasons.{each_front, each_step}
use Rattle.pt_extra.proofs.Telling.{puts_none}
use Rattle.pt_extra.specs.Lines.{Unlisted}
use Rattle.pt_extra.specs.Unlisted.{of_unlisted}
use Rattle.pt_extra.specs.Walk.{Puts, found_one, walk_state}
use Rattle.pt_extra.proofs.walking.Extras.tell_each.Goals as goal

pub returns-in_err-tell_unlisted-clause-keeps : goal.returns-in_err-tell_unlisted-clause-keeps
returns-in_err-tell_unlisted-clause-keeps g c =
    keeps_on g.S.Source g.R.Source g.L.Log g.met.S.Source.keeps_on g.met.R.Source.keeps_on g.met.L.Log.keeps_on _ _ _ c.loop-reason.invariant.keeps
    c.tell_unlisted.ensures.keeps

pub returns-in_err-tell_unlisted-clause-stops : goal.returns-in_err-tell_unlisted-clause-stops
returns-in_err-tell_unlisted-clause-stops g c =
    at_err c.from_residual.result
    (λ s is r there.
    each_front c.args.path.now c.args.reasons.now c.loop-reason.reason-index c.reason-item.result _ c.as_str.result.now
    (walk_state g.L.Log c.args.self.now) (walk_state g.L.Log c.loop-reason.self) (g.L.Log.told c.tell_unlisted.new.self.log) c.loop-reason-test.true
    c.reason-item.is
    c.as_str.ensures.value
    (c.loop-reason.invariant.told s is r there)
    (front_from g.S.Source g.R.Source g.L.Log (found_one (Unlisted c.as_str.result.now c.args.path.now)) c.args.self.now c.loop-reason.self
    c.tell_unlisted.new.self c.loop-reason.invariant.keeps
    c.in_err-tell_unlisted.ensures.stops s is r there))

pub loop-reason-preserved : goal.loop-reason-preserved
loop-reason-preserved g c =
    let so_far = c.loop-reason.invariant in
    record {
      keeps = keeps_on g.S.Source g.R.Source g.L.Log g.met.S.Source.keeps_on g.met.R.Source.keeps_on g.met.L.Log.keeps_on _ _ _ so_far.keeps
          c.tell_unlisted.ensures.keeps;
      failed = c.in_ok-tell_unlisted.ensures.fails ∙ so_far.failed;
      told = λ s is r there.
          each_step c.args.path.now c.args.reasons.now c.loop-reason.reason-index c.reason-item.result _ c.as_str.result.now
          (walk_state g.L.Log c.args.self.now)
          (walk_state g.L.Log c.loop-reason.self) (walk_state g.L.Log c.tell_unlisted.new.self) c.loop-reason-test.true c.reason-item.is
          c.as_str.ensures.value
          (so_far.told s is r there)
          (told_from g.S.Source g.R.Source g.L.Log (found_one (Unlisted c.as_str.result.now c.args.path.now)) c.args.self.now c.loop-reason.self
          c.tell_unlisted.new.self so_far.keeps c.in_ok-tell_unlisted.ensures.told s is r there);
    }

pub loop-reason-init : goal.loop-reason-init
loop-reason-init g c =
    let old = c.args.self.now in
    record {
      keeps = keeps_root g.S.Source g.R.Source g.L.Log g.met.S.Source.is_kept g.met.L.Log.is_kept old old.root (g.met.R.Source.is_kept old.root) refl;
      failed = refl;
      told = λ s is r there. puts_none (walk_state g.L.Log old);
    }

pub returns-clause-told : goal.returns-clause-told
returns-clause-told g c = λ s is r there.
    subst (λ (l : List (String Global)). Puts (of_unlisted c.args.path.now (map (λ reason. string_bytes reason) l)) (walk_state g.L.Log c.args.self.now)
    (walk_state g.L.Log c.loop-reason.self)) (take_all c.loop-reason.reason-index c.args.reasons.now (omega (arith, c.loop-reason-test.false)))
    (c.loop-reason.invariant.told s is r there)

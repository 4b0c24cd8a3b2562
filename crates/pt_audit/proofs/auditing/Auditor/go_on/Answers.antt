use Rattle.std.proofs.Common.{refl, rules}
use Rattle.std.specs.Prelude.{Bool, Err}
use Rattle.pt_audit.proofs.Saying.{blames_told}
use Rattle.pt_audit.proofs.StepPromises.{all_on, fails_after, fails_err, no_step, says_on}
use Rattle.pt_audit.proofs.ToldSteps.{step_told}
use Rattle.pt_audit.proofs.ToldFront.{tell_stops}
use Rattle.pt_audit.proofs.auditing.Auditor.go_on.Goals as goal

pub tell-requires : goal.tell-requires
tell-requires g c = c.in_ok-sight.ensures.made.saw.1

pub returns-in_err-told-clause-keeps : goal.returns-in_err-told-clause-keeps
returns-in_err-told-clause-keeps g c =
    all_on g.met.S.Source.keeps_on g.met.R.Source.keeps_on g.met.L.Log.keeps_on _ _ _ c.in_ok-sight.ensures.keeps c.in_err-told.ensures.keeps

pub returns-clause-keeps : goal.returns-clause-keeps
returns-clause-keeps g c =
    all_on g.met.S.Source.keeps_on g.met.R.Source.keeps_on g.met.L.Log.keeps_on _ _ _ c.in_ok-sight.ensures.keeps c.in_ok-told.ensures.keeps

pub returns-in_err-sight-clause-made : goal.returns-in_err-sight-clause-made
returns-in_err-sight-clause-made g c =
    no_step c.from_residual.result c.in_err-sight.field-0.0 (search rules)
    (fails_err (Err c.in_err-sight.field-0.0) _ refl c.in_err-sight.ensures.made.blamed) c.in_err-sight.ensures.made.stops

pub returns-in_err-told-clause-made : goal.returns-in_err-told-clause-made
returns-in_err-told-clause-made g c =
    let why = c.in_err-told.field-0.0 in
    let seen = c.in_ok-sight.ensures.made in
    let sides = c.in_ok-sight.ensures.keeps.sides in
    let told = c.in_err-told.ensures.told in
    no_step c.from_residual-in_err-told.result why (search rules)
    (record {
      blames = blames_told why _ _ _ _ _ _ _ _ _ seen.blamed.blames.source seen.blamed.blames.root seen.blamed.blames.log told.fails;
      says = says_on {T = Bool} (Err why) seen.saw.0.job sides.source.1 sides.root.1 told.says;
    })
    (λ first it. tell_stops _ _ _ _ first _ _ _ _ _ _ _ seen.keeps.by seen.keeps.counts sides.source.1 sides.root.1 seen.saw.0.order seen.on told.stops it)

pub returns-clause-made : goal.returns-clause-made
returns-clause-made g c =
    let seen = c.in_ok-sight.ensures.made in
    let sides = c.in_ok-sight.ensures.keeps.sides in
    let told = c.in_ok-told.ensures.told in
    record {
      on = λ first it.
          step_told c.in_ok-told.told.more _ _ _ _ _ first _ _ _ _ _ _ _ _ seen.keeps.by seen.keeps.counts sides.source.1 sides.root.1 seen.saw.0.order
          seen.on told.on it;
      by = seen.keeps.by;
      steps = seen.saw.0;
      follows = told.follows;
      ended = told.ended;
      more = told.more;
      blamed = fails_after seen.blamed.blames told.fails;
      stops = tt;
    }

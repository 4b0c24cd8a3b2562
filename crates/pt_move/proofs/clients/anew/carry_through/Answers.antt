use Rattle.std.proofs.Common.{◌∙◌, refl, rules}
use Rattle.pt_state.specs.Outside.{states_of}
use Rattle.pt_move.proofs.Rerun.{again_as, ended_as, told_tree}
use Rattle.pt_move.proofs.clients.anew.carry_through.Goals as goal

pub returns-in-Ok : goal.returns-in-Ok
returns-in-Ok g c s start is _ =
    let at = c.loop in
    let after = c.migrate.new in
    let old = states_of g.S.Source g.D.Dest g.L.Log at.source at.dest at.log in
    let new =
    states_of g.S.Source g.D.Dest g.L.Log after.source after.dest after.log in
    ended_as (g.J.Jobs.job c.args.attempts.jobs) c.in-Some.job s start old new c.in-Ok.field-0 (c.in-Some.ensures.made ∙ at.invariant.same)
    (at.invariant.ends s start is) c.in-Ok.ensures.promises

pub loop-preserved : goal.loop-preserved
loop-preserved g c =
    let at = c.loop in
    let after = c.migrate.new in
    let taken = c.take_staging_away.new.self in
    let old = states_of g.S.Source g.D.Dest g.L.Log at.source at.dest at.log in
    let new =
    states_of g.S.Source g.D.Dest g.L.Log after.source after.dest after.log in
    let later =
    states_of g.S.Source g.D.Dest g.L.Log after.source taken after.log in record {
      same = c.next.ensures.same ∙ at.invariant.same;
      ends =
          λ s start is.
          again_as (g.J.Jobs.job c.args.attempts.jobs) c.in-Some.job s start old new later c.in_default-migrate.field-0 (c.in-Some.ensures.made
          ∙ at.invariant.same) (at.invariant.ends s start is)
          c.in_default-migrate.ensures.promises refl refl (c.take_staging_away.ensures (search rules))
          (told_tree (g.D.Dest.told taken) (λ w told. g.met.D.Dest.is_tree taken w told));
    }

use Rattle.std.proofs.Common.{◌∙◌, arith, refl, sym}
use Rattle.pt_name.specs.declared.identifying.Identification.TheVariants as answer
use Rattle.pt_state.proofs.Turns.{taken_unmet, turned_unmet}
use Rattle.pt_state.specs.declared.state.State.{State}
use Rattle.pt_scan.proofs.HeldTurns.{moved}
use Rattle.pt_scan.proofs.Judged.{identified_here, met_here, passed_object, skips_refused, still_judging}
use Rattle.pt_scan.specs.Judging.{IsIdentified, IsJudging}
use Rattle.pt_scan.proofs.judging.judge_object.Goals as goal

pub pass_over-requires-clause-line : goal.pass_over-requires-clause-line
pass_over-requires-clause-line g c =
    let s = record c.args.state.now { unmet = c.identify.new.unmet } in
    record {
      there = c.requires.judges.there;
      passes = skips_refused s c.args.index c.in-Refused.refusal c.cause_of.result (still_judging c.identify.new.unmet c.requires.judges).object
          (identified_here s c.args.site.now c.as_str-prefix.result.now (answer.Refused c.in-Refused.refusal)
          (sym c.in-Refused.is ∙ c.in_ok-refusal.ensures.says) c.as_str-prefix.ensures.value c.requires.judges.there)
          c.cause_of.ensures;
    }

pub find_place-requires-clause-judges : goal.find_place-requires-clause-judges
find_place-requires-clause-judges g c = still_judging c.identify.new.unmet c.requires.judges

pub returns-in-Refused : goal.returns-in-Refused
returns-in-Refused g c = record {
  turn = taken_unmet c.identify.new.unmet c.pass_over.ensures.turn refl (g.met.O.Io.most _ _ 0 0 0 1 c.pass_over.ensures.turn.few (omega arith) (omega arith))
      (met_here c.args.state.now c.args.site.now c.args.index c.as_str-prefix.result.now c.identify.new.unmet c.requires.judges c.as_str-prefix.ensures.value
      c.in_ok-refusal.ensures.notes);
}

pub returns-in-OtherShare : goal.returns-in-OtherShare
returns-in-OtherShare g c =
    let unmet = c.identify.new.unmet in
    let before = c.args.state.now in
    let after : State = record before { unmet = unmet } in
    let judges : IsJudging after c.args.site.now c.args.index = still_judging unmet c.requires.judges in
    let other : IsIdentified after answer.OtherShare = identified_here after c.args.site.now c.as_str-prefix.result.now answer.OtherShare
    (sym c.in-OtherShare.is ∙ c.in_ok-refusal.ensures.says) c.as_str-prefix.ensures.value c.requires.judges.there in
    record {
      turn = record {
        turn = turned_unmet _ before after unmet _ _ _
            (passed_object after after _ c.args.index judges.object other (moved refl refl refl refl refl refl refl refl));
        few = g.met.O.Io.most _ _ 0 0 0 1 (g.met.O.Io.none _) (omega arith) (omega arith);
        unmet = met_here before c.args.site.now c.args.index c.as_str-prefix.result.now unmet c.requires.judges c.as_str-prefix.ensures.value
            c.in_ok-refusal.ensures.notes;
      };
    }

pub returns-in-Candidate : goal.returns-in-Candidate
returns-in-Candidate g c = record {
  turn = taken_unmet c.identify.new.unmet c.find_place.ensures.turn refl c.find_place.ensures.turn.few
      (met_here c.args.state.now c.args.site.now c.args.index c.as_str-prefix.result.now c.identify.new.unmet c.requires.judges c.as_str-prefix.ensures.value
      c.in_ok-refusal.ensures.notes);
}

use Rattle.std.proofs.Common.{refl, ◌∙◌}
use Rattle.std.proofs.lemmas.Result.{on_err_weaker, on_ok_weaker}
use Rattle.pt_extra.proofs.Keeping.{stops_still}
use Rattle.pt_extra.specs.Lines.{Unlisted}
use Rattle.pt_extra.specs.Walk.{found_one}
use Rattle.pt_extra.proofs.walking.Extras.tell_unlisted.Goals as goal

pub returns-clause-told : goal.returns-clause-told
returns-clause-told g c = on_ok_weaker c.put.result (λ puts s is r there. puts)
    (c.put.ensures.put (Unlisted c.args.reason.now c.args.path.now) (c.as_bytes.ensures.value ∙ c.in_ok-line.ensures) c.with_stray.ensures)

pub returns-clause-stops : goal.returns-clause-stops
returns-clause-stops g c = on_err_weaker c.put.result (λ part s is r there. part)
    (c.put.ensures.part (Unlisted c.args.reason.now c.args.path.now) (c.as_bytes.ensures.value ∙ c.in_ok-line.ensures))

pub returns-in_err-line-clause-stops : goal.returns-in_err-line-clause-stops
returns-in_err-line-clause-stops g c =
    stops_still g.S.Source g.R.Source g.L.Log (found_one (Unlisted c.args.reason.now c.args.path.now)) c.args.self.now c.args.self.now
    c.from_residual.result refl

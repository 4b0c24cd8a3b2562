use Rattle.std.proofs.Common.{ap, cond, refl, subst, sym, true, Bool, List, [], ◌∷◌, ◌≡◌, ◌∙◌}
use Rattle.std.proofs.lemmas.Result.{on_err_weaker, on_ok_weaker}
use Rattle.pt_extra.proofs.Keeping.{stops_still}
use Rattle.pt_extra.proofs.Telling.{puts_none}
use Rattle.pt_extra.specs.Findings.{entry_of}
use Rattle.pt_extra.specs.Lines.{ExtraFinding, Stray, texts}
use Rattle.pt_extra.specs.Walk.{Puts, found_unnamed, walk_state}
use Rattle.pt_name.specs.Share.{tells_at}
use Rattle.pt_tree.specs.Log.{AppendsFront}
use Rattle.pt_extra.proofs.walking.Extras.meet_stray.Goals as goal

pub returns-in_err-tells_of-clause-stops : goal.returns-in_err-tells_of-clause-stops
returns-in_err-tells_of-clause-stops g c =
    stops_still g.S.Source g.R.Source g.L.Log (found_unnamed c.args.path.now) c.args.self.now c.args.self.now c.from_residual.result refl

pub returns-then-not-branch-clause-told : goal.returns-then-not-branch-clause-told
returns-then-not-branch-clause-told g c = λ s is r there.
    let old = c.args.self.now in
    subst (λ (t : Bool). Puts (cond t (Stray c.args.path.now ∷ []) []) (walk_state g.L.Log old) (walk_state g.L.Log old))
    (sym (sym c.in_ok-tells_of.ensures ∙ c.if-not-branch.true)) (puts_none (walk_state g.L.Log old))

pub returns-clause-told : goal.returns-clause-told
returns-clause-told g c =
    let old = c.args.self.now in
    let own : tells_at old.job.share (entry_of c.args.path.now) ≡ true = sym c.in_ok-tells_of.ensures ∙ c.if-not-branch.false in
    on_ok_weaker c.tell_stray.result
    (λ tells s is r there. subst (λ (fs : List ExtraFinding). Puts fs (walk_state g.L.Log old) (walk_state g.L.Log c.tell_stray.new.self))
    (sym (ap (λ (t : Bool). cond t (Stray c.args.path.now ∷ []) []) own)) (tells s is r there))
    c.tell_stray.ensures.told

pub returns-clause-stops : goal.returns-clause-stops
returns-clause-stops g c =
    let old = c.args.self.now in
    let own : tells_at old.job.share (entry_of c.args.path.now) ≡ true = sym c.in_ok-tells_of.ensures ∙ c.if-not-branch.false in
    on_err_weaker c.tell_stray.result
    (λ front s is r there. subst (λ (fs : List ExtraFinding). AppendsFront (g.L.Log.told old.log) (g.L.Log.told c.tell_stray.new.self.log) (texts fs))
    (sym (ap (λ (t : Bool). cond t (Stray c.args.path.now ∷ []) []) own)) (front s is r there))
    c.tell_stray.ensures.stops

use Rattle.std.proofs.Common.{cond, subst, sym, Bool, []}
use Rattle.std.proofs.lemmas.Result.{on_err_weaker, on_ok_weaker}
use Rattle.pt_extra.proofs.Telling.{puts_none}
use Rattle.pt_extra.specs.Findings.{of_unnamed}
use Rattle.pt_extra.specs.Lines.{texts}
use Rattle.pt_extra.specs.Walk.{Puts, against, walk_state}
use Rattle.pt_tree.specs.Log.{AppendsFront}
use Rattle.pt_extra.proofs.walking.Extras.meet_bare.Goals as goal

pub returns-then-is_whole-clause-told : goal.returns-then-is_whole-clause-told
returns-then-is_whole-clause-told g c =
    let old = c.args.self.now in
    on_ok_weaker c.meet_stray.result
    (λ tells s is r there.
    subst (λ (t : Bool). Puts (cond t (of_unnamed (against old s) c.args.path.now) []) (walk_state g.L.Log old) (walk_state g.L.Log c.meet_stray.new.self))
    (sym c.if-is_whole.true) (tells s is r there))
    c.meet_stray.ensures.told

pub returns-then-is_whole-clause-stops : goal.returns-then-is_whole-clause-stops
returns-then-is_whole-clause-stops g c =
    let old = c.args.self.now in
    on_err_weaker c.meet_stray.result
    (λ front s is r there.
    subst (λ (t : Bool). AppendsFront (g.L.Log.told old.log) (g.L.Log.told c.meet_stray.new.self.log)
    (texts (cond t (of_unnamed (against old s) c.args.path.now) [])))
    (sym c.if-is_whole.true) (front s is r there))
    c.meet_stray.ensures.stops

pub returns-clause-told : goal.returns-clause-told
returns-clause-told g c = λ s is r there.
    let old = c.args.self.now in
    subst (λ (t : Bool). Puts (cond t (of_unnamed (against old s) c.args.path.now) []) (walk_state g.L.Log old) (walk_state g.L.Log old))
    (sym c.if-is_whole.false) (puts_none (walk_state g.L.Log old))

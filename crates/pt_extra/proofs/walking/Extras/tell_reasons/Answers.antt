use Rattle.std.proofs.Common.{map, string_bytes, subst, sym, [], ◌∷◌}
use Rattle.std.proofs.lemmas.Result.{on_err_weaker, on_ok_weaker}
use Rattle.pt_extra.proofs.Keeping.{at_err, front_from, keeps_on, told_from}
use Rattle.pt_extra.proofs.Telling.{front_more, front_on, puts_on, texts_on}
use Rattle.pt_extra.specs.Lines.{Unlisted, texts}
use Rattle.pt_extra.specs.Unlisted.{of_unlisted}
use Rattle.pt_extra.specs.Walk.{found_unlisted, walk_state}
use Rattle.pt_tree.specs.Log.{AppendsFront}
use Rattle.pt_extra.proofs.walking.Extras.tell_reasons.Goals as goal

pub returns-clause-told : goal.returns-clause-told
returns-clause-told g c =
    let old = c.args.self.now in
    let mid = c.tell_unlisted.new.self in
    let path = c.args.path.now in
    let one = Unlisted c.args.reason.now path ∷ [] in
    let further = map (λ reason. string_bytes reason) c.args.further.now in
    on_ok_weaker c.tell_each.result
    (λ tells s is r there.
    (puts_on one (of_unlisted path further) (walk_state g.L.Log old) (walk_state g.L.Log mid) (walk_state g.L.Log c.tell_each.new.self)
    (c.in_ok-tell_unlisted.ensures.told s is r there)
    (told_from g.S.Source g.R.Source g.L.Log (found_unlisted path further) old mid c.tell_each.new.self c.tell_unlisted.ensures.keeps tells s is r there)))
    c.tell_each.ensures.told

pub returns-clause-stops : goal.returns-clause-stops
returns-clause-stops g c =
    let old = c.args.self.now in
    let mid = c.tell_unlisted.new.self in
    let path = c.args.path.now in
    let one = Unlisted c.args.reason.now path ∷ [] in
    let further = map (λ reason. string_bytes reason) c.args.further.now in
    on_err_weaker c.tell_each.result
    (λ front s is r there.
    (subst (AppendsFront (g.L.Log.told old.log) (g.L.Log.told c.tell_each.new.self.log)) (sym (texts_on one (of_unlisted path further)))
    (front_on (g.L.Log.told old.log) (g.L.Log.told mid.log) (g.L.Log.told c.tell_each.new.self.log) (texts one) (texts (of_unlisted path further))
    (c.in_ok-tell_unlisted.ensures.told s is r there).held
    (front_from g.S.Source g.R.Source g.L.Log (found_unlisted path further) old mid c.tell_each.new.self c.tell_unlisted.ensures.keeps front s is r there))))
    c.tell_each.ensures.stops

pub returns-clause-keeps : goal.returns-clause-keeps
returns-clause-keeps g c =
    keeps_on g.S.Source g.R.Source g.L.Log g.met.S.Source.keeps_on g.met.R.Source.keeps_on g.met.L.Log.keeps_on _ _ _ c.tell_unlisted.ensures.keeps
    c.tell_each.ensures.keeps

pub returns-in_err-tell_unlisted-clause-stops : goal.returns-in_err-tell_unlisted-clause-stops
returns-in_err-tell_unlisted-clause-stops g c =
    let old = c.args.self.now in
    let path = c.args.path.now in
    let one = Unlisted c.args.reason.now path ∷ [] in
    let further = map (λ reason. string_bytes reason) c.args.further.now in
    at_err c.from_residual.result
    (λ s is r there.
    (subst (AppendsFront (g.L.Log.told old.log) (g.L.Log.told c.tell_unlisted.new.self.log)) (sym (texts_on one (of_unlisted path further)))
    (front_more (g.L.Log.told old.log) (g.L.Log.told c.tell_unlisted.new.self.log) (texts one) (texts (of_unlisted path further))
    (c.in_err-tell_unlisted.ensures.stops s is r there))))

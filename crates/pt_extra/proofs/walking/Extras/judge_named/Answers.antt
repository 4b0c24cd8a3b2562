use Rattle.std.proofs.Common.{ap, false, refl, rules, subst, sym, true, List, ℕ, [], ◌∷◌, ◌≡◌, ◌∙◌}
use Rattle.std.proofs.lemmas.Result.{on_err_weaker, on_ok_weaker}
use Rattle.std.specs.Prelude.{Option}
use Rattle.std.specs.String.{string_bytes}
use Rattle.pt_extra.proofs.Keeping.{front_from, stops_still, told_from}
use Rattle.pt_extra.proofs.Objects.{chosen_as, of_held, of_misplaced, of_other, of_unheld}
use Rattle.pt_extra.proofs.Telling.{puts_none}
use Rattle.pt_extra.specs.Findings.{entry_of, is_held}
use Rattle.pt_extra.specs.Lines.{Extra, ExtraFinding, texts}
use Rattle.pt_extra.specs.Walk.{Puts, WalkState, against, found_named, found_one, walk_state}
use Rattle.pt_name.specs.Place.{place_of}
use Rattle.pt_name.specs.Share.{takes}
use Rattle.pt_tree.specs.Log.{AppendsFront}
use Rattle.pt_tree.specs.Path.{same_path}
use Rattle.pt_extra.proofs.walking.Extras.judge_named.Goals as goal

pub returns-then-ne-clause-told : goal.returns-then-ne-clause-told
returns-then-ne-clause-told g c =
    let chosen : takes c.args.self.now.job.share (entry_of c.args.path.now) (string_bytes c.args.id) ≡ true =
    chosen_as _ _ _ _ _ _ c.as_str.ensures.value c.in_ok-takes.ensures c.if-not-branch.false in
    let apart : same_path c.args.path.now (place_of c.args.self.now.job.layout (string_bytes c.args.id)) ≡ false = search rules in
    on_ok_weaker c.tell_stray.result
    (λ tells s is r there. subst (λ (fs : List ExtraFinding). Puts fs (walk_state g.L.Log c.args.self.now) (walk_state g.L.Log c.tell_stray.new.self))
    (sym (of_misplaced (against c.args.self.now s) c.args.path.now (string_bytes c.args.id) chosen apart)) (tells s is r there))
    c.tell_stray.ensures.told

pub returns-then-ne-clause-stops : goal.returns-then-ne-clause-stops
returns-then-ne-clause-stops g c =
    let old = c.args.self.now in
    let chosen : takes old.job.share (entry_of c.args.path.now) (string_bytes c.args.id) ≡ true =
    chosen_as _ _ _ _ _ _ c.as_str.ensures.value c.in_ok-takes.ensures c.if-not-branch.false in
    let apart : same_path c.args.path.now (place_of old.job.layout (string_bytes c.args.id)) ≡ false = search rules in
    on_err_weaker c.tell_stray.result
    (λ front s is r there. subst (λ (fs : List ExtraFinding). AppendsFront (g.L.Log.told old.log) (g.L.Log.told c.tell_stray.new.self.log) (texts fs))
    (sym (of_misplaced (against old s) c.args.path.now (string_bytes c.args.id) chosen apart)) (front s is r there))
    c.tell_stray.ensures.stops

pub returns-clause-told : goal.returns-clause-told
returns-clause-told g c =
    let old = c.args.self.now in
    let id = string_bytes c.args.id in
    let placed : same_path c.args.path.now (place_of old.job.layout id) ≡ true = search rules in
    let chosen : takes old.job.share (entry_of c.args.path.now) id ≡ true =
    chosen_as _ _ _ _ _ _ c.as_str.ensures.value c.in_ok-takes.ensures c.if-not-branch.false in
    let still : walk_state g.L.Log c.store_has.new.self ≡ walk_state g.L.Log old = ap (walk_state g.L.Log) c.store_has.ensures.rest in
    on_ok_weaker c.tell_extra.result
    (λ tells s is r there.
    subst (λ (fs : List ExtraFinding). Puts fs (walk_state g.L.Log old) (walk_state g.L.Log c.tell_extra.new.self))
    (sym (of_unheld (against old s) c.args.path.now id chosen placed
    (sym c.if-branch.false ∙ c.in_ok-store_has.ensures.has s is ∙ ap (is_held (against old s)) c.as_str-2.ensures.value)))
    (subst (λ (a : WalkState). Puts (Extra id c.args.path.now ∷ []) a (walk_state g.L.Log c.tell_extra.new.self)) still
    (told_from g.S.Source g.R.Source g.L.Log (λ x t. Extra id c.args.path.now ∷ []) old c.store_has.new.self c.tell_extra.new.self c.store_has.ensures.keeps
    tells s is r there)))
    c.tell_extra.ensures.told

pub returns-clause-stops : goal.returns-clause-stops
returns-clause-stops g c =
    let old = c.args.self.now in
    let id = string_bytes c.args.id in
    let placed : same_path c.args.path.now (place_of old.job.layout id) ≡ true = search rules in
    let chosen : takes old.job.share (entry_of c.args.path.now) id ≡ true =
    chosen_as _ _ _ _ _ _ c.as_str.ensures.value c.in_ok-takes.ensures c.if-not-branch.false in
    let still = ap (λ w. g.L.Log.told w.log) c.store_has.ensures.rest in
    on_err_weaker c.tell_extra.result
    (λ front s is r there.
    subst (λ (fs : List ExtraFinding). AppendsFront (g.L.Log.told old.log) (g.L.Log.told c.tell_extra.new.self.log) (texts fs))
    (sym (of_unheld (against old s) c.args.path.now id chosen placed
    (sym c.if-branch.false ∙ c.in_ok-store_has.ensures.has s is ∙ ap (is_held (against old s)) c.as_str-2.ensures.value)))
    (subst (λ (l : Option (List ℕ)). AppendsFront l (g.L.Log.told c.tell_extra.new.self.log) (texts (Extra id c.args.path.now ∷ []))) still
    (front_from g.S.Source g.R.Source g.L.Log (found_one (Extra id c.args.path.now)) old c.store_has.new.self c.tell_extra.new.self c.store_has.ensures.keeps
    front s is r there)))
    c.tell_extra.ensures.stops

pub returns-in_err-place-clause-stops : goal.returns-in_err-place-clause-stops
returns-in_err-place-clause-stops g c =
    stops_still g.S.Source g.R.Source g.L.Log (found_named c.args.path.now (string_bytes c.args.id)) c.args.self.now c.args.self.now
    c.from_residual-in_err-place.result refl

pub returns-in_err-takes-clause-stops : goal.returns-in_err-takes-clause-stops
returns-in_err-takes-clause-stops g c =
    stops_still g.S.Source g.R.Source g.L.Log (found_named c.args.path.now (string_bytes c.args.id)) c.args.self.now c.args.self.now c.from_residual.result refl

pub returns-then-not-branch-clause-told : goal.returns-then-not-branch-clause-told
returns-then-not-branch-clause-told g c = λ s is r there.
    let old = c.args.self.now in
    subst (λ (fs : List ExtraFinding). Puts fs (walk_state g.L.Log old) (walk_state g.L.Log old))
    (sym (of_other (against old s) c.args.path.now (string_bytes c.args.id)
    (chosen_as _ _ _ _ _ _ c.as_str.ensures.value c.in_ok-takes.ensures c.if-not-branch.true))) (puts_none (walk_state g.L.Log old))

pub returns-then-branch-clause-told : goal.returns-then-branch-clause-told
returns-then-branch-clause-told g c = λ s is r there.
    let old = c.args.self.now in
    let id = string_bytes c.args.id in
    let placed : same_path c.args.path.now (place_of old.job.layout id) ≡ true = search rules in
    let chosen : takes old.job.share (entry_of c.args.path.now) id ≡ true =
    chosen_as _ _ _ _ _ _ c.as_str.ensures.value c.in_ok-takes.ensures c.if-not-branch.false in
    let still : walk_state g.L.Log c.store_has.new.self ≡ walk_state g.L.Log old = ap (walk_state g.L.Log) c.store_has.ensures.rest in
    subst (λ (fs : List ExtraFinding). Puts fs (walk_state g.L.Log old) (walk_state g.L.Log c.store_has.new.self))
    (sym (of_held (against old s) c.args.path.now id chosen placed
    (sym c.if-branch.true ∙ c.in_ok-store_has.ensures.has s is ∙ ap (is_held (against old s)) c.as_str-2.ensures.value)))
    (subst (λ (a : WalkState). Puts [] (walk_state g.L.Log old) a) (sym still) (puts_none (walk_state g.L.Log old)))

pub returns-in_err-store_has-clause-stops : goal.returns-in_err-store_has-clause-stops
returns-in_err-store_has-clause-stops g c =
    stops_still g.S.Source g.R.Source g.L.Log (found_named c.args.path.now (string_bytes c.args.id)) c.args.self.now c.store_has.new.self
    c.from_residual-in_err-store_has.result (ap (λ w. g.L.Log.told w.log) c.store_has.ensures.rest)

use Rattle.std.proofs.Common.{ap, refl, rules, sym, subst, List, ℕ, None, Some, ◌≡◌, ◌∙◌}
use Rattle.std.proofs.lemmas.Result.{on_err_weaker, on_ok_weaker}
use Rattle.std.specs.Option.{ForSome, option_map}
use Rattle.pt_tree.specs.Source.{tree_in}
use Rattle.std.specs.Prelude.{Option}
use Rattle.std.specs.String.{string_bytes}
use Rattle.pt_extra.proofs.Keeping.{front_from, keeps_root, stops_still, told_from}
use Rattle.pt_extra.specs.Findings.{of_object, of_unnamed}
use Rattle.pt_extra.specs.Inventories.{id_of}
use Rattle.pt_extra.specs.Lines.{texts}
use Rattle.pt_extra.specs.Walk.{Puts, against, found_named, found_there, found_unnamed, walk_state}
use Rattle.pt_tree.specs.Log.{AppendsFront}
use Rattle.pt_walk.specs.Left.{inside_at}
use Rattle.pt_extra.proofs.walking.Extras.judge.Goals as goal

pub returns-in-Some-clause-told : goal.returns-in-Some-clause-told
returns-in-Some-clause-told g c =
    let old = c.args.self.now in
    let path = c.args.path.now in
    let root = c.identifier_at.new.root in
    let kept = keeps_root g.S.Source g.R.Source g.L.Log g.met.S.Source.is_kept g.met.L.Log.is_kept old root c.identifier_at.ensures.keeps
    c.identifier_at.ensures.tree in
    let id_all : ForSome (tree_in (g.R.Source.told old.root)) (λ tree. option_map string_bytes c.in_ok-id.id
    ≡ id_of (inside_at tree c.args.folder.now)) = search rules in
    on_ok_weaker c.judge_named.result
    (λ tells s is r there.
    let id_is : Some (string_bytes c.in-Some.id) ≡ id_of (inside_at r c.args.folder.now) =
    ap (option_map string_bytes) (sym c.in-Some.is) ∙ id_all r there in
    subst (λ (o : Option (List ℕ)). Puts (of_object (against old s) path o) (walk_state g.L.Log old) (walk_state g.L.Log c.judge_named.new.self)) id_is
    (told_from g.S.Source g.R.Source g.L.Log (λ x t. of_object x path (Some (string_bytes c.in-Some.id))) old (record old { root = root })
    c.judge_named.new.self kept tells s is r there))
    c.judge_named.ensures.told

pub returns-in-None-clause-told : goal.returns-in-None-clause-told
returns-in-None-clause-told g c =
    let old = c.args.self.now in
    let path = c.args.path.now in
    let root = c.identifier_at.new.root in
    let kept = keeps_root g.S.Source g.R.Source g.L.Log g.met.S.Source.is_kept g.met.L.Log.is_kept old root c.identifier_at.ensures.keeps
    c.identifier_at.ensures.tree in
    let id_all : ForSome (tree_in (g.R.Source.told old.root)) (λ tree. option_map string_bytes c.in_ok-id.id
    ≡ id_of (inside_at tree c.args.folder.now)) = search rules in
    on_ok_weaker c.meet_stray.result
    (λ tells s is r there.
    let id_is : None ≡ id_of (inside_at r c.args.folder.now) = ap (option_map string_bytes) (sym c.in-None.is) ∙ id_all r there in
    subst (λ (o : Option (List ℕ)). Puts (of_object (against old s) path o) (walk_state g.L.Log old) (walk_state g.L.Log c.meet_stray.new.self)) id_is
    (told_from g.S.Source g.R.Source g.L.Log (λ x t. of_unnamed x path) old (record old { root = root }) c.meet_stray.new.self kept tells s is r there))
    c.meet_stray.ensures.told

pub returns-in_err-id-clause-stops : goal.returns-in_err-id-clause-stops
returns-in_err-id-clause-stops g c =
    stops_still g.S.Source g.R.Source g.L.Log (found_there c.args.path.now c.args.folder.now) c.args.self.now
    (record c.args.self.now { root = c.identifier_at.new.root }) c.from_residual.result refl

pub returns-in-Some-clause-stops : goal.returns-in-Some-clause-stops
returns-in-Some-clause-stops g c =
    let old = c.args.self.now in
    let path = c.args.path.now in
    let root = c.identifier_at.new.root in
    let kept = keeps_root g.S.Source g.R.Source g.L.Log g.met.S.Source.is_kept g.met.L.Log.is_kept old root c.identifier_at.ensures.keeps
    c.identifier_at.ensures.tree in
    let id_all : ForSome (tree_in (g.R.Source.told old.root)) (λ tree. option_map string_bytes c.in_ok-id.id
    ≡ id_of (inside_at tree c.args.folder.now)) = search rules in
    on_err_weaker c.judge_named.result
    (λ front s is r there.
    let id_is : Some (string_bytes c.in-Some.id) ≡ id_of (inside_at r c.args.folder.now) =
    ap (option_map string_bytes) (sym c.in-Some.is) ∙ id_all r there in
    subst (λ (o : Option (List ℕ)). AppendsFront (g.L.Log.told old.log) (g.L.Log.told c.judge_named.new.self.log) (texts (of_object (against old s) path o)))
    id_is
    (front_from g.S.Source g.R.Source g.L.Log (found_named path (string_bytes c.in-Some.id)) old (record old { root = root })
    c.judge_named.new.self kept front s is r there))
    c.judge_named.ensures.stops

pub returns-in-None-clause-stops : goal.returns-in-None-clause-stops
returns-in-None-clause-stops g c =
    let old = c.args.self.now in
    let path = c.args.path.now in
    let root = c.identifier_at.new.root in
    let kept = keeps_root g.S.Source g.R.Source g.L.Log g.met.S.Source.is_kept g.met.L.Log.is_kept old root c.identifier_at.ensures.keeps
    c.identifier_at.ensures.tree in
    let id_all : ForSome (tree_in (g.R.Source.told old.root)) (λ tree. option_map string_bytes c.in_ok-id.id
    ≡ id_of (inside_at tree c.args.folder.now)) = search rules in
    on_err_weaker c.meet_stray.result
    (λ front s is r there.
    let id_is : None ≡ id_of (inside_at r c.args.folder.now) = ap (option_map string_bytes) (sym c.in-None.is) ∙ id_all r there in
    subst (λ (o : Option (List ℕ)). AppendsFront (g.L.Log.told old.log) (g.L.Log.told c.meet_stray.new.self.log) (texts (of_object (against old s) path o)))
    id_is
    (front_from g.S.Source g.R.Source g.L.Log (found_unnamed path) old (record old { root = root }) c.meet_stray.new.self kept front s is r there))
    c.meet_stray.ensures.stops

use Rattle.std.proofs.Common.{rules, ◌≡◌, ◌==◌, ◌+◌, sym, ◌∙◌}
use Rattle.std.specs.Prelude.{Some, None}
use Rattle.std.specs.List.{position}
use Rattle.std.proofs.lemmas.List.{take_rest}
use Rattle.std.proofs.lemmas.Result.{IfErr-weaker, on_ok_weaker}
use Rattle.pt_tree.specs.Pieces.{IsRefusal, pieces}
use Rattle.pt_tree.proofs.Cut.{added_last, added_more, refused_first, refused_last, refused_rest, says_err}
use Rattle.pt_tree.proofs.pieces.+add_pieces.Goals as goal

pub returns-in_err-add_piece-in-Some-clause-refused : goal.returns-in_err-add_piece-in-Some-clause-refused
returns-in_err-add_piece-in-Some-clause-refused t c =
    let found : position (λ b. b == 47) c.args.text.now ≡ Some c.in-Some.end = sym c.slash_at.ensures ∙ c.in-Some.is in
    says_err c.from_residual.result c.in_err-add_piece-in-Some.field-0.0 (IsRefusal (pieces c.args.text.now)) (search rules)
    (refused_first c.args.text.now c.in-Some.end _ found c.in_err-add_piece-in-Some.ensures.refused)

pub returns-in_ok-add_piece-in-Some-clause-added : goal.returns-in_ok-add_piece-in-Some-clause-added
returns-in_ok-add_piece-in-Some-clause-added t c =
    let found : position (λ b. b == 47) c.args.text.now ≡ Some c.in-Some.end = sym c.slash_at.ensures ∙ c.in-Some.is in
    on_ok_weaker c.add_pieces.result (added_more c.args.path.now c.add_piece.new.path c.add_pieces.new.path c.args.text.now _ c.in-Some.end found
    (take_rest c.args.text.now (c.in-Some.end + 1)) c.in_ok-add_piece-in-Some.ensures.added) c.add_pieces.ensures.added

pub returns-in_ok-add_piece-in-Some-clause-refused : goal.returns-in_ok-add_piece-in-Some-clause-refused
returns-in_ok-add_piece-in-Some-clause-refused t c =
    let found : position (λ b. b == 47) c.args.text.now ≡ Some c.in-Some.end = sym c.slash_at.ensures ∙ c.in-Some.is in
    IfErr-weaker c.add_pieces.result _ _ (λ e. refused_rest c.args.text.now _ c.in-Some.end e found (take_rest c.args.text.now (c.in-Some.end + 1))
    c.in_ok-add_piece-in-Some.ensures.named) c.add_pieces.ensures.refused

pub returns-in-None-clause-added : goal.returns-in-None-clause-added
returns-in-None-clause-added t c =
    let none : position (λ b. b == 47) c.args.text.now ≡ None = sym c.slash_at.ensures ∙ c.in-None.is in
    on_ok_weaker c.add_piece-in-None.result (added_last c.args.path.now c.add_piece-in-None.new.path c.args.text.now none) c.add_piece-in-None.ensures.added

pub returns-in-None-clause-refused : goal.returns-in-None-clause-refused
returns-in-None-clause-refused t c =
    let none : position (λ b. b == 47) c.args.text.now ≡ None = sym c.slash_at.ensures ∙ c.in-None.is in
    IfErr-weaker c.add_piece-in-None.result _ _ (λ e. refused_last c.args.text.now e none) c.add_piece-in-None.ensures.refused

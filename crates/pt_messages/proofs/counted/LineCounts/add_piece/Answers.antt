use Rattle.std.proofs.Common.{◌∙◌, ap, cond, sym}
use Rattle.std.proofs.Common.{Bool, List, ℕ}
use Rattle.std.proofs.lemmas.Str.{is_utf8-from_IsUtf8}
use Rattle.pt_messages.proofs.Counting.{not_utf8}
use Rattle.pt_messages.specs.LineCounts.{with_line}
use Rattle.pt_messages.proofs.counted.LineCounts.add_piece.Goals as goal

pub returns-in-Ok : goal.returns-in-Ok
returns-in-Ok c =
    c.add.ensures ∙ ap (λ (line : List ℕ). with_line line c.args.self.now) c.in-Ok.ensures.cases.0
    ∙ sym (ap (λ (b : Bool). cond b (with_line c.args.piece.now c.args.self.now) c.args.self.now) (is_utf8-from_IsUtf8 c.args.piece.now c.in-Ok.ensures.cases.1))

pub returns-in-Err : goal.returns-in-Err
returns-in-Err c =
    sym (ap (λ (b : Bool). cond b (with_line c.args.piece.now c.args.self.now) c.args.self.now) (not_utf8 c.args.piece.now c.in-Err.ensures.cases.0))

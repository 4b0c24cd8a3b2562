use Rattle.std.proofs.Common.{◌≡◌, arith, false, sym}
use Rattle.std.proofs.lemmas.Bool.Decides.{nat_tests}
use Rattle.std.specs.Prelude.{◌==◌}
use Rattle.pt_messages.proofs.shown.piece_of.Goals as goal
use Rattle.pt_messages.specs.Escaped.{is_shown_so}

pub returns : goal.returns
returns c =
    let other : (c.args.c == 92) ≡ false = grind (arith, nat_tests) in
    let hidden : is_shown_so c.args.c c.args.is_inner ≡ false = sym c.if-is_shown_so.ensures in
    rw (other, hidden) c.code_text.ensures

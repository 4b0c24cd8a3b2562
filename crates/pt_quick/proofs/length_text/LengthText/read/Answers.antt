use Rattle.std.proofs.Common.{◌≡◌, ◌-◌, ◌+◌, ◌++◌, ◌∙◌, arith, drop, length, subst, take}
use Rattle.std.proofs.lemmas.List.{drop_min, take_rest}
use Rattle.pt_quick.proofs.Pieces.{piece}
use Rattle.pt_quick.proofs.length_text.LengthText.read.Goals as goal

pub returns-clause-given : goal.returns-clause-given
returns-clause-given c =
    let text = c.as_slice.result.now in
    let place = c.args.self.now.place in
    let rest = take (length text - c.min.result) (drop c.min.result text) in
    let at : drop c.min.result text ≡ drop place text = rw (c.min.ensures, c.len.ensures.value, c.as_slice.ensures.value) (drop_min place _) in
    let same : rest ≡ drop place text = take_rest text c.min.result ∙ at in
    subst (λ t. drop place t ≡ take c.min-count.result (c.copy_from_slice.new.self ++ drop c.min-count.result c.args.buffer.now) ++ drop (place + c.min-count.result) t)
    c.as_slice.ensures.value
    (piece text rest c.copy_from_slice.new.self c.args.buffer.now place c.min-count.result same c.copy_from_slice.ensures.after (omega (arith, c.min-count.ensures)))

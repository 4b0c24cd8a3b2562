use Rattle.std.proofs.Common.{arith, ap, ◌∙◌, ◌≡◌, ◌==◌, ◌++◌, false, length, min, sym, take}
use Rattle.std.proofs.lemmas.List.{take_all}
use Rattle.pt_folder.specs.Settings.{greatest_length}
use Rattle.pt_folder.proofs.Slashes.{slashed, slashed_text}
use Rattle.pt_folder.proofs.Texts.{not_zero}
use Rattle.pt_folder.proofs.folder.text_len.Goals as goal

pub returns : goal.returns
returns c =
    let folder = c.args.folder.now in
    let names = c.names-name-items.result.now in
    let whole : take c.loop-name.name-index names ≡ c.args.path.now = take_all _ names (omega arith) ∙ c.names-name-items.ensures in
    let some : (length c.args.path.now == 0) ≡ false = sym c.is_empty.ensures ∙ c.if-is_empty.false in
    c.loop-name.invariant ∙ ap (λ p. min (length (folder ++ slashed p)) greatest_length) whole
    ∙ ap (λ text. min (length text) greatest_length) (slashed_text folder c.args.path.now (not_zero _ some))

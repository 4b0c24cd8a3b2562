use Rattle.std.proofs.Common.{arith, lit<, ap, ◌∙◌, ◌≡◌, ◌==◌, ◌++◌, ◌∷◌, [], false, length, string_bytes, sym, take, true}
use Rattle.std.proofs.lemmas.List.{take_all}
use Rattle.pt_folder.proofs.Slashes.{slashed, slashed_text, slashed_top}
use Rattle.pt_folder.proofs.Texts.{not_zero, zero_is}
use Rattle.pt_folder.proofs.folder.kept_text.Goals as goal
use Rattle.pt_folder.proofs.folder.kept_text.Goals.{then-is_empty+in_ok-push-2, else-is_empty}

pub returns : goal.returns
returns c =
    let folder = c.args.folder.now in
    let path = c.args.path.now in
    let names = c.names-name-items.result.now in
    let whole : take c.loop-name.name-index names ≡ path = take_all _ names (omega arith) ∙ c.names-name-items.ensures in
    let so_far : string_bytes c.loop-name.text ≡ folder ++ slashed path = c.loop-name.invariant ∙ ap (λ p. folder ++ slashed p) whole in
    elim c.if-is_empty.branch [
      | then-is_empty+in_ok-push-2 w ↦
          let top : (length path == 0) ≡ true = sym c.is_empty.ensures ∙ w.if-is_empty.true in
          ap string_bytes w.text-is ∙ w.in_ok-push-2.ensures.bytes ∙ ap (λ l. string_bytes c.loop-name.text ++ l) (w.in_ok-push-2.ensures.ascii (lit< tt))
          ∙ ap (λ l. l ++ 47 ∷ []) so_far ∙ slashed_top folder path (zero_is _ top)
      | else-is_empty w ↦
          let below : (length path == 0) ≡ false = sym c.is_empty.ensures ∙ w.if-is_empty.false in
          ap string_bytes w.text-is ∙ so_far ∙ slashed_text folder path (not_zero _ below)
    ]

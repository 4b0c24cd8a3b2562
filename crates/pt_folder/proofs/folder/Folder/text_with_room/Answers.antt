use Rattle.pt_folder.proofs.Texts.{never_device, not_zero, zero_is}
use Rattle.std.proofs.Common.{◌≡◌, ◌==◌, ◌∙◌, length, refl, sym, true, false}
use Rattle.pt_folder.proofs.folder.Folder.text_with_room.Goals as goal

pub returns-then-is_empty-clause-empty : goal.returns-then-is_empty-clause-empty
returns-then-is_empty-clause-empty c =
    let none : (length c.args.self.now.path.now == 0) ≡ true = sym c.is_empty.ensures ∙ c.if-is_empty.true in
    (λ _. zero_is _ none, λ _. refl)

pub returns-in_err-path_text-clause-empty : goal.returns-in_err-path_text-clause-empty
returns-in_err-path_text-clause-empty c =
    let some : (length c.args.self.now.path.now == 0) ≡ false = sym c.is_empty.ensures ∙ c.if-is_empty.false in
    never_device c.from_residual.result (length c.args.self.now.path.now) c.from_residual.ensures.1 (not_zero _ some)

pub returns-clause-empty : goal.returns-clause-empty
returns-clause-empty c =
    let some : (length c.args.self.now.path.now == 0) ≡ false = sym c.is_empty.ensures ∙ c.if-is_empty.false in
    (λ device. absurd (cc), λ none. absurd (not_zero _ some none))

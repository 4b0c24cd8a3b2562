use Rattle.std.proofs.Common.{sym, ◌∙◌}
use Rattle.pt_compare.specs.Described.{texts_view}
use Rattle.pt_compare.proofs.Described.{given_err, given_ok, not_created, not_empty}
use Rattle.pt_compare.proofs.inventories.meta_of.Goals as goal

pub returns-in-Ok : goal.returns-in-Ok
returns-in-Ok c = given_ok _ (texts_view c.args.texts.now) c.in-Ok.meta c.in-Ok.ensures

pub returns-in-Err-Created : goal.returns-in-Err-Created
returns-in-Err-Created c = given_err _ (texts_view c.args.texts.now) _ _ (λ is. not_created (sym c.in-Err-Created.field-0-is ∙ is)) c.in-Err-Created.ensures

pub returns-in-Err-EmptyName : goal.returns-in-Err-EmptyName
returns-in-Err-EmptyName c = given_err _ (texts_view c.args.texts.now) _ _ (λ is. not_empty (sym c.in-Err-EmptyName.field-0-is ∙ is)) c.in-Err-EmptyName.ensures

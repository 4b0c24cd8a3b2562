use Rattle.pt_compare.specs.Described.{texts_view}
use Rattle.pt_compare.proofs.Described.{all_given}
use Rattle.pt_compare.proofs.inventories.meta_by_text.Goals as goal

pub returns-in-Some-texts_of : goal.returns-in-Some-texts_of
returns-in-Some-texts_of c = all_given (texts_view c.in-Some-texts_of.texts) c.meta_of.result c.meta_of.ensures

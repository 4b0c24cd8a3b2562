use Rattle.pt_compare.specs.Found.{texts_of_object}
use Rattle.pt_compare.proofs.Described.{tells_by_json, tells_made, tells_unmade}
use Rattle.pt_compare.proofs.inventories.is_made.Goals as goal

pub returns-then-branch : goal.returns-then-branch
returns-then-branch c = tells_made (texts_of_object c.args.object.now) c.args.stands.now c.in-Some.meta c.in_ok-is_text.field-0 c.utf8.stands
    (rw c.in-Some.is at c.in_ok-meta.ensures) c.if-branch.true c.in_ok-is_text.ensures

pub returns-in_default-2 : goal.returns-in_default-2
returns-in_default-2 c = tells_unmade c.args.object.now.id.now c.args.object.now.rows.now c.args.object.now.algorithm c.args.stands.now
    (rw c.in_default-2.is at c.in_ok-meta-2.ensures)

pub returns : goal.returns
returns c = tells_by_json c.args.object.now.id.now c.args.object.now.rows.now c.args.object.now.algorithm c.args.stands.now c.in-Some-2.meta
    c.is_text-2.result c.utf8.stands (rw c.in-Some-2.is at c.in_ok-meta-2.ensures) c.is_text-2.ensures

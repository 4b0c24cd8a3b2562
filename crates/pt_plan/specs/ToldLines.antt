-- The line of an object, from what is told of it.
use Rattle.pt_plan.specs.Lines.{Done, Line}
use Rattle.pt_plan.specs.declared.lines.ToldObject.{ToldObject}

-- it was carried
abbrev pub done_of : ToldObject → Line
done_of told = Done told.at told.bytes told.empty told.files told.id.now told.to.now

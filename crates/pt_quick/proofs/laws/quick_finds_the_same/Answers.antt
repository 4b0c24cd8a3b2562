use Rattle.pt_quick.proofs.SeenObject.{quick_finds_the_same}
use Rattle.pt_quick.proofs.laws.quick_finds_the_same.Goals as goal

pub returns : goal.returns
returns c = quick_finds_the_same

-- What a mover is made of: a further field, which might hold content or text, would have to stand here.
use Rattle.pt_move.specs.Running.{Running}
use Rattle.pt_move.specs.declared.mover.Mover.TheInside.{Inside}

-- the mover that is seen so: its phase and its state, and nothing else
abbrev pub mover_of : Running → Inside
mover_of r = record { phase = r.phase; state = r.state }

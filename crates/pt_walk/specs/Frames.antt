-- What a trail is made of. No clause sees its field: a further one, which might hold content or text, would have to stand here.
use Rattle.std.specs.Global.{Vec}
use Rattle.pt_walk.specs.declared.frame.Frame.{Frame}
use Rattle.pt_walk.specs.declared.trail.Trail.TheInside.{Inside}

-- frames, and nothing else
abbrev pub trail_of_all : Vec Frame → Inside
trail_of_all frames = record { frames = frames }

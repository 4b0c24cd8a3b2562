-- Where a path leads.
use Rattle.std.specs.Global.{Global}
use Rattle.std.specs.declared.path.PathBuf.{PathBuf}

-- a path from the top
abbrev pub Place : Type 0
Place = PathBuf Global

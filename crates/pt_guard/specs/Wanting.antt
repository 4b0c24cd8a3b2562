-- Want of memory of the system.
use Rattle.std.specs.Prelude.{◌≡◌}
use Rattle.std.specs.IoError.{error_kind}
use Rattle.std.specs.declared.io.Error.{Error}
use Rattle.std.specs.declared.io.ErrorKind.TheVariants.{OutOfMemory}

-- the system had no memory for what it was asked
abbrev pub IsWanting : Error → Type 0
IsWanting error = error_kind error ≡ OutOfMemory

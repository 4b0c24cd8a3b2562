-- The calls of a machine that lends what runs are made over.
use Rattle.std.specs.Prelude.{ℕ, List, Option, Result}
use Rattle.std.specs.declared.io.Error.{Error}

-- a call of `Host`, with what it comes to: of a machine whose output's file is one of these, and which lends one of those
pub data HostCall (F G : Type 0) : Type 0 where
  -- the file that the output goes to is opened once more; nothing where it goes to what isn't a file
  OpenOutput : (file : Result (Option F) Error) → HostCall F G
  -- what a run is made over is lent
  Lend : (host_io : G) → HostCall F G
  -- it is taken back, as the run left it
  TakeBack : (host_io : G) → HostCall F G
  -- a file is made at a path with this text, where nothing stands
  MakeFile : (path text : List ℕ) → (made : Result (Unit {0}) Error) → HostCall F G
  -- the file at a path is renamed to another, and replaces what stands there
  MoveFile : (from to : List ℕ) → (moved : Result (Unit {0}) Error) → HostCall F G
  -- standard error is told a text, as it is
  Tell : (text : List ℕ) → HostCall F G

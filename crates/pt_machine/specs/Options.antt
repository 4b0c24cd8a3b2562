-- How files are opened.
use Rattle.std.specs.Prelude.{true}
use Rattle.std.specs.Fs.{new_options, with_append, with_create_new, with_read}
use Rattle.std.specs.declared.fs.OpenOptions.{OpenOptions}

-- how a file is opened for reading
abbrev pub for_reading : OpenOptions
for_reading = with_read new_options true

-- how a file is made: each write goes to its end, and only where nothing stands
abbrev pub for_making : OpenOptions
for_making = with_create_new (with_append new_options true) true

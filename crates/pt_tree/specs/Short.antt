-- The bytes of a short text: so many of the array, behind the slash.
use Rattle.std.specs.Prelude.{ℕ, List, drop, take}
use Rattle.pt_tree.specs.declared.short.Short.{Short}

-- the bytes of a short text
abbrev pub short_bytes : Short → List ℕ
short_bytes s = take s.len (drop 1 s.bytes)

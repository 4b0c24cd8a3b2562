-- Slashes of paths, and how deep a path leads below a folder.
use Rattle.std.specs.Prelude.{◌==◌, ◌-◌, ℕ, Bool, List, count_by, nat_lt}

-- how many slashes a path has
abbrev pub slashes_in : List ℕ → ℕ
slashes_in path = count_by (λ byte. byte == 47) path

-- whether it has more than this
abbrev pub is_past : ℕ → List ℕ → Bool
is_past slashes path = nat_lt slashes (slashes_in path)

-- how many names the path of an entry of a folder has at most that has no more
abbrev pub depth_below : ℕ → List ℕ → ℕ
depth_below slashes folder = slashes - slashes_in folder

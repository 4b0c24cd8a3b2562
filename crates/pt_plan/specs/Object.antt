-- An object that is being carried.
use Rattle.std.specs.Prelude.{ℕ, ◌-◌, cond}
use Rattle.pt_plan.specs.declared.object.Object.{Object}

-- how many names lead to it, of the path of a file of it, from below the pairtree's directory
abbrev pub names_before : Object → ℕ
names_before object = cond object.gathered (object.site - 1) object.site

-- When a memory device fails: after so many more calls, if it has a fuse.
use Rattle.std.specs.Prelude.{ℕ, Bool, false, ◌+◌, ◌-◌, ◌==◌, cond, is_some, min, Option, Result, Ok, Err}
use Rattle.std.specs.Option.{option_map, option_map_or}
use Rattle.pt_tree.specs.declared.faults.TreeFault.{TreeFault}
use Rattle.pt_tree.specs.declared.faults.TreeFault.TheVariants.{Device}
use Rattle.pt_memory.specs.declared.fuse.Fuse.{Fuse}
use Rattle.pt_tree.specs.Failures.{greatest_count}

-- calls are counted down
abbrev pub has_fuse : Fuse → Bool
has_fuse f = is_some f.left

-- the next call fails
abbrev pub is_blown : Fuse → Bool
is_blown f = option_map_or (λ left. left == 0) f.left false

-- one failure more
abbrev pub one_more : ℕ → ℕ
one_more count = min (count + 1) greatest_count

-- a failure is counted
abbrev pub after_failure : Fuse → Fuse
after_failure f = record { left = f.left; failures = one_more f.failures }

-- a call was made: it used the fuse up by one, or failed
abbrev pub after_call : Fuse → Fuse
after_call f = cond (is_blown f) (after_failure f)
    (record { left = option_map (λ left. left - 1) f.left; failures = f.failures })

-- what the fuse answers
abbrev pub fuse_answer : Fuse → Result (Unit {0}) TreeFault
fuse_answer f = cond (is_blown f) (Err Device) (Ok tt)

-- with another fuse
abbrev pub with_fuse : Option ℕ → Fuse → Fuse
with_fuse left f = record { left = left; failures = f.failures }

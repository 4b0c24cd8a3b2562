use Rattle.std.proofs.Common.{◌≡◌, ◌≤◌, length, take}
use Rattle.pt_name.specs.Prefix.{without_line_ends}
use Rattle.pt_name.proofs.prefix.front_of.Given as goal

-- what stands before the end keeps what the whole keeps
abbrev pub invariant-loop-end : goal.invariant-loop-end
invariant-loop-end l = record {
  within : l.end ≤ length l.bytes;
  kept : without_line_ends (take l.end l.bytes) ≡ without_line_ends l.bytes;
}

abbrev pub decreases-loop-end : goal.decreases-loop-end
decreases-loop-end l = l.end

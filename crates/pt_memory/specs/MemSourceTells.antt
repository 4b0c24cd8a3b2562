-- A source in memory tells its tree, which is proper; and without a fuse, that it never fails.
use Rattle.std.specs.Prelude.{◌≡◌, true, cond, Option, Some, None}
use Rattle.std.proofs.Common.{ap, sym, ◌∙◌}
use Rattle.pt_memory.specs.declared.mem_source.MemSource.{MemSource}
use Rattle.pt_memory.specs.declared.fuse.Fuse.{Fuse}
use Rattle.pt_tree.specs.Failing.{Failing, failing_paths, never_failing}
use Rattle.pt_tree.specs.Forest.{is_proper}
use Rattle.pt_memory.specs.Fuse.{has_fuse}
use Rattle.pt_memory.specs.MemSource.{source_state, reading_of}
use Rattle.pt_tree.specs.Source.{Reading}

-- what it tells, always
abbrev pub source_told : MemSource → Option Reading
source_told s = Some (reading_of (source_state s))

-- what is told is proper
pub proper_told : (source : MemSource) (state : Reading) → source_told source ≡ Some state
    → is_proper state.tree ≡ true
proper_told source state is =
    let same : reading_of (source_state source) ≡ state = cc in
    ap (λ (s : Reading). is_proper s.tree) (sym same) ∙ source.proper

-- where a device fails, if it fails so without a fuse; with one it doesn't tell that
abbrev pub fuse_failing : Failing → Fuse → Option Failing
fuse_failing failing f = cond (has_fuse f) None (Some failing)

-- it never fails, as long as it has no fuse
abbrev pub source_failing : MemSource → Option Failing
source_failing s = fuse_failing never_failing s.fuse

-- it has a fuse now just where it had one
abbrev pub KeepsFuse : MemSource → MemSource → Type 0
KeepsFuse a b = has_fuse b.fuse ≡ has_fuse a.fuse

-- so it fails where it did
pub keeps_failing : (a b : MemSource) → KeepsFuse a b
    → failing_paths (source_failing b) ≡ failing_paths (source_failing a)
keeps_failing a b same = ap (λ has. failing_paths (cond has None (Some never_failing))) same

use Rattle.std.proofs.Common.{ap, subst, sym}
use Rattle.std.specs.Prelude.{Some}
use Rattle.pt_tree.specs.Dest.{CanWrite}
use Rattle.pt_memory.specs.MemDest.{dest_told}
use Rattle.pt_tree.proofs.Held.{can_write-created, can_write-appended}
use Rattle.pt_base_tests.proofs.memory_trees.append_by_a_fuse.Goals as goal

pub append-requires : goal.append-requires
append-requires c =
    let created = can_write-created (dest_told c.args.dest.now) (dest_told c.create.new.self) c.args.file.now c.in_ok-create.ensures.made in
    subst CanWrite (sym (ap (λ s. Some s.told) c.fuse.ensures)) created

pub append-requires-2 : goal.append-requires-2
append-requires-2 c =
    let created = can_write-created (dest_told c.args.dest.now) (dest_told c.create.new.self) c.args.file.now c.in_ok-create.ensures.made in
    let fused = subst CanWrite (sym (ap (λ s. Some s.told) c.fuse.ensures)) created in
    can_write-appended (dest_told c.fuse.new.self) (dest_told c.append.new.self) _ fused c.in_ok-append.ensures.added

pub append-requires-3 : goal.append-requires-3
append-requires-3 c =
    let created = can_write-created (dest_told c.args.dest.now) (dest_told c.create.new.self) c.args.file.now c.in_ok-create.ensures.made in
    let fused = subst CanWrite (sym (ap (λ s. Some s.told) c.fuse.ensures)) created in
    let appended = can_write-appended (dest_told c.fuse.new.self) (dest_told c.append.new.self) _ fused c.in_ok-append.ensures.added in
    let part = c.in-Err.ensures.part in
    let failed = can_write-appended (dest_told c.append.new.self) (dest_told c.append-2.new.self) _ appended part.left in
    subst CanWrite (sym (ap (λ s. Some s.told) c.fuse-2.ensures)) failed

use Rattle.std.proofs.Common.{◌≡◌, ◌∙◌, ap, sym}
use Rattle.std.specs.Prelude.{Some}
use Rattle.std.specs.Option.{option_and_then}
use Rattle.pt_memory.specs.Entries.{node_of}
use Rattle.pt_tree.specs.Forest.{as_file, file_at}
use Rattle.pt_memory.specs.Opening.{opened}
use Rattle.pt_memory.specs.MemSource.{source_state}
use Rattle.pt_memory.proofs.Calls.{passed, open_gives}
use Rattle.pt_memory.proofs.mem_source.MemSource.open_at.Goals as goal

pub returns : goal.returns
returns c =
    let old = source_state c.args.self.now in
    let mid = source_state c.count_call.new.self in
    let path = c.args.path.now in
    let called = c.in_ok-count_call.ensures.state in
    let tree : mid.tree ≡ old.tree = ap (λ s. s.tree) called in
    let found =
    ap (λ f. file_at f path) (sym tree) ∙ ap (file_at mid.tree) (sym c.names.ensures)
    ∙ ap (option_and_then as_file) (sym c.in-Some-File.ensures ∙ ap (λ f. Some (node_of f)) c.in-Some-File.field-0-is)
    in
    let reading = c.open.ensures.marked ∙ ap (opened mid.tree) c.names-2.ensures ∙ ap (λ f. opened f path) tree in
    open_gives old mid _ path c.in-Some-File.field-0-0.now (passed old.fuse c.in_ok-count_call.ensures.answer) called found
    (λ i. record { tree = c.open.ensures.forest i; reading = reading i; fuse = mid.fuse; calls = mid.calls })

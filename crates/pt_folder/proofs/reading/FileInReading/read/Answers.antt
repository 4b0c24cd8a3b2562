use Rattle.pt_folder.specs.declared.reading.FileInReading.{FileInReading}
use Rattle.std.proofs.Common.{◌∙◌, ◌+◌, ap, subst, drop, List, ℕ}
use Rattle.std.specs.Prelude.{not, Option}
use Rattle.std.specs.Option.{option_map}
use Rattle.pt_folder.specs.Reading.{IsNext}
use Rattle.pt_folder.proofs.Forward.{read_stands, read_next, read_moved, unread_same}
use Rattle.pt_folder.proofs.reading.FileInReading.read.Goals as goal

pub returns-in-Ok-clause-stands : goal.returns-in-Ok-clause-stands
returns-in-Ok-clause-stands g c =
    let mid = c.go_back.new.self in
    let bytes = g.F.Input.bytes in
    let left = g.F.Input.left in
    read_stands bytes left mid c.read_block.new.file c.read_block.new.block.items c.go_back.ensures.stands c.in_default.ensures.there c.read_block.ensures.same
    c.in-Ok.ensures.block c.is_full.result c.is_full.ensures.value (mid.place + c.len.result) (ap (λ n. mid.place + n) c.len.ensures.value) mid.lost

pub returns-in-Ok-clause-block : goal.returns-in-Ok-clause-block
returns-in-Ok-clause-block g c =
    let old = c.args.self.now in
    let mid = c.go_back.new.self in
    let bytes = g.F.Input.bytes in
    let left = g.F.Input.left in
    let back = unread_same bytes old mid c.go_back.ensures.still c.go_back.ensures.same in
    subst (λ (o : Option (List ℕ)). IsNext o c.read_block.new.block.items) back
    (read_next bytes left mid c.read_block.new.file c.read_block.new.block.items c.go_back.ensures.stands c.in_default.ensures.there
    c.read_block.ensures.same c.in-Ok.ensures.block)

pub returns-in-Ok-clause-moved : goal.returns-in-Ok-clause-moved
returns-in-Ok-clause-moved g c =
    let old = c.args.self.now in
    let mid = c.go_back.new.self in
    let bytes = g.F.Input.bytes in
    let left = g.F.Input.left in
    let back = unread_same bytes old mid c.go_back.ensures.still c.go_back.ensures.same in
    read_moved bytes left mid c.read_block.new.file c.read_block.new.block.items c.go_back.ensures.stands c.in_default.ensures.there c.read_block.ensures.same
    c.in-Ok.ensures.block (not c.is_full.result) (mid.place + c.len.result) (ap (λ n. mid.place + n) c.len.ensures.value) mid.lost
    ∙ ap (option_map (drop 8192)) back

pub returns-in-Ok-clause-reads : goal.returns-in-Ok-clause-reads
returns-in-Ok-clause-reads g c =
    let old = c.args.self.now in
    let mid = c.go_back.new.self in
    let place = ap (λ (r : FileInReading g.row.F.Denot). r.place + c.len.result) c.go_back.ensures.still ∙ ap (λ n. old.place + n) c.len.ensures.value in
    rw c.if-self.false (mid.file, c.in_default.ensures.gone, c.in-Ok.ensures.reads, place, ap not c.is_full.ensures.value, c.in_default.ensures.there)

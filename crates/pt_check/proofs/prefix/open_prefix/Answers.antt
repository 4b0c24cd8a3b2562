use Rattle.std.proofs.Common.{arith, ap, length, ◌∙◌}
use Rattle.std.specs.Prelude.{ℕ, List, Some}
use Rattle.pt_check.specs.Prefix.{prefix_trouble}
use Rattle.pt_plan.specs.Store.{prefix_in}
use Rattle.pt_tree.specs.Forest.{File}
use Rattle.pt_check.proofs.Blocks.{front_read, is_opened, may_open}
use Rattle.pt_check.proofs.Goes.{opened_goes, read_goes}
use Rattle.pt_check.proofs.prefix.open_prefix.Goals as goal

pub open-requires : goal.open-requires
open-requires g c = may_open (g.S.Source.told c.args.source.now) c.args.path.now c.requires

pub next-requires : goal.next-requires
next-requires g c = is_opened (g.S.Source.told c.args.source.now) (g.S.Source.told c.open.new.self) c.args.path.now c.requires c.in_ok-open.ensures.opened

pub returns-clause-trouble : goal.returns-clause-trouble
returns-clause-trouble g c =
    let front = front_read (g.S.Source.told c.args.source.now) (g.S.Source.told c.open.new.self) c.args.path.now c.next.new.block.items c.requires
    c.in_ok-open.ensures.opened c.in_ok-next.ensures.block in
    λ tree told. c.in_ok-front_of.ensures.trouble ∙ ap prefix_trouble (c.as_slice.ensures.value ∙ front tree told)

pub returns-clause-prefix : goal.returns-clause-prefix
returns-clause-prefix g c =
    let front = front_read (g.S.Source.told c.args.source.now) (g.S.Source.told c.open.new.self) c.args.path.now c.next.new.block.items c.requires
    c.in_ok-open.ensures.opened c.in_ok-next.ensures.block in
    λ tree told. c.in_ok-front_of.ensures.prefix ∙ ap (λ (l : List ℕ). prefix_in (Some (File l))) (c.as_slice.ensures.value ∙ front tree told)

pub returns-clause-ended : goal.returns-clause-ended
returns-clause-ended g c =
    let front = front_read (g.S.Source.told c.args.source.now) (g.S.Source.told c.open.new.self) c.args.path.now c.next.new.block.items c.requires
    c.in_ok-open.ensures.opened c.in_ok-next.ensures.block in
    let opened = g.S.Source.failing c.open.new.self in
    λ tree told few.
    let same = ap length (front tree told) in
    opened_goes (g.S.Source.failing c.args.source.now) opened c.args.path.now _ c.in_ok-open.ensures.fails
    (read_goes opened opened _ c.next.new.block.items _ (λ f is. is) c.in_ok-next.ensures.fails (omega (arith, few, same)))

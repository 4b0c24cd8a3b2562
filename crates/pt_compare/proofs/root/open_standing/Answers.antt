use Rattle.std.proofs.Common.{subst, sym, ◌∙◌}
use Rattle.pt_compare.specs.Root.{Stands}
use Rattle.pt_tree.specs.Source.{tree_in}
use Rattle.pt_tree.specs.declared.kind.Kind.TheVariants as kind
use Rattle.pt_compare.proofs.Opening.{look_in, no_file_in}
use Rattle.pt_compare.proofs.Reading.{can_open}
use Rattle.pt_compare.proofs.Roots.{file_seen}
use Rattle.pt_compare.proofs.root.open_standing.Goals as goal

pub returns-then-not-branch-clause-opened : goal.returns-then-not-branch-clause-opened
returns-then-not-branch-clause-opened g c = (
  no_file_in (tree_in (g.R.Source.told c.args.root.now)) c.in-Some.above.now c.args.path.now c.in-Some.field-0-1.now
      (c.in_ok-stand_above.ensures.lacks c.if-not-branch.true) c.in-Some.ensures,
  c.stand_above.ensures.same,
)

pub kind-requires : goal.kind-requires
kind-requires g c =
    let there = subst (λ t. Stands (tree_in t) (c.in-Some.above.now, kind.Dir)) (sym c.stand_above.ensures.same)
    (c.in_ok-stand_above.ensures.stands c.if-not-branch.false) in
    look_in (tree_in (g.R.Source.told c.stand_above.new.root)) c.in-Some.above.now c.args.path.now c.in-Some.field-0-1.now there c.in-Some.ensures

pub open-requires : goal.open-requires
open-requires g c =
    let there = file_seen (tree_in (g.R.Source.told c.stand_above.new.root)) c.args.path.now c.in_ok-kind.field-0 c.in_ok-kind.ensures.kind
    (sym c.is_file.ensures ∙ c.if-not-is_file.false) in
    can_open (g.R.Source.told c.kind.new.self) c.args.path.now (subst (λ t. Stands (tree_in t) (c.args.path.now, kind.File)) (sym c.kind.ensures.same) there)

pub returns-then-not-is_file-clause-keeps : goal.returns-then-not-is_file-clause-keeps
returns-then-not-is_file-clause-keeps g c = g.met.R.Source.keeps_on _ _ _ c.stand_above.ensures.keeps c.kind.ensures.keeps

pub returns-in_err-kind-clause-keeps : goal.returns-in_err-kind-clause-keeps
returns-in_err-kind-clause-keeps g c = g.met.R.Source.keeps_on _ _ _ c.stand_above.ensures.keeps c.kind.ensures.keeps

pub returns-in_err-open-clause-keeps : goal.returns-in_err-open-clause-keeps
returns-in_err-open-clause-keeps g c = g.met.R.Source.keeps_on _ _ _ c.stand_above.ensures.keeps
    (g.met.R.Source.keeps_on _ _ _ c.kind.ensures.keeps c.open.ensures.keeps)

pub returns-clause-keeps : goal.returns-clause-keeps
returns-clause-keeps g c = g.met.R.Source.keeps_on _ _ _ c.stand_above.ensures.keeps (g.met.R.Source.keeps_on _ _ _ c.kind.ensures.keeps c.open.ensures.keeps)

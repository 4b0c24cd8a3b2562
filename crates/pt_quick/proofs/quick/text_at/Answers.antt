use Rattle.std.proofs.Common.{Bool, subst}
use Rattle.std.specs.Prelude.{None}
use Rattle.std.specs.Option.{option_map}
use Rattle.std.specs.String.{string_bytes}
use Rattle.pt_compare.specs.Beside.{OpensStanding}
use Rattle.pt_tree.specs.Source.{tree_in}
use Rattle.pt_quick.proofs.Places.{text_lacks, text_read, text_told}
use Rattle.pt_quick.proofs.quick.text_at.Goals as goal

pub returns-then-not-branch-clause-text : goal.returns-then-not-branch-clause-text
returns-then-not-branch-clause-text g c =
    text_lacks (tree_in (g.R.Source.told c.args.root.now)) c.args.path.now None
    (subst (λ (b : Bool). OpensStanding c.args.path.now (g.R.Source.told c.args.root.now) (g.R.Source.told c.open_standing.new.root) b)
    c.if-not-branch.true c.in_ok-open_standing.ensures.opened).0

pub returns-clause-text : goal.returns-clause-text
returns-clause-text g c =
    text_read (g.R.Source.told c.args.root.now) (g.R.Source.told c.open_standing.new.root) c.args.path.now c.in_ok-bytes.bytes
    (option_map string_bytes c.ok.result)
    (subst (λ (b : Bool). OpensStanding c.args.path.now (g.R.Source.told c.args.root.now) (g.R.Source.told c.open_standing.new.root) b)
    c.if-not-branch.false c.in_ok-open_standing.ensures.opened)
    c.in_ok-bytes.ensures.rest
    (text_told c.from_utf8.result c.in_ok-bytes.bytes c.ok.result c.from_utf8.ensures.ok c.from_utf8.ensures.succeeds c.ok.ensures.value)

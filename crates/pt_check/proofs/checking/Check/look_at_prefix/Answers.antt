use Rattle.std.proofs.Common.{ap, sym, subst, ℕ, List, Some, ◌≡◌, ◌∙◌}
use Rattle.std.proofs.lemmas.Result.{IfOk-weaker}
use Rattle.std.specs.Option.{ForSome}
use Rattle.std.specs.Prelude.{IsSome, string_bytes}
use Rattle.pt_check.specs.Visits.{check_state, tree_by}
use Rattle.pt_check.proofs.Stepping.{prefix_step}
use Rattle.pt_check.proofs.Visiting.{file_at_top}
use Rattle.pt_plan.specs.Store.{prefix_file}
use Rattle.pt_plan.specs.TurnStart.{kind_in}
use Rattle.pt_tree.specs.Forest.{file_at}
use Rattle.pt_tree.specs.Path.{Path}
use Rattle.pt_tree.specs.declared.kind.Kind.TheVariants as kind
use Rattle.pt_check.proofs.checking.Check.look_at_prefix.Goals as goal

pub read_prefix-requires : goal.read_prefix-requires
read_prefix-requires g c =
    let named : c.kind_in.result ≡ kind_in c.args.listing.now prefix_file =
    c.kind_in.ensures ∙ ap (λ (n : List ℕ). kind_in c.args.listing.now n) (c.as_bytes.ensures.value ∙ c.text.ensures) in
    let here : kind_in c.args.listing.now prefix_file ≡ Some kind.File = sym named ∙ c.in-Some-File.is ∙ ap Some c.in-Some-File.field-0-is in
    subst (λ (p : Path). ForSome (tree_by g.S.Source.told c.args.self.now) (λ tree. IsSome (file_at tree p))) (sym c.in_ok-path.ensures)
    (file_at_top (tree_by g.S.Source.told c.args.self.now) c.args.listing.now prefix_file c.requires here)

pub returns-in-Some-File-clause-looked : goal.returns-in-Some-File-clause-looked
returns-in-Some-File-clause-looked g c =
    let named : c.kind_in.result ≡ kind_in c.args.listing.now prefix_file =
    c.kind_in.ensures ∙ ap (λ (n : List ℕ). kind_in c.args.listing.now n) (c.as_bytes.ensures.value ∙ c.text.ensures) in
    let here : kind_in c.args.listing.now prefix_file ≡ Some kind.File = sym named ∙ c.in-Some-File.is ∙ ap Some c.in-Some-File.field-0-is in
    IfOk-weaker c.read_prefix.result _ _
    (λ prefix. prefix_step c.args.own (tree_by g.S.Source.told c.args.self.now) (kind_in c.args.listing.now prefix_file) c.in_ok-path.path (string_bytes prefix)
    (check_state g.S.Source g.L.Log c.args.self.now) (check_state g.S.Source g.L.Log c.read_prefix.new.self) here c.in_ok-path.ensures)
    c.read_prefix.ensures.read

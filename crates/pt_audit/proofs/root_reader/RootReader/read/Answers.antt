use Rattle.std.proofs.Common.{◌≡◌, List, ℕ, ap, rules, subst, true, ◌∙◌}
use Rattle.pt_audit.proofs.Following.{read_paced}
use Rattle.pt_compare.specs.Bytes.{CameNext}
use Rattle.pt_audit.proofs.root_reader.RootReader.read.Goals as goal

pub returns-in_ok-self-clause-paced : goal.returns-in_ok-self-clause-paced
returns-in_ok-self-clause-paced g c =
    let told = g.R.Source.told in
    let next : c.in_ok-self.field-0 ≡ true → CameNext c.as_slice.result.now (told c.args.root.now) (told c.come_next.new.root) = search rules in
    λ source behind.
    read_paced source _ _ c.args.self.now _ c.args.survey.now c.in_ok-self.field-0 c.requires.saw (search rules) c.come_next.ensures.tree
    (λ is. subst (λ (bytes : List ℕ). CameNext bytes (told c.args.root.now) (told c.come_next.new.root)) (c.as_slice.ensures.value
    ∙ ap (λ k. k.items) c.block.ensures) (next is)) behind

use Rattle.std.proofs.Common.{List, ℕ, ◌≡◌, ◌∙◌, refl, subst, sym}
use Rattle.pt_guard.specs.Apart.{folders_of}
use Rattle.pt_guard.proofs.apart.InnerPaths.run_paths.Goals as goal

pub returns : goal.returns
returns c =
    let source = c.args.source.now in
    let dest = c.args.dest.now in
    let are = λ (tree root staging : List ℕ). record { source = source; tree = tree; dest = dest; root = root; staging = staging } ≡ folders_of source dest in
    let tree = sym (c.as_str.ensures.value ∙ c.requires.tree) in
    let root = sym (c.as_str-2.ensures.value ∙ c.requires.root) in
    let staging = sym (c.as_str-3.ensures.value ∙ c.requires.staging) in
    subst (λ text. are c.as_str.result.now c.as_str-2.result.now text) staging
    (subst (λ text. are c.as_str.result.now text (folders_of source dest).staging) root
    (subst (λ text. are text (folders_of source dest).root (folders_of source dest).staging) tree refl))

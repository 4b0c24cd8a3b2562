use Rattle.std.proofs.Common.{◌≡◌, ◌∙◌, false, inl, inr, refl, subst, sym, true}
use Rattle.std.proofs.lemmas.Bool.{true≢false}
use Rattle.pt_tree.proofs.AtPaths.{path_itself, same_from}
use Rattle.pt_tree.specs.Path.{Path, same_path}
use Rattle.pt_audit.proofs.root_reader.RootReader.alike_at.Goals as goal
use Rattle.pt_audit.proofs.root_reader.RootReader.alike_at.Goals.{else-eq-via-then-eq+else-eq-2, else-eq-via-else-eq}

pub returns-then-eq-2 : goal.returns-then-eq-2
returns-then-eq-2 c = record {
  kept = inr (refl, same_from _ _ (sym c.eq.ensures ∙ c.if-eq.true), same_from _ _ (sym c.eq-then-eq.ensures ∙ c.if-eq-2.true));
  all = λ from place. refl;
}

apart : (p q : Path) → same_path p q ≡ false → p ≡ q → ⊥
apart p q not same = true≢false (sym (subst (λ (x : Path). same_path p x ≡ true) same (path_itself p)) ∙ not)

-- where one of the two paths is another, it isn't at that object
pub returns-else-eq : goal.returns-else-eq
returns-else-eq c = record {
  kept = inl refl;
  all = λ from place. elim c.else-eq.branch [
    | else-eq-via-then-eq+else-eq-2 w ↦ absurd (apart _ _ (sym w.eq-then-eq.ensures ∙ w.if-eq-2.false) place)
    | else-eq-via-else-eq w ↦ absurd (apart _ _ (sym c.eq.ensures ∙ w.if-eq.false) from)
  ];
}

use Rattle.std.proofs.Common.{◌≡◌, ℕ, false, true, sym, ap, ◌∙◌}
use Rattle.std.specs.Prelude.{◌==◌, Option, Some, Err}
use Rattle.std.specs.Option.{option_map_or}
use Rattle.std.proofs.lemmas.Bool.{cond-true}
use Rattle.pt_memory.specs.declared.fuse.Fuse.{Fuse}
use Rattle.pt_memory.specs.Fuse.{after_failure, is_blown}
use Rattle.pt_memory.proofs.fuse.Fuse.pass.Goals as goal

-- nothing is left
blown : (f : Fuse) (n : ℕ) → f.left ≡ Some n → n ≡ 0 → is_blown f ≡ true
blown f n is zero = ap (λ (left : Option ℕ). option_map_or (λ n. n == 0) left false) is ∙ ap (λ n. n == 0) zero

pub returns-in-Some-eq0-clause-state : goal.returns-in-Some-eq0-clause-state
returns-in-Some-eq0-clause-state c =
    let old = c.args.self.now in
    c.fail.ensures.state ∙ sym (cond-true (is_blown old) (after_failure old) _
    (blown old _ c.in-Some-eq0.is (sym c.in-Some-eq0.field-0-is ∙ c.in-Some-eq0.field-0-test)))

pub returns-in-Some-eq0-clause-answer : goal.returns-in-Some-eq0-clause-answer
returns-in-Some-eq0-clause-answer c =
    let old = c.args.self.now in
    ap (λ fault. Err fault) c.fail.ensures.answer ∙ sym (cond-true (is_blown old) _ _
    (blown old _ c.in-Some-eq0.is (sym c.in-Some-eq0.field-0-is ∙ c.in-Some-eq0.field-0-test)))

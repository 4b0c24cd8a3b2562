use Rattle.std.proofs.Common.{◌↔◌, ◌∙◌, ◌≡◌, arith, codes, length, refl, subst, sym}
use Rattle.std.proofs.lemmas.Bool.{false≢true}
use Rattle.std.proofs.lemmas.List.{take_rest}
use Rattle.pt_guard.specs.Declaration.{HasPart, mark}
use Rattle.pt_guard.proofs.Marks.{at_start, behind, in_none}
use Rattle.pt_guard.proofs.declared.has_mark.Goals as goal

pub loop-rest-init : goal.loop-rest-init
loop-rest-init c = (λ has. has, λ has. has)

pub returns-then-starts_with : goal.returns-then-starts_with
returns-then-starts_with c =
    let rest = c.loop-rest.rest.now in
    (λ _. c.loop-rest.invariant.1 (at_start mark rest (sym c.starts_with.ensures.value ∙ c.if-starts_with.true)), λ _. refl)

pub loop-rest-preserved : goal.loop-rest-preserved
loop-rest-preserved c =
    let rest = c.loop-rest.rest.now in
    let on = behind mark rest (sym c.starts_with.ensures.value ∙ c.if-starts_with.false) in
    subst (λ l. HasPart mark c.args.bytes.now ↔ HasPart mark l) (sym (take_rest rest 1))
    ((λ has. on.0 (c.loop-rest.invariant.0 has)), λ has. c.loop-rest.invariant.1 (on.1 has))

pub returns : goal.returns
returns c =
    let rest = c.loop-rest.rest.now in
    let none : length rest ≡ 0 = grind (arith, c.is_empty.ensures, c.loop-rest-test.false) in
    (λ is. absurd (false≢true is), λ has. in_none 0 (codes "0=ocfl_") rest none (c.loop-rest.invariant.0 has))

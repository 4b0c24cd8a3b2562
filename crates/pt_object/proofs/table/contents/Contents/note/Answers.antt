use Rattle.std.proofs.Common.{◌≡◌, ℕ, List, [], ◌∷◌, ◌++◌, Bool, false, true, length, sym, ◌∙◌, ap}
use Rattle.std.specs.Prelude.{is_ok, not, Result}
use Rattle.std.proofs.lemmas.Bool.{cond-false, cond-true, true≢false}
use Rattle.pt_object.specs.Contents.{content_of, is_noted}
use Rattle.pt_object.specs.declared.table.contents.Content.{Content}
use Rattle.pt_object.proofs.Inserting.{IsIndex-insert}
use Rattle.pt_object.proofs.Keys.{keys-push}
use Rattle.pt_object.proofs.table.contents.Contents.note.Goals as goal

-- what the search found is what is noted
tells : (found : Result ℕ ℕ) (answer : Bool) (lent items own : List Content) (digest : List ℕ) → is_ok found ≡ is_noted lent digest → lent ≡ items → items ≡ own
    → is_ok found ≡ answer → is_noted own digest ≡ answer
tells found answer lent items own digest known lent_is own_is is = sym (ap (λ (l : List Content). is_noted l digest) (lent_is ∙ own_is)) ∙ sym known ∙ is

pub invariant_of-self-2 : goal.invariant_of-self-2
invariant_of-self-2 c =
    let pushed = rw c.unwrap-2.ensures at c.push-2.ensures.items in
    let keyed = rw c.unwrap.ensures at c.push.ensures.items in
    let position = c.len.ensures ∙ c.reserve.ensures.len ∙ sym c.deref.ensures.len ∙ ap length c.deref.ensures.value in
    let place = rw (c.in-Err.is, c.deref.ensures.value) at c.search.ensures.found in
    record {
      ordered = rw (pushed, c.in_ok-insert.ensures.ok, c.reserve.ensures.items, position)
          (IsIndex-insert c.self.inside.items.items c.self.inside.index _ c.in-Err.place c.self.invariant.ordered place);
      keyed = rw (keyed, pushed, c.reserve-2.ensures.items, c.reserve.ensures.items) (keys-push _ _ _ _ c.self.invariant.keyed c.key.ensures);
    }

pub returns-clause-answer : goal.returns-clause-answer
returns-clause-answer c = sym (ap not (tells _ false _ _ _ _ c.search.ensures.known c.deref.ensures.value c.self.view_is (ap is_ok c.in-Err.is)))

pub returns-clause-ok : goal.returns-clause-ok
returns-clause-ok c =
    let old = c.args.self.now in
    let digest = c.args.digest.now in
    let none = tells _ false _ _ old digest c.search.ensures.known c.deref.ensures.value c.self.view_is (ap is_ok c.in-Err.is) in
    (rw c.unwrap-2.ensures at c.push-2.ensures.items)
    ∙ (λ i. (c.reserve.ensures.items ∙ c.self.view_is) i ++ content_of digest (c.in_ok-path.ensures i) ∷ [])
    ∙ sym (cond-false (is_noted old digest) old (old ++ content_of digest c.args.path.now ∷ []) none)

pub returns-clause-known : goal.returns-clause-known
returns-clause-known c =
    λ is. absurd (true≢false (sym is ∙ tells _ false _ _ _ _ c.search.ensures.known c.deref.ensures.value c.self.view_is (ap is_ok c.in-Err.is)))

pub returns-in_err-reserve-clause-known : goal.returns-in_err-reserve-clause-known
returns-in_err-reserve-clause-known c =
    λ is. absurd (true≢false (sym is ∙ tells _ false _ _ _ _ c.search.ensures.known c.deref.ensures.value c.self.view_is (ap is_ok c.in-Err.is)))

pub returns-in_err-path-clause-known : goal.returns-in_err-path-clause-known
returns-in_err-path-clause-known c =
    λ is. absurd (true≢false (sym is ∙ tells _ false _ _ _ _ c.search.ensures.known c.deref.ensures.value c.self.view_is (ap is_ok c.in-Err.is)))

pub returns-in_err-insert-clause-known : goal.returns-in_err-insert-clause-known
returns-in_err-insert-clause-known c =
    λ is. absurd (true≢false (sym is ∙ tells _ false _ _ _ _ c.search.ensures.known c.deref.ensures.value c.self.view_is (ap is_ok c.in-Err.is)))

pub returns-in-Ok-clause-answer : goal.returns-in-Ok-clause-answer
returns-in-Ok-clause-answer c = sym (ap not (tells _ true _ _ _ _ c.search.ensures.known c.deref.ensures.value c.self.view_is (ap is_ok c.in-Ok.is)))

pub returns-in-Ok-clause-ok : goal.returns-in-Ok-clause-ok
returns-in-Ok-clause-ok c =
    sym (cond-true (is_noted c.args.self.now c.args.digest.now) c.args.self.now _
    (tells _ true _ _ _ _ c.search.ensures.known c.deref.ensures.value c.self.view_is (ap is_ok c.in-Ok.is)))

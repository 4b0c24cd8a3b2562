use Rattle.std.proofs.Common.{List, ℕ, ap, map, refl, rules, ◌≡◌, subst, sym, ◌∙◌}
use Rattle.std.specs.Cmp.Lexicographic.{slice_cmp}
use Rattle.std.specs.List.Sorted.{IsStrictlySortedBy}
use Rattle.std.specs.Ordering.{nat_cmp}
use Rattle.std.specs.Prelude.{IfOk}
use Rattle.std.specs.String.{string_bytes, string_cmp}
use Rattle.pt_name.specs.Share.{is_listed}
use Rattle.pt_name.specs.Unmet.{StandsOnlyAt}
use Rattle.std.proofs.lemmas.Fn.{answers_by}
use Rattle.pt_name.proofs.Lists.{is_found, is_found_once}
use Rattle.pt_name.proofs.identifier_list.IdentifierList.position.Goals as goal

pub returns : goal.returns
returns c =
    let id = c.args.id.now in
    let strict = subst (IsStrictlySortedBy string_cmp) (sym c.deref.ensures.value) c.self.invariant in
    let at = c.binary_search_by.ensures.position (λ text. slice_cmp nat_cmp (string_bytes text) id)
    (answers_by _ _ (λ f. f.0.now.now ≡ id) (λ f a r after called is. search rules) _ refl) in
    let ids = ap (map string_bytes) c.deref.ensures.value ∙ c.self.view_is in
    record {
      found = is_found id c.deref.result.now c.binary_search_by.result strict c.binary_search_by.ensures.bound at
          ∙ ap (λ (ids : List (List ℕ)). is_listed ids id) ids;
      alone = subst (λ (ids : List (List ℕ)). IfOk c.binary_search_by.result (StandsOnlyAt id ids)) ids
          (is_found_once id c.deref.result.now c.binary_search_by.result strict c.binary_search_by.ensures.bound at);
    }

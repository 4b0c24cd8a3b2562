use Rattle.std.proofs.Common.{[], ℕ, List, sym, ◌∙◌, ap, subst}
use Rattle.pt_object.specs.Index.{IsIndex}
use Rattle.pt_object.specs.Keys.{keys_of}
use Rattle.pt_object.specs.declared.table.contents.Content.{Content}
use Rattle.pt_object.proofs.Indexed.{IsIndex-none}
use Rattle.pt_object.proofs.table.contents.Contents.clear.Goals as goal

pub invariant_of-self : goal.invariant_of-self
invariant_of-self c =
    let index = c.clear-3.new.self in
    record {
      ordered = subst (λ (items : List Content). IsIndex items index) (sym c.clear.ensures.items)
          (subst (λ (l : List ℕ). IsIndex [] l) (sym c.clear-3.ensures) IsIndex-none);
      keyed = c.clear-2.ensures.items ∙ sym (ap keys_of c.clear.ensures.items);
    }

use Rattle.std.proofs.Common.{◌≡◌, ℕ, List, Bool, true, false, length, sym, ap, ◌∙◌, rules}
use Rattle.std.specs.Prelude.{cond, None, Some, Ok, ◌==◌}
use Rattle.std.specs.Option.{option_map}
use Rattle.std.specs.String.{string_bytes}
use Rattle.pt_tree.specs.Refusal.{Answers}
use Rattle.pt_object.specs.Meta.{given_address, meta_refusal}
use Rattle.pt_object.specs.MetaParts.{MetaParts}
use Rattle.pt_object.specs.Moment.{is_moment}
use Rattle.pt_object.specs.declared.meta.MetaFault.TheVariants as fault
use Rattle.pt_object.proofs.meta.Meta.of.Goals as goal

given : (created name : List ℕ) (meta parts : MetaParts) → is_moment created ≡ true → (length name == 0) ≡ false → meta ≡ parts
    → Answers (meta_refusal created name) fault.Memory (Ok meta) (λ m. m ≡ parts)
given created name meta parts moment named is = by (is_moment created) (length name == 0) moment named
  where
    by : (m e : Bool) → m ≡ true → e ≡ false → Answers (cond m (cond e (Some fault.EmptyName) None) (Some fault.Created)) fault.Memory (Ok meta) (λ m. m
        ≡ parts)
    by true false m e = is
    by true true m e = absurd (cc)
    by false e' m e = absurd (cc)

pub returns : goal.returns
returns c =
    let address : option_map string_bytes c.match-address.address ≡ given_address (option_map (λ a. a.now) c.args.address) = search rules in
    given c.args.created.now c.args.name.now _ _ (ap is_moment (sym c.as_bytes.ensures.value) ∙ sym c.if-not-is_moment.ensures) (sym c.is_empty.ensures
    ∙ c.if-is_empty.false)
    (λ i. record {
      created = c.in_ok-from_str.ensures.ok i;
      name = c.in_ok-from_str-2.ensures.ok i;
      address = address i;
      message = c.in_ok-from_str-3.ensures.ok
          i;
    })

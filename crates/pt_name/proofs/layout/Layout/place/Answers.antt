use Rattle.std.proofs.Common.{◌<◌, ◌∙◌, sym, subst, arith}
use Rattle.std.specs.Prelude.{All}
use Rattle.std.proofs.lemmas.List.Elements.{All-from_get_or}
use Rattle.pt_name.specs.Place.{IsPlaceByte, IsPlaceName}
use Rattle.pt_name.proofs.Digits.{All-digest_text}
use Rattle.pt_name.proofs.PlaceNames.{IsPlaceName-last}
use Rattle.pt_name.proofs.layout.Layout.place.Goals as goal

pub push_tuples-requires-clause-safe : goal.push_tuples-requires-clause-safe
push_tuples-requires-clause-safe c =
    subst (All IsPlaceByte) (sym c.digest_digits-digits.ensures) (All-digest_text c.args.id.now)

pub push_name-requires : goal.push_name-requires
push_name-requires c =
    let bytes = All-from_get_or (λ b. b < 256) c.args.id.now 0 (λ i h. omega (arith, c.type_inv.id i)) in
    subst IsPlaceName (sym (c.deref.ensures.value ∙ c.in_ok-last_name_with.ensures)) (IsPlaceName-last c.args.id.now c.requires bytes)

use Rattle.std.proofs.Common.{List, ℕ, subst, sym, ap, ◌∙◌}
use Rattle.std.specs.Str.{IsUtf8}
use Rattle.hex.specs.Hex.{encode_lower}
use Rattle.pt_object.proofs.InventoryIsText.{digest_is_text}
use Rattle.pt_object.proofs.inventories.output.Output.digest.Goals as goal

pub from_utf8_unchecked-text-requires : goal.from_utf8_unchecked-text-requires
from_utf8_unchecked-text-requires c =
    subst (λ (bytes : List ℕ). IsUtf8 bytes) (sym (c.write_hex-digits.ensures.digits ∙ ap encode_lower c.bytes.ensures.bytes))
    (digest_is_text c.args.digest.now)

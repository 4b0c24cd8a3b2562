use Rattle.std.proofs.Common.{rules, ◌≡◌, List, ℕ, subst, sym}
use Rattle.std.specs.Str.{IsUtf8}
use Rattle.std.proofs.lemmas.Str.{IsUtf8-from_is_utf8}
use Rattle.pt_tree.specs.Path.{joined}
use Rattle.pt_object.proofs.inventories.output.Output.path.Goals as goal

pub from_utf8_unchecked-text-requires : goal.from_utf8_unchecked-text-requires
from_utf8_unchecked-text-requires c =
    let whole : c.as_slice.result.now ≡ joined c.args.path.now = search rules in
    subst (λ (bytes : List ℕ). IsUtf8 bytes) (sym whole) (IsUtf8-from_is_utf8 _ c.in_ok-join_behind.ensures.utf8)

use Rattle.std.proofs.Common.{rules, ◌≡◌, ◌++◌, List, ℕ, subst, sym, refl}
use Rattle.std.specs.Prelude.{codes}
use Rattle.std.specs.Str.{IsUtf8}
use Rattle.std.proofs.lemmas.Str.{IsUtf8-append, IsUtf8-from_is_utf8}
use Rattle.json.proofs.Printed.Utf8.{IsUtf8-are_ascii}
use Rattle.pt_tree.specs.Path.{joined}
use Rattle.pt_object.proofs.inventories.output.Output.content_path.Goals as goal

pub from_utf8_unchecked-text-requires : goal.from_utf8_unchecked-text-requires
from_utf8_unchecked-text-requires c =
    let whole : c.as_slice.result.now ≡ codes "v1/content/" ++ joined c.args.path.now = search rules in
    let names = IsUtf8-from_is_utf8 _ c.in_ok-join_behind.ensures.utf8 in
    let text = IsUtf8-append (codes "v1/content/") (joined c.args.path.now) (IsUtf8-are_ascii _ refl) names in
    subst (λ (bytes : List ℕ). IsUtf8 bytes) (sym whole) text

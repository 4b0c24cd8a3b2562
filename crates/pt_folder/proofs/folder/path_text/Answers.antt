use Rattle.std.proofs.Common.{rules, ◌≡◌, ◌∙◌, ◌++◌, ◌∷◌, [], ap, append_assoc}
use Rattle.pt_tree.specs.Path.{joined}
use Rattle.pt_folder.proofs.Texts.{entry_is_text}
use Rattle.pt_folder.proofs.folder.path_text.Goals as goal

pub from_utf8_unchecked-requires : goal.from_utf8_unchecked-requires
from_utf8_unchecked-requires c =
    let folder = c.args.folder.now in
    let names = joined c.args.path.now in
    let front : c.push.new.self.items ≡ folder ++ 47 ∷ [] = search rules in
    let whole = c.reserve.ensures.items ∙ c.in_ok-join_behind.ensures.names ∙ ap (λ l. l ++ names) front ∙ append_assoc folder (47 ∷ []) names in
    entry_is_text folder _ c.args.path.now whole c.utf8.folder c.in_ok-join_behind.ensures.utf8

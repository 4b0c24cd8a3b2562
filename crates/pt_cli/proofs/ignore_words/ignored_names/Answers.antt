use Rattle.std.proofs.Common.{◌∙◌, List, ℕ, Bor, Option, Some, map, ap, subst}
use Rattle.std.specs.Option.{option_map}
use Rattle.pt_cli.specs.Arguments.{ReadsAs}
use Rattle.pt_cli.specs.Ignore.{names_of}
use Rattle.pt_cli.proofs.Naming.{names_read}
use Rattle.pt_cli.proofs.ignore_words.ignored_names.Goals as goal

pub returns-in-Some : goal.returns-in-Some
returns-in-Some c =
    subst (λ (texts : Option (List (List ℕ))). ReadsAs (names_of texts) c.names_in.result) c.in-Some.ensures
    (names_read (map (λ (t : Bor (List ℕ)). t.now) c.in-Some.texts.now) c.names_in.result c.names_in.ensures)

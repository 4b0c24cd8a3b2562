use Rattle.std.proofs.Common.{◌≡◌, ◌∙◌, List, ℕ, ap, sym}
use Rattle.std.specs.Option.{option_map}
use Rattle.std.specs.Prelude.{Option, Some}
use Rattle.pt_name.proofs.Shares.{chosen_unlisted}
use Rattle.pt_name.specs.Share.{Portion, chosen}
use Rattle.pt_name.proofs.share.Share.chooses.Goals as goal

pub returns-else-contains : goal.returns-else-contains
returns-else-contains c =
    let id = c.args.id.now in
    let only = c.args.self.now.only in
    let list : c.args.self.now.list ≡ Some c.deref.result.now = sym (ap (λ (s : Portion). s.list) c.self.view_is) ∙ ap (option_map (λ l. l.value)) c.in-Some.is
    ∙ ap (λ (ids : List (List ℕ)). Some ids) (sym c.deref.ensures) in
    chosen_unlisted _ only c.deref.result.now id c.begins_with_one.result c.if-contains.ensures c.begins_with_one.ensures c.texts.ensures
    ∙ ap (λ (l : Option (List (List ℕ))). chosen only l id) (sym list)

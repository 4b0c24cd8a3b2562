use Rattle.std.proofs.Common.{ap, ◌∙◌, List, ℕ, take}
use Rattle.pt_name.specs.Place.{digest_text, encoded_of, shortened}
use Rattle.pt_name.proofs.Fronts.{front_enough}
use Rattle.pt_name.proofs.encoding.last_name_with.Goals as goal

pub returns : goal.returns
returns c =
    c.in_ok-shorten.ensures
    ∙ ap (λ (xs : List ℕ). shortened xs c.args.digits.now) (c.in_ok-name.ensures ∙ ap encoded_of c.front.ensures)
    ∙ ap (shortened (encoded_of (take 101 c.args.id.now))) c.requires
    ∙ front_enough c.args.id.now (digest_text c.args.id.now)

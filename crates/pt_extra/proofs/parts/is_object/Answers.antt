use Rattle.std.proofs.Common.{ap, codes, false, List, ℕ, Bool, ◌≡◌, ◌∙◌}
use Rattle.std.specs.Prelude.{◌||◌}
use Rattle.pt_object.specs.WellKnown.{known_text}
use Rattle.pt_object.specs.declared.well_known.WellKnownName.TheVariants as known
use Rattle.pt_plan.specs.TurnStart.{is_file_kind, kind_in}
use Rattle.pt_extra.proofs.parts.is_object.Goals as goal

pub returns-else-is_file : goal.returns-else-is_file
returns-else-is_file c =
    let older : c.is_file-else-is_file.result ≡ is_file_kind (kind_in c.args.listing.now (codes "0=ocfl_object_1.0")) =
    c.is_file-else-is_file.ensures ∙ ap is_file_kind (c.kind_in-else-is_file.ensures
    ∙ ap (λ (n : List ℕ). kind_in c.args.listing.now n) c.as_bytes-else-is_file.ensures.value) in
    let none : false ≡ is_file_kind (kind_in c.args.listing.now (known_text known.Declaration)) =
    c.if-is_file.ensures ∙ ap is_file_kind (c.kind_in.ensures ∙ ap (λ (n : List ℕ). kind_in c.args.listing.now n) (c.as_bytes.ensures.value ∙ c.text.ensures))
    in
    older ∙ ap (λ (b : Bool). b || is_file_kind (kind_in c.args.listing.now (codes "0=ocfl_object_1.0"))) none

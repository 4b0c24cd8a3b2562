use Rattle.std.proofs.Common.{ap, sym, false, Bool, ◌≡◌, ◌∙◌}
use Rattle.std.specs.Prelude.{◌||◌}
use Rattle.std.specs.Str.{bytes_eq}
use Rattle.pt_extra.specs.Findings.{is_own, is_text}
use Rattle.pt_object.specs.WellKnown.{known_text}
use Rattle.pt_object.specs.declared.well_known.WellKnownName.TheVariants as known
use Rattle.pt_tree.specs.declared.kind.Kind.{Kind}
use Rattle.pt_extra.proofs.parts.is_own.Goals as goal

pub returns-else-is_known : goal.returns-else-is_known
returns-else-is_known c =
    let none : false ≡ bytes_eq c.args.name.now (known_text known.RootDeclaration) = c.if-is_known.ensures in
    c.is_text.ensures ∙ ap (λ (b : Bool). b || is_text c.args.name.now) none ∙ ap (λ (k : Kind). is_own c.args.name.now k) (sym c.in-File.is)

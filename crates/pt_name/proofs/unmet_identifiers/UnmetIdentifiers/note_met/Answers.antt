use Rattle.std.proofs.Common.{◌≡◌, List, ℕ, ◌∙◌, ap, length, subst, sym}
use Rattle.std.specs.Prelude.{is_ok}
use Rattle.pt_name.specs.Share.{is_listed}
use Rattle.pt_name.specs.Unmet.{StandsOnlyAt, ids_of, unmet_flagged, without}
use Rattle.pt_name.proofs.StillUnmet.{beyond, none_within, noted, unlisted}
use Rattle.pt_name.proofs.unmet_identifiers.UnmetIdentifiers.note_met.Goals as goal
use Rattle.pt_name.proofs.unmet_identifiers.UnmetIdentifiers.note_met.Goals.{in-Some-get_mut, in_default-get_mut}

pub returns-in_default : goal.returns-in_default
returns-in_default c =
    let none = ap ids_of c.in_default.is in
    let same = unlisted c.args.id.now (ids_of c.self.inside.list) c.self.inside.flags.items (ap (λ (ids : List (List ℕ)). is_listed ids c.args.id.now) none) in
    sym c.self.view_is ∙ same ∙ ap (without c.args.id.now) c.self.view_is

pub returns-in_default-position : goal.returns-in_default-position
returns-in_default-position c =
    let list = ids_of c.self.inside.list in
    let ids : c.deref.result.now ≡ list = c.deref.ensures ∙ sym (ap ids_of c.in-Some.is) in
    let other = sym (ap (λ (ids : List (List ℕ)). is_listed ids c.args.id.now) ids) ∙ sym c.position.ensures.found ∙ ap is_ok c.in_default-position.is in
    sym c.self.view_is ∙ unlisted c.args.id.now list c.self.inside.flags.items other ∙ ap (without c.args.id.now) c.self.view_is

pub returns : goal.returns
returns c =
    let id = c.args.id.now in
    let flags = c.self.inside.flags.items in
    let list = ids_of c.self.inside.list in
    let ids : c.deref.result.now ≡ list = c.deref.ensures ∙ sym (ap ids_of c.in-Some.is) in
    let alone = subst (λ (ids : List (List ℕ)). StandsOnlyAt id ids c.in-Ok.at) ids c.in-Ok.ensures.alone in
    elim c.match-get_mut.branch [
      | in-Some-get_mut w ↦ ap (λ inside. unmet_flagged (ids_of inside.list) inside.flags.items) w.self-inside-is
          ∙ noted id list flags c.in-Ok.at alone ∙ ap (without id) c.self.view_is
      | in_default-get_mut w ↦ ap (λ inside. unmet_flagged (ids_of inside.list) inside.flags.items) w.self-inside-is
          ∙ beyond id list flags c.in-Ok.at alone (none_within c.in-Ok.at (length flags) c.get_mut.result w.in_default-get_mut.is c.get_mut.ensures.item.2)
          ∙ ap (without id) c.self.view_is
    ]

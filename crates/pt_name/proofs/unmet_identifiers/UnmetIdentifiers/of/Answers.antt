use Rattle.std.proofs.Common.{◌≡◌, List, ℕ, ◌∙◌, ap, map, sym}
use Rattle.std.specs.Prelude.{Option}
use Rattle.pt_name.specs.Unmet.{may_meet, unmet_flagged, unmet_in}
use Rattle.pt_name.proofs.StillUnmet.{all_flags, mapped_flags}
use Rattle.pt_name.proofs.unmet_identifiers.UnmetIdentifiers.of.Goals as goal

pub returns : goal.returns
returns c =
    let share = c.args.share.now in
    let list = c.in-Some.list.now.value in
    let ids = c.ids.ensures ∙ c.deref.ensures in
    let flags : c.in_ok-flags.flags.items ≡ map (may_meet share) list =
    c.in_ok-flags.ensures ∙ sym (mapped_flags share c.ids.result.now) ∙ ap (map (may_meet share)) ids in
    (λ i. unmet_flagged (c.in_ok-clone.ensures.cases i) (flags i)) ∙ all_flags share list
    ∙ ap (λ (ids : Option (List (List ℕ))). unmet_in share ids) c.in-Some.ensures

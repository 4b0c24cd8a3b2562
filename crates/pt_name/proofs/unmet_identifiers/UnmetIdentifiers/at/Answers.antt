use Rattle.std.proofs.Common.{◌≡◌, List, ℕ, ◌∙◌, ap, sym, false, true}
use Rattle.std.specs.Option.{option_map}
use Rattle.std.specs.Borrow.{Bor}
use Rattle.std.specs.Prelude.{Bool, None, Some, slice_get}
use Rattle.pt_name.specs.Unmet.{ids_of, unmet_flagged, unmet_there}
use Rattle.pt_name.proofs.StillUnmet.{is_unmet, is_met, lent_there, none_listed}
use Rattle.pt_name.proofs.unmet_identifiers.UnmetIdentifiers.at.Goals as goal

pub returns-in_default : goal.returns-in_default
returns-in_default c = none_listed c.self.inside.flags.items c.args.position
    ∙ (λ i. unmet_there (unmet_flagged (ids_of (sym c.in_default.is i)) c.self.inside.flags.items) c.args.position)
    ∙ ap (λ unmet. unmet_there unmet c.args.position) c.self.view_is

pub returns-in_err-flag : goal.returns-in_err-flag
returns-in_err-flag c =
    let list = ids_of c.self.inside.list in
    let flags = c.self.inside.flags.items in
    let at = c.args.position in
    let flag : slice_get flags at ≡ None = rw c.deref.ensures.value at
    (lent_there c.deref.result.now at c.get.result c.get.ensures.lookup ∙ ap (option_map (λ (x : Bor Bool). x.now)) c.in_err-flag.was) in
    ap (option_map (λ (id : Bor (List ℕ)). id.now)) c.from_residual.ensures ∙ is_met list flags at None flag (λ is. cc)
    ∙ ap (λ unmet. unmet_there unmet at) c.self.view_is

pub returns-then-flag : goal.returns-then-flag
returns-then-flag c =
    let list = ids_of c.self.inside.list in
    let flags = c.self.inside.flags.items in
    let at = c.args.position in
    let flag : slice_get flags at ≡ Some true = rw c.deref.ensures.value at
    (lent_there c.deref.result.now at c.get.result c.get.ensures.lookup ∙ ap (option_map (λ (x : Bor Bool). x.now)) c.in_ok-flag.was
    ∙ ap (λ (b : Bool). Some b) c.if-flag.true) in
    let listed : c.deref-then-flag.result.now ≡ list = c.deref-then-flag.ensures ∙ sym (ap ids_of c.in-Some.is) in
    let id = c.get-then-flag.ensures ∙ ap (λ (ids : List (List ℕ)). slice_get ids at) listed in
    is_unmet list flags at _ flag id ∙ ap (λ unmet. unmet_there unmet at) c.self.view_is

pub returns-else-flag : goal.returns-else-flag
returns-else-flag c =
    let list = ids_of c.self.inside.list in
    let flags = c.self.inside.flags.items in
    let at = c.args.position in
    let flag : slice_get flags at ≡ Some false = rw c.deref.ensures.value at
    (lent_there c.deref.result.now at c.get.result c.get.ensures.lookup ∙ ap (option_map (λ (x : Bor Bool). x.now)) c.in_ok-flag.was
    ∙ ap (λ (b : Bool). Some b) c.if-flag.false) in
    is_met list flags at (Some false) flag (λ is. cc) ∙ ap (λ unmet. unmet_there unmet at) c.self.view_is

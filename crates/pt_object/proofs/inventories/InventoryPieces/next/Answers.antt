use Rattle.std.proofs.Common.{[], ◌∷◌, ◌∙◌, ap, drop, List, refl, subst, sym}
use Rattle.json.specs.Token.{Token}
use Rattle.pt_object.specs.InPieces.{InPieces, Puts, bracket, is_before_end, is_behind, text_left}
use Rattle.pt_object.proofs.Puts.{goes_on, none_left, piece_taken}
use Rattle.pt_object.proofs.inventories.InventoryPieces.next.Goals as goal

pub returns-in-End : goal.returns-in-End
returns-in-End c =
    let none = none_left c.self.inside.parts c.self.inside.next c.in-End.is in
    (sym (ap (λ (p : InPieces). p.rest) c.self.view_is) ∙ none, none)

pub returns : goal.returns
returns c =
    let parts = c.self.inside.parts in
    let here = c.self.inside.next in
    let next = c.in_ok-self-inside.field-0 in
    let begun = c.in_ok-out.ensures ∙ ap (λ b. bracket b ∷ []) c.is_behind_value.ensures in
    let puts : Puts is_before_end parts here next (bracket (is_behind here) ∷ []) c.put_next.new.out =
    subst (λ (o : List Token). Puts is_before_end parts here next o c.put_next.new.out) begun c.in_ok-self-inside.ensures in
    piece_taken parts here next c.put_next.new.out c.into_text.result.items c.args.self.now
    (record { piece = drop 1 c.into_text.result.items; rest = text_left parts next }) puts (goes_on here c.in_default.not-End) c.into_text.ensures.text
    c.into_text.ensures.utf8
    (sym (ap (λ (p : InPieces). p.rest) c.self.view_is)) refl refl

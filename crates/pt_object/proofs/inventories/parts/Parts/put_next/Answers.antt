use Rattle.pt_object.specs.InPieces.{Puts, is_before_end, is_in_state}
use Rattle.pt_object.proofs.Puts.{all_put, ok_more}
use Rattle.pt_object.proofs.inventories.parts.Parts.put_next.Goals as goal

pub returns : goal.returns
returns c =
    ok_more (λ next. Puts is_in_state c.args.self.now c.in_ok-here-2.here next c.put_in_manifest.new.out c.put_in_state.new.out)
    (λ next. Puts is_before_end c.args.self.now c.args.here next c.args.out.now c.put_in_state.new.out) c.put_in_state.result
    (λ next third. all_put c.args.self.now c.args.here c.in_ok-here.here c.in_ok-here-2.here next _ _ _ _ c.in_ok-here.ensures c.in_ok-here-2.ensures third)
    c.put_in_state.ensures

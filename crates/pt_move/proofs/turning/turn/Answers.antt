use Rattle.std.proofs.Common.{refl}
use Rattle.pt_move.proofs.Needs.{counted_turn, own_fault, stands_on}
use Rattle.pt_move.proofs.turning.turn.Goals as goal

pub turn_at-requires-clause-stands : goal.turn_at-requires-clause-stands
turn_at-requires-clause-stands g c = stands_on c.args.phase c.args.state.now _ c.requires.stands

pub returns : goal.returns
returns g c =
    let turned = counted_turn c.args.phase c.args.state.now _ _ _ _ _ c.turn_at.ensures.turn.turn refl refl (λ fed. refl) in
    record {
      turn = record {
        turn = turned;
        own = own_fault _ _ _ _ _ _ c.requires.stands c.requires.fed turned;
        block = c.turn_at.ensures.block;
        few = c.turn_at.ensures.turn.few;
        unmet = c.turn_at.ensures.turn.unmet;
      };
    }

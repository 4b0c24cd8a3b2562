use Rattle.std.proofs.Common.{refl}
use Rattle.pt_make.proofs.Parts.{made_declaration}
use Rattle.pt_make.proofs.making.make_declaration.Goals as goal

pub returns : goal.returns
returns g c = record {
  turn = record {
    turn = made_declaration _ _ _ _ _ _ c.in_ok-put_file.ensures.did c.in_ok-path.ensures c.object_declaration.ensures;
    few = c.in_ok-put_file.ensures.few;
    unmet = refl;
  };
}

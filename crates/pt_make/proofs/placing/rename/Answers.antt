use Rattle.std.proofs.Common.{refl}
use Rattle.pt_make.proofs.Places.{renamed_object}
use Rattle.pt_make.proofs.placing.rename.Goals as goal

pub returns : goal.returns
returns g c = record {
  turn = record {
    turn = renamed_object _ _ _ _ _ c.in_ok-rename_staging.ensures.did c.in_ok-to.ensures;
    few = c.in_ok-rename_staging.ensures.few;
    unmet = refl;
  };
}

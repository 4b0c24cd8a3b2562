use Rattle.std.proofs.Common.{refl}
use Rattle.pt_state.proofs.Turns.{keeps_all, keeps_same}
use Rattle.pt_make.proofs.Parts.{may_make_at}
use Rattle.pt_make.proofs.Texts.{at_top, fed_text, in_version, made_top_inventory, made_version_inventory}
use Rattle.pt_make.proofs.inventories.make_inventory.Goals as goal

pub put_text-requires : goal.put_text-requires
put_text-requires g c = may_make_at _ _ _ c.requires.may c.in_ok-path.ensures

pub returns-in-Some : goal.returns-in-Some
returns-in-Some g c =
    let fed = rw c.in-Some.is at (fed_text _ _ _ _ _ c.hasher_for-hasher.ensures c.in_ok-put_text.ensures.fed) in
    let here = in_version _ _ _ _ fed in
    record {
      turn = record {
        turn = made_version_inventory _ _ _ _ _ _ _ _ here.0 c.in_ok-put_text.ensures.wrote.did c.in_ok-path.ensures c.in_ok-text_of.ensures here.1
            (keeps_all refl refl refl refl refl refl);
        few = c.in_ok-put_text.ensures.wrote.few;
        unmet = refl;
      };
    }

pub returns : goal.returns
returns g c =
    let fed = rw c.in-None.is at (fed_text _ _ _ _ _ c.hasher_for-hasher.ensures c.in_ok-put_text.ensures.fed) in
    record {
      turn = record {
        turn = made_top_inventory _ _ _ _ _ _ _ _ (at_top _ _ _ fed) c.requires.fed c.in_ok-put_text.ensures.wrote.did c.in_ok-path.ensures
            c.in_ok-text_of.ensures refl keeps_same;
        few = c.in_ok-put_text.ensures.wrote.few;
        unmet = refl;
      };
    }

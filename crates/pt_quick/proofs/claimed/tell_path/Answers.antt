use Rattle.std.proofs.Common.{◌≡◌, List, sym, subst, true, ℕ}
use Rattle.std.proofs.lemmas.List.{take_all}
use Rattle.std.proofs.lemmas.List.Elements.{All-more, All-same}
use Rattle.pt_tree.specs.Name.{is_name}
use Rattle.pt_quick.proofs.claimed.tell_path.Goals as goal

pub loop-name-preserved : goal.loop-name-preserved
loop-name-preserved c =
    All-more (λ n. is_name n ≡ true) c.args.names.now c.loop-name.name-index c.name-item.result c.loop-name-test.true c.loop-name.invariant
    (subst (λ (n : List ℕ). is_name n ≡ true) c.name-item.is c.bytes.ensures.name)

pub returns : goal.returns
returns c = All-same (λ n. is_name n ≡ true) _ _ (sym (take_all _ _ c.loop-name-test.false)) c.loop-name.invariant

use Rattle.std.proofs.Common.{sym, ◌∙◌, ap, ◌≡◌, ℕ, List, ◌∷◌, get_or, true, not, arith}
use Rattle.std.specs.Str.{bytes_eq}
use Rattle.std.proofs.lemmas.List.{take_rest}
use Rattle.pt_tree.specs.Path.{joined}
use Rattle.pt_tree.proofs.Names.{name_itself}
use Rattle.pt_memory_system.proofs.Fronts.{behind, rest_is, other_front}
use Rattle.std.proofs.lemmas.Result.{IfErr-weaker, IfOk-weaker}
use Rattle.pt_memory_system.proofs.parse.path_of.Goals as goal
use Rattle.pt_memory_system.proofs.parse.path_of.Goals.{then-ne-via-then-ne, then-ne-via-else-ne+then-rest-ne47}

pub returns-then-ne-clause-none : goal.returns-then-ne-clause-none
returns-then-ne-clause-none c = λ absent p named at.
    let root = c.args.root.now in
    let front = c.split_at.result.0.now in
    elim c.then-ne.branch [
      | then-ne-via-then-ne w ↦
          let same : front ≡ root = other_front root c.args.text.now front p c.split_at.ensures.front at in
          let eq : bytes_eq front root ≡ true = ap (λ (f : List ℕ). bytes_eq f root) same ∙ name_itself root in
          let other : not (bytes_eq front root) ≡ true = sym c.ne.ensures ∙ w.if-ne.true in
          grind (arith, eq, other)
      | then-ne-via-else-ne+then-rest-ne47 w ↦
          let rest : c.split_at.result.1.now ≡ 47 ∷ joined p = c.split_at.ensures.back ∙ behind root c.args.text.now p at in
          w.if-rest-ne47.true (ap (λ (l : List ℕ). get_or l 0 0) rest)
    ]

pub returns-clause-path : goal.returns-clause-path
returns-clause-path c = IfOk-weaker c.names_of.result _ _ (λ path is p named at. is p named
    (rest_is c.args.root.now c.args.text.now c.split_at.result.1.now _ p c.split_at.ensures.back (take_rest c.split_at.result.1.now 1) at))
    c.names_of.ensures.path

pub returns-clause-none : goal.returns-clause-none
returns-clause-none c = IfErr-weaker c.names_of.result _ _ (λ e is absent p named at. is absent p named
    (rest_is c.args.root.now c.args.text.now c.split_at.result.1.now _ p c.split_at.ensures.back (take_rest c.split_at.result.1.now 1) at))
    c.names_of.ensures.none

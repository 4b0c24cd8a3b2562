use Rattle.std.proofs.Common.{ap, sym, ◌∙◌, inl, inr, subst}
use Rattle.pt_tree.specs.Pieces.{first_refusal, names_in}
use Rattle.pt_tree.proofs.Cut.{names_back, none_refused}
use Rattle.pt_folder.specs.Folder.{IsAbsent}
use Rattle.pt_memory_system.specs.System.{IsNotFound}
use Rattle.pt_memory_system.proofs.parse.names_of.Goals as goal

pub returns-in-Ok-clause-path : goal.returns-in-Ok-clause-path
returns-in-Ok-clause-path c = λ p named at. c.in-Ok.ensures.path ∙ ap names_in at ∙ names_back p named

pub returns-in-Err-clause-none : goal.returns-in-Err-clause-none
returns-in-Err-clause-none c = λ absent p named at.
    elim c.in-Err.ensures.refused [
      | inl memory ↦ c.kind_of.ensures.absent (subst IsAbsent c.from.ensures absent) memory
      | inr first ↦ none_refused p c.in-Err.refusal named (ap first_refusal (sym (ap names_in at ∙ names_back p named)) ∙ first)
    ]

pub returns-in-Err-clause-kinds : goal.returns-in-Err-clause-kinds
returns-in-Err-clause-kinds c = subst IsNotFound (sym c.from.ensures) c.kind_of.ensures.kinds

-- The text of a line, from its members.
use Rattle.std.proofs.Common.{◌≡◌, List, ℕ, suc, length, [], ◌∷◌, ◌++◌, Some, false, refl, ap, ◌∙◌}
use Rattle.serde.specs.Event.{Log}
use Rattle.serde_json.proofs.FreeTexts.{text_of_value}
use Rattle.serde_json.specs.Data.{object}
use Rattle.serde_json.specs.Events.{SendsValue, members_len}
use Rattle.serde_json.specs.Sent.{IsTextOf}
use Rattle.serde_json.specs.Written.{compact_text, members_have_float}
use Rattle.pt_plan.specs.Members.{members_tree}
use Rattle.pt_plan.specs.declared.members.Member.{Member}
use Rattle.pt_plan.specs.declared.members.Member.TheVariants.{Number, Path, Text}

no_float : (members : List Member) → members_have_float (members_tree members) ≡ false
no_float [] = refl
no_float (Number _ _ ∷ others) = no_float others
no_float (Path _ _ ∷ others) = no_float others
no_float (Text _ _ ∷ others) = no_float others

-- what was sent as these members, and written, is the text of their line
pub text_is : (members : List Member) (json text : List ℕ) → ((log : Log) × SendsValue (object (members_tree members)) (Some []) log × IsTextOf log json)
    → text ≡ json ++ 10 ∷ [] → text ≡ compact_text (object (members_tree members)) ++ 10 ∷ []
text_is members json text sent ended =
    ended ∙ ap (λ (bytes : List ℕ). bytes ++ 10 ∷ []) (text_of_value (object (members_tree members)) sent.0 json sent.1 sent.2 (no_float members))

-- the object has as many as the list
pub len_is : (members : List Member) → members_len (members_tree members) ≡ length members
len_is [] = refl
len_is (Number _ _ ∷ others) = ap suc (len_is others)
len_is (Path _ _ ∷ others) = ap suc (len_is others)
len_is (Text _ _ ∷ others) = ap suc (len_is others)

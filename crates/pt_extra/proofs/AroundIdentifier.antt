-- The line of an object that the store doesn't have, around its identifier.
use Rattle.std.proofs.Common.{◌≡◌, ◌++◌, ℕ, List, [], ◌∷◌, ap, sym, ◌∙◌, codes, drop, take, true, append_assoc}
use Rattle.json.specs.Print.{escape}
use Rattle.pt_extra.specs.Lines.{Extra, line_text}
use Rattle.pt_plan.specs.Lines.{text_member}
use Rattle.pt_tree.specs.Path.{Path, joined}
use Rattle.serde_json.proofs.OnLiterals.{serde_json_on_literals}
use Rattle.serde_json.specs.Data.{no_members}
use Rattle.serde_json.specs.Written.{members_text}

-- what it begins with
abbrev before : List ℕ
before = codes "{\"as\":\"extra\",\"id\":\""

-- what stands behind the identifier, from its closing quote on
abbrev behind : Path → List ℕ
behind to = 34 ∷ members_text true (text_member (codes "to") (joined to) no_members) ++ 10 ∷ []

parts : (id : List ℕ) (to : Path) → line_text (Extra id to) ≡ before ++ (escape id ++ behind to)
unfolding serde_json_on_literals
parts id to = ap (λ (l : List ℕ). before ++ l)
    (append_assoc (escape id ++ 34 ∷ []) (members_text true (text_member (codes "to") (joined to) no_members)) (10 ∷ [])
    ∙ append_assoc (escape id) (34 ∷ []) (members_text true (text_member (codes "to") (joined to) no_members) ++ 10 ∷ []))

-- an identifier stands behind that, spelled as a string
pub around : (id : List ℕ) (to : Path) → line_text (Extra id to)
    ≡ take 20 (line_text (Extra [] to)) ++ (escape id ++ drop 20 (line_text (Extra [] to)))
around id to =
    parts id to
    ∙ ap (λ (l : List ℕ). l ++ (escape id ++ behind to)) (sym (ap (take 20) (parts [] to)))
    ∙ ap (λ (l : List ℕ). take 20 (line_text (Extra [] to)) ++ (escape id ++ l)) (sym (ap (drop 20) (parts [] to)))

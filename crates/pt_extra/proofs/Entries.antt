-- Which entries of a folder of the root are passed.
use Rattle.std.proofs.Common.{◌≡◌, ℕ, Bool, true, false, List, [], ◌∷◌, ◌++◌, sym, ap, ◌∙◌}
use Rattle.std.specs.Prelude.{◌||◌, not}
use Rattle.pt_extra.specs.Findings.{is_part, is_passed, looks_at}
use Rattle.pt_name.specs.Share.{Portion}
use Rattle.pt_tree.specs.Path.{Path}
use Rattle.pt_tree.specs.declared.kind.Kind.{Kind}

-- the root's own is
pub passed_part : (share : Portion) (path : Path) (name : List ℕ) (here : Kind) → is_part path name here ≡ true → is_passed share path name here ≡ true
passed_part share path name here part = ap (λ (t : Bool). t || not (looks_at share (path ++ name ∷ []))) part

-- and else what the share that the walk began with doesn't look at
pub passed_by : (share now : Portion) (path entry : Path) (name : List ℕ) (here : Kind) (looks : Bool) → now ≡ share → is_part path name here ≡ false
    → entry ≡ path ++ name ∷ [] → looks ≡ looks_at now entry → is_passed share path name here ≡ not looks
passed_by share now path entry name here looks same part entry_is is =
    ap (λ (t : Bool). t || not (looks_at share (path ++ name ∷ []))) part
    ∙ ap (λ (p : Path). not (looks_at share p)) (sym entry_is)
    ∙ ap (λ (s : Portion). not (looks_at s entry)) (sym same)
    ∙ ap not (sym is)

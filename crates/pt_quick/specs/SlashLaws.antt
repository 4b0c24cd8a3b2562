-- How many slashes the path of an entry of a folder has.
use Rattle.std.proofs.Common.{◌≡◌, ◌+◌, ◌-◌, ◌++◌, ◌∙◌, ℕ, suc, List, [], ◌∷◌, true, false, ap, arith, length, nat_lt, refl}
use Rattle.std.specs.Prelude.{Bool, ◌==◌, ◌||◌, cond, is_some}
use Rattle.std.specs.List.{list_any}
use Rattle.std.proofs.lemmas.Bool.Decides.{nat_tests}
use Rattle.std.proofs.lemmas.List.Elements.{All-head, All-tail}
use Rattle.std.proofs.lemmas.List.Sums.{sum_by-append}
use Rattle.pt_folder.specs.Folder.{entry_text}
use Rattle.pt_folder.specs.Laws.{IsPath}
use Rattle.pt_tree.proofs.Joining.{no_slash}
use Rattle.pt_tree.specs.Forest.{Forest, file_at}
use Rattle.pt_tree.specs.Name.{is_name}
use Rattle.pt_tree.specs.Path.{Path, joined}
use Rattle.pt_quick.specs.ByDepth.{is_deep}
use Rattle.pt_quick.specs.Slashes.{depth_below, is_past, slashes_in}

-- of two parts
slashes-append : (a b : List ℕ) → slashes_in (a ++ b) ≡ slashes_in a + slashes_in b
slashes-append a b = sum_by-append (λ byte. cond (byte == 47) 1 0) a b

-- of a byte and those behind it
slashes-cons : (b : ℕ) (n : List ℕ) → slashes_in (b ∷ n) ≡ cond (b == 47) 1 0 + slashes_in n
slashes-cons b n = slashes-append (b ∷ []) n ∙ omega arith

-- none where none is found
none_counted : (n : List ℕ) → list_any (λ b. b == 47) n ≡ false → slashes_in n ≡ 0
none_counted [] none = refl
none_counted (b ∷ n) none = slashes-cons b n ∙ by (λ none. none_counted n none) (b == 47) none
  where
    by : (list_any (λ b. b == 47) n ≡ false → slashes_in n ≡ 0) → (t : Bool) → (t || list_any (λ b. b == 47) n) ≡ false
        → cond t 1 0 + slashes_in n ≡ 0
    by rest true none = absurd (cc)
    by rest false none = omega (arith, rest none)

-- a name has none
slashes-name : (n : List ℕ) → is_name n ≡ true → slashes_in n ≡ 0
slashes-name n named = none_counted n (no_slash n named)

-- the names of a path have one between each two
slashes-joined : (n : List ℕ) (p : Path) → IsPath (n ∷ p) → slashes_in (joined (n ∷ p)) ≡ length p
slashes-joined n [] named = slashes-name n (All-head (λ n. is_name n ≡ true) n [] named)
slashes-joined n (m ∷ p) named =
    let own : slashes_in n ≡ 0 = slashes-name n (All-head (λ n. is_name n ≡ true) n (m ∷ p) named) in
    let rest : slashes_in (joined (m ∷ p)) ≡ length p = slashes-joined m p (All-tail (λ n. is_name n ≡ true) n (m ∷ p) named) in
    slashes-append n (47 ∷ joined (m ∷ p)) ∙ omega (arith, own, rest, slashes-cons 47 (joined (m ∷ p)))

-- the path of an entry has those of the folder's, and one for each name
pub slashes-entry : (folder : List ℕ) (n : List ℕ) (p : Path) → IsPath (n ∷ p)
    → slashes_in (entry_text folder (n ∷ p)) ≡ slashes_in folder + length (n ∷ p)
slashes-entry folder n p named =
    let names : slashes_in (joined (n ∷ p)) ≡ length p = slashes-joined n p named in
    slashes-append folder (47 ∷ joined (n ∷ p)) ∙ omega (arith, names, slashes-cons 47 (joined (n ∷ p)))

-- so many slashes are too many just where the path is deep
deep_names : (slashes own k : ℕ) → nat_lt slashes (own + suc k) ≡ nat_lt (slashes - own) (suc k)
deep_names slashes own k = grind (arith, nat_tests)

-- the path of a file of a folder has more slashes than the limit just where it is deep there
pub past_deep : (slashes : ℕ) (folder : List ℕ) (f : Forest) (p : Path) → IsPath p → is_some (file_at f p) ≡ true
    → is_past slashes (entry_text folder p) ≡ is_deep (depth_below slashes folder) p
past_deep slashes folder f [] named there = absurd (cc)
past_deep slashes folder f (n ∷ p) named there =
    ap (λ count. nat_lt slashes count) (slashes-entry folder n p named) ∙ deep_names slashes (slashes_in folder) (length p)

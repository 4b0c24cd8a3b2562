-- What was listed, or read to its end, doesn't fail.
use Rattle.std.proofs.Common.{Decides, ◌≡◌, ◌<◌, ℕ, Bool, true, false, cond, List, [], ◌∷◌, ◌++◌, inl, inr, length, refl, subst}
use Rattle.std.proofs.lemmas.List.{append_assoc}
use Rattle.std.proofs.lemmas.Slice.Eq.{bytes_eq-Decides}
use Rattle.std.specs.Option.{ForSome, option_and_then}
use Rattle.std.specs.Prelude.{◌⊎◌, ⊤, IsSome, Option, None, Some, Ok}
use Rattle.std.specs.Str.{bytes_eq}
use Rattle.pt_check.specs.Goes.{GoesBy, GoesOn}
use Rattle.pt_tree.specs.Failing.{Failing, ListsAs, OpensAs, ReadsAs, failing_paths}
use Rattle.pt_tree.specs.Forest.{Forest, Node, File, Dir, Other, none, file, other, dir, as_dir, as_file, find, node_at}
use Rattle.pt_tree.specs.Path.{Path}

-- a folder that was listed
pub listed_goes : {T : Type 0} (old new : Option Failing) (path : Path) (x : T) → ListsAs old new path (Ok x) → GoesBy (failing_paths old) path
unfolding ListsAs
listed_goes None new path x lists at is = absurd (cc)
listed_goes (Some f) new path x lists at is =
    let same : f.at ≡ at = cc in
    subst (λ (w : Path → Bool). w path ≡ false) same (lists f refl).1

-- a file that was opened fails where its path does
pub opened_goes : {T : Type 0} (old new : Option Failing) (path : Path) (x : T) → OpensAs old new path (Ok x) → GoesOn new → GoesBy (failing_paths old) path
unfolding OpensAs
opened_goes None new path x opens goes at is = absurd (cc)
opened_goes (Some f) new path x opens goes at is =
    let same : f.at ≡ at = cc in
    subst (λ (w : Path → Bool). w path ≡ false) same (goes (record f { reading = f.at path }) (opens f refl))

-- while it is read nothing of that changes
abbrev pub FailsStill : Option Failing → Option Failing → Type 0
FailsStill old now = ForSome old (λ f. now ≡ Some f)

pub fails_still : {T : Type 0} (old now new : Option Failing) (block : List ℕ) (x : T) → FailsStill old now → ReadsAs now new block (Ok x) → FailsStill old new
unfolding ReadsAs
fails_still old now new block x still reads f is = (reads f (still f is)).0

-- at its end it was read whole
pub read_goes : {T : Type 0} (old now new : Option Failing) (block : List ℕ) (x : T) → FailsStill old now → ReadsAs now new block (Ok x) → length block < 8192
    → GoesOn old
unfolding ReadsAs
read_goes old now new block x still reads few f is = (reads f (still f is)).1 few

-- ---- what stands in a folder

-- it fails at no directory and no file of a folder at this path, at any depth
abbrev pub GoesIn : Option (Path → Bool) → Path → Forest → Type 0
GoesIn w path none = ⊤
GoesIn w path (file name bytes after) = GoesBy w (path ++ name ∷ []) × GoesIn w path after
GoesIn w path (other name after) = GoesIn w path after
GoesIn w path (dir name inside after) = GoesBy w (path ++ name ∷ []) × GoesIn w (path ++ name ∷ []) inside × GoesIn w path after

-- a directory or a file stands at a path from what stands at a name
abbrev pub StandsFrom : Option Node → Path → Type 0
StandsFrom o q = IsSome (option_and_then as_dir (option_and_then (λ n. node_at n q) o))
    ⊎ IsSome (option_and_then as_file (option_and_then (λ n. node_at n q) o))

-- nothing stands below nothing
pub none_stands : (q : Path) → StandsFrom None q → ⊥
none_stands q (inl some) = absurd (cc)
none_stands q (inr some) = absurd (cc)

-- nor below a file
pub file_ends : (bytes : List ℕ) (x : List ℕ) (q : Path) → StandsFrom (Some (File bytes)) (x ∷ q) → ⊥
file_ends bytes x q (inl some) = absurd (cc)
file_ends bytes x q (inr some) = absurd (cc)

-- and what is neither is none
pub other_ends : (q : Path) → StandsFrom (Some Other) q → ⊥
other_ends [] (inl some) = absurd (cc)
other_ends [] (inr some) = absurd (cc)
other_ends (x ∷ q) (inl some) = absurd (cc)
other_ends (x ∷ q) (inr some) = absurd (cc)

-- it stands at the first entry, or at one after that
first_or_later : (n name : List ℕ) (node : Node) (later : Option Node) (q : Path) (Q : Type 0) → StandsFrom (cond (bytes_eq n name) (Some node) later) q
    → (n ≡ name → StandsFrom (Some node) q → Q) → (StandsFrom later q → Q) → Q
first_or_later n name node later q Q stands first on = by (bytes_eq n name) (bytes_eq-Decides n name) stands
  where
    by : (t : Bool) → Decides t (n ≡ name) → StandsFrom (cond t (Some node) later) q → Q
    by true is stands = first (is.0 refl) stands
    by false is stands = on stands

at_file : (w : Option (Path → Bool)) (path : Path) (n name bytes : List ℕ) (q : Path) → GoesBy w (path ++ n ∷ []) → n ≡ name → StandsFrom (Some (File bytes)) q
    → GoesBy w (path ++ name ∷ q)
at_file w path n name bytes [] goes same stands = subst (λ (m : List ℕ). GoesBy w (path ++ m ∷ [])) same goes
at_file w path n name bytes (x ∷ q) goes same stands = absurd (file_ends bytes x q stands)

at_dir : (w : Option (Path → Bool)) (path : Path) (n name : List ℕ) (inside : Forest) (q : Path) → GoesBy w (path ++ n ∷ []) → n ≡ name
    → ((x : List ℕ) (r : Path) → StandsFrom (find inside x) r → GoesBy w (path ++ n ∷ [] ++ x ∷ r)) → StandsFrom (Some (Dir inside)) q
    → GoesBy w (path ++ name ∷ q)
at_dir w path n name inside [] goes same on stands = subst (λ (m : List ℕ). GoesBy w (path ++ m ∷ [])) same goes
at_dir w path n name inside (x ∷ q) goes same on stands =
    let whole : GoesBy w (path ++ (n ∷ x ∷ q)) = subst (GoesBy w) (append_assoc path (n ∷ []) (x ∷ q)) (on x q stands) in
    subst (λ (m : List ℕ). GoesBy w (path ++ m ∷ x ∷ q)) same whole

-- so at none that stands there
pub goes_there : (w : Option (Path → Bool)) (path : Path) (tree : Forest) → GoesIn w path tree → (name : List ℕ) (q : Path) → StandsFrom (find tree name) q
    → GoesBy w (path ++ name ∷ q)
goes_there w path none goes name q stands = absurd (none_stands q stands)
goes_there w path (file n bytes after) goes name q stands =
    first_or_later n name (File bytes) (find after name) q _ stands (at_file w path n name bytes q goes.0) (goes_there w path after goes.1 name q)
goes_there w path (other n after) goes name q stands =
    first_or_later n name Other (find after name) q _ stands (λ same here. absurd (other_ends q here)) (goes_there w path after goes name q)
goes_there w path (dir n inside after) goes name q stands =
    first_or_later n name (Dir inside) (find after name) q _ stands
    (λ same. at_dir w path n name inside q goes.0 same (goes_there w (path ++ n ∷ []) inside goes.1)) (goes_there w path after goes.2 name q)

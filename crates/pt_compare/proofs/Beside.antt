-- A content that is known to be alike is met without being read.
use Rattle.std.proofs.Common.{◌≡◌, ◌<◌, ℕ, zero, suc, arith, List, [], ◌∷◌, ◌++◌, subst, take}
use Rattle.std.proofs.lemmas.List.Elements.{All-head, All-tail}
use Rattle.std.specs.Prelude.{All, Option, Some, Result, Ok, Err, slice_get}
use Rattle.pt_compare.specs.Beside.{AreAlike, StandsAlike, TakesFile}
use Rattle.pt_compare.specs.Marks.{Marks, inside}
use Rattle.pt_compare.specs.Meeting.{MeetsFrom, MeetsIn}
use Rattle.pt_folder.specs.Calls.{change_of}
use Rattle.pt_object.specs.Object.{in_content}
use Rattle.pt_compare.specs.declared.scanned.ScannedObject.{ScannedObject}
use Rattle.pt_compare.specs.declared.stop.Stop.{Stop}
use Rattle.pt_compare.specs.declared.stop.Stop.TheVariants as stop
use Rattle.pt_compare.proofs.Single.{as_item, one_stands, one_stops}
use Rattle.pt_object.specs.Script.{MakeFile}
use Rattle.pt_object.specs.declared.table.contents.Content.{Content}
use Rattle.pt_tree.specs.Forest.{Forest}
use Rattle.pt_tree.specs.Path.{Path}
use Rattle.pt_walk.specs.Left.{bytes_at}

-- a content that is known to be alike was met
pub alike_taken : (source tree : Option Forest) (place p from : Path) (old new : Marks) (answer : Result (Unit {0}) Stop) → StandsAlike source tree place p from
    → TakesFile p old new answer → MeetsFrom source tree place (λ s. MakeFile p (bytes_at s from) ∷ []) (change_of old new) answer
unfolding StandsAlike MeetsFrom MeetsIn
alike_taken source tree place p from old new (Ok x) alike took = λ s read f told.
    (one_stands (inside f place) (MakeFile p (bytes_at s from)) (alike s read f told), took)
alike_taken source tree place p from old new (Err (stop.Differs d)) alike took = λ s read f told. one_stops (inside f place) old (MakeFile p (bytes_at s from))
    d.path d.why took.0 (as_item (inside f place) old p (bytes_at s from) d.why took.1)
alike_taken source tree place p from old new (Err (stop.Fault why)) alike took = λ s read f told. tt

-- each of the first contents is
first_of_all : (P : Content → Type 0) (i n : ℕ) (contents : List Content) (content : Content) → i < n → slice_get contents i ≡ Some content
    → All P (take n contents) → P content
first_of_all P i zero contents content within is all = absurd (omega (arith, within))
first_of_all P i (suc n) [] content within is all = absurd (cc)
first_of_all P zero (suc n) (first ∷ contents) content within is all = let same : first ≡ content = cc in subst P same (All-head P first (take n contents) all)
first_of_all P (suc i) (suc n) (first ∷ contents) content within is all = first_of_all P i n contents content (omega (arith, within)) is
    (All-tail P first (take n contents) all)

pub alike_at : (source tree : Option Forest) (object : ScannedObject) (i : ℕ) (content : Content) → i < object.alike
    → slice_get object.contents.now i ≡ Some content → AreAlike source tree object
    → StandsAlike source tree object.to.now (in_content content.path) (object.from.now ++ content.path)
alike_at source tree object i content within is alike = first_of_all (λ (content : Content). StandsAlike source tree object.to.now (in_content content.path)
    (object.from.now ++ content.path)) i object.alike object.contents.now content within is alike

-- the trees are the same, and the paths
pub alike_still : {source source' tree tree' : Option Forest} {p' from' : Path} (place p from : Path) → source ≡ source' → tree ≡ tree' → p ≡ p' → from ≡ from'
    → StandsAlike source tree place p' from' → StandsAlike source' tree' place p from
alike_still place p from same root there of alike = rw there (rw of (rw same at (rw root at alike)))

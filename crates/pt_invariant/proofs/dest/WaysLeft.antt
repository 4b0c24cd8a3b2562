-- The ways to the objects of a root are free in what they were put on.
use Rattle.std.proofs.Common.{◌≡◌, ◌<◌, List, [], ◌∷◌, ◌++◌, Bool, true, false, refl, ap, sym, ◌∙◌, arith, length}
use Rattle.std.specs.Prelude.{◌||◌, Option, None, Some, is_some}
use Rattle.std.specs.List.{list_all}
use Rattle.std.specs.Option.{option_or}
use Rattle.std.proofs.lemmas.Bool.{and_from, false≢true, or_right, true≢false}
use Rattle.std.proofs.lemmas.List.{length-append}
use Rattle.pt_object.proofs.Ways.{path_itself}
use Rattle.pt_tree.specs.Path.{Path, rest_below}
use Rattle.pt_tree.specs.Tree.{Entry, Folder, IsTree, Tree}
use Rattle.pt_tree.proofs.Below.{gap_below, whole_of}
use Rattle.pt_plan.proofs.Folders.{each_same, is_above, is_one}
use Rattle.pt_plan.proofs.FreeWays.{way_with_objects}
use Rattle.pt_plan.proofs.Levels.{level}
use Rattle.pt_plan.specs.Carried.{Carried, entry_of_objects, folder_where, is_folder_or_free, is_on_the_way, is_way_free, place_of_carried, with_objects}
use Rattle.pt_plan.specs.Job.{Job}
use Rattle.pt_plan.specs.Roots.{root_in, storage_root}

-- a folder stands above each path where something stands
stands_above : (t : Tree) → IsTree t → (q rest : Path) → 0 < length rest → is_some (t (q ++ rest)) ≡ true → t q ≡ Some Folder
stands_above t tree q [] less some = absurd (omega (arith, less))
stands_above t tree q (name ∷ rest) less some = by (t (q ++ name ∷ [])) refl
  where
    by : (o : Option Entry) → t (q ++ name ∷ []) ≡ o → t q ≡ Some Folder
    by (Some entry) e = tree.above q name (ap is_some e)
    by None e =
        let none = gap_below t tree (q ++ name ∷ []) rest e in
        let here = ap t (sym (append_assoc' q)) in
        absurd (true≢false (sym some ∙ ap is_some (here ∙ none)))
      where
        append_assoc' : (q : Path) → (q ++ name ∷ []) ++ rest ≡ q ++ name ∷ rest
        append_assoc' [] = refl
        append_assoc' (x ∷ q) = ap (λ p. x ∷ p) (append_assoc' q)

-- so it is in a root
in_root : (now : Tree) → IsTree now → (q p : Path) → is_some (rest_below q p) ≡ true → length q < length p → is_some (root_in now p) ≡ true
    → root_in now q ≡ Some Folder
in_root now tree q p on short some = by (rest_below q p) refl
  where
    by : (o : Option Path) → rest_below q p ≡ o → root_in now q ≡ Some Folder
    by None e = absurd (false≢true (sym (ap is_some e) ∙ on))
    by (Some rest) e =
        let whole = whole_of q p rest e in
        let size = ap length whole ∙ length-append q rest in
        stands_above now tree (storage_root ++ q) rest (omega (arith, size, short)) (sym (ap (λ (r : Path). is_some (root_in now r)) whole) ∙ some)

-- at each place something stands
way_stands : (job : Job) (objects : List Carried) (b : Tree) (p : Path) → is_on_the_way job objects p ≡ true → is_some (with_objects job objects b p) ≡ true
way_stands job objects b p on = by (b p) (entry_of_objects job objects p) (is_on_the_way job objects p) on
  where
    by : (one two : Option Entry) (way : Bool) → way ≡ true → is_some (option_or one (option_or two (folder_where way))) ≡ true
    by (Some entry) two way is = refl
    by None (Some entry) way is = refl
    by None None true is = refl
    by None None false is = absurd (false≢true is)

all_true : (test : Path → Bool) (paths : List Path) → ((q : Path) → is_one q paths ≡ true → test q ≡ true) → list_all test paths ≡ true
all_true test paths each = each_same test (λ q. true) paths each ∙ always paths
  where
    always : (paths : List Path) → list_all (λ (q : Path). true) paths ≡ true
    always [] = refl
    always (path ∷ paths) = always paths

-- these objects are among those of the root
pub ways_left : (job : Job) (b now : Tree) (objects some : List Carried) → IsTree now → root_in now ≡ with_objects job objects b
    → ((p : Path) → is_on_the_way job some p ≡ true → is_on_the_way job objects p ≡ true) → list_all (is_way_free job b) some ≡ true
ways_left job b now objects [] tree is within = refl
ways_left job b now objects (object ∷ others) tree is within =
    and_from _ _ (sym (way_with_objects job objects b object) ∙ free)
    (ways_left job b now objects others tree is (λ p on. within p (or_right _ _ on)))
  where
    place : Path
    place = place_of_carried job object

    own : is_on_the_way job objects place ≡ true
    own = within place (ap (λ b. b || is_on_the_way job others place) (level place place refl ∙ path_itself place))

    stands : is_some (root_in now place) ≡ true
    stands = ap (λ (t : Tree). is_some (t place)) is ∙ way_stands job objects b place own

    free : is_way_free job (with_objects job objects b) object ≡ true
    free = all_true (λ folder. is_folder_or_free (with_objects job objects b folder)) _
        (λ q one. let above = is_above q place one in ap is_folder_or_free (sym (ap (λ (t : Tree). t q) is)
        ∙ in_root now tree q place above.on above.short stands))

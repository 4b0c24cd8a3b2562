-- What a fault leaves of the worked stores.
use Rattle.std.specs.Prelude.{◌≡◌, true, [], ◌∷◌, codes, length, map, None, Some}
use Rattle.pt_tree.specs.Tree.{Bytes, Folder, Tree}
use Rattle.pt_plan.specs.Carried.{Carried, after_all, all_carried}
use Rattle.pt_plan.specs.Faults.{most_told, on_the_way_to}
use Rattle.pt_plan.specs.Items.{items}
use Rattle.pt_plan.specs.Lines.{End, all_lines, end_line, is_done}
use Rattle.pt_plan.specs.Roots.{tuple_folders}
use Rattle.pt_run_tests.specs.WorkedStores.{empty_store, flat_job, no_root, store_of_one_identifier, store_of_one_object, worked_job}

-- the object of the store of one object
abbrev pub one_object : Carried
one_object = record { id = codes "abc"; files = (codes "a.txt" ∷ [], codes "abc") ∷ [] }

-- it is what is carried, and these are its tuple directories
abbrev pub OneObjectHasTuples : Type 0
OneObjectHasTuples =
    (all_carried worked_job store_of_one_object no_root ≡ one_object ∷ [])
    × (tuple_folders worked_job one_object
    ≡ (codes "ba7" ∷ []) ∷ (codes "ba7" ∷ codes "816" ∷ [])
    ∷ (codes "ba7" ∷ codes "816" ∷ codes "bf8" ∷ []) ∷ [])

-- the root after a fault at the third of them
abbrev pub root_of_two_tuples : Tree
root_of_two_tuples = on_the_way_to worked_job store_of_one_object no_root 2 one_object 2

-- two stand, and the first isn't empty
abbrev pub TwoTuplesStand : Type 0
TwoTuplesStand =
    (root_of_two_tuples (codes "ba7" ∷ []) ≡ Some Folder)
    × (root_of_two_tuples (codes "ba7" ∷ codes "816" ∷ []) ≡ Some Folder)
    × (root_of_two_tuples (codes "ba7" ∷ codes "816" ∷ codes "bf8" ∷ []) ≡ None)

-- a run over that root carries the object
abbrev pub RerunCarriesTheObject : Type 0
RerunCarriesTheObject =
    (map is_done (all_lines worked_job store_of_one_object root_of_two_tuples) ≡ true ∷ [])
    × (after_all worked_job store_of_one_object root_of_two_tuples
    (codes "ba7" ∷ codes "816" ∷ codes "bf8" ∷ codes "abc" ∷ codes "v1" ∷ codes "content"
    ∷ codes "a.txt" ∷ []) ≡ Some (Bytes (codes "abc")))

-- the empty store has one item; before it nothing is told, and after it the end line
abbrev pub EmptyStoreTells : Type 0
EmptyStoreTells =
    (length (items worked_job empty_store) ≡ 1)
    × (most_told worked_job empty_store no_root 0 ≡ [])
    × (most_told worked_job empty_store no_root 1
    ≡ codes "{\"as\":\"end\",\"done\":0,\"present\":0,\"skip\":0}\n")

-- of two sites with one identifier one is carried and one is present
abbrev pub OneIdentifierCounts : Type 0
OneIdentifierCounts = end_line (all_lines flat_job store_of_one_identifier no_root) ≡ End 1 1 0

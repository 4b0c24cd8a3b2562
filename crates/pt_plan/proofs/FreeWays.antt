-- The way to a place is as free after the first items as it was.
use Rattle.std.proofs.Common.{◌≡◌, List, [], ◌∷◌, Bool, true, false, refl, sym, ◌∙◌, ap}
use Rattle.std.specs.Prelude.{Option, None, Some}
use Rattle.std.specs.List.{list_all}
use Rattle.std.specs.Option.{option_or}
use Rattle.std.proofs.lemmas.Bool.{and_from}
use Rattle.pt_object.specs.Root.{base, base_where}
use Rattle.pt_tree.specs.Path.{Path}
use Rattle.pt_tree.specs.Tree.{Entry, Tree}
use Rattle.pt_plan.specs.Carried.{Carried, carried_among, folder_where, is_folder_or_free, is_on_the_way, is_way_free, with_objects}
use Rattle.pt_plan.specs.Job.{Job}
use Rattle.pt_plan.specs.PlaceLaws.{IsRooted, WayStaysFree}
use Rattle.pt_plan.specs.Roots.{tuple_folders}
use Rattle.pt_plan.proofs.Folders.{each_same, is_above, is_one}
use Rattle.pt_plan.proofs.PlaceShapes.{new_root_ways}
use Rattle.pt_plan.proofs.WithObjects.{none_of_objects, short_as}

-- objects leave the way to a place as it was
pub way_with_objects : (job : Job) (objects : List Carried) (t : Tree) (object : Carried)
    → is_way_free job (with_objects job objects t) object ≡ is_way_free job t object
way_with_objects job objects t object = each_same _ _ _ at
  where
    at : (q : Path) → is_one q (tuple_folders job object) ≡ true → is_folder_or_free (with_objects job objects t q) ≡ is_folder_or_free (t q)
    at q one =
        let above = is_above q _ one in
        ap (λ (o : Option Entry). is_folder_or_free (option_or (t q) (option_or o (folder_where (is_on_the_way job objects q)))))
        (none_of_objects job q objects (short_as job object.id q above.short))
        ∙ by (t q) (is_on_the_way job objects q)
      where
        by : (here : Option Entry) (way : Bool) → is_folder_or_free (option_or here (option_or None (folder_where way))) ≡ is_folder_or_free here
        by (Some entry) way = refl
        by None true = refl
        by None false = refl

-- where nothing stands, each way is free
none_in_the_way : {root : Tree} (folders : List Path) → ((q : Path) → root q ≡ None) → list_all (λ folder. is_folder_or_free (root folder)) folders ≡ true
none_in_the_way [] _ = refl
none_in_the_way {root} (folder ∷ folders) none =
    and_from _ _ (ap is_folder_or_free (none folder)) (none_in_the_way folders none)

pub way_in_base : (job : Job) (root : Tree) (object : Carried) → IsRooted root → is_way_free job (base job.tuples root) object ≡ is_way_free job root object
way_in_base job root object rooted = by (root []) refl
  where
    by : (o : Option Entry) → root [] ≡ o → is_way_free job (base_where job.tuples root o) object ≡ is_way_free job root object
    by None e = new_root_ways job object ∙ sym (none_in_the_way (tuple_folders job object) (λ q. rooted e q))
    by (Some entry) e = refl

pub way_stays_free : WayStaysFree
way_stays_free job source root k object rooted = way_with_objects job (carried_among job source root k) (base job.tuples root) object
    ∙ way_in_base job root object rooted

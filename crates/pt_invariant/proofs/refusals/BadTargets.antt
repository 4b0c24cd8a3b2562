-- Over a root that can't be gone on with no run can end well.
use Rattle.std.proofs.Common.{inl, inr, ◌≡◌, ℕ, zero, suc, Bool, true, List, [], ◌∷◌, ap, sym, ◌∙◌}
use Rattle.std.specs.List.{list_all}
use Rattle.std.specs.Prelude.{Some, flat_map, slice_get}
use Rattle.std.proofs.lemmas.Bool.{and_parts, true≢false}
use Rattle.std.proofs.lemmas.List.Folds.{list_all-append}
use Rattle.pt_object.specs.FilePaths.{File}
use Rattle.pt_object.specs.RootFiles.{root_files_of}
use Rattle.pt_tree.specs.Path.{Path}
use Rattle.pt_tree.specs.Tree.{Bytes}
use Rattle.pt_plan.specs.Carried.{Marked, carried_by, is_folder_or_free, is_way_free, marked}
use Rattle.pt_plan.specs.Roots.{root_in, tuple_folders}
use Rattle.pt_invariant.specs.RefusalLaws.{BadTargetIsNone, HasOtherFile, IsBarred, IsNoFolder}
use Rattle.pt_invariant.proofs.items.PlacesTell.{all_at}
use Rattle.pt_invariant.proofs.dest.StartsDest.{root_stands}
use Rattle.pt_invariant.proofs.Tests.{all_true}

-- what passes for all passes for the one that comes of an element
one_passes : {X Y : Type 0} → (f : X → List Y) (test : Y → Bool) (xs : List X) (k : ℕ) {x : X} {y : Y} → list_all test (flat_map f xs) ≡ true
    → slice_get xs k ≡ Some x → f x ≡ y ∷ [] → test y ≡ true
one_passes f test [] k all is comes = absurd (cc)
one_passes f test (z ∷ xs) zero {x} {y} all is comes =
    let same : z ≡ x = cc in
    let parts = and_parts (list_all test (f z)) (list_all test (flat_map f xs)) (sym (list_all-append test (f z) (flat_map f xs)) ∙ all) in
    (and_parts (test y) true (ap (list_all test) (sym (ap f same ∙ comes)) ∙ parts.0)).0
one_passes f test (z ∷ xs) (suc k) all is comes =
    let parts = and_parts (list_all test (f z)) (list_all test (flat_map f xs)) (sym (list_all-append test (f z) (flat_map f xs)) ∙ all) in
    one_passes f test xs k parts.1 is comes

pub bad_target_is_none : BadTargetIsNone
bad_target_is_none _ _ _ _ (IsNoFolder bad) (inl free) = true≢false (ap is_folder_or_free (sym (free [])) ∙ bad)
bad_target_is_none job _ t tree (IsNoFolder bad) (inr usable) = true≢false (ap is_folder_or_free (sym (root_stands job t tree usable.files)) ∙ bad)
bad_target_is_none job source t tree (HasOtherFile number file top is other) (inl free) = absurd (let no = sym (free []) ∙ top in cc)
bad_target_is_none job _ t _ (HasOtherFile number _ _ is other) (inr usable) = other
    (all_at (λ (f : File). root_in t f.0 ≡ Some (Bytes f.1)) (root_files_of job.tuples) number usable.files is)
bad_target_is_none job _ t _ (IsBarred object _ bad) (inl free) =
    true≢false (sym (all_true (λ (folder : Path). is_folder_or_free (root_in t folder)) (λ folder. ap is_folder_or_free (free folder))
    (tuple_folders job object)) ∙ bad)
bad_target_is_none job source t _ (IsBarred _ (k, (_, is, comes)) bad) (inr usable) =
    true≢false (sym (one_passes (λ (n : Marked). carried_by job n.1 n.0.verdict) (is_way_free job (root_in t)) (marked job source (root_in t)) k usable.ways is
    comes) ∙ bad)

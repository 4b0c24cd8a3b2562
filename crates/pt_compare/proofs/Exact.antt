-- What is found of an object that stands.
use Rattle.std.proofs.Common.{◌≡◌, ◌∙◌, inl, inr, ℕ, List, [], true, refl, sym, ap, subst}
use Rattle.std.specs.Prelude.{Option, None, Some, IsSome}
use Rattle.std.specs.Option.{option_map}
use Rattle.pt_compare.specs.CompareLaws.{StandingObjectIsTheSame}
use Rattle.pt_compare.specs.Described.{IsMade}
use Rattle.pt_compare.specs.Found.{HaveOtherBytes, HaveOtherKinds, IsOtherFile, IsWrong, Sought, object_with, shape, version_inventory}
use Rattle.pt_compare.specs.Marks.{kind_in}
use Rattle.pt_compare.specs.Parts.{early_items, last_items}
use Rattle.pt_compare.specs.declared.difference.Comparison.TheVariants as found
use Rattle.pt_compare.specs.declared.difference.Why.{Why}
use Rattle.pt_compare.specs.declared.difference.Why.TheVariants as why
use Rattle.pt_compare.proofs.Findings.{are_items, at_top, kinds, locate}
use Rattle.pt_compare.proofs.Made.{kind_none}
use Rattle.pt_object.specs.FilePaths.{are_apart, paths_of}
use Rattle.pt_tree.specs.PathOrder.{part_in_order}
use Rattle.pt_object.specs.Script.{MakeFile}
use Rattle.pt_tree.specs.Path.{Path}
use Rattle.pt_tree.specs.Tree.{Bytes, Folder, Tree, kind_of_entry}

none_and_some : {A : Type 0} (o : Option A) → IsSome o → o ≡ None → ⊥
none_and_some None some none = absurd (let e = some in cc)
none_and_some (Some x) some none = absurd (cc)

module _ (sought : Sought) (t : Tree) (order : part_in_order (paths_of sought.stored) ≡ true) (apart : are_apart (paths_of sought.stored) ≡ true)
    (inventory : List ℕ) (made : IsMade sought.text_with inventory) (all : (q : Path) → t q ≡ object_with sought inventory q) where
  pub top_is : t [] ≡ Some Folder
  top_is = all [] ∙ at_top sought order apart t inventory

  pub inventory_is : t version_inventory ≡ Some (Bytes inventory)
  inventory_is = all version_inventory ∙ (locate sought order apart t inventory (early_items sought.stored) (MakeFile version_inventory inventory)
      (last_items sought.algorithm inventory) (are_items sought order apart t inventory)).wanted

  just_it : (other : List ℕ) → t version_inventory ≡ Some (Bytes other) → other ≡ inventory
  just_it other is = let e : Some (Bytes other) ≡ Some (Bytes inventory) = sym is ∙ inventory_is in cc

  kind_is : (q : Path) → kind_in t q ≡ kind_in (shape sought) q
  kind_is q = ap (option_map kind_of_entry) (all q) ∙ kinds sought order apart t inventory [] q

  no_other_bytes : (q : Path) → HaveOtherBytes (object_with sought inventory) t q → ⊥
  no_other_bytes q (bytes, other, wants, has, differ) = differ (let e : Some (Bytes other) ≡ Some (Bytes bytes) = sym has ∙ all q ∙ wants in cc)

  no_other_file : (q : Path) → IsOtherFile sought t q → ⊥
  no_other_file q (inl each) = no_other_bytes q (each inventory)
  no_other_file q (inr (inl (at, (other, has, is_other)))) =
      is_other (subst (IsMade sought.text_with) (sym (just_it other (subst (λ (p : Path). t p ≡ Some (Bytes other)) at has))) made)
  no_other_file q (inr (inr (other, held, differs))) =
      no_other_bytes q (subst (λ (b : List ℕ). HaveOtherBytes (object_with sought b) t q) (just_it other held.0) differs)

  no_other_kind : (q : Path) → HaveOtherKinds (shape sought) t q → ⊥
  no_other_kind q (entry, other, wants, has, differ) =
      differ (let e : Some (kind_of_entry other) ≡ Some (kind_of_entry entry) = ap (option_map kind_of_entry) (sym has) ∙ kind_is q
      ∙ ap (option_map kind_of_entry) wants in cc)

  nothing_wrong : (q : Path) (w : Why) → IsWrong sought t q w → ⊥
  nothing_wrong q why.Missing wrong =
      none_and_some (shape sought q) wrong.0 (kind_none (shape sought) q (sym (kind_is q) ∙ ap (option_map kind_of_entry) wrong.1))
  nothing_wrong q why.Extra wrong =
      none_and_some (t q) wrong.1 (kind_none t q (kind_is q ∙ ap (option_map kind_of_entry) wrong.0))
  nothing_wrong q why.Kind wrong = no_other_kind q wrong
  nothing_wrong q why.Bytes wrong = no_other_file q wrong

pub standing_object_is_the_same : StandingObjectIsTheSame
standing_object_is_the_same sought t found.Same order apart stands is = refl
standing_object_is_the_same sought t found.Absent order apart (inventory, made, all) is =
    let top : Some Folder ≡ None = sym (top_is sought t order apart inventory made all) ∙ is in absurd (cc)
standing_object_is_the_same sought t (found.Differs d) order apart (inventory, made, all) is =
    absurd (nothing_wrong sought t order apart inventory made all d.path d.why is.0)

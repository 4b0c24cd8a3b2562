-- What is told of a destination.
use Rattle.std.proofs.Common.{◌≡◌, ◌+◌, ℕ, Bool, true, false, List, [], refl, sym, subst, cond}
use Rattle.pt_extra.proofs.Unlisted.{told_found}
use Rattle.pt_extra.specs.Findings.{Against, found_at}
use Rattle.pt_extra.specs.Lines.{ExtraFinding}
use Rattle.pt_extra.specs.Unlisted.{IsToldAt, IsToldIn}
use Rattle.pt_extra.specs.Walk.{found_in}
use Rattle.pt_object.specs.WellKnown.{known_text}
use Rattle.pt_object.specs.declared.well_known.WellKnownName.TheVariants as known
use Rattle.pt_plan.specs.Roots.{storage_root}
use Rattle.pt_plan.specs.TurnStart.{is_dir_kind, kind_in}
use Rattle.pt_plan.specs.TurnWalk.{in_root}
use Rattle.pt_tree.specs.Forest.{Forest, listing_of}
use Rattle.pt_tree.specs.Path.{Path}
use Rattle.pt_walk.specs.Left.{inside_at}

-- nothing where it has no storage root
pub told_no_root : (F : Type 0) (c : Against) (r : Forest) → is_dir_kind (kind_in (listing_of r) (known_text known.StorageRoot)) ≡ false → IsToldIn F c r []
told_no_root F c r lacks = by [] refl
  where
    by : (told : List ExtraFinding) → told ≡ [] → IsToldIn F c r told
    by told none = subst (λ (t : Bool). cond t (IsToldAt F c [] (c.job.tuples.count + 1) (inside_at r storage_root) told) (told ≡ [])) (sym lacks) none

-- else what is told of that
pub told_of_root : (F : Type 0) (c : Against) (r : Forest) (top : Path) (left : ℕ) (told : List ExtraFinding)
    → is_dir_kind (kind_in (listing_of r) (known_text known.StorageRoot)) ≡ true → top ≡ [] → left ≡ c.job.tuples.count + 1
    → IsToldAt F c top left (inside_at r (in_root top)) told → IsToldIn F c r told
told_of_root F c r top left told stands top_is left_is it =
    subst (λ (t : Bool). cond t (IsToldAt F c [] (c.job.tuples.count + 1) (inside_at r storage_root) told) (told ≡ [])) (sym stands)
    (subst (λ (n : ℕ). IsToldAt F c [] n (inside_at r (in_root [])) told) left_is
    (subst (λ (p : Path). IsToldAt F c p left (inside_at r (in_root p)) told) top_is it))

-- all that is found of it may be told
pub told_all : (F : Type 0) (c : Against) (r : Forest) → IsToldIn F c r (found_in c r)
told_all F c r = by (is_dir_kind (kind_in (listing_of r) (known_text known.StorageRoot)))
  where
    by : (b : Bool) → cond b (IsToldAt F c [] (c.job.tuples.count + 1) (inside_at r storage_root)
        (cond b (found_at c [] (c.job.tuples.count + 1) (inside_at r storage_root)) []))
        (cond b (found_at c [] (c.job.tuples.count + 1) (inside_at r storage_root)) [] ≡ [])
    by true = told_found F c [] (c.job.tuples.count + 1) (inside_at r storage_root)
    by false = refl

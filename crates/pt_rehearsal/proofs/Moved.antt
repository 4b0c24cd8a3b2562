-- What is remembered once the directory that was filled is moved to the top.
use Rattle.std.proofs.Common.{◌≡◌, ◌≤◌, ◌<◌, ℕ, List, [], ◌∷◌, true, refl, ap, sym, ◌∙◌, arith, length, slice_index_or}
use Rattle.std.specs.Prelude.{Bool, false, is_some, Option, None, Some}
use Rattle.std.specs.Option.{option_map}
use Rattle.pt_tree.specs.Path.{Path}
use Rattle.pt_rehearsal.specs.Seeing.{Becomes, View, Within, moved_known, renamed_to, with_folder}

pub moved_top : (v w : View) (to : Path) (n : List ℕ) (filled : Option Within) → to ≡ n ∷ [] → v.filled ≡ None → w ≡ with_folder to v
    → filled ≡ renamed_to n v.filling
    → Becomes (moved_known v to) true v (record { folder = w.folder; filling = None; filled = filled; least = w.least })
moved_top v w to n filled is nothing made named = rw (made, is, nothing, named) (refl, refl)

pub not_some : {A B : Type 0} (f : A → B) (o : Option A) (b : Bool) → b ≡ is_some o → b ≡ false → option_map f o ≡ None
not_some f None b is isnt = refl
not_some f (Some x) b is isnt = absurd (cc)

pub single : {A : Type 0} (all xs : List A) (x name : A) → xs ≡ all → 1 ≤ length xs → length xs < 2 → x ≡ slice_index_or xs 0 x → name ≡ x → all ≡ name ∷ []
single all [] x name same least below is copied = absurd (omega (arith, least))
single all (y ∷ []) x name same least below is copied = sym same ∙ ap (λ z. z ∷ []) (sym is ∙ sym copied)
single all (y ∷ z ∷ zs) x name same least below is copied = absurd (omega (arith, below))

-- What a call of a destination in memory gives is what the trait says.
use Rattle.std.proofs.Common.{◌≡◌, ℕ, List, [], ◌∷◌, ◌++◌, true, false, refl, sym, ◌∙◌, ap}
use Rattle.std.specs.Prelude.{Bool, cond, take, is_some, Option, None, Some, Result}
use Rattle.std.specs.Option.{option_map}
use Rattle.std.proofs.lemmas.List.{append-nil}
use Rattle.pt_tree.specs.declared.kind.Kind.{Kind}
use Rattle.pt_memory.specs.declared.planting.PlantFault.TheVariants as fault
use Rattle.pt_tree.specs.Path.{Path, split_path, same_path}
use Rattle.pt_tree.specs.Forest.{Forest, file_at}
use Rattle.pt_tree.specs.Tree.{Entry, Bytes, Folder, Special, Tree, tree_of, bytes_of, edited_by, kind_of_entry, CanMake, CanMove}
use Rattle.pt_tree.specs.declared.faults.TreeFault.{TreeFault}
use Rattle.pt_memory.specs.MemDest.{DestState, Passes}
use Rattle.pt_memory.specs.Planting.{is_folder, plant_refusal}
use Rattle.pt_tree.specs.Dest.{Writing, IsKindAt, CanPeek, IsPeeked, MayMake, MayMove, LeavesPart, added_to}
use Rattle.pt_tree.proofs.AtPaths.{bytes_at, same_from}

pub kind_told : (s : Writing) (p : Path) (k : Option Kind) → k ≡ option_map kind_of_entry (s.tree p) → IsKindAt (Some s) p k
unfolding IsKindAt
kind_told s p k h = λ x e. let same : s ≡ x = cc in ap (λ (s : Writing). option_map kind_of_entry (s.tree p)) (sym same) ∙ sym h

pub file_told : (f : Forest) (w : Option Path) (p : Path) → CanPeek (Some (record { tree = tree_of f; writing = w })) p → None ≡ file_at f p → ⊥
unfolding CanPeek
file_told f w p can h = let some = can (record { tree = tree_of f; writing = w }) refl in let none = ap is_some (bytes_at f p ∙ sym h) in cc

pub peek_told : (f : Forest) (w : Option Path) (p : Path) (bytes block : List ℕ) → Some bytes ≡ file_at f p → block ≡ take 8192 bytes
    → IsPeeked (Some (record { tree = tree_of f; writing = w })) p block
unfolding IsPeeked
peek_told f w p bytes block is b = λ x e.
    let same : record { tree = tree_of f; writing = w } ≡ x = cc in
    ap (λ (s : Writing). option_map (take 8192) (bytes_of (s.tree p))) (sym same) ∙ ap (option_map (take 8192)) (bytes_at f p ∙ sym is)
    ∙ ap (λ (l : List ℕ). Some l) (sym b)

may_make : (s : Writing) (p : Path) → MayMake (Some s) p → CanMake s.tree p
unfolding MayMake
may_make s p may = may s refl

pub may_move : (s : Writing) (from to : Path) → MayMove (Some s) from to → CanMove s.tree from to
unfolding MayMove
may_move s from to may = may s refl

free : (f : Forest) (p : Path) → CanMake (tree_of f) p → plant_refusal (tree_of f) p ≡ None
free f [] can = absurd (let absent = can.absent in cc)
free f (n ∷ p) can =
    ap (λ o. cond (is_folder o) (cond (is_some (tree_of f (n ∷ p))) (Some fault.Taken) None) (Some fault.NoParent)) can.in_folder
    ∙ ap (λ o. cond (is_some o) (Some fault.Taken) None) can.absent

pub may_plant : (f : Forest) (w : Option Path) (p : Path) → MayMake (Some (record { tree = tree_of f; writing = w })) p → plant_refusal (tree_of f) p ≡ None
may_plant f w p may = free f p (may_make (record { tree = tree_of f; writing = w }) p may)

pub not_top : (f : Forest) (w : Option Path) (p : Path) → MayMake (Some (record { tree = tree_of f; writing = w })) p → None ≡ split_path p → ⊥
not_top f w [] may h = let absent = (may_make (record { tree = tree_of f; writing = w }) [] may).absent in cc
not_top f w (n ∷ p) may h = cc

added_nothing : (t : Tree) (w : Option Path) → t ≡ added_to t w []
added_nothing t None = refl
added_nothing t (Some p) = λ i q. at q (same_path q p) refl i
  where
    same : (o : Option Entry) → o ≡ edited_by (λ bytes. bytes ++ []) o
    same None = refl
    same (Some (Bytes b)) = ap (λ (l : List ℕ). Some (Bytes l)) (sym (append-nil b))
    same (Some Folder) = refl
    same (Some Special) = refl

    at : (q : Path) (s : Bool) → same_path q p ≡ s → t q ≡ cond s (edited_by (λ bytes. bytes ++ []) (t p)) (t q)
    at q true is = ap t (same_from q p is) ∙ same (t p)
    at q false is = refl

-- where memory runs out, nothing of the piece is left
pub leaves_nothing : (t s : Tree) (w : Option Path) (piece : List ℕ) → s ≡ t
    → LeavesPart (Some (record { tree = t; writing = w })) (Some (record { tree = s; writing = w })) piece
leaves_nothing t s w piece is = record { count = 0; left = λ i. Some (record { tree = (is ∙ added_nothing t w) i; writing = w }) }

-- the call passes the fuse
pub passes : {T : Type 0} (blown : Bool) (old new : DestState) (r : Result T TreeFault) (P : Type 0) → blown ≡ false → P → Passes blown old new r P
passes true old new r P passed p = absurd (cc)
passes false old new r P passed p = p

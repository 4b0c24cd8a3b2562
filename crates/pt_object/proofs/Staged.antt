-- A script carried out below a folder of another tree.
use Rattle.std.proofs.Common.{◌≡◌, ℕ, List, [], ◌∷◌, Bool, true, false, refl, sym, ◌∙◌, ap}
use Rattle.std.specs.Prelude.{cond, ◌&&◌, map, None, Some}
use Rattle.std.specs.Str.{bytes_eq}
use Rattle.pt_tree.specs.Path.{Path, same_path, parent}
use Rattle.pt_tree.specs.Tree.{Entry, Folder, Tree, put, CanMake}
use Rattle.pt_object.specs.Holding.{placed, placed_at, IsFree}
use Rattle.pt_object.specs.Script.{Item, MakeFolder, MakeFile, item_entry, done, item_in}
use Rattle.pt_object.proofs.Ways.{same_name, name_itself, bytes_eq-sym}
use Rattle.pt_object.proofs.Making.{Carries, carries_item, on_way}

module _ (start : Tree) (s : List ℕ) where
  at : (t : Tree) (p : Path) → placed start (s ∷ []) t (s ∷ p) ≡ t p
  at t p = ap (λ b. placed_at t (cond b (Some p) None) (start (s ∷ p))) (name_itself s)

  can_placed : (t : Tree) (p : Path) → CanMake t p → CanMake (placed start (s ∷ []) t) (s ∷ p)
  can_placed t [] can = absurd (let none = can.absent in let folder = can.in_folder in cc)
  can_placed t (x ∷ p) can = record { absent = at t (x ∷ p) ∙ can.absent; in_folder = at t (parent (x ∷ p)) ∙ can.in_folder }

  put_placed_at : (t : Tree) (p : Path) (e : Entry) (q : Path) → put (placed start (s ∷ []) t) (s ∷ p) e q ≡ placed start (s ∷ []) (put t p e) q
  put_placed_at t p e [] = refl
  put_placed_at t p e (m ∷ q) = by (bytes_eq s m) refl
    where
      by : (b : Bool) → bytes_eq s m ≡ b → cond (bytes_eq m s && same_path q p) (Some e) (placed_at t (cond b (Some q) None) (start (m ∷ q)))
          ≡ placed_at (put t p e) (cond b (Some q) None) (start (m ∷ q))
      by true is = ap (λ c. cond (c && same_path q p) (Some e) (t q)) (bytes_eq-sym s m true is)
      by false is = ap (λ c. cond (c && same_path q p) (Some e) (start (m ∷ q))) (bytes_eq-sym s m false is)

  put_placed : (t : Tree) (p : Path) (e : Entry) → put (placed start (s ∷ []) t) (s ∷ p) e ≡ placed start (s ∷ []) (put t p e)
  put_placed t p e i q = put_placed_at t p e q i

  pub staged : (script : List Item) (t u : Tree) → Carries script t u → Carries (map (item_in (s ∷ [])) script) (placed start (s ∷ []) t)
      (placed start (s ∷ []) u)
  staged [] t u c = record { can = tt; leaves = ap (placed start (s ∷ [])) c.leaves }
  staged (MakeFolder p ∷ script) t u c =
      carries_item (MakeFolder (s ∷ p)) (map (item_in (s ∷ [])) script) _ _ _ (can_placed t p c.can.0) (put_placed t p Folder)
      (staged script (done (MakeFolder p) t) u (record { can = c.can.1; leaves = c.leaves }))
  staged (MakeFile p bytes ∷ script) t u c =
      carries_item (MakeFile (s ∷ p) bytes) (map (item_in (s ∷ [])) script) _ _ _ (can_placed t p c.can.0) (put_placed t p (item_entry (MakeFile p bytes)))
      (staged script (done (MakeFile p bytes) t) u (record { can = c.can.1; leaves = c.leaves }))

  module _ (top : start [] ≡ Some Folder) (free : IsFree start (s ∷ [])) where
    first_at : (q : Path) → done (MakeFolder (s ∷ [])) start q ≡ placed start (s ∷ []) (on_way [] []) q
    first_at [] = refl
    first_at (m ∷ q) = by (bytes_eq s m) refl q
      where
        by : (b : Bool) → bytes_eq s m ≡ b → (q : Path) → cond (bytes_eq m s && same_path q []) (Some Folder) (start (m ∷ q))
            ≡ placed_at (on_way [] []) (cond b (Some q) None) (start (m ∷ q))
        by true is [] = ap (λ c. cond (c && true) (Some Folder) (start (m ∷ []))) (bytes_eq-sym s m true is)
        by true is (n ∷ q) = ap (λ c. cond (c && false) (Some Folder) (start (m ∷ n ∷ q))) (bytes_eq-sym s m true is)
            ∙ ap (λ (x : List ℕ). start (x ∷ n ∷ q)) (sym (same_name s m is)) ∙ free (n ∷ q)
        by false is q = ap (λ c. cond (c && same_path q []) (Some Folder) (start (m ∷ q))) (bytes_eq-sym s m false is)

    first : done (MakeFolder (s ∷ [])) start ≡ placed start (s ∷ []) (on_way [] [])
    first i q = first_at q i

    -- with the folder itself made first
    pub staged_first : (script : List Item) (u : Tree) → Carries script (on_way [] []) u
        → Carries (map (item_in (s ∷ [])) (MakeFolder [] ∷ script)) start (placed start (s ∷ []) u)
    staged_first script u c =
        carries_item (MakeFolder (s ∷ [])) (map (item_in (s ∷ [])) script) start _ _ (record { absent = free []; in_folder = top }) first
        (staged script (on_way [] []) u c)

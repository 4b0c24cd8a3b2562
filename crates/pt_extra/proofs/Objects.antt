-- What is found of an object.
use Rattle.std.proofs.Common.{◌≡◌, ℕ, Bool, true, false, List, [], ◌∷◌, sym, ap, ◌∙◌, cond, drop, length}
use Rattle.std.specs.Prelude.{◌&&◌, Some}
use Rattle.pt_audit.specs.Twin.{object_stands, proper_site}
use Rattle.pt_extra.specs.Findings.{Against, entry_of, is_held, of_object, of_placed}
use Rattle.pt_extra.specs.Lines.{Extra, Stray}
use Rattle.pt_name.specs.Place.{place_of}
use Rattle.pt_name.specs.Share.{Portion, begins_with, takes}
use Rattle.pt_tree.specs.Path.{Path, same_path}

chosen_at : (c : Against) (path : Path) (id : List ℕ) (at : Bool) → takes c.job.share (entry_of path) id ≡ true → same_path path (place_of c.job.tuples id) ≡ at
    → of_object c path (Some id) ≡ cond at (of_placed c path id) (Stray path ∷ [])
chosen_at c path id at chosen same =
    ap (λ (t : Bool). cond t (cond (same_path path (place_of c.job.tuples id)) (of_placed c path id) (Stray path ∷ [])) []) chosen
    ∙ ap (λ (t : Bool). cond t (of_placed c path id) (Stray path ∷ [])) same

-- whether it is chosen, as that is asked of its identifier's text
pub chosen_as : (share : Portion) (entry : Path) (text id : List ℕ) (t b : Bool) → text ≡ id → t ≡ takes share entry text → t ≡ b
    → takes share entry id ≡ b
chosen_as share entry text id t b is asked so = ap (takes share entry) (sym is) ∙ sym asked ∙ so

-- nothing where it isn't chosen, or is another share's
pub of_other : (c : Against) (path : Path) (id : List ℕ) → takes c.job.share (entry_of path) id ≡ false → of_object c path (Some id) ≡ []
of_other c path id other =
    ap (λ (t : Bool). cond t (cond (same_path path (place_of c.job.tuples id)) (of_placed c path id) (Stray path ∷ [])) []) other

-- it is stray where its place is another
pub of_misplaced : (c : Against) (path : Path) (id : List ℕ) → takes c.job.share (entry_of path) id ≡ true → same_path path (place_of c.job.tuples id) ≡ false
    → of_object c path (Some id) ≡ Stray path ∷ []
of_misplaced c path id chosen other = chosen_at c path id false chosen other

placed_by : (c : Against) (path : Path) (id : List ℕ) (h : Bool) → takes c.job.share (entry_of path) id ≡ true
    → same_path path (place_of c.job.tuples id) ≡ true
    → h ≡ is_held c id → of_object c path (Some id) ≡ cond h [] (Extra id path ∷ [])
placed_by c path id h chosen same is = chosen_at c path id true chosen same ∙ ap (λ (t : Bool). cond t [] (Extra id path ∷ [])) (sym is)

-- else it is extra
pub of_unheld : (c : Against) (path : Path) (id : List ℕ) → takes c.job.share (entry_of path) id ≡ true → same_path path (place_of c.job.tuples id) ≡ true
    → false ≡ is_held c id → of_object c path (Some id) ≡ Extra id path ∷ []
of_unheld c path id chosen same is = placed_by c path id false chosen same is

-- and nothing is found of it where the store has it
pub of_held : (c : Against) (path : Path) (id : List ℕ) → takes c.job.share (entry_of path) id ≡ true → same_path path (place_of c.job.tuples id) ≡ true
    → true ≡ is_held c id → of_object c path (Some id) ≡ []
of_held c path id chosen same is = placed_by c path id true chosen same is

-- an identifier that begins otherwise isn't held
pub not_begun : (c : Against) (id : List ℕ) → begins_with c.prefix id ≡ false → false ≡ is_held c id
not_begun c id begins = sym (ap (λ (t : Bool). t && object_stands c.job c.store (proper_site (drop (length c.prefix) id))) begins)

-- of one that begins so it is asked whether an object stands where it belongs
pub held_by : (c : Against) (id : List ℕ) (h : Bool) → begins_with c.prefix id ≡ true
    → h ≡ object_stands c.job c.store (proper_site (drop (length c.prefix) id)) → h ≡ is_held c id
held_by c id h begins is = is ∙ sym (ap (λ (t : Bool). t && object_stands c.job c.store (proper_site (drop (length c.prefix) id))) begins)

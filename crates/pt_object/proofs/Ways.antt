-- Paths that lead to others, and what a list of files holds at and below a path.
use Rattle.std.proofs.Common.{◌≡◌, ℕ, List, [], ◌∷◌, ◌++◌, Bool, true, false, refl, sym, ◌∙◌, ap}
use Rattle.std.specs.Prelude.{cond, ◌&&◌, ◌||◌, Option, None, Some, is_some, is_none}
use Rattle.std.specs.List.{list_all}
use Rattle.std.specs.Option.{option_or}
use Rattle.std.specs.Str.{bytes_eq}
use Rattle.std.proofs.lemmas.Bool.{true≢false, false≢true, and_parts}
use Rattle.std.proofs.lemmas.List.Folds.{list_any-append}
use Rattle.std.proofs.Math.Bool.{or-false}
use Rattle.pt_tree.specs.Path.{Path, same_path, rest_below}
pub use Rattle.pt_tree.proofs.AtPaths.{parent-last as push-parent, path_itself, same_from as is_same}
pub use Rattle.pt_tree.proofs.Names.{bytes_eq-sym, name_itself, same_name}
pub use Rattle.pt_tree.proofs.Paths.{parent-push}
use Rattle.pt_object.specs.FilePaths.{File, are_apart, is_apart, paths_of}
use Rattle.pt_object.specs.Holding.{held_at, leads_to}

-- q is p or below it
abbrev pub leads : Path → Path → Bool
leads p q = is_some (rest_below p q)

pub leads-itself : (p : Path) → leads p p ≡ true
leads-itself [] = refl
leads-itself (x ∷ p) = ap (λ b. is_some (cond b (rest_below p p) None)) (name_itself x) ∙ leads-itself p

-- below one folder nothing changes
pub leads-below : (b p q : Path) → leads (b ++ p) (b ++ q) ≡ leads p q
leads-below [] p q = refl
leads-below (x ∷ b) p q = ap (λ t. is_some (cond t (rest_below (b ++ p) (b ++ q)) None)) (name_itself x) ∙ leads-below b p q

-- a longer path leads to no shorter one
pub leads-longer : (b p : Path) (n : List ℕ) → leads (b ++ n ∷ p) b ≡ false
leads-longer [] p n = refl
leads-longer (x ∷ b) p n = ap (λ t. is_some (cond t (rest_below (b ++ n ∷ p) b) None)) (name_itself x) ∙ leads-longer b p n

-- what leads to a folder leads to what is in it
pub leads-on : (q b p : Path) → leads q b ≡ true → leads q (b ++ p) ≡ true
leads-on [] b p h = refl
leads-on (y ∷ q) [] p h = absurd (false≢true h)
leads-on (y ∷ q) (x ∷ b) p h = by (λ g. leads-on q b p g) (bytes_eq y x) h
  where
    by : (leads q b ≡ true → leads q (b ++ p) ≡ true) → (t : Bool) → is_some (cond t (rest_below q b) None) ≡ true
        → is_some (cond t (rest_below q (b ++ p)) None) ≡ true
    by later true h = later h
    by later false h = absurd (false≢true h)

-- one name more
pub leads-push : (q b : Path) (x : List ℕ) → leads q (b ++ x ∷ []) ≡ (leads q b || same_path q (b ++ x ∷ []))
leads-push [] b x = refl
leads-push (y ∷ q) [] x = by (bytes_eq y x) q
  where
    by : (t : Bool) (q : Path) → is_some (cond t (rest_below q []) None) ≡ (t && same_path q [])
    by true [] = refl
    by true (z ∷ q) = refl
    by false q = refl
leads-push (y ∷ q) (z ∷ b) x = by (bytes_eq y z) (leads-push q b x)
  where
    by : (t : Bool) → leads q (b ++ x ∷ []) ≡ (leads q b || same_path q (b ++ x ∷ []))
        → is_some (cond t (rest_below q (b ++ x ∷ [])) None) ≡ (is_some (cond t (rest_below q b) None) || (t && same_path q (b ++ x ∷ [])))
    by true later = later
    by false later = refl

-- the top is no other path
pub top_differs : (b : Path) (x : List ℕ) → same_path [] (b ++ x ∷ []) ≡ false
top_differs [] x = refl
top_differs (y ∷ b) x = refl

-- ---- lists of files that grow

abbrev pub bytes_if : Bool → List ℕ → Option (List ℕ)
bytes_if b bytes = cond b (Some bytes) None

pub held_at-push : (E : List File) (f : File) (q : Path) → held_at (E ++ f ∷ []) q ≡ option_or (held_at E q) (bytes_if (same_path q f.0) f.1)
held_at-push [] f q = refl
held_at-push (e ∷ E) f q = by (same_path q e.0) (held_at-push E f q)
  where
    by : (t : Bool) → held_at (E ++ f ∷ []) q ≡ option_or (held_at E q) (bytes_if (same_path q f.0) f.1)
        → cond t (Some e.1) (held_at (E ++ f ∷ []) q) ≡ option_or (cond t (Some e.1) (held_at E q)) (bytes_if (same_path q f.0) f.1)
    by true later = refl
    by false later = later

pub leads_to-push : (E : List File) (f : File) (q : Path) → leads_to (E ++ f ∷ []) q ≡ (leads_to E q || leads q f.0)
leads_to-push E f q = list_any-append (λ (e : File). leads q e.0) E (f ∷ []) ∙ ap (λ b. leads_to E q || b) (or-false (leads q f.0))

-- ---- files that are apart

-- no earlier file stands on the way to this one, and none stands at it or below it
pub record IsClear (E : List File) (p : Path) : Type 0 where
  pub way : (q : Path) → leads q p ≡ true → held_at E q ≡ None
  pub free : leads_to E p ≡ false

not_some : {A : Type 0} (o : Option A) → is_none o ≡ true → is_some o ≡ false
not_some None h = refl
not_some (Some x) h = absurd (false≢true h)

pub clear_of_none : (p : Path) → IsClear [] p
clear_of_none p = record { way = λ q h. refl; free = refl }

pub clear_of_more : (e : File) (E : List File) (p : Path) → is_apart e.0 p ≡ true → IsClear E p → IsClear (e ∷ E) p
clear_of_more e E p apart clear =
    let parts = and_parts _ _ apart in
    record {
      way = λ q h. at q h (not_some _ parts.0);
      free = ap (λ b. b || leads_to E p) (not_some _ parts.1) ∙ clear.free;
    }
  where
    at : (q : Path) → leads q p ≡ true → leads e.0 p ≡ false → held_at (e ∷ E) q ≡ None
    at q h apart = by (same_path q e.0) refl
      where
        by : (t : Bool) → same_path q e.0 ≡ t → cond t (Some e.1) (held_at E q) ≡ None
        by true same = absurd (true≢false (sym h ∙ ap (λ r. leads r p) (is_same q e.0 same) ∙ apart))
        by false other = clear.way q h

-- so it is where a file comes after others, all of them apart
pub clear_before : (E : List File) (f : File) (files : List File) → are_apart (paths_of (E ++ f ∷ files)) ≡ true → IsClear E f.0
clear_before [] f files apart = clear_of_none f.0
clear_before (e ∷ E) f files apart =
    let parts = and_parts _ _ apart in
    clear_of_more e E f.0 (among E parts.0) (clear_before E f files parts.1)
  where
    among : (E : List File) → list_all (is_apart e.0) (paths_of (E ++ f ∷ files)) ≡ true → is_apart e.0 f.0 ≡ true
    among [] h = (and_parts _ _ h).0
    among (x ∷ E) h = among E (and_parts _ _ h).1

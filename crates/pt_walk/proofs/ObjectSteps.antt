-- What of a walk through an object is still to come, step by step.
use Rattle.std.proofs.Common.{◌≡◌, ℕ, List, [], ◌∷◌, ◌++◌, ◌+◌, suc, zero, true, false, refl, ◌∙◌, ap, sym, append_assoc, append-nil, take}
use Rattle.std.specs.Prelude.{Bool, cond}
use Rattle.pt_tree.specs.declared.kind.Kind.TheVariants as kind
use Rattle.pt_tree.specs.Forest.{Forest, none, dir, Node, File, Dir, Other, kind_of, listing_of}
use Rattle.pt_walk.specs.declared.frame.Frame.{Frame}
use Rattle.pt_walk.specs.Left.{bytes_at, entries_after, entries_from, entries_left, inside_at, is_passed, of_object}
use Rattle.pt_walk.specs.Object.{entries_in, without_shorties}
use Rattle.pt_walk.specs.ObjectWalk.{
  StartsWithTheObject,
  StartsWithTheGathered,
  ReadsTheNextFile,
  MeetsTheNextOther,
  EntersTheNextDirectory,
  PassesTheNextShorty,
  LeavesTheDirectory,
  EndsWithTheObject,
}
use Rattle.pt_walk.specs.Trail.{entered, names_to}
use Rattle.pt_walk.proofs.Ahead.{ahead, dir_ahead, file_ahead, other_ahead, names_to-entry, nothing_ahead}
use Rattle.pt_walk.proofs.Standing.{with_entry}

-- an entry that isn't passed is of the object
of_object-kept : (gathered : Bool) (k : ℕ) (name : List ℕ) (node : Node) (after : Forest) → is_passed gathered k (name, kind_of node) ≡ false
    → of_object gathered k (with_entry name node after) ≡ with_entry name node (of_object gathered k after)
of_object-kept true zero name (File bytes) after kept = refl
of_object-kept true zero name Other after kept = refl
of_object-kept true zero name (Dir inside) after kept = ap (λ b. cond b (without_shorties after) (dir name inside (without_shorties after))) kept
of_object-kept false zero name node after kept = refl
of_object-kept gathered (suc k) name node after kept = refl

-- one that is passed isn't
of_object-passed : (gathered : Bool) (k : ℕ) (name : List ℕ) (node : Node) (after : Forest) → is_passed gathered k (name, kind_of node) ≡ true
    → of_object gathered k (with_entry name node after) ≡ of_object gathered k after
of_object-passed true zero name (File bytes) after passed = absurd (cc)
of_object-passed true zero name Other after passed = absurd (cc)
of_object-passed true zero name (Dir inside) after passed = ap (λ b. cond b (without_shorties after) (dir name inside (without_shorties after))) passed
of_object-passed false zero name node after passed = absurd (cc)
of_object-passed gathered (suc k) name node after passed = absurd (cc)

never_passed_file : (gathered : Bool) (k : ℕ) (name : List ℕ) → is_passed gathered k (name, kind.File) ≡ false
never_passed_file true zero name = refl
never_passed_file false zero name = refl
never_passed_file gathered (suc k) name = refl

never_passed_other : (gathered : Bool) (k : ℕ) (name : List ℕ) → is_passed gathered k (name, kind.Other) ≡ false
never_passed_other true zero name = refl
never_passed_other false zero name = refl
never_passed_other gathered (suc k) name = refl

of_object-none : (gathered : Bool) (k : ℕ) → of_object gathered k none ≡ none
of_object-none true zero = refl
of_object-none false zero = refl
of_object-none gathered (suc k) = refl

-- the next entry, what is inside it, and the others
entry_next : (gathered : Bool) (top : Forest) (k : ℕ) (frame : Frame) (frames : List Frame) (name : List ℕ) (node : Node)
    → entries_from frame.place (inside_at top (names_to frames)) ≡ with_entry name node (entries_from (frame.place + 1) (inside_at top (names_to frames)))
    → is_passed gathered k (name, kind_of node) ≡ false
    → entries_left gathered top (suc k) (frame ∷ frames)
    ≡ entries_in (names_to (take k frames)) (with_entry name node (of_object gathered k (entries_from (frame.place + 1) (inside_at top (names_to frames)))))
    ++ entries_after gathered top k frames
entry_next gathered top k frame frames name node rest kept =
    ap (λ (f : Forest). entries_in (names_to (take k frames)) (of_object gathered k f) ++ entries_after gathered top k frames) rest
    ∙ ap (λ (f : Forest). entries_in (names_to (take k frames)) f ++ entries_after gathered top k frames)
    (of_object-kept gathered k name node (entries_from (frame.place + 1) (inside_at top (names_to frames))) kept)

pub starts : StartsWithTheObject
starts top frame frames name inside e inside_is =
    let names : names_to (frame ∷ frames) ≡ names_to frames ++ name ∷ [] = names_to-entry frame frames (name, kind.Dir) e in
    append-nil (entries_in [] (inside_at top (names_to (frame ∷ frames)))) ∙ ap (λ q. entries_in [] (inside_at top q)) names
    ∙ ap (entries_in []) (sym inside_is)

pub starts_gathered : StartsWithTheGathered
starts_gathered top frame frames = append-nil (entries_in [] (without_shorties (inside_at top (names_to frames))))

pub reads : ReadsTheNextFile
reads gathered top k frame frames name proper fits e =
    let it = file_ahead top (names_to frames) frame.listing frame.place name proper fits.0 e in
    entry_next gathered top k frame frames name (File (bytes_at top (names_to frames ++ name ∷ []))) it.rest_is (never_passed_file gathered k name)

pub meets : MeetsTheNextOther
meets gathered top k frame frames name proper fits e =
    entry_next gathered top k frame frames name Other (other_ahead top (names_to frames) frame.listing frame.place name proper fits.0 e)
    (never_passed_other gathered k name)

pub enters : EntersTheNextDirectory
enters gathered top k frame frames name inside proper fits e kept inside_is =
    let it = dir_ahead top (names_to frames) frame.listing frame.place name proper fits.0 e in
    let own = names_to (take k frames) in
    let inner = inside_at top (names_to frames ++ name ∷ []) in
    let names : names_to (frame ∷ frames) ≡ names_to frames ++ name ∷ [] = names_to-entry frame frames (name, kind.Dir) e in
    let own_names : names_to (take (suc k) (frame ∷ frames)) ≡ own ++ name ∷ [] = names_to-entry frame (take k frames) (name, kind.Dir) e in
    let after = entries_in own (of_object gathered k (entries_from (frame.place + 1) (inside_at top (names_to frames)))) in
    entry_next gathered top k frame frames name (Dir inner) it.rest_is kept
    ∙ append_assoc ((own ++ name ∷ [], Dir inner) ∷ entries_in (own ++ name ∷ []) inner) after (entries_after gathered top k frames)
    ∙ ap (λ q. (own ++ name ∷ [], Dir inner) ∷ (entries_in q inner ++ entries_after gathered top (suc k) (frame ∷ frames))) (sym own_names)
    ∙ ap (λ q. (own ++ name ∷ [], Dir inner) ∷ (entries_in (names_to (take (suc k) (frame ∷ frames))) (inside_at top q)
    ++ entries_after gathered top (suc k) (frame ∷ frames))) (sym names)
    ∙ ap (λ d. (own ++ name ∷ [], Dir d) ∷ entries_left gathered top (suc (suc k)) (entered (listing_of inside) (frame ∷ frames))) (sym inside_is)

pub passes : PassesTheNextShorty
passes gathered top k frame frames item proper fits e passed =
    let it = ahead top (names_to frames) frame.listing frame.place item proper fits.0 e in
    let after = entries_from (frame.place + 1) (inside_at top (names_to frames)) in
    ap (λ (f : Forest). entries_in (names_to (take k frames)) (of_object gathered k f) ++ entries_after gathered top k frames) it.rest_is
    ∙ ap (λ (f : Forest). entries_in (names_to (take k frames)) f ++ entries_after gathered top k frames)
    (of_object-passed gathered k item.0 it.node after (ap (λ t. is_passed gathered k (item.0, t)) it.kind_is ∙ passed))

pub leaves : LeavesTheDirectory
leaves gathered top k frame outer frames fits e =
    ap (λ (f : Forest). entries_in (names_to (take (suc k) (outer ∷ frames))) f ++ entries_after gathered top (suc k) (outer ∷ frames))
    (nothing_ahead top (names_to (outer ∷ frames)) frame.listing frame.place fits.0 e)

pub ends : EndsWithTheObject
ends gathered top frame frames fits e =
    ap (λ (f : Forest). entries_in [] (of_object gathered zero f) ++ []) (nothing_ahead top (names_to frames) frame.listing frame.place fits.0 e)
    ∙ ap (λ (f : Forest). entries_in [] f ++ []) (of_object-none gathered zero)

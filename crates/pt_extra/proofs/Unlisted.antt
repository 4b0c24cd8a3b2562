-- What is told of a root of which a folder can't be listed.
use Rattle.std.proofs.Common.{◌≡◌, ◌-◌, ℕ, List, [], ◌∷◌, ◌++◌, refl, sym, ap, ◌∙◌}
use Rattle.pt_extra.specs.Findings.{Against, found_at, of_entries, of_folder, of_folder_by, of_unnamed}
use Rattle.pt_extra.specs.Lines.{ExtraFinding}
use Rattle.pt_extra.specs.Unlisted.{InPart, IsOfEntries, IsOfFolder, IsToldAt, Listed, NotAtAll, of_unlisted}
use Rattle.pt_tree.specs.Forest.{Forest, none, file, other, dir}
use Rattle.pt_tree.specs.Path.{Path}

-- ---- by whether the root failed

wider_folder : {F G : Type 0} (c : Against) (path : Path) (left : ℕ) (inside : Forest) (entries told : List ExtraFinding) → (F → G)
    → IsOfFolder F c path left inside entries told → IsOfFolder G c path left inside entries told
wider_folder c path left inside entries told on (Listed is) = Listed is
wider_folder c path left inside entries told on (InPart f reason further is) = InPart (on f) reason further is
wider_folder c path left inside entries told on (NotAtAll f reason further is) = NotAtAll (on f) reason further is

wider_entries : {F G : Type 0} (c : Against) (path : Path) (left : ℕ) (inside : Forest) (told : List ExtraFinding) → (F → G)
    → IsOfEntries F c path left inside told → IsOfEntries G c path left inside told
wider_entries c path left none told on it = it
wider_entries c path left (file name bytes after) told on (rest, it, is) = (rest, wider_entries c path left after rest on it, is)
wider_entries c path left (other name after) told on (rest, it, is) = (rest, wider_entries c path left after rest on it, is)
wider_entries c path left (dir name inside after) told on (here, rest, (entries, of_them, of_it), it, is) = (
  here,
  rest,
  (
    entries,
    wider_entries c (path ++ name ∷ []) (left - 1) inside entries on of_them,
    wider_folder c (path ++ name ∷ []) (left - 1) inside entries here on of_it,
  ),
  wider_entries c path left after rest on it,
  is,
)

-- what may be told where the root failed may be where it failed more
pub wider : {F G : Type 0} (c : Against) (path : Path) (left : ℕ) (inside : Forest) (told : List ExtraFinding) → (F → G)
    → IsToldAt F c path left inside told → IsToldAt G c path left inside told
wider c path left inside told on (entries, of_them, of_it) =
    (entries, wider_entries c path left inside entries on of_them, wider_folder c path left inside entries told on of_it)

-- ---- just what is found

pub entries_found : (F : Type 0) (c : Against) (path : Path) (left : ℕ) (inside : Forest) → IsOfEntries F c path left inside (of_entries c path left inside)
entries_found F c path left none = refl
entries_found F c path left (file name bytes after) = (of_entries c path left after, entries_found F c path left after, refl)
entries_found F c path left (other name after) = (of_entries c path left after, entries_found F c path left after, refl)
entries_found F c path left (dir name inside after) =
    let it = path ++ name ∷ [] in (
      of_folder c it (left - 1) inside (of_entries c it (left - 1) inside),
      of_entries c path left after,
      (of_entries c it (left - 1) inside, entries_found F c it (left - 1) inside, Listed refl),
      entries_found F c path left after,
      refl,
    )

-- all that is found of a folder may be told
pub told_found : (F : Type 0) (c : Against) (path : Path) (left : ℕ) (inside : Forest) → IsToldAt F c path left inside (found_at c path left inside)
told_found F c path left inside = (of_entries c path left inside, entries_found F c path left inside, Listed refl)

-- ---- a folder

-- what was told of a folder itself, before its entries: nothing, or that it couldn't be listed whole
pub data IsBefore (F : Type 0) (c : Against) (path : Path) (before : List ExtraFinding) : Type 0 where
  Whole : before ≡ [] → IsBefore F c path before
  Part : F → (reason : List ℕ) → (further : List (List ℕ)) → before ≡ of_unlisted path (reason ∷ further) → IsBefore F c path before

pub wider_before : {F G : Type 0} (c : Against) (path : Path) (before : List ExtraFinding) → (F → G) → IsBefore F c path before → IsBefore G c path before
wider_before c path before on (Whole is) = Whole is
wider_before c path before on (Part f reason further is) = Part (on f) reason further is

-- then behind that what is found of it, by what is told of its entries
pub told_behind : {F : Type 0} (c : Against) (path : Path) (left : ℕ) (inside : Forest) (before entries here : List ExtraFinding)
    → IsBefore F c path before → IsOfEntries F c path left inside entries
    → ((bare : List ExtraFinding) → of_folder_by c path left inside bare entries ≡ here) → IsToldAt F c path left inside (before ++ here)
told_behind c path left inside before entries here (Whole is) it same =
    (entries, it, Listed (ap (λ (l : List ExtraFinding). l ++ here) is ∙ sym (same (of_unnamed c path))))
told_behind c path left inside before entries here (Part f reason further is) it same = (
  entries,
  it,
  InPart f reason further (ap (λ (l : List ExtraFinding). l ++ here) is
      ∙ ap (λ (l : List ExtraFinding). of_unlisted path (reason ∷ further) ++ l) (sym (same []))),
)

-- nothing more, where it is bare and told so, or nothing of it could be listed
pub told_part_bare : {F : Type 0} (c : Against) (path : Path) (left : ℕ) (inside : Forest) (reason : List ℕ) (further : List (List ℕ)) → F
    → of_folder_by c path left inside [] (of_entries c path left inside) ≡ []
    → IsToldAt F c path left inside (of_unlisted path (reason ∷ further) ++ [])
told_part_bare {F} c path left inside reason further f bare = (
  of_entries c path left inside,
  entries_found F c path left inside,
  InPart f reason further (ap (λ (l : List ExtraFinding). of_unlisted path (reason ∷ further) ++ l) (sym bare)),
)

pub told_not : {F : Type 0} (c : Against) (path : Path) (left : ℕ) (inside : Forest) (reason : List ℕ) (further : List (List ℕ)) → F
    → IsToldAt F c path left inside (of_unlisted path (reason ∷ further))
told_not {F} c path left inside reason further f =
    (of_entries c path left inside, entries_found F c path left inside, NotAtAll f reason further refl)

-- Files made one after another, each with the folders above it that are missing.
use Rattle.std.proofs.Common.{◌≡◌, ℕ, List, [], ◌∷◌, ◌++◌, Bool, true, false, refl, sym, ◌∙◌, ap, subst, append-nil, append_assoc}
use Rattle.std.specs.Prelude.{cond, ◌||◌, not, filter, map, None}
use Rattle.std.specs.Option.{option_or}
use Rattle.std.proofs.lemmas.Bool.{true≢false, or_right}
use Rattle.std.proofs.lemmas.List.{map-append}
use Rattle.pt_tree.specs.Path.{Path, same_path, parent, last_name}
use Rattle.pt_tree.specs.Tree.{Tree}
use Rattle.pt_object.specs.FilePaths.{File, are_apart, paths_of}
use Rattle.pt_object.specs.Holding.{held_at, leads_to}
use Rattle.pt_object.specs.Object.{file_in}
use Rattle.pt_object.specs.Script.{Item, MakeFolder, MakeFile, item_in, folders_above, file_items, files_items}
use Rattle.pt_object.proofs.Ways.{
  leads,
  is_same,
  leads-itself,
  leads-below,
  leads-longer,
  leads-on,
  push-parent,
  bytes_if,
  held_at-push,
  leads_to-push,
  IsClear,
  clear_before,
}
use Rattle.pt_object.proofs.Making.{
  Carries,
  carries_none,
  carries_item,
  carries_both,
  carries_from,
  on_way,
  can_make,
  after_folder,
  folder_stands,
  Stand,
  all_stand,
  after_file,
}

-- the test, one name further down
abbrev below : List ℕ → (Path → Bool) → Path → Bool
below n test = λ path. test (n ∷ path)

-- the folders above a path that the test doesn't find, below b
abbrev missing : Path → (Path → Bool) → Path → List Item
missing b test path = map (item_in b) (map MakeFolder (filter (λ folder. not (test folder)) (folders_above path)))

further : (b : Path) (n : List ℕ) (test : Path → Bool) (folders : List Path)
    → map (item_in b) (map MakeFolder (filter (λ folder. not (test folder)) (map (λ folder. n ∷ folder) folders)))
    ≡ map (item_in (b ++ n ∷ [])) (map MakeFolder (filter (λ folder. not (below n test folder)) folders))
further b n test [] = refl
further b n test (folder ∷ folders) = by (test (n ∷ folder)) (further b n test folders)
  where
    by : (t : Bool) → map (item_in b) (map MakeFolder (filter (λ folder. not (test folder)) (map (λ folder. n ∷ folder) folders)))
        ≡ map (item_in (b ++ n ∷ [])) (map MakeFolder (filter (λ folder. not (below n test folder)) folders))
        → map (item_in b) (map MakeFolder (cond (not t) ((n ∷ folder) ∷ filter (λ folder. not (test folder)) (map (λ folder. n ∷ folder) folders))
        (filter (λ folder. not (test folder)) (map (λ folder. n ∷ folder) folders))))
        ≡ map (item_in (b ++ n ∷ [])) (map MakeFolder (cond (not t) (folder ∷ filter (λ folder. not (below n test folder)) folders)
        (filter (λ folder. not (below n test folder)) folders)))
    by true later = later
    by false later = λ i. MakeFolder (sym (append_assoc b (n ∷ []) folder) i) ∷ later i

-- the test finds just the folders that the files need
abbrev pub Agrees : (Path → Bool) → List File → Path → Type 0
Agrees test E b = (n : List ℕ) (q : Path) → test (n ∷ q) ≡ leads_to E (b ++ n ∷ q)

-- no file stands on the way to this path
abbrev pub WayClear : List File → Path → Type 0
WayClear E p = (q : Path) → leads q p ≡ true → held_at E q ≡ None

one_folder : (E : List File) (b : Path) (n : List ℕ) (needed : Bool) (later : List Item) (u : Tree) → held_at E (b ++ n ∷ []) ≡ None
    → needed ≡ leads_to E (b ++ n ∷ []) → Carries later (on_way E (b ++ n ∷ [])) u
    → Carries (cond (not needed) (MakeFolder (b ++ n ∷ []) ∷ later) later) (on_way E b) u
one_folder E b n true later u held needed carries = carries_from later (on_way E b) (on_way E (b ++ n ∷ [])) u (folder_stands E b n held (sym needed)) carries
one_folder E b n false later u held needed carries =
    carries_item (MakeFolder (b ++ n ∷ [])) later (on_way E b) (on_way E (b ++ n ∷ [])) u (can_make E b n held (sym needed)) (after_folder E b n) carries

spread : (t : Bool) (b : Path) (n : List ℕ) (folders : List Path) → map (item_in b) (map MakeFolder (cond (not t) ((n ∷ []) ∷ folders) folders))
    ≡ cond (not t) (MakeFolder (b ++ n ∷ []) ∷ map (item_in b) (map MakeFolder folders)) (map (item_in b) (map MakeFolder folders))
spread true b n folders = refl
spread false b n folders = refl

pub folders_carry : (E : List File) (path b : Path) (name : List ℕ) (test : Path → Bool) → Agrees test E b → WayClear E (b ++ name ∷ path)
    → Carries (missing b test (name ∷ path)) (on_way E b) (on_way E (b ++ parent (name ∷ path)))
folders_carry E [] b name test agrees clear = subst (λ (p : Path). Carries [] (on_way E b) (on_way E p)) (sym (append-nil b)) (carries_none (on_way E b))
folders_carry E (next ∷ path) b name test agrees clear =
    let down : (b ++ name ∷ []) ++ next ∷ path ≡ b ++ name ∷ next ∷ path = append_assoc b (name ∷ []) (next ∷ path) in
    let later : Carries (missing (b ++ name ∷ []) (below name test) (next ∷ path)) (on_way E (b ++ name ∷ []))
    (on_way E ((b ++ name ∷ []) ++ parent (next ∷ path))) =
    folders_carry E path (b ++ name ∷ []) next (below name test)
    (λ n q. agrees name (n ∷ q) ∙ ap (leads_to E) (sym (append_assoc b (name ∷ []) (n ∷ q))))
    (λ q h. clear q (sym (ap (leads q) down) ∙ h)) in
    let whole : missing b test (name ∷ next ∷ path) ≡ cond (not (test (name ∷ [])))
    (MakeFolder (b ++ name ∷ []) ∷ missing (b ++ name ∷ []) (below name test) (next ∷ path)) (missing (b ++ name ∷ []) (below name test) (next ∷ path)) =
    spread (test (name ∷ [])) b name (filter (λ folder. not (test folder)) (map (λ folder. name ∷ folder) (folders_above (next ∷ path))))
    ∙ ap (λ (l : List Item). cond (not (test (name ∷ []))) (MakeFolder (b ++ name ∷ []) ∷ l) l) (further b name test (folders_above (next ∷ path))) in
    let above : leads (b ++ name ∷ []) (b ++ name ∷ next ∷ path) ≡ true = ap (leads (b ++ name ∷ [])) (sym down)
    ∙ leads-on (b ++ name ∷ []) (b ++ name ∷ []) (next ∷ path) (leads-itself (b ++ name ∷ [])) in
    subst (λ (l : List Item). Carries l (on_way E b) (on_way E (b ++ name ∷ parent (next ∷ path)))) (sym whole)
    (one_folder E b name (test (name ∷ [])) _ _ (clear (b ++ name ∷ []) above) (agrees name [])
    (subst (λ (p : Path). Carries (missing (b ++ name ∷ []) (below name test) (next ∷ path)) (on_way E (b ++ name ∷ [])) (on_way E p))
    (append_assoc b (name ∷ []) (parent (next ∷ path))) later))

-- one file below b, with the folders that are missing above it
pub file_carries : (E G : List File) (b path : Path) (name bytes : List ℕ) → Agrees (leads_to G) E b → IsClear E (b ++ name ∷ path)
    → Carries (map (item_in b) (file_items G (name ∷ path, bytes))) (on_way E b) (on_way (E ++ (b ++ name ∷ path, bytes) ∷ []) [])
file_carries E G b path name bytes agrees clear =
    let p : Path = b ++ parent (name ∷ path) in
    let n : List ℕ = last_name (name ∷ path) in
    let at : p ++ n ∷ [] ≡ b ++ name ∷ path = append_assoc b (parent (name ∷ path)) (n ∷ []) ∙ ap (λ (q : Path). b ++ q) (push-parent name path) in
    let is_clear : IsClear E (p ++ n ∷ []) = subst (IsClear E) (sym at) clear in
    let last : Carries (MakeFile (p ++ n ∷ []) bytes ∷ []) (on_way E p) (on_way (E ++ (p ++ n ∷ [], bytes) ∷ []) []) =
    carries_item _ [] (on_way E p) _ _ (can_make E p n (is_clear.way (p ++ n ∷ []) (leads-itself (p ++ n ∷ []))) is_clear.free)
    (after_file E p n bytes is_clear) (carries_none _) in
    let placed : Carries (MakeFile (b ++ name ∷ path) bytes ∷ []) (on_way E p) (on_way (E ++ (b ++ name ∷ path, bytes) ∷ []) []) =
    subst (λ (q : Path). Carries (MakeFile q bytes ∷ []) (on_way E p) (on_way (E ++ (q, bytes) ∷ []) [])) at last in
    subst (λ (l : List Item). Carries l (on_way E b) (on_way (E ++ (b ++ name ∷ path, bytes) ∷ []) []))
    (sym (map-append (item_in b) (map MakeFolder (filter (λ folder. not (leads_to G folder)) (folders_above (name ∷ path))))
    (MakeFile (name ∷ path) bytes ∷ [])))
    (carries_both _ _ (on_way E b) (on_way E p) _ (folders_carry E path b name (leads_to G) agrees clear.way) placed)

-- with a file below b, the folders down to b stand
pub stand_above : (E : List File) (b path : Path) (name bytes : List ℕ) → IsClear E (b ++ name ∷ path) → Stand (E ++ (b ++ name ∷ path, bytes) ∷ []) b
stand_above E b path name bytes clear n q way =
    let p : Path = b ++ name ∷ path in
    let on : leads (n ∷ q) p ≡ true = leads-on (n ∷ q) b (name ∷ path) way in (
      held_at-push E (p, bytes) (n ∷ q) ∙ (λ i. option_or (clear.way (n ∷ q) on i) (bytes_if (other i) bytes)),
      leads_to-push E (p, bytes) (n ∷ q) ∙ ap (λ t. leads_to E (n ∷ q) || t) on ∙ or_right (leads_to E (n ∷ q)) true refl,
    )
  where
    differs : (t : Bool) → same_path (n ∷ q) (b ++ name ∷ path) ≡ t → t ≡ false
    differs true same = absurd (true≢false (sym way ∙ ap (λ (r : Path). leads r b) (is_same (n ∷ q) (b ++ name ∷ path) same) ∙ leads-longer b path name))
    differs false same = refl

    other : same_path (n ∷ q) (b ++ name ∷ path) ≡ false
    other = differs _ refl

-- no file of these is the top
abbrev pub AreBelowTop : List File → Type 0
AreBelowTop [] = Unit {0}
AreBelowTop (([], bytes) ∷ files) = ⊥
AreBelowTop ((name ∷ path, bytes) ∷ files) = AreBelowTop files

pub files_carry : (b : Path) (E G files : List File) → AreBelowTop files → Agrees (leads_to G) E b → are_apart (paths_of (E ++ map (file_in b) files)) ≡ true
    → Carries (map (item_in b) (files_items G files)) (on_way E b) (on_way (E ++ map (file_in b) files) b)
files_carry b E G [] below agrees apart = subst (λ (l : List File). Carries [] (on_way E b) (on_way l b)) (sym (append-nil E)) (carries_none (on_way E b))
files_carry b E G (([], bytes) ∷ files) below agrees apart = absurd below
files_carry b E G ((name ∷ path, bytes) ∷ files) below agrees apart =
    let f : File = (b ++ name ∷ path, bytes) in
    let clear : IsClear E (b ++ name ∷ path) = clear_before E f (map (file_in b) files) apart in
    let again : (E ++ f ∷ []) ++ map (file_in b) files ≡ E ++ f ∷ map (file_in b) files = append_assoc E (f ∷ []) (map (file_in b) files) in
    let first : Carries (map (item_in b) (file_items G (name ∷ path, bytes))) (on_way E b) (on_way (E ++ f ∷ []) b) =
    subst (Carries (map (item_in b) (file_items G (name ∷ path, bytes))) (on_way E b)) (sym (all_stand (E ++ f ∷ []) b (stand_above E b path name bytes clear)))
    (file_carries E G b path name bytes agrees clear) in
    let later : Carries (map (item_in b) (files_items (G ++ (name ∷ path, bytes) ∷ []) files)) (on_way (E ++ f ∷ []) b)
    (on_way ((E ++ f ∷ []) ++ map (file_in b) files) b) =
    files_carry b (E ++ f ∷ []) (G ++ (name ∷ path, bytes) ∷ []) files below
    (λ n q.
    leads_to-push G (name ∷ path, bytes) (n ∷ q) ∙ (λ i. agrees n q i || sym (leads-below b (n ∷ q) (name ∷ path)) i) ∙ sym (leads_to-push E f (b ++ n ∷ q)))
    (ap (λ (l : List File). are_apart (paths_of l)) again ∙ apart) in
    subst (λ (l : List Item). Carries l (on_way E b) (on_way (E ++ f ∷ map (file_in b) files) b))
    (sym (map-append (item_in b) (file_items G (name ∷ path, bytes)) (files_items (G ++ (name ∷ path, bytes) ∷ []) files)))
    (carries_both _ _ (on_way E b) (on_way (E ++ f ∷ []) b) _ first
    (subst (λ (l : List File). Carries (map (item_in b) (files_items (G ++ (name ∷ path, bytes) ∷ []) files)) (on_way (E ++ f ∷ []) b) (on_way l b)) again
    later))

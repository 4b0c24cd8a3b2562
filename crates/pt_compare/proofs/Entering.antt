-- A folder that stands, and its entries that are noted.
use Rattle.std.proofs.Common.{◌≡◌, ◌∙◌, ◌+◌, ℕ, zero, suc, List, [], ◌∷◌, ◌++◌, Bool, true, false, refl, sym, ap, subst, cond, drop, add-one, append_assoc}
use Rattle.std.specs.Prelude.{◌||◌, All, Option, None, Some, is_some, slice_get}
use Rattle.std.specs.List.{list_any}
use Rattle.std.specs.Option.{option_and_then, option_map, option_map_or, option_or}
use Rattle.std.specs.Str.{bytes_eq}
use Rattle.std.proofs.lemmas.List.Elements.{All-cons, All-head, All-nil, All-tail}
use Rattle.pt_compare.specs.Marks.{Marks, inside, is_entry_of, kind_in, with_entries, with_listed, with_mark}
use Rattle.pt_compare.specs.Meeting.{NotedStand}
use Rattle.pt_compare.specs.Root.{Lists, Stands, same_kind}
use Rattle.pt_compare.proofs.Listed.{found, itself, node_in}
use Rattle.pt_compare.proofs.Made.{entry_is, entry_of_folder, last-push}
use Rattle.pt_object.proofs.Ways.{is_same, name_itself, path_itself, same_name}
use Rattle.pt_tree.proofs.AtPaths.{proper_dir_at}
use Rattle.pt_tree.specs.Forest as forest
use Rattle.pt_tree.specs.Forest.{Forest, Node, File, Dir, Other, dir_at, find, is_proper, kind_of, listing_at, listing_of, node_at}
use Rattle.pt_tree.specs.Listing.{Item}
use Rattle.pt_tree.specs.Path.{Path, last_name, same_path, split_path}
use Rattle.pt_tree.specs.Source.{IsListed, Reading, tree_in}
use Rattle.pt_tree.specs.Tree.{Tree, entry_of, kind_of_entry}
use Rattle.pt_tree.specs.declared.kind.Kind.{Kind}

-- ---- entries noted one after another

listed_at : (p : Path) (i : ℕ) (listing : List Item) (item : Item) (m n : Marks) → slice_get listing i ≡ Some item → n ≡ with_mark (p ++ item.0 ∷ []) item.1 m
    → with_listed p (drop i listing) m ≡ with_listed p (drop (suc i) listing) n
listed_at p i [] item m n is next = absurd (cc)
listed_at p zero (x ∷ listing) item m n is next =
    let same : x ≡ item = cc in
    ap (λ (x : Item). with_listed p listing (with_mark (p ++ x.0 ∷ []) x.1 m)) same ∙ ap (with_listed p listing) (sym next)
listed_at p (suc i) (x ∷ listing) item m n is next = listed_at p i listing item m n is next

pub listed_step : (p : Path) (i : ℕ) (listing : List Item) (item : Item) (m n : Marks) → slice_get listing i ≡ Some item
    → n ≡ with_mark (p ++ item.0 ∷ []) item.1 m → with_listed p (drop i listing) m ≡ with_listed p (drop (i + 1) listing) n
listed_step p i listing item m n is next = listed_at p i listing item m n is next ∙ ap (λ k. with_listed p (drop k listing) n) (sym (add-one i))

-- ---- against what stands

is_listed : List ℕ → List Item → Bool
is_listed n entries = list_any (λ (e : Item). bytes_eq e.0 n) entries

listed_find : (n : List ℕ) (f : Forest) → list_any (λ (e : Item). bytes_eq e.0 n) (listing_of f) ≡ is_some (find f n)
listed_find n forest.none = refl
listed_find n (forest.file m b f) = by (bytes_eq m n) (listed_find n f)
  where
    by : (t : Bool) → list_any (λ (e : Item). bytes_eq e.0 n) (listing_of f) ≡ is_some (find f n)
        → (t || list_any (λ (e : Item). bytes_eq e.0 n) (listing_of f)) ≡ is_some (cond t (Some (File b)) (find f n))
    by true later = refl
    by false later = later
listed_find n (forest.other m f) = by (bytes_eq m n) (listed_find n f)
  where
    by : (t : Bool) → list_any (λ (e : Item). bytes_eq e.0 n) (listing_of f) ≡ is_some (find f n)
        → (t || list_any (λ (e : Item). bytes_eq e.0 n) (listing_of f)) ≡ is_some (cond t (Some Other) (find f n))
    by true later = refl
    by false later = later
listed_find n (forest.dir m d f) = by (bytes_eq m n) (listed_find n f)
  where
    by : (t : Bool) → list_any (λ (e : Item). bytes_eq e.0 n) (listing_of f) ≡ is_some (find f n)
        → (t || list_any (λ (e : Item). bytes_eq e.0 n) (listing_of f)) ≡ is_some (cond t (Some (Dir d)) (find f n))
    by true later = refl
    by false later = later

module _ (p : Path) where
  mark_other : (q r : Path) (k : Kind) (m : Marks) → (q ≡ r → ⊥) → with_mark r k m q ≡ m q
  mark_other q r k m differs = on (same_path q r) refl
    where
      on : (b : Bool) → same_path q r ≡ b → cond b (Some k) (m q) ≡ m q
      on true is = absurd (differs (is_same q r is))
      on false is = refl

  mark_there : (q : Path) (k : Kind) (m : Marks) → with_mark q k m q ≡ Some k
  mark_there q k m = ap (λ b. cond b (Some k) (m q)) (path_itself q)

  -- what is no entry of the folder stays as it was noted
  elsewhere : (q : Path) (entries : List Item) (m : Marks) → is_entry_of p (split_path q) ≡ false → with_listed p entries m q ≡ m q
  elsewhere q [] m not_in = refl
  elsewhere q (e ∷ entries) m not_in =
      elsewhere q entries (with_mark (p ++ e.0 ∷ []) e.1 m) not_in
      ∙ mark_other q (p ++ e.0 ∷ []) e.1 m (λ same. let there = ap (λ (r : Path). is_entry_of p (split_path r)) same ∙ entry_of_folder p e.0 in cc)

  same_last : (n k : List ℕ) → p ++ n ∷ [] ≡ p ++ k ∷ [] → n ≡ k
  same_last n k is = sym (last-push p n) ∙ ap last_name is ∙ last-push p k

  module _ (kinds : Path → Option Kind) (n : List ℕ) where
    Fits : Item → Type 0
    Fits e = kinds (p ++ e.0 ∷ []) ≡ Some e.1

    stays : (entries : List Item) (m : Marks) → All (λ (e : Item). kinds (p ++ e.0 ∷ []) ≡ Some e.1) entries → m (p ++ n ∷ []) ≡ kinds (p ++ n ∷ [])
        → with_listed p entries m (p ++ n ∷ []) ≡ kinds (p ++ n ∷ [])
    stays [] m all is = is
    stays (e ∷ entries) m all is = stays entries (with_mark (p ++ e.0 ∷ []) e.1 m) (All-tail (λ (e : Item). kinds (p ++ e.0 ∷ []) ≡ Some e.1) e entries all)
        (on (same_path (p ++ n ∷ []) (p ++ e.0 ∷ [])) refl)
      where
        on : (b : Bool) → same_path (p ++ n ∷ []) (p ++ e.0 ∷ []) ≡ b → cond b (Some e.1) (m (p ++ n ∷ [])) ≡ kinds (p ++ n ∷ [])
        on true same = sym (All-head (λ (e : Item). kinds (p ++ e.0 ∷ []) ≡ Some e.1) e entries all)
            ∙ ap kinds (sym (is_same (p ++ n ∷ []) (p ++ e.0 ∷ []) same))
        on false other = is

    among : (entries : List Item) (m : Marks) → All (λ (e : Item). kinds (p ++ e.0 ∷ []) ≡ Some e.1) entries
        → list_any (λ (e : Item). bytes_eq e.0 n) entries ≡ true → with_listed p entries m (p ++ n ∷ []) ≡ kinds (p ++ n ∷ [])
    among [] m all h = absurd (cc)
    among (e ∷ entries) m all h = on (λ h. among entries (with_mark (p ++ e.0 ∷ []) e.1 m)
        (All-tail (λ (e : Item). kinds (p ++ e.0 ∷ []) ≡ Some e.1) e entries all) h) (bytes_eq e.0 n) refl h
      where
        rest : All (λ (e : Item). kinds (p ++ e.0 ∷ []) ≡ Some e.1) entries
        rest = All-tail (λ (e : Item). kinds (p ++ e.0 ∷ []) ≡ Some e.1) e entries all

        on : (list_any (λ (e : Item). bytes_eq e.0 n) entries ≡ true → with_listed p entries (with_mark (p ++ e.0 ∷ []) e.1 m) (p ++ n ∷ [])
            ≡ kinds (p ++ n ∷ []))
            → (b : Bool) → bytes_eq e.0 n ≡ b → (b || list_any (λ (e : Item). bytes_eq e.0 n) entries) ≡ true
            → with_listed p entries (with_mark (p ++ e.0 ∷ []) e.1 m) (p ++ n ∷ []) ≡ kinds (p ++ n ∷ [])
        on later true is h =
            let same : p ++ e.0 ∷ [] ≡ p ++ n ∷ [] = ap (λ (k : List ℕ). p ++ k ∷ []) (same_name e.0 n is) in
            stays entries (with_mark (p ++ e.0 ∷ []) e.1 m) rest
            (ap (with_mark (p ++ e.0 ∷ []) e.1 m) (sym same) ∙ mark_there (p ++ e.0 ∷ []) e.1 m
            ∙ sym (All-head (λ (e : Item). kinds (p ++ e.0 ∷ []) ≡ Some e.1) e entries all) ∙ ap kinds same)
        on later false is h = later h

    unlisted : (entries : List Item) (m : Marks) → list_any (λ (e : Item). bytes_eq e.0 n) entries ≡ false
        → with_listed p entries m (p ++ n ∷ []) ≡ m (p ++ n ∷ [])
    unlisted [] m h = refl
    unlisted (e ∷ entries) m h = on (λ h. unlisted entries (with_mark (p ++ e.0 ∷ []) e.1 m) h) (bytes_eq e.0 n) refl h
      where
        on : (list_any (λ (e : Item). bytes_eq e.0 n) entries ≡ false → with_listed p entries (with_mark (p ++ e.0 ∷ []) e.1 m) (p ++ n ∷ [])
            ≡ with_mark (p ++ e.0 ∷ []) e.1 m (p ++ n ∷ []))
            → (b : Bool) → bytes_eq e.0 n ≡ b → (b || list_any (λ (e : Item). bytes_eq e.0 n) entries) ≡ false
            → with_listed p entries (with_mark (p ++ e.0 ∷ []) e.1 m) (p ++ n ∷ []) ≡ m (p ++ n ∷ [])
        on later true is h = absurd (cc)
        on later false is h =
            later h
            ∙ mark_other (p ++ n ∷ []) (p ++ e.0 ∷ []) e.1 m (λ same. let itself = ap (λ (k : List ℕ). bytes_eq k n) (same_last n e.0 same) in let there = sym
            itself ∙ name_itself n in cc)

all_from : {A : Type 0} (P : A → Type 0) (xs : List A) → ((i : ℕ) (x : A) → slice_get xs i ≡ Some x → P x) → All P xs
all_from P [] each = All-nil P
all_from P (x ∷ xs) each = All-cons P x xs (each 0 x refl) (all_from P xs (λ i y is. each (suc i) y is))

pub kind_same : (o : Option Node) → option_map kind_of_entry (option_map entry_of o) ≡ option_map kind_of o
kind_same None = refl
kind_same (Some (File b)) = refl
kind_same (Some (Dir d)) = refl
kind_same (Some Other) = refl

-- a folder's entries, as a root lists them
module _ (f : Forest) (place p : Path) (d : Forest) (there : dir_at f (place ++ p) ≡ Some d) (proper : is_proper f ≡ true) where
  kind_found : (n : List ℕ) → kind_in (inside f place) (p ++ n ∷ []) ≡ option_map kind_of (find d n)
  kind_found n =
      kind_same (node_at (Dir f) (place ++ (p ++ n ∷ [])))
      ∙ ap (λ (q : Path). option_map kind_of (node_at (Dir f) q)) (sym (append_assoc place p (n ∷ [])))
      ∙ ap (option_map kind_of) (node_in (Dir f) (place ++ p) n d there)
      ∙ plain (find d n)
    where
      plain : (o : Option Node) → option_map kind_of (option_and_then (λ y. node_at y []) o) ≡ option_map kind_of o
      plain None = refl
      plain (Some x) = refl

  all_fit : All (λ (e : Item). kind_in (inside f place) (p ++ e.0 ∷ []) ≡ Some e.1) (listing_of d)
  all_fit = all_from (λ (e : Item). kind_in (inside f place) (p ++ e.0 ∷ []) ≡ Some e.1) (listing_of d)
      (λ i e is. let at = found d i e (proper_dir_at f (place ++ p) d proper there) is in
      kind_found e.0 ∙ ap (option_map kind_of) at.there ∙ ap (λ k. Some k) at.kind_is)

  entries_at : (m : Marks) (q : Path) → with_listed p (listing_of d) m q ≡ with_entries (inside f place) p m q
  entries_at m q = on (is_entry_of p (split_path q)) refl
    where
      t : Tree
      t = inside f place

      here : (n : List ℕ) → with_listed p (listing_of d) m (p ++ n ∷ []) ≡ option_or (kind_in (inside f place) (p ++ n ∷ [])) (m (p ++ n ∷ []))
      here n = by (find d n) refl
        where
          by : (o : Option Node) → find d n ≡ o → with_listed p (listing_of d) m (p ++ n ∷ [])
              ≡ option_or (kind_in (inside f place) (p ++ n ∷ [])) (m (p ++ n ∷ []))
          by None is = unlisted p (kind_in (inside f place)) n (listing_of d) m (listed_find n d ∙ ap is_some is)
              ∙ ap (λ k. option_or k (m (p ++ n ∷ []))) (sym (kind_found n ∙ ap (option_map kind_of) is))
          by (Some x) is =
              let kind = kind_found n ∙ ap (option_map kind_of) is in
              among p (kind_in (inside f place)) n (listing_of d) m all_fit (listed_find n d ∙ ap is_some is) ∙ kind
              ∙ ap (λ k. option_or k (m (p ++ n ∷ []))) (sym kind)

      on : (b : Bool) → is_entry_of p (split_path q) ≡ b → with_listed p (listing_of d) m q ≡ option_or (cond b (kind_in (inside f place) q) None) (m q)
      on true is =
          let whole = entry_is p q is in
          ap (with_listed p (listing_of d) m) whole ∙ here (last_name q) ∙ ap (λ (r : Path). option_or (kind_in (inside f place) r) (m r)) (sym whole)
      on false is = elsewhere p q (listing_of d) m is

pub entries_listed : (f : Forest) (place p : Path) (listing : List Item) (m : Marks) → is_proper f ≡ true → listing_at f (place ++ p) ≡ Some listing
    → with_listed p listing m ≡ with_entries (inside f place) p m
entries_listed f place p listing m proper listed = on (dir_at f (place ++ p)) refl listed
  where
    on : (o : Option Forest) → dir_at f (place ++ p) ≡ o → option_map listing_of o ≡ Some listing → with_listed p listing m ≡ with_entries (inside f place) p m
    on None is listed = absurd (cc)
    on (Some d) is listed =
        let same : listing_of d ≡ listing = cc in
        ap (λ (l : List Item). with_listed p l m) (sym same) ∙ (λ i q. entries_at f place p d is proper m q i)

-- ---- what is noted stands

pub noted_kind : (tree : Option Forest) (place p : Path) (m : Marks) (k : Kind) → NotedStand tree place m → m p ≡ Some k → Stands tree (place ++ p, k)
unfolding NotedStand
noted_kind None place p m k noted is = refl
noted_kind (Some f) place p m k noted is =
    ap (λ o. option_map_or (same_kind k) o false) (sym (kind_same (node_at (Dir f) (place ++ p))) ∙ noted f refl p k is) ∙ itself k

-- what was listed is what is told
pub listed_now : (told : Option Reading) (p : Path) (listing : List Item) → ((s : Reading) → told ≡ Some s → is_proper s.tree ≡ true) → IsListed told p listing
    → Lists (tree_in told) p listing
unfolding IsListed Lists
listed_now None p listing proper listed = λ f is. absurd (cc)
listed_now (Some s) p listing proper listed = λ f is. let same : s.tree ≡ f = cc in subst (λ f. (is_proper f ≡ true) × (listing_at f p ≡ Some listing)) same
    (proper s refl, listed s refl)

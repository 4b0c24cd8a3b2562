-- The sites of a tree that are listed are the directories that shorties lead to.
use Rattle.std.proofs.Common.{
  ◌≡◌,
  ◌≤◌,
  ◌⊎◌,
  inl,
  inr,
  ℕ,
  suc,
  ◌+◌,
  List,
  [],
  ◌∷◌,
  ◌++◌,
  length,
  true,
  false,
  refl,
  arith,
  ◌∙◌,
  ap,
  sym,
  subst,
  append_assoc,
  length-append,
}
use Rattle.std.specs.Prelude.{Bool, ◌||◌, ◌==◌, cond, nat_lt, Option, None, Some}
use Rattle.std.specs.Option.{option_and_then}
use Rattle.std.specs.Str.{bytes_eq}
use Rattle.std.proofs.lemmas.Bool.{and_from, and_parts, cases_Bool, ltb-false, le-ltb, eqb-true}
use Rattle.std.proofs.lemmas.Slice.Eq.{bytes_eq-Decides}
use Rattle.pt_tree.specs.Forest.{Forest, none, file, other, dir, Node, File, Dir, Other, comes_before, find, is_proper, node_at}
use Rattle.pt_tree.specs.Listing.{is_before}
use Rattle.pt_tree.specs.Path.{Path}
use Rattle.pt_tree.proofs.Finding.{comes_before-trans, proper_dir, proper_file, proper_other}
use Rattle.pt_tree.proofs.Names.{before_differs, name_itself}
use Rattle.pt_walk.specs.declared.site.At.TheVariants as at
use Rattle.pt_walk.specs.Site.{is_short}
use Rattle.pt_walk.specs.Sites.{Visit, Listed, Past, Deep, Elsewhere, Reach, Site, at_of, is_last, is_listed, sites_in, visit_of, walked}
use Rattle.pt_walk.specs.SitesReached.{IsAmongSites, ListedSitesAreReached, ReachedSitesAreListed, is_walked, is_way}
use Rattle.pt_walk.proofs.Findings.{last_name_says}
use Rattle.pt_walk.proofs.Paths.{file_leads_nowhere, other_leads_nowhere}

-- what is found in a directory has a later name than what comes before it
found_later : (n : List ℕ) (f : Forest) (first : List ℕ) (node : Node) → is_proper f ≡ true → comes_before n f ≡ true → find f first ≡ Some node
    → is_before n first ≡ true
found_later n none first node proper before e = absurd (cc)
found_later n (file m b f) first node proper before e =
    let parts = proper_file m b f proper in
    elim (cases_Bool (bytes_eq m first)) [
      | inl same ↦ subst (λ (x : List ℕ). is_before n x ≡ true) ((bytes_eq-Decides m first).0 same) before
      | inr apart ↦ found_later n f first node parts.2 (comes_before-trans n m f before parts.1) (sym (ap (λ t. cond t (Some (File b)) (find f first)) apart)
          ∙ e)
    ]
found_later n (other m f) first node proper before e =
    let parts = proper_other m f proper in
    elim (cases_Bool (bytes_eq m first)) [
      | inl same ↦ subst (λ (x : List ℕ). is_before n x ≡ true) ((bytes_eq-Decides m first).0 same) before
      | inr apart ↦ found_later n f first node parts.2 (comes_before-trans n m f before parts.1) (sym (ap (λ t. cond t (Some Other) (find f first)) apart) ∙ e)
    ]
found_later n (dir m d f) first node proper before e =
    let parts = proper_dir m d f proper in
    elim (cases_Bool (bytes_eq m first)) [
      | inl same ↦ subst (λ (x : List ℕ). is_before n x ≡ true) ((bytes_eq-Decides m first).0 same) before
      | inr apart ↦ found_later n f first node parts.2 (comes_before-trans n m f before parts.1) (sym (ap (λ t. cond t (Some (Dir d)) (find f first)) apart)
          ∙ e)
    ]

-- what stands in the rest of a directory stands in it
stands_later : (n : List ℕ) (node : Node) (f : Forest) (first : List ℕ) (rest : Path) (inside : Forest) → is_proper f ≡ true → comes_before n f ≡ true
    → node_at (Dir f) (first ∷ rest) ≡ Some (Dir inside)
    → option_and_then (λ m. node_at m rest) (cond (bytes_eq n first) (Some node) (find f first)) ≡ Some (Dir inside)
stands_later n node f first rest inside proper before h = by_found (find f first) refl h
  where
    by_found : (o : Option Node) → find f first ≡ o → option_and_then (λ m. node_at m rest) o ≡ Some (Dir inside)
        → option_and_then (λ m. node_at m rest) (cond (bytes_eq n first) (Some node) (find f first)) ≡ Some (Dir inside)
    by_found None found e = absurd (cc)
    by_found (Some it) found e =
        ap (λ b. option_and_then (λ m. node_at m rest) (cond b (Some node) (find f first)))
        (before_differs n first (found_later n f first it proper before found))
        ∙ ap (option_and_then (λ m. node_at m rest)) found ∙ e

-- a site among the sites of two lists is among those of the first or among those of the second
among_parts : (x : Site) (xs ys : List Site) → IsAmongSites x (xs ++ ys) → IsAmongSites x xs ⊎ IsAmongSites x ys
among_parts x [] ys h = inr h
among_parts x (y ∷ xs) ys (inl e) = inl (inl e)
among_parts x (y ∷ xs) ys (inr h) = elim (among_parts x xs ys h) [ inl a ↦ inl (inr a) | inr b ↦ inr b ]

-- a site among those of the first list is among those of both
among_left : (x : Site) (xs ys : List Site) → IsAmongSites x xs → IsAmongSites x (xs ++ ys)
among_left x [] ys h = absurd h
among_left x (y ∷ xs) ys (inl e) = inl e
among_left x (y ∷ xs) ys (inr h) = inr (among_left x xs ys h)

-- and so is one among those of the second
among_right : (x : Site) (xs ys : List Site) → IsAmongSites x ys → IsAmongSites x (xs ++ ys)
among_right x [] ys h = h
among_right x (y ∷ xs) ys h = inr (among_right x xs ys h)

-- a site among those that are given only where b holds: b holds, and it is the first of them or among the others
among_chosen : (b : Bool) (x y : Site) (ys : List Site) → IsAmongSites x (cond b (y ∷ ys) []) → (b ≡ true) × ((y ≡ x) ⊎ IsAmongSites x ys)
among_chosen true x y ys h = (refl, h)
among_chosen false x y ys h = absurd h

-- a site among what is walked below a shorty: the shorty is listed, and the site is among what its directory leads to
among_walked : (visit : Visit) (x : Site) (xs : List Site) → IsAmongSites x (walked visit xs) → (is_listed visit ≡ true) × IsAmongSites x xs
among_walked (Listed inside) x xs h = (refl, h)
among_walked Past x xs h = absurd h
among_walked Deep x xs h = absurd h
among_walked Elsewhere x xs h = absurd h

-- a shorty that is listed stands neither below a name of one byte (a) nor too deep (b), and is walked into (w)
listed_tests : (a b w : Bool) (d : Forest) → is_listed (cond a Past (cond b Deep (cond w (Listed d) Elsewhere))) ≡ true
    → (a ≡ false) × (b ≡ false) × (w ≡ true)
listed_tests true b w d h = absurd (cc)
listed_tests false true w d h = absurd (cc)
listed_tests false false true d h = (refl, refl, refl)
listed_tests false false false d h = absurd (cc)

-- a shorty that is met as listed is one that is listed
listed_inside : (visit : Visit) (inside : Forest) → visit ≡ Listed inside → is_listed visit ≡ true
listed_inside visit inside e = ap is_listed e

-- what is listed of a shorty is what its directory holds
listed_same : (a b w : Bool) (d inside : Forest) → cond a Past (cond b Deep (cond w (Listed d) Elsewhere)) ≡ Listed inside → d ≡ inside
listed_same true b w d inside h = absurd (cc)
listed_same false true w d inside h = absurd (cc)
listed_same false false true d inside h = cc
listed_same false false false d inside h = absurd (cc)

-- a name of one or two bytes below which a site may stand has two
two_bytes : (one two : Bool) → is_last (cond one at.Last at.Pair) ≡ false → (one || two) ≡ true → two ≡ true
two_bytes true two last short = absurd (cc)
two_bytes false two last short = short

-- what it takes, below the directory at a path
record Reached (reach : Reach) (path : Path) (f : Forest) (to : Path) (inside : Forest) : Type 0 where
  first : List ℕ
  rest : Path
  path_is : to ≡ path ++ first ∷ rest
  there : node_at (Dir f) (first ∷ rest) ≡ Some (Dir inside)
  may_lead : is_last (at_of path) ≡ false
  way : is_way (first ∷ rest) ≡ true
  deep : length path + suc (length rest) ≤ reach.depth
  walked : is_walked reach.walks path (first ∷ rest) ≡ true

-- what shorties lead to behind the first entry of a directory they lead to in the whole directory
reached_after : (reach : Reach) (path : Path) (n : List ℕ) (f whole : Forest) (node : Node) (to : Path) (inside : Forest) → is_proper f ≡ true
    → comes_before n f ≡ true
    → ((first : List ℕ) (rest : Path) → node_at (Dir whole) (first ∷ rest)
    ≡ option_and_then (λ m. node_at m rest) (cond (bytes_eq n first) (Some node) (find f first)))
    → Reached reach path f to inside → Reached reach path whole to inside
reached_after reach path n f whole node to inside proper before opens it = record {
  first = it.first;
  rest = it.rest;
  path_is = it.path_is;
  there = opens it.first it.rest ∙ stands_later n node f it.first it.rest inside proper before it.there;
  may_lead = it.may_lead;
  way = it.way;
  deep = it.deep;
  walked = it.walked;
}

-- a shorty that is listed is itself a directory that shorties lead to
reached_here : (reach : Reach) (path : Path) (n : List ℕ) (d f : Forest) (to : Path) (inside : Forest) → is_short n ≡ true → path ++ n ∷ [] ≡ to
    → visit_of reach path n d ≡ Listed inside → Reached reach path (dir n d f) to inside
reached_here reach path n d f to inside short to_is visit =
    let tests = listed_tests (is_last (at_of path)) (nat_lt reach.depth (length path + 1)) (reach.walks (path ++ n
    ∷ [])) d (listed_inside (visit_of reach path n d) inside visit) in
    let same = listed_same (is_last (at_of path)) (nat_lt reach.depth (length path + 1)) (reach.walks (path ++ n ∷ [])) d inside visit in
    let within = ltb-false reach.depth (length path + 1) tests.1 in
    record {
      first = n;
      rest = [];
      path_is = sym to_is;
      there = ap (λ b. option_and_then (λ m. node_at m []) (cond b (Some (Dir d)) (find f n))) (name_itself n) ∙ ap (λ (x : Forest). Some (Dir x)) same;
      may_lead = tests.0;
      way = short;
      deep = omega (arith, within);
      walked = and_from (reach.walks (path ++ n ∷ [])) true tests.2 refl;
    }

-- what shorties lead to from a shorty that is listed they lead to from the directory above it, by a way that is one name longer
reached_below : (reach : Reach) (path : Path) (n : List ℕ) (d f : Forest) (to : Path) (inside : Forest) → is_short n ≡ true
    → is_listed (visit_of reach path n d) ≡ true → Reached reach (path ++ n ∷ []) d to inside → Reached reach path (dir n d f) to inside
reached_below reach path n d f to inside short listed it =
    let tests = listed_tests (is_last (at_of path)) (nat_lt reach.depth (length path + 1)) (reach.walks (path ++ n ∷ [])) d listed in
    let two = two_bytes (length n == 1) (length n == 2) (ap is_last (sym (last_name_says path n)) ∙ it.may_lead) short in
    let long = length-append path (n ∷ []) in
    let within = it.deep in
    record {
      first = n;
      rest = it.first ∷ it.rest;
      path_is = it.path_is ∙ append_assoc path (n ∷ []) (it.first ∷ it.rest);
      there = ap (λ b. option_and_then (λ m. node_at m (it.first ∷ it.rest)) (cond b (Some (Dir d)) (find f n))) (name_itself n) ∙ it.there;
      may_lead = tests.0;
      way = and_from (length n == 2) (is_way (it.first ∷ it.rest)) two it.way;
      deep = omega (arith, within, long);
      walked = and_from (reach.walks (path ++ n ∷ [])) (is_walked reach.walks (path ++ n ∷ []) (it.first ∷ it.rest)) tests.2 it.walked;
    }

-- each site that is listed among what the shorties of a directory lead to is reached from that directory
reached : (reach : Reach) (path : Path) (f : Forest) (to : Path) (inside : Forest) → is_proper f ≡ true
    → IsAmongSites (to, Listed inside) (sites_in reach path f)
    → Reached reach path f to inside
reached reach path none to inside proper h = absurd h
reached reach path (file n b f) to inside proper h =
    let parts = proper_file n b f proper in
    reached_after reach path n f (file n b f) (File b) to inside parts.2 parts.1 (λ first rest. refl) (reached reach path f to inside parts.2 h)
reached reach path (other n f) to inside proper h =
    let parts = proper_other n f proper in
    reached_after reach path n f (other n f) Other to inside parts.2 parts.1 (λ first rest. refl) (reached reach path f to inside parts.2 h)
reached reach path (dir n d f) to inside proper h =
    let parts = proper_dir n d f proper in
    let visit = visit_of reach path n d in
    let inner = sites_in reach (path ++ n ∷ []) d in
    elim (among_parts (to, Listed inside) (cond (is_short n) ((path ++ n ∷ [], visit) ∷ walked visit inner) []) (sites_in reach path f) h) [
      | inl front ↦
          let chosen = among_chosen (is_short n) (to, Listed inside) (path ++ n ∷ [], visit) (walked visit inner) front in
          elim (chosen.1) [
            | inl e ↦ reached_here reach path n d f to inside chosen.0 (ap (λ (x : Site). x.0) e) (ap (λ (x : Site). x.1) e)
            | inr below ↦
                let under = among_walked visit (to, Listed inside) inner below in
                reached_below reach path n d f to inside chosen.0 under.0 (reached reach (path ++ n ∷ []) d to inside parts.3 under.1)
          ]
      | inr after ↦ reached_after reach path n f (dir n d f) (Dir d) to inside parts.2 parts.1 (λ first rest. refl)
          (reached reach path f to inside parts.2 after)
    ]

-- each site that is listed is reached from the top directory
pub listed_reached : ListedSitesAreReached
listed_reached reach top path inside proper (inl e) =
    let at_top : [] ≡ path = ap (λ (x : Site). x.0) e in
    let visit : Listed top ≡ Listed inside = ap (λ (x : Site). x.1) e in
    let same : top ≡ inside = cc in
    record {
      there = ap (node_at (Dir top)) (sym at_top) ∙ ap (λ (x : Forest). Some (Dir x)) same;
      way = ap is_way (sym at_top);
      depth = inl (sym at_top);
      walked = ap (is_walked reach.walks []) (sym at_top);
    }
listed_reached reach top path inside proper (inr h) =
    let it = reached reach [] top path inside proper h in
    let within = it.deep in
    let long = ap length it.path_is in
    record {
      there = ap (node_at (Dir top)) it.path_is ∙ it.there;
      way = ap is_way it.path_is ∙ it.way;
      depth = inr (omega (arith, within, long));
      walked = ap (is_walked reach.walks []) it.path_is ∙ it.walked;
    }

-- one or two holds where two does
or_right : (one two : Bool) → two ≡ true → (one || two) ≡ true
or_right true two h = refl
or_right false two h = h

-- a name of two bytes hasn't one
not_one : (k : ℕ) → (k == 2) ≡ true → (k == 1) ≡ false
not_one k two = ap (λ n. n == 1) (eqb-true k 2 two)

-- where b holds, the first of the sites that are given for it and each of the others is among them
among_choice : (b : Bool) (x y : Site) (ys : List Site) → b ≡ true → (y ≡ x) ⊎ IsAmongSites x ys → IsAmongSites x (cond b (y ∷ ys) [])
among_choice true x y ys is h = h
among_choice false x y ys is h = absurd (cc)

-- a shorty is listed that stands below no name of one byte, and not too deep, where it is walked into
visit_listed : (reach : Reach) (path : Path) (n : List ℕ) (d : Forest) → is_last (at_of path) ≡ false → length path + 1 ≤ reach.depth
    → reach.walks (path ++ n ∷ []) ≡ true → visit_of reach path n d ≡ Listed d
visit_listed reach path n d may_lead deep walked =
    ap (λ b. cond b Past (cond (nat_lt reach.depth (length path + 1)) Deep (cond (reach.walks (path ++ n ∷ [])) (Listed d) Elsewhere))) may_lead
    ∙ ap (λ b. cond b Deep (cond (reach.walks (path ++ n ∷ [])) (Listed d) Elsewhere)) (le-ltb reach.depth (length path + 1) deep)
    ∙ ap (λ b. cond b (Listed d) Elsewhere) walked

-- what is listed inside a directory is listed at the end of a longer path
Inside : Reach → Path → Forest → Forest → Path → Type 0
Inside reach path d inside rest =
    (first : List ℕ) (after : Path) → rest ≡ first ∷ after → is_last (at_of path) ≡ false → is_way (first ∷ after) ≡ true
    → length path + suc (length after) ≤ reach.depth → is_walked reach.walks path (first ∷ after) ≡ true
    → IsAmongSites (path ++ first ∷ after, Listed inside) (sites_in reach path d)

-- the directory at the end of a way whose first name is that of the first entry is among the sites that this entry leads to
front_listed : (reach : Reach) (path : Path) (n : List ℕ) (d inside : Forest) (rest : Path) → Inside reach (path ++ n ∷ []) d inside rest
    → node_at (Dir d) rest ≡ Some (Dir inside) → is_last (at_of path) ≡ false → is_way (n ∷ rest) ≡ true
    → length path + suc (length rest) ≤ reach.depth → is_walked reach.walks path (n ∷ rest) ≡ true
    → IsAmongSites (path ++ n ∷ rest, Listed inside) (cond (is_short n) ((path ++ n ∷ [], visit_of reach path n d)
    ∷ walked (visit_of reach path n d) (sites_in reach (path ++ n ∷ []) d)) [])
unfolding Inside
front_listed reach path n d inside [] each there may_lead way deep walks =
    let same : d ≡ inside = cc in
    let here = (and_parts (reach.walks (path ++ n ∷ [])) true walks).0 in
    let visit = visit_listed reach path n d may_lead deep here ∙ ap (λ (x : Forest). Listed x) same in
    among_choice (is_short n) (path ++ n ∷ [], Listed inside) (path ++ n ∷ [], visit_of reach path n d)
    (walked (visit_of reach path n d) (sites_in reach (path ++ n ∷ []) d)) way (inl (ap (λ (v : Visit). (path ++ n ∷ [], v)) visit))
front_listed reach path n d inside (m ∷ rest) each there may_lead way deep walks =
    let walked_parts = and_parts (reach.walks (path ++ n ∷ [])) (is_walked reach.walks (path ++ n ∷ []) (m ∷ rest)) walks in
    let parts = and_parts (length n == 2) (is_way (m ∷ rest)) way in
    let long = length-append path (n ∷ []) in
    let near : length path + 1 ≤ reach.depth = omega (arith, deep) in
    let far : length (path ++ n ∷ []) + suc (length rest) ≤ reach.depth = omega (arith, deep, long) in
    let leads : is_last (at_of (path ++ n ∷ [])) ≡ false = ap is_last (last_name_says path n ∙ ap (λ b. cond b at.Last at.Pair) (not_one (length n) parts.0)) in
    let inner = sites_in reach (path ++ n ∷ []) d in
    let below = each m rest refl leads parts.1 far walked_parts.1 in
    let moved = subst (λ (p : Path). IsAmongSites (p, Listed inside) inner) (append_assoc path (n ∷ []) (m ∷ rest)) below in
    among_choice (is_short n) (path ++ n ∷ m ∷ rest, Listed inside) (path ++ n ∷ [], visit_of reach path n d) (walked (visit_of reach path n d) inner)
    (or_right (length n == 1) (length n == 2) parts.0)
    (inr (subst (λ (v : Visit). IsAmongSites (path ++ n ∷ m ∷ rest, Listed inside) (walked v inner))
    (sym (visit_listed reach path n d may_lead near walked_parts.0)) moved))

-- the directory at the end of a way of shorties is listed among what the shorties of the directory at its start lead to
listed_in : (reach : Reach) (path : Path) (f : Forest) (first : List ℕ) (rest : Path) (inside : Forest) → node_at (Dir f) (first ∷ rest) ≡ Some (Dir inside)
    → is_last (at_of path) ≡ false → is_way (first ∷ rest) ≡ true
    → length path + suc (length rest) ≤ reach.depth → is_walked reach.walks path (first ∷ rest) ≡ true
    → IsAmongSites (path ++ first ∷ rest, Listed inside) (sites_in reach path f)
unfolding Inside
listed_in reach path none first rest inside there may_lead way deep walks = absurd (cc)
listed_in reach path (file n b f) first rest inside there may_lead way deep walks = elim (cases_Bool (bytes_eq n first)) [
  | inl same ↦ absurd (file_leads_nowhere b rest inside (sym (ap (λ t. option_and_then (λ m. node_at m rest) (cond t (Some (File b)) (find f first))) same)
      ∙ there))
  | inr apart ↦ listed_in reach path f first rest inside (sym (ap (λ t. option_and_then (λ m. node_at m rest) (cond t (Some (File b)) (find f first))) apart)
      ∙ there) may_lead way deep walks
]
listed_in reach path (other n f) first rest inside there may_lead way deep walks = elim (cases_Bool (bytes_eq n first)) [
  | inl same ↦ absurd (other_leads_nowhere rest inside (sym (ap (λ t. option_and_then (λ m. node_at m rest) (cond t (Some Other) (find f first))) same)
      ∙ there))
  | inr apart ↦ listed_in reach path f first rest inside (sym (ap (λ t. option_and_then (λ m. node_at m rest) (cond t (Some Other) (find f first))) apart)
      ∙ there) may_lead way deep walks
]
listed_in reach path (dir n d f) first rest inside there may_lead way deep walks =
    let front = cond (is_short n) ((path ++ n ∷ [], visit_of reach path n d) ∷ walked (visit_of reach path n d) (sites_in reach (path ++ n ∷ []) d)) [] in
    elim (cases_Bool (bytes_eq n first)) [
      | inl same ↦
          let is : n ≡ first = (bytes_eq-Decides n first).0 same in
          let within : node_at (Dir d) rest ≡ Some (Dir inside) = sym (ap (λ t. option_and_then (λ m. node_at m rest) (cond t (Some (Dir d)) (find f first)))
          same) ∙ there in
          let each : Inside reach (path ++ n ∷ []) d inside rest = λ m after rest_is. listed_in reach (path ++ n ∷ []) d m after inside
          (ap (node_at (Dir d)) (sym rest_is) ∙ within) in
          let found = front_listed reach path n d inside rest each within may_lead (ap (λ (x : List ℕ). is_way (x ∷ rest)) is ∙ way) deep
          (ap (λ (x : List ℕ). is_walked reach.walks path (x ∷ rest)) is ∙ walks) in
          among_left (path ++ first ∷ rest, Listed inside) front (sites_in reach path f)
          (subst (λ (x : List ℕ). IsAmongSites (path ++ x ∷ rest, Listed inside) front) is found)
      | inr apart ↦
          among_right (path ++ first ∷ rest, Listed inside) front (sites_in reach path f)
          (listed_in reach path f first rest inside (sym (ap (λ t. option_and_then (λ m. node_at m rest) (cond t (Some (Dir d)) (find f first))) apart) ∙ there)
          may_lead way deep walks)
    ]

-- each directory that shorties lead to is a site that is listed
pub reached_listed : ReachedSitesAreListed
reached_listed reach top [] inside h =
    let there = h.there in
    let same : top ≡ inside = cc in
    inl (ap (λ (x : Forest). ([], Listed x)) same)
reached_listed reach top (first ∷ rest) inside h = inr (listed_in reach [] top first rest inside h.there refl h.way (within h.depth) h.walked)
  where
    within : (first ∷ rest ≡ []) ⊎ (suc (length rest) ≤ reach.depth) → 0 + suc (length rest) ≤ reach.depth
    within (inl e) = absurd (cc)
    within (inr le) = omega (arith, le)

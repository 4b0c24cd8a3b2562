-- No run with the limits of a check passes anything over for `limit` in a clean store.
use Rattle.std.proofs.Common.{
  ◌≡◌,
  ◌≤◌,
  ◌∙◌,
  ◌+◌,
  ◌-◌,
  ◌^◌,
  ℕ,
  zero,
  suc,
  Bool,
  true,
  false,
  cond,
  length,
  List,
  [],
  ◌∷◌,
  ◌++◌,
  Option,
  None,
  Some,
  Result,
  Ok,
  Err,
  refl,
  sym,
  ap,
  subst,
  arith,
  nat_lt,
  append_assoc,
  append-nil,
}
use Rattle.std.specs.Prelude.{◌≢◌, ◌&&◌, ◌⊎◌, ⊤, not, option_map, map, slice_get, unwrap_or}
use Rattle.std.proofs.lemmas.Bool.{eqb-false, le-ltb, ltb-true}
use Rattle.std.proofs.lemmas.List.{length-append}
use Rattle.pt_check.specs.Clean.{AreCleanBytes, Each, HasRoomFor, IsClean, IsCleanFolder, IsCleanStore, IsNotSkippedForLimit, NoRunSkipsForLimit, file_count}
use Rattle.pt_check.specs.Counting.{plus}
use Rattle.pt_check.specs.Visits.{Folder, entry_trouble, finding_of, name_trouble}
use Rattle.pt_check.specs.Within.{below_site, beside_shorties, starts_object}
use Rattle.pt_check.specs.declared.trouble.Trouble.TheVariants as trouble
use Rattle.pt_check.specs.declared.wants.Wants.{Wants}
use Rattle.pt_check.specs.declared.within.Within.{Within}
use Rattle.pt_check.specs.declared.within.Within.TheVariants as within
use Rattle.pt_check.proofs.Others.{each_both}
use Rattle.pt_check.proofs.FineEntries.{FineEntry, IsNoLimit, behind_name, files_count, first_fine, not_told, one_longer, short_enough}
use Rattle.pt_check.proofs.SameFound.{is_told, leads_to, same_found}
use Rattle.pt_name.specs.Identifying.{identifier_at}
use Rattle.pt_name.specs.Share.{walks}
use Rattle.pt_name.specs.declared.identifying.Refusal.{Refusal}
use Rattle.pt_name.specs.declared.identifying.Refusal.TheVariants as refusal
use Rattle.pt_name.specs.Tuples.{Tuples}
use Rattle.pt_plan.specs.Items.{
  Interior,
  Named,
  PairtreeObject,
  Skip,
  Verdict,
  cause_of,
  encapsulated,
  gathered_from,
  is_ours,
  item_of,
  verdict_by_finding,
  verdict_by_identifier,
  verdict_by_visit,
  verdict_of,
  verdict_on_candidate,
}
use Rattle.pt_plan.specs.Job.{Job, form_of, reach_of}
use Rattle.pt_plan.specs.Store.{pairtree_root, prefix_of, sites_in_root}
use Rattle.pt_tree.specs.Forest.{Forest, none, file, other, dir, File, dir_at, listing_of}
use Rattle.pt_tree.specs.Listing.{Item}
use Rattle.pt_tree.specs.Path.{Path, joined}
use Rattle.pt_tree.specs.declared.kind.Kind.{Kind}
use Rattle.pt_tree.specs.declared.kind.Kind.TheVariants as kind
use Rattle.pt_walk.proofs.Findings.{candidate, last_name_says}
use Rattle.pt_walk.specs.Left.{entries_from}
use Rattle.pt_walk.specs.Limits.{Bounds, greatest_limits}
use Rattle.pt_walk.specs.Object.{entries_in, first_bad, without_shorties}
use Rattle.pt_walk.specs.Site.{found, found_at_top, is_short, non_shorties}
use Rattle.pt_walk.specs.Sites.{Reach, Site, Visit, Listed, Past, Deep, Elsewhere, at_of, is_last, sites_in, visit_of, walked}
use Rattle.pt_walk.specs.declared.cause.Cause.TheVariants as cause
use Rattle.pt_walk.specs.declared.site.At.{At}
use Rattle.pt_walk.specs.declared.site.At.TheVariants as at
use Rattle.pt_walk.specs.declared.site.Finding.{Finding}
use Rattle.pt_walk.specs.declared.site.Finding.TheVariants as finding
use Rattle.pt_walk.specs.declared.site.Form.{Form}
use Rattle.pt_walk.specs.declared.site.Form.TheVariants as form

-- a folder in an object whose own path is this, below a folder of this name, in a store of this prefix
abbrev inner : List ℕ → List ℕ → Path → Path → ℕ → Folder
inner prefix top own path left = record { path = top ∷ path; prefix = prefix; here = within.Object (plus (length (joined (top ∷ own))) 1); left = left }

-- what is wanted, but for its form and that files are read whole
abbrev Rest : Type 0
Rest = Form × Option ℕ × Tuples

-- a check that reads files whole
abbrev read_whole : Rest → Wants
read_whole rest = record { reads = true; form = rest.0; room = rest.1; layout = rest.2 }

-- a walk as deep as any goes
abbrev deepest : (Path → Bool) → Reach
deepest walks = record { depth = 600; walks = walks }

module _ (rest : Rest) (start : List ℕ) where
  -- of a file at this path, whose object's own path is that
  fine_file : (top : List ℕ) (own rel path : Path) (name bytes : List ℕ) → path ≡ own ++ rel
      → entry_trouble (within.Object (plus (length (joined (top ∷ own))) 1)) name kind.File (length (joined (top ∷ (path ++ name ∷ [])))) ≡ None
      → AreCleanBytes true bytes → FineEntry (length own) (rel ++ name ∷ [], File bytes)
  fine_file top own rel path name bytes path_is entry read =
      let all = length (joined (top ∷ (path ++ name ∷ []))) in
      let short = not_told (nat_lt (plus (plus (length (joined (top ∷ own))) 1) 4000) all) trouble.Long (name_trouble name) entry in
      let whole : all ≡ length (joined (top ∷ own)) + suc (length (joined (rel ++ name ∷ []))) =
      ap (λ (p : Path). length (joined (top ∷ (p ++ name ∷ [])))) path_is
      ∙ ap (λ (p : Path). length (joined (top ∷ p))) (append_assoc own rel (name ∷ [])) ∙ behind_name top own rel name in (
        short_enough (length (joined (top ∷ own))) all (length (joined (rel ++ name ∷ []))) short whole,
        not_told (nat_lt (2 ^ 43) (length bytes)) trouble.Large None read,
      )

  fine_entries : (top : List ℕ) (own rel : Path) (left : ℕ) (tree : Forest) → left + length (own ++ rel) ≡ 601
      → IsClean (read_whole rest) (inner start top own (own ++ rel) left) finding.Interior tree → Each (FineEntry (length own)) (entries_in rel tree)
  fine_entries top own rel left none deep clean = tt
  fine_entries top own rel left (file name bytes after) deep clean =
      (fine_file top own rel (own ++ rel) name bytes refl clean.0.0 clean.1, fine_entries top own rel left after deep clean.2)
  fine_entries top own rel left (other name after) deep clean = (tt, fine_entries top own rel left after deep clean.1)
  fine_entries top own rel left (dir name inside after) deep clean =
      let some = eqb-false (left - 1) 0 clean.1.0 in
      let long = length-append own rel in
      let longer = one_longer rel name in
      let whole = length-append own (rel ++ name ∷ []) in
      let fits : length own + length (rel ++ name ∷ []) ≤ 600 = omega (arith, some, deep, long, longer) in
      let deeper : (left - 1) + length (own ++ (rel ++ name ∷ [])) ≡ 601 = omega (arith, some, deep, long, longer, whole) in
      let there : IsClean (read_whole rest) (inner start top own (own ++ (rel ++ name ∷ [])) (left - 1)) finding.Interior inside =
      subst (λ (p : Path). IsClean (read_whole rest) (inner start top own p (left - 1)) finding.Interior inside) (append_assoc own rel (name ∷ [])) clean.3 in (
        fits,
        each_both (FineEntry (length own)) (entries_in (rel ++ name ∷ []) inside) (entries_in rel after)
            (fine_entries top own (rel ++ name ∷ []) (left - 1) inside deeper there)
            (fine_entries top own rel left after deep clean.4),
      )

  fine_object : (top : List ℕ) (own : Path) (left : ℕ) (inside : Forest) → left + length own ≡ 601 → (left ≡ 0 → ⊥)
      → IsClean (read_whole rest) (inner start top own own left) finding.Interior inside → file_count inside ≤ 1000000
      → IsNoLimit (cause_of greatest_limits (record { at = own; gathered = false; inside = inside }))
  fine_object top own left inside deep some clean few =
      let fits : nat_lt 600 (length own) ≡ false = le-ltb 600 (length own) (omega (arith, deep, some)) in
      let whole = append-nil own in
      let there : IsClean (read_whole rest) (inner start top own (own ++ []) left) finding.Interior inside = subst
      (λ (p : Path). IsClean (read_whole rest) (inner start top own p left) finding.Interior inside) (sym whole) clean in
      let long : left + length (own ++ []) ≡ 601 = ap (λ (p : Path). left + length p) whole ∙ deep in
      let count = files_count [] inside in
      by (nat_lt 600 (length own)) fits (first_fine (length own) 0 (entries_in [] inside) (fine_entries top own [] left inside long there)
      (omega (arith, count, few)))
    where
      by : (t : Bool) → t ≡ false → IsNoLimit (option_map (λ bad. bad.1) (first_bad greatest_limits (length own) 0 (entries_in [] inside)))
          → IsNoLimit (cond (not false && t) (Some cause.Limit) (option_map (λ bad. bad.1) (first_bad greatest_limits (length own) 0 (entries_in [] inside))))
      by true is fine = absurd (cc)
      by false is fine = fine

  -- ---- the sites

  -- the folder of a site, below a folder of this name
  abbrev site_folder : List ℕ → Path → ℕ → Folder
  site_folder top path left = record { path = top ∷ path; prefix = start; here = within.Site (at_of path); left = left }

  -- what a folder that is this is found to be
  abbrev seen_of : Within → Forest → Finding
  seen_of here inside = finding_of rest.0 here (listing_of inside)

  -- there is nothing to tell of a site that is listed
  abbrev CleanSite : List ℕ → Path → Forest → Type 0
  CleanSite top path inside = (left : ℕ) × (left + length path ≡ 601) × IsCleanFolder (read_whole rest) (site_folder top path left) (listing_of inside)
      × IsClean (read_whole rest) (site_folder top path left) (seen_of (within.Site (at_of path)) inside) inside
      × HasRoomFor (seen_of (within.Site (at_of path)) inside) inside

  abbrev FineVisit : List ℕ → Path → Visit → Type 0
  FineVisit top path (Listed inside) = CleanSite top path inside
  FineVisit top path Past = ⊤
  FineVisit top path Deep = ⊥
  FineVisit top path Elsewhere = ⊤

  abbrev FineSite : List ℕ → Site → Type 0
  FineSite top site = FineVisit top site.0 site.1

  -- what a check finds of a folder in a site, and of all that stands in it
  abbrev Met : List ℕ → Path → ℕ → Forest → Within → Type 0
  Met top path left inside here = let it : Folder = record { path = top ∷ path; prefix = start; here = here; left = left } in
      IsCleanFolder (read_whole rest) it (listing_of inside) × IsClean (read_whole rest) it (seen_of here inside) inside
      × HasRoomFor (seen_of here inside) inside

  fine_shorty : (walks : Path → Bool) (top : List ℕ) (path : Path) (left : ℕ) (name : List ℕ) (inside : Forest) → left + length path ≡ 601
      → Met top (path ++ name ∷ []) (left - 1) inside (below_site (at_of path) name)
      → (CleanSite top (path ++ name ∷ []) inside → Each (FineSite top) (sites_in (deepest walks) (path ++ name ∷ []) inside))
      → Each (FineSite top) ((path ++ name ∷ [], visit_of (deepest walks) path name inside)
      ∷ walked (visit_of (deepest walks) path name inside) (sites_in (deepest walks) (path ++ name ∷ []) inside))
  fine_shorty walks top path left name inside deep met on = by (is_last (at_of path)) (nat_lt 600 (length path + 1)) (walks (path ++ name ∷ [])) refl refl
    where
      by : (a b w : Bool) → is_last (at_of path) ≡ a → nat_lt 600 (length path + 1) ≡ b
          → Each (FineSite top) ((path ++ name ∷ [], cond a Past (cond b Deep (cond w (Listed inside) Elsewhere)))
          ∷ walked (cond a Past (cond b Deep (cond w (Listed inside) Elsewhere))) (sites_in (deepest walks) (path ++ name ∷ []) inside))
      by true b w last too_deep = (tt, tt)
      by false false false last too_deep = (tt, tt)
      by false true w last too_deep =
          let some = eqb-false (left - 1) 0 met.0.0 in
          let over = ltb-true 600 (length path + 1) too_deep in
          absurd (omega (arith, deep, some, over))
      by false false true last too_deep =
          let some = eqb-false (left - 1) 0 met.0.0 in
          let longer = one_longer path name in
          let here : below_site (at_of path) name ≡ within.Site (at_of (path ++ name ∷ [])) =
          leads_to (at_of path) name last ∙ ap (λ (w : At). within.Site w) (sym (last_name_says path name)) in
          let there : Met top (path ++ name ∷ []) (left - 1) inside (within.Site (at_of (path ++ name ∷ []))) = subst
          (Met top (path ++ name ∷ []) (left - 1) inside) here met in
          let clean : CleanSite top (path ++ name ∷ []) inside = (left - 1, omega (arith, deep, some, longer), there.0, there.1, there.2) in
          (clean, on clean)

  -- what a folder of a site comes to, by whether its name is short
  abbrev in_site : At → Finding → List ℕ → ℕ → ℕ → Bool → Within
  in_site w seen name site bytes short = cond short (below_site w name) (beside_shorties seen site bytes)

  fine_sites : (walks : Path → Bool) (top : List ℕ) (path : Path) (left : ℕ) (seen : Finding) (tree : Forest) → left + length path ≡ 601
      → IsClean (read_whole rest) (site_folder top path left) seen tree
      → Each (FineSite top) (sites_in (deepest walks) path tree)
  fine_sites walks top path left seen none deep clean = tt
  fine_sites walks top path left seen (file name bytes after) deep clean = fine_sites walks top path left seen after deep clean.2
  fine_sites walks top path left seen (other name after) deep clean = fine_sites walks top path left seen after deep clean.1
  fine_sites walks top path left seen (dir name inside after) deep clean =
      each_both (FineSite top) (here (is_short name)) (sites_in (deepest walks) path after)
      (by (is_short name) refl (clean.1, clean.3, clean.2.1)
      (λ site. fine_sites walks top (path ++ name ∷ []) site.0 (seen_of (within.Site (at_of (path ++ name ∷ []))) inside) inside site.1 site.3))
      (fine_sites walks top path left seen after deep clean.4)
    where
      here : Bool → List Site
      here b = cond b ((path ++ name ∷ [], visit_of (deepest walks) path name inside)
          ∷ walked (visit_of (deepest walks) path name inside) (sites_in (deepest walks) (path ++ name ∷ []) inside)) []

      site : ℕ
      site = length (joined (top ∷ path))

      bytes : ℕ
      bytes = length (joined (top ∷ (path ++ name ∷ [])))

      by : (b : Bool) → is_short name ≡ b → Met top (path ++ name ∷ []) (left - 1) inside (in_site (at_of path) seen name site bytes (is_short name))
          → (CleanSite top (path ++ name ∷ []) inside → Each (FineSite top) (sites_in (deepest walks) (path ++ name ∷ []) inside))
          → Each (FineSite top) (here b)
      by false is met on = tt
      by true is met on =
          fine_shorty walks top path left name inside deep (subst (λ (s : Bool). Met top (path ++ name ∷ []) (left - 1) inside
          (in_site (at_of path) seen name site bytes s)) is met) on

  -- a site that is gathered

  fine_gathered : (top : List ℕ) (path : Path) (left : ℕ) (tree : Forest) → left + length path ≡ 601
      → IsClean (read_whole rest) (site_folder top path left) finding.Gathered tree → Each (FineEntry (length path)) (entries_in [] (without_shorties tree))
  fine_gathered top path left none deep clean = tt
  fine_gathered top path left (file name bytes after) deep clean =
      (fine_file top path [] path name bytes (sym (append-nil path)) clean.0.0 clean.1, fine_gathered top path left after deep clean.2)
  fine_gathered top path left (other name after) deep clean = (tt, fine_gathered top path left after deep clean.1)
  fine_gathered top path left (dir name inside after) deep clean =
      by (is_short name) refl (clean.1, clean.3, clean.2.1) (fine_gathered top path left after deep clean.4)
    where
      site : ℕ
      site = length (joined (top ∷ path))

      bytes : ℕ
      bytes = length (joined (top ∷ (path ++ name ∷ [])))

      by : (short : Bool) → is_short name ≡ short
          → Met top (path ++ name ∷ []) (left - 1) inside (in_site (at_of path) finding.Gathered name site bytes (is_short name))
          → Each (FineEntry (length path)) (entries_in [] (without_shorties after))
          → Each (FineEntry (length path)) (entries_in [] (cond short (without_shorties after) (dir name inside (without_shorties after))))
      by true is met on = on
      by false is met on =
          let there : Met top (path ++ name ∷ []) (left - 1) inside (within.Object (plus site 1)) =
          subst (λ (s : Bool). Met top (path ++ name ∷ []) (left - 1) inside (in_site (at_of path) finding.Gathered name site bytes s)) is met in
          let some = eqb-false (left - 1) 0 there.0.0 in
          let longer = one_longer path name in
          let fits : length path + 1 ≤ 600 = omega (arith, deep, some) in
          let deeper : (left - 1) + length (path ++ name ∷ []) ≡ 601 = omega (arith, deep, some, longer) in (
            fits,
            each_both (FineEntry (length path)) (entries_in (name ∷ []) inside) (entries_in [] (without_shorties after))
                (fine_entries top path (name ∷ []) (left - 1) inside deeper there.1)
                on,
          )

  -- ---- the verdict on a site

  abbrev FineVerdict : Verdict → Type 0
  FineVerdict Interior = ⊤
  FineVerdict (Skip why) = why ≢ cause.Limit
  FineVerdict (Named id object) = IsNoLimit (cause_of greatest_limits object)

  fine_named : (object : PairtreeObject) (named : Result (List ℕ) Refusal) → IsNoLimit (cause_of greatest_limits object)
      → FineVerdict (verdict_by_identifier object named)
  fine_named object (Ok id) fine = fine
  fine_named object (Err refusal.Malformed) fine = λ e. absurd (cc)
  fine_named object (Err refusal.NotUtf8) fine = λ e. absurd (cc)
  fine_named object (Err refusal.Reserved) fine = λ e. absurd (cc)

  -- the first of these
  abbrev first_item : Forest → Option Item
  first_item none = None
  first_item (file name bytes after) = Some (name, kind.File)
  first_item (other name after) = Some (name, kind.Other)
  first_item (dir name inside after) = Some (name, kind.Dir)

  item_from : (i : ℕ) (tree : Forest) → first_item (entries_from i tree) ≡ slice_get (listing_of tree) i
  item_from zero none = refl
  item_from zero (file name bytes after) = refl
  item_from zero (other name after) = refl
  item_from zero (dir name inside after) = refl
  item_from (suc i) none = refl
  item_from (suc i) (file name bytes after) = item_from i after
  item_from (suc i) (other name after) = item_from i after
  item_from (suc i) (dir name inside after) = item_from i after

  clean_from : (folder : Folder) (seen : Finding) (i : ℕ) (tree : Forest) → IsClean (read_whole rest) folder seen tree
      → IsClean (read_whole rest) folder seen (entries_from i tree)
  clean_from folder seen zero tree clean = clean
  clean_from folder seen (suc i) none clean = clean
  clean_from folder seen (suc i) (file name bytes after) clean = clean_from folder seen i after clean.2
  clean_from folder seen (suc i) (other name after) clean = clean_from folder seen i after clean.1
  clean_from folder seen (suc i) (dir name inside after) clean = clean_from folder seen i after clean.4

  module _ (job : Job) (prefix : List ℕ) (top : List ℕ) where
    -- what a check finds of an object's folder in its site
    abbrev MetObject : Path → ℕ → Forest → At → Within → Type 0
    MetObject own left inside w here = let it : Folder = record { path = top ∷ own; prefix = start; here = here; left = left } in
        IsCleanFolder (read_whole rest) it (listing_of inside) × (starts_object here (within.Site w) ≡ true → file_count inside ≤ 1000000)
        × IsClean (read_whole rest) it (seen_of here inside) inside

    fine_candidate : (path : Path) (left i : ℕ) (tree : Forest) → left + length path ≡ 601
        → IsClean (read_whole rest) (site_folder top path left) (finding.Candidate i) tree
        → ((name : List ℕ) → first_item tree ≡ Some (name, kind.Dir) → is_short name ≡ false)
        → FineVerdict (verdict_on_candidate job prefix path (encapsulated path tree))
    fine_candidate path left i none deep clean long = tt
    fine_candidate path left i (file name bytes after) deep clean long = tt
    fine_candidate path left i (other name after) deep clean long = tt
    fine_candidate path left i (dir name inside after) deep clean long =
        let own : Path = path ++ name ∷ [] in
        let site = length (joined (top ∷ path)) in
        let bytes = length (joined (top ∷ own)) in
        let some = eqb-false (left - 1) 0 clean.1.0 in
        let longer = one_longer path name in
        let sum : (left - 1) + length (path ++ name ∷ []) ≡ 601 = omega (arith, deep, some, longer) in
        let met : MetObject own (left - 1) inside (at_of path) (within.Object (plus bytes 1)) =
        subst (λ (s : Bool). MetObject own (left - 1) inside (at_of path) (in_site (at_of path) (finding.Candidate i) name site bytes s)) (long name refl)
        (clean.1, clean.2.0, clean.3)
        in
        fine_named (record { at = own; gathered = false; inside = inside }) (identifier_at job.tuples prefix path)
        (fine_object top own (left - 1) inside sum some met.2 (met.1 refl))

    fine_finding : (path : Path) (left : ℕ) (inside : Forest) (f : Finding) → left + length path ≡ 601 → found (listing_of inside) (at_of path) rest.0 ≡ f
        → is_told (at_of path) f (top ∷ path) ≡ None → IsClean (read_whole rest) (site_folder top path left) f inside → HasRoomFor f inside
        → FineVerdict (verdict_by_finding job prefix path inside f)
    fine_finding path left inside finding.Interior deep is silent clean room = tt
    fine_finding path left inside (finding.Skip why) deep is silent clean room = absurd (cc)
    fine_finding path left inside finding.Gathered deep is silent clean room =
        let count = files_count [] (without_shorties inside) in
        fine_named (gathered_from path inside) (identifier_at job.tuples prefix path)
        (first_fine (length path) 0 (entries_in [] (without_shorties inside)) (fine_gathered top path left inside deep clean) (omega (arith, count, room)))
    fine_finding path left inside (finding.Candidate i) deep is silent clean room =
        let only = candidate (listing_of inside) (at_of path) rest.0 i is in
        fine_candidate path left i (entries_from i inside) deep (clean_from (site_folder top path left) (finding.Candidate i) i inside clean)
        (λ name stands. let same : Some (name, kind.Dir) ≡ Some (only.0, kind.Dir) = sym stands ∙ item_from i inside ∙ only.1 in
        let pair : (name, kind.Dir) ≡ (only.0, kind.Dir) = cc in
        ap is_short (ap (λ (item : Item). item.0) pair) ∙ only.2)

    -- what is wanted is of the form of the run, or gathers nothing
    abbrev Covers : Type 0
    Covers = (rest.0 ≡ form.Plain) ⊎ (rest.0 ≡ form_of job)

    fine_by_visit : Covers → (path : Path) (visit : Visit) → FineVisit top path visit → FineVerdict (verdict_by_visit job prefix path visit)
    fine_by_visit covers path (Listed inside) (left, deep, folder, clean, room) =
        let items = listing_of inside in
        let seen = found items (at_of path) rest.0 in
        let same : found items (at_of path) (form_of job) ≡ seen = same_found (at_of path) rest.0 (form_of job) items (top ∷ path) covers folder.1 in
        subst (λ (f : Finding). FineVerdict (verdict_by_finding job prefix path inside f)) (sym same)
        (fine_finding path left inside seen deep refl folder.1 clean room)
    fine_by_visit covers path Past fine = λ e. absurd (cc)
    fine_by_visit covers path Deep fine = absurd fine
    fine_by_visit covers path Elsewhere fine = tt

    fine_verdict : Covers → (path : Path) (visit : Visit) → FineVisit top path visit → FineVerdict (verdict_of job prefix path visit)
    fine_verdict covers path visit fine = by (is_ours job.share path (verdict_by_visit job prefix path visit))
      where
        by : (b : Bool) → FineVerdict (cond b (verdict_by_visit job prefix path visit) Interior)
        by true = fine_by_visit covers path visit fine
        by false = tt

    fine_item : Covers → job.limits ≡ greatest_limits → (site : Site) → FineSite top site → IsNotSkippedForLimit job (item_of job prefix site)
    fine_item covers limits site fine =
        let verdict = fine_verdict covers site.0 site.1 fine in (
          (λ is. let skips : FineVerdict (Skip cause.Limit) = subst FineVerdict is verdict in skips refl),
          (λ id object is.
              let named : FineVerdict (Named id object) = subst FineVerdict is verdict in
              subst (λ (l : Bounds). IsNoLimit (cause_of l object)) (sym limits) named),
        )

    fine_items : Covers → job.limits ≡ greatest_limits → (all : List Site) → Each (FineSite top) all
        → Each (IsNotSkippedForLimit job) (map (item_of job prefix) all)
    fine_items covers limits [] fine = tt
    fine_items covers limits (site ∷ others) fine = (fine_item covers limits site fine.0, fine_items covers limits others fine.1)

  root_room : (l : List (ℕ × Kind)) (inside : Forest) → HasRoomFor (found_at_top l) inside
  root_room [] inside = tt
  root_room (x ∷ l) inside = tt

  fine_root : (walks : Path → Bool) (top : List ℕ) (tree : Option Forest)
      → (let inside = unwrap_or tree none in
      IsCleanFolder (read_whole rest) (site_folder top [] 601) (listing_of inside)
      × IsClean (read_whole rest) (site_folder top [] 601) (seen_of (within.Site at.Root) inside) inside)
      → Each (FineSite top) (sites_in_root (deepest walks) tree)
  fine_root walks top None met = tt
  fine_root walks top (Some inside) met = (
    (601, refl, met.0, met.1, root_room (non_shorties (listing_of inside)) inside),
    fine_sites walks top [] 601 (seen_of (within.Site at.Root) inside) inside refl met.1,
  )

pub none_for_limit : NoRunSkipsForLimit
none_for_limit wants job tree covers reads limits clean =
    let rest : Rest = (wants.form, wants.room, wants.layout) in
    let start = prefix_of tree in
    let root = dir_at tree (pairtree_root ∷ []) in
    let whole : wants ≡ read_whole rest = ap (λ (b : Bool). record { reads = b; form = wants.form; room = wants.room; layout = wants.layout }) reads in
    let read : IsCleanStore (read_whole rest) tree = subst (λ (w : Wants). IsCleanStore w tree) whole clean in
    let fine : Each (FineSite rest start pairtree_root) (sites_in_root (deepest (walks job.share)) root) =
    fine_root rest start (walks job.share) pairtree_root root (read.top, read.inside) in
    let depth : 600 ≡ job.limits.depth = sym (ap (λ (l : Bounds). l.depth) limits) in
    fine_items rest start job start pairtree_root covers limits (sites_in_root (reach_of job) root)
    (subst (λ (d : ℕ). Each (FineSite rest start pairtree_root) (sites_in_root (record { depth = d; walks = walks job.share }) root)) depth fine)

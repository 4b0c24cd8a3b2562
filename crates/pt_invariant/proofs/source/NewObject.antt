-- A site that was judged to have an object, with the object before it is entered.
use Rattle.std.proofs.Common.{◌≡◌, ◌-◌, ℕ, Bool, true, false, List, [], ◌∷◌, ◌++◌, refl, ap, sym, ◌∙◌, cond, length, arith, drop}
use Rattle.std.specs.Prelude.{Option, None, Some, Result, Ok, Err, is_none, ◌+◌}
use Rattle.pt_name.specs.Identifying.{identifier_at}
use Rattle.pt_name.specs.Share.{Portion, takes, tells_at}
use Rattle.pt_name.specs.declared.identifying.Refusal.{Refusal}
use Rattle.pt_tree.specs.Forest.{Forest, Dir, none, file, other, dir, is_proper, listing_of}
use Rattle.pt_tree.specs.Listing.{Item}
use Rattle.pt_tree.specs.Path.{Path}
use Rattle.pt_tree.specs.declared.kind.Kind.{Kind}
use Rattle.pt_tree.specs.declared.kind.Kind.TheVariants as kind
use Rattle.pt_walk.proofs.Findings.{candidate}
use Rattle.pt_walk.proofs.ObjectSteps as step
use Rattle.pt_walk.proofs.TrailSteps.{fits_moved, listing_there, path_grows}
use Rattle.pt_walk.specs.Left.{Fits, inside_at}
use Rattle.pt_walk.specs.Object.{Entry, emptiness, entries_in, without_shorties}
use Rattle.pt_walk.specs.Site.{found, found_at_top, found_below, is_short, non_shorties, non_shorties_from}
use Rattle.pt_walk.specs.Sites.{Listed, at_of}
use Rattle.pt_walk.specs.Trail.{current_entry, is_dir_entry, names_to, sought, trail_path}
use Rattle.pt_walk.specs.declared.frame.Frame.{Frame}
use Rattle.pt_walk.specs.declared.site.At.{At}
use Rattle.pt_walk.specs.declared.site.At.TheVariants as at
use Rattle.pt_walk.specs.declared.site.Form.{Form}
use Rattle.pt_walk.specs.declared.site.Finding.{Finding}
use Rattle.pt_walk.specs.declared.site.Finding.TheVariants as finding
use Rattle.pt_invariant.specs.SourceInvariant.{IsInObject, IsSiteOf, IsToJudge, inside_object, object_at}
use Rattle.pt_plan.specs.Items.{
  Interior,
  Named,
  Skip,
  Verdict,
  VerdictOn,
  encapsulated,
  ours,
  verdict_by_finding,
  verdict_by_identifier,
  verdict_by_visit,
  verdict_of,
  verdict_on_candidate,
}
use Rattle.pt_plan.specs.Job.{Job, form_of}
use Rattle.pt_plan.specs.Store.{pairtree_of}
use Rattle.pt_plan.specs.TurnScan.{to_site}
use Rattle.pt_plan.specs.TurnWalk.{at_object, found_at, has_object, judged_at, judged_by_finding, new_object}
use Rattle.pt_plan.specs.declared.object.Object.{Object}

-- ---- the entry that encapsulates an object

heads : {X : Type 0} → (x y : X) (xs ys : List X) → x ∷ xs ≡ y ∷ ys → x ≡ y
heads x y xs ys e = cc

dirs_same : (a b : Forest) → Dir a ≡ Dir b → a ≡ b
dirs_same a b e = cc

encapsulated_is : (site : Path) (f : Forest) {name : List ℕ} (inside : Forest) {rest : List Entry} → entries_in [] f ++ [] ≡ (name ∷ [], Dir inside) ∷ rest
    → encapsulated site f ≡ Some (record { at = site ++ name ∷ []; gathered = false; inside = inside })
encapsulated_is site none inside e = absurd (cc)
encapsulated_is site (file n bytes after) inside e = absurd (let nodes : Rattle.pt_tree.specs.Forest.File bytes
    ≡ Dir inside = ap (λ (x : Entry). x.1) (heads _ _ _ _ e) in cc)
encapsulated_is site (other n after) inside e = absurd (let nodes : Rattle.pt_tree.specs.Forest.Other
    ≡ Dir inside = ap (λ (x : Entry). x.1) (heads _ _ _ _ e) in cc)
encapsulated_is site (dir n d after) {name} inside e =
    let head = heads _ _ _ _ e in
    let names : n ≡ name = heads n name [] [] (ap (λ (x : Entry). x.0) head) in
    let insides : d ≡ inside = dirs_same d _ (ap (λ (x : Entry). x.1) head) in
    ap (λ (m : List ℕ). Some (record { at = site ++ m ∷ []; gathered = false; inside = d })) names
    ∙ ap (λ (f : Forest). Some (record { at = site ++ name ∷ []; gathered = false; inside = f })) insides

-- ---- the object of a site that was judged

pub found_there : (job : Job) (top : Forest) (frame : Frame) (frames : List Frame) {what : Finding} → is_proper top ≡ true → Fits top (frame ∷ frames)
    → found frame.listing (at_of (names_to frames)) (form_of job) ≡ what
    → found (listing_of (inside_at top (names_to frames))) (at_of (names_to frames)) (form_of job) ≡ what
found_there job top frame frames proper fits is =
    ap (λ (l : List Item). found l (at_of (names_to frames)) (form_of job)) (listing_there top frame frames proper fits).1 ∙ is

-- it comes to what its identifier is read as
visit_there : (job : Job) (source : Forest) (prefix : List ℕ) (frame : Frame) (frames : List Frame) (index : Option ℕ) → is_proper (pairtree_of source) ≡ true
    → Fits (pairtree_of source) (frame ∷ frames)
    → found_at (form_of job) (frame ∷ frames) ≡ has_object index
    → verdict_by_visit job prefix (names_to frames) (Listed (inside_at (pairtree_of source) (names_to frames)))
    ≡ verdict_by_identifier (object_at source (new_object job [] index (frame ∷ frames)) (at_object index (frame ∷ frames)))
    (identifier_at job.tuples prefix (names_to frames))
visit_there job source prefix frame frames None proper fits is =
    ap (verdict_by_finding job prefix (names_to frames) (inside_at (pairtree_of source) (names_to frames))) (found_there job _ frame frames proper fits is)
visit_there job source prefix frame frames (Some i) proper fits is =
    let top = pairtree_of source in
    let site = names_to frames in
    let there : Frame = record { listing = frame.listing; place = i } in
    let entry = candidate frame.listing (at_of site) (form_of job) i is in
    let name = entry.0 in
    let next = step.enters false top 0 there frames name (inside_at top (site ++ name ∷ [])) proper fits entry.1 refl refl in
    let path : site ++ name ∷ [] ≡ names_to (there ∷ frames) = sym (path_grows there frames (name, kind.Dir) entry.1) in
    ap (verdict_by_finding job prefix site (inside_at top site)) (found_there job top frame frames proper fits is)
    ∙ ap (verdict_on_candidate job prefix site) (encapsulated_is site _ _ next)
    ∙ ap (λ (p : Path). verdict_by_identifier (record { at = p; gathered = false; inside = inside_at top p }) (identifier_at job.tuples prefix site)) path

-- what an item comes to whose site is judged to be this where the trail stands
abbrev pub verdict_there : Job → Forest → List Frame → VerdictOn (Option ℕ) → Verdict
verdict_there job source t Interior = Interior
verdict_there job source t (Skip why) = Skip why
verdict_there job source t (Named id index) = Named id (object_at source (new_object job id index t) (at_object index t))

module _ (job : Job) (source : Forest) where
  module _ (prefix : List ℕ) (frame : Frame) (frames : List Frame) where
    by_identifier : (index : Option ℕ) (read : Result (List ℕ) Refusal) → is_proper (pairtree_of source) ≡ true → Fits (pairtree_of source) (frame ∷ frames)
        → found_at (form_of job) (frame ∷ frames) ≡ has_object index → identifier_at job.tuples prefix (names_to frames) ≡ read
        → verdict_by_visit job prefix (names_to frames) (Listed (inside_at (pairtree_of source) (names_to frames)))
        ≡ verdict_there job source (frame ∷ frames) (verdict_by_identifier index read)
    by_identifier index (Ok id) proper fits is reads = visit_there job source prefix frame frames index proper fits is ∙ ap (verdict_by_identifier _) reads
    by_identifier index (Err why) proper fits is reads = visit_there job source prefix frame frames index proper fits is ∙ ap (verdict_by_identifier _) reads

    by_found : (what : Finding) → is_proper (pairtree_of source) ≡ true → Fits (pairtree_of source) (frame ∷ frames)
        → found_at (form_of job) (frame ∷ frames) ≡ what
        → verdict_by_visit job prefix (names_to frames) (Listed (inside_at (pairtree_of source) (names_to frames)))
        ≡ verdict_there job source (frame ∷ frames) (judged_by_finding job prefix (names_to frames) what)
    by_found finding.Interior proper fits is =
        ap (verdict_by_finding job prefix (names_to frames) (inside_at (pairtree_of source) (names_to frames))) (found_there job _ frame frames proper fits is)
    by_found (finding.Skip why) proper fits is =
        ap (verdict_by_finding job prefix (names_to frames) (inside_at (pairtree_of source) (names_to frames))) (found_there job _ frame frames proper fits is)
    by_found (finding.Candidate i) proper fits is = by_identifier (Some i) _ proper fits is refl
    by_found finding.Gathered proper fits is = by_identifier None _ proper fits is refl

  -- as far as it is of the share
  ours_there : (path : Path) (t : List Frame) (what : VerdictOn (Option ℕ)) → ours job.share path (verdict_there job source t what)
      ≡ verdict_there job source t (ours job.share path what)
  ours_there path t Interior = refl
  ours_there path t (Skip why) = either (tells_at job.share path)
    where
      either : (b : Bool) → cond b (Skip why) Interior ≡ verdict_there job source t (cond b (Skip why) Interior)
      either true = refl
      either false = refl
  ours_there path t (Named id index) = either (takes job.share path id)
    where
      either : (b : Bool) → cond b (verdict_there job source t (Named id index)) Interior ≡ verdict_there job source t (cond b (Named id index) Interior)
      either true = refl
      either false = refl

  -- the verdict on the site is what it is judged to be
  pub judged_there : (prefix : List ℕ) (frame : Frame) (frames : List Frame) → is_proper (pairtree_of source) ≡ true
      → Fits (pairtree_of source) (frame ∷ frames)
      → verdict_of job prefix (names_to frames) (Listed (inside_at (pairtree_of source) (names_to frames)))
      ≡ verdict_there job source (frame ∷ frames) (judged_at job prefix (frame ∷ frames))
  judged_there prefix frame frames proper fits =
      let what = found_at (form_of job) (frame ∷ frames) in
      ap (λ (v : Verdict). ours job.share (names_to frames) v) (by_found prefix frame frames what proper fits refl)
      ∙ ours_there (names_to frames) (frame ∷ frames) (judged_by_finding job prefix (names_to frames) what)

-- what is named is found to have an object
ours_named : (share : Portion) (path : Path) (what : VerdictOn (Option ℕ)) (id : List ℕ) (index : Option ℕ) → ours share path what ≡ Named id index
    → what ≡ Named id index
ours_named share path Interior id index is = absurd (cc)
ours_named share path (Skip why) id index is = absurd (either (tells_at share path) is)
  where
    either : (b : Bool) → cond b (Skip why) Interior ≡ Named id index → ⊥
    either true h = cc
    either false h = cc
ours_named share path (Named i o) id index is = either (takes share path i) is
  where
    either : (b : Bool) → cond b (Named i o) Interior ≡ Named id index → Named i o ≡ Named id index
    either true h = h
    either false h = absurd (cc)

named_identifier : {own index : Option ℕ} (read : Result (List ℕ) Refusal) (id : List ℕ) → verdict_by_identifier own read ≡ Named id index → own ≡ index
named_identifier (Ok i) id is = cc
named_identifier (Err why) id is = absurd (cc)

pub named_found : (job : Job) (prefix : List ℕ) (t : List Frame) (index : Option ℕ) (id : List ℕ) → judged_at job prefix t ≡ Named id index
    → found_at (form_of job) t ≡ has_object index
named_found job prefix t index id is = by (found_at (form_of job) t) (ours_named job.share (trail_path t) _ id index is)
  where
    by : (what : Finding) → judged_by_finding job prefix (trail_path t) what ≡ Named id index → what ≡ has_object index
    by finding.Interior h = absurd (cc)
    by (finding.Skip why) h = absurd (cc)
    by (finding.Candidate i) h = ap has_object (named_identifier _ id h)
    by finding.Gathered h = ap has_object (named_identifier _ id h)

-- an object that is encapsulated stands at a directory
leads_there : (job : Job) (frame : Frame) (frames : List Frame) (index : Option ℕ) → found_at (form_of job) (frame ∷ frames) ≡ has_object index
    → is_none index ≡ false → is_dir_entry (current_entry (at_object index (frame ∷ frames))) ≡ true
leads_there job frame frames None is apart = absurd (cc)
leads_there job frame frames (Some i) is apart = ap is_dir_entry (candidate frame.listing (at_of (names_to frames)) (form_of job) i is).1

-- a site that is gathered has an entry that is no shorty
some_below : (form : Form) (items : List Item) (l : List (ℕ × Kind)) → found_below form items l ≡ finding.Gathered → l ≡ [] → ⊥
some_below form [] [] is nothing = absurd (cc)
some_below form (item ∷ items) [] is nothing = absurd (cc)
some_below form items (x ∷ l) is nothing = absurd (cc)

some_at_top : (l : List (ℕ × Kind)) → found_at_top l ≡ finding.Gathered → l ≡ [] → ⊥
some_at_top [] is nothing = absurd (cc)
some_at_top (x ∷ l) is nothing = absurd (cc)

some_found : (form : Form) (items : List Item) (where_it_stands : At) → found items where_it_stands form ≡ finding.Gathered → non_shorties items ≡ [] → ⊥
some_found form items at.Root is = some_at_top _ is
some_found form items at.Pair is = some_below form items _ is
some_found form items at.Last is = some_below form items _ is

either_left : (short : Bool) (x : ℕ × Kind) (l m : List (ℕ × Kind)) (name : List ℕ) (inside after : Forest)
    → ((l ≡ [] → ⊥) → emptiness (without_shorties after) ≡ 0)
    → (cond short l (x ∷ m) ≡ [] → ⊥) → emptiness (cond short (without_shorties after) (dir name inside (without_shorties after))) ≡ 0
either_left true x l m name inside after later some = later some
either_left false x l m name inside after later some = refl

some_left : (i : ℕ) (f : Forest) → (non_shorties_from i (listing_of f) ≡ [] → ⊥) → emptiness (without_shorties f) ≡ 0
some_left i none some = absurd (some refl)
some_left i (file name bytes after) some = refl
some_left i (other name after) some = refl
some_left i (dir name inside after) some =
    either_left (is_short name) (i, kind.Dir) _ _ name inside after (some_left (i + 1) after) some

filled_there : (job : Job) (source : Forest) (frame : Frame) (frames : List Frame) (index : Option ℕ) (id : List ℕ) → is_proper (pairtree_of source) ≡ true
    → Fits (pairtree_of source) (frame ∷ frames) → found_at (form_of job) (frame ∷ frames) ≡ has_object index
    → is_none index ≡ true → emptiness (inside_object source (new_object job id index (frame ∷ frames)) (at_object index (frame ∷ frames))) ≡ 0
filled_there job source frame frames (Some i) id proper fits is gathered = absurd (cc)
filled_there job source frame frames None id proper fits is gathered =
    let top = pairtree_of source in
    some_left 0 (inside_at top (names_to frames))
    (some_found (form_of job) (listing_of (inside_at top (names_to frames))) (at_of (names_to frames)) (found_there job top frame frames proper fits is))

pub long_at : (index : Option ℕ) (trail : List Frame) → length (at_object index trail) ≡ length trail
long_at None trail = refl
long_at (Some i) [] = refl
long_at (Some i) (frame ∷ frames) = refl

fits_at : (top : Forest) (index : Option ℕ) (trail : List Frame) → Fits top trail → Fits top (at_object index trail)
fits_at top None trail fits = fits
fits_at top (Some i) trail fits = (fits_moved top trail i fits).0

path_at : (index : Option ℕ) (trail : List Frame) → trail_path (at_object index trail) ≡ trail_path trail
path_at None trail = refl
path_at (Some i) [] = refl
path_at (Some i) (frame ∷ frames) = refl

first_at : (index : Option ℕ) (trail : List Frame) → sought 0 (at_object index trail) ≡ sought 0 trail
first_at None trail = refl
first_at (Some i) [] = refl
first_at (Some i) (frame ∷ frames) = refl

pub record IsNewObject (job : Job) (source : Forest) (prefix : List ℕ) (object : Object) (trail : List Frame) (count : ℕ) : Type 0 where
  pub stands : IsInObject job source prefix object trail count
  pub at_site : length trail ≡ object.site

pub new_object_there : (job : Job) (source : Forest) (prefix : List ℕ) (trail : List Frame) (index : Option ℕ) (id : List ℕ) (count : ℕ)
    → is_proper (pairtree_of source) ≡ true
    → judged_at job prefix trail ≡ Named id index → IsToJudge job source trail count
    → IsNewObject job source prefix (new_object job id index trail) (at_object index trail) count
new_object_there job source prefix [] index id count proper is judge = absurd (omega (arith, judge.way.entered))
new_object_there job source prefix (frame ∷ frames) index id count proper is judge =
    let top = pairtree_of source in
    let trail = frame ∷ frames in
    let object = new_object job id index trail in
    let there = at_object index trail in
    let long = long_at index trail in
    let no_more : length there - length trail ≡ 0 = omega (arith, long) in
    let site : to_site object there ≡ there = ap (λ (n : ℕ). drop n there) no_more in
    let found = named_found job prefix trail index id is in
    let named = judged_there job source prefix frame frames proper judge.way.fits ∙ ap (verdict_there job source trail) is in
    let here : IsSiteOf job source prefix object there count = record {
      here = record { site = judge.here.site ∙ ap (λ (p : Path). Some (p, Listed (inside_at top p))) (sym (path_at index trail)) };
      way = rw (judge.first ∙ sym (first_at index trail)) at judge.way;
      named = ap (λ (p : Path). verdict_of job prefix p (Listed (inside_at top p))) (path_at index trail) ∙ named;
      leads = leads_there job frame frames index found;
      filled = filled_there job source frame frames index id proper judge.way.fits found;
    } in
    record {
      stands = record {
        some = omega arith;
        within = omega (arith, long);
        fits = fits_at top index trail judge.way.fits;
        site = rw site here;
        place = refl;
      };
      at_site = long;
    }

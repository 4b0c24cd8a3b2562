-- What the checks of shares do in a folder that is no site, and in one that another share walks alone.
use Rattle.std.proofs.Common.{◌≡◌, ◌≤◌, ◌==◌, ◌&&◌, ◌∙◌, ℕ, Bool, true, false, cond, List, [], ◌∷◌, ◌++◌, ap, drop, length, refl, subst, sym}
use Rattle.std.proofs.Math.Bool.{and-false}
use Rattle.pt_check.proofs.SharedOwn.{
  IsElsewhere,
  elsewhere,
  elsewhere_entry,
  elsewhere_in,
  elsewhere_tells,
  further,
  in_no,
  in_ok,
  is_one,
  part,
  same_either,
  tell_no,
  tell_within,
}
use Rattle.pt_check.specs.ShareLaws.{whole_of}
use Rattle.pt_check.specs.Shares.{is_all, is_own_entry, is_own_in, is_site, is_walked}
use Rattle.pt_check.specs.Steps.{
  Held,
  Step,
  Tells,
  held_begun,
  held_behind,
  held_ended,
  held_found,
  held_met,
  held_read,
  read_of,
  steps_at,
  steps_if,
  steps_in,
  steps_judged,
  steps_met,
  steps_opened,
}
use Rattle.pt_check.specs.Visits.{Folder, finding_of, folder_in, holder_in}
use Rattle.pt_check.specs.Within.{below, beside_shorties}
use Rattle.pt_check.specs.declared.trouble.Trouble.TheVariants as trouble
use Rattle.pt_check.specs.declared.wants.Wants.{Wants}
use Rattle.pt_check.specs.declared.within.Within.{Within}
use Rattle.pt_check.specs.declared.within.Within.TheVariants as within
use Rattle.pt_name.specs.Share.{Portion, tells_at, walks}
use Rattle.pt_name.specs.declared.division.Division.{Division}
use Rattle.pt_plan.specs.ShareLaws.{IsOneOf}
use Rattle.pt_tree.specs.Forest.{Forest, none, file, other, dir, listing_of}
use Rattle.pt_tree.specs.Listing.{Item}
use Rattle.pt_tree.specs.Path.{Path, joined}
use Rattle.pt_tree.specs.declared.kind.Kind.TheVariants as kind
use Rattle.pt_walk.specs.Site.{is_shorty}
use Rattle.pt_walk.specs.declared.site.At.{At}
use Rattle.pt_walk.specs.declared.site.Finding.{Finding}
use Rattle.pt_walk.specs.declared.site.Finding.TheVariants as finding
use Rattle.pt_walk.specs.declared.site.Form.{Form}

pub no_steps : (own : Bool) → steps_if own [] ≡ []
no_steps true = refl
no_steps false = refl

-- ---- what is no site

pub none_below : (here : Within) (what : Finding) (name : List ℕ) (n m : ℕ) → is_site here ≡ false → is_site (below here what name n m) ≡ false
none_below (within.Site w) what name n m e = absurd (cc)
none_below within.Past what name n m e = refl
none_below (within.Object before) what name n m e = refl
none_below within.Beside what name n m e = refl

pub none_found : (form : Form) (here : Within) (items : List Item) → is_site here ≡ false → finding_of form here items ≡ finding.Interior
none_found form (within.Site w) items e = absurd (cc)
none_found form within.Past items e = refl
none_found form (within.Object before) items e = refl
none_found form within.Beside items e = refl

pub none_beside : (what : Finding) (n m : ℕ) → is_site (beside_shorties what n m) ≡ false
none_beside finding.Interior n m = refl
none_beside (finding.Skip why) n m = refl
none_beside (finding.Candidate i) n m = refl
none_beside finding.Gathered n m = refl

module _ (wants : Wants) where
  abbrev pub here_at : Path → List ℕ → Within → ℕ → Folder
  here_at path prefix here left = record { path = path; prefix = prefix; here = here; left = left }

  -- what is a share's own there
  own_in : (s : Portion) (at : Path × List ℕ) (what : Finding) → what ≡ finding.Interior → is_own_in wants.layout s at what true ≡ true
  own_in s at what is = ap (λ (w : Finding). is_own_in wants.layout s at w true) is ∙ same_either (is_all s) true

  own_entry : (s : Portion) (path : Path) (here : Within) (item : Item) → is_site here ≡ false → is_own_entry s path here item true ≡ true
  own_entry s path here item e =
      ap (λ (b : Bool). cond (is_all s) true (cond b (tells_at s (drop 1 path)) true)) (ap (λ (b : Bool). is_shorty item && b) e ∙ and-false (is_shorty item))
      ∙ same_either (is_all s) true

  own_walked : (s : Portion) (path : Path) (here : Within) → is_site here ≡ false → is_walked s path here true ≡ true
  own_walked s path here e =
      ap (λ (b : Bool). cond (is_all s) true (cond b (walks s (drop 1 path)) true)) e ∙ same_either (is_all s) true

  -- a folder that is no site is to each share whose own it is the same
  plain_at : (s t : Portion) (folder : Folder) (inside : Forest) (held : Held) → is_site folder.here ≡ false
      → ((h : Held) → steps_in s wants true folder finding.Interior inside h ≡ steps_in t wants true folder finding.Interior inside h)
      → steps_at s wants true folder inside held ≡ steps_at t wants true folder inside held
  plain_at s t folder inside held e same =
      let items = listing_of inside in
      let what = finding_of wants.form folder.here items in
      let is : what ≡ finding.Interior = none_found wants.form folder.here items e in
      let here : Path × List ℕ = (folder.path, folder.prefix) in
      let own = own_in s here what is ∙ sym (own_in t here what is) in
      let entries : steps_in s wants true folder what inside (held_found what held) ≡ steps_in t wants true folder what inside (held_found what held) =
      subst (λ (w : Finding). steps_in s wants true folder w inside (held_found what held) ≡ steps_in t wants true folder w inside (held_found what held))
      (sym is) (same (held_found what held)) in
      λ i. cond (folder.left == 0) (Tells folder.path trouble.Deep ∷ []) (steps_if (own i) (steps_judged wants folder items) ++ entries i)

  plain_in : (s t : Portion) (tree : Forest) (path : Path) (prefix : List ℕ) (here : Within) (left : ℕ) (held : Held) → is_site here ≡ false
      → steps_in s wants true (here_at path prefix here left) finding.Interior tree held
      ≡ steps_in t wants true (here_at path prefix here left) finding.Interior tree held
  plain_in s t none path prefix here left held e = refl
  plain_in s t (file name bytes after) path prefix here left held e =
      let folder = here_at path prefix here left in
      let holder = holder_in folder finding.Interior in
      let met = held_met kind.File held in
      let it = path ++ name ∷ [] in
      let own = own_in s (path, prefix) finding.Interior refl ∙ sym (own_in t (path, prefix) finding.Interior refl) in
      let rest = plain_in s t after path prefix here left (held_read holder (read_of wants bytes) met) e in
      λ i. steps_if (own i) (steps_met wants it holder (name, kind.File) held ++ steps_opened wants it holder bytes met) ++ rest i
  plain_in s t (other name after) path prefix here left held e =
      let folder = here_at path prefix here left in
      let own = own_in s (path, prefix) finding.Interior refl ∙ sym (own_in t (path, prefix) finding.Interior refl) in
      let rest = plain_in s t after path prefix here left held e in
      λ i. steps_if (own i) (steps_met wants (path ++ name ∷ []) (holder_in folder finding.Interior) (name, kind.Other) held) ++ rest i
  plain_in s t (dir name inside after) path prefix here left held e =
      let folder = here_at path prefix here left in
      let it = folder_in folder finding.Interior name in
      let items = listing_of inside in
      let begun = held_begun it.here (holder_in folder finding.Interior) held in
      let seen = finding_of wants.form it.here items in
      let behind = held_ended it.here held (cond (it.left == 0) begun (held_behind wants it seen inside (held_found seen begun))) in
      let below_it : is_site it.here ≡ false = none_below here finding.Interior name (length (joined path)) (length (joined it.path)) e in
      let M = steps_met wants it.path (holder_in folder finding.Interior) (name, kind.Dir) held in
      let mine = λ (u : Portion). is_own_entry u it.path here (name, kind.Dir) (is_own_in wants.layout u (path, prefix) finding.Interior true) in
      let own = λ (u : Portion). ap (is_own_entry u it.path here (name, kind.Dir)) (own_in u (path, prefix) finding.Interior refl)
      ∙ own_entry u it.path here (name, kind.Dir) e in
      let goes = λ (u : Portion). ap (is_walked u it.path it.here) (own u) ∙ own_walked u it.path it.here below_it in
      let whole = λ (u : Portion). M ++ steps_at u wants true it inside begun in
      let is : (u : Portion) → steps_if (mine u) M ++ steps_if (is_walked u it.path it.here (mine u)) (steps_at u wants (mine u) it inside begun) ≡ whole u =
      λ u i. steps_if (own u i) M ++ steps_if (goes u i) (steps_at u wants (own u i) it inside begun) in
      let same : whole s ≡ whole t = ap (λ (l : List Step). M ++ l) (plain_at s t it inside begun below_it
      (λ h. plain_in s t inside it.path it.prefix it.here it.left h below_it)) in
      let first = is s ∙ same ∙ sym (is t) in
      let rest = plain_in s t after path prefix here left behind e in
      λ i. first i ++ rest i

  -- such a folder as an entry, by whether it is the share's own
  pub plain_entry : (s t : Portion) (own : Bool) (folder : Folder) (inside : Forest) (held : Held) (M : List Step) → is_site folder.here ≡ false
      → steps_if own M ++ steps_if (is_walked s folder.path folder.here own) (steps_at s wants own folder inside held)
      ≡ steps_if own (M ++ steps_at t wants true folder inside held)
  plain_entry s t true folder inside held M e =
      ap (λ (b : Bool). M ++ steps_if b (steps_at s wants true folder inside held)) (own_walked s folder.path folder.here e)
      ∙ ap (λ (l : List Step). M ++ l) (plain_at s t folder inside held e
      (λ h. plain_in s t inside folder.path folder.prefix folder.here folder.left h e))
  plain_entry s t false folder inside held M e =
      ap (λ (b : Bool). steps_if b (steps_at s wants false folder inside held))
      (ap (λ (b : Bool). cond (is_all s) false (cond b (walks s (drop 1 folder.path)) false)) e ∙ same_either (is_all s) false)

-- ---- shares

module _ (share : Portion) (by : Division) (count : ℕ) (some : 1 ≤ count) (wants : Wants) where
  abbrev S : ℕ → Portion
  S = part share by count some

  abbrev W : Portion
  W = whole_of share

  abbrev no : Path → ℕ
  no = tell_no share by count some

  abbrev ok_in : Path × List ℕ → Finding → Bool
  ok_in = in_ok share by count some wants.layout

  abbrev no_in : Path × List ℕ → Finding → ℕ
  no_in = in_no share by count some wants.layout

  -- ---- what another share walks alone

  nothing_at : (index : ℕ) (folder : Folder) (inside : Forest) (held : Held) → IsElsewhere share by count some index (drop 1 folder.path)
      → ((what : Finding) (h : Held) → steps_in (S index) wants false folder what inside h ≡ [])
      → steps_at (S index) wants false folder inside held ≡ []
  nothing_at index folder inside held it none_in =
      let items = listing_of inside in
      let what = finding_of wants.form folder.here items in
      let own = elsewhere_in share by count some wants.layout (folder.path, folder.prefix) what index it in
      let entries = none_in what (held_found what held) in
      (λ i. cond (folder.left == 0) [] (steps_if (own i) (steps_judged wants folder items) ++ entries i))
      ∙ nothing (folder.left == 0)
    where
      nothing : (b : Bool) → cond b (steps_if false (Tells folder.path trouble.Deep ∷ [])) [] ≡ []
      nothing true = refl
      nothing false = refl

  nothing_in : (index : ℕ) (tree : Forest) (root : List ℕ) (site : Path) (prefix : List ℕ) (here : Within) (left : ℕ) (what : Finding) (held : Held)
      → IsElsewhere share by count some index site
      → steps_in (S index) wants false (here_at wants (root ∷ site) prefix here left) what tree held ≡ []
  nothing_in index none root site prefix here left what held it = refl
  nothing_in index (file name bytes after) root site prefix here left what held it =
      let folder = here_at wants (root ∷ site) prefix here left in
      let holder = holder_in folder what in
      let met = held_met kind.File held in
      let own = elsewhere_in share by count some wants.layout (root ∷ site, prefix) what index it in
      let rest = nothing_in index after root site prefix here left what (held_read holder (read_of wants bytes) met) it in
      λ i. steps_if (own i) (steps_met wants (root ∷ site ++ name ∷ []) holder (name, kind.File) held
      ++ steps_opened wants (root ∷ site ++ name ∷ []) holder bytes met) ++ rest i
  nothing_in index (other name after) root site prefix here left what held it =
      let folder = here_at wants (root ∷ site) prefix here left in
      let own = elsewhere_in share by count some wants.layout (root ∷ site, prefix) what index it in
      let rest = nothing_in index after root site prefix here left what held it in
      λ i. steps_if (own i) (steps_met wants (root ∷ site ++ name ∷ []) (holder_in folder what) (name, kind.Other) held) ++ rest i
  nothing_in index (dir name inside after) root site prefix here left what held elsewhere_it =
      let folder = here_at wants (root ∷ site) prefix here left in
      let it = folder_in folder what name in
      let items = listing_of inside in
      let begun = held_begun it.here (holder_in folder what) held in
      let seen = finding_of wants.form it.here items in
      let behind = held_ended it.here held (cond (it.left == 0) begun (held_behind wants it seen inside (held_found seen begun))) in
      let below_it = further share by count some index site name elsewhere_it in
      let M = steps_met wants it.path (holder_in folder what) (name, kind.Dir) held in
      let own = ap (is_own_entry (S index) it.path here (name, kind.Dir)) (elsewhere_in share by count some wants.layout (root ∷ site, prefix) what index
      elsewhere_it) ∙ elsewhere_entry share by count some it.path here (name, kind.Dir) index below_it in
      let mine = is_own_entry (S index) it.path here (name, kind.Dir) (is_own_in wants.layout (S index) (root ∷ site, prefix) what false) in
      let walk = is_walked (S index) it.path it.here mine in
      let inside_is = nothing_at index it inside begun below_it
      (λ w h. nothing_in index inside root (site ++ name ∷ []) prefix it.here it.left w h below_it) in
      let rest = nothing_in index after root site prefix here left what behind elsewhere_it in
      (λ i. (steps_if (own i) M ++ steps_if walk (steps_at (S index) wants (own i) it inside begun)) ++ rest i)
      ∙ ap (λ (l : List Step). steps_if walk l ++ []) inside_is ∙ ap (λ (l : List Step). l ++ []) (no_steps walk)

  -- where a share doesn't walk a site there is nothing of its own
  pub gate : (index : ℕ) (root : List ℕ) (site : Path) (prefix : List ℕ) (w : At) (left : ℕ) (inside : Forest) (held : Held) → IsOneOf count index
      → steps_if (is_walked (S index) (root ∷ site) (within.Site w) (no site == index))
      (steps_at (S index) wants (no site == index) (here_at wants (root ∷ site) prefix (within.Site w) left) inside held)
      ≡ steps_at (S index) wants (no site == index) (here_at wants (root ∷ site) prefix (within.Site w) left) inside held
  gate index root site prefix w left inside held one = by_all (is_all (S 1)) refl
    where
      X : List Step
      X = steps_at (S index) wants (no site == index) (here_at wants (root ∷ site) prefix (within.Site w) left) inside held

      by_walk : (b : Bool) → walks (S index) site ≡ b → steps_if b X ≡ X
      by_walk true walked = refl
      by_walk false unwalked =
          let it = elsewhere share by count some index site unwalked in
          let own : (no site == index) ≡ false = elsewhere_tells share by count some index site it in
          sym (ap (λ (o : Bool). steps_at (S index) wants o (here_at wants (root ∷ site) prefix (within.Site w) left) inside held) own
          ∙ nothing_at index (here_at wants (root ∷ site) prefix (within.Site w) left) inside held it
          (λ what h. nothing_in index inside root site prefix (within.Site w) left what h it))

      by_all : (t : Bool) → is_all (S 1) ≡ t → steps_if (cond t (no site == index) (walks (S index) site)) X ≡ X
      by_all true all = ap (λ (b : Bool). steps_if b X) (is_one share by count some all index (no site) one (tell_within share by count some site))
      by_all false all = by_walk (walks (S index) site) refl

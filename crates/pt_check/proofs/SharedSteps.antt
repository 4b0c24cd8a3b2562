-- The steps of the checks of all shares of a store are those of the whole.
use Rattle.std.proofs.Common.{◌≡◌, ◌≤◌, ◌+◌, ◌==◌, ◌&&◌, ◌∙◌, ℕ, Bool, true, false, cond, List, [], ◌∷◌, ◌++◌, arith, ap, eq-eqb, eqb-true, length, refl, sym}
use Rattle.std.proofs.lemmas.List.Sums.{sum_by-append}
use Rattle.std.specs.List.{sum_by}
use Rattle.pt_check.proofs.SharedOwn.{entry_is, in_any, in_is, in_no, in_ok, in_within, is_one, part, same_either, tell_no, tell_within, top_is}
use Rattle.pt_check.proofs.SharedFolders.{gate, here_at, none_beside, plain_entry}
use Rattle.pt_check.specs.ShareLaws.{CheckSharesDoTheWhole, whole_of}
use Rattle.pt_check.specs.Shares.{is_all, is_own_by_finding, is_own_entry, is_own_in, is_own_way, is_site, is_walked}
use Rattle.pt_check.specs.Steps.{
  Held,
  Step,
  Tells,
  held_begun,
  held_behind,
  held_ended,
  held_found,
  held_met,
  held_read,
  none_held,
  prefix_known,
  read_of,
  steps_at,
  steps_if,
  steps_in,
  steps_judged,
  steps_met,
  steps_of_prefix,
  steps_of_root,
  steps_opened,
  told_if,
}
use Rattle.pt_check.specs.Visits.{Folder, finding_of, folder_in, holder_in, missing, prefix_path, root_folder}
use Rattle.pt_check.specs.Within.{below_site, beside_shorties}
use Rattle.pt_check.specs.declared.trouble.Trouble.TheVariants as trouble
use Rattle.pt_check.specs.declared.wants.Wants.{Wants}
use Rattle.pt_check.specs.declared.within.Within.{Within}
use Rattle.pt_check.specs.declared.within.Within.TheVariants as within
use Rattle.pt_name.specs.Share.{Portion, tells_at}
use Rattle.pt_name.specs.declared.division.Division.{Division}
use Rattle.pt_name.specs.declared.division.Division.TheVariants as division
use Rattle.pt_plan.proofs.ShareSums.{sum_at_one, sum_of_both, sum_of_none, sums_within}
use Rattle.pt_plan.specs.ShareLaws.{IsOneOf, sum_of_shares}
use Rattle.pt_plan.specs.Store.{pairtree_root, prefix_file, version_file}
use Rattle.pt_plan.specs.TurnStart.{is_dir_kind, is_file_kind, kind_in}
use Rattle.pt_tree.specs.Forest.{Forest, none, file, other, dir, listing_of}
use Rattle.pt_tree.specs.Path.{Path, joined}
use Rattle.pt_tree.specs.declared.kind.Kind.TheVariants as kind
use Rattle.pt_walk.specs.Left.{bytes_at, inside_at}
use Rattle.pt_walk.specs.Site.{is_short, is_shorty}
use Rattle.pt_walk.specs.declared.site.At.{At}
use Rattle.pt_walk.specs.declared.site.At.TheVariants as at
use Rattle.pt_walk.specs.declared.site.Finding.{Finding}
use Rattle.pt_walk.specs.declared.site.Finding.TheVariants as finding

-- ---- shares

module _ (share : Portion) (by : Division) (count : ℕ) (some : 1 ≤ count) (wants : Wants) where
  abbrev S : ℕ → Portion
  S = part share by count some

  abbrev W : Portion
  W = whole_of share

  abbrev no : Path → ℕ
  no = tell_no share by count some

  abbrev ok_in : Path × List ℕ → Finding → Bool
  ok_in = in_ok share by count some wants.layout

  abbrev no_in : Path × List ℕ → Finding → ℕ
  no_in = in_no share by count some wants.layout

  -- ---- the whole

  one_of_one : IsOneOf 1 1
  one_of_one = record { first = omega arith; last = omega arith }

  same_ok : (at : Path × List ℕ) (what : Finding) → in_ok share division.Identifiers 1 (omega arith) wants.layout at what ≡ ok_in at what
  same_ok at finding.Interior = refl
  same_ok at (finding.Skip why) = refl
  same_ok at (finding.Candidate i) = refl
  same_ok at finding.Gathered = refl

  single : (n index : ℕ) → IsOneOf 1 n → (n == 1) ≡ true
  single n index one = let first = one.first in let last = one.last in let same : n ≡ 1 = omega (arith, first, last) in eq-eqb n 1 same

  -- what lies in a folder
  whole_in : (at : Path × List ℕ) (what : Finding) → is_own_in wants.layout W at what true ≡ ok_in at what
  whole_in at what =
      in_is share division.Identifiers 1 (omega arith) wants.layout at what 1 true one_of_one refl
      ∙ (λ i. same_ok at what i
      && single (in_no share division.Identifiers 1 (omega arith) wants.layout at what) 1
      (in_within share division.Identifiers 1 (omega arith) wants.layout at what) i)
      ∙ and_true (ok_in at what)
    where
      and_true : (b : Bool) → (b && true) ≡ b
      and_true true = refl
      and_true false = refl

  whole_entry : (shorty : Bool) (site : Path) (own : Bool) → (is_all W ≡ true → own ≡ true)
      → cond (is_all W) own (cond shorty (tells_at W site) own) ≡ cond shorty true own
  whole_entry shorty site own good = entry_is share division.Identifiers 1 (omega arith) shorty site 1 own one_of_one good

  whole_walked : (path : Path) (here : Within) → is_walked W path here true ≡ true
  whole_walked path here = ap (cond (is_all W) true) (same_either (is_site here) true) ∙ same_either (is_all W) true

  -- ---- sums

  module _ (weight : Step → ℕ) where
    abbrev sum : List Step → ℕ
    sum = sum_by weight

    abbrev total : (ℕ → List Step) → ℕ
    total own = sum_of_shares (λ index. sum (own index)) count

    -- what is of one share
    one_total : (n : ℕ) (steps : List Step) → IsOneOf count n → total (λ index. steps_if (n == index) steps) ≡ sum steps
    one_total n steps one =
        let first = one.first in
        let last = one.last in
        sum_at_one {n = n} count first last (ap (λ b. sum (steps_if b steps)) (eq-eqb n n refl)) (λ index low high apart. by_test index apart (n == index) refl)
      where
        by_test : (index : ℕ) → (index ≡ n → ⊥) → (t : Bool) → (n == index) ≡ t → sum (steps_if t steps) ≡ 0
        by_test index apart true h = absurd (apart (sym (eqb-true n index h)))
        by_test index apart false h = refl

    family : (ok : Bool) (n : ℕ) (own : ℕ → Bool) (steps : List Step) → IsOneOf count n → ((index : ℕ) → IsOneOf count index → own index ≡ (ok && (n == index)))
        → total (λ index. steps_if (own index) steps) ≡ sum (steps_if ok steps)
    family true n own steps one is =
        sums_within count (λ index within. ap (λ b. sum (steps_if b steps)) (is index within)) ∙ one_total n steps one
    family false n own steps one is =
        sums_within count (λ index within. ap (λ b. sum (steps_if b steps)) (is index within)) ∙ sum_of_none count (λ index first last. refl)

    -- one thing before others
    both : (first rest : ℕ → List Step) (a b : List Step) → total first ≡ sum a → total rest ≡ sum b → total (λ index. first index ++ rest index) ≡ sum (a ++ b)
    both first rest a b here later =
        sums_within count (λ index within. sum_by-append weight (first index) (rest index))
        ∙ sum_of_both (λ index. sum (first index)) (λ index. sum (rest index)) count
        ∙ (λ i. here i + later i) ∙ sym (sum_by-append weight a b)

    -- what lies in a folder of a site
    in_total : (root : List ℕ) (site : Path) (prefix : List ℕ) (what : Finding) (steps : List Step)
        → total (λ index. steps_if (is_own_in wants.layout (S index) (root ∷ site, prefix) what (no site == index)) steps)
        ≡ sum (steps_if (is_own_in wants.layout W (root ∷ site, prefix) what true) steps)
    in_total root site prefix what steps =
        let at : Path × List ℕ = (root ∷ site, prefix) in
        family (ok_in at what) (no_in at what) (λ index. is_own_in wants.layout (S index) at what (no site == index)) steps
        (in_within share by count some wants.layout at what)
        (λ index one. in_is share by count some wants.layout at what index (no site == index) one refl)
        ∙ ap (λ b. sum (steps_if b steps)) (sym (whole_in at what))

    -- a site that is come to
    at_total : (root : List ℕ) (site : Path) (prefix : List ℕ) (w : At) (left : ℕ) (inside : Forest) (held : Held)
        → ((what : Finding) (h : Held)
        → total (λ index. steps_in (S index) wants (no site == index) (here_at wants (root ∷ site) prefix (within.Site w) left) what inside h)
        ≡ sum (steps_in W wants true (here_at wants (root ∷ site) prefix (within.Site w) left) what inside h))
        → total (λ index. steps_at (S index) wants (no site == index) (here_at wants (root ∷ site) prefix (within.Site w) left) inside held)
        ≡ sum (steps_at W wants true (here_at wants (root ∷ site) prefix (within.Site w) left) inside held)
    at_total root site prefix w left inside held entries = by_left (left == 0)
      where
        folder : Folder
        folder = here_at wants (root ∷ site) prefix (within.Site w) left

        what : Finding
        what = finding_of wants.form (within.Site w) (listing_of inside)

        deep : List Step
        deep = Tells (root ∷ site) trouble.Deep ∷ []

        judged : List Step
        judged = steps_judged wants folder (listing_of inside)

        by_left : (b : Bool)
            → total (λ index. cond b (steps_if (no site == index) deep)
            (steps_if (is_own_in wants.layout (S index) (root ∷ site, prefix) what (no site == index)) judged
            ++ steps_in (S index) wants (no site == index) folder what inside (held_found what held)))
            ≡ sum (cond b (steps_if true deep)
            (steps_if (is_own_in wants.layout W (root ∷ site, prefix) what true) judged ++ steps_in W wants true folder what inside (held_found what held)))
        by_left true = one_total (no site) deep (tell_within share by count some site)
        by_left false = both (λ index. steps_if (is_own_in wants.layout (S index) (root ∷ site, prefix) what (no site == index)) judged)
            (λ index. steps_in (S index) wants (no site == index) folder what inside (held_found what held))
            (steps_if (is_own_in wants.layout W (root ∷ site, prefix) what true) judged) (steps_in W wants true folder what inside (held_found what held))
            (in_total root site prefix what judged) (entries what (held_found what held))

    -- an entry that is a folder
    abbrev entry : Portion → Path → Within → Bool → List Step → Folder → Forest → Held → List Step
    entry s path here mine M it inside held = steps_if mine M ++ steps_if (is_walked s path here mine) (steps_at s wants mine it inside held)

    -- one that is no site
    plain_child : (path : Path) (prefix : List ℕ) (here : Within) (left : ℕ) (inside : Forest) (held : Held) (M : List Step) (ok : Bool) (n : ℕ)
        (mine : ℕ → Bool) (mine_w : Bool) → is_site here ≡ false → IsOneOf count n
        → ((index : ℕ) → IsOneOf count index → mine index ≡ (ok && (n == index))) → mine_w ≡ ok
        → total (λ index. entry (S index) path here (mine index) M (here_at wants path prefix here left) inside held)
        ≡ sum (entry W path here mine_w M (here_at wants path prefix here left) inside held)
    plain_child path prefix here left inside held M ok n mine mine_w e one is same =
        let it = here_at wants path prefix here left in
        let E = steps_at W wants true it inside held in
        sums_within count (λ index within. ap sum (plain_entry wants (S index) W (mine index) it inside held M e))
        ∙ family ok n mine (M ++ E) one is ∙ ap (λ b. sum (steps_if b (M ++ E))) (sym same)
        ∙ sym (ap sum (plain_entry wants W W mine_w it inside held M e))

    -- one that is a site
    site_child : (root : List ℕ) (site : Path) (prefix : List ℕ) (w : At) (left : ℕ) (inside : Forest) (held : Held) (M : List Step)
        (mine : ℕ → Bool) (mine_w : Bool) → ((index : ℕ) → IsOneOf count index → mine index ≡ (no site == index)) → mine_w ≡ true
        → ((what : Finding) (h : Held)
        → total (λ index. steps_in (S index) wants (no site == index) (here_at wants (root ∷ site) prefix (within.Site w) left) what inside h)
        ≡ sum (steps_in W wants true (here_at wants (root ∷ site) prefix (within.Site w) left) what inside h))
        → total (λ index. entry (S index) (root ∷ site) (within.Site w) (mine index) M (here_at wants (root ∷ site) prefix (within.Site w) left) inside held)
        ≡ sum (entry W (root ∷ site) (within.Site w) mine_w M (here_at wants (root ∷ site) prefix (within.Site w) left) inside held)
    site_child root site prefix w left inside held M mine mine_w is same entries =
        let it = here_at wants (root ∷ site) prefix (within.Site w) left in
        let X = λ (index : ℕ). steps_at (S index) wants (no site == index) it inside held in
        sums_within count (λ index one. ap (λ b. sum (entry (S index) (root ∷ site) (within.Site w) b M it inside held)) (is index one)
        ∙ ap (λ (l : List Step). sum (steps_if (no site == index) M ++ l)) (gate share by count some wants index root site prefix w left inside held one))
        ∙ both (λ index. steps_if (no site == index) M) X M (steps_at W wants true it inside held)
        (one_total (no site) M (tell_within share by count some site)) (at_total root site prefix w left inside held entries)
        ∙ ap (λ b. sum (M ++ steps_if b (steps_at W wants true it inside held))) (sym (whole_walked (root ∷ site) (within.Site w)))
        ∙ ap (λ b. sum (entry W (root ∷ site) (within.Site w) b M it inside held)) (sym same)

    -- whichever it is
    child_total : (root : List ℕ) (site : Path) (prefix : List ℕ) (here : Within) (left : ℕ) (inside : Forest) (held : Held) (M : List Step) (shorty : Bool)
        (ok : Bool) (n : ℕ) (own : ℕ → Bool) (own_w : Bool) → (shorty ≡ false → is_site here ≡ false) → IsOneOf count n
        → ((index : ℕ) → IsOneOf count index → own index ≡ (ok && (n == index))) → own_w ≡ ok
        → (is_all (S 1) ≡ true → ok ≡ true) → (is_all W ≡ true → own_w ≡ true)
        → ((w : At) (what : Finding) (h : Held)
        → total (λ index. steps_in (S index) wants (no site == index) (here_at wants (root ∷ site) prefix (within.Site w) left) what inside h)
        ≡ sum (steps_in W wants true (here_at wants (root ∷ site) prefix (within.Site w) left) what inside h))
        → total (λ index. entry (S index) (root ∷ site) here (cond (is_all (S index)) (own index) (cond shorty (tells_at (S index) site) (own index))) M
        (here_at wants (root ∷ site) prefix here left) inside held)
        ≡ sum (entry W (root ∷ site) here (cond (is_all W) own_w (cond shorty (tells_at W site) own_w)) M
        (here_at wants (root ∷ site) prefix here left) inside held)
    child_total root site prefix here left inside held M shorty ok n own own_w only one is same good good_w entries = by_shorty shorty refl
      where
        mine : ℕ → Bool
        mine index = cond (is_all (S index)) (own index) (cond shorty (tells_at (S index) site) (own index))

        mine_w : Bool
        mine_w = cond (is_all W) own_w (cond shorty (tells_at W site) own_w)

        mine_is : (index : ℕ) → IsOneOf count index → mine index ≡ cond shorty (no site == index) (own index)
        mine_is index within = entry_is share by count some shorty site index (own index) within
            (λ all. is index within ∙ (λ i. good all i && is_one share by count some all index n within one i))

        mine_w_is : mine_w ≡ cond shorty true own_w
        mine_w_is = whole_entry shorty site own_w good_w

        -- a shorty of a site
        of_site : (h : Within) → shorty ≡ true
            → total (λ index. entry (S index) (root ∷ site) h (mine index) M (here_at wants (root ∷ site) prefix h left) inside held)
            ≡ sum (entry W (root ∷ site) h mine_w M (here_at wants (root ∷ site) prefix h left) inside held)
        of_site h short = by_here h
          where
            mine_here : (index : ℕ) → IsOneOf count index → mine index ≡ (no site == index)
            mine_here index within = mine_is index within ∙ ap (λ b. cond b (no site == index) (own index)) short

            mine_all : mine_w ≡ true
            mine_all = mine_w_is ∙ ap (λ b. cond b true own_w) short

            by_here : (h : Within)
                → total (λ index. entry (S index) (root ∷ site) h (mine index) M (here_at wants (root ∷ site) prefix h left) inside held)
                ≡ sum (entry W (root ∷ site) h mine_w M (here_at wants (root ∷ site) prefix h left) inside held)
            by_here (within.Site w) = site_child root site prefix w left inside held M mine mine_w mine_here mine_all (entries w)
            by_here within.Past = plain_child (root ∷ site) prefix within.Past left inside held M true (no site) mine mine_w refl
                (tell_within share by count some site) mine_here mine_all
            by_here (within.Object before) = plain_child (root ∷ site) prefix (within.Object before) left inside held M true (no site) mine mine_w refl
                (tell_within share by count some site) mine_here mine_all
            by_here within.Beside = plain_child (root ∷ site) prefix within.Beside left inside held M true (no site) mine mine_w refl
                (tell_within share by count some site) mine_here mine_all

        by_shorty : (s : Bool) → shorty ≡ s
            → total (λ index. entry (S index) (root ∷ site) here (mine index) M (here_at wants (root ∷ site) prefix here left) inside held)
            ≡ sum (entry W (root ∷ site) here mine_w M (here_at wants (root ∷ site) prefix here left) inside held)
        by_shorty true short = of_site here short
        by_shorty false long = plain_child (root ∷ site) prefix here left inside held M ok n mine mine_w (only long) one
            (λ index within. mine_is index within ∙ ap (λ b. cond b (no site == index) (own index)) long ∙ is index within)
            (mine_w_is ∙ ap (λ b. cond b true own_w) long ∙ same)

    -- what stands beside shorties is no site
    beside : (w : At) (what : Finding) (name : List ℕ) (a b : ℕ) (x : Bool) → (x && true) ≡ false
        → is_site (cond x (below_site w name) (beside_shorties what a b)) ≡ false
    beside w what name a b true e = absurd (cc)
    beside w what name a b false e = none_beside what a b

    -- the entries of a site
    entries_total : (tree : Forest) (root : List ℕ) (site : Path) (prefix : List ℕ) (w : At) (left : ℕ) (what : Finding) (held : Held)
        → total (λ index. steps_in (S index) wants (no site == index) (here_at wants (root ∷ site) prefix (within.Site w) left) what tree held)
        ≡ sum (steps_in W wants true (here_at wants (root ∷ site) prefix (within.Site w) left) what tree held)
    entries_total none root site prefix w left what held = sum_of_none count (λ index first last. refl)
    entries_total (file name bytes after) root site prefix w left what held =
        let folder = here_at wants (root ∷ site) prefix (within.Site w) left in
        let path = root ∷ site ++ name ∷ [] in
        let holder = holder_in folder what in
        let met = held_met kind.File held in
        let here = steps_met wants path holder (name, kind.File) held ++ steps_opened wants path holder bytes met in
        let next = held_read holder (read_of wants bytes) met in
        let at : Path × List ℕ = (root ∷ site, prefix) in
        both (λ index. steps_if (is_own_in wants.layout (S index) at what (no site == index)) here)
        (λ index. steps_in (S index) wants (no site == index) folder what after next)
        (steps_if (is_own_in wants.layout W at what true) here) (steps_in W wants true folder what after next)
        (in_total root site prefix what here) (entries_total after root site prefix w left what next)
    entries_total (other name after) root site prefix w left what held =
        let folder = here_at wants (root ∷ site) prefix (within.Site w) left in
        let here = steps_met wants (root ∷ site ++ name ∷ []) (holder_in folder what) (name, kind.Other) held in
        let at : Path × List ℕ = (root ∷ site, prefix) in
        both (λ index. steps_if (is_own_in wants.layout (S index) at what (no site == index)) here)
        (λ index. steps_in (S index) wants (no site == index) folder what after held)
        (steps_if (is_own_in wants.layout W at what true) here) (steps_in W wants true folder what after held)
        (in_total root site prefix what here) (entries_total after root site prefix w left what held)
    entries_total (dir name inside after) root site prefix w left what held =
        let folder = here_at wants (root ∷ site) prefix (within.Site w) left in
        let it = folder_in folder what name in
        let at : Path × List ℕ = (root ∷ site, prefix) in
        let begun = held_begun it.here (holder_in folder what) held in
        let seen = finding_of wants.form it.here (listing_of inside) in
        let behind = held_ended it.here held (cond (it.left == 0) begun (held_behind wants it seen inside (held_found seen begun))) in
        let M = steps_met wants it.path (holder_in folder what) (name, kind.Dir) held in
        let shorty = is_shorty (name, kind.Dir) && is_site (within.Site w) in
        let own = λ (index : ℕ). is_own_in wants.layout (S index) at what (no site == index) in
        let own_w = is_own_in wants.layout W at what true in
        let mine = λ (s : Portion) (o : Bool). is_own_entry s it.path (within.Site w) (name, kind.Dir) o in
        let child = child_total root (site ++ name ∷ []) prefix it.here it.left inside begun M shorty (ok_in at what) (no_in at what) own own_w
        (beside w what name (length (joined (root ∷ site))) (length (joined it.path)) (is_short name))
        (in_within share by count some wants.layout at what) (λ index one. in_is share by count some wants.layout at what index (no site == index) one refl)
        (whole_in at what) (λ all. in_any share by count some all wants.layout at what)
        (λ all. ap (λ b. cond b true (is_own_by_finding wants.layout W at what true)) all)
        (λ a seen h. entries_total inside root (site ++ name ∷ []) prefix a it.left seen h) in
        both (λ index. entry (S index) it.path it.here (mine (S index) (own index)) M it inside begun)
        (λ index. steps_in (S index) wants (no site == index) folder what after behind)
        (entry W it.path it.here (mine W own_w) M it inside begun) (steps_in W wants true folder what after behind)
        child (entries_total after root site prefix w left what behind)

    -- ---- a store

    abbrev top : ℕ → Bool
    top index = is_own_way (S index) []

    top_total : (steps : List Step) → total (λ index. steps_if (top index) steps) ≡ sum (steps_if (is_own_way W []) steps)
    top_total steps =
        family true (no []) top steps (tell_within share by count some []) (λ index one. top_is share by count some index one)
        ∙ ap (λ b. sum (steps_if b steps)) (sym (top_is share division.Identifiers 1 (omega arith) 1 one_of_one))

    root_total : (prefix : List ℕ) (tree : Forest) → total (λ index. steps_of_root (S index) wants prefix tree) ≡ sum (steps_of_root W wants prefix tree)
    root_total prefix tree = by_root (is_dir_kind (kind_in (listing_of tree) pairtree_root))
      where
        inside : Forest
        inside = inside_at tree (pairtree_root ∷ [])

        lacks : List Step
        lacks = Tells (pairtree_root ∷ []) trouble.Missing ∷ []

        root : Folder
        root = root_folder prefix

        by_root : (b : Bool)
            → total (λ index. cond b (steps_at (S index) wants (top index) root inside none_held) (steps_if (top index) lacks))
            ≡ sum (cond b (steps_at W wants (is_own_way W []) root inside none_held) (steps_if (is_own_way W []) lacks))
        by_root true =
            sums_within count (λ index one. ap (λ b. sum (steps_at (S index) wants b root inside none_held)) (top_is share by count some index one))
            ∙ at_total pairtree_root [] prefix at.Root root.left inside none_held
            (λ what h. entries_total inside pairtree_root [] prefix at.Root root.left what h)
            ∙ ap (λ b. sum (steps_at W wants b root inside none_held)) (sym (top_is share division.Identifiers 1 (omega arith) 1 one_of_one))
        by_root false = top_total lacks

pub check_shares_do_the_whole : CheckSharesDoTheWhole
check_shares_do_the_whole share by wants tree count some weight =
    let what = kind_in (listing_of tree) prefix_file in
    let bytes = bytes_at tree prefix_path in
    let lacks = told_if (version_file ∷ []) (missing (is_file_kind (kind_in (listing_of tree) version_file))) in
    let S = part share by count some in
    let W = whole_of share in
    let rest = λ (s : Portion). steps_if (is_own_way s []) lacks ++ steps_of_root s wants (prefix_known what bytes) tree in
    sym (both share by count some wants weight (λ index. steps_if (is_own_way (S index) []) (steps_of_prefix what bytes)) (λ index. rest (S index))
    (steps_if (is_own_way W []) (steps_of_prefix what bytes)) (rest W) (top_total share by count some wants weight (steps_of_prefix what bytes))
    (both share by count some wants weight (λ index. steps_if (is_own_way (S index) []) lacks)
    (λ index. steps_of_root (S index) wants (prefix_known what bytes) tree) (steps_if (is_own_way W []) lacks)
    (steps_of_root W wants (prefix_known what bytes) tree) (top_total share by count some wants weight lacks)
    (root_total share by count some wants weight (prefix_known what bytes) tree)))

-- Where an identifier belongs, and whether an object stands there.
use Rattle.std.proofs.Common.{
  ◌≡◌,
  ◌<◌,
  ◌≤◌,
  ◌+◌,
  ◌==◌,
  ℕ,
  zero,
  suc,
  Bool,
  true,
  false,
  List,
  [],
  ◌∷◌,
  ◌++◌,
  refl,
  sym,
  ap,
  ◌∙◌,
  subst,
  arith,
  cond,
  drop,
  take,
  length,
  append-nil,
  nat_lt,
  min,
  inl,
  inr,
}
use Rattle.std.specs.Prelude.{All, Option, None, Some, not, ◌&&◌, ◌||◌, is_none}
use Rattle.std.specs.Option.{ForSome, option_and_then, option_map, option_map_or}
use Rattle.std.specs.List.{list_any}
use Rattle.std.specs.String.{string_bytes}
use Rattle.std.specs.Str.{bytes_eq, is_utf8}
use Rattle.std.proofs.lemmas.Bool.{or_parts}
use Rattle.std.proofs.lemmas.List.{take-append-drop}
use Rattle.std.proofs.lemmas.List.Elements.{All-append, All-cons, All-head, All-nil, All-tail, All-weaker}
use Rattle.std.proofs.lemmas.Str.{IsUtf8-from_ascii, is_utf8-from_IsUtf8}
use Rattle.std.proofs.lemmas.Str.Ascii.{IsAscii-from_all}
use Rattle.pt_tree.specs.Forest.{Dir, File, Forest, Node, Other, as_dir, dir_at, kind_at, kind_of, listing_of, node_at}
use Rattle.pt_tree.specs.Listing.{Item}
use Rattle.pt_tree.specs.Name.{AreNames, is_forbidden_name, is_name, name_refusal}
use Rattle.pt_tree.specs.Path.{Path, last_name, same_path, split_path}
use Rattle.pt_tree.specs.Source.{IsListed, IsSeen, Reading, tree_in}
use Rattle.pt_tree.specs.Pieces.{IsRefusal, earlier, first_refusal, names_in}
use Rattle.pt_tree.specs.declared.kind.Kind.{Kind}
use Rattle.pt_tree.specs.declared.kind.Kind.TheVariants as kind
use Rattle.pt_tree.specs.declared.name.NameFault.{NameFault}
use Rattle.pt_tree.specs.declared.name.NameFault.TheVariants as name
use Rattle.pt_tree.proofs.Cut.{names_back}
use Rattle.pt_name.specs.Clean.{caret_spelling, clean_spelling, cleaned, is_reserved, pairpath_of, pieces_of_two}
use Rattle.pt_name.specs.Hex.{hex_pair}
use Rattle.pt_name.specs.Place.{IsPlaceByte}
use Rattle.pt_name.proofs.Digits.{All-hex_pair}
use Rattle.pt_walk.specs.Sites.{at_of}
use Rattle.pt_walk.specs.declared.site.At.TheVariants as at
use Rattle.pt_walk.specs.Left.{Fits}
use Rattle.pt_walk.specs.Site.{found}
use Rattle.pt_walk.specs.Trail.{names_to, trail_path}
use Rattle.pt_walk.specs.declared.frame.Frame.{Frame}
use Rattle.pt_plan.specs.Job.{Job, form_of}
use Rattle.pt_plan.specs.Store.{pairtree_of, prefix_of}
use Rattle.pt_plan.specs.TurnStart.{is_dir_kind}
use Rattle.pt_plan.specs.TurnWalk.{in_pairtree}
use Rattle.pt_plan.specs.declared.object.Object.{Object}
use Rattle.pt_plan.specs.declared.phase.Phase.{Phase}
use Rattle.pt_plan.specs.declared.phase.Phase.TheVariants as phase
use Rattle.pt_plan.specs.declared.phase.Stage.TheVariants as stage
use Rattle.pt_invariant.specs.SourceInvariant.{SourcePart}
use Rattle.pt_invariant.proofs.source.InPairtree.{listing_in}
use Rattle.pt_compare.specs.Root.{Stands, same_kind}
use Rattle.pt_plan.specs.TurnMake.{common_names}
use Rattle.pt_compare.specs.declared.difference.Comparison.{Comparison}
use Rattle.pt_compare.proofs.Opening.{dir_above, take_alike}
use Rattle.pt_compare.proofs.Reading.{calls}
use Rattle.pt_compare.proofs.Roots.{below}
use Rattle.pt_move.specs.Running.{Running}
use Rattle.pt_state.specs.States.{held_of, job_of}
use Rattle.pt_state.specs.declared.job.Job as own
use Rattle.pt_audit.proofs.Telling.{object_at_hand}
use Rattle.pt_audit.specs.Auditing.{IsTwinAtHand}
use Rattle.pt_audit.specs.Surveying.{Surveys, sight_at}
use Rattle.pt_audit.specs.Twin.{has_object, has_object_in, is_differing, is_second, is_twin, object_stands, proper_site}
use Rattle.pt_audit.specs.declared.survey.SurveyEvent.TheVariants as sight

-- ---- the pieces of a cleaned identifier are names

-- a byte of ASCII that is no NUL, no `.` and no `/`
abbrev IsPlain : ℕ → Type 0
IsPlain b = (nat_lt b 128 && (not (b == 0) && (not (b == 46) && not (b == 47)))) ≡ true

plain_ascii : (b : ℕ) → IsPlain b → b < 128
plain_ascii b h = grind (arith, h)

plain_not_0 : (b : ℕ) → IsPlain b → (b == 0) ≡ false
plain_not_0 b h = grind (arith, h)

plain_not_46 : (b : ℕ) → IsPlain b → (b == 46) ≡ false
plain_not_46 b h = grind (arith, h)

plain_not_47 : (b : ℕ) → IsPlain b → (b == 47) ≡ false
plain_not_47 b h = grind (arith, h)

place_plain : (b : ℕ) → IsPlaceByte b → IsPlain b
place_plain b h = by (grind (arith, h)) (grind (arith, h)) (grind (arith, h)) (grind (arith, h))
  where
    by : nat_lt b 128 ≡ true → (b == 0) ≡ false → (b == 46) ≡ false → (b == 47) ≡ false → IsPlain b
    by ascii nul dot slash = rw (ascii, nul, dot, slash) refl

-- what stays as it is is plain
stays_plain : (byte : ℕ) → (byte == 47) ≡ false → (byte == 46) ≡ false → (nat_lt byte 33 || nat_lt 126 byte || is_reserved byte) ≡ false → IsPlain byte
stays_plain byte slash dot plain =
    let range = or_parts (nat_lt byte 33 || nat_lt 126 byte) (is_reserved byte) plain in
    let ends = or_parts (nat_lt byte 33) (nat_lt 126 byte) range.0 in
    grind (arith, slash, dot, ends.0, ends.1)

spelling_plain : (byte : ℕ) → byte < 256 → All IsPlain (clean_spelling byte)
spelling_plain byte small = slash (byte == 47) refl
  where
    caret : (t : Bool) → (nat_lt byte 33 || nat_lt 126 byte || is_reserved byte) ≡ t → (byte == 47) ≡ false → (byte == 46) ≡ false
        → All IsPlain (cond t (caret_spelling byte) (byte ∷ []))
    caret true e s d = All-cons IsPlain 94 (hex_pair byte) refl (All-weaker IsPlaceByte IsPlain place_plain (hex_pair byte) (All-hex_pair byte small))
    caret false e s d = All-cons IsPlain byte [] (stays_plain byte s d e) (All-nil IsPlain)

    dot : (t : Bool) → (byte == 46) ≡ t → (byte == 47) ≡ false → All IsPlain
        (cond t (44 ∷ []) (cond (nat_lt byte 33 || nat_lt 126 byte || is_reserved byte) (caret_spelling byte) (byte ∷ [])))
    dot true e s = All-cons IsPlain 44 [] refl (All-nil IsPlain)
    dot false e s = caret (nat_lt byte 33 || nat_lt 126 byte || is_reserved byte) refl s e

    colon : (t : Bool) → (byte == 47) ≡ false
        → All IsPlain (cond t (43 ∷ []) (cond (byte == 46) (44 ∷ []) (cond (nat_lt byte 33 || nat_lt 126 byte || is_reserved byte) (caret_spelling byte)
        (byte ∷ []))))
    colon true s = All-cons IsPlain 43 [] refl (All-nil IsPlain)
    colon false s = dot (byte == 46) refl s

    slash : (t : Bool) → (byte == 47) ≡ t
        → All IsPlain (cond t (61 ∷ []) (cond (byte == 58) (43 ∷ []) (cond (byte == 46) (44 ∷ [])
        (cond (nat_lt byte 33 || nat_lt 126 byte || is_reserved byte) (caret_spelling byte) (byte ∷ [])))))
    slash true e = All-cons IsPlain 61 [] refl (All-nil IsPlain)
    slash false e = colon (byte == 58) e

cleaned_plain : (id : List ℕ) → All (λ b. b < 256) id → All IsPlain (cleaned id)
cleaned_plain [] h = All-nil IsPlain
cleaned_plain (b ∷ id) h =
    All-append IsPlain (clean_spelling b) (cleaned id) (spelling_plain b (All-head (λ x. x < 256) b id h)) (cleaned_plain id (All-tail (λ x. x < 256) b id h))

-- plain bytes hold no other
none_is : (c : ℕ) (bytes : List ℕ) → ((b : ℕ) → IsPlain b → (b == c) ≡ false) → All IsPlain bytes → list_any (λ b. b == c) bytes ≡ false
none_is c [] differs h = refl
none_is c (b ∷ bytes) differs h = rw (differs b (All-head IsPlain b bytes h)) (none_is c bytes differs (All-tail IsPlain b bytes h))

not_dotted : (b : ℕ) (bytes more : List ℕ) → IsPlain b → bytes_eq (b ∷ bytes) (46 ∷ more) ≡ false
not_dotted b bytes more h = rw (plain_not_46 b h) refl

all_tests : (bytes : List ℕ) → 0 < length bytes → length bytes ≤ 255 → is_utf8 bytes ≡ true → is_forbidden_name bytes ≡ false → is_name bytes ≡ true
all_tests bytes some bound text good = grind (arith, some, bound, text, good)

plain_name : (b : ℕ) (bytes : List ℕ) → length (b ∷ bytes) ≤ 255 → All IsPlain (b ∷ bytes) → is_name (b ∷ bytes) ≡ true
plain_name b bytes few h =
    let ascii = IsAscii-from_all (b ∷ bytes) (All-weaker IsPlain (λ b. b < 128) plain_ascii (b ∷ bytes) h) in
    let first = All-head IsPlain b bytes h in
    all_tests (b ∷ bytes) (omega arith) few (is_utf8-from_IsUtf8 (b ∷ bytes) (IsUtf8-from_ascii (b ∷ bytes) ascii))
    (rw (none_is 47 (b ∷ bytes) plain_not_47 h, none_is 0 (b ∷ bytes) plain_not_0 h, not_dotted b bytes [] first, not_dotted b bytes (46 ∷ []) first) refl)

abbrev IsName : List ℕ → Type 0
IsName n = is_name n ≡ true

pieces_named : (text : List ℕ) → All IsPlain text → AreNames (pieces_of_two text)
pieces_named [] h = All-nil IsName
pieces_named (a ∷ []) h = All-cons IsName (a ∷ []) [] (plain_name a [] (omega arith) h) (All-nil IsName)
pieces_named (a ∷ b ∷ rest) h =
    let one = All-head IsPlain a (b ∷ rest) h in
    let more = All-tail IsPlain a (b ∷ rest) h in
    let two = All-head IsPlain b rest more in
    All-cons IsName (a ∷ b ∷ []) (pieces_of_two rest) (plain_name a (b ∷ []) (omega arith)
    (All-cons IsPlain a (b ∷ []) one (All-cons IsPlain b [] two (All-nil IsPlain))))
    (pieces_named rest (All-tail IsPlain b rest more))

proper_named : (id : List ℕ) → All (λ b. b < 256) id → AreNames (proper_site id)
proper_named id h = pieces_named (cleaned id) (cleaned_plain id h)

-- so the text of the pairpath has them
pub proper_back : (id text : List ℕ) (path : Path) → All (λ b. b < 256) id → text ≡ pairpath_of id → path ≡ names_in text → path ≡ proper_site id
proper_back id text path h is cut = cut ∙ ap names_in is ∙ names_back (proper_site id) (proper_named id h)

none_refused : (p : Path) → AreNames p → first_refusal p ≡ None
none_refused [] h = refl
none_refused (n ∷ p) h = by (name_refusal n) (All-head IsName n p h) (none_refused p (All-tail IsName n p h))
  where
    by : (o : Option NameFault) → is_none o ≡ true → first_refusal p ≡ None → earlier o (first_refusal p) ≡ None
    by None named rest = rest
    by (Some why) named rest = absurd (cc)

-- and is refused only for want of memory
pub proper_refused : (id text : List ℕ) (why : NameFault) → All (λ b. b < 256) id → text ≡ pairpath_of id → IsRefusal (names_in text) why → why ≡ name.Memory
proper_refused id text why h is refused = elim (subst (λ (t : List ℕ). IsRefusal (names_in t) why) is refused) [
  | inl memory ↦ memory
  | inr why_not ↦ absurd (let no_why : first_refusal (names_in (pairpath_of id)) ≡ None = ap first_refusal (names_back (proper_site id) (proper_named id h))
      ∙ none_refused (proper_site id) (proper_named id h) in cc)
]

-- ---- where a path stands as a site

last_at : (n : List ℕ) (p : Path) → at_of (n ∷ p) ≡ cond (length (last_name (n ∷ p)) == 1) at.Last at.Pair
last_at n [] = refl
last_at n (m ∷ p) = last_at m p

pub at_top : (p : Path) → None ≡ split_path p → at.Root ≡ at_of p
at_top [] is = refl
at_top (n ∷ p) is = absurd (cc)

pub at_below : (p above : Path) (last : List ℕ) → Some (above, last) ≡ split_path p → cond (length last == 1) at.Last at.Pair ≡ at_of p
at_below [] above last is = absurd (cc)
at_below (n ∷ p) above last is =
    let same : last ≡ last_name (n ∷ p) = ap (λ (o : Option (Path × List ℕ)). option_map_or (λ (s : Path × List ℕ). s.1) o []) is in
    ap (λ (x : List ℕ). cond (length x == 1) at.Last at.Pair) same ∙ sym (last_at n p)

-- ---- what a directory lists

-- a directory stands there where that is the kind of what does
standing_dir : (o : Option Kind) → option_map_or (same_kind kind.Dir) o false ≡ is_dir_kind o
standing_dir None = refl
standing_dir (Some kind.File) = refl
standing_dir (Some kind.Dir) = refl
standing_dir (Some kind.Other) = refl

no_dir : (f : Forest) (p q : Path) → is_dir_kind (kind_at f p) ≡ false → is_dir_kind (kind_at f (p ++ q)) ≡ false
no_dir f p [] lacks = ap (λ (x : Path). is_dir_kind (kind_at f x)) (append-nil p) ∙ lacks
no_dir f p (n ∷ q) lacks = ap (λ (o : Option Node). is_dir_kind (option_map kind_of o)) (below (Dir f) p n q lacks)

-- below what is seen as no directory none stands
pub seen_lacks : (tree : Option Forest) (longer path rest : Path) (i : ℕ) (here : Option Kind) → IsSeen tree longer here → is_dir_kind here ≡ false
    → longer ++ drop (i + 1) rest ≡ in_pairtree path
    → ForSome tree (λ f. false ≡ is_dir_kind (kind_at f (in_pairtree path)))
seen_lacks tree longer path rest i here seen is whole = λ f told.
    sym (ap (λ (p : Path). is_dir_kind (kind_at f p)) (sym whole) ∙ no_dir f longer (drop (i + 1) rest) (ap is_dir_kind (seen f told) ∙ is))

-- the front that a path has in common with one that stands stands
pub front_stands : (tree : Option Forest) (path standing first : Path) (n : ℕ) → Stands tree (in_pairtree standing, kind.Dir) → n ≡ common_names path standing
    → first ≡ take n path → Stands tree (in_pairtree first, kind.Dir)
front_stands tree path standing first n stands is begin =
    let front : first ≡ take n standing = begin ∙ (rw is (take_alike path standing)) in
    subst (λ (p : Path). Stands tree (in_pairtree p, kind.Dir)) (sym front)
    (dir_above tree (in_pairtree (take n standing)) (drop n standing) (subst (λ (p : Path). Stands tree (in_pairtree p, kind.Dir))
    (sym (take-append-drop n standing)) stands))

pub stands_there : (tree : Option Forest) (way path : Path) → way ≡ in_pairtree path → Stands tree (way, kind.Dir)
    → ForSome tree (λ f. true ≡ is_dir_kind (kind_at f (in_pairtree path)))
stands_there None way path is stands = λ f told. absurd (cc)
stands_there (Some s) way path is stands = λ f told.
    let same : s ≡ f = cc in
    subst (λ (f : Forest). true ≡ is_dir_kind (kind_at f (in_pairtree path))) same
    (sym (ap (λ (p : Path). is_dir_kind (kind_at s p)) (sym is) ∙ sym (standing_dir (kind_at s way)) ∙ stands))

-- ---- whether an object stands there

pub none_of : (b : Bool) → false ≡ (b && false)
none_of true = refl
none_of false = refl

no_forest : (o : Option Node) → false ≡ is_dir_kind (option_map kind_of o) → None ≡ option_and_then as_dir o
no_forest None is = refl
no_forest (Some (File b)) is = refl
no_forest (Some (Dir d)) is = absurd (cc)
no_forest (Some Other) is = refl

-- a site where the identifier doesn't belong is the second one where an object stands at the proper one
pub second_of : (job : Job) (site p : Path) (id : List ℕ) (tree : Option Forest) (b : Bool) → p ≡ proper_site id → same_path site p ≡ false
    → ForSome tree (λ s. b ≡ object_stands job s p) → ForSome tree (λ s. b ≡ is_second job s site id)
second_of job site p id tree b is apart stands = λ s told.
    stands s told
    ∙ ap (λ (x : Bool). x && object_stands job s p) (ap not (sym apart))
    ∙ ap (λ (q : Path). not (same_path site q) && object_stands job s q) is

module _ (job : Job) (p : Path) where
  abbrev Tells : Bool → Forest → Type 0
  Tells b s = b ≡ object_stands job s p

  abbrev is_shallow : Bool
  is_shallow = not (nat_lt job.limits.depth (length p))

  pub none_there : (tree : Option Forest) → ForSome tree (λ s. false ≡ is_dir_kind (kind_at s (in_pairtree p))) → ForSome tree (Tells false)
  none_there tree lacks = λ s told.
      none_of is_shallow ∙ ap (λ (o : Option Forest). is_shallow && has_object_in job p o) (no_forest (node_at (Dir s) (in_pairtree p)) (lacks s told))

  -- what is listed there is judged
  pub judged_there : (told : Option Reading) (listing : List Item) (b : Bool) → nat_lt job.limits.depth (length p) ≡ false
      → IsListed told (in_pairtree p) listing → b ≡ has_object (found listing (at_of p) (form_of job)) → ForSome (tree_in told) (Tells b)
  unfolding IsListed
  judged_there None listing b shallow listed judged = λ s told. absurd (cc)
  judged_there (Some r) listing b shallow listed judged = λ s told.
      let same : r.tree ≡ s = cc in
      subst (Tells b) same
      (judged
      ∙ on (dir_at r.tree (in_pairtree p)) (listed r refl)
      ∙ ap (λ (x : Bool). x && has_object_in job p (dir_at r.tree (in_pairtree p))) (ap not (sym shallow)))
    where
      on : (o : Option Forest) → option_map listing_of o ≡ Some listing → has_object (found listing (at_of p) (form_of job)) ≡ has_object_in job p o
      on None is = absurd (cc)
      on (Some d) is = let same : listing_of d ≡ listing = cc in ap (λ (l : List Item). has_object (found l (at_of p) (form_of job))) (sym same)

-- ---- the object at hand

-- its site stands, and what its identifier begins with is the prefix of the store
pub record IsAtSite (tree : Option Forest) (r : Running) : Type 0 where
  pub stands : Stands tree (in_pairtree (trail_path r.state.trail), kind.Dir)
  pub prefix : ForSome tree (λ s. string_bytes r.state.prefix ≡ prefix_of s)

pub at_site : (told : Option Reading) (r : Running) → sight_at r.phase ≡ sight.Object → Surveys told r → IsAtSite (tree_in told) r
unfolding Surveys
at_site None r at (count, it) = record { stands = refl; prefix = λ s told. absurd (cc) }
at_site (Some s) r at (count, it) = record {
  stands = there r.state.trail known.at.1.stands.fits (known.at.1.stands.some) known.at.1.at_site;
  prefix = λ f told. let same : s.tree ≡ f = cc in subst (λ (f : Forest). string_bytes r.state.prefix ≡ prefix_of f) same known.at.0.read;
}
  where
    here : (object : Object) × (r.phase ≡ phase.Carrying object stage.Line)
    here = object_at_hand r.phase at

    known : SourcePart (job_of r.state.job) it.past (phase.Carrying here.0 stage.Line) (string_bytes r.state.prefix) (held_of r.state it.fed) s
    known = subst (λ (p : Phase). SourcePart (job_of r.state.job) it.past p (string_bytes r.state.prefix) (held_of r.state it.fed) s) here.1
        (it.is.source s refl)

    some_dir : (o : Option Node) (l : List Item) → option_map listing_of (option_and_then as_dir o) ≡ Some l → is_dir_kind (option_map kind_of o) ≡ true
    some_dir None l is = absurd (cc)
    some_dir (Some (File b)) l is = absurd (cc)
    some_dir (Some (Dir d)) l is = refl
    some_dir (Some Other) l is = absurd (cc)

    there : (trail : List Frame) → Fits (pairtree_of s.tree) trail → 0 < here.0.site → length trail ≡ here.0.site
        → Stands (Some s.tree) (in_pairtree (trail_path trail), kind.Dir)
    there [] fits some long = absurd (omega (arith, some, long))
    there (frame ∷ frames) fits some long =
        standing_dir (kind_at s.tree (in_pairtree (names_to frames)))
        ∙ some_dir (node_at (Dir s.tree) (in_pairtree (names_to frames))) frame.listing (listing_in s.tree (names_to frames) known.at.0.store ∙ fits.0)

-- what was looked at is what is asked of it
pub twin_at_hand : (tree : Option Forest) (r : Running) (id rest : List ℕ) (prefix : List ℕ) (job : own.Job) (site : Path) (twin : Bool) → IsAtSite tree r
    → job ≡ r.state.job → site ≡ trail_path r.state.trail → prefix ≡ string_bytes r.state.prefix → rest ≡ drop (length prefix) id
    → ForSome tree (λ s. twin ≡ is_second (job_of job) s site rest) → ForSome tree (λ s. twin ≡ is_twin (job_of r.state.job) s (trail_path r.state.trail) id)
twin_at_hand tree r id rest prefix job site twin it job_is site_is prefix_is rest_is second = λ s told.
    second s told
    ∙ (λ i. is_second (job_of (job_is i)) s (site_is i) (rest_is i))
    ∙ ap (λ (p : List ℕ). is_second (job_of r.state.job) s (trail_path r.state.trail) (drop (length p) id)) (prefix_is ∙ it.prefix s told)

-- of what differs that is told
pub told_as_twin : (tree : Option Forest) (r : Running) (id : List ℕ) (finding : Comparison) (twin : Bool) → is_differing finding ≡ true
    → ForSome tree (λ s. twin ≡ is_twin (job_of r.state.job) s (trail_path r.state.trail) id) → IsTwinAtHand tree r id finding twin
told_as_twin tree r id finding twin differs it = λ s told. it s told ∙ ap (λ (b : Bool). b && is_twin (job_of r.state.job) s (trail_path r.state.trail) id)
    (sym differs)

drop_nil : (k : ℕ) → drop {A = ℕ} k [] ≡ []
drop_nil zero = refl
drop_nil (suc k) = refl

-- what is behind a prefix, if it isn't longer
pub behind : (n m : ℕ) (xs rest : List ℕ) → m ≡ min n (length xs) → rest ≡ drop m xs → rest ≡ drop n xs
behind n m xs rest least is = is ∙ by xs n m least
  where
    by : (xs : List ℕ) (n m : ℕ) → m ≡ min n (length xs) → drop m xs ≡ drop n xs
    by [] n m least = drop_nil m ∙ sym (drop_nil n)
    by (x ∷ xs) zero m least = ap (λ (k : ℕ). drop k (x ∷ xs)) (let none : m ≡ 0 = omega (arith, least) in none)
    by (x ∷ xs) (suc n) zero least = absurd (omega (arith, least))
    by (x ∷ xs) (suc n) (suc m) least = by xs n m (omega (arith, least))

pub ruleset twins = (at_top, at_below, calls)

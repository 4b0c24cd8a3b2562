-- A system that is seen by lengths keeps to the laws of reading, as the system within does.
use Rattle.std.proofs.Common.{◌≡◌, ◌-◌, ◌∙◌, ℕ, List, true, false, ap, length, map, refl, subst, sym}
use Rattle.std.specs.Prelude.{Bool, Option, None, Some, IfOk, IsPermutation, IsSome, Result, Ok, Err, cond}
use Rattle.std.specs.Option.{ForSome, option_map}
use Rattle.std.specs.declared.io.Error.{Error}
use Rattle.pt_folder.specs.Folder.{entry_text}
use Rattle.pt_folder.specs.Laws.{LooksRight}
use Rattle.pt_folder.specs.SourceLaws.{GivesAll, IsLengthOf, LengthLaw, Listed, LookLaw, Looked, Measured}
use Rattle.pt_folder.specs.SourceLaws.{NamesLaw, OpenLaw, Opened, ProperLaw}
use Rattle.pt_tree.specs.Forest.{Dir, Forest, dir_at, file_at, is_proper, kind_of, node_at}
use Rattle.pt_tree.specs.Listing.{Item}
use Rattle.pt_tree.specs.Path.{Path, parent}
use Rattle.pt_tree.specs.declared.kind.Kind.{Kind}
use Rattle.pt_quick.specs.ByDepth.{is_deep, measured}
use Rattle.pt_quick.specs.ByLengths.{Asks, IsSame, KeepsLimits, LeadsToLength, LeadsToOwn, LeadsToText}
use Rattle.pt_quick.specs.ByLengths.{Measures, Opens, forest_by}
use Rattle.pt_quick.specs.DepthMeasured.{dir_at-measured, file_at-measured, is_dir-measured, is_file-measured}
use Rattle.pt_quick.specs.DepthMeasured.{kind_at-measured, listing-measured, proper-measured}
use Rattle.pt_quick.specs.Measured.{text_of_file, text_of_length}
use Rattle.pt_quick.specs.SeenFile.{bytes_seen, left_seen}
use Rattle.pt_quick.specs.SlashLaws.{past_deep}
use Rattle.pt_quick.specs.Slashes.{depth_below, is_past}
use Rattle.pt_quick.specs.declared.by_lengths.ByLengths.{ByLengths}
use Rattle.pt_quick.specs.declared.seen_file.SeenFile.{SeenFile}
use Rattle.pt_quick.specs.declared.seen_file.SeenFile.TheVariants.{Own, Text}

-- ---- what is told, and what is seen of it

-- a fact of what is seen
seen_of : {A B : Type 0} (g : A → B) (P : B → Type 0) (o : Option A) → ForSome o (λ x. P (g x)) → ForSome (option_map g o) P
seen_of g P None told = λ y is. absurd (cc)
seen_of {A} {B} g P (Some x) told = λ y is. let same : g x ≡ y = cc in subst P same (told x refl)

-- and back
told_of : {A B : Type 0} (g : A → B) (P : B → Type 0) (o : Option A) → ForSome (option_map g o) P → ForSome o (λ x. P (g x))
told_of g P o seen = λ x is. seen (g x) (ap (option_map g) is)

-- how deep a file below a folder isn't seen by its length
abbrev depth_in : {S : Type 0} → ByLengths S → List ℕ → ℕ
depth_in s folder = depth_below s.slashes folder

-- a directory is seen just where one stands
dir_there : (longest depth : ℕ) (o : Option Forest) (p : Path)
    → ForSome (option_map (measured longest depth) o) (λ f. IsSome (dir_at f p)) → ForSome o (λ f. IsSome (dir_at f p))
dir_there longest depth o p seen = λ f is.
    sym (is_dir-measured longest depth f p) ∙ told_of (measured longest depth) (λ f. IsSome (dir_at f p)) o seen f is

-- and a file
file_there : (longest depth : ℕ) (o : Option Forest) (p : Path)
    → ForSome (option_map (measured longest depth) o) (λ f. IsSome (file_at f p)) → ForSome o (λ f. IsSome (file_at f p))
file_there longest depth o p seen = λ f is.
    sym (is_file-measured longest depth f p) ∙ told_of (measured longest depth) (λ f. IsSome (file_at f p)) o seen f is

-- where the tree stays, so does what is seen of it
same_seen : {S : Type 0} (forest : S → List ℕ → Option Forest) (old new : ByLengths S) (folder : List ℕ) → KeepsLimits old new
    → forest new.system folder ≡ forest old.system folder → forest_by forest new folder ≡ forest_by forest old folder
same_seen {S} forest old new folder limits same =
    ap (λ (s : ByLengths S). forest_by forest s folder) limits
    ∙ ap (option_map (measured old.longest (depth_in old folder))) same

-- ---- a look

-- what a look shows is what it shows within
pub looks_within : {S : Type 0} (forest : S → List ℕ → Option Forest) (looks : S → List ℕ → Result Kind Error → S → Type 0)
    → LookLaw forest looks → LookLaw (forest_by forest) (Asks looks IsSame)
looks_within forest looks law old new folder p reply named above by = record {
  same = same_seen forest old new folder by.limits within.same;
  shown = seen_of (measured old.longest (depth_in old folder)) (λ f. LooksRight (option_map kind_of (node_at (Dir f) p)) reply)
      (forest old.system folder)
      (λ f is. subst (λ (here : Option Kind). LooksRight here reply) (sym (kind_at-measured old.longest (depth_in old folder) f p))
      (subst (λ (r : Result Kind Error). LooksRight (option_map kind_of (node_at (Dir f) p)) r) (sym by.leads) (within.shown f is)));
}
  where
    within : Looked (forest old.system folder) (forest new.system folder) p by.answer
    within = law old.system new.system folder p by.answer named
        (dir_there old.longest (depth_in old folder) (forest old.system folder) (parent p) above) by.made

-- ---- a length

-- of a file that is seen by its length, that of its text
text_length : (longest : ℕ) (o : Option (List ℕ)) (answer reply : Result ℕ Error) → LeadsToLength longest answer reply
    → IsLengthOf o answer → IsLengthOf (option_map (text_of_file longest) o) reply
text_length longest None (Ok count) reply leads told = absurd (cc)
text_length longest (Some bytes) (Ok count) reply leads told =
    let same : length bytes ≡ count = cc in
    subst (IsLengthOf (Some (text_of_file longest bytes))) (sym leads) (ap (λ n. Some (length (text_of_length longest n))) same)
text_length longest o (Err e) reply leads told = subst (IsLengthOf (option_map (text_of_file longest) o)) (sym leads) tt

-- what stands at a deep path
deep_file : (longest depth : ℕ) (f : Forest) (p : Path) → is_deep depth p ≡ true
    → option_map (text_of_file longest) (file_at f p) ≡ file_at (measured longest depth f) p
deep_file longest depth f p deep =
    sym (file_at-measured longest depth f p
    ∙ ap (λ t. cond t (option_map (text_of_file longest) (file_at f p)) (file_at f p)) deep)

-- and elsewhere
own_file : (longest depth : ℕ) (f : Forest) (p : Path) → is_deep depth p ≡ false
    → file_at f p ≡ file_at (measured longest depth f) p
own_file longest depth f p own =
    sym (file_at-measured longest depth f p
    ∙ ap (λ t. cond t (option_map (text_of_file longest) (file_at f p)) (file_at f p)) own)

-- of a file that is seen by its length, the length of the text is told, and of any other its own
pub measures_within : {S : Type 0} (forest : S → List ℕ → Option Forest) (measures : S → List ℕ → Result ℕ Error → S → Type 0)
    → LengthLaw forest measures → LengthLaw (forest_by forest) (Measures measures)
measures_within {S} forest measures law old new folder p reply named can by =
    by_past (is_past old.slashes (entry_text folder p)) refl
  where
    there : ForSome (forest old.system folder) (λ f. IsSome (file_at f p))
    there = file_there old.longest (depth_in old folder) (forest old.system folder) p can

    within : (answer : Result ℕ Error) → measures old.system (entry_text folder p) answer new.system
        → Measured (forest old.system folder) (forest new.system folder) p answer
    within answer made = law old.system new.system folder p answer named there made

    by_past : (past : Bool) → is_past old.slashes (entry_text folder p) ≡ past
        → Measured (forest_by forest old folder) (forest_by forest new folder) p reply
    by_past true past = record {
      same = same_seen forest old new folder (by.measured past).limits (within (by.measured past).answer (by.measured past).made).same;
      told = seen_of (measured old.longest (depth_in old folder)) (λ f. IsLengthOf (file_at f p) reply) (forest old.system folder)
          (λ f is. subst (λ o. IsLengthOf o reply)
          (deep_file old.longest (depth_in old folder) f p (sym (past_deep old.slashes folder f p named (there f is)) ∙ past))
          (text_length old.longest (file_at f p) (by.measured past).answer reply (by.measured past).leads
          ((within (by.measured past).answer (by.measured past).made).told f is)));
    }
    by_past false past = record {
      same = same_seen forest old new folder (by.own past).limits (within (by.own past).answer (by.own past).made).same;
      told = seen_of (measured old.longest (depth_in old folder)) (λ f. IsLengthOf (file_at f p) reply) (forest old.system folder)
          (λ f is. subst (λ o. IsLengthOf o reply)
          (own_file old.longest (depth_in old folder) f p (sym (past_deep old.slashes folder f p named (there f is)) ∙ past))
          (subst (IsLengthOf (file_at f p)) (sym (by.own past).leads) ((within (by.own past).answer (by.own past).made).told f is)));
    }

-- ---- an opening

-- the text of a length is opened at its start
text_start : {F : Type 0} (bytes left : F → Option (List ℕ)) (longest : ℕ) (answer : Result ℕ Error) (reply : Result (SeenFile F) Error)
    → LeadsToText longest answer reply → IfOk reply (λ file. left_seen left file ≡ bytes_seen bytes file)
text_start bytes left longest (Ok count) (Ok (Own file)) leads = absurd leads
text_start bytes left longest (Ok count) (Ok (Text t)) leads = ap (λ (l : List ℕ). Some l) leads.start
text_start bytes left longest (Ok count) (Err e) leads = absurd leads
text_start bytes left longest (Err e) reply leads =
    subst (λ r. IfOk r (λ file. left_seen left file ≡ bytes_seen bytes file)) (sym leads) tt

-- with the text of the file's length
text_given : {F : Type 0} (bytes : F → Option (List ℕ)) (longest : ℕ) (o : Option (List ℕ)) (answer : Result ℕ Error)
    (reply : Result (SeenFile F) Error) → LeadsToText longest answer reply → IsLengthOf o answer
    → IfOk reply (λ file. bytes_seen bytes file ≡ option_map (text_of_file longest) o)
text_given bytes longest o (Ok count) (Ok (Own file)) leads told = absurd leads
text_given bytes longest None (Ok count) (Ok (Text t)) leads told = absurd (cc)
text_given bytes longest (Some xs) (Ok count) (Ok (Text t)) leads told =
    let same : count ≡ length xs = cc in
    ap (λ (l : List ℕ). Some l) (leads.text ∙ ap (text_of_length longest) same)
text_given bytes longest o (Ok count) (Err e) leads told = absurd leads
text_given bytes longest o (Err e) reply leads told =
    subst (λ r. IfOk r (λ file. bytes_seen bytes file ≡ option_map (text_of_file longest) o)) (sym leads) tt

-- the system's own file is opened as it opens it
own_start : {F : Type 0} (bytes left : F → Option (List ℕ)) (answer : Result F Error) (reply : Result (SeenFile F) Error)
    → LeadsToOwn answer reply → IfOk answer (λ file. left file ≡ bytes file)
    → IfOk reply (λ file. left_seen left file ≡ bytes_seen bytes file)
own_start bytes left (Ok file) reply leads start =
    subst (λ r. IfOk r (λ file. left_seen left file ≡ bytes_seen bytes file)) (sym leads) start
own_start bytes left (Err e) reply leads start =
    subst (λ r. IfOk r (λ file. left_seen left file ≡ bytes_seen bytes file)) (sym leads) tt

-- with its bytes
own_given : {F : Type 0} (bytes : F → Option (List ℕ)) (o : Option (List ℕ)) (answer : Result F Error) (reply : Result (SeenFile F) Error)
    → LeadsToOwn answer reply → IfOk answer (λ file. bytes file ≡ o) → IfOk reply (λ file. bytes_seen bytes file ≡ o)
own_given bytes o (Ok file) reply leads given = subst (λ r. IfOk r (λ file. bytes_seen bytes file ≡ o)) (sym leads) given
own_given bytes o (Err e) reply leads given = subst (λ r. IfOk r (λ file. bytes_seen bytes file ≡ o)) (sym leads) tt

-- a file is opened with the text of its length, or with its own bytes
pub opens_within : {S F : Type 0} (forest : S → List ℕ → Option Forest) (bytes left : F → Option (List ℕ))
    (measures : S → List ℕ → Result ℕ Error → S → Type 0) (opens : S → List ℕ → Result F Error → S → Type 0)
    → LengthLaw forest measures → OpenLaw forest bytes left opens
    → OpenLaw (forest_by forest) (bytes_seen bytes) (left_seen left) (Opens measures opens)
opens_within {S} {F} forest bytes left measures opens lengths openings old new folder p reply named can by =
    by_past (is_past old.slashes (entry_text folder p)) refl
  where
    there : ForSome (forest old.system folder) (λ f. IsSome (file_at f p))
    there = file_there old.longest (depth_in old folder) (forest old.system folder) p can

    told : (answer : Result ℕ Error) → measures old.system (entry_text folder p) answer new.system
        → Measured (forest old.system folder) (forest new.system folder) p answer
    told answer made = lengths old.system new.system folder p answer named there made

    opened : (answer : Result F Error) → opens old.system (entry_text folder p) answer new.system
        → Opened bytes left (forest old.system folder) (forest new.system folder) p answer
    opened answer made = openings old.system new.system folder p answer named there made

    by_past : (past : Bool) → is_past old.slashes (entry_text folder p) ≡ past
        → Opened (bytes_seen bytes) (left_seen left) (forest_by forest old folder) (forest_by forest new folder) p reply
    by_past true past = record {
      same = same_seen forest old new folder (by.measured past).limits (told (by.measured past).answer (by.measured past).made).same;
      start = text_start bytes left old.longest (by.measured past).answer reply (by.measured past).leads;
      given = seen_of (measured old.longest (depth_in old folder)) (λ f. IfOk reply (λ file. bytes_seen bytes file ≡ file_at f p))
          (forest old.system folder)
          (λ f is. subst (λ o. IfOk reply (λ file. bytes_seen bytes file ≡ o))
          (deep_file old.longest (depth_in old folder) f p (sym (past_deep old.slashes folder f p named (there f is)) ∙ past))
          (text_given bytes old.longest (file_at f p) (by.measured past).answer reply (by.measured past).leads
          ((told (by.measured past).answer (by.measured past).made).told f is)));
    }
    by_past false past = record {
      same = same_seen forest old new folder (by.own past).limits (opened (by.own past).answer (by.own past).made).same;
      start = own_start bytes left (by.own past).answer reply (by.own past).leads (opened (by.own past).answer (by.own past).made).start;
      given = seen_of (measured old.longest (depth_in old folder)) (λ f. IfOk reply (λ file. bytes_seen bytes file ≡ file_at f p))
          (forest old.system folder)
          (λ f is. subst (λ o. IfOk reply (λ file. bytes_seen bytes file ≡ o))
          (own_file old.longest (depth_in old folder) f p (sym (past_deep old.slashes folder f p named (there f is)) ∙ past))
          (own_given bytes (file_at f p) (by.own past).answer reply (by.own past).leads ((opened (by.own past).answer (by.own past).made).given f is)));
    }

-- ---- the names of a directory

-- a directory that is seen gives the names that it gave
same_names : (longest depth : ℕ) (given : Option (List ℕ)) (o : Option Forest) → GivesAll given o
    → GivesAll given (option_map (measured longest depth) o)
same_names longest depth (Some bytes) (Some d) all = λ names gives.
    subst (λ (l : List (List ℕ)). IsPermutation names l)
    (ap (map (λ (item : Item). item.0)) (sym (listing-measured longest depth d))) (all names gives)
same_names longest depth None (Some d) all = absurd all
same_names longest depth (Some bytes) None all = tt
same_names longest depth None None all = tt

-- a directory gives the names that it gives within
pub lists_within : {S D : Type 0} (forest : S → List ℕ → Option Forest) (left : D → Option (List ℕ))
    (opens_dir : S → List ℕ → Result D Error → S → Type 0)
    → NamesLaw forest left opens_dir → NamesLaw (forest_by forest) left (Asks opens_dir IsSame)
lists_within {S} {D} forest left opens_dir law old new folder p reply named can by = record {
  same = same_seen forest old new folder by.limits within.same;
  given = seen_of (measured old.longest (depth_in old folder)) (λ f. IfOk reply (λ dir. GivesAll (left dir) (dir_at f p)))
      (forest old.system folder)
      (λ f is. names f reply (subst (λ (r : Result D Error). IfOk r (λ dir. GivesAll (left dir) (dir_at f p))) (sym by.leads) (within.given f is)));
}
  where
    within : Listed left (forest old.system folder) (forest new.system folder) p by.answer
    within = law old.system new.system folder p by.answer named
        (dir_there old.longest (depth_in old folder) (forest old.system folder) p can) by.made

    names : (f : Forest) (r : Result D Error) → IfOk r (λ dir. GivesAll (left dir) (dir_at f p))
        → IfOk r (λ dir. GivesAll (left dir) (dir_at (measured old.longest (depth_in old folder) f) p))
    names f (Ok dir) all =
        subst (GivesAll (left dir)) (sym (dir_at-measured old.longest (depth_in old folder) f p))
        (same_names old.longest (depth_in old folder - length p) (left dir) (dir_at f p) all)
    names f (Err e) all = tt

-- ---- the order of names

-- names rise in what is seen
pub proper_within : {S : Type 0} (forest : S → List ℕ → Option Forest) → ProperLaw forest → ProperLaw (forest_by forest)
proper_within forest law s folder f is = seen_of (measured s.longest (depth_in s folder)) (λ f. is_proper f ≡ true) (forest s.system folder)
    (λ g told. proper-measured s.longest (depth_in s folder) g (law s.system folder g told)) f is

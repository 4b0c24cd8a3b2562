-- The members of the last line, one part after another, and those of a part, one class after another.
use Rattle.std.proofs.Common.{
  ◌≡◌,
  ◌<◌,
  ◌≤◌,
  ◌+◌,
  ◌∙◌,
  ℕ,
  List,
  [],
  ◌∷◌,
  ◌++◌,
  ap,
  append_assoc,
  append-nil,
  arith,
  codes,
  get_or,
  length,
  refl,
  subst,
  sym,
  take,
}
use Rattle.std.proofs.lemmas.List.{length-take-le, take_all, take_more}
use Rattle.pt_check.specs.EndKey.{end_parts}
use Rattle.pt_check.specs.Lines.{Adds, End, class_member, class_members, end_members, line_text, part_members}
use Rattle.pt_check.specs.declared.breakdown.Breakdown.{Breakdown}
use Rattle.pt_check.specs.declared.end_key.EndPart.{EndPart}
use Rattle.pt_check.specs.declared.numbers.Numbers.{Numbers}
use Rattle.pt_plan.specs.Lines.{text_member}
use Rattle.pt_plan.specs.Members.{members_tree}
use Rattle.pt_plan.specs.declared.members.Member.{Member}
use Rattle.serde_json.specs.Data.{Members, no_members, object}
use Rattle.serde_json.specs.Written.{compact_text}

-- ---- the parts

-- these members are those of the first parts, before any others
abbrev pub IsFront : Numbers → List EndPart → List Member → Type 0
IsFront numbers parts members = (others : List Member)
    → members_tree (members ++ others) ≡ text_member (codes "as") (codes "end") (end_members numbers parts (members_tree others))

ends_on : (numbers : Numbers) (parts : List EndPart) (part : EndPart) (others : Members)
    → end_members numbers (parts ++ part ∷ []) others ≡ end_members numbers parts (part_members numbers part others)
ends_on numbers [] part others = refl
ends_on numbers (p ∷ parts) part others = ap (part_members numbers p) (ends_on numbers parts part others)

-- what is added stands behind what was there
added_behind : (old added new others : List Member) → new ≡ old ++ added → members_tree (new ++ others) ≡ members_tree (old ++ (added ++ others))
added_behind old added new others new_is =
    ap (λ (l : List Member). members_tree (l ++ others)) new_is ∙ ap members_tree (append_assoc old added others)

-- the next part was added
pub part_added : (numbers : Numbers) (parts : List EndPart) (i : ℕ) (d : EndPart) (old new : List Member) → i < length parts
    → Adds (part_members numbers (get_or parts i d)) old new → IsFront numbers (take i parts) old → IsFront numbers (take (i + 1) parts) new
part_added numbers parts i d old new within (added, new_is, adds) front others =
    let part = get_or parts i d in
    let heads : take (i + 1) parts ≡ take i parts ++ part ∷ [] = take_more parts i d within in
    added_behind old added new others new_is ∙ front (added ++ others)
    ∙ ap (λ (m : Members). text_member (codes "as") (codes "end") (end_members numbers (take i parts) m)) (adds others)
    ∙ ap (text_member (codes "as") (codes "end")) (sym (ends_on numbers (take i parts) part (members_tree others))
    ∙ ap (λ (l : List EndPart). end_members numbers l (members_tree others)) (sym heads))

-- with all parts it is the line
pub all_added : (numbers : Numbers) (parts all : List EndPart) (i : ℕ) (members : List Member) → length parts ≤ i → parts ≡ all
    → IsFront numbers (take i parts) members
    → members_tree members ≡ text_member (codes "as") (codes "end") (end_members numbers all no_members)
all_added numbers parts all i members past same front =
    sym (ap members_tree (append-nil members)) ∙ front []
    ∙ ap (λ (l : List EndPart). text_member (codes "as") (codes "end") (end_members numbers l no_members)) (take_all i parts past ∙ same)

-- before them stands what is said of all lines
pub front_begun : (numbers : Numbers) (old new : List Member) (m : Member) → old ≡ [] → new ≡ old ++ m ∷ []
    → ((others : List Member) → members_tree (m ∷ others) ≡ text_member (codes "as") (codes "end") (members_tree others)) → IsFront numbers [] new
front_begun numbers old new m none_is new_is says others =
    ap (λ (l : List Member). members_tree (l ++ others)) (new_is ∙ ap (λ (l : List Member). l ++ m ∷ []) none_is) ∙ says others

-- so the text of these members is that of the line
pub text_is : (numbers : Numbers) (members put : List Member) (text : List ℕ) → put ≡ members
    → members_tree members ≡ text_member (codes "as") (codes "end") (end_members numbers end_parts no_members)
    → text ≡ compact_text (object (members_tree put)) ++ 10 ∷ [] → text ≡ line_text (End numbers)
text_is numbers members put text same all is =
    is ∙ ap (λ (m : Members). compact_text (object m) ++ 10 ∷ []) (ap members_tree same ∙ all)

-- ---- the classes

classes_on : (breakdown : Breakdown) (from : ℕ) (counts : List ℕ) (count : ℕ) (others : Members)
    → class_members breakdown from (counts ++ count ∷ []) others
    ≡ class_members breakdown from counts (class_member breakdown (from + length counts) count others)
classes_on breakdown from [] count others =
    let e : from ≡ from + 0 = omega arith in
    ap (λ (k : ℕ). class_member breakdown k count others) e
classes_on breakdown from (n ∷ counts) count others =
    let e : (from + 1) + length counts ≡ from + length (n ∷ counts) = omega arith in
    ap (class_member breakdown from n) (classes_on breakdown (from + 1) counts count others
    ∙ ap (λ (k : ℕ). class_members breakdown (from + 1) counts (class_member breakdown k count others)) e)

-- nothing is added
pub none_added : (breakdown : Breakdown) (members : List Member) → Adds (class_members breakdown 0 []) members members
none_added breakdown members = ([], sym (append-nil members), (λ others. refl))

-- the next class was added
pub class_added : (breakdown : Breakdown) (counts : List ℕ) (i d : ℕ) (old now new : List Member) → i < length counts
    → Adds (class_members breakdown 0 (take i counts)) old now → Adds (class_member breakdown i (get_or counts i d)) now new
    → Adds (class_members breakdown 0 (take (i + 1) counts)) old new
class_added breakdown counts i d old now new within (first, now_is, before) (added, new_is, adds) =
    let count = get_or counts i d in
    let heads : take (i + 1) counts ≡ take i counts ++ count ∷ [] = take_more counts i d within in
    let long = length-take-le i counts (omega (arith, within)) in
    let so_many : 0 + length (take i counts) ≡ i = omega (arith, long) in (
      first ++ added,
      new_is ∙ ap (λ (l : List Member). l ++ added) now_is ∙ append_assoc old first added,
      (λ others. ap members_tree (append_assoc first added others) ∙ before (added ++ others)
          ∙ ap (class_members breakdown 0 (take i counts)) (adds others
          ∙ ap (λ (k : ℕ). class_member breakdown k count (members_tree others)) (sym so_many))
          ∙ sym (classes_on breakdown 0 (take i counts) count (members_tree others))
          ∙ ap (λ (l : List ℕ). class_members breakdown 0 l (members_tree others)) (sym heads)),
    )

-- with all classes it is the part
pub all_classes : (breakdown : Breakdown) (counts all : List ℕ) (i : ℕ) (old new : List Member) → length counts ≤ i → counts ≡ all
    → Adds (class_members breakdown 0 (take i counts)) old new → Adds (class_members breakdown 0 all) old new
all_classes breakdown counts all i old new past same adds =
    subst (λ (l : List ℕ). Adds (class_members breakdown 0 l) old new) (take_all i counts past ∙ same) adds

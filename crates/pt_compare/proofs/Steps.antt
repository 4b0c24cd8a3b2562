-- Single items of a part that is met, one call each.
use Rattle.std.proofs.Common.{◌≡◌, ◌∙◌, ◌⊎◌, inl, inr, List, [], ◌∷◌, ◌++◌, true, refl, sym, ap, subst}
use Rattle.std.specs.Prelude.{IsErrAnd, Option, Some, Ok, Err}
use Rattle.pt_compare.specs.Marks.{Marks, all_met, inside, is_entry_of, kind_in, met, without_mark}
use Rattle.pt_compare.specs.Meeting.{MeetsIn, NotedStand}
use Rattle.pt_compare.specs.declared.stop.Stop.{Stop}
use Rattle.pt_compare.proofs.Going.{Answer, GoesOn, goes_last, goes_met, goes_stop}
use Rattle.pt_compare.proofs.Made.{entries_some, left_some}
use Rattle.pt_object.specs.Script.{Item, MakeFolder, MakeFile}
use Rattle.pt_tree.specs.Forest.{Forest}
use Rattle.pt_tree.specs.Path.{Path, split_path}
use Rattle.pt_tree.specs.Tree.{Tree}
use Rattle.pt_tree.specs.declared.kind.Kind.{Kind}

back : (tree next : Option Forest) (place : Path) (a b : List Item) (old new : Marks) (r : Answer) → a ≡ b → next ≡ tree → MeetsIn next place a old new r
    → MeetsIn tree place b old new r
back tree next place a b old new r same is met = subst (λ (t : Option Forest). MeetsIn {T = Unit {0}} t place b old new r) is
    (subst (λ (l : List Item). MeetsIn {T = Unit {0}} next place l old new r) same met)

-- these items are met
pub goes_items : (tree next : Option Forest) (place : Path) (a b rest whole : List Item) (old now after : Marks) (u : Unit {0}) → a ≡ b → next ≡ tree
    → GoesOn tree place (b ++ rest) now whole old → MeetsIn next place a now after (Ok u) → GoesOn tree place rest after whole old
goes_items tree next place a b rest whole old now after u same is goes met = goes_met (Unit {0}) tree place b rest whole old now after (Ok u) u refl goes
    (back tree next place a b now after (Ok u) same is met)

-- or stop it
pub stop_items : (tree next : Option Forest) (place : Path) (a b rest whole : List Item) (old now after new : Marks) (e : Stop) (answer : Answer)
    → IsErrAnd answer (λ f. f ≡ e) → a ≡ b → next ≡ tree → GoesOn tree place (b ++ rest) now whole old → MeetsIn {T = Unit {0}} next place a now after (Err e)
    → MeetsIn tree place whole old new answer
stop_items tree next place a b rest whole old now after new e answer is same same_tree goes met = goes_stop (Unit {0}) tree place b rest whole old now after new
    (Err e) e answer refl is goes (back tree next place a b now after (Err e) same same_tree met)

pub last_items_met : (tree next : Option Forest) (place : Path) (a b whole : List Item) (old now new : Marks) (r : Answer) → a ≡ b → next ≡ tree
    → GoesOn tree place b now whole old → MeetsIn next place a now new r → MeetsIn tree place whole old new r
last_items_met tree next place a b whole old now new r same is goes met = goes_last tree place b whole old now new r goes
    (back tree next place a b now new r same is met)

-- ---- what is noted stands still

met_noted : (t : Tree) (item : Item) (marks : Marks) → ((q : Path) (k : Kind) → marks q ≡ Some k → kind_in t q ≡ Some k) → (q : Path) (k : Kind)
    → met t item marks q ≡ Some k → kind_in t q ≡ Some k
met_noted t (MakeFolder p) marks noted q k some = on (entries_some t p q (without_mark p marks) k some)
  where
    on : ((is_entry_of p (split_path q) ≡ true) × (kind_in t q ≡ Some k)) ⊎ (without_mark p marks q ≡ Some k) → kind_in t q ≡ Some k
    on (inl entry) = entry.1
    on (inr left) = noted q k (left_some t p q marks k left).0
met_noted t (MakeFile p bytes) marks noted q k some = noted q k (left_some t p q marks k some).0

pub all_met_noted : (t : Tree) (items : List Item) (marks : Marks) → ((q : Path) (k : Kind) → marks q ≡ Some k → kind_in t q ≡ Some k) → (q : Path) (k : Kind)
    → all_met t items marks q ≡ Some k → kind_in t q ≡ Some k
all_met_noted t [] marks noted = noted
all_met_noted t (item ∷ items) marks noted = all_met_noted t items (met t item marks) (met_noted t item marks noted)

pub noted_items : (tree next : Option Forest) (place : Path) (items : List Item) (old new : Marks) (u : Unit {0}) → next ≡ tree → NotedStand tree place old
    → MeetsIn tree place items old new (Ok u) → NotedStand next place new
unfolding NotedStand MeetsIn
noted_items tree next place items old new u is noted met = λ f told q k some.
    let there = sym is ∙ told in
    all_met_noted (inside f place) items old (noted f there) q k (ap (λ (m : Marks). m q) (sym (met f there).1) ∙ some)

pub noted_without : (tree next : Option Forest) (place p : Path) (old new : Marks) → next ≡ tree → NotedStand tree place old → new ≡ without_mark p old
    → NotedStand next place new
unfolding NotedStand
noted_without tree next place p old new is noted taken = λ f told q k some.
    noted f (sym is ∙ told) q k (left_some (inside f place) p q old k (ap (λ (m : Marks). m q) (sym taken) ∙ some)).0

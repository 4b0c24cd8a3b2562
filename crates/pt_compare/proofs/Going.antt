-- Items that are met one after another.
use Rattle.std.proofs.Common.{◌≡◌, ◌∙◌, List, [], ◌∷◌, ◌++◌, refl, sym, ap, subst, append_assoc}
use Rattle.std.specs.Prelude.{All, IsErrAnd, Option, Result, Ok, Err}
use Rattle.std.proofs.lemmas.List.Elements.{All-cons, All-head, All-nil, All-tail}
use Rattle.pt_compare.specs.Marks.{Marks, all_met, inside}
use Rattle.pt_compare.specs.Meeting.{IsHalt, IsWrongItem, Meets, MeetsFrom, MeetsIn, StandsSo, StopsAt}
use Rattle.pt_compare.specs.declared.difference.Why.{Why}
use Rattle.pt_compare.specs.declared.stop.Stop.{Stop}
use Rattle.pt_compare.specs.declared.stop.Stop.TheVariants as stop
use Rattle.pt_folder.specs.Calls.{change_of}
use Rattle.pt_object.specs.Script.{Item}
use Rattle.pt_tree.specs.Forest.{Forest}
use Rattle.pt_tree.specs.Path.{Path}
use Rattle.pt_plan.specs.declared.fault.Fault.{Fault}
use Rattle.pt_tree.specs.Tree.{Tree}

abbrev pub Answer : Type 0
Answer = Result (Unit {0}) Stop

-- ---- over what stands

pub all_met-append : (t : Tree) (a b : List Item) (marks : Marks) → all_met t (a ++ b) marks ≡ all_met t b (all_met t a marks)
all_met-append t [] b marks = refl
all_met-append t (item ∷ a) b marks = all_met-append t a b _

pub all_both : {A : Type 0} (P : A → Type 0) (a b : List A) → All P a → All P b → All P (a ++ b)
all_both P [] b first later = later
all_both P (x ∷ a) b first later = All-cons P x (a ++ b) (All-head P x a first) (all_both P a b (All-tail P x a first) later)

-- where something is wrong among the first items, it is among all
pub stops_first : (t : Tree) (marks : Marks) (a b : List Item) (p : Path) (why : Why) → StopsAt t marks a p why → StopsAt t marks (a ++ b) p why
stops_first t marks a b p why s = record {
  front = s.front;
  item = s.item;
  rest = s.rest ++ b;
  items_are = ap (λ (l : List Item). l ++ b) s.items_are ∙ append_assoc s.front (s.item ∷ s.rest) b;
  path_is = s.path_is;
  stand = s.stand;
  wrong = s.wrong;
}

-- and so it is among later ones, where the first ones stand
pub stops_later : (t : Tree) (marks mid : Marks) (a b : List Item) (p : Path) (why : Why) → All (StandsSo t) a → mid ≡ all_met t a marks → StopsAt t mid b p why
    → StopsAt t marks (a ++ b) p why
stops_later t marks mid a b p why stand is s = record {
  front = a ++ s.front;
  item = s.item;
  rest = s.rest;
  items_are = ap (λ (l : List Item). a ++ l) s.items_are ∙ sym (append_assoc a s.front (s.item ∷ s.rest));
  path_is = s.path_is;
  stand = all_both (StandsSo t) a s.front stand s.stand;
  wrong = subst (λ (m : Marks). IsWrongItem t m s.item why) (ap (all_met t s.front) is ∙ sym (all_met-append t a s.front marks)) s.wrong;
}

pub meets_then : (T : Type 0) (t : Tree) (a b : List Item) (old mid new : Marks) (r : Result T Stop) → All (StandsSo t) a → mid ≡ all_met t a old
    → Meets t b mid new r → Meets t (a ++ b) old new r
meets_then T t a b old mid new (Ok x) stand is then = (all_both (StandsSo t) a b stand then.0, then.1 ∙ ap (all_met t b) is ∙ sym (all_met-append t a b old))
meets_then T t a b old mid new (Err (stop.Differs d)) stand is then = stops_later t old mid a b d.path d.why stand is then
meets_then T t a b old mid new (Err (stop.Fault why)) stand is then = tt

pub meets_stop : (T U : Type 0) (t : Tree) (a b : List Item) (old new other : Marks) (e : Stop) (r : Result T Stop) (s : Result U Stop) → r ≡ Err e → s ≡ Err e
    → Meets t a old new r → Meets t (a ++ b) old other s
meets_stop T U t a b old new other e r s is same met = subst (Meets {T = U} t (a ++ b) old other) (sym same) (on e (subst (Meets {T = T} t a old new) is met))
  where
    on : (e : Stop) → Meets {T = T} t a old new (Err e) → Meets {T = U} t (a ++ b) old other (Err e)
    on (stop.Differs d) stops = stops_first t old a b d.path d.why stops
    on (stop.Fault why) stops = tt

-- what the exit of a `?` gives
pub err_of : (r : Answer) (e : Stop) → IsErrAnd r (λ f. f ≡ e) → r ≡ Err e
err_of (Ok x) e is = absurd is
err_of (Err f) e is = ap (λ (f : Stop). Err f) is

-- ---- over what a root tells

-- what comes of the rest of some items comes of all of them
unfoldable pub GoesOn : Option Forest → Path → List Item → Marks → List Item → Marks → Type 0
GoesOn tree place rest now whole old = (r : Answer) (new : Marks) → MeetsIn tree place rest now new r → MeetsIn tree place whole old new r

pub goes_from : (tree : Option Forest) (place : Path) (items : List Item) (marks : Marks) → GoesOn tree place items marks items marks
unfolding GoesOn
goes_from tree place items marks = λ r new met. met

-- the first items of the rest are met
pub goes_met : (T : Type 0) (tree : Option Forest) (place : Path) (a rest whole : List Item) (old now next : Marks) (r : Result T Stop) (x : T) → r ≡ Ok x
    → GoesOn tree place (a ++ rest) now whole old → MeetsIn tree place a now next r → GoesOn tree place rest next whole old
unfolding GoesOn MeetsIn
goes_met T tree place a rest whole old now next r x is goes met = λ s new then.
    goes s new (λ f told.
    let first = subst (Meets {T = T} (inside f place) a now next) is (met f told) in
    meets_then (Unit {0}) (inside f place) a rest now next new s first.0 first.1 (then f told))

-- or they stop it
pub goes_stop : (T : Type 0) (tree : Option Forest) (place : Path) (a rest whole : List Item) (old now next new : Marks) (r : Result T Stop) (e : Stop)
    (answer : Answer) → r ≡ Err e → IsErrAnd answer (λ f. f ≡ e) → GoesOn tree place (a ++ rest) now whole old → MeetsIn tree place a now next r
    → MeetsIn tree place whole old new answer
unfolding GoesOn MeetsIn
goes_stop T tree place a rest whole old now next new r e answer is same goes met =
    goes answer new (λ f told. meets_stop T (Unit {0}) (inside f place) a rest now next new e r answer is (err_of answer e same) (met f told))

-- it can't go on
pub halts_in : (tree : Option Forest) (place : Path) (items : List Item) (old new : Marks) (r : Answer) (why : Fault) → IsErrAnd r (λ e. e ≡ stop.Fault why)
    → MeetsIn tree place items old new r
unfolding MeetsIn
halts_in tree place items old new r why is = λ f told. subst (Meets {T = Unit {0}} (inside f place) items old new) (sym (err_of r (stop.Fault why) is)) tt

pub goes_end : (tree : Option Forest) (place : Path) (whole : List Item) (old now : Marks) (r : Answer) → r ≡ Ok tt → GoesOn tree place [] now whole old
    → MeetsIn tree place whole old now r
unfolding GoesOn MeetsIn
goes_end tree place whole old now r is goes = goes r now (λ f told. subst (Meets {T = Unit {0}} (inside f place) [] now now) (sym is)
    (All-nil (StandsSo (inside f place)), refl))

pub goes_last : (tree : Option Forest) (place : Path) (rest whole : List Item) (old now new : Marks) (r : Answer) → GoesOn tree place rest now whole old
    → MeetsIn tree place rest now new r → MeetsIn tree place whole old new r
unfolding GoesOn
goes_last tree place rest whole old now new r goes met = goes r new met

-- ---- and over what a source tells beside

unfoldable pub GoesFrom : Option Forest → Option Forest → Path → (Forest → List Item) → Marks → (Forest → List Item) → Marks → Type 0
GoesFrom source tree place rest now whole old = (r : Answer) (new : Marks) → MeetsFrom source tree place rest (change_of now new) r
    → MeetsFrom source tree place whole (change_of old new) r

pub from_start : (source tree : Option Forest) (place : Path) (items : Forest → List Item) (marks : Marks) → GoesFrom source tree place items marks items marks
unfolding GoesFrom
from_start source tree place items marks = λ r new met. met

pub from_met : (source tree : Option Forest) (place : Path) (a rest whole : Forest → List Item) (old now next : Marks) (r : Answer) (x : Unit {0}) → r ≡ Ok x
    → GoesFrom source tree place (λ s. a s ++ rest s) now whole old → MeetsFrom source tree place a (change_of now next) r
    → GoesFrom source tree place rest next whole old
unfolding GoesFrom MeetsFrom MeetsIn
from_met source tree place a rest whole old now next r x is goes met = λ s new then.
    goes s new (λ g read f told.
    let first = subst (Meets {T = Unit {0}} (inside f place) (a g) now next) is (met g read f told) in
    meets_then (Unit {0}) (inside f place) (a g) (rest g) now next new s first.0 first.1 (then g read f told))

pub from_stop : (source tree : Option Forest) (place : Path) (a rest whole : Forest
    → List Item) (old now next new : Marks) (r : Answer) (e : Stop) (answer : Answer) → r ≡ Err e → IsErrAnd answer (λ f. f ≡ e)
    → GoesFrom source tree place (λ s. a s ++ rest s) now whole old → MeetsFrom source tree place a (change_of now next) r
    → MeetsFrom source tree place whole (change_of old new) answer
unfolding GoesFrom MeetsFrom MeetsIn
from_stop source tree place a rest whole old now next new r e answer is same goes met =
    goes answer new (λ g read f told. meets_stop (Unit {0}) (Unit {0}) (inside f place) (a g) (rest g) now next new e r answer is (err_of answer e same)
    (met g read f told))

pub from_end : (source tree : Option Forest) (place : Path) (whole : Forest → List Item) (old now : Marks) (r : Answer) → r ≡ Ok tt
    → GoesFrom source tree place (λ s. []) now whole old → MeetsFrom source tree place whole (change_of old now) r
unfolding GoesFrom MeetsFrom MeetsIn
from_end source tree place whole old now r is goes = goes r now (λ g read f told. subst (Meets {T = Unit {0}} (inside f place) [] now now) (sym is)
    (All-nil (StandsSo (inside f place)), refl))

-- items that no source has a part in
pub met_anyhow : (source tree : Option Forest) (place : Path) (a : List Item) (old new : Marks) (r : Answer) → MeetsIn tree place a old new r
    → MeetsFrom source tree place (λ s. a) (change_of old new) r
unfolding MeetsFrom
met_anyhow source tree place a old new r met = λ g read. met

pub halts_from : (source tree : Option Forest) (place : Path) (items : Forest → List Item) (old new : Marks) (r : Answer) (why : Fault)
    → IsErrAnd r (λ e. e ≡ stop.Fault why) → MeetsFrom source tree place items (change_of old new) r
unfolding MeetsFrom
halts_from source tree place items old new r why is = λ g read. halts_in tree place (items g) old new r why is

-- ---- a comparison that can't go on

pub halt_is : (e : Stop) (why : Fault) → e ≡ stop.Fault why → IsHalt e
halt_is e why is = subst IsHalt (sym is) tt

why_of : (e : Stop) → IsHalt e → (why : Fault) × (e ≡ stop.Fault why)
why_of (stop.Differs d) h = absurd h
why_of (stop.Fault why) h = (why, refl)

pub halted : (tree : Option Forest) (place : Path) (items : List Item) (old new : Marks) (r : Answer) (e : Stop) → IsErrAnd r (λ f. f ≡ e) → IsHalt e
    → MeetsIn tree place items old new r
halted tree place items old new r e is h = let w = why_of e h in halts_in tree place items old new r w.0 (subst (λ (e : Stop). IsErrAnd r (λ f. f ≡ e)) w.1 is)

pub halted_from : (source tree : Option Forest) (place : Path) (items : Forest → List Item) (old new : Marks) (r : Answer) (e : Stop) → IsErrAnd r (λ f. f ≡ e)
    → IsHalt e → MeetsFrom source tree place items (change_of old new) r
halted_from source tree place items old new r e is h = let w = why_of e h in halts_from source tree place items old new r w.0
    (subst (λ (e : Stop). IsErrAnd r (λ f. f ≡ e)) w.1 is)

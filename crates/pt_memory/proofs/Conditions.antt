-- Tests of what a call needs.
use Rattle.std.proofs.Common.{◌≡◌, ◌↔◌, ℕ, List, true, false, refl, sym, ◌∙◌, ap, subst}
use Rattle.std.specs.Prelude.{Bool, not, Option, None, Some, IsSome, is_some, IsTrue}
use Rattle.std.specs.Option.{option_map, option_copied}
use denote.Ref.{Bor}
use Rattle.pt_memory.specs.declared.planting.PlantFault.{PlantFault}
use Rattle.pt_tree.specs.declared.kind.Kind.{Kind}
use Rattle.pt_tree.specs.Path.{Path, rest_below}
use Rattle.pt_tree.specs.Forest.{file_at, dir_at}
use Rattle.pt_tree.specs.Source.{Reading, CanList, CanOpen}
use Rattle.pt_tree.specs.Tree.{CanMake, CanMove, Entry, bytes_of, kind_of_entry}
use Rattle.pt_memory.specs.Planting.{plant_refusal}
use Rattle.pt_tree.specs.Dest.{Writing, MayMake, MayMove, CanPeek}
use Rattle.pt_memory.proofs.Planted.{can_plant, none_there, not_refused}

lent_is_some : (r : Option (Bor (List ℕ))) (o : Option (List ℕ)) → option_copied r ≡ o → is_some r ≡ is_some o
lent_is_some None o is = ap is_some is
lent_is_some (Some b) o is = ap is_some is

pub can_open : (s : Reading) (p : Path) (r : Option (Bor (List ℕ))) (answer : Bool) → answer ≡ is_some r → option_copied r ≡ file_at s.tree p
    → IsTrue answer ↔ CanOpen (Some s) p
unfolding CanOpen
can_open s p r answer says is =
    let same : answer ≡ is_some (file_at s.tree p) = says ∙ lent_is_some r _ is in (
      λ so. λ x e. let here : s ≡ x = cc in subst (λ (x : Reading). IsSome (file_at x.tree p)) here (sym same ∙ so),
      λ can. same ∙ can s refl,
    )

pub can_list : (s : Reading) (p : Path) (answer : Bool) → answer ≡ is_some (dir_at s.tree p) → IsTrue answer ↔ CanList (Some s) p
unfolding CanList
can_list s p answer same = (
  λ so. λ x e. let here : s ≡ x = cc in subst (λ (x : Reading). IsSome (dir_at x.tree p)) here (sym same ∙ so),
  λ can. same ∙ can s refl,
)

pub can_peek : (s : Writing) (p : Path) (r : Option (Bor (List ℕ))) (answer : Bool) → answer ≡ is_some r → option_copied r ≡ bytes_of (s.tree p)
    → IsTrue answer ↔ CanPeek (Some s) p
unfolding CanPeek
can_peek s p r answer says is =
    let same : answer ≡ is_some (bytes_of (s.tree p)) = says ∙ lent_is_some r _ is in (
      λ so. λ x e. let here : s ≡ x = cc in subst (λ (x : Writing). IsSome (bytes_of (x.tree p))) here (sym same ∙ so),
      λ can. same ∙ can s refl,
    )

not_true : (a b : Bool) → a ≡ not b → b ≡ true → a ≡ false
not_true a b is so = is ∙ ap not so

pub may_make : (s : Writing) (p : Path) (why : Option PlantFault) (answer : Bool) → is_some why ≡ not answer → why ≡ plant_refusal s.tree p
    → IsTrue answer ↔ MayMake (Some s) p
unfolding MayMake
may_make s p why answer says is = (
  λ so. λ x e. let here : s ≡ x = cc in subst (λ (x : Writing). CanMake x.tree p) here
      (can_plant s.tree p (sym is ∙ none_there why (not_true _ answer says so))),
  λ can. back answer (sym says ∙ ap is_some (is ∙ not_refused s.tree p (can s refl))),
)
  where
    back : (answer : Bool) → not answer ≡ false → answer ≡ true
    back true is = refl
    back false is = absurd (cc)

some_from : {A B : Type 0} (o : Option A) (f : A → B) → is_some (option_map f o) ≡ true → IsSome o
some_from None f some = absurd (cc)
some_from (Some x) f some = refl

-- nothing may be moved to a place at or below itself
pub stays_apart : (s : Writing) (from to : Path) → is_some (rest_below from to) ≡ true → IsTrue false ↔ MayMove (Some s) from to
unfolding MayMove
stays_apart s from to within = (λ so. absurd (cc), λ can. absurd (let it = can s refl in cc (within, it.apart)))

-- nor where nothing stands
pub nothing_moves : (s : Writing) (from to : Path) (kind : Option Kind) → kind ≡ option_map kind_of_entry (s.tree from) → is_some kind ≡ false
    → IsTrue false ↔ MayMove (Some s) from to
unfolding MayMove
nothing_moves s from to kind is none = (λ so. absurd (cc), λ can. absurd (by (s.tree from) (can s refl).stands (sym (ap is_some is) ∙ none)))
  where
    by : (o : Option Entry) → IsSome o → is_some (option_map kind_of_entry o) ≡ false → ⊥
    by None some none = absurd (cc)
    by (Some x) some none = absurd (cc)

pub may_move : (s : Writing) (from to : Path) (kind : Option Kind) (why : Option PlantFault) (answer : Bool) → is_some why ≡ not answer
    → why ≡ plant_refusal s.tree to → kind ≡ option_map kind_of_entry (s.tree from) → is_some kind ≡ true → rest_below from to ≡ None
    → IsTrue answer ↔ MayMove (Some s) from to
unfolding MayMake MayMove
may_move s from to kind why answer says is kind_is some apart =
    let make = may_make s to why answer says is in (
      λ so. λ x e.
          let here : s ≡ x = cc in
          subst (λ (x : Writing). CanMove x.tree from to) here (record {
            stands = some_from (s.tree from) kind_of_entry (sym (ap is_some kind_is) ∙ some);
            target = can_plant s.tree to (sym is
                ∙ none_there why (not_true _ answer says so));
            apart = apart;
          }),
      λ can. make.1 (makes s to (can s refl).target),
    )
  where
    makes : (s : Writing) (to : Path) → CanMake s.tree to → MayMake (Some s) to
    makes s to can = λ x e. let here : s ≡ x = cc in subst (λ (x : Writing). CanMake x.tree to) here can

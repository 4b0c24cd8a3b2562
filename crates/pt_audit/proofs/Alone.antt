-- A turn over a destination and a log that tell is one over the source alone: what they tell has no part in it.
use Rattle.std.proofs.Common.{ℕ, List, refl}
use Rattle.std.specs.Prelude.{Option, None, Some}
use Rattle.pt_tree.specs.Dest.{IsKindAt, IsPeeked, Writing}
use Rattle.pt_tree.specs.Source.{Reading}
use Rattle.pt_plan.specs.Answer.{Answer}
use Rattle.pt_plan.specs.Job.{Job}
use Rattle.pt_plan.specs.Lines.{Line}
use Rattle.pt_plan.specs.Run.{Kept}
use Rattle.pt_plan.specs.Turn.{Did, FailsAtFirst, FailsLater, GoesOn, IsRefused, FailsPartway, FailsUnchanged, Turn}
use Rattle.pt_plan.specs.DeviceStates.{
  Adds,
  Change,
  Changes,
  ChangesNothing,
  Creates,
  Finds,
  FindsNoneAndMakes,
  Finishes,
  LeavesFront,
  Makes,
  Peeks,
  Puts,
  Renames,
  Untouched,
  WasFound,
}
use Rattle.pt_plan.specs.declared.phase.Phase.{Phase}
use Rattle.pt_state.specs.Outside.{states}
use Rattle.pt_state.specs.declared.state.State.{State}
use Rattle.pt_move.specs.Turning.{CountedTurn}

-- where nothing is told, whatever is asked is so
pub no_change : (change : Change) → Changes change None None
unfolding Changes IsKindAt IsPeeked
no_change ChangesNothing = refl
no_change (Finds _ _) = (λ s is. absurd (cc), refl)
no_change (Peeks _ _) = (λ s is. absurd (cc), λ s is. absurd (cc), refl)
no_change (FindsNoneAndMakes _) = (λ s is. absurd (cc), refl)
no_change (Makes _) = refl
no_change (Creates _) = refl
no_change (Adds _) = refl
no_change Finishes = refl
no_change (Renames _ _) = refl

pub no_line : (line : Option Line) → Puts line None None
unfolding Puts
no_line None = refl
no_line (Some _) = tt

no_front : (line : Option Line) → LeavesFront line None None
no_front None = refl
no_front (Some _) = (0, tt)

none_found : (line : Option Line) (change : Change) → WasFound line change None
unfolding IsKindAt
none_found None _ = tt
none_found (Some _) (Finds _ _) = λ s is. absurd (cc)
none_found (Some _) ChangesNothing = tt
none_found (Some _) (Peeks _ _) = tt
none_found (Some _) (FindsNoneAndMakes _) = tt
none_found (Some _) (Makes _) = tt
none_found (Some _) (Creates _) = tt
none_found (Some _) (Adds _) = tt
none_found (Some _) Finishes = tt
none_found (Some _) (Renames _ _) = tt

module _ {job : Job} {here : Phase} {before after : Kept} (told new : Option Reading) (w v : Option Writing) (l k : Option (List ℕ)) (a b c a' b' c' : ℕ) where
  pub alone_turn : {answer : Answer} → Turn job here before after (states told w l a b c) (states new v k a' b' c') answer
      → Turn job here before after (states told None None a b c) (states new None None a' b' c') answer
  unfolding Did FailsUnchanged FailsPartway
  alone_turn (GoesOn calls next follows did counts) =
      GoesOn calls next follows (record { source = did.0.source; dest = no_change calls.change; log = no_line calls.line }, did.1) counts
  alone_turn (IsRefused prefix held calls why follows did halted) =
      IsRefused prefix held calls why follows (record { source = did.0.source; dest = no_change calls.change; log = no_line calls.line }, did.1) halted
  alone_turn (FailsAtFirst why stays halted) = FailsAtFirst why (stays.0, refl, refl, stays.3, stays.4) halted
  alone_turn (FailsLater prefix held calls answer rows why follows left which halted) =
      FailsLater prefix held calls answer rows why follows (
        record {
          read = left.0.read;
          found = none_found calls.line calls.change;
          source = left.0.source;
          dest = Untouched calls.change refl;
          log = no_front calls.line;
        },
        left.1,
        left.2,
      ) which halted

pub counted_alone : (here : Phase) (s s' : State) (told new : Option Reading) (w v : Option Writing) (l k : Option (List ℕ)) (a b c a' b' c' : ℕ)
    (answer : Answer) → CountedTurn here s s' (states told w l a b c) (states new v k a' b' c') answer
    → CountedTurn here s s' (states told None None a b c) (states new None None a' b' c') answer
unfolding CountedTurn
counted_alone here s s' told new w v l k a b c a' b' c' answer turned = (
  turned.0,
  λ fed was. let made = turned.1 fed was in (made.0, (made.1.0, alone_turn told new w v l k a b c a' b' c' made.1.1)),
)

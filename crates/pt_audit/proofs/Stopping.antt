-- What a step of a survey leaves of the log that breaks off: nothing more, or a front of the line of what it passes over.
use Rattle.std.proofs.Common.{◌≡◌, ℕ, true, List, refl, sym, ◌∙◌, subst}
use Rattle.std.specs.Prelude.{OnErr, Option, Some, Result, Ok, Err}
use Rattle.std.specs.Option.{ForSome}
use Rattle.std.proofs.lemmas.Bool.{true≢false}
use Rattle.pt_tree.specs.Dest.{IsKindAt, Writing}
use Rattle.pt_tree.specs.Forest.{Forest}
use Rattle.pt_tree.specs.Source.{IsRead, Reading, after_next, tree_in}
use Rattle.pt_walk.specs.Trail.{is_trail}
use Rattle.pt_plan.specs.Answer.{Answer}
use Rattle.pt_plan.specs.DeviceStates.{Answers, Calls, Changes, LeavesFront, Puts, WasFound, WasRead}
use Rattle.pt_plan.specs.Job.{Job}
use Rattle.pt_plan.specs.Lines.{Line}
use Rattle.pt_plan.specs.Run.{Counts, Held, Kept, turning}
use Rattle.pt_plan.specs.Turn.{Did, FailsAtFirst, FailsLater, FailsPartway, FailsUnchanged, IsRefused, Make, Next, Place, Scan, Start, Turn, Walk}
use Rattle.pt_plan.specs.TurnScan.{IsTooDeep, IsTooLong, MeetsDeep, MeetsLimit, MeetsOther, ScanStep}
use Rattle.pt_plan.specs.TurnStart as start
use Rattle.pt_plan.specs.TurnWalk.{IsDeep, IsPast, IsPresent, IsSkipped, WalkStep}
use Rattle.pt_plan.specs.declared.fault.Fault.{Fault}
use Rattle.pt_plan.specs.declared.phase.Phase.{Phase}
use Rattle.pt_invariant.specs.History.{History}
use Rattle.pt_invariant.specs.SourceInvariant.{SourcePart}
use Rattle.pt_state.specs.Outside.{states}
use Rattle.pt_state.specs.States.{job_of, kept_of}
use Rattle.pt_state.specs.declared.state.State.{State}
use Rattle.pt_move.specs.Running.{Running}
use Rattle.pt_move.specs.Turning.{CountedTurn}
use Rattle.pt_move.proofs.Answering.{fed_going}
use Rattle.pt_move.proofs.Outcomes.{reading_of}
use Rattle.pt_audit.specs.EmptyDest.{bare}
use Rattle.pt_audit.specs.Surveying.{InSkip, IsSurvey, Leads, Nothing, Sees, Skips, StopsAt, Untold, WasAtHand, is_looking}
use Rattle.pt_audit.proofs.Seen.{making_is_none, placing_is_none, scan_sees, walk_sees}
use Rattle.pt_audit.proofs.Stepping.{going}

-- ---- the log of a turn that looks

-- by what it would have seen
stops_by : {job : Job} {source : Forest} {count next : ℕ} {here : Phase} {held : Held} {line : Option Line} {old new : Option (List ℕ)}
    → Sees job source count here held line next → LeavesFront line old new → StopsAt job source count here old new
stops_by (Nothing looks) same = Untold same
stops_by (Leads looks it) same = Untold same
stops_by (Skips looks at why it) put = InSkip looks at why it put
stops_by (WasAtHand it) same = Untold same

start_stops : {job : Job} {here : Phase} {prefix read : List ℕ} {calls : Calls} {answer : Answer} {old new : Option (List ℕ)}
    → start.StartStep job here prefix read calls answer → LeavesFront calls.line old new → new ≡ old
start_stops (start.IsStore _ _) same = same
start_stops _ same = same

walk_stops : {job : Job} {past : History} {s : Reading} {prefix : List ℕ} {here : Phase} {held after : Held} {calls : Calls} {answer : Answer}
    {old new : Option (List ℕ)} → WalkStep job prefix here held after calls answer → is_trail held.trail ≡ true → SourcePart job past here prefix held s
    → WasFound calls.line calls.change (Some bare) → LeavesFront calls.line old new → StopsAt job s.tree past.count here old new
unfolding Changes IsKindAt
walk_stops (IsSkipped was why is) is_one part _ put = stops_by (walk_sees (Some bare) (IsSkipped was why is) is_one part refl) put
walk_stops (IsPresent was index id kind is) is_one part found put = stops_by (walk_sees (Some bare) (IsPresent was index id kind is) is_one part (found, refl))
    put
walk_stops (IsPast was name e short last) is_one part _ put = stops_by (walk_sees (Some bare) (IsPast was name e short last) is_one part refl) put
walk_stops (IsDeep was name e short last deep) is_one part _ put = stops_by (walk_sees (Some bare) (IsDeep was name e short last deep) is_one part refl) put
walk_stops _ is_one part _ put = Untold put

scan_stops : {job : Job} {past : History} {s : Reading} {prefix : List ℕ} {here : Phase} {held after : Held} {calls : Calls} {answer : Answer}
    {old new : Option (List ℕ)} → ScanStep job here held after calls answer → is_trail held.trail ≡ true → SourcePart job past here prefix held s
    → WasRead calls.asked (Some s) → LeavesFront calls.line old new → StopsAt job s.tree past.count here old new
unfolding Answers IsRead
scan_stops {s} (IsTooDeep was object apart deep) is_one part _ put = stops_by (scan_sees (IsTooDeep was object apart deep) is_one part (Some s) refl) put
scan_stops {s} (MeetsDeep was object name e apart deep) is_one part _ put = stops_by
    (scan_sees (MeetsDeep was object name e apart deep) is_one part (Some s) refl) put
scan_stops {s} (MeetsLimit was object name e room) is_one part _ put = stops_by (scan_sees (MeetsLimit was object name e room) is_one part (Some s) refl) put
scan_stops {s} (MeetsOther was object name e) is_one part _ put = stops_by (scan_sees (MeetsOther was object name e) is_one part (Some s) refl) put
scan_stops {s} (IsTooLong was object bytes byte block long) is_one part read put = stops_by
    (scan_sees (IsTooLong was object bytes byte block long) is_one part (Some (after_next s)) (read, refl)) put
scan_stops _ is_one part _ put = Untold put

looks_stop : {job : Job} {counts : Counts} {past : History} {s : Reading} {prefix read : List ℕ} {here : Phase} {held after : Held} {calls : Calls}
    {answer : Answer} {old new : Option (List ℕ)} → is_looking here ≡ true → Next job counts here prefix held read after calls answer
    → is_trail held.trail ≡ true → SourcePart job past here prefix held s
    → WasRead calls.asked (Some s) → WasFound calls.line calls.change (Some bare) → LeavesFront calls.line old new → StopsAt job s.tree past.count here old new
looks_stop _ (Start turn) _ _ _ _ put = Untold (start_stops turn put)
looks_stop _ (Walk turn) is_one part _ found put = walk_stops turn is_one part found put
looks_stop _ (Scan turn) is_one part read _ put = scan_stops turn is_one part read put
looks_stop is (Make turn) _ _ _ _ _ = absurd (true≢false (sym is ∙ making_is_none turn))
looks_stop is (Place turn) _ _ _ _ _ = absurd (true≢false (sym is ∙ placing_is_none turn))

-- where it is refused no line was to be put
start_refused : {job : Job} {here : Phase} {prefix read : List ℕ} {calls : Calls} {why : Fault} {old new : Option (List ℕ)}
    → start.StartStep job here prefix read calls (Err why) → Puts calls.line old new → new ≡ old
unfolding Puts
start_refused (start.HasNoVersion _ _ _ _) same = same
start_refused _ same = same

refused_untold : {job : Job} {counts : Counts} {prefix read : List ℕ} {here : Phase} {held after : Held} {calls : Calls} {why : Fault}
    {old new : Option (List ℕ)} → is_looking here ≡ true → Next job counts here prefix held read after calls (Err why) → Puts calls.line old new → new ≡ old
refused_untold _ (Start turn) put = start_refused turn put
refused_untold _ (Walk turn) put = elim turn [ ]
refused_untold _ (Scan turn) put = elim turn [ ]
refused_untold is (Make turn) put = absurd (true≢false (sym is ∙ making_is_none turn))
refused_untold is (Place turn) put = absurd (true≢false (sym is ∙ placing_is_none turn))

-- ---- of a step

looks_halted : (here : Phase) (why : Fault) (s s' : State) (told told' : Option Reading) (v : Option Writing) (l l' : Option (List ℕ)) (a b c a' b' c' : ℕ)
    (count : ℕ) → is_looking here ≡ true → IsSurvey told count (record { phase = here; state = s })
    → CountedTurn here s s' (states told (Some bare) l a b c) (states told' v l' a' b' c') (Err why)
    → ForSome (tree_in told) (λ f. StopsAt (job_of s.job) f count here l l')
unfolding CountedTurn Did FailsUnchanged FailsPartway
looks_halted here why s s' told told' v l l' a b c a' b' c' count looking it counted = λ f e.
    let had = reading_of told e in
    subst (λ (t : Forest). StopsAt (job_of s.job) t count here l l') had.2
    (subst (λ (n : ℕ). StopsAt (job_of s.job) had.0.tree n here l l') it.seen
    (by had.0 had.1 (counted.1 it.fed (fed_going s.job.algorithm s.hasher it.fed (going here it.stands) it.was)).1.1))
  where
    by : (r : Reading) → told ≡ Some r → {after : Kept} {why : Fault} → Turn (job_of s.job) here (turning (kept_of s it.fed)) after
        (states told (Some bare) l a b c) (states told' v l' a' b' c') (Err why) → StopsAt (job_of s.job) r.tree it.past.count here l l'
    by r e (IsRefused _ _ calls _ follows did _) = Untold (refused_untold looking follows did.0.log)
    by r e (FailsAtFirst why stays _) = Untold stays.2
    by r e (FailsLater _ _ calls _ _ _ follows left _ _) = looks_stop looking follows it.is.held.trail.is_one (it.is.source r e)
        (subst (WasRead calls.asked) e left.0.read) left.0.found left.0.log

module _ (here : Phase) (why : Fault) (s s' : State) (told told' : Option Reading) (v : Option Writing) (l l' : Option (List ℕ)) (a c a' c' : ℕ)
    (answer : Answer) where
  pub halt_stops : (count : ℕ) → answer ≡ Err why → is_looking here ≡ true
      → CountedTurn here s s' (states told (Some bare) l a 0 c) (states told' v l' a' 0 c') (Err why) → IsSurvey told count (record { phase = here; state = s })
      → OnErr answer (ForSome (tree_in told) (λ f. StopsAt (job_of s.job) f count here l l'))
  halt_stops count is looking counted it =
      subst (λ (r : Answer). OnErr r (ForSome (tree_in told) (λ f. StopsAt (job_of s.job) f count here l l'))) (sym is)
      (looks_halted here why s s' told told' v l l' a 0 c a' 0 c' count looking it counted)

-- so it is of a survey that is seen so
pub halt_seen : {T : Type 0} (answer : Result T Fault) (why : Fault) (told : Option Reading) (l l' : Option (List ℕ)) (here : Phase) (s : State) (r : Running)
    → answer ≡ Err why → here ≡ r.phase → s ≡ r.state
    → ((count : ℕ) → IsSurvey told count (record { phase = here; state = s }) → ForSome (tree_in told) (λ f. StopsAt (job_of s.job) f count here l l'))
    → (count : ℕ) → IsSurvey told count r → OnErr answer (ForSome (tree_in told) (λ f. StopsAt (job_of r.state.job) f count r.phase l l'))
halt_seen {T} answer why told l l' here s r is at state stops count it =
    subst (λ (a : Result T Fault). OnErr a (ForSome (tree_in told) (λ f. StopsAt (job_of r.state.job) f count r.phase l l'))) (sym is)
    (subst (λ (x : Running). ForSome (tree_in told) (λ f. StopsAt (job_of x.state.job) f count x.phase l l')) same
    (stops count (subst (IsSurvey told count) (sym same) it)))
  where
    same : record { phase = here; state = s } ≡ r
    same = λ i. record { phase = at i; state = state i }

-- where nothing was put
pub halt_untold : {T : Type 0} (answer : Result T Fault) (job : Job) (source : Option Forest) (count : ℕ) (here : Phase) (l : Option (List ℕ))
    → OnErr answer (ForSome source (λ f. StopsAt job f count here l l))
halt_untold (Ok x) job source count here l = tt
halt_untold (Err why) job source count here l = λ f e. Untold refl

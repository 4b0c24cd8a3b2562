-- What a step reads of the files of an object.
use Rattle.std.proofs.Common.{◌≡◌, ◌∙◌, ℕ, List, true, false, refl, ap, sym, subst}
use Rattle.std.specs.Prelude.{Option, Ok}
use Rattle.std.specs.Bool.{MatchBool}
use Rattle.std.proofs.lemmas.Bool.{true≢false}
use Rattle.pt_move.proofs.Answering.{fed_going}
use Rattle.pt_move.specs.Turning.{CountedTurn}
use Rattle.pt_plan.specs.Answer.{Answer}
use Rattle.pt_move.specs.Running.{Running}
use Rattle.pt_plan.specs.Job.{Job}
use Rattle.pt_plan.specs.Run.{Counts, Held, Kept, turning}
use Rattle.pt_plan.specs.Turn.{Did, Next, GoesOn, Make, Place, Scan, Start, Turn, Walk}
use Rattle.pt_plan.specs.TurnScan.{
  EndsFile,
  EndsObject,
  EndsSite,
  EntersDirectory,
  EntersObject,
  IsTooDeep,
  IsTooLong,
  LeavesDirectory,
  MeetsDeep,
  MeetsLimit,
  MeetsOther,
  OpensFile,
  PassesShorty,
  ReadsOn,
  ScanStep,
  StartsInSite,
}
use Rattle.pt_plan.specs.TurnStart as start
use Rattle.pt_plan.specs.TurnWalk.{
  EndsWalk,
  EntersSite,
  IsDeep,
  IsNew,
  IsPast,
  IsPresent,
  IsSkipped,
  LeadsOn,
  LeavesSite,
  OpensRoot,
  PassesElsewhere,
  PassesEntry,
  WalkStep,
}
use Rattle.pt_plan.specs.DeviceStates.{Calls, DeviceStates}
use Rattle.pt_plan.specs.declared.phase.Phase.{Phase}
use Rattle.pt_plan.specs.declared.phase.Phase.TheVariants as phase
use Rattle.pt_plan.specs.declared.phase.Stage.TheVariants as stage
use Rattle.pt_scan.specs.Blocks.{ReadsNext}
use Rattle.pt_state.specs.Outside.{states}
use Rattle.pt_state.specs.States.{job_of, kept_of}
use Rattle.pt_state.specs.declared.state.State.{State}
use Rattle.pt_audit.proofs.Seen.{making_is_none, placing_is_none}
use Rattle.pt_audit.proofs.Stepping.{going, line_follows}
use Rattle.pt_audit.specs.Files.{Scanned, ScansOn, is_of_object, is_scanning}
use Rattle.pt_audit.specs.Surveying.{Surveys, is_at_hand, is_looking, passed}
use Rattle.pt_tree.specs.Dest.{Writing}
use Rattle.pt_tree.specs.Source.{Reading}

-- an object is scanned where a turn of a scan is made
scanning_is : {job : Job} {here : Phase} {held after : Held} {calls : Calls} {answer : Answer} → ScanStep job here held after calls answer
    → is_scanning here ≡ true
scanning_is (StartsInSite _ _ _) = refl
scanning_is (EntersObject _ _ _ _ _) = refl
scanning_is (IsTooDeep _ _ _ _) = refl
scanning_is (PassesShorty _ _ _ _ _) = refl
scanning_is (EntersDirectory _ _ _ _ _ _ _) = refl
scanning_is (MeetsDeep _ _ _ _ _ _) = refl
scanning_is (OpensFile _ _ _ _ _) = refl
scanning_is (MeetsLimit _ _ _ _ _) = refl
scanning_is (MeetsOther _ _ _ _) = refl
scanning_is (EndsSite _ _ _ _) = refl
scanning_is (EndsObject _ _ _ _ _) = refl
scanning_is (LeavesDirectory _ _ _ _ _) = refl
scanning_is (ReadsOn _ _ _ _ _ _) = refl
scanning_is (IsTooLong _ _ _ _ _ _) = refl
scanning_is (EndsFile _ _ _) = refl

-- a turn elsewhere doesn't lead into an object
abbrev IsElsewhere : Phase → Phase → Type 0
IsElsewhere here next = (is_scanning here ≡ false) × (is_of_object (passed next) ≡ false)

walks_elsewhere : {job : Job} {prefix : List ℕ} {here next : Phase} {held new : Held} {calls : Calls} → WalkStep job prefix here held new calls (Ok next)
    → IsElsewhere here next
walks_elsewhere (OpensRoot _ _) = (refl, refl)
walks_elsewhere (LeadsOn _ _) = (refl, refl)
walks_elsewhere (IsSkipped _ _ _) = (refl, refl)
walks_elsewhere (IsPresent _ _ _ _ _) = (refl, refl)
walks_elsewhere (IsNew _ _ _ _) = (refl, refl)
walks_elsewhere (IsPast _ _ _ _ _) = (refl, refl)
walks_elsewhere (IsDeep _ _ _ _ _ _) = (refl, refl)
walks_elsewhere (PassesElsewhere _ _ _ _ _ _ _) = (refl, refl)
walks_elsewhere (EntersSite _ _ _ _ _ _ _ _) = (refl, refl)
walks_elsewhere (PassesEntry _ _ _ _) = (refl, refl)
walks_elsewhere (LeavesSite _ _ _) = (refl, refl)
walks_elsewhere (EndsWalk _ _ _) = (refl, refl)

starts_elsewhere : {job : Job} {here next : Phase} {prefix read : List ℕ} {calls : Calls} → start.StartStep job here prefix read calls (Ok next)
    → is_looking here ≡ true → IsElsewhere here next
starts_elsewhere (start.IsStore _ _) is = (refl, refl)
starts_elsewhere (start.HasNoPrefix _) is = (refl, refl)
starts_elsewhere (start.HasPrefix _ _ _) is = (refl, refl)
starts_elsewhere (start.HasNoStaging _) is = absurd (true≢false (sym is))
starts_elsewhere (start.HasNoRoot _) is = absurd (true≢false (sym is))
starts_elsewhere (start.HasRoot _) is = absurd (true≢false (sym is))
starts_elsewhere (start.MakesRoot _ _ _ _) is = absurd (true≢false (sym is))
starts_elsewhere (start.RenamesRoot _) is = absurd (true≢false (sym is))
starts_elsewhere (start.IsSame _ _ _ _ _) is = absurd (true≢false (sym is))

-- a turn that looks is one of a scan, or made elsewhere
scans_or_not : {job : Job} {counts : Counts} {here next : Phase} {prefix read : List ℕ} {held after : Held} {calls : Calls} (S : Type 0)
    → is_looking here ≡ true → Next job counts here prefix held read after calls (Ok next)
    → (ScanStep job here held after calls (Ok next) → S) → MatchBool (is_scanning here) S (is_of_object (passed next) ≡ false)
scans_or_not {next} S is (Scan turn) there = subst (λ b. MatchBool b S (is_of_object (passed next) ≡ false)) (sym (scanning_is turn)) (there turn)
scans_or_not {next} S is (Start turn) there = let at = starts_elsewhere turn is in subst (λ b. MatchBool b S (is_of_object (passed next) ≡ false)) (sym at.0)
    at.1
scans_or_not {next} S is (Walk turn) there = let at = walks_elsewhere turn in subst (λ b. MatchBool b S (is_of_object (passed next) ≡ false)) (sym at.0) at.1
scans_or_not S is (Make turn) there = absurd (true≢false (sym is ∙ making_is_none turn))
scans_or_not S is (Place turn) there = absurd (true≢false (sym is ∙ placing_is_none turn))

module _ (here next : Phase) (s s' : State) (told told' : Option Reading) (w v : Option Writing) (l l' : Option (List ℕ)) (a b c a' b' c' : ℕ) (spot : Phase)
  where
    abbrev Before : Running
    Before = record { phase = here; state = s }

    abbrev After : Running
    After = record { phase = spot; state = s' }

    pub step_scans : spot ≡ passed next → is_looking here ≡ true → Surveys told Before
        → CountedTurn here s s' (states told w l a b c) (states told' v l' a' b' c') (Ok next) → ReadsNext here told s'.block.items (Ok next)
        → ScansOn told told' Before After
    unfolding Surveys CountedTurn Did
    step_scans is looking (count, it) counted block =
        let made = counted.1 it.fed (fed_going s.job.algorithm s.hasher it.fed (going here it.stands) it.was) in
        by made.0 made.1.1
      where
        by : (later : List ℕ) → Turn (job_of s.job) here (turning (kept_of s it.fed)) (kept_of s' later) (states told w l a b c) (states told' v l' a' b' c')
            (Ok next) → ScansOn told told' Before After
        by later (GoesOn calls _ follows did _) =
            subst (λ (p : Phase). MatchBool (is_scanning here) (Scanned told told' Before After) (is_of_object p ≡ false)) (sym is)
            (scans_or_not (Scanned told told' Before After) looking follows
            (λ scans. record { fed = it.fed; later = later; next = next; calls = calls; scans = scans; answers = did.0.source; here = is; block = block }))

    -- nor does the one that passes the object at hand
    pub step_scans_none : spot ≡ passed next → is_at_hand here ≡ true → Surveys told Before
        → CountedTurn here s s' (states told w l a b c) (states told' v l' a' b' c') (Ok next) → ScansOn told told' Before After
    unfolding Surveys CountedTurn
    step_scans_none is hand (count, it) counted =
        let made = counted.1 it.fed (fed_going s.job.algorithm s.hasher it.fed (going here it.stands) it.was) in
        by here hand made.1.1
      where
        by : {before after : Kept} {old new : DeviceStates} (p : Phase) → is_at_hand p ≡ true → Turn (job_of s.job) p before after old new (Ok next)
            → MatchBool (is_scanning p) (Scanned told told' Before After) (is_of_object spot ≡ false)
        by (phase.Carrying object stage.Line) hand (GoesOn calls _ follows did _) = ap is_of_object is
            ∙ ap (λ (q : Phase). is_of_object (passed q)) (line_follows follows).0
        by _ hand turn = absurd (true≢false (sym hand))

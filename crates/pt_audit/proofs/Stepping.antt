-- What a step of a survey needs, and that the survey goes on.
use Rattle.std.proofs.Common.{◌≡◌, ◌≢◌, ◌+◌, arith, ℕ, suc, true, false, List, [], ◌∷◌, refl, ap, sym, ◌∙◌, subst}
use Rattle.std.specs.Prelude.{Option, None, Some, Ok, count_by, option_to_list}
use Rattle.std.specs.Option.{ForSome}
use Rattle.std.specs.String.{string_bytes}
use Rattle.std.proofs.lemmas.Bool.{true≢false}
use Rattle.pt_object.specs.Hasher.{HasBeenFed}
use Rattle.pt_tree.specs.Dest.{Writing}
use Rattle.pt_tree.specs.Forest.{Forest}
use Rattle.pt_tree.specs.Source.{Reading}
use Rattle.pt_plan.specs.Job.{Job}
use Rattle.pt_plan.specs.Lines.{Done, End, Line, Present, Skipped, is_skipped}
use Rattle.pt_plan.specs.Met.{unmet_after}
use Rattle.pt_plan.specs.Enabled.{Enabled}
use Rattle.pt_plan.specs.Run.{Counts, Held, Kept, turning}
use Rattle.pt_plan.specs.Turn.{Did, Next, GoesOn as TurnGoesOn, Make, Place, Scan, Start, Turn, Walk, counted as counted_with}
use Rattle.pt_plan.specs.TurnPlace as place
use Rattle.pt_plan.specs.DeviceStates.{Answers, Calls, Puts}
use Rattle.pt_plan.specs.declared.object.Object.{Object}
use Rattle.pt_plan.specs.declared.phase.Part.TheVariants as part
use Rattle.pt_plan.specs.declared.phase.Phase.{Phase}
use Rattle.pt_plan.specs.declared.phase.Opening.TheVariants as opening
use Rattle.pt_plan.specs.declared.phase.Phase.TheVariants as phase
use Rattle.pt_plan.specs.declared.phase.Stage.TheVariants as stage
use Rattle.pt_invariant.specs.RunInvariant.{IsHistory}
use Rattle.pt_invariant.specs.History.{History, done_after, history_after}
use Rattle.pt_invariant.specs.WorkLaws.{InvariantWithinWork}
use Rattle.pt_invariant.proofs.ends.TurnKeeps.{told_source, turned}
use Rattle.pt_invariant.proofs.source.SourceKeeps.{tree_kept}
use Rattle.pt_state.specs.Outside.{states}
use Rattle.pt_state.specs.States.{IsUnmetAfter, held_of, job_of, kept_of}
use Rattle.pt_state.specs.declared.state.State.{State}
use Rattle.pt_move.specs.Running.{BeganSomewhere, IsBegun, TypeInvariant, Running, run_of}
use Rattle.pt_move.specs.Stands.{Stands}
use Rattle.pt_move.specs.Turning.{CountedTurn, HasFed}
use Rattle.pt_move.specs.Unmet.{AreUnmet}
use Rattle.pt_move.proofs.Unmet.{follows_unmet}
use Rattle.pt_move.proofs.Answering.{fed_going, fed_to_end, has_fed, may_turn, stands_there}
use Rattle.pt_audit.specs.EmptyDest.{bare}
use Rattle.pt_plan.specs.TurnPlace.{done_line}
use Rattle.pt_audit.specs.Surveying.{
  WasAtHand,
  GoesOn,
  HasAtHand,
  IsSurvey,
  IsWithinWork,
  is_at_hand,
  Leads,
  Nothing,
  Skips,
  Sees,
  Surveys,
  is_looking,
  is_of_survey,
  no_start,
  passed,
  source_alone,
}
use Rattle.pt_audit.proofs.Alone.{no_change, no_line}
use Rattle.pt_audit.proofs.Seen.{has_at_hand, looks_on, looks_sees}
use Rattle.pt_audit.proofs.Working.{within_on}

-- ---- it is a run in progress over the source alone

pub going : (here : Phase) → is_of_survey here ≡ true → here ≢ phase.Ended
going here is ended = true≢false (sym is ∙ ap is_of_survey ended)

module _ {told : Option Reading} {count : ℕ} {r : Running} (a b c : ℕ) where
  pub is_begun : IsSurvey told count r → IsBegun no_start (states told None None a b c) r
  unfolding IsBegun InvariantWithinWork
  is_begun it = record { fed = it.fed; was = it.was; begun = (it.past, it.is, λ s e old f. absurd (cc)) }

  pub began : IsSurvey told count r → BeganSomewhere (states told None None a b c) r
  unfolding BeganSomewhere
  began it = (no_start, is_begun it)

-- ---- what its turn needs

permits_any : (job : Job) (here : Phase) (held : Held) (r : Option Reading) (w v : Option Writing) → is_of_survey here ≡ true → Enabled job here held r w
    → Enabled job here held r v
permits_any job (phase.Opening opening.Begin) held r w v is may = may
permits_any job (phase.Opening (opening.Prefix _)) held r w v is may = may
permits_any job (phase.Opening opening.OpenRoot) held r w v is may = may
permits_any job phase.Judge held r w v is may = may
permits_any job (phase.Carrying _ stage.Open) held r w v is may = may
permits_any job (phase.Carrying _ stage.Scan) held r w v is may = may
permits_any job (phase.Carrying _ (stage.Read _)) held r w v is may = may
permits_any job phase.Walk held r w v is may = may
permits_any job (phase.Carrying _ stage.Line) held r w v is may = may
permits_any job phase.End held r w v is may = may
permits_any job _ held r w v is may = absurd (true≢false (sym is))

module _ (told : Option Reading) (here : Phase) (s : State) where
  pub may_look : (w : Option Writing) → is_of_survey here ≡ true → Surveys told (record { phase = here; state = s })
      → Enabled (job_of s.job) here (held_of s []) told w
  unfolding Surveys
  may_look w is (count, it) = permits_any (job_of s.job) here (held_of s []) told None w is
      (may_turn here s (states told None None 0 0 0) (going here is) (began 0 0 0 it))

  pub stands_so : is_of_survey here ≡ true → Surveys told (record { phase = here; state = s }) → Stands here s
  unfolding Surveys
  stands_so is (count, it) = stands_there here s (states told None None 0 0 0) (going here is) (began 0 0 0 it)

  pub fed_so : is_of_survey here ≡ true → Surveys told (record { phase = here; state = s }) → HasFed here s.job.algorithm s.hasher
  unfolding Surveys
  fed_so is (count, it) = has_fed here s (states told None None 0 0 0) (going here is) (began 0 0 0 it)

pub of_survey : (told : Option Reading) (r : Running) → Surveys told r → is_of_survey r.phase ≡ true
unfolding Surveys
of_survey told r (count, it) = it.stands

-- ---- where a run would make something it goes on

passed_past : {job : Job} {told : Option Reading} (next : Phase) {kept : Kept} {past : History}
    → IsHistory job no_start (source_alone told) (record { phase = next; kept = kept }) past
    → IsHistory job no_start (source_alone told) (record { phase = passed next; kept = kept }) past
passed_past (phase.Opening opening.Staging) it = record {
  layout = it.layout;
  held = record {
    trail = record { is_one = it.held.trail.is_one; none = it.held.trail.none; entry = tt };
    ends = tt;
    rows = it.held.rows;
    behind = tt;
    numbers = tt;
    fed = tt;
  };
  source = λ s e. let known = it.source s e in record { proper = known.proper; at = known.at; bytes = tt; few = known.few };
  dest = tt;
  items = λ s e old f. absurd (cc);
  log = λ s e old f. absurd (cc);
  quiet = tt;
  left = λ s e old f. absurd (cc);
}
passed_past (phase.Carrying object (stage.Make part.Staging)) it = record {
  layout = it.layout;
  held = record {
    trail = record { is_one = it.held.trail.is_one; none = tt; entry = tt };
    ends = it.held.ends;
    rows = it.held.rows;
    behind = tt;
    numbers = tt;
    fed = tt;
  };
  source = λ s e. let known = it.source s e in record { proper = known.proper; at = known.at; bytes = known.bytes; few = known.few };
  dest = tt;
  items = λ s e old f. absurd (cc);
  log = λ s e old f. absurd (cc);
  quiet = tt;
  left = λ s e old f. absurd (cc);
}
passed_past _ it = it

pub passed_well : (next : Phase) {s : State} → TypeInvariant (record { phase = next; state = s }) → TypeInvariant (record { phase = passed next; state = s })
passed_well (phase.Opening opening.Staging) well = record {
  bounded = record { lines = well.bounded.lines; turns = well.bounded.turns; few = well.bounded.few; within = tt; prefix = well.bounded.prefix };
  fresh = λ begins. absurd (cc);
}
passed_well (phase.Carrying object (stage.Make part.Staging)) well = record {
  bounded = record { lines = well.bounded.lines; turns = well.bounded.turns; few = well.bounded.few; within = tt; prefix = well.bounded.prefix };
  fresh = λ begins. absurd (cc);
}
passed_well _ well = well

-- where the survey passes what a run would make, the same are unmet
passed_unmet : (job : Job) (source : Forest) (next : Phase) (count : ℕ) (unmet : List (Option (List ℕ))) → AreUnmet job source next count unmet
    → AreUnmet job source (passed next) count unmet
passed_unmet job source (phase.Opening opening.Staging) count unmet it = it
passed_unmet job source (phase.Carrying object (stage.Make part.Staging)) count unmet it = it
passed_unmet job source _ count unmet it = it

-- ---- it goes on

-- what the hasher was fed has no part in what is seen
other_fed : {job : Job} {source : Forest} {m n : ℕ} {here : Phase} (s : State) {fed : List ℕ} {line : Option Line}
    → Sees job source m here (held_of s fed) line n → Sees job source m here (held_of s []) line n
other_fed s (Nothing looks) = Nothing looks
other_fed s (Leads looks it) = Leads looks it
other_fed s (Skips looks at why it) = Skips looks at why it
other_fed s (WasAtHand it) = WasAtHand it

skips_counted : (line : Option Line) (counts : Counts) → (counted_with line counts).skipped ≡ counts.skipped + count_by is_skipped (option_to_list line)
skips_counted None counts = omega arith
skips_counted (Some (Done at bytes empty files id to)) counts = omega arith
skips_counted (Some (Present at id to)) counts = omega arith
skips_counted (Some (Skipped at why)) counts = omega arith
skips_counted (Some (End done present skipped)) counts = omega arith

module _ (here next : Phase) (s s' : State) (told told' : Option Reading) where
  abbrev Before : Running
  Before = record { phase = here; state = s }

  abbrev After : Running
  After = record { phase = passed next; state = s' }

  abbrev later_of : History → List ℕ → History
  later_of past fed = history_after here next (held_of s fed) past

  -- over the source alone it is in progress after a turn
  past_on : {fed fed' : List ℕ} {past : History} {calls : Calls} → Next (job_of s.job) (turning (kept_of s fed)).counts here (kept_of s fed).prefix
      (held_of s fed) (kept_of s' fed').prefix (held_of s' fed') calls (Ok next)
      → Answers calls.asked told told' → (kept_of s' fed').counts ≡ counted_with calls.line (turning (kept_of s fed)).counts
      → IsHistory (job_of s.job) no_start (source_alone told) (run_of Before fed) past
      → IsHistory (job_of s.job) no_start (source_alone told') (record { phase = next; kept = kept_of s' fed' }) (later_of past fed)
  past_on {fed} {fed'} {past} {calls} follows answers counts it =
      turned (job_of s.job) past no_start (source_alone told) (source_alone told') (run_of Before fed) (kept_of s' fed') next calls follows
      (record { source = answers; dest = no_change calls.change; log = no_line calls.line }) counts it

  survey_on : {count : ℕ} (it : IsSurvey told count Before) (fed' : List ℕ) → s'.job ≡ s.job → HasBeenFed s.job.algorithm s'.hasher fed'
      → IsHistory (job_of s.job) no_start (source_alone told') (record { phase = next; kept = kept_of s' fed' }) (later_of it.past it.fed)
      → ForSome told' (λ r. IsWithinWork (job_of s.job) r.tree (later_of it.past it.fed).count (record { phase = passed next; kept = kept_of s' fed' }))
      → ForSome told' (λ r. AreUnmet (job_of s.job) r.tree next (later_of it.past it.fed).count s'.unmet)
      → is_of_survey (passed next) ≡ true → IsSurvey told' (later_of it.past it.fed).count After
  survey_on it fed' job was past within unmet stands = record {
    fed = fed';
    was = fed_to_end (passed next) s'.job.algorithm s'.hasher fed' (subst (λ j. HasBeenFed j.algorithm s'.hasher fed') (sym job) was);
    past = later_of it.past it.fed;
    seen = refl;
    is = subst (λ j. IsHistory (job_of j) no_start (source_alone told') (record { phase = passed next; kept = kept_of s' fed' }) (later_of it.past it.fed))
        (sym job) (passed_past next past);
    within = subst (λ j. ForSome told' (λ r. IsWithinWork (job_of j) r.tree (later_of it.past it.fed).count
        (record { phase = passed next; kept = kept_of s' fed' }))) (sym job) within;
    unmet = λ r e. subst (λ j. AreUnmet (job_of j) r.tree (passed next) (later_of it.past it.fed).count s'.unmet) (sym job)
        (passed_unmet (job_of s.job) r.tree next (later_of it.past it.fed).count s'.unmet (unmet r e));
    stands = stands;
  }

  -- after the turn those are unmet that no site so far reads
  unmet_on : {fed fed' : List ℕ} {past : History} {calls : Calls} → Next (job_of s.job) (turning (kept_of s fed)).counts here (kept_of s fed).prefix
      (held_of s fed) (kept_of s' fed').prefix (held_of s' fed') calls (Ok next)
      → Answers calls.asked told told' → IsHistory (job_of s.job) no_start (source_alone told) (run_of Before fed) past
      → ForSome told (λ r. AreUnmet (job_of s.job) r.tree here past.count s.unmet) → IsUnmetAfter here s s'
      → ForSome told' (λ r. AreUnmet (job_of s.job) r.tree next (later_of past fed).count s'.unmet)
  unmet_on {fed} {past = past} {calls} follows answers it are met = λ r e.
      let had = told_source calls.asked told r (subst (Answers calls.asked told) e answers) in
      let same = tree_kept calls.asked had.0 r (subst (λ o. Answers calls.asked o (Some r)) had.1 (subst (Answers calls.asked told) e answers)) in
      subst (λ (u : List (Option (List ℕ))). AreUnmet (job_of s.job) r.tree next (later_of past fed).count u) (sym met)
      (subst (λ (f : Forest). AreUnmet (job_of s.job) f next (later_of past fed).count
      (unmet_after (job_of s.job) here (string_bytes s.prefix) s.trail s.unmet)) (sym same)
      (follows_unmet (job_of s.job) past had.0 (string_bytes s.prefix) s.unmet follows it.held.trail.is_one (it.source had.0 had.1) (are had.0 had.1)))

-- a turn that looks
pub looks : (here next : Phase) (s s' : State) (told told' : Option Reading) (w : Option Writing) (l l' : Option (List ℕ)) (a b c a' b' c' : ℕ) (count : ℕ)
    → is_looking here ≡ true → IsSurvey told count (record { phase = here; state = s })
    → CountedTurn here s s' (states told (Some bare) l a b c) (states told' w l' a' b' c') (Ok next) → IsUnmetAfter here s s'
    → GoesOn (told, l) (told', l') count (record { phase = here; state = s }) (record { phase = passed next; state = s' })
unfolding CountedTurn Did
looks here next s s' told told' w l l' a b c a' b' c' count looking it counted met =
    let made = counted.1 it.fed (fed_going s.job.algorithm s.hasher it.fed (going here it.stands) it.was) in
    by made.0 made.1.0 made.1.1
  where
    later : History
    later = history_after here next (held_of s it.fed) it.past

    by : (fed' : List ℕ) → HasBeenFed s.job.algorithm s'.hasher fed' → Turn (job_of s.job) here (turning (kept_of s it.fed)) (kept_of s' fed')
        (states told (Some bare) l a b c) (states told' w l' a' b' c') (Ok next)
        → GoesOn (told, l) (told', l') count (record { phase = here; state = s }) (record { phase = passed next; state = s' })
    by fed' was (TurnGoesOn calls _ follows did counts) = record {
      next = later.count;
      is = survey_on here next s s' told told' it fed' counted.0 was (past_on here next s s' told told' follows did.0.source counts it.is)
          (within_on here next s s' told told' follows did.0.source counts it.is it.within)
          (unmet_on here next s s' told told' follows did.0.source it.is it.unmet met) (looks_on looking follows);
      saw = λ r e. record {
        line = calls.line;
        sees = subst (λ (n : ℕ). Sees (job_of s.job) r.tree n here (held_of s []) calls.line later.count) it.seen
            (other_fed s {fed = it.fed} (looks_sees looking follows it.is.held.trail.is_one (it.is.source r e) told'
            (subst (λ o. Answers calls.asked o told') e did.0.source) w did.0.dest));
        puts = did.0.log;
        skips = ap (λ (k : Counts). k.skipped) counts ∙ skips_counted calls.line (turning (kept_of s it.fed)).counts;
      };
      job = counted.0;
    }

at_hand_seen : {job : Job} {source : Forest} {count : ℕ} {object : Object} {held : Held} → HasAtHand job source count object held → {same : Held}
    → done_line object held ≡ done_line object same → Sees job source count (phase.Carrying object stage.Line) same None (suc count)
at_hand_seen it {same} is = WasAtHand (record { item = it.item; is = it.is; lines_are = it.lines_are ∙ ap (λ (l : Line). l ∷ []) is })

-- the turn that passes it
pub line_follows : {job : Job} {counts : Counts} {object : Object} {next : Phase} {prefix read : List ℕ} {held after : Held} {calls : Calls}
    → Next job counts (phase.Carrying object stage.Line) prefix held read after calls (Ok next)
    → (next ≡ phase.Walk) × (calls.line ≡ Some (done_line object held))
line_follows (Start turn) = elim turn [ ]
line_follows (Walk turn) = elim turn [ ]
line_follows (Scan turn) = elim turn [ ]
line_follows (Make turn) = elim turn [ ]
line_follows (Place (place.TellsDone _ _)) = (refl, refl)

-- the object at hand is passed
pub passes : (object : Object) (next : Phase) (s s' : State) (told told' : Option Reading) (w : Option Writing) (l : Option (List ℕ)) (a b c a' b' c' : ℕ)
    (count : ℕ) → IsSurvey told count (record { phase = phase.Carrying object stage.Line; state = s })
    → CountedTurn (phase.Carrying object stage.Line) s s' (states told (Some bare) None a b c) (states told' w None a' b' c') (Ok next)
    → IsUnmetAfter (phase.Carrying object stage.Line) s s'
    → GoesOn (told, l) (told', l) count (record { phase = phase.Carrying object stage.Line; state = s }) (record { phase = passed next; state = s' })
unfolding CountedTurn Did Puts
passes object next s s' told told' w l a b c a' b' c' count it counted met =
    let made = counted.1 it.fed (fed_going s.job.algorithm s.hasher it.fed (going (phase.Carrying object stage.Line) it.stands) it.was) in
    by made.0 made.1.0 made.1.1
  where
    later : History
    later = history_after (phase.Carrying object stage.Line) next (held_of s it.fed) it.past

    by : (fed' : List ℕ) → HasBeenFed s.job.algorithm s'.hasher fed' → Turn (job_of s.job) (phase.Carrying object stage.Line) (turning (kept_of s it.fed))
        (kept_of s' fed') (states told (Some bare) None a b c) (states told' w None a' b' c') (Ok next)
        → GoesOn (told, l) (told', l) count (record { phase = phase.Carrying object stage.Line; state = s }) (record { phase = passed next; state = s' })
    by fed' was (TurnGoesOn calls _ follows did kept) =
        let walks = line_follows follows in
        record {
          next = later.count;
          is = survey_on (phase.Carrying object stage.Line) next s s' told told' it fed' counted.0 was
              (past_on (phase.Carrying object stage.Line) next s s' told told' follows did.0.source kept it.is)
              (within_on (phase.Carrying object stage.Line) next s s' told told' follows did.0.source kept it.is it.within)
              (unmet_on (phase.Carrying object stage.Line) next s s' told told' follows did.0.source it.is it.unmet met)
              (ap (λ (p : Phase). is_of_survey (passed p)) walks.0);
          saw = λ r e. record {
            line = None;
            sees = subst (λ (n : ℕ). Sees (job_of s.job) r.tree n (phase.Carrying object stage.Line) (held_of s []) None later.count) it.seen
                (subst (λ (n : ℕ). Sees (job_of s.job) r.tree it.past.count (phase.Carrying object stage.Line) (held_of s []) None n)
                (sym (ap (λ (p : Phase). done_after (phase.Carrying object stage.Line) s.trail p it.past.count) walks.0))
                (at_hand_seen (has_at_hand it.is.held (it.is.source r e)) refl));
            puts = refl;
            skips = ap (λ (k : Counts). k.skipped) kept ∙ ap (λ (line : Option Line). (counted_with line (turning (kept_of s it.fed)).counts).skipped) walks.1
                ∙ skips_counted None (turning (kept_of s it.fed)).counts;
          };
          job = counted.0;
        }

-- an object that is at hand
the_object : (here : Phase) → is_at_hand here ≡ true → (object : Object) × (here ≡ phase.Carrying object stage.Line)
the_object (phase.Carrying object stage.Line) is = (object, refl)
the_object _ is = absurd (true≢false (sym is))

-- over whatever log
pub passes_there : (here next : Phase) (s s' : State) (told told' : Option Reading) (w : Option Writing) (l : Option (List ℕ)) (a b c a' b' c' : ℕ) (count : ℕ)
    → is_at_hand here ≡ true → IsSurvey told count (record { phase = here; state = s })
    → CountedTurn here s s' (states told (Some bare) None a b c) (states told' w None a' b' c') (Ok next) → IsUnmetAfter here s s'
    → GoesOn (told, l) (told', l) count (record { phase = here; state = s }) (record { phase = passed next; state = s' })
passes_there here next s s' told told' w l a b c a' b' c' count is it counted met =
    let line = the_object here is in
    subst (λ (p : Phase). GoesOn (told, l) (told', l) count (record { phase = p; state = s }) (record { phase = passed next; state = s' })) (sym line.1)
    (passes line.0 next s s' told told' w l a b c a' b' c' count (subst (λ (p : Phase). IsSurvey told count (record { phase = p; state = s })) line.1 it)
    (subst (λ (p : Phase). CountedTurn p s s' (states told (Some bare) None a b c) (states told' w None a' b' c') (Ok next)) line.1 counted)
    (subst (λ (p : Phase). IsUnmetAfter p s s') line.1 met))

-- what isn't at hand nor at the end is looked at
pub looking_is : (told : Option Reading) (here : Phase) (s : State) → Surveys told (record { phase = here; state = s }) → is_at_hand here ≡ false
    → here ≢ phase.End → is_looking here ≡ true
looking_is told here s it off more = by here (of_survey told (record { phase = here; state = s }) it) off more
  where
    by : (here : Phase) → is_of_survey here ≡ true → is_at_hand here ≡ false → here ≢ phase.End → is_looking here ≡ true
    by (phase.Carrying object stage.Line) is off more = absurd (true≢false off)
    by phase.End is off more = absurd (more refl)
    by _ is off more = is

-- What an audit has told after each step.
use Rattle.std.proofs.Common.{◌≡◌, ℕ, zero, suc, ◌+◌, Bool, true, false, List, [], ◌++◌, refl, ap, sym, ◌∙◌, subst, arith, append-nil, append_assoc}
use Rattle.std.specs.Prelude.{Option, None, Some, option_to_list, count_by}
use Rattle.std.specs.Option.{ForSome}
use Rattle.std.specs.Io.KnownBytes.{Appends}
use Rattle.std.proofs.lemmas.Bool.{true≢false}
use Rattle.pt_audit.specs.Auditing.{IsSeen, IsUnderWay, CanGoOn, Leads, Next, is_told, Passes, TellsOf, Told, counted, start_over}
use Rattle.pt_invariant.specs.RunInvariant.{items_through}
use Rattle.pt_audit.specs.Layout.{IsOfLayout}
use Rattle.pt_audit.specs.declared.compare_by.CompareBy.{CompareBy}
use Rattle.pt_audit.specs.declared.counts.Counts.{Counts}
use Rattle.pt_move.specs.Running.{Running}
use Rattle.pt_move.proofs.Outcomes.{reading_of}
use Rattle.pt_plan.specs.Job.{Job}
use Rattle.pt_plan.specs.Lines.{Line, Skipped, is_skipped, line_text}
use Rattle.pt_plan.specs.Run.{Held}
use Rattle.pt_plan.specs.DeviceStates.{Puts}
use Rattle.pt_plan.specs.declared.object.Object.{Object}
use Rattle.pt_plan.specs.declared.phase.Phase.{Phase}
use Rattle.pt_plan.specs.declared.phase.Opening.TheVariants as opening
use Rattle.pt_plan.specs.declared.phase.Phase.TheVariants as phase
use Rattle.pt_plan.specs.declared.phase.Stage.TheVariants as stage
use Rattle.pt_state.specs.States.{held_of, job_of}
use Rattle.pt_state.specs.declared.job.Job as own
use Rattle.pt_audit.specs.Surveying.{
  WasAtHand,
  GoesOn,
  is_before_sites,
  is_before_store,
  Leads as SeesLeads,
  Nothing as SeesNothing,
  Sees,
  Skips,
  is_looking,
  sight_at,
}
use Rattle.pt_audit.specs.declared.survey.SurveyEvent.{SurveyEvent}
use Rattle.pt_audit.specs.declared.survey.SurveyEvent.TheVariants as sight
use Rattle.pt_tree.specs.Forest.{Forest}
use Rattle.pt_tree.specs.Source.{Reading, tree_in}

-- ---- where it stands

-- an object is at hand
pub object_at_hand : (here : Phase) → sight_at here ≡ sight.Object → (object : Object) × (here ≡ phase.Carrying object stage.Line)
object_at_hand (phase.Carrying object stage.Line) is = (object, refl)
object_at_hand (phase.Carrying object (stage.Read zero)) is = absurd (cc)
object_at_hand (phase.Carrying object (stage.Read (suc bytes))) is = absurd (cc)
object_at_hand (phase.Opening opening.OpenRoot) is = absurd (cc)
object_at_hand _ is = absurd (cc)

-- where none is at hand, of the items that were seen is told
told_there : (here : Phase) (count : ℕ) (what : SurveyEvent) → sight_at here ≡ what → is_told what ≡ false → items_through here count ≡ count
told_there (phase.Carrying object stage.Line) count what is more = absurd (true≢false (ap is_told is ∙ more))
told_there _ count what is more = refl

told_store : (here : Phase) (count : ℕ) → sight_at here ≡ sight.Store → items_through here count ≡ count
told_store (phase.Carrying object stage.Line) count is = absurd (cc)
told_store _ count is = refl

pub looking_told : (here : Phase) (count : ℕ) → is_looking here ≡ true → items_through here count ≡ count
looking_told (phase.Carrying object stage.Line) count is = absurd (cc)
looking_told _ count is = refl

-- the survey is at its end
pub end_at : (here : Phase) → sight_at here ≡ sight.End → here ≡ phase.End
end_at phase.End is = refl
end_at (phase.Carrying object (stage.Read zero)) is = absurd (cc)
end_at (phase.Carrying object (stage.Read (suc bytes))) is = absurd (cc)
end_at (phase.Opening opening.OpenRoot) is = absurd (cc)
end_at _ is = absurd (cc)

-- ---- what a step tells

-- a text that is put behind the one that was told
pub put_behind : (old text more : List ℕ) (now new : Option (List ℕ)) → now ≡ Some (old ++ text) → Appends now new more → new ≡ Some (old ++ (text ++ more))
put_behind old text more now new told puts = by new (subst (λ o. Appends o new more) told puts)
  where
    by : (new : Option (List ℕ)) → Appends (Some (old ++ text)) new more → new ≡ Some (old ++ (text ++ more))
    by None puts = absurd puts
    by (Some bytes) puts = ap (λ b. Some b) (puts ∙ append_assoc old text more)

abbrev pub HasTold : CompareBy → Job → Forest → Forest → List ℕ → Option (List ℕ) → ℕ → Counts → Type 0
HasTold by job source root old now n counts = (text : List ℕ) × (now ≡ Some (old ++ text)) × Told by job source root n text counts

-- with what a step saw
saw_on : (by : CompareBy) (job : Job) (source root : Forest) (old : List ℕ) {here : Phase} {held : Held} (count next : ℕ) (counts : Counts) (skipped : ℕ)
    {line : Option Line} (now new : Option (List ℕ)) → Sees job source count here held line next → Puts line now new
    → skipped ≡ counts.skipped + count_by is_skipped (option_to_list line)
    → HasTold by job source root old now (items_through here count) counts
    → HasTold by job source root old new next (record counts { skipped = skipped })
unfolding Puts
saw_on by job source root old {here} count next counts skipped now new (SeesNothing looks) puts skips (text, told, lines) = (
  text,
  puts ∙ told,
  subst (λ (n : ℕ). Told by job source root count text (record counts { skipped = n })) (same_skips skips)
      (subst (λ (n : ℕ). Told by job source root n text counts) (looking_told here count looks) lines),
)
  where
    same_skips : {a b : ℕ} → a ≡ b + 0 → b ≡ a
    same_skips is = omega (arith, is)
saw_on by job source root old {here} count next counts skipped now new (SeesLeads looks it) puts skips (text, told, lines) = (
  text ++ [],
  puts ∙ told ∙ ap (λ t. Some (old ++ t)) (sym (append-nil text)),
  subst (λ (n : ℕ). Told by job source root (suc count) (text ++ []) (record counts { skipped = n })) (same_skips skips)
      (Next it.item (subst (λ (n : ℕ). Told by job source root n text counts) (looking_told here count looks) lines) it.is
      (subst (λ (l : List Line). TellsOf by job source root it.item l [] counts counts) (sym it.lines_are) Leads)),
)
  where
    same_skips : {a b : ℕ} → a ≡ b + 0 → b ≡ a
    same_skips is = omega (arith, is)
saw_on by job source root old {here} count next counts skipped now new (Skips looks at why it) puts skips (text, told, lines) = (
  text ++ line_text (Skipped at why),
  put_behind old text (line_text (Skipped at why)) now new told puts,
  subst (λ (n : ℕ). Told by job source root (suc count) (text ++ line_text (Skipped at why)) (record counts { skipped = n }))
      (one_more skipped counts.skipped skips)
      (Next it.item (subst (λ (n : ℕ). Told by job source root n text counts) (looking_told here count looks) lines) it.is
      (subst (λ (l : List Line). TellsOf by job source root it.item l (line_text (Skipped at why)) counts (record counts { skipped = counts.skipped + 1 }))
      (sym it.lines_are) (Passes at why))),
)
  where
    one_more : (a b : ℕ) → a ≡ b + 1 → b + 1 ≡ a
    one_more a b is = omega (arith, is)
saw_on by job source root old count next counts skipped now new (WasAtHand it) puts skips (text, told, lines) = (
  text,
  puts ∙ told,
  subst (λ (n : ℕ). Told by job source root (suc count) text (record counts { skipped = n })) (same_skips skips) lines,
)
  where
    same_skips : {a b : ℕ} → a ≡ b + 0 → b ≡ a
    same_skips is = omega (arith, is)

-- a step of the survey was made
pub seen_after : {by : CompareBy} (told told' : Option Reading) (source root : Option Forest) (first now new : Option (List ℕ)) (counts : Counts)
    (before after : Running)
    → tree_in told ≡ source → (is_before_store before.phase ≡ true → is_before_sites after.phase ≡ true)
    → (it : IsUnderWay told (start_over by source root first) now counts before) → GoesOn (told, now) (told', new) it.count before after
    → IsSeen told' (start_over by source root first) new counts after
seen_after {by} told told' source root first now new counts before after same order it on = record {
  count = on.next;
  is = on.is;
  so_far = λ s e r f old g.
      let told_is = reading_of told (same ∙ e) in
      let saw = on.saw told_is.0 told_is.1 in
      let sees = subst (λ (t : Forest). Sees (job_of before.state.job) t it.count before.phase (held_of before.state []) saw.line on.next) told_is.2 saw.sees in
      subst (λ (j : own.Job). HasTold by (job_of j) s r old new on.next (counted counts after)) (sym on.job)
      (saw_on by (job_of before.state.job) s r old it.count on.next (counted counts before) _ now new sees saw.puts saw.skips (it.so_far s e r f old g));
  opened = λ later. subst (λ (j : own.Job). ForSome root (IsOfLayout (job_of j))) (sym on.job)
      (it.opened (was_later (is_before_store before.phase) refl later));
}
  where
    was_later : (b : Bool) → is_before_store before.phase ≡ b → is_before_sites after.phase ≡ false → is_before_store before.phase ≡ false
    was_later false is later = is
    was_later true is later = absurd (true≢false (sym (order is) ∙ later))

-- where it isn't the store that was seen, the sites come after the store
sites_after : (here : Phase) → (sight_at here ≡ sight.Store → ⊥) → is_before_store here ≡ false → is_before_sites here ≡ false
sites_after (phase.Opening opening.OpenRoot) other later = absurd (other refl)
sites_after (phase.Opening opening.Begin) other later = later
sites_after (phase.Opening (opening.Prefix _)) other later = later
sites_after _ other later = later

-- more is to be seen
pub goes_on : {by : CompareBy} {told : Option Reading} {source root : Option Forest} {first : Option (List ℕ)} (now : Option (List ℕ)) (counts : Counts)
    (r : Running) (what : SurveyEvent) → sight_at r.phase ≡ what → is_told what ≡ false → IsSeen told (start_over by source root first) now counts r
    → IsUnderWay told (start_over by source root first) now counts r
goes_on {by} now counts r what is more it = record {
  count = it.count;
  is = it.is;
  so_far = λ s e o f old g. subst (λ (n : ℕ). HasTold by (job_of r.state.job) s o old now n (counted counts r)) (sym (told_there r.phase it.count what is more))
      (it.so_far s e o f old g);
  opened = λ later. it.opened (sites_after r.phase (λ store. absurd (true≢false (sym (ap is_told (sym is ∙ store)) ∙ more))) later);
}

pub goes_on_store : {by : CompareBy} {told : Option Reading} {source root : Option Forest} {first : Option (List ℕ)} (now : Option (List ℕ))
    (counts : Counts) (r : Running)
    → sight_at r.phase ≡ sight.Store → CanGoOn root r → IsSeen told (start_over by source root first) now counts r
    → IsUnderWay told (start_over by source root first) now counts r
goes_on_store {by} now counts r is layout it = record {
  count = it.count;
  is = it.is;
  so_far = λ s e o f old g. subst (λ (n : ℕ). HasTold by (job_of r.state.job) s o old now n (counted counts r)) (sym (told_store r.phase it.count is))
      (it.so_far s e o f old g);
  opened = λ later. layout;
}

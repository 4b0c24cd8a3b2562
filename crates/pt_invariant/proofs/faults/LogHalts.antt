-- Where the log fails nothing stands at `staging`.
use Rattle.std.proofs.Common.{◌≡◌, ℕ, Bool, true, false, List, [], ◌++◌, refl, ap, sym, ◌∙◌}
use Rattle.std.specs.Prelude.{Option, None, Some}
use Rattle.pt_object.specs.Holding.{IsFree}
use Rattle.pt_object.specs.Scripts.{staging}
use Rattle.pt_tree.specs.Dest.{Writing}
use Rattle.pt_tree.specs.Tree.{Tree}
use Rattle.pt_plan.specs.Answer.{Answer}
use Rattle.pt_plan.specs.Carried.{Carried}
use Rattle.pt_plan.specs.Job.{Job}
use Rattle.pt_plan.specs.Run.{Counts, Held}
use Rattle.pt_plan.specs.Turn.{Did, FailsAtFirst, FailsLater, Next, IsRefused, FailsPartway, FailsUnchanged, Start as a_start, Walk, Scan, Make, Place}
use Rattle.pt_plan.specs.TurnMake as make
use Rattle.pt_plan.specs.TurnPlace as place
use Rattle.pt_plan.specs.TurnScan as scan
use Rattle.pt_plan.specs.TurnStart as start
use Rattle.pt_plan.specs.TurnWalk as walk
use Rattle.pt_plan.specs.DeviceStates.{Calls, Change, ChangesNothing, Finds, LeavesPart, Untouched, dest_tree}
use Rattle.pt_plan.specs.declared.object.Object.{Object}
use Rattle.pt_plan.specs.declared.phase.Phase.{Phase}
use Rattle.pt_plan.specs.declared.phase.Opening.TheVariants as opening
use Rattle.pt_plan.specs.declared.phase.Phase.TheVariants as phase
use Rattle.pt_plan.specs.declared.phase.Stage.TheVariants as stage
use Rattle.pt_invariant.specs.RunInvariant.{RunInvariant, TellsAsBefore}
use Rattle.pt_invariant.specs.DestInvariant.{DestPart, IsBetweenObjects, IsMakingObject}
use Rattle.pt_invariant.specs.LogLaws.{FailedLogLeavesNoStaging, may_tell}
use Rattle.pt_invariant.specs.History.{History}
use Rattle.pt_invariant.proofs.source.InPairtree.{some_same}
use Rattle.pt_invariant.proofs.ends.TurnEnds.{refused_same}

-- ---- what stands at such a phase

between : {job : Job} {t : Tree} {placed : List Carried} {now : Writing} → IsBetweenObjects job t placed now → IsFree now.tree staging
between at = λ q. ap (λ (x : Tree). x (staging ++ q)) at.tree ∙ at.root.free q

before_making : {job : Job} {t : Tree} {placed : List Carried} {object : Object} {now : Writing} → IsMakingObject job t placed object [] 0 now
    → IsFree now.tree staging
before_making at = λ q. ap (λ (x : Tree). x (staging ++ q)) at.tree ∙ at.root.free q

free_there : {job : Job} {past : History} (here : Phase) {held : Held} {t : Tree} {now : Writing} → may_tell here ≡ true → DestPart job past here held t now
    → IsFree now.tree staging
free_there (phase.Opening opening.OpenRoot) _ dest = between dest.at
free_there phase.Judge _ dest = between dest.at
free_there (phase.Carrying _ stage.Open) _ dest = before_making dest.at
free_there (phase.Carrying _ stage.Scan) _ dest = before_making dest.at
free_there (phase.Carrying _ (stage.Read _)) _ dest = before_making dest.at
free_there (phase.Carrying _ stage.Line) _ dest = between dest.at
free_there phase.Walk _ dest = between dest.at
free_there phase.End _ dest = between dest.at
free_there _ tells dest = absurd (cc)

-- ---- what its turn does

-- nothing is changed in the destination
abbrev is_quiet : Change → Bool
is_quiet ChangesNothing = true
is_quiet (Finds path here) = true
is_quiet _ = false

quiet_leaves : {old new : Option Writing} {change : Change} → LeavesPart old new change → is_quiet change ≡ true → dest_tree new ≡ dest_tree old
quiet_leaves (Untouched _ same) _ = same
quiet_leaves _ quiet = absurd (cc)

follows_quiet : {job : Job} {counts : Counts} {here : Phase} {prefix : List ℕ} {held : Held} {read : List ℕ} {after : Held} {calls : Calls} {answer : Answer}
    → Next job counts here prefix held read after calls answer → may_tell here ≡ true → is_quiet calls.change ≡ true
follows_quiet (a_start (start.IsStore _ _)) tells = absurd (cc)
follows_quiet (a_start _) tells = absurd (cc)
follows_quiet (Walk (walk.OpensRoot _ _)) _ = refl
follows_quiet (Scan (scan.StartsInSite _ _ _)) _ = refl
follows_quiet (Make (make.MakesStaging _ _)) tells = absurd (cc)
follows_quiet (Make _) tells = absurd (cc)
follows_quiet (Place (place.MakesTuple _ _ _)) tells = absurd (cc)
follows_quiet (Place (place.FindsTuple _ _ _)) tells = absurd (cc)
follows_quiet (Place (place.IsInTheWay _ _ _ _ _)) tells = absurd (cc)
follows_quiet (Place (place.RenamesObject _ _)) tells = absurd (cc)
follows_quiet _ _ = refl

-- ---- the law

-- the start told too
now_tells : {A B : Type 0} (P : A → B → Type 0) (start : Option A) (now : Option B) {b : B} → now ≡ Some b → TellsAsBefore start now P → (a : A) × P a b
now_tells P None None is tells = absurd (cc)
now_tells P None (Some _) _ tells = absurd (tells)
now_tells P (Some _) None _ tells = absurd (tells)
now_tells P (Some a) (Some x) {b} is tells = (a, rw (some_same x b is) at tells)

same_tree : (old : Option Writing) {t : Tree} → Some t ≡ dest_tree old → (w : Writing) × ((old ≡ Some w) × (t ≡ w.tree))
same_tree None is = absurd (cc)
same_tree (Some w) {t} is = (w, (refl, some_same t w.tree is))

pub failed_log_leaves_no_staging : FailedLogLeavesNoStaging
unfolding RunInvariant Did FailsUnchanged FailsPartway
failed_log_leaves_no_staging job start old _ run _ _ (past, is) (IsRefused _ _ _ _ turn did _) tells dest_is =
    let same = refused_same turn did.0.dest in
    let had = now_tells (DestPart job past run.phase run.kept.held) start.dest old.dest (sym same ∙ dest_is) is.dest in
    free_there run.phase tells had.1
failed_log_leaves_no_staging job start old _ run _ _ (past, is) (FailsAtFirst _ stays _) tells dest_is =
    let had = now_tells (DestPart job past run.phase run.kept.held) start.dest old.dest (sym stays.1 ∙ dest_is) is.dest in
    free_there run.phase tells had.1
failed_log_leaves_no_staging job start old _ run _ _ (past, is) (FailsLater _ _ _ _ _ _ turn leaves _ _) tells dest_is =
    let quiet = follows_quiet turn tells in
    let same = quiet_leaves leaves.0.dest quiet in
    let was = same_tree old.dest (sym (ap dest_tree dest_is) ∙ same) in
    let had = now_tells (DestPart job past run.phase run.kept.held) start.dest old.dest was.1.0 is.dest in
    rw was.1.1 (free_there run.phase tells had.1)

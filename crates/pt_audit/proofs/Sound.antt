-- Where nothing was found wrong, all objects stand.
use Rattle.std.proofs.Common.{◌≡◌, ◌<◌, ℕ, suc, List, [], ◌∷◌, ap, sym, ◌∙◌, subst, arith, length, inl, inr, ◌⊎◌}
use Rattle.std.specs.Prelude.{false, slice_get}
use Rattle.std.proofs.lemmas.Option.{slice_get_within}
use Rattle.std.proofs.lemmas.List.{length-drop}
use Rattle.pt_audit.specs.AuditLaws.{SoundAuditMeansAllStand, StandAmong}
use Rattle.pt_audit.specs.Auditing.{Finds, IsFoundOf, Leads, Next, Nothing, Passes, TellsOf, Told, sought}
use Rattle.pt_audit.specs.Counting.{one_more}
use Rattle.pt_audit.specs.declared.counts.Counts.{Counts}
use Rattle.pt_audit.specs.declared.compare_by.CompareBy.TheVariants.{Bytes}
use Rattle.pt_invariant.proofs.source.InPairtree.{some_same}
use Rattle.pt_compare.specs.Found.{IsObject}
use Rattle.pt_compare.specs.Marks.{inside}
use Rattle.pt_compare.specs.declared.difference.Comparison.TheVariants as found
use Rattle.pt_name.specs.Place.{place_of}
use Rattle.pt_object.specs.FilePaths.{File}
use Rattle.pt_plan.specs.Items.{Holds, Item, Named, Outcome, PairtreeObject, Verdict, items, outcome}
use Rattle.pt_plan.specs.Job.{Job}
use Rattle.pt_plan.specs.Lines.{Done, End, Line, Present, Skipped, line_by_outcome, line_by_verdict}
use Rattle.pt_plan.specs.TurnWalk.{in_root}
use Rattle.pt_tree.specs.Forest.{Forest}

-- ---- one item

-- this holds where the lines are that of an object that was carried
abbrev IfDone : List Line → Type 0 → Type 0
IfDone [] P = Unit {0}
IfDone (Done at bytes empty files id to ∷ lines) P = P
IfDone (Present at id to ∷ lines) P = Unit {0}
IfDone (Skipped at why ∷ lines) P = Unit {0}
IfDone (End done present skipped ∷ lines) P = Unit {0}

some_more : (n : ℕ) → one_more n ≡ 0 → ⊥
some_more n is = absurd (omega (arith, is))

-- where none is counted as absent or as differing, none was before, and of an object it was found that it stands
nothing_wrong : {job : Job} {source root : Forest} {item : Item} {lines : List Line} {more : List ℕ} {counts later : Counts}
    → TellsOf Bytes job source root item lines more counts later → later.absent ≡ 0 → later.differs ≡ 0
    → (counts.absent ≡ 0) × (counts.differs ≡ 0) × IfDone lines (IsFoundOf Bytes job source root item found.Same)
nothing_wrong Leads absent differs = (absent, differs, tt)
nothing_wrong (Passes at why) absent differs = (absent, differs, tt)
nothing_wrong (Finds found.Same it) absent differs = (absent, differs, it)
nothing_wrong {counts = counts} (Finds found.Absent it) absent differs = absurd (some_more counts.absent absent)
nothing_wrong {counts = counts} (Finds (found.Differs difference) it) absent differs = absurd (some_more counts.differs differs)

-- so an item with an object stands
item_stands : (job : Job) (source root : Forest) (item : Item) (id : List ℕ) (object : PairtreeObject) (files : List File) → item.verdict ≡ Named id object
    → outcome job.limits object ≡ Holds files → IfDone (line_by_verdict job item.path false item.verdict) (IsFoundOf Bytes job source root item found.Same)
    → IsObject (sought job id files) (inside root (in_root (place_of job.tuples id)))
item_stands job source root item id object files named whole it = by found_is
  where
    P : Type 0
    P = IsFoundOf Bytes job source root item found.Same

    found_is : P
    found_is = subst (λ (o : Outcome). IfDone (line_by_outcome item.path id object (place_of job.tuples id) o ∷ []) P) whole
        (subst (λ (v : Verdict). IfDone (line_by_verdict job item.path false v) P) named it)

    by : P → IsObject (sought job id files) (inside root (in_root (place_of job.tuples id)))
    by p =
        let both : Named p.id p.object ≡ Named id object = sym p.named ∙ named in
        let same_id : p.id ≡ id = cc in
        let same_object : p.object ≡ object = cc in
        let held : Holds p.files ≡ Holds files = sym p.whole ∙ ap (outcome job.limits) same_object ∙ whole in
        let same_files : p.files ≡ files = cc in
        subst (λ (i : List ℕ). IsObject (sought job i files) (inside root (in_root (place_of job.tuples i)))) same_id
        (subst (λ (f : List File). IsObject (sought job p.id f) (inside root (in_root (place_of job.tuples p.id)))) same_files p.found)

-- ---- all items

stand : {job : Job} {source root : Forest} {n : ℕ} {text : List ℕ} {counts : Counts} → Told Bytes job source root n text counts → counts.absent ≡ 0
    → counts.differs ≡ 0 → StandAmong job source root (λ k. k < n)
stand Nothing absent differs k item id object files less is named whole = absurd (omega (arith, less))
stand {job} {source} {root} (Next {n = n} item told there tells) absent differs k item' id object files less is named whole =
    let fine = nothing_wrong tells absent differs in
    elim (before_or_at k n less) [
      | inl before ↦ stand told fine.0 fine.1 k item' id object files before is named whole
      | inr at ↦ let same : item ≡ item' = some_same item item' (sym there ∙ ap (slice_get (items job source)) (sym at) ∙ is) in
          item_stands job source root item id object files (ap (λ (i : Item). i.verdict) same ∙ named) whole fine.2
    ]
  where
    before_or_at : (k n : ℕ) → k < suc n → (k < n) ⊎ (k ≡ n)
    before_or_at k n less = search arith

pub sound_audit_means_all_stand : SoundAuditMeansAllStand
sound_audit_means_all_stand job source root text counts it absent differs k item id object files _ is named whole =
    stand it.told absent differs k item id object files (within k (slice_get_within (items job source) k item is)) is named whole
  where
    within : (k : ℕ) → k < length (items job source) → k < it.count
    within k less =
        let none = ap length it.all in
        let long = length-drop it.count (items job source) in
        omega (arith, less, none, long)

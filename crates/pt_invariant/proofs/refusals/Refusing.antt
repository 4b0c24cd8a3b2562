-- What a run says of a source that it refuses.
use Rattle.std.proofs.Common.{◌≡◌, ◌<◌, ◌-◌, ◌==◌, ℕ, true, false, List, [], ◌∷◌, ◌++◌, refl, ap, sym, ◌∙◌, arith, cond, inl, inr, length, take}
use Rattle.std.specs.Prelude.{◌&&◌, ◌≢◌, None, Some, Err, Option, is_none, nat_lt}
use Rattle.std.specs.Option.{option_and_then, option_map}
use Rattle.std.specs.Str.{bytes_eq}
use Rattle.std.proofs.lemmas.Bool.{cases_lt, true≢false, ltb-true, lt-ltb}
use Rattle.std.proofs.lemmas.List.{take_all}
use Rattle.std.specs.Str.{bytes_eq, is_utf8}
use Rattle.pt_name.specs.Prefix.{prefix_refusal, without_line_ends}
use Rattle.pt_name.specs.declared.prefix.PrefixFault.{PrefixFault}
use Rattle.pt_name.specs.declared.prefix.PrefixFault.TheVariants as bad
use Rattle.pt_object.proofs.Ways.{name_itself}
use Rattle.pt_object.specs.Algorithm.{digest_of}
use Rattle.pt_object.specs.declared.rows.Row.{Row}
use Rattle.pt_tree.specs.Forest.{Forest, Node, File, Dir, Other, as_file, find, is_proper, kind_of, node_at}
use Rattle.pt_tree.specs.Source.{Reading, IsRead, after_open}
use Rattle.pt_tree.specs.declared.kind.Kind.{Kind}
use Rattle.pt_tree.specs.declared.kind.Kind.TheVariants as kind
use Rattle.pt_walk.specs.Left.{bytes_at}
use Rattle.pt_plan.specs.Job.{Job}
use Rattle.pt_plan.specs.Run.{Counts, Held, Kept, Run, turning}
use Rattle.pt_plan.specs.Store.{is_prefix, pairtree_of, prefix_file}
use Rattle.pt_plan.specs.Turn.{
  Did,
  Next,
  Turn,
  IsRefused,
  FailsAtFirst,
  FailsLater,
  HasFailed,
  FailsPartway,
  FailsUnchanged,
  Start as a_start,
  Walk,
  Scan,
  Make,
  Place,
}
use Rattle.pt_plan.specs.TurnMake.{ReadsMore, ReadsOther, is_as_read, path_of_source}
use Rattle.pt_plan.specs.TurnPlace.{IsInTheWay}
use Rattle.pt_plan.specs.TurnStart.{HasNoVersion, HasNoPairtree, IsNoPrefixFile, IsNoPrefix, is_file_kind}
use Rattle.pt_plan.specs.DeviceStates.{Answers, Calls, Failures, DeviceStates}
use Rattle.pt_plan.specs.declared.fault.Fault.{Fault}
use Rattle.pt_plan.specs.declared.fault.Fault.TheVariants as fault
use Rattle.pt_plan.specs.declared.object.Object.{Object}
use Rattle.pt_plan.specs.declared.phase.Phase.{Phase}
use Rattle.pt_plan.specs.declared.phase.Phase.TheVariants as phase
use Rattle.pt_plan.specs.declared.phase.Stage.TheVariants as stage
use Rattle.pt_plan.specs.declared.phase.Position.{Position}
use Rattle.pt_invariant.specs.RunInvariant.{RunInvariant, IsHistory, Start}
use Rattle.pt_invariant.specs.SourceInvariant.{IsCopyingFile, SourceAt}
use Rattle.pt_invariant.specs.RefusalLaws.{RefusesRightly, SaysOfSource}
use Rattle.pt_invariant.proofs.source.InPairtree.{some_same}
use Rattle.pt_invariant.proofs.source.MakesKeep.{file_of_row}
use Rattle.pt_invariant.proofs.source.ReadsOn.{IsWhole, reads_block, reads_end}
use Rattle.pt_invariant.proofs.source.ScannedFiles.{RowFile}
use Rattle.pt_invariant.specs.History.{History}
use Rattle.pt_invariant.proofs.source.StartsKeep.{lacks_version, store_by_pairtree}

-- ---- the prefix

no_file : (o : Option Node) {here : Option Kind} → here ≢ None → is_file_kind here ≡ false → here ≡ option_map kind_of o → is_prefix o ≡ false
no_file None some _ is = absurd (some is)
no_file (Some (File bytes)) _ other is = absurd (true≢false (sym (ap is_file_kind is) ∙ other))
no_file (Some (Dir inside)) _ _ _ = refl
no_file (Some Other) _ _ _ = refl

long_refused : (bytes : List ℕ) → 1024 < length bytes → is_none (prefix_refusal bytes) ≡ false
long_refused bytes long = ap (λ b. is_none (cond b (Some bad.TooLong) (cond (is_utf8 (without_line_ends bytes)) None (Some bad.NotUtf8))))
    (lt-ltb 1024 (length bytes) long)

block_refused : (bytes : List ℕ) {block : List ℕ} {why : PrefixFault} → take 8192 bytes ≡ block → prefix_refusal block ≡ Some why
    → is_none (prefix_refusal bytes) ≡ false
block_refused bytes read bad = elim (cases_lt 1024 (length bytes)) [
  | inl long ↦ long_refused bytes long
  | inr short ↦ (let few = short in ap (λ (l : List ℕ). is_none (prefix_refusal l)) (sym (take_all 8192 bytes (omega (arith, few))) ∙ read) ∙ ap is_none bad)
]

bad_prefix : (o : Option Node) {block : List ℕ} {why : PrefixFault} → Some kind.File ≡ option_map kind_of o
    → option_map (take 8192) (option_and_then as_file (option_and_then (λ node. node_at node []) o)) ≡ Some block → prefix_refusal block ≡ Some why
    → is_prefix o ≡ false
bad_prefix (Some (File bytes)) {block} _ read bad = block_refused bytes (some_same _ block read) bad
bad_prefix _ is read bad = absurd (cc)

-- ---- the copy

module _ (job : Job) (s : Reading) (prefix : List ℕ) (count : ℕ) (object : Object) (held : Held) (position : Position) (left : ℕ) (proper : is_proper s.tree
    ≡ true) (at : SourceAt job s prefix count (phase.Carrying object (stage.Copy position left)) held) where
  abbrev copying : IsCopyingFile s.tree object held position s.unread left
  copying = at.2

  abbrev stored_bytes : List ℕ
  stored_bytes = bytes_at (pairtree_of s.tree) (path_of_source object held.trail ++ (copying).row.path)

  stored : RowFile job (pairtree_of s.tree) (path_of_source object held.trail) (copying).row
  stored = file_of_row job s prefix object held count position.row (copying).row proper (copying).is_row (at.0, at.1)

  long : (copying).row.length ≡ length stored_bytes
  long = (stored).long ∙ ap length (sym (stored).here)

  pub never_more : {block : List ℕ} → nat_lt left (length block) ≡ true → option_map (take 8192) s.unread ≡ Some block → ⊥
  never_more {block} more read =
      let reads = reads_block 8192 stored_bytes _ held.fed block s.unread (copying).read read in
      let within = reads.within in
      let over = ltb-true left (length block) more in
      let size = long in
      let few = (copying).within in
      omega (arith, within, over, size, few)

  whole : option_map (take 8192) s.unread ≡ Some [] → IsWhole stored_bytes ((copying).row.length - left) held.fed
  whole read = reads_end 8192 stored_bytes _ held.fed s.unread (omega arith) (copying).read read

  pub as_read : option_map (take 8192) s.unread ≡ Some [] → is_as_read job (copying).row left held.fed ≡ true
  as_read read =
      let all = whole read in
      let size = long in
      let few = (copying).within in
      let same = all.length_is in
      let none : left ≡ 0 = omega (arith, size, few, same) in
      let digest : digest_of job.algorithm held.fed ≡ (copying).row.digest = ap (digest_of job.algorithm) (all.all ∙ (stored).here) ∙ sym (stored).digest in
      ap (λ (n : ℕ). (n == 0) && bytes_eq (digest_of job.algorithm held.fed) (copying).row.digest) none
      ∙ ap (λ (d : List ℕ). bytes_eq d (copying).row.digest) digest ∙ name_itself (copying).row.digest

-- ---- the turns

follows_refuse : {job : Job} (s : Reading) (new : Option Reading) {counts : Counts} (count : ℕ) {here : Phase} {prefix : List ℕ} {held : Held} {read : List ℕ}
    {after : Held} {calls : Calls} {why : Fault}
    → is_proper s.tree ≡ true → Next job counts here prefix held read after calls (Err why) → SourceAt job s prefix count here held
    → Answers calls.asked (Some s) new → SaysOfSource why s.tree
unfolding Answers IsRead
follows_refuse s _ _ _ (a_start (HasNoVersion _ _ _ is)) _ answers = lacks_version s.tree (answers.0.0 s.tree refl) is
follows_refuse s _ _ _ (a_start (HasNoPairtree _ _ is)) _ answers = store_by_pairtree s.tree (answers.0.0 s.tree refl) (answers.0.1.0 s.tree refl) is
follows_refuse s _ _ _ (a_start (IsNoPrefixFile _ _ some is)) at _ = (at.2, no_file (find s.tree prefix_file) some is at.3)
follows_refuse s _ _ _ (a_start (IsNoPrefix _ _ _ is)) at answers =
    (at.2, bad_prefix (find s.tree prefix_file) at.3 (answers.0 (after_open (prefix_file ∷ []) s) refl) is)
follows_refuse _ _ _ _ (a_start _) at _ = (at.2.store, at.2.good)
follows_refuse _ _ _ _ (Walk turn) _ _ = elim turn [ ]
follows_refuse _ _ _ _ (Scan turn) _ _ = elim turn [ ]
follows_refuse {job} s _ count {prefix} proper (Make (ReadsMore was object position left _ _ more)) at answers =
    absurd (never_more job s prefix count object was position left proper at more (answers.0 s refl))
follows_refuse {job} s _ count {prefix} proper (Make (ReadsOther was object position row left is other)) at answers =
    absurd (let same = some_same row at.2.row (sym is ∙ at.2.is_row) in
    true≢false (sym (ap (λ (r : Row). is_as_read job r left was.fed) same ∙ as_read job s prefix count object was position left proper at (answers.0 s refl))
    ∙ other))
follows_refuse _ _ _ _ (Place (IsInTheWay _ _ _ _ _)) at _ = (at.0.store, at.0.good)

-- a device that failed says nothing of the source
failed : (why : Fault) (old new : Failures) (source : Forest) → HasFailed why old new → SaysOfSource why source
failed fault.Source _ _ _ _ = tt
failed fault.Dest _ _ _ _ = tt
failed fault.Log _ _ _ _ = tt
failed fault.Memory _ _ _ _ = tt
failed _ _ _ _ it = absurd (it)

refused : {job : Job} {past : History} {start : Start} {old new : DeviceStates} {run : Run} {after : Kept} {why : Fault} {s : Reading}
    → IsHistory job start old run past → Turn job run.phase (turning run.kept) after old new (Err why) → old.source ≡ Some s → SaysOfSource why s.tree
unfolding Did FailsUnchanged FailsPartway
refused {past} {new} {s} is (IsRefused _ _ calls _ turn did _) told =
    let part = is.source s told in
    follows_refuse s new.source past.count part.proper turn part.at (rw told at did.0.source)
refused {old} {new} {why} {s} _ (FailsAtFirst _ stays _) _ = failed why old.failures new.failures s.tree stays.3
refused {old} {new} {why} {s} _ (FailsLater _ _ _ _ _ _ _ leaves _ _) _ = failed why old.failures new.failures s.tree leaves.1

pub refuses_rightly : RefusesRightly
unfolding RunInvariant
refuses_rightly _ _ _ _ _ _ _ _ (_, is) turn told = refused is turn told

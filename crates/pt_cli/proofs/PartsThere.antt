-- Each part of a command has an answer, where the words that it needs are there.
use Rattle.std.proofs.Common.{◌≡◌, ◌∙◌, ◌||◌, ℕ, Bool, true, false, List, [], ◌∷◌, Option, Some, None, Result, Ok, Err, refl, sym, ap, arith}
use Rattle.std.specs.Prelude.{⊤, codes}
use Rattle.std.specs.List.{list_any}
use Rattle.std.specs.Str.{bytes_eq}
use Rattle.std.specs.Str.Parse.{ParsesUnsigned}
use Rattle.std.specs.Borrow.{Bor}
use Rattle.std.proofs.lemmas.Slice.Eq.{bytes_eq-Decides}
use Rattle.clap.specs.Words.{Row, Text, all_of, first_of, one_of, without_minus}
use Rattle.clap.specs.ValueTests.{accepts}
use Rattle.clap.specs.declared.builder.value_parser.ValueParser.TheVariants as vp
use Rattle.clap.proofs.CallerReads.{signed_reads}
use Rattle.clap.proofs.ValueTestLemmas.{accepts-Accepts}
use Rattle.clap.proofs.WalkLemmas.{list_any-map}
use Rattle.pt_name.specs.Layout.{layout_of}
use Rattle.pt_name.specs.Share.{Portion}
use Rattle.pt_name.specs.Tuples.{Tuples}
use Rattle.pt_name.specs.declared.layout.LayoutFault.{LayoutFault}
use Rattle.pt_object.specs.Meta.{given_address, meta_refusal, parts_of}
use Rattle.pt_object.specs.MetaParts.{MetaParts}
use Rattle.pt_object.specs.declared.meta.MetaFault.{MetaFault}
use Rattle.pt_object.specs.declared.meta.MetaFault.TheVariants as meta_fault
use Rattle.pt_object.specs.declared.algorithm.Algorithm.{Algorithm}
use Rattle.pt_object.specs.declared.algorithm.Algorithm.TheVariants.{Sha512, Sha256}
use Rattle.pt_messages.specs.declared.watch.Progress.{Progress}
use Rattle.pt_messages.specs.declared.watch.Progress.TheVariants.{Auto, Always, Never}
use Rattle.pt_cli.specs.Grammar.{SpellsAlgorithms, SpellsTimes, u32_parser}
use Rattle.pt_cli.specs.Arguments.{◌>>=◌, IsThere, algorithm_of, judged, number_of, path_only, progress_of}
use Rattle.pt_cli.specs.Ignore.{are_names, ignored_in, names_of, names_only}
use Rattle.pt_cli.specs.Options.{
  audit_in,
  audit_meta,
  audit_options_in,
  check_in,
  cut,
  described_by,
  feedback_in,
  folders_in,
  id_only,
  job_in,
  layout_in,
  meta_in,
  migration_in,
  names_in,
  portion_in,
  run_options_in,
}
use Rattle.pt_cli.specs.Share.{divided, share_asked}
use Rattle.pt_cli.specs.declared.faults.Unread.{Unread}
use Rattle.pt_cli.specs.declared.faults.Unread.TheVariants as unread
use Rattle.pt_cli.proofs.Reading.{number_read_back}

-- ---- values

pub algorithm_there : (words : Bor (List (Bor Text))) → SpellsAlgorithms words → (v : Text) → accepts false (vp.Names words) v ≡ true
    → (a : Algorithm) × (algorithm_of v ≡ Some a)
algorithm_there words spells v e =
    let listed : list_any (λ t. bytes_eq t v) (codes "sha512" ∷ codes "sha256" ∷ []) ≡ true =
    ap (list_any (λ t. bytes_eq t v)) (sym spells) ∙ sym (list_any-map (λ t. bytes_eq t v) (λ (s : Bor Text). s.now) words.now) ∙ e in
    go (bytes_eq (codes "sha512") v) (bytes_eq (codes "sha256") v) refl refl listed
  where
    go : (a b : Bool) → bytes_eq (codes "sha512") v ≡ a → bytes_eq (codes "sha256") v ≡ b → (a || (b || false)) ≡ true
        → (x : Algorithm) × (algorithm_of v ≡ Some x)
    go true b is other h =
        let same : codes "sha512" ≡ v = (bytes_eq-Decides _ _).0 is in
        (Sha512, ap algorithm_of (sym same))
    go false true other is h =
        let same : codes "sha256" ≡ v = (bytes_eq-Decides _ _).0 is in
        (Sha256, ap algorithm_of (sym same))
    go false false is other h = absurd (cc)

pub time_there : (words : Bor (List (Bor Text))) → SpellsTimes words → (v : Text) → accepts false (vp.Names words) v ≡ true
    → (t : Progress) × (progress_of v ≡ Some t)
time_there words spells v e =
    let listed : list_any (λ t. bytes_eq t v) (codes "auto" ∷ codes "always" ∷ codes "never" ∷ []) ≡ true =
    ap (list_any (λ t. bytes_eq t v)) (sym spells) ∙ sym (list_any-map (λ t. bytes_eq t v) (λ (s : Bor Text). s.now) words.now) ∙ e in
    go (bytes_eq (codes "auto") v) (bytes_eq (codes "always") v) (bytes_eq (codes "never") v) refl refl refl listed
  where
    go : (a b c : Bool) → bytes_eq (codes "auto") v ≡ a → bytes_eq (codes "always") v ≡ b → bytes_eq (codes "never") v ≡ c → (a || (b || (c || false))) ≡ true
        → (x : Progress) × (progress_of v ≡ Some x)
    go true b c is other last h =
        let same : codes "auto" ≡ v = (bytes_eq-Decides _ _).0 is in
        (Auto, ap progress_of (sym same))
    go false true c other is last h =
        let same : codes "always" ≡ v = (bytes_eq-Decides _ _).0 is in
        (Always, ap progress_of (sym same))
    go false false true other last is h =
        let same : codes "never" ≡ v = (bytes_eq-Decides _ _).0 is in
        (Never, ap progress_of (sym same))
    go false false false other last is h = absurd (cc)

pub number_there : (v : Text) → accepts false u32_parser v ≡ true → (n : ℕ) × (number_of (without_minus v) ≡ Some n)
number_there v e =
    let read = signed_reads ⊤ (λ u x. ParsesUnsigned 32 10 u x) 32 0 4294967295 v (number_of (without_minus v)) (number_read_back (without_minus v))
    (λ u x g. g) (omega arith)
    (accepts-Accepts false u32_parser v e) in
    (read.0, read.1)

-- ---- the answer to a command

-- what needs what is there, and is there itself, is there
then_there : {A B : Type 0} (r : Result A Unread) (f : A → Result B Unread) → IsThere r → ((x : A) → IsThere (f x)) → IsThere (r >>= f)
then_there (Ok x) f here on = on x
then_there (Err unread.Missing) f here on = here
then_there (Err unread.Created) f here on = tt
then_there (Err unread.EmptyName) f here on = tt
then_there (Err unread.EmptyId) f here on = tt
then_there (Err unread.Memory) f here on = tt
then_there (Err unread.Tuples) f here on = tt
then_there (Err unread.Share) f here on = tt
then_there (Err unread.Folders) f here on = tt
then_there (Err unread.Ignored) f here on = tt
then_there (Err unread.EmptyEvent) f here on = tt
then_there (Err unread.EmptyList) f here on = tt
then_there (Err unread.EmptyDest) f here on = tt

-- what is judged is there
described_there : (meta : MetaParts) (refusal : Option MetaFault) → IsThere (described_by meta refusal)
described_there meta None = tt
described_there meta (Some meta_fault.Created) = tt
described_there meta (Some meta_fault.EmptyName) = tt
described_there meta (Some meta_fault.Memory) = tt

audit_meta_there : IsThere audit_meta
unfolding audit_meta
audit_meta_there =
    described_there (parts_of (codes "1970-01-01T00:00:00Z") (codes "audit") (given_address None) [])
    (meta_refusal (codes "1970-01-01T00:00:00Z") (codes "audit"))

cut_there : (layout : Result Tuples LayoutFault) → IsThere (cut layout)
cut_there (Ok tuples) = tt
cut_there (Err refusal) = tt

share_there : (share : Option Portion) → IsThere (judged unread.Share share)
share_there (Some share) = tt
share_there None = tt

folders_judged : (share : Option Portion) → IsThere (judged unread.Folders share)
folders_judged (Some share) = tt
folders_judged None = tt

ignored_there : (names : Option (List Text)) → IsThere (names_of names)
ignored_there None = tt
ignored_there (Some texts) = go (are_names texts)
  where
    go : (b : Bool) → IsThere (names_only b texts)
    go true = tt
    go false = tt

event_there : (path : Option Text) → IsThere (path_only unread.EmptyEvent path)
event_there None = tt
event_there (Some []) = tt
event_there (Some (x ∷ xs)) = tt

list_there : (path : Option Text) → IsThere (path_only unread.EmptyList path)
list_there None = tt
list_there (Some []) = tt
list_there (Some (x ∷ xs)) = tt

dest_there : (path : Option Text) → IsThere (path_only unread.EmptyDest path)
dest_there None = tt
dest_there (Some []) = tt
dest_there (Some (x ∷ xs)) = tt

id_there : (id : Text) → IsThere (id_only id)
id_there [] = tt
id_there (x ∷ xs) = tt

module _ (rows : List Row) where
  -- the parts of a command, each of what must be there for it
  pub layout_there : (size_text count_text : Text) (size count : ℕ)
      → one_of (codes "tuple-size") rows ≡ Some size_text → number_of size_text ≡ Some size
      → one_of (codes "tuples") rows ≡ Some count_text → number_of count_text ≡ Some count
      → IsThere (layout_in rows)
  layout_there size_text count_text size count e1 e2 e3 e4 = rw (e1, e2, e3, e4) (cut_there (layout_of size count))

  portion_there : IsThere (portion_in rows)
  portion_there =
      then_there (judged unread.Share (share_asked (first_of (codes "share") rows))) _ (share_there _)
      (λ numbered. then_there (judged unread.Folders (divided (first_of (codes "share") rows) (first_of (codes "by-folders") rows) numbered)) _
      (folders_judged _) (λ share. tt))

  pub meta_there : (created name message : Text) → first_of (codes "created") rows ≡ Some created → first_of (codes "name") rows ≡ Some name
      → first_of (codes "message") rows ≡ Some message → IsThere (meta_in rows)
  meta_there created name message e1 e2 e3 = rw (e1, e2, e3) (described_there _ (meta_refusal created name))

  pub job_there : (meta : MetaParts) (digest : Text) (algorithm : Algorithm) → first_of (codes "digest") rows ≡ Some digest
      → algorithm_of digest ≡ Some algorithm
      → IsThere (layout_in rows) → IsThere (job_in meta rows)
  job_there meta digest algorithm e1 e2 cuts =
      rw (e1, e2) (then_there (layout_in rows) _ cuts (λ tuples. then_there (portion_in rows) _ portion_there (λ share. tt)))

  pub feedback_there : (when interval_text : Text) (progress : Progress) (interval : ℕ) → first_of (codes "progress") rows ≡ Some when
      → progress_of when ≡ Some progress
      → one_of (codes "interval") rows ≡ Some interval_text → number_of interval_text ≡ Some interval → IsThere (feedback_in rows)
  feedback_there when interval_text progress interval e1 e2 e3 e4 =
      rw (e1, e2, e3, e4) (then_there (path_only unread.EmptyEvent (first_of (codes "event") rows)) _ (event_there _) (λ event. tt))

  pub folders_there : (source dest : Text) → first_of (codes "SOURCE") rows ≡ Some source → first_of (codes "DEST") rows ≡ Some dest → IsThere (folders_in rows)
  folders_there source dest e1 e2 = rw (e1, e2) tt

  -- the commands, of their parts
  pub migration_there : IsThere (meta_in rows) → ((meta : MetaParts) → IsThere (job_in meta rows)) → IsThere (feedback_in rows) → IsThere (folders_in rows)
      → IsThere (migration_in rows)
  migration_there meta job feedback folders =
      then_there (run_options_in rows) _
      (then_there (meta_in rows) _ meta (λ m. then_there (job_in m rows) _ (job m)
      (λ j. then_there (ignored_in rows) _ (ignored_there (all_of (codes "ignore") rows)) (λ i. then_there (feedback_in rows) _ feedback (λ f. tt)))))
      (λ o. then_there (folders_in rows) _ folders (λ f. then_there (path_only unread.EmptyList (first_of (codes "list") rows)) _ (list_there _) (λ l. tt)))

  pub audit_there : ((meta : MetaParts) → IsThere (job_in meta rows)) → IsThere (feedback_in rows) → IsThere (folders_in rows) → IsThere (audit_in rows)
  audit_there job feedback folders =
      then_there (audit_options_in rows) _
      (then_there audit_meta _ audit_meta_there (λ m. then_there (job_in m rows) _ (job m)
      (λ j. then_there (ignored_in rows) _ (ignored_there (all_of (codes "ignore") rows)) (λ i. then_there (feedback_in rows) _ feedback (λ f. tt)))))
      (λ o. then_there (folders_in rows) _ folders (λ f. then_there (path_only unread.EmptyList (first_of (codes "list") rows)) _ (list_there _) (λ l. tt)))

  pub check_there : (source : Text) → first_of (codes "SOURCE") rows ≡ Some source → IsThere (layout_in rows) → IsThere (feedback_in rows)
      → IsThere (check_in rows)
  check_there source e1 cuts feedback =
      then_there (layout_in rows) _ cuts (λ l. then_there (portion_in rows) _ portion_there
      (λ s. then_there (ignored_in rows) _ (ignored_there (all_of (codes "ignore") rows))
      (λ i. then_there (path_only unread.EmptyDest (first_of (codes "dest") rows)) _ (dest_there _)
      (λ d. then_there (feedback_in rows) _ feedback
      (λ f. then_there (path_only unread.EmptyList (first_of (codes "list") rows)) _ (list_there _) (λ p. rw e1 tt))))))

  pub names_there : (id : Text) → first_of (codes "ID") rows ≡ Some id → IsThere (layout_in rows) → IsThere (names_in rows)
  names_there id e1 cuts = rw e1 (then_there (id_only id) _ (id_there id) (λ x. then_there (layout_in rows) _ cuts (λ l. tt)))

-- The root is read as far as the survey has seen: what a step of the survey leaves to be read.
use Rattle.std.proofs.Common.{
  ◌≡◌,
  ◌<◌,
  ◌≤◌,
  ◌+◌,
  ◌-◌,
  ℕ,
  zero,
  suc,
  Bool,
  true,
  false,
  List,
  [],
  ◌∷◌,
  ◌++◌,
  refl,
  ap,
  sym,
  ◌∙◌,
  subst,
  arith,
  inl,
  inr,
  ◌⊎◌,
  append-nil,
  cond,
  drop,
  length,
  take,
}
use Rattle.std.specs.Prelude.{All, Option, None, Some, Ok, is_some, unwrap_or}
use Rattle.std.specs.Bool.{MatchBool, OnTrue}
use Rattle.std.specs.Option.{option_map}
use Rattle.std.proofs.lemmas.Bool.{true≢false}
use Rattle.std.proofs.lemmas.List.{length-append, length-drop, take-append-drop, take-append-le, take_all}
use Rattle.std.proofs.lemmas.List.Elements.{All-nil}
use Rattle.pt_audit.specs.Auditing.{IsAt, is_told}
use Rattle.pt_audit.specs.RootReader.{
  AreAlike,
  AreAlikeAtHand,
  AreFew,
  BehindAt,
  CanFollow,
  Follows,
  HasBegun,
  HoldsItsFields,
  HasEnded,
  HaveRead,
  IsAlikeAt,
  IsBehind,
  IsClosed,
  IsOpened,
  IsPaced,
  PacedAt,
  ReadBehind,
  ReadBeside,
  Saw,
  StaysClosed,
}
use Rattle.pt_audit.specs.declared.root_reader.RootReader.{RootReader}
use Rattle.pt_invariant.proofs.source.InPairtree.{file_in_pairtree}
use Rattle.pt_invariant.specs.HeldInvariant.{RowsAt}
use Rattle.pt_compare.proofs.Opening.{dir_above}
use Rattle.pt_compare.proofs.Passed.{block_is}
use Rattle.pt_compare.specs.Beside.{StandsAlike}
use Rattle.pt_compare.specs.Bytes.{left_in}
use Rattle.pt_object.specs.Object.{in_content}
use Rattle.pt_compare.proofs.Roots.{top_stands}
use Rattle.pt_compare.specs.Root.{Reads, Stands}
use Rattle.pt_move.specs.Running.{Running}
use Rattle.pt_object.specs.Algorithm.{digest_of}
use Rattle.pt_object.specs.Contents.{content_of, is_noted, noted}
use Rattle.pt_object.specs.declared.table.contents.Content.{Content}
use Rattle.pt_plan.specs.Job.{Job}
use Rattle.pt_plan.specs.Run.{Held}
use Rattle.pt_plan.specs.TurnScan.{
  EndsFile,
  EndsObject,
  EndsSite,
  EntersDirectory,
  EntersObject,
  IsTooDeep,
  IsTooLong,
  LeavesDirectory,
  MeetsDeep,
  MeetsLimit,
  MeetsOther,
  OpensFile,
  PassesShorty,
  ReadsOn,
  ScanStep,
  StartsInSite,
  logical_path,
}
use Rattle.pt_plan.specs.TurnWalk.{in_pairtree, in_root}
use Rattle.pt_plan.specs.DeviceStates.{Answers, Calls}
use Rattle.pt_plan.specs.declared.object.Object.{Object}
use Rattle.pt_plan.specs.declared.phase.Phase.{Phase}
use Rattle.pt_plan.specs.declared.phase.Opening.TheVariants as opening
use Rattle.pt_plan.specs.declared.phase.Phase.TheVariants as phase
use Rattle.pt_plan.specs.declared.phase.Stage.TheVariants as stage
use Rattle.pt_scan.proofs.ObjectPaths.{logical_is, logical_within}
use Rattle.pt_scan.specs.Blocks.{IsNextBlock, is_reading}
use Rattle.pt_state.specs.States.{held_of, job_of}
use Rattle.pt_state.specs.declared.state.State.{State}
use Rattle.pt_audit.proofs.Stepping.{stands_so}
use Rattle.pt_audit.specs.Files.{Scanned, ScansOn, is_of_object, is_scanning}
use Rattle.pt_plan.specs.Object.{names_before}
use Rattle.pt_audit.specs.Surveying.{IsHand, IsHandAt, Surveys, passed, sight_at}
use Rattle.pt_audit.specs.declared.survey.ObjectAtHand.{ObjectAtHand}
use Rattle.pt_audit.specs.declared.survey.SurveyEvent.{SurveyEvent}
use Rattle.pt_audit.specs.declared.survey.SurveyEvent.TheVariants as sight
use Rattle.pt_tree.specs.Forest.{Forest}
use Rattle.pt_tree.proofs.Below.{whole_of}
use Rattle.pt_tree.specs.Path.{Path, rest_below}
use Rattle.pt_tree.specs.Source.{IsRead, Reading, after_next, tree_in}
use Rattle.pt_tree.specs.declared.kind.Kind.TheVariants as kind
use Rattle.pt_walk.specs.Left.{bytes_at}
use Rattle.pt_walk.specs.Trail.{names_to}
use Rattle.pt_walk.specs.declared.frame.Frame.{Frame}

-- ---- a file that was opened

pub opened : {told : Option Reading} {object : Object} {s : State} → Surveys told (record { phase = phase.Carrying object (stage.Read zero); state = s })
    → IsOpened told object s
unfolding Surveys
opened {told} {object} {s} (count, it) =
    let there = stands_so told (phase.Carrying object (stage.Read zero)) s refl (count, it) in
    let is_one = it.is.held.trail.is_one in
    let names = names_to s.trail in
    let n = names_before object in
    let short = length-drop n names in
    record {
      within = logical_within object s.trail is_one there.0 there.1 names n refl refl;
      logical = logical_is object s.trail is_one there.0 there.1 names n refl refl names (drop n names) refl
          (sym (take_all (length names - n) (drop n names) (omega (arith, short))));
      unread = λ r e.
          let known = (it.is.source r e).at in
          known.2.read.left ∙ ap (λ o. Some (unwrap_or o [])) (sym (file_in_pairtree r.tree names known.0.store));
    }

-- ---- contents that stay

alike_on : (told told' root : Option Reading) (b : RootReader) (contents contents' : List Content) → tree_in told' ≡ tree_in told → contents' ≡ contents
    → AreAlike told root b contents → AreAlike told' root b contents'
unfolding AreAlike
alike_on told told' root b contents contents' tree same alike =
    let P : Option Forest → Content → Type 0 = λ t content. StandsAlike t (tree_in root) (in_root b.place) (in_content content.path)
    (in_pairtree (b.from ++ content.path)) in
    subst (λ t. All (P t) (take b.alike contents')) (sym tree) (subst (λ (c : List Content). All (P (tree_in told)) (take b.alike c)) (sym same) alike)

few_on : (b : RootReader) (contents contents' : List Content) → contents' ≡ contents → AreFew b contents → AreFew b contents'
few_on b contents contents' same few = subst (AreFew b) (sym same) few

-- with others at the end
alike_more : (told told' root : Option Reading) (b : RootReader) (contents contents' more : List Content) → tree_in told' ≡ tree_in told
    → contents' ≡ contents ++ more → b.alike ≤ length contents → AreAlike told root b contents → AreAlike told' root b contents'
unfolding AreAlike
alike_more told told' root b contents contents' more tree same few alike =
    let P : Option Forest → Content → Type 0 = λ t content. StandsAlike t (tree_in root) (in_root b.place) (in_content content.path)
    (in_pairtree (b.from ++ content.path)) in
    subst (λ t. All (P t) (take b.alike contents')) (sym tree)
    (subst (λ (c : List Content). All (P (tree_in told)) c) (sym (ap (take b.alike) same ∙ take-append-le b.alike contents more few)) alike)

-- outside an object nothing is said
elsewhere : (told root : Option Reading) (b : RootReader) (p : Phase) (s : State) → is_of_object p ≡ false → BehindAt told root b p s
elsewhere told root b (phase.Carrying object stage.Scan) s off = absurd (true≢false off)
elsewhere told root b (phase.Carrying object (stage.Read bytes)) s off = absurd (true≢false off)
elsewhere told root b (phase.Carrying object stage.Line) s off = absurd (true≢false off)
elsewhere told root b _ s off = tt

closed_behind : (told root : Option Reading) (b : RootReader) (contents : List Content) → b.reads ≡ false → OnTrue b.reads (HasEnded told root b contents)
closed_behind told root b contents closed = subst (λ (x : Bool). OnTrue x (HasEnded told root b contents)) (sym closed) tt

-- ---- a block that was read of both

-- what the source told before it was read
record WasRead (told : Option Reading) (read : Reading) : Type 0 where
  was : Reading
  told_is : told ≡ Some was
  read_is : read ≡ after_next was

was_read : (told : Option Reading) (read : Reading) → option_map after_next told ≡ Some read → WasRead told read
was_read None read is = absurd (cc)
was_read (Some r) read is = record { was = r; told_is = refl; read_is = (let same : after_next r ≡ read = cc in sym same) }

-- so the file of the source goes on behind the block
have_read : {r read t : Reading} {b : RootReader} {path : Path} {block : List ℕ} → HaveRead r t b path [] → read ≡ after_next r → IsRead (Some r) block
    → HaveRead read t b path block
have_read {r} {read} {t} {b} {path} {block} it is next =
    let front : take 8192 it.rest ≡ block = block_is (Some r) it.rest block next it.unread in
    let goes : it.rest ≡ block ++ drop 8192 it.rest = sym (take-append-drop 8192 it.rest) ∙ ap (λ (x : List ℕ). x ++ drop 8192 it.rest) front in
    record {
      so_far = it.so_far;
      rest = drop 8192 it.rest;
      left = it.left;
      file = ap (λ (s : Reading). bytes_at s.tree (in_pairtree (b.from ++ path))) is ∙ it.file ∙ ap (λ (x : List ℕ). it.so_far ++ x) goes;
      unread = ap (λ (s : Reading). s.unread) is ∙ ap (option_map (drop 8192)) it.unread;
      stands = it.stands;
      beside = it.beside;
    }

read_on : {told told' root : Option Reading} {b : RootReader} {object : Object} {s s' : State} {block : List ℕ} → told' ≡ option_map after_next told
    → IsRead told block → s'.trail ≡ s.trail → s'.contents ≡ s.contents → ReadBeside told root b object s [] → ReadBeside told' root b object s' block
unfolding IsRead
read_on {told} {told'} {root} {b} {object} {s} {s'} {block} moved next trail contents it = record {
  all = it.all ∙ ap length (sym contents);
  path = ap names_to trail ∙ it.path ∙ ap (λ (t : List Frame). b.from ++ logical_path object t) (sym trail);
  same = λ read e t f.
      let before = was_read told read (sym moved ∙ e) in
      subst (λ (x : List Frame). HaveRead read t b (logical_path object x) block) (sym trail)
      (have_read (it.same before.was before.told_is t f) before.read_is (λ r is. next r (before.told_is ∙ is)));
}

-- the end of a file
none_left : (n : ℕ) (rest : List ℕ) → 0 < n → take n rest ≡ [] → rest ≡ []
none_left zero rest some none = absurd (omega (arith, some))
none_left (suc n) [] some none = refl
none_left (suc n) (x ∷ rest) some none = absurd (cc)

noted_so : (contents : List Content) (digest : List ℕ) (path : Path) (n : ℕ) → n ≡ length contents → (after : List Content) → after ≡ noted contents digest path
    → (length after ≡ n) ⊎ ((front : List Content) × (last : Content) × (after ≡ front ++ last ∷ []) × (length front ≡ n) × (last.path ≡ path))
noted_so contents digest path n all after is = by (is_noted contents digest) refl
  where
    by : (x : Bool) → is_noted contents digest ≡ x → (length after ≡ n) ⊎ ((front : List Content) × (last : Content) × (after ≡ front ++ last ∷ [])
        × (length front ≡ n) × (last.path ≡ path))
    by true same = inl (ap length (is ∙ ap (λ x. cond x contents (contents ++ content_of digest path ∷ [])) same) ∙ sym all)
    by false other = inr (contents, content_of digest path, is ∙ ap (λ x. cond x contents (contents ++ content_of digest path ∷ [])) other, sym all, refl)

ended : {told told' root : Option Reading} {b : RootReader} {object : Object} {s : State} {after : List Content} (digest : List ℕ)
    → told' ≡ option_map after_next told → IsRead told [] → after ≡ noted s.contents digest (logical_path object s.trail) → ReadBeside told root b object s []
    → HasEnded told' root b after
unfolding IsRead
ended {told} {told'} {root} {b} {object} {s} {after} digest moved next is it = record {
  path = logical_path object s.trail;
  stored = noted_so s.contents digest (logical_path object s.trail) b.alike it.all after is;
  same = λ read e t f.
      let before = was_read told read (sym moved ∙ e) in
      let so_far = it.same before.was before.told_is t f in
      let all = have_read so_far before.read_is (λ r is. next r (before.told_is ∙ is)) in
      let none : so_far.rest ≡ [] = none_left 8192 so_far.rest (omega arith) (block_is told so_far.rest [] next (ap left_in before.told_is ∙ so_far.unread)) in
      (all, ap (λ (r : Reading). r.unread) before.read_is ∙ ap (option_map (drop 8192)) so_far.unread ∙ ap (λ (x : List ℕ). Some (drop 8192 x)) none);
}

noted_more : (contents : List Content) (digest : List ℕ) (path : Path) → (more : List Content) × (noted contents digest path ≡ contents ++ more)
noted_more contents digest path = by (is_noted contents digest) refl
  where
    by : (x : Bool) → is_noted contents digest ≡ x → (more : List Content) × (noted contents digest path ≡ contents ++ more)
    by true same = ([], ap (λ x. cond x contents (contents ++ content_of digest path ∷ [])) same ∙ sym (append-nil contents))
    by false other = (content_of digest path ∷ [], ap (λ x. cond x contents (contents ++ content_of digest path ∷ [])) other)

on_true : (x : Bool) (P Q : Type 0) → (P → Q) → OnTrue x P → OnTrue x Q
on_true true P Q f p = f p
on_true false P Q f p = tt

-- ---- a step of the survey

pub none_taken : (n : ℕ) (contents : List Content) → contents ≡ [] → take n contents ≡ []
none_taken zero contents is = refl
none_taken (suc n) [] is = refl
none_taken (suc n) (content ∷ contents) is = absurd (cc)

alike_none : (told root : Option Reading) (b : RootReader) (contents : List Content) → contents ≡ [] → AreAlike told root b contents
unfolding AreAlike
alike_none told root b contents none =
    let P : Content → Type 0 = λ content. StandsAlike (tree_in told) (tree_in root) (in_root b.place) (in_content content.path)
    (in_pairtree (b.from ++ content.path)) in
    subst (All P) (sym (none_taken b.alike contents none)) (All-nil P)

module _ (told told' root : Option Reading) (b : RootReader) (s s' : State) (tree : tree_in told' ≡ tree_in told) where
  scanned : {job : Job} {here next : Phase} {held after : Held} {calls : Calls} (fed later : List ℕ) → ScanStep job here held after calls (Ok next)
      → held ≡ held_of s fed → after ≡ held_of s' later → Answers calls.asked told told' → OnTrue (is_reading here) (IsNextBlock told s'.block.items next)
      → ((object : Object) → here ≡ phase.Carrying object stage.Open → s.contents ≡ [])
      → ((object : Object) → next ≡ phase.Carrying object (stage.Read zero) → IsOpened told' object s') → PacedAt told root b here s
      → BehindAt told' root b (passed next) s'
  unfolding Answers AreFew
  scanned fed later (StartsInSite h object _) held after answers block none here_opened paced =
      let empty : s'.contents ≡ [] = sym (ap (λ (x : Held). x.contents) after) ∙ ap (λ (x : Held). x.contents) held ∙ none object refl in
      (alike_none told' root b s'.contents empty, inr empty, closed_behind told' root b s'.contents paced)
  scanned fed later (EntersObject h object items _ _) held after answers block none here_opened paced =
      let empty : s'.contents ≡ [] = sym (ap (λ (x : Held). x.contents) after) ∙ ap (λ (x : Held). x.contents) held ∙ none object refl in
      (alike_none told' root b s'.contents empty, inr empty, closed_behind told' root b s'.contents paced)
  scanned fed later (IsTooDeep h object _ _) held after answers block none here_opened paced = tt
  scanned fed later (PassesShorty h object item _ _) held after answers block none here_opened paced =
      let same : s'.contents ≡ s.contents = sym (ap (λ (x : Held). x.contents) after) ∙ ap (λ (x : Held). x.contents) held in (
        alike_on told told' root b s.contents s'.contents tree same paced.1,
        few_on b s.contents s'.contents same paced.2,
        closed_behind told' root b s'.contents
            paced.0,
      )
  scanned fed later (EntersDirectory h object name items _ _ _) held after answers block none here_opened paced =
      let same : s'.contents ≡ s.contents = sym (ap (λ (x : Held). x.contents) after) ∙ ap (λ (x : Held). x.contents) held in (
        alike_on told told' root b s.contents s'.contents tree same paced.1,
        few_on b s.contents s'.contents same paced.2,
        closed_behind told' root b s'.contents
            paced.0,
      )
  scanned fed later (MeetsDeep h object name _ _ _) held after answers block none here_opened paced = tt
  scanned fed later (OpensFile h object name _ _) held after answers block none here_opened paced =
      let same : s'.contents ≡ s.contents = sym (ap (λ (x : Held). x.contents) after) ∙ ap (λ (x : Held). x.contents) held in
      (alike_on told told' root b s.contents s'.contents tree same paced.1, here_opened object refl)
  scanned fed later (MeetsLimit h object name _ _) held after answers block none here_opened paced = tt
  scanned fed later (MeetsOther h object name _) held after answers block none here_opened paced = tt
  scanned fed later (EndsSite h object _ _) held after answers block none here_opened paced =
      let same : s'.contents ≡ s.contents = sym (ap (λ (x : Held). x.contents) after) ∙ ap (λ (x : Held). x.contents) held in
      alike_on told told' root b s.contents s'.contents tree same paced.1
  scanned fed later (EndsObject h object _ _ _) held after answers block none here_opened paced =
      let same : s'.contents ≡ s.contents = sym (ap (λ (x : Held). x.contents) after) ∙ ap (λ (x : Held). x.contents) held in
      alike_on told told' root b s.contents s'.contents tree same paced.1
  scanned fed later (LeavesDirectory h object _ _ _) held after answers block none here_opened paced =
      let same : s'.contents ≡ s.contents = sym (ap (λ (x : Held). x.contents) after) ∙ ap (λ (x : Held). x.contents) held in (
        alike_on told told' root b s.contents s'.contents tree same paced.1,
        few_on b s.contents s'.contents same paced.2,
        closed_behind told' root b s'.contents
            paced.0,
      )
  scanned fed later (ReadsOn h object bytes byte more _) held after answers block none here_opened paced =
      let same : s'.contents ≡ s.contents = sym (ap (λ (x : Held). x.contents) after) ∙ ap (λ (x : Held). x.contents) held in
      let trail : s'.trail ≡ s.trail = sym (ap (λ (x : Held). x.trail) after) ∙ ap (λ (x : Held). x.trail) held in
      let longer : suc (bytes + length more) ≡ bytes + length (byte ∷ more) = omega arith in
      subst (λ n. ReadBehind told' root b object n s') longer (
        alike_on told told' root b s.contents s'.contents tree same paced.0,
        subst (λ (c : List Content). b.alike ≤ length c) (sym same) paced.1,
        on_true b.reads
            (ReadBeside told root b object s []) (ReadBeside told' root b object s' s'.block.items) (read_on answers.1 block trail same) paced.2,
      )
  scanned fed later (IsTooLong h object bytes byte more _) held after answers block none here_opened paced = tt
  scanned {job} fed later (EndsFile h object bytes) held after answers block none here_opened paced =
      let is : s'.contents ≡ noted s.contents (digest_of job.algorithm h.fed) (logical_path object s.trail) =
      sym (ap (λ (x : Held). x.contents) after) ∙ ap (λ (x : Held). noted x.contents (digest_of job.algorithm h.fed) (logical_path object x.trail)) held in
      let more = noted_more s.contents (digest_of job.algorithm h.fed) (logical_path object s.trail) in
      let whole : s'.contents ≡ s.contents ++ more.0 = is ∙ more.1 in
      let long : length s'.contents ≡ length s.contents + length more.0 = ap length whole ∙ length-append s.contents more.0 in (
        alike_more told told' root b s.contents s'.contents more.0 tree whole paced.1 paced.0,
        inl (omega (arith, long, paced.1)),
        on_true b.reads
            (ReadBeside told root b object s []) (HasEnded told' root b s'.contents) (ended (digest_of job.algorithm h.fed) answers.1 answers.0 is) paced.2,
      )

none_yet : (told : Option Reading) (r : Running) (object : Object) → r.phase ≡ phase.Carrying object stage.Open → Surveys told r → r.state.contents ≡ []
unfolding Surveys
none_yet told r object is (count, it) = (subst (λ (p : Phase). RowsAt (job_of r.state.job) it.past.bytes p (held_of r.state it.fed)) is
    it.is.held.rows).contents

pub behind : (told told' root : Option Reading) (b : RootReader) (r r' : Running) → Surveys told r → Surveys told' r' → ScansOn told told' r r'
    → tree_in told' ≡ tree_in told → IsPaced told root b r → IsBehind told' root b r'
behind told told' root b r r' was now step tree paced = by (is_scanning r.phase) refl
  where
    in_object : Scanned told told' r r' → IsBehind told' root b r'
    in_object it =
        subst (λ (p : Phase). BehindAt told' root b p r'.state) (sym it.here)
        (scanned told told' root b r.state r'.state tree it.fed it.later it.scans refl refl it.answers it.block (λ object is. none_yet told r object is was)
        (λ object is. opened (subst (λ (p : Phase). Surveys told' (record { phase = p; state = r'.state })) (it.here ∙ ap passed is) now)) paced)

    by : (x : Bool) → is_scanning r.phase ≡ x → IsBehind told' root b r'
    by true is = in_object (subst (λ x. MatchBool x (Scanned told told' r r') (is_of_object r'.phase ≡ false)) is step)
    by false is = elsewhere told' root b r'.phase r'.state (subst (λ x. MatchBool x (Scanned told told' r r') (is_of_object r'.phase ≡ false)) is step)

-- ---- an audit that is to begin

pub holds_its_fields : (b : RootReader) → HoldsItsFields b
holds_its_fields b = (
  record { alloc = b.alloc; from = b.from; place = b.place; folder = b.folder; alike = b.alike; reads = b.reads; block = b.block.items },
  refl,
)

pub follows_first : (source root : Option Reading) (b : RootReader) (r : Running) → HasBegun b → r.phase ≡ phase.Opening opening.Begin → Surveys source r
    → Follows source root b r
follows_first source root b r new begin under_way = record {
  holds = holds_its_fields b;
  under_way = under_way;
  paced = subst (λ (p : Phase). PacedAt source root b p r.state) (sym begin) new.1;
  can = record {
    folder = subst (λ (p : Path). Stands (tree_in root) (p, kind.Dir)) (sym new.2) (top_stands (tree_in root));
    reads = subst (λ (x : Bool). OnTrue x (Reads root)) (sym new.1) tt;
  };
}

-- ---- after what isn't of an object, nothing is read beside

-- the trees stay, and nothing is read beside
pub still_alike : (source source' root root' : Option Reading) (b : RootReader) (contents : List Content) → tree_in source' ≡ tree_in source
    → tree_in root' ≡ tree_in root → AreAlike source root b contents → AreAlike source' root' b contents
unfolding AreAlike
still_alike source source' root root' b contents same stays alike =
    let P : Option Forest → Option Forest → Content → Type 0 = λ s t content. StandsAlike s t (in_root b.place) (in_content content.path)
    (in_pairtree (b.from ++ content.path)) in
    subst (λ t. All (P (tree_in source') t) (take b.alike contents)) (sym stays)
    (subst (λ s. All (P s (tree_in root)) (take b.alike contents)) (sym same) alike)

pub follows_told : (source source' root root' : Option Reading) (b : RootReader) (r : Running) (what : SurveyEvent) → what ≡ sight_at r.phase
    → is_told what ≡ true → tree_in source' ≡ tree_in source → tree_in root' ≡ tree_in root → Surveys source' r → Follows source root b r
    → Follows source' root' b r
follows_told source source' root root' b r what saw told same stays under_way it =
    let stood = there r.phase (ap is_told (sym saw) ∙ told) it.paced in record {
      holds = it.holds;
      under_way = under_way;
      paced = stood.1;
      can = record {
        folder = subst (λ t. Stands t (b.folder, kind.Dir)) (sym stays) it.can.folder;
        reads = subst (λ (x : Bool). OnTrue x (Reads root')) (sym stood.0) tt;
      };
    }
  where
    there : (p : Phase) → is_told (sight_at p) ≡ true → PacedAt source root b p r.state → IsClosed b × PacedAt source' root' b p r.state
    there (phase.Opening opening.OpenRoot) is paced = (paced, paced)
    there (phase.Carrying object stage.Line) is paced = (paced.0, (paced.0, still_alike source source' root root' b r.state.contents same stays paced.1))
    there phase.End is paced = (paced, paced)
    there (phase.Carrying object (stage.Read zero)) is paced = absurd (true≢false (sym is))
    there (phase.Carrying object (stage.Read (suc bytes))) is paced = absurd (true≢false (sym is))
    there _ is paced = absurd (true≢false (sym is))

-- where nothing is read beside and nothing is held to be alike, the root is read as far as anything was seen
pub closed_paced : (source root : Option Reading) (old new : RootReader) (r : Running) → StaysClosed old new → IsPaced source root new r
unfolding AreAlike AreFew
closed_paced source root old new r closed = by r.phase
  where
    alike : (contents : List Content) → AreAlike source root new contents
    alike contents = subst (λ (n : ℕ). All (λ content. StandsAlike (tree_in source) (tree_in root) (in_root new.place) (in_content content.path)
        (in_pairtree (new.from ++ content.path))) (take n contents)) (sym closed.0) (All-nil _)

    few : (contents : List Content) → new.alike ≤ length contents
    few contents = let none = closed.0 in omega (arith, none)

    beside : (P : Type 0) → OnTrue new.reads P
    beside P = subst (λ (x : Bool). OnTrue x P) (sym closed.1) tt

    by : (p : Phase) → PacedAt source root new p r.state
    by (phase.Carrying object stage.Scan) = (closed.1, alike r.state.contents, inl (few r.state.contents))
    by (phase.Carrying object (stage.Read bytes)) = (alike r.state.contents, few r.state.contents, beside (ReadBeside source root new object r.state []))
    by (phase.Carrying object stage.Line) = (closed.1, alike r.state.contents)
    by _ = closed.1

-- and it can be read on
pub closed_can : (root : Option Reading) (old new : RootReader) → StaysClosed old new → CanFollow root old → CanFollow root new
closed_can root old new closed can = record {
  folder = subst (λ (p : Path). Stands (tree_in root) (p, kind.Dir)) (sym closed.2) can.folder;
  reads = subst (λ (x : Bool). OnTrue x (Reads root)) (sym closed.1) tt;
}

-- what a step came to
pub at_sight : {source root : Option Reading} {b : RootReader} {what : SurveyEvent} {r : Running} → Saw source root b what r → IsAt source what r
at_sight it = record { under_way = it.follows.under_way; saw = it.saw }

-- ---- the object at hand

pub alike_at_hand : (source root : Option Reading) (b : RootReader) (r : Running) (hand : ObjectAtHand) (alike : ℕ) → sight_at r.phase ≡ sight.Object
    → IsHand r hand → Follows source root b r → IsAlikeAt b hand.told.at hand.told.to.now alike
    → AreAlikeAtHand (tree_in source) (tree_in root) hand alike
unfolding AreAlike
alike_at_hand source root b r hand alike is at it so = by r.phase is at it.paced
  where
    none : alike ≡ 0 → AreAlikeAtHand (tree_in source) (tree_in root) hand alike
    none zero_is = subst (λ n. AreAlikeAtHand (tree_in source) (tree_in root) hand n) (sym zero_is) (All-nil _)

    Places : Path → Path → Content → Type 0
    Places f t content = StandsAlike (tree_in source) (tree_in root) (in_root t) (in_content content.path) (in_pairtree (f ++ content.path))

    same_place : hand.contents.now ≡ r.state.contents → AreAlike source root b r.state.contents
        → (alike ≡ b.alike) × (b.from ≡ hand.told.at) × (b.place ≡ hand.told.to.now) → AreAlikeAtHand (tree_in source) (tree_in root) hand alike
    same_place same alike_is (many, from, place) =
        subst (λ n. All (Places hand.told.at hand.told.to.now) (take n hand.contents.now)) (sym many)
        (subst (λ (c : List Content). All (Places hand.told.at hand.told.to.now) (take b.alike c)) (sym same)
        (subst (λ f. All (Places f hand.told.to.now) (take b.alike r.state.contents)) from
        (subst (λ t. All (Places b.from t) (take b.alike r.state.contents)) place alike_is)))

    by : (p : Phase) → sight_at p ≡ sight.Object → IsHandAt p r.state hand → PacedAt source root b p r.state
        → AreAlikeAtHand (tree_in source) (tree_in root) hand alike
    by (phase.Carrying object stage.Line) is at paced = elim so.kept [ inl zero_is ↦ none zero_is | inr all ↦ same_place at.contents paced.1 all ]
    by (phase.Carrying object (stage.Read zero)) is at paced = absurd at
    by (phase.Carrying object (stage.Read (suc bytes))) is at paced = absurd at
    by _ is at paced = absurd at

-- so they are from where the two sides are read
pub alike_there : (source root : Option Forest) (hand : ObjectAtHand) (alike : ℕ) (from to : Path) → from ≡ in_pairtree hand.told.at
    → to ≡ in_root hand.told.to.now → AreAlikeAtHand source root hand alike
    → All (λ (content : Content). StandsAlike source root to (in_content content.path) (from ++ content.path)) (take alike hand.contents.now)
alike_there source root hand alike from to from_is to_is it =
    subst (λ (f : Path). All (λ (content : Content). StandsAlike source root to (in_content content.path) (f ++ content.path)) (take alike hand.contents.now))
    (sym from_is)
    (subst (λ (t : Path). All (λ (content : Content). StandsAlike source root t (in_content content.path) (in_pairtree hand.told.at ++ content.path))
    (take alike hand.contents.now)) (sym to_is) it)

-- a folder that is known to stand has those above it
pub folder_stands : (tree : Option Forest) (path folder : Path) (known : Bool) → Stands tree (folder, kind.Dir) → known ≡ is_some (rest_below path folder)
    → known ≡ true → Stands tree (path, kind.Dir)
folder_stands tree path folder known stands is so = by (rest_below path folder) refl (sym is ∙ so)
  where
    by : (o : Option Path) → rest_below path folder ≡ o → is_some o ≡ true → Stands tree (path, kind.Dir)
    by None at some = absurd (cc)
    by (Some rest) at some = dir_above tree path rest (subst (λ (p : Path). Stands tree (p, kind.Dir)) (whole_of path folder rest at) stands)

pub ruleset pacing = (behind, at_sight)

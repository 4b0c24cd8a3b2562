-- What is read of the root after a step of the survey.
use Rattle.std.proofs.Common.{
  ◌≡◌,
  ◌≢◌,
  ◌<◌,
  ◌≤◌,
  ◌+◌,
  ℕ,
  zero,
  suc,
  Bool,
  true,
  false,
  List,
  [],
  ◌∷◌,
  ◌++◌,
  refl,
  ap,
  sym,
  ◌∙◌,
  subst,
  arith,
  inl,
  inr,
  ◌⊎◌,
  append_assoc,
  drop,
  length,
  min,
  take,
}
use Rattle.std.specs.Prelude.{All, Option, None, Some, ◌==◌}
use Rattle.std.specs.Bool.{OnTrue}
use Rattle.std.specs.Option.{option_and_then, option_map, option_map_or}
use Rattle.std.proofs.lemmas.Bool.{eqb-true}
use Rattle.std.proofs.lemmas.List.{length-append, take-append-drop, take-append-le, take_all, take_min}
use Rattle.std.proofs.lemmas.List.Elements.{All-nil, All-push}
use Rattle.pt_audit.proofs.Pacing.{still_alike}
use Rattle.pt_invariant.proofs.source.InPairtree.{some_same}
use Rattle.pt_audit.specs.RootReader.{AreAlike, AreFew, HasEnded, HaveRead, IsBehind, IsPaced, IsAtObject, IsOpened, PacedAt, BehindAt, ReadBeside}
use Rattle.pt_audit.specs.declared.root_reader.RootReader.{RootReader}
use Rattle.pt_compare.specs.Beside.{OpensStanding, StandsAlike}
use Rattle.pt_compare.specs.Bytes.{CameNext, TellsEnd, left_in}
use Rattle.pt_compare.specs.Marks.{inside}
use Rattle.pt_object.specs.Object.{in_content}
use Rattle.pt_compare.specs.Root.{is_standing, same_kind}
use Rattle.pt_move.proofs.Outcomes.{reading_of}
use Rattle.pt_move.specs.Running.{Running}
use Rattle.pt_object.specs.declared.table.contents.Content.{Content}
use Rattle.pt_plan.specs.TurnScan.{logical_path}
use Rattle.pt_plan.specs.TurnWalk.{in_pairtree, in_root}
use Rattle.pt_plan.specs.declared.object.Object.{Object}
use Rattle.pt_plan.specs.declared.phase.Phase.{Phase}
use Rattle.pt_plan.specs.declared.phase.Opening.TheVariants as opening
use Rattle.pt_plan.specs.declared.phase.Phase.TheVariants as phase
use Rattle.pt_plan.specs.declared.phase.Stage.TheVariants as stage
use Rattle.pt_state.specs.declared.state.State.{State}
use Rattle.pt_audit.specs.Surveying.{sight_at}
use Rattle.pt_audit.specs.Files.{IsOpened as IsOpenedFile, IsOpenedAt}
use Rattle.pt_plan.specs.Object.{names_before}
use Rattle.pt_audit.specs.declared.survey.OpenedFile.{OpenedFile}
use Rattle.pt_audit.specs.declared.survey.SurveyEvent.{SurveyEvent}
use Rattle.pt_audit.specs.declared.survey.SurveyEvent.TheVariants as sight
use Rattle.pt_tree.specs.Forest.{Dir, File, Forest, Node, Other, as_file, file_at, kind_of, node_at}
use Rattle.pt_tree.specs.Path.{Path}
use Rattle.pt_tree.specs.Source.{Reading, after_open, tree_in}
use Rattle.pt_tree.specs.Tree.{Bytes, entry_of, tree_of}
use Rattle.pt_tree.specs.declared.kind.Kind.TheVariants as kind
use Rattle.pt_walk.specs.Trail.{names_to}
use Rattle.pt_walk.specs.Left.{bytes_at}

-- ---- what the root told before

record Was (root : Option Reading) (now : Reading) : Type 0 where
  reading : Reading
  told : root ≡ Some reading
  tree : now.tree ≡ reading.tree

was_told : (root root' : Option Reading) (now : Reading) → tree_in root' ≡ tree_in root → root' ≡ Some now → Was root now
was_told None root' now same is = absurd (let none : None ≡ Some now.tree = sym same ∙ ap tree_in is in cc)
was_told (Some r) root' now same is = record { reading = r; told = refl; tree = (let one : Some now.tree ≡ Some r.tree = sym (ap tree_in is) ∙ same in cc) }

-- ---- a block

module _ (source root root' : Option Reading) (b : RootReader) (block : _) (object : Object) (s : State) (stays : tree_in root' ≡ tree_in root)
    (next : CameNext s.block.items root root') where
  both_read : (r t : Reading) (path : Path) → root' ≡ Some t → ((u : Reading) → root ≡ Some u → HaveRead r u b path s.block.items)
      → HaveRead r t (record b { reads = true; block = block }) path []
  unfolding CameNext
  both_read r t path is was =
      let before = was_told root root' t stays is in
      let it = was before.reading before.told in
      let came = next it.left (ap left_in before.told ∙ it.beside) in record {
        so_far = it.so_far ++ s.block.items;
        rest = it.rest;
        left = came.0;
        file = it.file ∙ sym (append_assoc it.so_far s.block.items it.rest);
        unread = it.unread;
        stands = ap (λ f. inside f (in_root b.place) (in_content path)) before.tree ∙ it.stands
            ∙ ap (λ (x : List ℕ). Some (Bytes x)) (ap (λ (x : List ℕ). it.so_far ++ x) came.2 ∙ sym (append_assoc it.so_far s.block.items came.0));
        beside = sym (ap left_in is) ∙ came.1;
      }

  beside_on : ReadBeside source root b object s s.block.items → ReadBeside source root' (record b { reads = true; block = block }) object s []
  beside_on it = record {
    all = it.all;
    path = it.path;
    same = λ r e t f. both_read r t (logical_path object s.trail) f (λ u g. it.same r e u g);
  }

pub read_paced : (source root root' : Option Reading) (b : RootReader) (block : _) (r : Running) (same : Bool) → sight_at r.phase ≡ sight.Block → b.reads ≡ true
    → tree_in root' ≡ tree_in root → (same ≡ true → CameNext r.state.block.items root root') → IsBehind source root b r
    → IsPaced source root' (record b { reads = same; block = block }) r
unfolding AreAlike
read_paced source root root' b block r same is reads stays next behind = by r.phase is behind
  where
    kept : {object : Object} (x : Bool) → (x ≡ true → CameNext r.state.block.items root root') → ReadBeside source root b object r.state r.state.block.items
        → OnTrue x (ReadBeside source root' (record b { reads = x; block = block }) object r.state [])
    kept {object} true next beside = beside_on source root root' b block object r.state stays (next refl) beside
    kept false next beside = tt

    by : (p : Phase) → sight_at p ≡ sight.Block → BehindAt source root b p r.state → PacedAt source root' (record b { reads = same; block = block }) p r.state
    by (phase.Carrying object (stage.Read zero)) is behind = absurd (cc)
    by (phase.Carrying object (stage.Read (suc bytes))) is behind = (
      still_alike source source root root' b r.state.contents refl stays behind.0,
      behind.1,
      kept same next (subst (λ (x : Bool). OnTrue x (ReadBeside source root b object r.state r.state.block.items)) reads behind.2),
    )
    by (phase.Opening opening.OpenRoot) is behind = absurd (cc)
    by _ is behind = absurd (cc)

-- ---- the end of a file

none_of : (left : List ℕ) → true ≡ (length left == 0) → left ≡ []
none_of [] is = refl
none_of (x ∷ left) is = absurd (let none = eqb-true (length (x ∷ left)) 0 (sym is) in omega (arith, none))

one_more : (source root root' : Option Reading) (b : RootReader) (block : _) (contents : List Content) → tree_in root' ≡ tree_in root → TellsEnd root true
    → b.alike < length contents → AreAlike source root b contents → HasEnded source root b contents
    → AreAlike source root' (record b { alike = b.alike + 1; reads = false; block = block }) contents
unfolding AreAlike StandsAlike TellsEnd
one_more source root root' b block contents stays ended more alike it = by it.stored
  where
    P : Option Forest → Content → Type 0
    P t content = StandsAlike (tree_in source) t (in_root b.place) (in_content content.path) (in_pairtree (b.from ++ content.path))

    this : (content : Content) → content.path ≡ it.path → P (tree_in root') content
    this content at = λ s e f g.
        let here = reading_of source e in
        let there = reading_of root' g in
        let before = was_told root root' there.0 stays there.1 in
        let same = it.same here.0 here.1 before.reading before.told in
        let have = same.0 in
        let rest_none : have.rest ≡ [] = some_same have.rest [] (sym have.unread ∙ same.1) in
        let left_none : have.left ≡ [] = none_of have.left (ended have.left (ap left_in before.told ∙ have.beside)) in
        let tree : f ≡ before.reading.tree = sym there.2 ∙ before.tree in
        let file : bytes_at s (in_pairtree (b.from ++ it.path)) ≡ have.so_far ++ [] =
        ap (λ x. bytes_at x (in_pairtree (b.from ++ it.path))) (sym here.2) ∙ have.file ∙ ap (λ (x : List ℕ). have.so_far ++ x) rest_none in
        let stands : inside f (in_root b.place) (in_content it.path) ≡ Some (Bytes (bytes_at s (in_pairtree (b.from ++ it.path)))) =
        ap (λ x. inside x (in_root b.place) (in_content it.path)) tree ∙ have.stands
        ∙ ap (λ (x : List ℕ). Some (Bytes x)) (ap (λ (x : List ℕ). have.so_far ++ x) left_none ∙ sym file) in
        subst (λ (p : Path). inside f (in_root b.place) (in_content p) ≡ Some (Bytes (bytes_at s (in_pairtree (b.from ++ p))))) (sym at) stands

    by : (length contents ≡ b.alike) ⊎ ((front : List Content) × (last : Content) × (contents ≡ front ++ last ∷ []) × (length front ≡ b.alike)
        × (last.path ≡ it.path)) → All (P (tree_in root')) (take (b.alike + 1) contents)
    by (inl same) = absurd (omega (arith, same, more))
    by (inr (front, last, is, long, at)) =
        let longer : length contents ≡ b.alike + 1 = ap length is ∙ length-append front (last ∷ []) ∙ ap (λ n. n + 1) long in
        let whole : take (b.alike + 1) contents ≡ front ++ last ∷ [] = take_all (b.alike + 1) contents (omega (arith, longer)) ∙ is in
        let first : take b.alike contents ≡ front = ap (take b.alike) is ∙ take-append-le b.alike front (last ∷ []) (omega (arith, long))
        ∙ take_all b.alike front (omega (arith, long)) in
        let before : All (P (tree_in root')) front = subst (λ t. All (P t) front) (sym stays) (subst (All (P (tree_in root))) first alike) in
        subst (All (P (tree_in root'))) (sym whole) (All-push (P (tree_in root')) front last before (this last at))

pub end_paced : (source root root' : Option Reading) (b : RootReader) (block : _) (r : Running) → sight_at r.phase ≡ sight.Scan → b.reads ≡ true
    → tree_in root' ≡ tree_in root → TellsEnd root true → b.alike < length r.state.contents → IsBehind source root b r
    → IsPaced source root' (record b { alike = b.alike + 1; reads = false; block = block }) r
unfolding AreFew
end_paced source root root' b block r is reads stays ended more behind = by r.phase is behind
  where
    by : (p : Phase) → sight_at p ≡ sight.Scan → BehindAt source root b p r.state
        → PacedAt source root' (record b { alike = b.alike + 1; reads = false; block = block }) p r.state
    by (phase.Carrying object stage.Scan) is behind = (
      refl,
      one_more source root root' b block r.state.contents stays ended more behind.0
          (subst (λ (x : Bool). OnTrue x (HasEnded source root b r.state.contents)) reads behind.2),
      inl (omega (arith, more)),
    )
    by (phase.Carrying object (stage.Read zero)) is behind = absurd (cc)
    by (phase.Carrying object (stage.Read (suc bytes))) is behind = absurd (cc)
    by (phase.Opening opening.OpenRoot) is behind = absurd (cc)
    by _ is behind = absurd (cc)

pub closed_paced : (source root root' : Option Reading) (b : RootReader) (block : _) (r : Running) → sight_at r.phase ≡ sight.Scan
    → tree_in root' ≡ tree_in root → IsBehind source root b r → IsPaced source root' (record b { reads = false; block = block }) r
unfolding AreAlike AreFew
closed_paced source root root' b block r is stays behind = by r.phase is behind
  where
    by : (p : Phase) → sight_at p ≡ sight.Scan → BehindAt source root b p r.state → PacedAt source root' (record b { reads = false; block = block }) p r.state
    by (phase.Carrying object stage.Scan) is behind = (refl, still_alike source source root root' b r.state.contents refl stays behind.0, behind.1)
    by (phase.Carrying object (stage.Read zero)) is behind = absurd (cc)
    by (phase.Carrying object (stage.Read (suc bytes))) is behind = absurd (cc)
    by (phase.Opening opening.OpenRoot) is behind = absurd (cc)
    by _ is behind = absurd (cc)

-- ---- any other step

pub other_paced : (source root : Option Reading) (b : RootReader) (r : Running) (what : SurveyEvent) → what ≡ sight_at r.phase → what ≢ sight.Scan
    → what ≢ sight.Opened → what ≢ sight.Block → IsBehind source root b r → IsPaced source root (record b { reads = false }) r
unfolding AreAlike
other_paced source root b r what saw scan opened block behind = by r.phase saw behind
  where
    by : (p : Phase) → what ≡ sight_at p → BehindAt source root b p r.state → PacedAt source root (record b { reads = false }) p r.state
    by (phase.Carrying object stage.Scan) is behind = absurd (scan is)
    by (phase.Carrying object (stage.Read zero)) is behind = absurd (opened is)
    by (phase.Carrying object (stage.Read (suc bytes))) is behind = absurd (block is)
    by (phase.Carrying object stage.Line) is behind = (refl, behind)
    by _ is behind = refl

-- ---- a file that was opened

-- so many contents are alike still, of the object that is begun with
alike_begun : (source root : Option Reading) (b b' : RootReader) (from place : Path) (m : ℕ) (contents : List Content) → IsAtObject from place b b'
    → m ≡ min b'.alike (length contents) → AreAlike source root b contents → AreAlike source root (record b' { alike = m }) contents
unfolding AreAlike
alike_begun source root b b' from place m contents it least alike =
    subst (λ (c : List Content). All (P b'.from b'.place) c) (sym (ap (λ n. take n contents) least ∙ take_min b'.alike contents)) (by it.kept)
  where
    P : Path → Path → Content → Type 0
    P f t content = StandsAlike (tree_in source) (tree_in root) (in_root t) (in_content content.path) (in_pairtree (f ++ content.path))

    by : (b'.alike ≡ 0) ⊎ ((b'.alike ≡ b.alike) × (b.from ≡ from) × (b.place ≡ place)) → All (P b'.from b'.place) (take b'.alike contents)
    by (inl none) = subst (λ n. All (P b'.from b'.place) (take n contents)) (sym none) (All-nil (P b'.from b'.place))
    by (inr (same, of, at)) =
        subst (λ n. All (P b'.from b'.place) (take n contents)) (sym same)
        (subst (λ f. All (P f b'.place) (take b.alike contents)) (of ∙ sym it.from_is)
        (subst (λ t. All (P b.from t) (take b.alike contents)) (at ∙ sym it.place_is) alike))

pub unopened_paced : (source root : Option Reading) (b b' : RootReader) (r : Running) (from place : Path) (m : ℕ) → sight_at r.phase ≡ sight.Opened
    → IsAtObject from place (record b { reads = false }) b' → m ≡ min b'.alike (length r.state.contents) → IsBehind source root b r
    → IsPaced source root (record b' { alike = m }) r
unfolding AreAlike
unopened_paced source root b b' r from place m is it least behind = by r.phase is behind
  where
    by : (p : Phase) → sight_at p ≡ sight.Opened → BehindAt source root b p r.state → PacedAt source root (record b' { alike = m }) p r.state
    by (phase.Carrying object (stage.Read zero)) is behind = (
      alike_begun source root (record b { reads = false }) b' from place m r.state.contents it least behind.0,
      omega (arith, least),
      subst (λ (x : Bool). OnTrue x (ReadBeside source root (record b' { alike = m }) object r.state [])) (sym it.reads) tt,
    )
    by (phase.Carrying object (stage.Read (suc bytes))) is behind = absurd (cc)
    by (phase.Opening opening.OpenRoot) is behind = absurd (cc)
    by _ is behind = absurd (cc)

-- what stands as a file has its bytes
file_stands : (f : Forest) (p : Path) → is_standing (Some f) (p, kind.File) ≡ true
    → (bytes : List ℕ) × (tree_of f p ≡ Some (Bytes bytes)) × (file_at f p ≡ Some bytes)
file_stands f p is = by (node_at (Dir f) p) is
  where
    by : (o : Option Node) → option_map_or (same_kind kind.File) (option_map kind_of o) false ≡ true
        → (bytes : List ℕ) × (option_map entry_of o ≡ Some (Bytes bytes)) × (option_and_then as_file o ≡ Some bytes)
    by None is = absurd (cc)
    by (Some (File bytes)) is = (bytes, refl, refl)
    by (Some (Dir d)) is = absurd (cc)
    by (Some Other) is = absurd (cc)

-- it was opened in the root
record Opened (root' : Option Reading) (whole : Path) (t : Reading) : Type 0 where
  bytes : List ℕ
  stands : tree_of t.tree whole ≡ Some (Bytes bytes)
  unread : t.unread ≡ Some bytes

was_opened : (root root' : Option Reading) (whole : Path) (t : Reading) → OpensStanding whole root root' true → root' ≡ Some t → Opened root' whole t
was_opened None root' whole t it is = absurd (let none : None ≡ Some t = sym it.1 ∙ is in cc)
was_opened (Some u) root' whole t it is =
    let there = file_stands u.tree whole it.0 in
    let now : t ≡ after_open whole u = some_same t (after_open whole u) (sym is ∙ it.1) in record {
      bytes = there.0;
      stands = ap (λ (r : Reading). tree_of r.tree whole) now ∙ there.1;
      unread = ap (λ (r : Reading). r.unread) now ∙ there.2;
    }

-- the file that the survey opened
pub record OpenedAt (r : Running) (file : OpenedFile) : Type 0 where
  pub path : file.path ≡ names_to r.state.trail
  pub places : (object : Object) → r.phase ≡ phase.Carrying object (stage.Read zero) → (file.place.now ≡ object.place) × (file.before ≡ names_before object)

pub opened_at : (r : Running) (file : OpenedFile) → sight_at r.phase ≡ sight.Opened → IsOpenedFile r file → OpenedAt r file
opened_at r file is there = by r.phase refl is there
  where
    same_object : (object other : Object) → phase.Carrying object (stage.Read zero) ≡ phase.Carrying other (stage.Read zero) → object ≡ other
    same_object object other is = cc

    by : (p : Phase) → r.phase ≡ p → sight_at p ≡ sight.Opened → IsOpenedAt p r.state file → OpenedAt r file
    by (phase.Carrying object (stage.Read zero)) here is there = record {
      path = there.1;
      places = λ other at. let same = same_object object other (sym here ∙ at) in (there.0 ∙ ap (λ (o : Object). o.place) same, there.2 ∙ ap names_before same);
    }
    by (phase.Carrying object (stage.Read (suc bytes))) here is there = absurd there
    by _ here is there = absurd there

-- the names of a path, cut in two
pub record Cut (path : Path) (before k : ℕ) (from logical : Path) : Type 0 where
  pub many : k ≡ min before (length path)
  pub front : from ≡ take k path
  pub back : logical ≡ drop k path

module _ (source root root' : Option Reading) (b b' : RootReader) (r : Running) (from logical whole : Path) (m before k : ℕ) (folder : Path) (object : Object)
    (it : IsAtObject from object.place (record b { reads = false }) b') (least : m ≡ min b'.alike (length r.state.contents)) (all : length r.state.contents ≤ m)
    (cut : Cut (names_to r.state.trail) before k from logical) (is_before : before ≡ names_before object) (at : whole
    ≡ in_root object.place ++ in_content logical) where
  abbrev Now : Bool → RootReader
  Now x = record b' { alike = m; reads = x; folder = folder }

  both_opened : OpensStanding whole root root' true → IsOpened source object r.state → ReadBeside source root' (Now true) object r.state []
  both_opened opens file =
      let few : k ≡ names_before object = (let within = file.within in omega (arith, cut.many, is_before, within)) in
      let logical_is : logical ≡ logical_path object r.state.trail = cut.back ∙ ap (λ n. drop n (names_to r.state.trail)) few ∙ file.logical in
      let path : names_to r.state.trail ≡ b'.from ++ logical_path object r.state.trail =
      sym (take-append-drop k (names_to r.state.trail)) ∙ ap (λ (p : Path). p ++ drop k (names_to r.state.trail)) (sym (it.from_is ∙ cut.front))
      ∙ ap (λ (p : Path). b'.from ++ p) (sym cut.back ∙ logical_is) in record {
        all = omega (arith, least, all);
        path = path;
        same = λ s e t f.
            let open_file = was_opened root root' whole t opens f in record {
              so_far = [];
              rest = bytes_at s.tree (in_pairtree (b'.from ++ logical_path object r.state.trail));
              left = open_file.bytes;
              file = refl;
              unread = file.unread s e ∙ ap (λ (p : Path). Some (bytes_at s.tree (in_pairtree p))) path;
              stands = ap (tree_of t.tree) (ap (λ (p : Path). in_root p ++ in_content (logical_path object r.state.trail)) it.place_is
                  ∙ ap (λ (p : Path). in_root object.place ++ in_content p) (sym logical_is) ∙ sym at) ∙ open_file.stands;
              beside = open_file.unread;
            };
      }

  opened_now : (x : Bool) → OpensStanding whole root root' x → IsOpened source object r.state → OnTrue x (ReadBeside source root' (Now x) object r.state [])
  opened_now true opens file = both_opened opens file
  opened_now false opens file = tt

pub opened_paced : (source root root' : Option Reading) (b b' : RootReader) (r : Running) (from logical place whole : Path) (m before k : ℕ) (folder : Path)
    (x : Bool) → sight_at r.phase ≡ sight.Opened → ((object : Object) → r.phase ≡ phase.Carrying object (stage.Read zero)
    → (place ≡ object.place) × (before ≡ names_before object)) → IsAtObject from place (record b { reads = false }) b'
    → m ≡ min b'.alike (length r.state.contents) → length r.state.contents ≤ m → Cut (names_to r.state.trail) before k from logical
    → whole ≡ in_root place ++ in_content logical → tree_in root' ≡ tree_in root → OpensStanding whole root root' x → IsBehind source root b r
    → IsPaced source root' (record b' { alike = m; reads = x; folder = folder }) r
unfolding AreAlike
opened_paced source root root' b b' r from logical place whole m before k folder x is of it least all cut at stays opens behind = by r.phase refl is behind
  where
    by : (p : Phase) → r.phase ≡ p → sight_at p ≡ sight.Opened → BehindAt source root b p r.state
        → PacedAt source root' (record b' { alike = m; reads = x; folder = folder }) p r.state
    by (phase.Carrying object (stage.Read zero)) here is behind =
        let same = of object here in (
          still_alike source source root root' (record b' { alike = m }) r.state.contents refl stays
              (alike_begun source root (record b { reads = false }) b' from place m r.state.contents it least behind.0),
          omega (arith, least),
          opened_now source root root' b b' r from logical whole m before k folder object
              (subst (λ (p : Path). IsAtObject from p (record b { reads = false }) b') same.0 it) least all cut same.1 (at
              ∙ ap (λ (p : Path). in_root p ++ in_content logical) same.0) x opens behind.1,
        )
    by (phase.Carrying object (stage.Read (suc bytes))) here is behind = absurd (cc)
    by (phase.Opening opening.OpenRoot) here is behind = absurd (cc)
    by _ here is behind = absurd (cc)

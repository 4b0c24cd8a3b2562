-- What the turns that look at a store tell is the line of the item that they end, where nothing stands at its place.
use Rattle.std.proofs.Common.{◌≡◌, ℕ, suc, Bool, true, false, List, [], ◌∷◌, ◌++◌, refl, ap, sym, ◌∙◌, subst, cond, length, append-nil}
use Rattle.std.specs.Prelude.{All, Option, None, Some, Ok, slice_get, nat_lt, unwrap_or}
use Rattle.std.proofs.lemmas.Bool.{or_left, or_right, true≢false}
use Rattle.pt_name.specs.Place.{place_of}
use Rattle.pt_name.specs.Share.{tells_at}
use Rattle.pt_tree.specs.Dest.{IsKindAt, Writing}
use Rattle.pt_tree.specs.Forest.{Forest, is_proper}
use Rattle.pt_tree.specs.Path.{Path}
use Rattle.pt_tree.specs.Source.{IsRead, Reading}
use Rattle.pt_tree.specs.declared.kind.Kind.TheVariants as kind
use Rattle.pt_walk.specs.Left.{bytes_at}
use Rattle.pt_walk.specs.Object.{entries, files}
use Rattle.pt_walk.specs.Site.{is_short}
use Rattle.pt_walk.specs.Trail.{current_entry, is_trail, names_to, trail_path}
use Rattle.pt_walk.specs.declared.cause.Cause.{Cause}
use Rattle.pt_walk.specs.declared.cause.Cause.TheVariants as cause
use Rattle.pt_walk.specs.declared.frame.Frame.{Frame}
use Rattle.pt_plan.specs.Answer.{Answer}
use Rattle.pt_plan.specs.Items.{Fails, Interior, Item, Named, Outcome, PairtreeObject, Skip, item_of, items, outcome}
use Rattle.pt_plan.specs.Job.{Job, reach_of}
use Rattle.pt_plan.specs.Lines.{Line, Skipped, line_by_outcome, line_by_verdict}
use Rattle.pt_plan.specs.Run.{Counts, Held}
use Rattle.pt_plan.specs.Store.{is_store, pairtree_of, prefix_of, sites_of}
use Rattle.pt_plan.specs.Turn.{Next, Make, Place, Scan, Start, Walk}
use Rattle.pt_object.proofs.ObjectScripts.{in_order_apart}
use Rattle.pt_object.specs.Algorithm.{digest_of}
use Rattle.pt_object.specs.FilePaths.{File, paths_of, row_paths}
use Rattle.pt_tree.specs.PathOrder.{part_in_order}
use Rattle.pt_object.specs.Object.{bytes_in, rows_of, stored_files}
use Rattle.pt_object.specs.declared.rows.Row.{Row}
use Rattle.pt_plan.specs.TurnMake.{path_of_source}
use Rattle.pt_plan.specs.TurnPlace as place
use Rattle.pt_plan.specs.TurnMake as make
use Rattle.pt_plan.specs.TurnScan.{
  EndsFile,
  EndsObject,
  EndsSite,
  EntersDirectory,
  EntersObject,
  IsTooDeep,
  IsTooLong,
  LeavesDirectory,
  MeetsDeep,
  MeetsLimit,
  MeetsOther,
  OpensFile,
  PassesShorty,
  ReadsOn,
  ScanStep,
  StartsInSite,
  is_beyond,
  logical_path,
  skipped,
  to_site,
}
use Rattle.pt_plan.specs.TurnStart as start
use Rattle.pt_plan.specs.TurnWalk.{
  EndsWalk,
  EntersSite,
  IsDeep,
  PassesElsewhere,
  IsNew,
  IsPast,
  IsPresent,
  IsSkipped,
  LeadsOn,
  LeavesSite,
  OpensRoot,
  PassesEntry,
  WalkStep,
  in_pairtree,
}
use Rattle.pt_plan.specs.DeviceStates.{Answers, Calls, Changes}
use Rattle.pt_plan.specs.declared.object.Object.{Object}
use Rattle.pt_plan.specs.declared.phase.Phase.{Phase}
use Rattle.pt_plan.specs.declared.phase.Phase.TheVariants as phase
use Rattle.pt_plan.specs.declared.phase.Stage.TheVariants as stage
use Rattle.pt_invariant.specs.HeldInvariant.{HeldAt}
use Rattle.pt_invariant.specs.SourceInvariant.{HasScanned, HasStarted, IsInObject, IsSiteOf, SourcePart, object_at}
use Rattle.pt_invariant.specs.History.{History, done_after}
use Rattle.pt_invariant.proofs.held.DistinctRows.{get_map}
use Rattle.pt_invariant.proofs.held.OwnFiles.{own_stored}
use Rattle.pt_invariant.proofs.items.PlacesTell.{comes_whole, done_told, files_are}
use Rattle.pt_invariant.proofs.items.ScansTell.{fails_at_directory, fails_at_file, fails_at_other, fails_before, item_of_site, named_so, too_long}
use Rattle.pt_invariant.proofs.items.WalksTell.{judged_next, judged_verdict, with_prefix}
use Rattle.pt_invariant.proofs.source.InObject.{site_itself}
use Rattle.pt_invariant.proofs.source.InPairtree.{file_in_pairtree, pairtree_proper}
use Rattle.pt_invariant.proofs.source.ReadsOn.{reads_block}
use Rattle.pt_invariant.proofs.source.WalksKeep.{deep_next, done_at_shorty, elsewhere_next, none_at_end, none_at_entry, past_next}
use Rattle.pt_audit.proofs.Held.{files_hold, rows_read}
use Rattle.pt_audit.specs.EmptyDest.{bare}
use Rattle.pt_audit.specs.Surveying.{HasAtHand, HaveOwnDigests, Leads, Nothing, Sees, Skips, SeesItem, is_looking, is_of_survey, passed}

-- ---- each kind of item

-- it only leads on
interior : {job : Job} {source : Forest} {here : Phase} {held : Held} {count : ℕ} {item : Item} → is_looking here ≡ true
    → slice_get (items job source) count ≡ Some item → item.verdict ≡ Interior → Sees job source count here held None (suc count)
interior {job} {item} looks is what = Leads looks (record { item = item; is = is; lines_are = ap (line_by_verdict job item.path false) what })

-- it is passed over
skip : {job : Job} {source : Forest} {here : Phase} {held : Held} {count : ℕ} {item : Item} (why : Cause) → is_looking here ≡ true
    → slice_get (items job source) count ≡ Some item → item.verdict ≡ Skip why → Sees job source count here held (Some (Skipped item.path why)) (suc count)
skip {job} {item} why looks is what = Skips looks item.path why (record { item = item; is = is; lines_are = ap (line_by_verdict job item.path false) what })

-- it is passed over and told, or only leads on
pass : (told : Bool) {job : Job} {source : Forest} {here : Phase} {held : Held} {count : ℕ} {item : Item} (why : Cause) → is_looking here ≡ true
    → slice_get (items job source) count ≡ Some item → item.verdict ≡ cond told (Skip why) Interior
    → Sees job source count here held (cond told (Some (Skipped item.path why)) None) (suc count)
pass true why looks is what = skip why looks is what
pass false _ looks is what = interior looks is what

-- its object comes to this
comes : {job : Job} {source : Forest} {count : ℕ} {item : Item} {id : List ℕ} {object : PairtreeObject} {of : Outcome}
    → slice_get (items job source) count ≡ Some item → item.verdict ≡ Named id object → outcome job.limits object ≡ of
    → SeesItem job source count (line_by_outcome item.path id object (place_of job.tuples id) of ∷ [])
comes {job} {item} {id} {object} is what of_is = record {
  item = item;
  is = is;
  lines_are = ap (line_by_verdict job item.path false) what ∙ ap (λ (o : Outcome). line_by_outcome item.path id object (place_of job.tuples id) o ∷ []) of_is;
}

-- ---- the walk

at_shorty : {job : Job} {source : Forest} {count : ℕ} (held : Held) {name : List ℕ} {line : Option Line} → current_entry held.trail ≡ Some (name, kind.Dir)
    → is_short name ≡ true → Sees job source count phase.Walk held line (suc count)
    → Sees job source count phase.Walk held line (done_after phase.Walk held.trail phase.Walk count)
at_shorty {job} {source} {count} held {name} {line} e short sees = subst (Sees job source count phase.Walk held line)
    (sym (done_at_shorty held.trail name count e short)) sees

pub walk_sees : {job : Job} {past : History} {s : Reading} {prefix : List ℕ} (new : Option Writing) {here next : Phase} {held after : Held} {calls : Calls}
    → WalkStep job prefix here held after calls (Ok next) → is_trail held.trail ≡ true → SourcePart job past here prefix held s
    → Changes calls.change (Some bare) new → Sees job s.tree past.count here held calls.line (done_after here held.trail next past.count)
unfolding Changes IsKindAt
walk_sees {job} {s} {prefix} _ (LeadsOn was is) _ part _ =
    interior refl (judged_next part.at.2) (with_prefix job was.trail part.at.1
    (judged_verdict job s.tree prefix was.trail (pairtree_proper s.tree part.at.1.store part.proper) part.at.2.way.entered part.at.2.way.fits is))
walk_sees {job} {s} {prefix} _ (IsSkipped was _ is) _ part _ =
    skip _ refl (judged_next part.at.2) (with_prefix job was.trail part.at.1
    (judged_verdict job s.tree prefix was.trail (pairtree_proper s.tree part.at.1.store part.proper) part.at.2.way.entered part.at.2.way.fits is))
walk_sees _ (IsPresent _ _ _ _ _) _ _ change = absurd (let found = change.0 bare refl in cc)
walk_sees {job} {past} {s} _ (IsPast was name e short last) _ part _ =
    at_shorty was e short
    (pass (tells_at job.share (names_to was.trail)) cause.Past refl
    (get_map (item_of job (prefix_of s.tree)) (sites_of (reach_of job) s.tree) past.count _
    (past_next job s.tree was.trail name past.count (pairtree_proper s.tree part.at.1.store part.proper) e short last part.at.2)) refl)
walk_sees {job} {past} {s} _ (IsDeep was name e short last deep) is_one part _ =
    at_shorty was e short
    (pass (tells_at job.share (names_to was.trail)) cause.Limit refl
    (get_map (item_of job (prefix_of s.tree)) (sites_of (reach_of job) s.tree) past.count _
    (deep_next job s.tree was.trail name past.count (pairtree_proper s.tree part.at.1.store part.proper) is_one e short last deep part.at.2)) refl)
walk_sees {job} {past} {s} _ (PassesElsewhere was name e short last deep apart) is_one part _ =
    at_shorty was e short
    (interior refl
    (get_map (item_of job (prefix_of s.tree)) (sites_of (reach_of job) s.tree) past.count _
    (elsewhere_next job s.tree was.trail name past.count (pairtree_proper s.tree part.at.1.store part.proper) is_one e short last deep apart part.at.2)) refl)
walk_sees {job} {past} {s} _ (PassesEntry was item e apart) _ _ _ =
    subst (Sees job s.tree past.count phase.Walk was None) (sym (none_at_entry was.trail item past.count e apart)) (Nothing refl)
walk_sees {job} {past} {s} _ (LeavesSite was e _) _ _ _ =
    subst (Sees job s.tree past.count phase.Walk was None) (sym (none_at_end was.trail past.count e)) (Nothing refl)
walk_sees _ (OpensRoot _ _) _ _ _ = Nothing refl
walk_sees _ (IsNew _ _ _ _) _ _ _ = Nothing refl
walk_sees _ (EntersSite _ _ _ _ _ _ _ _) _ _ _ = Nothing refl
walk_sees _ (EndsWalk _ _ _) _ _ _ = Nothing refl

-- ---- the scan

-- the next item is the object's
of_site : {job : Job} {source : Forest} {prefix : List ℕ} {object : Object} {site : List Frame} {count : ℕ} → IsSiteOf job source prefix object site count
    → slice_get (items job source) count ≡ Some (item_of_site job source site)
of_site {job} {source} {count} it = get_map (item_of job (prefix_of source)) (sites_of (reach_of job) source) count _ it.here.site

gives_up : {job : Job} {source : Forest} {prefix : List ℕ} {here : Phase} {object : Object} (held : Held) {count : ℕ} {why : Cause} → is_looking here ≡ true
    → HasStarted source prefix → IsInObject job source prefix object held.trail count
    → outcome job.limits (object_at source object (to_site object held.trail)) ≡ Fails why
    → Sees job source count here held (Some (skipped object held why)) (suc count)
gives_up {source} {object} held {why} looks started it of_is = Skips looks (trail_path (to_site object held.trail)) why
    (comes (of_site it.site) (named_so started it.site) of_is)

pub scan_sees : {job : Job} {past : History} {s : Reading} {prefix : List ℕ} {here next : Phase} {held after : Held} {calls : Calls}
    → ScanStep job here held after calls (Ok next) → is_trail held.trail ≡ true → SourcePart job past here prefix held s
    → (new : Option Reading) → Answers calls.asked (Some s) new → Sees job s.tree past.count here held calls.line (done_after here held.trail next past.count)
unfolding Answers IsRead
scan_sees (IsTooDeep was _ apart deep) is_one part _ _ = gives_up was refl part.at.1 part.at.2 (fails_before was.trail is_one apart deep part.at.3 part.at.2)
scan_sees {s} (MeetsDeep was object _ e apart deep) is_one part _ _ =
    gives_up was refl part.at.0 part.at.1.stands (fails_at_directory s.tree object was.trail (pairtree_proper s.tree part.at.0.store part.proper) is_one e apart
    deep part.at.1.stands.fits part.at.1.stands.within part.at.1.inside part.at.1.scanned)
scan_sees {job} {s} (MeetsLimit was object _ e room) _ part _ _ =
    gives_up was refl part.at.0 part.at.1.stands
    (fails_at_file s.tree object was.trail (pairtree_proper s.tree part.at.0.store part.proper) e
    (or_left (is_beyond job was (logical_path object was.trail)) (nat_lt job.limits.file_bytes
    (length (bytes_at (pairtree_of s.tree) (names_to was.trail)))) room) part.at.1.stands.fits part.at.1.inside part.at.1.scanned)
scan_sees {s} (MeetsOther was object _ e) _ part _ _ =
    gives_up was refl part.at.0 part.at.1.stands (fails_at_other s.tree object was.trail (pairtree_proper s.tree part.at.0.store part.proper) e
    part.at.1.stands.fits part.at.1.inside part.at.1.scanned)
scan_sees {job} {s} (IsTooLong was object bytes byte block long) _ part _ answers =
    let whole = bytes_at (pairtree_of s.tree) (names_to was.trail) in
    let within = (reads_block 8192 whole bytes was.fed _ s.unread part.at.2.read (answers.0 s refl)).within in
    gives_up was refl part.at.0 part.at.1.stands
    (fails_at_file s.tree object was.trail (pairtree_proper s.tree part.at.0.store part.proper) part.at.2.file
    (or_right (is_beyond job was (logical_path object was.trail)) (nat_lt job.limits.file_bytes (length whole))
    (too_long job.limits.file_bytes bytes (length (byte ∷ block)) long within)) part.at.1.stands.fits part.at.1.inside part.at.1.scanned)
scan_sees (StartsInSite _ _ _) _ _ _ _ = Nothing refl
scan_sees (EntersObject _ _ _ _ _) _ _ _ _ = Nothing refl
scan_sees (PassesShorty _ _ _ _ _) _ _ _ _ = Nothing refl
scan_sees (EntersDirectory _ _ _ _ _ _ _) _ _ _ _ = Nothing refl
scan_sees (OpensFile _ _ _ _ _) _ _ _ _ = Nothing refl
scan_sees (EndsSite _ _ _ _) _ _ _ _ = Nothing refl
scan_sees (EndsObject _ _ _ _ _) _ _ _ _ = Nothing refl
scan_sees (LeavesDirectory _ _ _ _ _) _ _ _ _ = Nothing refl
scan_sees (ReadsOn _ _ _ _ _ _) _ _ _ _ = Nothing refl
scan_sees (EndsFile _ _ _) _ _ _ _ = Nothing refl

-- ---- an object at hand

-- what is stored of its files, as they stand in the source below its directory, are their own bytes
module _ {job : Job} (source : Forest) (object : Object) (site : List Frame) {rows : List Row} {empty : ℕ} (store : is_store source ≡ true)
    (proper : is_proper source ≡ true) (it : HasScanned job (object_at source object site) rows empty []) where
  abbrev there : Path → List ℕ
  there path = bytes_at (pairtree_of source) (path_of_source object site ++ path)

  stored_there : part_in_order (row_paths rows) ≡ true
      → stored_files rows (λ path. bytes_at source (in_pairtree (path_of_source object site ++ path)))
      ≡ stored_files rows (bytes_in (files (entries (object_at source object site).inside)))
  stored_there order =
      (λ i. stored_files rows (λ path. unwrap_or (file_in_pairtree source (path_of_source object site ++ path) store i) []))
      ∙ own_stored rows there (in_order_apart (row_paths rows) order)
      ∙ ap (λ (l : List File). stored_files rows (bytes_in l)) (files_are source object site there (pairtree_proper source store proper) it (λ k d h. refl))

  bytes_there : part_in_order (row_paths rows) ≡ true
      → All (λ path. bytes_at source (in_pairtree (path_of_source object site ++ path)) ≡ bytes_in (files (entries (object_at source object site).inside)) path)
      (paths_of (files (entries (object_at source object site).inside)))
  bytes_there order =
      let own = files (entries (object_at source object site).inside) in
      subst (λ (held : Path → List ℕ). All (λ path. held path ≡ bytes_in own path) (paths_of own))
      (λ i path. unwrap_or (sym (file_in_pairtree source (path_of_source object site ++ path) store) i) [])
      (files_hold rows there own (files_are source object site there (pairtree_proper source store proper) it (λ k d h. refl))
      (in_order_apart (row_paths rows) order))

  read_there : HaveOwnDigests job source (path_of_source object site) rows
  read_there =
      let own = files (entries (object_at source object site).inside) in
      let front : entries (object_at source object site).inside ≡ it.front = it.all ∙ append-nil it.front in
      let held = files_are source object site there (pairtree_proper source store proper) it (λ k d h. refl) in
      subst (λ (held : Path → List ℕ). All (λ (row : Row). row.digest ≡ digest_of job.algorithm (held row.path)) rows)
      (λ i path. unwrap_or (sym (file_in_pairtree source (path_of_source object site ++ path) store) i) [])
      (rows_read job.algorithm there rows
      (it.rows_are ∙ ap (λ l. rows_of job.algorithm (files l)) (sym front) ∙ ap (rows_of job.algorithm) (sym held)))

pub has_at_hand : {job : Job} {past : History} {s : Reading} {prefix : List ℕ} {object : Object} {held : Held}
    → HeldAt job past (phase.Carrying object stage.Line) held → SourcePart job past (phase.Carrying object stage.Line) prefix held s
    → HasAtHand job s.tree past.count object held
has_at_hand {job} {past} {s} {object} {held} at part =
    let site = to_site object held.trail in
    let what = object_at s.tree object site in
    let it = part.at.1.scanned in
    let front : entries what.inside ≡ it.front = it.all ∙ append-nil it.front in
    record {
      item = item_of_site job s.tree site;
      inner = what;
      files = files (entries what.inside);
      is = of_site part.at.1.stands.site;
      named = named_so part.at.0 part.at.1.stands.site;
      whole = comes_whole it;
      rows = it.rows_are ∙ ap (λ l. rows_of job.algorithm (files l)) (sym front);
      stored = stored_there s.tree object site part.at.0.store part.proper it at.rows.order;
      bytes = bytes_there s.tree object site part.at.0.store part.proper it at.rows.order;
      digests = read_there s.tree object site part.at.0.store part.proper it;
      site = ap trail_path (site_itself object held.trail part.at.1.at_site);
      at = ap (path_of_source object) (site_itself object held.trail part.at.1.at_site);
      place = part.at.1.stands.place;
      lines_are = ap (line_by_verdict job (trail_path site) false) (named_so part.at.0 part.at.1.stands.site)
          ∙ ap (λ (o : Outcome). line_by_outcome (trail_path site) object.id what (place_of job.tuples object.id) o ∷ []) (comes_whole it)
          ∙ ap (λ (l : Line). l ∷ []) (done_told s.tree at it);
    }

-- ---- each turn that looks

-- the turns that make an object and that bring it to its place are none
pub making_is_none : {job : Job} {here : Phase} {held new : Held} {calls : Calls} {answer : Answer} → make.MakeStep job here held new calls answer
    → is_looking here ≡ false
making_is_none (make.MakesStaging _ _) = refl
making_is_none (make.MakesDeclaration _ _) = refl
making_is_none (make.MakesVersion _ _) = refl
making_is_none (make.PassesRow _ _ _ _ _ _) = refl
making_is_none (make.MakesFolder _ _ _ _ _ _ _) = refl
making_is_none (make.OpensCopy _ _ _ _ _ _ _) = refl
making_is_none (make.CopiesOn _ _ _ _ _ _ _) = refl
making_is_none (make.ReadsMore _ _ _ _ _ _ _) = refl
making_is_none (make.EndsCopy _ _ _ _ _ _ _) = refl
making_is_none (make.ReadsOther _ _ _ _ _ _ _) = refl
making_is_none (make.MakesVersionInventory _ _) = refl
making_is_none (make.MakesVersionSidecar _ _) = refl
making_is_none (make.MakesInventory _ _) = refl
making_is_none (make.MakesSidecar _ _) = refl

pub placing_is_none : {job : Job} {counts : Counts} {here : Phase} {held new : Held} {calls : Calls} {answer : Answer}
    → place.PlaceStep job counts here held new calls answer → is_looking here ≡ false
placing_is_none (place.MakesTuple _ _ _) = refl
placing_is_none (place.FindsTuple _ _ _) = refl
placing_is_none (place.IsInTheWay _ _ _ _ _) = refl
placing_is_none (place.RenamesObject _ _) = refl
placing_is_none (place.TellsDone _ _) = refl
placing_is_none (place.TellsEnd _) = refl

pub looks_sees : {job : Job} {counts : Counts} {past : History} {s : Reading} {prefix read : List ℕ} {here next : Phase} {held after : Held} {calls : Calls}
    → is_looking here ≡ true → Next job counts here prefix held read after calls (Ok next) → is_trail held.trail ≡ true → SourcePart job past here prefix held s
    → (new : Option Reading) → Answers calls.asked (Some s) new → (w : Option Writing) → Changes calls.change (Some bare) w
    → Sees job s.tree past.count here held calls.line (done_after here held.trail next past.count)
looks_sees _ (Start (start.IsStore _ _)) _ _ _ _ _ _ = Nothing refl
looks_sees _ (Start (start.HasNoPrefix _)) _ _ _ _ _ _ = Nothing refl
looks_sees _ (Start (start.HasPrefix _ _ _)) _ _ _ _ _ _ = Nothing refl
looks_sees is (Start (start.HasNoStaging _)) _ _ _ _ _ _ = absurd (true≢false (sym is))
looks_sees is (Start (start.HasNoRoot _)) _ _ _ _ _ _ = absurd (true≢false (sym is))
looks_sees is (Start (start.HasRoot _)) _ _ _ _ _ _ = absurd (true≢false (sym is))
looks_sees is (Start (start.MakesRoot _ _ _ _)) _ _ _ _ _ _ = absurd (true≢false (sym is))
looks_sees is (Start (start.RenamesRoot _)) _ _ _ _ _ _ = absurd (true≢false (sym is))
looks_sees is (Start (start.IsSame _ _ _ _ _)) _ _ _ _ _ _ = absurd (true≢false (sym is))
looks_sees _ (Walk turn) is_one part _ _ w change = walk_sees w turn is_one part change
looks_sees _ (Scan turn) is_one part new answers _ _ = scan_sees turn is_one part new answers
looks_sees is (Make turn) _ _ _ _ _ _ = absurd (true≢false (sym is ∙ making_is_none turn))
looks_sees is (Place turn) _ _ _ _ _ _ = absurd (true≢false (sym is ∙ placing_is_none turn))

-- ---- where a turn that looks leads

pub looks_on : {job : Job} {counts : Counts} {prefix read : List ℕ} {here next : Phase} {held after : Held} {calls : Calls} → is_looking here ≡ true
    → Next job counts here prefix held read after calls (Ok next) → is_of_survey (passed next) ≡ true
looks_on _ (Start (start.IsStore _ _)) = refl
looks_on _ (Start (start.HasNoPrefix _)) = refl
looks_on _ (Start (start.HasPrefix _ _ _)) = refl
looks_on is (Start (start.HasNoStaging _)) = absurd (true≢false (sym is))
looks_on is (Start (start.HasNoRoot _)) = absurd (true≢false (sym is))
looks_on is (Start (start.HasRoot _)) = absurd (true≢false (sym is))
looks_on is (Start (start.MakesRoot _ _ _ _)) = absurd (true≢false (sym is))
looks_on is (Start (start.RenamesRoot _)) = absurd (true≢false (sym is))
looks_on is (Start (start.IsSame _ _ _ _ _)) = absurd (true≢false (sym is))
looks_on _ (Walk turn) = walk_on turn
  where
    walk_on : {job : Job} {prefix : List ℕ} {here next : Phase} {held new : Held} {calls : Calls} → WalkStep job prefix here held new calls (Ok next)
        → is_of_survey (passed next) ≡ true
    walk_on (OpensRoot _ _) = refl
    walk_on (LeadsOn _ _) = refl
    walk_on (IsSkipped _ _ _) = refl
    walk_on (IsPresent _ _ _ _ _) = refl
    walk_on (IsNew _ _ _ _) = refl
    walk_on (IsPast _ _ _ _ _) = refl
    walk_on (IsDeep _ _ _ _ _ _) = refl
    walk_on (PassesElsewhere _ _ _ _ _ _ _) = refl
    walk_on (EntersSite _ _ _ _ _ _ _ _) = refl
    walk_on (PassesEntry _ _ _ _) = refl
    walk_on (LeavesSite _ _ _) = refl
    walk_on (EndsWalk _ _ _) = refl
looks_on _ (Scan turn) = scan_on turn
  where
    scan_on : {job : Job} {here next : Phase} {held new : Held} {calls : Calls} → ScanStep job here held new calls (Ok next) → is_of_survey (passed next) ≡ true
    scan_on (IsTooDeep _ _ _ _) = refl
    scan_on (MeetsDeep _ _ _ _ _ _) = refl
    scan_on (MeetsLimit _ _ _ _ _) = refl
    scan_on (MeetsOther _ _ _ _) = refl
    scan_on (IsTooLong _ _ _ _ _ _) = refl
    scan_on (StartsInSite _ _ _) = refl
    scan_on (EntersObject _ _ _ _ _) = refl
    scan_on (PassesShorty _ _ _ _ _) = refl
    scan_on (EntersDirectory _ _ _ _ _ _ _) = refl
    scan_on (OpensFile _ _ _ _ _) = refl
    scan_on (EndsSite _ _ _ _) = refl
    scan_on (EndsObject _ _ _ _ _) = refl
    scan_on (LeavesDirectory _ _ _ _ _) = refl
    scan_on (ReadsOn _ _ _ _ _ _) = refl
    scan_on (EndsFile _ _ _) = refl
looks_on is (Make turn) = absurd (true≢false (sym is ∙ making_is_none turn))
looks_on is (Place turn) = absurd (true≢false (sym is ∙ placing_is_none turn))

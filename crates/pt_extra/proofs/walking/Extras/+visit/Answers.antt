use Rattle.std.proofs.Common.{ap, arith, false, true, refl, sym, subst, ◌≡◌, ◌-◌, ◌∙◌, Some, cond, length}
use Rattle.std.proofs.lemmas.Bool.{ne_eqb}
use Rattle.std.specs.Option.{ForSome}
use Rattle.std.specs.Prelude.{IsSome}
use Rattle.pt_tree.specs.Source.{tree_in}
use Rattle.pt_extra.proofs.Entries.{passed_by, passed_part}
use Rattle.pt_extra.proofs.Exits.{bare_stops, bare_told, object_stops, object_told}
use Rattle.pt_extra.proofs.Keeping.{at_err, front_from, keeps_on, told_from}
use Rattle.pt_extra.proofs.Past.{
  begun_by,
  front_by,
  front_past_from,
  not_by,
  passed_on,
  past_from,
  past_err,
  past_err_of,
  past_later,
  past_le,
  past_of,
  past_on,
}
use Rattle.pt_extra.proofs.Visiting.{
  bare_deep,
  bare_empty,
  found_dir,
  found_folder,
  found_leaf,
  found_none,
  found_passed,
  front_still,
  is_walked,
  listed_at,
  next_stands,
  some_entry,
  stops_before,
  stops_dir,
  stops_leaf,
}
use Rattle.pt_tree.proofs.Told.{proper_in}
use Rattle.pt_extra.specs.Walk.{
  IsToldBelow,
  TellsUnlisted,
  against,
  failures_by,
  found_unnamed,
  walk_state,
}
use Rattle.pt_plan.specs.TurnWalk.{in_root}
use Rattle.pt_tree.specs.Failures.{HasRisen}
use Rattle.pt_tree.specs.Forest.{dir_at, listing_at}
use Rattle.pt_tree.specs.Path.{Path}
use Rattle.pt_walk.specs.Left.{inside_at}
use Rattle.pt_extra.proofs.walking.Extras.+visit.Goals as goal

pub list-requires : goal.list-requires
list-requires g t c =
    subst (λ (p : Path). ForSome (tree_in (g.R.Source.told c.args.self.now.root)) (λ tree. IsSome (dir_at tree p))) (sym c.in_ok-folder.ensures) c.requires

pub judge-requires : goal.judge-requires
judge-requires g t c = λ tree told.
    let in_folder : ForSome (tree_in (g.R.Source.told c.args.self.now.root)) (λ t. listing_at t c.in_ok-folder.folder ≡ Some c.in-Entries.found.listing) =
    rw c.in-Entries.is at c.in_ok-found.ensures.listed in
    in_folder tree (sym c.list.ensures.keeps.root_stays.1 ∙ told)

pub loop-i-init : goal.loop-i-init
loop-i-init g t c =
    let here = g.R.Source.told c.args.self.now.root in
    let items = c.in-Entries.found.listing in
    let old = c.args.self.now in
    let path = c.args.path.now in
    let in_folder : ForSome (tree_in here) (λ t. listing_at t c.in_ok-folder.folder ≡ Some items) = rw c.in-Entries.is at c.in_ok-found.ensures.listed in
    let listed = listed_at (tree_in here) c.in_ok-folder.folder path items c.in_ok-folder.ensures in_folder in
    let mid = c.list.new.self in
    let whole = c.in-Entries.found.is_whole in
    let told : cond whole (mid ≡ record old { root = mid.root }) (TellsUnlisted g.S.Source g.R.Source g.L.Log path old mid) =
    rw c.in-Entries.is at c.in_ok-found.ensures.told in
    let first = g.R.Source.failed old.root in
    let now = g.R.Source.failed mid.root in
    record {
      keeps = c.list.ensures.keeps;
      failed = c.in_ok-found.ensures.fails;
      found = λ s is r there.
          found_none first now (against old s) path c.args.left (inside_at r (in_root path)) whole (walk_state g.L.Log old) (walk_state g.L.Log mid)
          (begun_by g.S.Source g.R.Source g.L.Log old mid path s r is there whole told);
    }

pub loop-i-preserved-then-is_part : goal.loop-i-preserved-then-is_part
loop-i-preserved-then-is_part g t c =
    let here = g.R.Source.told c.args.self.now.root in
    let items = c.in-Entries.found.listing in
    let old = c.args.self.now in
    let path = c.args.path.now in
    let in_folder : ForSome (tree_in here) (λ t. listing_at t c.in_ok-folder.folder ≡ Some items) = rw c.in-Entries.is at c.in_ok-found.ensures.listed in
    let listed = listed_at (tree_in here) c.in_ok-folder.folder path items c.in_ok-folder.ensures in_folder in
    record {
      keeps = c.loop-i.invariant.keeps;
      failed = c.loop-i.invariant.failed;
      found = λ s is r there.
          found_passed (against old s) r path c.args.left items (proper_in here (g.met.R.Source.proper old.root) r there) (listed r there)
          (g.R.Source.failed old.root) (g.R.Source.failed c.loop-i.self.root) c.loop-i.i (walk_state g.L.Log old) (walk_state g.L.Log c.loop-i.self)
          (c.loop-i.invariant.found s is r there)
          c.in-Some.name.now c.in-Some.kind (sym c.in-Some.ensures)
          (passed_part old.job.share path c.in-Some.name.now c.in-Some.kind (sym c.if-is_part.ensures));
    }

pub loop-i-preserved-then-not-looks_at : goal.loop-i-preserved-then-not-looks_at
loop-i-preserved-then-not-looks_at g t c =
    let here = g.R.Source.told c.args.self.now.root in
    let items = c.in-Entries.found.listing in
    let old = c.args.self.now in
    let path = c.args.path.now in
    let in_folder : ForSome (tree_in here) (λ t. listing_at t c.in_ok-folder.folder ≡ Some items) = rw c.in-Entries.is at c.in_ok-found.ensures.listed in
    let listed = listed_at (tree_in here) c.in_ok-folder.folder path items c.in_ok-folder.ensures in_folder in
    record {
      keeps = c.loop-i.invariant.keeps;
      failed = c.loop-i.invariant.failed;
      found = λ s is r there.
          found_passed (against old s) r path c.args.left items (proper_in here (g.met.R.Source.proper old.root) r there) (listed r there)
          (g.R.Source.failed old.root) (g.R.Source.failed c.loop-i.self.root) c.loop-i.i (walk_state g.L.Log old) (walk_state g.L.Log c.loop-i.self)
          (c.loop-i.invariant.found s is r there)
          c.in-Some.name.now c.in-Some.kind (sym c.in-Some.ensures)
          (passed_by old.job.share c.loop-i.self.job.share path c.in_ok-entry.entry c.in-Some.name.now c.in-Some.kind false
          (ap (λ j. j.share) c.loop-i.invariant.keeps.job) (sym c.if-is_part.ensures) c.in_ok-entry.ensures c.if-not-looks_at.ensures);
    }

pub visit-requires : goal.visit-requires
visit-requires g t c κs within =
    let here = g.R.Source.told c.args.self.now.root in
    let items = c.in-Entries.found.listing in
    let old = c.args.self.now in
    let path = c.args.path.now in
    let in_folder : ForSome (tree_in here) (λ t. listing_at t c.in_ok-folder.folder ≡ Some items) = rw c.in-Entries.is at c.in_ok-found.ensures.listed in
    let listed = listed_at (tree_in here) c.in_ok-folder.folder path items c.in_ok-folder.ensures in_folder in
    let stands = next_stands here path c.in_ok-entry.entry items c.loop-i.i c.in-Some.name.now c.in-Some.kind
    (tree_in (g.R.Source.told c.loop-i.self.root)) (g.met.R.Source.proper old.root)
    listed (sym c.in-Some.ensures) c.in-Dir.is c.in_ok-entry.ensures c.loop-i.invariant.keeps.root_stays.1 in
    (omega (arith, c.if-left-eq0.false, c.decreases), (within.0, (within.1.0, (within.1.1.0, (within.1.1.1, stands)))))

pub loop-i-preserved-in-Dir : goal.loop-i-preserved-in-Dir
loop-i-preserved-in-Dir g t c =
    let here = g.R.Source.told c.args.self.now.root in
    let items = c.in-Entries.found.listing in
    let old = c.args.self.now in
    let path = c.args.path.now in
    let in_folder : ForSome (tree_in here) (λ t. listing_at t c.in_ok-folder.folder ≡ Some items) = rw c.in-Entries.is at c.in_ok-found.ensures.listed in
    let listed = listed_at (tree_in here) c.in_ok-folder.folder path items c.in_ok-folder.ensures in_folder in
    let kept = passed_by old.job.share c.loop-i.self.job.share path c.in_ok-entry.entry c.in-Some.name.now c.in-Some.kind true
    (ap (λ j. j.share) c.loop-i.invariant.keeps.job) (sym c.if-is_part.ensures) c.in_ok-entry.ensures c.if-not-looks_at.ensures in
    let entry = c.in_ok-entry.entry in
    let from = past_le (failures_by g.S.Source g.R.Source g.L.Log old) (failures_by g.S.Source g.R.Source g.L.Log c.loop-i.self) c.loop-i.invariant.failed in
    record {
      keeps = keeps_on g.S.Source g.R.Source g.L.Log g.met.S.Source.keeps_on g.met.R.Source.keeps_on g.met.L.Log.keeps_on old c.loop-i.self c.visit.new.self
          c.loop-i.invariant.keeps c.visit.ensures.keeps;
      failed = passed_on (failures_by g.S.Source g.R.Source g.L.Log old) (failures_by g.S.Source g.R.Source g.L.Log c.loop-i.self)
          (failures_by g.S.Source g.R.Source g.L.Log c.visit.new.self)
          c.loop-i.invariant.failed c.in_ok-visit.ensures.fails;
      found = λ s is r there.
          let of_it = past_from g.S.Source g.R.Source g.L.Log (IsToldBelow entry (c.args.left - 1)) old c.loop-i.self c.visit.new.self
          c.loop-i.invariant.keeps c.in_ok-visit.ensures.told s is r there in
          found_dir (against old s) r path c.args.left items (proper_in here (g.met.R.Source.proper old.root) r there) (listed r there)
          (g.R.Source.failed old.root) (g.R.Source.failed c.loop-i.self.root) c.loop-i.i (walk_state g.L.Log old) (walk_state g.L.Log c.loop-i.self)
          (c.loop-i.invariant.found s is r there)
          (g.R.Source.failed c.visit.new.self.root) c.in-Some.name.now c.in-Some.kind entry (walk_state g.L.Log c.visit.new.self) from
          (past_later c.visit.result (g.R.Source.failed old.root) (failures_by g.S.Source g.R.Source g.L.Log c.loop-i.self)
          (failures_by g.S.Source g.R.Source g.L.Log c.visit.new.self) from c.visit.ensures.fails)
          (sym c.in-Some.ensures) c.in-Dir.is kept c.in_ok-entry.ensures
          (record { told = of_it.0; may = of_it.1; puts = of_it.2 });
    }

pub loop-i-preserved : goal.loop-i-preserved
loop-i-preserved g t c =
    let here = g.R.Source.told c.args.self.now.root in
    let items = c.in-Entries.found.listing in
    let old = c.args.self.now in
    let path = c.args.path.now in
    let in_folder : ForSome (tree_in here) (λ t. listing_at t c.in_ok-folder.folder ≡ Some items) = rw c.in-Entries.is at c.in_ok-found.ensures.listed in
    let listed = listed_at (tree_in here) c.in_ok-folder.folder path items c.in_ok-folder.ensures in_folder in
    let kept = passed_by old.job.share c.loop-i.self.job.share path c.in_ok-entry.entry c.in-Some.name.now c.in-Some.kind true
    (ap (λ j. j.share) c.loop-i.invariant.keeps.job) (sym c.if-is_part.ensures) c.in_ok-entry.ensures c.if-not-looks_at.ensures in
    let entry = c.in_ok-entry.entry in
    let later = c.meet_stray.new.self in
    let from = past_le (failures_by g.S.Source g.R.Source g.L.Log old) (failures_by g.S.Source g.R.Source g.L.Log c.loop-i.self) c.loop-i.invariant.failed in
    let fails = past_of c.meet_stray.result (failures_by g.S.Source g.R.Source g.L.Log c.loop-i.self)
    (failures_by g.S.Source g.R.Source g.L.Log later) c.meet_stray.ensures.fails in
    record {
      keeps = keeps_on g.S.Source g.R.Source g.L.Log g.met.S.Source.keeps_on g.met.R.Source.keeps_on g.met.L.Log.keeps_on old c.loop-i.self
          later c.loop-i.invariant.keeps c.meet_stray.ensures.keeps;
      failed = passed_on (failures_by g.S.Source g.R.Source g.L.Log old) (failures_by g.S.Source g.R.Source g.L.Log c.loop-i.self)
          (failures_by g.S.Source g.R.Source g.L.Log later)
          c.loop-i.invariant.failed (g.R.Source.failed c.loop-i.self.root, omega (arith), c.in_ok-meet_stray.ensures.fails);
      found = λ s is r there.
          found_leaf (against old s) r path c.args.left items (proper_in here (g.met.R.Source.proper old.root) r there) (listed r there)
          (g.R.Source.failed old.root) (g.R.Source.failed c.loop-i.self.root) c.loop-i.i (walk_state g.L.Log old) (walk_state g.L.Log c.loop-i.self)
          (c.loop-i.invariant.found s is r there)
          (g.R.Source.failed later.root) c.in-Some.name.now c.in-Some.kind entry (walk_state g.L.Log later)
          (past_later c.meet_stray.result (g.R.Source.failed old.root) (failures_by g.S.Source g.R.Source g.L.Log c.loop-i.self)
          (failures_by g.S.Source g.R.Source g.L.Log later) from fails)
          (sym c.in-Some.ensures) c.in_default-kind.not-Dir kept c.in_ok-entry.ensures
          (told_from g.S.Source g.R.Source g.L.Log (found_unnamed entry) old c.loop-i.self later c.loop-i.invariant.keeps
          c.in_ok-meet_stray.ensures.told s is r there);
    }

pub unreachable-requires : goal.unreachable-requires
unreachable-requires g t c =
    some_entry c.in-Entries.found.listing c.loop-i.i (omega (arith, c.len-i-end.ensures.len, c.loop-i-test.true)) (sym c.in_default-get.ensures)

pub returns-in_default-clause-told : goal.returns-in_default-clause-told
returns-in_default-clause-told g t c =
    let old = c.args.self.now in
    let path = c.args.path.now in
    let unlisted : TellsUnlisted g.S.Source g.R.Source g.L.Log path old c.list.new.self = rw c.in_default.is at c.in_ok-found.ensures.told in
    λ s is r there.
    let put = not_by g.S.Source g.R.Source g.L.Log old c.list.new.self path s r is there c.args.left (inside_at r (in_root path)) unlisted in
    (put.told, put.may, put.puts)

pub returns-then-is_object-clause-told : goal.returns-then-is_object-clause-told
returns-then-is_object-clause-told g t c =
    let here = g.R.Source.told c.args.self.now.root in
    let items = c.in-Entries.found.listing in
    let old = c.args.self.now in
    let path = c.args.path.now in
    let in_folder : ForSome (tree_in here) (λ t. listing_at t c.in_ok-folder.folder ≡ Some items) = rw c.in-Entries.is at c.in_ok-found.ensures.listed in
    let listed = listed_at (tree_in here) c.in_ok-folder.folder path items c.in_ok-folder.ensures in_folder in
    let mid = c.list.new.self in
    let whole = c.in-Entries.found.is_whole in
    let told : cond whole (mid ≡ record old { root = mid.root }) (TellsUnlisted g.S.Source g.R.Source g.L.Log path old mid) =
    rw c.in-Entries.is at c.in_ok-found.ensures.told in
    let it = c.judge in
    object_told g.S.Source g.R.Source g.L.Log old mid it.new.self path c.args.left items whole listed told c.list.ensures.keeps
    c.in_ok-found.ensures.fails it.result it.ensures.fails c.in_ok-folder.folder c.in_ok-folder.ensures (sym c.if-is_object.ensures) it.ensures.told

pub returns-then-is_object-clause-stops : goal.returns-then-is_object-clause-stops
returns-then-is_object-clause-stops g t c =
    let here = g.R.Source.told c.args.self.now.root in
    let items = c.in-Entries.found.listing in
    let old = c.args.self.now in
    let path = c.args.path.now in
    let in_folder : ForSome (tree_in here) (λ t. listing_at t c.in_ok-folder.folder ≡ Some items) = rw c.in-Entries.is at c.in_ok-found.ensures.listed in
    let listed = listed_at (tree_in here) c.in_ok-folder.folder path items c.in_ok-folder.ensures in_folder in
    let mid = c.list.new.self in
    let whole = c.in-Entries.found.is_whole in
    let told : cond whole (mid ≡ record old { root = mid.root }) (TellsUnlisted g.S.Source g.R.Source g.L.Log path old mid) =
    rw c.in-Entries.is at c.in_ok-found.ensures.told in
    let it = c.judge in
    object_stops g.S.Source g.R.Source g.L.Log old mid it.new.self path c.args.left items whole listed told c.list.ensures.keeps
    c.in_ok-found.ensures.fails it.result it.ensures.fails c.in_ok-folder.folder c.in_ok-folder.ensures (sym c.if-is_object.ensures) it.ensures.stops

pub returns-then-left-eq0-clause-told : goal.returns-then-left-eq0-clause-told
returns-then-left-eq0-clause-told g t c =
    let here = g.R.Source.told c.args.self.now.root in
    let items = c.in-Entries.found.listing in
    let old = c.args.self.now in
    let path = c.args.path.now in
    let in_folder : ForSome (tree_in here) (λ t. listing_at t c.in_ok-folder.folder ≡ Some items) = rw c.in-Entries.is at c.in_ok-found.ensures.listed in
    let listed = listed_at (tree_in here) c.in_ok-folder.folder path items c.in_ok-folder.ensures in_folder in
    let mid = c.list.new.self in
    let whole = c.in-Entries.found.is_whole in
    let told : cond whole (mid ≡ record old { root = mid.root }) (TellsUnlisted g.S.Source g.R.Source g.L.Log path old mid) =
    rw c.in-Entries.is at c.in_ok-found.ensures.told in
    let it = c.meet_bare in
    bare_told g.S.Source g.R.Source g.L.Log old mid it.new.self path c.args.left items whole listed told c.list.ensures.keeps
    c.in_ok-found.ensures.fails it.result it.ensures.fails (sym c.if-is_object.ensures)
    (bare_deep c.args.left (length items) c.if-left-eq0.true) it.ensures.told

pub returns-then-left-eq0-clause-stops : goal.returns-then-left-eq0-clause-stops
returns-then-left-eq0-clause-stops g t c =
    let here = g.R.Source.told c.args.self.now.root in
    let items = c.in-Entries.found.listing in
    let old = c.args.self.now in
    let path = c.args.path.now in
    let in_folder : ForSome (tree_in here) (λ t. listing_at t c.in_ok-folder.folder ≡ Some items) = rw c.in-Entries.is at c.in_ok-found.ensures.listed in
    let listed = listed_at (tree_in here) c.in_ok-folder.folder path items c.in_ok-folder.ensures in_folder in
    let mid = c.list.new.self in
    let whole = c.in-Entries.found.is_whole in
    let told : cond whole (mid ≡ record old { root = mid.root }) (TellsUnlisted g.S.Source g.R.Source g.L.Log path old mid) =
    rw c.in-Entries.is at c.in_ok-found.ensures.told in
    let it = c.meet_bare in
    bare_stops g.S.Source g.R.Source g.L.Log old mid it.new.self path c.args.left items whole listed told c.list.ensures.keeps
    c.in_ok-found.ensures.fails it.result it.ensures.fails (sym c.if-is_object.ensures)
    (bare_deep c.args.left (length items) c.if-left-eq0.true) it.ensures.stops

pub returns-then-left-eq0-clause-keeps : goal.returns-then-left-eq0-clause-keeps
returns-then-left-eq0-clause-keeps g t c =
    keeps_on g.S.Source g.R.Source g.L.Log g.met.S.Source.keeps_on g.met.R.Source.keeps_on g.met.L.Log.keeps_on c.args.self.now c.list.new.self
    c.meet_bare.new.self c.list.ensures.keeps c.meet_bare.ensures.keeps

pub returns-then-left-eq0-clause-fails : goal.returns-then-left-eq0-clause-fails
returns-then-left-eq0-clause-fails g t c =
    past_on c.meet_bare.result (failures_by g.S.Source g.R.Source g.L.Log c.args.self.now)
    (failures_by g.S.Source g.R.Source g.L.Log c.list.new.self) (failures_by g.S.Source g.R.Source g.L.Log c.meet_bare.new.self) c.in_ok-found.ensures.fails
    (past_of c.meet_bare.result (failures_by g.S.Source g.R.Source g.L.Log c.list.new.self)
    (failures_by g.S.Source g.R.Source g.L.Log c.meet_bare.new.self) c.meet_bare.ensures.fails)

pub returns-then-is_empty-clause-told : goal.returns-then-is_empty-clause-told
returns-then-is_empty-clause-told g t c =
    let here = g.R.Source.told c.args.self.now.root in
    let items = c.in-Entries.found.listing in
    let old = c.args.self.now in
    let path = c.args.path.now in
    let in_folder : ForSome (tree_in here) (λ t. listing_at t c.in_ok-folder.folder ≡ Some items) = rw c.in-Entries.is at c.in_ok-found.ensures.listed in
    let listed = listed_at (tree_in here) c.in_ok-folder.folder path items c.in_ok-folder.ensures in_folder in
    let mid = c.list.new.self in
    let whole = c.in-Entries.found.is_whole in
    let told : cond whole (mid ≡ record old { root = mid.root }) (TellsUnlisted g.S.Source g.R.Source g.L.Log path old mid) =
    rw c.in-Entries.is at c.in_ok-found.ensures.told in
    let it = c.meet_bare-then-is_empty in
    bare_told g.S.Source g.R.Source g.L.Log old mid it.new.self path c.args.left items whole listed told c.list.ensures.keeps
    c.in_ok-found.ensures.fails it.result it.ensures.fails (sym c.if-is_object.ensures)
    (bare_empty c.args.left (length items) c.if-is_empty.ensures) it.ensures.told

pub returns-then-is_empty-clause-stops : goal.returns-then-is_empty-clause-stops
returns-then-is_empty-clause-stops g t c =
    let here = g.R.Source.told c.args.self.now.root in
    let items = c.in-Entries.found.listing in
    let old = c.args.self.now in
    let path = c.args.path.now in
    let in_folder : ForSome (tree_in here) (λ t. listing_at t c.in_ok-folder.folder ≡ Some items) = rw c.in-Entries.is at c.in_ok-found.ensures.listed in
    let listed = listed_at (tree_in here) c.in_ok-folder.folder path items c.in_ok-folder.ensures in_folder in
    let mid = c.list.new.self in
    let whole = c.in-Entries.found.is_whole in
    let told : cond whole (mid ≡ record old { root = mid.root }) (TellsUnlisted g.S.Source g.R.Source g.L.Log path old mid) =
    rw c.in-Entries.is at c.in_ok-found.ensures.told in
    let it = c.meet_bare-then-is_empty in
    bare_stops g.S.Source g.R.Source g.L.Log old mid it.new.self path c.args.left items whole listed told c.list.ensures.keeps
    c.in_ok-found.ensures.fails it.result it.ensures.fails (sym c.if-is_object.ensures)
    (bare_empty c.args.left (length items) c.if-is_empty.ensures) it.ensures.stops

pub returns-then-is_empty-clause-keeps : goal.returns-then-is_empty-clause-keeps
returns-then-is_empty-clause-keeps g t c =
    keeps_on g.S.Source g.R.Source g.L.Log g.met.S.Source.keeps_on g.met.R.Source.keeps_on g.met.L.Log.keeps_on c.args.self.now c.list.new.self
    c.meet_bare-then-is_empty.new.self c.list.ensures.keeps c.meet_bare-then-is_empty.ensures.keeps

pub returns-then-is_empty-clause-fails : goal.returns-then-is_empty-clause-fails
returns-then-is_empty-clause-fails g t c =
    past_on c.meet_bare-then-is_empty.result (failures_by g.S.Source g.R.Source g.L.Log c.args.self.now)
    (failures_by g.S.Source g.R.Source g.L.Log c.list.new.self)
    (failures_by g.S.Source g.R.Source g.L.Log c.meet_bare-then-is_empty.new.self) c.in_ok-found.ensures.fails
    (past_of c.meet_bare-then-is_empty.result (failures_by g.S.Source g.R.Source g.L.Log c.list.new.self)
    (failures_by g.S.Source g.R.Source g.L.Log c.meet_bare-then-is_empty.new.self) c.meet_bare-then-is_empty.ensures.fails)

pub returns-then-is_object-clause-keeps : goal.returns-then-is_object-clause-keeps
returns-then-is_object-clause-keeps g t c =
    keeps_on g.S.Source g.R.Source g.L.Log g.met.S.Source.keeps_on g.met.R.Source.keeps_on g.met.L.Log.keeps_on c.args.self.now c.list.new.self c.judge.new.self
    c.list.ensures.keeps c.judge.ensures.keeps

pub returns-then-is_object-clause-fails : goal.returns-then-is_object-clause-fails
returns-then-is_object-clause-fails g t c =
    past_on c.judge.result (failures_by g.S.Source g.R.Source g.L.Log c.args.self.now)
    (failures_by g.S.Source g.R.Source g.L.Log c.list.new.self) (failures_by g.S.Source g.R.Source g.L.Log c.judge.new.self) c.in_ok-found.ensures.fails
    (past_of c.judge.result (failures_by g.S.Source g.R.Source g.L.Log c.list.new.self)
    (failures_by g.S.Source g.R.Source g.L.Log c.judge.new.self) c.judge.ensures.fails)

pub returns-in_err-visit-clause-keeps : goal.returns-in_err-visit-clause-keeps
returns-in_err-visit-clause-keeps g t c =
    keeps_on g.S.Source g.R.Source g.L.Log g.met.S.Source.keeps_on g.met.R.Source.keeps_on g.met.L.Log.keeps_on c.args.self.now c.loop-i.self c.visit.new.self
    c.loop-i.invariant.keeps c.visit.ensures.keeps

pub returns-in_err-meet_stray-clause-keeps : goal.returns-in_err-meet_stray-clause-keeps
returns-in_err-meet_stray-clause-keeps g t c =
    keeps_on g.S.Source g.R.Source g.L.Log g.met.S.Source.keeps_on g.met.R.Source.keeps_on g.met.L.Log.keeps_on c.args.self.now c.loop-i.self
    c.meet_stray.new.self c.loop-i.invariant.keeps c.meet_stray.ensures.keeps

pub returns-in_err-visit-clause-fails : goal.returns-in_err-visit-clause-fails
returns-in_err-visit-clause-fails g t c =
    past_err c.in_err-visit.field-0.0 c.from_residual-in_err-visit.result (failures_by g.S.Source g.R.Source g.L.Log c.args.self.now)
    (failures_by g.S.Source g.R.Source g.L.Log c.loop-i.self) (failures_by g.S.Source g.R.Source g.L.Log c.visit.new.self) c.loop-i.invariant.failed
    c.in_err-visit.ensures.fails c.from_residual-in_err-visit.ensures.1

pub returns-in_err-meet_stray-clause-fails : goal.returns-in_err-meet_stray-clause-fails
returns-in_err-meet_stray-clause-fails g t c =
    past_err_of c.in_err-meet_stray.field-0.0 c.from_residual-in_err-meet_stray.result
    (failures_by g.S.Source g.R.Source g.L.Log c.args.self.now) (failures_by g.S.Source g.R.Source g.L.Log c.loop-i.self)
    (failures_by g.S.Source g.R.Source g.L.Log c.meet_stray.new.self) c.loop-i.invariant.failed
    c.in_err-meet_stray.ensures.fails c.from_residual-in_err-meet_stray.ensures.1

pub returns-clause-told : goal.returns-clause-told
returns-clause-told g t c =
    let here = g.R.Source.told c.args.self.now.root in
    let items = c.in-Entries.found.listing in
    let old = c.args.self.now in
    let path = c.args.path.now in
    let in_folder : ForSome (tree_in here) (λ t. listing_at t c.in_ok-folder.folder ≡ Some items) = rw c.in-Entries.is at c.in_ok-found.ensures.listed in
    let listed = listed_at (tree_in here) c.in_ok-folder.folder path items c.in_ok-folder.ensures in_folder in
    let walked = is_walked c.args.left items (sym c.if-is_object.ensures) (ne_eqb c.args.left 0 c.if-left-eq0.false) (sym c.if-is_empty.ensures) in
    λ s is r there.
    let put = found_folder (against old s) r path c.args.left items (proper_in here (g.met.R.Source.proper old.root) r there) (listed r there) walked
    (g.R.Source.failed old.root) (g.R.Source.failed c.loop-i.self.root) c.loop-i.i (walk_state g.L.Log old) (walk_state g.L.Log c.loop-i.self)
    (c.loop-i.invariant.found s is r there)
    (omega (arith, c.len-i-end.ensures.len, c.loop-i-test.false)) in
    (put.told, put.may, put.puts)

pub returns-in_err-folder-clause-stops : goal.returns-in_err-folder-clause-stops
returns-in_err-folder-clause-stops g t c =
    at_err c.from_residual.result
    (λ s is r there.
    let old = c.args.self.now in
    let path = c.args.path.now in
    let front = front_still (HasRisen (g.R.Source.failed old.root) (g.R.Source.failed old.root)) (against old s) path c.args.left (inside_at r (in_root path))
    (g.L.Log.told old.log) (g.L.Log.told old.log) refl in
    (front.told, front.may, front.part))

pub returns-in_err-found-clause-stops : goal.returns-in_err-found-clause-stops
returns-in_err-found-clause-stops g t c =
    at_err c.from_residual-in_err-found.result
    (λ s is r there.
    let old = c.args.self.now in
    let path = c.args.path.now in
    let front = front_by g.S.Source g.R.Source g.L.Log old c.list.new.self path s r is there c.args.left (inside_at r (in_root path))
    c.in_err-found.ensures.stops in
    (front.told, front.may, front.part))

pub returns-in_err-entry-clause-stops : goal.returns-in_err-entry-clause-stops
returns-in_err-entry-clause-stops g t c =
    let here = g.R.Source.told c.args.self.now.root in
    let items = c.in-Entries.found.listing in
    let old = c.args.self.now in
    let path = c.args.path.now in
    let in_folder : ForSome (tree_in here) (λ t. listing_at t c.in_ok-folder.folder ≡ Some items) = rw c.in-Entries.is at c.in_ok-found.ensures.listed in
    let listed = listed_at (tree_in here) c.in_ok-folder.folder path items c.in_ok-folder.ensures in_folder in
    let walked = is_walked c.args.left items (sym c.if-is_object.ensures) (ne_eqb c.args.left 0 c.if-left-eq0.false) (sym c.if-is_empty.ensures) in
    at_err c.from_residual-in_err-entry.result
    (λ s is r there.
    let front = stops_before (against old s) r path c.args.left items (proper_in here (g.met.R.Source.proper old.root) r there) (listed r there) walked
    (g.R.Source.failed old.root) (g.R.Source.failed c.loop-i.self.root) c.loop-i.i (walk_state g.L.Log old) (walk_state g.L.Log c.loop-i.self)
    (c.loop-i.invariant.found s is r there) in
    (front.told, front.may, front.part))

pub returns-in_err-visit-clause-stops : goal.returns-in_err-visit-clause-stops
returns-in_err-visit-clause-stops g t c =
    let here = g.R.Source.told c.args.self.now.root in
    let items = c.in-Entries.found.listing in
    let old = c.args.self.now in
    let path = c.args.path.now in
    let in_folder : ForSome (tree_in here) (λ t. listing_at t c.in_ok-folder.folder ≡ Some items) = rw c.in-Entries.is at c.in_ok-found.ensures.listed in
    let listed = listed_at (tree_in here) c.in_ok-folder.folder path items c.in_ok-folder.ensures in_folder in
    let kept = passed_by old.job.share c.loop-i.self.job.share path c.in_ok-entry.entry c.in-Some.name.now c.in-Some.kind true
    (ap (λ j. j.share) c.loop-i.invariant.keeps.job) (sym c.if-is_part.ensures) c.in_ok-entry.ensures c.if-not-looks_at.ensures in
    let walked = is_walked c.args.left items (sym c.if-is_object.ensures) (ne_eqb c.args.left 0 c.if-left-eq0.false) (sym c.if-is_empty.ensures) in
    let from = past_le (failures_by g.S.Source g.R.Source g.L.Log old) (failures_by g.S.Source g.R.Source g.L.Log c.loop-i.self) c.loop-i.invariant.failed in
    let entry = c.in_ok-entry.entry in
    let later = c.visit.new.self in
    at_err c.from_residual-in_err-visit.result
    (λ s is r there.
    let of_it = front_past_from g.S.Source g.R.Source g.L.Log (IsToldBelow entry (c.args.left - 1)) old c.loop-i.self later
    c.loop-i.invariant.keeps c.in_err-visit.ensures.stops s is r there in
    let front = stops_dir (against old s) r path c.args.left items (proper_in here (g.met.R.Source.proper old.root) r there) (listed r there) walked
    (g.R.Source.failed old.root) (g.R.Source.failed c.loop-i.self.root) c.loop-i.i (walk_state g.L.Log old) (walk_state g.L.Log c.loop-i.self)
    (c.loop-i.invariant.found s is r there)
    (g.R.Source.failed later.root) c.in-Some.name.now c.in-Some.kind entry (g.L.Log.told later.log) from
    (past_later c.visit.result (g.R.Source.failed old.root) (failures_by g.S.Source g.R.Source g.L.Log c.loop-i.self)
    (failures_by g.S.Source g.R.Source g.L.Log later) from c.visit.ensures.fails)
    (sym c.in-Some.ensures) c.in-Dir.is kept c.in_ok-entry.ensures
    (record { told = of_it.0; may = of_it.1; part = of_it.2 }) in
    (front.told, front.may, front.part))

pub returns-in_err-meet_stray-clause-stops : goal.returns-in_err-meet_stray-clause-stops
returns-in_err-meet_stray-clause-stops g t c =
    let here = g.R.Source.told c.args.self.now.root in
    let items = c.in-Entries.found.listing in
    let old = c.args.self.now in
    let path = c.args.path.now in
    let in_folder : ForSome (tree_in here) (λ t. listing_at t c.in_ok-folder.folder ≡ Some items) = rw c.in-Entries.is at c.in_ok-found.ensures.listed in
    let listed = listed_at (tree_in here) c.in_ok-folder.folder path items c.in_ok-folder.ensures in_folder in
    let kept = passed_by old.job.share c.loop-i.self.job.share path c.in_ok-entry.entry c.in-Some.name.now c.in-Some.kind true
    (ap (λ j. j.share) c.loop-i.invariant.keeps.job) (sym c.if-is_part.ensures) c.in_ok-entry.ensures c.if-not-looks_at.ensures in
    let walked = is_walked c.args.left items (sym c.if-is_object.ensures) (ne_eqb c.args.left 0 c.if-left-eq0.false) (sym c.if-is_empty.ensures) in
    let from = past_le (failures_by g.S.Source g.R.Source g.L.Log old) (failures_by g.S.Source g.R.Source g.L.Log c.loop-i.self) c.loop-i.invariant.failed in
    let entry = c.in_ok-entry.entry in
    let it = c.meet_stray in
    let later = it.new.self in
    at_err c.from_residual-in_err-meet_stray.result
    (λ s is r there.
    let front = stops_leaf (against old s) r path c.args.left items (proper_in here (g.met.R.Source.proper old.root) r there) (listed r there) walked
    (g.R.Source.failed old.root) (g.R.Source.failed c.loop-i.self.root) c.loop-i.i (walk_state g.L.Log old) (walk_state g.L.Log c.loop-i.self)
    (c.loop-i.invariant.found s is r there)
    (g.R.Source.failed later.root) c.in-Some.name.now c.in-Some.kind entry (g.L.Log.told later.log)
    (past_later it.result (g.R.Source.failed old.root) (failures_by g.S.Source g.R.Source g.L.Log c.loop-i.self)
    (failures_by g.S.Source g.R.Source g.L.Log later) from
    (past_of it.result (failures_by g.S.Source g.R.Source g.L.Log c.loop-i.self) (failures_by g.S.Source g.R.Source g.L.Log later) it.ensures.fails))
    (sym c.in-Some.ensures) c.in_default-kind.not-Dir kept c.in_ok-entry.ensures
    (front_from g.S.Source g.R.Source g.L.Log (found_unnamed entry) old c.loop-i.self later c.loop-i.invariant.keeps
    c.in_err-meet_stray.ensures.stops s is r there) in
    (front.told, front.may, front.part))

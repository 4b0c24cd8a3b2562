-- The turns of the scan of an object lower what is left.
use Rattle.std.proofs.Common.{◌≡◌, ◌-◌, ℕ, ◌+◌, List, [], ◌∷◌, refl, ap, sym, ◌∙◌, arith, cond, length}
use Rattle.std.specs.Prelude.{Some, sum_by}
use Rattle.std.proofs.lemmas.List.{length-append}
use Rattle.pt_object.specs.Algorithm.{digest_of}
use Rattle.pt_object.specs.Rows.{row_of}
use Rattle.pt_tree.specs.Forest.{listing_at}
use Rattle.pt_tree.specs.Source.{IsListed, IsRead}
use Rattle.pt_walk.specs.Left.{bytes_at}
use Rattle.pt_walk.specs.Trail.{advanced, entered, names_to, parent, sought}
use Rattle.pt_walk.specs.declared.frame.Frame.{Frame}
use Rattle.pt_plan.specs.Items.{PairtreeObject, outcome}
use Rattle.pt_plan.specs.Job.{Job}
use Rattle.pt_plan.specs.Store.{pairtree_of}
use Rattle.pt_plan.specs.TurnScan.{
  EndsFile,
  EndsObject,
  EndsSite,
  EntersDirectory,
  EntersObject,
  IsTooDeep,
  LeavesDirectory,
  OpensFile,
  PassesShorty,
  ReadsOn,
  StartsInSite,
  logical_path,
  to_site,
}
use Rattle.pt_plan.specs.Work.{met, reads, work_at, work_by_outcome}
use Rattle.pt_plan.specs.DeviceStates.{Answers}
use Rattle.pt_plan.specs.declared.object.Object.{Object}
use Rattle.pt_walk.specs.Object.{Entry}
use Rattle.pt_invariant.specs.SourceInvariant.{left_of, object_at}
use Rattle.pt_invariant.proofs.source.InObject.{own_entered, site_entered, site_parent}
use Rattle.pt_invariant.proofs.source.InPairtree.{listing_in, pairtree_proper}
use Rattle.pt_invariant.proofs.source.ReadsOn.{reads_end}
use Rattle.pt_invariant.proofs.source.ScanSteps.{left_behind, left_shorty, moved_at_site, moved_behind, moved_on}
use Rattle.pt_invariant.proofs.source.ScansKeep.{below_site_of, some_around}
use Rattle.pt_invariant.proofs.source.ScansSource.{scans_source}
use Rattle.pt_invariant.specs.WorkLaws.{ScanningDecreasesRank}
use Rattle.pt_invariant.specs.Rank.{after_scan, still_here, to_meet}
use Rattle.pt_invariant.proofs.turns_left.Copying.{block_read}
use Rattle.pt_invariant.proofs.turns_left.ScanParts.{
  comes_to,
  enters_meets,
  file_meets,
  leave_directory,
  leave_less,
  leave_on,
  leave_site,
  none_met,
  noted_meets,
  pass_less,
  site_behind,
  site_on,
  site_sought,
}

-- what comes of an object is the same if the object is
same_work : (job : Job) (object : Object) {one other : PairtreeObject} → one ≡ other
    → work_by_outcome job object.id (outcome job.limits one) ≡ work_by_outcome job object.id (outcome job.limits other)
same_work job object same = ap (λ (o : PairtreeObject). work_by_outcome job object.id (outcome job.limits o)) same

-- so are the entries that are left of it
same_meets : (job : Job) {one other : PairtreeObject} (held : ℕ) (some : List Entry) → one ≡ other
    → to_meet job.limits (length one.at) held some ≡ to_meet job.limits (length other.at) held some
same_meets job held some same = ap (λ (o : PairtreeObject). to_meet job.limits (length o.at) held some) same

-- and all that are met
same_met : (job : Job) {one other : PairtreeObject} → one ≡ other → sum_by (λ (entry : Entry). work_at entry.1) (met job.limits one)
    ≡ sum_by (λ (entry : Entry). work_at entry.1) (met job.limits other)
same_met job same = ap (λ (o : PairtreeObject). sum_by (λ (entry : Entry). work_at entry.1) (met job.limits o)) same

-- ---- each turn

pub scans_lower : ScanningDecreasesRank
unfolding Answers IsListed IsRead
scans_lower job past s new marks prefix here next held after calls (StartsInSite was object gathered) answers at known =
    let t = was.trail in
    let stands = known.at.2 in
    let at_site = known.at.3 in
    let later = scans_source job past s s prefix here next held after calls (StartsInSite was object gathered) refl at known in
    let one = object_at s.tree object (to_site object t) in
    let other = object_at s.tree object (to_site object (sought 0 t)) in
    let same = (moved_at_site job s.tree prefix object t 0 past.count gathered at_site stands).same in
    let few = none_met later.at.1.scanned known.at.0.rows in
    let none = ap (λ (n : ℕ). to_meet job.limits (length other.at) n (left_of s.tree object (sought 0 t))) (ap length known.at.0.rows) in
    let all = same_met job same in
    let leave = leave_site (pairtree_of s.tree) object t gathered at_site stands.fits in
    let work = same_work job object same in
    let walk = site_sought object t at_site in
    omega (arith, few, none, all, leave, work, walk)
scans_lower job past s new marks prefix here next held after calls (EntersObject was object items apart shallow) answers at known =
    let t = was.trail in
    let stands = known.at.2 in
    let at_site = known.at.3 in
    let later = scans_source job past s s prefix here next held after calls (EntersObject was object items apart shallow) (answers.0, answers.1, refl) at known
    in
    let site = site_entered object items t stands.within in
    let other = object_at s.tree object (to_site object (entered items t)) in
    let few = none_met later.at.1.scanned known.at.0.rows in
    let none = ap (λ (n : ℕ). to_meet job.limits (length other.at) n (left_of s.tree object (entered items t))) (ap length known.at.0.rows) in
    let all = same_met job (ap (object_at s.tree object) site) in
    let leave = leave_directory object items t apart at_site in
    let behind = ap (after_scan job s.tree marks past.count object) site in
    omega (arith, few, none, all, leave, behind)
scans_lower job past s new marks prefix here next held after calls (IsTooDeep was object apart deep) answers at known = omega arith
scans_lower job past s new marks prefix here next held after calls (PassesShorty was object item e passed) answers at known =
    let t = was.trail in
    let it = known.at.1 in
    let left = left_shorty s.tree object t item (pairtree_proper s.tree known.at.0.store known.proper) it.stands.fits e passed it.inside in
    let one = object_at s.tree object (to_site object t) in
    let other = object_at s.tree object (to_site object (advanced t)) in
    let same = (moved_on job s.tree prefix object t past.count it.inside it.stands).same in
    let meets = ap (to_meet job.limits (length one.at) (length was.rows)) left ∙ same_meets job (length was.rows) (left_of s.tree object (advanced t)) same in
    let leave = pass_less object t e passed it.inside in
    let work = same_work job object same in
    let walk = (site_on object t).0 in
    omega (arith, meets, leave, work, walk)
scans_lower job past s new marks prefix here next held after calls (EntersDirectory was object name items e apart shallow) answers at known =
    let t = was.trail in
    let it = known.at.1 in
    let listed : listing_at (pairtree_of s.tree) (names_to t) ≡ Some items = sym (listing_in s.tree (names_to t) known.at.0.store) ∙ answers.0 s refl in
    let meets = enters_meets job s.tree object was.rows t (pairtree_proper s.tree known.at.0.store known.proper) at.trail.is_one e apart shallow listed
    it.stands.fits it.stands.within it.inside in
    let site = site_entered object items t it.stands.within in
    let other = same_meets job (length was.rows) (left_of s.tree object (entered items t)) (ap (object_at s.tree object) site) in
    let own = own_entered object items t it.stands.within in
    let here_is = ap (λ (l : List Frame). cond object.gathered (still_here l) 0) site in
    let behind = ap (after_scan job s.tree marks past.count object) site in
    omega (arith, meets, other, own, here_is, behind)
scans_lower job past s new marks prefix here next held after calls (OpensFile was object name e room) answers at known =
    let t = was.trail in
    let it = known.at.1 in
    let bytes = bytes_at (pairtree_of s.tree) (names_to t) in
    let meets = file_meets job s.tree object was.rows t (pairtree_proper s.tree known.at.0.store known.proper) e it.stands.fits it.inside in
    let none : length bytes - 0 ≡ length bytes = omega arith in
    let whole = ap reads none in
    omega (arith, meets, whole)
scans_lower job past s new marks prefix here next held after calls (EndsSite was object e in_site) answers at known =
    let later = scans_source job past s s prefix here next held after calls (EndsSite was object e in_site) refl at known in
    let comes = comes_to s.tree object (to_site object was.trail) (pairtree_proper s.tree known.at.0.store known.proper) later.at.1.scanned at.rows known.bytes
    in
    let some = known.at.1.inside in
    omega (arith, comes, some)
scans_lower job past s new marks prefix here next held after calls (EndsObject was object e in_site own) answers at known =
    let t = was.trail in
    let later = scans_source job past s s prefix here next held after calls (EndsObject was object e in_site own) refl at known in
    let below = below_site_of object t in_site known.at.1.stands.within in
    let comes = comes_to s.tree object (to_site object (parent t)) (pairtree_proper s.tree known.at.0.store known.proper) later.at.1.scanned at.rows later.bytes
    in
    let behind = ap (after_scan job s.tree marks past.count object) (site_parent object t below) in
    let some = known.at.1.inside in
    omega (arith, comes, behind, some)
scans_lower job past s new marks prefix here next held after calls (LeavesDirectory was object e in_site own) answers at known =
    let t = was.trail in
    let it = known.at.1 in
    let below = below_site_of object t in_site it.stands.within in
    let around = some_around object t own below in
    let left = left_behind s.tree object t it.stands.fits e it.stands.some below around in
    let one = object_at s.tree object (to_site object t) in
    let other = object_at s.tree object (to_site object (advanced (parent t))) in
    let same = (moved_behind job s.tree prefix object t past.count below around it.stands).same in
    let meets = ap (to_meet job.limits (length one.at) (length was.rows)) left
    ∙ same_meets job (length was.rows) (left_of s.tree object (advanced (parent t))) same in
    let leave = leave_less object t below in
    let work = same_work job object same in
    let walk = site_behind object t below in
    omega (arith, meets, leave, work, walk)
scans_lower job past s new marks prefix here next held after calls (ReadsOn was object bytes byte block short) answers at known =
    let whole = bytes_at (pairtree_of s.tree) (names_to was.trail) in
    let less = block_read known.at.2.read (answers.0 s refl) in
    omega (arith, less)
scans_lower job past s new marks prefix here next held after calls (EndsFile was object bytes) answers at known =
    let t = was.trail in
    let it = known.at.1 in
    let file = known.at.2 in
    let whole = bytes_at (pairtree_of s.tree) (names_to t) in
    let short = file.short in
    let ended = (reads_end 8192 whole bytes was.fed s.unread (omega arith) file.read (answers.0 s refl)).length_is in
    let meets = noted_meets job s.tree object was.rows t (pairtree_proper s.tree known.at.0.store known.proper) file.file it.stands.fits it.inside file.room
    (omega (arith, short, ended)) in
    let one = object_at s.tree object (to_site object t) in
    let other = object_at s.tree object (to_site object (advanced t)) in
    let same = (moved_on job s.tree prefix object t past.count it.inside it.stands).same in
    let moved = same_meets job (length was.rows + 1) (left_of s.tree object (advanced t)) same in
    let many = length-append was.rows (row_of (logical_path object t) (digest_of job.algorithm was.fed) bytes ∷ []) in
    let rows = ap (λ (n : ℕ). to_meet job.limits (length other.at) n (left_of s.tree object (advanced t))) many in
    let leave = leave_on object t in
    let work = same_work job object same in
    let walk = (site_on object t).0 in
    omega (arith, meets, moved, rows, leave, work, walk)
scans_lower job past s new marks prefix here next held after calls _ answers at known = let some = known.at.1.inside in omega (arith, some)

-- Where a walk leaves a folder that isn't walked: it is an object, or bare.
use Rattle.std.proofs.Common.{◌≡◌, ◌==◌, ℕ, Bool, true, false, List, subst, cond, length}
use Rattle.std.proofs.lemmas.Result.{on_err_weaker, on_ok_weaker}
use Rattle.std.specs.Option.{ForSome}
use Rattle.std.specs.Prelude.{◌||◌, OnErr, OnOk, Result, Some}
use Rattle.pt_extra.proofs.Keeping.{front_from, told_from}
use Rattle.pt_extra.proofs.Past.{Passed, begun_by, past_later, past_le, past_of}
use Rattle.pt_extra.proofs.Visiting.{front_bare, front_object, put_bare, put_object}
use Rattle.pt_extra.specs.Findings.{is_object, of_object}
use Rattle.pt_extra.specs.Inventories.{id_of}
use Rattle.pt_extra.specs.Lines.{texts}
use Rattle.pt_extra.specs.Walk.{
  Fails,
  IsToldBelow,
  Keeps,
  Puts,
  Tells,
  TellsFront,
  TellsFrontPast,
  TellsPast,
  TellsUnlisted,
  against,
  failures_by,
  found_bare,
  found_there,
  walk_state,
}
use Rattle.pt_extra.specs.declared.walking.Extras.{Extras}
use Rattle.pt_plan.specs.TurnWalk.{in_root}
use Rattle.pt_plan.specs.declared.fault.Fault.{Fault}
use Rattle.pt_tree.specs.Failures.{HasRisen}
use Rattle.pt_tree.specs.Forest.{listing_at}
use Rattle.pt_tree.specs.Listing.{Item}
use Rattle.pt_tree.specs.Log.{AppendsFront}
use Rattle.pt_tree.specs.Path.{Path}
use Rattle.pt_tree.specs.Source.{tree_in}
use Rattle.pt_tree.specs.declared.log.Log.{Ghosts as OfLog}
use Rattle.pt_tree.specs.declared.source.Source.{Ghosts as OfSource}
use Rattle.pt_walk.specs.Left.{inside_at}

-- a folder was begun, and one call more was made for it
module _ {S R L E T : Type 0} (store : OfSource S) (root : OfSource R) (log : OfLog L) (old mid after : Extras S R L E) (path : Path) (left : ℕ)
    (items : List Item) (whole : Bool) (listed : ForSome (tree_in (root.told old.root)) (λ t. listing_at t (in_root path) ≡ Some items))
    (begun : cond whole (mid ≡ record old { root = mid.root }) (TellsUnlisted store root log path old mid)) (kept : Keeps store root log old mid)
    (passed : Passed (failures_by store root log old) (failures_by store root log mid)) (result : Result T Fault)
    (fails : Fails store root log mid after result) where
  later : HasRisen (root.failed old.root) (root.failed mid.root) → HasRisen (root.failed old.root) (root.failed after.root)
  later = past_later result (root.failed old.root) (failures_by store root log mid) (failures_by store root log after)
      (past_le (failures_by store root log old) (failures_by store root log mid) passed)
      (past_of result (failures_by store root log mid) (failures_by store root log after) fails)

  -- an object is told
  pub object_told : (folder : Path) → folder ≡ in_root path → is_object items ≡ true → OnOk result (Tells store root log (found_there path folder) mid after)
      → OnOk result (TellsPast store root log (IsToldBelow path left) old after)
  object_told folder at object = on_ok_weaker result
      (λ tells s is r there.
      let of_it = told_from store root log (found_there path folder) old mid after kept tells s is r there in
      let put = put_object (against old s) r path left items (listed r there) (root.failed old.root) (root.failed mid.root) whole (walk_state log old)
      (walk_state log mid) (begun_by store root log old mid path s r is there whole begun) (root.failed after.root) (walk_state log after) object later
      (subst (λ (p : Path). Puts (of_object (against old s) path (id_of (inside_at r p))) (walk_state log mid) (walk_state log after)) at of_it) in
      (put.told, put.may, put.puts))

  pub object_stops : (folder : Path) → folder ≡ in_root path → is_object items ≡ true
      → OnErr result (TellsFront store root log (found_there path folder) mid after)
      → OnErr result (TellsFrontPast store root log (IsToldBelow path left) old after)
  object_stops folder at object = on_err_weaker result
      (λ front s is r there.
      let of_it = front_from store root log (found_there path folder) old mid after kept front s is r there in
      let put = front_object (against old s) r path left items (listed r there) (root.failed old.root) (root.failed mid.root) whole (walk_state log old)
      (walk_state log mid) (begun_by store root log old mid path s r is there whole begun) (root.failed after.root) (log.told after.log) object later
      (subst (λ (p : Path). AppendsFront (log.told mid.log) (log.told after.log) (texts (of_object (against old s) path (id_of (inside_at r p))))) at of_it) in
      (put.told, put.may, put.part))

  -- a bare folder is told, unless it was told already
  pub bare_told : is_object items ≡ false → (left == 0 || length items == 0) ≡ true → OnOk result (Tells store root log (found_bare path whole) mid after)
      → OnOk result (TellsPast store root log (IsToldBelow path left) old after)
  bare_told object bare = on_ok_weaker result
      (λ tells s is r there.
      let put = put_bare (against old s) r path left items (listed r there) (root.failed old.root) (root.failed mid.root) whole (walk_state log old)
      (walk_state log mid) (begun_by store root log old mid path s r is there whole begun) (root.failed after.root) (walk_state log after) object bare later
      (told_from store root log (found_bare path whole) old mid after kept tells s is r there) in
      (put.told, put.may, put.puts))

  pub bare_stops : is_object items ≡ false → (left == 0 || length items == 0) ≡ true
      → OnErr result (TellsFront store root log (found_bare path whole) mid after)
      → OnErr result (TellsFrontPast store root log (IsToldBelow path left) old after)
  bare_stops object bare = on_err_weaker result
      (λ front s is r there.
      let put = front_bare (against old s) r path left items (listed r there) (root.failed old.root) (root.failed mid.root) whole (walk_state log old)
      (walk_state log mid) (begun_by store root log old mid path s r is there whole begun) (root.failed after.root) (log.told after.log) object bare later
      (front_from store root log (found_bare path whole) old mid after kept front s is r there) in
      (put.told, put.may, put.part))

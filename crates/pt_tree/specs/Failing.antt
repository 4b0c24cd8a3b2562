-- Where the calls of a source fail, if it tells that.
use Rattle.std.specs.Prelude.{◌≡◌, ◌<◌, ℕ, Bool, true, false, length, List, Option, Some, Result, Ok, Err, ⊤}
use Rattle.std.specs.Option.{option_map, ForSome}
use Rattle.pt_tree.specs.Path.{Path, parent}
use Rattle.pt_tree.specs.declared.faults.TreeFault.{TreeFault}
use Rattle.pt_tree.specs.declared.faults.TreeFault.TheVariants.{Device, Memory}

-- at which paths it fails, so that nothing there is listed, or opened and read to its end, and a look at an entry of it may fail; and
-- whether it fails at the open file, so that this isn't read to its end
pub record Failing : Type 0 where
  pub at : Path → Bool
  pub reading : Bool

-- it fails nowhere
abbrev pub never_failing : Failing
never_failing = record { at = λ _. false; reading = false }

-- at which paths it fails, if it tells that
abbrev pub failing_paths : Option Failing → Option (Path → Bool)
failing_paths failing = option_map (λ (f : Failing). f.at) failing

-- a call goes well only where the source doesn't fail, and fails only where it does; want of memory may come anywhere
abbrev pub GoesAs : {T : Type 0} → Bool → Result T TreeFault → Type 0
GoesAs fails (Ok x) = fails ≡ false
GoesAs fails (Err Device) = fails ≡ true
GoesAs fails (Err Memory) = ⊤

-- where it tells that, a directory is listed just where it doesn't fail
unfoldable pub ListsAs : {T : Type 0} → Option Failing → Option Failing → Path → Result T TreeFault → Type 0
ListsAs old new p result = ForSome old (λ f. (new ≡ Some f) × GoesAs (f.at p) result)

-- a look fails only where the source does; there it may go well
abbrev pub LooksWith : {T : Type 0} → Bool → Result T TreeFault → Type 0
LooksWith fails (Ok x) = ⊤
LooksWith fails (Err Device) = fails ≡ true
LooksWith fails (Err Memory) = ⊤

-- where it tells that, a look at an entry fails only where it fails at the directory above: where that is listed, each look goes well
unfoldable pub LooksAs : {T : Type 0} → Option Failing → Option Failing → Path → Result T TreeFault → Type 0
LooksAs old new p result = ForSome old (λ f. (new ≡ Some f) × LooksWith (f.at (parent p)) result)

-- a file is opened, and is such as its path says; or it isn't, where its path says that it fails
abbrev pub OpensWith : {T : Type 0} → Failing → Option Failing → Path → Result T TreeFault → Type 0
OpensWith f new p (Ok x) = new ≡ Some (record f { reading = f.at p })
OpensWith f new p (Err Device) = (new ≡ Some f) × (f.at p ≡ true)
OpensWith f new p (Err Memory) = new ≡ Some f

-- where it tells that, a file is opened just so
unfoldable pub OpensAs : {T : Type 0} → Option Failing → Option Failing → Path → Result T TreeFault → Type 0
OpensAs old new p result = ForSome old (λ f. OpensWith f new p result)

-- a block of these bytes is read, and where it isn't full the file was read to its end, so that it is none that fails; or it isn't
abbrev pub ReadsWith : {T : Type 0} → Failing → List ℕ → Result T TreeFault → Type 0
ReadsWith f block (Ok x) = length block < 8192 → f.reading ≡ false
ReadsWith f block (Err Device) = f.reading ≡ true
ReadsWith f block (Err Memory) = ⊤

-- where it tells that, the open file is read on just so
unfoldable pub ReadsAs : {T : Type 0} → Option Failing → Option Failing → List ℕ → Result T TreeFault → Type 0
ReadsAs old new block result = ForSome old (λ f. (new ≡ Some f) × ReadsWith f block result)

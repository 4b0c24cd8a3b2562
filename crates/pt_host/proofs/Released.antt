-- What is made once the guard lets it begin, and the lock that is given back then.
use Rattle.std.proofs.Common.{◌≡◌, ℕ, subst, sym}
use Rattle.std.specs.Prelude.{Ok}
use Rattle.std.specs.declared.io.Error.{Error}
use Rattle.pt_guard.specs.PlaceCall.{Release}
use Rattle.pt_guard.specs.declared.guard.FolderLock.{FolderLock}
use Rattle.pt_guard.specs.declared.guard.FolderLock.TheVariants as lock
use Rattle.pt_host.specs.Machine.{MachineWords}
use Rattle.pt_host.specs.Made.{GoesOn}

module _ {H : Type 0} (words : MachineWords H) (carries : H → H → ℕ → Type 0) (held : FolderLock words.Lock) where
  -- where the folder is held, its lock is given back at the end
  pub released : (mid after new : H) (status : ℕ) (one : words.Lock) → held ≡ lock.Held one → carries mid after status → words.places after (Release one) new
      → GoesOn words carries (Ok held) mid new status
  released mid after new status one is carried gives =
      subst (λ (l : FolderLock words.Lock). GoesOn words carries (Ok l) mid new status) (sym is) (after, carried, gives)

  -- where it isn't, nothing is
  pub unreleased : (mid new : H) (status : ℕ) (why : Error) → held ≡ lock.Unheld why → carries mid new status → GoesOn words carries (Ok held) mid new status
  unreleased mid new status why is carried =
      subst (λ (l : FolderLock words.Lock). GoesOn words carries (Ok l) mid new status) (sym is) carried

-- What is kept of a failure, and of a directory whose names aren't had.
use Rattle.std.proofs.Common.{◌≡◌, ℕ, List, false, sym, subst}
use Rattle.std.specs.Global.{Global}
use Rattle.std.specs.Option.{option_map}
use Rattle.std.specs.Prelude.{Option, Some, None, IfSome, IsSomeAnd, Vec}
use Rattle.std.specs.Prelude.{Result, Ok, Err}
use Rattle.std.specs.Result.{IsErrAnd}
use Rattle.std.specs.declared.io.Error.{Error}
use Rattle.pt_tree.specs.declared.faults.TreeFault.{TreeFault}
use Rattle.pt_tree.specs.declared.faults.TreeFault.TheVariants.{Device, Memory}
use Rattle.pt_tree.specs.Name.{is_name}
use Rattle.pt_folder.specs.Failure.{HasError, IsAt, IsForName, IsNamesCause, IsOfCall, IsOfName, IsOfNames, OnDevice}
use Rattle.pt_folder.specs.declared.failure.FailureReason.TheVariants as cause
use Rattle.pt_folder.specs.declared.failure.FailureReason.{FailureReason}
use Rattle.pt_folder.specs.declared.failure.Failure.{Failure}

-- what is kept of a fault that is handed on
pub kept_on : {T : Type 0} (r : Result T TreeFault) (fault : TreeFault) (P : Type 0) → IsErrAnd r (λ y. y ≡ fault) → OnDevice {T = Unit {0}} (Err fault) P
    → OnDevice r P
kept_on (Ok x) fault P bad kept = tt
kept_on (Err Memory) fault P same kept = tt
kept_on (Err Device) fault P same kept = subst (λ f. OnDevice {T = Unit {0}} (Err f) P) (sym same) kept

-- less is said of what is kept
pub kept_weaker : {T : Type 0} (r : Result T TreeFault) (last : Option Failure) (P Q : Failure → Type 0) → ((f : Failure) → P f → Q f)
    → OnDevice r (IfSome last P) → OnDevice r (IfSome last Q)
kept_weaker (Ok x) last P Q weaker kept = tt
kept_weaker (Err Memory) last P Q weaker kept = tt
kept_weaker (Err Device) None P Q weaker kept = tt
kept_weaker (Err Device) (Some f) P Q weaker kept = weaker f kept

-- what is kept, where memory allowed it
pub kept_held : {T : Type 0} (r : Result T TreeFault) (last : Option Failure) (P : Failure → Type 0) → OnDevice r (IsSomeAnd last P)
    → OnDevice r (IfSome last P)
kept_held (Ok x) last P kept = tt
kept_held (Err Memory) last P kept = tt
kept_held (Err Device) None P kept = absurd kept
kept_held (Err Device) (Some f) P kept = kept

pub kept_names : (last : Option Failure) (text : List ℕ) (why : FailureReason) → IfSome last (IsAt text why) → IsNamesCause why → IfSome last (IsOfNames text)
kept_names None text why kept is = tt
kept_names (Some f) text why kept is = (
  kept.0,
  subst IsNamesCause (sym kept.1) is,
  subst
      (λ (o : Option (Vec ℕ Global)). IfSome (option_map (λ name. name.items) o) (λ name. is_name name ≡ false)) (sym kept.2) tt,
)

-- of a name that isn't added
pub kept_bytes : (last : Option Failure) (text name : List ℕ) → IfSome last (IsForName text name) → is_name name ≡ false → IfSome last (IsOfNames text)
kept_bytes None text name kept is = tt
kept_bytes (Some f) text name kept is =
    (kept.0, subst IsNamesCause (sym kept.1) tt, subst (λ (o : Option (List ℕ)). IfSome o (λ n. is_name n ≡ false)) (sym kept.2) is)

pub kept_bad : (last : Option Failure) (text : List ℕ) (most : ℕ) (names : List (List ℕ)) (name : List ℕ) → IfSome last (IsForName text name)
    → is_name name ≡ false → IfSome last (λ f. IsOfName most names name f.cause)
kept_bad None text most names name kept is = tt
kept_bad (Some f) text most names name kept is = subst (IsOfName most names name) (sym kept.1) is

pub names_heard : {T : Type 0} (r : Result T TreeFault) (last : Option Failure) (text : List ℕ) (why : FailureReason) → IfSome last (IsAt text why)
    → IsNamesCause why → OnDevice r (IfSome last (IsOfNames text))
names_heard (Ok x) last text why kept is = tt
names_heard (Err Memory) last text why kept is = tt
names_heard (Err Device) last text why kept is = kept_names last text why kept is

pub kept_name : (last : Option Failure) (text : List ℕ) (why : FailureReason) (most : ℕ) (names : List (List ℕ)) (name : List ℕ) → IfSome last (IsAt text why)
    → IsOfName most names name why → IfSome last (λ f. IsOfName most names name f.cause)
kept_name None text why most names name kept is = tt
kept_name (Some f) text why most names name kept is = subst (IsOfName most names name) (sym kept.1) is

-- an error of a call that is kept at its path
pub kept_call : {T : Type 0} (last : Option Failure) (text : List ℕ) (e : Error) (Q : Error → Type 0) (r : Result T TreeFault)
    → IfSome last (IsAt text (cause.System e)) → Q e → OnDevice r (IfSome last (IsOfCall text Q))
kept_call last text e Q (Ok x) kept is = tt
kept_call last text e Q (Err Memory) kept is = tt
kept_call last text e Q (Err Device) kept is = by last kept
  where
    by : (o : Option Failure) → IfSome o (IsAt text (cause.System e)) → IfSome o (IsOfCall text Q)
    by None kept = tt
    by (Some f) kept = (kept.0, subst (HasError Q) (sym kept.1) is)

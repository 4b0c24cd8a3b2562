-- Where the text of a fault begins in its line.
use Rattle.std.proofs.Common.{arith, lit≤}
use Rattle.std.specs.Str.{IsCharBoundary}
use Rattle.pt_messages.specs.FaultLines.{fault_line, text_start}
use Rattle.pt_messages.specs.declared.watch.Words.{Words}
use Rattle.pt_messages.specs.declared.watch.Words.TheVariants.{Audit, BothWays, Check, Run}
use Rattle.pt_plan.specs.declared.fault.Fault.{Fault}
use Rattle.pt_plan.specs.declared.fault.Fault.TheVariants as fault

-- it may be cut there
pub starts_there : (words : Words) (why : Fault) → IsCharBoundary (fault_line words why) (text_start why)
starts_there words fault.Source = (lit≤ tt, λ _ high. absurd (omega (arith, high)))
starts_there Run fault.Dest = (lit≤ tt, λ _ high. absurd (omega (arith, high)))
starts_there (Audit by) fault.Dest = (lit≤ tt, λ _ high. absurd (omega (arith, high)))
starts_there (BothWays by) fault.Dest = (lit≤ tt, λ _ high. absurd (omega (arith, high)))
starts_there Check fault.Dest = (lit≤ tt, λ _ high. absurd (omega (arith, high)))
starts_there words fault.Log = (lit≤ tt, λ _ high. absurd (omega (arith, high)))
starts_there words fault.Memory = (lit≤ tt, λ _ high. absurd (omega (arith, high)))
starts_there words fault.NotPairtree = (lit≤ tt, λ _ high. absurd (omega (arith, high)))
starts_there words fault.Prefix = (lit≤ tt, λ _ high. absurd (omega (arith, high)))
starts_there words fault.StagingLeft = (lit≤ tt, λ _ high. absurd (omega (arith, high)))
starts_there words fault.Target = (lit≤ tt, λ _ high. absurd (omega (arith, high)))
starts_there words fault.Changed = (lit≤ tt, λ _ high. absurd (omega (arith, high)))
starts_there words fault.Turns = (lit≤ tt, λ _ high. absurd (omega (arith, high)))
starts_there words fault.Ended = (lit≤ tt, λ _ high. absurd (omega (arith, high)))

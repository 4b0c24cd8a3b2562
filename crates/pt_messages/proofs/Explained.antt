-- What is found is explained.
use Rattle.std.specs.Prelude.{IfOk, Option, None, Some, Result, Ok, Err}
use Rattle.std.specs.declared.alloc.AllocError.{AllocError}
use Rattle.pt_messages.specs.Reasons.{Explains, explanation_of}
use Rattle.pt_messages.specs.declared.reason.FaultReason.{FaultReason}

pub explained : (P : Option FaultReason → Type 0) (found : Result (Option FaultReason) AllocError) → IfOk found P → Explains P (explanation_of found)
explained P (Ok None) held = held
explained P (Ok (Some why)) held = held
explained P (Err _) held = tt

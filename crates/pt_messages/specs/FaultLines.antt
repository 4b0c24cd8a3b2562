-- The lines by which standard error is told of faults.
use Rattle.std.specs.Prelude.{◌-◌, ℕ, List, codes, if◌then◌else◌, length, nat_lt, slice_range}
use Rattle.pt_messages.specs.declared.watch.Words.{Words}
use Rattle.pt_messages.specs.declared.watch.Words.TheVariants.{Run}
use Rattle.pt_plan.specs.RunFaults.{fault_number}
use Rattle.pt_plan.specs.declared.fault.Fault.{Fault}
use Rattle.pt_plan.specs.declared.fault.Fault.TheVariants as fault

-- the line of the destination's fault: an audit only reads its destination, and a check has none
abbrev pub dest_line : Words → List ℕ
dest_line Run = codes "pairtree2ocfl: fault 2: cannot write the destination\n"
dest_line _ = codes "pairtree2ocfl: fault 2: cannot read the destination\n"

-- the line of a fault, with its number and its text, of what has a log of these words
abbrev pub fault_line : Words → Fault → List ℕ
fault_line words fault.Source = codes "pairtree2ocfl: fault 1: cannot read the source\n"
fault_line words fault.Dest = dest_line words
fault_line words fault.Log = codes "pairtree2ocfl: fault 3: cannot write the output\n"
fault_line words fault.Memory = codes "pairtree2ocfl: fault 4: out of memory\n"
fault_line words fault.NotPairtree = codes "pairtree2ocfl: fault 5: not a Pairtree 0.1 store\n"
fault_line words fault.Prefix = codes "pairtree2ocfl: fault 6: the prefix file is not a text of at most 1024 bytes\n"
fault_line words fault.StagingLeft = codes "pairtree2ocfl: fault 7: a staging directory is left in the destination\n"
fault_line words fault.Target = codes "pairtree2ocfl: fault 8: the ocfl directory of the destination cannot be used\n"
fault_line words fault.Changed = codes "pairtree2ocfl: fault 9: a source file changed during the run\n"
fault_line words fault.Turns = codes "pairtree2ocfl: fault 10: too many turns\n"
fault_line words fault.Ended = codes "pairtree2ocfl: fault 11: the run has ended\n"

-- how many bytes stand before a fault's text in its line: the program's name, and its number, of one digit or two
abbrev pub text_start : Fault → ℕ
text_start fault = if nat_lt (fault_number fault) 10 then 24 else 25

-- the text of a fault: what its line says behind the number
abbrev pub fault_text : Words → Fault → List ℕ
fault_text words fault =
    slice_range (fault_line words fault) (text_start fault) (length (fault_line words fault) - 1)

-- What is written to the output of a machine, and with which status.
use Rattle.std.specs.Prelude.{◌≡◌, ◌≢◌, ◌⊎◌, ◌↔◌, ℕ, Bool, true, false, codes, List, [], Option, Result, Ok, Err, IfErr, IsErrOf, OnErr, OnOk}
use Rattle.std.specs.Io.KnownBytes.{Appends}
use Rattle.std.specs.Str.{bytes_eq}
use Rattle.std.specs.IoError.{error_kind}
use Rattle.std.specs.declared.io.Error.{Error}
use Rattle.std.specs.declared.io.ErrorKind.TheVariants.{BrokenPipe}
use Rattle.pt_tree.specs.Log.{AppendsFront}
use Rattle.pt_name.specs.Tuples.{Tuples}
use Rattle.pt_cli.specs.Inputs.{InputWords}
use Rattle.pt_cli.specs.NameList.{ListsNames}
use Rattle.pt_cli.specs.Names.{LeavesWritten, names_text}
use Rattle.pt_cli.specs.declared.command.NamesArgs.{NamesArgs}
use Rattle.pt_cli.specs.declared.list_fault.ListFault.{ListFault}
use Rattle.pt_cli.specs.declared.list_fault.ListFault.TheVariants as list
use Rattle.pt_cli.specs.declared.names.NamesFault.{NamesFault}
use Rattle.pt_cli.specs.declared.names.NamesFault.TheVariants as names
use Rattle.pt_host.specs.HostCall.{Lend, TakeBack}
use Rattle.pt_host.specs.Machine.{HostIoOf, MachineWords}
use Rattle.pt_host.specs.Told.{Tells, own_line}
use Rattle.pt_plan.specs.declared.fault.Fault.TheVariants as fault

-- of writing names: 0 where they were written, 2 for the empty identifier, else 3
abbrev pub names_status : Result (Unit {0}) NamesFault → ℕ
names_status (Ok done) = 0
names_status (Err names.Empty) = 2
names_status (Err names.Write) = 3
names_status (Err names.Memory) = 3

-- the names of an identifier were written behind what an output held; or that is refused so, and a front of them is there
pub record WritesNames (layout : Tuples) (prefix id : List ℕ) (old new : Option (List ℕ))
    (written : Result (Unit {0}) NamesFault) : Type 0 where
  pub empty : IsErrOf written names.Empty ↔ (id ≡ [])
  pub ok : OnOk written (Appends old new (names_text layout prefix id))
  pub err : IfErr written (λ fault. LeavesWritten fault old new (names_text layout prefix id))

-- why the names of an identifier weren't written is told, if they weren't
abbrev pub TellsUnwritten : {H : Type 0} → MachineWords H → Result (Unit {0}) NamesFault → H → H → Type 0
TellsUnwritten words (Ok done) old new = new ≡ old
TellsUnwritten words (Err names.Empty) old new = Tells words (codes "pairtree2ocfl: the identifier is empty\n") old new
TellsUnwritten words (Err names.Write) old new = Tells words (own_line fault.Log) old new
TellsUnwritten words (Err names.Memory) old new = Tells words (own_line fault.Memory) old new

-- the names that are asked for are written to the output that a machine lends, which is given back with all else as it was; the status is by that, and
-- so is what is told
abbrev pub TellsNames : {H : Type 0} → MachineWords H → NamesArgs → H → H → ℕ → Type 0
TellsNames {H} words asked old new status =
    (host_io : HostIoOf words) × (lent : H) × words.host old (Lend host_io) lent
    × (output : words.Output) × (written : Result (Unit {0}) NamesFault)
    × WritesNames asked.layout asked.prefix asked.id (words.written.output host_io.output)
    (words.written.output output) written
    × (back : H) × words.host lent (TakeBack (record host_io { output = output })) back
    × TellsUnwritten words written back new × (status ≡ names_status written)

-- of writing the names of an input's lines: 0 where they were written, 2 for a line that is no identifier, else 3
abbrev pub list_status : Result (Unit {0}) ListFault → ℕ
list_status (Ok done) = 0
list_status (Err (list.Line bad)) = 2
list_status (Err list.Read) = 3
list_status (Err list.Write) = 3
list_status (Err list.Memory) = 3

-- why not all names of an input's lines were written is told by the machine, if they weren't, but of a line that is no identifier
abbrev pub TellsUnlisted : {H : Type 0} → MachineWords H → Result (Unit {0}) ListFault → H → H → Type 0
TellsUnlisted words (Ok done) old new = new ≡ old
TellsUnlisted words (Err (list.Line bad)) old new = new ≡ old
TellsUnlisted words (Err list.Read) old new = Tells words (codes "pairtree2ocfl: cannot read standard input\n") old new
TellsUnlisted words (Err list.Write) old new = Tells words (own_line fault.Log) old new
TellsUnlisted words (Err list.Memory) old new = Tells words (own_line fault.Memory) old new

-- a machine's input is asked for, and the names of the identifiers in its lines are written to the output that the machine lends, which is given back with all
-- else as it was; the status is by that, and so is what is told
abbrev pub TellsAll : {H : Type 0} → MachineWords H → InputWords H → NamesArgs → H → H → ℕ → Type 0
TellsAll {H} words beside asked old new status =
    (input : beside.Input) × (begun : H) × beside.gives old input begun
    × (host_io : HostIoOf words) × (lent : H) × words.host begun (Lend host_io) lent
    × (rest : beside.Input) × (output : words.Output) × (listed : Result (Unit {0}) ListFault)
    × ListsNames asked (beside.remaining input) (beside.remaining rest) (words.written.output host_io.output)
    (words.written.output output) listed
    × (back : H) × words.host lent (TakeBack (record host_io { output = output })) back
    × TellsUnlisted words listed back new × (status ≡ list_status listed)

-- the names of the identifiers on the input are asked for, or those of an identifier
abbrev pub TellsBy : {H : Type 0} → Bool → MachineWords H → InputWords H → NamesArgs
    → H → H → ℕ → Type 0
TellsBy true words input asked = TellsAll words input asked
TellsBy false words input asked = TellsNames words asked

-- what `names` does: with `-` in the place of the identifier it reads the input
abbrev pub TellsAsked : {H : Type 0} → MachineWords H → InputWords H → NamesArgs → H → H → ℕ → Type 0
TellsAsked words input asked = TellsBy (bytes_eq asked.id (codes "-")) words input asked

-- of writing a text that was asked for: 0 where it was written, or nobody may read it any more, else 3, and the output's fault is told
abbrev pub IsToldAs : {H : Type 0} → MachineWords H → Result (Unit {0}) Error → H → H → ℕ → Type 0
IsToldAs words (Ok done) old new status = (status ≡ 0) × (new ≡ old)
IsToldAs words (Err error) old new status = ((error_kind error ≡ BrokenPipe) × (status ≡ 0) × (new ≡ old))
    ⊎ ((error_kind error ≢ BrokenPipe) × (status ≡ 3) × Tells words (own_line fault.Log) old new)

-- a text was written behind what an output held; or a front of it is there
pub record WritesText (text : List ℕ) (old new : Option (List ℕ)) (written : Result (Unit {0}) Error) : Type 0 where
  pub ok : OnOk written (Appends old new text)
  pub err : OnErr written (AppendsFront old new text)

-- a text is written to the output that a machine lends, which is given back with all else as it was; and the status is by that
abbrev pub TellsText : {H : Type 0} → MachineWords H → List ℕ → H → H → ℕ → Type 0
TellsText {H} words text old new status =
    (host_io : HostIoOf words) × (lent : H) × words.host old (Lend host_io) lent
    × (output : words.Output) × (written : Result (Unit {0}) Error)
    × WritesText text (words.written.output host_io.output) (words.written.output output) written
    × (back : H) × words.host lent (TakeBack (record host_io { output = output })) back
    × IsToldAs words written back new status

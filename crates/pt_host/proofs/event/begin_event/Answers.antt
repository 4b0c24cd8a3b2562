use Rattle.std.proofs.Common.{◌≡◌, ◌∙◌, ℕ, Err, List, Ok, ap, subst, sym}
use Rattle.std.proofs.lemmas.Result.{err_from_is_err_and}
use Rattle.std.specs.Prelude.{Option, option_map}
use Rattle.pt_host.proofs.Recorded.{begun_event, unbegun_event, unmade_event}
use Rattle.pt_host.specs.Events.{EventHead, MakesEvent, event_head}
use Rattle.pt_host.specs.Machine.{MachineWords, host_io_words}
use Rattle.pt_host.specs.ReadSteps.{FailsBetween}
use Rattle.pt_host.specs.SeenByLengths.{FailsSeen}
use Rattle.pt_host.specs.Served.{Serves}
use Rattle.pt_host.specs.declared.event.EventFault.TheVariants as fault
use Rattle.pt_host.proofs.event.begin_event.Goals as goal

pub returns : goal.returns
returns g c =
    let words : MachineWords g.row.H.Denot = record {
      Lock = g.row.H-Lock.Denot;
      Store = g.row.H-Store.Denot;
      Dest = g.row.H-Folder.Denot;
      DestFile = g.row.H-Folder-File.Denot;
      Output = g.row.H-Output.Denot;
      OutputFile = g.row.H-File.Denot;
      places = g.H.Places.does;
      host = g.H.Host.does;
      syncs = g.H.File.Syncs.syncs;
      writes = g.H.Output.Writes.writes;
      puts = g.H.File.SyncsOutput.puts;
      written = host_io_words g.H.Store.System.forest g.H.Store.System.failing g.H.Folder.System.kept g.H.Output.Write.contents;
      read = host_io_words g.H.Store.System.forest g.H.Store.System.failing g.H.Folder.System.forest g.H.Output.Write.contents;
      serves = Serves g.H.Folder.System g.H.Folder.File.Handle g.H.Folder.File.Input g.H.Folder.Dir.Input;
      fails = FailsBetween g.H.Folder.System g.H.Folder.File.Handle g.H.Folder.File.Input g.H.Folder.Dir.Input;
      fails_seen = FailsSeen g.H.Folder.System g.H.Folder.File.Handle g.H.Folder.File.Input g.H.Folder.Dir.Input;
    } in
    let at : List ℕ × List ℕ = (c.args.folders.store.now, c.args.folders.folder.now) in
    let head : EventHead = event_head (g.O.Operation.word_of c.args.operation.now) at g.O.Operation.with_dest
    (g.O.Operation.options_of c.args.operation.now) in
    begun_event words head (g.O.Operation.feedback_of c.args.operation.now).event c.in-Some.path.now
    c.in_ok-file.file (record { file = c.paths.result.file.now; part = c.paths.result.part.now; text = c.as_str.result.now })
    c.args.host.now c.make.new.host
    (sym (c.event.ensures ∙ ap (λ f. f.event) c.feedback.ensures) ∙ ap (option_map (λ p. p.now)) c.in-Some.is)
    c.in_ok-file.ensures.path c.in_ok-file.ensures.part c.paths.ensures.file c.paths.ensures.part
    (c.as_str.ensures.value ∙ c.in_ok-file.ensures.text) c.in_ok-file.ensures.begun
    (subst (λ (dest : Option (List ℕ)). MakesEvent words (c.args.folders.store.now, dest)
    (record { file = c.paths.result.file.now; part = c.paths.result.part.now; text = c.as_str.result.now }) c.args.host.now c.make.new.host (Ok tt))
    c.dest_of-dest.ensures c.in_ok-make.ensures)

pub returns-in_err-file : goal.returns-in_err-file
returns-in_err-file g c =
    let words : MachineWords g.row.H.Denot = record {
      Lock = g.row.H-Lock.Denot;
      Store = g.row.H-Store.Denot;
      Dest = g.row.H-Folder.Denot;
      DestFile = g.row.H-Folder-File.Denot;
      Output = g.row.H-Output.Denot;
      OutputFile = g.row.H-File.Denot;
      places = g.H.Places.does;
      host = g.H.Host.does;
      syncs = g.H.File.Syncs.syncs;
      writes = g.H.Output.Writes.writes;
      puts = g.H.File.SyncsOutput.puts;
      written = host_io_words g.H.Store.System.forest g.H.Store.System.failing g.H.Folder.System.kept g.H.Output.Write.contents;
      read = host_io_words g.H.Store.System.forest g.H.Store.System.failing g.H.Folder.System.forest g.H.Output.Write.contents;
      serves = Serves g.H.Folder.System g.H.Folder.File.Handle g.H.Folder.File.Input g.H.Folder.Dir.Input;
      fails = FailsBetween g.H.Folder.System g.H.Folder.File.Handle g.H.Folder.File.Input g.H.Folder.Dir.Input;
      fails_seen = FailsSeen g.H.Folder.System g.H.Folder.File.Handle g.H.Folder.File.Input g.H.Folder.Dir.Input;
    } in
    let at : List ℕ × List ℕ = (c.args.folders.store.now, c.args.folders.folder.now) in
    let head : EventHead = event_head (g.O.Operation.word_of c.args.operation.now) at g.O.Operation.with_dest
    (g.O.Operation.options_of c.args.operation.now) in
    let given = sym (c.event.ensures ∙ ap (λ f. f.event) c.feedback.ensures) ∙ ap (option_map (λ p. p.now)) c.in-Some.is in
    let p = err_from_is_err_and c.from_residual.result c.from_residual.ensures.1 in
    let memory : p.0 ≡ fault.Memory = p.2 in
    rw (p.1, memory) (unbegun_event words head (g.O.Operation.feedback_of c.args.operation.now).event
    c.in-Some.path.now c.args.host.now given)

pub returns-in_err-make : goal.returns-in_err-make
returns-in_err-make g c =
    let words : MachineWords g.row.H.Denot = record {
      Lock = g.row.H-Lock.Denot;
      Store = g.row.H-Store.Denot;
      Dest = g.row.H-Folder.Denot;
      DestFile = g.row.H-Folder-File.Denot;
      Output = g.row.H-Output.Denot;
      OutputFile = g.row.H-File.Denot;
      places = g.H.Places.does;
      host = g.H.Host.does;
      syncs = g.H.File.Syncs.syncs;
      writes = g.H.Output.Writes.writes;
      puts = g.H.File.SyncsOutput.puts;
      written = host_io_words g.H.Store.System.forest g.H.Store.System.failing g.H.Folder.System.kept g.H.Output.Write.contents;
      read = host_io_words g.H.Store.System.forest g.H.Store.System.failing g.H.Folder.System.forest g.H.Output.Write.contents;
      serves = Serves g.H.Folder.System g.H.Folder.File.Handle g.H.Folder.File.Input g.H.Folder.Dir.Input;
      fails = FailsBetween g.H.Folder.System g.H.Folder.File.Handle g.H.Folder.File.Input g.H.Folder.Dir.Input;
      fails_seen = FailsSeen g.H.Folder.System g.H.Folder.File.Handle g.H.Folder.File.Input g.H.Folder.Dir.Input;
    } in
    let at : List ℕ × List ℕ = (c.args.folders.store.now, c.args.folders.folder.now) in
    let head : EventHead = event_head (g.O.Operation.word_of c.args.operation.now) at g.O.Operation.with_dest
    (g.O.Operation.options_of c.args.operation.now) in
    let given = sym (c.event.ensures ∙ ap (λ f. f.event) c.feedback.ensures) ∙ ap (option_map (λ p. p.now)) c.in-Some.is in
    let p = err_from_is_err_and c.from_residual-in_err-make.result c.from_residual-in_err-make.ensures.1 in
    let why : p.0 ≡ c.in_err-make.field-0.0 = p.2 in
    rw (p.1, why) (unmade_event words head (g.O.Operation.feedback_of c.args.operation.now).event
    c.in-Some.path.now c.in_ok-file.file (record { file = c.paths.result.file.now; part = c.paths.result.part.now; text = c.as_str.result.now })
    c.args.host.now c.make.new.host c.in_err-make.field-0.0 given
    c.in_ok-file.ensures.path c.in_ok-file.ensures.part c.paths.ensures.file c.paths.ensures.part
    (c.as_str.ensures.value ∙ c.in_ok-file.ensures.text) c.in_ok-file.ensures.begun
    (subst (λ (dest : Option (List ℕ)). MakesEvent words (c.args.folders.store.now, dest)
    (record { file = c.paths.result.file.now; part = c.paths.result.part.now; text = c.as_str.result.now }) c.args.host.now c.make.new.host
    (Err c.in_err-make.field-0.0)) c.dest_of-dest.ensures c.in_err-make.ensures))

-- What an audit by lengths is asked for, and how it sees what is lent.
use Rattle.std.specs.Prelude.{ℕ, ◌+◌, List}
use Rattle.pt_host.specs.declared.host.HostIo.{HostIo}
use Rattle.pt_host.specs.declared.options.AuditOptions.{AuditOptions}
use Rattle.pt_name.specs.Tuples.{Tuples}
use Rattle.pt_quick.specs.Slashes.{slashes_in}
use Rattle.pt_quick.specs.SitesMeasured.{limits_seen}
use Rattle.pt_quick.specs.declared.by_lengths.ByLengths.{ByLengths}
use Rattle.pt_state.specs.declared.job.Job as own

-- how many names lead to the content folder of an object: ocfl, the tuples, the object's own, and the version's
abbrev pub root_depth : Tuples → ℕ
root_depth layout = layout.count + 4

-- a job by which no file is longer than the text of a length
abbrev pub quick_job : own.Job → own.Job
quick_job job = record job { limits = limits_seen job.limits }

-- the options of the audit that is made over what is shown
abbrev pub quick_options : AuditOptions → AuditOptions
quick_options options = record options { job = quick_job options.job }

-- a system of which the files in a folder are seen by their lengths whose paths there have more than so many names
abbrev pub seen_below : {S : Type 0} → List ℕ → ℕ → ℕ → S → ByLengths S
seen_below folder depth longest system = record { system = system; slashes = slashes_in folder + depth; longest = longest }

-- What is lent, as an audit by lengths of these options sees it, with its two folders: of the store the files below its top, and of the root those
-- that lie deeper than an object's content folder, by their lengths
abbrev pub io_seen : {S D W : Type 0} → AuditOptions → List ℕ × List ℕ → HostIo S D W → HostIo (ByLengths S) (ByLengths D) W
io_seen options folders host_io = record {
  store = seen_below folders.0 1 options.job.limits.file_bytes host_io.store;
  folder = seen_below folders.1 (root_depth options.job.layout) options.job.limits.file_bytes host_io.folder;
  output = host_io.output;
}

-- what is lent that is seen so
abbrev pub io_within : {S D W : Type 0} → HostIo (ByLengths S) (ByLengths D) W → HostIo S D W
io_within seen = record { store = seen.store.system; folder = seen.folder.system; output = seen.output }

-- What is held beside a run, for what is shown of it and recorded: these fields, and nothing else. A further field, which might grow with the run, would
-- have to stand here.
use Rattle.std.specs.Prelude.{◌≡◌}
use Rattle.pt_messages.specs.declared.counted.CountedLog.{CountedLog}
use Rattle.pt_messages.specs.declared.counted.LineCounts.{LineCounts}
use Rattle.pt_messages.specs.declared.watch.Watch.{Watch}

-- the counts of a log's lines are numbers
abbrev pub AreOnlyCounts : LineCounts → Type 0
AreOnlyCounts c = c ≡ record {
  well = c.well;
  files = c.files;
  bytes = c.bytes;
  present = c.present;
  absent = c.absent;
  extra = c.extra;
  stray = c.stray;
  differs = c.differs;
  skips = c.skips;
  told = c.told;
  differing = c.differing;
  skipped = c.skipped;
  kinds = c.kinds;
}

-- a log whose lines are counted is that log, its counts, and whether they are wanted
abbrev pub IsOnlyCounted : {L : Type 0} → CountedLog L → Type 0
IsOnlyCounted log = (log ≡ record { log = log.log; counts = log.counts; counting = log.counting }) × AreOnlyCounts log.counts

-- a watch is where it shows, what is told to it, how it shows, and one text: where the source was asked last
abbrev pub IsOnlyWatch : {R : Type 0} → Watch R → Type 0
IsOnlyWatch w = w ≡ record {
  rt = w.rt;
  tally = w.tally;
  alloc = w.alloc;
  shows = w.shows;
  sums = w.sums;
  on_terminal = w.on_terminal;
  columns = w.columns;
  period = w.period;
  expected = w.expected;
  words = w.words;
  begun = w.begun;
  due = w.due;
  at = w.at;
}

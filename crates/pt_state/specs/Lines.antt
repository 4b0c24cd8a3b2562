-- The lines of a log, as they are counted.
use Rattle.std.specs.Prelude.{◌+◌}
use Rattle.pt_plan.specs.Lines.{Line, Done, Present, Skipped, End}
use Rattle.pt_state.specs.declared.job.Report.{Report}

-- one done line more
abbrev pub with_done : Report → Report
with_done counts = record counts { done = counts.done + 1 }

-- one present line more
abbrev pub with_present : Report → Report
with_present counts = record counts { present = counts.present + 1 }

-- one skip line more
abbrev pub with_skipped : Report → Report
with_skipped counts = record counts { skipped = counts.skipped + 1 }

-- one line more of its kind; the end line isn't counted
abbrev pub with_line : Line → Report → Report
with_line (Done at bytes empty files id to) counts = with_done counts
with_line (Present at id to) counts = with_present counts
with_line (Skipped at why) counts = with_skipped counts
with_line (End done present skipped) counts = counts

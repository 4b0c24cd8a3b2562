use Rattle.std.proofs.Common.{◌∙◌, List, ap, sym, ℕ}
use Rattle.std.proofs.lemmas.List.{set_past}
use Rattle.std.specs.Option.{option_map_or}
use Rattle.std.specs.Prelude.{Option, slice_index, slice_set}
use Rattle.pt_messages.proofs.Counting.{place_is}
use Rattle.pt_messages.specs.LineCounts.{one_more}
use Rattle.pt_messages.proofs.counted.add_word.Goals as goal

abbrev counted : List ℕ → Option ℕ → List ℕ
counted counts place = option_map_or (λ at. slice_set counts at (one_more (slice_index counts at))) place counts

pub returns-in_default : goal.returns-in_default
returns-in_default c = ap (counted c.args.counts.now) (c.in_default.ensures ∙ place_is c.args.word.now c.args.words.now)

pub returns-then-at-counts : goal.returns-then-at-counts
returns-then-at-counts c =
    ap (slice_set c.args.counts.now c.in-Some.at) c.saturating_add.ensures
    ∙ ap (counted c.args.counts.now) (c.in-Some.ensures ∙ place_is c.args.word.now c.args.words.now)

pub returns-else-at-counts : goal.returns-else-at-counts
returns-else-at-counts c =
    sym (set_past c.args.counts.now c.in-Some.at (one_more (slice_index c.args.counts.now c.in-Some.at)) c.if-at-counts.false)
    ∙ ap (counted c.args.counts.now) (c.in-Some.ensures ∙ place_is c.args.word.now c.args.words.now)

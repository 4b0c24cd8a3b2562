use Rattle.std.proofs.Common.{◌∙◌, ap, rules}
use borrow.Author.Tests.{tests}
use Rattle.std.proofs.lemmas.Iterator.Adapters.{YieldsList-from_skip}
use Rattle.std.proofs.lemmas.Iterator.Search.{any_from_yields_List}
use Rattle.std.proofs.lemmas.Iterator.Splits.{YieldsList-from_slice_split}
use Rattle.std.specs.Slice.Iter.{split_rest, split_done, split_callee}
use Rattle.std.specs.Str.{bytes_eq}
use Rattle.pt_rehearsal.specs.Buckets.{is_nul}
use Rattle.pt_rehearsal.proofs.text_set.holds.Goals as goal

pub returns : goal.returns
returns c = any_from_yields_List (bytes_eq c.args.text.now) _ _ c.any.result c.any.ensures.ran
    (YieldsList-from_skip 1 (YieldsList-from_slice_split _ is_nul c.args.bucket.now (ap split_rest c.skip.ensures.source ∙ c.split.ensures.rest)
    (ap split_done c.skip.ensures.source ∙ c.split.ensures.done) (ap split_callee c.skip.ensures.source ∙ c.split.ensures.closure)
    (λ x b q k. search (rules, tests))) c.skip.ensures.count)
    (λ x b q k. search (rules, tests))

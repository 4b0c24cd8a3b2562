use Rattle.std.proofs.Common.{◌++◌, ◌∙◌, Bor, List, ap, map, rules, ℕ}
use borrow.Author.Tests.{tests}
use Rattle.std.proofs.lemmas.Iterator.{items_from_drains}
use Rattle.std.proofs.lemmas.Iterator.Adapters.{YieldsList-from_skip}
use Rattle.std.proofs.lemmas.Iterator.Consumers.{YieldsList-at}
use Rattle.std.proofs.lemmas.Iterator.Splits.{YieldsList-from_slice_split}
use Rattle.std.specs.Slice.Iter.{split_rest, split_done, split_callee}
use Rattle.pt_rehearsal.specs.Buckets.{is_nul}
use Rattle.pt_rehearsal.proofs.text_set.texts_of.Goals as goal

abbrev now : Bor (List ℕ) → List ℕ
now t = t.now

pub returns : goal.returns
returns c =
    let ran = c.in_ok-extend.ensures.ran in
    ap (map now) (ran.3.0 ∙ ap (λ old. old ++ ran.1) c.in_ok-texts.ensures.items) ∙ items_from_drains ran.1 (ran.4.1.0, ran.4.1.1, (λ _. (ran.4.0, ran.4.1.2)))
    (YieldsList-at ran.2 (YieldsList-from_skip 1 (YieldsList-from_slice_split _ is_nul c.args.bucket.now (ap split_rest c.skip.ensures.source
    ∙ c.split.ensures.rest)
    (ap split_done c.skip.ensures.source ∙ c.split.ensures.done) (ap split_callee c.skip.ensures.source ∙ c.split.ensures.closure)
    (λ x b q k. search (rules, tests))) c.skip.ensures.count))

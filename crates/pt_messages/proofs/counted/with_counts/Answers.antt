use Rattle.std.proofs.Common.{◌≡◌, ◌∙◌, ◌++◌, ◌+◌, ℕ, [], ◌∷◌, ap, length, length-append, rules, sym, take}
use Rattle.std.proofs.lemmas.Slice.Zip.{zip_end, zip_turn}
use Rattle.std.specs.Iterator.Adapters.{zip_first, zip_second}
use Rattle.std.specs.Slice.Iter.{iter_rest}
use Rattle.pt_messages.proofs.PutCounts.{pairs, put_all, put_more}
use Rattle.pt_messages.specs.Counts.{put_count, put_counts}
use Rattle.pt_messages.specs.Members.{members_of}
use Rattle.pt_messages.proofs.counted.with_counts.Goals as goal

pub loop-word-preserved : goal.loop-word-preserved
loop-word-preserved c =
    let first : iter_rest (zip_first c.into_iter-word-iterator.result) ≡ c.args.words.now = search rules in
    let second : iter_rest (zip_second c.into_iter-word-iterator.result) ≡ c.args.counts.now = search rules in
    let turn = zip_turn c.args.words.now c.args.counts.now c.loop-word.yielded c.into_iter-word-iterator.result c.loop-word.word-iterator c.next.new.self
    c.next.result first second c.loop-word.yielded_by (c.in-Some.word, c.in-Some.count) c.in-Some.is c.next.ensures.steps in
    let longer : length (c.loop-word.yielded ++ (c.in-Some.word, c.in-Some.count) ∷ []) ≡ length c.loop-word.yielded + 1 =
    length-append c.loop-word.yielded ((c.in-Some.word, c.in-Some.count) ∷ []) in
    c.in_ok-put_number.ensures ∙ ap (put_count c.in-Some.word.now.now c.in-Some.count.now) c.loop-word.invariant
    ∙ sym (put_more c.args.words.now c.args.counts.now (length c.loop-word.yielded) c.in-Some.word.now c.in-Some.count.now (members_of c.args.members)
    turn.0 turn.1 turn.2 turn.3)
    ∙ sym (ap (λ (n : ℕ). put_counts (take n (pairs c.args.words.now c.args.counts.now)) (members_of c.args.members)) longer)

pub returns : goal.returns
returns c =
    let first : iter_rest (zip_first c.into_iter-word-iterator.result) ≡ c.args.words.now = search rules in
    let second : iter_rest (zip_second c.into_iter-word-iterator.result) ≡ c.args.counts.now = search rules in
    c.loop-word.invariant ∙ ap (λ all. put_counts all (members_of c.args.members))
    (put_all c.args.words.now c.args.counts.now (length c.loop-word.yielded)
    (zip_end c.args.words.now c.args.counts.now c.loop-word.yielded c.into_iter-word-iterator.result c.loop-word.word-iterator c.next.new.self
    c.next.result first second c.loop-word.yielded_by c.in-None.is c.next.ensures.steps))

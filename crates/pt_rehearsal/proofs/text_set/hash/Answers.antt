use Rattle.std.proofs.Common.{◌∙◌, ◌%◌, ap, take_all}
use Rattle.std.specs.List.{fold}
use Rattle.pt_rehearsal.specs.Buckets.{hash_of, hash_step}
use Rattle.pt_rehearsal.proofs.text_set.hash.Goals as goal

pub returns : goal.returns
unfolding hash_of
returns c =
    ap (λ h. h % 4294967296) (c.loop-byte.invariant ∙ ap (fold hash_step 14695981039346656037)
    (take_all c.loop-byte.byte-index c.args.text.now c.loop-byte-test.false))

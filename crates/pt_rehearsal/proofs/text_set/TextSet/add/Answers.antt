use Rattle.std.proofs.Common.{◌<◌, ◌≤◌, arith, length, refl}
use Rattle.std.specs.Prelude.{Result, Ok, Err, OnErr}
use Rattle.std.proofs.lemmas.Option.{slice_get_read}
use Rattle.pt_rehearsal.specs.Buckets.{hash_of}
use Rattle.pt_rehearsal.proofs.Divided.{bucket_within, kept_held, put_held}
use Rattle.pt_rehearsal.proofs.text_set.TextSet.add.Goals as goal

on_err : {T E : Type 0} (r : Result T E) (P : Type 0) → P → OnErr r P
on_err (Ok x) P p = tt
on_err (Err e) P p = p

pub returns-clause-ok : goal.returns-clause-ok
returns-clause-ok c =
    let set = c.args.self.now in
    let old = set.buckets.items in
    let enough : set.base ≤ length old = omega (arith, set.begun, c.requires.some) in
    let within : c.bucket-bucket.result < length old = rw c.bucket-bucket.ensures
    (bucket_within set.base (length old) (hash_of c.args.text.now) set.based enough) in
    put_held set.base old _ c.args.text.now c.bucket-bucket.result c.index_mut.result.now c.append.new.bucket c.bucket-bucket.ensures within
    (slice_get_read old (length old) c.bucket-bucket.result c.index_mut.result.now refl within c.index_mut.ensures.value) refl c.in_ok-append.ensures.ok

pub returns-in_err-append-clause-err : goal.returns-in_err-append-clause-err
returns-in_err-append-clause-err c =
    let set = c.args.self.now in
    let old = set.buckets.items in
    let enough : set.base ≤ length old = omega (arith, set.begun, c.requires.some) in
    let within : c.bucket-bucket.result < length old = rw c.bucket-bucket.ensures
    (bucket_within set.base (length old) (hash_of c.args.text.now) set.based enough) in
    on_err c.from_residual.result _ (kept_held set.base old _ c.bucket-bucket.result c.index_mut.result.now c.append.new.bucket within
    (slice_get_read old (length old) c.bucket-bucket.result c.index_mut.result.now refl within c.index_mut.ensures.value) refl c.in_err-append.ensures.err)

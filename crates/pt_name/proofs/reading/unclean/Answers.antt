use Rattle.std.proofs.Common.{◌≡◌, ◌∙◌, ◌++◌, Some, ap, sym, option_map, List, ℕ, length}
use Rattle.pt_name.specs.Reading.{reading_of}
use Rattle.pt_name.proofs.Readings.{Reads_from_reading, one_more, nothing_read, all_read}
use Rattle.std.proofs.lemmas.Bool.{eqb-true}
use Rattle.pt_name.proofs.reading.unclean.Goals as goal

pub loop-rest-preserved : goal.loop-rest-preserved
loop-rest-preserved c =
    let start = c.loop-rest.bytes.items in
    ap (λ (xs : List ℕ). option_map (λ ys. xs ++ ys) (reading_of c.in-Some.after.now)) c.in_ok-push.ensures.items
    ∙ one_more start c.in-Some.byte (reading_of c.in-Some.after.now)
    ∙ sym (ap (option_map (λ ys. start ++ ys)) c.in-Some.ensures.reading) ∙ c.loop-rest.invariant

pub returns-in_default-clause-refused : goal.returns-in_default-clause-refused
returns-in_default-clause-refused c =
    nothing_read c.args.text.now (sym c.loop-rest.invariant ∙ ap (option_map (λ ys. c.loop-rest.bytes.items ++ ys)) c.in_default.ensures.reading)

pub returns-in-Ok-clause-reads : goal.returns-in-Ok-clause-reads
returns-in-Ok-clause-reads c =
    let none : length c.loop-rest.rest.now ≡ 0 = eqb-true (length c.loop-rest.rest.now) 0 (sym c.is_empty.ensures ∙ c.loop-rest-test.false) in
    let read = all_read c.args.text.now c.loop-rest.bytes.items c.loop-rest.rest.now c.loop-rest.invariant none in
    Reads_from_reading c.args.text.now _ (read ∙ ap (λ v. Some v.items) (sym c.in-Ok.ensures.ok))

pub returns-clause-refused : goal.returns-clause-refused
returns-clause-refused c =
    let none : length c.loop-rest.rest.now ≡ 0 = eqb-true (length c.loop-rest.rest.now) 0 (sym c.is_empty.ensures ∙ c.loop-rest-test.false) in
    let read = all_read c.args.text.now c.loop-rest.bytes.items c.loop-rest.rest.now c.loop-rest.invariant none in
    (c.loop-rest.bytes.items, Reads_from_reading c.args.text.now c.loop-rest.bytes.items read, λ text. let good = c.in-Err.ensures.succeeds text in cc good)

pub returns-in_default-clause-exact : goal.returns-in_default-clause-exact
returns-in_default-clause-exact c = sym c.loop-rest.invariant ∙ ap (option_map (λ ys. c.loop-rest.bytes.items ++ ys)) c.in_default.ensures.reading

pub returns-in-Ok-clause-exact : goal.returns-in-Ok-clause-exact
returns-in-Ok-clause-exact c =
    let none : length c.loop-rest.rest.now ≡ 0 = eqb-true (length c.loop-rest.rest.now) 0 (sym c.is_empty.ensures ∙ c.loop-rest-test.false) in
    all_read c.args.text.now c.loop-rest.bytes.items c.loop-rest.rest.now c.loop-rest.invariant none ∙ ap (λ v. Some v.items) (sym c.in-Ok.ensures.ok)

pub returns-clause-exact : goal.returns-clause-exact
returns-clause-exact c =
    let none : length c.loop-rest.rest.now ≡ 0 = eqb-true (length c.loop-rest.rest.now) 0 (sym c.is_empty.ensures ∙ c.loop-rest-test.false) in
    let read = all_read c.args.text.now c.loop-rest.bytes.items c.loop-rest.rest.now c.loop-rest.invariant none in
    (c.loop-rest.bytes.items, read, λ text. let good = c.in-Err.ensures.succeeds text in cc good)

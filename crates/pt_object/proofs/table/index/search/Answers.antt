use Rattle.std.proofs.Common.{◌<◌, ◌^◌, ℕ, List, length, get_or, sym, ◌∙◌, ap, arith, refl}
use Rattle.std.proofs.lemmas.List.{get_or-map}
use Rattle.pt_object.specs.Keys.{key_of}
use Rattle.pt_object.specs.declared.table.contents.Content.{Content}
use Rattle.pt_object.proofs.Halving.{halved_low, halved_high, halved_count, halved_place}
use Rattle.pt_object.proofs.Indexed.{compared, compared_in, in_index, at_from_equal, is_noted-at, missing}
use Rattle.pt_object.proofs.table.index.search.Goals as goal

pub get-position-requires : goal.get-position-requires
get-position-requires c = omega (arith, c.halving.invariant.within)

pub compare-requires-clause-a : goal.compare-requires-clause-a
compare-requires-clause-a c =
    let within = in_index _ _ _ _ c.requires.index c.get-position.ensures (omega (arith, c.halving.invariant.within)) in
    ap (λ (keys : List ℕ). get_or keys c.get-position.result 0) c.requires.keys ∙ get_or-map (λ (item : Content). key_of item.digest) _ _ _ 0 within

pub compare-requires-clause-fits : goal.compare-requires-clause-fits
compare-requires-clause-fits c =
    let fits : length c.args.index.now < 2 ^ 64 = omega (arith, c.requires.index.as_long) in
    omega (arith, halved_count _ _ _ _ _ _ 64 c.halving.invariant c.halving-test.true fits)

pub halving-preserved-in-Less : goal.halving-preserved-in-Less
halving-preserved-in-Less c =
    rw c.compare.ensures.counted (halved_low _ _ _ _ _ _ _ c.requires.index c.halving.invariant c.halving-test.true refl
    (compared_in _ _ _ _ _ _ _ c.requires.index (omega (arith, c.halving.invariant.within)) c.get-position.ensures c.compare.ensures.order ∙ c.in-Less.is))

pub returns-in-Equal-clause-found : goal.returns-in-Equal-clause-found
returns-in-Equal-clause-found c =
    let within = in_index _ _ _ _ c.requires.index c.get-position.ensures (omega (arith, c.halving.invariant.within)) in
    at_from_equal _ _ _ within (compared _ _ _ _ _ within c.compare.ensures.order ∙ c.in-Equal.is)

pub returns-in-Equal-clause-known : goal.returns-in-Equal-clause-known
returns-in-Equal-clause-known c =
    let within = in_index _ _ _ _ c.requires.index c.get-position.ensures (omega (arith, c.halving.invariant.within)) in
    sym (is_noted-at _ _ _ _ c.requires.index (at_from_equal _ _ _ within (compared _ _ _ _ _ within c.compare.ensures.order ∙ c.in-Equal.is)))

pub returns-clause-known : goal.returns-clause-known
returns-clause-known c = sym (missing _ _ _ _ c.requires.index (halved_place _ _ _ _ _ _ c.halving.invariant c.halving-test.false)).1

pub halving-preserved : goal.halving-preserved
halving-preserved c =
    rw c.compare.ensures.counted (halved_high _ _ _ _ _ _ _ c.requires.index c.halving.invariant c.halving-test.true refl
    (compared_in _ _ _ _ _ _ _ c.requires.index (omega (arith, c.halving.invariant.within)) c.get-position.ensures c.compare.ensures.order ∙ c.in-Greater.is))

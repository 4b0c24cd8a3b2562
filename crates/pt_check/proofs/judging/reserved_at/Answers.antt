use Rattle.std.proofs.Common.{arith, ap, sym, false, drop, length, ◌<◌, ◌==◌, ◌++◌, ◌≡◌, ◌∙◌}
use Rattle.std.proofs.lemmas.Bool.{eqb-false}
use Rattle.std.proofs.lemmas.Result.{IfOk-weaker}
use Rattle.pt_check.specs.Visits.{reserved_by}
use Rattle.pt_name.specs.Identifying.{identification_of}
use Rattle.pt_name.specs.Share.{whole}
use Rattle.pt_tree.specs.Path.{Path}
use Rattle.pt_check.proofs.NamesRead.{place_told}
use Rattle.pt_check.proofs.judging.reserved_at.Goals as goal

pub returns : goal.returns
returns c =
    let names : Path = drop 1 c.args.path.now in
    let read : c.in_ok-below.below ≡ names = c.in_ok-below.ensures ∙ ap (λ (p : Path). p ++ c.names_below-names.result.now) c.new.ensures
    ∙ c.names_below-names.ensures in
    let full : (length names == 0) ≡ false = sym (c.if-is_empty.ensures ∙ ap (λ (p : Path). length p == 0) c.names_below-names.ensures) in
    let apart = eqb-false (length names) 0 full in
    let some : 0 < length names = omega (arith, apart) in
    let told = ap (λ (p : Path). reserved_by (identification_of c.args.layout whole c.args.prefix.now p)) read
    ∙ place_told c.args.layout c.args.prefix.now names some in
    IfOk-weaker c.reserved_below.result _ _ (λ trouble is. is ∙ told) c.reserved_below.ensures

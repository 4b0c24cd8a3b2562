use Rattle.std.proofs.Common.{◌+◌, ◌-◌, ◌≤◌, drop, length, ◌∙◌, subst, arith}
use Rattle.std.proofs.lemmas.List.{length-drop, length-take-le}
use Rattle.std.proofs.lemmas.Slice.{drop-put_mid}
use Rattle.std.specs.Str.{IsUtf8}
use Rattle.pt_extra.proofs.strings.put_char.Goals as goal

pub returns-clause-utf8 : goal.returns-clause-utf8
returns-clause-utf8 c = subst IsUtf8 c.encode_utf8-encoded.ensures.value c.encode_utf8-encoded.utf8

pub returns-clause-rest : goal.returns-clause-rest
returns-clause-rest c =
    let d = c.args.bytes.now in
    let at = c.args.at in
    let n = length c.encode_utf8-encoded.result.now in
    let k = at + n - at in
    let fits : at + n ≤ length d = omega (arith, c.encode_utf8-encoded.ensures.len, c.requires) in
    let long = length-take-le k (drop at d) (omega (arith, length-drop at d, fits)) in
    drop-put_mid at k d c.copy_from_slice.new.self (at + n) (omega arith) (omega (arith, fits)) (c.copy_from_slice.ensures.len ∙ long)

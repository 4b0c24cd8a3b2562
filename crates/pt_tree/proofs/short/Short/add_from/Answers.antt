use Rattle.std.proofs.Common.{◌≡◌, ◌+◌, ◌++◌, ◌-◌, ◌≤◌, drop, length, take, arith, rules, ◌∙◌, ap, length-append}
use Rattle.std.proofs.Math.Seq.{take-append-add}
use Rattle.std.proofs.lemmas.List.{length-drop, take_all}
use Rattle.pt_tree.proofs.short.Short.add_from.Goals as goal

pub returns : goal.returns
returns c =
    let old = c.args.text.now.items in
    let bytes = c.args.self.now.bytes in
    let start = c.args.start in
    let held = c.args.self.now.len in
    let added = drop start bytes in
    let size : length bytes ≡ 22 = search rules in
    let within : held ≤ 21 = search rules in
    let tail : length added ≡ 22 - start = omega (arith, length-drop start bytes, size) in
    let items : c.extend_from_slice.new.self.items ≡ old ++ added =
    c.in_ok-extend_from_slice.ensures.items ∙ ap (λ l. old ++ l) (take_all (22 - start) added (omega (arith, tail))) in
    let long : c.len.result ≡ length c.extend_from_slice.new.self.items = search rules in
    let place : c.len.result - (21 - held) ≡ length old + (1 + held - start) =
    omega (arith, long, ap length items, length-append old added, tail, within, c.requires) in
    c.truncate.ensures.items ∙ ap (λ n. take n c.extend_from_slice.new.self.items) place ∙ ap (λ l. take (length old + (1 + held - start)) l) items
    ∙ take-append-add old added (1 + held - start)

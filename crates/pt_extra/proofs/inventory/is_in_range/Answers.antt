use Rattle.std.proofs.Common.{◌≡◌, drop, get_or, true, false, ◌==◌, sym, ap, ◌∙◌, arith, is_some, take_all, length-drop}
use Rattle.fast_float.specs.Text.{Parts, scan}
use Rattle.serde_json.specs.Read.{number_of, number_from}
use Rattle.pt_extra.proofs.inventory.is_in_range.Goals as goal

pub returns-then-begins_with_minus : goal.returns-then-begins_with_minus
unfolding number_of
returns-then-begins_with_minus c =
    let s = c.args.text.now in
    let signed : (get_or s 0 0 == 45) ≡ true = sym c.if-begins_with_minus.ensures.value in
    let parts : c.scan.result ≡ scan (drop 1 s) = c.scan.ensures.parts ∙ ap scan (take_all _ (drop 1 s) (omega (arith, length-drop 1 s))) in
    let read : number_from true (scan (drop 1 s)) ≡ number_of s = rw signed in
    c.fits.ensures ∙ ap (λ (p : Parts). is_some (number_from true p)) parts ∙ ap is_some read

pub returns-else-begins_with_minus : goal.returns-else-begins_with_minus
unfolding number_of
returns-else-begins_with_minus c =
    let s = c.args.text.now in
    let unsigned : (get_or s 0 0 == 45) ≡ false = sym c.if-begins_with_minus.ensures.value in
    let read : number_from false (scan s) ≡ number_of s = rw unsigned in
    c.fits-else-begins_with_minus.ensures ∙ ap (λ (p : Parts). is_some (number_from false p)) c.scan-else-begins_with_minus.ensures.parts
    ∙ ap is_some read
